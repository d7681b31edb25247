-- Each turn is one turn more than the last. Assumes nothing.
use mathlib.Core.Path.{ap, ◌∙◌}
use mathlib.Core.List.{[], ◌∷◌}
use Rattle.word.specs.Word.{turn, turns}
use Rattle.likeness.proofs.four_turns.Goals as goal

pub returns : goal.returns
unfolding turns
returns c =
    let e = c.args.edge in
    let one = c.rotate_bits-once.ensures in
    let two = c.rotate_bits-twice.ensures ∙ ap (turn e) one in
    let three = c.rotate_bits.ensures ∙ ap (turn e) two in
    λ i. c.args.code ∷ one i ∷ two i ∷ three i ∷ []
