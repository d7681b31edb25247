-- The word so far is that of the levels so far.
use Rattle.std.proofs.Common.{◌≡◌, ℕ, refl, ap, ◌∙◌, length, get_or, arith}
use Rattle.word.specs.Word.{word}
use Rattle.levels.specs.Levels.{word_of, above}
use Rattle.levels.proofs.Loops.{first_word, word_fits, word_more, byte_one, above-lt}
use Rattle.levels.proofs.word_of.Goals as goal

pub loop-level-init : goal.loop-level-init
unfolding word
loop-level-init c = refl

pub overflow_mul-bits : goal.overflow_mul-bits
overflow_mul-bits c =
    let a = c.args in
    omega (arith, word_fits a.middle a.levels.now c.loop-level.level-index c.loop-level.bits (omega arith) c.loop-level.invariant)

pub overflow_add-bits : goal.overflow_add-bits
overflow_add-bits c =
    let a = c.args in
    let bit : c.from.result ≡ above a.middle (get_or a.levels.now c.loop-level.level-index 0) = c.from.ensures ∙ byte_one _ in
    omega (arith, word_fits a.middle a.levels.now c.loop-level.level-index c.loop-level.bits (omega arith) c.loop-level.invariant, bit, above-lt a.middle (get_or a.levels.now c.loop-level.level-index 0))

pub loop-level-preserved : goal.loop-level-preserved
loop-level-preserved c =
    let a = c.args in
    word_more a.middle a.levels.now c.loop-level.level-index c.loop-level.bits c.from.result (c.from.ensures ∙ byte_one _) c.loop-level.invariant

pub returns : goal.returns
unfolding word_of
returns c =
    let a = c.args in
    let all : c.loop-level.level-index ≡ length a.levels.now = omega arith in
    c.loop-level.invariant ∙ ap (λ (x : ℕ). first_word a.middle a.levels.now x) all
