-- Each answer is the case of the definition that the tests on the way lead to.
use mathlib.Core.Path.{◌≡◌, sym, ap, ap₂, ◌∙◌}
use Prim.Native.Nat.{ℕ, ◌+◌, ◌-◌, ◌/◌, ◌≤◌}
use native.Mathlib.Omega.{arith}
use Rattle.refusals.specs.Outcome.{accepted}
use Rattle.levels.specs.Levels.{least_of, greatest_of, middle_of, word_of, unsure_of}
use Rattle.levels.proofs.Cases.{code_flat, code_unsure, code_word}
use Rattle.levels.proofs.bit_code.Goals.{After-middle-middle}
use Rattle.levels.proofs.bit_code.Goals as goal

pub returns-then-contrast-lt50 : goal.returns-then-contrast-lt50
returns-then-contrast-lt50 c =
    let a = c.args in
    sym (code_flat a.levels.now a.band a.allowed (omega arith))

wide : (c : After-middle-middle) → 50 ≤ greatest_of c.args.levels.now - least_of c.args.levels.now
wide c = omega arith

middle : (c : After-middle-middle) → c.middle-middle.result ≡ middle_of c.args.levels.now
middle c =
    let range = c.range_of-range.ensures in
    c.middle-middle.ensures ∙ ap₂ (λ (least greatest : ℕ). (least + greatest + 1) / 2) range.least range.greatest

pub returns-then-allowed-unsure_levels : goal.returns-then-allowed-unsure_levels
returns-then-allowed-unsure_levels c =
    let a = c.args in
    let n = c.unsure_levels.ensures ∙ ap (λ (x : ℕ). unsure_of x a.band c.args.levels.now) (middle (goal.at.returns-then-allowed-unsure_levels c).After-middle-middle) in
    sym (code_unsure c.args.levels.now a.band a.allowed (wide (goal.at.returns-then-allowed-unsure_levels c).After-middle-middle) (omega arith))

pub returns : goal.returns
returns c =
    let a = c.args in
    let n = c.unsure_levels.ensures ∙ ap (λ (x : ℕ). unsure_of x a.band c.args.levels.now) (middle (goal.at.returns c).After-middle-middle) in
    ap (λ (x : ℕ). accepted x) (c.word_of.ensures ∙ ap (λ (x : ℕ). word_of x c.args.levels.now) (middle (goal.at.returns c).After-middle-middle))
    ∙ sym (code_word c.args.levels.now a.band a.allowed (wide (goal.at.returns c).After-middle-middle) (omega arith))
