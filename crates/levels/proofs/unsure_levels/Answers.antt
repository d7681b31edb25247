-- The count so far is that of the levels so far, at most one for each.
use Rattle.std.proofs.Common.{◌≡◌, refl, ap, ap₂, sym, ◌∙◌, length, get_or, arith, ℕ, ◌+◌}
use native.Mathlib.Nat.{add_comm}
use native.Mathlib.Numerals.{add-one}
use lib.Dec.{ltb}
use Rattle.lists.specs.Sum.{sum, one_if}
use Rattle.levels.specs.Levels.{unsure, unsure_of}
use Rattle.levels.proofs.Loops.{first_unsure, unsure-le, unsure-lt, unsure_more, byte_one}
use Rattle.levels.proofs.unsure_levels.Goals as goal

pub loop-level-init : goal.loop-level-init
unfolding sum
loop-level-init c = refl

pub overflow_add-unsure : goal.overflow_add-unsure
overflow_add-unsure c =
    let a = c.args in
    let one : c.from-unsure.result ≡ unsure a.middle a.band (get_or a.levels.now c.loop-level.level-index 0) = c.from-unsure.ensures ∙ byte_one _ ∙ ap (λ (x : ℕ). one_if (ltb x a.band)) c.abs_diff.ensures in
    omega (arith, c.loop-level.invariant, unsure-le a.middle a.band a.levels.now c.loop-level.level-index, one, unsure-lt a.middle a.band (get_or a.levels.now c.loop-level.level-index 0))

pub loop-level-preserved : goal.loop-level-preserved
loop-level-preserved c =
    let a = c.args in
    unsure_more a.middle a.band a.levels.now c.loop-level.level-index c.loop-level.unsure c.from-unsure.result (c.from-unsure.ensures ∙ byte_one _ ∙ ap (λ (x : ℕ). one_if (ltb x a.band)) c.abs_diff.ensures) c.loop-level.invariant

pub returns : goal.returns
unfolding unsure_of
returns c =
    let a = c.args in
    let all : c.loop-level.level-index ≡ length a.levels.now = omega arith in
    c.loop-level.invariant ∙ ap (λ (x : ℕ). first_unsure a.middle a.band a.levels.now x) all
