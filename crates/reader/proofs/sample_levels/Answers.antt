-- After row i and column j of the square, the first i * edge + j samples lie in the picture and are written.
use Rattle.std.proofs.Common.{◌≡◌, ℕ, ◌+◌, ◌*◌, List, refl, sym, ap, ◌∙◌, false, Option, Some, None, Result, Ok, Err, arith}
use Rattle.std.specs.Prelude.{is_ok, IsErrAnd}
use Rattle.std.specs.Option.{ok_or}
use Rattle.refusals.specs.declared.refusal.Refusal.{Refusal}
use Rattle.refusals.specs.declared.refusal.Refusal.TheVariants.{SampleOutside}
use Rattle.reader.proofs.Samples.{place_in, SoFar-none, SoFar-more, some_outside, all_inside, all_sampled}
use Rattle.reader.proofs.sample_levels.Goals as goal

-- what `?` lets through, and what it passes on
there : (sample : Option ℕ) (level : ℕ) → ok_or sample SampleOutside ≡ Ok level → Some level ≡ sample
there (Some x) level e = cc
there None level e = cc

missing : (sample : Option ℕ) (refusal : Refusal) → ok_or sample SampleOutside ≡ Err refusal → None ≡ sample
missing (Some x) refusal e = cc
missing None refusal e = refl

passed : (r : Result (List ℕ) Refusal) (e : Refusal) → IsErrAnd r (λ x. x ≡ e) → is_ok r ≡ false
passed (Err x) e h = refl
passed (Ok x) e h = absurd h

pub loop-i-init : goal.loop-i-init
loop-i-init c =
    let a = c.args in
    SoFar-none a.picture.now.bytes.now a.picture.now.frame a.family a.axes _ _ (omega arith) refl

pub loop-j-preserved : goal.loop-j-preserved
loop-j-preserved c =
    let a = c.args in
    let e = there c.sample_at-sample.result c.in_ok-levels.field-0 (sym c.ok_or.ensures.value ∙ c.in_ok-levels.was) in
    SoFar-more a.picture.now.bytes.now a.picture.now.frame a.family a.axes (c.loop-i.i * a.family.edge + c.loop-j.j) _ c.in_ok-levels.field-0 c.loop-j.levels (omega arith)
    (place_in a.family.edge c.loop-i.i c.loop-j.j (omega arith) (omega arith) (omega arith)).1 (e ∙ c.sample_at-sample.ensures) c.loop-j.invariant

pub returns-in_err-levels-clause-inside : goal.returns-in_err-levels-clause-inside
returns-in_err-levels-clause-inside c =
    let a = c.args in
    let p = a.picture.now in
    let e = missing c.sample_at-sample.result c.in_err-levels.field-0.0 (sym c.ok_or.ensures.value ∙ c.in_err-levels.was) in
    passed c.from_residual.result c.in_err-levels.field-0.0 c.from_residual.ensures.1
    ∙ some_outside p.bytes.now p.frame a.family a.axes _ (place_in a.family.edge c.loop-i.i c.loop-j.j (omega arith) (omega arith) (omega arith)).0 (e ∙ c.sample_at-sample.ensures)

pub returns-clause-inside : goal.returns-clause-inside
returns-clause-inside c =
    let a = c.args in
    let i : c.loop-i.i ≡ a.family.edge = omega arith in
    all_inside a.picture.now.bytes.now a.picture.now.frame a.family a.axes _ c.loop-i.levels (ap (λ (n : ℕ). n * a.family.edge) i) c.loop-i.invariant

pub returns-clause-sampled : goal.returns-clause-sampled
returns-clause-sampled c =
    let a = c.args in
    let i : c.loop-i.i ≡ a.family.edge = omega arith in
    all_sampled a.picture.now.bytes.now a.picture.now.frame a.family a.axes _ c.loop-i.levels (ap (λ (n : ℕ). n * a.family.edge) i) c.loop-i.invariant
