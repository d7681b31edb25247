-- The loop keeps: the first row and the pairs so far are written. With the row that is left over, if there is one, the rows before the last are.
use Rattle.std.proofs.Common.{rules, ◌≡◌, refl, sym, ap, ◌∙◌, subst, List, ℕ, ◌+◌, ◌-◌, ◌*◌, ◌≤◌, ◌<◌, length, take, drop, arith}
use native.Mathlib.Nat.{le_refl, sub-zero, mul_comm, mul-le-mul_right}
use lib.Ieee.{Float}
use lib.Seq.{length-take-le}
use Rattle.lists.specs.Tab.{tabulate}
use Rattle.lists.proofs.Grid.{next_row}
use Rattle.lists.proofs.Part.{part_length, back}
use Rattle.lists.proofs.Rows.{Filled, Filled-part, Filled-all, rows_first, rows_up_to, row_fits}
use Rattle.samples.specs.Samples.{zero_f}
use Rattle.samples.proofs.Laws.{zeros}
use Rattle.response.specs.Response.{response_at, response}
use Rattle.response.proofs.Border.{first_end, last_end, border_row}
use Rattle.response.proofs.Pairs.{two_rows}
use Rattle.response.proofs.hessian_response.Goals.{After-fill-2, else-inner-eq1, then-inner-eq1}
use Rattle.response.proofs.hessian_response.Goals as goal

pub loop-pair-init : goal.loop-pair-init
loop-pair-init c =
    let a = c.args in
    let p = a.img.now in
    let w = p.shape.width in
    let h = p.shape.height in
    let some = c.requires.0 in
    let long : length a.out.now ≡ w * h = c.requires.1 ∙ p.whole in
    let n : length (take (w - 0) a.out.now) ≡ w = length-take-le (w - 0) a.out.now (omega (arith, row_fits w h 0 some, long)) ∙ sub-zero w in
    rows_first (response_at p.samples.now w h) w h a.out.now c.fill.new.self some
    (c.fill.ensures.after (λ y e. search rules) ∙ zeros _ _ ∙ ap (λ (k : ℕ). tabulate k (λ x. zero_f)) n ∙ border_row p.samples.now w h 0 (first_end h 0 refl))
    long

pub loop-pair-preserved : goal.loop-pair-preserved
loop-pair-preserved c =
    let p = c.args.img.now in
    let w = p.shape.width in
    let h = p.shape.height in
    let l = c.loop-pair in
    let y = 2 * l.pair + 1 in
    let f = response_at p.samples.now w h in
    let e : y + 2 ≡ 2 * (l.pair + 1) + 1 = omega arith in
    subst (λ (z : ℕ). Filled f (w * h) (z * w) (back l.out (y * w) ((y + 2) * w - y * w) c.inner_pair.new.pair)) e
    (rows_up_to f w h y (y + 2) (w + w) ((y + 2) * w) l.out c.inner_pair.new.pair (omega (arith, c.loop-pair-test.true, c.saturating_sub-inner.ensures)) (omega (arith, two_rows w y)) refl c.inner_pair.ensures l.invariant)

-- the rows before the last are written
up_to : (c : After-fill-2) → let p = c.args.img.now in let w = p.shape.width in
    (z : ℕ) × (p.shape.height - 1 ≤ z) × Filled (response_at p.samples.now w p.shape.height) (w * p.shape.height) (z * w) c.if-inner-eq1.out
up_to c =
    let p = c.args.img.now in
    let w = p.shape.width in
    let h = p.shape.height in
    let l = c.loop-pair in
    let f = response_at p.samples.now w h in
    let inner = c.saturating_sub-inner.result in
    elim c.if-inner-eq1.branch [
      | else-inner-eq1 t ↦ (2 * l.pair + 1, omega (arith, c.loop-pair-test.false), subst (λ (out : List Float). Filled f (w * h) ((2 * l.pair + 1) * w) out) (sym t.out-is) l.invariant)
      | then-inner-eq1 t ↦
          let odd : 2 * l.pair + 1 ≡ inner = omega (arith, c.loop-pair-test.false, c.loop-pair.auto.pair-end, t.if-inner-eq1.true) in
          let after : h - 1 ≡ inner + 1 = omega (arith, c.saturating_sub-inner.ensures, t.if-inner-eq1.true) in (
            h - 1,
            le_refl (h - 1),
            subst (λ (out : List Float). Filled f (w * h) ((h - 1) * w) out) (sym t.out-is)
                (rows_up_to f w h inner (h - 1) w ((h - 1) * w) l.out t.inner_row.new.row (omega arith) (ap (λ (k : ℕ). k * w) after ∙ sym (next_row w inner)) refl t.inner_row.ensures
                (subst (λ (z : ℕ). Filled f (w * h) (z * w) l.out) odd l.invariant)),
          )
    ]

-- with the last row all are written
module _ (img : List Float) (w h : ℕ) (out last : List Float) (z : ℕ) (some : 0 < h) (up : h - 1 ≤ z) (r : Filled (response_at img w h) (w * h) (z * w) out)
    (is : last ≡ tabulate (length (take (length out - (h - 1) * w) (drop ((h - 1) * w) out))) (λ x. zero_f)) where
  after : h - 1 + 1 ≡ h
  after = omega (arith, some)

  long : length out ≡ (h - 1) * w + w
  long = omega (arith, r.whole, next_row w (h - 1), ap (λ (k : ℕ). k * w) after, mul_comm w h)

  all_rows : back out ((h - 1) * w) (length out - (h - 1) * w) last ≡ response img w h
  all_rows =
      let wide = part_length out ((h - 1) * w) (length out) w (le_refl (length out)) long in
      Filled-all (response_at img w h) (w * h) (length out) _ (omega (arith, r.whole))
      (Filled-part (response_at img w h) (w * h) (z * w) ((h - 1) * w) (length out) w out last (mul-le-mul_right w up) (omega (arith, r.whole)) long
      (is ∙ ap (λ (k : ℕ). tabulate k (λ x. zero_f)) wide ∙ border_row img w h (h - 1) (last_end h (h - 1) after)) r)

pub returns : goal.returns
returns c =
    let p = c.args.img.now in
    let u = up_to (goal.at.returns c).After-fill-2 in
    all_rows p.samples.now p.shape.width p.shape.height c.if-inner-eq1.out c.fill-2.new.self u.0 c.requires.0 u.1 u.2 (c.fill-2.ensures.after (λ y e. search rules) ∙ zeros _ _)
