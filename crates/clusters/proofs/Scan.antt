-- The scan of a row, step by step: over samples that are not to be found, and over a new cluster. Assumes nothing.
use mathlib.Core.Path.{◌≡◌, refl, sym, ap, subst}
use mathlib.Core.Logic.{◌⊎◌, inl, inr}
use mathlib.Core.Bool.{true, false}
use mathlib.Core.List.{List}
use Prim.Native.Nat.{ℕ, ◌+◌, ◌-◌, ◌*◌, ◌≤◌, ◌<◌}
use native.Mathlib.Nat.{mul-le-mul_right, add-mul, mul_comm, one-mul, zero-mul}
use native.Mathlib.Decide.{dec_lt, ℕ_discrete}
use native.Mathlib.Numerals.{add-one}
use native.Mathlib.Omega.{arith}
use lib.Ieee.{Float, lt}
use Rattle.lists.proofs.Grid.{next_row}
use Rattle.refusals.specs.declared.Shape.{Shape}
use Rattle.clusters.specs.declared.Row.{Row}
use Rattle.clusters.specs.Connected.{below}
use Rattle.clusters.specs.Clusters.{border, max_f32, row_of, Found, found_before}
use Rattle.clusters.specs.Walk.{erased, NoneBelow, put, Onward}
use Rattle.clusters.proofs.Border.{top_row, bottom_row, left_column, right_column, off_border}
use Rattle.clusters.proofs.Found.{found_none, found_skip, found_new}

-- a row that is not the last has another after it
pub two_rows : (w h r : ℕ) → r + 1 < h → r * w + w + w ≤ w * h
two_rows w h r l = let m : r + 2 ≤ h = omega arith in omega (arith, mul-le-mul_right w m, add-mul r 2 w, mul_comm w h)

pub Onward-trans : {t : Float} {shape : Shape} {a b c : ℕ} {f g e : Found} → Onward t shape a f b g → Onward t shape b g c e → Onward t shape a f c e
Onward-trans x y = record { onward = λ plane rows h. y.onward plane rows (x.onward plane rows h) }

module _ (t : Float) (shape : Shape) (pos : 0 < shape.width) (big : lt max_f32 t ≡ false) where
  abbrev w : ℕ
  w = shape.width

  abbrev h : ℕ
  h = shape.height

  pub Onward-skip : (f : Found) (a b : ℕ) → a ≤ b → ((i : ℕ) → a ≤ i → i < b → (border w h i ≡ true) ⊎ (below t f.plane i ≡ false)) → Onward t shape a f b f
  Onward-skip f a b l n = record {
    onward = λ plane rows e.
        let q : a + (b - a) ≡ b = omega arith in
        subst (λ (k : ℕ). f ≡ found_before t w h plane rows k) q (found_skip t w h pos plane big rows f a (b - a) e (λ i x y. n i x (omega arith)));
  }

  pub Onward-new : (f : Found) (k : ℕ) → border w h k ≡ false → below t f.plane k ≡ true
      → (p : List Float) (rs : List ℕ) (row : Row) → p ≡ erased t w f.plane k → row ≡ row_of t w f.plane k → rs ≡ put f.rows f.total row
      → Onward t shape k f (k + 1) (record { plane = p; rows = rs; total = f.total + 1 })
  Onward-new f k b l p rs row ep er es = record {
    onward = λ plane rows e.
        subst (λ (n : ℕ). record { plane = p; rows = rs; total = f.total + 1 } ≡ found_before t w h plane rows n) (sym (add-one k))
        (found_new t w h pos plane big rows f k e b l p rs row ep er es);
  }

  -- ---- a row between the first and the last

  module _ (r : ℕ) (above : 0 < r) (under : r + 1 < h) where
    abbrev start : ℕ
    start = r * w

    abbrev end : ℕ
    end = start + w - 1

    -- over the row's first place, which is on the border
    pub row_begins : (f : Found) → Onward t shape start f (start + 1) f
    row_begins f = Onward-skip f start (start + 1) (omega arith) (λ j x y. inl (left_column w h r 0 j (omega arith) pos refl))

    -- to the next sample to find, and over its cluster
    module _ (f : Found) (a i : ℕ) (onward : a ≤ i) (none : NoneBelow t f.plane a i) (off : start < i) (in_row : i < end) (low : below t f.plane i ≡ true)
        (p : List Float) (rs : List ℕ) (n : ℕ) (row : Row) (ep : p ≡ erased t w f.plane i) (er : row ≡ row_of t w f.plane i) (es : rs ≡ put f.rows f.total row) (en : n ≡ f.total + 1) where
      pub row_goes_on : Onward t shape a f (i + 1) (record { plane = p; rows = rs; total = n })
      row_goes_on = subst (λ (m : ℕ). Onward t shape a f (i + 1) (record { plane = p; rows = rs; total = m })) (sym en) (Onward-trans
          (Onward-skip f a i onward (λ k x y. inr (none k x y)))
          (Onward-new f i (off_border w h r (i - start) i (omega arith) (omega arith) above under (omega arith) (omega arith)) low p rs row ep er es))

    -- to the next row's start
    pub row_ends : (f : Found) (a : ℕ) → a ≤ start + w → NoneBelow t f.plane a end → Onward t shape a f ((r + 1) * w) f
    row_ends f a l none = Onward-skip f a ((r + 1) * w) (omega (arith, next_row w r)) (λ j x y. elim (dec_lt j end) [
      | yes m ↦ inr (none j x m)
      | no m ↦ inl (right_column w h r (w - 1) j (omega (arith, next_row w r)) (omega arith) (omega arith))
    ])

  -- ---- the first and the last row

  -- no cluster has a seed in the first row
  pub scan_begins : (plane : List Float) (rows : List ℕ) → record { plane = plane; rows = rows; total = 0 } ≡ found_before t w h plane rows (1 * w)
  scan_begins plane rows =
      (Onward-skip (record { plane = plane; rows = rows; total = 0 }) 0 (1 * w) (omega arith)
      (λ i x y. inl (top_row w h 0 i i (omega (arith, zero-mul w)) (omega (arith, one-mul w)) refl))).onward plane rows
      (found_none t w h pos plane big rows)

  -- nor in the last
  pub scan_ends : (f : Found) (r : ℕ) → r ≤ h → h ≤ r + 1 → Onward t shape (r * w) f (w * h) f
  scan_ends f r l m =
      Onward-skip f (r * w) (w * h) (omega (arith, mul-le-mul_right w l, mul_comm w h)) (λ i x y.
      let e : r + 1 ≡ h = elim (ℕ_discrete r h) [ yes q ↦ absurd (omega (arith, ap (λ (k : ℕ). k * w) q, mul_comm w h)) | no q ↦ omega (arith, q) ] in
      inl (bottom_row w h r (i - r * w) i (omega arith) (omega (arith, next_row w r, ap (λ (k : ℕ). k * w) e, mul_comm w h)) e))
