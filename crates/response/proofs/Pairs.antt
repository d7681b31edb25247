-- Two rows that are written side by side, and what they make of a plane. A loop that writes place x of both keeps `Pair`:
-- `Pair-none`, `Pair-more`, `Pair-all`. Assumes nothing.
use mathlib.Core.Path.{◌≡◌, refl, sym, ap, ap₂, ◌∙◌}
use mathlib.Core.List.{List, ◌++◌}
use Prim.Native.Nat.{ℕ, ◌+◌, ◌-◌, ◌*◌, ◌≤◌, ◌<◌}
use native.Mathlib.Nat.{mul_comm, mul-le-mul_right}
use native.Mathlib.Omega.{arith}
use lib.ListN.{length, take, drop, set, length-set, length-drop, take-append-drop}
use lib.Seq.{take-set-le, drop-set-lt, drop-set-add}
use lib.Ieee.{Float}
use Rattle.lists.specs.Tab.{tabulate}
use Rattle.lists.proofs.Grid.{next_row}
use Rattle.lists.proofs.Tab.{written_none, written_more, written_all}
use Rattle.lists.proofs.Part.{part_length, back}
use Rattle.lists.proofs.Rows.{Filled, rows_up_to, tabulate_ext, tabulate-add}
use Rattle.response.proofs.Border.{off_end, inner_row}
use Rattle.response.specs.Response.{response_at}
use Rattle.response.specs.Steps.{row_response}

module _ {ℓ} {A : Type ℓ} where
  -- of two rows of n places, given by f and by g, the first x places of each are written
  pub record Pair (f g : ℕ → A) (n x : ℕ) (pair : List A) : Type ℓ where
    pub low : x ≤ n
    pub whole : length pair ≡ n + n
    pub upper : take x pair ≡ tabulate x f
    pub lower : take x (drop n pair) ≡ tabulate x g

  module _ (f g : ℕ → A) (n : ℕ) where
    pub Pair-none : (pair : List A) → length pair ≡ n + n → Pair f g n 0 pair
    Pair-none pair e =
        record { low = omega arith; whole = e; upper = written_none f pair; lower = written_none g (drop n pair) }

    pub Pair-more : (x : ℕ) (pair : List A) (u v : A) → x < n → u ≡ f x → v ≡ g x → Pair f g n x pair → Pair f g n (x + 1) (set (set pair x u) (n + x) v)
    Pair-more x pair u v b p q r =
        let half = set pair x u in
        record {
          low = omega arith;
          whole = length-set half (n + x) v ∙ length-set pair x u ∙ r.whole;
          upper = take-set-le (x + 1) half (n + x) v (omega arith) ∙ written_more f x pair u (omega (arith, r.whole)) p r.upper;
          lower =
              ap (take (x + 1)) (drop-set-add n half x v ∙ ap (λ (l : List A). set l x v) (drop-set-lt n pair x u b))
              ∙ written_more g x (drop n pair) v (omega (arith, length-drop n pair, r.whole)) q r.lower;
        }

    pub Pair-all : (x : ℕ) (pair : List A) → n ≤ x → Pair f g n x pair → pair ≡ tabulate n f ++ tabulate n g
    Pair-all x pair b r =
        let e : x ≡ n = omega (arith, r.low) in
        let m : length (drop n pair) ≡ n = omega (arith, length-drop n pair, r.whole) in
        sym (take-append-drop n pair) ∙ ap₂ ◌++◌ (rw e at r.upper) (written_all g x n (drop n pair) m e r.lower)

-- the rows y and y + 1 end where row y + 2 starts
pub two_rows : (w y : ℕ) → y * w + w + w ≡ (y + 2) * w
two_rows w y = omega (arith, next_row w y, next_row w (y + 1), (let e : y + 1 + 1 ≡ y + 2 = omega arith in ap (λ (k : ℕ). k * w) e))

-- the rows from y on and before z are written
pub rows_between : (f : ℕ → Float) (w h y z : ℕ) (out rows : List Float) → y ≤ z → z ≤ h → rows ≡ tabulate (length (take (z * w - y * w) (drop (y * w) out))) (λ p. f (y * w + p))
    → Filled f (w * h) (y * w) out → Filled f (w * h) (z * w) (back out (y * w) (z * w - y * w) rows)
rows_between f w h y z out rows up b is r =
    let onward = mul-le-mul_right w up in
    let fits : z * w ≤ length out = omega (arith, r.whole, mul-le-mul_right w b, mul_comm w h) in
    let long = part_length out (y * w) (z * w) (z * w - y * w) fits (omega (arith, onward)) in
    rows_up_to f w h y z _ (z * w) out rows b (omega (arith, long, onward)) refl is r

-- the response in the rows y and y + 1, by the samples of those rows and of the ones above and below them
module _ (img : List Float) (w h y : ℕ) (l : 0 < y) (b : y + 2 < h) where
  abbrev row : ℕ → List Float
  row r = take w (drop (r * w) img)

  same_row : (r q : ℕ) → r ≡ q → row r ≡ row q
  same_row r q e = ap row e

  pub inner_pair : (above upper lower below : List Float) → above ≡ row (y - 1) → upper ≡ row y → lower ≡ row (y + 1) → below ≡ row (y + 2)
      → tabulate w (row_response above upper lower w) ++ tabulate w (row_response upper lower below w) ≡ tabulate (w + w) (λ p. response_at img w h (y * w + p))
  inner_pair above upper lower below p q s t =
      let first = inner_row img w h y above upper lower p q s (off_end h y l (omega arith)) in
      let second = inner_row img w h (y + 1) upper lower below (q ∙ same_row y (y + 1 - 1) (omega arith)) s (t ∙ same_row (y + 2) (y + 1 + 1) (omega arith)) (off_end h (y + 1) (omega arith) (omega arith)) in
      let onward = tabulate_ext w (λ x. response_at img w h ((y + 1) * w + x)) (λ x. response_at img w h (y * w + (w + x))) (λ x i. ap (response_at img w h) (omega (arith, next_row w y))) in
      ap₂ ◌++◌ first (second ∙ onward) ∙ sym (tabulate-add w w (λ p. response_at img w h (y * w + p)))
