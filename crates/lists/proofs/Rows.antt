-- A list that is written from its start on, sample by sample or part by part, keeps `Filled`: `Filled-none`, `Filled-one`,
-- `Filled-part`, `Filled-all`; a plane whose rows 0, 1, .. are written, too: `rows_none`, `rows_more`, `rows_all`. Assumes nothing.
use mathlib.Core.Path.{◌≡◌, refl, sym, ap, ◌∙◌, subst}
use mathlib.Core.List.{List, ◌∷◌, ◌++◌}
use Prim.Native.Nat.{ℕ, zero, suc, ◌+◌, ◌-◌, ◌*◌, ◌≤◌, ◌<◌, suc-le-suc}
use native.Mathlib.Nat.{le_refl, zero-add, suc-add, zero-lt-suc, zero-mul, mul_comm, mul-le-mul_right}
use native.Mathlib.Numerals.{add-one-le}
use native.Mathlib.Omega.{arith}
use lib.ListN.{length, get_or, set, take, drop, length-set, length-drop}
use lib.Seq.{length-take-le, take-append-add, take_at, take-take}
use Rattle.lists.specs.Tab.{tabulate}
use Rattle.lists.proofs.Tab.{length-tabulate, written_none, written_more, written_all}
use Rattle.lists.proofs.Grid.{next_row}
use Rattle.lists.proofs.Part.{part_read, back, length-back}

-- row y lies in the plane
pub row_fits : (w h y : ℕ) → y < h → y * w + w ≤ w * h
row_fits w h y b = omega (arith, next_row w y, mul-le-mul_right w (add-one-le b), mul_comm w h)

-- from the row's start to its end
pub row_span : (w y : ℕ) → y * w + w - y * w ≡ w
row_span w y = omega arith

module _ {ℓ} {A : Type ℓ} where
  -- the part of a plane that is row y
  pub row_length : (l : List A) (w y k : ℕ) → k ≡ w → y * w + w ≤ length l → length (take k (drop (y * w) l)) ≡ w
  row_length l w y k e fits = length-take-le k (drop (y * w) l) (omega (arith, length-drop (y * w) l)) ∙ e

  pub row_read : (l : List A) (w y k : ℕ) → k ≡ w → (x : ℕ) (d : A) → x < w → get_or (take k (drop (y * w) l)) x d ≡ get_or l (y * w + x) d
  row_read l w y k e x d h = part_read l (y * w) k x d (omega arith)

  -- two functions that agree below n
  pub tabulate_ext : (n : ℕ) (f g : ℕ → A) → ((i : ℕ) → i < n → f i ≡ g i) → tabulate n f ≡ tabulate n g
  unfolding tabulate
  tabulate_ext zero f g e = refl
  tabulate_ext (suc n) f g e =
      let rest = tabulate_ext n (λ i. f (suc i)) (λ i. g (suc i)) (λ i h. e (suc i) (suc-le-suc h)) in
      rw (e zero (zero-lt-suc n), rest)

  pub tabulate-add : (m n : ℕ) (f : ℕ → A) → tabulate (m + n) f ≡ tabulate m f ++ tabulate n (λ i. f (m + i))
  unfolding tabulate
  tabulate-add zero n f = ap (λ (k : ℕ). tabulate k f) (zero-add n) ∙ tabulate_ext n f (λ i. f (zero + i)) (λ i h. ap f (sym (zero-add i)))
  tabulate-add (suc m) n f =
      ap (λ (k : ℕ). tabulate k f) (suc-add m n)
      ∙ ap (λ (l : List A). f zero ∷ l) (tabulate-add m n (λ i. f (suc i)) ∙ ap (λ (l : List A). tabulate m (λ i. f (suc i)) ++ l) (tabulate_ext n _ _ (λ i h. ap f (sym (suc-add m i)))))

  take-tabulate : (a m : ℕ) (f : ℕ → A) → a ≤ m → take a (tabulate m f) ≡ tabulate a f
  take-tabulate a m f h =
      let e : m ≡ a + (m - a) = omega arith in
      ap (λ (k : ℕ). take a (tabulate k f)) e
      ∙ ap (λ (l : List A). take a l) (tabulate-add a (m - a) f)
      ∙ take_at (tabulate a f) _ a (length-tabulate a f)

  -- the first m are written, and then the k from a on, which may be some of those
  part_done : (f : ℕ → A) (m a j k : ℕ) (out part : List A) → a ≤ m → a + k ≤ length out → part ≡ tabulate k (λ i. f (a + i)) → take m out ≡ tabulate m f → take (a + k) (back out a j part) ≡ tabulate (a + k) f
  part_done f m a j k out part low fits is done =
      let n = length-take-le a out (omega arith) in
      let rest = drop j (drop a out) in
      ap (λ (i : ℕ). take (i + k) (back out a j part)) (sym n)
      ∙ take-append-add (take a out) (part ++ rest) k
      ∙ ap (λ (l : List A). take a out ++ l) (take_at part rest k (ap length is ∙ length-tabulate k _) ∙ is)
      ∙ ap (λ (l : List A). l ++ tabulate k (λ i. f (a + i))) (sym (take-take a m out low) ∙ ap (λ (l : List A). take a l) done ∙ take-tabulate a m f low)
      ∙ sym (tabulate-add a k f)

  -- of a list of n, given by f, the first m are written
  pub record Filled (f : ℕ → A) (n m : ℕ) (out : List A) : Type ℓ where
    pub low : m ≤ n
    pub whole : length out ≡ n
    pub done : take m out ≡ tabulate m f

  module _ (f : ℕ → A) (n : ℕ) where
    pub Filled-none : (out : List A) → length out ≡ n → Filled f n 0 out
    Filled-none out e = record { low = omega arith; whole = e; done = written_none f out }

    pub Filled-one : (m : ℕ) (out : List A) (v : A) → m < n → v ≡ f m → Filled f n m out → Filled f n (m + 1) (set out m v)
    Filled-one m out v h e r =
        record { low = omega arith; whole = length-set out m v ∙ r.whole; done = written_more f m out v (omega (arith, r.whole)) e r.done }

    pub Filled-part : (m a e k : ℕ) (out part : List A) → a ≤ m → e ≤ n → e ≡ a + k → part ≡ tabulate k (λ i. f (a + i)) → Filled f n m out → Filled f n e (back out a (e - a) part)
    Filled-part m a e k out part low fits end is r =
        let wide : length part ≡ k = ap length is ∙ length-tabulate k _ in
        record {
          low = fits;
          whole = length-back out part a (e - a) (omega (arith, r.whole)) (omega (arith, wide)) ∙ r.whole;
          done =
              ap (λ (i : ℕ). take i (back out a (e - a) part)) end
              ∙ part_done f m a (e - a) k out part low (omega (arith, r.whole)) is r.done
              ∙ ap (λ (i : ℕ). tabulate i f) (sym end);
        }

    pub Filled-all : (m : ℕ) (out : List A) → n ≤ m → Filled f n m out → out ≡ tabulate n f
    Filled-all m out h r = written_all f m n out r.whole (omega (arith, r.low)) r.done

  -- of a plane w wide and h high, given by f, the first y rows are written
  module _ (f : ℕ → A) (w h : ℕ) where
    pub rows_none : (out : List A) → length out ≡ w * h → Filled f (w * h) (0 * w) out
    rows_none out e = rw (zero-mul w) (Filled-none f (w * h) out e)

    -- and then the k places that lead to row z
    pub rows_up_to : (y z k e : ℕ) (out part : List A) → z ≤ h → e ≡ y * w + k → e ≡ z * w → part ≡ tabulate k (λ i. f (y * w + i)) → Filled f (w * h) (y * w) out → Filled f (w * h) (z * w) (back out (y * w) (e - y * w) part)
    rows_up_to y z k e out part b end up is r =
        subst (λ (m : ℕ). Filled f (w * h) m (back out (y * w) (e - y * w) part)) up
        (Filled-part f (w * h) (y * w) (y * w) e k out part (le_refl (y * w)) (omega (arith, up, mul-le-mul_right w b, mul_comm w h)) end is r)

    pub rows_more : (y : ℕ) (out row : List A) → y < h → row ≡ tabulate w (λ x. f (y * w + x)) → Filled f (w * h) (y * w) out → Filled f (w * h) ((y + 1) * w) (back out (y * w) (y * w + w - y * w) row)
    rows_more y out row b is r = rows_up_to y (y + 1) w (y * w + w) out row (add-one-le b) refl (next_row w y) is r

    -- the first row, which starts at 0
    pub rows_first : (out row : List A) → 0 < h → row ≡ tabulate w (λ x. f (0 * w + x)) → length out ≡ w * h → Filled f (w * h) (1 * w) (back out 0 (w - 0) row)
    rows_first out row b is whole = rw (zero-mul w, zero-add w) at (rows_more 0 out row b is (rows_none out whole))

    pub rows_all : (y : ℕ) (out : List A) → h ≤ y → Filled f (w * h) (y * w) out → out ≡ tabulate (w * h) f
    rows_all y out b r = Filled-all f (w * h) (y * w) out (omega (arith, mul-le-mul_right w b, mul_comm w h)) r
