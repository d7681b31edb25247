-- A list given by a function of the index: its length, its elements, and the loop that writes it.
-- A loop that writes f i to out[i] for i = 0, 1, .. keeps `take i out ≡ tabulate i f`: `written_none`, `written_more`, `written_all`. Assumes nothing.
use mathlib.Core.Path.{◌≡◌, refl, sym, ap, ◌∙◌}
use mathlib.Core.List.{List, [], ◌∷◌, ◌++◌, append-nil}
use Prim.Native.Nat.{ℕ, zero, suc, ◌+◌, ◌<◌}
use native.Mathlib.Nat.{not-suc-le-zero, le_of_suc-le-suc, le_refl, le_of_eq}
use native.Mathlib.Numerals.{add-one}
use lib.ListN.{length, get_or, take, drop, set, drop_of_length-le}
use lib.Seq.{take-suc-set, take_all, drop-cons, set_at, set-get_or, append_snoc, get_or_at}
use Rattle.lists.specs.Tab.{tabulate}

module _ {ℓ} {A : Type ℓ} where
  pub length-tabulate : (n : ℕ) (f : ℕ → A) → length (tabulate n f) ≡ n
  unfolding tabulate
  length-tabulate zero f = refl
  length-tabulate (suc n) f = ap suc (length-tabulate n (λ i. f (suc i)))

  pub get_or-tabulate : (n : ℕ) (f : ℕ → A) (i : ℕ) (d : A) → i < n → get_or (tabulate n f) i d ≡ f i
  unfolding tabulate
  get_or-tabulate zero f i d h = absurd (not-suc-le-zero h)
  get_or-tabulate (suc n) f zero d h = refl
  get_or-tabulate (suc n) f (suc i) d h = get_or-tabulate n (λ k. f (suc k)) i d (le_of_suc-le-suc h)

  tabulate_snoc : (n : ℕ) (f : ℕ → A) → tabulate (suc n) f ≡ tabulate n f ++ (f n ∷ [])
  unfolding tabulate
  tabulate_snoc zero f = refl
  tabulate_snoc (suc n) f = ap (λ (l : List A). f zero ∷ l) (tabulate_snoc n (λ i. f (suc i)))

  -- nothing is written yet
  pub written_none : (f : ℕ → A) (out : List A) → take 0 out ≡ tabulate 0 f
  unfolding tabulate
  written_none f out = refl

  -- f i is written at i
  pub written_more : (f : ℕ → A) (i : ℕ) (out : List A) (v : A) → i < length out → v ≡ f i → take i out ≡ tabulate i f → take (i + 1) (set out i v) ≡ tabulate (i + 1) f
  written_more f i out v h e w = rw add-one (take-suc-set out i v h ∙ (rw (w, e) (sym (tabulate_snoc i f))))

  -- all is written
  pub written_all : (f : ℕ → A) (i n : ℕ) (out : List A) → length out ≡ n → i ≡ n → take i out ≡ tabulate i f → out ≡ tabulate n f
  written_all f i n out l e w = sym (take_all n out (rw l (le_refl n))) ∙ (rw e at w)

  -- ---- the same in place: what is not written yet is as it was

  pub kept_none : (f : ℕ → A) (l : List A) → l ≡ tabulate 0 f ++ drop 0 l
  unfolding tabulate
  kept_none f l = refl

  -- what is read at i is as it was
  pub kept_read : (f : ℕ → A) (i : ℕ) (l out : List A) (d : A) → i < length l → out ≡ tabulate i f ++ drop i l → get_or out i d ≡ get_or l i d
  kept_read f i l out d h e = ap (λ (x : List A). get_or x i d) (e ∙ ap (λ (x : List A). tabulate i f ++ x) (drop-cons l i d h)) ∙ get_or_at (tabulate i f) (get_or l i d) (drop (suc i) l) d i (length-tabulate i f)

  pub kept_more : (f : ℕ → A) (i : ℕ) (l out : List A) (v d : A) → i < length l → v ≡ f i → out ≡ tabulate i f ++ drop i l → set out i v ≡ tabulate (i + 1) f ++ drop (i + 1) l
  kept_more f i l out v d h q e =
      ap (λ (x : List A). set x i v) (e ∙ ap (λ (x : List A). tabulate i f ++ x) (drop-cons l i d h))
      ∙ set_at (tabulate i f) (get_or l i d) (drop (suc i) l) v i (length-tabulate i f)
      ∙ (rw (q, add-one) (sym (ap (λ (x : List A). x ++ drop (suc i) l) (tabulate_snoc i f) ∙ append_snoc (tabulate i f) (f i) (drop (suc i) l))))

  -- what stands at i is f i already
  pub kept_same : (f : ℕ → A) (i : ℕ) (l : List A) (d : A) → i < length l → get_or l i d ≡ f i → tabulate i f ++ drop i l ≡ tabulate (i + 1) f ++ drop (i + 1) l
  kept_same f i l d h q =
      let out = tabulate i f ++ drop i l in
      sym (set-get_or out i d) ∙ kept_more f i l out (get_or out i d) d h (kept_read f i l out d h refl ∙ q) refl

  pub kept_all : (f : ℕ → A) (i : ℕ) (l out : List A) → i ≡ length l → out ≡ tabulate i f ++ drop i l → out ≡ tabulate (length l) f
  kept_all f i l out q e = e ∙ ap (λ (x : List A). tabulate i f ++ x) (drop_of_length-le l (le_of_eq (sym q))) ∙ append-nil (tabulate i f) ∙ ap (λ (n : ℕ). tabulate n f) q
