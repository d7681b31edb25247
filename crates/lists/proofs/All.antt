-- The loops that test every element. One that ends at the first that fails keeps `all ok l ≡ all ok (drop i l)`; one that
-- gathers a flag r to the end keeps `all ok l ≡ r && all ok (drop i l)`. Assumes nothing.
use mathlib.Core.Path.{◌≡◌, refl, sym, ap, ap₂, ◌∙◌}
use Prim.Native.Nat.{ℕ, zero, suc, ◌+◌, ◌^◌, ◌<◌, ◌≤◌, suc-le-suc}
use native.Mathlib.Nat.{not-suc-le-zero, le_of_suc-le-suc, zero-lt-suc}
use native.Mathlib.Numerals.{add-one}
use native.Mathlib.Omega.{arith}
use borrow.Author.Tests.{ltb-true, ltb-false, lt-ltb, le-ltb}
use mathlib.Core.Bool.{Bool, true, false, ◌&&◌, and_assoc, and-true}
use mathlib.Core.List.{List, [], ◌∷◌}
use lib.Bits.{bit_or, or_lt, or_add_and, and_le_l, and_le_r}
use lib.Dec.{ltb}
use lib.ListN.{length, drop, get_or, drop_of_length-le}
use lib.Seq.{drop-cons}
use Rattle.lists.specs.Tab.{all}
use Rattle.std.specs.Cmp.{first_so, second_so}

module _ {ℓ} {A : Type ℓ} (ok : A → Bool) (l : List A) (i : ℕ) (d : A) (h : i < length l) where
  all_step : all ok (drop i l) ≡ ok (get_or l i d) && all ok (drop (suc i) l)
  unfolding all
  all_step = rw (drop-cons l i d h)

  -- one more passes
  pub all_more : (r : Bool) → r ≡ ok (get_or l i d) → r ≡ true → all ok l ≡ all ok (drop i l) → all ok l ≡ all ok (drop (i + 1) l)
  all_more r e t inv = rw add-one (inv ∙ all_step ∙ simp (sym e ∙ t))

  -- one fails
  pub all_fails : (r : Bool) → r ≡ ok (get_or l i d) → r ≡ false → all ok l ≡ all ok (drop i l) → false ≡ all ok l
  all_fails r e t inv = sym (inv ∙ all_step ∙ simp (sym e ∙ t))

pub all_done {ℓ} : {A : Type ℓ} (ok : A → Bool) (l : List A) (i : ℕ) → length l ≤ i → all ok l ≡ all ok (drop i l) → true ≡ all ok l
unfolding all
all_done ok l i h inv = sym (inv ∙ rw (drop_of_length-le l h))

-- ---- the flag is gathered to the end

pub gather_more {ℓ} : {A : Type ℓ} (ok : A → Bool) (l : List A) (i : ℕ) (d : A) → i < length l → (r s : Bool) → s ≡ r && ok (get_or l i d)
    → all ok l ≡ r && all ok (drop i l) → all ok l ≡ s && all ok (drop (i + 1) l)
gather_more ok l i d h r s e inv =
    inv ∙ ap (λ (x : Bool). r && x) (all_step ok l i d h) ∙ sym (and_assoc r (ok (get_or l i d)) (all ok (drop (suc i) l)))
    ∙ ap (λ (x : Bool). x && all ok (drop (suc i) l)) (sym e) ∙ ap (λ (n : ℕ). s && all ok (drop n l)) (sym (add-one i))

pub gather_done {ℓ} : {A : Type ℓ} (ok : A → Bool) (l : List A) (i : ℕ) → length l ≤ i → (r : Bool) → all ok l ≡ r && all ok (drop i l) → r ≡ all ok l
unfolding all
gather_done ok l i h r inv = sym (inv ∙ ap (λ (x : List _). r && all ok x) (drop_of_length-le l h) ∙ and-true r)

-- two numbers are below a power of two where their gathered bits are
pub or_below : (k a b : ℕ) → ltb (bit_or a b) (2 ^ k) ≡ ltb a (2 ^ k) && ltb b (2 ^ k)
or_below k a b = go (ltb a (2 ^ k)) (ltb b (2 ^ k)) refl refl
  where
    go : (s t : Bool) → ltb a (2 ^ k) ≡ s → ltb b (2 ^ k) ≡ t → ltb (bit_or a b) (2 ^ k) ≡ s && t
    go false t p q = le-ltb (bit_or a b) (2 ^ k) (omega (arith, ltb-false a (2 ^ k) p, or_add_and a b, and_le_r a b))
    go true false p q = le-ltb (bit_or a b) (2 ^ k) (omega (arith, ltb-false b (2 ^ k) q, or_add_and a b, and_le_l a b))
    go true true p q = lt-ltb (bit_or a b) (2 ^ k) (or_lt k a b (ltb-true a (2 ^ k) p) (ltb-true b (2 ^ k) q))

-- what holds of all holds of each
pub all_at {ℓ} : {A : Type ℓ} (ok : A → Bool) (l : List A) (k : ℕ) (d : A) → all ok l ≡ true → k < length l → ok (get_or l k d) ≡ true
unfolding all
all_at ok [] k d e h = absurd (not-suc-le-zero h)
all_at ok (v ∷ vs) zero d e h = first_so (ok v) (all ok vs) e
all_at ok (v ∷ vs) (suc k) d e h = all_at ok vs k d (second_so (ok v) (all ok vs) e) (le_of_suc-le-suc h)

-- and the other way
pub all_of {ℓ} : {A : Type ℓ} (ok : A → Bool) (l : List A) (d : A) → ((k : ℕ) → k < length l → ok (get_or l k d) ≡ true) → all ok l ≡ true
unfolding all
all_of ok [] d h = refl
all_of ok (v ∷ vs) d h = ap₂ ◌&&◌ (h 0 (zero-lt-suc (length vs))) (all_of ok vs d (λ k l. h (suc k) (suc-le-suc l)))
