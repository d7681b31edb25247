-- The neighbours of a sample, as a relation: what `beside` tests. Assumes nothing.
use mathlib.Core.Path.{◌≡◌, refl, sym, ap, ◌∙◌, subst}
use mathlib.Core.Logic.{⊎_elim}
use mathlib.Core.Bool.{Bool, true, ◌&&◌, ◌||◌}
use mathlib.Mathlib.Data.Bool.Basic.{and_intro, or_inl, or_inr}
use Prim.Native.Nat.{ℕ, ◌+◌, ◌-◌, ◌%◌, ◌≤◌, ◌<◌}
use native.Mathlib.Nat.{mod-lt, mod-eq_of_lt, mod-add-mod, mod_self, mod-le}
use native.Mathlib.Decide.{dec_lt}
use native.Mathlib.Omega.{arith}
use lib.Dec.{ltb, leb}
use borrow.Author.Tests.{ltb-true, leb-true, lt-ltb, le-leb}
use Rattle.std.proofs.lemmas.Bool.{and_parts, or_cases}
use Rattle.clusters.specs.Connected.{beside}

-- samples p and i of a plane w wide are neighbours: one right after the other in a row, or one row apart in a column
pub data Beside (w p i : ℕ) : Type 0 where
  to_right : p % w + 1 < w → i ≡ p + 1 → Beside w p i
  to_left : i % w + 1 < w → p ≡ i + 1 → Beside w p i
  down : i ≡ p + w → Beside w p i
  up : p ≡ i + w → Beside w p i

pub Beside-sym : {w p i : ℕ} → Beside w p i → Beside w i p
Beside-sym (to_right h e) = to_left h e
Beside-sym (to_left h e) = to_right h e
Beside-sym (down e) = up e
Beside-sym (up e) = down e

-- ---- columns

pub next_column : (p w : ℕ) → p % w + 1 < w → (p + 1) % w ≡ p % w + 1
next_column p w h = sym (mod-add-mod p w 1) ∙ mod-eq_of_lt h

-- only the first column comes after another row's last
pub not_last : (p w : ℕ) → 0 < w → 0 < (p + 1) % w → p % w + 1 < w
not_last p w pos h = elim (dec_lt (p % w + 1) w) [ yes l ↦ l | no l ↦ absurd (wraps l) ]
  where
    wraps : (p % w + 1 < w → ⊥) → ⊥
    wraps l =
        let e : p % w + 1 ≡ w = omega (arith, mod-lt p pos) in
        let z : (p + 1) % w ≡ 0 = sym (mod-add-mod p w 1) ∙ ap (λ (k : ℕ). k % w) e ∙ mod_self w in
        omega arith

-- ---- `beside` finds a neighbour in the set, and nothing else

module _ (w : ℕ) (pos : 0 < w) (set : ℕ → Bool) (i : ℕ) where
  abbrev L : Bool
  L = ltb 0 (i % w) && set (i - 1)

  abbrev R : Bool
  R = ltb (i % w + 1) w && set (i + 1)

  abbrev U : Bool
  U = leb w i && set (i - w)

  abbrev D : Bool
  D = set (i + w)

  pub Beside-found : {p : ℕ} → Beside w p i → set p ≡ true → beside w set i ≡ true
  unfolding beside
  Beside-found {p} (to_right h e) m =
      let z : i % w ≡ p % w + 1 = ap (λ (k : ℕ). k % w) e ∙ next_column p w h in
      let q : p ≡ i - 1 = omega arith in
      or_inl (L || R || U) D (or_inl (L || R) U (or_inl L R (and_intro (lt-ltb 0 (i % w) (omega arith)) (rw q at m))))
  Beside-found (to_left h e) m =
      or_inl (L || R || U) D (or_inl (L || R) U (or_inr L R (and_intro (lt-ltb (i % w + 1) w h) (rw e at m))))
  Beside-found {p} (down e) m =
      let q : p ≡ i - w = omega arith in
      or_inl (L || R || U) D (or_inr (L || R) U (and_intro (le-leb w i (omega arith)) (rw q at m)))
  Beside-found (up e) m = or_inr (L || R || U) D (rw e at m)

  abbrev One : Type 0
  One = (p : ℕ) × Beside w p i × (set p ≡ true)

  from_left : L ≡ true → One
  from_left a =
      let q = and_parts (ltb 0 (i % w)) (set (i - 1)) a in
      let x : 0 < i % w = ltb-true 0 (i % w) q.0 in
      let e : i ≡ i - 1 + 1 = omega (arith, mod-le i w) in
      (i - 1, to_right (not_last (i - 1) w pos (subst (λ (k : ℕ). 0 < k % w) e x)) e, q.1)

  from_right : R ≡ true → One
  from_right a =
      let q = and_parts (ltb (i % w + 1) w) (set (i + 1)) a in
      (i + 1, to_left (ltb-true (i % w + 1) w q.0) refl, q.1)

  from_above : U ≡ true → One
  from_above a =
      let q = and_parts (leb w i) (set (i - w)) a in
      let l : w ≤ i = leb-true w i q.0 in
      (i - w, down (omega arith), q.1)

  pub beside_from : beside w set i ≡ true → One
  unfolding beside
  beside_from h =
      ⊎_elim
      (λ a. ⊎_elim (λ b. ⊎_elim from_left from_right (or_cases L R b)) from_above (or_cases (L || R) U a))
      (λ a. (i + w, up refl, a))
      (or_cases (L || R || U) D h)
