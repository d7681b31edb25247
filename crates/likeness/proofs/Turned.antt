-- Comparing a code's four turns with another code as it is compares them in any turns. Assumes nothing.
use mathlib.Core.Path.{◌≡◌, refl, sym, ap, ◌∙◌, subst}
use mathlib.Core.Bool.{Bool, true, false, ◌&&◌, ◌||◌}
use Prim.Native.Nat.{ℕ, zero, suc, ◌-◌, ◌*◌, ◌^◌, ◌≤◌, ◌<◌}
use native.Mathlib.Nat.{not-suc-le-zero}
use native.Mathlib.Omega.{arith}
use borrow.Author.Tests.{le-leb, leb-true, eqb-false, ne_eqb}
use lib.Dec.{eqb, lit<}
use Rattle.std.specs.Cmp.{both_ways, first_so, second_so}
use Rattle.word.specs.Word.{turns, differing}
use Rattle.word.proofs.Differing.{align, turned_alike, differing_comm}
use Rattle.word.proofs.Turn.{turns-lt, turns_four, turns-add}
use Rattle.lists.specs.Each.{each}
use Rattle.likeness.specs.Likeness.{apart, apart_in_turns, apart_from_itself}
use Rattle.likeness.specs.Turned.{four_turns, differ_in, far_from, far_self}
use Rattle.lists.proofs.Each.{each_at, each_of}

-- the four numbers of turns
by_turn : (P : ℕ → Type 0) → P 0 → P 1 → P 2 → P 3 → (r : ℕ) → r < 4 → P r
by_turn P p0 p1 p2 p3 zero h = p0
by_turn P p0 p1 p2 p3 (suc zero) h = p1
by_turn P p0 p1 p2 p3 (suc (suc zero)) h = p2
by_turn P p0 p1 p2 p3 (suc (suc (suc zero))) h = p3
by_turn P p0 p1 p2 p3 (suc (suc (suc (suc r)))) h = absurd (omega arith)

apart-le : (t a b : ℕ) → apart t a b ≡ true → 2 * t - 1 ≤ differing a b
unfolding apart
apart-le t a b e = leb-true (2 * t - 1) (differing a b) e

le-apart : (t a b : ℕ) → 2 * t - 1 ≤ differing a b → apart t a b ≡ true
unfolding apart
le-apart t a b h = le-leb (2 * t - 1) (differing a b) h

-- ---- two codes

module _ (e t a b : ℕ) where
  pub in_turns_at : apart_in_turns e t a b ≡ true → (p q : ℕ) → p < 4 → q < 4 → 2 * t - 1 ≤ differing (turns e p a) (turns e q b)
  unfolding apart_in_turns
  in_turns_at h p q hp hq =
      apart-le t (turns e p a) (turns e q b) (each_at 4 (λ q. apart t (turns e p a) (turns e q b)) (each_at 4 (λ p. each 4 (λ q. apart t (turns e p a) (turns e q b))) h p hp) q hq)

  pub in_turns_of : ((p q : ℕ) → p < 4 → q < 4 → 2 * t - 1 ≤ differing (turns e p a) (turns e q b)) → apart_in_turns e t a b ≡ true
  unfolding apart_in_turns
  in_turns_of h =
      each_of 4 (λ p. each 4 (λ q. apart t (turns e p a) (turns e q b))) (λ p hp.
      each_of 4 (λ q. apart t (turns e p a) (turns e q b)) (λ q hq. le-apart t (turns e p a) (turns e q b) (h p q hp hq)))

-- ---- one code

module _ (e t a : ℕ) where
  pub from_itself_at : apart_from_itself e t a ≡ true → (p q : ℕ) → p < 4 → q < 4 → (p ≡ q → ⊥) → 2 * t - 1 ≤ differing (turns e p a) (turns e q a)
  unfolding apart_from_itself
  from_itself_at h p q hp hq ne =
      let both = each_at 4 (λ q. eqb p q || apart t (turns e p a) (turns e q a)) (each_at 4 (λ p. each 4 (λ q. eqb p q || apart t (turns e p a) (turns e q a))) h p hp) q hq in
      apart-le t (turns e p a) (turns e q a) (ap (λ (x : Bool). x || apart t (turns e p a) (turns e q a)) (sym (ne_eqb p q ne)) ∙ both)

  pub from_itself_of : ((p q : ℕ) → p < 4 → q < 4 → (p ≡ q → ⊥) → 2 * t - 1 ≤ differing (turns e p a) (turns e q a)) → apart_from_itself e t a ≡ true
  unfolding apart_from_itself
  from_itself_of h =
      each_of 4 (λ p. each 4 (λ q. eqb p q || apart t (turns e p a) (turns e q a))) (λ p hp.
      each_of 4 (λ q. eqb p q || apart t (turns e p a) (turns e q a)) (λ q hq. go p q hp hq (eqb p q) refl))
    where
      go : (p q : ℕ) → p < 4 → q < 4 → (x : Bool) → eqb p q ≡ x → x || apart t (turns e p a) (turns e q a) ≡ true
      go p q hp hq true x = refl
      go p q hp hq false x = le-apart t (turns e p a) (turns e q a) (h p q hp hq (eqb-false p q x))

-- a code that is far from its first and second turn is far from its third: turned once more, that is the first
from_own : (e t a : ℕ) → e ≤ 8 → a < 2 ^ (e * e) → 2 * t - 1 ≤ differing a (turns e 1 a) → 2 * t - 1 ≤ differing a (turns e 2 a)
    → (r : ℕ) → r < 4 → 0 < r → 2 * t - 1 ≤ differing (turns e r a) a
from_own e t a edge small d₁ d₂ =
    by_turn (λ (r : ℕ). 0 < r → 2 * t - 1 ≤ differing (turns e r a) a) (λ h. absurd (not-suc-le-zero h))
    (λ h. omega (arith, differing_comm 64 a (turns e 1 a))) (λ h. omega (arith, differing_comm 64 a (turns e 2 a)))
    (λ h.
    let back : differing (turns e 3 a) a ≡ differing a (turns e 1 a) =
    sym (turned_alike e edge 1 (turns e 3 a) a (turns-lt e 3 a small) small) ∙ ap (λ (x : ℕ). differing x (turns e 1 a)) (sym (turns-add e 3 1 a) ∙ turns_four e a small) in
    omega arith)

-- ---- what the code compares is enough

module _ (e t a : ℕ) (edge : e ≤ 8) (small : a < 2 ^ (e * e)) where
  pub far_from_is : (b : ℕ) → b < 2 ^ (e * e) → far_from (2 * t - 1) (four_turns e a) b ≡ apart_in_turns e t a b
  unfolding turns
  far_from_is b hb = both_ways (far_from (2 * t - 1) (four_turns e a) b) (apart_in_turns e t a b) every some
    where
      test : ℕ → Bool
      test r = differ_in (2 * t - 1) b (turns e r a)

      far : far_from (2 * t - 1) (four_turns e a) b ≡ true → (r : ℕ) → r < 4 → test r ≡ true
      far h =
          let h₁ = second_so (test 0) (test 1 && (test 2 && (test 3 && true))) h in
          let h₂ = second_so (test 1) (test 2 && (test 3 && true)) h₁ in
          let h₃ = second_so (test 2) (test 3 && true) h₂ in
          by_turn (λ (r : ℕ). test r ≡ true) (first_so (test 0) (test 1 && (test 2 && (test 3 && true))) h)
          (first_so (test 1) (test 2 && (test 3 && true)) h₁) (first_so (test 2) (test 3 && true) h₂) (first_so (test 3) true h₃)

      every : far_from (2 * t - 1) (four_turns e a) b ≡ true → apart_in_turns e t a b ≡ true
      every h =
          in_turns_of e t a b (λ p q hp hq.
          let g = align e edge p q hp hq in
          subst (λ (d : ℕ). 2 * t - 1 ≤ d) (sym (g.same a b small hb)) (leb-true (2 * t - 1) (differing (turns e g.by a) b) (far h g.by g.by_lt)))

      some : apart_in_turns e t a b ≡ true → far_from (2 * t - 1) (four_turns e a) b ≡ true
      some h =
          let one : (r : ℕ) → r < 4 → test r ≡ true = λ r l. le-leb (2 * t - 1) (differing (turns e r a) b) (in_turns_at e t a b h r 0 l (lit< tt)) in
          simp (one 0 (lit< tt), one 1 (lit< tt), one 2 (lit< tt), one 3 (lit< tt))

  pub far_self_is : far_self (2 * t - 1) (four_turns e a) ≡ apart_from_itself e t a
  unfolding turns
  far_self_is = both_ways (far_self (2 * t - 1) (four_turns e a)) (apart_from_itself e t a) every some
    where
      test : ℕ → Bool
      test x = differ_in (2 * t - 1) x a

      every : far_self (2 * t - 1) (four_turns e a) ≡ true → apart_from_itself e t a ≡ true
      every h =
          let d₁ = leb-true (2 * t - 1) (differing a (turns e 1 a)) (first_so (test (turns e 1 a)) (test (turns e 2 a)) h) in
          let d₂ = leb-true (2 * t - 1) (differing a (turns e 2 a)) (second_so (test (turns e 1 a)) (test (turns e 2 a)) h) in
          from_itself_of e t a (λ p q hp hq ne.
          let g = align e edge p q hp hq in
          subst (λ (d : ℕ). 2 * t - 1 ≤ d) (sym (g.same a a small small)) (from_own e t a edge small d₁ d₂ g.by g.by_lt (g.by_pos ne)))

      some : apart_from_itself e t a ≡ true → far_self (2 * t - 1) (four_turns e a) ≡ true
      some h =
          let one : (r : ℕ) → r < 4 → 0 < r → test (turns e r a) ≡ true = λ r l pos.
          le-leb (2 * t - 1) (differing a (turns e r a)) (from_itself_at e t a h 0 r (lit< tt) l (λ z. omega arith)) in
          simp (one 1 (lit< tt) (lit< tt), one 2 (lit< tt) (lit< tt))
