-- `reach` is reachability by paths: what it finds is joined to s by a path, and as many steps as there are samples find all that a path joins.
-- With each step more the set that is reached grows, or it has come to its end; it cannot have more members than there are samples. Assumes nothing.
use mathlib.Core.Path.{◌≡◌, refl, sym, ap, ◌∙◌, subst}
use mathlib.Core.Logic.{◌⊎◌, inl, inr, ⊎_elim}
use mathlib.Core.Bool.{Bool, true, false, not, ◌&&◌, ◌||◌, cond, true≢false, false≢true}
use mathlib.Mathlib.Data.Bool.Basic.{and_intro, or_inl, or_inr}
use Prim.Native.Nat.{ℕ, zero, suc, ◌+◌, ◌-◌, ◌≤◌, ◌<◌}
use native.Mathlib.Nat.{not-suc-le-zero, zero-add, suc-add, sub-add_cancel, le_refl}
use native.Mathlib.Omega.{arith}
use lib.Dec.{eqb}
use borrow.Author.Tests.{eqb-true, eq-eqb, not-true}
use Rattle.lists.specs.Each.{any}
use Rattle.lists.specs.Sum.{sum}
use Rattle.std.proofs.lemmas.Bool.{and_parts, or_cases, cases_Bool, cases_eq}
use Rattle.lists.proofs.Each.{any_found, any_from}
use Rattle.lists.proofs.Sum.{sum-le, sum_most}
use Rattle.clusters.specs.Connected.{beside, reach}
use Rattle.clusters.proofs.Neighbours.{Beside, Beside-sym, Beside-found, beside_from}

-- a path from s to i: its samples are in the set, and each is a neighbour of the one before
pub data Joined (w : ℕ) (set : ℕ → Bool) (s : ℕ) : ℕ → Type 0 where
  here : set s ≡ true → Joined w set s s
  step : {p i : ℕ} → Joined w set s p → Beside w p i → set i ≡ true → Joined w set s i

-- ---- paths

module _ {w : ℕ} {set : ℕ → Bool} where
  pub Joined-start : {s i : ℕ} → Joined w set s i → set s ≡ true
  Joined-start (here e) = e
  Joined-start (step j b e) = Joined-start j

  pub Joined-end : {s i : ℕ} → Joined w set s i → set i ≡ true
  Joined-end (here e) = e
  Joined-end (step j b e) = e

  pub Joined-trans : {a b c : ℕ} → Joined w set a b → Joined w set b c → Joined w set a c
  Joined-trans x (here e) = x
  Joined-trans x (step y b e) = step (Joined-trans x y) b e

  pub Joined-sym : {a b : ℕ} → Joined w set a b → Joined w set b a
  Joined-sym (here e) = here e
  Joined-sym (step y b e) = Joined-trans (step (here e) (Beside-sym b) (Joined-end y)) (Joined-sym y)

-- more samples join more
pub Joined-more : {w : ℕ} {set set' : ℕ → Bool} → ((i : ℕ) → set i ≡ true → set' i ≡ true) → {a b : ℕ} → Joined w set a b → Joined w set' a b
Joined-more f (here e) = here (f _ e)
Joined-more f (step {i = i} y b e) = step (Joined-more f y) b (f i e)

-- ---- how many members a set has below n

abbrev one : Bool → ℕ
one b = cond b 1 0

abbrev size : (ℕ → Bool) → ℕ → ℕ
size m n = sum n (λ i. one (m i))

one-le : (a b : Bool) → (a ≡ true → b ≡ true) → one a ≤ one b
one-le true b f = rw (f refl) (le_refl 1)
one-le false b f = omega arith

size_all : (m : ℕ → Bool) (n : ℕ) → size m n ≤ n
size_all m n = omega (arith, sum_most n 1 (λ i. one (m i)) (λ i l. one-le (m i) true (λ _. refl)))

module _ (m m' : ℕ → Bool) (more : (i : ℕ) → m i ≡ true → m' i ≡ true) (p : ℕ) (out : m p ≡ false) (into : m' p ≡ true) where
  pub size_grows : (n : ℕ) → p < n → size m n < size m' n
  unfolding sum
  size_grows zero h = absurd (not-suc-le-zero h)
  size_grows (suc n) h =
      ⊎_elim
      (λ e.
      let a : one (m n) ≡ 0 = ap (λ (x : ℕ). one (m x)) e ∙ ap one out in
      let b : one (m' n) ≡ 1 = ap (λ (x : ℕ). one (m' x)) e ∙ ap one into in
      omega (arith, sum-le n (λ i. one (m i)) (λ i. one (m' i)) (λ i. one-le (m i) (m' i) (more i))))
      (λ e. omega (arith, size_grows n (omega arith), one-le (m n) (m' n) (more n)))
      (cases_eq n p)

-- ---- `reach`

module _ (w : ℕ) (pos : 0 < w) (set : ℕ → Bool) (s : ℕ) where
  abbrev R : ℕ → ℕ → Bool
  R = reach w set s

  reach_here : set s ≡ true → (k : ℕ) → R k s ≡ true
  unfolding reach
  reach_here e zero = and_intro e (eq-eqb s s refl)
  reach_here e (suc k) = and_intro e (or_inl _ _ (eq-eqb s s refl))

  reach_step : (k p i : ℕ) → R k p ≡ true → Beside w p i → set i ≡ true → R (suc k) i ≡ true
  unfolding reach
  reach_step k p i h b e = and_intro e (or_inr (eqb i s) (beside w (R k) i) (Beside-found w pos (R k) i b h))

  -- the last sample of what is reached in k + 1 steps
  abbrev Last : ℕ → ℕ → Type 0
  Last k i = (set i ≡ true) × ((i ≡ s) ⊎ ((p : ℕ) × Beside w p i × (R k p ≡ true)))

  reach_last : (k i : ℕ) → R (suc k) i ≡ true → Last k i
  unfolding reach
  reach_last k i h =
      let q = and_parts (set i) (eqb i s || beside w (R k) i) h in
      (q.0, ⊎_elim (λ a. inl (eqb-true i s a)) (λ a. inr (beside_from w pos (R k) i a)) (or_cases (eqb i s) (beside w (R k) i) q.1))

  reach-zero : (i : ℕ) → R zero i ≡ true → (set i ≡ true) × (i ≡ s)
  unfolding reach
  reach-zero i h = let q = and_parts (set i) (eqb i s) h in (q.0, eqb-true i s q.1)

  -- what is reached is joined
  pub reach_joined : (k i : ℕ) → R k i ≡ true → Joined w set s i
  reach_joined zero i h =
      let q = reach-zero i h in
      subst (Joined w set s) (sym q.1) (here (subst (λ (x : ℕ). set x ≡ true) q.1 q.0))
  reach_joined (suc k) i h =
      let q = reach_last k i h in
      ⊎_elim
      (λ e. subst (Joined w set s) (sym e) (here (subst (λ (x : ℕ). set x ≡ true) e q.0)))
      (λ (b : (p : ℕ) × Beside w p i × (R k p ≡ true)). step (reach_joined k b.0 b.2) b.1 q.0)
      q.1

  -- one step more reaches no less
  reach_more : (k i : ℕ) → R k i ≡ true → R (suc k) i ≡ true
  reach_more zero i h =
      let q = reach-zero i h in
      subst (λ (x : ℕ). R 1 x ≡ true) (sym q.1) (reach_here (subst (λ (x : ℕ). set x ≡ true) q.1 q.0) 1)
  reach_more (suc k) i h =
      let q = reach_last k i h in
      ⊎_elim
      (λ e. subst (λ (x : ℕ). R (suc (suc k)) x ≡ true) (sym e) (reach_here (subst (λ (x : ℕ). set x ≡ true) e q.0) (suc (suc k))))
      (λ (b : (p : ℕ) × Beside w p i × (R k p ≡ true)). reach_step (suc k) b.0 i (reach_more k b.0 b.2) b.1 q.0)
      q.1

  -- k steps have come to the end
  abbrev Ended : ℕ → Type 0
  Ended k = (i : ℕ) → R (suc k) i ≡ true → R k i ≡ true

  Ended-next : (k : ℕ) → Ended k → Ended (suc k)
  Ended-next k f i h =
      let q = reach_last (suc k) i h in
      ⊎_elim
      (λ e. subst (λ (x : ℕ). R (suc k) x ≡ true) (sym e) (reach_here (subst (λ (x : ℕ). set x ≡ true) e q.0) (suc k)))
      (λ (b : (p : ℕ) × Beside w p i × (R (suc k) p ≡ true)). reach_step k b.0 i (f b.0 b.2) b.1 q.0)
      q.1

  Ended-add : (d k : ℕ) → Ended k → Ended (d + k)
  Ended-add zero k f = rw zero-add f
  Ended-add (suc d) k f = rw suc-add (Ended-next (d + k) (Ended-add d k f))

  module _ (n : ℕ) (inside : (i : ℕ) → set i ≡ true → i < n) where
    -- the set grows, or it has come to its end
    grows : (k : ℕ) → Ended k ⊎ (size (R k) n < size (R (suc k)) n)
    grows k =
        ⊎_elim
        (λ a.
        let q = any_from n (λ i. R (suc k) i && not (R k i)) a in
        let b = and_parts (R (suc k) q.0) (not (R k q.0)) q.2 in
        inr (size_grows (R k) (R (suc k)) (reach_more k) q.0 (not-true (R k q.0) b.1) b.0 n q.1))
        (λ a. inl (λ i h. ⊎_elim
        (λ t. t)
        (λ t. absurd (true≢false (sym (any_found n i (λ i. R (suc k) i && not (R k i)) (inside i (reach_last k i h).0) (and_intro h (ap not t))) ∙ a)))
        (cases_Bool (R k i))))
        (cases_Bool (any n (λ i. R (suc k) i && not (R k i))))

    counted : set s ≡ true → (k : ℕ) → ((j : ℕ) × (j ≤ k) × Ended j) ⊎ (k < size (R k) n)
    counted e zero = inr (lt_of_member (R zero) s (reach_here e zero) n (inside s e))
      where
        lt_of_member : (m : ℕ → Bool) (p : ℕ) → m p ≡ true → (n : ℕ) → p < n → 0 < size m n
        lt_of_member m p t n h = omega (arith, size_grows (λ _. false) m (λ i z. absurd (false≢true z)) p refl t n h)
    counted e (suc k) =
        ⊎_elim
        (λ (q : (j : ℕ) × (j ≤ k) × Ended j). inl (q.0, omega (arith, q.1), q.2))
        (λ l. ⊎_elim (λ f. inl (k, omega arith, f)) (λ g. inr (omega arith)) (grows k))
        (counted e k)

    -- n steps come to the end
    ended : set s ≡ true → Ended n
    ended e =
        ⊎_elim
        (λ (q : (j : ℕ) × (j ≤ n) × Ended j). subst Ended (sub-add_cancel q.1) (Ended-add (n - q.0) q.0 q.2))
        (λ l. absurd (omega (arith, size_all (R n) n)))
        (counted e n)

    -- what is joined is reached
    pub Joined-reach : {i : ℕ} → Joined w set s i → R n i ≡ true
    Joined-reach (here e) = reach_here e n
    Joined-reach (step {p} {i} j b e) = ended (Joined-start j) i (reach_step n p i (Joined-reach j) b e)
