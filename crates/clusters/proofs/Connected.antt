-- The laws of connected sets: samples are connected exactly where a path joins them, and two connected sets are equal or share no sample.
-- Assumes nothing.
use mathlib.Core.Path.{◌≡◌, sym, ap, ◌∙◌}
use mathlib.Core.Logic.{◌⊎◌, inl, inr, ⊎_elim}
use mathlib.Core.Bool.{Bool, true, false, ◌&&◌, true≢false, false≢true}
use mathlib.Core.List.{List}
use Prim.Native.Nat.{ℕ, ◌≤◌, ◌<◌}
use native.Mathlib.Decide.{dec_lt}
use native.Mathlib.Omega.{arith}
use lib.ListN.{length, get_or-eq_default}
use lib.Ieee.{Float, nan, lt}
use Rattle.std.proofs.lemmas.Bool.{and_parts, cases_Bool}
use Rattle.std.specs.Cmp.{both_ways}
use Rattle.clusters.specs.Connected.{below, connected}
use Rattle.clusters.proofs.Joined.{Joined, Joined-trans, Joined-sym, reach_joined, Joined-reach}

-- no place past the plane's end is below the threshold
pub below_inside : (t : Float) (plane : List Float) (i : ℕ) → below t plane i ≡ true → i < length plane
unfolding lt
below_inside t plane i h = elim (dec_lt i (length plane)) [ yes l ↦ l | no l ↦ absurd (false≢true (sym (past (omega arith)) ∙ h)) ]
  where
    past : length plane ≤ i → below t plane i ≡ false
    past l = ap (λ (v : Float). lt v t) (get_or-eq_default plane nan l)

module _ (t : Float) (w : ℕ) (pos : 0 < w) (plane : List Float) where
  abbrev J : ℕ → ℕ → Type 0
  J = Joined w (below t plane)

  abbrev C : ℕ → ℕ → Bool
  C = connected t w plane

  pub connected_joined : (s i : ℕ) → C s i ≡ true → J s i
  connected_joined s i h = reach_joined w pos (below t plane) s (length plane) i h

  pub joined_connected : (s i : ℕ) → J s i → C s i ≡ true
  joined_connected s i j = Joined-reach w pos (below t plane) s (length plane) (below_inside t plane) j

  pub same_or_apart : (s r : ℕ) → ((i : ℕ) → C s i ≡ C r i) ⊎ ((i : ℕ) → C s i && C r i ≡ false)
  same_or_apart s r =
      ⊎_elim
      (λ h. let j = connected_joined s r h in
      inl (λ i. both_ways (C s i) (C r i)
      (λ a. joined_connected r i (Joined-trans (Joined-sym j) (connected_joined s i a)))
      (λ a. joined_connected s i (Joined-trans j (connected_joined r i a)))))
      (λ h. inr (λ i. ⊎_elim
      (λ b. let q = and_parts (C s i) (C r i) b in
      absurd (true≢false (sym (joined_connected s r (Joined-trans (connected_joined s i q.0) (Joined-sym (connected_joined r i q.1)))) ∙ h)))
      (λ b. b)
      (cases_Bool (C s i && C r i))))
      (cases_Bool (C s r))
