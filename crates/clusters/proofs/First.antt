-- Each cluster has exactly one first seed, so it has one row and counts once. Assumes nothing.
use mathlib.Core.Path.{◌≡◌, sym, ap, ◌∙◌}
use mathlib.Core.Logic.{◌⊎◌, inl, inr, ⊎_elim}
use mathlib.Core.Bool.{Bool, true, not, ◌&&◌, true≢false}
use mathlib.Mathlib.Data.Bool.Basic.{and_intro}
use mathlib.Core.List.{List}
use Prim.Native.Nat.{ℕ, zero, suc, ◌<◌}
use native.Mathlib.Nat.{not-suc-le-zero}
use native.Mathlib.Decide.{dec_lt}
use native.Mathlib.Omega.{arith}
use lib.Ieee.{Float}
use Rattle.std.proofs.lemmas.Bool.{and_parts, cases_Bool}
use Rattle.lists.proofs.Each.{any_found, any_from}
use Rattle.clusters.specs.Connected.{below, connected}
use Rattle.clusters.specs.Clusters.{border, seed, clustered, first}
use Rattle.clusters.proofs.Joined.{here, Joined-trans, Joined-sym}
use Rattle.clusters.proofs.Connected.{connected_joined, joined_connected}

module _ (t : Float) (w h : ℕ) (pos : 0 < w) (plane : List Float) where
  abbrev C : ℕ → ℕ → Bool
  C = connected t w plane

  parts : (s : ℕ) → first t w h plane s ≡ true → (seed t w h plane s ≡ true) × (not (clustered t w h plane s s) ≡ true)
  unfolding first
  parts s e = and_parts _ _ e

  -- a first seed is joined to no seed before it
  none_before : (r s : ℕ) → seed t w h plane r ≡ true → first t w h plane s ≡ true → C r s ≡ true → r < s → ⊥
  unfolding clustered
  none_before r s d e c l =
      true≢false (sym (parts s e).1 ∙ ap not (any_found s r (λ k. seed t w h plane k && C k s) l (and_intro d c)))

  pub first_once : (r s : ℕ) → first t w h plane r ≡ true → first t w h plane s ≡ true → C r s ≡ true → r ≡ s
  first_once r s d e c =
      elim (dec_lt r s) [
        | yes l ↦ absurd (none_before r s (parts r d).0 e c l)
        | no l ↦ elim (dec_lt s r) [
          | yes m ↦ absurd (none_before s r (parts s e).0 d (joined_connected t w pos plane s r (Joined-sym (connected_joined t w pos plane r s c))) m)
          | no m ↦ omega (arith, l, m)
        ]
      ]

  low : (s : ℕ) → seed t w h plane s ≡ true → below t plane s ≡ true
  unfolding seed
  low s d = (and_parts (not (border w h s)) (below t plane s) d).1

  -- a seed is the first of its cluster, or there is one before it
  earlier : (s : ℕ) → seed t w h plane s ≡ true → (first t w h plane s ≡ true) ⊎ ((r : ℕ) × (r < s) × (seed t w h plane r ≡ true) × (C r s ≡ true))
  unfolding first clustered
  earlier s d =
      ⊎_elim
      (λ c.
      let q = any_from s (λ k. seed t w h plane k && C k s) c in
      let e = and_parts (seed t w h plane q.0) (C q.0 s) q.2 in
      inr (q.0, q.1, e.0, e.1))
      (λ c. inl (and_intro d (ap not c)))
      (cases_Bool (clustered t w h plane s s))

  abbrev Found : ℕ → Type 0
  Found s = (f : ℕ) × (first t w h plane f ≡ true) × (C f s ≡ true)

  Found-below : (n s : ℕ) → s < n → seed t w h plane s ≡ true → Found s
  Found-below zero s l d = absurd (not-suc-le-zero l)
  Found-below (suc n) s l d =
      ⊎_elim
      (λ e. (s, e, joined_connected t w pos plane s s (here (low s d))))
      (λ (q : (r : ℕ) × (r < s) × (seed t w h plane r ≡ true) × (C r s ≡ true)).
      let f = Found-below n q.0 (omega (arith, q.1)) q.2 in
      (f.0, f.1, joined_connected t w pos plane f.0 s (Joined-trans (connected_joined t w pos plane f.0 q.0 f.2) (connected_joined t w pos plane q.0 s q.3))))
      (earlier s d)

  pub first_found : (s : ℕ) → seed t w h plane s ≡ true → Found s
  first_found s d = Found-below (suc s) s (omega arith) d
