-- Which samples lie on the border. Assumes nothing.
use mathlib.Core.Path.{◌≡◌, ◌∙◌}
use mathlib.Core.Bool.{Bool, true, false, ◌||◌}
use mathlib.Mathlib.Data.Bool.Basic.{or_inl, or_inr}
use Prim.Native.Nat.{ℕ, ◌+◌, ◌*◌, ◌<◌}
use native.Mathlib.Omega.{arith}
use lib.Dec.{eqb}
use borrow.Author.Tests.{eq-eqb, ne_eqb}
use Rattle.std.proofs.lemmas.Bool.{or_from}
use Rattle.std.proofs.lemmas.Nat.{div-mul-add, mod-mul-add}
use Rattle.clusters.specs.Clusters.{border}

module _ (w h r c i : ℕ) (at : i ≡ r * w + c) (col : c < w) where
  abbrev here : Bool
  here = eqb r 0 || eqb (r + 1) h || eqb c 0 || eqb (c + 1) w

  there : border w h i ≡ here
  unfolding border
  there = rw (at, div-mul-add r w c col, mod-mul-add r w c col)

  pub top_row : r ≡ 0 → border w h i ≡ true
  top_row e = there ∙ or_inl _ _ (or_inl _ _ (or_inl _ _ (eq-eqb r 0 e)))

  pub bottom_row : r + 1 ≡ h → border w h i ≡ true
  bottom_row e = there ∙ or_inl _ _ (or_inl _ _ (or_inr (eqb r 0) (eqb (r + 1) h) (eq-eqb (r + 1) h e)))

  pub left_column : c ≡ 0 → border w h i ≡ true
  left_column e = there ∙ or_inl _ _ (or_inr (eqb r 0 || eqb (r + 1) h) (eqb c 0) (eq-eqb c 0 e))

  pub right_column : c + 1 ≡ w → border w h i ≡ true
  right_column e = there ∙ or_inr (eqb r 0 || eqb (r + 1) h || eqb c 0) (eqb (c + 1) w) (eq-eqb (c + 1) w e)

  pub off_border : 0 < r → r + 1 < h → 0 < c → c + 1 < w → border w h i ≡ false
  off_border a b d e =
      there ∙ or_from _ _ (or_from _ _ (or_from _ _ (ne_eqb r 0 (λ q. omega arith)) (ne_eqb (r + 1) h (λ q. omega arith))) (ne_eqb c 0 (λ q. omega arith))) (ne_eqb (c + 1) w (λ q. omega arith))
