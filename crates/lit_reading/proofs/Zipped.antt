-- A test of the pairs of two lists is one of the numbers below their length. Assumes nothing.
use mathlib.Core.Path.{◌≡◌, refl, sym, ap, ◌∙◌}
use mathlib.Core.Bool.{Bool, true, false, ◌&&◌}
use mathlib.Core.List.{List, [], ◌∷◌}
use Prim.Native.Nat.{ℕ, zero, suc}
use native.Mathlib.Omega.{arith}
use lib.ListN.{length, get_or}
use Rattle.std.specs.List.{list_all, zip}
use Rattle.lists.specs.Each.{each}

swap : (a b c : Bool) → a && (b && c) ≡ b && (a && c)
swap true b c = refl
swap false true c = refl
swap false false c = refl

each_first : (n : ℕ) (ok : ℕ → Bool) → each (suc n) ok ≡ ok 0 && each n (λ k. ok (suc k))
unfolding each
each_first zero ok = refl
each_first (suc n) ok = ap (λ (x : Bool). ok (suc n) && x) (each_first n ok) ∙ swap (ok (suc n)) (ok 0) (each n (λ k. ok (suc k)))

pub all_zipped : (test : ℕ × ℕ → Bool) (xs ys : List ℕ) → length xs ≡ length ys → list_all test (zip xs ys) ≡ each (length ys) (λ k. test (get_or xs k 0, get_or ys k 0))
unfolding each
all_zipped test [] [] e = refl
all_zipped test [] (y ∷ ys) e = absurd (omega (arith, e))
all_zipped test (x ∷ xs) [] e = absurd (omega (arith, e))
all_zipped test (x ∷ xs) (y ∷ ys) e =
    ap (λ (r : Bool). test (x, y) && r) (all_zipped test xs ys (omega (arith, e)))
    ∙ sym (each_first (length ys) (λ k. test (get_or (x ∷ xs) k 0, get_or (y ∷ ys) k 0)))
