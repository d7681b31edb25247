-- Lists that are the same, lists that begin with another, and the part of a slice from a place on. Assumes nothing.
use mathlib.Core.Path.{◌≡◌, refl, sym, ap, ap₂, ◌∙◌}
use mathlib.Core.Bool.{Bool, true, ◌&&◌, and_assoc}
use mathlib.Core.List.{List, [], ◌∷◌, ◌++◌}
use Prim.Native.Nat.{ℕ, ◌-◌}
use native.Mathlib.Omega.{arith}
use borrow.Author.Tests.{eqb-true, eq-eqb}
use lib.Dec.{eqb}
use lib.ListN.{length, take, drop, take-append-drop, length-drop}
use lib.Seq.{take_at, take_all}
use Rattle.std.specs.Cmp.{first_so, second_so}
use Rattle.report.specs.Rows.{same}
use Rattle.report.specs.Steps.{begins_with}

pub same_refl : (l : List ℕ) → same l l ≡ true
unfolding same
same_refl [] = refl
same_refl (a ∷ l) = ap₂ (λ (x : Bool) (y : Bool). x && y) (eq-eqb a a refl) (same_refl l)

pub same-eq : (l m : List ℕ) → same l m ≡ true → l ≡ m
unfolding same
same-eq [] [] h = refl
same-eq [] (b ∷ m) h = let z : ◌≡◌ {A = ℕ} 0 1 = cc in absurd (omega arith)
same-eq (a ∷ l) [] h = let z : ◌≡◌ {A = ℕ} 0 1 = cc in absurd (omega arith)
same-eq (a ∷ l) (b ∷ m) h = ap₂ (λ (x : ℕ) (y : List ℕ). x ∷ y) (eqb-true a b (first_so (eqb a b) (same l m) h)) (same-eq l m (second_so (eqb a b) (same l m) h))

-- a list that begins with x is x and the rest, and the other way round
pub begins_means : (x l : List ℕ) → begins_with x l ≡ true → l ≡ x ++ drop (length x) l
begins_means x l h =
    sym (take-append-drop (length x) l) ∙ ap (λ (y : List ℕ). y ++ drop (length x) l) (sym (same-eq x (take (length x) l) h))

pub begins_with_lem : (x y : List ℕ) → begins_with x (x ++ y) ≡ true
begins_with_lem x y = ap (same x) (take_at x y (length x) refl) ∙ same_refl x

-- two parts one after the other
pub same-append : (x y l : List ℕ) → same (x ++ y) l ≡ begins_with x l && same y (drop (length x) l)
unfolding same
same-append [] y l = refl
same-append (a ∷ x) y [] = refl
same-append (a ∷ x) y (b ∷ l) = ap (λ (r : Bool). eqb a b && r) (same-append x y l) ∙ sym (and_assoc (eqb a b) (begins_with x l) (same y (drop (length x) l)))

-- the part of a slice from a place on
pub part_from : {A : Type 0} (l : List A) (k : ℕ) → take (length l - k) (drop k l) ≡ drop k l
part_from l k = take_all (length l - k) (drop k l) (omega (arith, length-drop k l))
