-- A part of a list that is lent, and comes back. Assumes nothing.
use mathlib.Core.Path.{◌≡◌, ◌∙◌}
use mathlib.Core.List.{List, ◌++◌}
use Prim.Native.Nat.{ℕ, ◌+◌, ◌-◌, ◌≤◌, ◌<◌}
use native.Mathlib.Omega.{arith}
use lib.ListN.{length, get_or, take, drop, length-append, length-drop}
use lib.Seq.{length-take-le, get_or-take, get_or-drop}

module _ {ℓ} {A : Type ℓ} where
  -- the part of a list from a to e
  pub part_length : (l : List A) (a e k : ℕ) → e ≤ length l → e ≡ a + k → length (take (e - a) (drop a l)) ≡ k
  part_length l a e k fits is = length-take-le (e - a) (drop a l) (omega (arith, length-drop a l)) ∙ omega arith

  pub part_read : (l : List A) (a k x : ℕ) (d : A) → x < k → get_or (take k (drop a l)) x d ≡ get_or l (a + x) d
  part_read l a k x d h = get_or-take k (drop a l) x d h ∙ get_or-drop a l x d

  -- the list when it is back: the k elements from a on are ys, the others as they were
  abbrev pub back : List A → ℕ → ℕ → List A → List A
  back xs a k ys = take a xs ++ (ys ++ drop k (drop a xs))

  pub length-back : (xs ys : List A) (a k : ℕ) → a + k ≤ length xs → length ys ≡ k → length (back xs a k ys) ≡ length xs
  length-back xs ys a k fits whole =
      simp (length-append, length-drop) (omega (arith, length-take-le a xs (omega arith), whole))
