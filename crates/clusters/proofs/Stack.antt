-- The front of a slice as a stack, with its top at the end. A push is the library's `take_more_set`. Assumes nothing.
use mathlib.Core.Path.{◌≡◌, ap, ◌∙◌}
use mathlib.Core.List.{List, [], ◌∷◌, ◌++◌}
use Prim.Native.Nat.{ℕ, suc, ◌-◌, ◌≤◌, ◌<◌}
use native.Mathlib.Omega.{arith}
use lib.ListN.{length, take, get_or}
use lib.Seq.{take-suc}

pub popped : (l : List ℕ) (n : ℕ) → 0 < n → n ≤ length l → take n l ≡ take (n - 1) l ++ (get_or l (n - 1) 0 ∷ [])
popped l n h k =
    let e : n ≡ suc (n - 1) = omega arith in
    ap (λ (m : ℕ). take m l) e ∙ take-suc l (n - 1) 0 (omega arith)

pub emptied : (l : List ℕ) (n : ℕ) → n ≤ 0 → take n l ≡ []
emptied l n h = let e : n ≡ 0 = omega arith in rw e
