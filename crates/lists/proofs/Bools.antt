-- A law of conditionals that the library lacks; those of tests are the library's (`Rattle.std.proofs.lemmas.Bool`, `Rattle.std.specs.Cmp`).
-- Assumes nothing.
use mathlib.Core.Path.{◌≡◌, refl}
use mathlib.Core.Bool.{Bool, true, false, ◌||◌, cond}

-- what is set to s by one test and then to t by another is set to s by either, where t is s
pub overlay {ℓ} : {A : Type ℓ} (a b : Bool) (s t old : A) → (b ≡ true → t ≡ s) → cond b t (cond a s old) ≡ cond (a || b) s old
overlay true true s t old e = e refl
overlay true false s t old e = refl
overlay false true s t old e = e refl
overlay false false s t old e = refl
