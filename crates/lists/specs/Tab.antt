-- A list given by a function of the index, and tests of all its elements. Assumes nothing.
use Rattle.std.specs.Prelude.{ℕ, zero, suc, Bool, true, ◌&&◌, List, [], ◌∷◌}

-- f 0, f 1, .., f (n - 1)
unfoldable pub tabulate {ℓ} : {A : Type ℓ} → ℕ → (ℕ → A) → List A
tabulate zero f = []
tabulate (suc n) f = f zero ∷ tabulate n (λ i. f (suc i))

-- every element passes the test
unfoldable pub all {ℓ} : {A : Type ℓ} → (A → Bool) → List A → Bool
all ok [] = true
all ok (v ∷ vs) = ok v && all ok vs
