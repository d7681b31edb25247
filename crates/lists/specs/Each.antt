-- Tests of the numbers below n: of every one, and of any. Assumes nothing.
use Rattle.std.specs.Prelude.{ℕ, zero, suc, Bool, true, false, ◌&&◌, ◌||◌}

-- every number below n passes the test
unfoldable pub each : ℕ → (ℕ → Bool) → Bool
each zero ok = true
each (suc n) ok = ok n && each n ok

-- one of the numbers below k passes the test
unfoldable pub any : ℕ → (ℕ → Bool) → Bool
any zero test = false
any (suc k) test = any k test || test k
