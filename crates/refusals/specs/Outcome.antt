-- What a call answers, in the words of document 01. Assumes nothing.
use Rattle.std.specs.Prelude.{ℕ}

-- a value, or the number of a refusal: "Each returns its number alone."
pub data Outcome (A : Type 0) : Type 0 where
  accepted : A → Outcome A
  refused : ℕ → Outcome A

-- the number of an outcome, 0 where it is no refusal
abbrev pub number : {A : Type 0} → Outcome A → ℕ
number (accepted a) = 0
number (refused n) = n

-- the value of a call that answers with nothing but that it is done
pub record Done : Type 0 where
