-- What a call writes at the front of an output that it is lent. Assumes nothing.
use Rattle.std.specs.Prelude.{List, ◌++◌, length, drop}

-- numbers at the front of an output: "extra output is untouched"
abbrev pub in_front {ℓ} : {A : Type ℓ} → List A → List A → List A
in_front numbers output = numbers ++ drop (length numbers) output
