-- What the code of the check compares: one code in its four turns. Assumes nothing.
use Rattle.std.specs.Prelude.{ℕ, Bool, ◌&&◌, List, [], ◌∷◌, leb, get_or}
use Rattle.std.specs.List.{list_all}
use Rattle.word.specs.Word.{turns, differing}

-- a code, and the code turned once, twice and three times
abbrev pub four_turns : ℕ → ℕ → List ℕ
four_turns edge code = code ∷ turns edge 1 code ∷ turns edge 2 code ∷ turns edge 3 code ∷ []

-- two words differ in at least `least` bits
abbrev pub differ_in : ℕ → ℕ → ℕ → Bool
differ_in least other turned = leb least (differing turned other)

-- no turn differs from other in fewer than `least` bits
abbrev pub far_from : ℕ → List ℕ → ℕ → Bool
far_from least ts other = list_all (differ_in least other) ts

-- the code differs from its first and second turn in at least `least` bits
abbrev pub far_self : ℕ → List ℕ → Bool
far_self least ts = differ_in least (get_or ts 1 0) (get_or ts 0 0) && differ_in least (get_or ts 2 0) (get_or ts 0 0)
