-- The families by number: "Each family has edge, border and match threshold: T16H5 4, 2, 1; T25H7 5, 2, 2; T25H9 5, 2, 2;
-- T36H11 6, 2, 3; T36H11B1 6, 1, 3." Assumes nothing.
use Rattle.std.specs.Prelude.{ℕ, Bool, List, [], ◌∷◌, ltb, get_or}
use Rattle.tables.specs.declared.Family.{Family}
use Rattle.tag_families.specs.Codes.{t16h5, t25h7, t25h9, t36h11}

abbrev pub family : ℕ → ℕ → ℕ → Family
family edge border threshold = record { edge = edge; border = border; hamming_distance = threshold }

-- there is a family of this number
abbrev pub is_family : ℕ → Bool
is_family number = ltb number 5

-- the small table, and the code lists, in the order of the family numbers: T16H5, T25H7, T25H9, T36H11, T36H11B1
abbrev pub families : List Family
families = family 4 2 1 ∷ family 5 2 2 ∷ family 5 2 2 ∷ family 6 2 3 ∷ family 6 1 3 ∷ []

abbrev pub lists : List (List ℕ)
lists = t16h5 ∷ t25h7 ∷ t25h9 ∷ t36h11 ∷ t36h11 ∷ []

abbrev pub family_of : ℕ → Family
family_of number = get_or families number (family 0 0 0)

abbrev pub codes_of : ℕ → List ℕ
codes_of number = get_or lists number []
