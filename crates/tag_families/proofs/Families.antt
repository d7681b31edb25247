-- The code lists' bounds, each computed once over the whole list and carried to each position; and what refusal 6 says of
-- the families. Assumes nothing.
use mathlib.Core.Path.{◌≡◌, refl, ap, ap₂, ◌∙◌}
use mathlib.Core.Bool.{Bool, true, false, not, ◌||◌}
use mathlib.Core.List.{List}
use Prim.Native.Nat.{ℕ, zero, suc, ◌*◌, ◌^◌, ◌<◌}
use native.Mathlib.Omega.{arith}
use borrow.Author.Tests.{ltb-true}
use lib.ListN.{length, get_or}
use Rattle.lists.specs.Tab.{all}
use Rattle.lists.proofs.All.{all_at}
use Rattle.tables.specs.declared.Family.{Family}
use Rattle.tables.specs.Table.{outside, bad_edge, bad_border, in_square, bad_table}
use Rattle.tag_families.specs.Codes.{t16h5, t25h7, t25h9, t36h11}
use Rattle.tag_families.specs.Families.{family_of, codes_of}

-- "Every one of the 587 T36H11 codes is below 2^36, the T25 codes below 2^25, the T16H5 codes below 2^16."
t16h5-all : all (in_square 4) t16h5 ≡ true
unfolding all
t16h5-all = refl

t25h7-all : all (in_square 5) t25h7 ≡ true
unfolding all
t25h7-all = refl

t25h9-all : all (in_square 5) t25h9 ≡ true
unfolding all
t25h9-all = refl

t36h11-all : all (in_square 6) t36h11 ≡ true
unfolding all
t36h11-all = refl

-- the numbers of families, one by one
by_family : (P : ℕ → Type 0) → P 0 → P 1 → P 2 → P 3 → P 4 → (n : ℕ) → n < 5 → P n
by_family P p0 p1 p2 p3 p4 zero h = p0
by_family P p0 p1 p2 p3 p4 (suc zero) h = p1
by_family P p0 p1 p2 p3 p4 (suc (suc zero)) h = p2
by_family P p0 p1 p2 p3 p4 (suc (suc (suc zero))) h = p3
by_family P p0 p1 p2 p3 p4 (suc (suc (suc (suc zero)))) h = p4
by_family P p0 p1 p2 p3 p4 (suc (suc (suc (suc (suc n))))) h = absurd (omega arith)

codes_all : (n : ℕ) → n < 5 → all (in_square (family_of n).edge) (codes_of n) ≡ true
codes_all =
    by_family (λ (n : ℕ). all (in_square (family_of n).edge) (codes_of n) ≡ true) t16h5-all t25h7-all t25h9-all t36h11-all t36h11-all

pub code_below : (n : ℕ) → n < 5 → (k : ℕ) → k < length (codes_of n) → get_or (codes_of n) k 0 < 2 ^ ((family_of n).edge * (family_of n).edge)
code_below n known k h =
    ltb-true (get_or (codes_of n) k 0) (2 ^ ((family_of n).edge * (family_of n).edge)) (all_at (in_square (family_of n).edge) (codes_of n) k 0 (codes_all n known) h)

-- refusal 6 by the number of codes and whether all of them are in bounds
abbrev tested : Family → ℕ → Bool → Bool
tested family count bounded =
    bad_border family.border || (bad_edge family.edge || (outside 1 1024 count || (outside 1 64 family.hamming_distance || not bounded)))

-- it lets every family through
pub families_pass : (n : ℕ) → n < 5 → bad_table (family_of n) (codes_of n) ≡ false
unfolding bad_table
families_pass n known =
    ap (tested (family_of n) (length (codes_of n))) (codes_all n known)
    ∙ by_family (λ (m : ℕ). tested (family_of m) (length (codes_of m)) true ≡ false) refl refl refl refl refl n known

-- and so every table that is a family's
pub table_passes : {n : ℕ} {family : Family} {codes : List ℕ} → n < 5 → family ≡ family_of n → codes ≡ codes_of n → bad_table family codes ≡ false
table_passes {n} known e d = ap₂ bad_table e d ∙ families_pass n known
