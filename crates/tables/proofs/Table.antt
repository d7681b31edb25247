-- What a table that refusal 6 lets through is like. Assumes nothing.
use mathlib.Core.Path.{◌≡◌}
use mathlib.Core.Bool.{false, not, ◌||◌}
use mathlib.Core.List.{List}
use Prim.Native.Nat.{ℕ, ◌*◌, ◌^◌, ◌<◌, ◌≤◌}
use borrow.Author.Tests.{ltb-true, ltb-false, not-false}
use lib.Dec.{ltb}
use lib.ListN.{length, get_or}
use Rattle.lists.specs.Tab.{all}
use Rattle.std.proofs.lemmas.Bool.{or_parts}
use Rattle.lists.proofs.All.{all_at}
use Rattle.tables.specs.Table.{outside, bad_edge, bad_border, in_square, bad_codes, bad_table}
use Rattle.tables.specs.declared.Family.{Family}

-- a number within a range
pub record Within (lo hi n : ℕ) : Type 0 where
  pub least : lo ≤ n
  pub most : n ≤ hi

pub within : (lo hi n : ℕ) → outside lo hi n ≡ false → Within lo hi n
within lo hi n e = record { least = ltb-false n lo (or_parts (ltb n lo) (ltb hi n) e).0; most = ltb-false hi n (or_parts (ltb n lo) (ltb hi n) e).1 }

pub good_edge : (edge : ℕ) → bad_edge edge ≡ false → Within 1 8 edge
good_edge edge e = within 1 8 edge e

pub good_border : (border : ℕ) → bad_border border ≡ false → Within 1 4 border
good_border border e = within 1 4 border e

-- codes with their edge and match threshold
pub record Codes (edge threshold : ℕ) (codes : List ℕ) : Type 0 where
  pub edges : Within 1 8 edge
  pub count : Within 1 1024 (length codes)
  pub near : Within 1 64 threshold
  pub small : (k : ℕ) → k < length codes → get_or codes k 0 < 2 ^ (edge * edge)

pub good_codes : (edge threshold : ℕ) (codes : List ℕ) → bad_codes edge threshold codes ≡ false → Codes edge threshold codes
unfolding bad_codes
good_codes edge threshold codes e =
    let fit = not (all (in_square edge) codes) in
    let e₁ = (or_parts (bad_edge edge) (outside 1 1024 (length codes) || (outside 1 64 threshold || fit)) e).1 in
    let e₂ = (or_parts (outside 1 1024 (length codes)) (outside 1 64 threshold || fit) e₁).1 in
    let ok = not-false (all (in_square edge) codes) (or_parts (outside 1 64 threshold) fit e₂).1 in
    record {
      edges = good_edge edge (or_parts (bad_edge edge) (outside 1 1024 (length codes) || (outside 1 64 threshold || fit)) e).0;
      count = within 1 1024 (length codes) (or_parts (outside 1 1024 (length codes)) (outside 1 64 threshold || fit) e₁).0;
      near = within 1 64 threshold (or_parts (outside 1 64 threshold) fit e₂).0;
      small = λ k h. ltb-true (get_or codes k 0) (2 ^ (edge * edge)) (all_at (in_square edge) codes k 0 ok h);
    }

-- a whole table
pub record Table (family : Family) (codes : List ℕ) : Type 0 where
  pub borders : Within 1 4 family.border
  pub coded : Codes family.edge family.hamming_distance codes

pub good_table : (family : Family) (codes : List ℕ) → bad_table family codes ≡ false → Table family codes
unfolding bad_table
good_table family codes e =
    let c = bad_codes family.edge family.hamming_distance codes in
    record {
      borders = good_border family.border (or_parts (bad_border family.border) c e).0;
      coded = good_codes family.edge family.hamming_distance codes (or_parts (bad_border family.border) c e).1;
    }

-- its border and its edge by themselves
pub table_border : (family : Family) (codes : List ℕ) → bad_table family codes ≡ false → bad_border family.border ≡ false
unfolding bad_table
table_border family codes e = (or_parts (bad_border family.border) (bad_codes family.edge family.hamming_distance codes) e).0

pub table_edge : (family : Family) (codes : List ℕ) → bad_table family codes ≡ false → bad_edge family.edge ≡ false
unfolding bad_table bad_codes
table_edge family codes e =
    let edge = bad_edge family.edge in
    let rest = outside 1 1024 (length codes) || (outside 1 64 family.hamming_distance || not (all (in_square family.edge) codes)) in
    (or_parts edge rest (or_parts (bad_border family.border) (edge || rest) e).1).0
