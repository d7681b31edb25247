-- What sums and a count that refusal 15 lets through are like. Assumes nothing.
use mathlib.Core.Path.{◌≡◌}
use mathlib.Core.Bool.{Bool, false, ◌||◌}
use Prim.Native.Nat.{ℕ, ◌^◌, ◌<◌}
use lib.Dec.{leb, eqb}
use borrow.Author.Tests.{leb-false}
use Rattle.std.proofs.lemmas.Bool.{or_parts}
use Rattle.clusters.specs.Center.{bad_center}

pub record Small (sum_x sum_y count : ℕ) : Type 0 where
  pub x : sum_x < 2 ^ 24
  pub y : sum_y < 2 ^ 24
  pub n : count < 2 ^ 24

pub good_center : (sum_x sum_y count : ℕ) → bad_center sum_x sum_y count ≡ false → Small sum_x sum_y count
unfolding bad_center
good_center sum_x sum_y count e =
    let a : Bool = leb (2 ^ 24) sum_x in
    let b : Bool = leb (2 ^ 24) sum_y in
    let c : Bool = leb (2 ^ 24) count in
    let q = (or_parts (a || b || c) (eqb count 0) e).0 in
    let r = (or_parts (a || b) c q).0 in
    record {
      x = leb-false (2 ^ 24) sum_x (or_parts a b r).0;
      y = leb-false (2 ^ 24) sum_y (or_parts a b r).1;
      n = leb-false (2 ^ 24) count (or_parts (a || b) c q).1;
    }
