-- Each operation's result is held (`Whole.antt`), since S, A and B are at most 2^26 and the factors at most 16.
use mathlib.Core.Path.{◌≡◌, refl}
use Prim.Native.Nat.{ℕ, ◌*◌, ◌^◌, ◌≤◌, ◌<◌}
use lib.Dec.{lit<}
use lib.IntN.{ℤ, pos, ◌*ℤ◌, nat_abs}
use mir.Syntax.{w64}
use mir.Val.{of_z}
use Rattle.places.specs.Place.{from_middle}
use Rattle.places.proofs.Small.{middle_small, place_small}
use Rattle.places.proofs.Whole.{Held, Made, number, natural, plus, times}
use Rattle.places.proofs.Axis.place.Goals.{After-from_middle, After-from_middle-2, Start}
use Rattle.places.proofs.Axis.place.Goals as goal

large : (z : ℤ) → nat_abs z ≤ 2 ^ 26 → Held (of_z w64 z) z (2 ^ 26)
large z h = number z z (2 ^ 26) refl (lit< tt) h

-- the three terms
sum_term : (k : Start) → Made ◌*ℤ◌ (of_z w64 k.args.self.s) k.args.side (k.args.self.s *ℤ pos k.args.side) (2 ^ 26 * 16)
sum_term k = times (large k.args.self.s k.requires.small.s_small) (natural k.args.side 16 (lit< tt) k.requires.side_le) (lit< tt)

term : (side i : ℕ) (r z : ℤ) → side ≤ 16 → i < side → r ≡ from_middle side i → nat_abs z ≤ 2 ^ 26
    → Made ◌*ℤ◌ (of_z w64 r) (of_z w64 z) (from_middle side i *ℤ z) (16 * 2 ^ 26)
term side i r z h l e k = times (number r (from_middle side i) 16 e (lit< tt) (middle_small side i h l)) (large z k) (lit< tt)

module _ (c : After-from_middle) where
  row_term : Made ◌*ℤ◌ (of_z w64 c.from_middle.result) (of_z w64 c.args.self.a) (from_middle c.args.side c.args.i *ℤ c.args.self.a) (16 * 2 ^ 26)
  row_term = term c.args.side c.args.i c.from_middle.result c.args.self.a c.requires.side_le c.requires.row c.from_middle.ensures c.requires.small.a_small

module _ (c : After-from_middle-2) where
  column_term : Made ◌*ℤ◌ (of_z w64 c.from_middle-2.result) (of_z w64 c.args.self.b) (from_middle c.args.side c.args.j *ℤ c.args.self.b) (16 * 2 ^ 26)
  column_term = term c.args.side c.args.j c.from_middle-2.result c.args.self.b c.requires.side_le c.requires.column c.from_middle-2.ensures c.requires.small.b_small

pub overflow_add-result : goal.overflow_add-result
overflow_add-result c = (plus (sum_term (goal.at.overflow_add-result c).Start).1 (row_term (goal.at.overflow_add-result c).After-from_middle).1 (lit< tt)).0

pub overflow_mul-result-3 : goal.overflow_mul-result-3
overflow_mul-result-3 c = (column_term (goal.at.overflow_mul-result-3 c).After-from_middle-2).0

pub overflow_add-result-2 : goal.overflow_add-result-2
overflow_add-result-2 c =
    (plus (plus (sum_term (goal.at.overflow_add-result-2 c).Start).1 (row_term (goal.at.overflow_add-result-2 c).After-from_middle).1 (lit< tt)).1 (column_term (goal.at.overflow_add-result-2 c).After-from_middle-2).1 (lit< tt)).0

pub returns : goal.returns
returns c =
    let value =
    (plus (plus (sum_term (goal.at.returns c).Start).1 (row_term (goal.at.returns c).After-from_middle).1 (lit< tt)).1 (column_term (goal.at.returns c).After-from_middle-2).1 (lit< tt)).1.is in
    record { value = value; small = rw value (place_small c.args.self c.args.side c.args.i c.args.j c.requires) }
