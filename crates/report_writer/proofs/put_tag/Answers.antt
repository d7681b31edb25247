-- The map, the id, the two fields that may be left out and the corners, one after another (`put_five`).
use mathlib.Core.Path.{ap}
use mathlib.Core.List.{[], ◌∷◌, flat_map}
use Prim.Native.Nat.{ℕ}
use native.Mathlib.Omega.{arith}
use Rattle.points.specs.Numbers.{numbers_of}
use Rattle.report.specs.Bytes.{map_of, low_first, unless_zero, float_bytes}
use Rattle.report.proofs.Good.{GoodTag, good_row_lem}
use Rattle.text.proofs.Join.{as_text}
use Rattle.report_writer.specs.Steps.{tag_row}
use Rattle.report_writer.proofs.Pieces.{tag_long, put_five}
use Rattle.report_writer.proofs.put_tag.Goals.{Start}
use Rattle.report_writer.proofs.put_tag.Goals as goal

abbrev good : (s : Start) → let a = s.args in GoodTag (record { id = a.id; turn = a.turn; differing = a.differing; corners = a.quad })
good s = let a = s.args in good_row_lem (tag_row a.id a.turn a.differing a.quad) s.requires.0

pub overflow_cast-id : goal.overflow_cast-id
overflow_cast-id c = omega (arith, (good (goal.at.overflow_cast-id c).Start).id_lt)

pub put_two-requires : goal.put_two-requires
put_two-requires c =
    let a = c.args in
    omega (arith, c.requires.1, tag_long a.id a.turn a.differing a.quad)

pub put_unless_zero-requires : goal.put_unless_zero-requires
unfolding low_first
put_unless_zero-requires c =
    let a = c.args in
    omega (arith, c.requires.1, tag_long a.id a.turn a.differing a.quad)

pub put_unless_zero-requires-2 : goal.put_unless_zero-requires-2
unfolding low_first
put_unless_zero-requires-2 c =
    let a = c.args in
    omega (arith, c.requires.1, tag_long a.id a.turn a.differing a.quad)

pub put_corners-requires : goal.put_corners-requires
unfolding low_first
put_corners-requires c =
    let a = c.args in
    ((good (goal.at.put_corners-requires c).Start).corners_pass, omega (arith, c.requires.1, c.put_byte.ensures, c.put_two.ensures, c.put_unless_zero.ensures, c.put_unless_zero-2.ensures, tag_long a.id a.turn a.differing a.quad))

pub returns : goal.returns
returns c =
    let a = c.args in
    put_five (map_of (tag_row a.id a.turn a.differing a.quad) ∷ []) (low_first 2 a.id) (unless_zero a.turn) (unless_zero a.differing) (flat_map float_bytes (numbers_of a.quad))
    c.requires.1 (as_text (ap (λ (m : ℕ). m ∷ []) c.tag_map.ensures) c.put_byte.ensures) c.put_two.ensures c.put_unless_zero.ensures c.put_unless_zero-2.ensures c.put_corners.ensures
