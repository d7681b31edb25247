-- Blocks of pixels that are painted one after another. Assumes nothing.
use mathlib.Core.Path.{◌≡◌, refl, sym, ap, ap₂, ◌∙◌}
use mathlib.Core.Bool.{Bool, true, false, ◌&&◌, ◌||◌, cond, and-or_distrib_left, and-false, true≢false}
use mathlib.Core.List.{List}
use Prim.Native.Nat.{ℕ, ◌+◌, ◌-◌, ◌<◌, ◌≤◌}
use native.Mathlib.Nat.{mul-le-mul}
use native.Mathlib.Omega.{arith}
use borrow.Rule.Slice.PartMut.{put_mid}
use borrow.Author.Tests.{ltb-false}
use lib.ListN.{length, get_or}
use Rattle.std.specs.Cmp.{both_ways, first_so, second_so}
use Rattle.lists.proofs.Bools.{overlay}
use Rattle.refusals.specs.Pixels.{SmallFrame, bad_frame, place_of, column_of, line_of, is_pixel}
use Rattle.refusals.specs.declared.Frame.{Frame}
use Rattle.refusals.proofs.Pixels.{place_column, place_row, byte_place, place_beside, good_frame}
use Rattle.painter.specs.Picture.{repainted, between, run_written, in_block, block_pixel, filled}
use Rattle.painter.proofs.Runs.{Within, is_within, within, between_none, between_more, length_run, byte_run, part_written}
use Rattle.painter.proofs.Picture.{is_repainted, byte_is, repainted_none, repainted_twice, repainted_same}

pub record In (x0 y0 wide high x y : ℕ) : Type 0 where
  pub across : Within x0 wide x
  pub down : Within y0 high y

pub is_in : (x0 y0 wide high x y : ℕ) → in_block x0 y0 wide high x y ≡ true → In x0 y0 wide high x y
is_in x0 y0 wide high x y e = record {
  across = is_within x0 wide x (first_so (between x0 wide x) (between y0 high y) e);
  down = is_within y0 high y (second_so (between x0 wide x) (between y0 high y) e);
}

pub block_in : (x0 y0 wide high x y : ℕ) → x0 ≤ x → x < x0 + wide → y0 ≤ y → y < y0 + high → in_block x0 y0 wide high x y ≡ true
block_in x0 y0 wide high x y a b c d = ap₂ ◌&&◌ (within x0 wide x a b) (within y0 high y c d)

-- a block with more rows, and one of none
pub more_rows : (x0 y0 wide n m x y : ℕ) → in_block x0 y0 wide (n + m) x y ≡ in_block x0 y0 wide n x y || in_block x0 (y0 + n) wide m x y
more_rows x0 y0 wide n m x y =
    ap (λ (t : Bool). between x0 wide x && t) (between_more y0 n m y)
    ∙ and-or_distrib_left (between x0 wide x) (between y0 n y) (between (y0 + n) m y)

pub no_rows : (x0 y0 wide x y : ℕ) → in_block x0 y0 wide 0 x y ≡ false
no_rows x0 y0 wide x y = ap (λ (t : Bool). between x0 wide x && t) (between_none y0 y) ∙ and-false (between x0 wide x)

-- ---- a run of bytes within a row is a block of one row

module _ (frame : Frame) (x y n k : ℕ) (fits : x + n ≤ frame.width) (pitched : frame.width ≤ frame.pitch) where
  -- the run's byte i is the block's pixel i
  run_pixel : Within (place_of frame x y) n k → (column_of frame k ≡ x + (k - place_of frame x y)) × (line_of frame k ≡ y)
  run_pixel i =
      let d = k - place_of frame x y in
      let wide : x + d < frame.pitch = omega (arith, i.from, i.to) in
      let e : place_of frame (x + d) y ≡ k = place_beside frame x y d ∙ omega (arith, i.from) in
      (ap (column_of frame) (sym e) ∙ place_column frame (x + d) y wide, ap (line_of frame) (sym e) ∙ place_row frame (x + d) y wide)

  run_to_block : Within (place_of frame x y) n k → In x y n 1 (column_of frame k) (line_of frame k)
  run_to_block i =
      let p = run_pixel i in
      record { across = record { from = omega (arith, p.0); to = omega (arith, p.0, i.from, i.to) }; down = record { from = omega (arith, p.1); to = omega (arith, p.1) } }

  block_to_run : In x y n 1 (column_of frame k) (line_of frame k) → Within (place_of frame x y) n k
  block_to_run i =
      let row : line_of frame k ≡ y = omega (arith, i.down.from, i.down.to) in
      let d = column_of frame k - x in
      let column : column_of frame k ≡ x + d = omega (arith, i.across.from) in
      let e : place_of frame x y + d ≡ k = sym (place_beside frame x y d) ∙ (λ j. place_of frame (sym column j) (sym row j)) ∙ byte_place frame k in
      record { from = omega arith; to = omega (arith, i.across.to) }

  run_block : between (place_of frame x y) n k ≡ in_block x y n 1 (column_of frame k) (line_of frame k)
  run_block =
      both_ways (between (place_of frame x y) n k) (in_block x y n 1 (column_of frame k) (line_of frame k))
      (λ e. let i = run_to_block (is_within (place_of frame x y) n k e) in block_in x y n 1 (column_of frame k) (line_of frame k) i.across.from i.across.to i.down.from i.down.to)
      (λ e. let i = block_to_run (is_in x y n 1 (column_of frame k) (line_of frame k) e) in within (place_of frame x y) n k i.from i.to)

-- filler is in no such run
run_filler : (frame : Frame) (x y n k : ℕ) → x + n ≤ frame.width → frame.width ≤ frame.pitch → is_pixel frame k ≡ false → between (place_of frame x y) n k ≡ false
run_filler frame x y n k fits pitched e =
    both_ways (between (place_of frame x y) n k) false
    (λ b.
    let i = run_to_block frame x y n k fits pitched (is_within (place_of frame x y) n k b) in
    let beyond = ltb-false (column_of frame k) frame.width e in
    absurd (omega (arith, i.across.to)))
    (λ b. absurd (true≢false (sym b)))

-- two tests alike, which set the same where they pass
same_set : (a b : Bool) (s t old : ℕ) → a ≡ b → (a ≡ true → s ≡ t) → cond a s old ≡ cond b t old
same_set true b s t old e h = h refl ∙ ap (λ (u : Bool). cond u t old) e
same_set false b s t old e h = ap (λ (u : Bool). cond u t old) e

run_painted : (frame : Frame) (x y n : ℕ) (new : ℕ → ℕ) (plane : List ℕ) → x + n ≤ frame.width → frame.width ≤ frame.pitch
    → run_written (place_of frame x y) n new plane ≡ repainted frame (block_pixel x y n 1 new) plane
run_painted frame x y n new plane fits pitched =
    let start = place_of frame x y in
    is_repainted frame (block_pixel x y n 1 new) plane (run_written start n new plane) (length_run start new plane n)
    (λ k b.
    let run = byte_run start new plane n k b in
    byte_is frame (block_pixel x y n 1 new) k (get_or plane k 0) (get_or (run_written start n new plane) k 0)
    (λ _.
    run ∙ same_set (between start n k) (in_block x y n 1 (column_of frame k) (line_of frame k)) (new (k - start)) (new (column_of frame k - x)) (get_or plane k 0)
    (run_block frame x y n k fits pitched)
    (λ t. ap new (omega (arith, (run_pixel frame x y n k fits pitched (is_within start n k t)).0))))
    (λ e. run ∙ ap (λ (t : Bool). cond t (new (k - start)) (get_or plane k 0)) (run_filler frame x y n k fits pitched e)))

-- ---- the loop that paints a block row by row

module _ (frame : Frame) (x y wide : ℕ) (new : ℕ → ℕ) (plane : List ℕ) where
  pub block_none : plane ≡ repainted frame (block_pixel x y wide 0 new) plane
  block_none =
      repainted_none frame (block_pixel x y wide 0 new) plane (λ px py old. ap (λ (t : Bool). cond t (new (px - x)) old) (no_rows x y wide px py))

  -- one row more is written, as one part of the plane
  pub block_more : (n start k : ℕ) (out ys : List ℕ) → start ≡ place_of frame x (y + n) → k ≡ wide → start + wide ≤ length out → length ys ≡ wide
      → ((i : ℕ) → i < wide → get_or ys i 0 ≡ new i) → x + wide ≤ frame.width → frame.width ≤ frame.pitch → out ≡ repainted frame (block_pixel x y wide n new) plane
      → put_mid start k out ys ≡ repainted frame (block_pixel x y wide (n + 1) new) plane
  block_more n start k out ys s w inside l is fits pitched e =
      part_written start new out k wide ys w inside l is
      ∙ ap (λ (m : ℕ). run_written m wide new out) s
      ∙ run_painted frame x (y + n) wide new out fits pitched
      ∙ ap (repainted frame (block_pixel x (y + n) wide 1 new)) e
      ∙ repainted_twice frame (block_pixel x y wide n new) (block_pixel x (y + n) wide 1 new) (block_pixel x y wide (n + 1) new) plane (λ px py old.
      overlay (in_block x y wide n px py) (in_block x (y + n) wide 1 px py) (new (px - x)) (new (px - x)) old (λ t. refl)
      ∙ ap (λ (t : Bool). cond t (new (px - x)) old) (sym (more_rows x y wide n 1 px py)))

-- ---- one row of a block that a loop writes

-- n pixels of line y, from (x, y) on: where they begin can be worked out, and they end within the plane of len bytes
pub record Run (len : ℕ) (frame : Frame) (x y n : ℕ) : Type 0 where
  pub begins : SmallFrame frame × (x ≤ 4096) × (y ≤ 4096)
  pub inside : place_of frame x y + n ≤ len
  -- at most 4096 × 8192 + 4096
  pub small : place_of frame x y + n ≤ 33558528

pub run_of : {len : ℕ} {frame : Frame} → bad_frame len frame ≡ false → (x y n : ℕ) → x + n ≤ frame.width → y < frame.height → Run len frame x y n
run_of e x y n fits h =
    let g = good_frame e in
    let low : y ≤ 4096 = omega (arith, g.sides.height_le) in
    record {
      begins = (g.pitched.at_most, omega (arith, g.sides.width_le), low);
      inside = g.run_inside x y n fits h;
      small = omega (arith, mul-le-mul low g.pitched.at_most, g.sides.width_le);
    }

-- the block of all rows and columns has every pixel
pub whole_block : (frame : Frame) (light : ℕ) (plane next : List ℕ) → bad_frame (length plane) frame ≡ false
    → next ≡ repainted frame (block_pixel 0 0 frame.width frame.height (λ i. light)) plane → next ≡ filled frame light plane
whole_block frame light plane next good e =
    let w = frame.width in
    let h = frame.height in
    e ∙ repainted_same frame (block_pixel 0 0 w h (λ i. light)) (λ x y old. light) plane (good_frame good) (λ x y old hx hy.
    ap (λ (t : Bool). cond t light old) (block_in 0 0 w h x y (omega arith) (omega arith) (omega arith) (omega arith)))
