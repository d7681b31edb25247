-- The lines of a plane without filler: how many bytes they are, and where each pixel is. Assumes nothing.
use mathlib.Core.Path.{◌≡◌, refl, sym, ap, ap₂, ◌∙◌, subst}
use mathlib.Core.Bool.{Bool, true, false, not, ◌||◌}
use mathlib.Core.List.{List, ◌++◌}
use Prim.Native.Nat.{ℕ, zero, suc, ◌+◌, ◌-◌, ◌*◌, ◌/◌, ◌%◌, ◌≤◌, ◌<◌}
use native.Mathlib.Nat.{mul_comm, mod-lt, div-lt_iff_lt-mul, div-add-mod', le_refl}
use native.Mathlib.Omega.{arith}
use borrow.Author.Tests.{le-ltb, eq-eqb}
use lib.Dec.{ltb, eqb}
use lib.ListN.{length, get_or, take, drop, length-append, length-drop, get_or-append}
use lib.Seq.{length-take-le, get_or-take, get_or-drop, get_or-append-add, ext_get_or}
use Rattle.lists.proofs.Grid.{next_row}
use Rattle.std.proofs.lemmas.Bool.{or_parts, or_from}
use Rattle.refusals.specs.Plane.{bad_sides, bad_plane}
use Rattle.refusals.specs.Pixels.{packed_frame, bad_pitch, bytes_of, bad_frame, level_at}
use Rattle.refusals.specs.declared.Frame.{Frame}
use Rattle.refusals.proofs.Plane.{good_sides}
use Rattle.refusals.proofs.Pixels.{Framed, good_frame}
use Rattle.paper.specs.Padded.{lines_of, without_filler, packed, SamePixels}

-- ---- the lines of a plane

module _ (width pitch : ℕ) where
  -- n lines, the last of them without filler, lie in so many bytes
  Room : ℕ → List ℕ → Type 0
  Room n bytes = (y : ℕ) → y < n → y * pitch + width ≤ length bytes

  -- behind the first line
  Room-less : (n : ℕ) (bytes : List ℕ) → Room (suc n) bytes → Room n (drop pitch bytes)
  unfolding Room
  Room-less n bytes room y h =
      let r = room (suc y) (omega arith) in
      omega (arith, length-drop pitch bytes, next_row pitch y, r)

  first_line : (n : ℕ) (bytes : List ℕ) → Room (suc n) bytes → length (take width bytes) ≡ width
  unfolding Room
  first_line n bytes room = length-take-le width bytes (omega (arith, room 0 (omega arith)))

  length_lines : (n : ℕ) (bytes : List ℕ) → Room n bytes → length (lines_of width pitch n bytes) ≡ n * width
  unfolding lines_of
  length_lines zero bytes room = omega arith
  length_lines (suc n) bytes room =
      length-append (take width bytes) (lines_of width pitch n (drop pitch bytes))
      ∙ omega (arith, first_line n bytes room, length_lines n (drop pitch bytes) (Room-less n bytes room), next_row width n)

  -- byte x of line y
  line_byte : (n : ℕ) (bytes : List ℕ) → Room n bytes → (x y d : ℕ) → x < width → y < n → get_or (lines_of width pitch n bytes) (y * width + x) d ≡ get_or bytes (y * pitch + x) d
  unfolding lines_of
  line_byte zero bytes room x y d hx hy = absurd (omega arith)
  line_byte (suc n) bytes room x zero d hx hy =
      let rest = lines_of width pitch n (drop pitch bytes) in
      let front : zero * width + x ≡ x = omega arith in
      let back : x ≡ zero * pitch + x = omega arith in
      ap (λ (k : ℕ). get_or (take width bytes ++ rest) k d) front
      ∙ get_or-append (take width bytes) rest d x (omega (arith, first_line n bytes room))
      ∙ get_or-take width bytes x d hx
      ∙ ap (λ (k : ℕ). get_or bytes k d) back
  line_byte (suc n) bytes room x (suc y) d hx hy =
      let rest = lines_of width pitch n (drop pitch bytes) in
      let front : suc y * width + x ≡ length (take width bytes) + (y * width + x) = omega (arith, first_line n bytes room, next_row width y) in
      let back : pitch + (y * pitch + x) ≡ suc y * pitch + x = omega (arith, next_row pitch y) in
      ap (λ (k : ℕ). get_or (take width bytes ++ rest) k d) front
      ∙ get_or-append-add (take width bytes) rest (y * width + x) d
      ∙ line_byte n (drop pitch bytes) (Room-less n bytes room) x y d hx (omega arith)
      ∙ get_or-drop pitch bytes (y * pitch + x) d
      ∙ ap (λ (k : ℕ). get_or bytes k d) back

-- two planes without filler that have the same pixels are one
pub same_plane : (width height : ℕ) (a b : List ℕ) → 0 < width → length a ≡ height * width → length b ≡ height * width
    → ((x y : ℕ) → x < width → y < height → get_or a (y * width + x) 0 ≡ get_or b (y * width + x) 0) → a ≡ b
same_plane width height a b wide la lb h =
    ext_get_or 0 a b (la ∙ sym lb) (λ k l.
    subst (λ (n : ℕ). get_or a n 0 ≡ get_or b n 0) (div-add-mod' k width)
    (h (k % width) (k / width) (mod-lt k wide) ((div-lt_iff_lt-mul {k = width} wide).1 (omega (arith, la)))))

-- ---- refusal 1, where the pitch is the width

pub before_1 : (len width height : ℕ) → bad_frame len (packed_frame width height) ≡ bad_plane len width height
unfolding bad_frame bad_plane
before_1 len width height = go (bad_sides width height) refl
  where
    go : (t : Bool) → bad_sides width height ≡ t
        → bad_sides width height || ((ltb width width || ltb 8192 width) || not (eqb len (width * (height - 1) + width))) ≡ bad_sides width height || not (eqb len (width * height))
    go true e = simp e
    go false e =
        let s = good_sides {width = width} {height = height} e in
        let small : width ≤ 8192 = omega (arith, s.width_le) in
        let lines : height - 1 + 1 ≡ height = omega (arith, s.high) in
        let whole : width * (height - 1) + width ≡ width * height =
        omega (arith, mul_comm width (height - 1), mul_comm width height, next_row width (height - 1), ap (λ (n : ℕ). n * width) lines) in
        ap₂ (λ (a b : Bool). bad_sides width height || ((a || b) || not (eqb len (width * (height - 1) + width)))) (le-ltb width width (le_refl width)) (le-ltb 8192 width small)
        ∙ ap (λ (n : ℕ). bad_sides width height || not (eqb len n)) whole

-- ---- a plane that refusal 1 lets through

good_lines : (frame : Frame) (len : ℕ) → bad_frame len frame ≡ false → bad_plane (frame.height * frame.width) frame.width frame.height ≡ false
unfolding bad_frame bad_plane
good_lines frame len e =
    let w = frame.width in
    let h = frame.height in
    let rest = bad_pitch w frame.pitch || not (eqb len (bytes_of frame)) in
    or_from (bad_sides w h) (not (eqb (h * w) (w * h))) (or_parts (bad_sides w h) rest e).0 (ap not (eq-eqb (h * w) (w * h) (mul_comm h w)))

module _ (plane : List ℕ) (frame : Frame) (good : bad_frame (length plane) frame ≡ false) where
  pub framed : Framed (length plane) frame
  framed = good_frame good

  room : Room frame.width frame.pitch frame.height plane
  unfolding Room
  room y h = omega (arith, framed.run_inside 0 y frame.width (omega arith) h)

  pub length_without : length (without_filler frame plane) ≡ frame.height * frame.width
  length_without = length_lines frame.width frame.pitch frame.height plane room

  -- each pixel is where it was
  pub pixel_without : (x y : ℕ) → x < frame.width → y < frame.height → level_at (without_filler frame plane) (packed frame) x y ≡ level_at plane frame x y
  pixel_without x y hx hy = line_byte frame.width frame.pitch frame.height plane room x y 0 hx hy

  pub good_packed : bad_frame (length (without_filler frame plane)) (packed frame) ≡ false
  good_packed =
      before_1 (length (without_filler frame plane)) frame.width frame.height
      ∙ ap (λ (n : ℕ). bad_plane n frame.width frame.height) length_without
      ∙ good_lines frame (length plane) good

-- ---- two planes that agree off their filler

module _ (plane : List ℕ) (frame : Frame) (other : List ℕ) (frame' : Frame) (good : bad_frame (length plane) frame ≡ false) (good' : bad_frame (length other) frame' ≡ false)
    (same : SamePixels plane frame other frame') where
  pub same_packed : packed frame ≡ packed frame'
  same_packed = ap₂ packed_frame same.widths same.heights

  pub same_lines : without_filler frame plane ≡ without_filler frame' other
  same_lines =
      same_plane frame.width frame.height (without_filler frame plane) (without_filler frame' other) (framed plane frame good).sides.wide
      (length_without plane frame good)
      (length_without other frame' good' ∙ ap₂ ◌*◌ (sym same.heights) (sym same.widths))
      (λ x y hx hy.
      pixel_without plane frame good x y hx hy
      ∙ same.pixels x y hx hy
      ∙ sym (pixel_without other frame' good' x y (subst (λ (n : ℕ). x < n) same.widths hx) (subst (λ (n : ℕ). y < n) same.heights hy))
      ∙ ap (λ (w : ℕ). get_or (without_filler frame' other) (y * w + x) 0) (sym same.widths))
