-- Demand 3, undivided, over the definitions that the public entries are proved equal to. Each hypothesis has its sentence beside it, of
-- document 01 ("What demand 3 compares"), of 02's tickets 2 and 4 or of the demand itself. Assumes nothing.
use Rattle.std.specs.Prelude.{◌≡◌, List, ℕ, ◌-◌, ◌%◌, ◌<◌, Float, length, get_or}
use Rattle.refusals.specs.Outcome.{accepted}
use Rattle.refusals.specs.declared.Frame.{Frame}
use Rattle.points.specs.declared.Quad.{Quad}
use Rattle.points.specs.Turned.{turned_left}
use Rattle.points.specs.Numbers.{quad_at, corners_at}
use Rattle.tables.specs.declared.Family.{Family}
use Rattle.tag_families.specs.Families.{family_of, codes_of}
use Rattle.word.specs.Word.{differing}
use Rattle.painter.specs.declared.Print.{Print}
use Rattle.reader.specs.Reading.{Tag}
use Rattle.listing.specs.Listing.{row_of, corners_of, row_at, but_turn}
use Rattle.muosleap.specs.Likeness.{check_likeness}
use Rattle.muosleap_paint.specs.PaintTag.{paint_tag, paint_tag_in}
use Rattle.muosleap.specs.Quad.{decode_quad, decode_quad_in}
use Rattle.muosleap.specs.Quads.{decode_quads, decode_quads_in}
use Rattle.paper.specs.Starts.{from_start}
use Rattle.paper.specs.Others.{NoOther}

-- "every table that passes the likeness check": the entry's answer is that it passes
abbrev pub Passes : Family → List ℕ → Type 0
Passes family codes = check_likeness family codes ≡ accepted (record {})

-- ---- a painted tag

-- "a painting word that differs from it in fewer bits than the match threshold: these bits are the misprinted modules": how many they are
abbrev pub misprints : List ℕ → ℕ → ℕ → ℕ
misprints codes id word = differing word (get_or codes id 0)

-- what is painted, and on what
pub record Painted (family : Family) (codes : List ℕ) (id word : ℕ) (plane : List ℕ) (frame : Frame) (print : Print) (quad : Quad) (shown : List ℕ) : Type 0 where
  pub passes : Passes family codes
  -- "Take a code of the table ..: .. the code's position from 0 is the tag's own number."
  pub known : id < length codes
  -- "with fewer misprinted modules than the table's threshold, whichever they are"
  pub misprinted : misprints codes id word < family.hamming_distance
  -- "The word is painted with the table's edge and border.": on any plane and with any print that the painter takes. It answers with the
  -- quad, and leaves the plane as shown
  pub painted : paint_tag plane frame family.edge family.border word print ≡ record { answer = accepted quad; plane = shown }

-- "Print order of the answer is fourth, third, second, first corner."
abbrev pub print_order : Quad → Quad
print_order q = record { q0 = q.q3; q1 = q.q2; q2 = q.q1; q3 = q.q0 }

-- "turn (4 − s) modulo 4"
abbrev pub own_turn : ℕ → ℕ
own_turn s = (4 - s) % 4

-- "no refusal but these: id the own number, turn (4 − s) modulo 4, corners in print order"; "A tag painted under demand 3's conditions is to be
-- read with exactly as many differing modules as were misprinted."
abbrev pub own_tag : List ℕ → ℕ → ℕ → Quad → ℕ → Tag
own_tag codes id word quad s = record { id = id; turn = own_turn s; differing = misprints codes id word; corners = print_order quad }

-- "Start s of the painter's quad is then read with the same table and threshold, on the plane as the painter left it." Ticket 8 of 02 says the
-- same of every picture that is lit well enough; `shown` is what is read
pub record ReadsOwn (family : Family) (codes : List ℕ) (id word : ℕ) (frame : Frame) (quad : Quad) (shown : List ℕ) (s : ℕ) : Type 0 where
  -- "Both the quad reader's answer ..
  pub alone : decode_quad shown frame family codes (turned_left s quad) ≡ accepted (own_tag codes id word quad s)
  -- .. and this start's row and corner numbers, in every accepted list reading of this plane that holds it": at whatever position i and beside
  -- whatever other quads, "for each quad whose id no other quad of the list gives"
  pub listed : (quads : List Float) (rows : List ℕ) (corners : List Float) (n i : ℕ) → let result = decode_quads shown frame family codes quads rows corners in
      result.answer ≡ accepted n → i < n → quad_at quads i ≡ turned_left s quad → NoOther (λ j. decode_quad shown frame family codes (quad_at quads j)) n i id
      → (row_at result.rows i ≡ row_of (accepted (own_tag codes id word quad s))) × (corners_at result.corners i ≡ corners_of (accepted (own_tag codes id word quad s)))

-- ---- any quad on any plane

-- two quads that differ only in their starts
pub record OtherStart (a b : Quad) : Type 0 where
  pub start : ℕ
  pub start_lt : start < 4
  pub turned : b ≡ turned_left start a

-- ---- the whole demand

pub record Demand3 : Type 0 where
  -- "a tag painted by 01's painter, wherever it fits, in any cell size, shades and quarter turn that the painter takes, with fewer misprinted
  -- modules than the table's threshold, whichever they are, is read under its own number with its corners in print order, from whichever corner
  -- the clockwise quad starts"
  pub painted_tags : (family : Family) (codes : List ℕ) (id word : ℕ) (plane : List ℕ) (frame : Frame) (print : Print) (quad : Quad) (shown : List ℕ)
      → Painted family codes id word plane frame print quad shown → (s : ℕ) → s < 4 → ReadsOwn family codes id word frame quad shown s
  -- "On any plane, with any table that passes the likeness check and any eight numbers: if one start is refused, all four are, under one number;
  -- else all give one id and the same corners, and start s the turn of start 0 less s, modulo 4." All give one number of differing modules, too
  pub any_quad : (plane : List ℕ) (frame : Frame) (family : Family) (codes : List ℕ) (quad : Quad) → Passes family codes → (s : ℕ) → s < 4
      → decode_quad plane frame family codes (turned_left s quad) ≡ from_start s (decode_quad plane frame family codes quad)
  -- "Two accepted list readings of one plane and one such table whose quads differ only in their starts agree in all rows and corner numbers but
  -- for the turns." So they agree in the numbers of differing modules
  pub any_lists : (plane : List ℕ) (frame : Frame) (family : Family) (codes : List ℕ) → Passes family codes
      → (quads quads' : List Float) (rows rows' : List ℕ) (corners corners' : List Float) (n n' : ℕ)
      → let result = decode_quads plane frame family codes quads rows corners in
      let result' = decode_quads plane frame family codes quads' rows' corners' in
      result.answer ≡ accepted n → result'.answer ≡ accepted n' → n ≡ n'
      → ((i : ℕ) → i < n → OtherStart (quad_at quads i) (quad_at quads' i))
      → (i : ℕ) → i < n → (but_turn (row_at result.rows i) ≡ but_turn (row_at result'.rows i)) × (corners_at result.corners i ≡ corners_at result'.corners i)
  -- the entries by family number are those with the family's table
  pub by_number : (number : ℕ) → number < 5 → (plane : List ℕ) (frame : Frame)
      → ((quad : Quad) → decode_quad_in plane frame number quad ≡ decode_quad plane frame (family_of number) (codes_of number) quad)
      × ((quads : List Float) (rows : List ℕ) (corners : List Float) → decode_quads_in plane frame number quads rows corners ≡ decode_quads plane frame (family_of number) (codes_of number) quads rows corners)
      × ((word : ℕ) (print : Print) → paint_tag_in plane frame number word print ≡ paint_tag plane frame (family_of number).edge (family_of number).border word print)
