-- Whatever the picture holds and whatever numbers make the quad, its four starts read alike, with a table that passes the
-- likeness check. Assumes nothing.
use mathlib.Core.Path.{◌≡◌, refl, sym, ap, ◌∙◌, subst}
use mathlib.Core.Bool.{Bool, true, false}
use mathlib.Core.List.{List}
use Prim.Native.Nat.{ℕ, ◌+◌, ◌-◌, ◌%◌, ◌^◌, ◌<◌}
use native.Mathlib.Nat.{le_of_suc-le-suc}
use native.Mathlib.Omega.{arith}
use Rattle.refusals.specs.Outcome.{Outcome, accepted, refused}
use Rattle.refusals.specs.declared.Frame.{Frame}
use Rattle.points.specs.declared.Quad.{Quad}
use Rattle.points.specs.Turned.{turned_left, answer_corners}
use Rattle.points.proofs.Turns.{start_corners}
use Rattle.tables.specs.Table.{bad_table}
use Rattle.tables.specs.declared.Family.{Family}
use Rattle.tables.proofs.Table.{good_table, Codes}
use Rattle.word.specs.Word.{turns}
use Rattle.places.specs.Corners.{bad_corners, corners_outside}
use Rattle.places.specs.Place.{axes_of}
use Rattle.places.proofs.Turned.{bad_turned, outside_turned}
use Rattle.levels.specs.Levels.{code_of}
use Rattle.levels.proofs.Cases.{on_accepted}
use Rattle.levels.proofs.Places.{code_lt}
use Rattle.search.specs.Search.{Seen, search}
use Rattle.search.proofs.Search.{Means, search_means}
use Rattle.likeness.specs.Likeness.{likeness}
use Rattle.likeness.specs.Start.{turn_less, seen_from}
use Rattle.likeness.proofs.Apart.{unlike}
use Rattle.likeness.proofs.Reading.{turned_read}
use Rattle.reader.specs.Reading.{samples, samples_inside, levels_of, with_corners, tag_of, reading}
use Rattle.reader.proofs.Order.{reading_8, reading_9, reading_10, reading_on}
use Rattle.reader.proofs.Starts.{inside_start, code_start, levels_size}
use Rattle.paper.specs.Starts.{from_start}

-- the corners of start s at its turn are those of start 0 at its own
corners_alike : (s t : ℕ) (q : Quad) → s < 4 → t < 4 → answer_corners (turned_left s q) (turn_less s t) ≡ answer_corners q t
corners_alike s t q hs ht =
    let n : (t + (4 - s)) % 4 ≡ (t + 4 - s) % 4 = omega arith in
    ap (answer_corners (turned_left s q)) n ∙ start_corners s t q (le_of_suc-le-suc hs) (le_of_suc-le-suc ht)

module _ (family : Family) (codes : List ℕ) (table : bad_table family codes ≡ false) (passes : likeness family.edge family.hamming_distance codes ≡ true) (s : ℕ) (start : s < 4) where
  coded : Codes family.edge family.hamming_distance codes
  coded = (good_table family codes table).coded

  -- the search of a word, turned s times, with the corners of start s
  seen_alike : (q : Quad) (w : ℕ) → w < 2 ^ samples family
      → with_corners (turned_left s q) (search (turns family.edge s w) family.hamming_distance codes family.edge) ≡ from_start s (with_corners q (search w family.hamming_distance codes family.edge))
  seen_alike q w h =
      ap (with_corners (turned_left s q)) (turned_read family.edge family.hamming_distance codes coded (unlike family.edge family.hamming_distance codes passes) s w start h)
      ∙ go (search w family.hamming_distance codes family.edge) (search_means family.hamming_distance codes family.edge (omega (arith, coded.near.most)) w)
    where
      go : (o : Outcome Seen) → Means family.hamming_distance codes family.edge 4 0 w o → with_corners (turned_left s q) (seen_from s o) ≡ from_start s (with_corners q o)
      go (accepted seen) m =
          ap (λ (c : Quad). accepted (record { id = seen.id; turn = turn_less s seen.turn; differing = seen.differing; corners = c })) (corners_alike s seen.turn q start (omega (arith, m.turned, m.in_time)))
      go (refused n) m = refl

  tag_alike : (q : Quad) (o : Outcome ℕ) → ((w : ℕ) → o ≡ accepted w → w < 2 ^ samples family)
      → tag_of family codes (turned_left s q) (on_accepted (turns family.edge s) o) ≡ from_start s (tag_of family codes q o)
  unfolding tag_of
  tag_alike q (accepted w) h = seen_alike q w (h w refl)
  tag_alike q (refused n) h = refl

  module _ (plane : List ℕ) (frame : Frame) (q : Quad) where
    -- the code's word lies in the square
    word_lt : (w : ℕ) → code_of (levels_of plane frame family (axes_of q)) 10 3 ≡ accepted w → w < 2 ^ samples family
    word_lt w e = subst (λ (n : ℕ). w < 2 ^ n) (levels_size family q frame plane) (code_lt (levels_of plane frame family (axes_of q)) 10 3 w e)

    pub start_alike : reading plane frame family codes (turned_left s q) ≡ from_start s (reading plane frame family codes q)
    start_alike = corners (bad_corners q) refl
      where
        all : bad_corners q ≡ false → corners_outside frame.width frame.height q ≡ false → (t : Bool) → samples_inside frame family (axes_of q) ≡ t
            → reading plane frame family codes (turned_left s q) ≡ from_start s (reading plane frame family codes q)
        all b o false i =
            reading_10 plane frame family codes (turned_left s q) (bad_turned s q ∙ b) (outside_turned frame.width frame.height s q ∙ o) (inside_start family q frame s ∙ i)
            ∙ ap (from_start s) (sym (reading_10 plane frame family codes q b o i))
        all b o true i =
            reading_on plane frame family codes (turned_left s q) (bad_turned s q ∙ b) (outside_turned frame.width frame.height s q ∙ o) (inside_start family q frame s ∙ i)
            ∙ ap (tag_of family codes (turned_left s q)) (code_start family q frame plane 10 3 s)
            ∙ tag_alike q (code_of (levels_of plane frame family (axes_of q)) 10 3) word_lt
            ∙ ap (from_start s) (sym (reading_on plane frame family codes q b o i))

        inside : bad_corners q ≡ false → (t : Bool) → corners_outside frame.width frame.height q ≡ t → reading plane frame family codes (turned_left s q) ≡ from_start s (reading plane frame family codes q)
        inside b true o =
            reading_9 plane frame family codes (turned_left s q) (bad_turned s q ∙ b) (outside_turned frame.width frame.height s q ∙ o) ∙ ap (from_start s) (sym (reading_9 plane frame family codes q b o))
        inside b false o = all b o (samples_inside frame family (axes_of q)) refl

        corners : (t : Bool) → bad_corners q ≡ t → reading plane frame family codes (turned_left s q) ≡ from_start s (reading plane frame family codes q)
        corners true b = reading_8 plane frame family codes (turned_left s q) (bad_turned s q ∙ b) ∙ ap (from_start s) (sym (reading_8 plane frame family codes q b))
        corners false b = inside b (corners_outside frame.width frame.height q) refl
