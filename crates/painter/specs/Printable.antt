-- Refusal 14: "painting word of 2^(edge²) or more, cell outside 1..64 pixels, turn above 3, light less than 50 above dark, or a tag
-- that does not end at least one pixel before the right and lower edges". Assumes nothing.
use Rattle.std.specs.Prelude.{ℕ, ◌+◌, ◌≡◌, Bool, false, not, ◌||◌, ltb}
use Rattle.refusals.specs.Pixels.{bad_frame}
use Rattle.refusals.specs.declared.Frame.{Frame}
use Rattle.tables.specs.Table.{outside, in_square, bad_edge, bad_border}
use Rattle.painter.specs.Tag.{size_of}
use Rattle.painter.specs.declared.Print.{Print}

-- "painting word of 2^(edge²) or more"
abbrev pub bad_word : ℕ → ℕ → Bool
bad_word edge word = not (in_square edge word)

-- "cell outside 1..64 pixels, turn above 3, light less than 50 above dark"
abbrev pub bad_style : Print → Bool
bad_style print = outside 1 64 print.cell || (ltb 3 print.turn || ltb print.light (print.dark + 50))

-- `size` pixels from pixel `at` on, in a line of `pixels`, "do not end at least one pixel before" its end
abbrev pub ends_late : (pixels at size : ℕ) → Bool
ends_late pixels at size = ltb pixels (at + size + 1)

-- "a tag that does not end at least one pixel before the right and lower edges"
abbrev pub bad_place : Frame → (edge border : ℕ) → Print → Bool
bad_place frame edge border print =
    ends_late frame.width print.x (size_of edge border print) || ends_late frame.height print.y (size_of edge border print)

unfoldable pub bad_print : Frame → (edge border word : ℕ) → Print → Bool
bad_print frame edge border word print = bad_word edge word || (bad_style print || bad_place frame edge border print)

-- what the painter's entries have tested when a tag is drawn on a plane of len bytes
pub record Printable (len : ℕ) (frame : Frame) (edge border word : ℕ) (print : Print) : Type 0 where
  pub planes : bad_frame len frame ≡ false
  pub edges : bad_edge edge ≡ false
  pub borders : bad_border border ≡ false
  pub prints : bad_print frame edge border word print ≡ false
