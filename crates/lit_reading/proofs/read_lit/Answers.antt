-- The reading is the quad reader's. A picture that refusal 1 does not let through is not lit; of any other it is worked out. Assumes nothing.
use mathlib.Core.Path.{◌≡◌, sym, subst₂}
use mathlib.Core.Bool.{false}
use mathlib.Core.List.{List}
use Prim.Native.Nat.{ℕ}
use lib.ListN.{length}
use Rattle.refusals.specs.Pixels.{bad_frame, at_pitch}
use Rattle.refusals.specs.declared.Frame.{Frame}
use Rattle.tables.specs.declared.Family.{Family}
use Rattle.points.specs.declared.Quad.{Quad}
use Rattle.reader.specs.Reading.{samples_inside}
use Rattle.lit_reading.specs.Sampleable.{Sampleable}
use Rattle.lit_reading.proofs.read_lit.Goals as goal

-- a picture of the same width and height has the same samples
same_samples : (shown picture : List ℕ) (frame : Frame) (family : Family) (quad : Quad) (pitch : ℕ) → Sampleable shown frame family quad
    → bad_frame (length picture) (at_pitch frame pitch) ≡ false → Sampleable picture (at_pitch frame pitch) family quad
unfolding samples_inside
same_samples shown picture frame family quad pitch s f = record {
  readable = record { framed = f; edge_pos = s.readable.edge_pos; edge_le = s.readable.edge_le; border_le = s.readable.border_le };
  small = s.small;
  inside = s.inside;
}

pub is_lit-lit-requires-clause-picture : goal.is_lit-lit-requires-clause-picture
is_lit-lit-requires-clause-picture c =
    let a = c.args in
    let shown = a.shown.now in
    let e = c.in-Ok.ensures.ok in
    subst₂ (λ (bytes : List ℕ) (frame : Frame). Sampleable bytes frame a.family a.quad) (sym e.0) (sym e.1)
    (same_samples shown.bytes.now a.picture.now shown.frame a.family a.quad a.pitch c.requires e.2)
