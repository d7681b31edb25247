-- Demand 3 of the definitions, carried to answers that equal them. Assumes nothing.
use mathlib.Core.Path.{◌≡◌, refl, sym, ap, ap₂, ◌∙◌}
use mathlib.Core.List.{List}
use Prim.Native.Nat.{ℕ}
use lib.Ieee.{Float}
use native.Mathlib.Omega.{arith}
use Rattle.refusals.specs.Outcome.{Outcome, accepted}
use Rattle.refusals.specs.declared.Frame.{Frame}
use Rattle.points.specs.declared.Quad.{Quad}
use Rattle.points.specs.Turned.{turned_left}
use Rattle.tables.specs.declared.Family.{Family}
use Rattle.painter.specs.declared.Print.{Print}
use Rattle.reader.specs.Reading.{Tag}
use Rattle.points.specs.Numbers.{quad_at, numbers_of, corners_at}
use Rattle.listing.specs.Listing.{Listing, row_at}
use Rattle.muosleap_paint.specs.PaintTag.{Painting, paint_tag}
use Rattle.muosleap.specs.Quad.{decode_quad}
use Rattle.muosleap.specs.Quads.{decode_quads}
use Rattle.muosleap.proofs.ListReading.{Accepted-means}
use Rattle.paper.specs.Starts.{from_start}
use Rattle.paper.proofs.Demand3.{demand_3}
use Rattle.demand3.specs.Said.{read_print, PaintedThenRead, StartsRead, list_print, StartListed}

-- a painting that answers and leaves what `paint_tag` says, and a reading of what it left
pub painted_then_read : (plane : List ℕ) (frame : Frame) (family : Family) (codes : List ℕ) (word : ℕ) (print : Print) (s : ℕ) (painting : Outcome Quad) (left : List ℕ) (answer : Outcome Tag)
    → ◌≡◌ {A = Painting} (record { answer = painting; plane = left }) (paint_tag plane frame family.edge family.border word print)
    → answer ≡ read_print frame family codes s left painting
    → PaintedThenRead plane frame family codes word print s answer left
painted_then_read plane frame family codes word print s painting left answer e r =
    record {
      shown = ap (λ (x : Painting). x.plane) e;
      read = r ∙ ap (read_print frame family codes s left) (ap (λ (x : Painting). x.answer) e);
      own = λ id quad picture h start.
          let both : ◌≡◌ {A = Painting} (record { answer = painting; plane = left }) (record { answer = accepted quad; plane = picture }) = e ∙ h.painted in
          let same : left ≡ picture = ap (λ (x : Painting). x.plane) both in
          let took : painting ≡ accepted quad = ap (λ (x : Painting). x.answer) both in (
            r
                ∙ ap₂ (λ (l : List ℕ) (o : Outcome Quad). read_print frame family codes s l o) same took
                ∙ (demand_3.painted_tags family codes id word plane frame print quad picture h s start).alone,
            same,
          );
    }

-- four readings, each of its start
pub starts_read : (plane : List ℕ) (frame : Frame) (family : Family) (codes : List ℕ) (quad : Quad) (s0 s1 s2 s3 : Outcome Tag)
    → s0 ≡ decode_quad plane frame family codes quad
    → s1 ≡ decode_quad plane frame family codes (turned_left 1 quad)
    → s2 ≡ decode_quad plane frame family codes (turned_left 2 quad)
    → s3 ≡ decode_quad plane frame family codes (turned_left 3 quad)
    → StartsRead plane frame family codes quad s0 s1 s2 s3
starts_read plane frame family codes quad s0 s1 s2 s3 e0 e1 e2 e3 =
    record {
      first = e0;
      second = e1;
      third = e2;
      fourth = e3;
      alike = λ passes. (
        e1 ∙ demand_3.any_quad plane frame family codes quad passes 1 (omega arith) ∙ ap (from_start 1) (sym e0),
        e2 ∙ demand_3.any_quad plane frame family codes quad passes 2 (omega arith) ∙ ap (from_start 2) (sym e0),
        e3 ∙ demand_3.any_quad plane frame family codes quad passes 3 (omega arith) ∙ ap (from_start 3) (sym e0),
      );
    }

-- a list of one quad is that quad
one_quad : (q : Quad) → quad_at (numbers_of q) 0 ≡ q
one_quad q = refl

-- a painting that answers and leaves what `paint_tag` says, and a list reading of what it left
pub start_listed : (plane : List ℕ) (frame : Frame) (family : Family) (codes : List ℕ) (word : ℕ) (print : Print) (s : ℕ) (rows : List ℕ) (corners : List Float)
    (painting : Outcome Quad) (left : List ℕ) (result : Listing)
    → ◌≡◌ {A = Painting} (record { answer = painting; plane = left }) (paint_tag plane frame family.edge family.border word print)
    → result ≡ list_print frame family codes s rows corners left painting
    → StartListed plane frame family codes word print s rows corners left result
start_listed plane frame family codes word print s rows corners painting left result e r =
    record {
      shown = ap (λ (x : Painting). x.plane) e;
      read = r ∙ ap (list_print frame family codes s rows corners left) (ap (λ (x : Painting). x.answer) e);
      own = λ id quad picture h start n a.
          let both : ◌≡◌ {A = Painting} (record { answer = painting; plane = left }) (record { answer = accepted quad; plane = picture }) = e ∙ h.painted in
          let same : left ≡ picture = ap (λ (x : Painting). x.plane) both in
          let took : painting ≡ accepted quad = ap (λ (x : Painting). x.answer) both in
          let list = numbers_of (turned_left s quad) in
          let whole : result ≡ decode_quads picture frame family codes list rows corners
          = r ∙ ap₂ (λ (l : List ℕ) (o : Outcome Quad). list_print frame family codes s rows corners l o) same took in
          let accepts = sym (ap (λ (x : Listing). x.answer) whole) ∙ a in
          let one : n ≡ 1 = (Accepted-means picture frame list rows corners family codes n accepts).count in
          let own = (demand_3.painted_tags family codes id word plane frame print quad picture h s start
          ).listed list rows corners n 0 accepts (omega arith) (one_quad (turned_left s quad)) (λ j l d. absurd (d (omega arith))) in (
            one,
            ap (λ (x : Listing). row_at x.rows 0) whole ∙ own.0,
            ap (λ (x : Listing). corners_at x.corners 0) whole ∙ own.1,
          );
    }
