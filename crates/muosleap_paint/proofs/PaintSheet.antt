-- A sheet's painting by the tests that a call fails or passes, when it is accepted, and that a family number is its table. Assumes nothing.
use mathlib.Core.Path.{◌≡◌, refl, sym, ap, ◌∙◌}
use mathlib.Core.Bool.{Bool, true, false, cond}
use mathlib.Core.List.{List}
use Prim.Native.Nat.{ℕ}
use native.Mathlib.Omega.{arith}
use lib.Ieee.{Float}
use lib.ListN.{length}
use Rattle.std.specs.Prelude.{Result, Ok}
use Rattle.lists.specs.Front.{in_front}
use Rattle.refusals.specs.Numbers.{done as done_of}
use Rattle.refusals.specs.Outcome.{accepted, refused}
use Rattle.refusals.specs.Pixels.{bad_frame}
use Rattle.refusals.specs.declared.Frame.{Frame}
use Rattle.refusals.specs.declared.refusal.Refusal.{Refusal}
use Rattle.tables.specs.Table.{bad_table}
use Rattle.tables.specs.declared.Family.{Family}
use Rattle.tag_families.specs.Families.{is_family, family_of, codes_of}
use Rattle.painter.specs.Printable.{bad_style}
use Rattle.painter.specs.declared.Print.{Print}
use Rattle.grid.specs.Sheet.{sheet}
use Rattle.grid.specs.Quads.{sheet_quads}
use Rattle.grid.specs.Refused.{bad_grid, bad_output}
use Rattle.grid.specs.Sheetable.{Sheetable}
use Rattle.grid.specs.declared.Grid.{Grid}
use Rattle.muosleap_paint.specs.PaintSheet.{SheetPainting, painting_of, paint_sheet, paint_sheet_in}

-- a call: its plane, its output, and what it comes to where it passes all tests
pub record Call : Type 0 where
  pub plane : List ℕ
  pub quads : List Float
  pub done : SheetPainting

module _ (c : Call) where
  abbrev refusing : ℕ → SheetPainting
  refusing n = painting_of (refused n) c.plane c.quads

  -- by its tests for 6, 14, 17 and 16, which come behind 1
  abbrev pub past_1 : (six fourteen seventeen sixteen : Bool) → SheetPainting
  past_1 six fourteen seventeen sixteen = cond six (refusing 6) (cond fourteen (refusing 14) (cond seventeen (refusing 17) (cond sixteen (refusing 16) c.done)))

  abbrev pub tested : (one six fourteen seventeen sixteen : Bool) → SheetPainting
  tested one six fourteen seventeen sixteen = cond one (refusing 1) (past_1 six fourteen seventeen sixteen)

  -- an accepted call passed all five
  passes : (one six fourteen seventeen sixteen : Bool) → (tested one six fourteen seventeen sixteen).answer ≡ accepted (record {})
      → (one ≡ false) × (six ≡ false) × (fourteen ≡ false) × (seventeen ≡ false) × (sixteen ≡ false)
  passes true six fourteen seventeen sixteen e = let z : ◌≡◌ {A = ℕ} 0 1 = cc in absurd (omega arith)
  passes false true fourteen seventeen sixteen e = let z : ◌≡◌ {A = ℕ} 0 1 = cc in absurd (omega arith)
  passes false false true seventeen sixteen e = let z : ◌≡◌ {A = ℕ} 0 1 = cc in absurd (omega arith)
  passes false false false true sixteen e = let z : ◌≡◌ {A = ℕ} 0 1 = cc in absurd (omega arith)
  passes false false false false true e = let z : ◌≡◌ {A = ℕ} 0 1 = cc in absurd (omega arith)
  passes false false false false false e = (refl, refl, refl, refl, refl)

module _ (plane : List ℕ) (frame : Frame) (family : Family) (codes : List ℕ) (grid : Grid) (print : Print) (quads : List Float) where
  abbrev pub done : SheetPainting
  done = painting_of (accepted (record {})) (sheet frame family codes grid print plane) (in_front (sheet_quads family grid print) quads)

  abbrev pub call : Call
  call = record { plane = plane; quads = quads; done = done }

  is_tested : paint_sheet plane frame family codes grid print quads
      ≡ tested call (bad_frame (length plane) frame) (bad_table family codes) (bad_style print) (bad_grid frame family (length codes) grid print) (bad_output grid (length quads))
  unfolding paint_sheet
  is_tested = refl

  -- a painting that nothing refuses
  pub sheet-done : Sheetable (length plane) frame family codes grid print (length quads) → paint_sheet plane frame family codes grid print quads ≡ done
  sheet-done p = is_tested ∙ simp (p.planes, p.tables, p.styles, p.grids, p.outputs)

  -- nothing refuses an accepted painting
  pub sheet_accepted : (paint_sheet plane frame family codes grid print quads).answer ≡ accepted (record {})
      → Sheetable (length plane) frame family codes grid print (length quads)
  sheet_accepted e =
      let t = passes call (bad_frame (length plane) frame) (bad_table family codes) (bad_style print) (bad_grid frame family (length codes) grid print) (bad_output grid (length quads))
      (ap (λ (o : SheetPainting). o.answer) (sym is_tested) ∙ e) in
      record { planes = t.0; tables = t.1; styles = t.2; grids = t.3; outputs = t.4 }

-- what the function painted and answered with `Ok`, nothing refuses
pub painted : (plane : List ℕ) {frame : Frame} {family : Family} {codes : List ℕ} {grid : Grid} {print : Print} (quads : List Float)
    → {result : Result (Unit {0}) Refusal} {left : List ℕ} {written : List Float} {u : Unit {0}}
    → painting_of (done_of result) left written ≡ paint_sheet plane frame family codes grid print quads → result ≡ Ok u
    → Sheetable (length plane) frame family codes grid print (length quads)
painted plane {frame} {family} {codes} {grid} {print} quads said ok =
    sheet_accepted plane frame family codes grid print quads (sym (ap (λ (o : SheetPainting). o.answer) said) ∙ ap done_of ok)

-- the painting of a family is the painting with its table, for all inputs
pub sheet_in : (plane : List ℕ) (frame : Frame) (number : ℕ) (grid : Grid) (print : Print) (quads : List Float) → is_family number ≡ true
    → paint_sheet_in plane frame number grid print quads ≡ paint_sheet plane frame (family_of number) (codes_of number) grid print quads
unfolding paint_sheet paint_sheet_in
sheet_in plane frame number grid print quads e = go (bad_frame (length plane) frame) refl
  where
    go : (t : Bool) → bad_frame (length plane) frame ≡ t → paint_sheet_in plane frame number grid print quads ≡ paint_sheet plane frame (family_of number) (codes_of number) grid print quads
    go true f = simp f
    go false f = simp (f, e)
