-- The loop that works out the line of a row of cells: a dark line gets its light modules one after another. Assumes nothing.
use mathlib.Core.Path.{◌≡◌, sym, ap, ◌∙◌}
use mathlib.Core.Bool.{Bool, true, false, cond}
use mathlib.Core.List.{List}
use Prim.Native.Nat.{ℕ, ◌+◌, ◌-◌, ◌*◌, ◌/◌, ◌<◌, ◌≤◌}
use native.Mathlib.Nat.{add-mul, div-lt_iff_lt-mul, le-div_iff_mul-le}
use native.Mathlib.Omega.{arith}
use lib.ListN.{length, get_or}
use borrow.Rule.Slice.PartMut.{put_mid}
use Rattle.std.proofs.lemmas.Bool.{and_left, and_right}
use Rattle.lists.proofs.Grid.{next_row}
use Rattle.lists.proofs.Tab.{length-tabulate, get_or-tabulate}
use Rattle.painter.specs.Picture.{between, run_written}
use Rattle.painter.specs.Tag.{cell_at, shows_light, shade_of, size_of}
use Rattle.painter.specs.Part.{row_shade, row_line, dark_line}
use Rattle.painter.proofs.Printable.{RowOf}
use Rattle.painter.specs.declared.Print.{Print}
use Rattle.painter.proofs.Runs.{Within, before_run, after_run, tabulated, part_written, run_none, run_further, run_as_is, run_all}
use Rattle.painter.proofs.Part.{cell_at_lem}
use Rattle.painter.proofs.Turned.{is_module, border_shade}

-- a line that was made dark
pub made_dark : (edge border : ℕ) (print : Print) (line : List ℕ) → length line ≡ size_of edge border print
    → ((k : ℕ) → k < size_of edge border print → get_or line k 0 ≡ print.dark) → line ≡ dark_line edge border print
made_dark edge border print line e h = tabulated (λ k. print.dark) (size_of edge border print) line e h

module _ (edge border word : ℕ) (print : Print) (row : ℕ) (r : RowOf edge border print row) where
  abbrev cell : ℕ
  cell = print.cell

  abbrev size : ℕ
  size = size_of edge border print

  abbrev dark : List ℕ
  dark = dark_line edge border print

  abbrev shade : ℕ → ℕ
  shade = row_shade edge border word print row

  -- pixel k is dark where its cell has no module
  stays_dark : (k : ℕ) → k < size → is_module edge border (cell_at row (k / cell)) ≡ false → get_or dark k 0 ≡ shade k
  stays_dark k h e =
      get_or-tabulate size (λ k. print.dark) k 0 h
      ∙ sym (border_shade edge border word print (cell_at row (k / cell)) (record { rows = r.inside; columns = (div-lt_iff_lt-mul {k = cell} r.some).1 h }) e)

  long : length dark ≡ size
  long = length-tabulate size (λ k. print.dark)

  -- as in a column of the border
  border_column : (k : ℕ) → k < length dark → between border edge (k / cell) ≡ false → get_or dark k 0 ≡ shade k
  border_column k b e = stays_dark k (omega (arith, b, long)) (and_right (between border edge row) (between border edge (k / cell)) e)

  -- a whole row of the border
  pub border_row : between border edge row ≡ false → dark ≡ row_line edge border word print row
  border_row e = tabulated shade size dark long (λ k b. stays_dark k b (and_left (between border edge row) (between border edge (k / cell)) e))

  -- the cells before the first module
  pub left_border : dark ≡ run_written 0 (border * cell) shade dark
  left_border =
      run_none 0 shade dark
      ∙ run_as_is shade dark 0 (border * cell) (λ k b i.
      let h : k < border * cell = omega (arith, i.to) in
      border_column k b (before_run border edge (k / cell) ((div-lt_iff_lt-mul {k = cell} r.some).1 h)))
      ∙ ap (λ (n : ℕ). run_written 0 n shade dark) (omega arith)

  -- pixel k lies in column `column`
  cell-shade : (column k : ℕ) → Within (column * cell) cell k → shade k ≡ shade_of edge border word print (cell_at row column)
  cell-shade column k i =
      let whole : k ≡ k - 0 = omega arith in
      ap (λ (n : ℕ). shade_of edge border word print (cell_at row n))
      (ap (λ (n : ℕ). n / cell) whole ∙ cell_at_lem 0 cell column k (record { from = omega (arith, i.from); to = omega (arith, i.to) }))

  -- the cells before `column` are as they should be, and then the one in it
  module _ (column : ℕ) (line : List ℕ) (e : line ≡ run_written 0 (column * cell) shade dark) where
    pub light_module : (k : ℕ) (ys : List ℕ) → shows_light edge border word print (cell_at row column) ≡ true
        → k ≡ cell → column * cell + cell ≤ length line → length ys ≡ cell → ((i : ℕ) → i < cell → get_or ys i 0 ≡ print.light)
        → put_mid (column * cell) k line ys ≡ run_written 0 ((column + 1) * cell) shade dark
    light_module k ys light w inside l is =
        part_written (column * cell) (λ i. print.light) line k cell ys w inside l is
        ∙ ap (run_written (column * cell) cell (λ i. print.light)) e
        ∙ run_further shade dark (column * cell) cell (λ i. print.light) (λ k i.
        sym (cell-shade column k i ∙ ap (λ (t : Bool). cond t print.light print.dark) light))
        ∙ ap (λ (n : ℕ). run_written 0 n shade dark) (next_row cell column)

    pub dark_module : shows_light edge border word print (cell_at row column) ≡ false → line ≡ run_written 0 ((column + 1) * cell) shade dark
    dark_module unlit =
        e ∙ run_as_is shade dark (column * cell) cell (λ k b i.
        get_or-tabulate size (λ k. print.dark) k 0 (omega (arith, b, long))
        ∙ sym (cell-shade column k i ∙ ap (λ (t : Bool). cond t print.light print.dark) unlit))
        ∙ ap (λ (n : ℕ). run_written 0 n shade dark) (next_row cell column)

  -- the cells behind the last module
  pub right_border : run_written 0 ((border + edge) * cell) shade dark ≡ row_line edge border word print row
  right_border =
      let whole : (border + edge) * cell + border * cell ≡ size = omega (arith, add-mul border edge cell, add-mul edge (2 * border) cell) in
      run_as_is shade dark ((border + edge) * cell) (border * cell) (λ k b i.
      border_column k b (after_run border edge (k / cell) ((le-div_iff_mul-le {k = cell} r.some).1 i.from)))
      ∙ ap (λ (n : ℕ). run_written 0 n shade dark) whole
      ∙ run_all shade dark size long
