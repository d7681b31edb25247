-- The four starts of a quad: their samples are the same, taken in another order, and their words are turns of each other. Assumes nothing.
use mathlib.Core.Path.{◌≡◌, refl, sym, ap, ap₂, ◌∙◌}
use mathlib.Core.Bool.{◌&&◌}
use mathlib.Core.List.{List}
use Prim.Native.Nat.{ℕ, zero, suc, ◌<◌}
use lib.Dec.{ltb}
use lib.ListN.{length, get_or}
use Rattle.lists.proofs.Rows.{tabulate_ext}
use Rattle.lists.specs.Tab.{tabulate}
use Rattle.lists.specs.Each.{each}
use Rattle.lists.proofs.Tab.{length-tabulate, get_or-tabulate}
use Rattle.std.specs.Cmp.{both_ways}
use Rattle.lists.proofs.Each.{each_at, each_of}
use Rattle.refusals.specs.Outcome.{Outcome, accepted, refused}
use Rattle.refusals.specs.Pixels.{level_at}
use Rattle.refusals.specs.declared.Frame.{Frame}
use Rattle.points.specs.declared.Quad.{Quad}
use Rattle.points.specs.Turned.{turned_once, turned_left}
use Rattle.tables.specs.declared.Family.{Family}
use Rattle.word.specs.Word.{source, turn, turns}
use Rattle.word.proofs.Turn.{source-lt, source_four, turns-turn}
use Rattle.places.specs.Place.{axes_of}
use Rattle.places.proofs.Turned.{sample_turned_x, sample_turned_y}
use Rattle.levels.specs.Levels.{code_of}
use Rattle.levels.proofs.Cases.{on_accepted}
use Rattle.levels.proofs.Order.{reordered}
use Rattle.levels.proofs.Quarter.{turned_code}
use Rattle.reader.specs.Reading.{samples, column, row, sample_inside, samples_inside, levels_of}

module _ (family : Family) (q : Quad) where
  -- sample k of the next start is the sample that one turn of the square puts at k
  pub column_turned : (k : ℕ) → k < samples family → column (axes_of (turned_once q)) family k ≡ column (axes_of q) family (source family.edge k)
  column_turned k h = sample_turned_x q family.edge family.border k h

  pub row_turned : (k : ℕ) → k < samples family → row (axes_of (turned_once q)) family k ≡ row (axes_of q) family (source family.edge k)
  row_turned k h = sample_turned_y q family.edge family.border k h

  module _ (frame : Frame) where
    sample_turned : (k : ℕ) → k < samples family → sample_inside frame family (axes_of (turned_once q)) k ≡ sample_inside frame family (axes_of q) (source family.edge k)
    sample_turned k h = ap₂ (λ (x y : ℕ). ltb x frame.width && ltb y frame.height) (column_turned k h) (row_turned k h)

    pub inside_turned : samples_inside frame family (axes_of (turned_once q)) ≡ samples_inside frame family (axes_of q)
    unfolding samples_inside
    inside_turned =
        both_ways (each (samples family) (sample_inside frame family (axes_of (turned_once q)))) (each (samples family) (sample_inside frame family (axes_of q)))
        (λ all. each_of (samples family) (sample_inside frame family (axes_of q)) (λ k h.
        let s = source family.edge in
        let l = source-lt family.edge (s (s k)) (source-lt family.edge (s k) (source-lt family.edge k h)) in
        ap (sample_inside frame family (axes_of q)) (sym (source_four family.edge k h)) ∙ sym (sample_turned (s (s (s k))) l)
        ∙ each_at (samples family) (sample_inside frame family (axes_of (turned_once q))) all (s (s (s k))) l))
        (λ all. each_of (samples family) (sample_inside frame family (axes_of (turned_once q))) (λ k h.
        sample_turned k h ∙ each_at (samples family) (sample_inside frame family (axes_of q)) all (source family.edge k) (source-lt family.edge k h)))

    module _ (plane : List ℕ) where
      abbrev level : Quad → ℕ → ℕ
      level p k = level_at plane frame (column (axes_of p) family k) (row (axes_of p) family k)

      pub levels_size : length (levels_of plane frame family (axes_of q)) ≡ samples family
      unfolding levels_of
      levels_size = length-tabulate (samples family) (level q)

      -- the levels of the next start are those of this one, in the order of one turn
      pub levels_turned : levels_of plane frame family (axes_of (turned_once q)) ≡ reordered (source family.edge) (levels_of plane frame family (axes_of q))
      unfolding levels_of
      levels_turned =
          tabulate_ext (samples family) (level (turned_once q)) (λ k. get_or (levels_of plane frame family (axes_of q)) (source family.edge k) 0) (λ k h.
          ap₂ (level_at plane frame) (column_turned k h) (row_turned k h)
          ∙ sym (get_or-tabulate (samples family) (level q) (source family.edge k) 0 (source-lt family.edge k h)))
          ∙ ap (λ (n : ℕ). tabulate n (λ k. get_or (levels_of plane frame family (axes_of q)) (source family.edge k) 0)) (sym levels_size)

      -- and their word is turned once
      pub code_turned : (band allowed : ℕ) → code_of (levels_of plane frame family (axes_of (turned_once q))) band allowed ≡ on_accepted (turn family.edge) (code_of (levels_of plane frame family (axes_of q)) band allowed)
      code_turned band allowed =
          ap (λ (l : List ℕ). code_of l band allowed) levels_turned ∙ turned_code family.edge (levels_of plane frame family (axes_of q)) band allowed levels_size

-- ---- start s

on_again : {A B C : Type 0} (f : A → B) (g : B → C) (o : Outcome A) → on_accepted g (on_accepted f o) ≡ on_accepted (λ x. g (f x)) o
on_again f g (accepted v) = refl
on_again f g (refused n) = refl

on_ext : {A B : Type 0} (f g : A → B) → ((x : A) → f x ≡ g x) → (o : Outcome A) → on_accepted f o ≡ on_accepted g o
on_ext f g h (accepted v) = ap accepted (h v)
on_ext f g h (refused n) = refl

on_none : {A : Type 0} (o : Outcome A) → o ≡ on_accepted (λ x. x) o
on_none (accepted v) = refl
on_none (refused n) = refl

module _ (family : Family) (q : Quad) (frame : Frame) where
  pub inside_start : (s : ℕ) → samples_inside frame family (axes_of (turned_left s q)) ≡ samples_inside frame family (axes_of q)
  unfolding turned_left
  inside_start zero = refl
  inside_start (suc s) = inside_turned family (turned_left s q) frame ∙ inside_start s

  pub code_start : (plane : List ℕ) (band allowed s : ℕ)
      → code_of (levels_of plane frame family (axes_of (turned_left s q))) band allowed ≡ on_accepted (turns family.edge s) (code_of (levels_of plane frame family (axes_of q)) band allowed)
  unfolding turned_left turns
  code_start plane band allowed zero = on_none (code_of (levels_of plane frame family (axes_of q)) band allowed)
  code_start plane band allowed (suc s) =
      let o = code_of (levels_of plane frame family (axes_of q)) band allowed in
      code_turned family (turned_left s q) frame plane band allowed
      ∙ ap (on_accepted (turn family.edge)) (code_start plane band allowed s)
      ∙ on_again (turns family.edge s) (turn family.edge) o
      ∙ on_ext (λ w. turn family.edge (turns family.edge s w)) (λ w. turns family.edge s (turn family.edge w)) (λ w. sym (turns-turn family.edge s w)) o
