-- A line as the loop puts it: the number of place 0, then of each further place a space and its number, then the line feed. Assumes nothing.
use Rattle.std.proofs.Common.{◌≡◌, ℕ, suc, ◌+◌, ◌-◌, ◌*◌, ◌≤◌, ◌<◌, List, [], ◌∷◌, ◌++◌, length, refl, sym, ap, ◌∙◌, append_assoc, append-nil, arith, length-append}
use mathlib.Core.List.{flat_map}
use Rattle.lists.specs.Tab.{tabulate}
use Rattle.lists.proofs.Flat.{flat_more, flat_within}
use Rattle.text.specs.Text.{space, line_feed, decimal}
use Rattle.text.proofs.Decimal.{decimal_some}
use Rattle.word.specs.Word.{source}
use Rattle.turning_lines.specs.Turning.{spaced, line}

abbrev pub piece : ℕ → List ℕ
piece n = space ∷ decimal n

module _ (e : ℕ) where
  -- what stands before place k, which is not place 0
  abbrev pub front : ℕ → List ℕ
  front k = decimal (source e 0) ++ flat_map piece (tabulate (k - 1) (λ i. source e (suc i)))

  pub front_first : decimal (source e 0) ≡ front 1
  unfolding tabulate flat_map
  front_first = sym (append-nil (decimal (source e 0)))

  pub front_next : {n : ℕ} (k : ℕ) → 1 ≤ k → n ≡ source e k → front k ++ piece n ≡ front (k + 1)
  front_next k h same =
      let f : ℕ → ℕ = λ i. source e (suc i) in
      let s : suc (k - 1) ≡ k = omega arith in
      let t : suc (k - 1) ≡ k + 1 - 1 = omega arith in
      append_assoc (decimal (source e 0)) (flat_map piece (tabulate (k - 1) f)) (piece _)
      ∙ ap (λ (l : List ℕ). decimal (source e 0) ++ l)
      (ap (λ (m : ℕ). flat_map piece (tabulate (k - 1) f) ++ piece m) (same ∙ ap (source e) (sym s)) ∙ sym (flat_more piece (k - 1) f) ∙ ap (λ (m : ℕ). flat_map piece (tabulate m f)) t)

  pub front_line : 0 < e * e → front (e * e) ++ (line_feed ∷ []) ≡ line e
  unfolding line spaced tabulate
  front_line h = let s : suc (e * e - 1) ≡ e * e = omega arith in ap (λ (n : ℕ). spaced (tabulate n (source e)) ++ (line_feed ∷ [])) s

  -- where there is room for the line, there is room for a line feed after the places before place k, and for the number of place k
  pub feed_fits : (k : ℕ) → k ≤ e * e → 0 < e * e → length (front k) + 1 ≤ length (line e)
  feed_fits k h square =
      let f : ℕ → ℕ = λ i. source e (suc i) in
      let d = decimal (source e 0) in
      omega (
        arith,
        ap length (front_line square),
        length-append (front (e * e)) (line_feed ∷ []),
        length-append d (flat_map piece (tabulate (k - 1) f)),
        length-append d (flat_map piece (tabulate (e * e - 1) f)),
        flat_within piece (k - 1) (e * e - 1) f (omega arith),
      )

  pub next_fits : (k : ℕ) → 1 ≤ k → k < e * e → source e k < 100 → length (front k) + 3 ≤ length (line e)
  next_fits k h l small =
      omega (arith, feed_fits (k + 1) (omega arith) (omega arith), ap length (front_next k h refl), length-append (front k) (piece (source e k)), decimal_some (source e k) small)
