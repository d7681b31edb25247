-- The rows of a report, one after the other: before row q the bytes from a place on say the rows that are left. Assumes nothing.
use mathlib.Core.Path.{◌≡◌, sym, ap, subst, ◌∙◌}
use mathlib.Core.Bool.{true}
use mathlib.Core.List.{List, ◌∷◌}
use Prim.Native.Nat.{ℕ, suc, ◌+◌, ◌-◌, ◌≤◌, ◌<◌}
use native.Mathlib.Numerals.{add-one}
use native.Mathlib.Omega.{arith}
use lib.ListN.{length, get_or, drop, length-drop}
use lib.Seq.{drop-cons, ext_get_or}
use Rattle.lists.specs.Tab.{tabulate, all}
use Rattle.lists.proofs.Tab.{length-tabulate, get_or-tabulate}
use Rattle.refusals.specs.Outcome.{Outcome, refused}
use Rattle.reader.specs.Reading.{Tag}
use Rattle.report.specs.Bytes.{row_bytes}
use Rattle.report.specs.Report.{row_in, rows_in, count_in, report_says, is_report}
use Rattle.report.specs.Steps.{bytes_stand, byte_candidates}
use Rattle.report.proofs.Report.{length-rows_in}
use Rattle.report.proofs.Placed.{stands_of}
use Rattle.report_reader.proofs.Stands.{stands_long}
use Rattle.report_reader.proofs.Whole.{report_stands, left, rows_next, stands_next}

module _ (report : List ℕ) (count : ℕ) where
  -- what the report says, and row p of it
  abbrev pub rows_of : List (Outcome Tag)
  rows_of = rows_in count (drop 2 report)

  abbrev pub row_at : ℕ → Outcome Tag
  row_at p = get_or rows_of p (refused 0)

  -- the rows from q on stand in the bytes from `at` on
  pub record Behind (q at : ℕ) : Type 0 where
    pub within : at ≤ length report
    pub say : drop q rows_of ≡ rows_in (count - q) (drop at report)
    pub stand : all stands_of (left report count q at) ≡ true

  pub Behind-first : 2 ≤ length report → count ≡ count_in report → is_report report ≡ true → Behind 0 2
  Behind-first some is h =
      let whole : count - 0 ≡ count = omega arith in
      record {
        within = some;
        say = ap (λ (k : ℕ). rows_in k (drop 2 report)) (sym whole);
        stand = ap (λ (k : ℕ). all stands_of (byte_candidates k (drop 2 report))) (whole ∙ is) ∙ report_stands report h;
      }

  -- the next row
  pub record Next (q at : ℕ) : Type 0 where
    pub row : row_at q ≡ row_in (drop at report)
    pub stands : bytes_stand (drop at report) ≡ true
    pub more : Behind (q + 1) (at + length (row_bytes (row_in (drop at report))))

  pub Behind-next : (q at : ℕ) → q < count → Behind q at → Next q at
  Behind-next q at h b =
      let bytes = drop at report in
      let after = at + length (row_bytes (row_in bytes)) in
      let parts = stands_next report count q at h b.stand in
      let split : row_at q ∷ drop (suc q) rows_of ≡ row_in bytes ∷ rows_in (count - (q + 1)) (drop after report) =
      sym (drop-cons rows_of q (refused 0) (omega (arith, length-rows_in count (drop 2 report)))) ∙ b.say ∙ rows_next report count q at h in
      record {
        row = cc;
        stands = parts.0;
        more = record {
          within = omega (arith, stands_long bytes parts.0, length-drop at report, b.within);
          say = ap (λ (k : ℕ). drop k rows_of) (add-one q) ∙ tail split;
          stand = parts.1;
        };
      }
    where
      tail : {a b : Outcome Tag} {l m : List (Outcome Tag)} → a ∷ l ≡ b ∷ m → l ≡ m
      tail e = cc

  -- all rows
  pub rows_all : (n : ℕ) → n ≡ count → tabulate n row_at ≡ rows_of
  rows_all n e =
      let long : length rows_of ≡ n = length-rows_in count (drop 2 report) ∙ sym e in
      ext_get_or (refused 0) (tabulate n row_at) rows_of (length-tabulate n row_at ∙ sym long)
      (λ i h. get_or-tabulate n row_at i (refused 0) (subst (λ (k : ℕ). i < k) (length-tabulate n row_at) h))

  pub rows_say : count ≡ count_in report → rows_of ≡ report_says report
  unfolding report_says
  rows_say e = ap (λ (k : ℕ). rows_in k (drop 2 report)) e
