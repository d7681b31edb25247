-- Either `bad` is put, or the line and then its answer.
use Rattle.std.proofs.Common.{◌≡◌, ℕ, true, [], ◌∷◌, ◌++◌, sym, ap, ◌∙◌, arith}
use Rattle.readbits_lines.specs.Word.{is_word, number_of}
use Rattle.text.specs.Text.{line_feed}
use Rattle.readbits_lines.specs.Readbits.{searched, after_word}
use Rattle.std.proofs.lemmas.Option.{cond_some}
use Rattle.readbits_lines.proofs.Digits.{was_bad}
use Rattle.text.proofs.Join.{put_more, as_text}
use Rattle.readbits_lines.proofs.Lines.{word_prints, bad_prints, word_four}
use Rattle.readbits_lines.proofs.put_line.Goals.{In-Some}
use Rattle.readbits_lines.proofs.put_line.Goals as goal

pub returns-in_default : goal.returns-in_default
returns-in_default c =
    let line = c.args.line.now in
    as_text (bad_prints line (was_bad (is_word line) (number_of line) c.word.ensures c.in_default.not-Some))
    c.put.ensures

-- the line is a word
is : (c : In-Some) → (is_word c.args.line.now ≡ true) × (number_of c.args.line.now ≡ c.in-Some.bits)
is c = let line = c.args.line.now in cond_some (is_word line) (number_of line) c.in-Some.bits (sym c.word.ensures ∙ c.in-Some.is)

pub put_answer-requires : goal.put_answer-requires
put_answer-requires c = omega (arith, word_four c.args.line.now (is (goal.at.put_answer-requires c).In-Some).0, c.put-2.ensures)

pub returns : goal.returns
returns c =
    let line = c.args.line.now in
    let e = is (goal.at.returns c).In-Some in
    put_more (ap (λ (n : ℕ). line ++ (after_word (searched n) ++ (line_feed ∷ []))) (sym e.1) ∙ word_prints line e.0) (omega arith) c.put-2.ensures c.put_answer.ensures
