-- The four digits. A line of another length is no word, nor is one in which a byte is no digit.
use mathlib.Core.Path.{◌≡◌, ◌∙◌}
use mathlib.Core.Bool.{false}
use Prim.Native.Nat.{ℕ}
use native.Mathlib.Omega.{arith}
use lib.ListN.{get_or}
use Rattle.std.proofs.Common.{List, Option, Some, None, cond}
use Rattle.readbits_lines.specs.Word.{is_word, number_of}
use Rattle.readbits_lines.proofs.Digits.{was_digit, was_none, other_length, no_digit, word_of}
use Rattle.readbits_lines.proofs.word.Goals as goal

-- what no word answers
bad : (line : List ℕ) → is_word line ≡ false → ◌≡◌ {A = Option ℕ} None (cond (is_word line) (Some (number_of line)) None)
bad line e = simp e

pub returns-in_default : goal.returns-in_default
returns-in_default c = bad c.args.line.now (other_length c.args.line.now (λ e. omega (arith, c.in_default.len_below, e)))

pub returns-in_default-2 : goal.returns-in_default-2
returns-in_default-2 c = bad c.args.line.now (other_length c.args.line.now (λ e. omega (arith, c.in_default.len_at_least, e)))

pub returns-in_err-digit : goal.returns-in_err-digit
returns-in_err-digit c =
    let line = c.args.line.now in
    c.from_residual.ensures ∙ bad line (no_digit line 0 (omega arith) (was_none (get_or line 0 0) c.digit.ensures.number c.in_err-digit.was))

pub returns-in_err-digit-2 : goal.returns-in_err-digit-2
returns-in_err-digit-2 c =
    let line = c.args.line.now in
    c.from_residual-in_err-digit-2.ensures ∙ bad line (no_digit line 1 (omega arith) (was_none (get_or line 1 0) c.digit-2.ensures.number c.in_err-digit-2.was))

pub returns-in_err-digit-3 : goal.returns-in_err-digit-3
returns-in_err-digit-3 c =
    let line = c.args.line.now in
    c.from_residual-in_err-digit-3.ensures ∙ bad line (no_digit line 2 (omega arith) (was_none (get_or line 2 0) c.digit-3.ensures.number c.in_err-digit-3.was))

pub returns-in_err-digit-4 : goal.returns-in_err-digit-4
returns-in_err-digit-4 c =
    let line = c.args.line.now in
    c.from_residual-in_err-digit-4.ensures ∙ bad line (no_digit line 3 (omega arith) (was_none (get_or line 3 0) c.digit-4.ensures.number c.in_err-digit-4.was))

pub returns : goal.returns
returns c =
    let line = c.args.line.now in
    let w = word_of line (omega arith) c.in_ok-digit.field-0 c.in_ok-digit-2.field-0 c.in_ok-digit-3.field-0 c.in_ok-digit-4.field-0
    (was_digit (get_or line 0 0) c.digit.ensures.number c.in_ok-digit.field-0 c.in_ok-digit.was)
    (was_digit (get_or line 1 0) c.digit-2.ensures.number c.in_ok-digit-2.field-0 c.in_ok-digit-2.was)
    (was_digit (get_or line 2 0) c.digit-3.ensures.number c.in_ok-digit-3.field-0 c.in_ok-digit-3.was)
    (was_digit (get_or line 3 0) c.digit-4.ensures.number c.in_ok-digit-4.field-0 c.in_ok-digit-4.was) in
    simp (w.0, w.1)
