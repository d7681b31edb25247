-- Each range of the `match`, and each gap between them, decides the tests of the definition.
use borrow.Author.Tests.{le-leb, lt-leb}
use native.Mathlib.Omega.{arith}
use Rattle.readbits_lines.specs.Word.{is_decimal, is_letter, is_digit, digit_number}
use Rattle.readbits_lines.proofs.digit.Goals as goal

-- 0 to 9
pub returns-in-48-to-57-clause-number : goal.returns-in-48-to-57-clause-number
unfolding is_decimal is_letter is_digit digit_number
returns-in-48-to-57-clause-number c =
    let b = c.args.byte in
    simp (le-leb 48 b (omega arith), le-leb b 57 (omega arith))

-- A to F
pub returns-in-65-to-70-clause-number : goal.returns-in-65-to-70-clause-number
unfolding is_decimal is_letter is_digit digit_number
returns-in-65-to-70-clause-number c =
    let b = c.args.byte in
    simp (le-leb 48 b (omega arith), lt-leb b 57 (omega arith), le-leb 65 b (omega arith), le-leb b 70 (omega arith))

-- below 0
pub returns-in_default-clause-number : goal.returns-in_default-clause-number
unfolding is_decimal is_letter is_digit
returns-in_default-clause-number c =
    let b = c.args.byte in
    simp (lt-leb 48 b (omega arith), lt-leb 65 b (omega arith))

-- between 9 and A
pub returns-in_default-2-clause-number : goal.returns-in_default-2-clause-number
unfolding is_decimal is_letter is_digit
returns-in_default-2-clause-number c =
    let b = c.args.byte in
    simp (le-leb 48 b (omega arith), lt-leb b 57 (omega arith), lt-leb 65 b (omega arith))

-- above F
pub returns-in_default-3-clause-number : goal.returns-in_default-3-clause-number
unfolding is_decimal is_letter is_digit
returns-in_default-3-clause-number c =
    let b = c.args.byte in
    simp (le-leb 48 b (omega arith), lt-leb b 57 (omega arith), le-leb 65 b (omega arith), lt-leb b 70 (omega arith))
