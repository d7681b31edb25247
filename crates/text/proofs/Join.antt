-- One text put after another is the two put together. Assumes nothing.
use Rattle.std.proofs.Common.{◌≡◌, ℕ, ◌+◌, ◌≤◌, ◌<◌, ◌/◌, ◌%◌, List, [], ◌∷◌, ◌++◌, length, take, drop, refl, sym, ap, ◌∙◌, append_assoc, append-nil, arith, length-append, take-append-drop, subst}
use native.Mathlib.Nat.{zero-add, add-zero, add_assoc}
use lib.ListN.{drop_of_length-le}
use lib.Seq.{take_at, drop-drop, drop-append-add, length-take-le}
use Rattle.text.specs.declared.Output.{Output}
use Rattle.text.specs.Text.{decimal}
use Rattle.text.proofs.Decimal.{one_digit, two_digits, two_long}
use Rattle.text.specs.Put.{Put, HasRoom, written, Printed}

module _ (text buffer : List ℕ) (at : ℕ) (room : at + length text ≤ length buffer) where
  length_front : length (take at buffer ++ text) ≡ at + length text
  length_front = length-append (take at buffer) text ∙ ap (λ (n : ℕ). n + length text) (length-take-le at buffer (omega arith))

  written_more : (more : List ℕ) → written (written buffer at text) (at + length text) more ≡ written buffer at (text ++ more)
  written_more more =
      let front = take at buffer ++ text in
      let rest = drop (at + length text) buffer in
      ap (λ (l : List ℕ). l ++ more ++ drop (at + length text + length more) (front ++ rest)) (take_at front rest (at + length text) length_front)
      ∙ ap (λ (l : List ℕ). front ++ more ++ l) (ap (λ (n : ℕ). drop (n + length more) (front ++ rest)) (sym length_front) ∙ drop-append-add front rest (length more) ∙ drop-drop (length more) (at + length text) buffer)
      ∙ ap (λ (n : ℕ). front ++ more ++ drop n buffer) (add_assoc at (length text) (length more) ∙ ap (λ (n : ℕ). at + n) (sym (length-append text more)))
      ∙ ap (λ (l : List ℕ). l ++ drop (at + length (text ++ more)) buffer) (append_assoc (take at buffer) text more)

-- a text and more after it
pub put_more : {whole text more : List ℕ} {old middle new : Output} → text ++ more ≡ whole → HasRoom old (length text) → Put text old middle → Put more middle new → Put whole old new
put_more {whole} {text} {more} {old} {middle} {new} e room p q = record {
  place = omega (arith, q.place, p.place, length-append text more, ap length e);
  bytes =
      q.bytes ∙ ap (λ (l : List ℕ). written l middle.at more) p.bytes ∙ ap (λ (n : ℕ). written (written old.bytes.now old.at text) n more) p.place
      ∙ written_more text old.bytes.now old.at room more ∙ ap (written old.bytes.now old.at) e;
  size = q.size ∙ p.size;
  same_loan = q.same_loan ∙ p.same_loan;
}

-- nothing put leaves all as it is
pub put_none : (output : Output) → Put [] output output
put_none output =
    let at = output.at in
    let buffer = output.bytes.now in
    record {
      place = sym (add-zero at);
      bytes = sym (ap (λ (k : ℕ). take at buffer ++ [] ++ drop k buffer) (add-zero at) ∙ ap (λ (l : List ℕ). l ++ drop at buffer) (append-nil (take at buffer)) ∙ take-append-drop at buffer);
      size = refl;
      same_loan = refl;
    }

-- the same text under another name
pub as_text : {text same : List ℕ} {old new : Output} → text ≡ same → Put text old new → Put same old new
as_text {text} {same} {old} {new} e p = subst (λ (t : List ℕ). Put t old new) e p

-- a text as long as the buffer is all that it holds then
pub put_whole : {text : List ℕ} {old new : Output} → old.at ≡ 0 → length text ≡ length old.bytes.now → Put text old new → new.bytes.now ≡ text
put_whole {text} {old} {new} front e p =
    let buffer = old.bytes.now in
    let covered : length buffer ≤ 0 + length text = omega arith in
    p.bytes ∙ ap (λ (n : ℕ). written buffer n text) front ∙ ap (λ (l : List ℕ). text ++ l) (drop_of_length-le buffer covered) ∙ append-nil text

-- what is put at the front is printed
pub put_front : {text : List ℕ} {old new : Output} → old.at ≡ 0 → Put text old new → Printed text old.bytes.now new.bytes.now new.at
put_front {text} {old} {new} front p =
    let number : new.at ≡ length text = omega (arith, p.place) in
    record {
      number = number;
      bytes = p.bytes ∙ ap (λ (n : ℕ). written old.bytes.now n text) front ∙ ap (λ (n : ℕ). text ++ drop n old.bytes.now) (zero-add (length text) ∙ sym number);
    }

-- a number's one digit, or its two, one put after the other
pub put_digit : {n : ℕ} {old new : Output} → n < 10 → Put ((48 + n) ∷ []) old new → Put (decimal n) old new
put_digit {n} h p = as_text (sym (one_digit n h)) p

pub put_digits : {n : ℕ} {old middle new : Output} → 10 ≤ n → n < 100 → HasRoom old (length (decimal n))
    → Put ((48 + n / 10) ∷ []) old middle → Put ((48 + n % 10) ∷ []) middle new → Put (decimal n) old new
put_digits {n} l h room p q = put_more (sym (two_digits n l h)) (omega (arith, two_long n l h)) p q
