-- What is written for the bytes that were read.
use Rattle.std.proofs.Common.{◌≡◌, ℕ, List, length, take, drop, IfSome, OnOk, Option, None, Some, Result, ◌∙◌, ap, subst}
use Rattle.std.proofs.Math.Seq.{take-append_seam}
use Rattle.std.specs.Io.KnownBytes.{Appends}
use Rattle.text.specs.Put.{Printed}
use Rattle.readbits_lines.specs.Readbits.{readbits}

-- what is printed stands at the front of the buffer
pub Printed-front : {text buffer left : List ℕ} {count : ℕ} → Printed text buffer left count → take count left ≡ text
Printed-front {text} {buffer} {left} {count} p =
    ap (λ (k : ℕ). take k left) p.number ∙ ap (take (length text)) p.bytes ∙ take-append_seam text (drop count buffer)

-- what was written for the bytes that were read is what is written for the input's first bytes
pub wrote : {T E : Type 0} (known a b : Option (List ℕ)) (r : Result T E) (m n : ℕ) (bytes out : List ℕ) → IfSome known (λ xs. bytes ≡ take m xs) → m ≡ n → out ≡ readbits bytes
    → OnOk r (Appends a b out) → IfSome known (λ xs. OnOk r (Appends a b (readbits (take n xs))))
wrote None a b r m n bytes out e same f h = tt
wrote (Some xs) a b r m n bytes out e same f h =
    subst (λ (k : ℕ). OnOk r (Appends a b (readbits (take k xs)))) same
    (subst (λ (l : List ℕ). OnOk r (Appends a b (readbits l))) e (subst (λ (l : List ℕ). OnOk r (Appends a b l)) f h))
