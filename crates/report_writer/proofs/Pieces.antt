-- The bytes of a tag's row, piece by piece. Assumes nothing.
use Rattle.std.proofs.Common.{◌≡◌, ℕ, ◌+◌, ◌/◌, ◌%◌, List, [], ◌∷◌, ◌++◌, length, refl, ap₂, append_assoc, arith, length-append, w16, w32}
use Rattle.std.specs.Int.{to_le_bytes}
use Rattle.points.specs.declared.Quad.{Quad}
use Rattle.report.specs.Bytes.{low_first, unless_zero, row_bytes}
use Rattle.report.proofs.Good.{length_tag, length-unless_zero}
use Rattle.text.specs.declared.Output.{Output}
use Rattle.text.specs.Put.{Put, HasRoom}
use Rattle.text.proofs.Join.{put_more}
use Rattle.report_writer.specs.Steps.{tag_row}

-- five texts put one after another are put together
module _ (a b c d e : List ℕ) where
  abbrev five : List ℕ
  five = a ++ (b ++ (c ++ (d ++ e)))

  five_long : length five ≡ length a + (length b + (length c + (length d + length e)))
  five_long = simp length-append

  pub put_five : {o₀ o₁ o₂ o₃ o₄ o₅ : Output} → HasRoom o₀ (length five) → Put a o₀ o₁ → Put b o₁ o₂ → Put c o₂ o₃ → Put d o₃ o₄ → Put e o₄ o₅ → Put five o₀ o₅
  put_five room p q r s t =
      let two = length-append a b in
      let three = length-append (a ++ b) c in
      let four = length-append ((a ++ b) ++ c) d in
      put_more (simp append_assoc) (omega (arith, five_long, two, three, four))
      (put_more refl (omega (arith, five_long, two, three))
      (put_more refl (omega (arith, five_long, two)) (put_more refl (omega (arith, five_long)) p q) r)
      s)
      t

-- std's bytes of a number are the definition's
pub le_two : (n : ℕ) → to_le_bytes w16 n ≡ low_first 2 n
unfolding low_first
le_two n = refl

pub le_four : (n : ℕ) → to_le_bytes w32 n ≡ low_first 4 n
unfolding low_first
le_four n = ap₂ (λ (c d : ℕ). n % 256 ∷ n / 256 % 256 ∷ c % 256 ∷ d % 256 ∷ []) (omega arith) (omega arith)

-- how long the pieces of a tag's row are together
pub tag_long : (id turn differing : ℕ) (quad : Quad) → length (row_bytes (tag_row id turn differing quad)) ≡ 35 + length (unless_zero turn) + length (unless_zero differing)
tag_long id turn differing quad =
    omega (arith, length_tag (record { id = id; turn = turn; differing = differing; corners = quad }), length-unless_zero turn, length-unless_zero differing)
