-- A quad's numbers, written one after the other. Assumes nothing.
use mathlib.Core.Path.{◌≡◌, refl, sym, ap, ap₂, ◌∙◌}
use mathlib.Core.List.{List, ◌++◌, append_assoc}
use Prim.Native.Nat.{ℕ, ◌+◌, ◌*◌, ◌<◌, ◌≤◌}
use native.Mathlib.Omega.{arith}
use lib.Ieee.{Float, nan}
use lib.ListN.{length, get_or, take, drop}
use lib.Seq.{sets, sets-eq, drop-drop}
use Rattle.lists.proofs.Part.{back, part_read}
use Rattle.points.specs.declared.Quad.{Quad}
use Rattle.points.specs.Numbers.{quad_size, point_at, quad_at, numbers_of, corners_at}

-- a part that was lent, and comes back as vs, is those stores
pub part_stores {ℓ} : {A : Type ℓ} (l vs ys : List A) (at k : ℕ) → ys ≡ vs → k ≡ length vs → at + length vs ≤ length l → back l at k ys ≡ sets l at vs
part_stores l vs ys at k same wide fits =
    ap₂ (back l at) wide same ∙ ap (λ (rest : List _). take at l ++ (vs ++ rest)) (drop-drop (length vs) at l)
    ∙ sym (append_assoc (take at l) vs (drop (at + length vs) l)) ∙ sym (sets-eq vs l at fits)

-- the quad whose numbers stand at place q of a list
module _ (l : List Float) (q : ℕ) (quad : Quad) (e : corners_at l q ≡ numbers_of quad) where
  number : (k m : ℕ) → k < quad_size → m ≡ quad_size * q + k → get_or l m nan ≡ get_or (numbers_of quad) k nan
  number k m h is =
      ap (λ (n : ℕ). get_or l n nan) is ∙ sym (part_read l (quad_size * q) quad_size k nan h) ∙ ap (λ (n : List Float). get_or n k nan) e

  corner : (k m : ℕ) → k + 1 < quad_size → m ≡ quad_size * q + k → point_at l m ≡ point_at (numbers_of quad) k
  corner k m h is =
      let x = number k m (omega arith) is in
      let y = number (k + 1) (m + 1) h (omega arith) in
      λ j. record { x = x j; y = y j }

  pub quad_of_numbers : quad_at l q ≡ quad
  quad_of_numbers =
      let at = quad_size * q in
      let q0 = corner 0 at (omega arith) (omega arith) in
      let q1 = corner 2 (at + 2) (omega arith) refl in
      let q2 = corner 4 (at + 4) (omega arith) refl in
      let q3 = corner 6 (at + 6) (omega arith) refl in
      λ j. record { q0 = q0 j; q1 = q1 j; q2 = q2 j; q3 = q3 j }
