-- Laws of a test of all four corners. Assumes nothing.
use mathlib.Core.Path.{◌≡◌, refl, sym, ap, ◌∙◌}
use mathlib.Core.Bool.{Bool, false, ◌||◌, or_comm, or_assoc}
use Prim.Native.Nat.{ℕ, zero, suc}
use Rattle.std.proofs.lemmas.Bool.{or_parts}
use Rattle.points.specs.declared.Point.{Point}
use Rattle.points.specs.declared.Quad.{Quad}
use Rattle.points.specs.Turned.{turned_left, answer_corners, any_corner}

around : (a b c d : Bool) → b || c || d || a ≡ a || b || c || d
around a b c d = or_comm (b || c || d) a ∙ sym (or_assoc a (b || c) d) ∙ ap (λ (t : Bool). t || d) (sym (or_assoc a b c))

-- a test of all four corners does not depend on the start
pub any_turned : (test : Point → Bool) (s : ℕ) (q : Quad) → any_corner test (turned_left s q) ≡ any_corner test q
unfolding turned_left
any_turned test zero q = refl
any_turned test (suc s) q =
    let p = turned_left s q in
    around (test p.q0) (test p.q1) (test p.q2) (test p.q3) ∙ any_turned test s q

-- nor on the order in which an answer has them
backward : (a b c d : Bool) → d || c || b || a ≡ a || b || c || d
backward a b c d =
    or_comm (d || c || b) a ∙ ap (λ (t : Bool). a || t) (or_comm (d || c) b ∙ ap (λ (t : Bool). b || t) (or_comm d c))
    ∙ sym (or_assoc a b (c || d)) ∙ sym (or_assoc (a || b) c d)

pub any_answered : (test : Point → Bool) (turn : ℕ) (q : Quad) → any_corner test (answer_corners q turn) ≡ any_corner test q
any_answered test turn q =
    let p = turned_left turn q in
    backward (test p.q0) (test p.q1) (test p.q2) (test p.q3) ∙ any_turned test turn q

-- no corner passes it
pub record NoCorner (test : Point → Bool) (q : Quad) : Type 0 where
  pub at0 : test q.q0 ≡ false
  pub at1 : test q.q1 ≡ false
  pub at2 : test q.q2 ≡ false
  pub at3 : test q.q3 ≡ false

pub no_corner : (test : Point → Bool) (q : Quad) → any_corner test q ≡ false → NoCorner test q
no_corner test q e =
    let a = test q.q0 in
    let b = test q.q1 in
    let c = test q.q2 in
    let d = test q.q3 in
    let e₃ = (or_parts (a || b || c) d e).0 in
    let e₂ = (or_parts (a || b) c e₃).0 in
    record { at0 = (or_parts a b e₂).0; at1 = (or_parts a b e₂).1; at2 = (or_parts (a || b) c e₃).1; at3 = (or_parts (a || b || c) d e).1 }
