-- Laws of starts: four left turns are none, and a start's corners in the answer are the quad's. Assumes nothing.
use mathlib.Core.Path.{◌≡◌, refl, sym, ap, ◌∙◌}
use Prim.Native.Nat.{ℕ, zero, suc, ◌+◌, ◌-◌, ◌*◌, ◌/◌, ◌%◌, ◌≤◌}
use native.Mathlib.Nat.{add-zero, add-suc}
use native.Mathlib.Omega.{arith}
use Rattle.points.specs.declared.Quad.{Quad}
use Rattle.points.specs.Turned.{turned_once, turned_left, reversed, answer_corners}

-- turns add up
pub turned_add : (s t : ℕ) (q : Quad) → turned_left s (turned_left t q) ≡ turned_left (t + s) q
unfolding turned_left
turned_add zero t q = ap (λ (n : ℕ). turned_left n q) (sym (add-zero t))
turned_add (suc s) t q = ap turned_once (turned_add s t q) ∙ ap (λ (n : ℕ). turned_left n q) (sym (add-suc t s))

-- four left turns are none
pub turned_four : (q : Quad) → turned_left 4 q ≡ q
unfolding turned_left
turned_four q = refl

turned_fours : (n : ℕ) (q : Quad) → turned_left (4 * n) q ≡ q
unfolding turned_left
turned_fours zero q = refl
turned_fours (suc n) q =
    let e : 4 * suc n ≡ 4 * n + 4 = omega arith in
    ap (λ (k : ℕ). turned_left k q) e ∙ sym (turned_add 4 (4 * n) q) ∙ turned_four (turned_left (4 * n) q) ∙ turned_fours n q

-- so only the rest of a turn by 4 counts
pub turned_mod : (s : ℕ) (q : Quad) → turned_left s q ≡ turned_left (s % 4) q
turned_mod s q =
    let e : s ≡ 4 * (s / 4) + s % 4 = omega arith in
    ap (λ (k : ℕ). turned_left k q) e ∙ sym (turned_add (s % 4) (4 * (s / 4)) q) ∙ ap (turned_left (s % 4)) (turned_fours (s / 4) q)

pub turned_rest : (s k : ℕ) (q : Quad) → s % 4 ≡ k → turned_left k q ≡ turned_left s q
turned_rest s k q e = sym (turned_mod s q ∙ ap (λ (n : ℕ). turned_left n q) e)

-- start s at the turn that is less by s, modulo 4, has the corners of the quad at the turn
pub start_corners : (s t : ℕ) (q : Quad) → s ≤ 3 → t ≤ 3 → answer_corners (turned_left s q) ((t + 4 - s) % 4) ≡ answer_corners q t
start_corners s t q hs ht =
    let e : (s + (t + 4 - s) % 4) % 4 ≡ t = omega arith in
    ap reversed (turned_add ((t + 4 - s) % 4) s q ∙ turned_mod (s + (t + 4 - s) % 4) q ∙ ap (λ (k : ℕ). turned_left k q) e)
