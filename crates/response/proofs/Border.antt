-- On and off the border. Assumes nothing.
use mathlib.Core.Path.{◌≡◌, refl, sym, ap, ap₂, ◌∙◌}
use mathlib.Core.Bool.{Bool, true, false, ◌||◌, cond, or-true}
use mathlib.Core.List.{List}
use Prim.Native.Nat.{ℕ, ◌+◌, ◌-◌, ◌*◌, ◌<◌}
use native.Mathlib.Omega.{arith}
use borrow.Author.Tests.{eq-eqb, ne_eqb, eqb-false}
use lib.Dec.{eqb}
use lib.ListN.{length, get_or, take, drop}
use lib.Ieee.{Float, nan}
use Rattle.lists.specs.Tab.{tabulate}
use Rattle.std.proofs.lemmas.Bool.{or_parts}
use Rattle.std.proofs.lemmas.Nat.{div-mul-add, mod-mul-add}
use Rattle.samples.specs.Samples.{zero_f}
use Rattle.lists.proofs.Rows.{tabulate_ext, row_fits, row_length, row_read}
use Rattle.response.specs.Response.{at_end, determinant_at, response_at}
use Rattle.response.specs.Steps.{row_response}

pub first_end : (n p : ℕ) → p ≡ 0 → at_end n p ≡ true
first_end n p e = simp (eq-eqb p 0 e)

pub last_end : (n p : ℕ) → p + 1 ≡ n → at_end n p ≡ true
last_end n p e = rw (eq-eqb (p + 1) n e) (or-true (eqb p 0))

pub off_end : (n p : ℕ) → 0 < p → p + 1 < n → at_end n p ≡ false
off_end n p l h = simp (ne_eqb p 0 (λ e. omega arith), ne_eqb (p + 1) n (λ e. omega arith))

module _ (above here below : List Float) (n x : ℕ) where
  abbrev off_value : Float
  off_value = determinant_at (λ p. get_or above p nan) (λ p. get_or here p nan) (λ p. get_or below p nan) x

  pub row_end : at_end n x ≡ true → zero_f ≡ row_response above here below n x
  row_end e = sym (ap (λ (b : Bool). cond b zero_f off_value) e)

  pub row_off : at_end n x ≡ false → off_value ≡ row_response above here below n x
  row_off e = sym (ap (λ (b : Bool). cond b zero_f off_value) e)

-- off the ends there is a place on each side
between : (n p : ℕ) → p < n → at_end n p ≡ false → (0 < p) × (p + 1 < n)
between n p h e =
    let a : p ≡ 0 → ⊥ = eqb-false p 0 (or_parts (eqb p 0) (eqb (p + 1) n) e).0 in
    let b : p + 1 ≡ n → ⊥ = eqb-false (p + 1) n (or_parts (eqb p 0) (eqb (p + 1) n) e).1 in
    (omega arith, omega arith)

pick : (b : Bool) {v w : Float} → (b ≡ false → v ≡ w) → cond b zero_f v ≡ cond b zero_f w
pick true e = refl
pick false e = e refl

-- a row of a plane is as long as the plane is wide
pub row_wide : (img : List Float) (w h y : ℕ) (row : List Float) → length img ≡ w * h → y < h → row ≡ take w (drop (y * w) img) → length row ≡ w
row_wide img w h y row whole b e = ap length e ∙ row_length img w y w refl (rw whole (row_fits w h y b))

-- the response in row y and column x
module _ (img : List Float) (w h y : ℕ) where
  abbrev row : ℕ → ℕ → Float
  row r x = get_or img (r * w + x) nan

  abbrev in_row : ℕ → Float
  in_row x = cond (at_end h y || at_end w x) zero_f (determinant_at (row (y - 1)) (row y) (row (y + 1)) x)

  at_row : (x : ℕ) → x < w → response_at img w h (y * w + x) ≡ in_row x
  at_row x b =
      ap₂ (λ (r c : ℕ). cond (at_end h r || at_end w c) zero_f (determinant_at (row (r - 1)) (row r) (row (r + 1)) c)) (div-mul-add y w x b) (mod-mul-add y w x b)

  by_row : (x : ℕ) (t : Bool) → at_end h y ≡ t → in_row x ≡ cond (t || at_end w x) zero_f (determinant_at (row (y - 1)) (row y) (row (y + 1)) x)
  by_row x t e = ap (λ (q : Bool). cond (q || at_end w x) zero_f (determinant_at (row (y - 1)) (row y) (row (y + 1)) x)) e

  pub border_row : at_end h y ≡ true → tabulate w (λ x. zero_f) ≡ tabulate w (λ x. response_at img w h (y * w + x))
  border_row e = tabulate_ext w _ _ (λ x b. sym (at_row x b ∙ by_row x true e))

  module _ (above here below : List Float) (a : above ≡ take w (drop ((y - 1) * w) img)) (b : here ≡ take w (drop (y * w) img)) (c : below ≡ take w (drop ((y + 1) * w) img)) where
    read : (r : ℕ) (l : List Float) → l ≡ take w (drop (r * w) img) → (p : ℕ) → p < w → get_or l p nan ≡ row r p
    read r l e p i = ap (λ (z : List Float). get_or z p nan) e ∙ row_read img w r w refl p nan i

    nine : (x : ℕ) → 0 < x → x + 1 < w → determinant_at (λ p. get_or above p nan) (λ p. get_or here p nan) (λ p. get_or below p nan) x ≡ determinant_at (row (y - 1)) (row y) (row (y + 1)) x
    nine x l i =
        let up = read (y - 1) above a in
        let at = read y here b in
        let down = read (y + 1) below c in
        rw (up (x - 1) (omega arith), up x (omega arith), up (x + 1) i, at (x - 1) (omega arith), at x (omega arith), at (x + 1) i, down (x - 1) (omega arith), down x (omega arith), down (x + 1) i)

    pub inner_row : at_end h y ≡ false → tabulate w (row_response above here below w) ≡ tabulate w (λ x. response_at img w h (y * w + x))
    inner_row e =
        tabulate_ext w _ _
        (λ x i.
        pick (at_end w x) (λ q. nine x (between w x i q).0 (between w x i q).1)
        ∙ sym (at_row x i ∙ by_row x false e))
