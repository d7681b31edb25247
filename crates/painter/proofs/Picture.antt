-- A plane that was painted pixel by pixel: its length, its pixels, its filler, and one painting after another. Assumes nothing.
use mathlib.Core.Path.{◌≡◌, refl, sym, ap, ◌∙◌}
use mathlib.Core.Bool.{Bool, true, false, cond}
use mathlib.Core.List.{List}
use Prim.Native.Nat.{ℕ, ◌<◌}
use native.Mathlib.Omega.{arith}
use borrow.Author.Tests.{lt-ltb, ltb-true}
use lib.Dec.{ltb}
use lib.ListN.{length, get_or}
use Rattle.lists.proofs.Tab.{length-tabulate, get_or-tabulate}
use Rattle.refusals.specs.declared.Frame.{Frame}
use Rattle.refusals.specs.Pixels.{place_of, column_of, line_of, is_pixel}
use Rattle.refusals.proofs.Pixels.{place_column, place_row, Framed, pixel_inside}
use Rattle.painter.specs.Picture.{repainted_byte, repainted}
use Rattle.painter.proofs.Runs.{tabulated}

module _ (frame : Frame) where
  pub length-repainted : (f : ℕ → ℕ → ℕ → ℕ) (plane : List ℕ) → length (repainted frame f plane) ≡ length plane
  unfolding repainted
  length-repainted f plane = length-tabulate (length plane) (λ k. repainted_byte frame f k (get_or plane k 0))

  byte_repainted : (f : ℕ → ℕ → ℕ → ℕ) (plane : List ℕ) (k d : ℕ) → k < length plane
      → get_or (repainted frame f plane) k d ≡ repainted_byte frame f k (get_or plane k 0)
  unfolding repainted
  byte_repainted f plane k d h = get_or-tabulate (length plane) (λ k. repainted_byte frame f k (get_or plane k 0)) k d h

  -- a list with the same bytes is the painted plane
  pub is_repainted : (f : ℕ → ℕ → ℕ → ℕ) (plane out : List ℕ) → length out ≡ length plane
      → ((k : ℕ) → k < length plane → get_or out k 0 ≡ repainted_byte frame f k (get_or plane k 0)) → out ≡ repainted frame f plane
  unfolding repainted
  is_repainted f plane out l h = tabulated (λ k. repainted_byte frame f k (get_or plane k 0)) (length plane) out l h

  -- what byte k is, if it is a pixel and if it is filler
  pub byte_is : (f : ℕ → ℕ → ℕ → ℕ) (k old new : ℕ) → (column_of frame k < frame.width → new ≡ f (column_of frame k) (line_of frame k) old)
      → (is_pixel frame k ≡ false → new ≡ old) → new ≡ repainted_byte frame f k old
  byte_is f k old new pixel filler = go (is_pixel frame k) refl
    where
      go : (t : Bool) → is_pixel frame k ≡ t → new ≡ cond t (f (column_of frame k) (line_of frame k) old) old
      go true e = pixel (ltb-true (column_of frame k) frame.width e)
      go false e = filler e

  -- filler stays as it was
  pub filler_repainted : (f : ℕ → ℕ → ℕ → ℕ) (plane : List ℕ) (k d : ℕ) → k < length plane → is_pixel frame k ≡ false
      → get_or (repainted frame f plane) k d ≡ get_or plane k 0
  filler_repainted f plane k d h e =
      byte_repainted f plane k d h ∙ ap (λ (t : Bool). cond t (f (column_of frame k) (line_of frame k) (get_or plane k 0)) (get_or plane k 0)) e

  -- nothing is painted
  pub repainted_none : (f : ℕ → ℕ → ℕ → ℕ) (plane : List ℕ) → ((x y old : ℕ) → f x y old ≡ old) → plane ≡ repainted frame f plane
  repainted_none f plane h =
      is_repainted f plane plane refl (λ k b. byte_is f k (get_or plane k 0) (get_or plane k 0) (λ _. sym (h (column_of frame k) (line_of frame k) (get_or plane k 0))) (λ _. refl))

  -- one painting after another
  twice : (f g h : ℕ → ℕ → ℕ → ℕ) → ((x y old : ℕ) → g x y (f x y old) ≡ h x y old)
      → (k old : ℕ) → repainted_byte frame g k (repainted_byte frame f k old) ≡ repainted_byte frame h k old
  twice f g h e k old = go (is_pixel frame k)
    where
      c : ℕ
      c = column_of frame k

      l : ℕ
      l = line_of frame k

      go : (t : Bool) → cond t (g c l (cond t (f c l old) old)) (cond t (f c l old) old) ≡ cond t (h c l old) old
      go true = e c l old
      go false = refl

  pub repainted_twice : (f g h : ℕ → ℕ → ℕ → ℕ) (plane : List ℕ) → ((x y old : ℕ) → g x y (f x y old) ≡ h x y old)
      → repainted frame g (repainted frame f plane) ≡ repainted frame h plane
  repainted_twice f g h plane e =
      is_repainted h plane (repainted frame g (repainted frame f plane)) (length-repainted g (repainted frame f plane) ∙ length-repainted f plane)
      (λ k b.
      byte_repainted g (repainted frame f plane) k 0 (rw length-repainted b)
      ∙ ap (repainted_byte frame g k) (byte_repainted f plane k 0 b)
      ∙ twice f g h e k (get_or plane k 0))

  -- two paintings that agree on every pixel of the plane
  pub repainted_same : (f g : ℕ → ℕ → ℕ → ℕ) (plane : List ℕ) → Framed (length plane) frame
      → ((x y old : ℕ) → x < frame.width → y < frame.height → f x y old ≡ g x y old) → repainted frame f plane ≡ repainted frame g plane
  repainted_same f g plane framed e =
      is_repainted g plane (repainted frame f plane) (length-repainted f plane)
      (λ k b.
      byte_is g k (get_or plane k 0) (get_or (repainted frame f plane) k 0)
      (λ h.
      byte_repainted f plane k 0 b
      ∙ ap (λ (t : Bool). cond t (f (column_of frame k) (line_of frame k) (get_or plane k 0)) (get_or plane k 0)) (lt-ltb (column_of frame k) frame.width h)
      ∙ e (column_of frame k) (line_of frame k) (get_or plane k 0) h (framed.row_lt k b))
      (λ h. filler_repainted f plane k 0 b h))

  -- pixel (x, y) of a painted plane
  pub pixel_repainted : (f : ℕ → ℕ → ℕ → ℕ) (plane : List ℕ) (x y d : ℕ) → Framed (length plane) frame → x < frame.width → y < frame.height
      → get_or (repainted frame f plane) (place_of frame x y) d ≡ f x y (get_or plane (place_of frame x y) 0)
  pixel_repainted f plane x y d framed hx hy =
      let old = get_or plane (place_of frame x y) 0 in
      let inside : x < frame.pitch = omega (arith, framed.pitched.at_least) in
      let column = place_column frame x y inside in
      byte_repainted f plane (place_of frame x y) d (pixel_inside framed x y hx hy)
      ∙ ap (λ (c : ℕ). cond (ltb c frame.width) (f c (line_of frame (place_of frame x y)) old) old) column
      ∙ ap (λ (t : Bool). cond t (f x (line_of frame (place_of frame x y)) old) old) (lt-ltb x frame.width hx)
      ∙ ap (λ (l : ℕ). f x l old) (place_row frame x y inside)
