-- An 8-bit plane as a picture that is painted. Assumes nothing.
use Rattle.std.specs.Prelude.{ℕ, ◌+◌, ◌-◌, Bool, ◌&&◌, cond, List, ltb, leb, length, get_or}
use Rattle.lists.specs.Tab.{tabulate}
use Rattle.refusals.specs.Pixels.{column_of, line_of, is_pixel}
use Rattle.refusals.specs.declared.Frame.{Frame}

-- x is one of the n numbers from x0 on
abbrev pub between : ℕ → ℕ → ℕ → Bool
between x0 n x = leb x0 x && ltb x (x0 + n)

-- the bytes after the n of them from `start` on have been written: byte `start + i` has become `new i`
abbrev pub run_written : (start n : ℕ) → (ℕ → ℕ) → List ℕ → List ℕ
run_written start n new bytes = tabulate (length bytes) (λ k. cond (between start n k) (new (k - start)) (get_or bytes k 0))

-- byte k, which was `old`, after each pixel (x, y) has become `pixel x y old`: "The painter leaves filler as it found it."
abbrev pub repainted_byte : Frame → (ℕ → ℕ → ℕ → ℕ) → (k old : ℕ) → ℕ
repainted_byte frame pixel k old = cond (is_pixel frame k) (pixel (column_of frame k) (line_of frame k) old) old

-- the plane afterwards
unfoldable pub repainted : Frame → (ℕ → ℕ → ℕ → ℕ) → List ℕ → List ℕ
unfolding tabulate
repainted frame pixel plane = tabulate (length plane) (λ k. repainted_byte frame pixel k (get_or plane k 0))

-- the block of `wide` columns and `high` rows whose upper left pixel is (x0, y0): pixel (x, y) lies in it
abbrev pub in_block : (x0 y0 wide high x y : ℕ) → Bool
in_block x0 y0 wide high x y = between x0 wide x && between y0 high y

-- pixel (x, y), which was `old`, after each row of the block has been written alike: its pixel i has become `new i`
abbrev pub block_pixel : (x0 y0 wide high : ℕ) → (ℕ → ℕ) → (x y old : ℕ) → ℕ
block_pixel x0 y0 wide high new x y old = cond (in_block x0 y0 wide high x y) (new (x - x0)) old

-- "It fills the plane with light": its pixels
abbrev pub filled : Frame → ℕ → List ℕ → List ℕ
filled frame light plane = repainted frame (λ x y old. light) plane
