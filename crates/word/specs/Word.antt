-- A word as a square of bits: its quarter turn, and the bits in which two words differ.
-- Places are counted from the lowest bit, which is place 0. Assumes nothing.
use Rattle.std.specs.Prelude.{ℕ, zero, suc, ◌+◌, ◌-◌, ◌*◌, ◌/◌, ◌%◌, ◌^◌}
use Rattle.std.specs.Int.Bits.{differ}
use Rattle.lists.specs.Sum.{sum}

-- the bit of w at place k
abbrev pub bit : ℕ → ℕ → ℕ
bit w k = w / 2 ^ k % 2

-- the word of n places that has f k, a 0 or 1, at each place k
unfoldable pub word : ℕ → (ℕ → ℕ) → ℕ
word zero f = 0
word (suc n) f = f n * 2 ^ n + word n f

-- "One turn puts at place i × edge + j the bit from place j × edge + edge − 1 − i."
abbrev pub source : ℕ → ℕ → ℕ
source edge k = k % edge * edge + (edge - 1 - k / edge)

-- "A word of edge² bits is a square." It is turned once.
unfoldable pub turn : ℕ → ℕ → ℕ
unfolding word
turn edge w = word (edge * edge) (λ k. bit w (source edge k))

-- w turned q times
unfoldable pub turns : ℕ → ℕ → ℕ → ℕ
unfolding turn
turns edge zero w = w
turns edge (suc q) w = turns edge q (turn edge w)

-- at how many of the n low places a and b differ
unfoldable pub differing_in : ℕ → ℕ → ℕ → ℕ
unfolding sum
differing_in n a b = sum n (λ k. differ (bit a k) (bit b k))

-- at how many of their 64 places two words differ
abbrev pub differing : ℕ → ℕ → ℕ
differing a b = differing_in 64 a b
