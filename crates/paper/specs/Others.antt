-- The other quads of a list, from 02's ticket 4. What each quad reads as by itself is given by its place. Assumes nothing.
use Rattle.std.specs.Prelude.{◌≡◌, false, ℕ, ◌<◌}
use Rattle.refusals.specs.Outcome.{Outcome, accepted}
use Rattle.reader.specs.Reading.{Tag}
use Rattle.listing.specs.Repeated.{gives_id}

-- "each quad whose id no other quad of the list gives": of n quads none but that at place i gives this id
abbrev pub NoOther : (read : ℕ → Outcome Tag) (n i id : ℕ) → Type 0
NoOther read n i id = (j : ℕ) → j < n → (j ≡ i → ⊥) → gives_id id (read j) ≡ false

-- the quad at place i, if it is read, gives an id that no other quad gives
abbrev pub Unshared : (read : ℕ → Outcome Tag) (n i : ℕ) → Type 0
Unshared read n i = (tag : Tag) → read i ≡ accepted tag → NoOther read n i tag.id

-- "every quad that shares its id with another": the quad at place i is read, and so is some other quad of the n, with the same id
pub record Shares (read : ℕ → Outcome Tag) (n i : ℕ) : Type 0 where
  pub tag : Tag
  pub own : read i ≡ accepted tag
  pub place : ℕ
  pub among : place < n
  pub other : place ≡ i → ⊥
  pub other_tag : Tag
  pub read_too : read place ≡ accepted other_tag
  pub same : other_tag.id ≡ tag.id
