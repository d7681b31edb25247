-- The same number twice in one list, from 02's ticket 4. Assumes nothing.
use Rattle.std.specs.Prelude.{ℕ, Bool, false, not, ◌&&◌, cond, List, eqb, length, get_or}
use Rattle.lists.specs.Each.{any}
use Rattle.lists.specs.Tab.{tabulate}
use Rattle.refusals.specs.Outcome.{Outcome, accepted, refused}
use Rattle.reader.specs.Reading.{Tag}

-- whether a reading gives this id; a refused quad gives none
abbrev pub gives_id : ℕ → Outcome Tag → Bool
gives_id id (accepted tag) = eqb tag.id id
gives_id id (refused n) = false

-- whether quad p of the list is another than q and gives this id
abbrev pub gives_too : List (Outcome Tag) → (q id p : ℕ) → Bool
gives_too read q id p = not (eqb p q) && gives_id id (get_or read p (refused 0))

-- whether a quad of the list other than q gives this id
unfoldable pub given_elsewhere : List (Outcome Tag) → (q id : ℕ) → Bool
unfolding any
given_elsewhere read q id = any (length read) (gives_too read q id)

-- "in a list reading, every quad that shares its id with another becomes a refused row"; "18, given in rows only, after 13", so what a
-- quad is refused for by itself stays: quad q of the list, from what it reads as by itself
abbrev pub in_list : List (Outcome Tag) → ℕ → Outcome Tag → Outcome Tag
in_list read q (accepted tag) = cond (given_elsewhere read q tag.id) (refused 18) (accepted tag)
in_list read q (refused n) = refused n

-- what the rows say of a list whose quads read so by themselves
unfoldable pub listed : List (Outcome Tag) → List (Outcome Tag)
unfolding tabulate given_elsewhere
listed read = tabulate (length read) (λ q. in_list read q (get_or read q (refused 0)))
