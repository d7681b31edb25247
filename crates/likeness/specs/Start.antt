-- A reading from another start: "all give one id .., and start s the turn of start 0 less s, modulo 4", all with one number of differing
-- modules. Assumes nothing.
use Rattle.std.specs.Prelude.{ℕ, ◌+◌, ◌-◌, ◌%◌}
use Rattle.refusals.specs.Outcome.{Outcome, accepted, refused}
use Rattle.search.specs.Search.{Seen}

-- the turn t less s, modulo 4, for s of 0 to 3
abbrev pub turn_less : ℕ → ℕ → ℕ
turn_less s t = (t + (4 - s)) % 4

abbrev pub seen_from : ℕ → Outcome Seen → Outcome Seen
seen_from s (accepted seen) = accepted (record { id = seen.id; turn = turn_less s seen.turn; differing = seen.differing })
seen_from s (refused n) = refused n
