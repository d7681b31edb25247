-- The search's answer in the papers' numbers. Assumes nothing.
use Rattle.std.specs.Prelude.{Option, Some, None}
use Rattle.refusals.specs.Outcome.{Outcome, accepted, refused}
use Rattle.search.specs.Search.{Seen}
use Rattle.search.specs.declared.Match.{Match}
use Rattle.search.specs.declared.SearchResult.{SearchResult}

abbrev pub paper_match : Option Match → Outcome Seen
paper_match (Some m) = accepted (record { id = m.id; turn = m.turn; differing = m.differing })
paper_match None = refused 13

-- id, turn and differing modules, or the refusal
abbrev pub paper_found : SearchResult → Outcome Seen
paper_found s = paper_match s.found
