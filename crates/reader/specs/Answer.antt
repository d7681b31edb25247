-- The answer of a reading in the papers' numbers. Assumes nothing.
use Rattle.std.specs.Prelude.{Result}
use Rattle.refusals.specs.Numbers.{outcome_by}
use Rattle.refusals.specs.Outcome.{Outcome, accepted, refused}
use Rattle.refusals.specs.declared.refusal.Refusal.{Refusal}
use Rattle.search.specs.Search.{Seen}
use Rattle.search.specs.declared.Match.{Match}
use Rattle.reader.specs.Reading.{Tag}
use Rattle.reader.specs.declared.Reading.{Reading}
use Rattle.reader.specs.declared.Reading.TheVariants.{Tag as Read, Refused}

abbrev pub paper_reading : Reading → Outcome Tag
paper_reading (Read id turn differing corners) = accepted (record { id = id; turn = turn; differing = differing; corners = corners })
paper_reading (Refused n) = refused n

-- the code that is found, before its corners
abbrev pub paper_read : Result Match Refusal → Outcome Seen
paper_read answer = outcome_by (λ (m : Match). accepted (record { id = m.id; turn = m.turn; differing = m.differing })) answer
