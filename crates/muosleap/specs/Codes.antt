-- The entries on words and codes: "the code search's 6, 13; a lone turn's 6 for its edge". Assumes nothing.
use Rattle.std.specs.Prelude.{ℕ, cond, List, Result}
use Rattle.refusals.specs.Outcome.{Outcome, accepted, refused}
use Rattle.word.specs.Word.{turn}
use Rattle.tables.specs.Table.{bad_edge, bad_codes}
use Rattle.search.specs.Search.{Seen, search, search_from}
use Rattle.search.specs.Compared.{compared, compared_from}
use Rattle.search.specs.Answer.{paper_found}
use Rattle.search.specs.declared.SearchResult.{SearchResult}
use Rattle.refusals.specs.Numbers.{outcome_by}
use Rattle.refusals.specs.declared.refusal.Refusal.{Refusal}

-- what a search says: id, turn and differing modules, or the refusal
abbrev pub paper_search : Result SearchResult Refusal → Outcome Seen
paper_search answer = outcome_by paper_found answer

-- the count of codes compared, "given beside 13" too; a table that is refused has none
abbrev pub paper_count : Result SearchResult Refusal → Outcome ℕ
paper_count answer = outcome_by (λ (s : SearchResult). accepted s.compared) answer

-- a lone turn
unfoldable pub turned : ℕ → ℕ → Outcome ℕ
unfolding turn
turned bits edge = cond (bad_edge edge) (refused 6) (accepted (turn edge bits))

-- the code search
unfoldable pub best_tag : ℕ → ℕ → List ℕ → ℕ → Outcome Seen
unfolding bad_codes search_from
best_tag bits threshold codes edge = cond (bad_codes edge threshold codes) (refused 6) (search bits threshold codes edge)

-- 02's "count of codes compared", which stands beside what `best_tag` says: a tag has one, and so has 13; where the table is refused, no code
-- was compared
unfoldable pub codes_compared : ℕ → ℕ → List ℕ → ℕ → Outcome ℕ
unfolding bad_codes compared_from
codes_compared bits threshold codes edge = cond (bad_codes edge threshold codes) (refused 6) (accepted (compared bits threshold codes edge))
