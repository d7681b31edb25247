-- The likeness check as an entry: "the likeness check 6, 7". Assumes nothing.
use Rattle.std.specs.Prelude.{ℕ, cond, List}
use Rattle.refusals.specs.Outcome.{Outcome, accepted, refused, Done}
use Rattle.tables.specs.declared.Family.{Family}
use Rattle.tables.specs.Table.{bad_table}
use Rattle.likeness.specs.Likeness.{likeness}

unfoldable pub check_likeness : Family → List ℕ → Outcome Done
unfolding bad_table likeness
check_likeness family codes =
    cond (bad_table family codes) (refused 6)
    (cond (likeness family.edge family.hamming_distance codes) (accepted (record {})) (refused 7))
