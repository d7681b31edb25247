-- That a table is the formula's is computed over the whole of it, by `refl`; other edges have the formula. Assumes nothing.
use mathlib.Core.Path.{◌≡◌, refl, sym, ap, ◌∙◌}
use mathlib.Core.List.{List}
use Prim.Native.Nat.{ℕ}
use lib.Dec.{lit≤}
use Rattle.lists.specs.Tab.{tabulate}
use Rattle.word.specs.Word.{turn}
use Rattle.word.specs.Sources.{sources}
use Rattle.word.specs.Gathered.{gathered}
use Rattle.word.proofs.Tables.{table_turns, table_fits}
use Rattle.word.proofs.rotate_bits.Goals as goal

pub by_table-requires : goal.by_table-requires
unfolding tabulate
by_table-requires c = table_fits 4 _ refl (lit≤ tt)

pub by_table-requires-in-5 : goal.by_table-requires-in-5
unfolding tabulate
by_table-requires-in-5 c = table_fits 5 _ refl (lit≤ tt)

pub by_table-requires-in-6 : goal.by_table-requires-in-6
unfolding tabulate
by_table-requires-in-6 c = table_fits 6 _ refl (lit≤ tt)

-- what a table that is the formula's gives for its edge
by_its_table : (e edge w r : ℕ) (table : List ℕ) → edge ≡ e → table ≡ sources e → r ≡ gathered table w → r ≡ turn edge w
by_its_table e edge w r table same right taken = taken ∙ table_turns e table right w ∙ ap (λ (n : ℕ). turn n w) (sym same)

pub returns-in-4 : goal.returns-in-4
unfolding tabulate
returns-in-4 c =
    by_its_table 4 c.args.edge c.args.bits c.by_table.result _ c.in-4.is refl c.by_table.ensures

pub returns-in-5 : goal.returns-in-5
unfolding tabulate
returns-in-5 c =
    by_its_table 5 c.args.edge c.args.bits c.by_table-in-5.result _ c.in-5.is refl c.by_table-in-5.ensures

pub returns-in-6 : goal.returns-in-6
unfolding tabulate
returns-in-6 c =
    by_its_table 6 c.args.edge c.args.bits c.by_table-in-6.result _ c.in-6.is refl c.by_table-in-6.ensures
