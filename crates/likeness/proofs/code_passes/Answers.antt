-- The tests of one code in turn. Assumes nothing.
use mathlib.Core.Path.{sym, ◌∙◌}
use mathlib.Core.Bool.{false≢true}
use native.Mathlib.Omega.{arith}
use Rattle.tables.proofs.Table.{Codes, good_codes}
use Rattle.likeness.proofs.Tested.{not_mixed, near_itself, tested}
use Rattle.likeness.proofs.code_passes.Goals.{Start, then-is_mixed, else-is_mixed}
use Rattle.likeness.proofs.code_passes.Goals as goal

table : (c : Start) → Codes c.args.edge c.args.threshold c.args.codes.now
table c = good_codes c.args.edge c.args.threshold c.args.codes.now c.requires.0

pub overflow_sub-least : goal.overflow_sub-least
overflow_sub-least c = let t = table (goal.at.overflow_sub-least c).Start in omega (arith, t.near.least)

pub four_turns-turns-requires : goal.four_turns-turns-requires
four_turns-turns-requires c =
    let t = table (goal.at.four_turns-turns-requires c).Start in (omega (arith, t.edges.least), omega (arith, t.edges.most))

pub is_mixed-requires : goal.is_mixed-requires
is_mixed-requires c =
    let t = table (goal.at.is_mixed-requires c).Start in (t.edges.most, t.small c.args.n c.requires.1, t.near.most)

pub returns-then-is_far_from_itself : goal.returns-then-is_far_from_itself
returns-then-is_far_from_itself c =
    let a = c.args in
    let t = table (goal.at.returns-then-is_far_from_itself c).Start in
    elim c.if-is_mixed.branch [
      | then-is_mixed w ↦
          tested a.edge a.threshold a.codes.now a.n t c.requires.1 c.four_turns-turns.result c.four_turns-turns.ensures
          (sym c.is_mixed.ensures ∙ w.if-is_mixed.true) c.is_far_from_all.result (sym w.is_far_from_itself.ensures ∙ sym w.value-is ∙ c.if-is_far_from_itself.true) c.is_far_from_all.ensures
      | else-is_mixed w ↦ absurd (false≢true (sym w.if-is_mixed.false ∙ sym w.value-is ∙ c.if-is_far_from_itself.true))
    ]

pub returns-else-is_far_from_itself : goal.returns-else-is_far_from_itself
returns-else-is_far_from_itself c =
    let a = c.args in
    let t = table (goal.at.returns-else-is_far_from_itself c).Start in
    c.if-is_far_from_itself.false
    ∙ elim c.if-is_mixed.branch [
      | then-is_mixed w ↦
          near_itself a.edge a.threshold a.codes.now a.n t c.requires.1 c.four_turns-turns.result c.four_turns-turns.ensures
          (sym c.is_mixed.ensures ∙ w.if-is_mixed.true) (sym w.is_far_from_itself.ensures ∙ sym w.value-is ∙ c.if-is_far_from_itself.false)
      | else-is_mixed w ↦ not_mixed a.edge a.threshold a.codes.now a.n t c.requires.1 (sym c.is_mixed.ensures ∙ w.if-is_mixed.false)
    ]
