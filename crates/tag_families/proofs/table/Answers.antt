-- Refusal 6 lets every family through. Assumes nothing.
use native.Mathlib.Omega.{arith}
use Rattle.tag_families.proofs.Families.{table_passes}
use Rattle.tag_families.proofs.table.Goals as goal

pub invariant_of-result : goal.invariant_of-result
invariant_of-result c = record { sound = table_passes (omega (arith, c.if-number-ge5.false)) c.family.ensures c.codes_of.ensures }
