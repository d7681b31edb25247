-- The two fields' bits are 0 or 1, so the map is 15 or less.
use native.Mathlib.Omega.{arith}
use Rattle.report.proofs.Good.{one_at_most}
use Rattle.report.proofs.tag_map.Goals as goal

pub overflow_mul-result : goal.overflow_mul-result
overflow_mul-result c = omega (arith, one_at_most c.args.turn)

pub overflow_add-result : goal.overflow_add-result
overflow_add-result c = omega (arith, one_at_most c.args.turn)

pub overflow_mul-result-2 : goal.overflow_mul-result-2
overflow_mul-result-2 c = omega (arith, one_at_most c.args.differing)

pub overflow_add-result-2 : goal.overflow_add-result-2
overflow_add-result-2 c = omega (arith, one_at_most c.args.turn, one_at_most c.args.differing)

pub overflow_add-result-3 : goal.overflow_add-result-3
overflow_add-result-3 c = omega (arith, one_at_most c.args.turn, one_at_most c.args.differing)
