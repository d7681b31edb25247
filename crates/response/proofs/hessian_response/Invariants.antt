-- The loop keeps: the first row and the pairs so far are written.
use Rattle.std.proofs.Common.{◌+◌, ◌*◌}
use Rattle.response.specs.Response.{response_at}
use Rattle.lists.proofs.Rows.{Filled}
use Rattle.response.proofs.hessian_response.Given as goal

abbrev pub invariant-loop-pair : goal.invariant-loop-pair
invariant-loop-pair l =
    let shape = l.img.shape in
    Filled (response_at l.img.samples.now shape.width shape.height) (shape.width * shape.height) ((2 * l.pair + 1) * shape.width) l.out
