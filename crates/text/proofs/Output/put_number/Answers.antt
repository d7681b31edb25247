-- A space, then the number.
use Rattle.std.proofs.Common.{refl, arith}
use Rattle.text.proofs.Decimal.{decimal-length}
use Rattle.text.proofs.Join.{put_more}
use Rattle.text.proofs.Output.put_number.Goals as goal

pub put_decimal-requires : goal.put_decimal-requires
put_decimal-requires c =
    let n = c.args.n in
    (omega arith, omega (arith, c.put_byte.ensures, decimal-length n (omega arith)))

pub returns : goal.returns
returns c = put_more refl (omega arith) c.put_byte.ensures c.put_decimal.ensures
