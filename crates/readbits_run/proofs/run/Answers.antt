use Rattle.std.proofs.Common.{rules}
use Rattle.readbits_run.proofs.Wrote.{Printed-front, wrote}
use Rattle.readbits_run.proofs.run.Goals as goal

pub returns : goal.returns
returns g c =
    wrote (g.R.Read.remaining c.args.input.now) (g.W.Write.contents c.args.output.now) (g.W.Write.contents c.write_all.new.self) c.write_all.result
    _ 4096 _ _ c.in_ok-read.ensures.all (search rules) (Printed-front c.read_lines-printed.ensures) c.write_all.ensures.bytes
