-- What one more call takes comes right behind what the calls before it took.
use Rattle.std.proofs.Common.{arith}
use Rattle.std.proofs.lemmas.List.{length-drop}
use Rattle.ess_io.proofs.Growth.{grown-take-add, take-rest}
use Rattle.ess_io.proofs.sink.put_all.Goals as goal

pub loop-went-preserved : goal.loop-went-preserved
loop-went-preserved g c =
    let rest = take-rest c.loop-went.went c.args.bytes.now in
    let more = grown-take-add (g.S.Sink.bytes c.args.sink.now) c.loop-went.went c.in-Ok.count c.args.bytes.now in
    grind (arith, length-drop, rest, more)
