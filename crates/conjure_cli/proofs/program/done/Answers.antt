use Rattle.std.proofs.Common.{sym, map, string_bytes}
use Rattle.conjure_cli.proofs.TaskLaws.{reads_named}
use Rattle.conjure_cli.proofs.RunLaws.{ends_named}
use Rattle.conjure_cli.proofs.program.done.Goals as goal

pub returns-clause-ended : goal.returns-clause-ended
returns-clause-ended g c = ends_named c.modelling-outcome.result c.tell_refined.result (map string_bytes c.args.words.now)
    c.in-Some.file.now _ _ _ _ _ _
    (sym c.in-Some.ensures) c.modelling-outcome.ensures.ran c.tell_refined.ensures

pub returns-clause-reads : goal.returns-clause-reads
returns-clause-reads g c = reads_named (map string_bytes c.args.words.now) c.in-Some.file.now _ _ _
    (sym c.in-Some.ensures) c.modelling-outcome.ensures.reads
