use Rattle.ess_core.specs.StatementViews.{pure_spec}
use Rattle.ess_domains.specs.Assignments.{pure_assignment}
use Rattle.conjure_cli.specs.Seen.{files_at}
use Rattle.conjure_cli.proofs.TaskLaws.{reads_two, reads_three}
use Rattle.conjure_cli.proofs.JudgingLaws.{stop_solution}
use Rattle.conjure_cli.proofs.judging.verdict_on.Goals as goal

pub returns-in-Err-param_in-clause-reads : goal.returns-in-Err-param_in-clause-reads
returns-in-Err-param_in-clause-reads g c = reads_two _ _ _ c.essence_in.ensures.reads c.param_in.ensures.reads

pub returns-in-Ok-verdict_in-clause-reads : goal.returns-in-Ok-verdict_in-clause-reads
returns-in-Ok-verdict_in-clause-reads g c = reads_three _ _ _ _ c.essence_in.ensures.reads c.param_in.ensures.reads c.verdict_in.ensures.reads

pub returns-clause-stops : goal.returns-clause-stops
returns-clause-stops g c =
    stop_solution c.in-Err-verdict_in.outcome c.args.names.essence.now c.args.names.param.now c.args.names.solution.now
    (pure_spec c.in-Ok.typed.spec) (pure_assignment c.in-Ok-param_in.param)
    (files_at (g.F.Files.tree c.args.files.now) (g.F.Files.faults c.args.files.now) (g.F.Files.misses c.args.files.now))
    (files_at (g.F.Files.tree c.essence_in.new.files) (g.F.Files.faults c.essence_in.new.files) (g.F.Files.misses c.essence_in.new.files))
    (files_at (g.F.Files.tree c.param_in.new.files) (g.F.Files.faults c.param_in.new.files) (g.F.Files.misses c.param_in.new.files))
    (files_at (g.F.Files.tree c.verdict_in.new.files) (g.F.Files.faults c.verdict_in.new.files) (g.F.Files.misses c.verdict_in.new.files))
    c.in-Ok.ensures.ok c.essence_in.ensures.later c.in-Ok-param_in.ensures.ok c.param_in.ensures.later c.in-Err-verdict_in.ensures.stops

pub returns-clause-reads : goal.returns-clause-reads
returns-clause-reads g c = reads_three _ _ _ _ c.essence_in.ensures.reads c.param_in.ensures.reads c.verdict_in.ensures.reads
