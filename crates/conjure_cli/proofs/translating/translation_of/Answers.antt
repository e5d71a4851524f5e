use Rattle.conjure_cli.proofs.TaskLaws.{more_reads}
use Rattle.conjure_cli.proofs.translating.translation_of.Goals as goal

pub returns-in-Ok-clause-reads : goal.returns-in-Ok-clause-reads
returns-in-Ok-clause-reads g c = more_reads 2 _ _ _ c.model_in.ensures.reads c.translation_for-bytes.ensures.reads
