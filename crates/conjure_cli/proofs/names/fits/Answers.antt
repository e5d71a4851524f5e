use Rattle.std.proofs.Common.{ap, ◌∙◌, not}
use Rattle.conjure_cli.proofs.names.fits.Goals as goal
use Rattle.conjure_cli.proofs.NameLaws.{put_in}

pub returns-in_ok-insert-in-Find : goal.returns-in_ok-insert-in-Find
returns-in_ok-insert-in-Find c = λ names holds. rw c.in-Find.is (
  c.in_ok-insert-in-Find.ensures.added ∙ ap not (holds c.in-Find.name),
  λ new name. c.in_ok-insert-in-Find.ensures.updates.0 name ∙ put_in c.in-Find.name names _ name (holds name),
)
