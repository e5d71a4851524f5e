-- The endings that errors of the parts come to.
use Rattle.ess_io.specs.declared.files.FileNo.{FileNo}
use Rattle.ess_io.specs.declared.files.FileNo.TheVariants.{Missing as file_missing, Failed as file_failed, NoMemory as file_memory}
use Rattle.conjure_modelling.specs.declared.refusal.ModelNo.{ModelNo}
use Rattle.conjure_cli.specs.declared.ending.Ending.{Ending}
use Rattle.conjure_cli.specs.declared.ending.Ending.TheVariants.{Missing, Unreadable, NotYet, Unwritable, NoMemory}
use Rattle.conjure_cli.specs.declared.outcome.Outcome.{Outcome}

abbrev pub unread : FileNo → Ending
unread file_missing = Missing
unread file_failed = Unreadable
unread file_memory = NoMemory

abbrev pub unmodelled : ModelNo → Outcome
unmodelled ModelNo.NotYet = Outcome.Plain NotYet
unmodelled (ModelNo.Specification why) = Outcome.Refused why
unmodelled (ModelNo.BadRepresentation k) = Outcome.BadItem k
unmodelled ModelNo.NoMemory = Outcome.Plain NoMemory

abbrev pub unwritten : FileNo → Ending
unwritten file_missing = Unwritable
unwritten file_failed = Unwritable
unwritten file_memory = NoMemory
