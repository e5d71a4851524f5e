use Rattle.eprime_eval_kinds.proofs.Places.{noted_old}
use Rattle.eprime_eval_kinds.proofs.declared.note.Goals as goal

pub returns-in-Some : goal.returns-in-Some
returns-in-Some c = noted_old c.args.places.now.entries c.args.name.now c.args.place c.in-Some.field-0 c.in-Some.ensures
