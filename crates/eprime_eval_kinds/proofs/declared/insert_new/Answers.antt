use Rattle.std.proofs.Common.{◌∙◌}
use Rattle.eprime_eval_kinds.proofs.Places.{noted_new}
use Rattle.eprime_eval_kinds.proofs.declared.insert_new.Goals as goal

pub returns : goal.returns
returns c =
    noted_new c.args.places.now.entries c.insert.new.self.entries c.in_ok-from_str.field-0 c.args.name.now c.args.place
    (c.in_ok-from_str.ensures.ok ∙ c.as_str.ensures)
    c.requires c.in_ok-insert.ensures.entries
