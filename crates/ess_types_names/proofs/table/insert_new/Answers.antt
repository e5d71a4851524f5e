use Rattle.std.proofs.Common.{◌≡◌, ◌∙◌}
use Rattle.ess_types_names.proofs.Tables.{inserted}
use Rattle.ess_types_names.proofs.table.insert_new.Goals as goal

pub returns-clause-ok : goal.returns-clause-ok
returns-clause-ok c =
    inserted c.args.declared.now.entries c.insert.new.self.entries c.in_ok-from_str.field-0 c.args.name.now c.args.ty c.requires.unique c.requires.absent
    (c.in_ok-from_str.ensures.ok ∙ c.as_str.ensures) c.in_ok-insert.ensures.entries
