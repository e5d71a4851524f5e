use Rattle.std.proofs.Common.{◌∙◌}
use Rattle.ess_types_scopes.proofs.Kept.{ex_inserted}
use Rattle.ess_types_scopes.proofs.lettings.insert_ex.Goals as goal

pub returns-clause-ok : goal.returns-clause-ok
returns-clause-ok c =
    ex_inserted c.args.exs.now.entries c.insert.new.self.entries c.in_ok-from_str.field-0 c.args.name.now c.args.ex c.requires.unique c.requires.absent
    (c.in_ok-from_str.ensures.ok ∙ c.as_str.ensures) c.in_ok-insert.ensures.entries
