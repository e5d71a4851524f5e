use Rattle.std.proofs.Common.{◌∙◌}
use Rattle.ess_types_scopes.proofs.Kept.{dom_inserted}
use Rattle.ess_types_scopes.proofs.lettings.insert_dom.Goals as goal

pub returns-clause-ok : goal.returns-clause-ok
returns-clause-ok c =
    dom_inserted c.args.doms.now.entries c.insert.new.self.entries c.in_ok-from_str.field-0 c.args.name.now c.args.dom c.requires.unique c.requires.absent
    (c.in_ok-from_str.ensures.ok ∙ c.as_str.ensures) c.in_ok-insert.ensures.entries
