use Rattle.std.proofs.Common.{◌∙◌, rules}
use Rattle.ess_core_nodes.specs.NodeViews.{pure_node}
use Rattle.ess_model_shown.proofs.Tables.{entry_put}
use Rattle.ess_model_shown.proofs.shows.put_node.Goals as goal

pub returns-clause-ok : goal.returns-clause-ok
returns-clause-ok c =
    entry_put pure_node c.args.entries.now.entries c.insert.new.self.entries c.in_ok-from_str.field-0
    c.args.name.now c.args.node c.requires.unique
    (search rules) (c.in_ok-from_str.ensures.ok ∙ c.as_str.ensures) c.in_ok-before.ensures.entries
