use Rattle.std.proofs.Common.{map}
use Rattle.ess_core_nodes.specs.NodeViews.{pure_nodes, pure_dom, pure_mark}
use Rattle.ess_structure_domains.proofs.SizedRows.{parts_made}
use Rattle.ess_structure_domains.proofs.conversions.part_sets.Goals as goal

pub returns : goal.returns
returns c =
    parts_made _ _ _ _ (pure_dom c.args.member.now) (map pure_mark c.args.marks.now) (pure_nodes c.args.numbers.now) _ _ _
    c.in_ok-made.ensures c.in_ok-keys.ensures.marks c.in_ok-keys.ensures.numbers
    c.in_ok-size.ensures c.in_ok-least.ensures c.in_ok-greatest.ensures c.in_ok-part.ensures
