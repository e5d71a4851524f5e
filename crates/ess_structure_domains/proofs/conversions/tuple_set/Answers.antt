use Rattle.std.proofs.Common.{map}
use Rattle.ess_core_nodes.specs.NodeViews.{pure_nodes, pure_doms, pure_mark}
use Rattle.ess_structure_domains.proofs.SizedRows.{tuples_made}
use Rattle.ess_structure_domains.proofs.conversions.tuple_set.Goals as goal

pub returns : goal.returns
returns c =
    tuples_made _ _ _ _ (pure_doms c.args.parts.now) (map pure_mark c.args.marks.now) (pure_nodes c.args.numbers.now) _ _ _ c.in_ok-tuple.ensures
    c.in_ok-made.ensures c.in_ok-keys.ensures.marks c.in_ok-keys.ensures.numbers
    c.in_ok-size.ensures c.in_ok-least.ensures c.in_ok-greatest.ensures
