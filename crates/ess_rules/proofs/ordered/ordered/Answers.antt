use Rattle.ess_core_nodes.specs.NodeViews.{pure_node}
use Rattle.ess_node_types.specs.TypedNames.{pure_names}
use Rattle.ess_ordered_laws.specs.OrderedRules.{an_item, of_an_item, source_of_an_item}
use Rattle.ess_kind_rules.specs.Supplies.{taken_supply}
use Rattle.ess_rules.specs.Ruled.{ordered_asked}
use Rattle.ess_rules.proofs.OrderedRoots.{ruled_in_order, ruled_by_indices, none_in_order}
use Rattle.ess_rules.proofs.NoneOfRules.{none_may}
use Rattle.ess_rules.proofs.ordered.ordered.Goals as goal

pub returns-in-Some : goal.returns-in-Some
returns-in-Some c =
    ruled_by_indices ordered_asked (taken_supply c.args.taken.now) (pure_names c.args.names.now) (pure_node c.args.node.now)
    c.in_ok-new.field-0 c.in-Some.new c.in_ok-new.ensures c.in-Some.is

pub returns-in-Some-2 : goal.returns-in-Some-2
returns-in-Some-2 c =
    ruled_in_order ordered_asked (taken_supply c.args.taken.now) (pure_names c.args.names.now) of_an_item (pure_node c.args.node.now)
    c.in_ok-new-2.field-0 c.in-Some-2.new c.in_ok-new-2.ensures c.in-Some-2.is

pub returns-in-Some-3 : goal.returns-in-Some-3
returns-in-Some-3 c =
    ruled_in_order ordered_asked (taken_supply c.args.taken.now) (pure_names c.args.names.now) an_item (pure_node c.args.node.now)
    c.in_ok-new-3.field-0 c.in-Some-3.new c.in_ok-new-3.ensures c.in-Some-3.is

pub returns-in-Some-4 : goal.returns-in-Some-4
returns-in-Some-4 c =
    ruled_in_order ordered_asked (taken_supply c.args.taken.now) (pure_names c.args.names.now) source_of_an_item (pure_node c.args.node.now)
    c.in_ok-new-4.field-0 c.in-Some-4.new c.in_ok-new-4.ensures c.in-Some-4.is

pub returns : goal.returns
returns c =
    none_may c.in_ok-new.field-0 c.in_ok-new.ensures c.in_default.is
    (none_in_order (taken_supply c.args.taken.now) (pure_names c.args.names.now) of_an_item (pure_node c.args.node.now)
    c.in_ok-new-2.field-0 c.in_ok-new-2.ensures c.in_default-2.is
    (none_in_order (taken_supply c.args.taken.now) (pure_names c.args.names.now) an_item (pure_node c.args.node.now)
    c.in_ok-new-3.field-0 c.in_ok-new-3.ensures c.in_default-3.is
    (none_in_order (taken_supply c.args.taken.now) (pure_names c.args.names.now) source_of_an_item (pure_node c.args.node.now)
    c.in_ok-new-4.field-0 c.in_ok-new-4.ensures c.in_default-4.is tt)))
