use Rattle.ess_core_nodes.specs.NodeViews.{pure_node}
use Rattle.ess_node_types.specs.TypedNames.{pure_names}
use Rattle.ess_kind_rules.specs.Supplies.{taken_supply}
use Rattle.ess_kind_rules.specs.AskedKinds.{sources_asked}
use Rattle.ess_kind_rules.proofs.KindRoots.{
  kind_over_one_source,
  kind_over_what_is_picked,
  kind_in_order_of_its_source,
  kind_least_over_several,
  kind_set_over_several,
}
use Rattle.ess_kind_rules.proofs.NoneOfKinds.{none_more}
use Rattle.ess_kind_rules.proofs.source_rules.sources.Goals as goal

pub returns-in-Some : goal.returns-in-Some
returns-in-Some c =
    kind_over_one_source sources_asked (taken_supply c.args.taken.now) (pure_names c.args.names.now) (pure_node c.args.node.now)
    c.in_ok-new.field-0 c.in-Some.new c.in_ok-new.ensures c.in-Some.is

pub returns-in-Some-2 : goal.returns-in-Some-2
returns-in-Some-2 c =
    kind_over_what_is_picked sources_asked (taken_supply c.args.taken.now) (pure_names c.args.names.now) (pure_node c.args.node.now)
    c.in_ok-new-2.field-0 c.in-Some-2.new c.in_ok-new-2.ensures c.in-Some-2.is

pub returns-in-Some-3 : goal.returns-in-Some-3
returns-in-Some-3 c =
    kind_in_order_of_its_source sources_asked (taken_supply c.args.taken.now) (pure_names c.args.names.now) (pure_node c.args.node.now)
    c.in_ok-new-3.field-0 c.in-Some-3.new c.in_ok-new-3.ensures c.in-Some-3.is

pub returns-in-Some-4 : goal.returns-in-Some-4
returns-in-Some-4 c =
    kind_least_over_several sources_asked (taken_supply c.args.taken.now) (pure_names c.args.names.now) (pure_node c.args.node.now)
    c.in_ok-new-4.field-0 c.in-Some-4.new c.in_ok-new-4.ensures c.in-Some-4.is

pub returns-in-Some-5 : goal.returns-in-Some-5
returns-in-Some-5 c =
    kind_set_over_several sources_asked (taken_supply c.args.taken.now) (pure_names c.args.names.now) (pure_node c.args.node.now)
    c.in_ok-new-5.field-0 c.in-Some-5.new c.in_ok-new-5.ensures c.in-Some-5.is

pub returns : goal.returns
returns c =
    none_more c.in_ok-new.field-0 c.in_ok-new.ensures c.in_default.is
    (none_more c.in_ok-new-2.field-0 c.in_ok-new-2.ensures c.in_default-2.is
    (none_more c.in_ok-new-3.field-0 c.in_ok-new-3.ensures c.in_default-3.is
    (none_more c.in_ok-new-4.field-0 c.in_ok-new-4.ensures c.in_default-4.is
    (none_more c.in_ok-new-5.field-0 c.in_ok-new-5.ensures c.in_default-5.is tt))))
