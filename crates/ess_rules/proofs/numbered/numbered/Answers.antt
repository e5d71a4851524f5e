use Rattle.ess_core_nodes.specs.NodeViews.{pure_node}
use Rattle.ess_node_types.specs.TypedNames.{pure_names}
use Rattle.ess_numbered_laws.specs.NumberRules.{
  equality_of_lists,
  sign_between_lists,
  item_of_a_list,
  side_of_a_pair,
  lists_of_what_is_picked,
}
use Rattle.ess_kind_rules.specs.Supplies.{taken_supply}
use Rattle.ess_rules.specs.Ruled.{numbered_asked}
use Rattle.ess_rules.proofs.OrderedRoots.{ruled_by_number, none_by_number}
use Rattle.ess_rules.proofs.numbered.numbered.Goals as goal

pub returns-in-Some : goal.returns-in-Some
returns-in-Some c =
    ruled_by_number numbered_asked (taken_supply c.args.taken.now) (pure_names c.args.names.now) equality_of_lists
    (pure_node c.args.node.now)
    c.in_ok-new.field-0 c.in-Some.new c.in_ok-new.ensures c.in-Some.is

pub returns-in-Some-2 : goal.returns-in-Some-2
returns-in-Some-2 c =
    ruled_by_number numbered_asked (taken_supply c.args.taken.now) (pure_names c.args.names.now) sign_between_lists
    (pure_node c.args.node.now)
    c.in_ok-new-2.field-0 c.in-Some-2.new c.in_ok-new-2.ensures c.in-Some-2.is

pub returns-in-Some-3 : goal.returns-in-Some-3
returns-in-Some-3 c =
    ruled_by_number numbered_asked (taken_supply c.args.taken.now) (pure_names c.args.names.now) item_of_a_list (pure_node c.args.node.now)
    c.in_ok-new-3.field-0 c.in-Some-3.new c.in_ok-new-3.ensures c.in-Some-3.is

pub returns-in-Some-4 : goal.returns-in-Some-4
returns-in-Some-4 c =
    ruled_by_number numbered_asked (taken_supply c.args.taken.now) (pure_names c.args.names.now) side_of_a_pair (pure_node c.args.node.now)
    c.in_ok-new-4.field-0 c.in-Some-4.new c.in_ok-new-4.ensures c.in-Some-4.is

pub returns-in-Some-5 : goal.returns-in-Some-5
returns-in-Some-5 c =
    ruled_by_number numbered_asked (taken_supply c.args.taken.now) (pure_names c.args.names.now) lists_of_what_is_picked (pure_node c.args.node.now)
    c.in_ok-new-5.field-0 c.in-Some-5.new c.in_ok-new-5.ensures c.in-Some-5.is

pub returns : goal.returns
returns c =
    none_by_number (taken_supply c.args.taken.now) (pure_names c.args.names.now) equality_of_lists (pure_node c.args.node.now)
    c.in_ok-new.field-0 c.in_ok-new.ensures c.in_default.is
    (none_by_number (taken_supply c.args.taken.now) (pure_names c.args.names.now) sign_between_lists (pure_node c.args.node.now)
    c.in_ok-new-2.field-0 c.in_ok-new-2.ensures c.in_default-2.is
    (none_by_number (taken_supply c.args.taken.now) (pure_names c.args.names.now) item_of_a_list (pure_node c.args.node.now)
    c.in_ok-new-3.field-0 c.in_ok-new-3.ensures c.in_default-3.is
    (none_by_number (taken_supply c.args.taken.now) (pure_names c.args.names.now) side_of_a_pair (pure_node c.args.node.now)
    c.in_ok-new-4.field-0 c.in_ok-new-4.ensures c.in_default-4.is
    (none_by_number (taken_supply c.args.taken.now) (pure_names c.args.names.now) lists_of_what_is_picked (pure_node c.args.node.now)
    c.in_ok-new-5.field-0 c.in_ok-new-5.ensures c.in_default-5.is tt))))
