use Rattle.ess_core_nodes.specs.NodeViews.{pure_node}
use Rattle.ess_node_types.specs.TypedNames.{pure_names}
use Rattle.ess_kind_rules.specs.Supplies.{taken_supply}
use Rattle.ess_kind_rules.specs.AskedKinds.{tests_asked}
use Rattle.ess_kind_rules.proofs.KindRoots.{
  kind_truth_behind_a_flag,
  kind_asked_of_its_child,
  kind_member_at_a_cell,
  kind_member_of_a_multiset,
  kind_argument_with_a_flag,
  kind_member_of_a_part,
}
use Rattle.ess_kind_rules.proofs.NoneOfKinds.{none_more}
use Rattle.ess_kind_rules.proofs.test_rules.tests.Goals as goal

pub returns-in-Some : goal.returns-in-Some
returns-in-Some c =
    kind_truth_behind_a_flag tests_asked (taken_supply c.args.taken.now) (pure_names c.args._names.now) (pure_node c.args.node.now)
    c.in_ok-new.field-0 c.in-Some.new c.in_ok-new.ensures c.in-Some.is

pub returns-in-Some-2 : goal.returns-in-Some-2
returns-in-Some-2 c =
    kind_asked_of_its_child tests_asked (taken_supply c.args.taken.now) (pure_names c.args._names.now) (pure_node c.args.node.now)
    c.in_ok-new-2.field-0 c.in-Some-2.new c.in_ok-new-2.ensures c.in-Some-2.is

pub returns-in-Some-3 : goal.returns-in-Some-3
returns-in-Some-3 c =
    kind_member_at_a_cell tests_asked (taken_supply c.args.taken.now) (pure_names c.args._names.now) (pure_node c.args.node.now)
    c.in_ok-new-3.field-0 c.in-Some-3.new c.in_ok-new-3.ensures c.in-Some-3.is

pub returns-in-Some-4 : goal.returns-in-Some-4
returns-in-Some-4 c =
    kind_member_of_a_multiset tests_asked (taken_supply c.args.taken.now) (pure_names c.args._names.now) (pure_node c.args.node.now)
    c.in_ok-new-4.field-0 c.in-Some-4.new c.in_ok-new-4.ensures c.in-Some-4.is

pub returns-in-Some-5 : goal.returns-in-Some-5
returns-in-Some-5 c =
    kind_argument_with_a_flag tests_asked (taken_supply c.args.taken.now) (pure_names c.args._names.now) (pure_node c.args.node.now)
    c.in_ok-new-5.field-0 c.in-Some-5.new c.in_ok-new-5.ensures c.in-Some-5.is

pub returns-in-Some-6 : goal.returns-in-Some-6
returns-in-Some-6 c =
    kind_member_of_a_part tests_asked (taken_supply c.args.taken.now) (pure_names c.args._names.now) (pure_node c.args.node.now)
    c.in_ok-new-6.field-0 c.in-Some-6.new c.in_ok-new-6.ensures c.in-Some-6.is

pub returns : goal.returns
returns c =
    none_more c.in_ok-new.field-0 c.in_ok-new.ensures c.in_default.is
    (none_more c.in_ok-new-2.field-0 c.in_ok-new-2.ensures c.in_default-2.is
    (none_more c.in_ok-new-3.field-0 c.in_ok-new-3.ensures c.in_default-3.is
    (none_more c.in_ok-new-4.field-0 c.in_ok-new-4.ensures c.in_default-4.is
    (none_more c.in_ok-new-5.field-0 c.in_ok-new-5.ensures c.in_default-5.is
    (none_more c.in_ok-new-6.field-0 c.in_ok-new-6.ensures c.in_default-6.is tt)))))
