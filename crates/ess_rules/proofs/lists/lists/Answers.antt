use Rattle.ess_core_nodes.specs.NodeViews.{pure_node}
use Rattle.ess_node_types.specs.TypedNames.{pure_names}
use Rattle.conjure_model_laws.specs.ToldApart.{told_apart}
use Rattle.ess_kind_rules.specs.Supplies.{told_axis}
use Rattle.ess_rules.specs.Ruled.{lists_asked}
use Rattle.ess_rules.proofs.RuledRoots.{
  ruled_least_of_a_literal,
  ruled_different_items,
  ruled_list_of_a_term,
  ruled_lists_on_both_sides,
  ruled_all_different,
  ruled_results,
}
use Rattle.ess_rules.proofs.NoneOfRules.{none_may}
use Rattle.ess_rules.proofs.lists.lists.Goals as goal

pub returns-in-Some : goal.returns-in-Some
returns-in-Some c =
    ruled_least_of_a_literal lists_asked c.args.taken.now.one.now c.args.taken.now.other.now c.args.taken.now.third.now
    c.args.taken.now.parts.now told_axis (told_apart c.args.taken.now.next)
    (pure_names c.args.names.now) (pure_node c.args.node.now) c.in_ok-new.field-0 c.in-Some.new c.in_ok-new.ensures c.in-Some.is

pub returns-in-Some-2 : goal.returns-in-Some-2
returns-in-Some-2 c =
    ruled_different_items lists_asked c.args.taken.now.one.now c.args.taken.now.other.now c.args.taken.now.third.now
    c.args.taken.now.parts.now told_axis (told_apart c.args.taken.now.next)
    (pure_names c.args.names.now) (pure_node c.args.node.now) c.in_ok-new-2.field-0 c.in-Some-2.new c.in_ok-new-2.ensures c.in-Some-2.is

pub returns-in-Some-3 : goal.returns-in-Some-3
returns-in-Some-3 c =
    ruled_list_of_a_term lists_asked c.args.taken.now.one.now c.args.taken.now.other.now c.args.taken.now.third.now
    c.args.taken.now.parts.now told_axis (told_apart c.args.taken.now.next)
    (pure_names c.args.names.now) (pure_node c.args.node.now) c.in_ok-new-3.field-0 c.in-Some-3.new c.in_ok-new-3.ensures c.in-Some-3.is

pub returns-in-Some-4 : goal.returns-in-Some-4
returns-in-Some-4 c =
    ruled_lists_on_both_sides lists_asked c.args.taken.now.one.now c.args.taken.now.other.now c.args.taken.now.third.now
    c.args.taken.now.parts.now told_axis (told_apart c.args.taken.now.next)
    (pure_names c.args.names.now) (pure_node c.args.node.now) c.in_ok-new-4.field-0 c.in-Some-4.new c.in_ok-new-4.ensures c.in-Some-4.is

pub returns-in-Some-5 : goal.returns-in-Some-5
returns-in-Some-5 c =
    ruled_all_different lists_asked c.args.taken.now.one.now c.args.taken.now.other.now c.args.taken.now.third.now
    c.args.taken.now.parts.now told_axis (told_apart c.args.taken.now.next)
    (pure_names c.args.names.now) (pure_node c.args.node.now) c.in_ok-new-5.field-0 c.in-Some-5.new c.in_ok-new-5.ensures c.in-Some-5.is

pub returns-in-Some-6 : goal.returns-in-Some-6
returns-in-Some-6 c =
    ruled_results lists_asked c.args.taken.now.one.now c.args.taken.now.other.now c.args.taken.now.third.now
    c.args.taken.now.parts.now told_axis (told_apart c.args.taken.now.next)
    (pure_names c.args.names.now) (pure_node c.args.node.now) c.in_ok-new-6.field-0 c.in-Some-6.new c.in_ok-new-6.ensures c.in-Some-6.is

pub returns : goal.returns
returns c =
    none_may c.in_ok-new.field-0 c.in_ok-new.ensures c.in_default.is
    (none_may c.in_ok-new-2.field-0 c.in_ok-new-2.ensures c.in_default-2.is
    (none_may c.in_ok-new-3.field-0 c.in_ok-new-3.ensures c.in_default-3.is
    (none_may c.in_ok-new-4.field-0 c.in_ok-new-4.ensures c.in_default-4.is
    (none_may c.in_ok-new-5.field-0 c.in_ok-new-5.ensures c.in_default-5.is
    (none_may c.in_ok-new-6.field-0 c.in_ok-new-6.ensures c.in_default-6.is tt)))))
