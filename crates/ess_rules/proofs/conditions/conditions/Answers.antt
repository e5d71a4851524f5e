use Rattle.ess_core_nodes.specs.NodeViews.{pure_node}
use Rattle.ess_node_types.specs.TypedNames.{pure_names}
use Rattle.conjure_model_laws.specs.ToldApart.{told_apart}
use Rattle.ess_kind_rules.specs.Supplies.{told_axis}
use Rattle.ess_rules.specs.Ruled.{conditions_asked}
use Rattle.ess_rules.proofs.RuledRoots.{ruled_choice, ruled_gathering, ruled_condition, ruled_condition_behind}
use Rattle.ess_rules.proofs.NoneOfRules.{none_may, none_waiting}
use Rattle.ess_rules.proofs.conditions.conditions.Goals as goal

pub returns-in-Some : goal.returns-in-Some
returns-in-Some c =
    ruled_choice conditions_asked c.args._taken.now.one.now c.args._taken.now.other.now c.args._taken.now.third.now
    c.args._taken.now.parts.now told_axis (told_apart c.args._taken.now.next)
    (pure_names c.args._names.now) (pure_node c.args.node.now) c.in_ok-new.field-0 c.in-Some.new c.in_ok-new.ensures c.in-Some.is

pub returns-in-Some-2 : goal.returns-in-Some-2
returns-in-Some-2 c =
    ruled_gathering conditions_asked c.args._taken.now.one.now c.args._taken.now.other.now c.args._taken.now.third.now
    c.args._taken.now.parts.now told_axis (told_apart c.args._taken.now.next)
    (pure_names c.args._names.now) (pure_node c.args.node.now) c.in_ok-new-2.field-0 c.in-Some-2.new
    c.if-not-may_leave.ensures c.in_ok-new-2.ensures c.in-Some-2.is

pub returns-in-Some-3 : goal.returns-in-Some-3
returns-in-Some-3 c =
    ruled_condition conditions_asked c.args._taken.now.one.now c.args._taken.now.other.now c.args._taken.now.third.now
    c.args._taken.now.parts.now told_axis (told_apart c.args._taken.now.next)
    (pure_names c.args._names.now) (pure_node c.args.node.now) c.in_ok-new-3.field-0 c.in-Some-3.new
    c.if-not-may_leave.ensures c.in_ok-new-3.ensures c.in-Some-3.is

pub returns-in-Some-4 : goal.returns-in-Some-4
returns-in-Some-4 c =
    ruled_condition_behind conditions_asked c.args._taken.now.one.now c.args._taken.now.other.now c.args._taken.now.third.now
    c.args._taken.now.parts.now told_axis (told_apart c.args._taken.now.next)
    (pure_names c.args._names.now) (pure_node c.args.node.now) c.in_ok-new-4.field-0 c.in-Some-4.new
    c.if-not-may_leave.ensures c.in_ok-new-4.ensures c.in-Some-4.is

pub returns-then-not-may_leave : goal.returns-then-not-may_leave
returns-then-not-may_leave c =
    none_may c.in_ok-new.field-0 c.in_ok-new.ensures c.in_default.is
    (none_waiting c.if-not-may_leave.ensures (none_waiting c.if-not-may_leave.ensures (none_waiting c.if-not-may_leave.ensures tt)))

pub returns : goal.returns
returns c =
    none_may c.in_ok-new.field-0 c.in_ok-new.ensures c.in_default.is
    (none_may c.in_ok-new-2.field-0 c.in_ok-new-2.ensures c.in_default-2.is
    (none_may c.in_ok-new-3.field-0 c.in_ok-new-3.ensures c.in_default-3.is
    (none_may c.in_ok-new-4.field-0 c.in_ok-new-4.ensures c.in_default-4.is tt)))
