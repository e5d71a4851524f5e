use Rattle.ess_core_nodes.specs.NodeViews.{pure_node}
use Rattle.ess_node_types.specs.TypedNames.{pure_names}
use Rattle.ess_kind_rules.specs.Supplies.{taken_supply}
use Rattle.ess_rules.proofs.KindTurns.{of_kinds}
use Rattle.ess_kind_rules.specs.AskedKinds.{folds_behind_asked}
use Rattle.ess_rules.specs.Ruled.{
  terms_asked,
  comparing_asked,
  equality_asked,
  membership_asked,
  sizes_asked,
  lists_asked,
  conditions_asked,
  later_asked,
}
use Rattle.ess_rules.proofs.NoneOfRules.{none_later, rewritten_too}
use Rattle.ess_rules.proofs.turns.later_rules.Goals as goal

pub returns-in-Some : goal.returns-in-Some
returns-in-Some c =
    of_kinds later_asked folds_behind_asked (taken_supply c.args.taken.now) (pure_names c.args.names.now) (pure_node c.args.node.now)
    c.in_ok-new.field-0 c.in-Some.new c.in_ok-new.ensures c.in-Some.is

pub returns-in-Some-2 : goal.returns-in-Some-2
returns-in-Some-2 c =
    rewritten_too (taken_supply c.args.taken.now) (pure_names c.args.names.now) (pure_node c.args.node.now) c.in_ok-new-2.field-0
    terms_asked later_asked c.in-Some-2.new c.in_ok-new-2.ensures c.in-Some-2.is

pub returns-in-Some-3 : goal.returns-in-Some-3
returns-in-Some-3 c =
    rewritten_too (taken_supply c.args.taken.now) (pure_names c.args.names.now) (pure_node c.args.node.now) c.in_ok-new-3.field-0
    comparing_asked later_asked c.in-Some-3.new c.in_ok-new-3.ensures c.in-Some-3.is

pub returns-in-Some-4 : goal.returns-in-Some-4
returns-in-Some-4 c =
    rewritten_too (taken_supply c.args.taken.now) (pure_names c.args.names.now) (pure_node c.args.node.now) c.in_ok-new-4.field-0
    equality_asked later_asked c.in-Some-4.new c.in_ok-new-4.ensures c.in-Some-4.is

pub returns-in-Some-5 : goal.returns-in-Some-5
returns-in-Some-5 c =
    rewritten_too (taken_supply c.args.taken.now) (pure_names c.args.names.now) (pure_node c.args.node.now) c.in_ok-new-5.field-0
    membership_asked later_asked c.in-Some-5.new c.in_ok-new-5.ensures c.in-Some-5.is

pub returns-in-Some-6 : goal.returns-in-Some-6
returns-in-Some-6 c =
    rewritten_too (taken_supply c.args.taken.now) (pure_names c.args.names.now) (pure_node c.args.node.now) c.in_ok-new-6.field-0
    sizes_asked later_asked c.in-Some-6.new c.in_ok-new-6.ensures c.in-Some-6.is

pub returns-in-Some-7 : goal.returns-in-Some-7
returns-in-Some-7 c =
    rewritten_too (taken_supply c.args.taken.now) (pure_names c.args.names.now) (pure_node c.args.node.now) c.in_ok-new-7.field-0
    lists_asked later_asked c.in-Some-7.new c.in_ok-new-7.ensures c.in-Some-7.is

pub returns-in-Some-8 : goal.returns-in-Some-8
returns-in-Some-8 c =
    rewritten_too (taken_supply c.args.taken.now) (pure_names c.args.names.now) (pure_node c.args.node.now) c.in_ok-new-8.field-0
    conditions_asked later_asked c.in-Some-8.new c.in_ok-new-8.ensures c.in-Some-8.is

pub returns : goal.returns
returns c =
    none_later (taken_supply c.args.taken.now) (pure_names c.args.names.now) (pure_node c.args.node.now)
    c.in_ok-new.field-0 c.in_ok-new-2.field-0 c.in_ok-new-3.field-0 c.in_ok-new-4.field-0 c.in_ok-new-5.field-0
    c.in_ok-new-6.field-0 c.in_ok-new-7.field-0 c.in_ok-new-8.field-0
    c.in_ok-new.ensures c.in_default.is
    c.in_ok-new-2.ensures c.in_default-2.is
    c.in_ok-new-3.ensures c.in_default-3.is
    c.in_ok-new-4.ensures c.in_default-4.is
    c.in_ok-new-5.ensures c.in_default-5.is
    c.in_ok-new-6.ensures c.in_default-6.is
    c.in_ok-new-7.ensures c.in_default-7.is
    c.in_ok-new-8.ensures c.in_default-8.is
