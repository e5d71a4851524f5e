use Rattle.ess_core_nodes.specs.NodeViews.{pure_node}
use Rattle.ess_node_types.specs.TypedNames.{pure_names}
use Rattle.ess_kind_rules.specs.Supplies.{taken_supply}
use Rattle.ess_rules.proofs.KindTurns.{of_kinds}
use Rattle.ess_kind_rules.specs.AskedKinds.{views_asked, tests_asked, view_sizes_asked, picks_asked}
use Rattle.ess_rules.specs.Ruled.{folds_asked, ordered_asked, numbered_asked, first_asked}
use Rattle.ess_rules.proofs.NoneOfRules.{none_first, rewritten_too}
use Rattle.ess_rules.proofs.turns.first_rules.Goals as goal

pub returns-in-Some : goal.returns-in-Some
returns-in-Some c =
    of_kinds first_asked views_asked (taken_supply c.args.taken.now) (pure_names c.args.names.now) (pure_node c.args.node.now)
    c.in_ok-new.field-0 c.in-Some.new c.in_ok-new.ensures c.in-Some.is

pub returns-in-Some-2 : goal.returns-in-Some-2
returns-in-Some-2 c =
    of_kinds first_asked tests_asked (taken_supply c.args.taken.now) (pure_names c.args.names.now) (pure_node c.args.node.now)
    c.in_ok-new-2.field-0 c.in-Some-2.new c.in_ok-new-2.ensures c.in-Some-2.is

pub returns-in-Some-3 : goal.returns-in-Some-3
returns-in-Some-3 c =
    of_kinds first_asked view_sizes_asked (taken_supply c.args.taken.now) (pure_names c.args.names.now) (pure_node c.args.node.now)
    c.in_ok-new-3.field-0 c.in-Some-3.new c.in_ok-new-3.ensures c.in-Some-3.is

pub returns-in-Some-4 : goal.returns-in-Some-4
returns-in-Some-4 c =
    of_kinds first_asked picks_asked (taken_supply c.args.taken.now) (pure_names c.args.names.now) (pure_node c.args.node.now)
    c.in_ok-new-4.field-0 c.in-Some-4.new c.in_ok-new-4.ensures c.in-Some-4.is

pub returns-in-Some-5 : goal.returns-in-Some-5
returns-in-Some-5 c =
    rewritten_too (taken_supply c.args.taken.now) (pure_names c.args.names.now) (pure_node c.args.node.now) c.in_ok-new-5.field-0
    folds_asked first_asked c.in-Some-5.new c.in_ok-new-5.ensures c.in-Some-5.is

pub returns-in-Some-6 : goal.returns-in-Some-6
returns-in-Some-6 c =
    rewritten_too (taken_supply c.args.taken.now) (pure_names c.args.names.now) (pure_node c.args.node.now) c.in_ok-new-6.field-0
    ordered_asked first_asked c.in-Some-6.new c.in_ok-new-6.ensures c.in-Some-6.is

pub returns-in-Some-7 : goal.returns-in-Some-7
returns-in-Some-7 c =
    rewritten_too (taken_supply c.args.taken.now) (pure_names c.args.names.now) (pure_node c.args.node.now) c.in_ok-new-7.field-0
    numbered_asked first_asked c.in-Some-7.new c.in_ok-new-7.ensures c.in-Some-7.is

pub returns : goal.returns
returns c =
    none_first (taken_supply c.args.taken.now) (pure_names c.args.names.now) (pure_node c.args.node.now)
    c.in_ok-new.field-0 c.in_ok-new-2.field-0 c.in_ok-new-3.field-0 c.in_ok-new-4.field-0 c.in_ok-new-5.field-0
    c.in_ok-new-6.field-0 c.in_ok-new-7.field-0
    c.in_ok-new.ensures c.in_default.is
    c.in_ok-new-2.ensures c.in_default-2.is
    c.in_ok-new-3.ensures c.in_default-3.is
    c.in_ok-new-4.ensures c.in_default-4.is
    c.in_ok-new-5.ensures c.in_default-5.is
    c.in_ok-new-6.ensures c.in_default-6.is
    c.in_ok-new-7.ensures c.in_default-7.is
