use Rattle.ess_core_nodes.specs.NodeViews.{pure_node}
use Rattle.ess_node_types.specs.TypedNames.{pure_names}
use Rattle.ess_kind_rules.specs.Supplies.{taken_supply}
use Rattle.ess_rules.proofs.KindTurns.{of_sources}
use Rattle.ess_rules.proofs.RuledRoots.{ruled_over_a_source}
use Rattle.std.proofs.Common.{true, map, [], ◌∷◌}
use Rattle.ess_refine_laws.specs.AllRules.{over_a_source}
use Rattle.ess_kind_rules.specs.AskedKinds.{sources_asked}
use Rattle.ess_rules.specs.Ruled.{ruled, plainly, by_kind}
use Rattle.ess_rules.proofs.NoneOfRules.{none_may, none_both, none_by_kind}
use Rattle.ess_rules.proofs.source_rules.source_rules.Goals as goal

pub returns-in-Some : goal.returns-in-Some
returns-in-Some c =
    of_sources (taken_supply c.args.taken.now) (pure_names c.args.names.now) (pure_node c.args.node.now) c.in_ok-new.field-0
    c.in-Some.new c.in_ok-new.ensures c.in-Some.is

pub returns-in-Some-2 : goal.returns-in-Some-2
returns-in-Some-2 c =
    ruled_over_a_source (taken_supply c.args.taken.now) (pure_names c.args.names.now) (pure_node c.args.node.now) c.in_ok-new-2.field-0
    c.in-Some-2.new c.in_ok-new-2.ensures c.in-Some-2.is

pub returns : goal.returns
returns c =
    none_both (ruled (taken_supply c.args.taken.now) (pure_names c.args.names.now)) (pure_names c.args.names.now)
    (pure_node c.args.node.now) (map by_kind sources_asked) (plainly over_a_source ∷ [])
    (none_by_kind (taken_supply c.args.taken.now) (pure_names c.args.names.now) (pure_node c.args.node.now) c.in_ok-new.field-0
    true sources_asked c.in_ok-new.ensures c.in_default.is)
    (none_may c.in_ok-new-2.field-0 c.in_ok-new-2.ensures c.in_default-2.is tt)
