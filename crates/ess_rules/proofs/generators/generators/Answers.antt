use Rattle.ess_core_nodes.specs.NodeViews.{pure_node}
use Rattle.ess_node_types.specs.TypedNames.{pure_names}
use Rattle.conjure_model_laws.specs.ToldApart.{told_apart}
use Rattle.ess_kind_rules.specs.Supplies.{told_axis}
use Rattle.ess_rules.specs.Ruled.{terms_asked}
use Rattle.ess_rules.proofs.RuledRoots.{ruled_over_a_term}
use Rattle.ess_rules.proofs.NoneOfRules.{none_may}
use Rattle.ess_rules.proofs.generators.generators.Goals as goal

pub returns-in-Some : goal.returns-in-Some
returns-in-Some c =
    ruled_over_a_term terms_asked c.args.taken.now.one.now c.args.taken.now.other.now c.args.taken.now.third.now
    c.args.taken.now.parts.now told_axis (told_apart c.args.taken.now.next)
    (pure_names c.args._names.now) (pure_node c.args.node.now) c.in_ok-new.field-0 c.in-Some.new c.in_ok-new.ensures c.in-Some.is

pub returns : goal.returns
returns c =
    none_may c.in_ok-new.field-0 c.in_ok-new.ensures c.in_default.is tt
