use Rattle.std.proofs.Common.{◌≡◌, sym, ◌∙◌, subst, map, option_map, IfOk}
use Rattle.ess_core_nodes.specs.NodeViews.{pure_node}
use Rattle.ess_node_types.specs.TypedNames.{pure_names}
use Rattle.ess_rules_forms.specs.PureAlternatives.{pure_alternative}
use Rattle.ess_rules_ordered.specs.Supplies.{item_supply}
use Rattle.ess_rules_ordered.proofs.PickedForms.{untold-open}
use Rattle.ess_rules_ordered.proofs.picked.untold_lookup.Goals as goal

-- Either lookup, where the term is picked and has no index domain.
pub returns : goal.returns
returns c = subst (λ z. IfOk c.item_or_other.result (λ o. option_map (map pure_alternative) o ≡ z))
    (sym (untold-open (item_supply c.args.names.now) (pure_names c.args.types.now) (pure_node c.args.term.now)
    (sym c.picks.ensures ∙ c.if-not-picks.false) (sym c.in_ok-has_axis.ensures ∙ c.if-branch.false))) c.item_or_other.ensures
