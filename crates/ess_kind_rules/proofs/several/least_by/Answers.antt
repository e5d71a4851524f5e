use Rattle.std.proofs.Common.{◌≡◌, sym, ap, ◌∙◌, false, true, map, option_map, Some}
use Rattle.ess_core_nodes.specs.NodeViews.{pure_node}
use Rattle.ess_node_types.specs.TypedNames.{pure_names}
use Rattle.ess_refine_laws.specs.ExtremeRules.{is_extreme}
use Rattle.ess_rules_forms.specs.PureAlternatives.{pure_alternative}
use Rattle.ess_kind_rules.specs.Supplies.{taken_supply}
use Rattle.ess_rules_opening.specs.OpenedViews.{pure_comp_word}
use Rattle.ess_kind_rules.proofs.WordForms.{least_put}
use Rattle.ess_kind_rules.proofs.several.least_by.Goals as goal

pub returns : goal.returns
returns c =
    let plain : (pure_comp_word c.args.parts.now).mark ≡ false = search in
    let picks : is_extreme (pure_comp_word c.args.parts.now).fun ≡ true = search in
    least_put (taken_supply c.args.taken.now) (pure_names c.args.types.now) (pure_comp_word c.args.parts.now)
    (map pure_alternative c.as_slice.result.now) (option_map pure_node c.in_ok-made.made) plain picks
    (ap (λ l. Some (map pure_alternative l)) c.as_slice.ensures
    ∙ ap (λ o. option_map (map pure_alternative) o) (sym c.in-Some.is) ∙ c.in_ok-found.ensures)
    c.in_ok-made.ensures
