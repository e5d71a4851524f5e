use Rattle.std.proofs.Common.{sym, ap, ◌∙◌, map}
use Rattle.std.proofs.lemmas.List.{nil_from_length}
use Rattle.ess_core_nodes.specs.NodeViews.{pure_node, pure_gens}
use Rattle.ess_keys_laws.specs.Keyed.{conditions_of}
use Rattle.ess_keys.specs.Steps.{trees_before}
use Rattle.ess_keys.proofs.Conditions.{none_more}
use Rattle.ess_keys.proofs.joining.+put_each.Goals as goal

pub returns-in-None : goal.returns-in-None
returns-in-None t c =
    none_more c.args.items.now
    ∙ ap (λ gs. trees_before (map pure_node c.args.items.now) (conditions_of (pure_gens gs)))
    (sym (nil_from_length c.args.gens.now c.in-None.ensures.cases))
