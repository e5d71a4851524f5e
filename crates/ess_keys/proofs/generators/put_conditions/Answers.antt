use Rattle.std.proofs.Common.{◌++◌, ap, ◌∙◌, map}
use Rattle.std.proofs.lemmas.Result.{on_ok_weaker}
use Rattle.ess_core.specs.TreeViews.{cond_item}
use Rattle.ess_core_nodes.specs.NodeViews.{pure_node, pure_gen}
use Rattle.ess_guard_forms.specs.KnownNames.{pure_known}
use Rattle.ess_keys_laws.specs.Keyed.{conjuncts}
use Rattle.ess_keys.proofs.generators.put_conditions.Goals as goal

pub returns : goal.returns
returns c =
    on_ok_weaker c.append_gens.result
    (λ h. h
    ∙ ap (λ l. map pure_gen c.args.gens.now ++ l)
    (c.in_ok-conditions.ensures
    ∙ ap (λ k. map cond_item (conjuncts (pure_known k) (pure_node c.args.condition.now))) c.as_slice.ensures))
    c.append_gens.ensures
