use Rattle.std.proofs.Common.{sym, ap, ◌∙◌, map}
use Rattle.std.proofs.lemmas.List.{nil_from_length}
use Rattle.std.proofs.lemmas.Result.{on_ok_weaker}
use Rattle.ess_core_nodes.specs.NodeViews.{pure_node, pure_gens}
use Rattle.ess_keys_laws.specs.Keyed.{all_of}
use Rattle.ess_keys.specs.Steps.{trees_before}
use Rattle.ess_keys.proofs.Conditions.{the_last}
use Rattle.ess_keys.proofs.joining.+put_all.Goals as goal

pub returns-in-None : goal.returns-in-None
returns-in-None t c =
    on_ok_weaker c.push_copy.result
    (λ h. the_last (map pure_node c.args.items.now) c.push_copy.new.items (pure_node c.args.body.now) h
    ∙ ap (λ gs. trees_before (map pure_node c.args.items.now) (all_of (pure_gens gs) (pure_node c.args.body.now)))
    (sym (nil_from_length c.args.gens.now c.in-None.ensures.cases)))
    c.push_copy.ensures
