use Rattle.std.proofs.Common.{◌∙◌}
use Rattle.std.proofs.lemmas.Result.{IfOk-weaker}
use Rattle.ess_core.specs.ValueViews.{pure_val}
use Rattle.ess_eval_domains.specs.ClosedViews.{pure_closed}
use Rattle.ess_repr_positions_laws.proofs.TypedForms.{typed_so}
use Rattle.ess_repr_positions.proofs.types.with_types.Goals as goal

pub returns : goal.returns
returns c =
    IfOk-weaker c.typed.result _ _ (λ o e h. e ∙ typed_so (pure_closed c.args.domain.now) (pure_val c.args.val.now) h) c.typed.ensures
