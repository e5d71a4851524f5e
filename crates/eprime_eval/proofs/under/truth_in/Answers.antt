use Rattle.std.proofs.Common.{ap, sym, ◌∙◌, Err, option_map}
use Rattle.ess_semantics.specs.Meaning.{meaning}
use Rattle.ess_semantics.specs.Large.{is_large}
use Rattle.eprime_eval_kinds.specs.KindedViews.{pure_kex}
use Rattle.eprime_eval_scalars.specs.ScalarViews.{pure_scalar}
use Rattle.eprime_eval.specs.Environments.{env_at}
use Rattle.eprime_eval.proofs.Unders.{truth_there, truth_large}
use Rattle.eprime_eval.proofs.under.truth_in.Goals as goal

pub returns-in-Ok-value_at-clause-ok : goal.returns-in-Ok-value_at-clause-ok
returns-in-Ok-value_at-clause-ok c =
    truth_there c.args.under.now c.in-Ok.tree c.args.ex.now c.new-bound.result (option_map pure_scalar c.in-Ok-value_at.found) c.truth_of.result c.in-Ok.ensures
    c.new-bound.ensures
    (c.in-Ok-value_at.ensures.ok ∙ ap (λ t. meaning (pure_kex c.args.under.now.known.names t) (env_at c.args.under.now.known c.new-bound.result)) c.get.ensures)
    c.truth_of.ensures.holds

pub returns-in-Err-Big-clause-big : goal.returns-in-Err-Big-clause-big
returns-in-Err-Big-clause-big c = λ z.
    truth_large c.args.under.now c.in-Ok.tree c.args.ex.now c.new-bound.result c.in-Ok.ensures c.new-bound.ensures
    (ap (λ t. is_large (pure_kex c.args.under.now.known.names t) (env_at c.args.under.now.known c.new-bound.result)) (sym c.get.ensures)
    ∙ c.in-Err-Big.ensures.big (ap Err c.in-Err-Big.field-0-is))
