use Rattle.std.proofs.Common.{ap, sym, ◌∙◌, Some, None, Err, option_map}
use Rattle.ess_semantics.specs.Meaning.{domain_of}
use Rattle.ess_semantics.specs.Large.{is_large_dom}
use Rattle.eprime_eval_kinds.specs.KindedViews.{pure_kdom}
use Rattle.eprime_eval.specs.ClosedDomains.{pure_closed}
use Rattle.eprime_eval.specs.Environments.{env_at}
use Rattle.eprime_eval.proofs.Unders.{closed_there, closed_large}
use Rattle.eprime_eval.proofs.under.closed_in.Goals as goal

pub returns-in-Ok-Some-clause-ok : goal.returns-in-Ok-Some-clause-ok
returns-in-Ok-Some-clause-ok c =
    closed_there c.args.under.now c.in-Ok.tree c.args.dom.now c.new-bound.result c.in-Ok-Some.field-0 (Some (pure_closed c.in-Ok-Some.domain)) c.in-Ok.ensures
    c.new-bound.ensures
    (c.in-Ok-Some.ensures.ok ∙ ap (λ t. domain_of (pure_kdom c.args.under.now.known.names t) (env_at c.args.under.now.known c.new-bound.result)) c.get.ensures)
    (ap (option_map pure_closed) c.in-Ok-Some.field-0-is)

pub returns-in-Ok-None-clause-undefined : goal.returns-in-Ok-None-clause-undefined
returns-in-Ok-None-clause-undefined c = λ z.
    closed_there c.args.under.now c.in-Ok.tree c.args.dom.now c.new-bound.result c.in-Ok-None.field-0 None c.in-Ok.ensures
    c.new-bound.ensures
    (c.in-Ok-None.ensures.ok ∙ ap (λ t. domain_of (pure_kdom c.args.under.now.known.names t) (env_at c.args.under.now.known c.new-bound.result)) c.get.ensures)
    (ap (option_map pure_closed) c.in-Ok-None.field-0-is)

pub returns-in-Err-Big-clause-big : goal.returns-in-Err-Big-clause-big
returns-in-Err-Big-clause-big c = λ z.
    closed_large c.args.under.now c.in-Ok.tree c.args.dom.now c.new-bound.result c.in-Ok.ensures c.new-bound.ensures
    (ap (λ t. is_large_dom (pure_kdom c.args.under.now.known.names t) (env_at c.args.under.now.known c.new-bound.result)) (sym c.get.ensures)
    ∙ c.in-Err-Big.ensures.big (ap Err c.in-Err-Big.field-0-is))
