use Rattle.std.proofs.Common.{ap, sym, ◌∙◌, Some, Err}
use Rattle.eprime_eval.specs.declared.closing.EvalNo.TheVariants.{Undefined, Big}
use Rattle.eprime_eval.proofs.Denoting.{members_there, same_stop}
use Rattle.eprime_eval.proofs.closing.axis.Goals as goal

pub returns-in_err-domain-clause-undefined : goal.returns-in_err-domain-clause-undefined
returns-in_err-domain-clause-undefined c = λ h.
    c.in_err-domain.ensures.undefined (ap (λ no. Err no) (same_stop c.from_residual.result c.in_err-domain.field-0.0 Undefined c.from_residual.ensures.1 h))

pub returns-in_err-domain-clause-big : goal.returns-in_err-domain-clause-big
returns-in_err-domain-clause-big c = λ h.
    c.in_err-domain.ensures.big (ap (λ no. Err no) (same_stop c.from_residual.result c.in_err-domain.field-0.0 Big c.from_residual.ensures.1 h))

pub returns-in-Ok-Some-clause-ok : goal.returns-in-Ok-Some-clause-ok
returns-in-Ok-Some-clause-ok c =
    members_there c.args.known.now c.args.givens.now c.args.dom.now c.in_ok-domain.domain (Some c.in-Ok-Some.numbers) c.in_ok-domain.ensures.ok
    (sym c.in-Ok-Some.field-0-is ∙ c.in-Ok-Some.ensures)
