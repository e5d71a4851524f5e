use Rattle.std.proofs.Common.{ap, Err}
use Rattle.eprime_eval.specs.declared.closing.EvalNo.TheVariants.{Undefined, Big}
use Rattle.eprime_eval.proofs.Denoting.{same_stop}
use Rattle.eprime_eval.proofs.closing.runs.Goals as goal

pub returns-in_err-domain-clause-undefined : goal.returns-in_err-domain-clause-undefined
returns-in_err-domain-clause-undefined c = λ h.
    c.in_err-domain.ensures.undefined (ap (λ no. Err no) (same_stop c.from_residual.result c.in_err-domain.field-0.0 Undefined c.from_residual.ensures.1 h))

pub returns-in_err-domain-clause-big : goal.returns-in_err-domain-clause-big
returns-in_err-domain-clause-big c = λ h.
    c.in_err-domain.ensures.big (ap (λ no. Err no) (same_stop c.from_residual.result c.in_err-domain.field-0.0 Big c.from_residual.ensures.1 h))
