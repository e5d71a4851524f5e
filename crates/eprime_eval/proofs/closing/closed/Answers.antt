use Rattle.std.proofs.Common.{Some, None}
use Rattle.std.proofs.lemmas.Result.{IfOk-weaker}
use Rattle.eprime_eval.specs.ClosedDomains.{pure_closed}
use Rattle.eprime_eval.proofs.Denoting.{denoted, denoted_large}
use Rattle.eprime_eval.proofs.closing.closed.Goals as goal

pub returns-in-Ok-clause-ok : goal.returns-in-Ok-clause-ok
returns-in-Ok-clause-ok c =
    let is = rw (c.as_slice.ensures, c.as_slice-2.ensures) at c.in-Ok.ensures in
    IfOk-weaker c.closed_in.result _ _
    (λ r f. denoted c.in-Ok.under c.args.known.now c.args.givens.now c.args.dom.now (Some (pure_closed r)) is f) c.closed_in.ensures.ok

pub returns-in-Ok-clause-undefined : goal.returns-in-Ok-clause-undefined
returns-in-Ok-clause-undefined c =
    let is = rw (c.as_slice.ensures, c.as_slice-2.ensures) at c.in-Ok.ensures in
    λ h. denoted c.in-Ok.under c.args.known.now c.args.givens.now c.args.dom.now None is (c.closed_in.ensures.undefined h)

pub returns-in-Ok-clause-big : goal.returns-in-Ok-clause-big
returns-in-Ok-clause-big c =
    let is = rw (c.as_slice.ensures, c.as_slice-2.ensures) at c.in-Ok.ensures in
    λ h. denoted_large c.in-Ok.under c.args.known.now c.args.givens.now c.args.dom.now is (c.closed_in.ensures.big h)
