-- Errors that go up as they are.
use Rattle.std.proofs.Common.{◌≡◌, sym, ◌∙◌, Result, Ok, Err}
use Rattle.std.specs.Result.{IsErrAnd}
use Rattle.eprime_eval.specs.declared.closing.EvalNo.{EvalNo}

-- The error that went up is the one that came.
pub same_stop : {T : Type 0} (r : Result T EvalNo) (cause stop : EvalNo) → IsErrAnd r (λ up. up ≡ cause) → r ≡ Err stop → cause ≡ stop
same_stop (Ok x) cause stop is e = cc
same_stop (Err up) cause stop is e = let same : up ≡ stop = cc in sym is ∙ same
