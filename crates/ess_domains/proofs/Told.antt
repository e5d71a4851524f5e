-- What the calls behind the public ones answer is what those promise.
use Rattle.std.proofs.Common.{◌≡◌, ℕ, List, Option, option_map, Result, Ok, Err, IfOk}
use Rattle.ess_semantics.specs.Values.{Text, Value}
use Rattle.ess_semantics.specs.Trees.{Dom, Stm, given}
use Rattle.ess_semantics.specs.Prepared.{prepared}
use Rattle.ess_semantics.specs.Meaning.{Env, domain_of}
use Rattle.ess_semantics.specs.Assignments.{Assignment, value_of}
use Rattle.ess_semantics.specs.Parameters.{param_verdict, statement_verdict}
use Rattle.ess_semantics.specs.Solutions.{verdict}
use Rattle.ess_eval.specs.declared.calls.EvalNo.{EvalNo}
use Rattle.ess_domains.specs.declared.faults.Fault.{Fault}
use Rattle.ess_domains.specs.declared.verdicts.ParamVerdict.{ParamVerdict}
use Rattle.ess_domains.specs.declared.verdicts.Verdict.{Verdict}
use Rattle.ess_domains.specs.Faults.{told, given_verdict}
use Rattle.ess_domains.specs.Verdicts.{pure_param_verdict, pure_verdict, cut_param, cut}
use Rattle.ess_domains.specs.Prepared.{param_verdict_over, verdict_over}
use Rattle.ess_domains.proofs.StatementFaults.{told_given}
use Rattle.ess_domains.proofs.PreparedNames.{param_told, verdict_told}

-- What a given fails, whose value is v.
pub given_ok : (r : Result (Option Fault) EvalNo) (p : Assignment) (x : Text) (d : Dom) (env : Env) (v : Option Value) → v ≡ value_of p x
    → IfOk r (λ o. (k : ℕ) → option_map (told k) o ≡ given_verdict k (domain_of d env) v)
    → IfOk r (λ o. (k : ℕ) → option_map (told k) o ≡ statement_verdict p (record { stm = given x d; number = k; env = env }))
given_ok (Ok o) p x d env v h e = λ k. told_given k p x d env (option_map (told k) o) v h (e k)
given_ok (Err e) p x d env v h k = tt

-- The verdict on a parameter.
pub param_ok : (r : Result ParamVerdict EvalNo) (T : List Stm) (p : Assignment) → IfOk r (λ v. pure_param_verdict v ≡ cut_param (param_verdict_over T p))
    → IfOk r (λ v. (S : List Stm) → T ≡ prepared S → pure_param_verdict v ≡ cut_param (param_verdict S p))
param_ok (Ok v) T p h = param_told T p (pure_param_verdict v) h
param_ok (Err e) T p h = tt

-- The verdict on a solution.
pub verdict_ok : (r : Result Verdict EvalNo) (T : List Stm) (p a : Assignment) → IfOk r (λ v. pure_verdict v ≡ cut (verdict_over T p a))
    → IfOk r (λ v. (S : List Stm) → T ≡ prepared S → pure_verdict v ≡ cut (verdict S p a))
verdict_ok (Ok v) T p a h = verdict_told T p a (pure_verdict v) h
verdict_ok (Err e) T p a h = tt
