-- A run that judges a solution ends with status 0 only on a solution, and with status 1 only on what is none.
use Rattle.std.proofs.Common.{◌≡◌, refl, sym, ap, ◌∙◌, subst, ℕ, List, arith, Bool, Option, Some, None}
use Rattle.ess_semantics.specs.Trees.{Stm}
use Rattle.ess_semantics.specs.Assignments.{Assignment}
use Rattle.ess_semantics.specs.Solutions as solutions
use Rattle.ess_semantics.specs.Solutions.{Sol, verdict, valid, missing_find, extra_find, not_in_domain, false_constraint, no_objective}
use Rattle.ess_semantics.proofs.Verdicts.{param_verdict-Param, verdict-Sol, Sol-verdict}
use Rattle.ess_parse.specs.declared.refusal.ReadNo.{ReadNo}
use Rattle.ess_domains.specs.declared.verdicts.Verdict.{Verdict}
use Rattle.ess_domains.specs.declared.verdicts.Verdict.TheVariants as sol
use Rattle.ess_domains.specs.Verdicts.{pure_verdict, cut}
use Rattle.ess_translate_laws.specs.FileAssignments.{solution_in}
use Rattle.ess_translate.specs.declared.refusal.Which.{Which}
use Rattle.ess_translate.specs.declared.refusal.TransNo.{TransNo}
use Rattle.ess_translate.specs.Answers.{IsNoEssence, IsNoParameter, IsNotJudged}
use Rattle.conjure_cli.specs.Seen.{FilesSeen, SinkSeen}
use Rattle.conjure_cli.specs.Ending.{status_of}
use Rattle.conjure_cli.specs.Tasks.{Task, refine, judge, translate, test}
use Rattle.conjure_cli.specs.Reasons.{read_status, refusal_status, verdict_status}
use Rattle.conjure_cli.specs.Judging.{JudgeCause, StopCause, VerdictFound}
use Rattle.conjure_cli.specs.Runs.{outcome_status, Ends}
use Rattle.conjure_cli.specs.Holding.{FilesSay, SaysWhetherSolution}
use Rattle.conjure_cli.specs.declared.ending.Ending.{Ending}
use Rattle.conjure_cli.specs.declared.outcome.Outcome.{Outcome}
use Rattle.conjure_cli.proofs.JudgingLaws.{stops_nowhere, refusal_not_zero}

-- ---- verdicts

-- a verdict that is told as valid is valid
cut_valid : (w : solutions.Verdict) → valid ≡ cut w → w ≡ valid
cut_valid valid is = refl
cut_valid (missing_find x) is = cc
cut_valid (extra_find x) is = cc
cut_valid (not_in_domain x) is = cc
cut_valid (false_constraint n) is = cc
cut_valid no_objective is = cc

-- a verdict with status 1 isn't told as valid
one_not_valid : (v : Verdict) → verdict_status v ≡ 1 → pure_verdict v ≡ valid → ⊥
one_not_valid sol.Valid is told = omega (arith, is)
one_not_valid (sol.Missing x) is told = cc
one_not_valid (sol.Extra x) is told = cc
one_not_valid (sol.NotMember x) is told = cc
one_not_valid (sol.False n) is told = cc
one_not_valid sol.NoObjective is told = cc

-- what is told with status 0 is of a solution
zero_is_solution : (v : Verdict) (S : List Stm) (p a : Assignment) → verdict_status v ≡ 0 → pure_verdict v ≡ cut (verdict S p a) → Sol S p a
zero_is_solution sol.Valid S p a is told = verdict-Sol S p a (cut_valid (verdict S p a) told)
zero_is_solution (sol.Missing x) S p a is told = absurd (omega (arith, is))
zero_is_solution (sol.Extra x) S p a is told = absurd (omega (arith, is))
zero_is_solution (sol.NotMember x) S p a is told = absurd (omega (arith, is))
zero_is_solution (sol.False n) S p a is told = absurd (omega (arith, is))
zero_is_solution sol.NoObjective S p a is told = absurd (omega (arith, is))

-- what is told with status 1 is of none
one_is_none : (v : Verdict) (S : List Stm) (p a : Assignment) → verdict_status v ≡ 1 → pure_verdict v ≡ cut (verdict S p a) → Sol S p a → ⊥
one_is_none v S p a is told s = one_not_valid v is (told ∙ ap cut (Sol-verdict S p a s))

-- the files of a verdict, with what follows of it
files_say : (v : Verdict) (Holds : List Stm → Assignment → Assignment → Type 0) (before : FilesSeen) (e p s : List ℕ)
    → ((S : List Stm) (q a : Assignment) → pure_verdict v ≡ cut (verdict S q a) → Holds S q a) → VerdictFound before.tree e p s v
    → FilesSay before.tree e p s Holds
files_say v Holds before e p s follows found =
    let S : List Stm = found.0 in
    let q : Assignment = found.1 in
    let essence = found.2 in
    let param = found.3 in
    let solution = found.4 in
    let a : Assignment = solution_in S q solution.2.0 in
    record {
      S = S;
      p = q;
      a = a;
      specification = essence;
      parameter = param;
      is_param = param_verdict-Param S q param.3.fits;
      assignment = (solution.0, solution.2.0, solution.1, solution.2.1, refl);
      holds = follows S q a solution.2.2;
    }

-- ---- refusals

read_not_one : (why : ReadNo) → read_status why ≡ 1 → ⊥
read_not_one (ReadNo.BadByte p) is = omega (arith, is)
read_not_one (ReadNo.WideNumber p) is = omega (arith, is)
read_not_one (ReadNo.Unsupported p) is = omega (arith, is)
read_not_one (ReadNo.TooDeep p) is = omega (arith, is)
read_not_one (ReadNo.Syntax p) is = omega (arith, is)
read_not_one ReadNo.NoMemory is = omega (arith, is)

-- a text of a specification, a parameter or a solution isn't refused with status 1
essence_not_one : (text : List ℕ) (why : TransNo) → IsNoEssence text why → refusal_status why ≡ 1 → ⊥
essence_not_one text (TransNo.Read which why) h is = read_not_one why is
essence_not_one text (TransNo.Typing why) h is = omega (arith, is)
essence_not_one text (TransNo.InvalidParameter why) h is = omega (arith, is)
essence_not_one text TransNo.HeaderBad h is = omega (arith, is)
essence_not_one text (TransNo.TooManyCells x k) h is = omega (arith, is)
essence_not_one text (TransNo.Unsatisfied v) h is = h
essence_not_one text (TransNo.NotRepresented x) h is = h
essence_not_one text TransNo.Big h is = omega (arith, is)
essence_not_one text TransNo.NoMemory h is = omega (arith, is)

param_not_one : (S : List Stm) (text : List ℕ) (why : TransNo) → IsNoParameter S text why → refusal_status why ≡ 1 → ⊥
param_not_one S text (TransNo.Read which why) h is = read_not_one why is
param_not_one S text (TransNo.Typing why) h is = omega (arith, is)
param_not_one S text (TransNo.InvalidParameter why) h is = omega (arith, is)
param_not_one S text TransNo.HeaderBad h is = omega (arith, is)
param_not_one S text (TransNo.TooManyCells x k) h is = omega (arith, is)
param_not_one S text (TransNo.Unsatisfied v) h is = h
param_not_one S text (TransNo.NotRepresented x) h is = h
param_not_one S text TransNo.Big h is = omega (arith, is)
param_not_one S text TransNo.NoMemory h is = omega (arith, is)

judged_not_one : (S : List Stm) (p : Assignment) (text : List ℕ) (why : TransNo) → IsNotJudged S p text why → refusal_status why ≡ 1 → ⊥
judged_not_one S p text (TransNo.Read which why) h is = read_not_one why is
judged_not_one S p text (TransNo.Typing why) h is = omega (arith, is)
judged_not_one S p text (TransNo.InvalidParameter why) h is = omega (arith, is)
judged_not_one S p text TransNo.HeaderBad h is = omega (arith, is)
judged_not_one S p text (TransNo.TooManyCells x k) h is = omega (arith, is)
judged_not_one S p text (TransNo.Unsatisfied v) h is = h
judged_not_one S p text (TransNo.NotRepresented x) h is = h
judged_not_one S p text TransNo.Big h is = omega (arith, is)
judged_not_one S p text TransNo.NoMemory h is = omega (arith, is)

-- a refusal by which judging stops hasn't status 1
refused_not_one : (at : Which) (why : TransNo) (e p s : List ℕ) (before after : FilesSeen)
    → StopCause at (Outcome.Refused why) e p s before after → refusal_status why ≡ 1 → ⊥
refused_not_one Which.Essence why e p s before after h = essence_not_one h.2.0 why h.2.3
refused_not_one Which.Param why e p s before after h = param_not_one h.0 h.2.2.0 why h.2.2.3
refused_not_one Which.Solution why e p s before after h = judged_not_one h.0 h.1 h.4.2.0 why h.4.2.3
refused_not_one Which.Model why e p s before after h = λ is. h

-- an ending of status 0 is that of work done
zero_is_done : (ending : Ending) → status_of ending ≡ 0 → ending ≡ Ending.Done
zero_is_done Ending.Done is = refl
zero_is_done Ending.Usage is = absurd (omega (arith, is))
zero_is_done Ending.Missing is = absurd (omega (arith, is))
zero_is_done Ending.Unreadable is = absurd (omega (arith, is))
zero_is_done Ending.TooLong is = absurd (omega (arith, is))
zero_is_done Ending.NotYet is = absurd (omega (arith, is))
zero_is_done Ending.Unwritable is = absurd (omega (arith, is))
zero_is_done Ending.OutputFailed is = absurd (omega (arith, is))
zero_is_done Ending.NoMemory is = absurd (omega (arith, is))

-- no ending has status 1
never_one : (ending : Ending) → status_of ending ≡ 1 → ⊥
never_one Ending.Done is = omega (arith, is)
never_one Ending.Usage is = omega (arith, is)
never_one Ending.Missing is = omega (arith, is)
never_one Ending.Unreadable is = omega (arith, is)
never_one Ending.TooLong is = omega (arith, is)
never_one Ending.NotYet is = omega (arith, is)
never_one Ending.Unwritable is = omega (arith, is)
never_one Ending.OutputFailed is = omega (arith, is)
never_one Ending.NoMemory is = omega (arith, is)

-- ---- runs

judged_says : (outcome : Outcome) (at : Which) (e p s : List ℕ) (before after : FilesSeen) (o o' : SinkSeen) → JudgeCause outcome at e p s before after o o'
    → SaysWhetherSolution (outcome_status outcome) (Some (judge e p s)) before
judged_says (Outcome.Judged v) at e p s before after o o' cause = (
  λ is. files_say v Sol before e p s (λ S q a told. zero_is_solution v S q a is told) cause,
  λ is. files_say v (λ S q a. Sol S q a → ⊥) before e p s (λ S q a told. one_is_none v S q a is told) cause,
)
judged_says (Outcome.Refused why) at e p s before after o o' cause =
    (λ is. absurd (refusal_not_zero why is), λ is. absurd (refused_not_one at why e p s before after cause is))
judged_says (Outcome.BadItem k) at e p s before after o o' cause =
    (λ is. absurd (omega (arith, is)), λ is. absurd (omega (arith, is)))
judged_says (Outcome.Plain ending) at e p s before after o o' cause = (
  λ is. absurd (stops_nowhere (Outcome.Plain Ending.Done) at e p s before after (λ file b a P n. n)
      (subst (λ x. JudgeCause (Outcome.Plain x) at e p s before after o o') (zero_is_done ending is) cause)),
  λ is. absurd (never_one ending is),
)

-- Where a solution is judged, the status says whether it is one.
pub says_whether_solution : (outcome : Outcome) (status : ℕ) (task : Option Task) (takes : Bool) (before after : FilesSeen) (o o' e e' : SinkSeen)
    → Ends outcome status task takes before after o o' e e' → SaysWhetherSolution status task before
says_whether_solution outcome status None takes before after o o' e e' ends = tt
says_whether_solution outcome status (Some (test n)) takes before after o o' e e' ends = tt
says_whether_solution outcome status (Some (translate m p c place)) takes before after o o' e1 e2 ends = tt
says_whether_solution outcome status (Some (refine file place list)) takes before after o o' e e' ends = tt
says_whether_solution outcome status (Some (judge e p s)) takes before after o o' e1 e2 ends =
    subst (λ n. SaysWhetherSolution n (Some (judge e p s)) before) (sym ends.status_is)
    (judged_says outcome ends.at e p s before after o o' ends.cause)
