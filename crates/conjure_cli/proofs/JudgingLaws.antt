-- Laws of runs that judge a solution.
use Rattle.std.proofs.Common.{◌≡◌, refl, sym, ◌∙◌, subst, ℕ, inl, inr, List, arith, true, Some}
use Rattle.ess_semantics.specs.Trees.{Stm}
use Rattle.ess_semantics.specs.Assignments.{Assignment}
use Rattle.ess_parse.specs.declared.refusal.ReadNo.{ReadNo}
use Rattle.ess_domains.specs.declared.verdicts.Verdict.{Verdict}
use Rattle.ess_domains.specs.declared.verdicts.Verdict.TheVariants as sol
use Rattle.ess_translate.specs.declared.refusal.Which.{Which}
use Rattle.ess_translate.specs.declared.refusal.TransNo.{TransNo}
use Rattle.ess_translate.specs.Answers.{IsNoEssence, IsNoParameter, IsNotJudged}
use Rattle.conjure_cli.specs.Seen.{FilesSeen, SinkSeen, Took, IsLater}
use Rattle.conjure_cli.specs.Reasons.{verdict_status, refusal_status, read_status}
use Rattle.conjure_cli.specs.Tasks.{judge}
use Rattle.conjure_cli.specs.Judging.{file_of, refused, StopsAt, StopCause, EssenceRead, ParamRead, SolutionRead, VerdictFound, JudgeCause, JudgeOut, VerdictTold, StopTold}
use Rattle.conjure_cli.specs.Runs.{outcome_status, Ends}
use Rattle.conjure_cli.specs.declared.ending.Ending.{Ending}
use Rattle.conjure_cli.specs.declared.outcome.Outcome.{Outcome}
use Rattle.conjure_cli.proofs.EndingLaws.{two_is_usage}

-- ---- a file

-- a refusal of a text stops the run
pub refused_stops : (why : TransNo) (file text : List ℕ) (before after : FilesSeen) (P : List ℕ → TransNo → Type 0)
    → Took before.tree file text → P text why
    → StopsAt (refused why) file before after P
refused_stops TransNo.HeaderBad file text before after P took h = (text, took, tt, h)
refused_stops (TransNo.TooManyCells x k) file text before after P took h = (text, took, tt, h)
refused_stops (TransNo.Unsatisfied v) file text before after P took h = (text, took, tt, h)
refused_stops (TransNo.NotRepresented x) file text before after P took h = (text, took, tt, h)
refused_stops (TransNo.Read which e) file text before after P took h = (text, took, tt, h)
refused_stops (TransNo.Typing e) file text before after P took h = (text, took, tt, h)
refused_stops (TransNo.InvalidParameter e) file text before after P took h = (text, took, tt, h)
refused_stops TransNo.Big file text before after P took h = (text, took, tt, h)
refused_stops TransNo.NoMemory file text before after P took h = tt

-- ---- the files one after another

-- nothing is later than itself
pub later_itself : (before : FilesSeen) → IsLater before before
later_itself before = record { tree = refl; faults = omega arith; misses = omega arith }

-- what is later than something later
pub later_later : (a b c : FilesSeen) → IsLater a b → IsLater b c → IsLater a c
later_later a b c h k =
    record { tree = k.tree ∙ h.tree; faults = omega (arith, h.faults, k.faults); misses = omega (arith, h.misses, k.misses) }

-- the run stops at the first file
pub stop_essence : (outcome : Outcome) (e p s : List ℕ) (before after : FilesSeen) → StopsAt outcome e before after IsNoEssence
    → StopCause Which.Essence outcome e p s before after
stop_essence outcome e p s before after h = (before, later_itself before, h)

-- at the second
pub stop_param : (outcome : Outcome) (e p s : List ℕ) (S : List Stm) (before middle after : FilesSeen) → EssenceRead before.tree e S
    → IsLater before middle
    → StopsAt outcome p middle after (IsNoParameter S) → StopCause Which.Param outcome e p s before after
stop_param outcome e p s S before middle after read later h = (S, read, (middle, later, h))

-- at the third
pub stop_solution : (outcome : Outcome) (e p s : List ℕ) (S : List Stm) (a : Assignment) (before one two after : FilesSeen)
    → EssenceRead before.tree e S
    → IsLater before one → ParamRead one.tree p S a → IsLater one two → StopsAt outcome s two after (IsNotJudged S a)
    → StopCause Which.Solution outcome e p s before after
stop_solution outcome e p s S a before one two after read later given more h =
    (S, a, read, subst (λ t. ParamRead t p S a) later.tree given, (two, later_later before one two later more, h))

-- all are read
pub found_verdict : (e p s : List ℕ) (S : List Stm) (a : Assignment) (v : Verdict) (before one two : FilesSeen)
    → EssenceRead before.tree e S
    → IsLater before one → ParamRead one.tree p S a → IsLater one two → SolutionRead two.tree s S a v → VerdictFound before.tree e p s v
found_verdict e p s S a v before one two read later given more solved =
    (S, a, read, subst (λ t. ParamRead t p S a) later.tree given, subst (λ t. SolutionRead t s S a v) (more.tree ∙ later.tree) solved)

-- ---- how a run ends

-- an outcome that stops no file is the cause at none
pub stops_nowhere : (outcome : Outcome) (at : Which) (e p s : List ℕ) (before after : FilesSeen)
    → ((file : List ℕ) (b a : FilesSeen) (P : List ℕ → TransNo → Type 0) → StopsAt outcome file b a P → ⊥)
    → StopCause at outcome e p s before after → ⊥
stops_nowhere outcome Which.Essence e p s before after never h = never e h.0 after IsNoEssence h.2
stops_nowhere outcome Which.Param e p s before after never h = never p h.2.0 after (IsNoParameter h.0) h.2.2
stops_nowhere outcome Which.Solution e p s before after never h = never s h.4.0 after (IsNotJudged h.0 h.1) h.4.2
stops_nowhere outcome Which.Model e p s before after never h = h

-- where a run stops, this is its cause
stop_cause : (outcome : Outcome) (at : Which) (e p s : List ℕ) (before after : FilesSeen) (o o' : SinkSeen)
    → StopCause at outcome e p s before after
    → JudgeCause outcome at e p s before after o o'
stop_cause (Outcome.Judged v) at e p s before after o o' h = absurd
    (stops_nowhere (Outcome.Judged v) at e p s before after (λ file b a P n. n) h)
stop_cause (Outcome.BadItem k) at e p s before after o o' h = h
stop_cause (Outcome.Refused why) at e p s before after o o' h = h
stop_cause (Outcome.Plain Ending.OutputFailed) at e p s before after o o' h =
    absurd (stops_nowhere (Outcome.Plain Ending.OutputFailed) at e p s before after (λ file b a P n. n) h)
stop_cause (Outcome.Plain Ending.NoMemory) at e p s before after o o' h = tt
stop_cause (Outcome.Plain Ending.Done) at e p s before after o o' h = h
stop_cause (Outcome.Plain Ending.Usage) at e p s before after o o' h = h
stop_cause (Outcome.Plain Ending.Missing) at e p s before after o o' h = h
stop_cause (Outcome.Plain Ending.Unreadable) at e p s before after o o' h = h
stop_cause (Outcome.Plain Ending.TooLong) at e p s before after o o' h = h
stop_cause (Outcome.Plain Ending.NotYet) at e p s before after o o' h = h
stop_cause (Outcome.Plain Ending.Unwritable) at e p s before after o o' h = h

-- and nothing is told on `out`
stop_out : (outcome : Outcome) (at : Which) (e p s : List ℕ) (before after : FilesSeen) (o : SinkSeen)
    → StopCause at outcome e p s before after
    → JudgeOut outcome before.tree e p s o o
stop_out (Outcome.Judged v) at e p s before after o h = absurd
    (stops_nowhere (Outcome.Judged v) at e p s before after (λ file b a P n. n) h)
stop_out (Outcome.BadItem k) at e p s before after o h = refl
stop_out (Outcome.Refused why) at e p s before after o h = refl
stop_out (Outcome.Plain Ending.OutputFailed) at e p s before after o h =
    absurd (stops_nowhere (Outcome.Plain Ending.OutputFailed) at e p s before after (λ file b a P n. n) h)
stop_out (Outcome.Plain Ending.NoMemory) at e p s before after o h = refl
stop_out (Outcome.Plain Ending.Done) at e p s before after o h = refl
stop_out (Outcome.Plain Ending.Usage) at e p s before after o h = refl
stop_out (Outcome.Plain Ending.Missing) at e p s before after o h = refl
stop_out (Outcome.Plain Ending.Unreadable) at e p s before after o h = refl
stop_out (Outcome.Plain Ending.TooLong) at e p s before after o h = refl
stop_out (Outcome.Plain Ending.NotYet) at e p s before after o h = refl
stop_out (Outcome.Plain Ending.Unwritable) at e p s before after o h = refl

-- a run that stops at a file
pub ends_stopped : (outcome told : Outcome) (at : Which) (e p s : List ℕ) (before after : FilesSeen) (o eb ea : SinkSeen)
    → StopCause at outcome e p s before after → after.tree ≡ before.tree → StopTold outcome told (file_of at e p s) eb ea
    → Ends told (outcome_status told) (Some (judge e p s)) true before after o o eb ea
ends_stopped outcome told at e p s before after o eb ea cause same h = elim h [
  | inl k ↦ subst (λ t. Ends t (outcome_status t) (Some (judge e p s)) true before after o o eb ea) (sym k.0) (record {
    at = at;
    status_is = refl;
    cause = stop_cause outcome at e p s before after o o cause;
    files = same;
    out = stop_out outcome at e p s before after o cause;
    err = k.1;
  })
  | inr k ↦ subst (λ t. Ends t (outcome_status t) (Some (judge e p s)) true before after o o eb ea) (sym k.0) (record {
    at = at;
    status_is = refl;
    cause = tt;
    files = same;
    out = refl;
    err = k.1;
  })
]

-- a run that comes to a verdict
pub ends_judged : (v : Verdict) (told : Outcome) (e p s : List ℕ) (before after : FilesSeen) (o o' eb ea : SinkSeen)
    → VerdictFound before.tree e p s v
    → after.tree ≡ before.tree → VerdictTold v told o o' eb ea
    → Ends told (outcome_status told) (Some (judge e p s)) true before after o o' eb ea
ends_judged v (Outcome.Judged w) e p s before after o o' eb ea found same h =
    subst (λ u. Ends (Outcome.Judged u) (verdict_status u) (Some (judge e p s)) true before after o o' eb ea) (sym h.0)
    (record { at = Which.Solution; status_is = refl; cause = found; files = same; out = h.1; err = h.2 })
ends_judged v (Outcome.Plain Ending.OutputFailed) e p s before after o o' eb ea found same h =
    record { at = Which.Solution; status_is = refl; cause = h.0; files = same; out = (v, found, h.1); err = h.2 }
ends_judged v (Outcome.Plain Ending.NoMemory) e p s before after o o' eb ea found same h =
    record { at = Which.Solution; status_is = refl; cause = tt; files = same; out = h.0; err = h.1 }
ends_judged v (Outcome.Plain Ending.Done) e p s before after o o' eb ea found same h = absurd h
ends_judged v (Outcome.Plain Ending.Usage) e p s before after o o' eb ea found same h = absurd h
ends_judged v (Outcome.Plain Ending.Missing) e p s before after o o' eb ea found same h = absurd h
ends_judged v (Outcome.Plain Ending.Unreadable) e p s before after o o' eb ea found same h = absurd h
ends_judged v (Outcome.Plain Ending.TooLong) e p s before after o o' eb ea found same h = absurd h
ends_judged v (Outcome.Plain Ending.NotYet) e p s before after o o' eb ea found same h = absurd h
ends_judged v (Outcome.Plain Ending.Unwritable) e p s before after o o' eb ea found same h = absurd h
ends_judged v (Outcome.BadItem k) e p s before after o o' eb ea found same h = absurd h
ends_judged v (Outcome.Refused why) e p s before after o o' eb ea found same h = absurd h

-- ---- the status

-- no verdict and no refusal has status 2
verdict_not_two : (v : Verdict) → verdict_status v ≡ 2 → ⊥
verdict_not_two sol.Valid is = omega (arith, is)
verdict_not_two (sol.Missing x) is = omega (arith, is)
verdict_not_two (sol.Extra x) is = omega (arith, is)
verdict_not_two (sol.NotMember x) is = omega (arith, is)
verdict_not_two (sol.False n) is = omega (arith, is)
verdict_not_two sol.NoObjective is = omega (arith, is)

read_not_two : (why : ReadNo) → read_status why ≡ 2 → ⊥
read_not_two (ReadNo.BadByte p) is = omega (arith, is)
read_not_two (ReadNo.WideNumber p) is = omega (arith, is)
read_not_two (ReadNo.Unsupported p) is = omega (arith, is)
read_not_two (ReadNo.TooDeep p) is = omega (arith, is)
read_not_two (ReadNo.Syntax p) is = omega (arith, is)
read_not_two ReadNo.NoMemory is = omega (arith, is)

-- no refusal has status 2
pub refusal_not_two : (why : TransNo) → refusal_status why ≡ 2 → ⊥
refusal_not_two TransNo.HeaderBad is = omega (arith, is)
refusal_not_two (TransNo.TooManyCells x k) is = omega (arith, is)
refusal_not_two (TransNo.Unsatisfied v) is = omega (arith, is)
refusal_not_two (TransNo.NotRepresented x) is = omega (arith, is)
refusal_not_two (TransNo.Read which why) is = read_not_two why is
refusal_not_two (TransNo.Typing why) is = omega (arith, is)
refusal_not_two (TransNo.InvalidParameter why) is = omega (arith, is)
refusal_not_two TransNo.Big is = omega (arith, is)
refusal_not_two TransNo.NoMemory is = omega (arith, is)

read_not_zero : (why : ReadNo) → read_status why ≡ 0 → ⊥
read_not_zero (ReadNo.BadByte p) is = omega (arith, is)
read_not_zero (ReadNo.WideNumber p) is = omega (arith, is)
read_not_zero (ReadNo.Unsupported p) is = omega (arith, is)
read_not_zero (ReadNo.TooDeep p) is = omega (arith, is)
read_not_zero (ReadNo.Syntax p) is = omega (arith, is)
read_not_zero ReadNo.NoMemory is = omega (arith, is)

-- no refusal has status 0
pub refusal_not_zero : (why : TransNo) → refusal_status why ≡ 0 → ⊥
refusal_not_zero TransNo.HeaderBad is = omega (arith, is)
refusal_not_zero (TransNo.TooManyCells x k) is = omega (arith, is)
refusal_not_zero (TransNo.Unsatisfied v) is = omega (arith, is)
refusal_not_zero (TransNo.NotRepresented x) is = omega (arith, is)
refusal_not_zero (TransNo.Read which why) is = read_not_zero why is
refusal_not_zero (TransNo.Typing why) is = omega (arith, is)
refusal_not_zero (TransNo.InvalidParameter why) is = omega (arith, is)
refusal_not_zero TransNo.Big is = omega (arith, is)
refusal_not_zero TransNo.NoMemory is = omega (arith, is)

-- a run that judges a solution never says that the words don't fit
pub never_two : (outcome : Outcome) (at : Which) (e p s : List ℕ) (before after : FilesSeen) (o o' : SinkSeen)
    → JudgeCause outcome at e p s before after o o'
    → outcome_status outcome ≡ 2 → ⊥
never_two (Outcome.Judged v) at e p s before after o o' cause two = verdict_not_two v two
never_two (Outcome.BadItem k) at e p s before after o o' cause two = omega (arith, two)
never_two (Outcome.Refused why) at e p s before after o o' cause two = refusal_not_two why two
never_two (Outcome.Plain ending) at e p s before after o o' cause two =
    stops_nowhere (Outcome.Plain Ending.Usage) at e p s before after (λ file b a P n. n)
    (subst (λ x. JudgeCause (Outcome.Plain x) at e p s before after o o') (two_is_usage ending two) cause)
