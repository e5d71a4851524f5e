-- Laws of runs: how a run of a task ends, and what follows.
use Rattle.std.proofs.Common.{◌≡◌, refl, sym, ap, ◌∙◌, subst, ℕ, inl, inr, ◌⊎◌, List, [], arith, Bool, true, false, Option, Some, None}
use Rattle.ess_translate.specs.declared.refusal.Which.{Which}
use Rattle.conjure_cli.specs.Seen.{FilesSeen, SinkSeen}
use Rattle.conjure_cli.specs.Ending.{status_of, model_file, LeavesErr, IsRefusal}
use Rattle.conjure_cli.specs.Refining.{Ran, RefinedTold}
use Rattle.conjure_cli.specs.Tasks.{Task, refine, judge, translate, test, asked, file_named, takes_memory}
use Rattle.conjure_cli.specs.Runs.{outcome_status, IfPlain, RefineCause, Ends, KeepsAllElse, UsageIsTwo, MissingBy, DecidesBy}
use Rattle.conjure_cli.specs.declared.ending.Ending.{Ending}
use Rattle.conjure_cli.specs.declared.ending.Ending.TheVariants.{Usage, NoMemory}
use Rattle.conjure_cli.specs.declared.outcome.Outcome.{Outcome}
use Rattle.conjure_cli.proofs.RefiningLaws.{ends_refined, refine_not_two, refine_others, refine_refused, refine_missing}
use Rattle.conjure_cli.proofs.TextLaws.{text_decides, six_decides}
use Rattle.conjure_cli.proofs.TaskLaws.{named_is_asked}
use Rattle.conjure_cli.proofs.JudgingLaws.{never_two}
use Rattle.conjure_cli.proofs.TestingLaws.{test_not_two, test_ends, test_is_told}
use Rattle.conjure_cli.proofs.DecidedLaws.{files_decide}
use Rattle.conjure_cli.proofs.TranslatingLaws.{translate_not_two, translate_refused, translate_keeps, translate_is_done}
use Rattle.conjure_cli.proofs.TranslationLaws.{translation_decides}
use Rattle.conjure_cli.specs.Translating.{SaysTranslation}
use Rattle.conjure_cli.specs.Testing.{TestTold, TestEnds, SaysTest}

-- ---- how a run ends

pub ends_tested : (outcome : Outcome) (n : ℕ) (before : FilesSeen) (out out' err err' : SinkSeen) → TestTold n outcome out out' err err'
    → Ends outcome (outcome_status outcome) (Some (test n)) true before before out out' err err'
ends_tested (Outcome.Plain ending) n before out out' err err' h =
    record { at = Which.Essence; status_is = refl; cause = h.cause; files = refl; out = h.out; err = h.err }
ends_tested (Outcome.Judged v) n before out out' err err' h = absurd h.err
ends_tested (Outcome.Refused why) n before out out' err err' h = absurd h.err
ends_tested (Outcome.BadItem k) n before out out' err err' h = absurd h.err

pub ends_usage : (task : Option Task) (before : FilesSeen) (out err err' : SinkSeen) → task ≡ None → LeavesErr Usage [] [] err err'
    → Ends (Outcome.Plain Usage) 2 task true before before out out err err'
ends_usage task before out err err' is left = subst (λ t. Ends (Outcome.Plain Usage) 2 t true before before out out err err') (sym is)
    (record { at = Which.Essence; status_is = refl; cause = inl refl; files = refl; out = refl; err = left })

-- want of memory, where the words take it, tells no name
pub ends_memory : (task : Option Task) (before : FilesSeen) (out err err' : SinkSeen) → LeavesErr NoMemory [] [] err err'
    → Ends (Outcome.Plain NoMemory) 6 task true before before out out err err'
ends_memory None before out err err' left = record { at = Which.Essence; status_is = refl; cause = inr refl; files = refl; out = refl; err = left }
ends_memory (Some (test n)) before out err err' left =
    record { at = Which.Essence; status_is = refl; cause = tt; files = refl; out = refl; err = left }
ends_memory (Some (judge e p s)) before out err err' left =
    record { at = Which.Essence; status_is = refl; cause = tt; files = refl; out = refl; err = left }
ends_memory (Some (translate m p c place)) before out err err' left =
    record { at = Which.Essence; status_is = refl; cause = tt; files = inl refl; out = refl; err = left }
ends_memory (Some (refine file place list)) before out err err' left =
    record { at = Which.Essence; status_is = refl; cause = inr refl; files = inl refl; out = refl; err = left }

-- the run of the words `modelling FILE`
pub ends_named : (outcome told : Outcome) (words : List (List ℕ)) (file : List ℕ) (before after : FilesSeen) (out out' err err' : SinkSeen)
    → file_named words ≡ Some file → Ran outcome None file model_file before after out out'
    → RefinedTold outcome told file model_file err err'
    → Ends told (outcome_status told) (asked words) (takes_memory words) before after out out' err err'
ends_named outcome told words file before after out out' err err' is ran says =
    ends_refined outcome told (asked words) (takes_memory words) None file model_file before after out out' err err'
    (named_is_asked words file is) ran says

-- ---- what follows from an ending

-- an outcome with a property of plain endings is one
of_plain : (outcome : Outcome) (P : Ending → Type 0) → IfPlain outcome P → (ending : Ending) × (outcome ≡ Outcome.Plain ending) × P ending
of_plain (Outcome.Plain ending) P h = (ending, refl, h)
of_plain (Outcome.Judged v) P h = absurd h
of_plain (Outcome.Refused why) P h = absurd h
of_plain (Outcome.BadItem k) P h = absurd h

pub usage_is_two : (outcome : Outcome) (status : ℕ) (task : Option Task) (takes : Bool) (before after : FilesSeen) (o o' e e' : SinkSeen)
    → Ends outcome status task takes before after o o' e e' → UsageIsTwo status task
usage_is_two outcome status None takes before after o o' e e' ends =
    let q = of_plain outcome (λ ending. (ending ≡ Usage) ⊎ (ending ≡ NoMemory)) ends.cause in
    let is : status ≡ status_of q.0 = ends.status_is ∙ ap outcome_status q.1 in
    (λ _. refl, λ _. elim q.2 [ inl h ↦ inl (is ∙ ap status_of h) | inr h ↦ inr (is ∙ ap status_of h) ])
usage_is_two outcome status (Some (test n)) takes before after o o' e e' ends = (
  λ two. absurd (test_not_two outcome o o' ends.cause (sym ends.status_is ∙ two)),
  λ none. let h : Some (test n) ≡ None = none in cc,
)
usage_is_two outcome status (Some (judge e p s)) takes before after o o' e1 e2 ends = (
  λ two. absurd (never_two outcome ends.at e p s before after o o' ends.cause (sym ends.status_is ∙ two)),
  λ none. let h : Some (judge e p s) ≡ None = none in cc,
)
usage_is_two outcome status (Some (translate m p c place)) takes before after o o' e1 e2 ends = (
  λ two. absurd (translate_not_two outcome ends.at m p c before after o o' ends.cause (sym ends.status_is ∙ two)),
  λ none. let h : Some (translate m p c place) ≡ None = none in cc,
)
usage_is_two outcome status (Some (refine file place list)) takes before after o o' e e' ends = (
  λ two. absurd (cases takes ends.cause (sym ends.status_is ∙ two)),
  λ none. let h : Some (refine file place list) ≡ None = none in cc,
)
  where
    cases : (takes : Bool) → RefineCause takes list file before after o o' outcome → outcome_status outcome ≡ 2 → ⊥
    cases false cause two = refine_not_two outcome list file before after o o' cause two
    cases true cause two = elim cause [
      | inl h ↦ refine_not_two outcome list file before after o o' h two
      | inr h ↦ (let k : outcome_status outcome ≡ 6 = ap outcome_status h in omega (arith, k, two))
    ]

-- a self-test ends so, and status 0 says that its line is told
pub test_gives : (outcome : Outcome) (status : ℕ) (task : Option Task) (takes : Bool) (before after : FilesSeen) (o o' e e' : SinkSeen)
    → Ends outcome status task takes before after o o' e e' → TestEnds status task o o'
test_gives outcome status None takes before after o o' e e' ends = tt
test_gives outcome status (Some (refine file place list)) takes before after o o' e e' ends = tt
test_gives outcome status (Some (judge e p s)) takes before after o o' e1 e2 ends = tt
test_gives outcome status (Some (translate m p c place)) takes before after o o' e1 e2 ends = tt
test_gives outcome status (Some (test n)) takes before after o o' e e' ends =
    subst (λ s. TestEnds s (Some (test n)) o o') (sym ends.status_is) (test_ends outcome n o o' ends.cause)

pub says_test : (outcome : Outcome) (status : ℕ) (task : Option Task) (takes : Bool) (before after : FilesSeen) (o o' e e' : SinkSeen)
    → Ends outcome status task takes before after o o' e e' → SaysTest status task o o'
says_test outcome status None takes before after o o' e e' ends = tt
says_test outcome status (Some (refine file place list)) takes before after o o' e e' ends = tt
says_test outcome status (Some (judge e p s)) takes before after o o' e1 e2 ends = tt
says_test outcome status (Some (translate m p c place)) takes before after o o' e1 e2 ends = tt
says_test outcome status (Some (test n)) takes before after o o' e e' ends = λ zero.
    test_is_told outcome n o o' ends.cause ends.out (sym ends.status_is ∙ zero)

pub missing_by : (outcome : Outcome) (status : ℕ) (task : Option Task) (takes : Bool) (before after : FilesSeen) (o o' e e' : SinkSeen)
    → Ends outcome status task takes before after o o' e e' → MissingBy status task takes before after
missing_by outcome status None takes before after o o' e e' ends = tt
missing_by outcome status (Some (test n)) takes before after o o' e e' ends = tt
missing_by outcome status (Some (judge e p s)) takes before after o o' e1 e2 ends = tt
missing_by outcome status (Some (translate m p c place)) takes before after o o' e1 e2 ends = tt
missing_by outcome status (Some (refine file place list)) false before after o o' e e' ends =
    refine_missing outcome status list file before after o o' ends.status_is ends.cause
missing_by outcome status (Some (refine file place list)) true before after o o' e e' ends = elim ends.cause [
  | inl cause ↦ inl (refine_missing outcome status list file before after o o' ends.status_is cause)
  | inr h ↦ inr (ends.status_is ∙ ap outcome_status h)
]

pub decides_by : (outcome : Outcome) (status : ℕ) (task : Option Task) (takes : Bool) (before after : FilesSeen) (o o' e e' : SinkSeen)
    → Ends outcome status task takes before after o o' e e' → DecidesBy status task before after o o'
decides_by outcome status None takes before after o o' e e' ends = tt
decides_by outcome status (Some (test n)) takes before after o o' e e' ends = tt
decides_by outcome status (Some (judge e p s)) takes before after o o' e1 e2 ends =
    files_decide outcome status ends.at e p s before after o o' ends.status_is ends.cause
decides_by outcome status (Some (translate m p c place)) takes before after o o' e1 e2 ends =
    translation_decides outcome status ends.at m p c before after o o' ends.status_is ends.cause
decides_by outcome status (Some (refine file place list)) false before after o o' e e' ends =
    text_decides outcome status list file before after o o' ends.status_is ends.cause
decides_by outcome status (Some (refine file place list)) true before after o o' e e' ends = elim ends.cause [
  | inl cause ↦ text_decides outcome status list file before after o o' ends.status_is cause
  | inr h ↦ six_decides status list file before after o o' (ends.status_is ∙ ap outcome_status h)
]

pub keeps_all_else : (outcome : Outcome) (status : ℕ) (task : Option Task) (takes : Bool) (before after : FilesSeen) (o o' e e' : SinkSeen)
    → Ends outcome status task takes before after o o' e e' → KeepsAllElse task before after
keeps_all_else outcome status None takes before after o o' e e' ends = ends.files
keeps_all_else outcome status (Some (test n)) takes before after o o' e e' ends = ends.files
keeps_all_else outcome status (Some (judge e p s)) takes before after o o' e1 e2 ends = ends.files
keeps_all_else outcome status (Some (translate m p c place)) takes before after o o' e1 e2 ends =
    translate_keeps outcome m p c place before after ends.files
keeps_all_else outcome status (Some (refine file place list)) takes before after o o' e e' ends =
    refine_others outcome list file place before after ends.files

pub refused_keeps : (outcome : Outcome) (status : ℕ) (task : Option Task) (takes : Bool) (before after : FilesSeen) (o o' e e' : SinkSeen)
    → Ends outcome status task takes before after o o' e e' → IsRefusal status → after.tree ≡ before.tree
refused_keeps outcome status None takes before after o o' e e' ends refusal = ends.files
refused_keeps outcome status (Some (test n)) takes before after o o' e e' ends refusal = ends.files
refused_keeps outcome status (Some (judge e p s)) takes before after o o' e1 e2 ends refusal = ends.files
refused_keeps outcome status (Some (translate m p c place)) takes before after o o' e1 e2 ends refusal =
    translate_refused outcome status m p c place before after ends.status_is refusal ends.files
refused_keeps outcome status (Some (refine file place list)) takes before after o o' e e' ends refusal =
    refine_refused outcome status list file place before after ends.status_is refusal ends.files

-- where something is translated, status 0 says that it is done
pub says_translation : (outcome : Outcome) (status : ℕ) (task : Option Task) (takes : Bool) (before after : FilesSeen) (o o' e e' : SinkSeen)
    → Ends outcome status task takes before after o o' e e' → SaysTranslation status task before after
says_translation outcome status None takes before after o o' e e' ends = tt
says_translation outcome status (Some (test n)) takes before after o o' e e' ends = tt
says_translation outcome status (Some (judge e p s)) takes before after o o' e1 e2 ends = tt
says_translation outcome status (Some (refine file place list)) takes before after o o' e e' ends = tt
says_translation outcome status (Some (translate m p c place)) takes before after o o' e1 e2 ends = λ zero.
    translate_is_done outcome ends.at m p c place before after o o' ends.cause ends.files (sym ends.status_is ∙ zero)

-- the same ending with its status
pub ends_with : (outcome : Outcome) (status : ℕ) (task : Option Task) (takes : Bool) (before after : FilesSeen) (o o' e e' : SinkSeen)
    → Ends outcome (outcome_status outcome) task takes before after o o' e e' → status ≡ outcome_status outcome
    → Ends outcome status task takes before after o o' e e'
ends_with outcome status task takes before after o o' e e' ends is = subst (λ s. Ends outcome s task takes before after o o' e e')
    (sym is) ends
