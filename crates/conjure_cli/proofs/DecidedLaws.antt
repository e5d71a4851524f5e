-- Laws of what the texts of three files decide.
use Rattle.std.proofs.Common.{◌≡◌, refl, sym, ap, ◌∙◌, subst, ℕ, ◌+◌, ◌≤◌, inl, inr, ◌⊎◌, List, length, take, arith, Bool, true, false, Option, Some, None, option_map}
use Rattle.std.specs.Prelude.{IfSome}
use Rattle.ess_semantics.specs.Trees.{Stm}
use Rattle.ess_semantics.specs.Assignments.{Assignment}
use Rattle.ess_semantics.specs.Judgements.{fault}
use Rattle.ess_semantics.specs.Parameters.{fits_param, param_verdict}
use Rattle.ess_semantics.specs.Solutions as pure
use Rattle.ess_semantics.specs.Solutions.{verdict, valid, missing_find, extra_find, not_in_domain, false_constraint, no_objective}
use Rattle.ess_semantics.specs.LargeSpecifications.{parameter_is_large, solution_is_large}
use Rattle.ess_io.specs.Counts.{Rose}
use Rattle.ess_io.specs.Trees.{Tree, file_at, start_of_file}
use Rattle.ess_grammar.specs.Statements.{IsSpecification, IsLettingsFile}
use Rattle.ess_types.specs.Refusals.{refusal}
use Rattle.ess_domains.specs.declared.verdicts.Verdict.{Verdict}
use Rattle.ess_domains.specs.declared.verdicts.Verdict.TheVariants as sol
use Rattle.ess_domains.specs.Verdicts.{pure_verdict, cut}
use Rattle.ess_translate_laws.specs.FileAssignments.{parameter_in, solution_in}
use Rattle.ess_translate.specs.declared.refusal.Which.{Which}
use Rattle.ess_translate.specs.declared.refusal.TransNo.{TransNo}
use Rattle.ess_translate.specs.Texts.{SpellsLettings}
use Rattle.ess_translate.specs.Answers.{IsEssence, IsNoEssence, IsParameter, IsNoParameter, IsJudged, IsNotJudged}
use Rattle.ess_translate.proofs.Spelled.{spelled-unrefused}
use Rattle.conjure_cli.specs.Seen.{FilesSeen, SinkSeen, limit, WasRead}
use Rattle.conjure_cli.specs.Ending.{NoFault}
use Rattle.conjure_cli.specs.Reasons.{verdict_status}
use Rattle.conjure_cli.specs.Judging.{IsTold, FileStops, StopsLater, StopCause, EssenceRead, ParamRead, SolutionRead, VerdictFound, JudgeCause}
use Rattle.conjure_cli.specs.Decided.{status_by, AreGood, IsJudgeDecided, FilesDecide}
use Rattle.conjure_cli.specs.Runs.{outcome_status}
use Rattle.conjure_cli.specs.declared.ending.Ending.{Ending}
use Rattle.conjure_cli.specs.declared.outcome.Outcome.{Outcome}
use Rattle.conjure_cli.proofs.EndingLaws.{rose_later}

-- ---- the same texts

-- two readings of one file of a told tree are one
pub one_text : (tree : Tree) (file held text : List ℕ) → start_of_file tree file (limit + 1) ≡ Some held → WasRead (Some tree) file text
    → text ≡ held
one_text tree file held text is was = some_one text held (sym was ∙ is)
  where
    some_one : (x y : List ℕ) → Some x ≡ Some y → x ≡ y
    some_one x y h = cc

-- ---- no file stops the run

-- a file that is there, short and read without a fault stops nothing
no_file_stops : (ending : Ending) (tree : Tree) (file held : List ℕ) (before after : FilesSeen) → before.tree ≡ Some tree
    → start_of_file tree file (limit + 1) ≡ Some held → length held ≤ limit → (Rose before.faults after.faults → ⊥)
    → (ending ≡ Ending.NoMemory → ⊥)
    → FileStops ending file before after → ⊥
no_file_stops Ending.Missing tree file held before after told is short quiet room h =
    there (file_at tree file) refl (subst (λ t. IfSome t (λ files. (file_at files file ≡ None) × (Rose before.faults after.faults
    → ⊥))) told h.1)
  where
    there : (o : Option (List ℕ)) → file_at tree file ≡ o → (file_at tree file ≡ None) × (Rose before.faults after.faults → ⊥) → ⊥
    there o e k = let c : None ≡ Some held = sym (ap (option_map (λ bytes. take (limit + 1) bytes)) k.0) ∙ is in cc
no_file_stops Ending.Unreadable tree file held before after told is short quiet room h = quiet h
no_file_stops Ending.TooLong tree file held before after told is short quiet room h =
    let one : h.0 ≡ held = one_text tree file held h.0 is (subst (λ t. WasRead t file h.0) told h.1) in
    let long : length held ≡ limit + 1 = ap length (sym one) ∙ h.2 in
    omega (arith, long, short)
no_file_stops Ending.NoMemory tree file held before after told is short quiet room h = room refl
no_file_stops Ending.Done tree file held before after told is short quiet room h = h
no_file_stops Ending.Usage tree file held before after told is short quiet room h = h
no_file_stops Ending.NotYet tree file held before after told is short quiet room h = h
no_file_stops Ending.Unwritable tree file held before after told is short quiet room h = h
no_file_stops Ending.OutputFailed tree file held before after told is short quiet room h = h

-- nor does its text, where nothing is said against it
pub no_stop : (outcome : Outcome) (tree : Tree) (file held : List ℕ) (before after : FilesSeen) (P : List ℕ → TransNo → Type 0)
    → before.tree ≡ Some tree
    → start_of_file tree file (limit + 1) ≡ Some held → length held ≤ limit → (Rose before.faults after.faults → ⊥)
    → (outcome ≡ Outcome.Plain Ending.NoMemory → ⊥) → ((why : TransNo) → IsTold why → P held why → ⊥)
    → StopsLater outcome file before after P → ⊥
no_stop (Outcome.Plain ending) tree file held before after P told is short quiet room never h =
    no_file_stops ending tree file held h.0 after (h.1.tree
    ∙ told) is short (λ rose. quiet (rose_later before.faults h.0.faults after.faults h.1.faults rose))
    (λ e. room (ap Outcome.Plain e)) h.2
no_stop (Outcome.Refused why) tree file held before after P told is short quiet room never h =
    let one : h.2.0 ≡ held = one_text tree file held h.2.0 is (subst (λ t. WasRead t file h.2.0) (h.1.tree ∙ told) h.2.1.was) in
    never why h.2.2 (subst (λ t. P t why) one h.2.3)
no_stop (Outcome.Judged v) tree file held before after P told is short quiet room never h = h.2
no_stop (Outcome.BadItem k) tree file held before after P told is short quiet room never h = h.2

-- ---- good texts are refused by none

pub good_essence : (text : List ℕ) (S : List Stm) (why : TransNo) → IsEssence text S → IsTold why → IsNoEssence text why → ⊥
good_essence text S (TransNo.Read Which.Essence why) good told h = spelled-unrefused IsSpecification text S why good.spells h
good_essence text S (TransNo.Read Which.Param why) good told h = h
good_essence text S (TransNo.Read Which.Solution why) good told h = h
good_essence text S (TransNo.Read Which.Model why) good told h = h
good_essence text S (TransNo.Typing why) good told h =
    let none : fault h.0 ≡ None = ap fault (good.spells.only h.0 h.1.reads) ∙ good.typed in
    let c : None ≡ Some why = sym (ap (option_map refusal) none) ∙ h.2 in cc
good_essence text S (TransNo.InvalidParameter v) good told h = h
good_essence text S TransNo.HeaderBad good told h = h
good_essence text S (TransNo.TooManyCells x k) good told h = h
good_essence text S (TransNo.Unsatisfied v) good told h = h
good_essence text S (TransNo.NotRepresented x) good told h = h
good_essence text S TransNo.Big good told h = h
good_essence text S TransNo.NoMemory good told h = told

true_false : {b : Bool} → b ≡ true → b ≡ false → ⊥
true_false h i = cc

good_param : (text : List ℕ) (S F : List Stm) (why : TransNo) → SpellsLettings text F → param_verdict S (parameter_in S F) ≡ fits_param
    → parameter_is_large S (parameter_in S F) ≡ false → IsTold why → IsNoParameter S text why → ⊥
good_param text S F (TransNo.Read Which.Param why) spells fits small told h = spelled-unrefused IsLettingsFile text F why spells h
good_param text S F (TransNo.Read Which.Essence why) spells fits small told h = h
good_param text S F (TransNo.Read Which.Solution why) spells fits small told h = h
good_param text S F (TransNo.Read Which.Model why) spells fits small told h = h
good_param text S F (TransNo.Typing why) spells fits small told h = h
good_param text S F (TransNo.InvalidParameter v) spells fits small told h =
    h.2.unfit (ap (λ G. param_verdict S (parameter_in S G)) (spells.only h.0 h.1.reads) ∙ fits)
good_param text S F TransNo.HeaderBad spells fits small told h = h
good_param text S F (TransNo.TooManyCells x k) spells fits small told h = h
good_param text S F (TransNo.Unsatisfied v) spells fits small told h = h
good_param text S F (TransNo.NotRepresented x) spells fits small told h = h
good_param text S F TransNo.Big spells fits small told h =
    true_false h.2 (ap (λ G. parameter_is_large S (parameter_in S G)) (spells.only h.0 h.1.reads) ∙ small)
good_param text S F TransNo.NoMemory spells fits small told h = told

good_solution : (text : List ℕ) (S G : List Stm) (p : Assignment) (why : TransNo) → SpellsLettings text G
    → solution_is_large S p (solution_in S p G) ≡ false → IsTold why → IsNotJudged S p text why → ⊥
good_solution text S G p (TransNo.Read Which.Solution why) spells small told h = spelled-unrefused IsLettingsFile text G why spells h
good_solution text S G p (TransNo.Read Which.Essence why) spells small told h = h
good_solution text S G p (TransNo.Read Which.Param why) spells small told h = h
good_solution text S G p (TransNo.Read Which.Model why) spells small told h = h
good_solution text S G p (TransNo.Typing why) spells small told h = h
good_solution text S G p (TransNo.InvalidParameter v) spells small told h = h
good_solution text S G p TransNo.HeaderBad spells small told h = h
good_solution text S G p (TransNo.TooManyCells x k) spells small told h = h
good_solution text S G p (TransNo.Unsatisfied v) spells small told h = h
good_solution text S G p (TransNo.NotRepresented x) spells small told h = h
good_solution text S G p TransNo.Big spells small told h =
    true_false h.2 (ap (λ H. solution_is_large S p (solution_in S p H)) (spells.only h.0 h.1.reads) ∙ small)
good_solution text S G p TransNo.NoMemory spells small told h = told

-- ---- what is read is what is there

-- the specification that was read
one_essence : (tree : Tree) (file held : List ℕ) (S T : List Stm) → start_of_file tree file (limit + 1) ≡ Some held → IsEssence held S
    → EssenceRead (Some tree) file T → T ≡ S
one_essence tree file held S T is good h = let one : h.0 ≡ held = one_text tree file held h.0 is h.1.was in
    good.spells.only T (subst (λ t. IsEssence t T) one h.2).spells.reads

-- the parameter that was read
one_param : (tree : Tree) (file held : List ℕ) (S F : List Stm) (p : Assignment) → start_of_file tree file (limit + 1) ≡ Some held
    → SpellsLettings held F
    → ParamRead (Some tree) file S p → p ≡ parameter_in S F
one_param tree file held S F p is spells h = let one : h.0 ≡ held = one_text tree file held h.0 is h.2.was in
    h.3.stands ∙ ap (parameter_in S) (spells.only h.1 (subst (λ t. IsParameter S t h.1 p) one h.3).spells.reads)

-- the status of a verdict
status_told : (v : Verdict) → verdict_status v ≡ status_by (pure_verdict v)
status_told sol.Valid = refl
status_told (sol.Missing x) = refl
status_told (sol.Extra x) = refl
status_told (sol.NotMember x) = refl
status_told (sol.False n) = refl
status_told sol.NoObjective = refl

status_cut : (w : pure.Verdict) → status_by (cut w) ≡ status_by w
status_cut valid = refl
status_cut (missing_find x) = refl
status_cut (extra_find x) = refl
status_cut (not_in_domain x) = refl
status_cut (false_constraint n) = refl
status_cut no_objective = refl

-- the verdict that was found
one_verdict : (tree : Tree) (file held : List ℕ) (S G : List Stm) (p : Assignment) (v : Verdict)
    → start_of_file tree file (limit + 1) ≡ Some held
    → SpellsLettings held G → SolutionRead (Some tree) file S p v → verdict_status v ≡ status_by (verdict S p (solution_in S p G))
one_verdict tree file held S G p v is spells h =
    let one : h.0 ≡ held = one_text tree file held h.0 is h.1.was in
    let judged : IsJudged S p held v = subst (λ t. IsJudged S p t v) one h.2 in
    status_told v ∙ ap status_by judged.2 ∙ status_cut (verdict S p (solution_in S p judged.0))
    ∙ ap (λ H. status_by (verdict S p (solution_in S p H))) (spells.only judged.0 judged.1.reads)

-- ---- the files decide

module _ (tree : Tree) (e p s essence param sol : List ℕ) (S F G : List Stm)
    (is_e : start_of_file tree e (limit + 1) ≡ Some essence) (is_p : start_of_file tree p (limit + 1)
    ≡ Some param) (is_s : start_of_file tree s (limit + 1) ≡ Some sol)
    (short_e : length essence ≤ limit) (short_p : length param ≤ limit) (short_s : length sol ≤ limit)
    (good : AreGood essence param sol S F G) where
  -- good files stop nothing
  good_stops : (outcome : Outcome) (at : Which) (before after : FilesSeen) → before.tree ≡ Some tree → (Rose before.faults after.faults → ⊥)
      → (outcome ≡ Outcome.Plain Ending.NoMemory → ⊥) → StopCause at outcome e p s before after → ⊥
  good_stops outcome Which.Essence before after told quiet room h =
      no_stop outcome tree e essence before after IsNoEssence told is_e short_e quiet room
      (λ why t k. good_essence essence S why good.specification t k) h
  good_stops outcome Which.Param before after told quiet room h =
      let one : h.0 ≡ S = one_essence tree e essence S h.0 is_e good.specification (subst (λ t. EssenceRead t e h.0) told h.1) in
      no_stop outcome tree p param before after (IsNoParameter S) told is_p short_p quiet room
      (λ why t k. good_param param S F why good.parameter good.fits good.small_parameter t k)
      (subst (λ T. StopsLater outcome p before after (IsNoParameter T)) one h.2)
  good_stops outcome Which.Solution before after told quiet room h =
      let one : h.0 ≡ S = one_essence tree e essence S h.0 is_e good.specification (subst (λ t. EssenceRead t e h.0) told h.2) in
      let given : ParamRead (Some tree) p S h.1 = subst (λ T. ParamRead (Some tree) p T h.1) one
      (subst (λ t. ParamRead t p h.0 h.1) told h.3) in
      let its : h.1 ≡ parameter_in S F = one_param tree p param S F h.1 is_p good.parameter given in
      no_stop outcome tree s sol before after (IsNotJudged S (parameter_in S F)) told is_s short_s quiet room
      (λ why t k. good_solution sol S G (parameter_in S F) why good.solution good.small_solution t k)
      (subst (λ a. StopsLater outcome s before after (IsNotJudged S a)) its
      (subst (λ T. StopsLater outcome s before after (IsNotJudged T h.1)) one h.4))
  good_stops outcome Which.Model before after told quiet room h = h

  -- the verdict found decides
  good_found : (v : Verdict) → VerdictFound (Some tree) e p s v
      → verdict_status v ≡ status_by (verdict S (parameter_in S F) (solution_in S (parameter_in S F) G))
  good_found v h =
      let one : h.0 ≡ S = one_essence tree e essence S h.0 is_e good.specification h.2 in
      let its : h.1 ≡ parameter_in S F = one_param tree p param S F h.1 is_p good.parameter
      (subst (λ T. ParamRead (Some tree) p T h.1) one h.3) in
      one_verdict tree s sol S G (parameter_in S F) v is_s good.solution
      (subst (λ a. SolutionRead (Some tree) s S a v) its (subst (λ T. SolutionRead (Some tree) s T h.1 v) one h.4))

  -- so does the outcome
  good_decides : (outcome : Outcome) (status : ℕ) (at : Which) (before after : FilesSeen) (o o' : SinkSeen) → before.tree ≡ Some tree
      → NoFault before after o o' → status ≡ outcome_status outcome → JudgeCause outcome at e p s before after o o'
      → (status ≡ status_by (verdict S (parameter_in S F) (solution_in S (parameter_in S F) G))) ⊎ (status ≡ 6)
  good_decides (Outcome.Judged v) status at before after o o' told quiet is h = inl (is
      ∙ good_found v (subst (λ t. VerdictFound t e p s v) told h))
  good_decides (Outcome.Plain Ending.NoMemory) status at before after o o' told quiet is h = inr is
  good_decides (Outcome.Plain Ending.OutputFailed) status at before after o o' told quiet is h = absurd (quiet.1 h)
  good_decides (Outcome.Plain Ending.Done) status at before after o o' told quiet is h =
      absurd (good_stops (Outcome.Plain Ending.Done) at before after told quiet.0 (λ e. cc) h)
  good_decides (Outcome.Plain Ending.Usage) status at before after o o' told quiet is h =
      absurd (good_stops (Outcome.Plain Ending.Usage) at before after told quiet.0 (λ e. cc) h)
  good_decides (Outcome.Plain Ending.Missing) status at before after o o' told quiet is h =
      absurd (good_stops (Outcome.Plain Ending.Missing) at before after told quiet.0 (λ e. cc) h)
  good_decides (Outcome.Plain Ending.Unreadable) status at before after o o' told quiet is h =
      absurd (good_stops (Outcome.Plain Ending.Unreadable) at before after told quiet.0 (λ e. cc) h)
  good_decides (Outcome.Plain Ending.TooLong) status at before after o o' told quiet is h =
      absurd (good_stops (Outcome.Plain Ending.TooLong) at before after told quiet.0 (λ e. cc) h)
  good_decides (Outcome.Plain Ending.NotYet) status at before after o o' told quiet is h =
      absurd (good_stops (Outcome.Plain Ending.NotYet) at before after told quiet.0 (λ e. cc) h)
  good_decides (Outcome.Plain Ending.Unwritable) status at before after o o' told quiet is h =
      absurd (good_stops (Outcome.Plain Ending.Unwritable) at before after told quiet.0 (λ e. cc) h)
  good_decides (Outcome.Refused why) status at before after o o' told quiet is h =
      absurd (good_stops (Outcome.Refused why) at before after told quiet.0 (λ e. cc) h)
  good_decides (Outcome.BadItem k) status at before after o o' told quiet is h =
      absurd (good_stops (Outcome.BadItem k) at before after told quiet.0 (λ e. cc) h)

-- the three files decide
pub files_decide : (outcome : Outcome) (status : ℕ) (at : Which) (e p s : List ℕ) (before after : FilesSeen) (o o' : SinkSeen)
    → status ≡ outcome_status outcome
    → JudgeCause outcome at e p s before after o o' → FilesDecide status e p s before after o o'
files_decide outcome status at e p s before after o o' is cause = told before.tree refl
  where
    told : (tree : Option Tree) → before.tree ≡ tree → IfSome tree (λ t.
        IfSome (start_of_file t e (limit + 1)) (λ essence. IfSome (start_of_file t p (limit + 1)) (λ param.
        IfSome (start_of_file t s (limit + 1)) (λ sol. NoFault before after o o' → IsJudgeDecided status essence param sol))))
    told None seen = tt
    told (Some tree) seen = first (start_of_file tree e (limit + 1)) refl
      where
        third : (essence param : List ℕ) → start_of_file tree e (limit + 1) ≡ Some essence → start_of_file tree p (limit + 1) ≡ Some param
            → (x : Option (List ℕ)) → start_of_file tree s (limit + 1) ≡ x
            → IfSome x (λ sol. NoFault before after o o' → IsJudgeDecided status essence param sol)
        third essence param is_e is_p None is_s = tt
        third essence param is_e is_p (Some sol) is_s = λ quiet short_e short_p short_s S F G good.
            good_decides tree e p s essence param sol S F G is_e is_p is_s short_e short_p short_s good outcome status at before after o o' seen quiet is cause

        second : (essence : List ℕ) → start_of_file tree e (limit + 1) ≡ Some essence
            → (x : Option (List ℕ)) → start_of_file tree p (limit + 1) ≡ x
            → IfSome x (λ param. IfSome (start_of_file tree s (limit + 1)) (λ sol. NoFault before after o o'
            → IsJudgeDecided status essence param sol))
        second essence is_e None is_p = tt
        second essence is_e (Some param) is_p = third essence param is_e is_p (start_of_file tree s (limit + 1)) refl

        first : (x : Option (List ℕ)) → start_of_file tree e (limit + 1) ≡ x
            → IfSome x (λ essence. IfSome (start_of_file tree p (limit + 1)) (λ param.
            IfSome (start_of_file tree s (limit + 1)) (λ sol. NoFault before after o o' → IsJudgeDecided status essence param sol)))
        first None is_e = tt
        first (Some essence) is_e = second essence is_e (start_of_file tree p (limit + 1)) refl
