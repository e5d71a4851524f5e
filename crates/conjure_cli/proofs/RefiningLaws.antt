-- Laws of runs that refine a file: how they end, and what follows.
use Rattle.std.proofs.Common.{◌≡◌, refl, sym, ap, ◌∙◌, subst, ℕ, ◌+◌, ◌<◌, ◌≤◌, inl, inr, List, [], length, arith, Bool, true, false}
use Rattle.std.proofs.Common.{Option, Some, None}
use Rattle.std.specs.Prelude.{IfSome}
use Rattle.ess_io.specs.Counts.{Rose}
use Rattle.ess_io.specs.Trees.{Tree, file_at, with_file, LeavesPrefix, KeepsOthers}
use Rattle.ess_translate.specs.declared.refusal.Which.{Which}
use Rattle.conjure_modelling.specs.declared.refusal.ModelNo.{ModelNo}
use Rattle.conjure_cli.specs.Seen.{FilesSeen, SinkSeen, limit, ReadGives, WasRead}
use Rattle.conjure_cli.specs.Whole.{IsModelFor, IsUnmodelledFor}
use Rattle.conjure_cli.specs.Ending.{model_in, IsReadable, IsUnreadable, CauseOf, LeavesModel, LeavesErr, IsRefusal, MissingIsFour}
use Rattle.conjure_cli.specs.Refining.{CauseTo, FilesTo, Ran, RefinedTold}
use Rattle.conjure_cli.specs.Refusals.{unmodelled}
use Rattle.conjure_cli.specs.Tasks.{Task, refine}
use Rattle.conjure_cli.specs.Translating.{Written}
use Rattle.conjure_cli.specs.Runs.{outcome_status, RefineCause, Ends}
use Rattle.conjure_cli.specs.declared.ending.Ending.{Ending}
use Rattle.conjure_cli.specs.declared.ending.Ending.TheVariants.{Done, Usage, Missing, Unreadable, TooLong, NotYet, Unwritable, OutputFailed, NoMemory}
use Rattle.conjure_cli.specs.declared.outcome.Outcome.{Outcome}
use Rattle.conjure_cli.proofs.EndingLaws.{rose_later, gives, there, read_is_there, not_absent, two_is_usage, others_kept, kept}
use Rattle.conjure_cli.proofs.EndingLaws.{refusal_keeps, missing_is_four}
use Rattle.conjure_cli.proofs.JudgingLaws.{refusal_not_two}

-- ---- how a run over a file ends

-- A file that is too long is read up to the limit and one byte.
pub ran_long : (list : Option (List ℕ)) (file place text : List ℕ) (before after : FilesSeen) (out : SinkSeen)
    → WasRead before.tree file text
    → length text ≤ limit + 1 → limit < length text → after.tree ≡ before.tree
    → Ran (Outcome.Plain TooLong) list file place before after out out
ran_long list file place text before after out was bound long same =
    record { cause = gives before.tree file text (λ t. length t ≡ limit + 1) was (omega arith); files = same; out = refl }

-- A text without a model is why there is none.
pub ran_unmodelled : (list : Option (List ℕ)) (reason : ModelNo) (outcome : Outcome) (file place text seen : List ℕ)
    (before after : FilesSeen) (out : SinkSeen)
    → outcome ≡ unmodelled reason → WasRead before.tree file text → length text ≤ limit → seen ≡ text → IsUnmodelledFor list seen reason
    → after.tree ≡ before.tree → Ran outcome list file place before after out out
ran_unmodelled list reason outcome file place text seen before after out is was short sees why same =
    subst (λ o. Ran o list file place before after out out) (sym is) (cases reason (subst (λ t. IsUnmodelledFor list t reason) sees why))
  where
    cases : (reason : ModelNo) → IsUnmodelledFor list text reason → Ran (unmodelled reason) list file place before after out out
    cases ModelNo.NotYet why =
        record { cause = gives before.tree file text (IsUnreadable list ModelNo.NotYet) was (short, why); files = same; out = refl }
    cases (ModelNo.Specification reason) why =
        let given : ReadGives before.tree file (IsUnreadable list (ModelNo.Specification reason)) =
        gives before.tree file text (IsUnreadable list (ModelNo.Specification reason)) was (short, why) in
        record { cause = given; files = same; out = refl }
    cases (ModelNo.BadRepresentation k) why =
        let given : ReadGives before.tree file (IsUnreadable list (ModelNo.BadRepresentation k)) =
        gives before.tree file text (IsUnreadable list (ModelNo.BadRepresentation k)) was (short, why) in
        record { cause = given; files = same; out = refl }
    cases ModelNo.NoMemory why = record { cause = there before.tree file text before.faults after.faults was; files = inl same; out = refl }

-- the model of what was read
pub record Made (list : Option (List ℕ)) (tree : Option Tree) (file text model : List ℕ) : Type 0 where
  pub was : WasRead tree file text
  pub short : length text ≤ limit
  pub made : IsModelFor list text model

readable : (list : Option (List ℕ)) (tree : Option Tree) (file text model : List ℕ) → Made list tree file text model
    → ReadGives tree file (IsReadable list)
readable list tree file text model m = gives tree file text (IsReadable list) m.was (m.short, (model, m.made))

leaves : (list : Option (List ℕ)) (file text model : List ℕ) (before after : FilesSeen) (P : List ℕ → Type 0)
    → Made list before.tree file text model → P model
    → LeavesModel list file before after P
leaves list file text model before after P m p =
    gives before.tree file text (λ t. (model : List ℕ) × IsModelFor list t model × P model) m.was (model, m.made, p)

-- the bytes that are written are those of the model
pub ran_written : (list : Option (List ℕ)) (ending : Ending) (file place text model seen : List ℕ) (before middle after : FilesSeen)
    (o o' : SinkSeen)
    → Made list before.tree file text model → seen ≡ model → middle.tree ≡ before.tree → before.faults ≤ middle.faults
    → Written ending place seen middle after o o' → Ran (Outcome.Plain ending) list file place before after o o'
ran_written list ending file place text model seen before middle after o o' m sees same grows wrote = cases ending wrote
  where
    tree : after.tree ≡ with_file middle.tree place seen → after.tree ≡ with_file before.tree place model
    tree h = h ∙ ap (λ t. with_file t place seen) same ∙ ap (with_file before.tree place) sees

    prefix : LeavesPrefix middle.tree after.tree place seen → LeavesPrefix before.tree after.tree place model
    prefix h = subst (λ t. LeavesPrefix t after.tree place model) same (subst (LeavesPrefix middle.tree after.tree place) sees h)

    cases : (ending : Ending) → Written ending place seen middle after o o' → Ran (Outcome.Plain ending) list file place before after o o'
    cases Done h = record {
      cause = readable list before.tree file text model m;
      files = leaves list file text model before after (λ made. after.tree ≡ with_file before.tree place made) m (tree h.0);
      out = h.1;
    }
    cases OutputFailed h = record {
      cause = (h.1, readable list before.tree file text model m);
      files = leaves list file text model before after (λ made. after.tree ≡ with_file before.tree place made) m (tree h.0);
      out = h.2;
    }
    cases Unwritable h = record {
      cause = (rose_later before.faults middle.faults after.faults grows h.1, readable list before.tree file text model m);
      files = leaves list file text model before after (LeavesPrefix before.tree after.tree place) m (prefix h.0);
      out = h.2;
    }
    cases NoMemory h = record {
      cause = there before.tree file text before.faults after.faults m.was;
      files = inr (leaves list file text model before after (LeavesPrefix before.tree after.tree place) m (prefix h.0));
      out = h.1;
    }
    cases Usage h = absurd h
    cases Missing h = absurd h
    cases Unreadable h = absurd h
    cases TooLong h = absurd h
    cases NotYet h = absurd h

-- ---- what is told of it

-- where a file was read, want of memory has its cause
pub memory_cause : (list : Option (List ℕ)) (file : List ℕ) (before after : FilesSeen) (o o' : SinkSeen) (P : List ℕ → Type 0)
    → ReadGives before.tree file P → CauseOf NoMemory list file before after o o'
memory_cause list file before after o o' P given = told before.tree (read_is_there before.tree file P given)
  where
    told : (tree : Option Tree) → IfSome tree (λ files. file_at files file ≡ None → ⊥)
        → IfSome tree (λ files. (file_at files file ≡ None) × (Rose before.faults after.faults → ⊥) → ⊥)
    told None h = tt
    told (Some files) h = λ absent. h absent.0

-- A run with this cause may be told so, by words that take memory or don't.
over : (takes : Bool) (list : Option (List ℕ)) (file : List ℕ) (before after : FilesSeen) (o o' : SinkSeen) (outcome : Outcome)
    → CauseTo outcome list file before after o o' → RefineCause takes list file before after o o' outcome
over false list file before after o o' outcome h = h
over true list file before after o o' outcome h = inl h

-- A run over a file that is told ends so.
pub ends_refined : (outcome told : Outcome) (task : Option Task) (takes : Bool) (list : Option (List ℕ)) (file place : List ℕ)
    (before after : FilesSeen)
    (o o' e e' : SinkSeen) → task ≡ Some (refine file place list) → Ran outcome list file place before after o o'
    → RefinedTold outcome told file place e e' → Ends told (outcome_status told) task takes before after o o' e e'
ends_refined outcome told task takes list file place before after o o' e e' is ran says =
    subst (λ t. Ends told (outcome_status told) t takes before after o o' e e') (sym is) (cases outcome ran says)
  where
    Ended : Outcome → Type 0
    Ended x = Ends x (outcome_status x) (Some (refine file place list)) takes before after o o' e e'

    forgot : (P : List ℕ → Type 0) → ReadGives before.tree file P → after.tree ≡ before.tree → o'.bytes ≡ o.bytes
        → LeavesErr NoMemory [] [] e e' → Ended (Outcome.Plain NoMemory)
    forgot P given same out left = record {
      at = Which.Essence;
      status_is = refl;
      cause = over takes list file before after o o' (Outcome.Plain NoMemory) (memory_cause list file before after o o' P given);
      files = inl same;
      out = out;
      err = left;
    }

    cases : (outcome : Outcome) → Ran outcome list file place before after o o' → RefinedTold outcome told file place e e' → Ended told
    cases (Outcome.Plain ending) ran says = subst Ended (sym says.0) (record {
      at = Which.Essence;
      status_is = refl;
      cause = over takes list file before after o o' (Outcome.Plain ending) ran.cause;
      files = ran.files;
      out = ran.out;
      err = says.1;
    })
    cases (Outcome.Judged v) ran says = absurd ran.cause
    cases (Outcome.Refused why) ran says = elim says [
      | inl h ↦ subst Ended (sym h.0) (record {
        at = Which.Essence;
        status_is = refl;
        cause = over takes list file before after o o' (Outcome.Refused why) ran.cause;
        files = ran.files;
        out = ran.out;
        err = h.1;
      })
      | inr h ↦ subst Ended (sym h.0) (forgot (IsUnreadable list (ModelNo.Specification why)) ran.cause ran.files ran.out h.1)
    ]
    cases (Outcome.BadItem k) ran says = elim says [
      | inl h ↦ subst Ended (sym h.0) (record {
        at = Which.Essence;
        status_is = refl;
        cause = over takes list file before after o o' (Outcome.BadItem k) ran.cause;
        files = ran.files;
        out = ran.out;
        err = h.1;
      })
      | inr h ↦ subst Ended (sym h.0) (forgot (IsUnreadable list (ModelNo.BadRepresentation k)) ran.cause ran.files ran.out h.1)
    ]

-- The same of a run whose place is named by its folder: it is the text of the place, as it was written and as it is told.
pub ends_in_folder : (outcome told : Outcome) (list : Option (List ℕ)) (file place run_place told_place folder : List ℕ)
    (before after : FilesSeen)
    (o o' e e' : SinkSeen) → run_place ≡ place → told_place ≡ place → place ≡ model_in folder
    → Ran outcome list file run_place before after o o' → RefinedTold outcome told file told_place e e'
    → Ends told (outcome_status told) (Some (refine file (model_in folder) list)) true before after o o' e e'
ends_in_folder outcome told list file place run_place told_place folder before after o o' e e' runs tells is ran says =
    ends_refined outcome told (Some (refine file (model_in folder) list)) true list file (model_in folder) before after o o' e e' refl
    (subst (λ p. Ran outcome list file p before after o o') (runs ∙ is) ran)
    (subst (λ p. RefinedTold outcome told file p e e') (tells ∙ is) says)

-- ---- what follows

-- Status 2 is none of a run that refines.
pub refine_not_two : (outcome : Outcome) (list : Option (List ℕ)) (file : List ℕ) (before after : FilesSeen) (o o' : SinkSeen)
    → CauseTo outcome list file before after o o' → outcome_status outcome ≡ 2 → ⊥
refine_not_two (Outcome.Plain ending) list file before after o o' cause two =
    subst (λ x. CauseOf x list file before after o o') (two_is_usage ending two) cause
refine_not_two (Outcome.Judged v) list file before after o o' cause two = cause
refine_not_two (Outcome.Refused why) list file before after o o' cause two = refusal_not_two why two
refine_not_two (Outcome.BadItem k) list file before after o o' cause two = omega (arith, two)

-- All other files are left.
pub refine_others : (outcome : Outcome) (list : Option (List ℕ)) (file place : List ℕ) (before after : FilesSeen)
    → FilesTo outcome list file place before after → KeepsOthers before.tree after.tree place
refine_others (Outcome.Plain ending) list file place before after left = others_kept ending list file place before after left
refine_others (Outcome.Judged v) list file place before after left = kept place before after left
refine_others (Outcome.Refused why) list file place before after left = kept place before after left
refine_others (Outcome.BadItem k) list file place before after left = kept place before after left

-- A refusal touches no file.
pub refine_refused : (outcome : Outcome) (status : ℕ) (list : Option (List ℕ)) (file place : List ℕ) (before after : FilesSeen)
    → status ≡ outcome_status outcome → IsRefusal status → FilesTo outcome list file place before after → after.tree ≡ before.tree
refine_refused (Outcome.Plain ending) status list file place before after is refusal left =
    refusal_keeps ending status list file place before after is refusal left
refine_refused (Outcome.Judged v) status list file place before after is refusal left = left
refine_refused (Outcome.Refused why) status list file place before after is refusal left = left
refine_refused (Outcome.BadItem k) status list file place before after is refusal left = left

-- A missing file gives status 4.
pub refine_missing : (outcome : Outcome) (status : ℕ) (list : Option (List ℕ)) (file : List ℕ) (before after : FilesSeen) (o o' : SinkSeen)
    → status ≡ outcome_status outcome → CauseTo outcome list file before after o o' → MissingIsFour status file before after
refine_missing (Outcome.Plain ending) status list file before after o o' is cause =
    missing_is_four ending status list file before after o o' is cause
refine_missing (Outcome.Judged v) status list file before after o o' is cause = absurd cause
refine_missing (Outcome.Refused why) status list file before after o o' is cause =
    not_absent status file before after (read_is_there before.tree file (IsUnreadable list (ModelNo.Specification why)) cause)
refine_missing (Outcome.BadItem k) status list file before after o o' is cause =
    not_absent status file before after (read_is_there before.tree file (IsUnreadable list (ModelNo.BadRepresentation k)) cause)
