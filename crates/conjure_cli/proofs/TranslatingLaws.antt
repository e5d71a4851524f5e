-- Laws of runs that translate a parameter or cells.
use Rattle.std.proofs.Common.{◌≡◌, refl, sym, ap, ◌∙◌, subst, ℕ, inl, inr, ◌⊎◌, List, arith, true, Option, Some, None}
use Rattle.ess_semantics.specs.Names.{Names}
use Rattle.ess_semantics.specs.Tables.{Table}
use Rattle.ess_semantics.specs.Assignments.{Assignment}
use Rattle.ess_semantics.specs.ModelTrees.{Header, Model}
use Rattle.ess_io.specs.Counts.{Rose}
use Rattle.ess_io.specs.Trees.{with_file, LeavesPrefix, KeepsOthers}
use Rattle.ess_io.proofs.Written.{LeavesPrefix-KeepsOthers}
use Rattle.ess_io.specs.declared.files.FileNo.{FileNo}
use Rattle.ess_translate.specs.declared.refusal.Which.{Which}
use Rattle.ess_translate.specs.declared.refusal.TransNo.{TransNo}
use Rattle.ess_translate_files.specs.ModelFiles.{IsNoModelFile}
use Rattle.ess_translate_files.specs.GivenFiles.{IsNotGiven}
use Rattle.ess_translate_solutions.specs.CellFiles.{IsNotSolved}
use Rattle.conjure_cli.specs.Seen.{FilesSeen, SinkSeen, IsLater}
use Rattle.conjure_cli.specs.Ending.{status_of, LeavesErr, IsRefusal}
use Rattle.conjure_cli.specs.Refusals.{unwritten}
use Rattle.conjure_cli.specs.Tasks.{translate}
use Rattle.conjure_cli.specs.Judging.{refused, JudgeErr, StopsAt, StopTold}
use Rattle.conjure_cli.specs.Translating.{told_source, ModelRead, GivenRead, IsTranslation, TranslatesFor, Translates, BytesStop, StopsFor}
use Rattle.conjure_cli.specs.Translating.{SourceCause, SomeTranslation, TranslateCause, TranslateFiles, Written}
use Rattle.conjure_cli.specs.Runs.{outcome_status, Ends}
use Rattle.conjure_cli.specs.declared.ending.Ending.{Ending}
use Rattle.conjure_cli.specs.declared.outcome.Outcome.{Outcome}
use Rattle.conjure_cli.proofs.EndingLaws.{two_is_usage, rose_later, kept, put_there}
use Rattle.conjure_cli.proofs.JudgingLaws.{later_itself, later_later, refusal_not_two, refusal_not_zero}

-- ---- where the model and the parameter are read

-- there is no translation for want of memory
pub printed_stops : (why : TransNo) (c : Option (List ℕ)) (before after : FilesSeen) (H : Header) (E : Model) (p : Assignment)
    (q : Names Table) → why ≡ TransNo.NoMemory → BytesStop Which.Param (refused why) c before after H E p q
printed_stops why c before after H E p q is = ap refused is

-- the run stops at the file of cells
pub cells_stops : (outcome : Outcome) (c : List ℕ) (before after : FilesSeen) (H : Header) (E : Model) (p : Assignment) (q : Names Table)
    → StopsAt outcome c before after (IsNotSolved H E p q) → BytesStop Which.Solution outcome (Some c) before after H E p q
cells_stops outcome c before after H E p q h = (before, later_itself before, h)

-- ---- where the model is read

-- the run stops at the parameter
pub stop_param : (outcome : Outcome) (p : List ℕ) (c : Option (List ℕ)) (before after : FilesSeen) (H : Header) (E : Model)
    → StopsAt outcome p before after (IsNotGiven H E) → StopsFor Which.Param outcome p c before after H E
stop_param outcome p c before after H E h = (before, later_itself before, h)

-- or behind it
pub stop_behind_param : (outcome : Outcome) (at : Which) (p : List ℕ) (c : Option (List ℕ)) (before one after : FilesSeen) (H : Header)
    (E : Model) (a : Assignment) (q : Names Table) → GivenRead before.tree p H E a q → IsLater before one
    → BytesStop at outcome c one after H E a q → StopsFor at outcome p c before after H E
stop_behind_param outcome Which.Param p c before one after H E a q read later h =
    subst (λ o. StopsFor Which.Param o p c before after H E) (sym h) (before, later_itself before, tt)
stop_behind_param outcome Which.Solution p None before one after H E a q read later h = absurd h
stop_behind_param outcome Which.Solution p (Some c) before one after H E a q read later h =
    (a, q, read, (h.0, later_later before one h.0 later h.1, h.2))
stop_behind_param outcome Which.Model p c before one after H E a q read later h = absurd h
stop_behind_param outcome Which.Essence p c before one after H E a q read later h = absurd h

-- the translation is made
pub made_behind_param : (p : List ℕ) (c : Option (List ℕ)) (before one : FilesSeen) (H : Header) (E : Model) (a : Assignment)
    (q : Names Table) (bytes : List ℕ) → GivenRead before.tree p H E a q → IsLater before one
    → IsTranslation one.tree c H E a q bytes → TranslatesFor before.tree p c H E bytes
made_behind_param p c before one H E a q bytes read later h =
    (a, q, read, subst (λ t. IsTranslation t c H E a q bytes) later.tree h)

-- ---- the files one after another

-- the run stops at the model
pub stop_model : (outcome : Outcome) (m p : List ℕ) (c : Option (List ℕ)) (before after : FilesSeen)
    → StopsAt outcome m before after IsNoModelFile → SourceCause Which.Model outcome m p c before after
stop_model outcome m p c before after h = (before, later_itself before, h)

-- or behind it
pub stop_behind_model : (outcome : Outcome) (at : Which) (m p : List ℕ) (c : Option (List ℕ)) (before one after : FilesSeen) (H : Header)
    (E : Model) → ModelRead before.tree m H E → IsLater before one → StopsFor at outcome p c one after H E
    → SourceCause at outcome m p c before after
stop_behind_model outcome Which.Param m p c before one after H E read later h =
    (H, E, read, (h.0, later_later before one h.0 later h.1, h.2))
stop_behind_model outcome Which.Solution m p None before one after H E read later h = absurd h.3
stop_behind_model outcome Which.Solution m p (Some c) before one after H E read later h = (
  H,
  E,
  h.0,
  h.1,
  read,
  subst (λ t. GivenRead t p H E h.0 h.1) later.tree h.2,
  (h.3.0, later_later before one h.3.0 later h.3.1, h.3.2),
)
stop_behind_model outcome Which.Model m p c before one after H E read later h = absurd h
stop_behind_model outcome Which.Essence m p c before one after H E read later h = absurd h

-- the translation is made
pub made_behind_model : (m p : List ℕ) (c : Option (List ℕ)) (before one : FilesSeen) (H : Header) (E : Model) (bytes : List ℕ)
    → ModelRead before.tree m H E → IsLater before one → TranslatesFor one.tree p c H E bytes → Translates before.tree m p c bytes
made_behind_model m p c before one H E bytes read later h = record {
  H = H;
  E = E;
  p = h.0;
  q = h.1;
  header = read;
  given = subst (λ t. GivenRead t p H E h.0 h.1) later.tree h.2;
  translation = subst (λ t. IsTranslation t c H E h.0 h.1 bytes) later.tree h.3;
}

-- ---- what is written

-- a write that failed
pub written_failed : (why : FileNo) (ending : Ending) (place bytes : List ℕ) (before after : FilesSeen) (o : SinkSeen)
    → ending ≡ unwritten why → LeavesPrefix before.tree after.tree place bytes → (why ≡ FileNo.Failed → Rose before.faults after.faults)
    → (why ≡ FileNo.Missing → ⊥) → Written ending place bytes before after o o
written_failed why ending place bytes before after o is left failed never =
    subst (λ e. Written e place bytes before after o o) (sym is) (cases why failed never)
  where
    cases : (why : FileNo) → (why ≡ FileNo.Failed → Rose before.faults after.faults) → (why ≡ FileNo.Missing → ⊥)
        → Written (unwritten why) place bytes before after o o
    cases FileNo.Missing failed never = absurd (never refl)
    cases FileNo.Failed failed never = (left, failed refl, refl)
    cases FileNo.NoMemory failed never = (left, refl)

-- ---- how a run ends

-- an outcome that stops no file is the cause at none
source_nowhere : (outcome : Outcome) (at : Which) (m p : List ℕ) (c : Option (List ℕ)) (before after : FilesSeen)
    → ((file : List ℕ) (b a : FilesSeen) (P : List ℕ → TransNo → Type 0) → StopsAt outcome file b a P → ⊥)
    → SourceCause at outcome m p c before after → ⊥
source_nowhere outcome Which.Model m p c before after never h = never m h.0 after IsNoModelFile h.2
source_nowhere outcome Which.Param m p c before after never h = never p h.3.0 after (IsNotGiven h.0 h.1) h.3.2
source_nowhere outcome Which.Solution m p None before after never h = h.6
source_nowhere outcome Which.Solution m p (Some c) before after never h = never c h.6.0 after (IsNotSolved h.0 h.1 h.2 h.3) h.6.2
source_nowhere outcome Which.Essence m p c before after never h = h

-- a run that stops at a file
pub ends_stopped_source : (outcome told : Outcome) (at : Which) (m p : List ℕ) (c : Option (List ℕ)) (place : List ℕ)
    (before after : FilesSeen) (o eb ea : SinkSeen) → SourceCause at outcome m p c before after → after.tree ≡ before.tree
    → StopTold outcome told (told_source outcome at m p c) eb ea
    → Ends told (outcome_status told) (Some (translate m p c place)) true before after o o eb ea
ends_stopped_source outcome told at m p c place before after o eb ea cause same h = elim h [
  | inl k ↦ subst (λ t. Ends t (outcome_status t) (Some (translate m p c place)) true before after o o eb ea) (sym k.0)
      (by outcome cause k.1)
  | inr k ↦ subst (λ t. Ends t (outcome_status t) (Some (translate m p c place)) true before after o o eb ea) (sym k.0)
      (record { at = at; status_is = refl; cause = tt; files = inl same; out = refl; err = k.1 })
]
  where
    never : (outcome : Outcome) → ((file : List ℕ) (b a : FilesSeen) (P : List ℕ → TransNo → Type 0) → StopsAt outcome file b a P → ⊥)
        → SourceCause at outcome m p c before after
        → Ends outcome (outcome_status outcome) (Some (translate m p c place)) true before after o o eb ea
    never outcome nowhere h = absurd (source_nowhere outcome at m p c before after nowhere h)

    by : (outcome : Outcome) → SourceCause at outcome m p c before after
        → JudgeErr outcome (told_source outcome at m p c) eb ea
        → Ends outcome (outcome_status outcome) (Some (translate m p c place)) true before after o o eb ea
    by (Outcome.Judged v) h e = never (Outcome.Judged v) (λ file b a P n. n) h
    by (Outcome.BadItem k) h e = never (Outcome.BadItem k) (λ file b a P n. n) h
    by (Outcome.Refused why) h e = record { at = at; status_is = refl; cause = h; files = same; out = refl; err = e }
    by (Outcome.Plain Ending.Missing) h e = record { at = at; status_is = refl; cause = h; files = same; out = refl; err = e }
    by (Outcome.Plain Ending.Unreadable) h e = record { at = at; status_is = refl; cause = h; files = same; out = refl; err = e }
    by (Outcome.Plain Ending.TooLong) h e = record { at = at; status_is = refl; cause = h; files = same; out = refl; err = e }
    by (Outcome.Plain Ending.NoMemory) h e = record { at = at; status_is = refl; cause = tt; files = inl same; out = refl; err = e }
    by (Outcome.Plain Ending.Done) h e = never (Outcome.Plain Ending.Done) (λ file b a P n. n) h
    by (Outcome.Plain Ending.Usage) h e = never (Outcome.Plain Ending.Usage) (λ file b a P n. n) h
    by (Outcome.Plain Ending.NotYet) h e = never (Outcome.Plain Ending.NotYet) (λ file b a P n. n) h
    by (Outcome.Plain Ending.Unwritable) h e = never (Outcome.Plain Ending.Unwritable) (λ file b a P n. n) h
    by (Outcome.Plain Ending.OutputFailed) h e = never (Outcome.Plain Ending.OutputFailed) (λ file b a P n. n) h

-- a run that writes a translation
pub ends_written : (ending : Ending) (m p : List ℕ) (c : Option (List ℕ)) (place bytes : List ℕ) (before middle after : FilesSeen)
    (o o' eb ea : SinkSeen) → Translates before.tree m p c bytes → IsLater before middle → Written ending place bytes middle after o o'
    → LeavesErr ending m place eb ea
    → Ends (Outcome.Plain ending) (status_of ending) (Some (translate m p c place)) true before after o o' eb ea
ends_written Ending.Done m p c place bytes before middle after o o' eb ea made later h err = record {
  at = Which.Model;
  status_is = refl;
  cause = (bytes, made, tt);
  files = (bytes, made, subst (λ t. after.tree ≡ with_file t place bytes) later.tree h.0);
  out = h.1;
  err = err;
}
ends_written Ending.OutputFailed m p c place bytes before middle after o o' eb ea made later h err = record {
  at = Which.Model;
  status_is = refl;
  cause = (bytes, made, h.1);
  files = (bytes, made, subst (λ t. after.tree ≡ with_file t place bytes) later.tree h.0);
  out = h.2;
  err = err;
}
ends_written Ending.Unwritable m p c place bytes before middle after o o' eb ea made later h err = record {
  at = Which.Model;
  status_is = refl;
  cause = (bytes, made, rose_later before.faults middle.faults after.faults later.faults h.1);
  files = (bytes, made, subst (λ t. LeavesPrefix t after.tree place bytes) later.tree h.0);
  out = h.2;
  err = err;
}
ends_written Ending.NoMemory m p c place bytes before middle after o o' eb ea made later h err = record {
  at = Which.Model;
  status_is = refl;
  cause = tt;
  files = inr (bytes, made, subst (λ t. LeavesPrefix t after.tree place bytes) later.tree h.0);
  out = h.1;
  err = err;
}
ends_written Ending.Usage m p c place bytes before middle after o o' eb ea made later h err = absurd h
ends_written Ending.Missing m p c place bytes before middle after o o' eb ea made later h err = absurd h
ends_written Ending.Unreadable m p c place bytes before middle after o o' eb ea made later h err = absurd h
ends_written Ending.TooLong m p c place bytes before middle after o o' eb ea made later h err = absurd h
ends_written Ending.NotYet m p c place bytes before middle after o o' eb ea made later h err = absurd h

-- ---- what follows

-- a run that translates never says that the words don't fit
pub translate_not_two : (outcome : Outcome) (at : Which) (m p : List ℕ) (c : Option (List ℕ)) (before after : FilesSeen) (o o' : SinkSeen)
    → TranslateCause outcome at m p c before after o o' → outcome_status outcome ≡ 2 → ⊥
translate_not_two (Outcome.Judged v) at m p c before after o o' cause two =
    source_nowhere (Outcome.Judged v) at m p c before after (λ file b a P n. n) cause
translate_not_two (Outcome.BadItem k) at m p c before after o o' cause two = omega (arith, two)
translate_not_two (Outcome.Refused why) at m p c before after o o' cause two = refusal_not_two why two
translate_not_two (Outcome.Plain ending) at m p c before after o o' cause two =
    source_nowhere (Outcome.Plain Ending.Usage) at m p c before after (λ file b a P n. n)
    (subst (λ x. TranslateCause (Outcome.Plain x) at m p c before after o o') (two_is_usage ending two) cause)

-- 0, 4 and 6 are statuses of no refusal
refused_else : (n status : ℕ) → (n ≡ 0) ⊎ (n ≡ 4) ⊎ (n ≡ 6) → status ≡ n → IsRefusal status → ⊥
refused_else n status which is refusal = elim which [
  | inl a ↦ apart 0 (is ∙ a) (λ e. omega (arith, e)) (λ e. omega (arith, e)) (λ e. omega (arith, e))
  | inr b ↦ elim b [
    | inl a ↦ apart 4 (is ∙ a) (λ e. omega (arith, e)) (λ e. omega (arith, e)) (λ e. omega (arith, e))
    | inr a ↦ apart 6 (is ∙ a) (λ e. omega (arith, e)) (λ e. omega (arith, e)) (λ e. omega (arith, e))
  ]
]
  where
    apart : (k : ℕ) → status ≡ k → (k ≡ 2 → ⊥) → (k ≡ 3 → ⊥) → (k ≡ 5 → ⊥) → ⊥
    apart k here two three five = elim refusal [
      | inl a ↦ two (sym here ∙ a)
      | inr s ↦ elim s [ inl a ↦ three (sym here ∙ a) | inr a ↦ five (sym here ∙ a) ]
    ]

-- a refusal touches no file
pub translate_refused : (outcome : Outcome) (status : ℕ) (m p : List ℕ) (c : Option (List ℕ)) (place : List ℕ) (before after : FilesSeen)
    → status ≡ outcome_status outcome → IsRefusal status → TranslateFiles outcome m p c place before after → after.tree ≡ before.tree
translate_refused (Outcome.Judged v) status m p c place before after is refusal h = h
translate_refused (Outcome.BadItem k) status m p c place before after is refusal h = h
translate_refused (Outcome.Refused why) status m p c place before after is refusal h = h
translate_refused (Outcome.Plain Ending.Done) status m p c place before after is refusal h =
    absurd (refused_else 0 status (inl refl) is refusal)
translate_refused (Outcome.Plain Ending.OutputFailed) status m p c place before after is refusal h =
    absurd (refused_else 4 status (inr (inl refl)) is refusal)
translate_refused (Outcome.Plain Ending.Unwritable) status m p c place before after is refusal h =
    absurd (refused_else 4 status (inr (inl refl)) is refusal)
translate_refused (Outcome.Plain Ending.NoMemory) status m p c place before after is refusal h =
    absurd (refused_else 6 status (inr (inr refl)) is refusal)
translate_refused (Outcome.Plain Ending.Usage) status m p c place before after is refusal h = h
translate_refused (Outcome.Plain Ending.Missing) status m p c place before after is refusal h = h
translate_refused (Outcome.Plain Ending.Unreadable) status m p c place before after is refusal h = h
translate_refused (Outcome.Plain Ending.TooLong) status m p c place before after is refusal h = h
translate_refused (Outcome.Plain Ending.NotYet) status m p c place before after is refusal h = h

-- no file is touched but that of the translation
pub translate_keeps : (outcome : Outcome) (m p : List ℕ) (c : Option (List ℕ)) (place : List ℕ) (before after : FilesSeen)
    → TranslateFiles outcome m p c place before after → KeepsOthers before.tree after.tree place
translate_keeps (Outcome.Judged v) m p c place before after h = kept place before after h
translate_keeps (Outcome.BadItem k) m p c place before after h = kept place before after h
translate_keeps (Outcome.Refused why) m p c place before after h = kept place before after h
translate_keeps (Outcome.Plain Ending.Done) m p c place before after h = put_there place before after h.0 h.2
translate_keeps (Outcome.Plain Ending.OutputFailed) m p c place before after h = put_there place before after h.0 h.2
translate_keeps (Outcome.Plain Ending.Unwritable) m p c place before after h = LeavesPrefix-KeepsOthers before.tree after.tree place h.0 h.2
translate_keeps (Outcome.Plain Ending.NoMemory) m p c place before after h =
    elim h [ inl same ↦ kept place before after same | inr k ↦ LeavesPrefix-KeepsOthers before.tree after.tree place k.0 k.2 ]
translate_keeps (Outcome.Plain Ending.Usage) m p c place before after h = kept place before after h
translate_keeps (Outcome.Plain Ending.Missing) m p c place before after h = kept place before after h
translate_keeps (Outcome.Plain Ending.Unreadable) m p c place before after h = kept place before after h
translate_keeps (Outcome.Plain Ending.TooLong) m p c place before after h = kept place before after h
translate_keeps (Outcome.Plain Ending.NotYet) m p c place before after h = kept place before after h

-- status 0 says that the translation stands at its place
pub translate_is_done : (outcome : Outcome) (at : Which) (m p : List ℕ) (c : Option (List ℕ)) (place : List ℕ) (before after : FilesSeen)
    (o o' : SinkSeen) → TranslateCause outcome at m p c before after o o' → TranslateFiles outcome m p c place before after
    → outcome_status outcome ≡ 0 → SomeTranslation before.tree m p c (λ bytes. after.tree ≡ with_file before.tree place bytes)
translate_is_done (Outcome.Judged v) at m p c place before after o o' cause files zero =
    absurd (source_nowhere (Outcome.Judged v) at m p c before after (λ file b a P n. n) cause)
translate_is_done (Outcome.BadItem k) at m p c place before after o o' cause files zero = absurd (omega (arith, zero))
translate_is_done (Outcome.Refused why) at m p c place before after o o' cause files zero = absurd (refusal_not_zero why zero)
translate_is_done (Outcome.Plain Ending.Done) at m p c place before after o o' cause files zero = files
translate_is_done (Outcome.Plain Ending.OutputFailed) at m p c place before after o o' cause files zero = absurd (omega (arith, zero))
translate_is_done (Outcome.Plain Ending.Unwritable) at m p c place before after o o' cause files zero = absurd (omega (arith, zero))
translate_is_done (Outcome.Plain Ending.NoMemory) at m p c place before after o o' cause files zero = absurd (omega (arith, zero))
translate_is_done (Outcome.Plain Ending.Usage) at m p c place before after o o' cause files zero = absurd (omega (arith, zero))
translate_is_done (Outcome.Plain Ending.Missing) at m p c place before after o o' cause files zero = absurd (omega (arith, zero))
translate_is_done (Outcome.Plain Ending.Unreadable) at m p c place before after o o' cause files zero = absurd (omega (arith, zero))
translate_is_done (Outcome.Plain Ending.TooLong) at m p c place before after o o' cause files zero = absurd (omega (arith, zero))
translate_is_done (Outcome.Plain Ending.NotYet) at m p c place before after o o' cause files zero = absurd (omega (arith, zero))
