-- The clauses of the reader of texts of cells, from those of the reader of lettings.
use Rattle.std.proofs.Common.{◌≡◌, refl, sym, ap, ◌∙◌, subst, List, Ok, Err}
use Rattle.std.specs.declared.result.Result.{Result}
use Rattle.ess_semantics.specs.Values.{Text}
use Rattle.ess_semantics.specs.Names.{Names}
use Rattle.ess_semantics.specs.Trees.{Ex}
use Rattle.ess_grammar.specs.Texts.{Reads, IsWithinLimits}
use Rattle.ess_grammar.specs.CellTexts.{IsCells}
use Rattle.ess_core.specs.declared.tables.Cells.{Cells}
use Rattle.ess_parse.specs.declared.refusal.ReadNo.{ReadNo}
use Rattle.ess_parse.specs.Readers.{IsRefusedFirst, IsDerived, IsAnswered, IsUnread, IsPlaced}
use Rattle.eprime_tree.specs.declared.models.PDecl.{PDecl}
use Rattle.eprime_cells_machine.specs.declared.values.CellLetting.{CellLetting}
use Rattle.eprime_cells_machine.specs.ValueViews.{pure_lettings}
use Rattle.eprime_cells_judging.specs.declared.judging.FitNo.{FitNo}
use Rattle.eprime_cells_judging.specs.Fitting.{IsFit}
use Rattle.eprime_read_cells.specs.declared.cells.CellsNo.{CellsNo}
use Rattle.eprime_read_cells.specs.CellAnswers.{read_no, fit_no, behind_fit, as_read, IsOutcome, IsAnswerFor, IsFitted, IsJudged}

-- ---- where the lettings aren't read

unread-refused : (text : Text) (why : ReadNo) → IsRefusedFirst {T = List CellLetting} text (Err why) → IsRefusedFirst text (as_read (Err (read_no why)))
unread-refused text (ReadNo.BadByte p) h = h
unread-refused text (ReadNo.WideNumber p) h = h
unread-refused text (ReadNo.Unsupported p) h = h
unread-refused text (ReadNo.TooDeep p) h = h
unread-refused text (ReadNo.Syntax p) h = h
unread-refused text ReadNo.NoMemory h = h

unread-fitted : (ks : List PDecl) (q : Cells) (ds : List PDecl) (text : Text) (why : ReadNo) → IsFitted ks q ds text (Err (read_no why))
unread-fitted ks q ds text (ReadNo.BadByte p) = tt
unread-fitted ks q ds text (ReadNo.WideNumber p) = tt
unread-fitted ks q ds text (ReadNo.Unsupported p) = tt
unread-fitted ks q ds text (ReadNo.TooDeep p) = tt
unread-fitted ks q ds text (ReadNo.Syntax p) = tt
unread-fitted ks q ds text ReadNo.NoMemory = tt

unread-judged : (ks : List PDecl) (q : Cells) (ds : List PDecl) (text : Text) (why : ReadNo) → IsAnswered IsCells pure_lettings text (Err why) → IsJudged ks q ds text (Err (read_no why))
unread-judged ks q ds text (ReadNo.BadByte p) h cs d w = h cs d w
unread-judged ks q ds text (ReadNo.WideNumber p) h cs d w = h cs d w
unread-judged ks q ds text (ReadNo.Unsupported p) h cs d w = h cs d w
unread-judged ks q ds text (ReadNo.TooDeep p) h cs d w = h cs d w
unread-judged ks q ds text (ReadNo.Syntax p) h cs d w = h cs d w
unread-judged ks q ds text ReadNo.NoMemory h cs d w = tt

unread-unread : (text : Text) (why : ReadNo) → IsUnread {T = List CellLetting} IsCells text (Err why) → IsUnread IsCells text (as_read (Err (read_no why)))
unread-unread text (ReadNo.BadByte p) h = h
unread-unread text (ReadNo.WideNumber p) h = h
unread-unread text (ReadNo.Unsupported p) h = h
unread-unread text (ReadNo.TooDeep p) h = h
unread-unread text (ReadNo.Syntax p) h = h
unread-unread text ReadNo.NoMemory h = h

unread-placed : (text : Text) (why : ReadNo) → IsPlaced {T = List CellLetting} IsCells text (Err why) → IsPlaced IsCells text (as_read (Err (read_no why)))
unread-placed text (ReadNo.BadByte p) h = h
unread-placed text (ReadNo.WideNumber p) h = h
unread-placed text (ReadNo.Unsupported p) h = h
unread-placed text (ReadNo.TooDeep p) h = h
unread-placed text (ReadNo.Syntax p) h = h
unread-placed text ReadNo.NoMemory h = h

-- ---- where they are

fit-refused : (text : Text) (t : List CellLetting) (r : Result Cells FitNo) → IsRefusedFirst text (Ok t) → IsRefusedFirst text (as_read (behind_fit r))
fit-refused text t (Ok c) h = h
fit-refused text t (Err (FitNo.Missing a)) h = h
fit-refused text t (Err (FitNo.Extra a)) h = h
fit-refused text t (Err (FitNo.OutOfDomain a)) h = h
fit-refused text t (Err FitNo.Big) h = h
fit-refused text t (Err FitNo.NoMemory) h = tt

fit-answer : (ks : List PDecl) (q : Cells) (ds : List PDecl) (cs : Names Ex) (r : Result Cells FitNo) → IsFit ks q ds cs r → IsAnswerFor ks q ds cs (behind_fit r)
fit-answer ks q ds cs (Ok c) h = h
fit-answer ks q ds cs (Err (FitNo.Missing a)) h = h
fit-answer ks q ds cs (Err (FitNo.Extra a)) h = h
fit-answer ks q ds cs (Err (FitNo.OutOfDomain a)) h = h
fit-answer ks q ds cs (Err FitNo.Big) h = h
fit-answer ks q ds cs (Err FitNo.NoMemory) h = tt

fit-fitted : (ks : List PDecl) (q : Cells) (ds : List PDecl) (text : Text) (t : List CellLetting) (r : Result Cells FitNo) → IsDerived IsCells pure_lettings text (Ok t) → IsFit ks q ds (pure_lettings t) r →
    IsFitted ks q ds text (behind_fit r)
fit-fitted ks q ds text t (Ok c) d h = (pure_lettings t, d, h)
fit-fitted ks q ds text t (Err (FitNo.Missing a)) d h = (pure_lettings t, d, h)
fit-fitted ks q ds text t (Err (FitNo.Extra a)) d h = (pure_lettings t, d, h)
fit-fitted ks q ds text t (Err (FitNo.OutOfDomain a)) d h = (pure_lettings t, d, h)
fit-fitted ks q ds text t (Err FitNo.Big) d h = (pure_lettings t, d, h)
fit-fitted ks q ds text t (Err FitNo.NoMemory) d h = tt

fit-judged : (ks : List PDecl) (q : Cells) (ds : List PDecl) (text : Text) (t : List CellLetting) (r : Result Cells FitNo) → IsAnswered IsCells pure_lettings text (Ok t) → IsFit ks q ds (pure_lettings t) r →
    IsJudged ks q ds text (behind_fit r)
fit-judged ks q ds text t r a h cs d w = fit-answer ks q ds cs r (subst (λ bs. IsFit ks q ds bs r) (a cs d w) h)

fit-unread : (text : Text) (r : Result Cells FitNo) → IsUnread IsCells text (as_read (behind_fit r))
fit-unread text (Ok c) = tt
fit-unread text (Err (FitNo.Missing a)) = tt
fit-unread text (Err (FitNo.Extra a)) = tt
fit-unread text (Err (FitNo.OutOfDomain a)) = tt
fit-unread text (Err FitNo.Big) = tt
fit-unread text (Err FitNo.NoMemory) = tt

fit-placed : (text : Text) (r : Result Cells FitNo) → IsPlaced IsCells text (as_read (behind_fit r))
fit-placed text (Ok c) = tt
fit-placed text (Err (FitNo.Missing a)) = tt
fit-placed text (Err (FitNo.Extra a)) = tt
fit-placed text (Err (FitNo.OutOfDomain a)) = tt
fit-placed text (Err FitNo.Big) = tt
fit-placed text (Err FitNo.NoMemory) = tt

-- ---- all answers

pub refused : (ks : List PDecl) (q : Cells) (ds : List PDecl) (text : Text) (l : Result (List CellLetting) ReadNo) (x : Result Cells CellsNo) → IsOutcome ks q ds l x → IsRefusedFirst text l → IsRefusedFirst text (as_read x)
refused ks q ds text (Ok t) x o h = subst (λ y. IsRefusedFirst text (as_read y)) (sym o.2) (fit-refused text t o.0 h)
refused ks q ds text (Err why) x o h = subst (λ y. IsRefusedFirst text (as_read y)) (sym o) (unread-refused text why h)

pub fitted : (ks : List PDecl) (q : Cells) (ds : List PDecl) (text : Text) (l : Result (List CellLetting) ReadNo) (x : Result Cells CellsNo) → IsOutcome ks q ds l x → IsDerived IsCells pure_lettings text l → IsFitted ks q ds text x
fitted ks q ds text (Ok t) x o h = subst (λ y. IsFitted ks q ds text y) (sym o.2) (fit-fitted ks q ds text t o.0 h o.1)
fitted ks q ds text (Err why) x o h = subst (λ y. IsFitted ks q ds text y) (sym o) (unread-fitted ks q ds text why)

pub judged : (ks : List PDecl) (q : Cells) (ds : List PDecl) (text : Text) (l : Result (List CellLetting) ReadNo) (x : Result Cells CellsNo) → IsOutcome ks q ds l x → IsAnswered IsCells pure_lettings text l → IsJudged ks q ds text x
judged ks q ds text (Ok t) x o h = subst (λ y. IsJudged ks q ds text y) (sym o.2) (fit-judged ks q ds text t o.0 h o.1)
judged ks q ds text (Err why) x o h = subst (λ y. IsJudged ks q ds text y) (sym o) (unread-judged ks q ds text why h)

pub unread : (ks : List PDecl) (q : Cells) (ds : List PDecl) (text : Text) (l : Result (List CellLetting) ReadNo) (x : Result Cells CellsNo) → IsOutcome ks q ds l x → IsUnread IsCells text l → IsUnread IsCells text (as_read x)
unread ks q ds text (Ok t) x o h = subst (λ y. IsUnread IsCells text (as_read y)) (sym o.2) (fit-unread text o.0)
unread ks q ds text (Err why) x o h = subst (λ y. IsUnread IsCells text (as_read y)) (sym o) (unread-unread text why h)

pub placed : (ks : List PDecl) (q : Cells) (ds : List PDecl) (text : Text) (l : Result (List CellLetting) ReadNo) (x : Result Cells CellsNo) → IsOutcome ks q ds l x → IsPlaced IsCells text l → IsPlaced IsCells text (as_read x)
placed ks q ds text (Ok t) x o h = subst (λ y. IsPlaced IsCells text (as_read y)) (sym o.2) (fit-placed text o.0)
placed ks q ds text (Err why) x o h = subst (λ y. IsPlaced IsCells text (as_read y)) (sym o) (unread-placed text why h)
