-- What is written for a text, and why nothing is.
use Rattle.std.proofs.Common.{◌≡◌, sym, ap, ◌∙◌, subst, inl, inr, false, true≢false, List, Option, Some, None}
use Rattle.ess_semantics.specs.Values.{Text}
use Rattle.ess_semantics.specs.Trees.{Stm, Repr}
use Rattle.ess_semantics.specs.Names.{Names}
use Rattle.ess_semantics.specs.Judgements.{fault}
use Rattle.ess_semantics.specs.Prepared.{prepared}
use Rattle.ess_semantics.specs.Plans.{Options, kept_names}
use Rattle.ess_grammar.specs.Readable.{ReadableStms}
use Rattle.ess_grammar.proofs.ProperTokens.{specification-text-readable}
use Rattle.ess_translate.specs.declared.refusal.TransNo.{TransNo}
use Rattle.ess_translate.specs.Answers.{IsTyped, IsEssence, IsNoEssence}
use Rattle.ess_translate_header_laws.specs.Headers.{are_reprs_of}
use Rattle.ess_types.specs.declared.checking.Typed.{Typed}
use Rattle.ess_models.specs.declared.parts.Part.{Part}
use Rattle.ess_models.specs.Built.{NoneIsBuilt}
use Rattle.ess_models.specs.Checked.{IsChecked}
use Rattle.conjure_options.specs.Items.{domains_of}
use Rattle.conjure_options.specs.Chosen.{chosen_for}
use Rattle.conjure_options.specs.declared.options.OptionsNo.{OptionsNo}
use Rattle.conjure_modelling.specs.declared.refusal.ModelNo.{ModelNo}
use Rattle.conjure_modelling.specs.Refusals.{of_specification, of_options}
use Rattle.conjure_modelling.specs.Modelled.{AreOptionsOf, IsNoOptionOf, IsWritten, IsLacking, IsUnwritten}
use Rattle.conjure_modelling.specs.Modelled.{IsModelFor, IsNoModelFor, IsModelled, IsUnmodelled}
use Rattle.conjure_modelling.proofs.ChosenFit.{chosen_fit}

-- The list isn't taken.
pub unlisted : (S ps : List Stm) (list : Option Text) (why : OptionsNo) → ps ≡ prepared S → IsNoOptionOf (domains_of ps) list why
    → IsNoModelFor S list (of_options why)
unlisted S ps list why is says = cases list why (subst (λ qs. IsNoOptionOf (domains_of qs) list why) is says)
  where
    cases : (list : Option Text) (why : OptionsNo) → IsNoOptionOf (kept_names S) list why → IsNoModelFor S list (of_options why)
    cases None why h = absurd h
    cases (Some l) (OptionsNo.BadItem k) h = h
    cases (Some l) OptionsNo.NoMemory h = tt

-- A part can't be written yet, or memory ran out.
pub unwritten : (S ps : List Stm) (list : Option Text) (o : Options) (rs : Names (List Repr)) (why : ModelNo) → fault S ≡ None
    → ps ≡ prepared S
    → AreOptionsOf (domains_of ps) list o → rs ≡ chosen_for o (domains_of ps) → IsUnwritten S rs why → IsNoModelFor S list why
unwritten S ps list o rs ModelNo.NotYet well is taken chosen (inl lacks) = (
  o,
  subst (λ qs. AreOptionsOf (domains_of qs) list o) is taken,
  subst (IsLacking S) (chosen ∙ ap (λ qs. chosen_for o (domains_of qs)) is) lacks,
)
unwritten S ps list o rs ModelNo.NotYet well is taken chosen (inr misfit) =
    let fit = chosen_fit S list o well (subst (λ qs. AreOptionsOf (domains_of qs) list o) is taken) in
    let same = chosen ∙ ap (λ qs. chosen_for o (domains_of qs)) is in
    absurd (true≢false (sym fit ∙ ap (are_reprs_of (kept_names S)) (sym same) ∙ misfit))
unwritten S ps list o rs ModelNo.NoMemory well is taken chosen says = tt
unwritten S ps list o rs (ModelNo.Specification why) well is taken chosen says = absurd says
unwritten S ps list o rs (ModelNo.BadRepresentation k) well is taken chosen says = absurd says

-- The model is written.
pub written : (S ps : List Stm) (list : Option Text) (o : Options) (rs : Names (List Repr)) (model : Text) → ps ≡ prepared S
    → AreOptionsOf (domains_of ps) list o → rs ≡ chosen_for o (domains_of ps) → IsWritten S rs model → IsModelFor S list model
written S ps list o rs model is taken chosen writes = record {
  o = o;
  options = subst (λ qs. AreOptionsOf (domains_of qs) list o) is taken;
  written = subst (λ l. IsWritten S l model) (chosen ∙ ap (λ qs. chosen_for o (domains_of qs)) is) writes;
}

-- What a text is read as is a specification of the grammar.
pub readable : (text : Text) (S : List Stm) → IsEssence text S → ReadableStms S
readable text S is = specification-text-readable text S is.spells.reads is.spells.limits.0

-- Of a well typed specification.
pub modelled : (text : Text) (list : Option Text) (S : List Stm) (model : Text) → IsEssence text S → IsModelFor S list model
    → IsModelled text list model
modelled text list S model is for = (S, is, for)

-- Nor is one where nothing is written for it.
pub unmodelled : (text : Text) (list : Option Text) (S : List Stm) (why : ModelNo) → IsEssence text S → IsNoModelFor S list why
    → IsUnmodelled text list why
unmodelled text list S ModelNo.NotYet is says = (S, is, says)
unmodelled text list S (ModelNo.BadRepresentation k) is says = (S, is, says)
unmodelled text list S ModelNo.NoMemory is says = tt
unmodelled text list S (ModelNo.Specification why) is says = absurd says

-- The text is no well typed specification.
pub refused : (text : Text) (list : Option Text) (why : TransNo) → IsNoEssence text why → IsUnmodelled text list (of_specification why)
refused text list TransNo.NoMemory says = tt
refused text list (TransNo.Read w why) says = (says, tt)
refused text list (TransNo.Typing why) says = (says, tt)
refused text list TransNo.HeaderBad says = (says, tt)
refused text list (TransNo.InvalidParameter why) says = (says, tt)
refused text list (TransNo.TooManyCells x k) says = (says, tt)
refused text list (TransNo.Unsatisfied v) says = (says, tt)
refused text list (TransNo.NotRepresented x) says = (says, tt)
refused text list TransNo.Big says = (says, tt)

-- ---- what is written

-- A specification that is typed is what the model's writer takes.
pub checked : (t : Typed) → IsTyped t → IsChecked t
checked t is = record { typed = is.well; prepared = is.whole }

-- A part that can't be built isn't written.
pub lacks : (S : List Stm) (rs : Names (List Repr)) (p : Part) → NoneIsBuilt S rs p → IsUnwritten S rs ModelNo.NotYet
lacks S rs p none = inl (inl (p, none))

-- Representations that don't fit aren't written.
pub misfit : (S : List Stm) (rs : Names (List Repr)) → are_reprs_of (kept_names S) rs ≡ false → IsUnwritten S rs ModelNo.NotYet
misfit S rs says = inr says
