-- The model of the self-test's specification, with the number of its constraints.
use Rattle.std.proofs.Common.{◌≡◌, refl, ap, ◌∙◌, subst, ℕ, false, List, [], None}
use Rattle.std.specs.Prelude.{IsTrue, Ok, Err, IfOk}
use Rattle.std.specs.declared.result.Result.{Result}
use Rattle.std.specs.List.{list_all}
use Rattle.ess_semantics.specs.Values.{Text}
use Rattle.ess_semantics.specs.Names.{Names}
use Rattle.ess_semantics.specs.Trees.{Stm, Repr}
use Rattle.ess_semantics.specs.Judgements.{fault}
use Rattle.ess_semantics.specs.Prepared.{prepared}
use Rattle.ess_semantics.specs.Plans.{Options, kept_names, all_chosen}
use Rattle.ess_grammar.specs.Models.{is_readable_model}
use Rattle.ess_grammar.specs.ModelTexts.{ReadsModel}
use Rattle.eprime_tree.specs.ModelText.{model_text, is_head_line}
use Rattle.eprime_tree.specs.Views.{pure_model}
use Rattle.eprime_tree.specs.declared.models.PModel.{PModel}
use Rattle.ess_types.specs.declared.checking.Typed.{Typed}
use Rattle.ess_translate_header_laws.specs.Headers.{are_reprs_of}
use Rattle.ess_translate.specs.Answers.{IsTyped, IsEssence, IsNoEssence}
use Rattle.ess_models.specs.declared.parts.Part.{Part}
use Rattle.ess_models.specs.Built.{NoneIsBuilt}
use Rattle.ess_models.specs.Checked.{IsChecked}
use Rattle.ess_translate.specs.declared.refusal.TransNo.{TransNo}
use Rattle.ess_models.specs.Modelled.{IsModelOf}
use Rattle.conjure_options.specs.Items.{domains_of}
use Rattle.conjure_options.specs.Chosen.{chosen_for}
use Rattle.conjure_modelling.specs.declared.refusal.ModelNo.{ModelNo}
use Rattle.conjure_modelling.specs.Modelled.{IsUnwritten, IsNoModelFor, IsUnmodelled}
use Rattle.conjure_modelling.specs.Refusals.{of_specification}
use Rattle.conjure_modelling.proofs.WhatIsWritten as written
use Rattle.conjure_cli.specs.Counted.{IsPrinted, IsMadeWith, IsMade, IsMadeFor}

-- What is printed for a model that is built is the text of a model.
pub made_with : (S : List Stm) (o : Options) (m : PModel) (text : Text) (n : ℕ) → IsModelOf S o m → IsPrinted m text n
    → IsMadeWith S o text n
made_with S o m text n i p = record {
  written = record {
    fit = i.fit;
    model = pure_model m;
    built = i.built;
    spells = p.spells ∙ ap (λ h. model_text h (pure_model m)) i.head;
    read = subst (λ h. IsTrue (is_readable_model (pure_model m)) → IsTrue (list_all is_head_line h) → ReadsModel text h (pure_model m))
        i.head p.read;
  };
  count = p.count;
}

-- By the default representations.
pub made_by_default : (S ps : List Stm) (rs : Names (List Repr)) (text : Text) (n : ℕ) → ps ≡ prepared S
    → rs ≡ chosen_for [] (domains_of ps) → IsMadeWith S rs text n → IsMadeWith S (all_chosen S []) text n
made_by_default S ps rs text n is chosen made =
    subst (λ o. IsMadeWith S o text n) (chosen ∙ ap (λ qs. chosen_for [] (domains_of qs)) is) made

-- Nor is there one where it can't be written.
pub not_made : (S ps : List Stm) (rs : Names (List Repr)) (why : ModelNo) → fault S ≡ None → ps ≡ prepared S
    → rs ≡ chosen_for [] (domains_of ps) → IsUnwritten S rs why → IsNoModelFor S None why
not_made S ps rs why well is chosen says = written.unwritten S ps None [] rs why well is refl chosen says

-- Of the specification that a text is.
pub made_for : {M : Type 0} (f : M → Text) (g : M → ℕ) (text : Text) (S : List Stm) (r : Result M ModelNo) → IsEssence text S
    → IfOk r (λ m. IsMade S (f m) (g m)) → IfOk r (λ m. IsMadeFor text (f m) (g m))
made_for f g text S (Ok m) is made = (S, is, made)
made_for f g text S (Err _) is made = tt

-- Nor of it.
pub not_made_for : (text : Text) (S : List Stm) (why : ModelNo) → IsEssence text S → IsNoModelFor S None why → IsUnmodelled text None why
not_made_for text S why is says = written.unmodelled text None S why is says

-- A text that is no well typed specification has none.
pub refused : (text : Text) (why : TransNo) → IsNoEssence text why → IsUnmodelled text None (of_specification why)
refused text why says = written.refused text None why says

-- A specification that is typed is what the model's writer takes.
pub checked : (t : Typed) → IsTyped t → IsChecked t
checked t is = written.checked t is

-- A part that can't be built isn't written.
pub lacks : (S : List Stm) (rs : Names (List Repr)) (p : Part) → NoneIsBuilt S rs p → IsUnwritten S rs ModelNo.NotYet
lacks S rs p none = written.lacks S rs p none

-- Representations that don't fit aren't written.
pub misfit : (S : List Stm) (rs : Names (List Repr)) → are_reprs_of (kept_names S) rs ≡ false → IsUnwritten S rs ModelNo.NotYet
misfit S rs says = written.misfit S rs says
