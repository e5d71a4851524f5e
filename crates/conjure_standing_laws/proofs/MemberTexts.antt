-- What is written for a text of a specification of sets of atoms with memberships stands for it.
use Rattle.std.proofs.Common.{◌≡◌, sym, ap, ◌∙◌, subst, true, false, List, Option, Some, None}
use Rattle.ess_semantics.specs.Values.{Text}
use Rattle.ess_semantics.specs.Trees.{Stm}
use Rattle.ess_semantics.specs.Judgements.{is_well_typed}
use Rattle.ess_semantics.specs.Plans.{Options, kept_names, all_chosen, plans}
use Rattle.ess_semantics.specs.ModelTrees.{Model, header_of}
use Rattle.ess_semantics.specs.Models.{Models, IsExact}
use Rattle.ess_grammar.specs.HeaderTexts.{IsHeader}
use Rattle.conjure_modelling.specs.ess_translate.Answers.{IsEssence}
use Rattle.ess_translate_header_laws.specs.WrittenLines.{header_texts}
use Rattle.conjure_laws.specs.SetsOfAtoms.{Line, spec}
use Rattle.conjure_laws.specs.ModelsOfSets.{no_options}
use Rattle.conjure_alike_laws.proofs.AlikeModels.{alike-options-have-the-same-models}
use Rattle.ess_member_headers_laws.specs.KeptSets.{are_kept_by_occurrence}
use Rattle.ess_member_headers_laws.proofs.KeptChosen.{kept-are-chosen}
use Rattle.conjure_modelling.specs.ess_models.Built.{IsBuilt}
use Rattle.conjure_standing_laws.proofs.BuiltSets.{built-sets-right}
use Rattle.conjure_modelling.specs.Modelled.{AreOptionsOf, IsWritten, IsModelFor}
use Rattle.conjure_standing_laws.specs.Standing.{StandsForListed}
use Rattle.conjure_standing_laws.specs.Laws.{WrittenModelsOfSetsStand}
use Rattle.conjure_standing_laws.proofs.BuiltAlike.{built-alike}

module _ (T : List Line) (o : Options) (text : Text) (is : IsEssence text (spec T)) (k : are_kept_by_occurrence (spec T) o ≡ true)
    (model : Text) (w : IsWritten (spec T) (all_chosen (spec T) o) model) where
  abbrev S : List Stm
  S = spec T

  abbrev A : Options
  A = all_chosen S o

  abbrev E : Model
  E = w.spelled.model

  typed : is_well_typed S ≡ true
  typed = ap (λ f. elim f [ None ↦ true | Some f ↦ false ]) is.typed

  kept-again : are_kept_by_occurrence S A ≡ true
  kept-again = kept-are-chosen.chosen T o is.typed k

  -- The header of the text is that of the specification with the options.
  header-is : header_of S A ≡ header_of S o
  header-is = kept-are-chosen.same_header T A kept-again ∙ sym (kept-are-chosen.same_header T o k)

  built : IsBuilt S no_options (header_of S A) E
  built = built-alike S A no_options (header_of S A) E (kept-are-chosen.same_plans T A kept-again)
      (kept-are-chosen.same_header T A kept-again) w.spelled.built

  right : Models S no_options (header_of S o) E × IsExact S no_options E
  right = subst (λ H. Models S no_options H E × IsExact S no_options E) header-is
      (built-sets-right T (header_of S A) E typed built)

  -- So it stands.
  pub member-stands : (list : Option Text) → AreOptionsOf (kept_names S) list o → StandsForListed list text model
  member-stands list listed =
      let a = alike-options-have-the-same-models in
      let e : plans S o ≡ plans S no_options = kept-are-chosen.same_plans T o k in record {
        S = S;
        o = o;
        H = header_of S o;
        E = E;
        specification = is.spells.reads;
        options = listed;
        is_model = (
          header_texts (header_of S o),
          subst (λ H. IsHeader H (header_texts H)) header-is (subst (IsHeader (header_of S A)) w.head w.header),
          (w.head ∙ ap header_texts header-is, w.derived.reads),
        );
        models = a.models S o no_options (header_of S o) E e (kept-are-chosen.same_header T o k) right.0;
        exact = a.exact S o no_options E e right.1;
      }

-- What is written for a text of the class stands for it.
pub written-models-of-sets-stand : WrittenModelsOfSetsStand
written-models-of-sets-stand text list model is f =
    let S : List Stm = is.0 in
    let e : IsEssence text S = is.1 in
    let q : S ≡ spec f.T = sym (e.spells.only (spec f.T) f.specification) in
    let m : IsModelFor (spec f.T) list model = subst (λ S. IsModelFor S list model) q is.2 in
    member-stands f.T m.o text (subst (IsEssence text) q e) (f.kept m.o m.options) model m.written list m.options
