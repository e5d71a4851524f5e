-- What is written for a text of a specification of scalars and sets stands for it.
use Rattle.std.proofs.Common.{◌≡◌, sym, ap, ◌∙◌, subst, true, List, Option}
use Rattle.ess_semantics.specs.Values.{Text}
use Rattle.ess_semantics.specs.Trees.{Stm}
use Rattle.ess_semantics.specs.Plans.{Options, kept_names, all_chosen, plans}
use Rattle.ess_semantics.specs.ModelTrees.{Model, header_of}
use Rattle.ess_semantics.specs.Models.{Models, IsExact}
use Rattle.ess_grammar.specs.HeaderTexts.{IsHeader}
use Rattle.conjure_modelling.specs.ess_translate.Answers.{IsEssence}
use Rattle.ess_translate_header_laws.specs.WrittenLines.{header_texts}
use Rattle.conjure_alike_laws.proofs.AlikeModels.{alike-options-have-the-same-models}
use Rattle.ess_mixed_models_laws.specs.MixedSpecifications.{is_mixed_specification}
use Rattle.ess_mixed_models_laws.proofs.ClassesMixed.{classes-mixed}
use Rattle.ess_mixed_headers_laws.proofs.ChosenMixed.{chosen-mixed}
use Rattle.conjure_standing_laws.proofs.MixedLaws.{built-mixed}
use Rattle.conjure_modelling.specs.Modelled.{AreOptionsOf, IsWritten, IsModelFor}
use Rattle.conjure_standing_laws.specs.Standing.{StandsForListed}
use Rattle.conjure_standing_laws.specs.Laws.{FlatTextsAreMixed, WrittenMixedModelsStand}

module _ (S : List Stm) (o : Options) (text : Text) (is : IsEssence text S) (f : is_mixed_specification S o ≡ true) (model : Text)
    (w : IsWritten S (all_chosen S o) model) where
  abbrev A : Options
  A = all_chosen S o

  abbrev E : Model
  E = w.spelled.model

  mixed-again : is_mixed_specification S A ≡ true
  mixed-again = chosen-mixed.mixed S o is.typed f

  -- The header of the text is that of the specification with the options.
  header-is : header_of S A ≡ header_of S o
  header-is = chosen-mixed.same_header S o is.typed

  right : Models S A (header_of S o) E × IsExact S A E
  right = subst (λ H. Models S A H E × IsExact S A E) header-is
      (built-mixed.right S A (header_of S A) E is.typed mixed-again w.spelled.built)

  -- So it stands.
  pub mixed-stands : (list : Option Text) → AreOptionsOf (kept_names S) list o → StandsForListed list text model
  mixed-stands list listed =
      let a = alike-options-have-the-same-models in
      let e : plans S o ≡ plans S A = sym (chosen-mixed.same_plans S o is.typed) in record {
        S = S;
        o = o;
        H = header_of S o;
        E = E;
        specification = is.spells.reads;
        options = listed;
        is_model = (
          header_texts (header_of S o),
          subst (λ H. IsHeader H (header_texts H)) header-is (subst (IsHeader (header_of S A)) w.head w.header),
          (w.head ∙ ap header_texts header-is, w.derived.reads),
        );
        models = a.models S o A (header_of S o) E e (sym header-is) right.0;
        exact = a.exact S o A E e right.1;
      }

-- What is written for a text of the class stands for it.
pub written-mixed-models-stand : WrittenMixedModelsStand
written-mixed-models-stand text list model is f =
    let S : List Stm = is.0 in
    let e : IsEssence text S = is.1 in
    let m : IsModelFor S list model = is.2 in
    let mixed = subst (λ T. (o : Options) → AreOptionsOf (kept_names T) list o → is_mixed_specification T o ≡ true)
    (e.spells.only f.S f.specification) f.mixed in
    mixed-stands S m.o text e (mixed m.o m.options) model m.written list m.options

-- Texts of scalars are of the class.
pub flat-texts-are-mixed : FlatTextsAreMixed
flat-texts-are-mixed list text f = record {
  S = f.S;
  specification = f.specification;
  mixed = λ o h. classes-mixed.scalars f.S o (f.flat o h);
}
