-- What is written for a text of a specification of scalars with flat and total constraints stands for it.
use Rattle.std.proofs.Common.{◌≡◌, ap, ◌∙◌, subst, true, List, Option}
use Rattle.ess_semantics.specs.Values.{Text}
use Rattle.ess_semantics.specs.Trees.{Stm}
use Rattle.ess_semantics.specs.Plans.{Options, kept_names, all_chosen}
use Rattle.ess_semantics.specs.ModelTrees.{header_of}
use Rattle.ess_grammar.specs.Texts.{Reads}
use Rattle.ess_grammar.specs.ModelTexts.{IsModel}
use Rattle.ess_grammar.specs.HeaderTexts.{IsHeader}
use Rattle.ess_flat_models_laws.specs.FlatSpecifications.{is_flat_specification}
use Rattle.conjure_modelling.specs.ess_translate.Answers.{IsEssence}
use Rattle.ess_translate_header_laws.specs.WrittenLines.{header_texts}
use Rattle.ess_flat_models_laws.specs.FlatModels.{flat_model}
use Rattle.ess_flat_models_laws.proofs.FlatHave.{flat-specifications}
use Rattle.ess_member_headers_laws.proofs.ess_flat_headers_laws.ChosenFlat.{chosen-are-of-the-class}
use Rattle.conjure_standing_laws.proofs.BuiltModels.{built-models-are-right}
use Rattle.conjure_modelling.specs.Modelled.{AreOptionsOf, IsWritten, IsModelFor}
use Rattle.conjure_standing_laws.specs.Standing.{StandsForListed}
use Rattle.conjure_standing_laws.specs.Laws.{WrittenModelsOfScalarsStand}

module _ (S : List Stm) (o : Options) (text : Text) (is : IsEssence text S) (f : is_flat_specification S o ≡ true) (model : Text)
    (w : IsWritten S (all_chosen S o) model) where
  -- The model that is built is the one of the class.
  built-is : w.spelled.model ≡ flat_model S o
  built-is =
      let b = built-models-are-right in
      let c = chosen-are-of-the-class in
      (b.one S (all_chosen S o) (header_of S (all_chosen S o)) w.spelled.model is.typed (c.flat S o is.typed f) w.spelled.built).1
      ∙ c.model S o is.typed

  -- So it stands.
  pub flat-stands : (list : Option Text) → AreOptionsOf (kept_names S) list o → StandsForListed list text model
  flat-stands list listed = let c = chosen-are-of-the-class in let r = flat-specifications S o is.typed f in record {
    S = S;
    o = o;
    H = header_of S o;
    E = flat_model S o;
    specification = is.spells.reads;
    options = listed;
    is_model = (
      header_texts (header_of S o),
      subst (λ H. IsHeader H (header_texts H)) (c.header S o is.typed)
          (subst (IsHeader (header_of S (all_chosen S o))) w.head w.header),
      (
        w.head ∙ ap header_texts (c.header S o is.typed),
        subst (λ E. Reads model (IsModel E)) built-is w.derived.reads,
      ),
    );
    models = r.0;
    exact = r.1;
  }

-- What is written for a text of the class stands for it.
pub written-models-of-scalars-stand : WrittenModelsOfScalarsStand
written-models-of-scalars-stand text list model is f =
    let S : List Stm = is.0 in
    let e : IsEssence text S = is.1 in
    let m : IsModelFor S list model = is.2 in
    let flat = subst (λ T. (o : Options) → AreOptionsOf (kept_names T) list o → is_flat_specification T o ≡ true)
    (e.spells.only f.S f.specification) f.flat in
    flat-stands S m.o text e (flat m.o m.options) model m.written list m.options
