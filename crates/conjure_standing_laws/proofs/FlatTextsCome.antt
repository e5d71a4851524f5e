-- A model is written for each text of a specification of scalars with flat and total constraints.
use Rattle.std.proofs.Common.{◌≡◌, sym, ap, ◌∙◌, subst, true≢false, Bool, true, ◌&&◌, List, [], inl, inr, None}
use Rattle.std.specs.List.{list_all}
use Rattle.ess_semantics.specs.Trees.{Stm}
use Rattle.ess_semantics.specs.Prepared.{prepared}
use Rattle.ess_semantics.specs.Judgements.{fault}
use Rattle.ess_semantics.specs.Plans.{Options, kept_names, all_chosen, plans}
use Rattle.ess_semantics.specs.ModelTrees.{header_of}
use Rattle.ess_semantics.specs.Models.{constraints_of}
use Rattle.ess_semantics.proofs.Tests.{and-left, and-right}
use Rattle.ess_grammar.specs.Readable.{ReadableStms}
use Rattle.ess_grammar.specs.Models.{is_readable_model}
use Rattle.ess_grammar.proofs.ProperTokens.{specification-text-readable}
use Rattle.ess_flat_models_laws.specs.FlatSpecifications.{are_bounded, are_flat_statements, has_marks, is_flat_specification}
use Rattle.ess_flat_texts_laws.proofs.ReadableModels.{flat-models-are-readable}
use Rattle.ess_member_headers_laws.proofs.ess_flat_headers_laws.ChosenFlat.{chosen-are-of-the-class}
use Rattle.conjure_modelling.specs.ess_translate.Answers.{IsEssence}
use Rattle.conjure_modelling.specs.Modelled.{AreOptionsOf, IsTextless}
use Rattle.conjure_standing_laws.specs.ComingLaws.{FlatSpecificationsLackNothing, FlatTextsHaveModels}
use Rattle.conjure_standing_laws.proofs.BuiltModels.{built-models-are-right}
use Rattle.conjure_standing_laws.proofs.FlatLacks.{no-part-lacks}

-- The one model that is built of a specification of the class is one that some text has.
not-textless : (S : List Stm) (o : Options) → ReadableStms S → fault S ≡ None → is_flat_specification S o ≡ true → IsTextless S o → ⊥
not-textless S o r t h v =
    let one = (built-models-are-right.one S o (header_of S o) v.model t h v.built).1 in
    true≢false (sym (flat-models-are-readable S o r h) ∙ sym (ap is_readable_model one) ∙ v.unreadable)

-- Nothing lacks of it.
pub flat-lacks-nothing : FlatSpecificationsLackNothing
flat-lacks-nothing S o r t h (inl v) =
    let a : Bool = are_flat_statements S o in
    let b : Bool = are_bounded (plans S o) [] (prepared S) in
    let c : Bool = list_all (has_marks (plans S o)) (constraints_of S) in
    no-part-lacks S o (and-left a (b && c) h) (and-left b c (and-right a (b && c) h)) t v.0 v.1
flat-lacks-nothing S o r t h (inr v) = not-textless S o r t h v

-- So a model is written for each text of the class.
pub flat-texts-have-models : FlatTextsHaveModels
flat-texts-have-models text list f v =
    let S : List Stm = v.0 in
    let e : IsEssence text S = v.1 in
    let o : Options = v.2.0 in
    let flat = subst (λ T. (o : Options) → AreOptionsOf (kept_names T) list o → is_flat_specification T o ≡ true)
    (e.spells.only f.S f.specification) f.flat in
    flat-lacks-nothing S (all_chosen S o) (specification-text-readable text S e.spells.reads e.spells.limits.0) e.typed
    (chosen-are-of-the-class.flat S o e.typed (flat o v.2.1)) v.2.2
