-- The scalars of the class are declared single cells, which hold their values.
use Rattle.std.proofs.Common.{◌≡◌, refl, sym, ap, ◌∙◌, ℕ, Bool, true, false, if◌then◌else◌, List, [], ◌∷◌, ◌++◌, map, Some, None}
use Rattle.std.specs.List.{list_all}
use Rattle.ess_semantics.specs.Lists.{append_all}
use Rattle.ess_semantics.specs.Values.{Text, Value}
use Rattle.ess_semantics.specs.Order.{same_text}
use Rattle.ess_semantics.specs.Names.{Names, look, keys}
use Rattle.ess_semantics.specs.Trees.{cell_ex, no_exs, Stm}
use Rattle.ess_semantics.specs.Tables.{Table}
use Rattle.ess_semantics.specs.Meaning.{meaning}
use Rattle.ess_semantics.specs.ModelMeaning.{declaration_of, env_of_tables}
use Rattle.ess_semantics.specs.Prepared.{prepared}
use Rattle.ess_semantics.specs.Assignments.{Assignment, env_of}
use Rattle.ess_semantics.specs.Judgements.{fault}
use Rattle.ess_semantics.specs.Plans.{Options, givens_side, finds_side, Plan, value_plan, plans, plans_for}
use Rattle.ess_semantics.specs.ModelTrees.{Model, no_goal, all_decls}
use Rattle.ess_semantics.specs.Models.{cell_for}
use Rattle.ess_semantics.proofs.Tests.{and-left, and-right}
use Rattle.ess_semantics.proofs.Texts.{same_text-equal}
use Rattle.conjure_laws.specs.Premises.{Instance}
use Rattle.conjure_laws.specs.ModelPremises.{Canonical}
use Rattle.conjure_laws.specs.Views.{over_tables}
use Rattle.conjure_model_laws.specs.ToldApart.{reserved, is_unreserved}
use Rattle.conjure_model_laws.specs.Shown.{Shows, shows_of}
use Rattle.ess_bare_written_laws.specs.Laws.{IsDeclared}
use Rattle.ess_mixed_models_laws.specs.ess_setwise_laws.Laws.{HasMark, a_truth, a_number, HoldsNames}
use Rattle.ess_flat_models_laws.specs.FlatSpecifications.{scalar_mark}
use Rattle.ess_flat_models_laws.proofs.FlatValues.{Marked, a_truth as truth_marked, a_number as number_marked}
use Rattle.ess_flat_models_laws.proofs.FlatDeclared.{bool-stays}
use Rattle.ess_flat_models_laws.proofs.ScalarDomains.{Atom}
use Rattle.ess_mixed_models_laws.specs.MixedSpecifications.{kinds, are_mixed_statements, types_come_first, have_bounds}
use Rattle.ess_mixed_models_laws.specs.MixedModels.{mixed_decl, mixed_decls}
use Rattle.ess_mixed_models_laws.proofs.NamedKinds.{no-yes}
use Rattle.ess_mixed_models_laws.proofs.MixedPlans.{atom-single}
use Rattle.ess_mixed_models_laws.proofs.MixedCells.{decls, declared}
use Rattle.ess_mixed_models_laws.proofs.ScalarCells.{cells, placed-names, planned}
use Rattle.ess_mixed_models_laws.proofs.ScalarValues.{cells-valued, names-valued}
use Rattle.conjure_standing_laws.proofs.ShownNames.{names-shown}

-- A reserved name is none of names that aren't.
pub none-reserved : {A : Type 0} (vs : Names A) → list_all is_unreserved (keys vs) ≡ true → (j : ℕ) → look vs (reserved j) ≡ None
none-reserved [] h j = refl
none-reserved (b ∷ vs) h j =
    go (same_text b.0 (reserved j)) refl (none-reserved vs (and-right (is_unreserved b.0) (list_all is_unreserved (keys vs)) h) j)
  where
    go : (c : Bool) → same_text b.0 (reserved j) ≡ c → look vs (reserved j) ≡ None → (if c then Some b.1 else look vs (reserved j)) ≡ None
    go false q r = r
    go true q r =
        let z : false ≡ true = ap is_unreserved (sym (same_text-equal b.0 (reserved j) q))
        ∙ and-left (is_unreserved b.0) (list_all is_unreserved (keys vs)) h in absurd (no-yes z)

as-mark : {b : Bool} {v : Value} → Marked b v → HasMark b v
as-mark truth_marked = a_truth
as-mark number_marked = a_number

module _ (S : List Stm) (o : Options) (h : are_mixed_statements S o ≡ true) (f : fault S ≡ None)
    (ts : types_come_first [] (prepared S) ≡ true) (bs : have_bounds (plans S o) [] (prepared S) ≡ true) where
  abbrev Ps : List Plan
  Ps = plans S o

  abbrev sh : Shows
  sh = shows_of S o

  module _ (p a : Assignment) (q c : Names Table) (I : Instance S o p q) (C : Canonical S o p a c) where
    -- Cells hold the values of names.
    pub names-held : HoldsNames sh (scalar_mark Ps) (env_of S p a) (over_tables S p (q ++ c))
    names-held = record {
      holds = λ x m e. let r = placed-names S o h x m e in
          ap (λ z. meaning z (over_tables S p (q ++ c))) (names-shown S o h f ts bs x m e ∙ ap (cell_for x) r.1)
          ∙ sym (ap (λ z. meaning (cell_for x z) (env_of_tables (q ++ c))) r.1) ∙ names-valued S o h f no_goal [] p a q c I C x m e;
    }

    -- They hold values of their marks.
    pub marks-held : (n : Text) (b : Bool) → cells S o h n ≡ Some b →
        (v : Value) × HasMark b v × (meaning (cell_ex b n no_exs) (over_tables S p (q ++ c)) ≡ Some v)
    marks-held n b e = let r = cells-valued S o h f no_goal [] p a q c I C n b e in (r.0, as-mark r.1, r.2)

  module _ (E : Model) (g : E.givens ≡ map (mixed_decl (kinds S) Ps) (plans_for givens_side S o))
      (e : E.finds ≡ append_all (map (mixed_decls (kinds S) Ps) (plans_for finds_side S o))) where
    -- The declarations of the model are those of the plans.
    pub all-same : all_decls E ≡ decls S o h
    all-same = ap (λ l. l ++ E.finds) g ∙ ap (λ l. map (mixed_decl (kinds S) Ps) (plans_for givens_side S o) ++ l) e

    -- Each cell of a scalar is declared.
    pub cell-declared : (n : Text) (b : Bool) → cells S o h n ≡ Some b → IsDeclared (all_decls E) n b 0
    cell-declared n b q =
        let r = planned S o h n b q in record {
          line = _;
          found = ap (λ l. declaration_of l n) all-same
              ∙ declared S o h (value_plan r.f r.x Atom r.d ((n, 0) ∷ [])) r.planned (atom-single S o r.f r.x r.d n r.scalar);
          mark = bool-stays Ps r.d ∙ r.mark;
          axes = refl;
        }
