-- The plan of a find of the class that is a set of any nesting: its tables are named and declared, its numbers are constants of the
-- specification, and names are left.
use Rattle.std.proofs.Common.{◌≡◌, refl, sym, ap, ◌∙◌, subst, suc, ◌≤◌, ◌^◌, Bool, true, false, ◌&&◌, ◌||◌, not, List, [], ◌∷◌, ◌++◌, ◌⊎◌, inl, inr, map, length, ℤ, pos, Some}
use Rattle.std.proofs.lemmas.Bool.{leb-true}
use Rattle.std.specs.List.{list_all, list_any}
use Rattle.ess_semantics.specs.Lists.{append_all}
use Rattle.ess_semantics.specs.Values.{Text}
use Rattle.ess_semantics.specs.Order.{same_int}
use Rattle.ess_semantics.specs.Names.{keys}
use Rattle.ess_semantics.specs.Trees.{Repr, Mark, Exs, Dom, Stm, find}
use Rattle.ess_semantics.specs.Kinds.{fits}
use Rattle.ess_semantics.specs.Constants.{constants_of, operand_constants, dom_constants}
use Rattle.ess_semantics.specs.DeclaredTables.{decl_name}
use Rattle.ess_semantics.specs.TableNames.{Named, table_names, named_tables}
use Rattle.ess_semantics.specs.Prepared.{prepared}
use Rattle.ess_semantics.specs.Plans.{Options, givens_side, finds_side, Plan, value_plan, chosen_reprs, plans, plans_for}
use Rattle.ess_semantics.specs.ModelTrees.{Model, all_decls}
use Rattle.ess_semantics.specs.ModelMeaning.{declaration_of}
use Rattle.ess_semantics.proofs.Tests.{and-left, and-right, and-both}
use Rattle.conjure_laws.specs.Fields.{HasFields}
use Rattle.conjure_laws.specs.Members.{In}
use Rattle.conjure_laws.proofs.Lists.{at-item, all-items, each-of-list, test-append}
use Rattle.conjure_laws.proofs.Statements.{plan-is-found}
use Rattle.conjure_laws.proofs.TableCounts.{names-wide, named-long}
use Rattle.conjure_model_laws.specs.IsBuiltFrom.{taken_names}
use Rattle.ess_nested_laws.specs.NestedDomains.{is_nested_dom}
use Rattle.ess_nested_laws.proofs.NestedForms.{Sizes, no_sizes, one_size, WrittenAtom, written_truths, written_numbers, NestedSet, of_atoms, of_sets, nested-form}
use Rattle.ess_flat_models_laws.specs.FlatSpecifications.{given_mark, is_scalar_dom, is_atom_alone}
use Rattle.ess_flat_models_laws.proofs.FlatValues.{NumbersOfAll}
use Rattle.ess_flat_models_laws.proofs.FlatTexts.{IsConst}
use Rattle.ess_flat_models_laws.proofs.ScalarDomains.{shape-of}
use Rattle.ess_mixed_models_laws.specs.MixedSpecifications.{kinds, is_set_dom, is_occurrence_alone, is_one_fitting, has_few_tables, is_nested_plan, is_scalar_kept, is_set_kept, is_nested_kept, is_mixed_statement, are_mixed_statements}
use Rattle.ess_mixed_models_laws.specs.MixedModels.{mixed_decl, mixed_decls}
use Rattle.ess_mixed_models_laws.proofs.NamedKinds.{no-yes}
use Rattle.ess_mixed_models_laws.proofs.PreparedSets.{RangeNumbers, RangesAre}
use Rattle.ess_mixed_models_laws.proofs.MixedConstants.{ranges-spelled}
use Rattle.ess_mixed_models_laws.proofs.MixedPlans.{either-test, shape-single}
use Rattle.ess_mixed_models_laws.proofs.NestedSpelled.{nested-ranged}
use Rattle.ess_mixed_models_laws.proofs.MixedCells.{decls, nested-decls, find-declared, finds-named}
use Rattle.conjure_standing_laws.specs.NestedFinds.{tables_by, IsNestedFind, DeclaresNested}

-- ---- fields

atom-fields : {d : Dom} → WrittenAtom d → HasFields d
atom-fields written_truths = tt
atom-fields written_numbers = tt

nested-fields : {d : Dom} → NestedSet d → HasFields d
nested-fields (of_atoms s a) = atom-fields a
nested-fields (of_sets s n) = nested-fields n

-- ---- numbers

module _ (S : List Stm) where
  abbrev isc : ℤ → Bool
  isc n = list_any (same_int n) (constants_of S)

  sizes-const : {ms : List Mark} {es : Exs} → Sizes ms es → NumbersOfAll (IsConst S) es → list_all isc (operand_constants false es) ≡ true
  sizes-const no_sizes h = refl
  sizes-const (one_size {n = n} {es = es} k s) h =
      and-both (isc (pos n)) (list_all isc (operand_constants false es)) h.0 (sizes-const s h.1)

  atom-const : {d : Dom} → WrittenAtom d → RangeNumbers (IsConst S) d → list_all isc (dom_constants d) ≡ true
  atom-const written_truths h = refl
  atom-const (written_numbers {a = a} {b = b}) h =
      and-both (isc (pos a)) (isc (pos b) && true) h.0 (and-both (isc (pos b)) true h.1.0 refl)

  set-const : (es : Exs) (d : Dom) → list_all isc (operand_constants false es) ≡ true → list_all isc (dom_constants d) ≡ true →
      list_all isc (operand_constants false es ++ dom_constants d) ≡ true
  set-const es d p q =
      test-append isc (operand_constants false es) (dom_constants d)
      ∙ and-both (list_all isc (operand_constants false es)) (list_all isc (dom_constants d)) p q

  -- The numbers of nested sets are constants.
  nested-const : {d : Dom} → NestedSet d → RangeNumbers (IsConst S) d → list_all isc (dom_constants d) ≡ true
  nested-const (of_atoms {es = es} {d = d} s a) h = set-const es d (sizes-const s h.0) (atom-const a h.1)
  nested-const (of_sets {es = es} {d = d} s n) h = set-const es d (sizes-const s h.0) (nested-const n h.1)

module _ (S : List Stm) (o : Options) (h : are_mixed_statements S o ≡ true) where
  abbrev Ps : List Plan
  Ps = plans S o

  abbrev Fs : List Plan
  Fs = plans_for finds_side S o

  -- The plan as a nested find.
  pub nested-find : (x : Text) (r : Repr) (d : Dom) (taken : List Text) → In (value_plan finds_side x r d (named_tables x
      (table_names r d) taken)) Ps → is_nested_dom d ≡ true → fits r d ≡ true → IsNestedFind S o x r d (named_tables x (table_names r d) taken)
  nested-find x r d taken i n f = record {
    planned = i;
    nested = n;
    fit = f;
    named = keys-long (named_tables x (table_names r d) taken) ∙ named-long x (table_names r d) taken
        ∙ names-wide r d (nested-fields (nested-form 250 d n)) f;
    spelled = nested-const S (nested-form 250 d n) (at-item (RangesAre (IsConst S)) (prepared S) (find x d) (ranges-spelled S)
        (plan-is-found S o x r d (named_tables x (table_names r d) taken) i) (nested-ranged (nested-form 250 d n)));
  }
    where
      keys-long : (ns : List Named) → length (keys ns) ≡ length ns
      keys-long [] = refl
      keys-long (m ∷ ns) = ap suc (keys-long ns)

  -- A model with the declarations of the plans declares its tables.
  pub nested-declared : (E : Model) → E.givens ≡ map (mixed_decl (kinds S) Ps) (plans_for givens_side S o) →
      E.finds ≡ append_all (map (mixed_decls (kinds S) Ps) Fs) → (x : Text) (r : Repr) (d : Dom) (ns : List Named) →
      In (value_plan finds_side x r d ns) Fs → is_nested_plan (kinds S) (value_plan finds_side x r d ns) ≡ true →
      DeclaresNested S o E r d ns
  nested-declared E g e x r d ns i k = record {
    tables = all-items (λ t. declaration_of (all_decls E) t.name ≡ Some t) (tables_by (keys ns) r d)
        (λ t j. subst (λ l. declaration_of l t.name ≡ Some t) (sym all)
        (find-declared S o h (value_plan finds_side x r d ns) i t
        (subst (In t) (sym (nested-decls S o (value_plan finds_side x r d ns) k)) j)));
    finds = ap (map decl_name) e ∙ finds-named S o h;
  }
    where
      all : all_decls E ≡ decls S o h
      all = ap (λ l. l ++ E.finds) g ∙ ap (λ l. map (mixed_decl (kinds S) Ps) (plans_for givens_side S o) ++ l) e

  -- ---- names that are left

  not-yes : (b : Bool) → not b ≡ true → b ≡ true → ⊥
  not-yes true p q = no-yes p
  not-yes false p q = no-yes q

  few-of : (x : Text) (r : Repr) (d : Dom) → chosen_reprs o x d ≡ r ∷ [] → is_nested_dom d ≡ true →
      is_set_dom (kinds S) d && is_occurrence_alone (r ∷ []) ≡ false →
      is_scalar_kept S o x d || (is_set_kept S o x d || is_nested_kept S o x d) ≡ true → has_few_tables S o ≡ true
  few-of x r d c n k w = go (either-test (is_scalar_kept S o x d) (is_set_kept S o x d || is_nested_kept S o x d) w)
    where
      scalar : is_scalar_kept S o x d ≡ true → ⊥
      scalar s =
          let z : true ≡ false = sym n ∙ shape-single S o d (shape-of (given_mark Ps) d (and-left (is_scalar_dom (given_mark Ps) d)
          (is_atom_alone (chosen_reprs o x d)) s)) in no-yes (sym z)

      set : is_set_kept S o x d ≡ true → ⊥
      set s =
          let z : true ≡ false = sym s ∙ ap (λ rs. is_set_dom (kinds S) d && is_occurrence_alone rs) c ∙ k in no-yes (sym z)

      rest : (is_set_kept S o x d ≡ true) ⊎ (is_nested_kept S o x d ≡ true) → has_few_tables S o ≡ true
      rest (inl s) = absurd (set s)
      rest (inr s) =
          let u : Bool = is_one_fitting d (chosen_reprs o x d) in
          and-right u (has_few_tables S o) (and-right (is_nested_dom d) (u && has_few_tables S o) s)

      go : (is_scalar_kept S o x d ≡ true) ⊎ (is_set_kept S o x d || is_nested_kept S o x d ≡ true) → has_few_tables S o ≡ true
      go (inl s) = absurd (scalar s)
      go (inr s) = rest (either-test (is_set_kept S o x d) (is_nested_kept S o x d) s)

  turned : (b : Bool) → not b ≡ true → b ≡ false
  turned false e = refl
  turned true e = absurd (no-yes e)

  -- Where there is such a find few tables are declared.
  pub few-tables : (x : Text) (r : Repr) (d : Dom) (ns : List Named) → In (value_plan finds_side x r d ns) Ps →
      chosen_reprs o x d ≡ r ∷ [] → is_nested_plan (kinds S) (value_plan finds_side x r d ns) ≡ true → length (taken_names S o) ≤ 2 ^ 62
  few-tables x r d ns i c k =
      let b : Bool = is_set_dom (kinds S) d && is_occurrence_alone (r ∷ []) in
      leb-true (length (taken_names S o)) (2 ^ 62)
      (few-of x r d c (and-left (is_nested_dom d) (not b) k) (turned b (and-right (is_nested_dom d) (not b) k))
      (at-item (λ s. is_mixed_statement S o s ≡ true) (prepared S) (find x d)
      (each-of-list (prepared S) (is_mixed_statement S o) h) (plan-is-found S o x r d ns i)))
