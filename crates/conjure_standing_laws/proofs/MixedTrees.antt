-- The trees that are made of a specification of the class over tables: of its constraints and its objective, and what is declared of each
-- plan; nothing is asked of tables.
use Rattle.std.proofs.Common.{◌≡◌, refl, sym, ap, ◌∙◌, subst, ℕ, Bool, true, false, List, [], ◌∷◌, ◌++◌, inl, inr, map, filter, pos, Some, None, option_map}
use Rattle.ess_semantics.specs.declared.words.Op2.{Op2}
use Rattle.ess_semantics.specs.Lists.{append_all, or_default}
use Rattle.ess_semantics.specs.Values.{Text}
use Rattle.ess_semantics.specs.Names.{Names, look, keys}
use Rattle.ess_semantics.specs.Trees.{Ex, number_ex, truth_ex, name_ex, no_exs, Dom, set_dom, Stm, ex2}
use Rattle.ess_semantics.specs.ModelMeaning.{env_of_tables}
use Rattle.ess_semantics.specs.Prepared.{prepared}
use Rattle.ess_semantics.specs.Judgements.{fault}
use Rattle.ess_semantics.specs.Solutions.{finds}
use Rattle.ess_semantics.specs.DeclaredTables.{TableDecl}
use Rattle.ess_semantics.specs.TableNames.{table_names, named_tables}
use Rattle.ess_semantics.specs.Plans.{Options, finds_side, Plan, value_plan, chosen_reprs, plans, is_plan_of}
use Rattle.ess_semantics.specs.Models.{with_cells}
use Rattle.conjure_laws.specs.Members.{In}
use Rattle.conjure_laws.specs.SetsOfAtoms.{TypeKind, fixed, sized}
use Rattle.conjure_laws.specs.ModelsOfSets.{table_of, axis_for}
use Rattle.conjure_laws.proofs.SetPlans.{Occ}
use Rattle.conjure_laws.proofs.Statements.{plan-is-found}
use Rattle.conjure_settled_laws.proofs.SettledStatements.{typed-is-settled}
use Rattle.conjure_model_laws.specs.ToldApart.{reserved}
use Rattle.conjure_model_laws.specs.Shown.{Shows, shown, shows_of}
use Rattle.conjure_model_laws.specs.IsBuiltFrom.{tree_of, constraint_tree, condition_tree, objective_tree, channel_trees, with_whole_names, declared_of}
use Rattle.ess_repr_declare_laws.specs.DeclaredTrees.{trees_below}
use Rattle.ess_repr_laws.specs.Structure.{structure}
use Rattle.ess_repr_declare_laws.specs.SizeTerms.{size_terms}
use Rattle.ess_guard_laws.specs.Guard.{has_value, make_total, make_natural}
use Rattle.ess_simplify_laws.specs.Simplifying.{simplified}
use Rattle.ess_flat_laws.specs.Flat.{Flat, none_marked}
use Rattle.ess_flat_models_laws.specs.FlatSpecifications.{scalar_mark}
use Rattle.ess_flat_models_laws.proofs.ScalarDomains.{Atom}
use Rattle.ess_flat_models_laws.proofs.FlatCells.{cells-flat}
use Rattle.ess_flat_models_laws.proofs.FlatSimplified.{simpler}
use Rattle.ess_flat_trees_laws.proofs.FlatTrees.{told-flat, shown-flat, guarded-flat, has-value-flat}
use Rattle.ess_member_trees_laws.specs.Memberships.{Literal, a_number, a_truth, at_number, at_cell, Axis, truths, numbers, asked}
use Rattle.conjure_modelling.specs.ess_model_finds.Finds.{asked_of}
use Rattle.conjure_standing_laws.proofs.BuiltParts.{declared-at}
use Rattle.ess_mixed_models_laws.specs.MixedSpecifications.{kinds, places, is_occurrence_alone, is_nested_plan, are_mixed_statements, types_come_first, have_bounds}
use Rattle.ess_mixed_models_laws.specs.MixedModels.{mixed_decl, nested_decls, mixed_decls, shown_value, axis_of}
use Rattle.ess_mixed_models_laws.proofs.NamedKinds.{MemberDom, of_numbers, of_truths, of_type}
use Rattle.ess_mixed_models_laws.proofs.MixedPlans.{PlanFact, size_fact, atom_fact, set_fact, nested_fact, atom-single, set-single}
use Rattle.ess_mixed_models_laws.proofs.FoundPlans.{found-plan}
use Rattle.ess_mixed_models_laws.proofs.MixedCells.{decls, single-decls, nested-decls}
use Rattle.ess_mixed_models_laws.proofs.ScalarCells.{cells, placed-names, given-cells}
use Rattle.ess_mixed_models_laws.proofs.MixedSpelled.{zero_tables, zero-valued}
use Rattle.ess_mixed_models_laws.proofs.SetFinds.{MemberValue, a_number as number_value, a_truth as truth_value, a_value, SetFind, set-declared}
use Rattle.conjure_standing_laws.proofs.ShownNested.{nested-domains-stay}
use Rattle.conjure_standing_laws.proofs.NestedFacts.{nested-find}
use Rattle.conjure_standing_laws.proofs.ShownNames.{names-shown, scalar-dom, set-shown, value-shown}

-- ---- axes and values

-- The domain of members over tables is an axis.
pub axis-is : (S : List Stm) (o : Options) {A : Dom} (m : MemberDom (kinds S) A) → Axis (axis_of S o A)
axis-is S o of_numbers = numbers at_number at_number
axis-is S o of_truths = truths
axis-is S o (of_type {t = t} {k = k} q) = subst (λ z. Axis (axis_for (plans S o) t z)) (sym q) (go k)
  where
    go : (k : TypeKind) → Axis (axis_for (plans S o) t (Some k))
    go (fixed n) = numbers at_number at_number
    go sized = numbers at_number at_cell

-- A value over tables is a literal.
pub literal-is : (vs : Names (Text × ℕ)) {e : Ex} {A : Dom} → MemberValue vs e A → Literal (shown_value vs e)
literal-is vs number_value = a_number
literal-is vs truth_value = a_truth
literal-is vs (a_value q) = a_number

module _ (S : List Stm) (o : Options) (h : are_mixed_statements S o ≡ true) (f : fault S ≡ None)
    (ts : types_come_first [] (prepared S) ≡ true) (bs : have_bounds (plans S o) [] (prepared S) ≡ true) where
  abbrev Ps : List Plan
  Ps = plans S o

  abbrev sh : Shows
  sh = shows_of S o

  -- Simplifying leaves flat trees flat.
  pub simple : (e : Ex) (m : Bool) → Flat none_marked (cells S o h) e m → Flat none_marked (cells S o h) (simplified e) m
  simple e m w = (simpler (cells S o h) (env_of_tables (zero_tables (decls S o h))) (zero-valued S o h f) w).flat

  -- ---- flat trees

  over-tables : (e : Ex) (m : Bool) → Flat (scalar_mark Ps) none_marked e m → tree_of sh e ≡ with_cells Ps e
  over-tables e m w =
      ap (λ q. shown sh q.0) (told-flat (scalar_mark Ps) w sh.next) ∙ shown-flat Ps sh (names-shown S o h f ts bs) w

  -- A flat tree with cells is flat.
  pub over-cells : (e : Ex) (m : Bool) → Flat (scalar_mark Ps) none_marked e m → Flat none_marked (cells S o h) (with_cells Ps e) m
  over-cells e m w = cells-flat Ps (cells S o h) (placed-names S o h) w

  -- The tree of a flat constraint, that of an objective, and that of the rule that it has a value.
  pub tree-is : (e : Ex) → Flat (scalar_mark Ps) none_marked e true → constraint_tree sh e ≡ with_cells Ps e
  tree-is e w =
      ap (make_natural (reserved 0) (reserved 1)) (over-tables e true w)
      ∙ guarded-flat (cells S o h) (reserved 0) (reserved 1) true (over-cells e true w) []

  pub objective-is : (e : Ex) → Flat (scalar_mark Ps) none_marked e false → objective_tree sh e ≡ with_cells Ps e
  objective-is e w =
      ap (make_total (reserved 0) (reserved 1)) (over-tables e false w)
      ∙ guarded-flat (cells S o h) (reserved 0) (reserved 1) false (over-cells e false w) []

  pub condition-is : (e : Ex) → Flat (scalar_mark Ps) none_marked e false → condition_tree sh e ≡ truth_ex true
  condition-is e w =
      ap (has_value (reserved 0) (reserved 1)) (over-tables e false w)
      ∙ has-value-flat (cells S o h) (reserved 0) (reserved 1) (over-cells e false w)

  -- ---- memberships

  -- The tree of a membership.
  pub member-tree : (e : Ex) (x : Text) (A : Dom) → SetFind S o h x A → MemberValue (places S) e A →
      constraint_tree sh (ex2 true Op2.Member e (name_ex x)) ≡ asked (table_of Ps x) (axis_of S o A) (shown_value (places S) e)
  member-tree e x A w (number_value {k = k}) =
      ap (λ z. make_natural (reserved 0) (reserved 1) (ex2 true Op2.Member (number_ex k) (or_default z (name_ex x))))
      (set-shown S o h f ts bs x A w).0
  member-tree e x A w (truth_value {b = b}) =
      ap (λ z. make_natural (reserved 0) (reserved 1) (ex2 true Op2.Member (truth_ex b) (or_default z (name_ex x))))
      (set-shown S o h f ts bs x A w).0
  member-tree e x A w (a_value {n = n} {t = t} {j = j} q) =
      ap (λ z. make_natural (reserved 0) (reserved 1) (ex2 true Op2.Member (or_default z (name_ex n)) (or_default (look sh.last x)
      (name_ex x))))
      (value-shown S o h f ts bs n (t, j) q)
      ∙ ap (λ z. make_natural (reserved 0) (reserved 1) (ex2 true Op2.Member (number_ex (pos j)) (or_default z (name_ex x))))
      (set-shown S o h f ts bs x A w).0
      ∙ ap (λ z. asked (table_of Ps x) (axis_of S o A) (number_ex (pos (or_default (option_map (λ v. v.1) z) 0)))) (sym q)

  -- ---- declarations

  -- The domain of a planned set over tables.
  planned-set : (x : Text) (A : Dom) (n : Text) → is_occurrence_alone (chosen_reprs o x (set_dom [] no_exs A)) ≡ true →
      In (value_plan finds_side x Occ (set_dom [] no_exs A) ((n, 1) ∷ [])) Ps → look sh.doms x ≡ Some (set_dom [] no_exs (axis_of S o A))
  planned-set x A n a i =
      (set-shown S o h f ts bs x A (set-declared S o h x A (plan-is-found S o x Occ (set_dom [] no_exs A) ((n, 1) ∷ []) i) a)).1

  abbrev decls_of : Plan → List TableDecl
  decls_of P = mixed_decls (kinds S) Ps P

  single-declared : (P : Plan) → is_nested_plan (kinds S) P ≡ false → declared_of sh P ≡ mixed_decl (kinds S) Ps P ∷ [] →
      declared_of sh P ≡ decls_of P
  single-declared P k e = e ∙ sym (single-decls S o P k)

  -- What is declared of each plan.
  pub declared : (P : Plan) → In P Ps → PlanFact S o P → declared_of sh P ≡ decls_of P
  declared P i (size_fact t n e) = subst (λ P. declared_of sh P ≡ decls_of P) (sym e) refl
  declared P i (atom_fact w) = subst (λ P. declared_of sh P ≡ decls_of P) (sym w.is)
      (single-declared (value_plan w.f w.x Atom w.d ((w.n, 0) ∷ [])) (atom-single S o w.f w.x w.d w.n w.scalar)
      (declared-at Ps (cells S o h) (given-cells S o h) simple sh w.f w.x w.d w.n w.scalar
      (scalar-dom S o h f ts bs w.f w.x w.d w.n (subst (λ P. In P Ps) w.is i) w.scalar)))
  declared P i (set_fact x A n e m a) = subst (λ P. declared_of sh P ≡ decls_of P) (sym e)
      (single-declared (value_plan finds_side x Occ (set_dom [] no_exs A) ((n, 1) ∷ [])) (set-single S o x n m)
      (ap (λ z. with_whole_names (n ∷ []) (trees_below false Occ (or_default z (set_dom [] no_exs A))))
      (planned-set x A n a (subst (λ P. In P Ps) e i))))
  declared P i (nested_fact x r d taken e n g k c) =
      subst (λ P. declared_of sh P ≡ nested_decls P) (sym e)
      (ap (λ z. with_whole_names (keys (named_tables x (table_names r d) taken)) (trees_below false r z))
      (nested-domains-stay S o x r d (named_tables x (table_names r d) taken) f
      (nested-find S o h x r d taken (subst (λ P. In P Ps) e i) n g)))
      ∙ sym (nested-decls S o P k)

  -- ---- structures and channels

  -- Nothing is asked of the tables of scalars, and of sets by which members occur.
  pub asked-none : (P : Plan) → In P Ps → PlanFact S o P → is_nested_plan (kinds S) P ≡ false → asked_of sh P ≡ truth_ex true
  asked-none P i (size_fact t n e) k = subst (λ P. asked_of sh P ≡ truth_ex true) (sym e) refl
  asked-none P i (atom_fact w) k = subst (λ P. asked_of sh P ≡ truth_ex true) (sym w.is) refl
  asked-none P i (set_fact x A n e m a) k = subst (λ P. asked_of sh P ≡ truth_ex true) (sym e)
      (ap (λ z. structure reserved size_terms Occ (or_default z (set_dom [] no_exs A)) (n ∷ []) sh.next no_exs)
      (planned-set x A n a (subst (λ P. In P Ps) e i)))
  asked-none P i (nested_fact x r d taken e n g y c) k = let z : true ≡ false = sym y ∙ k in cc

  channels-from : (xs : List Text) → ((x : Text) → In x xs → (P : Plan) × (filter (is_plan_of x) Ps ≡ P ∷ [])) →
      append_all (map (λ x. channel_trees sh (filter (is_plan_of x) Ps)) xs) ≡ []
  channels-from [] g = refl
  channels-from (x ∷ xs) g =
      ap (λ l. channel_trees sh l ++ append_all (map (λ x. channel_trees sh (filter (is_plan_of x) Ps)) xs)) (g x (inl refl)).1
      ∙ channels-from xs (λ y i. g y (inr i))

  -- No find has a further view.
  pub no-channels : append_all (map (λ x. channel_trees sh (filter (is_plan_of x) Ps)) (finds S)) ≡ []
  no-channels = channels-from (finds S) (λ x i. found-plan S o h x (typed-is-settled S f).distinct i)
