-- Each declaration of a specification of the class stands: those of sizes, of cells of scalars, of sets by which members occur, and of
-- nested sets. So the givens and the finds are declared.
use Rattle.std.proofs.Common.{◌≡◌, refl, sym, ap, ◌∙◌, subst, ℕ, Bool, true, false, List, [], ◌∷◌, map, ℤ, pos, Option, Some, None, option_map}
use Rattle.ess_semantics.specs.Lists.{append_all}
use Rattle.ess_semantics.specs.Values.{Text}
use Rattle.ess_semantics.specs.Names.{look, keys}
use Rattle.ess_semantics.specs.TableNames.{table_names, named_tables}
use Rattle.ess_semantics.specs.Trees.{number_ex, cell_ex, no_exs, Dom, set_dom, Stm}
use Rattle.ess_semantics.specs.Contexts.{Each}
use Rattle.ess_semantics.specs.DeclaredTables.{TableDecl}
use Rattle.ess_semantics.specs.Meaning.{is_bool_dom}
use Rattle.ess_semantics.specs.ModelMeaning.{declaration_of}
use Rattle.ess_semantics.specs.Prepared.{prepared}
use Rattle.ess_semantics.specs.Judgements.{fault}
use Rattle.ess_semantics.specs.Plans.{Options, Side, givens_side, finds_side, Plan, size_plan, value_plan, plans, plans_for}
use Rattle.ess_semantics.specs.Models.{scalar_cell}
use Rattle.ess_grammar.specs.Models.{empty_scope, with_given, with_find, scope_behind}
use Rattle.ess_repr_declare_laws.specs.DeclaredTrees.{axis_dom, trees_below}
use Rattle.conjure_laws.specs.Members.{In}
use Rattle.conjure_laws.specs.Premises.{is_on}
use Rattle.conjure_laws.specs.SetsOfAtoms.{TypeKind, fixed, sized}
use Rattle.conjure_laws.specs.ModelsOfSets.{size_name, table_of, axis_for}
use Rattle.conjure_laws.proofs.Lists.{at-item, all-items, in-filter, in-filtered, each-append}
use Rattle.conjure_laws.proofs.SetPlans.{Occ}
use Rattle.conjure_model_laws.specs.Shown.{Shows, shows_of}
use Rattle.conjure_model_laws.specs.IsBuiltFrom.{declared_of, taken_names}
use Rattle.ess_nested_laws.proofs.NestedForms.{kept-form}
use Rattle.ess_flat_laws.specs.Flat.{cell}
use Rattle.ess_flat_models_laws.specs.FlatSpecifications.{given_mark}
use Rattle.ess_flat_models_laws.proofs.ScalarDomains.{Atom}
use Rattle.ess_flat_models_laws.proofs.FlatDeclared.{bool-stays}
use Rattle.ess_mixed_models_laws.specs.MixedSpecifications.{kinds, is_nested_plan, are_mixed_statements, types_come_first, have_bounds}
use Rattle.ess_mixed_models_laws.specs.MixedModels.{mixed_decl, nested_decls, mixed_decls, axis_of}
use Rattle.ess_mixed_models_laws.proofs.NamedKinds.{MemberDom, of_numbers, of_truths, of_type}
use Rattle.ess_mixed_models_laws.proofs.MixedPlans.{PlanFact, size_fact, atom_fact, set_fact, nested_fact, all-facts, atom-single, set-single}
use Rattle.ess_mixed_models_laws.proofs.MixedCells.{decls, single-decls, nested-decls, find-declared, declared as decl-declared}
use Rattle.ess_mixed_models_laws.proofs.MixedSizes.{size-of}
use Rattle.ess_mixed_models_laws.proofs.MixedGivens.{plan-bounds}
use Rattle.ess_mixed_models_laws.proofs.ScalarCells.{cells, planned, given-cells}
use Rattle.ess_mixed_models_laws.proofs.SetFinds.{SetFind, set-planned}
use Rattle.conjure_modelling.specs.ess_model_written.Coming.{DeclsAreWritten}
use Rattle.conjure_modelling.specs.ess_models.declared.parts.Part.{Part}
use Rattle.conjure_modelling.specs.ess_models.Parts.{tables_on}
use Rattle.conjure_modelling.specs.ess_models.Built.{NoneIsBuilt}
use Rattle.conjure_standing_laws.proofs.FlatComes.{flat-comes}
use Rattle.conjure_standing_laws.proofs.NumberTerms.{digits}
use Rattle.conjure_standing_laws.proofs.NumberTables.{NumberTable}
use Rattle.conjure_standing_laws.proofs.NestedTables.{kept-tables, whole-numerals}
use Rattle.conjure_standing_laws.proofs.NumberDeclarations.{number-stands, decl-stands}
use Rattle.conjure_standing_laws.proofs.DeclaredScopes.{HasMark, HasMarks, empty-marks, number_cells, number-cell, numbers-declared}
use Rattle.conjure_standing_laws.proofs.StandingDeclarations.{BoundStands, DomStands, truths, ranges, TableStands, DeclStands, written-marks, decls-come}
use Rattle.conjure_standing_laws.proofs.FlatDeclarations.{table-stands}
use Rattle.conjure_standing_laws.proofs.MixedTrees.{declared}
use Rattle.conjure_standing_laws.proofs.MixedTables.{table-written}

-- What is so of each item of some lists is so of each item of all of them.
each-of-all : {A B : Type 0} (f : A → List B) (P : B → Type 0) (xs : List A) → Each xs (λ x. Each (f x) P) →
    Each (append_all (map f xs)) P
each-of-all f P [] w = tt
each-of-all f P (x ∷ xs) w = each-append P (f x) (append_all (map f xs)) w.0 (each-of-all f P xs w.1)

module _ (S : List Stm) (o : Options) (h : are_mixed_statements S o ≡ true) where
  abbrev Ps : List Plan
  Ps = plans S o

  abbrev decl : Plan → TableDecl
  decl P = mixed_decl (kinds S) Ps P

  abbrev decls_of : Plan → List TableDecl
  decls_of P = mixed_decls (kinds S) Ps P

  -- ---- marks

  -- Whether a declared table holds truth values.
  abbrev pub table_marks : Text → Option Bool
  table_marks n = option_map (λ t. is_bool_dom t.cell) (declaration_of (decls S o h) n)

  has-mark : (D : TableDecl) → declaration_of (decls S o h) D.name ≡ Some D → HasMark table_marks D
  has-mark D e = ap (option_map (λ t. is_bool_dom t.cell)) e

  -- The cell of a scalar has its mark.
  pub scalar-marked : (n : Text) (b : Bool) → cells S o h n ≡ Some b → table_marks n ≡ Some b
  scalar-marked n b e =
      let r = planned S o h n b e in
      has-mark (decl (value_plan r.f r.x Atom r.d ((n, 0) ∷ [])))
      (decl-declared S o h (value_plan r.f r.x Atom r.d ((n, 0) ∷ [])) r.planned (atom-single S o r.f r.x r.d n r.scalar))
      ∙ ap (λ c. Some c) (bool-stays Ps r.d ∙ r.mark)

  -- The size of a given type is a number.
  pub size-marked : (t : Text) → look (kinds S) t ≡ Some sized → table_marks (size_name Ps t) ≡ Some false
  size-marked t e =
      has-mark (decl (size_plan t (size_name Ps t))) (decl-declared S o h (size_plan t (size_name Ps t)) (size-of S o h t e) refl)

  -- The table of a set by which members occur holds truth values.
  pub set-marked : fault S ≡ None → (x : Text) (A : Dom) → SetFind S o h x A → table_marks (table_of Ps x) ≡ Some true
  set-marked f x A w =
      let P : Plan = value_plan finds_side x Occ (set_dom [] no_exs A) ((table_of Ps x, 1) ∷ []) in
      has-mark (decl P) (decl-declared S o h P (set-planned S o h f x A w) (set-single S o x (table_of Ps x) w.members))

  given-marks : (a : Text) → given_mark Ps a ≡ Some false →
      (n : Text) × (scalar_cell Ps a ≡ Some (false, n)) × (table_marks n ≡ Some false)
  given-marks a e = let r = given-cells S o h a e in (r.0, r.1, scalar-marked r.0 false r.2)

  -- ---- bounds

  module _ (taken : List Text) (k : ℕ) where
    literal-stands : (z : ℤ) → BoundStands table_marks taken k (number_ex z)
    literal-stands z = number-stands table_marks taken k (number_ex z) digits

    cell-stands : (n : Text) → table_marks n ≡ Some false → BoundStands table_marks taken k (cell_ex false n no_exs)
    cell-stands n e = record {
      comes = λ s w v. flat-comes (number_cells table_marks) s taken (numbers-declared table_marks s w) k (cell_ex false n no_exs) false
          (cell (number-cell table_marks n e)) v;
    }

    -- Those of the axis of a set by which members occur.
    axis-stands : (A : Dom) → MemberDom (kinds S) A → DomStands table_marks taken k (axis_dom (axis_of S o A))
    axis-stands A (of_numbers {a = a} {b = b}) = ranges refl (literal-stands a, (literal-stands b, tt))
    axis-stands A of_truths = ranges refl (literal-stands (pos 0), (literal-stands (pos 1), tt))
    axis-stands A (of_type {t = t} {k = c} q) = subst (λ z. DomStands table_marks taken k (axis_dom (axis_for Ps t z))) (sym q) (go c q)
      where
        go : (j : TypeKind) → look (kinds S) t ≡ Some j → DomStands table_marks taken k (axis_dom (axis_for Ps t (Some j)))
        go (fixed n) e = ranges refl (literal-stands (pos 1), (literal-stands (pos n), tt))
        go sized e = ranges refl (literal-stands (pos 1), (cell-stands (size_name Ps t) (size-marked t e), tt))

    -- ---- tables

    -- The table of a plan that is none of nested sets.
    plan-stands : (P : Plan) → In P Ps → PlanFact S o P → is_nested_plan (kinds S) P ≡ false → TableStands table_marks taken k (decl P)
    plan-stands P i (size_fact t n e) y =
        subst (λ P. TableStands table_marks taken k (decl P)) (sym e)
        (record { axes = tt; cell = ranges refl (literal-stands (pos 1), tt) })
    plan-stands P i (atom_fact a) y =
        let Q : Plan = value_plan a.f a.x Atom a.d ((a.n, 0) ∷ []) in
        let j : In (value_plan a.f a.x Atom a.d ((a.n, 0) ∷ [])) Ps = subst (λ P. In P Ps) a.is i in
        table-stands Ps table_marks given-marks taken k (decl P) (record {
          n = a.n;
          d = a.d;
          is = ap decl a.is;
          scalar = plan-bounds S o h a.f a.x a.d a.n j a.scalar;
          mark = has-mark (decl Q) (decl-declared S o h Q j (atom-single S o a.f a.x a.d a.n a.scalar))
              ∙ ap (λ b. Some b) (bool-stays Ps a.d);
        })
    plan-stands P i (set_fact x A n e m a) y =
        subst (λ P. TableStands table_marks taken k (decl P)) (sym e) (record { axes = (axis-stands A m, tt); cell = truths })
    plan-stands P i (nested_fact x r d names e n g z c) y = let q : true ≡ false = sym z ∙ y in cc

    -- The tables of a plan of nested sets.
    nested-stand : (P : Plan) → In P Ps → PlanFact S o P → is_nested_plan (kinds S) P ≡ true →
        Each (nested_decls P) (DeclStands table_marks taken k)
    nested-stand P i (size_fact t n e) y = let z : false ≡ true = ap (is_nested_plan (kinds S)) (sym e) ∙ y in cc
    nested-stand P i (atom_fact a) y =
        let z : false ≡ true =
        sym (atom-single S o a.f a.x a.d a.n a.scalar) ∙ ap (is_nested_plan (kinds S)) (sym a.is) ∙ y in cc
    nested-stand P i (set_fact x A n e m a) y =
        let z : false ≡ true = sym (set-single S o x n m) ∙ ap (is_nested_plan (kinds S)) (sym e) ∙ y in cc
    nested-stand P i (nested_fact x r d names e n g y' c) y =
        all-items (DeclStands table_marks taken k) (nested_decls P)
        (λ t j. decl-stands table_marks taken k t (at-item NumberTable (nested_decls P) t numerals j)
        (has-mark t (find-declared S o h P found t (subst (In t) (sym (nested-decls S o P y)) j))))
      where
        found : In P (plans_for finds_side S o)
        found = subst (λ Q. In Q Ps → In Q (plans_for finds_side S o)) (sym e)
            (λ i. in-filtered (is_on finds_side) (value_plan finds_side x r d (named_tables x (table_names r d) names)) Ps i refl) i

        numerals : Each (nested_decls P) NumberTable
        numerals = subst (λ Q. Each (nested_decls Q) NumberTable) (sym e)
            (whole-numerals (keys (named_tables x (table_names r d) names)) (trees_below false r d)
            (kept-tables false (kept-form 250 r d n g)))

  module _ (f : fault S ≡ None) (ts : types_come_first [] (prepared S) ≡ true) (bs : have_bounds (plans S o) [] (prepared S) ≡ true) where
    abbrev sh : Shows
    sh = shows_of S o

    abbrev names : List Text
    names = taken_names S o

    abbrev Stands : TableDecl → Type 0
    Stands = DeclStands table_marks names sh.next

    -- Each declaration of a plan stands.
    all-stand : (P : Plan) → In P Ps → PlanFact S o P → Each (decls_of P) Stands
    all-stand P i w = go (is_nested_plan (kinds S) P) refl
      where
        single : is_nested_plan (kinds S) P ≡ false → Stands (decl P)
        single y = record {
          table = plan-stands names sh.next P i w y;
          same = λ s u v. table-written S o h f ts bs with_given s P i w y (declared S o h f ts bs P i w ∙ single-decls S o P y) u v;
          mark = has-mark (decl P) (decl-declared S o h P i y);
        }

        go : (b : Bool) → is_nested_plan (kinds S) P ≡ b → Each (decls_of P) Stands
        go true y = subst (λ l. Each l Stands) (sym (nested-decls S o P y)) (nested-stand names sh.next P i w y)
        go false y = subst (λ l. Each l Stands) (sym (single-decls S o P y)) (single y, tt)

    -- So does each of a side.
    pub tables-stand : (g : Side) → Each (tables_on names sh Ps g) Stands
    tables-stand g = each-of-all (declared_of sh) Stands (plans_for g S o)
        (all-items (λ P. Each (declared_of sh P) Stands) (plans_for g S o)
        (λ P i. let j = (in-filter (is_on g) P Ps i).0 in let w = at-item (PlanFact S o) Ps P (all-facts S o h) j in
        subst (λ l. Each l Stands) (sym (declared S o h f ts bs P j w)) (all-stand P j w)))

    -- Behind the givens each name that is declared has its mark.
    pub given-scope : (gs : List TableDecl) → DeclsAreWritten with_given names sh.next empty_scope (tables_on names sh Ps givens_side) gs →
        HasMarks table_marks (scope_behind with_given empty_scope gs)
    given-scope gs w =
        written-marks table_marks names sh.next with_given (λ s D a. refl) (tables_on names sh Ps givens_side) gs empty_scope
        (empty-marks table_marks) (tables-stand givens_side) w

    -- The givens are declared.
    pub givens-come : NoneIsBuilt S o Part.Givens → ⊥
    givens-come v =
        decls-come table_marks names sh.next with_given (λ s D a. refl) (tables_on names sh Ps givens_side) empty_scope
        (empty-marks table_marks) (tables-stand givens_side) v

    -- So are the finds behind them.
    pub finds-come : NoneIsBuilt S o Part.Finds → ⊥
    finds-come v =
        decls-come table_marks names sh.next with_find (λ s D a. refl) (tables_on names sh Ps finds_side)
        (scope_behind with_given empty_scope v.givens) (given-scope v.givens v.declared) (tables-stand finds_side) v.lacks
