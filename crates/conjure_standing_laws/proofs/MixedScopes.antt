-- Behind the declarations of a specification of the class, each table is declared with its mark: as the laws of flat constraints ask for
-- it, those of constraints over scalars, ranges and nested sets, those of structures, and those of memberships.
use Rattle.std.proofs.Common.{◌≡◌, refl, sym, ap, ◌∙◌, subst, ℕ, Bool, true, false, ◌&&◌, if◌then◌else◌, List, [], ◌∷◌, ◌++◌, ◌⊎◌, inl, inr, map, length, Option, Some, None, option_map, is_some}
use Rattle.std.specs.List.{list_all}
use Rattle.ess_semantics.specs.declared.words.Op2.{Op2}
use Rattle.ess_semantics.specs.Lists.{append_all, is_some_and}
use Rattle.ess_semantics.specs.Values.{Text}
use Rattle.ess_semantics.specs.Order.{same_text}
use Rattle.ess_semantics.specs.Names.{look, keys}
use Rattle.ess_semantics.specs.TableNames.{Named}
use Rattle.ess_semantics.specs.Trees.{Repr, Ex, name_ex, Dom, Stm, ex2}
use Rattle.ess_semantics.specs.DeclaredTables.{TableDecl}
use Rattle.ess_semantics.specs.Meaning.{is_bool_dom}
use Rattle.ess_semantics.specs.ModelMeaning.{declaration_of}
use Rattle.ess_semantics.specs.Prepared.{prepared}
use Rattle.ess_semantics.specs.Judgements.{fault}
use Rattle.ess_semantics.specs.Plans.{Options, givens_side, finds_side, Plan, value_plan, kept_names, plans, plans_for}
use Rattle.ess_semantics.specs.ModelTrees.{no_goal, Model}
use Rattle.ess_semantics.specs.Models.{constraints_of}
use Rattle.ess_semantics.proofs.Tests.{and-left, and-right}
use Rattle.ess_semantics.proofs.Texts.{same_text-equal}
use Rattle.ess_grammar.specs.Models.{Scope, empty_scope, with_given, with_find, scope_behind, is_truth_table, same_truth}
use Rattle.eprime_lowering_laws.specs.Lowerable.{is_lowerable_dom}
use Rattle.conjure_laws.specs.Members.{In}
use Rattle.conjure_laws.specs.SetsOfAtoms.{TypeKind, fixed, sized}
use Rattle.conjure_laws.specs.ModelsOfSets.{size_name, table_of, axis_for}
use Rattle.conjure_laws.specs.Premises.{is_on}
use Rattle.conjure_laws.proofs.Lists.{in-either, in-filtered}
use Rattle.conjure_model_laws.specs.Shown.{Shows, shows_of}
use Rattle.conjure_model_laws.specs.IsBuiltFrom.{taken_names}
use Rattle.ess_flat_models_laws.specs.FlatSpecifications.{has_marks}
use Rattle.ess_seen_laws.specs.Seen.{counted_axes}
use Rattle.ess_lowered_laws.specs.Laws.{Declares, DeclaresSingle}
use Rattle.ess_seen_values_laws.specs.ess_bare_structures_laws.Laws.{AreMarked}
use Rattle.ess_mixed_models_laws.specs.MixedSpecifications.{kinds, places, members_of, is_of_kind, has_printed_name, is_kept_by_members, is_membership, is_nested_plan, are_mixed_statements, types_come_first, have_bounds, is_mixed_specification}
use Rattle.ess_mixed_models_laws.specs.MixedModels.{mixed_decl, mixed_decls, axis_of}
use Rattle.ess_mixed_models_laws.proofs.NamedKinds.{no-yes, no-some, MemberDom, of_numbers, of_truths, of_type}
use Rattle.ess_mixed_models_laws.proofs.MixedCells.{decls}
use Rattle.ess_mixed_models_laws.proofs.ScalarCells.{cells_of_atoms}
use Rattle.ess_mixed_models_laws.proofs.SetFinds.{SetFind, set-of}
use Rattle.conjure_modelling.specs.ess_models.declared.parts.Part.{Part}
use Rattle.conjure_modelling.specs.ess_models.Parts.{scope_of_tables, tables_on, AreDeclared}
use Rattle.conjure_modelling.specs.ess_models.Built.{NoneIsBuilt}
use Rattle.conjure_standing_laws.proofs.NestedFacts.{nested-declared}
use Rattle.conjure_standing_laws.proofs.FoundNested.{mark_of, declared_cells, tables-marked}
use Rattle.conjure_standing_laws.proofs.FilledTables.{size_of, sized_cells}
use Rattle.conjure_standing_laws.proofs.DeclaredScopes.{HasMarks, still-there, found-there, marked-table}
use Rattle.conjure_standing_laws.proofs.StandingDeclarations.{written-marks}
use Rattle.conjure_standing_laws.proofs.MixedTables.{givens-written, finds-written}
use Rattle.conjure_standing_laws.proofs.MixedDeclarations.{table_marks, scalar-marked, size-marked, set-marked, tables-stand, given-scope, givens-come, finds-come}

-- ---- what is said of declared tables

-- A declaration that is found by a name is among them, and has the name.
found-in : (ds : List TableDecl) (n : Text) (D : TableDecl) → declaration_of ds n ≡ Some D → In D ds × (D.name ≡ n)
found-in [] n D e = absurd (no-some e)
found-in (d ∷ ds) n D e = go (same_text d.name n) refl e (found-in ds n D)
  where
    same : (x y : TableDecl) → Some x ≡ Some y → x ≡ y
    same x y q = cc

    go : (b : Bool) → same_text d.name n ≡ b → (if b then Some d else declaration_of ds n) ≡ Some D →
        (declaration_of ds n ≡ Some D → In D ds × (D.name ≡ n)) → In D (d ∷ ds) × (D.name ≡ n)
    go true q e g = let z = same d D e in (inl (sym z), ap (λ t. t.name) (sym z) ∙ same_text-equal d.name n q)
    go false q e g = let r = g e in (inr r.0, r.1)

-- The mark of the declared table of a name.
abbrev mark_at : List TableDecl → Text → Option Bool
mark_at ds n = option_map (λ t. is_bool_dom t.cell) (declaration_of ds n)

-- What is said of a declared table beside the sizes of its axes is its mark.
sized-mark : (ds : List TableDecl) (n : Text) (b : Bool) (k : ℕ) → counted_axes (sized_cells ds) n ≡ Some (b, k) → mark_at ds n ≡ Some b
sized-mark ds n b k e = go (declaration_of ds n) ∙ ap (option_map (λ (m : Bool × ℕ). m.0)) e
  where
    go : (r : Option TableDecl) → option_map (λ t. is_bool_dom t.cell) r
        ≡ option_map (λ (m : Bool × ℕ). m.0) (option_map (λ (c : Bool × List ℕ). (c.0, length c.1)) (option_map size_of r))
    go None = refl
    go (Some t) = refl

-- So it is beside the number of its axes.
counted-mark : (ds : List TableDecl) (n : Text) (b : Bool) (k : ℕ) → declared_cells ds n ≡ Some (b, k) → mark_at ds n ≡ Some b
counted-mark ds n b k e = go (declaration_of ds n) ∙ ap (option_map (λ (m : Bool × ℕ). m.0)) e
  where
    go : (r : Option TableDecl) → option_map (λ t. is_bool_dom t.cell) r ≡ option_map (λ (m : Bool × ℕ). m.0) (option_map mark_of r)
    go None = refl
    go (Some t) = refl

-- ---- the class

-- A model with these declarations, without rules.
abbrev pub declaring : List TableDecl → List TableDecl → Model
declaring gs fs = record { givens = gs; finds = fs; goal = no_goal; rules = [] }

module _ (S : List Stm) (o : Options) where
  -- What the declarations declare: they are those of the plans; single cells of scalars have their marks; all tables have the marks that
  -- are said of them beside the sizes of their axes, and beside the number of these, as is said of those of nested sets; and tables of sets
  -- by which members occur hold truth values, over domains of models.
  pub record DeclaresAll (gs fs : List TableDecl) : Type 0 where
    pub givens : gs ≡ map (mixed_decl (kinds S) (plans S o)) (plans_for givens_side S o)
    pub finds : fs ≡ append_all (map (mixed_decls (kinds S) (plans S o)) (plans_for finds_side S o))
    pub scalars : DeclaresSingle (scope_of_tables gs fs) (cells_of_atoms (plans S o))
    pub sized : Declares (scope_of_tables gs fs) (counted_axes (sized_cells (gs ++ fs)))
    pub counted : Declares (scope_of_tables gs fs) (declared_cells (gs ++ fs))
    pub marked : (x : Text) (r : Repr) (d : Dom) (ns : List Named) → In (value_plan finds_side x r d ns) (plans S o) →
        is_nested_plan (kinds S) (value_plan finds_side x r d ns) ≡ true → AreMarked (declared_cells (gs ++ fs)) r d (keys ns)
    pub members : (e : Ex) (x : Text) → is_membership S o (ex2 true Op2.Member e (name_ex x)) ≡ true →
        is_truth_table (scope_of_tables gs fs) (table_of (plans S o) x) ≡ true
    pub axes : (A : Dom) → MemberDom (kinds S) A → is_lowerable_dom (scope_of_tables gs fs) false (axis_of S o A) ≡ true

  module _ (h : are_mixed_statements S o ≡ true) (f : fault S ≡ None) (ts : types_come_first [] (prepared S) ≡ true)
      (bs : have_bounds (plans S o) [] (prepared S) ≡ true) where
    abbrev Ps : List Plan
    Ps = plans S o

    abbrev sh : Shows
    sh = shows_of S o

    abbrev marks : Text → Option Bool
    marks = table_marks S o h

    module _ (gs fs : List TableDecl) (d : AreDeclared (taken_names S o) sh Ps gs fs) where
      abbrev given_scope : Scope
      given_scope = scope_behind with_given empty_scope gs

      abbrev whole : Scope
      whole = scope_of_tables gs fs

      givens-are : gs ≡ map (mixed_decl (kinds S) Ps) (plans_for givens_side S o)
      givens-are = givens-written S o h f ts bs with_given empty_scope gs d.givens

      finds-are : fs ≡ append_all (map (mixed_decls (kinds S) Ps) (plans_for finds_side S o))
      finds-are = finds-written S o h f ts bs with_find given_scope fs d.finds

      all-are : gs ++ fs ≡ decls S o h
      all-are = ap (λ l. l ++ fs) givens-are ∙ ap (λ l. map (mixed_decl (kinds S) Ps) (plans_for givens_side S o) ++ l) finds-are

      whole-marks : HasMarks marks whole
      whole-marks =
          written-marks marks (taken_names S o) sh.next with_find (λ s D a. refl) (tables_on (taken_names S o) sh Ps finds_side) fs
          given_scope (given-scope S o h f ts bs gs d.givens) (tables-stand S o h f ts bs finds_side) d.finds

      -- A table that has a mark is there.
      table-there : (D : TableDecl) → In D (gs ++ fs) → is_some (look whole.tables D.name) ≡ true
      table-there D i = go (in-either D gs fs i)
        where
          go : In D gs ⊎ In D fs → is_some (look whole.tables D.name) ≡ true
          go (inl j) =
              still-there with_find (λ s D a. refl) fs given_scope D.name (found-there with_given (λ s D a. refl) gs empty_scope D j)
          go (inr j) = found-there with_find (λ s D a. refl) fs given_scope D j

      name-there : (n : Text) (b : Bool) → marks n ≡ Some b → is_some (look whole.tables n) ≡ true
      name-there n b e = go (declaration_of (decls S o h) n) refl e
        where
          go : (r : Option TableDecl) → declaration_of (decls S o h) n ≡ r → option_map (λ t. is_bool_dom t.cell) r ≡ Some b →
              is_some (look whole.tables n) ≡ true
          go None q e = absurd (no-some e)
          go (Some D) q e =
              let r = found-in (decls S o h) n D q in
              subst (λ n. is_some (look whole.tables n) ≡ true) r.1 (table-there D (subst (In D) (sym all-are) r.0))

      -- So each table is declared with its mark.
      pub whole-declares : DeclaresSingle whole marks
      whole-declares n b e = marked-table marks whole whole-marks n b (name-there n b e) e

      same-mark : (n : Text) (b : Bool) → mark_at (gs ++ fs) n ≡ Some b → marks n ≡ Some b
      same-mark n b e = ap (λ ds. mark_at ds n) (sym all-are) ∙ e

      -- ---- nested sets

      nested-marked : (x : Text) (r : Repr) (d : Dom) (ns : List Named) → In (value_plan finds_side x r d ns) Ps →
          is_nested_plan (kinds S) (value_plan finds_side x r d ns) ≡ true → AreMarked (declared_cells (gs ++ fs)) r d (keys ns)
      nested-marked x r d ns i k =
          tables-marked (gs ++ fs) r d (keys ns)
          (nested-declared S o h (declaring gs fs) givens-are finds-are x r d ns
          (in-filtered (is_on finds_side) (value_plan finds_side x r d ns) Ps i refl) k).tables

      -- ---- sets by which members occur

      -- The table of such a set.
      set-declares : (x : Text) (A : Dom) → SetFind S o h x A → is_truth_table whole (table_of Ps x) ≡ true
      set-declares x A w = whole-declares (table_of Ps x) true (set-marked S o h f x A w)

      member-declares : (e : Ex) (x : Text) → is_membership S o (ex2 true Op2.Member e (name_ex x)) ≡ true →
          is_truth_table whole (table_of Ps x) ≡ true
      member-declares e x w = go (members_of (look (kept_names S) x)) refl w
        where
          go : (r : Option Dom) → members_of (look (kept_names S) x) ≡ r →
              is_some_and r (is_of_kind (places S) e) && (has_printed_name S o && is_kept_by_members S o x) ≡ true →
              is_truth_table whole (table_of Ps x) ≡ true
          go None q w = absurd (no-yes w)
          go (Some A) q w =
              let y : Bool = has_printed_name S o in
              let z : Bool = is_kept_by_members S o x in
              set-declares x A (set-of S o h x A q (and-right y z (and-right (is_of_kind (places S) e A) (y && z) w)))

      -- Its axis is a domain of models.
      axis-declares : (A : Dom) → MemberDom (kinds S) A → is_lowerable_dom whole false (axis_of S o A) ≡ true
      axis-declares A of_numbers = refl
      axis-declares A of_truths = refl
      axis-declares A (of_type {t = t} {k = k} q) =
          subst (λ z. is_lowerable_dom whole false (axis_for Ps t z) ≡ true) (sym q) (go k q)
        where
          go : (j : TypeKind) → look (kinds S) t ≡ Some j → is_lowerable_dom whole false (axis_for Ps t (Some j)) ≡ true
          go (fixed n) e = refl
          go sized e = ap (λ b. (same_truth false b && true) && true)
              (whole-declares (size_name Ps t) false (size-marked S o h t e))

      declares-all : DeclaresAll gs fs
      declares-all = record {
        givens = givens-are;
        finds = finds-are;
        scalars = λ n b e. whole-declares n b (scalar-marked S o h n b e);
        sized = λ n b k e. whole-declares n b (same-mark n b (sized-mark (gs ++ fs) n b k e));
        counted = λ n b k e. whole-declares n b (same-mark n b (counted-mark (gs ++ fs) n b k e));
        marked = nested-marked;
        members = member-declares;
        axes = axis-declares;
      }

  -- ---- of the class

  -- The tests that make the class, but for those of constraints.
  pub of-class : is_mixed_specification S o ≡ true →
      (are_mixed_statements S o ≡ true) × (types_come_first [] (prepared S) ≡ true) × (have_bounds (plans S o) [] (prepared S) ≡ true)
  of-class w =
      let a : Bool = are_mixed_statements S o in
      let t : Bool = types_come_first [] (prepared S) in
      let b : Bool = have_bounds (plans S o) [] (prepared S) in
      let c : Bool = list_all (has_marks (plans S o)) (constraints_of S) in
      let r = and-right a (t && (b && c)) w in
      (and-left a (t && (b && c)) w, and-left t (b && c) r, and-left b c (and-right t (b && c) r))

  module _ (f : fault S ≡ None) (w : is_mixed_specification S o ≡ true) where
    -- The givens are declared.
    pub mixed-givens-come : NoneIsBuilt S o Part.Givens → ⊥
    mixed-givens-come = let r = of-class w in givens-come S o r.0 f r.1 r.2

    -- So are the finds behind them.
    pub mixed-finds-come : NoneIsBuilt S o Part.Finds → ⊥
    mixed-finds-come = let r = of-class w in finds-come S o r.0 f r.1 r.2

    -- Behind declarations that are written each table is declared as it is asked for.
    pub mixed-declares : (gs fs : List TableDecl) → AreDeclared (taken_names S o) (shows_of S o) (plans S o) gs fs → DeclaresAll gs fs
    mixed-declares gs fs d = let r = of-class w in declares-all r.0 f r.1 r.2 gs fs d
