-- No part of the model of a specification of scalars lacks: its declarations are written, and something comes of each of its rules and of
-- its objective.
use Rattle.std.proofs.Common.{◌≡◌, refl, sym, ap, ◌∙◌, subst, ℕ, Bool, true, false, List, [], ◌∷◌, ◌++◌, inl, map, Option, Some, None, option_map, is_some}
use Rattle.std.specs.List.{list_all}
use Rattle.ess_semantics.specs.Lists.{append_all}
use Rattle.ess_semantics.specs.Values.{Text}
use Rattle.ess_semantics.specs.Names.{look}
use Rattle.ess_semantics.specs.Trees.{Ex, truth_ex, Dom, Stm, given, let_ex, let_dom, needs, find, such_that, minimise, maximise}
use Rattle.ess_semantics.specs.Contexts.{Each}
use Rattle.ess_semantics.specs.DeclaredTables.{TableDecl}
use Rattle.ess_semantics.specs.Meaning.{is_bool_dom}
use Rattle.ess_semantics.specs.Prepared.{prepared}
use Rattle.ess_semantics.specs.Judgements.{fault}
use Rattle.ess_semantics.specs.Solutions.{finds}
use Rattle.ess_semantics.specs.Plans.{Options, Side, givens_side, finds_side, Plan, value_plan, value_names, plans, plans_for}
use Rattle.ess_semantics.specs.ModelTrees.{Goal, no_goal, least, greatest, goal_of}
use Rattle.ess_semantics.specs.Models.{constraints_of, with_cells}
use Rattle.ess_semantics.proofs.Tests.{and-left, and-right}
use Rattle.ess_grammar.specs.Models.{Scope, empty_scope, with_given, with_find, scope_behind}
use Rattle.conjure_laws.specs.Members.{In}
use Rattle.conjure_laws.specs.Premises.{is_on}
use Rattle.conjure_laws.proofs.Lists.{at-item, all-items, in-map, in-filter, in-filtered, in-right, each-map}
use Rattle.conjure_settled_laws.proofs.SettledStatements.{typed-is-settled}
use Rattle.conjure_model_laws.specs.Shown.{Shows, shows_of}
use Rattle.conjure_model_laws.specs.IsBuiltFrom.{constraint_tree, condition_tree, objective_tree, declared_of, taken_names}
use Rattle.ess_flat_laws.specs.Flat.{Flat, none_marked, truth as truth_is}
use Rattle.ess_flat_models_laws.specs.FlatSpecifications.{are_bounded, scalar_mark, is_flat_truth, is_flat_statement, are_flat_statements}
use Rattle.ess_flat_models_laws.specs.FlatModels.{decl_of}
use Rattle.ess_flat_models_laws.proofs.PreparedStatements.{truth-flat}
use Rattle.ess_flat_models_laws.proofs.ScalarDomains.{Atom}
use Rattle.ess_flat_models_laws.proofs.FlatPlans.{AtomPlan, all-atoms, some-atoms, found-plan}
use Rattle.ess_flat_models_laws.proofs.FlatNames.{no-yes}
use Rattle.ess_flat_models_laws.proofs.FlatBounds.{plan-bounds}
use Rattle.ess_flat_models_laws.proofs.FlatDeclared.{bool-stays, cells, declared-cell, planned, given-cells}
use Rattle.ess_flat_models_laws.proofs.FlatGoals.{FlatGoal, flat-goal}
use Rattle.ess_flat_models_laws.proofs.FlatTexts.{each-mapped}
use Rattle.ess_lowered_laws.specs.Laws.{DeclaresSingle}
use Rattle.conjure_modelling.specs.ess_model_trees.Written.{ComesFrom, next_behind}
use Rattle.conjure_modelling.specs.ess_model_written.Answered.{OneLacks}
use Rattle.conjure_modelling.specs.ess_model_written.RulesWritten.{TreeComes, ConstraintComes, NoneComes, no_condition, no_objective, GoalLacks}
use Rattle.conjure_modelling.specs.ess_model_written.Coming.{DeclsAreWritten}
use Rattle.conjure_modelling.specs.ess_model_finds.Finds.{asked_of}
use Rattle.conjure_modelling.specs.ess_models.declared.parts.Part.{Part}
use Rattle.conjure_modelling.specs.ess_models.Parts.{scope_of_tables, tables_on, AreDeclared, RulesLack, RuleLacks}
use Rattle.conjure_modelling.specs.ess_models.Built.{NoneIsBuilt}
use Rattle.conjure_standing_laws.proofs.FlatComes.{flat-comes}
use Rattle.conjure_standing_laws.proofs.BuiltModels.{simple, all-declared, side-written, over-cells, tree-is, objective-is, condition-is, no-channels, nothing-asked}
use Rattle.conjure_standing_laws.proofs.DeclaredScopes.{HasMarks, empty-marks, still-there, found-there, marked-table}
use Rattle.conjure_standing_laws.proofs.StandingDeclarations.{DeclStands, written-marks, decls-come}
use Rattle.conjure_standing_laws.proofs.FlatDeclarations.{scalar-stands}

-- Of one that is among several trees something comes, where of each of them something does.
pub none-lacks : (C : Ex → Option Ex → Type 0) (cs : List Ex) → Each cs (λ c. C c None → ⊥) → OneLacks C cs → ⊥
none-lacks C cs h v =
    at-item (λ c. C c None → ⊥) (v.before ++ v.item ∷ v.behind) v.item (subst (λ l. Each l (λ c. C c None → ⊥)) v.is h)
    (in-right v.item v.before (v.item ∷ v.behind) (inl refl)) v.nothing

-- The constraints of statements of the class are flat truth values.
flat-constraints : (Ps : List Plan) (o : Options) (T : List Stm) → list_all (is_flat_statement Ps o) T ≡ true →
    Each (constraints_of T) (λ e. Flat (scalar_mark Ps) none_marked e true)
flat-constraints Ps o [] h = tt
flat-constraints Ps o (given x d ∷ T) h = flat-constraints Ps o T (and-right (is_flat_statement Ps o (given x d)) _ h)
flat-constraints Ps o (find x d ∷ T) h = flat-constraints Ps o T (and-right (is_flat_statement Ps o (find x d)) _ h)
flat-constraints Ps o (needs e ∷ T) h = flat-constraints Ps o T (and-right (is_flat_statement Ps o (needs e)) _ h)
flat-constraints Ps o (let_ex x e ∷ T) h = flat-constraints Ps o T (and-right (is_flat_statement Ps o (let_ex x e)) _ h)
flat-constraints Ps o (let_dom x d ∷ T) h = flat-constraints Ps o T (and-right (is_flat_statement Ps o (let_dom x d)) _ h)
flat-constraints Ps o (minimise e ∷ T) h = flat-constraints Ps o T (and-right (is_flat_statement Ps o (minimise e)) _ h)
flat-constraints Ps o (maximise e ∷ T) h = flat-constraints Ps o T (and-right (is_flat_statement Ps o (maximise e)) _ h)
flat-constraints Ps o (such_that e ∷ T) h = (
  truth-flat Ps e (and-left (is_flat_truth Ps e) (list_all (is_flat_statement Ps o) T) h),
  flat-constraints Ps o T (and-right (is_flat_truth Ps e) _ h),
)
flat-constraints Ps o (s ∷ T) h = absurd (no-yes h)

module _ (S : List Stm) (o : Options) (h : are_flat_statements S o ≡ true) (b : are_bounded (plans S o) [] (prepared S) ≡ true)
    (t : fault S ≡ None) where
  abbrev Ps : List Plan
  Ps = plans S o

  abbrev sh : Shows
  sh = shows_of S o

  abbrev taken : List Text
  taken = taken_names S o

  abbrev Cells : Text → Option Bool
  Cells = cells S o h

  abbrev Scalar : TableDecl → Type 0
  Scalar = DeclStands Cells taken sh.next

  -- ---- declarations

  decl-scalar : (P : Plan) → AtomPlan P → In P Ps → Scalar (decl_of Ps P)
  decl-scalar P w i =
      let j : In (value_plan w.f w.x Atom w.d ((w.n, 0) ∷ [])) Ps = subst (λ P. In P Ps) w.is i in
      scalar-stands Ps Cells (given-cells S o h) taken sh.next (simple S o h b t) (decl_of Ps P) (record {
        n = w.n;
        d = w.d;
        is = ap (decl_of Ps) w.is;
        scalar = plan-bounds S o h w.f w.x w.d w.n j;
        mark = ap (option_map (λ d. is_bool_dom d.cell)) (declared-cell S o h w.f w.x w.d w.n j) ∙ ap (λ c. Some c) (bool-stays Ps w.d);
      })

  decls-scalar : (f : Side) → Each (map (decl_of Ps) (plans_for f S o)) Scalar
  decls-scalar f = each-mapped (decl_of Ps) Scalar (plans_for f S o)
      (all-items (λ P. Scalar (decl_of Ps P)) (plans_for f S o)
      (λ P i. let j = (in-filter (is_on f) P Ps i).0 in decl-scalar P (at-item AtomPlan Ps P (all-atoms S o h) j) j))

  tables-are : (Qs : List Plan) → Each Qs (λ P. declared_of sh P ≡ decl_of Ps P ∷ []) →
      append_all (map (declared_of sh) Qs) ≡ map (decl_of Ps) Qs
  tables-are [] d = refl
  tables-are (P ∷ Qs) d =
      ap (λ l. l ++ append_all (map (declared_of sh) Qs)) d.0 ∙ ap (λ l. decl_of Ps P ∷ l) (tables-are Qs d.1)

  side-is : (f : Side) → tables_on taken sh Ps f ≡ map (decl_of Ps) (plans_for f S o)
  side-is f = tables-are (plans_for f S o) (all-declared S o h b t f)

  side-scalar : (f : Side) → Each (tables_on taken sh Ps f) Scalar
  side-scalar f = subst (λ l. Each l Scalar) (sym (side-is f)) (decls-scalar f)

  -- Behind declarations that are written for the givens each name that is declared is a cell with its mark.
  given-marks : (gs : List TableDecl) → DeclsAreWritten with_given taken sh.next empty_scope (tables_on taken sh Ps givens_side) gs →
      HasMarks Cells (scope_behind with_given empty_scope gs)
  given-marks gs w =
      written-marks Cells taken sh.next with_given (λ s D a. refl)
      (tables_on taken sh Ps givens_side) gs empty_scope (empty-marks Cells) (side-scalar givens_side) w

  -- ---- what is declared behind all of them

  module _ (gs fs : List TableDecl) (d : AreDeclared taken sh Ps gs fs) where
    abbrev given_scope : Scope
    given_scope = scope_behind with_given empty_scope gs

    abbrev whole_scope : Scope
    whole_scope = scope_of_tables gs fs

    whole-marks : HasMarks Cells whole_scope
    whole-marks =
        written-marks Cells taken sh.next with_find (λ s D a. refl)
        (tables_on taken sh Ps finds_side) fs given_scope (given-marks gs d.givens) (side-scalar finds_side) d.finds

    -- The cell of a plan is.
    cell-there : (f : Side) (x : Text) (c : Dom) (n : Text) → In (value_plan f x Atom c ((n, 0) ∷ [])) Ps →
        is_some (look whole_scope.tables n) ≡ true
    cell-there givens_side x c n i =
        let P : Plan = value_plan givens_side x Atom c ((n, 0) ∷ []) in
        still-there with_find (λ s D a. refl) fs given_scope n
        (found-there with_given (λ s D a. refl) gs empty_scope (decl_of Ps P)
        (subst (λ l. In (decl_of Ps P) l) (sym (side-written S o h b t givens_side with_given empty_scope gs d.givens))
        (in-map (decl_of Ps) P (plans_for givens_side S o) (in-filtered (is_on givens_side) P Ps i refl))))
    cell-there finds_side x c n i =
        let P : Plan = value_plan finds_side x Atom c ((n, 0) ∷ []) in
        found-there with_find (λ s D a. refl) fs given_scope (decl_of Ps P)
        (subst (λ l. In (decl_of Ps P) l) (sym (side-written S o h b t finds_side with_find given_scope fs d.finds))
        (in-map (decl_of Ps) P (plans_for finds_side S o) (in-filtered (is_on finds_side) P Ps i refl)))

    -- So each cell is, with its mark.
    whole-declares : DeclaresSingle whole_scope Cells
    whole-declares n m e =
        let p = planned S o h n m e in
        marked-table Cells whole_scope whole-marks n m (cell-there p.f p.x p.d n p.planned) e

    -- ---- rules

    tree-comes : (k : ℕ) (r e : Ex) (m : Bool) → r ≡ with_cells Ps e → Flat (scalar_mark Ps) none_marked e m →
        ComesFrom whole_scope taken k r None → ⊥
    tree-comes k r e m q f v =
        flat-comes Cells whole_scope taken whole-declares k (with_cells Ps e) m (over-cells S o h b t e m f)
        (subst (λ z. ComesFrom whole_scope taken k z None) q v)

    true-comes : (k : ℕ) (r : Ex) → r ≡ truth_ex true → ComesFrom whole_scope taken k r None → ⊥
    true-comes k r q v =
        flat-comes Cells whole_scope taken whole-declares k (truth_ex true) true truth_is
        (subst (λ z. ComesFrom whole_scope taken k z None) q v)

    structure-comes : (r : Ex) → r ≡ truth_ex true → TreeComes whole_scope taken sh.next r None → ⊥
    structure-comes r q v = true-comes sh.next (truth_ex true) refl (subst (λ z. TreeComes whole_scope taken sh.next z None) q v)

    constraint-comes : (e : Ex) → Flat (scalar_mark Ps) none_marked e true → ConstraintComes whole_scope taken sh e None → ⊥
    constraint-comes e f v = tree-comes (next_behind sh e) (constraint_tree sh e) e true (tree-is S o h b t e f) f v

    both-come : (e : Ex) → Flat (scalar_mark Ps) none_marked e false → NoneComes whole_scope taken sh e → ⊥
    both-come e f (no_condition v) = true-comes (next_behind sh e) (condition_tree sh e) (condition-is S o h b t e f) v
    both-come e f (no_objective v) = tree-comes (next_behind sh e) (objective_tree sh e) e false (objective-is S o h b t e f) f v

    goal-comes : (g : Goal) → FlatGoal Ps g → GoalLacks whole_scope taken sh g → ⊥
    goal-comes no_goal f v = absurd v
    goal-comes (least e) f v = both-come e f v
    goal-comes (greatest e) f v = both-come e f v

    -- Something comes of the rules of each part.
    no-rule-lacks : (p : Part) → RuleLacks taken sh Ps (value_names finds_side S) (prepared S) whole_scope p → ⊥
    no-rule-lacks Part.Givens v = absurd v
    no-rule-lacks Part.Finds v = absurd v
    no-rule-lacks Part.Structures v =
        none-lacks (TreeComes whole_scope taken sh.next) (map (asked_of sh) (plans_for finds_side S o))
        (each-map (map (asked_of sh) (plans_for finds_side S o)) (λ c. c ≡ truth_ex true)
        (λ c. TreeComes whole_scope taken sh.next c None → ⊥) structure-comes
        (nothing-asked S o h b t (plans_for finds_side S o) (some-atoms S o h (is_on finds_side)))) v
    no-rule-lacks Part.Channels v =
        none-lacks (TreeComes whole_scope taken sh.next) [] tt
        (subst (OneLacks (TreeComes whole_scope taken sh.next))
        (no-channels S o h b t (finds S) (λ x i. found-plan S o h x (typed-is-settled S t).distinct i)) v)
    no-rule-lacks Part.Objective v = goal-comes (goal_of (prepared S)) (flat-goal Ps o (prepared S) h) v
    no-rule-lacks Part.Constraints v =
        none-lacks (ConstraintComes whole_scope taken sh) (constraints_of (prepared S))
        (each-map (constraints_of (prepared S)) (λ e. Flat (scalar_mark Ps) none_marked e true)
        (λ e. ConstraintComes whole_scope taken sh e None → ⊥) constraint-comes (flat-constraints Ps o (prepared S) h)) v

  -- ---- all parts

  rules-come : (p : Part) → RulesLack taken sh Ps (value_names finds_side S) (prepared S) p → ⊥
  rules-come p v = no-rule-lacks v.givens v.finds v.declared p v.lacks

  -- So no part lacks.
  pub no-part-lacks : (p : Part) → NoneIsBuilt S o p → ⊥
  no-part-lacks Part.Givens v =
      decls-come Cells taken sh.next with_given (λ s D a. refl)
      (tables_on taken sh Ps givens_side) empty_scope (empty-marks Cells) (side-scalar givens_side) v
  no-part-lacks Part.Finds v =
      decls-come Cells taken sh.next with_find (λ s D a. refl)
      (tables_on taken sh Ps finds_side) (scope_behind with_given empty_scope v.givens) (given-marks v.givens v.declared)
      (side-scalar finds_side) v.lacks
  no-part-lacks Part.Structures v = rules-come Part.Structures v
  no-part-lacks Part.Channels v = rules-come Part.Channels v
  no-part-lacks Part.Objective v = rules-come Part.Objective v
  no-part-lacks Part.Constraints v = rules-come Part.Constraints v
