-- Models of specifications of sets of atoms: the declarations are those of tables of truth values over the members, and the rule of a
-- constraint that a value is in a find is any tree that is written for the membership.
use Rattle.std.specs.Prelude.{◌≡◌, ℕ, List, [], ◌∷◌, map, codes}
use Rattle.ess_semantics.specs.Values.{Text}
use Rattle.ess_semantics.specs.Names.{Names}
use Rattle.ess_semantics.specs.Trees.{Ex, number_ex, truth_ex, Dom, bool_dom, find}
use Rattle.ess_semantics.specs.Plans.{Plan, size_plan, value_plan, finds_side, plans, plans_for}
use Rattle.ess_semantics.specs.DeclaredTables.{TableDecl}
use Rattle.ess_repr_declare_laws.specs.DeclaredTrees.{axis_dom}
use Rattle.ess_semantics.specs.ModelTrees.{Model, no_goal}
use Rattle.conjure_laws.specs.Members.{In}
use Rattle.conjure_laws.specs.SetsOfAtoms.{Atom, Lit, num, truth_lit, value_name, Line, holds_lit, sets_of, spec, TypeKind, none_declared, after_all}
use Rattle.conjure_laws.specs.ModelsOfSets.{no_options, first_name, table_of, axis_of_set, decl_of, number_of, model_of}
use Rattle.ess_member_rules_laws.specs.WrittenForms.{Written}

-- A literal over tables: a value of a type by its position.
abbrev pub shown_literal : Names (Text × ℕ) → Lit → Ex
shown_literal vs (num k) = number_ex k
shown_literal vs (truth_lit b) = truth_ex b
shown_literal vs (value_name n) = number_ex (number_of vs (value_name n))

module _ (T : List Line) where
  -- The types, the values of enumerated types, and the plans.
  abbrev pub kinds : Names TypeKind
  kinds = (after_all T none_declared).types

  abbrev pub places : Names (Text × ℕ)
  places = (after_all T none_declared).values

  abbrev pub planned : List Plan
  planned = plans (spec T) no_options

  -- The domain of a set's members over tables.
  abbrev pub axis_at : Atom → Dom
  axis_at A = axis_of_set kinds planned (sets_of A)

  -- What is declared of a plan: a size, or a table over the members, where an axis of truth values is one of 0 and 1.
  abbrev pub table_decl : Plan → TableDecl
  table_decl (size_plan t n) = decl_of kinds planned (size_plan t n)
  table_decl (value_plan f x r d ns) = record { name = first_name ns; axes = axis_dom (axis_of_set kinds planned d) ∷ []; cell = bool_dom }

  -- The rule is written for the membership of the literal in the find.
  pub record IsRuleOf (l : Lit) (x : Text) (r : Ex) : Type 0 where
    pub atom : Atom
    pub found : In (find x (sets_of atom)) (spec T)
    pub written : Written (table_of planned x) (axis_at atom) (shown_literal places l) (codes "q1") r

  -- The rules of all constraints, in order.
  abbrev pub AreRulesOf : List Line → List Ex → Type 0
  AreRulesOf [] [] = Unit {0}
  AreRulesOf [] (r ∷ rs) = ⊥
  AreRulesOf (holds_lit l x ∷ U) [] = ⊥
  AreRulesOf (holds_lit l x ∷ U) (r ∷ rs) = IsRuleOf l x r × AreRulesOf U rs
  AreRulesOf (l ∷ U) rs = AreRulesOf U rs

  -- A model of the specification.
  pub record IsMemberModel (E : Model) : Type 0 where
    pub givens : E.givens ≡ (model_of T).givens
    pub finds : E.finds ≡ map table_decl (plans_for finds_side (spec T) no_options)
    pub goal : E.goal ≡ no_goal
    pub rules : AreRulesOf T E.rules
