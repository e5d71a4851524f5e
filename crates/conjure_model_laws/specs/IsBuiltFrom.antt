-- What a model is made of: its header, its declarations by the plans, its objective, and its rules in order. Each expression of the
-- model is led to by rules of rewriting from a tree that is made of the specification.
use Rattle.std.specs.Prelude.{◌≡◌, true, false, List, [], ◌∷◌, ◌++◌, map, filter, pos, IsTrue}
use Rattle.ess_semantics.specs.declared.words.Op2.{Op2}
use Rattle.ess_semantics.specs.Lists.{append_all}
use Rattle.ess_semantics.specs.Values.{Text}
use Rattle.ess_semantics.specs.Names.{Names, keys}
use Rattle.ess_semantics.specs.Trees.{low_end, Ex, Exs, number_ex, truth_ex, no_exs, more_exs, Dom, bool_dom, int_dom, Stm, ex2}
use Rattle.ess_semantics.specs.Types.{Ty}
use Rattle.ess_semantics.specs.Typed.{Typed}
use Rattle.ess_semantics.specs.DeclaredTables.{TableDecl}
use Rattle.ess_semantics.specs.Refined.{is_refined}
use Rattle.ess_semantics.specs.Simplified.{is_simplified}
use Rattle.ess_semantics.specs.Prepared.{prepared}
use Rattle.ess_semantics.specs.Plans.{Options, Side, givens_side, finds_side, Plan, size_plan, value_plan, plans, plans_for, names_of_plans, value_names, is_plan_of}
use Rattle.ess_semantics.specs.ModelTrees.{Header, Goal, no_goal, least, greatest, Model, header_of, goal_of}
use Rattle.ess_semantics.specs.Models.{constraints_of}
use Rattle.ess_rules_laws.specs.Rewriting.{Rewritten}
use Rattle.ess_repr_laws.specs.Structure.{structure}
use Rattle.ess_repr_declare_laws.specs.SizeTerms.{size_terms}
use Rattle.ess_repr_declare_laws.specs.DeclaredTrees.{decl, trees_below}
use Rattle.ess_guard_laws.specs.Guard.{has_value, make_total, make_natural}
use Rattle.conjure_laws.specs.SideBySide.{Along}
use Rattle.conjure_model_laws.specs.ToldApart.{reserved, told_apart}
use Rattle.conjure_model_laws.specs.Shown.{Shows, shown, view_by, domain_shown, shows_of}
use Rattle.conjure_model_laws.specs.Printed.{printed}

-- ---- the trees that are made of a specification

-- A constraint or an objective over tables, with its bound names told apart from one another and from those in declared domains. Two
-- reserved names are kept for conditions.
abbrev pub tree_of : Shows → Ex → Ex
tree_of sh e = shown sh (told_apart sh.next e)

-- A constraint, whose undefined terms are done away with.
abbrev pub constraint_tree : Shows → Ex → Ex
constraint_tree sh e = make_natural (reserved 0) (reserved 1) (tree_of sh e)

-- That an objective has a value.
abbrev pub condition_tree : Shows → Ex → Ex
condition_tree sh e = has_value (reserved 0) (reserved 1) (tree_of sh e)

-- An objective, which isn't asked where it has no value.
abbrev pub objective_tree : Shows → Ex → Ex
objective_tree sh e = make_total (reserved 0) (reserved 1) (tree_of sh e)

-- That the tables of a plan are canonical.
abbrev pub structure_tree : Shows → Plan → Ex
structure_tree sh (size_plan t n) = truth_ex true
structure_tree sh (value_plan f x r d ns) =
    structure reserved size_terms r (domain_shown sh (value_plan f x r d ns)) (keys ns) sh.next no_exs

-- That the first view of a find and each further one stand for one value.
abbrev pub channel_trees : Shows → List Plan → List Ex
channel_trees sh [] = []
channel_trees sh (P ∷ Qs) = map (λ Q. ex2 true Op2.Eq (view_by (domain_shown sh P) P) (view_by (domain_shown sh Q) Q)) Qs

-- Those of all finds.
abbrev pub all_channel_trees : List Stm → Options → List Ex
all_channel_trees S o = append_all (map (λ x. channel_trees (shows_of S o) (filter (is_plan_of x) (plans S o))) (value_names finds_side S))

-- Tables with these names in the place of the ends of names.
abbrev pub with_whole_names : List Text → List TableDecl → List TableDecl
with_whole_names (a ∷ ns) (t ∷ ts) = decl a t.axes t.cell ∷ with_whole_names ns ts
with_whole_names _ _ = []

-- The declared tables of a plan, before their bounds are refined. The number of values of a given type is at least 1.
abbrev pub declared_of : Shows → Plan → List TableDecl
declared_of sh (size_plan t n) = decl n [] (int_dom (low_end ∷ []) (more_exs (number_ex (pos 1)) no_exs)) ∷ []
declared_of sh (value_plan f x r d ns) = with_whole_names (keys ns) (trees_below false r (domain_shown sh (value_plan f x r d ns)))

-- Those of all finds, or of all givens.
abbrev pub all_declared_of : Side → List Stm → Options → List TableDecl
all_declared_of f S o = append_all (map (declared_of (shows_of S o)) (plans_for f S o))

-- The names that the model declares, which no printed name is.
abbrev pub taken_names : List Stm → Options → List Text
taken_names S o = keys (names_of_plans (plans S o))

-- ---- from trees to what is written

-- R are the rules, at a place where names have these types.
module _ (R : Names Ty → Ex → Ex → Type 0) (taken : List Text) where
  -- The expression is written for a tree: rules lead to one in which nothing abstract and nothing needless is left, and bound names
  -- are printed.
  abbrev pub IsWrittenFor : Ex → Ex → Type 0
  IsWrittenFor old new =
      (last : Ex) × Rewritten Typed R [] old last × IsTrue (is_refined last) × IsTrue (is_simplified last) × (new ≡ printed taken last [])

  -- The same, but that `true` isn't written.
  abbrev pub AreWrittenFor : Ex → List Ex → Type 0
  AreWrittenFor old [] = Rewritten Typed R [] old (truth_ex true)
  AreWrittenFor old (r ∷ []) = IsWrittenFor old r
  AreWrittenFor old rs = ⊥

  -- Bounds are written for bounds.
  abbrev pub BoundsAreWrittenFor : Exs → Exs → Type 0
  BoundsAreWrittenFor no_exs no_exs = Unit {0}
  BoundsAreWrittenFor (more_exs e es) (more_exs f fs) = IsWrittenFor e f × BoundsAreWrittenFor es fs
  BoundsAreWrittenFor es fs = ⊥

  -- A domain of numbers or truth values is written for one.
  abbrev pub DomIsWrittenFor : Dom → Dom → Type 0
  DomIsWrittenFor bool_dom bool_dom = Unit {0}
  DomIsWrittenFor (int_dom rs es) (int_dom ss fs) = (rs ≡ ss) × BoundsAreWrittenFor es fs
  DomIsWrittenFor d e = ⊥

  -- A declaration is written for one.
  abbrev pub DeclIsWrittenFor : TableDecl → TableDecl → Type 0
  DeclIsWrittenFor t u = (t.name ≡ u.name) × Along t.axes u.axes DomIsWrittenFor × DomIsWrittenFor t.cell u.cell

  -- The objective is written for that of the specification, with the rule that it has a value.
  abbrev pub GoalIsWrittenFor : Shows → Goal → Goal → List Ex → Type 0
  GoalIsWrittenFor sh no_goal no_goal rs = rs ≡ []
  GoalIsWrittenFor sh (least e) (least f) (r ∷ []) = IsWrittenFor (condition_tree sh e) r × IsWrittenFor (objective_tree sh e) f
  GoalIsWrittenFor sh (greatest e) (greatest f) (r ∷ []) = IsWrittenFor (condition_tree sh e) r × IsWrittenFor (objective_tree sh e) f
  GoalIsWrittenFor sh g h rs = ⊥

-- ---- models

-- The model with this header is built from the specification with these options, by the rules R. Its rules stand in this order: the
-- structure of each find's tables, where it isn't `true`; that further views stand for what the first one does; that the objective
-- has a value; and the constraints.
pub record IsBuiltFrom (R : Names Ty → Ex → Ex → Type 0) (S : List Stm) (o : Options) (H : Header) (E : Model) : Type 0 where
  pub structures : List (List Ex)
  pub channels : List Ex
  pub goals : List Ex
  pub constraints : List Ex
  pub header : H ≡ header_of S o
  pub givens : Along (all_declared_of givens_side S o) E.givens (DeclIsWrittenFor R (taken_names S o))
  pub finds : Along (all_declared_of finds_side S o) E.finds (DeclIsWrittenFor R (taken_names S o))
  pub goal : GoalIsWrittenFor R (taken_names S o) (shows_of S o) (goal_of (prepared S)) E.goal goals
  pub all_rules : E.rules ≡ append_all structures ++ channels ++ goals ++ constraints
  pub structures_written : Along (map (structure_tree (shows_of S o)) (plans_for finds_side S o)) structures
      (AreWrittenFor R (taken_names S o))
  pub channels_written : Along (all_channel_trees S o) channels (IsWrittenFor R (taken_names S o))
  pub constraints_written : Along (map (constraint_tree (shows_of S o)) (constraints_of (prepared S))) constraints
      (IsWrittenFor R (taken_names S o))
