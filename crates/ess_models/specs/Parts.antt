-- The parts of a model, as they are written by plans, with what stands over tables in the place of names: its declarations, its objective
-- and its rules in order. Each expression comes of a tree that is made of the specification, by rules that count the reserved names.
use Rattle.std.specs.Prelude.{◌≡◌, List, ◌++◌, map, filter}
use Rattle.ess_semantics.specs.Lists.{append_all}
use Rattle.ess_semantics.specs.Values.{Text}
use Rattle.ess_semantics.specs.Trees.{Ex, Stm}
use Rattle.ess_semantics.specs.DeclaredTables.{TableDecl}
use Rattle.ess_semantics.specs.Plans.{Side, givens_side, finds_side, same_side, side_of, Plan, is_plan_of}
use Rattle.ess_semantics.specs.ModelTrees.{Goal, goal_of}
use Rattle.ess_semantics.specs.Models.{constraints_of}
use Rattle.ess_grammar.specs.Models.{Scope, empty_scope, with_given, with_find, scope_behind}
use Rattle.conjure_model_laws.specs.Shown.{Shows}
use Rattle.conjure_model_laws.specs.IsBuiltFrom.{channel_trees, declared_of}
use Rattle.ess_model_written.specs.Coming.{DeclsAreWritten, OneDeclFails}
use Rattle.ess_model_written.specs.ess_model_finds.Finds.{asked_of}
use Rattle.ess_model_written.specs.Answered.{AllCome, AllUsed, OneLacks}
use Rattle.ess_model_written.specs.RulesWritten.{TreeComes, ConstraintComes, GoalComes, GoalLacks, unless_true}
use Rattle.ess_models.specs.declared.parts.Part.{Part}

-- What declarations declare, givens first.
abbrev pub scope_of_tables : List TableDecl → List TableDecl → Scope
scope_of_tables gs fs = scope_behind with_find (scope_behind with_given empty_scope gs) fs

-- These names are taken; sh stands over tables in the place of names; Ps are the plans.
module _ (taken : List Text) (sh : Shows) (Ps : List Plan) where
  -- The plans of one side.
  abbrev pub plans_on : Side → List Plan
  plans_on f = filter (λ p. same_side (side_of p) f) Ps

  -- The declared tables of one side, before their bounds are refined.
  abbrev pub tables_on : Side → List TableDecl
  tables_on f = append_all (map (declared_of sh) (plans_on f))

  -- The declarations are written for the tables of the plans, one after the other, each where those before it are declared.
  pub record AreDeclared (gs fs : List TableDecl) : Type 0 where
    pub givens : DeclsAreWritten with_given taken sh.next empty_scope (tables_on givens_side) gs
    pub finds : DeclsAreWritten with_find taken sh.next (scope_behind with_given empty_scope gs) (tables_on finds_side) fs

  -- The givens can't be declared.
  abbrev pub GivensLack : Type 0
  GivensLack = OneDeclFails with_given taken sh.next empty_scope (tables_on givens_side)

  -- The finds can't be declared behind the givens.
  pub record FindsLack : Type 0 where
    pub givens : List TableDecl
    pub declared : DeclsAreWritten with_given taken sh.next empty_scope (tables_on givens_side) givens
    pub lacks : OneDeclFails with_find taken sh.next (scope_behind with_given empty_scope givens) (tables_on finds_side)

  -- xs are the finds, in order; cs the prepared statements.
  module _ (xs : List Text) (cs : List Stm) where
    -- What is asked of the finds' tables, plan by plan: that they are canonical, but of scalars nothing.
    abbrev pub all_structures : List Ex
    all_structures = map (asked_of sh) (plans_on finds_side)

    -- That further views stand for what the first one does, find by find.
    abbrev pub all_channels : List Ex
    all_channels = append_all (map (λ x. channel_trees sh (filter (is_plan_of x) Ps)) xs)

    -- Declarations declare s.
    module _ (s : Scope) where
      -- The rules stand in this order: what is asked of each find's tables, where it isn't `true`; that further views stand for what the
      -- first one does; that the objective has a value; and the constraints.
      pub record AreRules (g : Goal) (rs : List Ex) : Type 0 where
        pub structures : List Ex
        pub channels : List Ex
        pub goals : List Ex
        pub constraints : List Ex
        pub all : rs ≡ structures ++ channels ++ goals ++ constraints
        pub structures_written : AllUsed (TreeComes s taken sh.next) unless_true all_structures structures
        pub channels_written : AllCome (TreeComes s taken sh.next) all_channels channels
        pub goal_written : GoalComes s taken sh (goal_of cs) g goals
        pub constraints_written : AllCome (ConstraintComes s taken sh) (constraints_of cs) constraints

      -- Nothing comes of a rule of this part.
      abbrev pub RuleLacks : Part → Type 0
      RuleLacks Part.Structures = OneLacks (TreeComes s taken sh.next) all_structures
      RuleLacks Part.Channels = OneLacks (TreeComes s taken sh.next) all_channels
      RuleLacks Part.Objective = GoalLacks s taken sh (goal_of cs)
      RuleLacks Part.Constraints = OneLacks (ConstraintComes s taken sh) (constraints_of cs)
      RuleLacks p = ⊥

    -- All is declared, and nothing comes of a rule of this part.
    pub record RulesLack (p : Part) : Type 0 where
      pub givens : List TableDecl
      pub finds : List TableDecl
      pub declared : AreDeclared givens finds
      pub lacks : RuleLacks (scope_of_tables givens finds) p

    -- Something of this part can't be written.
    abbrev pub PartLacks : Part → Type 0
    PartLacks Part.Givens = GivensLack
    PartLacks Part.Finds = FindsLack
    PartLacks p = RulesLack p
