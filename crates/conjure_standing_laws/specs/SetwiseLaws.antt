-- The laws of rules and objectives that are written for what is over scalars, ranges and nested sets, each stated at a function that does
-- nothing.
use Rattle.std.specs.Prelude.{◌≡◌, ℕ, ◌+◌, ◌≤◌, ◌^◌, Bool, true, List, ◌++◌, length, Option, Some}
use Rattle.std.specs.List.{list_all, list_any}
use Rattle.ess_semantics.specs.Order.{same_int}
use Rattle.ess_semantics.specs.Values.{Text}
use Rattle.ess_semantics.specs.Names.{Names}
use Rattle.ess_semantics.specs.Trees.{Ex, truth_ex, Stm}
use Rattle.ess_semantics.specs.Tables.{Table}
use Rattle.ess_semantics.specs.Constants.{constants_of}
use Rattle.ess_semantics.specs.Occurrences.{parts_of}
use Rattle.ess_semantics.specs.Assignments.{Assignment, env_of}
use Rattle.ess_semantics.specs.Plans.{Options, plans}
use Rattle.ess_semantics.specs.ModelTrees.{Model, all_decls}
use Rattle.ess_grammar.specs.Models.{Scope}
use Rattle.conjure_laws.specs.Premises.{Instance}
use Rattle.conjure_laws.specs.ModelPremises.{Canonical, RuleMeans, spelled}
use Rattle.conjure_laws.specs.Views.{over_tables}
use Rattle.conjure_model_laws.specs.Shown.{shows_of}
use Rattle.conjure_model_laws.specs.IsBuiltFrom.{condition_tree}
use Rattle.conjure_model_laws.specs.Printed.{binders}
use Rattle.ess_refine_laws.specs.SpellingEnds.{numbers_of_tree}
use Rattle.ess_flat_models_laws.specs.FlatSpecifications.{scalar_mark}
use Rattle.ess_bare_written_laws.specs.Laws.{AreDeclared}
use Rattle.ess_seen_laws.specs.Seen.{Kind, counted_axes}
use Rattle.ess_seen_laws.specs.Filled.{AreFilled}
use Rattle.ess_mixed_models_laws.specs.ess_setwise_laws.Setwise.{is_setwise_truth, is_setwise_number}
use Rattle.ess_mixed_models_laws.specs.ess_setwise_laws.Laws.{ShowsSets, HoldsNames, HoldsSets, HoldsScalars, MeetsSets, SpellsSets}
use Rattle.ess_mixed_models_laws.specs.ess_setwise_laws.Objectives.{NumberMeans}
use Rattle.conjure_modelling.specs.ess_model_written.RulesWritten.{ConstraintComes, ObjectiveComes}

-- The scalars of the specification are single cells, and its sets with these kinds of members are views, over tables that the model
-- declares. Views spell constants of the specification alone. Over the tables of an instance cells hold the values of scalars, and views
-- those of sets; tables of numbers have one at each slot; and the structures of views are met.
pub record HaveSets (S : List Stm) (o : Options) (E : Model) (sets : Text → Option Kind)
    (cells : Text → Option (Bool × List ℕ)) : Type 0 where
  pub shown : ShowsSets (shows_of S o) (scalar_mark (plans S o)) sets cells
  pub declared : AreDeclared (all_decls E) (counted_axes cells)
  pub spells : SpellsSets (shows_of S o) sets (λ n. list_any (same_int n) (constants_of S))
  pub names : (p a : Assignment) (q c : Names Table) → Instance S o p q → Canonical S o p a c →
      HoldsNames (shows_of S o) (scalar_mark (plans S o)) (env_of S p a) (over_tables S p (q ++ c))
  pub values : (p a : Assignment) (q c : Names Table) → Instance S o p q → Canonical S o p a c →
      HoldsSets (shows_of S o) sets (env_of S p a) (over_tables S p (q ++ c))
  pub scalars : (p a : Assignment) (q c : Names Table) → Instance S o p q → Canonical S o p a c →
      HoldsScalars (shows_of S o) (scalar_mark (plans S o)) (over_tables S p (q ++ c))
  pub filled : (p a : Assignment) (q c : Names Table) → Instance S o p q → Canonical S o p a c →
      AreFilled cells (over_tables S p (q ++ c))
  pub met : (p a : Assignment) (q c : Names Table) → Instance S o p q → Canonical S o p a c →
      MeetsSets (shows_of S o) sets (over_tables S p (q ++ c))

-- The rule that comes of a constraint over scalars, ranges and nested sets says what the constraint says. It spells constants of the
-- specification alone, where the constraint does. Names are left for bound ones, as in all that a machine holds.
abbrev pub SetwiseRulesStand : Type 0
SetwiseRulesStand = (S : List Stm) (o : Options) (E : Model) (sets : Text → Option Kind) (cells : Text → Option (Bool × List ℕ)) →
    HaveSets S o E sets cells → (e : Ex) → is_setwise_truth (scalar_mark (plans S o)) sets e ≡ true →
    (shows_of S o).next + binders e ≤ 2 ^ 62 → (taken : List Text) → length taken ≤ 2 ^ 62 → (s : Scope) (r : Ex) →
    ConstraintComes s taken (shows_of S o) e (Some r) →
    RuleMeans S o E e r
    × (list_all (λ n. list_any (same_int n) (constants_of S)) (numbers_of_tree e) ≡ true → spelled S (parts_of r) ≡ true)

-- What comes of an objective over scalars, ranges and nested sets is in the model the number that it is. It spells constants of the
-- specification alone, where the objective does. And what is asked beside it is `true`: it always has a value.
abbrev pub SetwiseObjectivesStand : Type 0
SetwiseObjectivesStand = (S : List Stm) (o : Options) (E : Model) (sets : Text → Option Kind) (cells : Text → Option (Bool × List ℕ)) →
    HaveSets S o E sets cells → (e : Ex) → is_setwise_number (scalar_mark (plans S o)) sets e ≡ true →
    (shows_of S o).next + binders e ≤ 2 ^ 62 → (taken : List Text) → length taken ≤ 2 ^ 62 → (s : Scope) (f : Ex) →
    ObjectiveComes s taken (shows_of S o) e (Some f) →
    NumberMeans S o E e f
    × (list_all (λ n. list_any (same_int n) (constants_of S)) (numbers_of_tree e) ≡ true → spelled S (parts_of f) ≡ true)
    × (condition_tree (shows_of S o) e ≡ truth_ex true)
