-- The law of objectives over scalars, ranges and nested sets, stated at a function that does nothing.
use Rattle.std.specs.Prelude.{◌≡◌, ℕ, ◌+◌, ◌≤◌, ◌^◌, Bool, true, List, ◌++◌, ℤ, Option, Some}
use Rattle.ess_semantics.specs.Values.{Text, number}
use Rattle.ess_semantics.specs.Names.{Names}
use Rattle.ess_semantics.specs.Trees.{Ex, truth_ex, Stm}
use Rattle.ess_semantics.specs.Tables.{Table}
use Rattle.ess_semantics.specs.Meaning.{Env, meaning}
use Rattle.ess_semantics.specs.Assignments.{Assignment, env_of}
use Rattle.ess_semantics.specs.Plans.{Options}
use Rattle.ess_semantics.specs.ModelTrees.{Model, all_decls}
use Rattle.ess_semantics.specs.ModelMeaning.{model_value}
use Rattle.conjure_laws.specs.Premises.{Instance}
use Rattle.conjure_laws.specs.ModelPremises.{Canonical}
use Rattle.conjure_model_laws.specs.Shown.{Shows}
use Rattle.conjure_model_laws.specs.IsBuiltFrom.{constraint_tree, condition_tree, objective_tree}
use Rattle.conjure_model_laws.specs.Printed.{binders}
use Rattle.ess_seen_laws.specs.Seen.{Kind}
use Rattle.ess_setwise_laws.specs.Setwise.{is_setwise_number}
use Rattle.ess_setwise_laws.specs.Laws.{ShowsSets, HoldsNames, HoldsSets, HoldsScalars, MeetsSets}

-- Over tables the objective e is the tree that it is as a part of a constraint, and it is `true` that it has a value: nothing in it can be
-- undefined. It is a number where cells have values of their marks, tables meet the structures of views, and both have the values of names.
pub record IsNumberOverTables (sh : Shows) (marks : Text → Option Bool) (sets : Text → Option Kind) (e : Ex) : Type 0 where
  pub tree : objective_tree sh e ≡ constraint_tree sh e
  pub condition : condition_tree sh e ≡ truth_ex true
  pub there : (env there : Env) → HoldsNames sh marks env there → HoldsSets sh sets env there → HoldsScalars sh marks there →
      MeetsSets sh sets there → (n : ℤ) × (meaning e env ≡ Some (number n))

-- So it is of each number of the class, as long as there are reserved names.
abbrev pub SetwiseNumbersAreThere : Type 0
SetwiseNumbersAreThere = (sh : Shows) (marks : Text → Option Bool) (sets : Text → Option Kind) (cells : Text → Option (Bool × List ℕ)) →
    ShowsSets sh marks sets cells → (e : Ex) → is_setwise_number marks sets e ≡ true → sh.next + binders e ≤ 2 ^ 64 →
    IsNumberOverTables sh marks sets e

-- The objective e is a number, and the model's objective f is the same one, over the tables of an instance and the canonical tables of
-- members.
abbrev pub NumberMeans : List Stm → Options → Model → Ex → Ex → Type 0
NumberMeans S o E e f =
    (p a : Assignment) (q c : Names Table) → Instance S o p q → Canonical S o p a c →
    (n : ℤ) × (meaning e (env_of S p a) ≡ Some (number n)) × (model_value (all_decls E) (q ++ c) f ≡ Some (number n))
