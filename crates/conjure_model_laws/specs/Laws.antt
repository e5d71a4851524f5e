-- Laws of what models are built of, each stated at a function that does nothing, so that its proof is checked with the code.
use Rattle.std.specs.Prelude.{◌≡◌, true, List, IsTrue}
use Rattle.ess_semantics.specs.Trees.{Stm}
use Rattle.ess_semantics.specs.Kept.{Kept}
use Rattle.ess_semantics.specs.Plans.{Options}
use Rattle.ess_semantics.specs.Prepared.{prepared}
use Rattle.ess_semantics.specs.ModelTrees.{Header, Model, header_of, goal_of, same_direction}
use Rattle.conjure_model_laws.specs.IsBuiltFrom.{IsBuiltFrom}
use Rattle.conjure_model_laws.specs.RulesComeFrom.{DeclarationsComeFrom, RulesComeFrom}

-- A model that is built from a specification by rules that keep has the specification's header and an objective of its direction, that of
-- the statements with lettings put in and that of those as they are written; and
-- each of its rules is printed for a refined tree that keeps what it comes from: the structure of a plan, the channelling of a view,
-- the objective and that it has a value, or a constraint over tables. Its declarations are those of the plans, and each bound in them
-- is printed for a refined tree that keeps the plan's.
pub record BuiltModelsKeepTheirTrees : Type 0 where
  pub header : (S : List Stm) (o : Options) (H : Header) (E : Model) → IsBuiltFrom Kept S o H E → H ≡ header_of S o
  pub direction : (S : List Stm) (o : Options) (H : Header) (E : Model) → IsBuiltFrom Kept S o H E →
      IsTrue (same_direction E.goal (goal_of (prepared S)))
  pub written_direction : (S : List Stm) (o : Options) (H : Header) (E : Model) → IsBuiltFrom Kept S o H E →
      same_direction E.goal (goal_of S) ≡ true
  pub rules : (S : List Stm) (o : Options) (H : Header) (E : Model) → IsBuiltFrom Kept S o H E → RulesComeFrom S o E
  pub declarations : (S : List Stm) (o : Options) (H : Header) (E : Model) → IsBuiltFrom Kept S o H E → DeclarationsComeFrom S o E
