-- The steps of an index, one by one: each that is by a value takes the first of the values, and the first of their types.
use Rattle.std.specs.Prelude.{List, [], ◌∷◌, map, Option, None, option_map}
use Rattle.ess_semantics.specs.Trees as pure
use Rattle.ess_semantics.specs.Trees.{by_value, to_component, to_field}
use Rattle.ess_semantics.specs.Types as pure_types
use Rattle.ess_semantics.specs.Typing.{a_number, a_name, static, statics, step_ty, part_ty, path_ty}
use Rattle.ess_core.specs.TypeViews.{pure_ty}
use Rattle.ess_core.specs.declared.types.Ty.{Ty}
use Rattle.ess_core_nodes.specs.declared.words.Step.{Step}
use Rattle.ess_core_nodes.specs.declared.nodes.Node.{Node}
use Rattle.ess_core_nodes.specs.NodeViews.{pure_node, pure_nodes, pure_step}

-- The type that steps with these values, of these types, reach from a place of type t.
abbrev pub path_from : pure_types.Ty → List Step → List Node → List (Option Ty) → Option pure_types.Ty
path_from t qs vs us = path_ty t (map pure_step qs) (statics (pure_nodes vs)) (map (option_map pure_ty) us)

-- The type that one step reaches.
abbrev pub step_at : pure.Step → pure_types.Ty → List Node → List (Option Ty) → Option pure_types.Ty
step_at by_value t (v ∷ vs) (u ∷ us) = step_ty t (static (pure_node v)) (option_map pure_ty u)
step_at by_value t vs us = None
step_at (to_component k) t vs us = part_ty t (a_number k)
step_at (to_field a) t vs us = part_ty t (a_name a)

-- What is left behind a step.
abbrev pub items_behind : {A : Type 0} → pure.Step → List A → List A
items_behind by_value [] = []
items_behind by_value (x ∷ xs) = xs
items_behind (to_component k) xs = xs
items_behind (to_field a) xs = xs
