-- The steps of an index, resolved one by one.
use Rattle.std.specs.Prelude.{List, [], ◌∷◌, Option, Some, None}
use Rattle.ess_semantics.specs.Names.{Names}
use Rattle.ess_semantics.specs.Types.{Ty, is_bool}
use Rattle.ess_semantics.specs.Trees.{Step, by_value, to_component, to_field, index, Ex, node_ex, more_exs}
use Rattle.ess_semantics.specs.Typing.{a_number, a_name, static, statics, type_behind, part_behind, type_of, types_of}
use Rattle.ess_semantics.specs.Resolving.{resolve, resolve_exs, step_at, steps_from, kept_indices}
use Rattle.ess_core.specs.TreeViews.{With, words_of, within, exs_of}

-- The step that an index says, or the one by a value.
abbrev pub said_step : Option Step → Step
said_step None = by_value
said_step (Some q) = q

-- A step with its value, where it is by a value.
abbrev pub placed : Step → Ex → With Step
placed by_value e = (by_value, e ∷ [])
placed q e = (q, [])

-- A step from a place of type t.
abbrev pub resolved_step : Option Ty → With Step → Names Ty → With Step
resolved_step t (by_value, e ∷ es) g = placed (step_at t (static e)) (resolve e g)
resolved_step t w g = w

-- The type that it reaches.
abbrev pub step_behind : Option Ty → With Step → Names Ty → Option Ty
step_behind t (by_value, e ∷ es) g = type_behind t (static e) (type_of e g)
step_behind t (to_component k, es) g = part_behind t (a_number k)
step_behind t (to_field a, es) g = part_behind t (a_name a)
step_behind t w g = None

-- Several steps, each from the type that those before it reach.
abbrev pub resolved_path : Option Ty → List (With Step) → Names Ty → List (With Step)
resolved_path t [] g = []
resolved_path t (w ∷ ws) g = resolved_step t w g ∷ resolved_path (step_behind t w g) ws g

-- The type that they reach.
abbrev pub path_behind : Option Ty → List (With Step) → Names Ty → Option Ty
path_behind t [] g = t
path_behind t (w ∷ ws) g = path_behind (step_behind t w g) ws g

-- The steps of an index from a place of type t.
abbrev pub steps_read : Option Ty → List (With Step) → Names Ty → List Step
steps_read t ws g = steps_from t (words_of ws) (statics (exs_of (within ws))) (types_of (exs_of (within ws)) g)

-- An index of type u, of what is resolved to e and has type t, by these steps as they were read.
abbrev pub resolved_index : Option Ty → Option Ty → Ex → List (With Step) → Names Ty → Ex
resolved_index u t e ws g =
    node_ex (is_bool u) (index (steps_read t ws g))
    (more_exs e (kept_indices (words_of ws) (steps_read t ws g) (resolve_exs (exs_of (within ws)) g)))
