-- The types behind the steps of an index with lettings put in.
use Rattle.std.specs.Prelude.{List, Option}
use Rattle.ess_semantics.specs.Lists.{and_then}
use Rattle.ess_semantics.specs.Names.{Names}
use Rattle.ess_semantics.specs.Trees.{Step}
use Rattle.ess_semantics.specs.Types.{Ty}
use Rattle.ess_core.specs.TreeViews.{With}
use Rattle.ess_types_names.specs.Paths.{steps_ty}

-- The type that steps with their values reach from a place, where that has the type t.
abbrev pub path_behind : Option Ty → List (With Step) → Names Ty → Option Ty
path_behind t ws g = and_then t (λ p. steps_ty p ws g)
