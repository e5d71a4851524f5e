-- The type behind the steps of an index.
use Rattle.std.specs.Prelude.{List, Option}
use Rattle.ess_semantics.specs.Names.{Names}
use Rattle.ess_semantics.specs.Types.{Ty}
use Rattle.ess_semantics.specs.Trees.{Step}
use Rattle.ess_semantics.specs.Typing.{path_ty, statics, types_of}
use Rattle.ess_core.specs.TreeViews.{With, words_of, within, exs_of}

-- The type that steps with their values reach from a place of type t.
abbrev pub steps_ty : Ty → List (With Step) → Names Ty → Option Ty
steps_ty t ws g = path_ty t (words_of ws) (statics (exs_of (within ws))) (types_of (exs_of (within ws)) g)
