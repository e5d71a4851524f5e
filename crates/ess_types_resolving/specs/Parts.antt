-- Parts of expressions and domains, resolved.
use Rattle.std.specs.Prelude.{Bool, true, false, List, ◌++◌, map, Option, Some, None}
use Rattle.ess_semantics.specs.Values.{Text, a_function}
use Rattle.ess_semantics.specs.Names.{Names}
use Rattle.ess_semantics.specs.Trees.{Ex, Dom}
use Rattle.ess_semantics.specs.Types.{Ty, compound2}
use Rattle.ess_semantics.specs.Resolving.{resolve, resolve_dom}
use Rattle.ess_core.specs.TreeViews.{With}

-- A word with the expressions that stand in it, resolved.
abbrev pub resolved_with : {W : Type 0} → With W → Names Ty → With W
resolved_with w g = (w.0, map (λ e. resolve e g) w.1)

-- A field of a record literal.
abbrev pub resolved_field : Text × Ex → Names Ty → Text × Ex
resolved_field f g = (f.0, resolve f.1 g)

-- A field of a record's domain.
abbrev pub resolved_field_dom : Text × Dom → Names Ty → Text × Dom
resolved_field_dom f g = (f.0, resolve_dom f.1 g)

-- Items in front of others, where both are there.
abbrev pub joined : {A : Type 0} → Option (List A) → Option (List A) → Option (List A)
joined None o = None
joined (Some xs) None = None
joined (Some xs) (Some ys) = Some (xs ++ ys)

-- Whether this is the type of a function.
abbrev pub is_function : Option Ty → Bool
is_function (Some (compound2 a_function a b)) = true
is_function t = false
