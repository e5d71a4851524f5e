-- The lookup of a function at an argument, whatever term gives the function: over its pairs, where the first component is
-- the argument, the second one.
use Rattle.std.specs.Prelude.{◌≡◌, true, false, Option, Some, None}
use Rattle.ess_semantics.specs.declared.words.Op2.{Op2}
use Rattle.ess_semantics.specs.declared.words.Fun.{Fun}
use Rattle.ess_semantics.specs.Values.{Text, a_function}
use Rattle.ess_semantics.specs.Names.{Names}
use Rattle.ess_semantics.specs.Trees.{word, application, name_pat, Ex, name_ex, node_ex, comp_ex, ex2, no_exs, more_exs, no_gens, from, cond}
use Rattle.ess_semantics.specs.Types.{Ty, any_ty, compound2}
use Rattle.ess_semantics.specs.Typing.{type_of}
use Rattle.ess_semantics.specs.Typed.{Typed}
use Rattle.ess_semantics.specs.Meaning.{Env}
use Rattle.ess_semantics.specs.Meets.{Meets}
use Rattle.ess_rules_laws.specs.Rules.{Unused, SoundOperands, OperandsThere}
use Rattle.ess_rules_laws.specs.ComponentRules.{component_of}
use Rattle.ess_rules_laws.specs.Lookups.{Looked}

-- `[y[2] | y <- f, y[1] = a]`, where the pairs have components of these types.
abbrev pub seconds_at : Ty → Ty → Text → Ex → Ex → Ex
seconds_at t u y f a =
    comp_ex (component_of u 2 (name_ex y)) (from (name_pat y) f (cond (ex2 true Op2.Eq (component_of t 1 (name_ex y)) a) no_gens))

-- These where f is a function, or has a type without values.
abbrev pub pairs_at : Option Ty → Text → Ex → Ex → Option Ex
pairs_at (Some (compound2 a_function t u)) y f a = Some (seconds_at t u y f a)
pairs_at (Some any_ty) y f a = Some (seconds_at any_ty any_ty y f a)
pairs_at t y f a = None

-- The lookup of `f(a)` and of `image(f, a)`; y is a new name.
abbrev pub function_lookup : Names Ty → Text → Ex → Option Ex
function_lookup g y (node_ex b application (more_exs f (more_exs a no_exs))) = pairs_at (type_of f g) y f a
function_lookup g y (node_ex b (word Fun.Image) (more_exs f (more_exs a no_exs))) = pairs_at (type_of f g) y f a
function_lookup g y e = None

-- The tree not read as Boolean at its root: it has nothing where its operator has nothing.
abbrev pub unmarked : Ex → Ex
unmarked (node_ex b op es) = node_ex false op es
unmarked e = e

-- It looks the result up, where function and argument have values.
abbrev pub FunctionsAreLookedUp : Type 0
FunctionsAreLookedUp = (g : Names Ty) (y : Text) (e l : Ex) → function_lookup g y e ≡ Some l → Unused y e → SoundOperands g e →
    (env : Env) → Typed g env → OperandsThere e env → Meets e env → Looked (unmarked e) l env
