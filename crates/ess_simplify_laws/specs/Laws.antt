-- What simplifying promises.
use Rattle.std.specs.Prelude.{◌≡◌, Some}
use Rattle.ess_semantics.specs.Names.{Names}
use Rattle.ess_semantics.specs.Trees.{Ex}
use Rattle.ess_semantics.specs.Types.{Ty}
use Rattle.ess_semantics.specs.Meaning.{Env}
use Rattle.ess_semantics.specs.Simplified.{Simplifies}
use Rattle.ess_rules_laws.specs.Rewriting.{Rewritten}
use Rattle.ess_simplify_laws.specs.Simplifying.{simplified}
use Rattle.ess_simplify_laws.specs.SimplerRoots.{simpler_root}

-- The simplified tree has the form, is no larger, and has no new nodes but `!`, `true` and `false`.
abbrev pub SimplifiedTreesAreSimple : Type 0
SimplifiedTreesAreSimple = (e : Ex) → Simplifies e (simplified e)

-- Of envs nothing is asked: the rule reads no types.
abbrev pub Anywhere : Names Ty → Env → Type 0
Anywhere g env = Unit {0}

-- The rule leads from the first tree to the second one at the root.
abbrev pub IsSimplerRoot : Names Ty → Ex → Ex → Type 0
IsSimplerRoot g a b = simpler_root a ≡ Some b

-- The rule, used one time after the other at parts, leads to the simplified tree.
abbrev pub RulesSimplify : Type 0
RulesSimplify = (g : Names Ty) (e : Ex) → Rewritten Anywhere IsSimplerRoot g e (simplified e)
