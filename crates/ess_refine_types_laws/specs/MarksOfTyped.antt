-- Marks of typed trees that are resolved: resolving marks each node as its type asks.
use Rattle.ess_semantics.specs.Names.{Names}
use Rattle.ess_semantics.specs.Trees.{Ex}
use Rattle.ess_semantics.specs.Types.{Ty}
use Rattle.ess_semantics.specs.Resolving.{IsResolved}
use Rattle.ess_guard_types_laws.specs.HasTypes.{HasTypes}
use Rattle.ess_refine_laws.specs.MarksStay.{HasMarks}

-- A resolved tree whose parts have types has the right marks.
abbrev pub TypedTreesHaveMarks : Type 0
TypedTreesHaveMarks = (e : Ex) (g : Names Ty) → HasTypes e g → IsResolved e g → HasMarks e g
