-- Resolved trees with marks are steady: no index of theirs reads what it says, so that terms may be put for their names.
use Rattle.ess_semantics.specs.Names.{Names}
use Rattle.ess_semantics.specs.Trees.{Ex}
use Rattle.ess_semantics.specs.Types.{Ty}
use Rattle.ess_semantics.specs.Resolving.{IsResolved}
use Rattle.ess_refine_laws.specs.MarksStay.{HasMarks}
use Rattle.ess_rules_types_laws.specs.PutTypes.{IsSteady}

-- A resolved tree whose nodes have types and the right marks is steady.
abbrev pub MarkedTreesAreSteady : Type 0
MarkedTreesAreSteady = (e : Ex) (g : Names Ty) → HasMarks e g → IsResolved e g → IsSteady e g
