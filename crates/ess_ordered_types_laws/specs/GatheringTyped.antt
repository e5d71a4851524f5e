-- Gathered conditions: what the rule asks so as to keep types and marks at its root.
use Rattle.std.specs.Prelude.{◌≡◌, Bool, true, not, Some}
use Rattle.ess_semantics.specs.Values.{Text}
use Rattle.ess_semantics.specs.Names.{Names}
use Rattle.ess_semantics.specs.Occurrences.{has_cells}
use Rattle.ess_semantics.specs.Trees.{Ex, comp_ex, fun1, Gens, no_gens, over, from, cond}
use Rattle.ess_semantics.specs.Types.{Ty}
use Rattle.ess_semantics.specs.Typing.{type_of}
use Rattle.ess_refine_laws.specs.TypesStay.{KeepsType}
use Rattle.ess_refine_laws.specs.MarksStay.{HasMarks}
use Rattle.ess_refine_types_laws.specs.MarksOfContainers.{UsesNames}
use Rattle.ess_put_marks_laws.specs.MarksOfConditions.{GensBoundsNumbers}
use Rattle.ess_gathered_laws.specs.GatheredConditions.{BindOnly, conditions_gathered}

-- No generator behind the condition binds a name that it uses, or the name of one of its tables.
abbrev pub IsFreeOf : Ex → Gens → Type 0
IsFreeOf c gs = (r : Text → Bool) × BindOnly r gs × UsesNames (λ a. not (r a)) c

-- So it is with each condition that reads cells.
abbrev pub ConditionsApart : Gens → Type 0
ConditionsApart no_gens = Unit {0}
ConditionsApart (over p d gs) = ConditionsApart gs
ConditionsApart (from p e gs) = ConditionsApart gs
ConditionsApart (cond c gs) = (has_cells c ≡ true → IsFreeOf c gs) × ConditionsApart gs

-- What the rule asks for types.
abbrev pub GatheringTyped : Ex → Type 0
GatheringTyped (fun1 m f (comp_ex e gs)) = ConditionsApart gs
GatheringTyped e = Unit {0}

-- And for marks: the bounds that are made to be there everywhere are numbers.
abbrev pub GatheringMarked : Names Ty → Ex → Type 0
GatheringMarked g (fun1 m f (comp_ex e gs)) = GensBoundsNumbers gs g
GatheringMarked g e = Unit {0}

-- So the rule keeps the type where it fires.
abbrev pub GatheringKeepsTypes : Type 0
GatheringKeepsTypes = (g : Names Ty) (e f : Ex) → conditions_gathered e ≡ Some f → GatheringTyped e → KeepsType g e f

-- And marks, where what it rewrites has a type.
abbrev pub GatheringKeepsMarks : Type 0
GatheringKeepsMarks = (g : Names Ty) (e f : Ex) → conditions_gathered e ≡ Some f → GatheringTyped e → GatheringMarked g e →
    (t : Ty) → type_of e g ≡ Some t → HasMarks e g → HasMarks f g
