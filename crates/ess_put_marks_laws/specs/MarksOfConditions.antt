-- Rules of conditions that read cells, and keep marks.
use Rattle.std.specs.Prelude.{◌≡◌, Bool, true, false, not, Option, Some, None}
use Rattle.ess_semantics.specs.Values.{Text}
use Rattle.ess_semantics.specs.Names.{Names}
use Rattle.ess_semantics.specs.Trees.{Ex, Exs, node_ex, comp_ex, fun1, no_exs, more_exs, Gens, no_gens, over, from, cond, Dom, int_dom}
use Rattle.ess_semantics.specs.Types.{Ty, type_of_dom, bind_types}
use Rattle.ess_semantics.specs.Typing.{type_of, source_ty}
use Rattle.ess_semantics.specs.NamesAt.{names_behind}
use Rattle.ess_semantics.specs.Substitution.{Binds}
use Rattle.ess_refine_laws.specs.LeavingConditions.{Parted, at_last_condition}
use Rattle.ess_refine_laws.specs.AllRules.{Rule, condition, condition_behind, least_under_a_condition, Supply, opposite_copied, rewrite}
use Rattle.ess_refine_laws.specs.MarksStay.{HasMarks}
use Rattle.ess_refine_types_laws.specs.MarksOfContainers.{UsesNames}
use Rattle.ess_rules_types_laws.specs.TypesOfOthers.{is_numeric, SizesNumbers}

-- Rules that are shown to keep marks here.
abbrev pub is_of_conditions : Rule → Bool
is_of_conditions condition = true
is_of_conditions condition_behind = true
is_of_conditions least_under_a_condition = true
is_of_conditions r = false

abbrev mutual
  -- The bounds of each generator in a refined number are numbers, and each `|x|` in them is of a number.
  pub BoundsNumbers : Ex → Names Ty → Type 0
  BoundsNumbers (node_ex b op es) g = AllBoundsNumbers es g
  BoundsNumbers (comp_ex e gs) g = GensBoundsNumbers gs g × BoundsNumbers e (names_behind gs g)
  BoundsNumbers e g = Unit {0}

  -- The same of operands.
  pub AllBoundsNumbers : Exs → Names Ty → Type 0
  AllBoundsNumbers no_exs g = Unit {0}
  AllBoundsNumbers (more_exs e es) g = BoundsNumbers e g × AllBoundsNumbers es g

  -- The same of generators.
  pub GensBoundsNumbers : Gens → Names Ty → Type 0
  GensBoundsNumbers no_gens g = Unit {0}
  GensBoundsNumbers (over p d gs) g = DomBoundsNumbers d g × GensBoundsNumbers gs (bind_types p (type_of_dom d) g)
  GensBoundsNumbers (from p e gs) g = GensBoundsNumbers gs (bind_types p (source_ty e g) g)
  GensBoundsNumbers (cond e gs) g = GensBoundsNumbers gs g

  -- The same of the domain of a generator.
  pub DomBoundsNumbers : Dom → Names Ty → Type 0
  DomBoundsNumbers (int_dom rs es) g = EachBoundNumber es g
  DomBoundsNumbers d g = Unit {0}

  -- Each of these is a number.
  pub EachBoundNumber : Exs → Names Ty → Type 0
  EachBoundNumber no_exs g = Unit {0}
  EachBoundNumber (more_exs e es) g =
      (is_numeric (type_of e g) ≡ true) × SizesNumbers e g × BoundsNumbers e g × EachBoundNumber es g

-- What a condition leaves out has such bounds.
abbrev pub LeavesBounds : Names Ty → Ex → Option Parted → Type 0
LeavesBounds g e None = Unit {0}
LeavesBounds g e (Some t) = BoundsNumbers (comp_ex e t.after) (names_behind t.before g)

-- The generator behind a condition binds no name that the condition uses, and has such bounds.
abbrev pub StaysMarked : Names Ty → Ex → Gens → Type 0
StaysMarked g c (over p d hs) = (r : Text → Bool) × Binds r p × UsesNames (λ a. not (r a)) c × DomBoundsNumbers d g
StaysMarked g c hs = Unit {0}

abbrev pub LaterMarked : Names Ty → Option Parted → Type 0
LaterMarked g None = Unit {0}
LaterMarked g (Some t) = StaysMarked (names_behind t.before g) t.condition t.after

-- What stands for what a condition leaves out has marks behind the generators, and these and the item have such bounds.
abbrev pub OppositeMarked : Names Ty → Ex → Ex → Option Parted → Type 0
OppositeMarked g m e None = Unit {0}
OppositeMarked g m e (Some t) =
    HasMarks m (names_behind t.before g) × GensBoundsNumbers t.before g × BoundsNumbers e (names_behind t.before g)

-- What each rule asks.
abbrev pub ConditionsMarked : Supply → Names Ty → Rule → Ex → Type 0
ConditionsMarked s g condition (fun1 m f (comp_ex e gs)) = LeavesBounds g e (at_last_condition gs)
ConditionsMarked s g condition_behind (fun1 m f (comp_ex e gs)) = LaterMarked g (at_last_condition gs)
ConditionsMarked s g least_under_a_condition (fun1 m f (comp_ex e gs)) =
    OppositeMarked g (opposite_copied s (fun1 m f (comp_ex e gs))) e (at_last_condition gs)
ConditionsMarked s g r e = Unit {0}

-- So each of them keeps marks where it fires and what it makes has a type.
abbrev pub ConditionRulesKeepMarks : Type 0
ConditionRulesKeepMarks = (s : Supply) (g : Names Ty) (r : Rule) (e f : Ex) → rewrite s g r e ≡ Some f → is_of_conditions r ≡ true →
    ConditionsMarked s g r e → (t : Ty) → type_of f g ≡ Some t → HasMarks e g → HasMarks f g
