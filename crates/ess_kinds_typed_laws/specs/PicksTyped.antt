-- Rules of what is picked out of a term keep types and marks at their root, and what they ask of lookups.
use Rattle.std.specs.Prelude.{◌≡◌, true, false, List, [], ◌∷◌, Bool, Some}
use Rattle.ess_semantics.specs.Lists.{and_then}
use Rattle.ess_semantics.specs.Names.{Names}
use Rattle.ess_semantics.specs.OperatorTypes.{member_ty}
use Rattle.ess_semantics.specs.Trees.{Ex, node_ex}
use Rattle.ess_semantics.specs.Types.{Ty, int_ty, bool_ty}
use Rattle.ess_semantics.specs.Typing.{type_of}
use Rattle.ess_kind_rules_laws.specs.KindRules.{KindRule, of_what_is_picked, picked, first_picked, kind_rewrite}
use Rattle.ess_kind_rules_laws.specs.TermLookups.{picks, looked_up}
use Rattle.ess_put_marks_laws.specs.MarksOfTerms.{EachMarked}
use Rattle.ess_refine_laws.specs.AllRules.{Supply, OfSome}
use Rattle.ess_refine_laws.specs.MarksStay.{HasMarks}
use Rattle.ess_refine_laws.specs.TypesStay.{KeepsType}
use Rattle.ess_refine_types_laws.specs.MarksOfContainers.{IsNewTo}
use Rattle.ess_rules_laws.specs.ListedSources.{laid_out}
use Rattle.ess_rules_laws.specs.Listings.{Alternative}
use Rattle.ess_rules_laws.specs.LiteralRules.{nth}

-- Rules of what is picked: of an operand, and by itself.
abbrev pub is_of_picks : KindRule → Bool
is_of_picks of_what_is_picked = true
is_of_picks picked = true
is_of_picks r = false

-- What a node with this mark is, if it is a scalar: a truth value or a number.
abbrev pub scalar_ty : Bool → Ty
scalar_ty true = bool_ty
scalar_ty false = int_ty

-- What each alternative picks has this type.
abbrev pub PickAlike : Names Ty → Ty → List Alternative → Type 0
PickAlike g t [] = Unit {0}
PickAlike g t (a ∷ l) = (and_then (type_of (laid_out a) g) member_ty ≡ Some t) × PickAlike g t l

-- The operand picks a value of a type that each alternative has.
abbrev pub OperandFits : Names Ty → List Alternative → Ex → Type 0
OperandFits g l t = (picks t ≡ true) × ((v : Ty) × (type_of t g ≡ Some v) × PickAlike g v l)

-- What each rule asks: the root is a truth value or a number as it is marked, the new name is new to it, and the lookup fits.
abbrev pub PicksTyped : Supply → Names Ty → KindRule → Ex → Type 0
PicksTyped s g of_what_is_picked (node_ex b op es) =
    (type_of (node_ex b op es) g ≡ Some (scalar_ty b)) × IsNewTo s.one (node_ex b op es)
    × OfSome (first_picked g 1 es)
    (λ p. OfSome (looked_up g s.third (s.other ∷ s.parts) p.1) (λ l. OfSome (nth es p.0) (OperandFits g l)))
PicksTyped s g picked (node_ex b op es) =
    (type_of (node_ex b op es) g ≡ Some (scalar_ty b))
    × OfSome (looked_up g s.third (s.other ∷ s.parts) (node_ex b op es)) (PickAlike g (scalar_ty b))
PicksTyped s g r e = Unit {0}

-- What is looked up has marks.
abbrev pub PicksMarked : Supply → Names Ty → KindRule → Ex → Type 0
PicksMarked s g of_what_is_picked (node_ex b op es) =
    OfSome (first_picked g 1 es) (λ p. OfSome (looked_up g s.third (s.other ∷ s.parts) p.1) (EachMarked g))
PicksMarked s g picked (node_ex b op es) = OfSome (looked_up g s.third (s.other ∷ s.parts) (node_ex b op es)) (EachMarked g)
PicksMarked s g r e = Unit {0}

-- ---- what is said

-- So each of these rules keeps the type where it fires.
abbrev pub PickRulesKeepTypes : Type 0
PickRulesKeepTypes = (s : Supply) (g : Names Ty) (r : KindRule) (e f : Ex) → kind_rewrite s g r e ≡ Some f → is_of_picks r ≡ true →
    PicksTyped s g r e → KeepsType g e f

-- And marks, where what is looked up has them.
abbrev pub PickRulesKeepMarks : Type 0
PickRulesKeepMarks = (s : Supply) (g : Names Ty) (r : KindRule) (e f : Ex) → kind_rewrite s g r e ≡ Some f → is_of_picks r ≡ true →
    PicksTyped s g r e → PicksMarked s g r e → HasMarks e g → HasMarks f g
