-- Rules of comprehensions whose items have an order: what they ask of types, and of names, so as to keep types and marks at their root.
use Rattle.std.specs.Prelude.{◌≡◌, ℕ, true, List, Option, Some, None, is_some, if◌then◌else◌}
use Rattle.ess_semantics.specs.Lists.{or_else}
use Rattle.ess_semantics.specs.Names.{Names}
use Rattle.ess_semantics.specs.Trees.{name_pat, Ex, node_ex, comp_ex, fun1, Gens, from, Dom}
use Rattle.ess_semantics.specs.Types.{Ty, type_of_dom}
use Rattle.ess_semantics.specs.Typing.{type_of}
use Rattle.ess_semantics.specs.NamesAt.{names_behind}
use Rattle.ess_guard_laws.specs.IndexDomains.{first_index, plain_axis, index_dom}
use Rattle.ess_rules_laws.specs.LiteralRules.{nth}
use Rattle.ess_rules_laws.specs.Listings.{Alternative}
use Rattle.ess_refine_laws.specs.TypesStay.{KeepsType}
use Rattle.ess_refine_laws.specs.MarksStay.{HasMarks, DomHasMarks}
use Rattle.ess_refine_laws.specs.AllRules.{Supply, OfSome}
use Rattle.ess_refine_types_laws.specs.MarksOfContainers.{IsNewTo}
use Rattle.ess_rules_types_laws.specs.TypesOfOthers.{has_indices}
use Rattle.ess_put_marks_laws.specs.MarksOfTerms.{EachMarked}
use Rattle.ess_open_rules_laws.specs.OpenGenerators.{at_first_open}
use Rattle.ess_ordered_laws.specs.NumberedItems.{ordered_lookup}
use Rattle.ess_ordered_laws.specs.ToldAxes.{dom_told, counted_axis, told_axis}
use Rattle.ess_ordered_laws.specs.OrderedRules.{OrderedRule, an_item, of_an_item, source_by_indices, source_of_an_item, ordered_rewrite}
use Rattle.ess_ordered_laws.specs.PickedSources.{is_untold, source_lookup}
use Rattle.ess_open_types_laws.specs.OpeningsTyped.{GivesScalar, EachPicksAlike, OfFirstSource}

-- ---- scalars

-- P of the k-th operand of the root, where there is one.
abbrev pub OfOperand : ℕ → Ex → (Ex → Type 0) → Type 0
OfOperand k (node_ex b op es) P = OfSome (nth es k) P
OfOperand k e P = Unit {0}

-- What an untold source picks.
abbrev pub untold_lookup : Supply → Names Ty → Ex → Option (List Alternative)
untold_lookup s g t = if is_untold s g t then source_lookup s g t else None

-- What the operand picks has its type. Where it is a comprehension over what is picked, that has the type of the source, and the new name
-- isn't used.
abbrev pub OperandFits : Supply → Names Ty → Ex → Type 0
OperandFits s g (comp_ex e (from (name_pat y) u hs)) =
    IsNewTo s.other (comp_ex e (from (name_pat y) u hs)) × OfSome (untold_lookup s g u) (EachPicksAlike g u)
OperandFits s g t = OfSome (ordered_lookup s.third s.parts t) (EachPicksAlike g t)

-- And it has marks.
abbrev pub OperandMarked : Supply → Names Ty → Ex → Type 0
OperandMarked s g (comp_ex e (from (name_pat y) u hs)) = OfSome (untold_lookup s g u) (EachMarked g)
OperandMarked s g t = OfSome (ordered_lookup s.third s.parts t) (EachMarked g)

-- ---- sources by their indices

-- The term of the first generator doesn't use the new name, and has indices of the type of the domain that is told.
abbrev pub AxisFits : Supply → Names Ty → Gens → Type 0
AxisFits s g (from (name_pat y) u hs) =
    IsNewTo s.one u × OfSome (told_axis u) (λ d. has_indices (type_of u g) (type_of_dom d) ≡ true)
AxisFits s g hs = Unit {0}

-- The index domain of a list that is picked, where no domain tells it: by the number of its items.
abbrev pub axis_by_count : Ex → Option Dom
axis_by_count u = if is_some (or_else (index_dom u) (plain_axis (first_index (dom_told u)))) then None else counted_axis u

-- That one has marks.
abbrev pub AxisMarked : Names Ty → Gens → Type 0
AxisMarked g (from (name_pat y) u hs) = OfSome (axis_by_count u) (λ d. DomHasMarks d g)
AxisMarked g hs = Unit {0}

-- ---- sources that are items

-- What is picked has the type of the first source that isn't plain, and the new name isn't used there or behind.
abbrev pub ItemFits : Supply → Names Ty → Ex → Gens → Type 0
ItemFits s g e gs = OfSome (at_first_open gs) (λ t. OfFirstSource (ordered_lookup s.third s.parts) t.after
    (λ y u hs l. IsNewTo s.other (comp_ex e (from (name_pat y) u hs)) × EachPicksAlike (names_behind t.before g) u l))

-- And it has marks.
abbrev pub ItemMarked : Supply → Names Ty → Gens → Type 0
ItemMarked s g gs = OfSome (at_first_open gs) (λ t. OfFirstSource (ordered_lookup s.third s.parts) t.after
    (λ y u hs l. EachMarked (names_behind t.before g) l))

-- ---- what rules ask

-- What each rule asks: new names, a scalar that is no value of a named type, what is picked of the type of what picks it, and indices of
-- the type of the domain that is told.
abbrev pub OrderedTyped : Supply → Names Ty → OrderedRule → Ex → Type 0
OrderedTyped s g an_item e = GivesScalar g e × OfSome (ordered_lookup s.third s.parts e) (EachPicksAlike g e)
OrderedTyped s g of_an_item e =
    IsNewTo s.one e × GivesScalar g e × OfOperand 1 e (OperandFits s g) × OfOperand 2 e (OperandFits s g)
OrderedTyped s g source_by_indices (comp_ex e gs) = OfSome (at_first_open gs) (λ t. AxisFits s (names_behind t.before g) t.after)
OrderedTyped s g source_of_an_item (fun1 m f (comp_ex e gs)) = ItemFits s g e gs
OrderedTyped s g source_of_an_item (comp_ex e gs) = ItemFits s g e gs
OrderedTyped s g r e = Unit {0}

-- What is asked beside that for marks: alternatives have them, and domains that are told by a number of items.
abbrev pub OrderedMarked : Supply → Names Ty → OrderedRule → Ex → Type 0
OrderedMarked s g an_item e = OfSome (ordered_lookup s.third s.parts e) (EachMarked g)
OrderedMarked s g of_an_item e = OfOperand 1 e (OperandMarked s g) × OfOperand 2 e (OperandMarked s g)
OrderedMarked s g source_by_indices (comp_ex e gs) = OfSome (at_first_open gs) (λ t. AxisMarked (names_behind t.before g) t.after)
OrderedMarked s g source_of_an_item (fun1 m f (comp_ex e gs)) = ItemMarked s g gs
OrderedMarked s g source_of_an_item (comp_ex e gs) = ItemMarked s g gs
OrderedMarked s g r e = Unit {0}

-- ---- what is said

-- So each of these rules keeps the type where it fires.
abbrev pub OrderedRulesKeepTypes : Type 0
OrderedRulesKeepTypes = (s : Supply) (g : Names Ty) (r : OrderedRule) (e f : Ex) → ordered_rewrite s g r e ≡ Some f →
    OrderedTyped s g r e → KeepsType g e f

-- And marks, where what it rewrites has a type.
abbrev pub OrderedRulesKeepMarks : Type 0
OrderedRulesKeepMarks = (s : Supply) (g : Names Ty) (r : OrderedRule) (e f : Ex) → ordered_rewrite s g r e ≡ Some f →
    OrderedTyped s g r e → OrderedMarked s g r e → (t : Ty) → type_of e g ≡ Some t → HasMarks e g → HasMarks f g
