-- Rules of comprehensions over sources whose items are counted: what they ask of types, and of names, so as to keep types and marks at
-- their root.
use Rattle.std.specs.Prelude.{◌≡◌, Bool, true, false, not, [], ◌∷◌, Some, is_some}
use Rattle.ess_semantics.specs.Values.{Text}
use Rattle.ess_semantics.specs.Order.{same_text}
use Rattle.ess_semantics.specs.Names.{Names}
use Rattle.ess_semantics.specs.Trees.{by_value, index, name_pat, Ex, node_ex, comp_ex, ex2, no_exs, more_exs, Gens, from}
use Rattle.ess_semantics.specs.Types.{Ty, int_ty, join, type_of_dom}
use Rattle.ess_semantics.specs.Typing.{type_of}
use Rattle.ess_semantics.specs.NamesAt.{names_behind}
use Rattle.ess_semantics.specs.Substitution.{NamesAre}
use Rattle.ess_refine_laws.specs.TypesStay.{KeepsType}
use Rattle.ess_refine_laws.specs.MarksStay.{HasMarks, DomHasMarks}
use Rattle.ess_refine_laws.specs.AllRules.{Supply, OfSome}
use Rattle.ess_refine_types_laws.specs.MarksOfContainers.{DomUsesNames, IsNewTo}
use Rattle.ess_rules_types_laws.specs.TypesOfOthers.{has_indices}
use Rattle.ess_rules_types_laws.specs.PutTypes.{TablesAre}
use Rattle.ess_open_rules_laws.specs.OpenGenerators.{at_first_open}
use Rattle.ess_ordered_types_laws.specs.OrderedTyped.{axis_by_count}
use Rattle.ess_numbered_laws.specs.CountedSources.{counted_list}
use Rattle.ess_numbered_laws.specs.EqualByNumber.{other_side}
use Rattle.ess_numbered_laws.specs.NumberRules.{NumberRule, equality_of_lists, sign_between_lists, item_of_a_list, side_of_a_pair, lists_of_what_is_picked, number_rewrite}

-- ---- an item of a list

-- The term of the first generator doesn't use the new name, and numbers are its indices.
abbrev pub CountedFits : Supply → Names Ty → Gens → Type 0
CountedFits s g (from (name_pat y) u hs) = IsNewTo s.one u × (has_indices (type_of u g) int_ty ≡ true)
CountedFits s g hs = Unit {0}

-- So it is at the first generator that isn't plain, where the expression is a comprehension.
abbrev pub FirstOpenFits : Supply → Names Ty → Ex → Type 0
FirstOpenFits s g (comp_ex e gs) = OfSome (at_first_open gs) (λ t. CountedFits s (names_behind t.before g) t.after)
FirstOpenFits s g e = Unit {0}

-- No name that the tree binds is that of a table of its cells. So what is counted has its type outside of generators that count doesn't
-- depend on.
abbrev pub BindsNoTable : Ex → Type 0
BindsNoTable e = (w : Text → Bool) × TablesAre w e × NamesAre (λ a. true) (λ a. not (w a)) e

-- So it is with the term of the first generator.
abbrev pub SourceBindsNone : Gens → Type 0
SourceBindsNone (from (name_pat y) u hs) = BindsNoTable u
SourceBindsNone hs = Unit {0}

-- And with that of the first that isn't plain.
abbrev pub FirstOpenBindsNone : Ex → Type 0
FirstOpenBindsNone (comp_ex e gs) = OfSome (at_first_open gs) (λ t. SourceBindsNone t.after)
FirstOpenBindsNone e = Unit {0}

-- ---- lists in place of other matrices

-- The term of the first generator doesn't use the new name.
abbrev pub SourceIsNew : Supply → Gens → Type 0
SourceIsNew s (from (name_pat y) u hs) = IsNewTo s.one u
SourceIsNew s hs = Unit {0}

-- Nor does that of the first that isn't plain.
abbrev pub FirstOpenIsNew : Supply → Ex → Type 0
FirstOpenIsNew s (comp_ex e gs) = OfSome (at_first_open gs) (λ t. SourceIsNew s t.after)
FirstOpenIsNew s e = Unit {0}

-- ---- comparisons

-- Of a matrix whose index domain is told numbers are indices, and they may be compared with members of the domain.
abbrev pub SideFits : Supply → Names Ty → Ex → Type 0
SideFits s g b = OfSome (other_side b) (λ o. OfSome o (λ d. (same_text s.other s.one ≡ false) × (has_indices (type_of b g) int_ty ≡ true)
    × (is_some (join (type_of_dom d) int_ty) ≡ true)))

-- That domain has marks where it is told by a number of items, and doesn't use the new name.
abbrev pub SideMarked : Supply → Names Ty → Ex → Type 0
SideMarked s g b = OfSome (axis_by_count b) (λ d. DomHasMarks d g × DomUsesNames (λ a. not (same_text s.one a)) d)

-- Where the operand is a comprehension over a counted source, it binds no name of a table.
abbrev pub ListBindsNone : Supply → Names Ty → Ex → Type 0
ListBindsNone s g a = OfSome (counted_list s g a) (λ n. BindsNoTable a)

-- ---- what rules ask

-- What each rule asks: new names, and indices of the type of numbers.
abbrev pub NumberTyped : Supply → Names Ty → NumberRule → Ex → Type 0
NumberTyped s g equality_of_lists (ex2 m o a b) = IsNewTo s.one a × IsNewTo s.one b × SideFits s g a × SideFits s g b
NumberTyped s g sign_between_lists (ex2 m o a b) =
    (same_text s.other s.one ≡ false) × IsNewTo s.one a × IsNewTo s.one b × IsNewTo s.other a × IsNewTo s.other b
NumberTyped s g item_of_a_list (node_ex m op (more_exs a is)) = FirstOpenFits s g a
NumberTyped s g side_of_a_pair (ex2 m o a b) = FirstOpenFits s g a × FirstOpenFits s g b
NumberTyped s g lists_of_what_is_picked (node_ex m (index (by_value ∷ [])) (more_exs a (more_exs i no_exs))) = FirstOpenIsNew s a
NumberTyped s g lists_of_what_is_picked (ex2 m o a b) = FirstOpenIsNew s a × FirstOpenIsNew s b
NumberTyped s g r e = Unit {0}

-- What is asked beside that for marks: what is counted binds no name of a table, and a domain that is told by a number of items has marks.
abbrev pub NumberMarked : Supply → Names Ty → NumberRule → Ex → Type 0
NumberMarked s g equality_of_lists (ex2 m o a b) =
    (ListBindsNone s g a × SideMarked s g b) × (ListBindsNone s g b × SideMarked s g a)
NumberMarked s g sign_between_lists (ex2 m o a b) = ListBindsNone s g a × ListBindsNone s g b
NumberMarked s g item_of_a_list (node_ex m op (more_exs a is)) = FirstOpenBindsNone a
NumberMarked s g side_of_a_pair (ex2 m o a b) = FirstOpenBindsNone a × FirstOpenBindsNone b
NumberMarked s g r e = Unit {0}

-- ---- what is said

-- So each of these rules keeps the type where it fires.
abbrev pub NumberRulesKeepTypes : Type 0
NumberRulesKeepTypes = (s : Supply) (g : Names Ty) (r : NumberRule) (e f : Ex) → number_rewrite s g r e ≡ Some f →
    NumberTyped s g r e → KeepsType g e f

-- And marks, where what it rewrites has a type.
abbrev pub NumberRulesKeepMarks : Type 0
NumberRulesKeepMarks = (s : Supply) (g : Names Ty) (r : NumberRule) (e f : Ex) → number_rewrite s g r e ≡ Some f →
    NumberTyped s g r e → NumberMarked s g r e → (t : Ty) → type_of e g ≡ Some t → HasMarks e g → HasMarks f g
