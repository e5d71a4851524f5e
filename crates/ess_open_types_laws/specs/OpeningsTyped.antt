-- Rules of openings that keep types and marks at their root, and what they ask of types, and of names.
use Rattle.std.specs.Prelude.{◌≡◌, Bool, true, false, not, ◌||◌, List, [], ◌∷◌, Option, Some}
use Rattle.ess_semantics.specs.Lists.{and_then}
use Rattle.ess_semantics.specs.Values.{Text, a_matrix}
use Rattle.ess_semantics.specs.Order.{same_text}
use Rattle.ess_semantics.specs.Names.{Names}
use Rattle.ess_semantics.specs.Trees.{name_pat, tuple_pat, Ex, node_ex, comp_ex, ex2, fun1, no_exs, more_exs, Gens, over, from, tuple_dom}
use Rattle.ess_semantics.specs.Types.{Ty, any_ty, bool_ty, int_ty, compound2}
use Rattle.ess_semantics.specs.OperatorTypes.{member_ty}
use Rattle.ess_semantics.specs.Typing.{type_of}
use Rattle.ess_semantics.specs.NamesAt.{names_behind}
use Rattle.ess_semantics.specs.Substitution.{BindsAll}
use Rattle.ess_rules_laws.specs.Listings.{Alternative}
use Rattle.ess_rules_laws.specs.ListedSources.{laid_out}
use Rattle.ess_refine_laws.specs.TypesStay.{KeepsType}
use Rattle.ess_refine_laws.specs.MarksStay.{HasMarks}
use Rattle.ess_refine_laws.specs.AllRules.{Supply, OfSome}
use Rattle.ess_refine_types_laws.specs.MarksOfContainers.{DomsUseNames, IsNewTo}
use Rattle.ess_rules_types_laws.specs.TypesOfOthers.{is_numeric}
use Rattle.ess_rules_types_laws.specs.TypesOfSources.{PutFits, EachPutFits, are_some}
use Rattle.ess_put_marks_laws.specs.MarksOfTerms.{EachMarked}
use Rattle.ess_kind_rules_laws.specs.TermLookups.{looked_up}
use Rattle.ess_open_rules_laws.specs.OpenGenerators.{at_first_open}
use Rattle.ess_open_rules_laws.specs.OpenSources.{all_offered, picked_members, comp_offered, is_placed, in_order_told}
use Rattle.ess_open_rules_laws.specs.OpenRules.{OpenRule, applied_relation, of_a_pick, a_pick_alone, without_its_indices, over_one_source, over_what_is_picked, least_over_several, set_over_several, different_by_counts, in_order_of_its_source, compares_values, first_picked, open_rewrite}

-- ---- relations and lists

-- Whether what is applied has an argument: `r()` of a relation of some components has a type, and `() in r` has none.
abbrev pub has_arguments : Ex → Bool
has_arguments (node_ex b op (more_exs r no_exs)) = false
has_arguments e = true

-- Whether the type is that of a list: of a matrix over numbers, or of the members of an empty literal.
abbrev pub is_list_ty : Option Ty → Bool
is_list_ty (Some any_ty) = true
is_list_ty (Some (compound2 a_matrix i t)) = is_numeric (Some i)
is_list_ty o = false

-- An operand of a sign between lists is a matrix by its items, or is a list: a list isn't compared with a matrix over truth values.
abbrev pub ComparesLists : Names Ty → Ex → Type 0
ComparesLists g a = (is_placed a || is_list_ty (type_of a g)) ≡ true

-- ---- what is picked

-- What a root gives that is marked as a truth value, or isn't.
abbrev pub scalar_ty : Bool → Ty
scalar_ty true = bool_ty
scalar_ty false = int_ty

-- The root gives what its mark says: a value of a named type has no sum.
abbrev pub GivesScalar : Names Ty → Ex → Type 0
GivesScalar g (node_ex b op es) = type_of (node_ex b op es) g ≡ Some (scalar_ty b)
GivesScalar g e = Unit {0}

-- What the alternative picks has the type of the term.
abbrev pub PicksAlike : Names Ty → Ex → Alternative → Type 0
PicksAlike g t a = and_then (type_of (laid_out a) g) member_ty ≡ type_of t g

-- The same of each alternative.
abbrev pub EachPicksAlike : Names Ty → Ex → List Alternative → Type 0
EachPicksAlike g t [] = Unit {0}
EachPicksAlike g t (a ∷ l) = PicksAlike g t a × EachPicksAlike g t l

-- P of the operand that is picked first, with its alternatives.
abbrev pub OfFirstPicked : Supply → Names Ty → Ex → (Ex → List Alternative → Type 0) → Type 0
OfFirstPicked s g (node_ex b op es) P =
    OfSome (first_picked (compares_values b op) g 1 es) (λ p. OfSome (looked_up g s.third s.parts p.1) (P p.1))
OfFirstPicked s g e P = Unit {0}

-- ---- sources

-- P of the name that the first generator binds, of its source, of what stands behind, and of what the source offers, where that is told.
abbrev pub OfFirstSource : (Ex → Option (List Alternative)) → Gens → (Text → Ex → Gens → List Alternative → Type 0) → Type 0
OfFirstSource f (from (name_pat y) u hs) P = OfSome (f u) (P y u hs)
OfFirstSource f gs P = Unit {0}

-- The item of each alternative may stand for the name behind the first source that isn't plain.
abbrev pub OpenedFits : Supply → Names Ty → Ex → Gens → Type 0
OpenedFits s g e gs = OfSome (at_first_open gs) (λ t. OfFirstSource (all_offered s (names_behind t.before g)) t.after
    (λ y u hs l. EachPutFits (names_behind t.before g) y u e hs l))

-- And each alternative has marks.
abbrev pub OpenedMarked : Supply → Names Ty → Gens → Type 0
OpenedMarked s g gs = OfSome (at_first_open gs) (λ t. OfFirstSource (all_offered s (names_behind t.before g)) t.after
    (λ y u hs l. EachMarked (names_behind t.before g) l))

-- There is an alternative.
abbrev pub SomeOffered : Supply → Names Ty → Ex → Gens → Type 0
SomeOffered s g e gs = OfSome (comp_offered s g e gs) (λ l. are_some l ≡ true)

-- ---- sources whose items stay in order

-- The item of the alternative may stand for the name behind the first generator. The names of a pattern are bound to components of a new
-- name, which neither the pattern binds nor what is behind uses.
abbrev pub InOrderFits : Supply → Names Ty → Ex → Gens → Type 0
InOrderFits s g e (from (name_pat y) (comp_ex h ks) hs) = PutFits g y (comp_ex h ks) e hs (record { gens = ks; item = h })
InOrderFits s g e (from (name_pat y) t hs) = OfSome (in_order_told s g t) (PutFits g y t e hs)
InOrderFits s g e (from (tuple_pat ps) t hs) = IsNewTo s.one (comp_ex e hs) × BindsAll (λ a. not (same_text s.one a)) ps
InOrderFits s g e hs = Unit {0}

-- And it has marks; and no domain of a tuple uses a name that its patterns bind.
abbrev pub InOrderMarked : Supply → Names Ty → Gens → Type 0
InOrderMarked s g (from (name_pat y) (comp_ex h ks) hs) = Unit {0}
InOrderMarked s g (from (name_pat y) t hs) = OfSome (in_order_told s g t) (λ a. HasMarks (laid_out a) g)
InOrderMarked s g (over (tuple_pat ps) (tuple_dom ds) hs) = (r : Text → Bool) × BindsAll r ps × DomsUseNames (λ a. not (r a)) ds
InOrderMarked s g hs = Unit {0}

-- ---- what rules ask

-- What each rule asks. The set of no items, and the least of none, has the type of an empty literal's: so there is to be an alternative.
-- The least of several is one of numbers.
abbrev pub OpeningsTyped : Supply → Names Ty → OpenRule → Ex → Type 0
OpeningsTyped s g applied_relation e = has_arguments e ≡ true
OpeningsTyped s g without_its_indices (ex2 m o a b) = ComparesLists g a × ComparesLists g b
OpeningsTyped s g of_a_pick e = IsNewTo s.one e × GivesScalar g e × OfFirstPicked s g e (λ t l. EachPicksAlike g t l)
OpeningsTyped s g a_pick_alone e = GivesScalar g e × OfSome (looked_up g s.third s.parts e) (EachPicksAlike g e)
OpeningsTyped s g over_one_source (fun1 m f (comp_ex e gs)) = OpenedFits s g e gs
OpeningsTyped s g over_what_is_picked (fun1 m f (comp_ex e gs)) =
    OfFirstSource (picked_members s g) gs (λ y u hs l. EachPutFits g y u e hs l)
OpeningsTyped s g least_over_several (fun1 m f (comp_ex e gs)) =
    (type_of (fun1 m f (comp_ex e gs)) g ≡ Some int_ty) × OpenedFits s g e gs × SomeOffered s g e gs
OpeningsTyped s g set_over_several (fun1 m f (comp_ex e gs)) = OpenedFits s g e gs × SomeOffered s g e gs
OpeningsTyped s g different_by_counts e = IsNewTo s.one e
OpeningsTyped s g in_order_of_its_source (comp_ex e gs) =
    OfSome (at_first_open gs) (λ t. InOrderFits s (names_behind t.before g) e t.after)
OpeningsTyped s g r e = Unit {0}

-- What is asked beside that for marks: alternatives have them.
abbrev pub OpeningsMarked : Supply → Names Ty → OpenRule → Ex → Type 0
OpeningsMarked s g of_a_pick e = OfFirstPicked s g e (λ t l. EachMarked g l)
OpeningsMarked s g a_pick_alone e = OfSome (looked_up g s.third s.parts e) (EachMarked g)
OpeningsMarked s g over_one_source (fun1 m f (comp_ex e gs)) = OpenedMarked s g gs
OpeningsMarked s g over_what_is_picked (fun1 m f (comp_ex e gs)) = OfFirstSource (picked_members s g) gs (λ y u hs l. EachMarked g l)
OpeningsMarked s g least_over_several (fun1 m f (comp_ex e gs)) = OpenedMarked s g gs
OpeningsMarked s g set_over_several (fun1 m f (comp_ex e gs)) = OpenedMarked s g gs
OpeningsMarked s g in_order_of_its_source (comp_ex e gs) =
    OfSome (at_first_open gs) (λ t. InOrderMarked s (names_behind t.before g) t.after)
OpeningsMarked s g r e = Unit {0}

-- ---- what is said

-- So each of these rules keeps the type where it fires.
abbrev pub OpeningsKeepTypes : Type 0
OpeningsKeepTypes = (s : Supply) (g : Names Ty) (r : OpenRule) (e f : Ex) → open_rewrite s g r e ≡ Some f →
    OpeningsTyped s g r e → KeepsType g e f

-- And marks, where what it rewrites has a type.
abbrev pub OpeningsKeepMarks : Type 0
OpeningsKeepMarks = (s : Supply) (g : Names Ty) (r : OpenRule) (e f : Ex) → open_rewrite s g r e ≡ Some f →
    OpeningsTyped s g r e → OpeningsMarked s g r e → (t : Ty) → type_of e g ≡ Some t → HasMarks e g → HasMarks f g
