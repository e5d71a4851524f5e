-- A class of specifications: scalars and sets side by side. Givens are scalars kept as atoms; finds are scalars kept as atoms; sets of
-- numbers, of truth values or of values of a named type, without attributes, kept as the members that occur; or sets of any nesting over
-- numbers and truth values, with sizes, kept in any one representation. Each constraint is flat and total over the scalars, or one over
-- scalars, ranges and sets of any nesting, with their sizes and members, operators on them and comparisons of them, or says that a number,
-- a truth value or a value of a type is in a set. The objective is a number that is flat and total over the scalars, or one over scalars,
-- ranges and sets of any nesting. Conditions on parameters are flat and total over the scalars. Named types and lettings are declared among
-- them, in any order and number. Lettings are put in before it is asked what a statement is.
use Rattle.std.specs.Prelude.{ℕ, ◌+◌, ◌^◌, nat_le, Bool, true, false, ◌&&◌, ◌||◌, not, if◌then◌else◌, List, [], ◌∷◌, ◌++◌, length, pos, Option, Some, None, is_some}
use Rattle.std.specs.List.{list_all, list_any}
use Rattle.ess_semantics.specs.declared.words.ReprKind.{ReprKind}
use Rattle.ess_semantics.specs.declared.words.Op2.{Op2}
use Rattle.ess_semantics.specs.Lists.{is_some_and, is_empty}
use Rattle.ess_semantics.specs.Values.{Text}
use Rattle.ess_semantics.specs.Order.{same_text, same_int}
use Rattle.ess_semantics.specs.Names.{Names, look, keys, is_among}
use Rattle.ess_semantics.specs.Kinds.{fits}
use Rattle.ess_semantics.specs.Trees.{Repr, repr, no_reprs, both_ends, Ex, number_ex, truth_ex, name_ex, comp_ex, no_exs, more_exs, Gens, no_gens, over, from, cond, Dom, bool_dom, int_dom, name_dom, set_dom, Stm, given, given_enum, let_ex, let_dom, let_enum, let_unnamed, needs, find, such_that, minimise, maximise, ex2}
use Rattle.ess_semantics.specs.Types.{pattern_names}
use Rattle.ess_semantics.specs.Occurrences.{parts_of}
use Rattle.ess_semantics.specs.Prepared.{prepared}
use Rattle.ess_semantics.specs.Plans.{Options, Plan, size_plan, value_plan, chosen_reprs, kept_names, plans, names_of_plans}
use Rattle.ess_semantics.specs.Constants.{constants_of}
use Rattle.ess_semantics.specs.Models.{constraints_of}
use Rattle.ess_refine_laws.specs.SpellingEnds.{numbers_of_tree}
use Rattle.ess_setwise_laws.specs.ess_seen_laws.Seen.{Kind, kind_of}
use Rattle.ess_setwise_laws.specs.Setwise.{is_setwise_truth, is_setwise_number}
use Rattle.ess_nested_laws.specs.NestedDomains.{is_nested_dom}
use Rattle.conjure_laws.specs.SetsOfAtoms.{TypeKind, fixed, sized, enum_values}
use Rattle.conjure_model_laws.specs.ToldApart.{is_unreserved}
use Rattle.conjure_model_laws.specs.Shown.{shows_nothing, shows_from}
use Rattle.conjure_model_laws.specs.Printed.{printed_name, binders}
use Rattle.conjure_model_laws.specs.IsBuiltFrom.{taken_names}
use Rattle.ess_flat_models_laws.specs.FlatSpecifications.{given_mark, mark_among, is_scalar_dom, is_atom_alone, scalar_mark, is_flat_truth, is_flat_number, has_marks}

-- ---- named types

-- The size of an unnamed type, where it is written as a number.
abbrev pub written_size : Ex → Option ℕ
written_size (number_ex (pos n)) = Some n
written_size e = None

-- A type of this size.
abbrev pub kinds_of_size : Text → Option ℕ → Names TypeKind
kinds_of_size t None = []
kinds_of_size t (Some n) = (t, fixed n) ∷ []

-- The type that a statement declares: the number of its values is written, or it is that of a given type.
abbrev pub kinds_by : Stm → Names TypeKind
kinds_by (given_enum t) = (t, sized) ∷ []
kinds_by (let_enum t ns) = (t, fixed (length ns)) ∷ []
kinds_by (let_unnamed t e) = kinds_of_size t (written_size e)
kinds_by s = []

-- The values of an enumerated type that a statement declares, each with its type and its position.
abbrev pub places_by : Stm → Names (Text × ℕ)
places_by (let_enum t ns) = enum_values t 1 ns
places_by s = []

-- What all statements declare, behind what is known before them.
abbrev pub known_after : {A : Type 0} → (Stm → Names A) → List Stm → Names A → Names A
known_after f [] g = g
known_after f (s ∷ T) g = known_after f T (f s ++ g)

-- The types of a specification.
abbrev pub kinds : List Stm → Names TypeKind
kinds S = known_after kinds_by (prepared S) []

-- The values of its enumerated types.
abbrev pub places : List Stm → Names (Text × ℕ)
places S = known_after places_by (prepared S) []

-- ---- sets

-- Whether members of sets may have the domain: truth values, numbers between two that are written, or values of a type.
abbrev pub is_member_dom : Names TypeKind → Dom → Bool
is_member_dom ks bool_dom = true
is_member_dom ks (int_dom (both_ends ∷ []) (more_exs (number_ex a) (more_exs (number_ex b) no_exs))) = true
is_member_dom ks (name_dom t) = is_some (look ks t)
is_member_dom ks d = false

-- Whether it is the domain of sets of such members, without attributes.
abbrev pub is_set_dom : Names TypeKind → Dom → Bool
is_set_dom ks (set_dom [] no_exs A) = is_member_dom ks A
is_set_dom ks d = false

-- Whether the only representation is that by which members occur.
abbrev pub is_occurrence_alone : List Repr → Bool
is_occurrence_alone (repr ReprKind.Occurrence no_reprs ∷ []) = true
is_occurrence_alone rs = false

-- The domain of the members of sets with this domain.
abbrev pub members_of : Option Dom → Option Dom
members_of (Some (set_dom [] no_exs A)) = Some A
members_of o = None

-- Whether it is a value that may be a member: a number, a truth value, or a value of the type by its name.
abbrev pub is_of_kind : Names (Text × ℕ) → Ex → Dom → Bool
is_of_kind vs (number_ex k) (int_dom rs es) = true
is_of_kind vs (truth_ex b) bool_dom = true
is_of_kind vs (name_ex n) (name_dom t) = is_some_and (look vs n) (λ v. same_text v.0 t)
is_of_kind vs e d = false

-- Whether a name is left for a bound one, as one is wherever fewer than 2^64 - 1 tables are declared.
abbrev pub has_printed_name : List Stm → Options → Bool
has_printed_name S o = not (is_empty (printed_name (taken_names S o) 0))

-- Whether a name is that of a set kept as the members that occur.
abbrev pub is_kept_by_members : List Stm → Options → Text → Bool
is_kept_by_members S o x = is_some_and (look (kept_names S) x) (λ d. is_occurrence_alone (chosen_reprs o x d))

-- Whether it says that such a value is in such a set.
abbrev pub is_membership : List Stm → Options → Ex → Bool
is_membership S o (ex2 true Op2.Member e (name_ex x)) =
    is_some_and (members_of (look (kept_names S) x)) (is_of_kind (places S) e) && (has_printed_name S o && is_kept_by_members S o x)
is_membership S o e = false

-- ---- sets of any nesting

-- Whether the only representation is one for the domain.
abbrev pub is_one_fitting : Dom → List Repr → Bool
is_one_fitting d (r ∷ []) = fits r d
is_one_fitting d rs = false

-- Whether no more than 2^62 tables are declared, as in any text that a machine holds: so names are left for bound ones.
abbrev pub has_few_tables : List Stm → Options → Bool
has_few_tables S o = nat_le (length (taken_names S o)) (2 ^ 62)

-- Whether the plan is one of such sets, but for those of which is kept which atoms occur and which have no attributes.
abbrev pub is_nested_plan : Names TypeKind → Plan → Bool
is_nested_plan ks (size_plan t n) = false
is_nested_plan ks (value_plan f x r d ns) = is_nested_dom d && not (is_set_dom ks d && is_occurrence_alone (r ∷ []))

-- ---- constraints over scalars, ranges and nested sets

-- Whether nothing is shown for a reserved name, as no text has one.
abbrev pub spares_reserved : List Plan → List Stm → Bool
spares_reserved Ps S = list_all is_unreserved (keys (shows_from Ps (prepared S) shows_nothing).first)

-- Whether there are names for all that is bound and declared, as in any text that a machine holds.
abbrev pub has_names_left : List Plan → List Stm → Ex → Bool
has_names_left Ps S e =
    nat_le ((shows_from Ps (prepared S) shows_nothing).next + binders e) (2 ^ 62) && nat_le (length (keys (names_of_plans Ps))) (2 ^ 62)

-- The kind of the members of sets with this domain, where these are sets of any nesting over numbers and truth values.
abbrev pub kind_of_members : Dom → Option Kind
kind_of_members (set_dom ms es d) = if is_nested_dom (set_dom ms es d) then Some (kind_of d) else None
kind_of_members d = None

-- The same of the find of this name.
abbrev pub nested_kind : List Plan → Text → Option Kind
nested_kind [] a = None
nested_kind (value_plan f x r d ns ∷ Ps) a = if same_text x a then kind_of_members d else nested_kind Ps a
nested_kind (P ∷ Ps) a = nested_kind Ps a

-- The names that generators bind.
abbrev pub names_of_gens : Gens → List Text
names_of_gens no_gens = []
names_of_gens (over p d gs) = pattern_names p ++ names_of_gens gs
names_of_gens (from p e gs) = pattern_names p ++ names_of_gens gs
names_of_gens (cond e gs) = names_of_gens gs

-- The names that a comprehension binds.
abbrev pub names_of_comp : Ex → List Text
names_of_comp (comp_ex e gs) = names_of_gens gs
names_of_comp e = []

-- Whether the tree or a part of it binds the name.
abbrev pub binds_name : Ex → Text → Bool
binds_name e a = list_any (λ x. is_among (names_of_comp x) a) (parts_of e)

-- The kind of the members of the set of this name, in a tree that doesn't bind the name. It may bind it where the set is declared later.
abbrev pub unbound_kind : List Plan → Ex → Text → Option Kind
unbound_kind Ps e a = if binds_name e a then None else nested_kind Ps a

-- Whether the constraint is a truth value over scalars, ranges and sets of any nesting, that spells constants of the specification.
abbrev pub is_setwise_constraint : List Plan → List Stm → Ex → Bool
is_setwise_constraint Ps S e =
    is_setwise_truth (scalar_mark Ps) (unbound_kind Ps e) e && (spares_reserved Ps S
    && (has_names_left Ps S e && list_all (λ n. list_any (same_int n) (constants_of S)) (numbers_of_tree e)))

-- Whether the objective is a number over scalars, ranges and sets of any nesting, that spells constants of the specification.
abbrev pub is_setwise_objective : List Plan → List Stm → Ex → Bool
is_setwise_objective Ps S e =
    is_setwise_number (scalar_mark Ps) (unbound_kind Ps e) e && (spares_reserved Ps S
    && (has_names_left Ps S e && list_all (λ n. list_any (same_int n) (constants_of S)) (numbers_of_tree e)))

-- ---- the class

-- Whether a find is such a set, kept in one representation.
abbrev pub is_nested_kept : List Stm → Options → Text → Dom → Bool
is_nested_kept S o x d = is_nested_dom d && (is_one_fitting d (chosen_reprs o x d) && has_few_tables S o)

-- Whether a given or find is a scalar kept as an atom.
abbrev pub is_scalar_kept : List Stm → Options → Text → Dom → Bool
is_scalar_kept S o x d = is_scalar_dom (given_mark (plans S o)) d && is_atom_alone (chosen_reprs o x d)

-- Whether a find is a set kept as the members that occur.
abbrev pub is_set_kept : List Stm → Options → Text → Dom → Bool
is_set_kept S o x d = is_set_dom (kinds S) d && is_occurrence_alone (chosen_reprs o x d)

-- Whether the statement, with lettings put in, is of the class. No letting has the name of a scalar.
abbrev pub is_mixed_statement : List Stm → Options → Stm → Bool
is_mixed_statement S o (given x d) = is_scalar_kept S o x d
is_mixed_statement S o (find x d) = is_scalar_kept S o x d || (is_set_kept S o x d || is_nested_kept S o x d)
is_mixed_statement S o (given_enum t) = true
is_mixed_statement S o (let_enum t ns) = true
is_mixed_statement S o (let_unnamed t e) = is_some (written_size e)
is_mixed_statement S o (let_ex x e) = not (is_some (scalar_mark (plans S o) x))
is_mixed_statement S o (let_dom x d) = true
is_mixed_statement S o (needs e) = is_flat_truth (plans S o) e
is_mixed_statement S o (such_that e) = is_flat_truth (plans S o) e || (is_membership S o e || is_setwise_constraint (plans S o) S e)
is_mixed_statement S o (minimise e) = is_flat_number (plans S o) e || is_setwise_objective (plans S o) S e
is_mixed_statement S o (maximise e) = is_flat_number (plans S o) e || is_setwise_objective (plans S o) S e

-- Whether all statements are of the class, with lettings put in.
abbrev pub are_mixed_statements : List Stm → Options → Bool
are_mixed_statements S o = list_all (is_mixed_statement S o) (prepared S)

-- Whether it is the domain of sets.
abbrev pub is_of_sets : Dom → Bool
is_of_sets (set_dom ms es d) = true
is_of_sets d = false

-- Whether members of sets are of types that are known or declared before.
abbrev pub types_come_first : Names TypeKind → List Stm → Bool
types_come_first ks [] = true
types_come_first ks (find x d ∷ T) = (not (is_of_sets d) || (is_set_dom ks d || is_nested_dom d)) && types_come_first ks T
types_come_first ks (s ∷ T) = types_come_first (kinds_by s ++ ks) T

-- Whether bounds of scalars have no names but those of these givens, and of those that are declared before.
abbrev pub have_bounds : List Plan → List Text → List Stm → Bool
have_bounds Ps xs [] = true
have_bounds Ps xs (given x d ∷ T) = is_scalar_dom (mark_among xs (given_mark Ps)) d && have_bounds Ps (x ∷ xs) T
have_bounds Ps xs (find x d ∷ T) = (is_of_sets d || is_scalar_dom (mark_among xs (given_mark Ps)) d) && have_bounds Ps xs T
have_bounds Ps xs (s ∷ T) = have_bounds Ps xs T

-- Whether the specification is of the class, with these options: so are its statements, types and givens come before sets and bounds, and
-- a constraint that is flat as it was written is total and has its marks.
abbrev pub is_mixed_specification : List Stm → Options → Bool
is_mixed_specification S o =
    are_mixed_statements S o && (types_come_first [] (prepared S)
    && (have_bounds (plans S o) [] (prepared S) && list_all (has_marks (plans S o)) (constraints_of S)))
