-- What a view offers as a listing, whatever its kind: generators and an item that run over the members of the value that its tables stand
-- for. Sizes are those of the view's own domain.
use Rattle.std.specs.Prelude.{false, List, [], ◌∷◌, Option, Some, None, option_map}
use Rattle.ess_semantics.specs.declared.words.ReprKind.{ReprKind}
use Rattle.ess_semantics.specs.declared.words.Fun.{Fun}
use Rattle.ess_semantics.specs.Values.{Text}
use Rattle.ess_semantics.specs.Trees.{repr, no_reprs, more_reprs, name_pat, Ex, name_ex, node_ex, seen_ex, more_exs, no_gens, over, Dom, Doms, bool_dom, tuple_dom, matrix_dom, set_dom, mset_dom, function_dom, relation_dom, partition_dom, more_doms, fun1}
use Rattle.ess_repr_declare_laws.specs.SizeTerms.{slots_ex, dummy_ex, occurrences_ex, bound_ex, zero_ex}
use Rattle.ess_rules_laws.specs.Listings.{Alternative, those}
use Rattle.ess_rules_laws.specs.SetListings.{occurrence_listing, put_last}
use Rattle.ess_rules_laws.specs.SlotListings.{explicit_listing, marker_listing, flags_listing}
use Rattle.ess_rules_laws.specs.DummyListings.{dummy_listing}
use Rattle.ess_rules_laws.specs.OccurrenceViews.{relation_matrix_listing}
use Rattle.ess_rules_laws.specs.Function1DViews.{function_1d_listing}
use Rattle.ess_rules_laws.specs.Function1DPartialViews.{function_1d_partial_listing}
use Rattle.ess_rules_laws.specs.FunctionNDViews.{function_nd_listing}
use Rattle.ess_rules_laws.specs.FunctionNDPartialViews.{function_nd_partial_listing}
use Rattle.ess_views_laws.specs.MatrixViews.{behind_index}
use Rattle.ess_views_laws.specs.ChildViews.{kept_as}
use Rattle.ess_views_laws.specs.MultisetViews.{occurrence_members, repetition_members, counted_members, members_once}
use Rattle.ess_views_laws.specs.PartitionViews.{partition_parts}

-- ---- sizes of a view

-- The domain that a view stands over.
abbrev pub dom_seen : Ex → Dom
dom_seen (seen_ex r d ns js) = d
dom_seen e = bool_dom

-- How many slots it has.
abbrev pub slots_seen : Ex → Ex
slots_seen v = slots_ex (dom_seen v)

-- The dummy of a set's members.
abbrev pub dummy_of_members : Dom → Ex
dummy_of_members (set_dom ms es d) = dummy_ex d
dummy_of_members d = zero_ex

-- How often a member of a multiset may be there.
abbrev pub occurrences_of : Dom → Ex
occurrences_of (mset_dom ms es d) = occurrences_ex ms es
occurrences_of d = zero_ex

-- How many members a partition has.
abbrev pub partitioned : Dom → Ex
partitioned (partition_dom ms es d) = bound_ex d
partitioned d = zero_ex

-- The second operand.
abbrev pub second_operand : Ex → Ex
second_operand (node_ex b op (more_exs a (more_exs v es))) = v
second_operand e = e

-- How many members the partition has that is the second operand.
abbrev pub partitioned_second : Ex → Ex
partitioned_second e = partitioned (dom_seen (second_operand e))

-- How many slots the only operand has.
abbrev pub slots_of_operand : Ex → Ex
slots_of_operand (node_ex b op (more_exs v es)) = slots_seen v
slots_of_operand e = slots_seen e

-- Of a view of a total function the number of members of its first domain.
abbrev pub members_of_first : Ex → Option Ex
members_of_first (seen_ex (repr ReprKind.Function1D rs) (function_dom ms es d c) ns js) = Some (bound_ex d)
members_of_first (seen_ex (repr ReprKind.FunctionND rs) (function_dom ms es d c) ns js) = Some (bound_ex d)
members_of_first e = None

-- ---- names for components

-- As many of the names as there are domains.
abbrev pub one_each : List Text → Doms → List Text
one_each (x ∷ xs) (more_doms d ds) = x ∷ one_each xs ds
one_each xs ds = []

-- The names for the components of an argument of a function, of a tuple of a relation.
abbrev pub names_for : List Text → Dom → List Text
names_for zs (function_dom ms es (tuple_dom ds) c) = one_each zs ds
names_for zs (relation_dom ms es ds) = one_each zs ds
names_for zs d = []

-- ---- listings

-- The items of a matrix, in order: x over the first index domain, and the view behind it.
abbrev pub matrix_listing : Text → Ex → Option Alternative
matrix_listing x (seen_ex (repr ReprKind.Matrix (more_reprs r no_reprs)) (matrix_dom (more_doms i is) d) ns js) =
    Some (record { gens = over (name_pat x) i no_gens; item = behind_index r is d ns (put_last js (name_ex x)) })
matrix_listing x e = None

-- Those of a value that is kept as another value.
abbrev pub kept_listing : Text → Ex → Option Alternative
kept_listing x v = option_map (λ c. those x c no_gens) (kept_as v)

-- By the kind of the view v. The names are x and y, and zs for the components of an argument, of which there may be too many.
abbrev pub listing_of : ReprKind → Text → Text → List Text → Ex → Option Alternative
listing_of ReprKind.Matrix x y zs v = matrix_listing x v
listing_of ReprKind.Occurrence x y zs v = occurrence_listing x v
listing_of ReprKind.Explicit x y zs v = explicit_listing x (slots_seen v) v
listing_of ReprKind.ExplicitVarSizeWithMarker x y zs v = marker_listing x (slots_seen v) v
listing_of ReprKind.ExplicitVarSizeWithFlags x y zs v = flags_listing x (slots_seen v) v
listing_of ReprKind.ExplicitVarSizeWithDummy x y zs v = dummy_listing x (slots_seen v) (dummy_of_members (dom_seen v)) v
listing_of ReprKind.MSetOccurrence x y zs v = occurrence_members x y (occurrences_of (dom_seen v)) v
listing_of ReprKind.MSetExplicitWithRepetition x y zs v = repetition_members x (slots_seen v) v
listing_of ReprKind.MSetExplicitWithFlags x y zs v = counted_members x y (slots_seen v) (occurrences_of (dom_seen v)) v
listing_of ReprKind.Function1D x y zs v = function_1d_listing x v
listing_of ReprKind.Function1DPartial x y zs v = function_1d_partial_listing x v
listing_of ReprKind.FunctionND x y zs v = function_nd_listing (names_for zs (dom_seen v)) v
listing_of ReprKind.FunctionNDPartial x y zs v = function_nd_partial_listing (names_for zs (dom_seen v)) v
listing_of ReprKind.FunctionAsRelation x y zs v = kept_listing x v
listing_of ReprKind.RelationAsMatrix x y zs v = relation_matrix_listing (names_for zs (dom_seen v)) v
listing_of ReprKind.RelationAsSet x y zs v = kept_listing x v
listing_of ReprKind.PartitionAsSet x y zs v = kept_listing x v
listing_of ReprKind.PartitionOccurrence x y zs v = partition_parts x (partitioned (dom_seen v)) v
listing_of k x y zs v = None

-- What a view offers, and the set of a multiset's members.
abbrev pub view_listing : Text → Text → List Text → Ex → Option Alternative
view_listing x y zs (seen_ex (repr k rs) d ns js) = listing_of k x y zs (seen_ex (repr k rs) d ns js)
view_listing x y zs (fun1 false Fun.ToSet v) = members_once x (slots_seen v) (fun1 false Fun.ToSet v)
view_listing x y zs e = None
