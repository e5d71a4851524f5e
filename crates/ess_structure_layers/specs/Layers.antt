-- The tables of a layer with one child, and its structure: given the axes of the layer, the tables of the child and the structure of
-- the child at the places of these axes.
use Rattle.std.specs.Prelude.{ℕ, true, false, List, [], ◌∷◌}
use Rattle.ess_semantics.specs.declared.words.ReprKind.{ReprKind}
use Rattle.ess_semantics.specs.Values.{Text}
use Rattle.ess_semantics.specs.Trees.{Repr, repr, no_reprs, more_reprs, Ex, Exs, truth_ex, seen_ex, Dom, set_dom, mset_dom, function_dom, relation_dom, partition_dom}
use Rattle.ess_repr_laws.specs.StructureParts.{Shape, and_ex, keys_ex, each_ex, counted_ex, marker_ex, explicit_ex, flags_ex, first_name, own_shape, tuple_set_dom}
use Rattle.ess_repr_laws.specs.RelationParts.{relation_key_ex}
use Rattle.ess_repr_laws.specs.FunctionParts.{bare_function_dom, total_ex, partial_ex}
use Rattle.ess_repr_laws.specs.MultisetParts.{bare_mset_dom, repetition_ex}
use Rattle.ess_repr_laws.specs.ViewParts.{view_ex, shape_names, pair_relation_dom, pairs_ex, part_set_dom, parts_ex}
use Rattle.ess_repr_declare_laws.specs.SizeTerms.{slots_ex, size_terms}
use Rattle.conjure_model_laws.specs.ToldApart.{reserved}

-- The tables of a layer of its own, beside its child's: a marker, flags, or numbers of times.
abbrev pub own_shapes : ReprKind → List Text → List Dom → List Shape
own_shapes ReprKind.ExplicitVarSizeWithMarker ns as' = own_shape ns false [] ∷ []
own_shapes ReprKind.ExplicitVarSizeWithFlags ns as' = own_shape ns true as' ∷ []
own_shapes ReprKind.MSetExplicitWithFlags ns as' = own_shape ns false as' ∷ []
own_shapes ReprKind.MSetExplicitWithRepetition ns as' = own_shape ns false [] ∷ []
own_shapes ReprKind.Function1DPartial ns as' = own_shape ns true as' ∷ []
own_shapes ReprKind.FunctionNDPartial ns as' = own_shape ns true as' ∷ []
own_shapes _ ns as' = []

-- The view of a layer over the representation r, of which its child's tables have these names.
abbrev pub view_over : ReprKind → Repr → Dom → List Text → Exs → Ex
view_over k r d ns is = seen_ex (repr k (more_reprs r no_reprs)) d ns is

-- The structure of a function with a value at each place of the axes, whose tables have these names.
abbrev pub total_layer : ReprKind → Repr → Dom → ℕ → Exs → List Dom → List Shape → Ex → Ex
total_layer k r (function_dom ms es d c) l is as' ss part =
    total_ex reserved l ms es as' ss is r c (view_over k r (bare_function_dom d c) (shape_names ss) is) part
total_layer k r d l is as' ss part = truth_ex false

-- The structure of a function with a flag and a value at each place.
abbrev pub partial_layer : ReprKind → Repr → Dom → List Text → ℕ → Exs → List Dom → List Shape → Ex → Ex
partial_layer k r (function_dom ms es d c) ns l is as' ss part =
    partial_ex reserved l ms es as' (first_name ns) is ss c
    (view_over k r (bare_function_dom d c) (first_name ns ∷ shape_names ss) is) part
partial_layer k r d ns l is as' ss part = truth_ex false

-- The structure of a set in slots that are all in use.
abbrev pub explicit_layer : Dom → ℕ → Exs → List Shape → Ex → Ex
explicit_layer (set_dom ms es d) l is ss part = explicit_ex reserved l ms es (slots_ex (set_dom ms es d)) ss is part
explicit_layer d l is ss part = truth_ex false

-- The structure of a set in slots up to a marker.
abbrev pub marker_layer : Dom → List Text → ℕ → Exs → List Shape → Ex → Ex
marker_layer (set_dom ms es d) ns l is ss part = marker_ex reserved l ms es (slots_ex (set_dom ms es d)) (first_name ns) ss is part
marker_layer d ns l is ss part = truth_ex false

-- The structure of a set in slots with flags.
abbrev pub flags_layer : Dom → List Text → ℕ → Exs → List Shape → Ex → Ex
flags_layer (set_dom ms es d) ns l is ss part = flags_ex reserved l ms es (slots_ex (set_dom ms es d)) (first_name ns) ss is part
flags_layer d ns l is ss part = truth_ex false

-- The structure of a multiset in slots with numbers of times.
abbrev pub counted_layer : Dom → List Text → ℕ → Exs → List Shape → Ex → Ex
counted_layer (mset_dom ms es d) ns l is ss part = counted_ex reserved l ms es (slots_ex (mset_dom ms es d)) (first_name ns) ss is part
counted_layer d ns l is ss part = truth_ex false

-- The structure of a multiset in slots up to a marker.
abbrev pub repetition_layer : Repr → Dom → List Text → ℕ → Exs → List Shape → Ex → Ex
repetition_layer r (mset_dom ms es d) ns l is ss part =
    repetition_ex reserved l ms es (slots_ex (mset_dom ms es d)) (first_name ns) ss is
    (view_over ReprKind.MSetExplicitWithRepetition r (bare_mset_dom (slots_ex (mset_dom ms es d)) d) (first_name ns ∷ shape_names ss) is) part
repetition_layer r d ns l is ss part = truth_ex false

-- The structure of a relation as the set of its tuples.
abbrev pub tuples_layer : Repr → Dom → ℕ → Exs → List Shape → Ex → Ex
tuples_layer r (relation_dom ms es ds) l is ss part =
    and_ex part (keys_ex (relation_key_ex reserved l ds (view_ex r (tuple_set_dom ms es ds) ss is)) ms)
tuples_layer r d l is ss part = truth_ex false

-- The structure of a function as the relation of its pairs.
abbrev pub pairs_layer : Repr → Dom → ℕ → Exs → List Shape → Ex → Ex
pairs_layer r (function_dom ms es d c) l is ss part =
    and_ex part (pairs_ex reserved l ms es d c (view_ex r (pair_relation_dom size_terms ms es d c) ss is))
pairs_layer r d l is ss part = truth_ex false

-- The structure of a partition as the set of its parts.
abbrev pub parts_layer : Repr → Dom → ℕ → Exs → List Shape → Ex → Ex
parts_layer r (partition_dom ms es d) l is ss part =
    and_ex part (parts_ex reserved l ms d (view_ex r (part_set_dom size_terms ms es d) ss is))
parts_layer r d l is ss part = truth_ex false

-- The structure of a layer of this kind over the representation r: its tables have the names ns, and its child's are ss. At the index
-- list is, it is given the axes that it puts before those of its child, and the structure of the child at their places.
abbrev pub layer_structure : ReprKind → Repr → Dom → List Text → ℕ → Exs → List Dom → List Shape → Ex → Ex
layer_structure ReprKind.Matrix r d ns l is as' ss part = each_ex reserved l as' part
layer_structure ReprKind.Explicit r d ns l is as' ss part = explicit_layer d l is ss part
layer_structure ReprKind.ExplicitVarSizeWithMarker r d ns l is as' ss part = marker_layer d ns l is ss part
layer_structure ReprKind.ExplicitVarSizeWithFlags r d ns l is as' ss part = flags_layer d ns l is ss part
layer_structure ReprKind.MSetExplicitWithFlags r d ns l is as' ss part = counted_layer d ns l is ss part
layer_structure ReprKind.MSetExplicitWithRepetition r d ns l is as' ss part = repetition_layer r d ns l is ss part
layer_structure ReprKind.Function1D r d ns l is as' ss part = total_layer ReprKind.Function1D r d l is as' ss part
layer_structure ReprKind.FunctionND r d ns l is as' ss part = total_layer ReprKind.FunctionND r d l is as' ss part
layer_structure ReprKind.Function1DPartial r d ns l is as' ss part = partial_layer ReprKind.Function1DPartial r d ns l is as' ss part
layer_structure ReprKind.FunctionNDPartial r d ns l is as' ss part = partial_layer ReprKind.FunctionNDPartial r d ns l is as' ss part
layer_structure ReprKind.RelationAsSet r d ns l is as' ss part = tuples_layer r d l is ss part
layer_structure ReprKind.FunctionAsRelation r d ns l is as' ss part = pairs_layer r d l is ss part
layer_structure ReprKind.PartitionAsSet r d ns l is as' ss part = parts_layer r d l is ss part
layer_structure _ r d ns l is as' ss part = truth_ex false
