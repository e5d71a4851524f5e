-- What stands below a layer with one child: the domain of the child, and the axes that the layer puts before those of the child's tables.
use Rattle.std.specs.Prelude.{List, [], ◌∷◌, Option, Some, None}
use Rattle.ess_semantics.specs.declared.words.ReprKind.{ReprKind}
use Rattle.ess_semantics.specs.Kinds.{dom_list}
use Rattle.ess_semantics.specs.Trees.{Dom, tuple_dom, matrix_dom, set_dom, mset_dom, function_dom, relation_dom, partition_dom}
use Rattle.ess_repr_laws.specs.StructureParts.{upto, tuple_set_dom}
use Rattle.ess_repr_laws.specs.ViewParts.{pair_relation_dom, part_set_dom}
use Rattle.ess_repr_declare_laws.specs.SizeTerms.{slots_ex, size_terms}

-- The domain of the child, and the axes.
pub record Inner : Type 0 where
  pub dom : Dom
  pub axes : List Dom

-- These two.
abbrev pub inner : Dom → List Dom → Inner
inner d as' = record { dom = d; axes = as' }

-- The items of a matrix, over its index domains.
abbrev pub items_of : Dom → Option Inner
items_of (matrix_dom is d) = Some (inner d (dom_list is))
items_of d = None

-- The members d of containers, over the slots of the containers' domain e.
abbrev pub in_slots : Dom → Dom → Inner
in_slots e d = inner d (upto (slots_ex e) ∷ [])

-- The members of a set, in slots.
abbrev pub set_members_of : Dom → Option Inner
set_members_of (set_dom ms es d) = Some (in_slots (set_dom ms es d) d)
set_members_of d = None

-- The members of a multiset, in slots.
abbrev pub mset_members_of : Dom → Option Inner
mset_members_of (mset_dom ms es d) = Some (in_slots (mset_dom ms es d) d)
mset_members_of d = None

-- The values of a function, over its first domain.
abbrev pub values_of : Dom → Option Inner
values_of (function_dom ms es d c) = Some (inner c (d ∷ []))
values_of d = None

-- The values of a function of tuples, over the domains of the components.
abbrev pub values_at_tuples_of : Dom → Option Inner
values_at_tuples_of (function_dom ms es (tuple_dom ds) c) = Some (inner c (dom_list ds))
values_at_tuples_of d = None

-- The set of a relation's tuples.
abbrev pub tuples_of : Dom → Option Inner
tuples_of (relation_dom ms es ds) = Some (inner (tuple_set_dom ms es ds) [])
tuples_of d = None

-- The relation of a function's pairs.
abbrev pub pairs_of : Dom → Option Inner
pairs_of (function_dom ms es d c) = Some (inner (pair_relation_dom size_terms ms es d c) [])
pairs_of d = None

-- The set of a partition's parts.
abbrev pub parts_of : Dom → Option Inner
parts_of (partition_dom ms es d) = Some (inner (part_set_dom size_terms ms es d) [])
parts_of d = None

-- What stands below a layer of this kind. Nothing where the kind has no child, or isn't one for the domain.
abbrev pub inner_of : ReprKind → Dom → Option Inner
inner_of ReprKind.Matrix d = items_of d
inner_of ReprKind.Explicit d = set_members_of d
inner_of ReprKind.ExplicitVarSizeWithMarker d = set_members_of d
inner_of ReprKind.ExplicitVarSizeWithFlags d = set_members_of d
inner_of ReprKind.MSetExplicitWithFlags d = mset_members_of d
inner_of ReprKind.MSetExplicitWithRepetition d = mset_members_of d
inner_of ReprKind.Function1D d = values_of d
inner_of ReprKind.Function1DPartial d = values_of d
inner_of ReprKind.FunctionND d = values_at_tuples_of d
inner_of ReprKind.FunctionNDPartial d = values_at_tuples_of d
inner_of ReprKind.RelationAsSet d = tuples_of d
inner_of ReprKind.FunctionAsRelation d = pairs_of d
inner_of ReprKind.PartitionAsSet d = parts_of d
inner_of _ d = None
