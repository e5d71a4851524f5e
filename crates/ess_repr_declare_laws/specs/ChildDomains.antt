-- The domains of a representation's children as trees.
use Rattle.std.specs.Prelude.{List, [], ◌∷◌}
use Rattle.ess_semantics.specs.declared.words.ReprKind.{ReprKind}
use Rattle.ess_semantics.specs.Kinds.{dom_list}
use Rattle.ess_semantics.specs.Trees.{Repr, repr, Dom, tuple_dom, record_dom, matrix_dom, set_dom, mset_dom, function_dom, relation_dom, partition_dom}
use Rattle.ess_repr_laws.specs.StructureParts.{tuple_set_dom}
use Rattle.ess_repr_laws.specs.ViewParts.{pair_relation_dom, part_set_dom}
use Rattle.ess_repr_declare_laws.specs.SizeTerms.{size_terms}

-- The kind of a representation.
abbrev pub kind_of : Repr → ReprKind
kind_of (repr k rs) = k

-- The domains of a kind's children, where the kind is one for the domain.
abbrev pub child_doms : ReprKind → Dom → List Dom
child_doms ReprKind.Tuple (tuple_dom ds) = dom_list ds
child_doms ReprKind.Rec (record_dom fs ds) = dom_list ds
child_doms ReprKind.Matrix (matrix_dom is d) = d ∷ []
child_doms ReprKind.Explicit (set_dom ms es d) = d ∷ []
child_doms ReprKind.ExplicitVarSizeWithMarker (set_dom ms es d) = d ∷ []
child_doms ReprKind.ExplicitVarSizeWithFlags (set_dom ms es d) = d ∷ []
child_doms ReprKind.MSetExplicitWithRepetition (mset_dom ms es d) = d ∷ []
child_doms ReprKind.MSetExplicitWithFlags (mset_dom ms es d) = d ∷ []
child_doms ReprKind.Function1D (function_dom ms es d c) = c ∷ []
child_doms ReprKind.Function1DPartial (function_dom ms es d c) = c ∷ []
child_doms ReprKind.FunctionND (function_dom ms es d c) = c ∷ []
child_doms ReprKind.FunctionNDPartial (function_dom ms es d c) = c ∷ []
child_doms ReprKind.FunctionAsRelation (function_dom ms es d c) = pair_relation_dom size_terms ms es d c ∷ []
child_doms ReprKind.RelationAsSet (relation_dom ms es ds) = tuple_set_dom ms es ds ∷ []
child_doms ReprKind.PartitionAsSet (partition_dom ms es d) = part_set_dom size_terms ms es d ∷ []
child_doms _ d = []
