-- The own tables of functions, relations and partitions, and the axes of functions, depend on parts of the domain alone.
use Rattle.std.proofs.Common.{◌≡◌, refl, Bool, false, List, []}
use Rattle.ess_semantics.specs.declared.words.ReprKind.{ReprKind}
use Rattle.ess_semantics.specs.Trees.{Mark, Exs, no_exs, Dom, Doms, bool_dom, function_dom, relation_dom, partition_dom}
use Rattle.ess_repr_declare_laws.specs.DeclaredTrees.{own_trees, layer_axes}

-- The own tables of a function depend on its first domain alone, and a kind for atoms isn't one of functions.
pub function_alike : (out : Bool) (k : ReprKind) (ms : List Mark) (es : Exs) (d c : Dom) → (k ≡ ReprKind.Atom → ⊥) →
    own_trees out k (function_dom ms es d c) ≡ own_trees false k (function_dom [] no_exs d bool_dom)
function_alike out ReprKind.Atom ms es d c n = absurd (n refl)
function_alike out ReprKind.Tuple ms es d c n = refl
function_alike out ReprKind.Rec ms es d c n = refl
function_alike out ReprKind.Matrix ms es d c n = refl
function_alike out ReprKind.Occurrence ms es d c n = refl
function_alike out ReprKind.Explicit ms es d c n = refl
function_alike out ReprKind.ExplicitVarSizeWithMarker ms es d c n = refl
function_alike out ReprKind.ExplicitVarSizeWithFlags ms es d c n = refl
function_alike out ReprKind.ExplicitVarSizeWithDummy ms es d c n = refl
function_alike out ReprKind.MSetOccurrence ms es d c n = refl
function_alike out ReprKind.MSetExplicitWithRepetition ms es d c n = refl
function_alike out ReprKind.MSetExplicitWithFlags ms es d c n = refl
function_alike out ReprKind.Function1D ms es d c n = refl
function_alike out ReprKind.Function1DPartial ms es d c n = refl
function_alike out ReprKind.FunctionND ms es d c n = refl
function_alike out ReprKind.FunctionNDPartial ms es d c n = refl
function_alike out ReprKind.FunctionAsRelation ms es d c n = refl
function_alike out ReprKind.RelationAsMatrix ms es d c n = refl
function_alike out ReprKind.RelationAsSet ms es d c n = refl
function_alike out ReprKind.PartitionOccurrence ms es d c n = refl
function_alike out ReprKind.PartitionAsSet ms es d c n = refl

-- Those of a relation depend on its components alone.
pub relation_alike : (out : Bool) (k : ReprKind) (ms : List Mark) (es : Exs) (ds : Doms) → (k ≡ ReprKind.Atom → ⊥) →
    own_trees out k (relation_dom ms es ds) ≡ own_trees false k (relation_dom [] no_exs ds)
relation_alike out ReprKind.Atom ms es ds n = absurd (n refl)
relation_alike out ReprKind.Tuple ms es ds n = refl
relation_alike out ReprKind.Rec ms es ds n = refl
relation_alike out ReprKind.Matrix ms es ds n = refl
relation_alike out ReprKind.Occurrence ms es ds n = refl
relation_alike out ReprKind.Explicit ms es ds n = refl
relation_alike out ReprKind.ExplicitVarSizeWithMarker ms es ds n = refl
relation_alike out ReprKind.ExplicitVarSizeWithFlags ms es ds n = refl
relation_alike out ReprKind.ExplicitVarSizeWithDummy ms es ds n = refl
relation_alike out ReprKind.MSetOccurrence ms es ds n = refl
relation_alike out ReprKind.MSetExplicitWithRepetition ms es ds n = refl
relation_alike out ReprKind.MSetExplicitWithFlags ms es ds n = refl
relation_alike out ReprKind.Function1D ms es ds n = refl
relation_alike out ReprKind.Function1DPartial ms es ds n = refl
relation_alike out ReprKind.FunctionND ms es ds n = refl
relation_alike out ReprKind.FunctionNDPartial ms es ds n = refl
relation_alike out ReprKind.FunctionAsRelation ms es ds n = refl
relation_alike out ReprKind.RelationAsMatrix ms es ds n = refl
relation_alike out ReprKind.RelationAsSet ms es ds n = refl
relation_alike out ReprKind.PartitionOccurrence ms es ds n = refl
relation_alike out ReprKind.PartitionAsSet ms es ds n = refl

-- Those of a partition depend on its inner domain alone.
pub partition_alike : (out : Bool) (k : ReprKind) (ms : List Mark) (es : Exs) (d : Dom) → (k ≡ ReprKind.Atom → ⊥) →
    own_trees out k (partition_dom ms es d) ≡ own_trees out k (partition_dom [] no_exs d)
partition_alike out ReprKind.Atom ms es d n = absurd (n refl)
partition_alike out ReprKind.Tuple ms es d n = refl
partition_alike out ReprKind.Rec ms es d n = refl
partition_alike out ReprKind.Matrix ms es d n = refl
partition_alike out ReprKind.Occurrence ms es d n = refl
partition_alike out ReprKind.Explicit ms es d n = refl
partition_alike out ReprKind.ExplicitVarSizeWithMarker ms es d n = refl
partition_alike out ReprKind.ExplicitVarSizeWithFlags ms es d n = refl
partition_alike out ReprKind.ExplicitVarSizeWithDummy ms es d n = refl
partition_alike out ReprKind.MSetOccurrence ms es d n = refl
partition_alike out ReprKind.MSetExplicitWithRepetition ms es d n = refl
partition_alike out ReprKind.MSetExplicitWithFlags ms es d n = refl
partition_alike out ReprKind.Function1D ms es d n = refl
partition_alike out ReprKind.Function1DPartial ms es d n = refl
partition_alike out ReprKind.FunctionND ms es d n = refl
partition_alike out ReprKind.FunctionNDPartial ms es d n = refl
partition_alike out ReprKind.FunctionAsRelation ms es d n = refl
partition_alike out ReprKind.RelationAsMatrix ms es d n = refl
partition_alike out ReprKind.RelationAsSet ms es d n = refl
partition_alike out ReprKind.PartitionOccurrence ms es d n = refl
partition_alike out ReprKind.PartitionAsSet ms es d n = refl

-- The axes that a layer over a function puts before its child's depend on its first domain alone.
pub function_axes_alike : (k : ReprKind) (ms : List Mark) (es : Exs) (d c : Dom) →
    layer_axes k (function_dom ms es d c) ≡ layer_axes k (function_dom [] no_exs d bool_dom)
function_axes_alike ReprKind.Atom ms es d c = refl
function_axes_alike ReprKind.Tuple ms es d c = refl
function_axes_alike ReprKind.Rec ms es d c = refl
function_axes_alike ReprKind.Matrix ms es d c = refl
function_axes_alike ReprKind.Occurrence ms es d c = refl
function_axes_alike ReprKind.Explicit ms es d c = refl
function_axes_alike ReprKind.ExplicitVarSizeWithMarker ms es d c = refl
function_axes_alike ReprKind.ExplicitVarSizeWithFlags ms es d c = refl
function_axes_alike ReprKind.ExplicitVarSizeWithDummy ms es d c = refl
function_axes_alike ReprKind.MSetOccurrence ms es d c = refl
function_axes_alike ReprKind.MSetExplicitWithRepetition ms es d c = refl
function_axes_alike ReprKind.MSetExplicitWithFlags ms es d c = refl
function_axes_alike ReprKind.Function1D ms es d c = refl
function_axes_alike ReprKind.Function1DPartial ms es d c = refl
function_axes_alike ReprKind.FunctionND ms es d c = refl
function_axes_alike ReprKind.FunctionNDPartial ms es d c = refl
function_axes_alike ReprKind.FunctionAsRelation ms es d c = refl
function_axes_alike ReprKind.RelationAsMatrix ms es d c = refl
function_axes_alike ReprKind.RelationAsSet ms es d c = refl
function_axes_alike ReprKind.PartitionOccurrence ms es d c = refl
function_axes_alike ReprKind.PartitionAsSet ms es d c = refl
