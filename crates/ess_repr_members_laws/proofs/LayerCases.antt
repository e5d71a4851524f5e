-- The layer of a kind that is one for the domain, for each kind and domain.
use Rattle.std.proofs.Common.{◌≡◌, true, ◌&&◌, List, [], ◌∷◌, Some}
use Rattle.ess_semantics.specs.declared.words.Key.{Key}
use Rattle.ess_semantics.specs.declared.words.ReprKind.{ReprKind}
use Rattle.ess_semantics.specs.Domains.{Domain}
use Rattle.ess_semantics.specs.Membership.{no_negative_attribute}
use Rattle.ess_semantics.specs.Kinds.{has_key, is_atom, has_dummy, is_atom_tuple, are_atoms, child_forms}
use Rattle.ess_semantics.specs.Trees.{Dom, bool_dom, int_dom, name_dom, tuple_dom, record_dom, matrix_dom, set_dom, mset_dom, function_dom, relation_dom, partition_dom}
use Rattle.ess_semantics.specs.Meaning.{Env, domain_of}
use Rattle.ess_semantics.proofs.Tests.{and-right}
use Rattle.ess_repr_declare_laws.specs.Laws.{Sound}
use Rattle.ess_repr_members_laws.specs.Fields.{Fielded}
use Rattle.ess_repr_members_laws.proofs.LayerParts.{LaidOut, if-there}
use Rattle.ess_repr_members_laws.proofs.ScalarsLaid.{bool-laid, int-laid, name-laid, tuple-laid, record-laid, matrix-laid}
use Rattle.ess_repr_members_laws.proofs.SetsLaid.{occurrence-laid, explicit-laid, marker-laid, flags-laid, dummy-laid, mset_occurrence-laid, repetition-laid, mset_flags-laid}
use Rattle.ess_repr_members_laws.proofs.FunctionsLaid.{function_1d-laid, function_1d_partial-laid, function_nd-laid, function_nd_partial-laid, relation_matrix-laid, partition_occurrence-laid}
use Rattle.ess_repr_members_laws.proofs.ConstructedLaid.{function_as_relation-laid, relation_as_set-laid, partition_as_set-laid}

-- What is known of the layer of a kind that is one for the domain.
pub laid-out : (env : Env) (k : ReprKind) (d : Dom) (ds : List Dom) (e : Domain) → Sound d → Fielded d → child_forms k d ≡ Some ds →
    domain_of d env ≡ Some e →
    no_negative_attribute e ≡ true → LaidOut env k d e
laid-out env ReprKind.Atom bool_dom ds e s g p h n = bool-laid env e h
laid-out env ReprKind.Atom (int_dom rs es) ds e s g p h n = int-laid env rs es e h
laid-out env ReprKind.Atom (name_dom a) ds e s g p h n = name-laid env a e h
laid-out env ReprKind.Atom (tuple_dom ts) ds e s g p h n = cc
laid-out env ReprKind.Atom (record_dom fs ts) ds e s g p h n = cc
laid-out env ReprKind.Atom (matrix_dom is d) ds e s g p h n = cc
laid-out env ReprKind.Atom (set_dom ms es d) ds e s g p h n = cc
laid-out env ReprKind.Atom (mset_dom ms es d) ds e s g p h n = cc
laid-out env ReprKind.Atom (function_dom ms es d c) ds e s g p h n = cc
laid-out env ReprKind.Atom (relation_dom ms es ts) ds e s g p h n = cc
laid-out env ReprKind.Atom (partition_dom ms es d) ds e s g p h n = cc
laid-out env ReprKind.Tuple bool_dom ds e s g p h n = cc
laid-out env ReprKind.Tuple (int_dom rs es) ds e s g p h n = cc
laid-out env ReprKind.Tuple (name_dom a) ds e s g p h n = cc
laid-out env ReprKind.Tuple (tuple_dom ts) ds e s g p h n = tuple-laid env ts e g h n
laid-out env ReprKind.Tuple (record_dom fs ts) ds e s g p h n = cc
laid-out env ReprKind.Tuple (matrix_dom is d) ds e s g p h n = cc
laid-out env ReprKind.Tuple (set_dom ms es d) ds e s g p h n = cc
laid-out env ReprKind.Tuple (mset_dom ms es d) ds e s g p h n = cc
laid-out env ReprKind.Tuple (function_dom ms es d c) ds e s g p h n = cc
laid-out env ReprKind.Tuple (relation_dom ms es ts) ds e s g p h n = cc
laid-out env ReprKind.Tuple (partition_dom ms es d) ds e s g p h n = cc
laid-out env ReprKind.Rec bool_dom ds e s g p h n = cc
laid-out env ReprKind.Rec (int_dom rs es) ds e s g p h n = cc
laid-out env ReprKind.Rec (name_dom a) ds e s g p h n = cc
laid-out env ReprKind.Rec (tuple_dom ts) ds e s g p h n = cc
laid-out env ReprKind.Rec (record_dom fs ts) ds e s g p h n = record-laid env fs ts e g h n
laid-out env ReprKind.Rec (matrix_dom is d) ds e s g p h n = cc
laid-out env ReprKind.Rec (set_dom ms es d) ds e s g p h n = cc
laid-out env ReprKind.Rec (mset_dom ms es d) ds e s g p h n = cc
laid-out env ReprKind.Rec (function_dom ms es d c) ds e s g p h n = cc
laid-out env ReprKind.Rec (relation_dom ms es ts) ds e s g p h n = cc
laid-out env ReprKind.Rec (partition_dom ms es d) ds e s g p h n = cc
laid-out env ReprKind.Matrix bool_dom ds e s g p h n = cc
laid-out env ReprKind.Matrix (int_dom rs es) ds e s g p h n = cc
laid-out env ReprKind.Matrix (name_dom a) ds e s g p h n = cc
laid-out env ReprKind.Matrix (tuple_dom ts) ds e s g p h n = cc
laid-out env ReprKind.Matrix (record_dom fs ts) ds e s g p h n = cc
laid-out env ReprKind.Matrix (matrix_dom is d) ds e s g p h n = matrix-laid env is d e s.0 g h n
laid-out env ReprKind.Matrix (set_dom ms es d) ds e s g p h n = cc
laid-out env ReprKind.Matrix (mset_dom ms es d) ds e s g p h n = cc
laid-out env ReprKind.Matrix (function_dom ms es d c) ds e s g p h n = cc
laid-out env ReprKind.Matrix (relation_dom ms es ts) ds e s g p h n = cc
laid-out env ReprKind.Matrix (partition_dom ms es d) ds e s g p h n = cc
laid-out env ReprKind.Occurrence bool_dom ds e s g p h n = cc
laid-out env ReprKind.Occurrence (int_dom rs es) ds e s g p h n = cc
laid-out env ReprKind.Occurrence (name_dom a) ds e s g p h n = cc
laid-out env ReprKind.Occurrence (tuple_dom ts) ds e s g p h n = cc
laid-out env ReprKind.Occurrence (record_dom fs ts) ds e s g p h n = cc
laid-out env ReprKind.Occurrence (matrix_dom is d) ds e s g p h n = cc
laid-out env ReprKind.Occurrence (set_dom ms es d) ds e s g p h n = occurrence-laid env ms es d e (if-there (is_atom d) [] ds p) h n
laid-out env ReprKind.Occurrence (mset_dom ms es d) ds e s g p h n = cc
laid-out env ReprKind.Occurrence (function_dom ms es d c) ds e s g p h n = cc
laid-out env ReprKind.Occurrence (relation_dom ms es ts) ds e s g p h n = cc
laid-out env ReprKind.Occurrence (partition_dom ms es d) ds e s g p h n = cc
laid-out env ReprKind.Explicit bool_dom ds e s g p h n = cc
laid-out env ReprKind.Explicit (int_dom rs es) ds e s g p h n = cc
laid-out env ReprKind.Explicit (name_dom a) ds e s g p h n = cc
laid-out env ReprKind.Explicit (tuple_dom ts) ds e s g p h n = cc
laid-out env ReprKind.Explicit (record_dom fs ts) ds e s g p h n = cc
laid-out env ReprKind.Explicit (matrix_dom is d) ds e s g p h n = cc
laid-out env ReprKind.Explicit (set_dom ms es d) ds e s g p h n = explicit-laid env ms es d e g h n
laid-out env ReprKind.Explicit (mset_dom ms es d) ds e s g p h n = cc
laid-out env ReprKind.Explicit (function_dom ms es d c) ds e s g p h n = cc
laid-out env ReprKind.Explicit (relation_dom ms es ts) ds e s g p h n = cc
laid-out env ReprKind.Explicit (partition_dom ms es d) ds e s g p h n = cc
laid-out env ReprKind.ExplicitVarSizeWithMarker bool_dom ds e s g p h n = cc
laid-out env ReprKind.ExplicitVarSizeWithMarker (int_dom rs es) ds e s g p h n = cc
laid-out env ReprKind.ExplicitVarSizeWithMarker (name_dom a) ds e s g p h n = cc
laid-out env ReprKind.ExplicitVarSizeWithMarker (tuple_dom ts) ds e s g p h n = cc
laid-out env ReprKind.ExplicitVarSizeWithMarker (record_dom fs ts) ds e s g p h n = cc
laid-out env ReprKind.ExplicitVarSizeWithMarker (matrix_dom is d) ds e s g p h n = cc
laid-out env ReprKind.ExplicitVarSizeWithMarker (set_dom ms es d) ds e s g p h n = marker-laid env ms es d e g h n
laid-out env ReprKind.ExplicitVarSizeWithMarker (mset_dom ms es d) ds e s g p h n = cc
laid-out env ReprKind.ExplicitVarSizeWithMarker (function_dom ms es d c) ds e s g p h n = cc
laid-out env ReprKind.ExplicitVarSizeWithMarker (relation_dom ms es ts) ds e s g p h n = cc
laid-out env ReprKind.ExplicitVarSizeWithMarker (partition_dom ms es d) ds e s g p h n = cc
laid-out env ReprKind.ExplicitVarSizeWithFlags bool_dom ds e s g p h n = cc
laid-out env ReprKind.ExplicitVarSizeWithFlags (int_dom rs es) ds e s g p h n = cc
laid-out env ReprKind.ExplicitVarSizeWithFlags (name_dom a) ds e s g p h n = cc
laid-out env ReprKind.ExplicitVarSizeWithFlags (tuple_dom ts) ds e s g p h n = cc
laid-out env ReprKind.ExplicitVarSizeWithFlags (record_dom fs ts) ds e s g p h n = cc
laid-out env ReprKind.ExplicitVarSizeWithFlags (matrix_dom is d) ds e s g p h n = cc
laid-out env ReprKind.ExplicitVarSizeWithFlags (set_dom ms es d) ds e s g p h n = flags-laid env ms es d e g h n
laid-out env ReprKind.ExplicitVarSizeWithFlags (mset_dom ms es d) ds e s g p h n = cc
laid-out env ReprKind.ExplicitVarSizeWithFlags (function_dom ms es d c) ds e s g p h n = cc
laid-out env ReprKind.ExplicitVarSizeWithFlags (relation_dom ms es ts) ds e s g p h n = cc
laid-out env ReprKind.ExplicitVarSizeWithFlags (partition_dom ms es d) ds e s g p h n = cc
laid-out env ReprKind.ExplicitVarSizeWithDummy bool_dom ds e s g p h n = cc
laid-out env ReprKind.ExplicitVarSizeWithDummy (int_dom rs es) ds e s g p h n = cc
laid-out env ReprKind.ExplicitVarSizeWithDummy (name_dom a) ds e s g p h n = cc
laid-out env ReprKind.ExplicitVarSizeWithDummy (tuple_dom ts) ds e s g p h n = cc
laid-out env ReprKind.ExplicitVarSizeWithDummy (record_dom fs ts) ds e s g p h n = cc
laid-out env ReprKind.ExplicitVarSizeWithDummy (matrix_dom is d) ds e s g p h n = cc
laid-out env ReprKind.ExplicitVarSizeWithDummy (set_dom ms es d) ds e s g p h n =
    dummy-laid env ms es d e (if-there (has_dummy d) [] ds p) h n
laid-out env ReprKind.ExplicitVarSizeWithDummy (mset_dom ms es d) ds e s g p h n = cc
laid-out env ReprKind.ExplicitVarSizeWithDummy (function_dom ms es d c) ds e s g p h n = cc
laid-out env ReprKind.ExplicitVarSizeWithDummy (relation_dom ms es ts) ds e s g p h n = cc
laid-out env ReprKind.ExplicitVarSizeWithDummy (partition_dom ms es d) ds e s g p h n = cc
laid-out env ReprKind.MSetOccurrence bool_dom ds e s g p h n = cc
laid-out env ReprKind.MSetOccurrence (int_dom rs es) ds e s g p h n = cc
laid-out env ReprKind.MSetOccurrence (name_dom a) ds e s g p h n = cc
laid-out env ReprKind.MSetOccurrence (tuple_dom ts) ds e s g p h n = cc
laid-out env ReprKind.MSetOccurrence (record_dom fs ts) ds e s g p h n = cc
laid-out env ReprKind.MSetOccurrence (matrix_dom is d) ds e s g p h n = cc
laid-out env ReprKind.MSetOccurrence (set_dom ms es d) ds e s g p h n = cc
laid-out env ReprKind.MSetOccurrence (mset_dom ms es d) ds e s g p h n =
    mset_occurrence-laid env ms es d e (if-there (is_atom d) [] ds p) h n
laid-out env ReprKind.MSetOccurrence (function_dom ms es d c) ds e s g p h n = cc
laid-out env ReprKind.MSetOccurrence (relation_dom ms es ts) ds e s g p h n = cc
laid-out env ReprKind.MSetOccurrence (partition_dom ms es d) ds e s g p h n = cc
laid-out env ReprKind.MSetExplicitWithRepetition bool_dom ds e s g p h n = cc
laid-out env ReprKind.MSetExplicitWithRepetition (int_dom rs es) ds e s g p h n = cc
laid-out env ReprKind.MSetExplicitWithRepetition (name_dom a) ds e s g p h n = cc
laid-out env ReprKind.MSetExplicitWithRepetition (tuple_dom ts) ds e s g p h n = cc
laid-out env ReprKind.MSetExplicitWithRepetition (record_dom fs ts) ds e s g p h n = cc
laid-out env ReprKind.MSetExplicitWithRepetition (matrix_dom is d) ds e s g p h n = cc
laid-out env ReprKind.MSetExplicitWithRepetition (set_dom ms es d) ds e s g p h n = cc
laid-out env ReprKind.MSetExplicitWithRepetition (mset_dom ms es d) ds e s g p h n = repetition-laid env ms es d e g h n
laid-out env ReprKind.MSetExplicitWithRepetition (function_dom ms es d c) ds e s g p h n = cc
laid-out env ReprKind.MSetExplicitWithRepetition (relation_dom ms es ts) ds e s g p h n = cc
laid-out env ReprKind.MSetExplicitWithRepetition (partition_dom ms es d) ds e s g p h n = cc
laid-out env ReprKind.MSetExplicitWithFlags bool_dom ds e s g p h n = cc
laid-out env ReprKind.MSetExplicitWithFlags (int_dom rs es) ds e s g p h n = cc
laid-out env ReprKind.MSetExplicitWithFlags (name_dom a) ds e s g p h n = cc
laid-out env ReprKind.MSetExplicitWithFlags (tuple_dom ts) ds e s g p h n = cc
laid-out env ReprKind.MSetExplicitWithFlags (record_dom fs ts) ds e s g p h n = cc
laid-out env ReprKind.MSetExplicitWithFlags (matrix_dom is d) ds e s g p h n = cc
laid-out env ReprKind.MSetExplicitWithFlags (set_dom ms es d) ds e s g p h n = cc
laid-out env ReprKind.MSetExplicitWithFlags (mset_dom ms es d) ds e s g p h n = mset_flags-laid env ms es d e g h n
laid-out env ReprKind.MSetExplicitWithFlags (function_dom ms es d c) ds e s g p h n = cc
laid-out env ReprKind.MSetExplicitWithFlags (relation_dom ms es ts) ds e s g p h n = cc
laid-out env ReprKind.MSetExplicitWithFlags (partition_dom ms es d) ds e s g p h n = cc
laid-out env ReprKind.Function1D bool_dom ds e s g p h n = cc
laid-out env ReprKind.Function1D (int_dom rs es) ds e s g p h n = cc
laid-out env ReprKind.Function1D (name_dom a) ds e s g p h n = cc
laid-out env ReprKind.Function1D (tuple_dom ts) ds e s g p h n = cc
laid-out env ReprKind.Function1D (record_dom fs ts) ds e s g p h n = cc
laid-out env ReprKind.Function1D (matrix_dom is d) ds e s g p h n = cc
laid-out env ReprKind.Function1D (set_dom ms es d) ds e s g p h n = cc
laid-out env ReprKind.Function1D (mset_dom ms es d) ds e s g p h n = cc
laid-out env ReprKind.Function1D (function_dom ms es d c) ds e s g p h n =
    function_1d-laid env ms es d c e (and-right (has_key Key.Total ms) (is_atom d)
    (if-there (has_key Key.Total ms && is_atom d) (c ∷ []) ds p)) g.1 h n
laid-out env ReprKind.Function1D (relation_dom ms es ts) ds e s g p h n = cc
laid-out env ReprKind.Function1D (partition_dom ms es d) ds e s g p h n = cc
laid-out env ReprKind.Function1DPartial bool_dom ds e s g p h n = cc
laid-out env ReprKind.Function1DPartial (int_dom rs es) ds e s g p h n = cc
laid-out env ReprKind.Function1DPartial (name_dom a) ds e s g p h n = cc
laid-out env ReprKind.Function1DPartial (tuple_dom ts) ds e s g p h n = cc
laid-out env ReprKind.Function1DPartial (record_dom fs ts) ds e s g p h n = cc
laid-out env ReprKind.Function1DPartial (matrix_dom is d) ds e s g p h n = cc
laid-out env ReprKind.Function1DPartial (set_dom ms es d) ds e s g p h n = cc
laid-out env ReprKind.Function1DPartial (mset_dom ms es d) ds e s g p h n = cc
laid-out env ReprKind.Function1DPartial (function_dom ms es d c) ds e s g p h n =
    function_1d_partial-laid env ms es d c e (if-there (is_atom d) (c ∷ []) ds p) g.1 h n
laid-out env ReprKind.Function1DPartial (relation_dom ms es ts) ds e s g p h n = cc
laid-out env ReprKind.Function1DPartial (partition_dom ms es d) ds e s g p h n = cc
laid-out env ReprKind.FunctionND bool_dom ds e s g p h n = cc
laid-out env ReprKind.FunctionND (int_dom rs es) ds e s g p h n = cc
laid-out env ReprKind.FunctionND (name_dom a) ds e s g p h n = cc
laid-out env ReprKind.FunctionND (tuple_dom ts) ds e s g p h n = cc
laid-out env ReprKind.FunctionND (record_dom fs ts) ds e s g p h n = cc
laid-out env ReprKind.FunctionND (matrix_dom is d) ds e s g p h n = cc
laid-out env ReprKind.FunctionND (set_dom ms es d) ds e s g p h n = cc
laid-out env ReprKind.FunctionND (mset_dom ms es d) ds e s g p h n = cc
laid-out env ReprKind.FunctionND (function_dom ms es d c) ds e s g p h n =
    function_nd-laid env ms es d c e (and-right (has_key Key.Total ms) (is_atom_tuple d)
    (if-there (has_key Key.Total ms && is_atom_tuple d) (c ∷ []) ds p)) g.1 h n
laid-out env ReprKind.FunctionND (relation_dom ms es ts) ds e s g p h n = cc
laid-out env ReprKind.FunctionND (partition_dom ms es d) ds e s g p h n = cc
laid-out env ReprKind.FunctionNDPartial bool_dom ds e s g p h n = cc
laid-out env ReprKind.FunctionNDPartial (int_dom rs es) ds e s g p h n = cc
laid-out env ReprKind.FunctionNDPartial (name_dom a) ds e s g p h n = cc
laid-out env ReprKind.FunctionNDPartial (tuple_dom ts) ds e s g p h n = cc
laid-out env ReprKind.FunctionNDPartial (record_dom fs ts) ds e s g p h n = cc
laid-out env ReprKind.FunctionNDPartial (matrix_dom is d) ds e s g p h n = cc
laid-out env ReprKind.FunctionNDPartial (set_dom ms es d) ds e s g p h n = cc
laid-out env ReprKind.FunctionNDPartial (mset_dom ms es d) ds e s g p h n = cc
laid-out env ReprKind.FunctionNDPartial (function_dom ms es d c) ds e s g p h n =
    function_nd_partial-laid env ms es d c e (if-there (is_atom_tuple d) (c ∷ []) ds p) g.1 h n
laid-out env ReprKind.FunctionNDPartial (relation_dom ms es ts) ds e s g p h n = cc
laid-out env ReprKind.FunctionNDPartial (partition_dom ms es d) ds e s g p h n = cc
laid-out env ReprKind.FunctionAsRelation bool_dom ds e s g p h n = cc
laid-out env ReprKind.FunctionAsRelation (int_dom rs es) ds e s g p h n = cc
laid-out env ReprKind.FunctionAsRelation (name_dom a) ds e s g p h n = cc
laid-out env ReprKind.FunctionAsRelation (tuple_dom ts) ds e s g p h n = cc
laid-out env ReprKind.FunctionAsRelation (record_dom fs ts) ds e s g p h n = cc
laid-out env ReprKind.FunctionAsRelation (matrix_dom is d) ds e s g p h n = cc
laid-out env ReprKind.FunctionAsRelation (set_dom ms es d) ds e s g p h n = cc
laid-out env ReprKind.FunctionAsRelation (mset_dom ms es d) ds e s g p h n = cc
laid-out env ReprKind.FunctionAsRelation (function_dom ms es d c) ds e s g p h n =
    function_as_relation-laid env ms es d c e (record { right = s.0; full = s.1 }) g h n
laid-out env ReprKind.FunctionAsRelation (relation_dom ms es ts) ds e s g p h n = cc
laid-out env ReprKind.FunctionAsRelation (partition_dom ms es d) ds e s g p h n = cc
laid-out env ReprKind.RelationAsMatrix bool_dom ds e s g p h n = cc
laid-out env ReprKind.RelationAsMatrix (int_dom rs es) ds e s g p h n = cc
laid-out env ReprKind.RelationAsMatrix (name_dom a) ds e s g p h n = cc
laid-out env ReprKind.RelationAsMatrix (tuple_dom ts) ds e s g p h n = cc
laid-out env ReprKind.RelationAsMatrix (record_dom fs ts) ds e s g p h n = cc
laid-out env ReprKind.RelationAsMatrix (matrix_dom is d) ds e s g p h n = cc
laid-out env ReprKind.RelationAsMatrix (set_dom ms es d) ds e s g p h n = cc
laid-out env ReprKind.RelationAsMatrix (mset_dom ms es d) ds e s g p h n = cc
laid-out env ReprKind.RelationAsMatrix (function_dom ms es d c) ds e s g p h n = cc
laid-out env ReprKind.RelationAsMatrix (relation_dom ms es ts) ds e s g p h n =
    relation_matrix-laid env ms es ts e (if-there (are_atoms ts) [] ds p) h
laid-out env ReprKind.RelationAsMatrix (partition_dom ms es d) ds e s g p h n = cc
laid-out env ReprKind.RelationAsSet bool_dom ds e s g p h n = cc
laid-out env ReprKind.RelationAsSet (int_dom rs es) ds e s g p h n = cc
laid-out env ReprKind.RelationAsSet (name_dom a) ds e s g p h n = cc
laid-out env ReprKind.RelationAsSet (tuple_dom ts) ds e s g p h n = cc
laid-out env ReprKind.RelationAsSet (record_dom fs ts) ds e s g p h n = cc
laid-out env ReprKind.RelationAsSet (matrix_dom is d) ds e s g p h n = cc
laid-out env ReprKind.RelationAsSet (set_dom ms es d) ds e s g p h n = cc
laid-out env ReprKind.RelationAsSet (mset_dom ms es d) ds e s g p h n = cc
laid-out env ReprKind.RelationAsSet (function_dom ms es d c) ds e s g p h n = cc
laid-out env ReprKind.RelationAsSet (relation_dom ms es ts) ds e s g p h n = relation_as_set-laid env ms es ts e g h n
laid-out env ReprKind.RelationAsSet (partition_dom ms es d) ds e s g p h n = cc
laid-out env ReprKind.PartitionOccurrence bool_dom ds e s g p h n = cc
laid-out env ReprKind.PartitionOccurrence (int_dom rs es) ds e s g p h n = cc
laid-out env ReprKind.PartitionOccurrence (name_dom a) ds e s g p h n = cc
laid-out env ReprKind.PartitionOccurrence (tuple_dom ts) ds e s g p h n = cc
laid-out env ReprKind.PartitionOccurrence (record_dom fs ts) ds e s g p h n = cc
laid-out env ReprKind.PartitionOccurrence (matrix_dom is d) ds e s g p h n = cc
laid-out env ReprKind.PartitionOccurrence (set_dom ms es d) ds e s g p h n = cc
laid-out env ReprKind.PartitionOccurrence (mset_dom ms es d) ds e s g p h n = cc
laid-out env ReprKind.PartitionOccurrence (function_dom ms es d c) ds e s g p h n = cc
laid-out env ReprKind.PartitionOccurrence (relation_dom ms es ts) ds e s g p h n = cc
laid-out env ReprKind.PartitionOccurrence (partition_dom ms es d) ds e s g p h n =
    partition_occurrence-laid env ms es d e (if-there (is_atom d) [] ds p) h n
laid-out env ReprKind.PartitionAsSet bool_dom ds e s g p h n = cc
laid-out env ReprKind.PartitionAsSet (int_dom rs es) ds e s g p h n = cc
laid-out env ReprKind.PartitionAsSet (name_dom a) ds e s g p h n = cc
laid-out env ReprKind.PartitionAsSet (tuple_dom ts) ds e s g p h n = cc
laid-out env ReprKind.PartitionAsSet (record_dom fs ts) ds e s g p h n = cc
laid-out env ReprKind.PartitionAsSet (matrix_dom is d) ds e s g p h n = cc
laid-out env ReprKind.PartitionAsSet (set_dom ms es d) ds e s g p h n = cc
laid-out env ReprKind.PartitionAsSet (mset_dom ms es d) ds e s g p h n = cc
laid-out env ReprKind.PartitionAsSet (function_dom ms es d c) ds e s g p h n = cc
laid-out env ReprKind.PartitionAsSet (relation_dom ms es ts) ds e s g p h n = cc
laid-out env ReprKind.PartitionAsSet (partition_dom ms es d) ds e s g p h n =
    partition_as_set-laid env ms es d e (record { right = s.0; full = s.1 }) g h n
