-- The structure constraint of a view means that the cells are canonical: by induction over the representation.
use Rattle.std.proofs.Common.{◌≡◌, ℕ, ◌<◌, false, List, [], ◌∷◌}
use Rattle.ess_semantics.specs.declared.words.ReprKind.{ReprKind}
use Rattle.ess_semantics.specs.Values.{Text}
use Rattle.ess_semantics.specs.Order.{same_text}
use Rattle.ess_semantics.specs.Trees.{Repr, Reprs, repr, no_reprs, more_reprs, Dom, Doms, no_doms, more_doms, tuple_dom, record_dom, matrix_dom, set_dom, mset_dom, function_dom, relation_dom, partition_dom}
use Rattle.ess_semantics.specs.Domains.{Domain, tuples, records, matrices, sets, msets, functions, relations, partitions, domain_list}
use Rattle.ess_semantics.specs.Meaning.{Env}
use Rattle.ess_repr_laws.specs.StructureParts.{Terms, tuple_set_dom}
use Rattle.ess_repr_laws.specs.StructureReady.{Ready, AllReady}
use Rattle.ess_repr_laws.proofs.StructureOf.{StructureOf}
use Rattle.ess_repr_laws.proofs.StructureAtoms.{atom-structure}
use Rattle.ess_repr_laws.proofs.StructureTuples.{EachStructure, none-structure, more-structure, tuple-structure, record-structure}
use Rattle.ess_repr_laws.proofs.StructureMatrices.{matrix-structure}
use Rattle.ess_repr_laws.proofs.StructureFlags.{flags-structure}
use Rattle.ess_repr_laws.proofs.StructureFunctions.{function-1d-structure, function-nd-structure}
use Rattle.ess_repr_laws.proofs.StructureRelations.{relation-structure}
use Rattle.ess_repr_laws.proofs.StructurePartial.{partial-1d-structure, partial-nd-structure}
use Rattle.ess_repr_laws.proofs.StructureMultisets.{mset-occurrence-structure}
use Rattle.ess_repr_laws.proofs.StructureCounted.{counted-structure}
use Rattle.ess_repr_laws.proofs.StructureRepetition.{repetition-structure}
use Rattle.ess_repr_laws.proofs.StructureDummies.{dummy-structure}
use Rattle.ess_semantics.specs.Sizes.{child_relation, child_set, child_parts}
use Rattle.ess_repr_laws.specs.ViewParts.{pair_relation_dom, part_set_dom}
use Rattle.ess_repr_laws.proofs.StructurePairs.{pairs-structure}
use Rattle.ess_repr_laws.proofs.StructurePartitions.{partition-structure}
use Rattle.ess_repr_laws.proofs.StructureNumbered.{numbered-structure, listed-complete}
use Rattle.ess_repr_laws.proofs.StructureTupleSets.{tuple-set-structure}
use Rattle.ess_repr_laws.proofs.StructureSets.{occurrence-structure, explicit-structure, marker-structure}

module _ (env0 : Env) (q : ℕ → Text) (q-apart : (m l : ℕ) → l < m → same_text (q m) (q l) ≡ false) (terms : Terms) where
  mutual
    -- Each view whose domain's parts mean what they should has such a constraint.
    pub structures : (r : Repr) (d : Dom) (e : Domain) → Ready env0 q q-apart terms r d e → StructureOf env0 q q-apart terms r d e
    structures (repr ReprKind.Atom no_reprs) d e h = atom-structure env0 q q-apart terms d e h.0.0 h.0.1 h.1
    structures (repr ReprKind.Tuple rs) (tuple_dom ds) (tuples es) h = tuple-structure env0 q q-apart terms rs ds es (each-structure rs ds (domain_list es) h)
    structures (repr ReprKind.Rec rs) (record_dom fs ds) (records gs es) h = record-structure env0 q q-apart terms rs fs gs ds es (each-structure rs ds (domain_list es) h)
    structures (repr ReprKind.Matrix (more_reprs r no_reprs)) (matrix_dom is d) (matrices js e) h =
        matrix-structure env0 q q-apart terms r is d js e h.0.0 h.0.1 h.1 (structures r d e h.2)
    structures (repr ReprKind.Occurrence no_reprs) (set_dom ms es d) (sets ks e) h = occurrence-structure env0 q q-apart terms ms es d ks e h.0 h.1 h.2 h.3
    structures (repr ReprKind.Explicit (more_reprs r no_reprs)) (set_dom ms es d) (sets ks e) h =
        explicit-structure env0 q q-apart terms r ms es d ks e (structures r d e h.2) h.0 h.1
    structures (repr ReprKind.ExplicitVarSizeWithMarker (more_reprs r no_reprs)) (set_dom ms es d) (sets ks e) h =
        marker-structure env0 q q-apart terms r ms es d ks e (structures r d e h.2) h.0 h.1
    structures (repr ReprKind.ExplicitVarSizeWithFlags (more_reprs r no_reprs)) (set_dom ms es d) (sets ks e) h =
        flags-structure env0 q q-apart terms r ms es d ks e (structures r d e h.2) h.0 h.1
    structures (repr ReprKind.Function1D (more_reprs r no_reprs)) (function_dom ms es d c) (functions ks x y) h =
        function-1d-structure env0 q q-apart terms r ms es d c ks x y h.0 h.1 h.2 h.3 h.4 (structures r c y h.5)
    structures (repr ReprKind.FunctionND (more_reprs r no_reprs)) (function_dom ms es (tuple_dom ds) c) (functions ks (tuples xs) y) h =
        function-nd-structure env0 q q-apart terms r ms es ds c ks xs y h.0 h.1 h.2 h.3 h.4 (structures r c y h.5)
    structures (repr ReprKind.RelationAsMatrix no_reprs) (relation_dom ms es ds) (relations ks xs) h =
        relation-structure env0 q q-apart terms ms es ds ks xs h.0 h.1 h.2 h.3
    structures (repr ReprKind.Function1DPartial (more_reprs r no_reprs)) (function_dom ms es d c) (functions ks x y) h =
        partial-1d-structure env0 q q-apart terms r ms es d c ks x y h.0 h.1 h.2 h.3 (structures r c y h.4)
    structures (repr ReprKind.FunctionNDPartial (more_reprs r no_reprs)) (function_dom ms es (tuple_dom ds) c) (functions ks (tuples xs) y) h =
        partial-nd-structure env0 q q-apart terms r ms es ds c ks xs y h.0 h.1 h.2 h.3 (structures r c y h.4)
    structures (repr ReprKind.MSetOccurrence no_reprs) (mset_dom ms es d) (msets ks e) h = mset-occurrence-structure env0 q q-apart terms ms es d ks e h.0 h.1 h.2
    structures (repr ReprKind.MSetExplicitWithFlags (more_reprs r no_reprs)) (mset_dom ms es d) (msets ks e) h =
        counted-structure env0 q q-apart terms r ms es d ks e (structures r d e h.2) h.0 h.1
    structures (repr ReprKind.MSetExplicitWithRepetition (more_reprs r no_reprs)) (mset_dom ms es d) (msets ks e) h =
        repetition-structure env0 q q-apart terms r ms es d ks e (structures r d e h.3) h.0 h.1 h.2
    structures (repr ReprKind.ExplicitVarSizeWithDummy no_reprs) (set_dom ms es d) (sets ks e) h =
        dummy-structure env0 q q-apart terms ms es d ks e h.0.0 h.0.1 h.0.2 h.1.0 h.1.1 h.1.2 h.2 h.3
    structures (repr ReprKind.RelationAsSet (more_reprs r no_reprs)) (relation_dom ms es ds) (relations ks xs) h =
        tuple-set-structure env0 q q-apart terms r ms es ds ks xs h.0.0 h.0.1 h.1
        (structures r (tuple_set_dom ms es ds) (child_set ks xs) h.2)
    structures (repr ReprKind.FunctionAsRelation (more_reprs r no_reprs)) (function_dom ms es d c) (functions ks x y) h =
        pairs-structure env0 q q-apart terms r ms es d c ks x y h.0.0 h.0.1 h.1.0 h.1.1 h.2 h.3
        (structures r (pair_relation_dom terms ms es d c) (child_relation ks x y) h.4)
    structures (repr ReprKind.PartitionAsSet (more_reprs r no_reprs)) (partition_dom ms es d) (partitions ks x) h =
        partition-structure env0 q q-apart terms r ms es d ks x h.0.0 h.0.1 h.0.2 h.1.0 h.1.1 h.2
        (structures r (part_set_dom terms ms es d) (child_parts ks x) h.3)
    structures (repr ReprKind.PartitionOccurrence no_reprs) (partition_dom ms es d) (partitions ks x) h =
        numbered-structure env0 q q-apart terms ms es d ks x h.0.0 h.0.1 (listed-complete x h.0.0 h.0.1) h.1 h.2 h.3
    structures _ d e h = absurd h

    -- The same of components.
    pub each-structure : (rs : Reprs) (ds : Doms) (es : List Domain) → AllReady env0 q q-apart terms rs ds es → EachStructure env0 q q-apart terms rs ds es
    each-structure no_reprs no_doms [] h = none-structure env0 q q-apart terms
    each-structure (more_reprs r rs) (more_doms d ds) (e ∷ es) h =
        more-structure env0 q q-apart terms r rs d ds e es (structures r d e h.0) (each-structure rs ds es h.1)
    each-structure no_reprs (more_doms d ds) es h = absurd h
    each-structure no_reprs no_doms (e ∷ es) h = absurd h
    each-structure (more_reprs r rs) no_doms es h = absurd h
    each-structure (more_reprs r rs) (more_doms d ds) [] h = absurd h
