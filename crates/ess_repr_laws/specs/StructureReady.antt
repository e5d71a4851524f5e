-- What the parts of a view's domain are to mean, whatever names are bound, so that its structure constraint means that the cells are
-- canonical.
use Rattle.std.specs.Prelude.{◌≡◌, ℕ, ◌<◌, true, false, List, [], ◌∷◌, Some}
use Rattle.ess_repr_laws.specs.StructureParts.{Terms, tuple_set_dom}
use Rattle.ess_repr_laws.specs.StructureMeaning.{Attributes, SlotsAre, AtomReady, DummyIs, DomainIs, AxesAre, Bound, M, RelationKeyReady, TimesReady, tuple_set_sizes, EachFlag, BoolIs, AreSizes, ArePairSizes, PairKeyReady, ValueKeyReady, FlagKeyReady, index_members}
use Rattle.ess_repr_laws.specs.ViewParts.{pair_relation_dom, part_set_dom}
use Rattle.ess_repr_laws.specs.RelationParts.{bare_relation_dom}
use Rattle.ess_repr_laws.specs.PartSizes.{ArePartSizes}
use Rattle.ess_repr_laws.specs.PartitionParts.{bare_partition_dom}
use Rattle.ess_semantics.specs.Kinds.{dom_list}
use Rattle.ess_semantics.specs.Atoms.{IsAtom, AreAtoms}
use Rattle.ess_repr_laws.specs.Finite.{HaveLists, Complete}
use Rattle.ess_repr_laws.specs.Rooms.{HasDummy}
use Rattle.ess_semantics.specs.Domains.{booleans, Domain, tuples, records, matrices, sets, msets, functions, relations, partitions, domain_list, members, member_list}
use Rattle.ess_semantics.specs.Meaning.{Env, members_in, domain_of, is_bool_dom}
use Rattle.ess_semantics.specs.Order.{same_text}
use Rattle.ess_semantics.specs.Sizes.{slots_of_set, slots_of_mset, child_relation, child_set, child_parts}
use Rattle.ess_semantics.specs.Trees.{Dom, Doms, no_doms, more_doms, Repr, Reprs, repr, no_reprs, more_reprs, tuple_dom, record_dom, matrix_dom, set_dom, mset_dom, function_dom, relation_dom, partition_dom}
use Rattle.ess_semantics.specs.Values.{Text}
use Rattle.ess_semantics.specs.declared.words.ReprKind.{ReprKind}

module _ (env0 : Env) (q : ℕ → Text) (q-apart : (m l : ℕ) → l < m → same_text (q m) (q l) ≡ false) (terms : Terms) where
  abbrev mutual
    -- What the domain's parts mean, whatever names are bound.
    pub Ready : Repr → Dom → Domain → Type 0
    Ready (repr ReprKind.Atom no_reprs) d e = (IsAtom e × (is_bool_dom d ≡ true → e ≡ booleans)) × AtomReady env0 q q-apart terms d e
    Ready (repr ReprKind.Tuple rs) (tuple_dom ds) (tuples es) = AllReady rs ds (domain_list es)
    Ready (repr ReprKind.Rec rs) (record_dom fs ds) (records gs es) = AllReady rs ds (domain_list es)
    Ready (repr ReprKind.Matrix (more_reprs r no_reprs)) (matrix_dom is d) (matrices js e) =
        (AreAtoms js × HaveLists js) × AxesAre env0 q q-apart (dom_list is) (index_members js) × Ready r d e
    Ready (repr ReprKind.Occurrence no_reprs) (set_dom ms es d) (sets ks e) =
        IsAtom e × (members e ≡ Some (member_list e)) ×
        ((bs : Bound env0 q q-apart) → members_in (domain_of d (M env0 q q-apart bs)) ≡ Some (member_list e)) ×
        Attributes env0 q q-apart terms ms es ks
    Ready (repr ReprKind.Explicit (more_reprs r no_reprs)) (set_dom ms es d) (sets ks e) =
        Attributes env0 q q-apart terms ms es ks × SlotsAre env0 q q-apart terms (set_dom ms es d) (slots_of_set ks e) × Ready r d e
    Ready (repr ReprKind.ExplicitVarSizeWithMarker (more_reprs r no_reprs)) (set_dom ms es d) (sets ks e) =
        Attributes env0 q q-apart terms ms es ks × SlotsAre env0 q q-apart terms (set_dom ms es d) (slots_of_set ks e) × Ready r d e
    Ready (repr ReprKind.ExplicitVarSizeWithFlags (more_reprs r no_reprs)) (set_dom ms es d) (sets ks e) =
        Attributes env0 q q-apart terms ms es ks × SlotsAre env0 q q-apart terms (set_dom ms es d) (slots_of_set ks e) × Ready r d e
    Ready (repr ReprKind.Function1D (more_reprs r no_reprs)) (function_dom ms es d c) (functions ks x y) =
        IsAtom x × (members x ≡ Some (member_list x)) × EachFlag (ValueKeyReady env0 q q-apart r d c x y) ks ×
        AxesAre env0 q q-apart (d ∷ []) (member_list x ∷ []) × Attributes env0 q q-apart terms ms es ks × Ready r c y
    Ready (repr ReprKind.FunctionND (more_reprs r no_reprs)) (function_dom ms es (tuple_dom ds) c) (functions ks (tuples xs) y) =
        AreAtoms xs × (members (tuples xs) ≡ Some (member_list (tuples xs))) ×
        EachFlag (ValueKeyReady env0 q q-apart r (tuple_dom ds) c (tuples xs) y) ks ×
        AxesAre env0 q q-apart (dom_list ds) (index_members xs) ×
        Attributes env0 q q-apart terms ms es ks × Ready r c y
    Ready (repr ReprKind.RelationAsMatrix no_reprs) (relation_dom ms es ds) (relations ks xs) =
        AreAtoms xs × EachFlag (RelationKeyReady env0 q q-apart ds xs (bare_relation_dom ds) (relations [] xs)) ks ×
        AxesAre env0 q q-apart (dom_list ds) (index_members xs) × Attributes env0 q q-apart terms ms es ks
    Ready (repr ReprKind.Function1DPartial (more_reprs r no_reprs)) (function_dom ms es d c) (functions ks x y) =
        IsAtom x × EachFlag (FlagKeyReady env0 q q-apart d c x y) ks × AxesAre env0 q q-apart (d ∷ []) (member_list x ∷ []) ×
        Attributes env0 q q-apart terms ms es ks × Ready r c y
    Ready (repr ReprKind.FunctionNDPartial (more_reprs r no_reprs)) (function_dom ms es (tuple_dom ds) c) (functions ks (tuples xs) y) =
        AreAtoms xs × EachFlag (FlagKeyReady env0 q q-apart (tuple_dom ds) c (tuples xs) y) ks ×
        AxesAre env0 q q-apart (dom_list ds) (index_members xs) × Attributes env0 q q-apart terms ms es ks × Ready r c y
    Ready (repr ReprKind.MSetOccurrence no_reprs) (mset_dom ms es d) (msets ks e) =
        IsAtom e × AxesAre env0 q q-apart (d ∷ []) (member_list e ∷ []) × Attributes env0 q q-apart terms ms es ks
    Ready (repr ReprKind.MSetExplicitWithFlags (more_reprs r no_reprs)) (mset_dom ms es d) (msets ks e) =
        Attributes env0 q q-apart terms ms es ks × SlotsAre env0 q q-apart terms (mset_dom ms es d) (slots_of_mset ks e) × Ready r d e
    Ready (repr ReprKind.MSetExplicitWithRepetition (more_reprs r no_reprs)) (mset_dom ms es d) (msets ks e) =
        Attributes env0 q q-apart terms ms es ks × SlotsAre env0 q q-apart terms (mset_dom ms es d) (slots_of_mset ks e) ×
        TimesReady env0 q q-apart (terms.slots (mset_dom ms es d)) d ks e × Ready r d e
    Ready (repr ReprKind.ExplicitVarSizeWithDummy no_reprs) (set_dom ms es d) (sets ks e) =
        (HasDummy e × (is_bool_dom d ≡ false) × AtomReady env0 q q-apart terms d e) × DummyIs env0 q q-apart terms d e ×
        Attributes env0 q q-apart terms ms es ks ×
        SlotsAre env0 q q-apart terms (set_dom ms es d) (slots_of_set ks e)
    Ready (repr ReprKind.RelationAsSet (more_reprs r no_reprs)) (relation_dom ms es ds) (relations ks xs) =
        (AreSizes (tuple_set_sizes ks) ks ×
        EachFlag (RelationKeyReady env0 q q-apart ds xs (tuple_set_dom ms es ds) (child_set ks xs)) ks) ×
        Attributes env0 q q-apart terms ms es ks × Ready r (tuple_set_dom ms es ds) (child_set ks xs)
    Ready (repr ReprKind.FunctionAsRelation (more_reprs r no_reprs)) (function_dom ms es d c) (functions ks x y) =
        (BoolIs d x × BoolIs c y) × (ArePairSizes ks x × EachFlag (PairKeyReady env0 q q-apart c ks x y) ks) ×
        Attributes env0 q q-apart terms ms es ks ×
        DomainIs env0 q q-apart (pair_relation_dom terms ms es d c) (child_relation ks x y) ×
        Ready r (pair_relation_dom terms ms es d c) (child_relation ks x y)
    Ready (repr ReprKind.PartitionAsSet (more_reprs r no_reprs)) (partition_dom ms es d) (partitions ks x) =
        ((members x ≡ Some (member_list x)) × Complete x × AxesAre env0 q q-apart (d ∷ []) (member_list x ∷ [])) ×
        (ArePartSizes ks x × Attributes env0 q q-apart terms ms es ks) ×
        DomainIs env0 q q-apart (part_set_dom terms ms es d) (child_parts ks x) ×
        Ready r (part_set_dom terms ms es d) (child_parts ks x)
    Ready (repr ReprKind.PartitionOccurrence no_reprs) (partition_dom ms es d) (partitions ks x) =
        (IsAtom x × (members x ≡ Some (member_list x))) × AxesAre env0 q q-apart (d ∷ []) (member_list x ∷ []) ×
        DomainIs env0 q q-apart (bare_partition_dom d) (partitions [] x) × Attributes env0 q q-apart terms ms es ks
    Ready _ d e = ⊥

    -- The same of components.
    pub AllReady : Reprs → Doms → List Domain → Type 0
    AllReady no_reprs no_doms [] = Unit {0}
    AllReady (more_reprs r rs) (more_doms d ds) (e ∷ es) = Ready r d e × AllReady rs ds es
    AllReady _ _ es = ⊥
