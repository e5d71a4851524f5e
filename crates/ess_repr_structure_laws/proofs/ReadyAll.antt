-- A view of which this much is known is ready, by induction over its representation.
use Rattle.std.proofs.Common.{◌≡◌, refl, sym, subst, ℕ, ◌<◌, true, false, []}
use Rattle.ess_semantics.specs.declared.words.ReprKind.{ReprKind}
use Rattle.ess_semantics.specs.Values.{Text}
use Rattle.ess_semantics.specs.Order.{same_text}
use Rattle.ess_semantics.specs.Kinds.{dom_list, fits, all_fit}
use Rattle.ess_semantics.specs.Membership.{no_negative_attribute, each_layer_of_all}
use Rattle.ess_semantics.specs.Sizes.{child_relation, child_set, child_parts}
use Rattle.ess_semantics.specs.Trees.{Repr, Reprs, repr, no_reprs, more_reprs, Dom, Doms, no_doms, more_doms, tuple_dom, record_dom, matrix_dom, set_dom, mset_dom, function_dom, relation_dom, partition_dom}
use Rattle.ess_semantics.specs.Domains.{Domain, Domains, tuples, records, matrices, sets, msets, functions, relations, partitions, domain_list, no_domains, more_domains}
use Rattle.ess_semantics.specs.Meaning.{Env}
use Rattle.ess_semantics.proofs.Tests.{and-left, and-right}
use Rattle.ess_repr_laws.specs.Finite.{FiniteAtoms, HaveLists}
use Rattle.ess_repr_laws.specs.StructureParts.{tuple_set_dom}
use Rattle.ess_repr_laws.specs.ViewParts.{pair_relation_dom, part_set_dom}
use Rattle.ess_repr_laws.specs.StructureReady.{Ready, AllReady}
use Rattle.ess_repr_laws.proofs.DomainForms.{same_form}
use Rattle.ess_repr_declare_laws.specs.SizeTerms.{size_terms}
use Rattle.ess_repr_declare_laws.proofs.SizeNumbers.{not_below}
use Rattle.ess_repr_structure_laws.proofs.AtomsReady.{atom-ready}
use Rattle.ess_repr_structure_laws.proofs.FittingChildren.{ChildrenFit, children-fit}
use Rattle.ess_repr_structure_laws.proofs.ReadyConversions.{matrix-ready, tuples-known, tuples-ready, pairs-known, pairs-ready, numbers-ready, parts-known, parts-ready}
use Rattle.ess_repr_structure_laws.proofs.ReadyFunctions.{from-is, function-child, function-1d-ready, function-nd-ready, function-1d-partial-ready, function-nd-partial-ready}
use Rattle.ess_repr_structure_laws.proofs.ReadyParts.{N, Known, AllKnown, are-atoms, bool-is, axes-are}
use Rattle.ess_repr_structure_laws.proofs.ReadySets.{set-child, set-ready, occurrence-ready, with-dummy-ready, mset-child, mset-ready, times-ready, mset-occurrence-ready}
use Rattle.ess_repr_structure_laws.proofs.Shapes.{denoted-same, tuple-shape, record-shape, matrix-shape, set-shape, mset-shape, function-shape, relation-shape, partition-shape, tuple-parts, record-parts, matrix-parts, first-of}

have-lists : (xs : Domains) → FiniteAtoms xs → HaveLists xs
have-lists no_domains h = tt
have-lists (more_domains d ds) h = (h.0.1, have-lists ds h.1)

module _ (env0 : Env) (q : ℕ → Text) (q-apart : (m l : ℕ) → l < m → same_text (q m) (q l) ≡ false) where
  abbrev Has : Repr → Dom → Domain → Type 0
  Has = Known env0 q q-apart

  abbrev Is : Repr → Dom → Domain → Type 0
  Is = Ready env0 q q-apart size_terms

  -- The form of what is denoted.
  form : (r : Repr) (d : Dom) (e : Domain) → Has r d e → same_form d e ≡ true
  form r d e i = denoted-same d (N env0 q q-apart []) e (i.means [])

  mutual
    -- So each view is.
    pub ready : (r : Repr) (d : Dom) (e : Domain) → Known env0 q q-apart r d e → Ready env0 q q-apart size_terms r d e
    ready (repr ReprKind.Atom no_reprs) d e i = (
      (i.room, bool-is d (N env0 q q-apart []) e (i.means [])),
      atom-ready env0 q q-apart d e i.room
          (form (repr ReprKind.Atom no_reprs) d e i) i.means i.numbers,
    )
    ready (repr ReprKind.Tuple rs) d (tuples es) i =
        let k = repr ReprKind.Tuple rs in
        let s = tuple-shape d es (form k d (tuples es) i) in
        let j : Has k (tuple_dom s.0) (tuples es) = subst (λ d. Has k d (tuples es)) s.1 i in
        subst (λ d. Is k d (tuples es)) (sym s.1)
        (all-ready rs s.0 es (record {
          sound = j.sound;
          fit = j.fit;
          room = j.room;
          neat = j.neat;
          plain = j.plain;
          means = λ bs.
              tuple-parts s.0 (N env0 q q-apart bs) es (j.means bs);
          numbers = j.numbers;
        }))
    ready (repr ReprKind.Rec rs) d (records gs es) i =
        let k = repr ReprKind.Rec rs in
        let s = record-shape d gs es (form k d (records gs es) i) in
        let j : Has k (record_dom s.0 s.1) (records gs es) = subst (λ d. Has k d (records gs es)) s.2 i in
        subst (λ d. Is k d (records gs es)) (sym s.2)
        (all-ready rs s.1 es (record {
          sound = j.sound;
          fit = j.fit;
          room = j.room;
          neat = j.neat;
          plain = j.plain;
          means = λ bs.
              record-parts s.0 gs s.1 (N env0 q q-apart bs) es (j.means bs);
          numbers = j.numbers;
        }))
    ready (repr ReprKind.Matrix (more_reprs r no_reprs)) d (matrices js e) i =
        let k = repr ReprKind.Matrix (more_reprs r no_reprs) in
        let s = matrix-shape d js e (form k d (matrices js e) i) in
        let j : Has k (matrix_dom s.0 s.1) (matrices js e) = subst (λ d. Has k d (matrices js e)) s.2 i in
        let f : ChildrenFit ReprKind.Matrix (more_reprs r no_reprs) (matrix_dom s.0 s.1) = children-fit ReprKind.Matrix
        (more_reprs r no_reprs) (matrix_dom s.0 s.1) j.sound j.fit in
        subst (λ d. Is k d (matrices js e)) (sym s.2) (
          (are-atoms js j.room.0, have-lists js j.room.0),
          axes-are env0 q q-apart s.0 js (λ bs. let p = matrix-parts s.0 s.1 (N env0 q q-apart bs) js e (j.means bs) in p.0) j.room.0,
          ready r s.1 e (record {
            sound = j.sound.2;
            fit = and-left (fits r s.1) true f.fit;
            room = j.room.1;
            neat = j.neat;
            plain = and-right (each_layer_of_all not_below js) (no_negative_attribute e) j.plain;
            means = λ bs. let p = matrix-parts s.0 s.1 (N env0 q q-apart bs) js e (j.means bs) in p.1;
            numbers = λ bs. let n = j.numbers bs in n.1;
          }),
        )
    ready (repr ReprKind.Occurrence no_reprs) d (sets ks e) i =
        let k = repr ReprKind.Occurrence no_reprs in
        let s = set-shape d ks e (form k d (sets ks e) i) in
        subst (λ d. Is k d (sets ks e)) (sym s.3) (occurrence-ready env0 q q-apart s.0 s.1 s.2 ks e
        (subst (λ d. Has k d (sets ks e)) s.3 i))
    ready (repr ReprKind.Explicit (more_reprs r no_reprs)) d (sets ks e) i =
        let k = repr ReprKind.Explicit (more_reprs r no_reprs) in
        let s = set-shape d ks e (form k d (sets ks e) i) in
        let j : Has k (set_dom s.0 s.1 s.2) (sets ks e) = subst (λ d. Has k d (sets ks e)) s.3 i in
        let a = set-ready env0 q q-apart k s.0 s.1 s.2 ks e j in
        subst (λ d. Is k d (sets ks e)) (sym s.3) (
          a.0,
          a.1,
          ready r s.2 e
              (set-child env0 q q-apart ReprKind.Explicit r s.0 s.1 s.2 ks e refl j j.room.1),
        )
    ready (repr ReprKind.ExplicitVarSizeWithMarker (more_reprs r no_reprs)) d (sets ks e) i =
        let k = repr ReprKind.ExplicitVarSizeWithMarker (more_reprs r no_reprs) in
        let s = set-shape d ks e (form k d (sets ks e) i) in
        let j : Has k (set_dom s.0 s.1 s.2) (sets ks e) = subst (λ d. Has k d (sets ks e)) s.3 i in
        let a = set-ready env0 q q-apart k s.0 s.1 s.2 ks e j in
        subst (λ d. Is k d (sets ks e)) (sym s.3)
        (a.0, a.1, ready r s.2 e (set-child env0 q q-apart ReprKind.ExplicitVarSizeWithMarker r s.0 s.1 s.2 ks e refl j j.room.1))
    ready (repr ReprKind.ExplicitVarSizeWithFlags (more_reprs r no_reprs)) d (sets ks e) i =
        let k = repr ReprKind.ExplicitVarSizeWithFlags (more_reprs r no_reprs) in
        let s = set-shape d ks e (form k d (sets ks e) i) in
        let j : Has k (set_dom s.0 s.1 s.2) (sets ks e) = subst (λ d. Has k d (sets ks e)) s.3 i in
        let a = set-ready env0 q q-apart k s.0 s.1 s.2 ks e j in
        subst (λ d. Is k d (sets ks e)) (sym s.3)
        (a.0, a.1, ready r s.2 e (set-child env0 q q-apart ReprKind.ExplicitVarSizeWithFlags r s.0 s.1 s.2 ks e refl j j.room.1))
    ready (repr ReprKind.ExplicitVarSizeWithDummy no_reprs) d (sets ks e) i =
        let k = repr ReprKind.ExplicitVarSizeWithDummy no_reprs in
        let s = set-shape d ks e (form k d (sets ks e) i) in
        subst (λ d. Is k d (sets ks e)) (sym s.3) (with-dummy-ready env0 q q-apart s.0 s.1 s.2 ks e
        (subst (λ d. Has k d (sets ks e)) s.3 i))
    ready (repr ReprKind.MSetOccurrence no_reprs) d (msets ks e) i =
        let k = repr ReprKind.MSetOccurrence no_reprs in
        let s = mset-shape d ks e (form k d (msets ks e) i) in
        subst (λ d. Is k d (msets ks e)) (sym s.3) (mset-occurrence-ready env0 q q-apart s.0 s.1 s.2 ks e
        (subst (λ d. Has k d (msets ks e)) s.3 i))
    ready (repr ReprKind.MSetExplicitWithFlags (more_reprs r no_reprs)) d (msets ks e) i =
        let k = repr ReprKind.MSetExplicitWithFlags (more_reprs r no_reprs) in
        let s = mset-shape d ks e (form k d (msets ks e) i) in
        let j : Has k (mset_dom s.0 s.1 s.2) (msets ks e) = subst (λ d. Has k d (msets ks e)) s.3 i in
        let a = mset-ready env0 q q-apart k s.0 s.1 s.2 ks e j in
        subst (λ d. Is k d (msets ks e)) (sym s.3)
        (a.0, a.1, ready r s.2 e (mset-child env0 q q-apart ReprKind.MSetExplicitWithFlags r s.0 s.1 s.2 ks e refl j j.room.0))
    ready (repr ReprKind.MSetExplicitWithRepetition (more_reprs r no_reprs)) d (msets ks e) i =
        let k = repr ReprKind.MSetExplicitWithRepetition (more_reprs r no_reprs) in
        let s = mset-shape d ks e (form k d (msets ks e) i) in
        let j : Has k (mset_dom s.0 s.1 s.2) (msets ks e) = subst (λ d. Has k d (msets ks e)) s.3 i in
        let a = mset-ready env0 q q-apart k s.0 s.1 s.2 ks e j in
        subst (λ d. Is k d (msets ks e)) (sym s.3) (
          a.0,
          a.1,
          times-ready env0 q q-apart k s.0 s.1 s.2 ks e j,
          ready r s.2 e (mset-child env0 q q-apart ReprKind.MSetExplicitWithRepetition r s.0 s.1 s.2 ks e refl j j.room.0),
        )
    ready (repr ReprKind.Function1D (more_reprs r no_reprs)) d (functions ks x y) i =
        let k = repr ReprKind.Function1D (more_reprs r no_reprs) in
        let s = function-shape d ks x y (form k d (functions ks x y) i) in
        let j : Has k (function_dom s.0 s.1 s.2 s.3) (functions ks x y) = subst (λ d. Has k d (functions ks x y)) s.4 i in
        subst (λ d. Is k d (functions ks x y)) (sym s.4)
        (function-1d-ready env0 q q-apart r s.0 s.1 s.2 s.3 ks x y j
        (ready r s.3 y (function-child env0 q q-apart ReprKind.Function1D r s.0 s.1 s.2 s.3 ks x y refl j j.room.2)))
    ready (repr ReprKind.Function1DPartial (more_reprs r no_reprs)) d (functions ks x y) i =
        let k = repr ReprKind.Function1DPartial (more_reprs r no_reprs) in
        let s = function-shape d ks x y (form k d (functions ks x y) i) in
        let j : Has k (function_dom s.0 s.1 s.2 s.3) (functions ks x y) = subst (λ d. Has k d (functions ks x y)) s.4 i in
        subst (λ d. Is k d (functions ks x y)) (sym s.4)
        (function-1d-partial-ready env0 q q-apart r s.0 s.1 s.2 s.3 ks x y j
        (ready r s.3 y (function-child env0 q q-apart ReprKind.Function1DPartial r s.0 s.1 s.2 s.3 ks x y refl j j.room.1)))
    ready (repr ReprKind.FunctionND (more_reprs r no_reprs)) d (functions ks (tuples xs) y) i =
        let k = repr ReprKind.FunctionND (more_reprs r no_reprs) in
        let s = function-shape d ks (tuples xs) y (form k d (functions ks (tuples xs) y) i) in
        let j : Has k (function_dom s.0 s.1 s.2 s.3) (functions ks (tuples xs) y) = subst (λ d. Has k d (functions ks (tuples xs) y)) s.4 i
        in
        let t = tuple-shape s.2 xs (denoted-same s.2 (N env0 q q-apart []) (tuples xs)
        (from-is env0 q q-apart k s.0 s.1 s.2 s.3 ks (tuples xs) y j [])) in
        let v : Has k (function_dom s.0 s.1 (tuple_dom t.0) s.3) (functions ks (tuples xs) y) = subst
        (λ b. Has k (function_dom s.0 s.1 b s.3) (functions ks (tuples xs) y)) t.1 j in
        subst (λ d. Is k d (functions ks (tuples xs) y)) (sym s.4)
        (subst (λ b. Is k (function_dom s.0 s.1 b s.3) (functions ks (tuples xs) y)) (sym t.1)
        (function-nd-ready env0 q q-apart r s.0 s.1 t.0 s.3 ks xs y v
        (ready r s.3 y (function-child env0 q q-apart ReprKind.FunctionND r s.0 s.1 (tuple_dom t.0) s.3 ks (tuples xs) y refl v
        v.room.2))))
    ready (repr ReprKind.FunctionNDPartial (more_reprs r no_reprs)) d (functions ks (tuples xs) y) i =
        let k = repr ReprKind.FunctionNDPartial (more_reprs r no_reprs) in
        let s = function-shape d ks (tuples xs) y (form k d (functions ks (tuples xs) y) i) in
        let j : Has k (function_dom s.0 s.1 s.2 s.3) (functions ks (tuples xs) y) = subst (λ d. Has k d (functions ks (tuples xs) y)) s.4 i
        in
        let t = tuple-shape s.2 xs (denoted-same s.2 (N env0 q q-apart []) (tuples xs)
        (from-is env0 q q-apart k s.0 s.1 s.2 s.3 ks (tuples xs) y j [])) in
        let v : Has k (function_dom s.0 s.1 (tuple_dom t.0) s.3) (functions ks (tuples xs) y) = subst
        (λ b. Has k (function_dom s.0 s.1 b s.3) (functions ks (tuples xs) y)) t.1 j in
        subst (λ d. Is k d (functions ks (tuples xs) y)) (sym s.4)
        (subst (λ b. Is k (function_dom s.0 s.1 b s.3) (functions ks (tuples xs) y)) (sym t.1)
        (function-nd-partial-ready env0 q q-apart r s.0 s.1 t.0 s.3 ks xs y v
        (ready r s.3 y (function-child env0 q q-apart ReprKind.FunctionNDPartial r s.0 s.1 (tuple_dom t.0) s.3 ks (tuples xs) y refl v
        v.room.1))))
    ready (repr ReprKind.FunctionAsRelation (more_reprs r no_reprs)) d (functions ks x y) i =
        let k = repr ReprKind.FunctionAsRelation (more_reprs r no_reprs) in
        let s = function-shape d ks x y (form k d (functions ks x y) i) in
        let j : Has k (function_dom s.0 s.1 s.2 s.3) (functions ks x y) = subst (λ d. Has k d (functions ks x y)) s.4 i in
        subst (λ d. Is k d (functions ks x y)) (sym s.4)
        (pairs-ready env0 q q-apart r s.0 s.1 s.2 s.3 ks x y j
        (ready r (pair_relation_dom size_terms s.0 s.1 s.2 s.3) (child_relation ks x y)
        (pairs-known env0 q q-apart r s.0 s.1 s.2 s.3 ks x y j)))
    ready (repr ReprKind.RelationAsMatrix no_reprs) d (relations ks xs) i =
        let k = repr ReprKind.RelationAsMatrix no_reprs in
        let s = relation-shape d ks xs (form k d (relations ks xs) i) in
        subst (λ d. Is k d (relations ks xs)) (sym s.3)
        (matrix-ready env0 q q-apart s.0 s.1 s.2 ks xs (subst (λ d. Has k d (relations ks xs)) s.3 i))
    ready (repr ReprKind.RelationAsSet (more_reprs r no_reprs)) d (relations ks xs) i =
        let k = repr ReprKind.RelationAsSet (more_reprs r no_reprs) in
        let s = relation-shape d ks xs (form k d (relations ks xs) i) in
        let j : Has k (relation_dom s.0 s.1 s.2) (relations ks xs) = subst (λ d. Has k d (relations ks xs)) s.3 i in
        subst (λ d. Is k d (relations ks xs)) (sym s.3)
        (tuples-ready env0 q q-apart r s.0 s.1 s.2 ks xs j
        (ready r (tuple_set_dom s.0 s.1 s.2) (child_set ks xs) (tuples-known env0 q q-apart r s.0 s.1 s.2 ks xs j)))
    ready (repr ReprKind.PartitionOccurrence no_reprs) d (partitions ks x) i =
        let k = repr ReprKind.PartitionOccurrence no_reprs in
        let s = partition-shape d ks x (form k d (partitions ks x) i) in
        subst (λ d. Is k d (partitions ks x)) (sym s.3)
        (numbers-ready env0 q q-apart s.0 s.1 s.2 ks x (subst (λ d. Has k d (partitions ks x)) s.3 i))
    ready (repr ReprKind.PartitionAsSet (more_reprs r no_reprs)) d (partitions ks x) i =
        let k = repr ReprKind.PartitionAsSet (more_reprs r no_reprs) in
        let s = partition-shape d ks x (form k d (partitions ks x) i) in
        let j : Has k (partition_dom s.0 s.1 s.2) (partitions ks x) = subst (λ d. Has k d (partitions ks x)) s.3 i in
        subst (λ d. Is k d (partitions ks x)) (sym s.3)
        (parts-ready env0 q q-apart r s.0 s.1 s.2 ks x j
        (ready r (part_set_dom size_terms s.0 s.1 s.2) (child_parts ks x) (parts-known env0 q q-apart r s.0 s.1 s.2 ks x j)))
    ready _ d e i = absurd i.room

    -- The same of components.
    pub all-ready : (rs : Reprs) (ds : Doms) (es : Domains) → AllKnown env0 q q-apart rs ds es → AllReady env0 q q-apart size_terms rs ds
        (domain_list es)
    all-ready no_reprs no_doms no_domains i = tt
    all-ready (more_reprs r rs) (more_doms d ds) (more_domains e es) i = (
      ready r d e (record {
        sound = i.sound.0;
        fit = and-left (fits r d) (all_fit rs (dom_list ds)) i.fit;
        room = i.room.0;
        neat = i.neat.0;
        plain = and-left (no_negative_attribute e) (each_layer_of_all not_below es) i.plain;
        means = λ bs. let p = first-of d ds (N env0 q q-apart bs) e es (i.means bs) in p.0;
        numbers = λ bs. let n = i.numbers bs in n.0;
      }),
      all-ready rs ds es (record {
        sound = i.sound.1;
        fit = and-right (fits r d) (all_fit rs (dom_list ds)) i.fit;
        room = i.room.1;
        neat = i.neat.1;
        plain = and-right (no_negative_attribute e) (each_layer_of_all not_below es) i.plain;
        means = λ bs. let p = first-of d ds (N env0 q q-apart bs) e es (i.means bs) in p.1;
        numbers = λ bs. let n = i.numbers bs in n.1;
      }),
    )
    all-ready no_reprs (more_doms d ds) no_domains i = let z = i.fit in cc
    all-ready no_reprs ds (more_domains e es) i = absurd i.room
    all-ready (more_reprs r rs) ds no_domains i = absurd i.room
    all-ready (more_reprs r rs) no_doms (more_domains e es) i = let z = i.fit in cc
