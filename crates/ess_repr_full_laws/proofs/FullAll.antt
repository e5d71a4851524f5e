-- Tables that fit are full for the structure of each view of a judged domain: by induction over the representation.
use Rattle.std.proofs.Common.{◌≡◌, refl, sym, ap, ◌∙◌, ℕ, ◌<◌, true, false, List, [], ◌∷◌, option_map, Some, pos}
use Rattle.ess_semantics.specs.declared.words.Key.{Key}
use Rattle.ess_semantics.specs.declared.words.Op2.{Op2}
use Rattle.ess_semantics.specs.declared.words.ReprKind.{ReprKind}
use Rattle.ess_semantics.specs.Lists.{and_then}
use Rattle.ess_semantics.specs.Values.{Text, number}
use Rattle.ess_semantics.specs.Order.{same_text}
use Rattle.ess_semantics.specs.Kinds.{fits, all_fit, dom_list}
use Rattle.ess_semantics.specs.Membership.{no_negative_attribute, each_layer_of_all}
use Rattle.ess_semantics.specs.Sizes.{slots_of_mset, child_relation, child_set, child_parts}
use Rattle.ess_semantics.specs.Trees.{Repr, Reprs, repr, no_reprs, more_reprs, Mark, valued, Exs, no_exs, more_exs, Dom, Doms, no_doms, more_doms, tuple_dom, record_dom, matrix_dom, set_dom, mset_dom, function_dom, relation_dom, partition_dom}
use Rattle.ess_semantics.specs.Domains.{numbered, Domain, Domains, no_domains, more_domains, tuples, records, matrices, sets, msets, functions, relations, partitions, domain_list}
use Rattle.ess_semantics.specs.Meaning.{Env, as_int}
use Rattle.ess_semantics.proofs.Tests.{and-left, and-right}
use Rattle.ess_repr_laws.specs.StructureParts.{tuple_set_dom}
use Rattle.ess_repr_laws.specs.StructureMeaning.{Bound, M, Number, Attributes, index_members}
use Rattle.ess_repr_laws.specs.StructureReady.{Ready, AllReady}
use Rattle.ess_repr_laws.specs.ViewParts.{pair_relation_dom, part_set_dom}
use Rattle.ess_repr_laws.specs.RelationParts.{relation_key_ex}
use Rattle.ess_repr_laws.proofs.StructureAll.{structures}
use Rattle.ess_repr_laws.proofs.StructureMatrices.{axes-even}
use Rattle.ess_repr_laws.proofs.StructureOf.{StructureOf}
use Rattle.ess_repr_laws.proofs.StructureRelations.{relation-structure}
use Rattle.ess_repr_laws.proofs.StructureRepetition.{repetition-structure}
use Rattle.ess_repr_declare_laws.specs.SizeTerms.{slots_ex, size_terms}
use Rattle.ess_repr_declare_laws.proofs.SizeNumbers.{not_below}
use Rattle.ess_repr_structure_laws.proofs.BuiltStructures as B
use Rattle.ess_repr_structure_laws.proofs.FittingChildren.{ChildrenFit, children-fit}
use Rattle.ess_repr_structure_laws.proofs.MetAll.{bare-functions, bare-msets}
use Rattle.ess_repr_structure_laws.proofs.MetParts.{Any}
use Rattle.ess_repr_structure_laws.proofs.ReadyParts.{Known, AllKnown}
use Rattle.ess_repr_structure_laws.proofs.ReadySets.{set-child, mset-child}
use Rattle.ess_repr_structure_laws.proofs.ReadyFunctions.{from-is, to-is, function-child}
use Rattle.ess_repr_structure_laws.proofs.ReadyConversions.{tuples-known, pairs-known, parts-known}
use Rattle.ess_repr_structure_laws.proofs.Shapes.{tuple-parts, record-parts, matrix-parts, mset-parts, relation-parts, first-of}
use Rattle.ess_repr_full_laws.proofs.FullParts.{Anywhere, truth-full, two-full, keys-full, sized-anywhere}
use Rattle.ess_repr_full_laws.proofs.FullSeen.{Seen, view-full, pairs-full, parts-full, relation-key-full}
use Rattle.ess_repr_full_laws.proofs.FullKinds.{FullOf}
use Rattle.ess_repr_full_laws.proofs.FullSets as F
use Rattle.ess_repr_full_laws.proofs.FullTuples.{EachFull, more-full}
use Rattle.ess_repr_full_laws.proofs.FullFunctions.{matrix-full, relation-matrix-full}
use Rattle.ess_repr_full_laws.proofs.FullLayers.{function-1d-full, function-nd-full, partial-1d-full, partial-nd-full, numbered-full}

module _ (env0 : Env) (q : ℕ → Text) (q-apart : (m l : ℕ) → l < m → same_text (q m) (q l) ≡ false) where
  abbrev N : Bound env0 q q-apart → Env
  N = M env0 q q-apart

  abbrev Is : Repr → Dom → Domain → Type 0
  Is = Ready env0 q q-apart size_terms

  abbrev Has : Repr → Dom → Domain → Type 0
  Has = Known env0 q q-apart

  abbrev Free : Dom → Type 0
  Free = B.Good (Anywhere env0) Any

  of : (r : Repr) (d : Dom) (e : Domain) → Is r d e → StructureOf env0 q q-apart size_terms r d e
  of = structures env0 q q-apart size_terms

  -- Their one attribute.
  bare-sizes : (ms : List Mark) (es : Exs) (d : Dom) (S : ℕ) → ((bs : Bound env0 q q-apart) → Number (slots_ex (mset_dom ms es d)) (N bs)
      (pos S)) →
      Attributes env0 q q-apart size_terms (valued Key.MaxSize ∷ []) (more_exs (slots_ex (mset_dom ms es d)) no_exs)
      (numbered Key.MaxSize (pos S) ∷ [])
  bare-sizes ms es d S sl bs = (
    (
      λ z h. let x : Some (pos S) ≡ Some z = sym (ap as_int (sl bs)) ∙ h in
          let y : pos S ≡ z = cc in sl bs ∙ ap (λ n. Some (number n)) y,
      tt,
    ),
    ap (λ o. and_then (as_int o) (λ n. Some (numbered Key.MaxSize n ∷ []))) (sl bs),
  )

  mutual
    -- Tables that fit are full for the structure of a view of which enough is known.
    pub full-all : (r : Repr) (d : Dom) (e : Domain) → Has r d e → Is r d e → Free d → FullOf env0 q q-apart r d e
    full-all (repr ReprKind.Atom no_reprs) d e k h g = F.atom-full env0 q q-apart d e g refl
    full-all (repr ReprKind.Tuple rs) (tuple_dom ds) (tuples es) k h g =
        let x : EachFull env0 q q-apart rs ds (domain_list es) = each-full-all rs ds es
        (record {
          sound = k.sound;
          fit = k.fit;
          room = k.room;
          neat = k.neat;
          plain = k.plain;
          means = λ bs. tuple-parts ds (N bs) es (k.means bs);
          numbers = k.numbers;
        }) h g in
        record { full = x.full }
    full-all (repr ReprKind.Rec rs) (record_dom fs ds) (records gs es) k h g =
        let x : EachFull env0 q q-apart rs ds (domain_list es) = each-full-all rs ds es
        (record {
          sound = k.sound;
          fit = k.fit;
          room = k.room;
          neat = k.neat;
          plain = k.plain;
          means = λ bs. record-parts fs gs ds (N bs) es (k.means bs);
          numbers = k.numbers;
        }) h g in
        record { full = x.full }
    full-all (repr ReprKind.Matrix (more_reprs r no_reprs)) (matrix_dom is d) (matrices js e) k h g =
        let f : ChildrenFit ReprKind.Matrix (more_reprs r no_reprs) (matrix_dom is d) = children-fit ReprKind.Matrix (more_reprs r no_reprs)
        (matrix_dom is d) k.sound k.fit in
        matrix-full env0 q q-apart r is d js e (full-all r d e (record {
          sound = k.sound.2;
          fit = and-left (fits r d) true f.fit;
          room = k.room.1;
          neat = k.neat;
          plain = and-right (each_layer_of_all not_below js) (no_negative_attribute e) k.plain;
          means = λ bs. let p = matrix-parts is d (N bs) js e (k.means bs) in p.1;
          numbers = λ bs. let n = k.numbers bs in n.1;
        }) h.2 g.1) h.1 (axes-even env0 q q-apart (dom_list is) (index_members js) h.1) g
    full-all (repr ReprKind.Occurrence no_reprs) (set_dom ms es d) (sets ks e) k h g = F.occurrence-full env0 q q-apart ms es d ks e g
    full-all (repr ReprKind.Explicit (more_reprs r no_reprs)) (set_dom ms es d) (sets ks e) k h g =
        F.explicit-full env0 q q-apart ms es d ks e h.1 g r
        (full-all r d e (set-child env0 q q-apart ReprKind.Explicit r ms es d ks e refl k k.room.1) h.2 g.1)
    full-all (repr ReprKind.ExplicitVarSizeWithMarker (more_reprs r no_reprs)) (set_dom ms es d) (sets ks e) k h g =
        F.marker-full env0 q q-apart ms es d ks e h.1 g r
        (full-all r d e (set-child env0 q q-apart ReprKind.ExplicitVarSizeWithMarker r ms es d ks e refl k k.room.1) h.2 g.1)
    full-all (repr ReprKind.ExplicitVarSizeWithFlags (more_reprs r no_reprs)) (set_dom ms es d) (sets ks e) k h g =
        F.flags-full env0 q q-apart ms es d ks e h.1 g r
        (full-all r d e (set-child env0 q q-apart ReprKind.ExplicitVarSizeWithFlags r ms es d ks e refl k k.room.1) h.2 g.1)
    full-all (repr ReprKind.ExplicitVarSizeWithDummy no_reprs) (set_dom ms es d) (sets ks e) k h g =
        F.dummy-full env0 q q-apart ms es d ks e h.3 g
    full-all (repr ReprKind.MSetOccurrence no_reprs) (mset_dom ms es d) (msets ks e) k h g =
        F.mset-occurrence-full env0 q q-apart ms es d ks e g
    full-all (repr ReprKind.MSetExplicitWithFlags (more_reprs r no_reprs)) (mset_dom ms es d) (msets ks e) k h g =
        F.counted-full env0 q q-apart ms es d ks e h.1 g r
        (full-all r d e (mset-child env0 q q-apart ReprKind.MSetExplicitWithFlags r ms es d ks e refl k k.room.0) h.2 g.2)
    full-all (repr ReprKind.MSetExplicitWithRepetition (more_reprs r no_reprs)) (mset_dom ms es d) (msets ks e) k h g =
        let inside = bare-msets env0 q q-apart (slots_ex (mset_dom ms es d)) d (slots_of_mset ks e) e h.1
        (λ bs. let p = mset-parts ms es d (N bs) ks e (k.means bs) in p.1) in
        F.repetition-full env0 q q-apart ms es d ks e h.1 g r
        (full-all r d e (mset-child env0 q q-apart ReprKind.MSetExplicitWithRepetition r ms es d ks e refl k k.room.0) h.3 g.2)
        (repetition-structure env0 q q-apart size_terms r (valued Key.MaxSize ∷ []) (more_exs (slots_ex (mset_dom ms es d)) no_exs) d
        (numbered Key.MaxSize (pos (slots_of_mset ks e)) ∷ []) e (of r d e h.3) (bare-sizes ms es d (slots_of_mset ks e) h.1) h.1
        (λ x. inside)) inside
    full-all (repr ReprKind.Function1D (more_reprs r no_reprs)) (function_dom ms es d c) (functions ks x y) k h g =
        function-1d-full env0 q q-apart r ms es d c ks x y (of r c y h.5)
        (full-all r c y (function-child env0 q q-apart ReprKind.Function1D r ms es d c ks x y refl k k.room.2) h.5 g.2) h.0 h.3
        (bare-functions env0 q q-apart d c x y (from-is env0 q q-apart _ ms es d c ks x y k) (to-is env0 q q-apart _ ms es d c ks x y k)) g
        h.1
    full-all (repr ReprKind.FunctionND (more_reprs r no_reprs)) (function_dom ms es (tuple_dom ds) c) (functions ks (tuples xs) y) k h g =
        function-nd-full env0 q q-apart r ms es ds c ks xs y (of r c y h.5)
        (full-all r c y (function-child env0 q q-apart ReprKind.FunctionND r ms es (tuple_dom ds) c ks (tuples xs) y refl k k.room.2) h.5
        g.2) h.0 h.3
        (bare-functions env0 q q-apart (tuple_dom ds) c (tuples xs) y (from-is env0 q q-apart _ ms es (tuple_dom ds) c ks (tuples xs) y k)
        (to-is env0 q q-apart _ ms es (tuple_dom ds) c ks (tuples xs) y k)) g h.1
    full-all (repr ReprKind.Function1DPartial (more_reprs r no_reprs)) (function_dom ms es d c) (functions ks x y) k h g =
        partial-1d-full env0 q q-apart r ms es d c ks x y (of r c y h.4)
        (full-all r c y (function-child env0 q q-apart ReprKind.Function1DPartial r ms es d c ks x y refl k k.room.1) h.4 g.2) h.0 h.2
        (bare-functions env0 q q-apart d c x y (from-is env0 q q-apart _ ms es d c ks x y k) (to-is env0 q q-apart _ ms es d c ks x y k)) g
    full-all (repr ReprKind.FunctionNDPartial (more_reprs r no_reprs)) (function_dom ms es (tuple_dom ds) c) (functions ks
        (tuples xs) y) k h
        g =
        partial-nd-full env0 q q-apart r ms es ds c ks xs y (of r c y h.4)
        (full-all r c y (function-child env0 q q-apart ReprKind.FunctionNDPartial r ms es (tuple_dom ds) c ks (tuples xs) y refl k
        k.room.1) h.4 g.2) h.0 h.2
        (bare-functions env0 q q-apart (tuple_dom ds) c (tuples xs) y (from-is env0 q q-apart _ ms es (tuple_dom ds) c ks (tuples xs) y k)
        (to-is env0 q q-apart _ ms es (tuple_dom ds) c ks (tuples xs) y k)) g
    full-all (repr ReprKind.RelationAsMatrix no_reprs) (relation_dom ms es ds) (relations ks xs) k h g =
        relation-matrix-full env0 q q-apart ms es ds ks xs h.2
        (relation-structure env0 q q-apart size_terms [] no_exs ds [] xs h.0 tt h.2 (λ bs. (tt, refl)))
        (λ bs. let p = relation-parts ms es ds (N bs) ks xs (k.means bs) in ap (option_map (relations [])) p.1) g
    full-all (repr ReprKind.RelationAsSet (more_reprs r no_reprs)) (relation_dom ms es ds) (relations ks xs) k h g =
        let j : Has r (tuple_set_dom ms es ds) (child_set ks xs) = tuples-known env0 q q-apart r ms es ds ks xs k in
        let v : Free (tuple_set_dom ms es ds) = B.tuples-good (Anywhere env0) Any (sized-anywhere env0) ms es ds g in
        let m : FullOf env0 q q-apart r (tuple_set_dom ms es ds) (child_set ks xs) = full-all r (tuple_set_dom ms es ds) (child_set ks xs) j
        h.2 v in record {
          full = λ ns ts l is i bs p th st a.
              let w : Seen env0 q q-apart l bs _ = view-full env0 q q-apart r (tuple_set_dom ms es ds) (child_set ks xs)
              (of r (tuple_set_dom ms es ds) (child_set ks xs) h.2) j.means (B.good-has (Anywhere env0) Any
              (tuple_set_dom ms es ds) v) ns ts l is i
              bs p th st a in
              two-full (N bs) true Op2.And _ _ (m.full ns ts l is i bs p th st a)
              (keys-full (N bs) (relation_key_ex q l ds _) ms
              (λ k. relation-key-full env0 q q-apart l bs _ w ds k (B.all-good-have (Anywhere env0) Any ds g.1)));
        }
    full-all (repr ReprKind.FunctionAsRelation (more_reprs r no_reprs)) (function_dom ms es d c) (functions ks x y) k h g =
        let j : Has r (pair_relation_dom size_terms ms es d c) (child_relation ks x y) = pairs-known env0 q q-apart r ms es d c ks x y k in
        let v : Free (pair_relation_dom size_terms ms es d c) = B.pairs-good (Anywhere env0) Any (sized-anywhere env0) ms es d c g in
        let m : FullOf env0 q q-apart r (pair_relation_dom size_terms ms es d c) (child_relation ks x y) = full-all r
        (pair_relation_dom size_terms ms es d c) (child_relation ks x y) j h.4 v in record {
          full = λ ns ts l is i bs p th st a.
              two-full (N bs) true Op2.And _ _ (m.full ns ts l is i bs p th st a)
              (pairs-full env0 q q-apart l bs _ (view-full env0 q q-apart r (pair_relation_dom size_terms ms es d c) (child_relation ks x y)
              (of r (pair_relation_dom size_terms ms es d c) (child_relation ks x y) h.4) j.means
              (B.good-has (Anywhere env0) Any (pair_relation_dom size_terms ms es d c) v) ns ts l is i bs p th st a) ms es d c g.0
              (B.good-has (Anywhere env0) Any c g.2));
        }
    full-all (repr ReprKind.PartitionAsSet (more_reprs r no_reprs)) (partition_dom ms es d) (partitions ks x) k h g =
        let j : Has r (part_set_dom size_terms ms es d) (child_parts ks x) = parts-known env0 q q-apart r ms es d ks x k in
        let v : Free (part_set_dom size_terms ms es d) = B.parts-good (Anywhere env0) Any (sized-anywhere env0) ms es d g in
        let m : FullOf env0 q q-apart r (part_set_dom size_terms ms es d) (child_parts ks x) = full-all r (part_set_dom size_terms ms es d)
        (child_parts ks x) j h.3 v in record {
          full = λ ns ts l is i bs p th st a.
              two-full (N bs) true Op2.And _ _ (m.full ns ts l is i bs p th st a)
              (parts-full env0 q q-apart l bs _ (view-full env0 q q-apart r (part_set_dom size_terms ms es d) (child_parts ks x)
              (of r (part_set_dom size_terms ms es d) (child_parts ks x) h.3) j.means
              (B.good-has (Anywhere env0) Any (part_set_dom size_terms ms es d) v) ns ts l is i bs p th st a) ms d
              (B.good-has (Anywhere env0) Any d g.1));
        }
    full-all (repr ReprKind.PartitionOccurrence no_reprs) (partition_dom ms es d) (partitions ks x) k h g =
        numbered-full env0 q q-apart ms es d ks x h.0.0 h.0.1 h.1 h.2 g
    full-all _ d e k h g = absurd h

    -- The same of components.
    pub each-full-all : (rs : Reprs) (ds : Doms) (es : Domains) → AllKnown env0 q q-apart rs ds es →
        AllReady env0 q q-apart size_terms rs ds
        (domain_list es) → B.AllGood (Anywhere env0) Any ds →
        EachFull env0 q q-apart rs ds (domain_list es)
    each-full-all no_reprs no_doms no_domains k h g = record { full = λ ns ts l is i bs p th st a. truth-full (N bs) true }
    each-full-all (more_reprs r rs) (more_doms d ds) (more_domains e es) k h g =
        more-full env0 q q-apart r rs d ds e (domain_list es) (of r d e h.0) (full-all r d e (record {
          sound = k.sound.0;
          fit = and-left (fits r d) (all_fit rs (dom_list ds)) k.fit;
          room = k.room.0;
          neat = k.neat.0;
          plain = and-left (no_negative_attribute e) (each_layer_of_all not_below es) k.plain;
          means = λ bs. let p = first-of d ds (N bs) e es (k.means bs) in p.0;
          numbers = λ bs. let n = k.numbers bs in n.0;
        }) h.0 g.0) (each-full-all rs ds es (record {
          sound = k.sound.1;
          fit = and-right (fits r d) (all_fit rs (dom_list ds)) k.fit;
          room = k.room.1;
          neat = k.neat.1;
          plain = and-right (no_negative_attribute e) (each_layer_of_all not_below es) k.plain;
          means = λ bs. let p = first-of d ds (N bs) e es (k.means bs) in p.1;
          numbers = λ bs. let n = k.numbers bs in n.1;
        }) h.1 g.1)
    each-full-all no_reprs (more_doms d ds) es k h g = absurd h
    each-full-all no_reprs no_doms (more_domains e es) k h g = absurd h
    each-full-all (more_reprs r rs) no_doms es k h g = absurd h
    each-full-all (more_reprs r rs) (more_doms d ds) no_domains k h g = absurd h
