-- Tables that fit meet the structure of each view of a judged domain: by induction over the representation.
use Rattle.std.proofs.Common.{◌≡◌, refl, ap, ◌∙◌, subst, ℕ, ◌<◌, true, false, ◌||◌, [], ◌∷◌, option_map, Some, pos}
use Rattle.ess_semantics.specs.declared.words.Key.{Key}
use Rattle.ess_semantics.specs.declared.words.ReprKind.{ReprKind}
use Rattle.ess_semantics.specs.Lists.{and_then}
use Rattle.ess_semantics.specs.Values.{Text}
use Rattle.ess_semantics.specs.Order.{same_text}
use Rattle.ess_semantics.specs.Kinds.{fits, all_fit, dom_list}
use Rattle.ess_semantics.specs.Membership.{no_negative_attribute, each_layer_of_all}
use Rattle.ess_semantics.specs.Sizes.{slots_of_mset, child_relation, child_set, child_parts}
use Rattle.ess_semantics.specs.Trees.{Repr, Reprs, repr, no_reprs, more_reprs, Ex, cell_ex, Dom, Doms, no_doms, more_doms, tuple_dom, record_dom, matrix_dom, set_dom, mset_dom, function_dom, relation_dom, partition_dom}
use Rattle.ess_semantics.specs.Domains.{numbered, Domain, Domains, no_domains, more_domains, tuples, records, matrices, sets, msets, functions, relations, partitions, domain_list}
use Rattle.ess_semantics.specs.Declarations.{declarations_below}
use Rattle.ess_semantics.specs.Cells.{behind, cells_of}
use Rattle.ess_semantics.specs.Meaning.{Env, as_int, is_bool_dom, domain_of}
use Rattle.ess_semantics.proofs.Tests.{and-left, and-right}
use Rattle.ess_repr_laws.specs.FunctionParts.{bare_function_dom}
use Rattle.ess_repr_laws.specs.MultisetParts.{bare_mset_dom}
use Rattle.ess_repr_laws.specs.StructureParts.{first_name, tuple_set_dom}
use Rattle.ess_repr_laws.specs.StructureMeaning.{Bound, M, Number, DomainIs}
use Rattle.ess_repr_laws.specs.StructureReady.{Ready, AllReady}
use Rattle.ess_repr_laws.specs.ViewParts.{pair_relation_dom, part_set_dom}
use Rattle.ess_repr_laws.proofs.StructureAll.{structures}
use Rattle.ess_repr_laws.proofs.StructureFits.{Fit}
use Rattle.ess_repr_laws.proofs.StructureOf.{StructureOf}
use Rattle.ess_repr_laws.proofs.StructureTupleSets.{plain}
use Rattle.ess_repr_declare_laws.specs.SizeTerms.{slots_ex, size_terms}
use Rattle.ess_repr_declare_laws.proofs.SizeNumbers.{not_below}
use Rattle.ess_repr_structure_laws.proofs.BuiltStructures as B
use Rattle.ess_repr_structure_laws.proofs.BuiltStructures.{BuiltOf}
use Rattle.ess_repr_structure_laws.proofs.BuiltParts as C
use Rattle.ess_repr_structure_laws.proofs.BuiltSets as D
use Rattle.ess_repr_structure_laws.proofs.BuiltAll as A
use Rattle.ess_repr_structure_laws.proofs.FittingChildren.{ChildrenFit, children-fit}
use Rattle.ess_repr_structure_laws.proofs.MetParts.{Any, and-met}
use Rattle.ess_repr_structure_laws.proofs.MetLayers as M'
use Rattle.ess_repr_structure_laws.proofs.MetLayers.{here}
use Rattle.ess_repr_structure_laws.proofs.MetKinds as K
use Rattle.ess_repr_structure_laws.proofs.MetKinds.{Met}
use Rattle.ess_repr_structure_laws.proofs.MetSlots.{cell-met, explicit-met, marker-met, flags-met, counted-met, repetition-met}
use Rattle.ess_repr_structure_laws.proofs.MetTuples.{EachMet, none-met, more-met, tuple-met, record-met}
use Rattle.ess_repr_structure_laws.proofs.MetFunctions.{matrix-met, function-1d-met, function-nd-met, partial-1d-met, partial-nd-met, relation-matrix-met, numbers-met}
use Rattle.ess_repr_structure_laws.proofs.ReadyParts.{Known, AllKnown, listed-is}
use Rattle.ess_repr_structure_laws.proofs.ReadySets.{set-child, mset-child}
use Rattle.ess_repr_structure_laws.proofs.ReadyFunctions.{from-is, to-is, function-child}
use Rattle.ess_repr_structure_laws.proofs.ReadyConversions.{tuples-known, pairs-known, parts-known}
use Rattle.ess_repr_structure_laws.proofs.Shapes.{tuple-parts, record-parts, matrix-parts, mset-parts, relation-parts, first-of}

module _ (env0 : Env) (q : ℕ → Text) (q-apart : (m l : ℕ) → l < m → same_text (q m) (q l) ≡ false) where
  abbrev N : Bound env0 q q-apart → Env
  N = M env0 q q-apart

  abbrev G : Ex → Type 0
  G = M'.G env0 q q-apart

  bt : BuiltOf q G Any (Unit {0}) (Unit {0})
  bt = K.built env0 q q-apart

  abbrev Is : Repr → Dom → Domain → Type 0
  Is = Ready env0 q q-apart size_terms

  abbrev Has : Repr → Dom → Domain → Type 0
  Has = Known env0 q q-apart

  of : (r : Repr) (d : Dom) (e : Domain) → Is r d e → StructureOf env0 q q-apart size_terms r d e
  of = structures env0 q q-apart size_terms

  -- Functions of which nothing is asked.
  pub bare-functions : (d c : Dom) (x y : Domain) → DomainIs env0 q q-apart d x → DomainIs env0 q q-apart c y → DomainIs env0 q q-apart
      (bare_function_dom d c) (functions [] x y)
  bare-functions d c x y dm cm bs = ap (λ o. and_then o (λ u. option_map (functions [] u) (domain_of c (N bs)))) (dm bs) ∙ ap
      (option_map (functions [] x)) (cm bs)

  -- Multisets of at most as many members as there are slots.
  pub bare-msets : (size : Ex) (d : Dom) (S : ℕ) (e : Domain) → ((bs : Bound env0 q q-apart) → Number size (N bs) (pos S)) → DomainIs env0 q
      q-apart d e →
      DomainIs env0 q q-apart (bare_mset_dom size d) (msets (numbered Key.MaxSize (pos S) ∷ []) e)
  bare-msets size d S e sl dm bs =
      ap (λ o. and_then (and_then (as_int o) (λ n. Some (numbered Key.MaxSize n ∷ []))) (λ ks. option_map (msets ks) (domain_of d (N bs))))
      (sl bs)
      ∙ ap (option_map (msets (numbered Key.MaxSize (pos S) ∷ []))) (dm bs)

  mutual
    -- Tables that fit meet the structure of a view of which enough is known.
    pub met-all : (r : Repr) (d : Dom) (e : Domain) → Has r d e → Is r d e → B.Good G Any d → Met env0 q q-apart r d e
    met-all (repr ReprKind.Atom no_reprs) d e k h g = record {
      met = λ out ns ts l is i bs p c o st a. here env0 q q-apart
          (A.inside-has q G Any bt d (cell_ex (is_bool_dom d) (first_name ns) is) g
          (cell-met env0 q q-apart (is_bool_dom d) (first_name ns) is a)) bs;
    }
    met-all (repr ReprKind.Tuple rs) (tuple_dom ds) (tuples es) k h g =
        tuple-met env0 q q-apart rs ds es (each-met-all rs ds es
        (record {
          sound = k.sound;
          fit = k.fit;
          room = k.room;
          neat = k.neat;
          plain = k.plain;
          means = λ bs. tuple-parts ds (N bs) es
              (k.means bs);
          numbers = k.numbers;
        }) h g)
    met-all (repr ReprKind.Rec rs) (record_dom fs ds) (records gs es) k h g =
        record-met env0 q q-apart rs fs gs ds es (each-met-all rs ds es
        (record {
          sound = k.sound;
          fit = k.fit;
          room = k.room;
          neat = k.neat;
          plain = k.plain;
          means = λ bs. record-parts fs gs ds
              (N bs) es (k.means bs);
          numbers = k.numbers;
        }) h g)
    met-all (repr ReprKind.Matrix (more_reprs r no_reprs)) (matrix_dom is d) (matrices js e) k h g =
        let f : ChildrenFit ReprKind.Matrix (more_reprs r no_reprs) (matrix_dom is d) = children-fit ReprKind.Matrix (more_reprs r no_reprs)
        (matrix_dom is d) k.sound k.fit in
        matrix-met env0 q q-apart r is d js e (of r d e h.2) (met-all r d e (record {
          sound = k.sound.2;
          fit = and-left (fits r d) true f.fit;
          room = k.room.1;
          neat = k.neat;
          plain = and-right (each_layer_of_all not_below js) (no_negative_attribute e) k.plain;
          means = λ bs. let p = matrix-parts is d (N bs) js e (k.means bs) in p.1;
          numbers = λ bs. let n = k.numbers bs in n.1;
        }) h.2 g.1) h.1 g
    met-all (repr ReprKind.Occurrence no_reprs) (set_dom ms es d) (sets ks e) k h g = record {
      met = λ out ns ts l is i bs p c o st a. here env0 q q-apart
          (D.occurrence-has q G Any bt l ms es d (first_name ns) is g.0 (B.good-has G Any d g.1) a) bs;
    }
    met-all (repr ReprKind.Explicit (more_reprs r no_reprs)) (set_dom ms es d) (sets ks e) k h g =
        explicit-met env0 q q-apart r ms es d ks e (of r d e h.2)
        (met-all r d e (set-child env0 q q-apart ReprKind.Explicit r ms es d ks e refl k k.room.1) h.2 g.1) h.1 g
    met-all (repr ReprKind.ExplicitVarSizeWithMarker (more_reprs r no_reprs)) (set_dom ms es d) (sets ks e) k h g =
        marker-met env0 q q-apart r ms es d ks e (of r d e h.2)
        (met-all r d e (set-child env0 q q-apart ReprKind.ExplicitVarSizeWithMarker r ms es d ks e refl k k.room.1) h.2 g.1) h.1 g
    met-all (repr ReprKind.ExplicitVarSizeWithFlags (more_reprs r no_reprs)) (set_dom ms es d) (sets ks e) k h g =
        flags-met env0 q q-apart r ms es d ks e (of r d e h.2)
        (met-all r d e (set-child env0 q q-apart ReprKind.ExplicitVarSizeWithFlags r ms es d ks e refl k k.room.1) h.2 g.1) h.1 g
    met-all (repr ReprKind.ExplicitVarSizeWithDummy no_reprs) (set_dom ms es d) (sets ks e) k h g = record {
      met = λ out ns ts l is i bs p c o st a.
          here env0 q q-apart (D.dummy-has q G Any bt l ms es _ _ _ (first_name ns) is g.0 (B.set-slots-have q G Any bt ms es d g)
          (A.dummy-has q G Any bt d g.1) (λ x p. A.inside-has q G Any bt d x g.1 p) a) bs;
    }
    met-all (repr ReprKind.MSetOccurrence no_reprs) (mset_dom ms es d) (msets ks e) k h g = record {
      met = λ out ns ts l is i bs p c o st a. here env0 q q-apart
          (C.counts-have q G Any bt l ms es (d ∷ []) (first_name ns) is g.1 (A.one-domain q G Any bt d g.2) a) bs;
    }
    met-all (repr ReprKind.MSetExplicitWithFlags (more_reprs r no_reprs)) (mset_dom ms es d) (msets ks e) k h g =
        counted-met env0 q q-apart r ms es d ks e (of r d e h.2)
        (met-all r d e (mset-child env0 q q-apart ReprKind.MSetExplicitWithFlags r ms es d ks e refl k k.room.0) h.2 g.2) h.1 g
    met-all (repr ReprKind.MSetExplicitWithRepetition (more_reprs r no_reprs)) (mset_dom ms es d) (msets ks e) k h g =
        repetition-met env0 q q-apart r ms es d ks e (of r d e h.3)
        (met-all r d e (mset-child env0 q q-apart ReprKind.MSetExplicitWithRepetition r ms es d ks e refl k k.room.0) h.3 g.2) h.1 g
        (bare-msets (slots_ex (mset_dom ms es d)) d (slots_of_mset ks e) e h.1
        (λ bs. let p = mset-parts ms es d (N bs) ks e (k.means bs) in p.1))
    met-all (repr ReprKind.Function1D (more_reprs r no_reprs)) (function_dom ms es d c) (functions ks x y) k h g =
        function-1d-met env0 q q-apart r ms es d c ks x y (of r c y h.5)
        (met-all r c y (function-child env0 q q-apart ReprKind.Function1D r ms es d c ks x y refl k k.room.2) h.5 g.2) h.0 h.1 h.3
        (bare-functions d c x y (from-is env0 q q-apart _ ms es d c ks x y k) (to-is env0 q q-apart _ ms es d c ks x y k)) g
    met-all (repr ReprKind.FunctionND (more_reprs r no_reprs)) (function_dom ms es (tuple_dom ds) c) (functions ks (tuples xs) y) k h g =
        function-nd-met env0 q q-apart r ms es ds c ks xs y (of r c y h.5)
        (met-all r c y (function-child env0 q q-apart ReprKind.FunctionND r ms es (tuple_dom ds) c ks (tuples xs) y refl k k.room.2) h.5
        g.2) h.0 h.3
        (bare-functions (tuple_dom ds) c (tuples xs) y (from-is env0 q q-apart _ ms es (tuple_dom ds) c ks (tuples xs) y k)
        (to-is env0 q q-apart _ ms es (tuple_dom ds) c ks (tuples xs) y k)) g h.1
    met-all (repr ReprKind.Function1DPartial (more_reprs r no_reprs)) (function_dom ms es d c) (functions ks x y) k h g =
        partial-1d-met env0 q q-apart r ms es d c ks x y (of r c y h.4)
        (met-all r c y (function-child env0 q q-apart ReprKind.Function1DPartial r ms es d c ks x y refl k k.room.1) h.4 g.2) h.0
        (listed-is x k.room.0.1) h.2
        (bare-functions d c x y (from-is env0 q q-apart _ ms es d c ks x y k) (to-is env0 q q-apart _ ms es d c ks x y k)) g
    met-all (repr ReprKind.FunctionNDPartial (more_reprs r no_reprs)) (function_dom ms es (tuple_dom ds) c) (functions ks (tuples xs) y) k h
        g =
        partial-nd-met env0 q q-apart r ms es ds c ks xs y (of r c y h.4)
        (met-all r c y (function-child env0 q q-apart ReprKind.FunctionNDPartial r ms es (tuple_dom ds) c ks (tuples xs) y refl k
        k.room.1) h.4 g.2) h.0 h.2
        (bare-functions (tuple_dom ds) c (tuples xs) y (from-is env0 q q-apart _ ms es (tuple_dom ds) c ks (tuples xs) y k)
        (to-is env0 q q-apart _ ms es (tuple_dom ds) c ks (tuples xs) y k)) g
    met-all (repr ReprKind.RelationAsMatrix no_reprs) (relation_dom ms es ds) (relations ks xs) k h g =
        relation-matrix-met env0 q q-apart ms es ds ks xs h.0 h.2
        (λ bs. let p = relation-parts ms es ds (N bs) ks xs (k.means bs) in ap (option_map (relations [])) p.1) g
    met-all (repr ReprKind.RelationAsSet (more_reprs r no_reprs)) (relation_dom ms es ds) (relations ks xs) k h g =
        let j : Has r (tuple_set_dom ms es ds) (child_set ks xs) = tuples-known env0 q q-apart r ms es ds ks xs k in
        let s : StructureOf env0 q q-apart size_terms r (tuple_set_dom ms es ds) (child_set ks xs) = of r (tuple_set_dom ms es ds)
        (child_set ks xs) h.2 in
        let v : B.Good G Any (tuple_set_dom ms es ds) = B.tuple-set-good q G Any bt ms es ds g in
        let m : Met env0 q q-apart r (tuple_set_dom ms es ds) (child_set ks xs) = met-all r (tuple_set_dom ms es ds) (child_set ks xs) j h.2
        v in record {
          met = λ out ns ts l is i bs p c o st a.
              let f = subst (λ l. Fit l (behind i (cells_of ts))) (plain (declarations_below (out || false) r (child_set ks xs))) c in
              and-met _ _ (N bs) (m.met (out || false) ns ts l is i bs p f o st a)
              (λ t. K.keys-later env0 q q-apart l ms ds _ bs (B.all-good-have G Any ds g.1)
              (M'.view-met env0 q q-apart r (tuple_set_dom ms es ds) (child_set ks xs) s j.means
              (B.good-has G Any (tuple_set_dom ms es ds) v) (out || false) ns ts l is i bs p f o st a t));
        }
    met-all (repr ReprKind.FunctionAsRelation (more_reprs r no_reprs)) (function_dom ms es d c) (functions ks x y) k h g =
        let j : Has r (pair_relation_dom size_terms ms es d c) (child_relation ks x y) = pairs-known env0 q q-apart r ms es d c ks x y k in
        let s : StructureOf env0 q q-apart size_terms r (pair_relation_dom size_terms ms es d c) (child_relation ks x y) = of r
        (pair_relation_dom size_terms ms es d c) (child_relation ks x y) h.4 in
        let v : B.Good G Any (pair_relation_dom size_terms ms es d c) = B.pair-relation-good q G Any bt ms es d c g in
        let m : Met env0 q q-apart r (pair_relation_dom size_terms ms es d c) (child_relation ks x y) = met-all r
        (pair_relation_dom size_terms ms es d c) (child_relation ks x y) j h.4 v in record {
          met = λ out ns ts l is i bs p c' o st a.
              let f = subst (λ l. Fit l (behind i (cells_of ts))) (plain (declarations_below (out || false) r (child_relation ks x y))) c'
              in
              and-met _ _ (N bs) (m.met (out || false) ns ts l is i bs p f o st a)
              (λ t. K.pairs-met env0 q q-apart l ms es d c _ bs g.0 (B.good-has G Any c g.2)
              (M'.view-met env0 q q-apart r (pair_relation_dom size_terms ms es d c) (child_relation ks x y) s j.means
              (B.good-has G Any (pair_relation_dom size_terms ms es d c) v) (out || false) ns ts l is i bs p f o st a t));
        }
    met-all (repr ReprKind.PartitionAsSet (more_reprs r no_reprs)) (partition_dom ms es d) (partitions ks x) k h g =
        let j : Has r (part_set_dom size_terms ms es d) (child_parts ks x) = parts-known env0 q q-apart r ms es d ks x k in
        let s : StructureOf env0 q q-apart size_terms r (part_set_dom size_terms ms es d) (child_parts ks x) = of r
        (part_set_dom size_terms ms es d) (child_parts ks x) h.3 in
        let v : B.Good G Any (part_set_dom size_terms ms es d) = B.part-set-good q G Any bt ms es d g in
        let m : Met env0 q q-apart r (part_set_dom size_terms ms es d) (child_parts ks x) = met-all r (part_set_dom size_terms ms es d)
        (child_parts ks x) j h.3 v in record {
          met = λ out ns ts l is i bs p c o st a.
              let f = subst (λ l. Fit l (behind i (cells_of ts))) (plain (declarations_below (out || false) r (child_parts ks x))) c in
              and-met _ _ (N bs) (m.met (out || false) ns ts l is i bs p f o st a)
              (λ t. K.parts-met env0 q q-apart l ms d _ bs (B.good-has G Any d g.1)
              (M'.view-met env0 q q-apart r (part_set_dom size_terms ms es d) (child_parts ks x) s j.means
              (B.good-has G Any (part_set_dom size_terms ms es d) v) (out || false) ns ts l is i bs p f o st a t));
        }
    met-all (repr ReprKind.PartitionOccurrence no_reprs) (partition_dom ms es d) (partitions ks x) k h g =
        numbers-met env0 q q-apart ms es d ks x h.0.0 h.0.1 h.1 h.2 g
    met-all _ d e k h g = absurd h

    -- The same of components.
    pub each-met-all : (rs : Reprs) (ds : Doms) (es : Domains) → AllKnown env0 q q-apart rs ds es → AllReady env0 q q-apart size_terms rs ds
        (domain_list es) → B.AllGood G Any ds →
        EachMet env0 q q-apart rs ds (domain_list es)
    each-met-all no_reprs no_doms no_domains k h g = none-met env0 q q-apart no_reprs no_doms [] (λ ns l is bs. record { met = tt })
    each-met-all (more_reprs r rs) (more_doms d ds) (more_domains e es) k h g =
        more-met env0 q q-apart r rs d ds e (domain_list es) (of r d e h.0) (met-all r d e (record {
          sound = k.sound.0;
          fit = and-left (fits r d) (all_fit rs (dom_list ds)) k.fit;
          room = k.room.0;
          neat = k.neat.0;
          plain = and-left (no_negative_attribute e) (each_layer_of_all not_below es) k.plain;
          means = λ bs. let p = first-of d ds (N bs) e es (k.means bs) in p.0;
          numbers = λ bs. let n = k.numbers bs in n.0;
        }) h.0 g.0) (each-met-all rs ds es (record {
          sound = k.sound.1;
          fit = and-right (fits r d) (all_fit rs (dom_list ds)) k.fit;
          room = k.room.1;
          neat = k.neat.1;
          plain = and-right (no_negative_attribute e) (each_layer_of_all not_below es) k.plain;
          means = λ bs. let p = first-of d ds (N bs) e es (k.means bs) in p.1;
          numbers = λ bs. let n = k.numbers bs in n.1;
        }) h.1 g.1)
    each-met-all no_reprs (more_doms d ds) es k h g = absurd h
    each-met-all no_reprs no_doms (more_domains e es) k h g = absurd h
    each-met-all (more_reprs r rs) no_doms es k h g = absurd h
    each-met-all (more_reprs r rs) (more_doms d ds) no_domains k h g = absurd h
