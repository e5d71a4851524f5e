-- The axes of a view's tables have a property that the numbers of its domain have.
use Rattle.std.proofs.Common.{ℕ, List, [], ◌∷◌, ◌++◌, map, take, drop}
use Rattle.ess_semantics.specs.declared.words.ReprKind.{ReprKind}
use Rattle.ess_semantics.specs.Values.{Text}
use Rattle.ess_semantics.specs.Kinds.{dom_list}
use Rattle.ess_semantics.specs.Representations.{width}
use Rattle.ess_semantics.specs.Trees.{Mark, Repr, Reprs, repr, no_reprs, more_reprs, Ex, Exs, Dom, Doms, tuple_dom, record_dom, matrix_dom, set_dom, mset_dom, function_dom, relation_dom, partition_dom, more_doms}
use Rattle.ess_repr_laws.specs.StructureParts.{Shape, upto, on_axes, tuple_set_dom}
use Rattle.ess_repr_laws.specs.ViewParts.{pair_relation_dom, part_set_dom}
use Rattle.ess_repr_laws.specs.Structure.{shapes, shapes_of_each}
use Rattle.ess_repr_declare_laws.specs.SizeTerms.{slots_ex, size_terms}
use Rattle.ess_repr_structure_laws.proofs.BuiltStructures as B
use Rattle.ess_repr_structure_laws.proofs.BuiltStructures.{SizedBy}

-- The axes of tables have the property.
abbrev pub AxesHave : (Ex → Type 0) → List Shape → Type 0
AxesHave P [] = Unit {0}
AxesHave P (s ∷ ss) = B.ListHas P s.axes × AxesHave P ss

module _ (q : ℕ → Text) (P : Ex → Type 0) (L : Dom → Type 0) (S : SizedBy P L) where
  -- Tables with further axes in front.
  on-axes : (as' : List Dom) (ss : List Shape) → B.ListHas P as' → AxesHave P ss → AxesHave P (map (on_axes as') ss)
  on-axes as' [] a x = tt
  on-axes as' (s ∷ ss) a x = (B.lists-have P as' s.axes a x.0, on-axes as' ss a x.1)

  both-shapes : (ss ts : List Shape) → AxesHave P ss → AxesHave P ts → AxesHave P (ss ++ ts)
  both-shapes [] ts x y = y
  both-shapes (s ∷ ss) ts x y = (x.0, both-shapes ss ts x.1 y)

  -- The numbers of slots.
  set-slots : (ms : List Mark) (es : Exs) (d : Dom) → B.Good P L (set_dom ms es d) → B.ListHas P (upto (slots_ex (set_dom ms es d)) ∷ [])
  set-slots ms es d g = ((S.one, (B.set-slots P L S ms es d g, tt)), tt)

  mset-slots : (ms : List Mark) (es : Exs) (d : Dom) → B.Good P L (mset_dom ms es d) → B.ListHas P (upto (slots_ex (mset_dom ms es d)) ∷ [])
  mset-slots ms es d g = ((S.one, (B.mset-slots P L S ms es d g, tt)), tt)

  -- A single axis.
  pub one-domain : (d : Dom) → B.Good P L d → B.ListHas P (d ∷ [])
  one-domain d g = (B.good-has P L d g, tt)

  mutual
    pub shapes-have : (r : Repr) (d : Dom) (ns : List Text) → B.Good P L d → AxesHave P (shapes q size_terms r d ns)
    shapes-have (repr ReprKind.Atom no_reprs) d ns g = (tt, tt)
    shapes-have (repr ReprKind.Tuple rs) (tuple_dom ds) ns g = all-shapes-have rs ds ns g
    shapes-have (repr ReprKind.Rec rs) (record_dom fs ds) ns g = all-shapes-have rs ds ns g
    shapes-have (repr ReprKind.Matrix (more_reprs r no_reprs)) (matrix_dom is d) ns g = on-axes (dom_list is) _ (B.list-has P L is g.0)
        (shapes-have r d ns g.1)
    shapes-have (repr ReprKind.Occurrence no_reprs) (set_dom ms es d) ns g = (one-domain d g.1, tt)
    shapes-have (repr ReprKind.Explicit (more_reprs r no_reprs)) (set_dom ms es d) ns g = on-axes (upto (slots_ex (set_dom ms es d)) ∷ []) _
        (set-slots ms es d g) (shapes-have r d ns g.1)
    shapes-have (repr ReprKind.ExplicitVarSizeWithMarker (more_reprs r no_reprs)) (set_dom ms es d) ns g =
        (tt, on-axes (upto (slots_ex (set_dom ms es d)) ∷ []) _ (set-slots ms es d g) (shapes-have r d (drop 1 ns) g.1))
    shapes-have (repr ReprKind.ExplicitVarSizeWithFlags (more_reprs r no_reprs)) (set_dom ms es d) ns g =
        (set-slots ms es d g, on-axes (upto (slots_ex (set_dom ms es d)) ∷ []) _ (set-slots ms es d g) (shapes-have r d (drop 1 ns) g.1))
    shapes-have (repr ReprKind.Function1D (more_reprs r no_reprs)) (function_dom ms es d c) ns g = on-axes (d ∷ []) _ (one-domain d g.1)
        (shapes-have r c ns g.2)
    shapes-have (repr ReprKind.FunctionND (more_reprs r no_reprs)) (function_dom ms es (tuple_dom ds) c) ns g =
        on-axes (dom_list ds) _ (B.list-has P L ds g.1) (shapes-have r c ns g.2)
    shapes-have (repr ReprKind.RelationAsMatrix no_reprs) (relation_dom ms es ds) ns g = (B.list-has P L ds g.1, tt)
    shapes-have (repr ReprKind.Function1DPartial (more_reprs r no_reprs)) (function_dom ms es d c) ns g =
        (one-domain d g.1, on-axes (d ∷ []) _ (one-domain d g.1) (shapes-have r c (drop 1 ns) g.2))
    shapes-have (repr ReprKind.FunctionNDPartial (more_reprs r no_reprs)) (function_dom ms es (tuple_dom ds) c) ns g =
        (B.list-has P L ds g.1, on-axes (dom_list ds) _ (B.list-has P L ds g.1) (shapes-have r c (drop 1 ns) g.2))
    shapes-have (repr ReprKind.MSetOccurrence no_reprs) (mset_dom ms es d) ns g = (one-domain d g.2, tt)
    shapes-have (repr ReprKind.MSetExplicitWithFlags (more_reprs r no_reprs)) (mset_dom ms es d) ns g =
        (mset-slots ms es d g, on-axes (upto (slots_ex (mset_dom ms es d)) ∷ []) _ (mset-slots ms es d g) (shapes-have r d (drop 1 ns) g.2))
    shapes-have (repr ReprKind.MSetExplicitWithRepetition (more_reprs r no_reprs)) (mset_dom ms es d) ns g =
        (tt, on-axes (upto (slots_ex (mset_dom ms es d)) ∷ []) _ (mset-slots ms es d g) (shapes-have r d (drop 1 ns) g.2))
    shapes-have (repr ReprKind.ExplicitVarSizeWithDummy no_reprs) (set_dom ms es d) ns g = (set-slots ms es d g, tt)
    shapes-have (repr ReprKind.RelationAsSet (more_reprs r no_reprs)) (relation_dom ms es ds) ns g =
        shapes-have r (tuple_set_dom ms es ds) ns (B.tuples-good P L S ms es ds g)
    shapes-have (repr ReprKind.FunctionAsRelation (more_reprs r no_reprs)) (function_dom ms es d c) ns g =
        shapes-have r (pair_relation_dom size_terms ms es d c) ns (B.pairs-good P L S ms es d c g)
    shapes-have (repr ReprKind.PartitionAsSet (more_reprs r no_reprs)) (partition_dom ms es d) ns g =
        shapes-have r (part_set_dom size_terms ms es d) ns (B.parts-good P L S ms es d g)
    shapes-have (repr ReprKind.PartitionOccurrence no_reprs) (partition_dom ms es d) ns g = (tt, (one-domain d g.1, tt))
    shapes-have _ d ns g = tt

    all-shapes-have : (rs : Reprs) (ds : Doms) (ns : List Text) → B.AllGood P L ds → AxesHave P (shapes_of_each q size_terms rs ds ns)
    all-shapes-have (more_reprs r rs) (more_doms d ds) ns g =
        both-shapes _ _ (shapes-have r d (take (width r) ns) g.0) (all-shapes-have rs ds (drop (width r) ns) g.1)
    all-shapes-have _ _ ns g = tt
