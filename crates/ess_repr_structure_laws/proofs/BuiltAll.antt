-- Structures are built of what has a property: by induction over the representation.
use Rattle.std.proofs.Common.{refl, ℕ, suc, Bool, true, false, List, [], ◌∷◌, map, take, drop, pos, if◌then◌else◌}
use Rattle.ess_semantics.specs.declared.words.Op2.{Op2}
use Rattle.ess_semantics.specs.declared.words.Key.{Key}
use Rattle.ess_semantics.specs.declared.words.ReprKind.{ReprKind}
use Rattle.ess_semantics.specs.Values.{Text}
use Rattle.ess_semantics.specs.Meaning.{is_bool_dom}
use Rattle.ess_semantics.specs.Kinds.{dom_list}
use Rattle.ess_semantics.specs.Representations.{width}
use Rattle.ess_semantics.specs.Trees.{Mark, Ends, one_value, both_ends, low_end, high_end, Repr, Reprs, repr, no_reprs, more_reprs, Ex, Exs, number_ex, name_ex, cell_ex, seen_ex, no_exs, more_exs, Dom, Doms, int_dom, name_dom, tuple_dom, record_dom, matrix_dom, set_dom, mset_dom, function_dom, relation_dom, partition_dom, more_doms, ex2}
use Rattle.ess_repr_laws.specs.StructureParts.{Shape, add_ex, or_ex, le_ex, upto, row_index, level_behind, on_axes, own_shape, first_name, tuple_set_dom}
use Rattle.ess_repr_laws.specs.ViewParts.{view_ex, pair_relation_dom, part_set_dom, shape_names, pair_key_ex, pairs_ex, parts_ex}
use Rattle.ess_repr_laws.specs.RelationParts.{bare_relation_dom, relation_key_ex}
use Rattle.ess_repr_laws.specs.FunctionParts.{bare_function_dom}
use Rattle.ess_repr_laws.specs.MultisetParts.{bare_mset_dom, occurs_ex}
use Rattle.ess_repr_laws.specs.PartitionParts.{bare_partition_dom}
use Rattle.ess_repr_laws.specs.Structure.{shapes, structure, structure_of_each}
use Rattle.ess_repr_declare_laws.specs.SizeTerms.{is_missing, slots_ex, dummy_ex, in_ranges_ex, inside_ex, listed_ex, size_terms}
use Rattle.ess_repr_structure_laws.proofs.BuiltStructures as B
use Rattle.ess_repr_structure_laws.proofs.BuiltStructures.{SizedBy, BuiltOf, two-have}
use Rattle.ess_repr_structure_laws.proofs.BuiltShapes as S
use Rattle.ess_repr_structure_laws.proofs.BuiltParts as C
use Rattle.ess_repr_structure_laws.proofs.BuiltSets as D
use Rattle.ess_repr_structure_laws.proofs.BuiltItems as W
use Rattle.ess_repr_structure_laws.proofs.BuiltItems.{part_attributes_ex}
use Rattle.ess_repr_structure_laws.proofs.BuiltViews as V

module _ (q : ℕ → Text) (P : Ex → Type 0) (L : Dom → Type 0) {F : Type 0} (built : BuiltOf q P L F (Unit {0})) where
  abbrev AllHave : Exs → Type 0
  AllHave = B.AllHave P

  abbrev DomHas : Dom → Type 0
  DomHas = B.DomHas P

  abbrev ListHas : List Dom → Type 0
  ListHas = B.ListHas P

  abbrev Good : Dom → Type 0
  Good = B.Good P L

  abbrev AllGood : Doms → Type 0
  AllGood = B.AllGood P L

  abbrev ShapesHave : List Shape → Type 0
  ShapesHave = C.ShapesHave q P L built

  -- ---- what is taken from domains

  or-has : (a b : Ex) → P a → P b → P (or_ex a b)
  or-has = C.or-has q P L built

  le-has : (a b : Ex) → P a → P b → P (le_ex a b)
  le-has = C.le-has q P L built

  ranges-have : (rs : List Ends) (es : Exs) (x : Ex) → AllHave es → P x → P (in_ranges_ex rs es x)
  ranges-have (one_value ∷ rs) (more_exs a es) x h p = or-has _ _ (C.eq-has q P L built x a p h.0) (ranges-have rs es x h.1 p)
  ranges-have (both_ends ∷ rs) (more_exs a (more_exs b es)) x h p =
      or-has _ _ (C.and-has q P L built _ _ (le-has a x h.0 p) (le-has x b p h.1.0)) (ranges-have rs es x h.1.1 p)
  ranges-have (low_end ∷ rs) (more_exs a es) x h p = or-has _ _ (le-has a x h.0 p) (ranges-have rs es x h.1 p)
  ranges-have (high_end ∷ rs) (more_exs b es) x h p = or-has _ _ (le-has x b p h.0) (ranges-have rs es x h.1 p)
  ranges-have _ es x h p = built.truths false

  -- That a number lies in an atom.
  pub inside-has : (d : Dom) (x : Ex) → Good d → P x → P (inside_ex d x)
  inside-has (int_dom (r ∷ rs) es) x g p = ranges-have (r ∷ rs) es x g.1 p
  inside-has (name_dom a) x g p = C.and-has q P L built _ _ (le-has (number_ex (pos 1)) x built.one p)
      (le-has x (listed_ex (name_dom a)) p (built.listed a g))
  inside-has _ x g p = built.truths true

  bound-or-has : (b : Bool) (e : Ex) → P e → P (if b then number_ex (pos 0) else e)
  bound-or-has true e h = built.zero
  bound-or-has false e h = h

  next-has : (e : Ex) → P e → P (ex2 false Op2.Plus e (number_ex (pos 1)))
  next-has e h = two-have q P L built false Op2.Plus e (number_ex (pos 1)) refl h built.one

  -- The dummy of an atom.
  pub dummy-has : (d : Dom) → Good d → P (dummy_ex d)
  dummy-has (int_dom (both_ends ∷ []) (more_exs a (more_exs b no_exs))) g = next-has _ (bound-or-has (is_missing b) b g.1.1.0)
  dummy-has (name_dom a) g = next-has _ (built.listed a g)
  dummy-has _ g = built.zero

  -- ---- tables

  -- A single axis.
  pub one-domain : (d : Dom) → Good d → ListHas (d ∷ [])
  one-domain d g = (B.good-has P L d g, tt)

  -- The axes of tables have the property.
  pub shapes-have : (r : Repr) (d : Dom) (ns : List Text) → Good d → ShapesHave (shapes q size_terms r d ns)
  shapes-have = S.shapes-have q P L (B.sized q P L built)

-- What structures say of the items of a view is built of what has a property P, where the numbers of its domain have A, and I holds of its
-- index list: at each level, which says from where on names are free.
module _ (q : ℕ → Text) (P A : Ex → Type 0) (L M : Dom → Type 0) (I : ℕ → Exs → Type 0) where
  pub record SaysOf : Type 0 where
    pub have : (l : ℕ) (is : Exs) → I l is → B.AllHave P is
    pub named : (l : ℕ) (is : Exs) → I l is → I (suc l) (add_ex is (name_ex (q l)))
    pub more : (d : Dom) → B.Good A M d → B.Good P L d
    pub sizes : SizedBy A M
    pub pair-keys : (l : ℕ) (r : Repr) (d : Dom) (ns : List Text) (is : Exs) (c : Dom) (k : Key) → B.DomHas A d → I l is → B.DomHas A c →
        P (pair_key_ex q l c (seen_ex r d ns is) k)
    pub relation-keys : (l : ℕ) (r : Repr) (d : Dom) (ns : List Text) (is : Exs) (ds : Doms) (k : Key) → B.DomHas A d → I l is →
        B.DomsHave A ds → P (relation_key_ex q l ds (seen_ex r d ns is) k)
    pub pairs : (l : ℕ) (r : Repr) (d : Dom) (ns : List Text) (is : Exs) (ms : List Mark) (es : Exs) (a c : Dom) → B.DomHas A d → I l is →
        B.AllHave A es → B.DomHas A c → P (pairs_ex q l ms es a c (seen_ex r d ns is))
    pub parts : (l : ℕ) (r : Repr) (d : Dom) (ns : List Text) (is : Exs) (ms : List Mark) (a : Dom) → B.DomHas A d → I l is →
        B.DomHas A a → P (parts_ex q l ms a (seen_ex r d ns is))
    pub occurs : (l : ℕ) (r : Repr) (d : Dom) (ns : List Text) (is : Exs) (ms : List Mark) (es : Exs) → B.DomHas A d → I l is →
        B.AllHave A es → P (occurs_ex q l (seen_ex r d ns is) ms es)
    pub numbered : (l : ℕ) (r : Repr) (d : Dom) (ns : List Text) (is : Exs) (n : Text) (ks : List Mark) (ms : Exs) → B.DomHas A d → I l is →
        B.AllHave A ms → P (part_attributes_ex q l ks ms (cell_ex false n is) (seen_ex r d ns is))

module _ (q : ℕ → Text) (P A : Ex → Type 0) (L M : Dom → Type 0) (I : ℕ → Exs → Type 0) {F : Type 0} (built : BuiltOf q P L F (Unit {0}))
    (says : SaysOf q P A L M I) where
  -- ---- structures

  -- Behind the names of axes.
  row-named : (l : ℕ) (as' : List Dom) (is : Exs) → I l is → I (level_behind l as') (row_index q l as' is)
  row-named l [] is i = i
  row-named l (d ∷ as') is i = row-named (suc l) as' (add_ex is (name_ex (q l))) (says.named l is i)

  mutual
    -- The constraint that the cells of a view of a good domain are canonical has the property.
    pub structure-by : (r : Repr) (d : Dom) (ns : List Text) (l : ℕ) (is : Exs) → B.Good A M d → I l is → P
        (structure q size_terms r d ns l is)
    structure-by (repr ReprKind.Atom no_reprs) d ns l is w i =
        let g : B.Good P L d = says.more d w in
        let a : B.AllHave P is = says.have l is i in
        inside-has q P L built d _ g
        (C.cell-in q P L built (is_bool_dom d) (first_name ns) is a)
    structure-by (repr ReprKind.Tuple rs) (tuple_dom ds) ns l is w i = all-structures-by rs ds ns l is w i
    structure-by (repr ReprKind.Rec rs) (record_dom fs ds) ns l is w i = all-structures-by rs ds ns l is w i
    structure-by (repr ReprKind.Matrix (more_reprs r no_reprs)) (matrix_dom is d) ns l js w i =
        let g : B.Good P L (matrix_dom is d) = says.more (matrix_dom is d) w in
        let a : B.AllHave P js = says.have l js i in
        C.each-has q P L built l (dom_list is) _ (B.list-has P L is g.0)
        (structure-by r d ns (level_behind l (dom_list is)) (row_index q l (dom_list is) js) w.1
        (row-named l (dom_list is) js i))
    structure-by (repr ReprKind.Occurrence no_reprs) (set_dom ms es d) ns l is w i =
        let g : B.Good P L (set_dom ms es d) = says.more (set_dom ms es d) w in
        let a : B.AllHave P is = says.have l is i in
        D.occurrence-has q P L built l ms es d (first_name ns) is g.0 (B.good-has P L d g.1) a
    structure-by (repr ReprKind.Explicit (more_reprs r no_reprs)) (set_dom ms es d) ns l is w i =
        let g : B.Good P L (set_dom ms es d) = says.more (set_dom ms es d) w in
        let a : B.AllHave P is = says.have l is i in
        D.explicit-has q P L built l ms es _ _ is _ g.0 (B.set-slots-have q P L built ms es d g) (shapes-have q P L built r d ns g.1) a
        (structure-by r d ns (suc l) (add_ex is (name_ex (q l))) w.1 (says.named l is i))
    structure-by (repr ReprKind.ExplicitVarSizeWithMarker (more_reprs r no_reprs)) (set_dom ms es d) ns l is w i =
        let g : B.Good P L (set_dom ms es d) = says.more (set_dom ms es d) w in
        let a : B.AllHave P is = says.have l is i in
        D.marker-has q P L built l ms es _ (first_name ns) _ is _ g.0 (B.set-slots-have q P L built ms es d g)
        (shapes-have q P L built r d (drop 1 ns) g.1) a
        (structure-by r d (drop 1 ns) (suc l) (add_ex is (name_ex (q l))) w.1 (says.named l is i))
    structure-by (repr ReprKind.ExplicitVarSizeWithFlags (more_reprs r no_reprs)) (set_dom ms es d) ns l is w i =
        let g : B.Good P L (set_dom ms es d) = says.more (set_dom ms es d) w in
        let a : B.AllHave P is = says.have l is i in
        D.flags-have q P L built l ms es _ (first_name ns) _ is _ g.0 (B.set-slots-have q P L built ms es d g)
        (shapes-have q P L built r d (drop 1 ns) g.1) a
        (structure-by r d (drop 1 ns) (suc l) (add_ex is (name_ex (q l))) w.1 (says.named l is i))
    structure-by (repr ReprKind.Function1D (more_reprs r no_reprs)) (function_dom ms es d c) ns l is w i =
        let g : B.Good P L (function_dom ms es d c) = says.more (function_dom ms es d c) w in
        let a : B.AllHave P is = says.have l is i in
        let x : B.DomHas A d = B.good-has A M d w.1 in
        let y : B.DomHas A c = B.good-has A M c w.2 in
        V.total-has q P L built l ms es (d ∷ []) (shapes q size_terms r c ns) is r c _ _ g.0 (one-domain q P L built d g.1) a
        (λ k. says.pair-keys l (repr ReprKind.Function1D (more_reprs r no_reprs)) (bare_function_dom d c)
        (shape_names (map (on_axes (d ∷ [])) (shapes q size_terms r c ns))) is c k (tt, x, y) i y)
        (structure-by r c ns (suc l) (add_ex is (name_ex (q l))) w.2 (says.named l is i))
    structure-by (repr ReprKind.FunctionND (more_reprs r no_reprs)) (function_dom ms es (tuple_dom ds) c) ns l is w i =
        let g : B.Good P L (function_dom ms es (tuple_dom ds) c) = says.more (function_dom ms es (tuple_dom ds) c) w in
        let a : B.AllHave P is = says.have l is i in
        let x : B.DomHas A (tuple_dom ds) = B.all-good-have A M ds w.1 in
        let y : B.DomHas A c = B.good-has A M c w.2 in
        V.total-has q P L built l ms es (dom_list ds) (shapes q size_terms r c ns) is r c _ _ g.0 (B.list-has P L ds g.1) a
        (λ k. says.pair-keys l (repr ReprKind.FunctionND (more_reprs r no_reprs)) (bare_function_dom (tuple_dom ds) c)
        (shape_names (map (on_axes (dom_list ds)) (shapes q size_terms r c ns))) is c k (tt, x, y) i y)
        (structure-by r c ns (level_behind l (dom_list ds)) (row_index q l (dom_list ds) is) w.2
        (row-named l (dom_list ds) is i))
    structure-by (repr ReprKind.RelationAsMatrix no_reprs) (relation_dom ms es ds) ns l is w i =
        let g : B.Good P L (relation_dom ms es ds) = says.more (relation_dom ms es ds) w in
        let a : B.AllHave P is = says.have l is i in
        let x : B.DomsHave A ds = B.all-good-have A M ds w.1 in
        V.relation-has q P L built l ms es ds (dom_list ds) (first_name ns) is _ g.0 (B.list-has P L ds g.1) a
        (λ k. says.relation-keys l (repr ReprKind.RelationAsMatrix no_reprs) (bare_relation_dom ds)
        (shape_names (own_shape ns true (dom_list ds) ∷ [])) is ds k (tt, x) i x)
    structure-by (repr ReprKind.Function1DPartial (more_reprs r no_reprs)) (function_dom ms es d c) ns l is w i =
        let g : B.Good P L (function_dom ms es d c) = says.more (function_dom ms es d c) w in
        let a : B.AllHave P is = says.have l is i in
        let x : B.DomHas A d = B.good-has A M d w.1 in
        let y : B.DomHas A c = B.good-has A M c w.2 in
        V.partial-has q P L built l ms es (d ∷ []) (first_name ns) is (shapes q size_terms r c (drop 1 ns)) c _ _ g.0
        (one-domain q P L built d g.1) a (shapes-have q P L built r c (drop 1 ns) g.2)
        (λ k. says.pair-keys l (repr ReprKind.Function1DPartial (more_reprs r no_reprs)) (bare_function_dom d c)
        (shape_names (own_shape ns true (d ∷ []) ∷ map (on_axes (d ∷ [])) (shapes q size_terms r c (drop 1 ns)))) is c k (tt, x, y) i y)
        (structure-by r c (drop 1 ns) (suc l) (add_ex is (name_ex (q l))) w.2 (says.named l is i))
    structure-by (repr ReprKind.FunctionNDPartial (more_reprs r no_reprs)) (function_dom ms es (tuple_dom ds) c) ns l is w i =
        let g : B.Good P L (function_dom ms es (tuple_dom ds) c) = says.more (function_dom ms es (tuple_dom ds) c) w in
        let a : B.AllHave P is = says.have l is i in
        let x : B.DomHas A (tuple_dom ds) = B.all-good-have A M ds w.1 in
        let y : B.DomHas A c = B.good-has A M c w.2 in
        V.partial-has q P L built l ms es (dom_list ds) (first_name ns) is (shapes q size_terms r c (drop 1 ns)) c _ _ g.0
        (B.list-has P L ds g.1) a (shapes-have q P L built r c (drop 1 ns) g.2)
        (λ k. says.pair-keys l (repr ReprKind.FunctionNDPartial (more_reprs r no_reprs)) (bare_function_dom (tuple_dom ds) c)
        (shape_names (own_shape ns true (dom_list ds) ∷ map (on_axes (dom_list ds)) (shapes q size_terms r c (drop 1 ns)))) is c k
        (tt, x, y) i y)
        (structure-by r c (drop 1 ns) (level_behind l (dom_list ds)) (row_index q l (dom_list ds) is) w.2
        (row-named l (dom_list ds) is i))
    structure-by (repr ReprKind.MSetOccurrence no_reprs) (mset_dom ms es d) ns l is w i =
        let g : B.Good P L (mset_dom ms es d) = says.more (mset_dom ms es d) w in
        let a : B.AllHave P is = says.have l is i in
        C.counts-have q P L built l ms es (d ∷ []) (first_name ns) is g.1 (one-domain q P L built d g.2) a
    structure-by (repr ReprKind.MSetExplicitWithFlags (more_reprs r no_reprs)) (mset_dom ms es d) ns l is w i =
        let g : B.Good P L (mset_dom ms es d) = says.more (mset_dom ms es d) w in
        let a : B.AllHave P is = says.have l is i in
        D.counted-has q P L built l ms es _ (first_name ns) _ is _ g.1 (B.mset-slots-have q P L built ms es d g)
        (shapes-have q P L built r d (drop 1 ns) g.2) a
        (structure-by r d (drop 1 ns) (suc l) (add_ex is (name_ex (q l))) w.2 (says.named l is i))
    structure-by (repr ReprKind.MSetExplicitWithRepetition (more_reprs r no_reprs)) (mset_dom ms es d) ns l is w i =
        let g : B.Good P L (mset_dom ms es d) = says.more (mset_dom ms es d) w in
        let a : B.AllHave P is = says.have l is i in
        let s : P (slots_ex (mset_dom ms es d)) = B.mset-slots-have q P L built ms es d g in
        let c : P (cell_ex false (first_name ns) is) = C.cell-in q P L built false (first_name ns) is a in
        C.and-has q P L built _ _
        (D.repetition-use-has q P L built l _ (first_name ns) _ is _ s (shapes-have q P L built r d (drop 1 ns) g.2) a
        (structure-by r d (drop 1 ns) (suc l) (add_ex is (name_ex (q l))) w.2 (says.named l is i)))
        (C.and-has q P L built _ _ (C.size-has q P L built ms es (cell_ex false (first_name ns) is) g.1 c)
        (says.occurs l (repr ReprKind.MSetExplicitWithRepetition (more_reprs r no_reprs)) (bare_mset_dom (slots_ex (mset_dom ms es d)) d)
        (shape_names (own_shape ns false [] ∷ map (on_axes (upto (slots_ex (mset_dom ms es d)) ∷ []))
        (shapes q size_terms r d (drop 1 ns)))) is ms es ((B.mset-slots A M says.sizes ms es d w, tt), B.good-has A M d w.2) i w.1))
    structure-by (repr ReprKind.ExplicitVarSizeWithDummy no_reprs) (set_dom ms es d) ns l is w i =
        let g : B.Good P L (set_dom ms es d) = says.more (set_dom ms es d) w in
        let a : B.AllHave P is = says.have l is i in
        D.dummy-has q P L built l ms es _ _ (inside_ex d) (first_name ns) is g.0 (B.set-slots-have q P L built ms es d g)
        (dummy-has q P L built d g.1) (λ x p. inside-has q P L built d x g.1 p) a
    structure-by (repr ReprKind.RelationAsSet (more_reprs r no_reprs)) (relation_dom ms es ds) ns l is w i =
        let g : B.Good P L (relation_dom ms es ds) = says.more (relation_dom ms es ds) w in
        let a : B.AllHave P is = says.have l is i in
        let h : B.Good A M (tuple_set_dom ms es ds) = B.tuples-good A M says.sizes ms es ds w in
        C.and-has q P L built _ _ (structure-by r (tuple_set_dom ms es ds) ns l is h i)
        (C.keys-have q P L built (relation_key_ex q l ds
        (view_ex r (tuple_set_dom ms es ds) (shapes q size_terms r (tuple_set_dom ms es ds) ns) is)) ms
        (λ k. says.relation-keys l r (tuple_set_dom ms es ds) (shape_names (shapes q size_terms r (tuple_set_dom ms es ds) ns)) is ds k
        (B.good-has A M (tuple_set_dom ms es ds) h) i (B.all-good-have A M ds w.1)))
    structure-by (repr ReprKind.FunctionAsRelation (more_reprs r no_reprs)) (function_dom ms es d c) ns l is w i =
        let g : B.Good P L (function_dom ms es d c) = says.more (function_dom ms es d c) w in
        let a : B.AllHave P is = says.have l is i in
        let h : B.Good A M (pair_relation_dom size_terms ms es d c) = B.pairs-good A M says.sizes ms es d c w in
        C.and-has q P L built _ _ (structure-by r (pair_relation_dom size_terms ms es d c) ns l is h i)
        (says.pairs l r (pair_relation_dom size_terms ms es d c)
        (shape_names (shapes q size_terms r (pair_relation_dom size_terms ms es d c) ns)) is ms es d c
        (B.good-has A M (pair_relation_dom size_terms ms es d c) h) i w.0 (B.good-has A M c w.2))
    structure-by (repr ReprKind.PartitionAsSet (more_reprs r no_reprs)) (partition_dom ms es d) ns l is w i =
        let g : B.Good P L (partition_dom ms es d) = says.more (partition_dom ms es d) w in
        let a : B.AllHave P is = says.have l is i in
        let h : B.Good A M (part_set_dom size_terms ms es d) = B.parts-good A M says.sizes ms es d w in
        C.and-has q P L built _ _ (structure-by r (part_set_dom size_terms ms es d) ns l is h i)
        (says.parts l r (part_set_dom size_terms ms es d) (shape_names (shapes q size_terms r (part_set_dom size_terms ms es d) ns)) is ms d
        (B.good-has A M (part_set_dom size_terms ms es d) h) i (B.good-has A M d w.1))
    structure-by (repr ReprKind.PartitionOccurrence no_reprs) (partition_dom ms es d) ns l is w i =
        let g : B.Good P L (partition_dom ms es d) = says.more (partition_dom ms es d) w in
        let a : B.AllHave P is = says.have l is i in
        V.numbered-has q P L built l ms es d (cell_ex false (first_name ns) is) (first_name (drop 1 ns)) is _ (B.good-has P L d g.1)
        (C.cell-in q P L built false (first_name ns) is a) a
        (says.numbered l (repr ReprKind.PartitionOccurrence no_reprs) (bare_partition_dom d)
        (shape_names (own_shape ns false [] ∷ own_shape (drop 1 ns) false (d ∷ []) ∷ [])) is (first_name ns) ms es
        (tt, B.good-has A M d w.1) i w.0)
    structure-by _ d ns l is w i = built.truths false

    -- The same of components.
    pub all-structures-by : (rs : Reprs) (ds : Doms) (ns : List Text) (l : ℕ) (is : Exs) → B.AllGood A M ds → I l is → P
        (structure_of_each q size_terms rs ds ns l is)
    all-structures-by (more_reprs r rs) (more_doms d ds) ns l is w i =
        C.and-has q P L built _ _ (structure-by r d (take (width r) ns) l is w.0 i)
        (all-structures-by rs ds (drop (width r) ns) l is w.1 i)
    all-structures-by _ _ ns l is w i = built.truths true

module _ (q : ℕ → Text) (P : Ex → Type 0) (L : Dom → Type 0) (built : BuiltOf q P L (Unit {0}) (Unit {0}))
    (views : (r : Repr) (d : Dom) (ns : List Text) (es : Exs) → B.DomHas P d → B.AllHave P es → P (seen_ex r d ns es)) where
  -- What is said of items has it, where views have.
  says-all : SaysOf q P P L L (λ l is. B.AllHave P is)
  says-all = record {
    have = λ l is a. a;
    named = λ l is a. C.name-added q P L built l is a;
    more = λ d g. g;
    sizes = B.sized q P L built;
    pair-keys = λ l r d ns is c k g a h. W.pair-key-has q P L built l c _ k h (views r d ns is g a);
    relation-keys = λ l r d ns is ds k g a h. W.relation-key-has q P L built l ds _ k h (views r d ns is g a);
    pairs = λ l r d ns is ms es b c g a h x. W.pairs-have q P L built l ms es b c _ h x (views r d ns is g a);
    parts = λ l r d ns is ms b g a h. W.parts-have q P L built l ms b _ h (views r d ns is g a);
    occurs = λ l r d ns is ms es g a h. W.occurs-have q P L built l _ ms es (views r d ns is g a) h;
    numbered = λ l r d ns is n ks ms g a h. W.part-attributes-have q P L built l ks ms (cell_ex false n is) _ h
        (C.cell-in q P L built false n is a) (views r d ns is g a);
  }

  -- The constraint that the cells of a view of a good domain are canonical has it.
  pub structure-has : (r : Repr) (d : Dom) (ns : List Text) (l : ℕ) (is : Exs) → B.Good P L d → B.AllHave P is → P
      (structure q size_terms r d ns l is)
  structure-has = structure-by q P P L L (λ l is. B.AllHave P is) built says-all
