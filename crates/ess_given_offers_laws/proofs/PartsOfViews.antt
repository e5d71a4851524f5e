-- What a view offers has what is wanted of the parts of a tree, where the view has it.
use Rattle.std.proofs.Common.{◌≡◌, refl, Bool, true, false, if◌then◌else◌, List, [], ◌∷◌, Option, Some, None, option_map}
use Rattle.std.specs.Prelude.{IsTrue}
use Rattle.ess_semantics.specs.declared.words.ReprKind.{ReprKind}
use Rattle.ess_semantics.specs.declared.words.Fun.{Fun}
use Rattle.ess_semantics.specs.Values.{Text}
use Rattle.ess_semantics.specs.Trees.{Mark, Repr, repr, no_reprs, more_reprs, Ex, Exs, name_ex, seen_ex, fun1, no_gens, Dom, tuple_dom, matrix_dom, set_dom, mset_dom, function_dom, relation_dom, partition_dom, more_doms}
use Rattle.ess_rules_laws.specs.Listings.{Alternative, those}
use Rattle.ess_rules_laws.specs.SetListings.{put_last, occurrence_listing}
use Rattle.ess_rules_laws.specs.SlotListings.{explicit_listing, marker_listing, flags_listing}
use Rattle.ess_rules_laws.specs.DummyListings.{dummy_listing}
use Rattle.ess_rules_laws.specs.FunctionViews.{name_exs, Run, by_name, by_names, names_fit, total_pairs, flagged_pairs}
use Rattle.ess_rules_laws.specs.OccurrenceViews.{relation_matrix_listing}
use Rattle.ess_rules_laws.specs.Function1DViews.{function_1d_listing}
use Rattle.ess_rules_laws.specs.Function1DPartialViews.{function_1d_partial_listing}
use Rattle.ess_rules_laws.specs.FunctionNDViews.{function_nd_listing}
use Rattle.ess_rules_laws.specs.FunctionNDPartialViews.{function_nd_partial_listing}
use Rattle.ess_views_laws.specs.ChildViews.{kept_as}
use Rattle.ess_views_laws.specs.MultisetViews.{occurrence_members, repetition_members, counted_members, members_once}
use Rattle.ess_views_laws.specs.PartitionViews.{partition_parts}
use Rattle.ess_kind_rules_laws.specs.ViewListings.{dom_seen, slots_seen, dummy_of_members, occurrences_of, partitioned, names_for, matrix_listing, kept_listing, listing_of, view_listing}
use Rattle.ess_given_laws.specs.PartsHave.{Wanted, PartsHave, AllHave, TablesHave}
use Rattle.ess_given_laws.specs.Given.{is_fixed}
use Rattle.ess_given_laws.proofs.PartsOfFolds.{Answers}
use Rattle.ess_given_offers_laws.specs.Seen.{RunHas, Sees, OverDomains, EachOver, OverView, AlternativeHas}
use Rattle.ess_given_offers_laws.proofs.SeenParts.{set-inner, mset-inner, partition-inner, tuples-inner, first-inner, result-inner, index-inner, slots-inner, seen-slots, members-dummy, how-often, how-many, dom-had, last-has, append-has, names-over, name-runs, names-run, kept-has, behind-has, numbering-has}

module _ (u : Text → Bool) (w : Wanted) (s : Sees w u) where
  abbrev F : Ex → Type 0
  F e = is_fixed u e ≡ true

  abbrev Dm : Dom → Type 0
  Dm d = IsTrue (w.dom d)

  abbrev A : Option Alternative → Type 0
  A o = AlternativeHas w o

  -- ---- listings

  when-list : (c : Bool) (a : Alternative) → A (Some a) → A (if c then Some a else None)
  when-list true a h = h
  when-list false a h = tt

  module _ (x : Text) where
    module _ (v : Ex) (o : OverView w x v) where
      of-kept : PartsHave w v → A (kept_listing x v)
      of-kept h = go (kept_as v) refl (kept-has u w s v h)
        where
          go : (c : Option Ex) → kept_as v ≡ c → Answers w c → A (option_map (λ c. those x c no_gens) c)
          go None q k = tt
          go (Some c) q k = (o.name, (o.draws c q, k, tt))

    of-occurrences : (v : Ex) → OverView w x v → PartsHave w v → A (occurrence_listing x v)
    of-occurrences (seen_ex (repr ReprKind.Occurrence no_reprs) (set_dom ms es d) (t ∷ []) js) o h =
        (o.name, (o.binds refl, set-inner u w s ms es d h.1, ((h.0.0, last-has u w s js (name_ex x) h.2 o.name), tt)))
    of-occurrences _ o h = tt

    of-matrix : (v : Ex) → OverView w x v → PartsHave w v → A (matrix_listing x v)
    of-matrix (seen_ex (repr ReprKind.Matrix (more_reprs r no_reprs)) (matrix_dom (more_doms i is) d) ns js) o h = (
      behind-has u w s r i is d ns (put_last js (name_ex x)) h.0 h.1 (last-has u w s js (name_ex x) h.2 o.name),
      (o.binds refl, index-inner u w s i is d h.1, tt),
    )
    of-matrix _ o h = tt

    of-slots : (n : Ex) → F n → (v : Ex) → OverView w x v → PartsHave w v → A (explicit_listing x n v)
    of-slots n m (seen_ex (repr ReprKind.Explicit (more_reprs r no_reprs)) (set_dom ms es d) ns js) o h =
        ((h.0, set-inner u w s ms es d h.1, last-has u w s js (name_ex x) h.2 o.name), (o.binds refl, slots-inner u w s n m, tt))
    of-slots n m _ o h = tt

    of-marker : (n : Ex) → F n → (v : Ex) → OverView w x v → PartsHave w v → A (marker_listing x n v)
    of-marker n m (seen_ex (repr ReprKind.ExplicitVarSizeWithMarker (more_reprs r no_reprs)) (set_dom ms es d) (t ∷ ns) js) o h = (
      (h.0.1, set-inner u w s ms es d h.1, last-has u w s js (name_ex x) h.2 o.name),
      (o.binds refl, slots-inner u w s n m, ((o.name, ((h.0.0, h.2), tt)), tt)),
    )
    of-marker n m _ o h = tt

    of-flags : (n : Ex) → F n → (v : Ex) → OverView w x v → PartsHave w v → A (flags_listing x n v)
    of-flags n m (seen_ex (repr ReprKind.ExplicitVarSizeWithFlags (more_reprs r no_reprs)) (set_dom ms es d) (t ∷ ns) js) o h = (
      (h.0.1, set-inner u w s ms es d h.1, last-has u w s js (name_ex x) h.2 o.name),
      (o.binds refl, slots-inner u w s n m, ((h.0.0, last-has u w s js (name_ex x) h.2 o.name), tt)),
    )
    of-flags n m _ o h = tt

    of-dummy : (n z : Ex) → F n → PartsHave w z → (v : Ex) → OverView w x v → PartsHave w v → A (dummy_listing x n z v)
    of-dummy n z m k (seen_ex (repr ReprKind.ExplicitVarSizeWithDummy no_reprs) (set_dom ms es d) (t ∷ []) js) o h = (
      (h.0, set-inner u w s ms es d h.1, last-has u w s js (name_ex x) h.2 o.name),
      (o.binds refl, slots-inner u w s n m, (((h.0.0, last-has u w s js (name_ex x) h.2 o.name), (k, tt)), tt)),
    )
    of-dummy n z m k _ o h = tt

    of-repetition : (n : Ex) → F n → (v : Ex) → OverView w x v → PartsHave w v → A (repetition_members x n v)
    of-repetition n m (seen_ex (repr ReprKind.MSetExplicitWithRepetition (more_reprs r no_reprs)) (mset_dom ms es d) (t ∷ ns) js) o h = (
      (h.0.1, mset-inner u w s ms es d h.1, last-has u w s js (name_ex x) h.2 o.name),
      (o.binds refl, slots-inner u w s n m, ((o.name, ((h.0.0, h.2), tt)), tt)),
    )
    of-repetition n m _ o h = tt

    module _ (y : Text) (q : OverDomains w y) where
      of-often : (k : Ex) → F k → (v : Ex) → OverView w x v → PartsHave w v → A (occurrence_members x y k v)
      of-often k j (seen_ex (repr ReprKind.MSetOccurrence no_reprs) (mset_dom ms es d) (t ∷ []) js) o h = (
        o.name,
        (
          o.binds refl,
          mset-inner u w s ms es d h.1,
          (q.1, slots-inner u w s k j, ((q.0, ((h.0.0, last-has u w s js (name_ex x) h.2 o.name), tt)), tt)),
        ),
      )
      of-often k j _ o h = tt

      of-counts : (n k : Ex) → F n → F k → (v : Ex) → OverView w x v → PartsHave w v → A (counted_members x y n k v)
      of-counts n k m j (seen_ex (repr ReprKind.MSetExplicitWithFlags (more_reprs r no_reprs)) (mset_dom ms es d) (t ∷ ns) js) o h = (
        (h.0.1, mset-inner u w s ms es d h.1, last-has u w s js (name_ex x) h.2 o.name),
        (
          o.binds refl,
          slots-inner u w s n m,
          (q.1, slots-inner u w s k j, ((q.0, ((h.0.0, last-has u w s js (name_ex x) h.2 o.name), tt)), tt)),
        ),
      )
      of-counts n k m j _ o h = tt

    of-once : (n : Ex) → F n → (v : Ex) → OverView w x v → PartsHave w v → A (members_once x n v)
    of-once n m (fun1 false Fun.ToSet (seen_ex (repr ReprKind.MSetOccurrence no_reprs) (mset_dom ms es d) (t ∷ []) js)) o h =
        (o.name, (o.binds refl, mset-inner u w s ms es d h.0.1, (((h.0.0.0, last-has u w s js (name_ex x) h.0.2 o.name), (tt, tt)), tt)))
    of-once n m (fun1 false Fun.ToSet
        (seen_ex (repr ReprKind.MSetExplicitWithFlags (more_reprs r no_reprs)) (mset_dom ms es d) (t ∷ ns) js)) o h = (
          (h.0.0.1, mset-inner u w s ms es d h.0.1, last-has u w s js (name_ex x) h.0.2 o.name),
          (o.binds refl, slots-inner u w s n m, (((h.0.0.0, last-has u w s js (name_ex x) h.0.2 o.name), (tt, tt)), tt)),
        )
    of-once n m _ o h = tt

    of-parts : (n : Ex) → F n → (v : Ex) → OverView w x v → PartsHave w v → A (partition_parts x n v)
    of-parts n m (seen_ex (repr ReprKind.PartitionOccurrence no_reprs) (partition_dom ms es d) (c ∷ t ∷ []) js) o h = (
      (numbering-has u w s n m d (partition-inner u w s ms es d h.1) t h.0.1.0 js h.2, (o.name, tt)),
      (o.binds refl, slots-inner u w s n m, ((o.name, ((h.0.0, h.2), tt)), tt)),
    )
    of-parts n m _ o h = tt

    -- ---- functions and relations

    total-has : (r : Run) → RunHas w r → (p : Repr) (ms : List Mark) (es : Exs) (d c : Dom) (ns : List Text) (js : Exs) → TablesHave w ns →
        Dm (function_dom ms es d c) → AllHave w js → A (Some (total_pairs r p d c ns js))
    total-has r k p ms es d c ns js h i j = (
      (k.argument, ((h, result-inner u w s ms es d c i, append-has u w s js r.keys j k.keys), tt)),
      (k.pattern, first-inner u w s ms es d c i, tt),
    )

    flagged-has : (r : Run) → RunHas w r → (p : Repr) (ms : List Mark) (es : Exs) (d c : Dom) (t : Text) (ns : List Text) (js : Exs) →
        IsTrue (w.table t) → TablesHave w ns → Dm (function_dom ms es d c) → AllHave w js → A (Some (flagged_pairs r p d c t ns js))
    flagged-has r k p ms es d c t ns js f h i j = (
      (k.argument, ((h, result-inner u w s ms es d c i, append-has u w s js r.keys j k.keys), tt)),
      (k.pattern, first-inner u w s ms es d c i, ((f, append-has u w s js r.keys j k.keys), tt)),
    )

    of-1d : (v : Ex) → OverView w x v → PartsHave w v → A (function_1d_listing x v)
    of-1d (seen_ex (repr ReprKind.Function1D (more_reprs r no_reprs)) (function_dom ms es d c) ns js) o h =
        total-has (by_name x) (name-runs u w s x (o.name, o.binds refl)) r ms es d c ns js h.0 h.1 h.2
    of-1d _ o h = tt

    of-1d-partial : (v : Ex) → OverView w x v → PartsHave w v → A (function_1d_partial_listing x v)
    of-1d-partial (seen_ex (repr ReprKind.Function1DPartial (more_reprs r no_reprs)) (function_dom ms es d c) (t ∷ ns) js) o h =
        flagged-has (by_name x) (name-runs u w s x (o.name, o.binds refl)) r ms es d c t ns js h.0.0 h.0.1 h.1 h.2
    of-1d-partial _ o h = tt

    of-nd : (xs : List Text) → EachOver w xs → (v : Ex) → PartsHave w v → A (function_nd_listing xs v)
    of-nd xs k (seen_ex (repr ReprKind.FunctionND (more_reprs r no_reprs)) (function_dom ms es (tuple_dom ds) c) ns js) h =
        when-list (names_fit xs ds) (total_pairs (by_names xs) r (tuple_dom ds) c ns js)
        (total-has (by_names xs) (names-run u w s xs k) r ms es (tuple_dom ds) c ns js h.0 h.1 h.2)
    of-nd xs k _ h = tt

    of-nd-partial : (xs : List Text) → EachOver w xs → (v : Ex) → PartsHave w v → A (function_nd_partial_listing xs v)
    of-nd-partial xs k (seen_ex (repr ReprKind.FunctionNDPartial (more_reprs r no_reprs)) (function_dom ms es (tuple_dom ds) c) (t ∷ ns)
        js) h =
        when-list (names_fit xs ds) (flagged_pairs (by_names xs) r (tuple_dom ds) c t ns js)
        (flagged-has (by_names xs) (names-run u w s xs k) r ms es (tuple_dom ds) c t ns js h.0.0 h.0.1 h.1 h.2)
    of-nd-partial xs k _ h = tt

    of-relation : (xs : List Text) → EachOver w xs → (v : Ex) → PartsHave w v → A (relation_matrix_listing xs v)
    of-relation xs k (seen_ex (repr ReprKind.RelationAsMatrix no_reprs) (relation_dom ms es ds) (t ∷ []) js) h =
        let r = names-run u w s xs k in
        when-list (names_fit xs ds) _
        (r.argument, (r.pattern, tuples-inner u w s ms es ds h.1, ((h.0.0, append-has u w s js (name_exs xs) h.2 r.keys), tt)))
    of-relation xs k _ h = tt

    -- ---- by the kind

    module _ (y : Text) (zs : List Text) (q : OverDomains w y) (r : EachOver w zs) where
      by-kind : (k : ReprKind) (v : Ex) → OverView w x v → PartsHave w v → A (listing_of k x y zs v)
      by-kind ReprKind.Matrix v o h = of-matrix v o h
      by-kind ReprKind.Occurrence v o h = of-occurrences v o h
      by-kind ReprKind.Explicit v o h = of-slots (slots_seen v) (seen-slots u w s v h) v o h
      by-kind ReprKind.ExplicitVarSizeWithMarker v o h = of-marker (slots_seen v) (seen-slots u w s v h) v o h
      by-kind ReprKind.ExplicitVarSizeWithFlags v o h = of-flags (slots_seen v) (seen-slots u w s v h) v o h
      by-kind ReprKind.ExplicitVarSizeWithDummy v o h = let d = dummy_of_members (dom_seen v) in
          of-dummy (slots_seen v) d (seen-slots u w s v h) (s.fixed d (members-dummy u w s (dom_seen v) (dom-had u w s v h))) v o h
      by-kind ReprKind.MSetOccurrence v o h = of-often y q (occurrences_of (dom_seen v))
          (how-often u w s (dom_seen v) (dom-had u w s v h)) v o h
      by-kind ReprKind.MSetExplicitWithRepetition v o h = of-repetition (slots_seen v) (seen-slots u w s v h) v o h
      by-kind ReprKind.MSetExplicitWithFlags v o h = of-counts y q (slots_seen v) (occurrences_of (dom_seen v)) (seen-slots u w s v h)
          (how-often u w s (dom_seen v) (dom-had u w s v h)) v o h
      by-kind ReprKind.Function1D v o h = of-1d v o h
      by-kind ReprKind.Function1DPartial v o h = of-1d-partial v o h
      by-kind ReprKind.FunctionND v o h = of-nd (names_for zs (dom_seen v)) (names-over u w s zs (dom_seen v) r) v h
      by-kind ReprKind.FunctionNDPartial v o h = of-nd-partial (names_for zs (dom_seen v)) (names-over u w s zs (dom_seen v) r) v h
      by-kind ReprKind.FunctionAsRelation v o h = of-kept v o h
      by-kind ReprKind.RelationAsMatrix v o h = of-relation (names_for zs (dom_seen v)) (names-over u w s zs (dom_seen v) r) v h
      by-kind ReprKind.RelationAsSet v o h = of-kept v o h
      by-kind ReprKind.PartitionAsSet v o h = of-kept v o h
      by-kind ReprKind.PartitionOccurrence v o h = of-parts (partitioned (dom_seen v))
          (how-many u w s (dom_seen v) (dom-had u w s v h)) v o h
      by-kind _ v o h = tt

      -- What a view offers, or the set of a multiset's members.
      pub view-has : (v : Ex) → OverView w x v → PartsHave w v → A (view_listing x y zs v)
      view-has (seen_ex (repr k rs) d ns js) o h = by-kind k (seen_ex (repr k rs) d ns js) o h
      view-has (fun1 false Fun.ToSet v) o h = of-once (slots_seen v) (seen-slots u w s v h.0) (fun1 false Fun.ToSet v) o h
      view-has _ o h = tt
