-- What a view offers is in order where order counts, where the view is.
use Rattle.std.proofs.Common.{refl, Bool, true, false, if◌then◌else◌, List, [], ◌∷◌, Option, Some, None, option_map}
use Rattle.ess_semantics.specs.declared.words.ReprKind.{ReprKind}
use Rattle.ess_semantics.specs.declared.words.Fun.{Fun}
use Rattle.ess_semantics.specs.Values.{Text}
use Rattle.ess_semantics.specs.Trees.{no_gens, repr, no_reprs, more_reprs, Repr, Ex, Exs, name_ex, seen_ex, fun1, no_exs, more_exs, Dom, Doms, tuple_dom, matrix_dom, set_dom, mset_dom, function_dom, relation_dom, partition_dom, no_doms, more_doms}
use Rattle.ess_rules_laws.specs.Listings.{Alternative, those}
use Rattle.ess_rules_laws.specs.SetListings.{put_last, occurrence_listing}
use Rattle.ess_rules_laws.specs.SlotListings.{explicit_listing, marker_listing, flags_listing}
use Rattle.ess_rules_laws.specs.DummyListings.{dummy_listing}
use Rattle.ess_rules_laws.specs.FunctionViews.{append_exs, name_exs, by_name, by_names, names_fit, Run, total_pairs, flagged_pairs}
use Rattle.ess_rules_laws.specs.OccurrenceViews.{relation_matrix_listing}
use Rattle.ess_rules_laws.specs.Function1DViews.{function_1d_listing}
use Rattle.ess_rules_laws.specs.Function1DPartialViews.{function_1d_partial_listing}
use Rattle.ess_rules_laws.specs.FunctionNDViews.{function_nd_listing}
use Rattle.ess_rules_laws.specs.FunctionNDPartialViews.{function_nd_partial_listing}
use Rattle.ess_views_laws.specs.MatrixViews.{behind_index}
use Rattle.ess_views_laws.specs.ChildViews.{kept_as}
use Rattle.ess_views_laws.specs.MultisetViews.{occurrence_members, repetition_members, counted_members, members_once}
use Rattle.ess_views_laws.specs.PartitionViews.{partition_parts}
use Rattle.ess_kind_rules_laws.specs.ViewListings.{dom_seen, slots_seen, dummy_of_members, occurrences_of, partitioned, names_for, matrix_listing, kept_listing, listing_of, view_listing}
use Rattle.ess_given_order_laws.specs.InOrder.{Ordered, AllOrdered, GensOrdered, InOrder}
use Rattle.ess_given_order_laws.proofs.OrderOfFolds.{Answered}
use Rattle.ess_given_order_laws.proofs.OrderOfListings.{nm}

module _ (u : Text → Bool) where
  -- The generators and the item are in order.
  abbrev pub OrderedAlternative : Option Alternative → Type 0
  OrderedAlternative None = Unit {0}
  OrderedAlternative (Some a) = InOrder u a.item × GensOrdered u a.gens

  -- ---- indices

  -- One more index.
  pub last-order : (js : Exs) (a : Ex) → AllOrdered u js false → InOrder u a → AllOrdered u (put_last js a) false
  last-order no_exs a h k = (k, tt)
  last-order (more_exs e js) a h k = (h.0, last-order js a h.1 k)

  -- Indices behind others.
  pub append-all : (js ks : Exs) → AllOrdered u js false → AllOrdered u ks false → AllOrdered u (append_exs js ks) false
  append-all no_exs ks h k = k
  append-all (more_exs e js) ks h k = (h.0, append-all js ks h.1 k)

  -- Names as indices.
  pub names-order : (zs : List Text) → AllOrdered u (name_exs zs) false
  names-order [] = tt
  names-order (z ∷ zs) = (nm u z, names-order zs)

  -- What generators over arguments bind.
  pub record RunOrder (r : Run) : Type 0 where
    pub keys : AllOrdered u r.keys false
    pub argument : InOrder u r.argument

  -- Over atoms.
  pub name-order : (x : Text) → RunOrder (by_name x)
  name-order x = record { keys = (nm u x, tt); argument = nm u x }

  -- Over tuples.
  pub names-run-order : (zs : List Text) → RunOrder (by_names zs)
  names-run-order zs = record { keys = names-order zs; argument = (refl, names-order zs) }

  -- ---- children

  -- What the view is kept as.
  pub kept-order : (v : Ex) → Ordered u v → Answered u (kept_as v)
  kept-order (seen_ex (repr ReprKind.RelationAsSet (more_reprs r no_reprs)) (relation_dom ms es ds) ns js) h = (refl, h)
  kept-order (seen_ex (repr ReprKind.FunctionAsRelation (more_reprs r no_reprs)) (function_dom ms es d c) ns js) h = (refl, h)
  kept-order (seen_ex (repr ReprKind.PartitionAsSet (more_reprs r no_reprs)) (partition_dom ms es d) ns js) h = (refl, h)
  kept-order _ h = tt

  -- The view behind one more index.
  pub behind-order : (r : Repr) (is : Doms) (d : Dom) (ns : List Text) (js : Exs) → AllOrdered u js false →
      InOrder u (behind_index r is d ns js)
  behind-order r no_doms d ns js h = (refl, h)
  behind-order r (more_doms i is) d ns js h = (refl, h)

  -- ---- listings

  abbrev A : Option Alternative → Type 0
  A o = OrderedAlternative o

  when-list : (c : Bool) (a : Alternative) → A (Some a) → A (if c then Some a else None)
  when-list true a h = h
  when-list false a h = tt

  module _ (x : Text) where
    of-kept : (v : Ex) → Ordered u v → A (kept_listing x v)
    of-kept v h = go (kept_as v) (kept-order v h)
      where
        go : (c : Option Ex) → Answered u c → A (option_map (λ c. those x c no_gens) c)
        go None k = tt
        go (Some c) k = (nm u x, (k.1, tt))

    of-occurrences : (v : Ex) → Ordered u v → A (occurrence_listing x v)
    of-occurrences (seen_ex (repr ReprKind.Occurrence no_reprs) (set_dom ms es d) (t ∷ []) js) h =
        (nm u x, ((refl, last-order js (name_ex x) h (nm u x)), tt))
    of-occurrences _ h = tt

    -- The items of a matrix, in their order.
    pub of-matrix : (v : Ex) → Ordered u v → A (matrix_listing x v)
    of-matrix (seen_ex (repr ReprKind.Matrix (more_reprs r no_reprs)) (matrix_dom (more_doms i is) d) ns js) h =
        (behind-order r is d ns (put_last js (name_ex x)) (last-order js (name_ex x) h (nm u x)), tt)
    of-matrix _ h = tt

    of-slots : (n : Ex) → (v : Ex) → Ordered u v → A (explicit_listing x n v)
    of-slots n (seen_ex (repr ReprKind.Explicit (more_reprs r no_reprs)) (set_dom ms es d) ns js) h =
        ((refl, last-order js (name_ex x) h (nm u x)), tt)
    of-slots n _ h = tt

    of-marker : (n : Ex) → (v : Ex) → Ordered u v → A (marker_listing x n v)
    of-marker n (seen_ex (repr ReprKind.ExplicitVarSizeWithMarker (more_reprs r no_reprs)) (set_dom ms es d) (t ∷ ns) js) h =
        ((refl, last-order js (name_ex x) h (nm u x)), ((refl, (nm u x, ((refl, h), tt))), tt))
    of-marker n _ h = tt

    of-flags : (n : Ex) → (v : Ex) → Ordered u v → A (flags_listing x n v)
    of-flags n (seen_ex (repr ReprKind.ExplicitVarSizeWithFlags (more_reprs r no_reprs)) (set_dom ms es d) (t ∷ ns) js) h =
        ((refl, last-order js (name_ex x) h (nm u x)), ((refl, last-order js (name_ex x) h (nm u x)), tt))
    of-flags n _ h = tt

    of-dummy : (n z : Ex) → (v : Ex) → InOrder u z → Ordered u v → A (dummy_listing x n z v)
    of-dummy n z (seen_ex (repr ReprKind.ExplicitVarSizeWithDummy no_reprs) (set_dom ms es d) (t ∷ []) js) k h = (
      (refl, last-order js (name_ex x) h (nm u x)),
      ((refl, ((refl, last-order js (name_ex x) h (nm u x)), (k, tt))), tt),
    )
    of-dummy n z _ k h = tt

    of-repetition : (n : Ex) → (v : Ex) → Ordered u v → A (repetition_members x n v)
    of-repetition n (seen_ex (repr ReprKind.MSetExplicitWithRepetition (more_reprs r no_reprs)) (mset_dom ms es d) (t ∷ ns) js) h =
        ((refl, last-order js (name_ex x) h (nm u x)), ((refl, (nm u x, ((refl, h), tt))), tt))
    of-repetition n _ h = tt

    of-often : (y : Text) (k : Ex) → (v : Ex) → Ordered u v → A (occurrence_members x y k v)
    of-often y k (seen_ex (repr ReprKind.MSetOccurrence no_reprs) (mset_dom ms es d) (t ∷ []) js) h =
        (nm u x, ((refl, (nm u y, ((refl, last-order js (name_ex x) h (nm u x)), tt))), tt))
    of-often y k _ h = tt

    of-counts : (y : Text) (n k : Ex) → (v : Ex) → Ordered u v → A (counted_members x y n k v)
    of-counts y n k (seen_ex (repr ReprKind.MSetExplicitWithFlags (more_reprs r no_reprs)) (mset_dom ms es d) (t ∷ ns) js) h = (
      (refl, last-order js (name_ex x) h (nm u x)),
      ((refl, (nm u y, ((refl, last-order js (name_ex x) h (nm u x)), tt))), tt),
    )
    of-counts y n k _ h = tt

    of-once : (n : Ex) → (v : Ex) → Ordered u v → A (members_once x n v)
    of-once n (fun1 false Fun.ToSet (seen_ex (repr ReprKind.MSetOccurrence no_reprs) (mset_dom ms es d) (t ∷ []) js)) h =
        (nm u x, ((refl, ((refl, last-order js (name_ex x) h.0 (nm u x)), ((refl, tt), tt))), tt))
    of-once n (fun1 false Fun.ToSet
        (seen_ex (repr ReprKind.MSetExplicitWithFlags (more_reprs r no_reprs)) (mset_dom ms es d) (t ∷ ns) js)) h = (
          (refl, last-order js (name_ex x) h.0 (nm u x)),
          ((refl, ((refl, last-order js (name_ex x) h.0 (nm u x)), ((refl, tt), tt))), tt),
        )
    of-once n _ h = tt

    of-parts : (n : Ex) → (v : Ex) → Ordered u v → A (partition_parts x n v)
    of-parts n (seen_ex (repr ReprKind.PartitionOccurrence no_reprs) (partition_dom ms es d) (c ∷ t ∷ []) js) h =
        ((refl, ((refl, h), (nm u x, tt))), ((refl, (nm u x, ((refl, h), tt))), tt))
    of-parts n _ h = tt

    -- ---- functions and relations

    total-order : (r : Run) → RunOrder r → (p : Repr) (d c : Dom) (ns : List Text) (js : Exs) → AllOrdered u js false →
        A (Some (total_pairs r p d c ns js))
    total-order r k p d c ns js h = ((refl, (k.argument, ((refl, append-all js r.keys h k.keys), tt))), tt)

    flagged-order : (r : Run) → RunOrder r → (p : Repr) (d c : Dom) (t : Text) (ns : List Text) (js : Exs) → AllOrdered u js false →
        A (Some (flagged_pairs r p d c t ns js))
    flagged-order r k p d c t ns js h =
        ((refl, (k.argument, ((refl, append-all js r.keys h k.keys), tt))), ((refl, append-all js r.keys h k.keys), tt))

    of-1d : (v : Ex) → Ordered u v → A (function_1d_listing x v)
    of-1d (seen_ex (repr ReprKind.Function1D (more_reprs r no_reprs)) (function_dom ms es d c) ns js) h =
        total-order (by_name x) (name-order x) r d c ns js h
    of-1d _ h = tt

    of-1d-partial : (v : Ex) → Ordered u v → A (function_1d_partial_listing x v)
    of-1d-partial (seen_ex (repr ReprKind.Function1DPartial (more_reprs r no_reprs)) (function_dom ms es d c) (t ∷ ns) js) h =
        flagged-order (by_name x) (name-order x) r d c t ns js h
    of-1d-partial _ h = tt

    of-nd : (xs : List Text) (v : Ex) → Ordered u v → A (function_nd_listing xs v)
    of-nd xs (seen_ex (repr ReprKind.FunctionND (more_reprs r no_reprs)) (function_dom ms es (tuple_dom ds) c) ns js) h =
        when-list (names_fit xs ds) (total_pairs (by_names xs) r (tuple_dom ds) c ns js)
        (total-order (by_names xs) (names-run-order xs) r (tuple_dom ds) c ns js h)
    of-nd xs _ h = tt

    of-nd-partial : (xs : List Text) (v : Ex) → Ordered u v → A (function_nd_partial_listing xs v)
    of-nd-partial xs (seen_ex (repr ReprKind.FunctionNDPartial (more_reprs r no_reprs)) (function_dom ms es (tuple_dom ds) c) (t ∷ ns)
        js) h =
        when-list (names_fit xs ds) (flagged_pairs (by_names xs) r (tuple_dom ds) c t ns js)
        (flagged-order (by_names xs) (names-run-order xs) r (tuple_dom ds) c t ns js h)
    of-nd-partial xs _ h = tt

    of-relation : (xs : List Text) (v : Ex) → Ordered u v → A (relation_matrix_listing xs v)
    of-relation xs (seen_ex (repr ReprKind.RelationAsMatrix no_reprs) (relation_dom ms es ds) (t ∷ []) js) h =
        when-list (names_fit xs ds) _
        ((refl, names-order xs), ((refl, append-all js (name_exs xs) h (names-order xs)), tt))
    of-relation xs _ h = tt

    -- ---- by the kind

    module _ (y : Text) (zs : List Text) where
      by-kind : (k : ReprKind) (v : Ex) → InOrder u (dummy_of_members (dom_seen v)) → Ordered u v → A (listing_of k x y zs v)
      by-kind ReprKind.Matrix v z h = of-matrix v h
      by-kind ReprKind.Occurrence v z h = of-occurrences v h
      by-kind ReprKind.Explicit v z h = of-slots (slots_seen v) v h
      by-kind ReprKind.ExplicitVarSizeWithMarker v z h = of-marker (slots_seen v) v h
      by-kind ReprKind.ExplicitVarSizeWithFlags v z h = of-flags (slots_seen v) v h
      by-kind ReprKind.ExplicitVarSizeWithDummy v z h = of-dummy (slots_seen v) (dummy_of_members (dom_seen v)) v z h
      by-kind ReprKind.MSetOccurrence v z h = of-often y (occurrences_of (dom_seen v)) v h
      by-kind ReprKind.MSetExplicitWithRepetition v z h = of-repetition (slots_seen v) v h
      by-kind ReprKind.MSetExplicitWithFlags v z h = of-counts y (slots_seen v) (occurrences_of (dom_seen v)) v h
      by-kind ReprKind.Function1D v z h = of-1d v h
      by-kind ReprKind.Function1DPartial v z h = of-1d-partial v h
      by-kind ReprKind.FunctionND v z h = of-nd (names_for zs (dom_seen v)) v h
      by-kind ReprKind.FunctionNDPartial v z h = of-nd-partial (names_for zs (dom_seen v)) v h
      by-kind ReprKind.FunctionAsRelation v z h = of-kept v h
      by-kind ReprKind.RelationAsMatrix v z h = of-relation (names_for zs (dom_seen v)) v h
      by-kind ReprKind.RelationAsSet v z h = of-kept v h
      by-kind ReprKind.PartitionAsSet v z h = of-kept v h
      by-kind ReprKind.PartitionOccurrence v z h = of-parts (partitioned (dom_seen v)) v h
      by-kind _ v z h = tt

      -- What a view offers, or the set of a multiset's members, where the dummy of the view is in order.
      pub view-order : (v : Ex) → InOrder u (dummy_of_members (dom_seen v)) → Ordered u v → OrderedAlternative (view_listing x y zs v)
      view-order (seen_ex (repr k rs) d ns js) z h = by-kind k (seen_ex (repr k rs) d ns js) z h
      view-order (fun1 false Fun.ToSet v) z h = of-once (slots_seen v) (fun1 false Fun.ToSet v) h
      view-order _ z h = tt
