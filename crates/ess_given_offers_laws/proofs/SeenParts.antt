-- Domains within domains, sizes, indices and children of a view have what is wanted of the parts of a tree, where the view has it.
use Rattle.std.proofs.Common.{◌≡◌, refl, Bool, true, ◌&&◌, List, [], ◌∷◌}
use Rattle.std.specs.Prelude.{IsTrue}
use Rattle.ess_semantics.specs.declared.words.Key.{Key}
use Rattle.ess_semantics.specs.declared.words.ReprKind.{ReprKind}
use Rattle.ess_semantics.specs.Values.{Text}
use Rattle.ess_semantics.specs.Trees.{Mark, flag, Repr, repr, no_reprs, more_reprs, Ex, Exs, seen_ex, no_exs, more_exs, Dom, Doms, bool_dom, tuple_dom, matrix_dom, set_dom, mset_dom, function_dom, relation_dom, partition_dom, no_doms, more_doms}
use Rattle.ess_semantics.proofs.Tests.{and-left, and-right, and-both}
use Rattle.ess_repr_laws.specs.StructureParts.{tuple_set_dom}
use Rattle.ess_repr_laws.specs.ViewParts.{pair_relation_dom, part_set_dom}
use Rattle.ess_repr_declare_laws.specs.SizeTerms.{size_terms}
use Rattle.ess_rules_laws.specs.SetListings.{put_last}
use Rattle.ess_rules_laws.specs.SlotListings.{slots_dom}
use Rattle.ess_rules_laws.specs.FunctionViews.{append_exs, name_exs, name_pats, by_name, by_names}
use Rattle.ess_views_laws.specs.MatrixViews.{behind_index}
use Rattle.ess_views_laws.specs.ChildViews.{kept_as}
use Rattle.ess_views_laws.specs.PartitionViews.{numbering}
use Rattle.ess_kind_rules_laws.specs.ViewListings.{dom_seen, slots_seen, dummy_of_members, occurrences_of, partitioned, one_each, names_for}
use Rattle.ess_given_laws.specs.PartsHave.{Wanted, PartsHave, AllHave, TablesHave}
use Rattle.ess_given_laws.specs.Given.{is_fixed, are_fixed, is_fixed_dom, are_fixed_doms}
use Rattle.ess_given_laws.proofs.PartsOfFolds.{Answers}
use Rattle.ess_given_offers_laws.specs.Seen.{RunHas, EachBinds, Sees, OverDomains, EachOver}
use Rattle.ess_given_offers_laws.proofs.FixedSizes.{often-fixed, bound-fixed, slots-fixed, dummy-fixed, numbers-fixed, tuples-fixed, pairs-fixed, parts-fixed}

module _ (u : Text → Bool) (w : Wanted) (s : Sees w u) where
  abbrev F : Ex → Type 0
  F e = is_fixed u e ≡ true

  abbrev Dm : Dom → Type 0
  Dm d = IsTrue (w.dom d)

  -- ---- domains within domains

  -- The inner domain of a set.
  pub set-inner : (ms : List Mark) (es : Exs) (d : Dom) → Dm (set_dom ms es d) → Dm d
  set-inner ms es d h = s.into d (and-right (are_fixed u es) (is_fixed_dom u d) (s.out (set_dom ms es d) h))

  -- That of a multiset.
  pub mset-inner : (ms : List Mark) (es : Exs) (d : Dom) → Dm (mset_dom ms es d) → Dm d
  mset-inner ms es d h = s.into d (and-right (are_fixed u es) (is_fixed_dom u d) (s.out (mset_dom ms es d) h))

  -- That of a partition.
  pub partition-inner : (ms : List Mark) (es : Exs) (d : Dom) → Dm (partition_dom ms es d) → Dm d
  partition-inner ms es d h = s.into d (and-right (are_fixed u es) (is_fixed_dom u d) (s.out (partition_dom ms es d) h))

  -- The tuples of a relation.
  pub tuples-inner : (ms : List Mark) (es : Exs) (ds : Doms) → Dm (relation_dom ms es ds) → Dm (tuple_dom ds)
  tuples-inner ms es ds h = s.into (tuple_dom ds) (and-right (are_fixed u es) (are_fixed_doms u ds) (s.out (relation_dom ms es ds) h))

  -- The first domain of a function.
  pub first-inner : (ms : List Mark) (es : Exs) (d c : Dom) → Dm (function_dom ms es d c) → Dm d
  first-inner ms es d c h = s.into d (and-left (is_fixed_dom u d) (is_fixed_dom u c)
      (and-right (are_fixed u es) (is_fixed_dom u d && is_fixed_dom u c) (s.out (function_dom ms es d c) h)))

  -- The second one.
  pub result-inner : (ms : List Mark) (es : Exs) (d c : Dom) → Dm (function_dom ms es d c) → Dm c
  result-inner ms es d c h = s.into c (and-right (is_fixed_dom u d) (is_fixed_dom u c)
      (and-right (are_fixed u es) (is_fixed_dom u d && is_fixed_dom u c) (s.out (function_dom ms es d c) h)))

  -- The first index domain of a matrix.
  pub index-inner : (i : Dom) (is : Doms) (d : Dom) → Dm (matrix_dom (more_doms i is) d) → Dm i
  index-inner i is d h = s.into i (and-left (is_fixed_dom u i) (are_fixed_doms u is)
      (and-left (is_fixed_dom u i && are_fixed_doms u is) (is_fixed_dom u d) (s.out (matrix_dom (more_doms i is) d) h)))

  -- The numbers of slots.
  pub slots-inner : (n : Ex) → F n → Dm (slots_dom n)
  slots-inner n h = s.into (slots_dom n) (numbers-fixed u s.counts n h)

  -- ---- sizes of a view

  -- How many slots the view has.
  pub seen-slots : (v : Ex) → PartsHave w v → F (slots_seen v)
  seen-slots (seen_ex r d ns js) h = slots-fixed u s.counts d (s.out d h.1)
  seen-slots _ h = refl

  -- The dummy of a set's members.
  pub members-dummy : (d : Dom) → Dm d → F (dummy_of_members d)
  members-dummy (set_dom ms es d) h = dummy-fixed u s.counts d (s.out d (set-inner ms es d h))
  members-dummy _ h = refl

  -- How often a member of a multiset may be there.
  pub how-often : (d : Dom) → Dm d → F (occurrences_of d)
  how-often (mset_dom ms es d) h = often-fixed u s.counts ms es (and-left (are_fixed u es) (is_fixed_dom u d) (s.out (mset_dom ms es d) h))
  how-often _ h = refl

  -- How many members a partition has.
  pub how-many : (d : Dom) → Dm d → F (partitioned d)
  how-many (partition_dom ms es d) h = bound-fixed u s.counts d (s.out d (partition-inner ms es d h))
  how-many _ h = refl

  -- The domain of a view.
  pub dom-had : (v : Ex) → PartsHave w v → Dm (dom_seen v)
  dom-had (seen_ex r d ns js) h = h.1
  dom-had _ h = s.into bool_dom refl

  -- The dummy of the members of the view.
  pub seen-dummy : (v : Ex) → PartsHave w v → F (dummy_of_members (dom_seen v))
  seen-dummy v h = members-dummy (dom_seen v) (dom-had v h)

  -- How many members the partition of the view has.
  pub seen-partitioned : (v : Ex) → PartsHave w v → F (partitioned (dom_seen v))
  seen-partitioned v h = how-many (dom_seen v) (dom-had v h)

  -- ---- indices

  -- One more index.
  pub last-has : (js : Exs) (a : Ex) → AllHave w js → PartsHave w a → AllHave w (put_last js a)
  last-has no_exs a h k = (k, tt)
  last-has (more_exs e js) a h k = (h.0, last-has js a h.1 k)

  -- Indices behind others.
  pub append-has : (js ks : Exs) → AllHave w js → AllHave w ks → AllHave w (append_exs js ks)
  append-has no_exs ks h k = k
  append-has (more_exs e js) ks h k = (h.0, append-has js ks h.1 k)

  names-have : (zs : List Text) → EachOver w zs → AllHave w (name_exs zs)
  names-have [] h = tt
  names-have (z ∷ zs) h = (h.0.0, names-have zs h.1)

  patterns-have : (zs : List Text) → EachOver w zs → EachBinds w (name_pats zs)
  patterns-have [] h = tt
  patterns-have (z ∷ zs) h = (h.0.1, patterns-have zs h.1)

  each-over : (zs : List Text) (ds : Doms) → EachOver w zs → EachOver w (one_each zs ds)
  each-over [] ds h = tt
  each-over (z ∷ zs) no_doms h = tt
  each-over (z ∷ zs) (more_doms d ds) h = (h.0, each-over zs ds h.1)

  -- As many of the names as there are components.
  pub names-over : (zs : List Text) (d : Dom) → EachOver w zs → EachOver w (names_for zs d)
  names-over zs (function_dom ms es (tuple_dom ds) c) h = each-over zs ds h
  names-over zs (relation_dom ms es ds) h = each-over zs ds h
  names-over zs _ h = tt

  -- How a generator runs over arguments.
  pub name-runs : (x : Text) → OverDomains w x → RunHas w (by_name x)
  name-runs x h = record { pattern = h.1; keys = (h.0, tt); argument = h.0 }

  -- Over tuples, by names for the components.
  pub names-run : (zs : List Text) → EachOver w zs → RunHas w (by_names zs)
  names-run zs h = record {
    pattern = s.tuple (name_pats zs) (patterns-have zs h);
    keys = names-have zs h;
    argument = names-have zs h;
  }

  -- ---- children

  -- What the view is kept as.
  pub kept-has : (v : Ex) → PartsHave w v → Answers w (kept_as v)
  kept-has (seen_ex (repr ReprKind.RelationAsSet (more_reprs r no_reprs)) (relation_dom ms es ds) ns js) h =
      (h.0, s.into (tuple_set_dom ms es ds) (tuples-fixed u s.counts ms es ds (s.out (relation_dom ms es ds) h.1)), h.2)
  kept-has (seen_ex (repr ReprKind.FunctionAsRelation (more_reprs r no_reprs)) (function_dom ms es d c) ns js) h = (
    h.0,
    s.into (pair_relation_dom size_terms ms es d c) (pairs-fixed u s.counts ms es d c (s.out (function_dom ms es d c) h.1)),
    h.2,
  )
  kept-has (seen_ex (repr ReprKind.PartitionAsSet (more_reprs r no_reprs)) (partition_dom ms es d) ns js) h =
      (h.0, s.into (part_set_dom size_terms ms es d) (parts-fixed u s.counts ms es d (s.out (partition_dom ms es d) h.1)), h.2)
  kept-has _ h = tt

  -- The view behind one more index.
  pub behind-has : (r : Repr) (i : Dom) (is : Doms) (d : Dom) (ns : List Text) (js : Exs) → TablesHave w ns →
      Dm (matrix_dom (more_doms i is) d) → AllHave w js → PartsHave w (behind_index r is d ns js)
  behind-has r i no_doms d ns js h k j = (
    h,
    s.into d (and-right (is_fixed_dom u i && true) (is_fixed_dom u d) (s.out (matrix_dom (more_doms i no_doms) d) k)),
    j,
  )
  behind-has r i (more_doms m is) d ns js h k j = let q = s.out (matrix_dom (more_doms i (more_doms m is)) d) k in (
    h,
    s.into (matrix_dom (more_doms m is) d) (and-both (are_fixed_doms u (more_doms m is)) (is_fixed_dom u d)
        (and-right (is_fixed_dom u i) (are_fixed_doms u (more_doms m is))
        (and-left (are_fixed_doms u (more_doms i (more_doms m is))) (is_fixed_dom u d) q))
        (and-right (are_fixed_doms u (more_doms i (more_doms m is))) (is_fixed_dom u d) q)),
    j,
  )

  -- The table of a partition's part numbers as a function.
  pub numbering-has : (n : Ex) → F n → (d : Dom) → Dm d → (t : Text) → IsTrue (w.table t) → (js : Exs) → AllHave w js →
      PartsHave w (numbering n d t js)
  numbering-has n m d h t k js j = (
    (k, tt),
    s.into (function_dom (flag Key.Total ∷ []) no_exs d (slots_dom n)) (and-both (is_fixed_dom u d) (is_fixed_dom u (slots_dom n))
        (s.out d h) (numbers-fixed u s.counts n m)),
    j,
  )
