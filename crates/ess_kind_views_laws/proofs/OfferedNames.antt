-- What a view offers uses the names of the view and new ones, and binds what the view does and new ones.
use Rattle.std.proofs.Common.{◌≡◌, refl, Bool, true, false, if◌then◌else◌, List, [], ◌∷◌, Option, Some, None}
use Rattle.std.specs.Prelude.{IsTrue}
use Rattle.ess_semantics.specs.declared.words.Fun.{Fun}
use Rattle.ess_semantics.specs.declared.words.ReprKind.{ReprKind}
use Rattle.ess_semantics.specs.Lists.{or_default}
use Rattle.ess_semantics.specs.Values.{Text}
use Rattle.ess_semantics.specs.Substitution.{BindsAll, NamesAre, NamesAreExs, NamesAreGens, NamesAreDom, NamesAreDoms}
use Rattle.ess_semantics.specs.Trees.{Mark, Repr, repr, no_reprs, more_reprs, Ex, Exs, name_ex, node_ex, seen_ex, no_exs, more_exs, Dom, Doms, tuple_dom, matrix_dom, mset_dom, function_dom, relation_dom, partition_dom, no_doms, more_doms, fun1}
use Rattle.ess_repr_declare_laws.specs.SizeTerms.{times_ex, greatest_size_of, occurrences_ex, bound_ex, slots_ex, unused_name}
use Rattle.ess_rules_laws.specs.Listings.{Alternative}
use Rattle.ess_rules_laws.specs.SetListings.{put_last}
use Rattle.ess_rules_laws.specs.FunctionViews.{append_exs, name_exs, name_pats, names_fit}
use Rattle.ess_views_laws.specs.MatrixViews.{behind_index}
use Rattle.ess_kind_rules_laws.specs.ViewListings.{one_each, view_listing}
use Rattle.ess_kind_sizes_laws.proofs.ViewsBehind.{slots-named, last-named}
use Rattle.ess_kind_multisets_laws.proofs.JudgedMultisets.{occurrences-named}
use Rattle.ess_kind_partitions_laws.proofs.JudgedPartitions.{bound-named}
use Rattle.ess_kind_views_laws.specs.OffersApart.{is_own_kind}

no : {A : Type 0} → false ≡ true → A
no h = cc

-- The slots of a multiset name what the domain does.
mset-slots-named : (u b : Text → Bool) → IsTrue (b unused_name) → (ms : List Mark) (es : Exs) (d : Dom) →
    NamesAreDom u b (mset_dom ms es d) → NamesAre u b (slots_ex (mset_dom ms es d))
mset-slots-named u b s ms es d h = go (greatest_size_of ms es) (slots-named u b s ms es d h)
  where
    go : (o : Option Ex) → NamesAre u b (or_default o (bound_ex d)) →
        NamesAre u b (or_default o (times_ex (occurrences_ex ms es) (bound_ex d)))
    go None k = (occurrences-named u b s ms es d h, (k, tt))
    go (Some f) k = k

-- Names that may be used, and that may be bound.
module _ (u b : Text → Bool) (sizes : IsTrue (b unused_name)) where
  -- Any name.
  abbrev any : Text → Bool
  any a = true

  -- The name is new: it may be used and bound.
  abbrev pub IsNew : Text → Type 0
  IsNew a = IsTrue (u a) × IsTrue (b a)

  -- Each of them is.
  abbrev pub AreNew : List Text → Type 0
  AreNew [] = Unit {0}
  AreNew (z ∷ zs) = IsNew z × AreNew zs

  -- What the item uses, and what generators bind.
  abbrev pub Offered : Option Alternative → Type 0
  Offered None = Unit {0}
  Offered (Some a) = NamesAre u any a.item × NamesAreGens any b a.gens

  -- ---- operands and patterns

  append-named : (v w : Text → Bool) (js ks : Exs) → NamesAreExs v w js → NamesAreExs v w ks → NamesAreExs v w (append_exs js ks)
  append-named v w no_exs ks h k = k
  append-named v w (more_exs e js) ks h k = (h.0, append-named v w js ks h.1 k)

  names-used : (zs : List Text) → AreNew zs → NamesAreExs u any (name_exs zs)
  names-used [] h = tt
  names-used (z ∷ zs) h = (h.0.0, names-used zs h.1)

  names-bound : (zs : List Text) → NamesAreExs any b (name_exs zs)
  names-bound [] = tt
  names-bound (z ∷ zs) = (refl, names-bound zs)

  patterns-bound : (zs : List Text) → AreNew zs → BindsAll b (name_pats zs)
  patterns-bound [] h = tt
  patterns-bound (z ∷ zs) h = (h.0.1, patterns-bound zs h.1)

  few-new : (zs : List Text) (ds : Doms) → AreNew zs → AreNew (one_each zs ds)
  few-new [] ds h = tt
  few-new (z ∷ zs) no_doms h = tt
  few-new (z ∷ zs) (more_doms d ds) h = (h.0, few-new zs ds h.1)

  -- ---- each kind

  -- A view that uses such names, and binds such ones.
  abbrev pub Used : Ex → Type 0
  Used t = NamesAre u any t

  abbrev pub Bound : Ex → Type 0
  Bound t = NamesAre any b t

  behind-used : (r : Repr) (is : Doms) (d : Dom) (ns : List Text) (js : Exs) → NamesAreDoms u any is → NamesAreDom u any d →
      NamesAreExs u any js → NamesAre u any (behind_index r is d ns js)
  behind-used r no_doms d ns js h k l = (k, l)
  behind-used r (more_doms i is) d ns js h k l = ((h, k), l)

  chosen : (c : Bool) (a : Alternative) → Offered (Some a) → Offered (if c then Some a else None)
  chosen true a h = h
  chosen false a h = tt

  module _ (x y : Text) (zs : List Text) (nx : IsNew x) (ny : IsNew y) (nzs : AreNew zs) where
    last-used : (js : Exs) → NamesAreExs u any js → NamesAreExs u any (put_last js (name_ex x))
    last-used js h = last-named u any js (name_ex x) h nx.0

    last-bound : (js : Exs) → NamesAreExs any b js → NamesAreExs any b (put_last js (name_ex x))
    last-bound js h = last-named any b js (name_ex x) h refl

    -- What is offered.
    pub view-named : (t : Ex) → is_own_kind t ≡ true → Used t → Bound t → Offered (view_listing x y zs t)
    view-named (seen_ex (repr ReprKind.Matrix (more_reprs r no_reprs)) (matrix_dom (more_doms i is) d) ns js) o h k =
        (behind-used r is d ns (put_last js (name_ex x)) h.0.0.1 h.0.1 (last-used js h.1), (nx.1, k.0.0.0, tt))
    view-named (seen_ex (repr ReprKind.Matrix rs) d ns js) o h k = tt
    view-named (seen_ex (repr ReprKind.MSetOccurrence no_reprs) (mset_dom ms es d) (t ∷ []) js) o h k = (
      nx.0,
      (
        nx.1,
        k.0.1,
        (ny.1, (tt, (occurrences-named any b sizes ms es d k.0, tt)), ((refl, (last-bound js k.1, tt)), tt)),
      ),
    )
    view-named (seen_ex (repr ReprKind.MSetOccurrence rs) d ns js) o h k = tt
    view-named (seen_ex (repr ReprKind.MSetExplicitWithRepetition (more_reprs r no_reprs)) (mset_dom ms es d) (m ∷ ns) js) o h k = (
      (h.0.1, last-used js h.1),
      (nx.1, (tt, (mset-slots-named any b sizes ms es d k.0, tt)), ((refl, (k.1, tt)), tt)),
    )
    view-named (seen_ex (repr ReprKind.MSetExplicitWithRepetition rs) d ns js) o h k = tt
    view-named (seen_ex (repr ReprKind.MSetExplicitWithFlags (more_reprs r no_reprs)) (mset_dom ms es d) (t ∷ ns) js) o h k = (
      (h.0.1, last-used js h.1),
      (
        nx.1,
        (tt, (mset-slots-named any b sizes ms es d k.0, tt)),
        (ny.1, (tt, (occurrences-named any b sizes ms es d k.0, tt)), ((refl, (last-bound js k.1, tt)), tt)),
      ),
    )
    view-named (seen_ex (repr ReprKind.MSetExplicitWithFlags rs) d ns js) o h k = tt
    view-named (seen_ex (repr ReprKind.PartitionOccurrence no_reprs) (partition_dom ms es d) (m ∷ w ∷ []) js) o h k = (
      (((tt, h.0.1, (tt, (bound-named u any refl d h.0.1, tt))), h.1), (nx.0, tt)),
      (nx.1, (tt, (bound-named any b sizes d k.0.1, tt)), ((refl, (k.1, tt)), tt)),
    )
    view-named (seen_ex (repr ReprKind.PartitionOccurrence rs) d ns js) o h k = tt
    view-named (seen_ex (repr ReprKind.Function1D (more_reprs r no_reprs)) (function_dom ms es d c) ns js) o h k = (
      (nx.0, ((h.0.2, append-named u any js (more_exs (name_ex x) no_exs) h.1 (nx.0, tt)), tt)),
      (nx.1, k.0.1, tt),
    )
    view-named (seen_ex (repr ReprKind.Function1D rs) d ns js) o h k = tt
    view-named (seen_ex (repr ReprKind.Function1DPartial (more_reprs r no_reprs)) (function_dom ms es d c) (m ∷ ns) js) o h k = (
      (nx.0, ((h.0.2, append-named u any js (more_exs (name_ex x) no_exs) h.1 (nx.0, tt)), tt)),
      (nx.1, k.0.1, (append-named any b js (more_exs (name_ex x) no_exs) k.1 (refl, tt), tt)),
    )
    view-named (seen_ex (repr ReprKind.Function1DPartial rs) d ns js) o h k = tt
    view-named (seen_ex (repr ReprKind.FunctionND (more_reprs r no_reprs)) (function_dom ms es (tuple_dom ds) c) ns js) o h k =
        let n = few-new zs ds nzs in
        chosen (names_fit (one_each zs ds) ds) _ (
          (
            names-used (one_each zs ds) n,
            ((h.0.2, append-named u any js (name_exs (one_each zs ds)) h.1 (names-used (one_each zs ds) n)), tt),
          ),
          (patterns-bound (one_each zs ds) n, k.0.1, tt),
        )
    view-named (seen_ex (repr ReprKind.FunctionND rs) d ns js) o h k = tt
    view-named (seen_ex (repr ReprKind.FunctionNDPartial (more_reprs r no_reprs)) (function_dom ms es (tuple_dom ds) c) (m ∷ ns) js) o h k =
        let n = few-new zs ds nzs in
        chosen (names_fit (one_each zs ds) ds) _ (
          (
            names-used (one_each zs ds) n,
            ((h.0.2, append-named u any js (name_exs (one_each zs ds)) h.1 (names-used (one_each zs ds) n)), tt),
          ),
          (
            patterns-bound (one_each zs ds) n,
            k.0.1,
            (append-named any b js (name_exs (one_each zs ds)) k.1 (names-bound (one_each zs ds)), tt),
          ),
        )
    view-named (seen_ex (repr ReprKind.FunctionNDPartial rs) d ns js) o h k = tt
    view-named (seen_ex (repr ReprKind.RelationAsMatrix no_reprs) (relation_dom ms es ds) (m ∷ []) js) o h k =
        let n = few-new zs ds nzs in
        chosen (names_fit (one_each zs ds) ds) _ (
          names-used (one_each zs ds) n,
          (
            patterns-bound (one_each zs ds) n,
            k.0.1,
            (append-named any b js (name_exs (one_each zs ds)) k.1 (names-bound (one_each zs ds)), tt),
          ),
        )
    view-named (seen_ex (repr ReprKind.RelationAsMatrix rs) d ns js) o h k = tt
    view-named (fun1 false Fun.ToSet (seen_ex (repr ReprKind.MSetOccurrence no_reprs) (mset_dom ms es d) (t ∷ []) js)) o h k =
        (nx.0, (nx.1, k.0.0.1, ((last-bound js k.0.1, (tt, tt)), tt)))
    view-named (fun1 false Fun.ToSet
        (seen_ex (repr ReprKind.MSetExplicitWithFlags (more_reprs r no_reprs)) (mset_dom ms es d) (t ∷ ns) js)) o h k = (
          (h.0.0.1, last-used js h.0.1),
          (nx.1, (tt, (mset-slots-named any b sizes ms es d k.0.0, tt)), ((last-bound js k.0.1, (tt, tt)), tt)),
        )
    view-named (fun1 false Fun.ToSet v) o h k = tt
    view-named (node_ex c op es) o h k = tt
    view-named _ o h k = no o
