-- Each view of a container offers its members: the kind, which fits the domain, has the children that its listing asks for, and there
-- are as many tables as that names.
use Rattle.std.proofs.Common.{◌≡◌, refl, ap, ◌∙◌, ℕ, suc, ◌+◌, ◌≤◌, arith, Bool, true, false, ◌&&◌, ◌||◌, not, if◌then◌else◌, List, [], ◌∷◌, Some, None, length, is_some}
use Rattle.ess_semantics.specs.declared.words.Key.{Key}
use Rattle.ess_semantics.specs.declared.words.ReprKind.{ReprKind}
use Rattle.ess_semantics.specs.Values.{Text}
use Rattle.ess_semantics.specs.Order.{same_text}
use Rattle.ess_semantics.specs.Names.{is_among, all_distinct}
use Rattle.ess_semantics.specs.Kinds.{dom_list, has_key, is_atom, has_dummy, are_atoms, is_atom_tuple, child_relation_form, child_set_form, child_parts_form, fits, all_fit}
use Rattle.ess_semantics.specs.Representations.{own_width, width, widths}
use Rattle.ess_semantics.specs.Trees.{Repr, Reprs, repr, no_reprs, more_reprs, Exs, seen_ex, Dom, Doms, bool_dom, int_dom, name_dom, tuple_dom, record_dom, matrix_dom, set_dom, mset_dom, function_dom, relation_dom, partition_dom, no_doms, more_doms}
use Rattle.ess_semantics.proofs.Tests.{and-left, and-right, and-both}
use Rattle.ess_rules_laws.specs.ComponentRules.{has_text}
use Rattle.ess_rules_laws.specs.FunctionViews.{names_fit}
use Rattle.ess_kind_rules_laws.specs.ViewListings.{one_each, listing_of}
use Rattle.ess_offered_laws.specs.Containers.{is_container, HasNames}
use Rattle.ess_offered_laws.specs.Laws.{ViewsHaveListings}
use Rattle.ess_rules_laws.proofs.SourceTypes.{no, so}

-- ---- children and tables

-- Where there are no children there are none.
none-below : (P : Reprs → Type 0) → P no_reprs → (rs : Reprs) → all_fit rs [] ≡ true → P rs
none-below P p no_reprs h = p
none-below P p (more_reprs r rs) h = no h

-- Where there is one child there is one.
pub one-below : (P : Reprs → Type 0) (d : Dom) → ((r : Repr) → P (more_reprs r no_reprs)) → (rs : Reprs) → all_fit rs (d ∷ []) ≡ true → P rs
one-below P d p no_reprs h = no h
one-below P d p (more_reprs r no_reprs) h = p r
one-below P d p (more_reprs r (more_reprs s rs)) h = no (and-right (fits r d) false h)

-- The children under a test.
if-fit : (b : Bool) (ds : List Dom) (rs : Reprs) →
    elim (if b then Some ds else None) [ None ↦ false | Some ds ↦ all_fit rs ds ] ≡ true → (b ≡ true) × (all_fit rs ds ≡ true)
if-fit true ds rs h = (refl, h)
if-fit false ds rs h = no h

-- A domain of tuples of atoms is one of tuples.
by-tuple : (P : Dom → Type 0) → ((ds : Doms) → P (tuple_dom ds)) → (d : Dom) → is_atom_tuple d ≡ true → P d
by-tuple P p (tuple_dom ds) h = p ds
by-tuple P p d h = no h

-- A name for the one table, for a first one, and for two.
one-table : (P : List Text → Type 0) → ((n : Text) → P (n ∷ [])) → (ns : List Text) → length ns ≡ 1 → P ns
one-table P p [] h = absurd (omega arith)
one-table P p (n ∷ []) h = p n
one-table P p (n ∷ m ∷ ns) h = absurd (omega arith)

first-table : (P : List Text → Type 0) → ((n : Text) (ns : List Text) → P (n ∷ ns)) → (k : ℕ) (ns : List Text) → length ns ≡ 1 + k → P ns
first-table P p k [] h = absurd (omega arith)
first-table P p k (n ∷ ns) h = p n ns

two-tables : (P : List Text → Type 0) → ((n m : Text) → P (n ∷ m ∷ [])) → (ns : List Text) → length ns ≡ 2 → P ns
two-tables P p [] h = absurd (omega arith)
two-tables P p (n ∷ []) h = absurd (omega arith)
two-tables P p (n ∷ m ∷ []) h = p n m
two-tables P p (n ∷ m ∷ l ∷ ns) h = absurd (omega arith)

-- ---- names

-- A name that isn't among names isn't among as many of them as there are domains.
apart-each : (zs : List Text) (ds : Doms) (z : Text) → not (is_among zs z) ≡ true → not (has_text (one_each zs ds) z) ≡ true
apart-each [] ds z h = refl
apart-each (a ∷ zs) no_doms z h = refl
apart-each (a ∷ zs) (more_doms d ds) z h = go (same_text a z) h (apart-each zs ds z)
  where
    go : (b : Bool) → not (b || is_among zs z) ≡ true →
        (not (is_among zs z) ≡ true → not (has_text (one_each zs ds) z) ≡ true) →
        not (b || has_text (one_each zs ds) z) ≡ true
    go true h f = h
    go false h f = f h

-- Of names that differ, and are enough, there is one for each domain.
pub names-fit-each : (zs : List Text) (ds : Doms) → length (dom_list ds) ≤ length zs → all_distinct zs ≡ true →
    names_fit (one_each zs ds) ds ≡ true
names-fit-each [] no_doms n h = refl
names-fit-each (z ∷ zs) no_doms n h = refl
names-fit-each [] (more_doms d ds) n h = let m : suc (length (dom_list ds)) ≤ 0 = n in absurd (omega arith)
names-fit-each (z ∷ zs) (more_doms d ds) n h =
    let m : suc (length (dom_list ds)) ≤ suc (length zs) = n in
    and-both (not (has_text (one_each zs ds) z)) (names_fit (one_each zs ds) ds)
    (apart-each zs ds z (and-left (not (is_among zs z)) (all_distinct zs) h))
    (names-fit-each zs ds (omega arith) (and-right (not (is_among zs z)) (all_distinct zs) h))

-- ---- kinds

module _ (x y : Text) (zs : List Text) (js : Exs) where
  -- The view has a listing.
  abbrev Listed : ReprKind → Dom → Reprs → List Text → Type 0
  Listed k d rs ns = is_some (listing_of k x y zs (seen_ex (repr k rs) d ns js)) ≡ true

  -- A child and a table of its own.
  one-first : (k : ReprKind) (d e : Dom) → ((r : Repr) (n : Text) (ns : List Text) → Listed k d (more_reprs r no_reprs) (n ∷ ns)) →
      own_width k ≡ 1 → (rs : Reprs) (ns : List Text) → all_fit rs (e ∷ []) ≡ true → length ns ≡ width (repr k rs) → Listed k d rs ns
  one-first k d e f o rs ns h w =
      one-below (λ rs. Listed k d rs ns) e
      (λ r. first-table (λ ns. Listed k d (more_reprs r no_reprs) ns) (f r) (widths rs) ns (w ∙ ap (λ m. m + widths rs) o)) rs h

  -- No child, and one table.
  none-one : (k : ReprKind) (d : Dom) → ((n : Text) → Listed k d no_reprs (n ∷ [])) → own_width k ≡ 1 → (rs : Reprs) (ns : List Text) →
      all_fit rs [] ≡ true → length ns ≡ width (repr k rs) → Listed k d rs ns
  none-one k d f o no_reprs ns h w = one-table (λ ns. Listed k d no_reprs ns) f ns (w ∙ ap (λ m. m + 0) o)
  none-one k d f o (more_reprs r rs) ns h w = no h

  listed : (k : ReprKind) (rs : Reprs) (d : Dom) (ns : List Text) → fits (repr k rs) d ≡ true → is_container d ≡ true →
      length ns ≡ width (repr k rs) → HasNames zs d → Listed k d rs ns
  listed ReprKind.Matrix rs (matrix_dom (more_doms i is) d) ns h c w n =
      one-below (λ rs. Listed ReprKind.Matrix (matrix_dom (more_doms i is) d) rs ns) d (λ r. refl) rs h
  listed ReprKind.Occurrence rs (set_dom ms es d) ns h c w n =
      none-one ReprKind.Occurrence (set_dom ms es d) (λ t. refl) refl rs ns (if-fit (is_atom d) [] rs h).1 w
  listed ReprKind.Explicit rs (set_dom ms es d) ns h c w n =
      one-below (λ rs. Listed ReprKind.Explicit (set_dom ms es d) rs ns) d (λ r. refl) rs (if-fit (has_key Key.Size ms) (d ∷ []) rs h).1
  listed ReprKind.ExplicitVarSizeWithMarker rs (set_dom ms es d) ns h c w n =
      one-first ReprKind.ExplicitVarSizeWithMarker (set_dom ms es d) d (λ r m ts. refl) refl rs ns h w
  listed ReprKind.ExplicitVarSizeWithFlags rs (set_dom ms es d) ns h c w n =
      one-first ReprKind.ExplicitVarSizeWithFlags (set_dom ms es d) d (λ r m ts. refl) refl rs ns h w
  listed ReprKind.ExplicitVarSizeWithDummy rs (set_dom ms es d) ns h c w n =
      none-one ReprKind.ExplicitVarSizeWithDummy (set_dom ms es d) (λ t. refl) refl rs ns (if-fit (has_dummy d) [] rs h).1 w
  listed ReprKind.MSetOccurrence rs (mset_dom ms es d) ns h c w n =
      none-one ReprKind.MSetOccurrence (mset_dom ms es d) (λ t. refl) refl rs ns (if-fit (is_atom d) [] rs h).1 w
  listed ReprKind.MSetExplicitWithRepetition rs (mset_dom ms es d) ns h c w n =
      one-first ReprKind.MSetExplicitWithRepetition (mset_dom ms es d) d (λ r m ts. refl) refl rs ns h w
  listed ReprKind.MSetExplicitWithFlags rs (mset_dom ms es d) ns h c w n =
      one-first ReprKind.MSetExplicitWithFlags (mset_dom ms es d) d (λ r m ts. refl) refl rs ns h w
  listed ReprKind.Function1D rs (function_dom ms es d e) ns h c w n =
      one-below (λ rs. Listed ReprKind.Function1D (function_dom ms es d e) rs ns) e (λ r. refl) rs
      (if-fit (has_key Key.Total ms && is_atom d) (e ∷ []) rs h).1
  listed ReprKind.Function1DPartial rs (function_dom ms es d e) ns h c w n =
      one-first ReprKind.Function1DPartial (function_dom ms es d e) e (λ r m ts. refl) refl rs ns
      (if-fit (is_atom d) (e ∷ []) rs h).1 w
  listed ReprKind.FunctionND rs (function_dom ms es d e) ns h c w n =
      let k = if-fit (has_key Key.Total ms && is_atom_tuple d) (e ∷ []) rs h in
      by-tuple (λ d. HasNames zs (function_dom ms es d e) → Listed ReprKind.FunctionND (function_dom ms es d e) rs ns)
      (λ ds n. one-below (λ rs. Listed ReprKind.FunctionND (function_dom ms es (tuple_dom ds) e) rs ns) e
      (λ r. ap is_some (so (names_fit (one_each zs ds) ds) _ (names-fit-each zs ds n.enough n.differ))) rs k.1) d
      (and-right (has_key Key.Total ms) (is_atom_tuple d) k.0) n
  listed ReprKind.FunctionNDPartial rs (function_dom ms es d e) ns h c w n =
      let k = if-fit (is_atom_tuple d) (e ∷ []) rs h in
      by-tuple (λ d. HasNames zs (function_dom ms es d e) → Listed ReprKind.FunctionNDPartial (function_dom ms es d e) rs ns)
      (λ ds n. one-first ReprKind.FunctionNDPartial (function_dom ms es (tuple_dom ds) e) e
      (λ r m ts. ap is_some (so (names_fit (one_each zs ds) ds) _ (names-fit-each zs ds n.enough n.differ))) refl rs ns k.1 w) d k.0 n
  listed ReprKind.FunctionAsRelation rs (function_dom ms es d e) ns h c w n =
      one-below (λ rs. Listed ReprKind.FunctionAsRelation (function_dom ms es d e) rs ns) (child_relation_form ms d e) (λ r. refl) rs h
  listed ReprKind.RelationAsMatrix rs (relation_dom ms es ds) ns h c w n =
      none-one ReprKind.RelationAsMatrix (relation_dom ms es ds)
      (λ t. ap is_some (so (names_fit (one_each zs ds) ds) _ (names-fit-each zs ds n.enough n.differ))) refl rs ns
      (if-fit (are_atoms ds) [] rs h).1 w
  listed ReprKind.RelationAsSet rs (relation_dom ms es ds) ns h c w n =
      one-below (λ rs. Listed ReprKind.RelationAsSet (relation_dom ms es ds) rs ns) (child_set_form ms ds) (λ r. refl) rs h
  listed ReprKind.PartitionOccurrence no_reprs (partition_dom ms es d) ns h c w n =
      two-tables (λ ns. Listed ReprKind.PartitionOccurrence (partition_dom ms es d) no_reprs ns) (λ t u. refl) ns w
  listed ReprKind.PartitionOccurrence (more_reprs r rs) (partition_dom ms es d) ns h c w n =
      no (if-fit (is_atom d) [] (more_reprs r rs) h).1
  listed ReprKind.PartitionAsSet rs (partition_dom ms es d) ns h c w n =
      one-below (λ rs. Listed ReprKind.PartitionAsSet (partition_dom ms es d) rs ns) (child_parts_form ms d) (λ r. refl) rs h
  listed ReprKind.Atom rs bool_dom ns h c w n = no c
  listed ReprKind.Atom rs (int_dom ks es) ns h c w n = no c
  listed ReprKind.Atom rs (name_dom a) ns h c w n = no c
  listed ReprKind.Tuple rs (tuple_dom ds) ns h c w n = no c
  listed ReprKind.Rec rs (record_dom fs ds) ns h c w n = no c
  listed ReprKind.Matrix rs (matrix_dom no_doms d) ns h c w n = no c
  listed k rs d ns h c w n = no h

-- So each of them does.
pub views-listed : ViewsHaveListings
views-listed x y zs (repr k rs) d ns js h c w n = listed x y zs js k rs d ns h c w n
