-- An item of a view of a matrix is the view at its index.
use Rattle.std.proofs.Common.{◌≡◌, refl, sym, ap, ◌∙◌, ◌≤◌, Bool, true, false, ◌&&◌, List, [], ◌∷◌, ◌++◌, map, take, length, ℤ, Option, Some, None, option_map, arith}
use Rattle.std.proofs.Math.Path.{fun_ext}
use Rattle.std.specs.Prelude.{IsTrue}
use Rattle.std.specs.List.{list_all}
use Rattle.ess_semantics.specs.declared.words.ReprKind.{ReprKind}
use Rattle.ess_semantics.specs.Lists.{and_then, each_of, is_some_and, only_of, list_or_none}
use Rattle.ess_semantics.specs.Values.{Text, Value, matrix, of_list}
use Rattle.ess_semantics.specs.Trees.{by_value, index, Repr, repr, no_reprs, more_reprs, Ex, Exs, node_ex, seen_ex, no_exs, more_exs, Dom, Doms, no_doms, more_doms, matrix_dom}
use Rattle.ess_semantics.specs.Collections.{holds}
use Rattle.ess_semantics.specs.Domains.{Domain, Domains, matrices, no_domains, more_domains, domain_list, member_list, add_heads, lists_of}
use Rattle.ess_semantics.specs.Membership.{nested_matrix, member}
use Rattle.ess_semantics.specs.Operators.{item_at, value_of_node, false_where_undefined}
use Rattle.ess_semantics.specs.Tables.{Tables, code}
use Rattle.ess_semantics.specs.Cells.{Cells, behind, cells_at}
use Rattle.ess_semantics.specs.Layers.{codes_of, only_child}
use Rattle.ess_semantics.specs.ScalarLayers.{nested_of, in_lists_of, count_of_places}
use Rattle.ess_semantics.specs.Representations.{width, value_of_cells, value_of_tables}
use Rattle.ess_semantics.specs.Declarations.{under, declarations_below, axes_of}
use Rattle.ess_semantics.specs.Tidy.{over_axes, is_orderly, tidy}
use Rattle.ess_semantics.specs.Meaning.{Env, meaning, meanings, domain_of, domains_of, members_in, indices, tables_in, seen_in}
use Rattle.ess_semantics.specs.Meets.{Meets, MeetsAll, MeetsDom, MeetsDoms, tidy_in}
use Rattle.ess_semantics.proofs.Tests.{and-left, and-right, and-both, some-and}
use Rattle.ess_semantics.proofs.Orders.{to_list-of_list}
use Rattle.ess_repr_laws.proofs.Behind.{behind-take}
use Rattle.ess_repr_laws.proofs.StructureTuples.{under-none}
use Rattle.ess_rules_laws.specs.SetListings.{put_last}
use Rattle.ess_rules_laws.specs.FunctionKeys.{IsMember}
use Rattle.ess_rules_laws.proofs.SlotSets.{In, orderly_in}
use Rattle.ess_rules_laws.proofs.Results.{place-value, place-tidy}
use Rattle.ess_rules_laws.proofs.TablesOfViews.{axes_in, axes-long, tables-short, over-long, cells-append}
use Rattle.ess_views_laws.specs.MatrixViews.{behind_index, item_view}
use Rattle.ess_views_kept_laws.specs.ItemsKept.{IndexHeld, ItemViewsKeep}
use Rattle.ess_views_kept_laws.proofs.SideBySide.{domains-some}
use Rattle.ess_views_kept_laws.proofs.ComponentViews.{IsView, view-of, MarkedAnswer, marked-fires}
use Rattle.ess_views_kept_laws.proofs.MatrixPlaces.{put-indices, put-met, places-count, append-none, over-rest}
use Rattle.ess_views_kept_laws.proofs.MatrixRuns.{ItemStands, item-stands}

no : {A : Type 0} → false ≡ true → A
no h = cc

-- ---- the view behind an index

module _ (r : Repr) (e : Domain) (ts : Tables) (i : List ℤ) where
  abbrev V : List ℤ → Option Value
  V = In r e (cells_at ts i)

  abbrev O : List ℤ → Bool
  O = orderly_in r e (cells_at ts i)

  -- The cells at a place are those behind its first index.
  place-cells : (k : ℤ) (j : List ℤ) → behind j (take (width r) (cells_at ts (i ++ (k ∷ [])))) ≡
      behind (k ∷ j) (take (width r) (cells_at ts i))
  place-cells k j = ap (λ c. behind j (take (width r) c)) (cells-append ts i (k ∷ []))
      ∙ ap (behind j) (behind-take (k ∷ []) (width r) (cells_at ts i))
      ∙ both (take (width r) (cells_at ts i))
    where
      both : (c : Cells) → behind j (behind (k ∷ []) c) ≡ behind (k ∷ j) c
      both [] = refl
      both (f ∷ fs) = ap (λ gs. (λ ks. f (k ∷ (j ++ ks))) ∷ gs) (both fs)

  module _ (k : ℤ) (ds : Domains) (y : Value) (us : List Value)
      (over : over_axes (i ++ (k ∷ [])) (axes_in (under (map codes_of (domain_list ds)) (declarations_below false r e))) ts ≡ true)
      (values : each_of (lists_of (map codes_of (domain_list ds))) (λ j. V (k ∷ j)) ≡ Some us) (made : nested_of ds us ≡ Some y)
      (orderly : list_all (λ j. O (k ∷ j)) (lists_of (map codes_of (domain_list ds))) ≡ true)
      (typed : nested_matrix ds (member e) y ≡ true) (d : Dom) (ns : List Text) (js : Exs) (env : Env)
      (dom-is : domain_of d env ≡ Some e) (tables-are : tables_in env.cells ns ≡ Some ts)
      (index-is : indices (meanings js env) ≡ Some (i ++ (k ∷ []))) (md : MeetsDom d env) (mj : MeetsAll false js env) where
    -- Of a matrix over the other index domains.
    rest-view : (is : Doms) → domains_of is env ≡ Some ds → MeetsDoms is env →
        IsView (seen_ex (repr ReprKind.Matrix (more_reprs r no_reprs)) (matrix_dom is d) ns js) y env
    rest-view is q mi = view-of (repr ReprKind.Matrix (more_reprs r no_reprs)) (matrix_dom is d) ns js env (matrices ds e) ts
        (i ++ (k ∷ [])) y
        (ap (λ o. and_then o (λ ds. option_map (matrices ds) (domain_of d env))) q ∙ ap (option_map (matrices ds)) dom-is) tables-are
        index-is
        (ap (λ f. and_then (and_then (each_of Q f) (λ vs. Some (vs ∷ []))) (λ vss. nested_of ds (only_child vss)))
        (fun_ext (λ j. ap (value_of_cells r e) (place-cells k j)))
        ∙ ap (λ o. and_then (and_then o (λ vs. Some (vs ∷ []))) (λ vss. nested_of ds (only_child vss))) values ∙ made)
        typed
        (ap (λ l. over_axes (i ++ (k ∷ [])) (axes_in l) ts)
        (append-none (under (map codes_of (domain_list ds)) (declarations_below false r e))) ∙ over)
        (and-both (list_all (orderly_in r e (cells_at ts (i ++ (k ∷ [])))) Q && true) true
        (and-both (list_all (orderly_in r e (cells_at ts (i ++ (k ∷ [])))) Q) true
        (ap (λ f. list_all f Q) (fun_ext (λ j. ap (is_orderly r e) (place-cells k j))) ∙ orderly) refl) refl)
        (mi, md) mj
      where
        Q : List (List ℤ)
        Q = lists_of (map codes_of (domain_list ds))

-- Of an item itself.
one-value : (o : Option Value) (us : List Value) (y : Value) → and_then o (λ v. Some (v ∷ [])) ≡ Some us → only_of us ≡ Some y →
    o ≡ Some y
one-value None us y q p = cc
one-value (Some v) us y q p = let e : v ∷ [] ≡ us = cc in ap only_of e ∙ p

module _ (r : Repr) (e : Domain) (ts : Tables) (i : List ℤ) (k : ℤ) (y : Value) (us : List Value)
    (over : over_axes (i ++ (k ∷ [])) (axes_of r e) ts ≡ true)
    (values : each_of ([] ∷ []) (λ j. In r e (cells_at ts i) (k ∷ j)) ≡ Some us) (made : only_of us ≡ Some y)
    (orderly : orderly_in r e (cells_at ts i) (k ∷ []) ≡ true) (typed : member e y ≡ true) (d : Dom) (ns : List Text) (js : Exs)
    (env : Env) (dom-is : domain_of d env ≡ Some e) (tables-are : tables_in env.cells ns ≡ Some ts)
    (index-is : indices (meanings js env) ≡ Some (i ++ (k ∷ []))) (md : MeetsDom d env) (mj : MeetsAll false js env) where
  short : length ts ≤ width r
  short = let a = over-long (i ++ (k ∷ [])) (axes_of r e) ts over in
      let b = axes-long (declarations_below false r e) in let c = tables-short false r e in omega arith

  there : In r e (cells_at ts i) (k ∷ []) ≡ Some y
  there = one-value (In r e (cells_at ts i) (k ∷ [])) us y values made

  item-view : IsView (seen_ex r d ns js) y env
  item-view = view-of r d ns js env e ts (i ++ (k ∷ [])) y dom-is tables-are index-is
      (sym (place-value r e ts i short (k ∷ [])) ∙ there) typed over
      (and-right _ (is_orderly r e (cells_at ts (i ++ (k ∷ []))))
      (and-right (over_axes (i ++ (k ∷ [])) (axes_of r e) ts) _
      (place-tidy r e ts i short (k ∷ []) y over there typed orderly))) md mj

-- ---- the item

-- The value of a nested matrix that is there.
record NestedIs (d : Domain) (ds : Domains) (o : Option (List Value)) (w : Value) : Type 0 where
  pub values : List Value
  pub items : List Value
  pub are_values : o ≡ Some values
  pub are_items : each_of (in_lists_of (length (member_list d)) (count_of_places ds) values) (nested_of ds) ≡ Some items
  pub whole : w ≡ matrix (of_list (member_list d)) (of_list items)

nested-is : (d : Domain) (ds : Domains) (o : Option (List Value)) (w : Value) →
    and_then (and_then o (λ vs. Some (vs ∷ []))) (λ vss. nested_of (more_domains d ds) (only_child vss)) ≡ Some w → NestedIs d ds o w
nested-is d ds None w q = cc
nested-is d ds (Some vs) w q = go (each_of (in_lists_of (length (member_list d)) (count_of_places ds) vs) (nested_of ds)) refl q
  where
    go : (p : Option (List Value)) → each_of (in_lists_of (length (member_list d)) (count_of_places ds) vs) (nested_of ds) ≡ p →
        option_map (λ ys. matrix (of_list (member_list d)) (of_list ys)) p ≡ Some w → NestedIs d ds (Some vs) w
    go None e q = cc
    go (Some ys) e q = record {
      values = vs;
      items = ys;
      are_values = refl;
      are_items = e;
      whole = sym (let z : matrix (of_list (member_list d)) (of_list ys) ≡ w = cc in z);
    }

module _ (r : Repr) (di : Dom) (is : Doms) (d : Dom) (ns : List Text) (js : Exs) (a : Ex) (env : Env) (h : IsMember a di env) where
  abbrev R : Repr
  R = repr ReprKind.Matrix (more_reprs r no_reprs)

  abbrev View : Ex
  View = seen_ex R (matrix_dom (more_doms di is) d) ns js

  abbrev Behind : Ex
  Behind = behind_index r is d ns (put_last js a)

  -- The item, and the view that has it.
  record Item : Type 0 where
    pub value : Value
    pub is_item : value_of_node (index (by_value ∷ [])) (meaning View env ∷ meaning a env ∷ []) ≡ Some value
    pub is_view : IsView Behind value env

  abbrev Seen : Option Domain → Option Domains → Option Domain → Option Domain
  Seen x y z = and_then (and_then x (λ x. option_map (more_domains x) y)) (λ js. option_map (matrices js) z)

  module _ (f : Domain) (ds : Domains) (e : Domain) (ts : Tables) (i : List ℤ) (first-is : domain_of di env ≡ Some f)
      (others-are : domains_of is env ≡ Some ds) (dom-is : domain_of d env ≡ Some e) (tables-are : tables_in env.cells ns ≡ Some ts)
      (index-is : indices (meanings js env) ≡ Some i) (t : tidy R (matrices (more_domains f ds) e) ts i ≡ true)
      (mi : MeetsDoms is env) (md : MeetsDom d env) (mj : MeetsAll false js env) (ma : Meets a env) where
    abbrev Q : List (List ℤ)
    Q = lists_of (map codes_of (domain_list ds))

    list-is : member_list f ≡ h.members
    list-is = ap list_or_none (sym (ap members_in first-is) ∙ h.are_members)

    cells-tidy : (is_some_and (value_of_tables R (matrices (more_domains f ds) e) ts i) (member (matrices (more_domains f ds) e))
        && is_orderly R (matrices (more_domains f ds) e) (cells_at ts i)) ≡ true
    cells-tidy = and-right (over_axes i (axes_of R (matrices (more_domains f ds) e)) ts) _ t

    found : (w : Value) × (value_of_tables R (matrices (more_domains f ds) e) ts i ≡ Some w) × (member (matrices (more_domains f ds) e) w ≡
        true)
    found = some-and (value_of_tables R (matrices (more_domains f ds) e) ts i) (member (matrices (more_domains f ds) e))
        (and-left _ _ cells-tidy)

    nested : NestedIs f ds (each_of (add_heads (map code (member_list f)) Q) (In r e (cells_at ts i))) found.0
    nested = nested-is f ds (each_of (add_heads (map code (member_list f)) Q) (In r e (cells_at ts i))) found.0 found.1

    orderly-places : list_all (orderly_in r e (cells_at ts i)) (add_heads (map code (member_list f)) Q) ≡ true
    orderly-places = and-left (list_all (orderly_in r e (cells_at ts i)) (add_heads (map code (member_list f)) Q)) true
        (and-left (list_all (orderly_in r e (cells_at ts i)) (add_heads (map code (member_list f)) Q) && true) true
        (and-right (is_some_and (value_of_tables R (matrices (more_domains f ds) e) ts i) (member (matrices (more_domains f ds) e)))
        (is_orderly R (matrices (more_domains f ds) e) (cells_at ts i)) cells-tidy))

    stands : ItemStands (nested_of ds) (In r e (cells_at ts i)) (orderly_in r e (cells_at ts i)) (nested_matrix ds (member e)) Q h.value
        (item_at (of_list (member_list f)) (of_list nested.items) h.value)
    stands = item-stands (nested_of ds) (In r e (cells_at ts i)) (orderly_in r e (cells_at ts i)) (nested_matrix ds (member e)) Q h.value
        (count_of_places ds) (places-count ds) (member_list f) nested.values nested.items nested.are_values nested.are_items orderly-places
        (ap (list_all (nested_matrix ds (member e))) (sym (to_list-of_list nested.items))
        ∙ and-right _ _ (ap (nested_matrix (more_domains f ds) (member e)) (sym nested.whole) ∙ found.2))
        (ap (λ l. holds l h.value) list-is ∙ h.is_held)

    item-is : value_of_node (index (by_value ∷ [])) (meaning View env ∷ meaning a env ∷ []) ≡ Some stands.item
    item-is = ap (λ o. value_of_node (index (by_value ∷ [])) (o ∷ meaning a env ∷ [])) (view-means ∙ found.1 ∙ ap Some nested.whole)
        ∙ ap (λ o. value_of_node (index (by_value ∷ [])) (Some (matrix (of_list (member_list f)) (of_list nested.items)) ∷ o ∷ []))
        h.is_value
        ∙ ap (λ o. and_then o (λ w. Some w)) stands.is_item
      where
        view-means : meaning View env ≡ value_of_tables R (matrices (more_domains f ds) e) ts i
        view-means =
            ap (λ o. seen_in R (Seen o (domains_of is env) (domain_of d env)) (tables_in env.cells ns) (indices (meanings js env)))
            first-is
            ∙ ap (λ o. seen_in R (Seen (Some f) o (domain_of d env)) (tables_in env.cells ns) (indices (meanings js env))) others-are
            ∙ ap (λ o. seen_in R (Seen (Some f) (Some ds) o) (tables_in env.cells ns) (indices (meanings js env))) dom-is
            ∙ ap (λ o. seen_in R (Some (matrices (more_domains f ds) e)) o (indices (meanings js env))) tables-are
            ∙ ap (seen_in R (Some (matrices (more_domains f ds) e)) (Some ts)) index-is

    over-item : over_axes (i ++ (code h.value ∷ [])) (axes_in (under (map codes_of (domain_list ds)) (declarations_below false r e))) ts ≡
        true
    over-item = over-rest i (code h.value) (codes_of f) (map codes_of (domain_list ds)) (declarations_below false r e) ts (and-left _ _ t)

    item-found : Item
    item-found = let s = stands in record {
      value = s.item;
      is_item = item-is;
      is_view = go is ds others-are s over-item mi;
    }
      where
        go : (is : Doms) (ds : Domains) → domains_of is env ≡ Some ds → {p : Option Value} →
            (s : ItemStands (nested_of ds) (In r e (cells_at ts i)) (orderly_in r e (cells_at ts i)) (nested_matrix ds (member e))
            (lists_of (map codes_of (domain_list ds))) h.value p) →
            over_axes (i ++ (code h.value ∷ [])) (axes_in (under (map codes_of (domain_list ds)) (declarations_below false r e))) ts ≡
            true → MeetsDoms is env → IsView (behind_index r is d ns (put_last js a)) s.item env
        go no_doms no_domains q s o mi = item-view r e ts i (code h.value) s.item s.values
            (ap (λ l. over_axes (i ++ (code h.value ∷ [])) (axes_in l) ts) (sym (under-none (declarations_below false r e))) ∙ o)
            s.are_values
            s.made (and-left _ _ s.orderly) s.typed d ns (put_last js a) env dom-is tables-are
            (put-indices js a env i h.value index-is h.is_value) md (put-met js a env mj ma)
        go (more_doms x xs) (more_domains y ys) q s o mi = rest-view r e ts i (code h.value) (more_domains y ys) s.item s.values o
            s.are_values s.made s.orderly s.typed d ns (put_last js a) env dom-is tables-are
            (put-indices js a env i h.value index-is h.is_value) md (put-met js a env mj ma) (more_doms x xs) q mi
        go no_doms (more_domains y ys) q s o mi = cc
        go (more_doms x xs) no_domains q s o mi = domains-some (domain_of x env) (domains_of xs env) q

  opened : (x : Option Domain) (y : Option Domains) (z : Option Domain) (t : Option Tables) (i : Option (List ℤ)) →
      domain_of di env ≡ x → domains_of is env ≡ y → domain_of d env ≡ z → tables_in env.cells ns ≡ t → indices (meanings js env) ≡ i →
      IsTrue (tidy_in R (Seen x y z) t i) → MeetsDoms is env → MeetsDom d env → MeetsAll false js env → Meets a env → Item
  opened (Some f) (Some ds) (Some e) (Some ts) (Some i) qf qs qe qt qi t mi md mj ma = item-found f ds e ts i qf qs qe qt qi t mi md mj ma
  opened (Some f) (Some ds) (Some e) (Some ts) None qf qs qe qt qi t mi md mj ma = no t
  opened (Some f) (Some ds) (Some e) None i qf qs qe qt qi t mi md mj ma = no t
  opened (Some f) (Some ds) None ts i qf qs qe qt qi t mi md mj ma = no t
  opened (Some f) None z ts i qf qs qe qt qi t mi md mj ma = no t
  opened None y z ts i qf qs qe qt qi t mi md mj ma = no t

  -- So it is where the tables meet the structure of the view.
  item : Meets View env → Meets a env → Item
  item m ma = opened (domain_of di env) (domains_of is env) (domain_of d env) (tables_in env.cells ns) (indices (meanings js env)) refl refl
      refl refl refl m.0 m.1.0.1 m.1.1 m.2 ma

item-answer : (e : Ex) (env : Env) → IndexHeld e env → MarkedAnswer (item_view e) e env
item-answer (node_ex b (index (by_value ∷ []))
    (more_exs (seen_ex (repr ReprKind.Matrix (more_reprs r no_reprs)) (matrix_dom (more_doms i is) d) ns js) (more_exs a no_exs))) env h =
    λ fit m. let k = item r i is d ns js a env h m.0 m.1.0 in
    (ap (false_where_undefined b) k.is_item ∙ k.is_view.marked b fit ∙ sym k.is_view.means, k.is_view.met)
item-answer _ env h = tt

-- Items.
pub items-keep : ItemViewsKeep
items-keep e f q fit env h = marked-fires (item_view e) e f env (item-answer e env h) q fit
