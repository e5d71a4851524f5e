-- A view of a multiset in slots up to a marker offers the views in the slots up to it.
use Rattle.std.proofs.Common.{◌≡◌, refl, sym, ap, ◌∙◌, ℕ, zero, suc, ◌+◌, ◌≤◌, ◌<◌, Bool, true, false, if◌then◌else◌, not, List, [], ◌∷◌, ◌++◌, map, filter, take, length, ℤ, pos, negsuc, ◌<ℤ◌, Option, Some, None, option_map, nat_le, arith, eq-or-lt_of_le, ◌⊎◌, inl, inr}
use Rattle.std.proofs.lemmas.Int.{ints}
use Rattle.std.specs.Ordering.{is_lt}
use Rattle.std.specs.Cmp.{int_cmp_is}
use Rattle.std.specs.declared.cmp.Ordering.TheVariants.{Less, Equal, Greater}
use Rattle.std.specs.Prelude.{IsTrue}
use Rattle.std.specs.List.{list_all}
use Rattle.ess_semantics.specs.declared.words.Op2.{Op2}
use Rattle.ess_semantics.specs.declared.words.ReprKind.{ReprKind}
use Rattle.ess_semantics.specs.Lists.{and_then, each_of, is_some_and}
use Rattle.ess_semantics.specs.Values.{Text, number, truth}
use Rattle.ess_semantics.specs.Order.{same_text, below}
use Rattle.ess_semantics.specs.Collections.{sorted, mset_of}
use Rattle.ess_semantics.specs.Names.{look}
use Rattle.ess_semantics.specs.Numbers.{run_from, one_to}
use Rattle.ess_semantics.specs.Trees.{Mark, Repr, repr, no_reprs, more_reprs, name_pat, Ex, Exs, name_ex, cell_ex, seen_ex, ex2, no_gens, over, cond, Dom, mset_dom}
use Rattle.ess_semantics.specs.Domains.{Attribute, Domain, msets, lists_of}
use Rattle.ess_semantics.specs.Tables.{Table, Tables, cell_at}
use Rattle.ess_semantics.specs.Cells.{cells_at}
use Rattle.ess_semantics.specs.Layers.{up_to_marker, within_slots}
use Rattle.ess_semantics.specs.Sizes.{slots_of_mset}
use Rattle.ess_semantics.specs.Representations.{width}
use Rattle.ess_semantics.specs.Declarations.{declarations_below, axes_of}
use Rattle.ess_semantics.specs.Tidy.{tidy, over_axes}
use Rattle.ess_semantics.specs.Meaning.{Env, meaning, meanings, attributes_of, domain_of, indices, tables_in, seen_in, cell_in, cell_value}
use Rattle.ess_semantics.specs.Meets.{Meets, MeetsAll, MeetsDom, tidy_in}
use Rattle.ess_semantics.specs.Substitution.{NamesAreExs, NamesAreDom}
use Rattle.ess_semantics.proofs.Tests.{and-left, and-right}
use Rattle.ess_rules_laws.specs.Listings.{Alternative}
use Rattle.ess_rules_laws.specs.SetListings.{put_last}
use Rattle.ess_rules_laws.specs.ListedSources.{Offers}
use Rattle.ess_rules_laws.specs.SlotListings.{slots_dom}
use Rattle.ess_rules_laws.proofs.Connectives.{binary-means}
use Rattle.ess_rules_laws.proofs.RuleAnswers.{behind, meaning-behind, name-behind, meets-behind}
use Rattle.ess_rules_laws.proofs.TablesOfViews.{tables-short, axes-long, axes-same, over-behind, over-long}
use Rattle.ess_rules_laws.proofs.SlotNumbers.{as_place, slots-are}
use Rattle.ess_rules_laws.proofs.SlotSets.{In, orderly_in}
use Rattle.ess_views_kept_laws.specs.MultisetsListed.{MultisetSlotsAre, SlottedMembersAreListed}
use Rattle.ess_views_kept_laws.proofs.UsedMembers.{used-offers}
use Rattle.ess_semantics.specs.Values.{Value}
use Rattle.ess_semantics.specs.Membership.{member}
use Rattle.ess_semantics.specs.Cells.{Cells}
use Rattle.ess_semantics.specs.Layers.{only_child}
use Rattle.ess_semantics.specs.MultisetLayers.{repetition_layer}
use Rattle.ess_semantics.specs.CanonicalTest.{in_use_first}
use Rattle.ess_semantics.specs.Representations.{own_part, child_part, places_by, values_of_children, value_of_cells}
use Rattle.ess_semantics.specs.Tidy.{tidy_cells, is_orderly, are_orderly}
use Rattle.ess_semantics.proofs.Orders.{to_list-of_list}
use Rattle.ess_semantics.proofs.Multisets.{sorted-all}

no : {A : Type 0} → false ≡ true → A
no h = cc

-- A marker that is there says how many of the first places are in use.
marker-found : (o : Option ℤ) (as' js : List (List ℤ)) →
    and_then o (λ m. option_map (λ n. take n as') (within_slots m (length as'))) ≡ Some js → (q : ℕ) × (o ≡ Some (pos q))
    × (js ≡ take q as')
marker-found None as' js e = cc
marker-found (Some (negsuc k)) as' js e = cc
marker-found (Some (pos q)) as' js e = go (nat_le q (length as')) e
  where
    go : (b : Bool) → option_map (λ n. take n as') (if b then Some q else None) ≡ Some js →
        (p : ℕ) × (Some (pos q) ≡ Some (pos p)) × (js ≡ take p as')
    go true e = (q, refl, sym (let z : take q as' ≡ js = cc in z))
    go false e = cc

-- Whether a number is at most q.
abbrev up_to_number : ℕ → ℤ → Bool
up_to_number q k = not (below (number (pos q)) (number k))

above : (q a : ℕ) → q < a → up_to_number q (pos a) ≡ false
above q a h = ap (λ o. not (is_lt o)) (sym (int_cmp_is (pos q) (pos a) Less (let e : pos q <ℤ pos a = omega (arith, ints) in e)))

at-most : (q a : ℕ) → a ≤ q → up_to_number q (pos a) ≡ true
at-most q a h = go (eq-or-lt_of_le h)
  where
    go : (a ≡ q) ⊎ (a < q) → up_to_number q (pos a) ≡ true
    go (inl e) = ap (λ o. not (is_lt o)) (sym (int_cmp_is (pos q) (pos a) Equal (ap pos (sym e))))
    go (inr l) = ap (λ o. not (is_lt o)) (sym (int_cmp_is (pos q) (pos a) Greater (let e : pos a <ℤ pos q = omega (arith, ints) in e)))

none-left : (q a n : ℕ) → q < a → filter (up_to_number q) (run_from a n) ≡ []
none-left q a zero h = refl
none-left q a (suc n) h = ap (λ b. if b then pos a ∷ filter (up_to_number q) (run_from (suc a) n)
    else filter (up_to_number q) (run_from (suc a) n)) (above q a h)
    ∙ none-left q (suc a) n (omega arith)

-- The first b of a run are those up to a number.
first-are : (q a n b : ℕ) → a + b ≡ q + 1 → take b (map as_place (run_from a n)) ≡ map as_place (filter (up_to_number q) (run_from a n))
first-are q a zero zero h = refl
first-are q a zero (suc b) h = refl
first-are q a (suc n) zero h = sym (ap (map as_place) (none-left q a (suc n) (omega arith)))
first-are q a (suc n) (suc b) h = ap (λ l. (pos a ∷ []) ∷ l) (first-are q (suc a) n b (omega arith))
    ∙ ap (λ b. map as_place (if b then pos a ∷ filter (up_to_number q) (run_from (suc a) n)
    else filter (up_to_number q) (run_from (suc a) n))) (sym (at-most q a (omega arith)))

-- Nothing behind an index list.
behind-nothing : (i : List ℤ) → i ++ [] ≡ i
behind-nothing [] = refl
behind-nothing (k ∷ i) = ap (λ l. k ∷ l) (behind-nothing i)

-- ---- what the tables stand for

module _ (r : Repr) (ks : List Attribute) (d : Domain) where
  abbrev K : ReprKind
  K = ReprKind.MSetExplicitWithRepetition

  abbrev S : Repr
  S = repr K (more_reprs r no_reprs)

  -- The places in use and the values there.
  record MembersStand (c : Cells) : Type 0 where
    pub js : List (List ℤ)
    pub vs : List Value
    pub places : places_by up_to_marker (own_part K c) (lists_of (one_to (slots_of_mset ks d) ∷ [])) ≡ Some js
    pub values : each_of js (In r d (child_part K c)) ≡ Some vs
    pub is_value : value_of_cells S (msets ks d) c ≡ Some (mset_of vs)
    pub members : list_all (member d) vs ≡ true
    pub orderly : list_all (orderly_in r d (child_part K c)) js ≡ true

  module _ (c : Cells) where
    abbrev P : List (List ℤ)
    P = lists_of (one_to (slots_of_mset ks d) ∷ [])

    abbrev Built : Option (List (List ℤ)) → Option Value
    Built o = and_then o (λ js. and_then (values_of_children (more_reprs r no_reprs) (d ∷ []) (child_part K c) js)
        (λ vss. Some (mset_of (only_child vss))))

    abbrev Orderly : Option (List (List ℤ)) → Bool
    Orderly o = is_some_and o (are_orderly (repetition_layer ks d) (more_reprs r no_reprs) (d ∷ []) (child_part K c))

    members-stand : tidy_cells S (msets ks d) c ≡ true → MembersStand c
    members-stand h = go (places_by up_to_marker (own_part K c) P) refl
        (and-left (is_some_and (value_of_cells S (msets ks d) c) (member (msets ks d))) (is_orderly S (msets ks d) c) h)
        (and-right (in_use_first (repetition_layer ks d) (own_part K c)) (Orderly (places_by up_to_marker (own_part K c) P))
        (and-right (is_some_and (value_of_cells S (msets ks d) c) (member (msets ks d))) (is_orderly S (msets ks d) c) h))
      where
        inner : (js : List (List ℤ)) (o : Option (List Value)) → places_by up_to_marker (own_part K c) P ≡ Some js →
            each_of js (In r d (child_part K c)) ≡ o →
            is_some_and (and_then (and_then o (λ vs. option_map (λ vss. vs ∷ vss) (Some []))) (λ vss. Some (mset_of (only_child vss))))
            (member (msets ks d)) ≡ true →
            are_orderly (repetition_layer ks d) (more_reprs r no_reprs) (d ∷ []) (child_part K c) js ≡ true → MembersStand c
        inner js None p q m y = no m
        inner js (Some vs) p q m y = record {
          js = js;
          vs = vs;
          places = p;
          values = q;
          is_value = ap Built p ∙ ap (λ o. and_then (and_then o (λ vs. option_map (λ vss. vs ∷ vss) (Some [])))
              (λ vss. Some (mset_of (only_child vss)))) q;
          members = sym (ap (list_all (member d)) (to_list-of_list (sorted vs)) ∙ sorted-all (member d) vs)
              ∙ and-right _ _ (and-left _ _ m);
          orderly = and-left _ _ (and-left _ _ y);
        }

        go : (o : Option (List (List ℤ))) → places_by up_to_marker (own_part K c) P ≡ o →
            is_some_and (Built o) (member (msets ks d)) ≡ true → Orderly o ≡ true → MembersStand c
        go None p m y = no m
        go (Some js) p m y = inner js (each_of js (In r d (child_part K c))) p refl m y

module _ (x : Text) (n : Ex) (ms : List Mark) (es js : Exs) (dd : Dom) (m : Text) (ns : List Text) (r : Repr) (env : Env)
    (new-d : NamesAreDom (λ a. not (same_text x a)) (λ a. true) dd) (new-js : NamesAreExs (λ a. not (same_text x a)) (λ a. true) js) where
  abbrev R : Repr
  R = repr ReprKind.MSetExplicitWithRepetition (more_reprs r no_reprs)

  abbrev View : Ex
  View = seen_ex R (mset_dom ms es dd) (m ∷ ns) js

  abbrev Marker : Ex
  Marker = cell_ex false m js

  abbrev Used : Ex
  Used = ex2 true Op2.Le (name_ex x) Marker

  abbrev Listing : Alternative
  Listing = record { gens = over (name_pat x) (slots_dom n) (cond Used no_gens); item = seen_ex r dd ns (put_last js (name_ex x)) }

  module _ (ks : List Attribute) (d : Domain) (t0 : Table) (ts : Tables) (i : List ℤ) (attributes-are : attributes_of ms (meanings es env)
      ≡ Some ks) (dom-is : domain_of dd env ≡ Some d)
      (first-is : look env.cells m ≡ Some t0) (tables-are : tables_in env.cells ns ≡ Some ts) (index-is : indices (meanings js env) ≡
      Some i)
      (h : tidy R (msets ks d) (t0 ∷ ts) i ≡ true) (n-is : meaning n env ≡ Some (number (pos (slots_of_mset ks d)))) where
    abbrev N : ℕ
    N = slots_of_mset ks d

    stand : MembersStand r ks d (cells_at (t0 ∷ ts) i)
    stand = members-stand r ks d (cells_at (t0 ∷ ts) i) (and-right _ _ h)

    over-slots : (k : ℤ) → over_axes (i ++ (k ∷ [])) (axes_of r d) ts ≡ true
    over-slots k = ap (λ z. over_axes (i ++ (k ∷ [])) z ts) (sym (axes-same true r d))
        ∙ over-behind i k (one_to N) (declarations_below true r d) ts (and-right _ _ (and-left _ _ h))

    short : length ts ≤ width r
    short = let a = over-long (i ++ (pos 0 ∷ [])) (axes_of r d) ts (over-slots (pos 0)) in let b =
        axes-long (declarations_below false r d) in
        let c = tables-short false r d in omega arith

    found : (q : ℕ) × (cell_at t0 (i ++ []) ≡ Some (pos q)) × (stand.js ≡ take q (lists_of (one_to N ∷ [])))
    found = marker-found (cell_at t0 (i ++ [])) (lists_of (one_to N ∷ [])) stand.js stand.places

    abbrev t : ℤ → Bool
    t k = up_to_number found.0 k

    js-are : stand.js ≡ map as_place (filter t (one_to N))
    js-are = found.2 ∙ ap (take found.0) (slots-are (one_to N)) ∙ first-are found.0 1 N found.0 (omega arith)

    marker-is : meaning Marker env ≡ Some (number (pos found.0))
    marker-is = ap (λ o. cell_in false o (indices (meanings js env))) first-is ∙ ap (cell_in false (Some t0)) index-is
        ∙ ap (option_map (cell_value false)) (ap (cell_at t0) (sym (behind-nothing i)) ∙ found.1)

    says : (k : ℤ) → meaning Used (behind x (number k) env) ≡ Some (truth (t k))
    says k = binary-means (behind x (number k) env) true Op2.Le (name_ex x) Marker (number k) (number (pos found.0))
        (name-behind x (number k) env)
        (meaning-behind x (number k) Marker env new-js ∙ marker-is)

    view-is : meaning View env ≡ Some (mset_of stand.vs)
    view-is =
        ap (λ o. seen_in R (and_then o (λ ks. option_map (msets ks) (domain_of dd env))) (tables_in env.cells (m ∷ ns))
        (indices (meanings js env))) attributes-are
        ∙ ap (λ o. seen_in R (option_map (msets ks) o) (tables_in env.cells (m ∷ ns)) (indices (meanings js env))) dom-is
        ∙ ap (λ o. seen_in R (Some (msets ks d)) (and_then o (λ t. option_map (λ us. t ∷ us) (tables_in env.cells ns)))
        (indices (meanings js env))) first-is
        ∙ ap (λ o. seen_in R (Some (msets ks d)) (option_map (λ us. t0 ∷ us) o) (indices (meanings js env))) tables-are
        ∙ ap (seen_in R (Some (msets ks d)) (Some (t0 ∷ ts))) index-is
        ∙ stand.is_value

    marker-offers : MeetsDom dd env → MeetsAll false js env → Meets n env → Offers View (Listing ∷ []) env
    marker-offers md mj mn = used-offers x n Used dd ns js r env d ts i new-d new-js dom-is tables-are index-is N n-is short over-slots t
        says stand.vs
        (ap (λ l. each_of l (In r d (cells_at ts i))) (sym js-are) ∙ stand.values) stand.members
        (ap (list_all (orderly_in r d (cells_at ts i))) (sym js-are) ∙ stand.orderly)
        View view-is (λ k. (tt, (meets-behind x (number k) Marker env new-js mj, tt))) md mj mn

  listed : (a : Option (List Attribute)) (e : Option Domain) (o : Option Table) (t : Option Tables) (i : Option (List ℤ)) →
      attributes_of ms (meanings es env) ≡ a → domain_of dd env ≡ e →
      look env.cells m ≡ o → tables_in env.cells ns ≡ t → indices (meanings js env) ≡ i →
      IsTrue (tidy_in R (and_then a (λ ks. option_map (msets ks) e)) (and_then o (λ z. option_map (λ us. z ∷ us) t)) i) → MeetsDom dd env →
      MeetsAll false js env →
      MultisetSlotsAre n View env → Offers View (Listing ∷ []) env
  listed (Some ks) (Some e) (Some o) (Some t) (Some i) p q z s w h md mj c =
      marker-offers ks e o t i p q z s w h (c.counts ks e (ap (λ o. and_then o (λ ks. option_map (msets ks) (domain_of dd env))) p
      ∙ ap (option_map (msets ks)) q)) md mj c.met
  listed (Some ks) (Some e) (Some o) (Some t) None p q z s w h md mj c = no h
  listed (Some ks) (Some e) (Some o) None i p q z s w h md mj c = no h
  listed (Some ks) (Some e) None t i p q z s w h md mj c = no h
  listed (Some ks) None o t i p q z s w h md mj c = no h
  listed None e o t i p q z s w h md mj c = no h

-- Multisets in slots up to a marker.
pub repetition_members-offered : SlottedMembersAreListed
repetition_members-offered x n (seen_ex (repr ReprKind.MSetExplicitWithRepetition (more_reprs r no_reprs)) (mset_dom ms es d) (m ∷ ns) js)
    env o a c =
    listed x n ms es js d m ns r env o.0.1 o.1 (attributes_of ms (meanings es env)) (domain_of d env) (look env.cells m)
    (tables_in env.cells ns) (indices (meanings js env))
    refl refl refl refl refl a.0 a.1.1 a.2 c
repetition_members-offered x n _ env o a c = tt
