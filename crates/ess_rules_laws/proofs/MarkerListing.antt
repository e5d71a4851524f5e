-- A view of a set in slots up to a marker offers the views in the slots up to it.
use Rattle.std.proofs.Common.{◌≡◌, refl, sym, ap, ◌∙◌, ℕ, zero, suc, ◌+◌, ◌≤◌, ◌<◌, Bool, true, false, if◌then◌else◌, not, List, [], ◌∷◌, ◌++◌, map, filter, take, length, ℤ, pos, negsuc, ◌<ℤ◌, Option, Some, None, option_map, nat_le, arith, eq-or-lt_of_le, ◌⊎◌, inl, inr}
use Rattle.std.proofs.lemmas.Int.{ints}
use Rattle.std.specs.Ordering.{is_lt}
use Rattle.std.specs.Cmp.{int_cmp_is}
use Rattle.std.specs.declared.cmp.Ordering.TheVariants.{Less, Equal, Greater}
use Rattle.std.specs.Prelude.{IsTrue}
use Rattle.std.specs.List.{list_all}
use Rattle.ess_semantics.specs.declared.words.Op2.{Op2}
use Rattle.ess_semantics.specs.declared.words.ReprKind.{ReprKind}
use Rattle.ess_semantics.specs.Lists.{and_then, each_of, is_some_and}
use Rattle.ess_semantics.specs.Values.{Text, number, truth}
use Rattle.ess_semantics.specs.Order.{same_text, below}
use Rattle.ess_semantics.specs.Collections.{set_of}
use Rattle.ess_semantics.specs.Names.{look}
use Rattle.ess_semantics.specs.Numbers.{natural, run_from, one_to}
use Rattle.ess_semantics.specs.Attributes.{set_attributes_hold}
use Rattle.ess_semantics.specs.Trees.{Mark, Repr, repr, no_reprs, more_reprs, name_pat, Ex, Exs, name_ex, cell_ex, seen_ex, ex2, no_gens, over, cond, Dom, set_dom}
use Rattle.ess_semantics.specs.Domains.{Attribute, Domain, sets, lists_of}
use Rattle.ess_semantics.specs.Tables.{Table, Tables, cell_at}
use Rattle.ess_semantics.specs.Cells.{cells_at}
use Rattle.ess_semantics.specs.Layers.{up_to_marker, up_to, fixed_table, own_cell, within_slots}
use Rattle.ess_semantics.specs.SetLayers.{marker_table}
use Rattle.ess_semantics.specs.Sizes.{slots_of_set}
use Rattle.ess_semantics.specs.Representations.{width}
use Rattle.ess_semantics.specs.Declarations.{declarations_below, axes_of}
use Rattle.ess_semantics.specs.Tidy.{tidy, over_axes}
use Rattle.ess_semantics.specs.Meaning.{Env, meaning, meanings, attributes_of, domain_of, indices, tables_in, seen_in, cell_in, cell_value}
use Rattle.ess_semantics.specs.Meets.{Meets, MeetsAll, MeetsDom, tidy_in}
use Rattle.ess_semantics.specs.Substitution.{NamesAreExs, NamesAreDom}
use Rattle.ess_semantics.proofs.Tests.{and-left, and-right}
use Rattle.ess_rules_laws.specs.Rules.{Unused}
use Rattle.ess_rules_laws.specs.Listings.{Alternative}
use Rattle.ess_rules_laws.specs.SetListings.{put_last}
use Rattle.ess_rules_laws.specs.ListedSources.{Offers}
use Rattle.ess_rules_laws.specs.SlotListings.{slots_dom, marker_listing, SlotsAre, OffersWhereMet}
use Rattle.ess_rules_laws.proofs.Connectives.{binary-means}
use Rattle.ess_rules_laws.proofs.RuleAnswers.{behind, meaning-behind, name-behind, meets-behind}
use Rattle.ess_rules_laws.proofs.TablesOfViews.{tables-short, axes-long, axes-same, over-behind, over-long}
use Rattle.ess_rules_laws.proofs.SlotNumbers.{as_place, slots-are}
use Rattle.ess_rules_laws.proofs.SlotSets.{In, orderly_in, SlotsStand, slots-stand}
use Rattle.ess_rules_laws.proofs.UsedSlots.{used-offers}

no : {A : Type 0} → false ≡ true → A
no h = cc

-- A marker that is there says how many of the first places are in use.
marker-found : (o : Option ℤ) (as' js : List (List ℤ)) →
    and_then o (λ m. option_map (λ n. take n as') (within_slots m (length as'))) ≡ Some js → (q : ℕ) × (o ≡ Some (pos q))
    × (js ≡ take q as')
marker-found None as' js e = cc
marker-found (Some (negsuc k)) as' js e = cc
marker-found (Some (pos q)) as' js e = go (nat_le q (length as')) e
  where
    go : (b : Bool) → option_map (λ n. take n as') (if b then Some q else None) ≡ Some js →
        (p : ℕ) × (Some (pos q) ≡ Some (pos p)) × (js ≡ take p as')
    go true e = (q, refl, sym (let z : take q as' ≡ js = cc in z))
    go false e = cc

-- Whether a number is at most q.
abbrev up_to_number : ℕ → ℤ → Bool
up_to_number q k = not (below (number (pos q)) (number k))

above : (q a : ℕ) → q < a → up_to_number q (pos a) ≡ false
above q a h = ap (λ o. not (is_lt o)) (sym (int_cmp_is (pos q) (pos a) Less (let e : pos q <ℤ pos a = omega (arith, ints) in e)))

at-most : (q a : ℕ) → a ≤ q → up_to_number q (pos a) ≡ true
at-most q a h = go (eq-or-lt_of_le h)
  where
    go : (a ≡ q) ⊎ (a < q) → up_to_number q (pos a) ≡ true
    go (inl e) = ap (λ o. not (is_lt o)) (sym (int_cmp_is (pos q) (pos a) Equal (ap pos (sym e))))
    go (inr l) = ap (λ o. not (is_lt o)) (sym (int_cmp_is (pos q) (pos a) Greater (let e : pos a <ℤ pos q = omega (arith, ints) in e)))

none-left : (q a n : ℕ) → q < a → filter (up_to_number q) (run_from a n) ≡ []
none-left q a zero h = refl
none-left q a (suc n) h = ap (λ b. if b then pos a ∷ filter (up_to_number q) (run_from (suc a) n)
    else filter (up_to_number q) (run_from (suc a) n)) (above q a h)
    ∙ none-left q (suc a) n (omega arith)

-- The first b of a run are those up to a number.
first-are : (q a n b : ℕ) → a + b ≡ q + 1 → take b (map as_place (run_from a n)) ≡ map as_place (filter (up_to_number q) (run_from a n))
first-are q a zero zero h = refl
first-are q a zero (suc b) h = refl
first-are q a (suc n) zero h = sym (ap (map as_place) (none-left q a (suc n) (omega arith)))
first-are q a (suc n) (suc b) h = ap (λ l. (pos a ∷ []) ∷ l) (first-are q (suc a) n b (omega arith))
    ∙ ap (λ b. map as_place (if b then pos a ∷ filter (up_to_number q) (run_from (suc a) n)
    else filter (up_to_number q) (run_from (suc a) n))) (sym (at-most q a (omega arith)))

-- Nothing behind an index list.
behind-nothing : (i : List ℤ) → i ++ [] ≡ i
behind-nothing [] = refl
behind-nothing (k ∷ i) = ap (λ l. k ∷ l) (behind-nothing i)

module _ (x : Text) (n : Ex) (ms : List Mark) (es js : Exs) (dd : Dom) (m : Text) (ns : List Text) (r : Repr) (env : Env)
    (new-d : NamesAreDom (λ a. not (same_text x a)) (λ a. true) dd) (new-js : NamesAreExs (λ a. not (same_text x a)) (λ a. true) js) where
  abbrev R : Repr
  R = repr ReprKind.ExplicitVarSizeWithMarker (more_reprs r no_reprs)

  abbrev View : Ex
  View = seen_ex R (set_dom ms es dd) (m ∷ ns) js

  abbrev Marker : Ex
  Marker = cell_ex false m js

  abbrev Used : Ex
  Used = ex2 true Op2.Le (name_ex x) Marker

  abbrev Listing : Alternative
  Listing = record { gens = over (name_pat x) (slots_dom n) (cond Used no_gens); item = seen_ex r dd ns (put_last js (name_ex x)) }

  module _ (ks : List Attribute) (d : Domain) (t0 : Table) (ts : Tables) (i : List ℤ) (attributes-are : attributes_of ms (meanings es env)
      ≡ Some ks) (dom-is : domain_of dd env ≡ Some d)
      (first-is : look env.cells m ≡ Some t0) (tables-are : tables_in env.cells ns ≡ Some ts) (index-is : indices (meanings js env) ≡
      Some i)
      (h : tidy R (sets ks d) (t0 ∷ ts) i ≡ true) (n-is : meaning n env ≡ Some (number (pos (slots_of_set ks d)))) where
    abbrev N : ℕ
    N = slots_of_set ks d

    stand : SlotsStand ReprKind.ExplicitVarSizeWithMarker r ks d N up_to_marker (fixed_table [] (up_to N) ∷ []) marker_table
        (λ c vss. is_some_and (own_cell c []) (λ m. set_attributes_hold ks (natural m))) (cells_at (t0 ∷ ts) i)
    stand = slots-stand ReprKind.ExplicitVarSizeWithMarker r ks d N up_to_marker (fixed_table [] (up_to N) ∷ []) marker_table
        (λ c vss. is_some_and (own_cell c []) (λ m. set_attributes_hold ks (natural m))) refl (cells_at (t0 ∷ ts) i) (and-right _ _ h)

    over-slots : (k : ℤ) → over_axes (i ++ (k ∷ [])) (axes_of r d) ts ≡ true
    over-slots k = ap (λ z. over_axes (i ++ (k ∷ [])) z ts) (sym (axes-same true r d))
        ∙ over-behind i k (one_to N) (declarations_below true r d) ts (and-right _ _ (and-left _ _ h))

    short : length ts ≤ width r
    short = let a = over-long (i ++ (pos 0 ∷ [])) (axes_of r d) ts (over-slots (pos 0)) in let b =
        axes-long (declarations_below false r d) in
        let c = tables-short false r d in omega arith

    found : (q : ℕ) × (cell_at t0 (i ++ []) ≡ Some (pos q)) × (stand.js ≡ take q (lists_of (one_to N ∷ [])))
    found = marker-found (cell_at t0 (i ++ [])) (lists_of (one_to N ∷ [])) stand.js stand.places

    abbrev t : ℤ → Bool
    t k = up_to_number found.0 k

    js-are : stand.js ≡ map as_place (filter t (one_to N))
    js-are = found.2 ∙ ap (take found.0) (slots-are (one_to N)) ∙ first-are found.0 1 N found.0 (omega arith)

    marker-is : meaning Marker env ≡ Some (number (pos found.0))
    marker-is = ap (λ o. cell_in false o (indices (meanings js env))) first-is ∙ ap (cell_in false (Some t0)) index-is
        ∙ ap (option_map (cell_value false)) (ap (cell_at t0) (sym (behind-nothing i)) ∙ found.1)

    says : (k : ℤ) → meaning Used (behind x (number k) env) ≡ Some (truth (t k))
    says k = binary-means (behind x (number k) env) true Op2.Le (name_ex x) Marker (number k) (number (pos found.0))
        (name-behind x (number k) env)
        (meaning-behind x (number k) Marker env new-js ∙ marker-is)

    view-is : meaning View env ≡ Some (set_of stand.vs)
    view-is =
        ap (λ o. seen_in R (and_then o (λ ks. option_map (sets ks) (domain_of dd env))) (tables_in env.cells (m ∷ ns))
        (indices (meanings js env))) attributes-are
        ∙ ap (λ o. seen_in R (option_map (sets ks) o) (tables_in env.cells (m ∷ ns)) (indices (meanings js env))) dom-is
        ∙ ap (λ o. seen_in R (Some (sets ks d)) (and_then o (λ t. option_map (λ us. t ∷ us) (tables_in env.cells ns)))
        (indices (meanings js env))) first-is
        ∙ ap (λ o. seen_in R (Some (sets ks d)) (option_map (λ us. t0 ∷ us) o) (indices (meanings js env))) tables-are
        ∙ ap (seen_in R (Some (sets ks d)) (Some (t0 ∷ ts))) index-is
        ∙ stand.is_value

    marker-offers : MeetsDom dd env → MeetsAll false js env → Meets n env → Offers View (Listing ∷ []) env
    marker-offers md mj mn = used-offers x n Used dd ns js r env d ts i new-d new-js dom-is tables-are index-is N n-is short over-slots t
        says stand.vs
        (ap (λ l. each_of l (In r d (cells_at ts i))) (sym js-are) ∙ stand.values) stand.members stand.differ
        (ap (list_all (orderly_in r d (cells_at ts i))) (sym js-are) ∙ stand.orderly)
        View view-is (λ k. (tt, (meets-behind x (number k) Marker env new-js mj, tt))) md mj mn

  listed : (a : Option (List Attribute)) (e : Option Domain) (o : Option Table) (t : Option Tables) (i : Option (List ℤ)) →
      attributes_of ms (meanings es env) ≡ a → domain_of dd env ≡ e →
      look env.cells m ≡ o → tables_in env.cells ns ≡ t → indices (meanings js env) ≡ i →
      IsTrue (tidy_in R (and_then a (λ ks. option_map (sets ks) e)) (and_then o (λ z. option_map (λ us. z ∷ us) t)) i) → MeetsDom dd env →
      MeetsAll false js env →
      SlotsAre n View env → Offers View (Listing ∷ []) env
  listed (Some ks) (Some e) (Some o) (Some t) (Some i) p q z s w h md mj c =
      marker-offers ks e o t i p q z s w h (c.counts ks e (ap (λ o. and_then o (λ ks. option_map (sets ks) (domain_of dd env))) p
      ∙ ap (option_map (sets ks)) q)) md mj c.met
  listed (Some ks) (Some e) (Some o) (Some t) None p q z s w h md mj c = no h
  listed (Some ks) (Some e) (Some o) None i p q z s w h md mj c = no h
  listed (Some ks) (Some e) None t i p q z s w h md mj c = no h
  listed (Some ks) None o t i p q z s w h md mj c = no h
  listed None e o t i p q z s w h md mj c = no h

-- Sets in slots up to a marker.
pub marker-listed : (x : Text) (n e : Ex) (env : Env) → Unused x e → Meets e env → SlotsAre n e env →
    OffersWhereMet (marker_listing x n e) e env
marker-listed x n (seen_ex (repr ReprKind.ExplicitVarSizeWithMarker (more_reprs r no_reprs)) (set_dom ms es d) (m ∷ ns) js) env o a c =
    listed x n ms es js d m ns r env o.0.1 o.1 (attributes_of ms (meanings es env)) (domain_of d env) (look env.cells m)
    (tables_in env.cells ns) (indices (meanings js env))
    refl refl refl refl refl a.0 a.1.1 a.2 c
marker-listed x n _ env o a c = tt
