-- A view of a set in slots all in use offers the views in its slots.
use Rattle.std.proofs.Common.{◌≡◌, refl, sym, ap, ◌∙◌, subst, ℕ, ◌≤◌, Bool, true, false, not, List, [], ◌∷◌, ◌++◌, map, length, ℤ, pos, Option, Some, None, option_map, arith}
use Rattle.std.specs.Prelude.{IsTrue}
use Rattle.std.specs.List.{list_all}
use Rattle.ess_semantics.specs.declared.words.ReprKind.{ReprKind}
use Rattle.ess_semantics.specs.Lists.{and_then, each_of, list_or_none}
use Rattle.ess_semantics.specs.Values.{Text, Value, number, truth, items_of}
use Rattle.ess_semantics.specs.Order.{same_text}
use Rattle.ess_semantics.specs.Collections.{sorted_once, set_of}
use Rattle.ess_semantics.specs.Numbers.{one_to}
use Rattle.ess_semantics.specs.Attributes.{set_attributes_hold}
use Rattle.ess_semantics.specs.Trees.{Mark, Repr, repr, no_reprs, more_reprs, name_pat, Ex, Exs, name_ex, seen_ex, no_exs, more_exs, no_gens, over, Dom, bool_dom, set_dom}
use Rattle.ess_semantics.specs.Domains.{Attribute, Domain, booleans, sets, lists_of}
use Rattle.ess_semantics.specs.Membership.{member}
use Rattle.ess_semantics.specs.Operators.{false_where_undefined}
use Rattle.ess_semantics.specs.Tables.{Tables}
use Rattle.ess_semantics.specs.Cells.{cells_at}
use Rattle.ess_semantics.specs.Layers.{all_slots, no_own_tables}
use Rattle.ess_semantics.specs.Sizes.{slots_of_set}
use Rattle.ess_semantics.specs.Representations.{width, value_of_tables}
use Rattle.ess_semantics.specs.Declarations.{declarations_below, axes_of}
use Rattle.ess_semantics.specs.Tidy.{tidy, over_axes}
use Rattle.ess_semantics.specs.Meaning.{Env, meaning, meanings, collect, attributes_of, domain_of, indices, tables_in, is_bool_dom, seen_in}
use Rattle.ess_semantics.specs.Contexts.{Each, EachOf}
use Rattle.ess_semantics.specs.Meets.{Meets, MeetsAll, MeetsDom, tidy_in}
use Rattle.ess_semantics.specs.Substitution.{NamesAreExs, NamesAreDom}
use Rattle.ess_semantics.proofs.Tests.{and-left, and-right}
use Rattle.ess_semantics.proofs.Orders.{to_list-of_list}
use Rattle.ess_semantics.proofs.Sorting.{twice-distinct}
use Rattle.ess_rules_laws.specs.Rules.{Unused}
use Rattle.ess_rules_laws.specs.Listings.{Alternative, items_listed, all_listed}
use Rattle.ess_rules_laws.specs.SetListings.{put_last}
use Rattle.ess_rules_laws.specs.ListedSources.{Offers}
use Rattle.ess_rules_laws.specs.SlotListings.{slots_dom, explicit_listing, SlotsAre, OffersWhereMet}
use Rattle.ess_rules_laws.proofs.Simulation.{but}
use Rattle.ess_rules_laws.proofs.Agreement.{agree-but, domain-agree}
use Rattle.ess_rules_laws.proofs.MeetsSimulation.{meets-agree-dom}
use Rattle.ess_rules_laws.proofs.Permutations.{count-perm, sorted_once-perm}
use Rattle.ess_rules_laws.proofs.RuleAnswers.{behind, meets-behind}
use Rattle.ess_rules_laws.proofs.ListedItems.{counted-same, alone-listed}
use Rattle.ess_rules_laws.proofs.OccurrenceListing.{put-meanings, last-index}
use Rattle.ess_rules_laws.proofs.TablesOfViews.{tables-short, axes-long, over-behind, over-long}
use Rattle.ess_rules_laws.proofs.SlotNumbers.{as_place, slots-are, slots-members}
use Rattle.ess_rules_laws.proofs.SlotSets.{In, orderly_in, SlotsStand, slots-stand, slot-value, slot-tidy}

no : {A : Type 0} → false ≡ true → A
no h = cc

-- ---- slot by slot

module _ (d : Domain) (V : List ℤ → Option Value) where
  -- What is collected over the slots is what stands there.
  pub slots-collected : (G : Value → Option (List Value)) →
      ((k : ℤ) (v : Value) → V (k ∷ []) ≡ Some v → member d v ≡ true → G (number k) ≡ Some (v ∷ [])) →
      (ks : List ℤ) (vs : List Value) → each_of (map as_place ks) V ≡ Some vs → list_all (member d) vs ≡ true → collect (map number ks) G ≡
      Some vs
  slots-collected G f [] vs q m = q
  slots-collected G f (k ∷ ks) vs q m = go (V (k ∷ [])) refl (each_of (map as_place ks) V) refl q (λ ws r a. slots-collected G f ks ws r a)
    where
      go : (o : Option Value) → V (k ∷ []) ≡ o → (p : Option (List Value)) → each_of (map as_place ks) V ≡ p →
          and_then o (λ y. option_map (λ ys. y ∷ ys) p) ≡ Some vs →
          ((ws : List Value) → each_of (map as_place ks) V ≡ Some ws → list_all (member d) ws ≡ true → collect (map number ks) G ≡
          Some ws) →
          and_then (G (number k)) (λ xs. option_map (λ ys. xs ++ ys) (collect (map number ks) G)) ≡ Some vs
      go None a p b q r = cc
      go (Some v) a None b q r = cc
      go (Some v) a (Some ws) b q r = let e : list_all (member d) (v ∷ ws) ≡ true = ap (list_all (member d)) (ap list_or_none q) ∙ m in
          ap (λ o. and_then o (λ xs. option_map (λ ys. xs ++ ys) (collect (map number ks) G))) (f k v a (and-left _ _ e))
          ∙ ap (option_map (λ ys. v ∷ ys)) (r ws b (and-right _ _ e)) ∙ q

  -- What follows of a slot from what stands there holds at each slot.
  pub slots-each : (O : List ℤ → Bool) (P : Value → Type 0) →
      ((k : ℤ) (v : Value) → V (k ∷ []) ≡ Some v → member d v ≡ true → O (k ∷ []) ≡ true → P (number k)) →
      (ks : List ℤ) (vs : List Value) → each_of (map as_place ks) V ≡ Some vs → list_all (member d) vs ≡ true →
      list_all O (map as_place ks) ≡ true → Each (map number ks) P
  slots-each O P f [] vs q m h = tt
  slots-each O P f (k ∷ ks) vs q m h = go (V (k ∷ [])) refl (each_of (map as_place ks) V) refl q
      (λ ws r a. slots-each O P f ks ws r a (and-right _ _ h))
    where
      go : (o : Option Value) → V (k ∷ []) ≡ o → (p : Option (List Value)) → each_of (map as_place ks) V ≡ p →
          and_then o (λ y. option_map (λ ys. y ∷ ys) p) ≡ Some vs →
          ((ws : List Value) → each_of (map as_place ks) V ≡ Some ws → list_all (member d) ws ≡ true → Each (map number ks) P) →
          P (number k) × Each (map number ks) P
      go None a p b q r = cc
      go (Some v) a None b q r = cc
      go (Some v) a (Some ws) b q r = let e : list_all (member d) (v ∷ ws) ≡ true = ap (list_all (member d)) (ap list_or_none q) ∙ m in
          (f k v a (and-left _ _ e) (and-left _ _ h), r ws b (and-right _ _ e))

-- ---- the view in a slot

-- A member of a domain that is bool is a truth value.
bool-fits : (dd : Dom) (d : Domain) (env : Env) (v : Value) → domain_of dd env ≡ Some d → member d v ≡ true →
    false_where_undefined (is_bool_dom dd) (Some v) ≡ Some v
bool-fits bool_dom d env v q m = go v (subst (λ z. IsMember z) (sym q) m)
  where
    IsMember : Option Domain → Type 0
    IsMember None = Unit {0}
    IsMember (Some e) = member e v ≡ true

    go : (v : Value) → member booleans v ≡ true → false_where_undefined true (Some v) ≡ Some v
    go (truth b) m = refl
    go _ m = no m
bool-fits _ d env v q m = refl

-- The structures of an index list with one more index are met.
pub last-met : (x : Text) (v : Value) (js : Exs) (env : Env) → NamesAreExs (λ a. not (same_text x a)) (λ a. true) js →
    MeetsAll false js env →
    MeetsAll false (put_last js (name_ex x)) (behind x v env)
last-met x v no_exs env o m = (tt, tt)
last-met x v (more_exs e es) env o m = (meets-behind x v e env o.0 m.0, last-met x v es env o.1 m.1)

module _ (x : Text) (dd : Dom) (ns : List Text) (js : Exs) (r : Repr) (env : Env) (d : Domain) (ts : Tables) (i : List ℤ)
    (new-d : NamesAreDom (λ a. not (same_text x a)) (λ a. true) dd) (new-js : NamesAreExs (λ a. not (same_text x a)) (λ a. true) js)
    (dom-is : domain_of dd env ≡ Some d) (tables-are : tables_in env.cells ns ≡ Some ts) (index-is : indices (meanings js env) ≡ Some i)
  where
    -- The view in the slot of x.
    abbrev pub Item : Ex
    Item = seen_ex r dd ns (put_last js (name_ex x))

    domain-there : (v : Value) → domain_of dd (behind x v env) ≡ Some d
    domain-there v = domain-agree env.positions env.types env.cells (but x) dd env.vals ((x, v) ∷ env.vals) new-d (agree-but x v env.vals)
        ∙ dom-is

    index-there : (k : ℤ) → indices (meanings (put_last js (name_ex x)) (behind x (number k) env)) ≡ Some (i ++ (k ∷ []))
    index-there k = ap indices (put-meanings x (number k) js env new-js) ∙ last-index (meanings js env) i (number k) index-is

    item-means : (k : ℤ) → meaning Item (behind x (number k) env) ≡
        false_where_undefined (is_bool_dom dd) (value_of_tables r d ts (i ++ (k ∷ [])))
    item-means k =
        ap (λ o. false_where_undefined (is_bool_dom dd)
        (seen_in r o (tables_in env.cells ns) (indices (meanings (put_last js (name_ex x)) (behind x (number k) env)))))
        (domain-there (number k))
        ∙ ap (λ o. false_where_undefined (is_bool_dom dd)
        (seen_in r (Some d) o (indices (meanings (put_last js (name_ex x)) (behind x (number k) env))))) tables-are
        ∙ ap (λ o. false_where_undefined (is_bool_dom dd) (seen_in r (Some d) (Some ts) o)) (index-there k)

    -- It has the value that stands there.
    pub item-is : (k : ℤ) (v : Value) → value_of_tables r d ts (i ++ (k ∷ [])) ≡ Some v → member d v ≡ true →
        meaning Item (behind x (number k) env) ≡ Some v
    item-is k v q m = item-means k ∙ ap (false_where_undefined (is_bool_dom dd)) q ∙ bool-fits dd d env v dom-is m

    -- Its structure is met where the tables are tidy there.
    pub item-met : (k : ℤ) → tidy r d ts (i ++ (k ∷ [])) ≡ true → MeetsDom dd env → MeetsAll false js env →
        Meets Item (behind x (number k) env)
    item-met k h m n = (
      ap (λ o. tidy_in r o (tables_in env.cells ns) (indices (meanings (put_last js (name_ex x)) (behind x (number k) env))))
          (domain-there (number k))
          ∙ ap (λ o. tidy_in r (Some d) o (indices (meanings (put_last js (name_ex x)) (behind x (number k) env)))) tables-are
          ∙ ap (tidy_in r (Some d) (Some ts)) (index-there k) ∙ h,
      meets-agree-dom env.positions env.types env.cells (but x) dd env.vals ((x, number k) ∷ env.vals) new-d
          (agree-but x (number k) env.vals) m,
      last-met x (number k) js env new-js n,
    )

-- ---- all slots in use

module _ (x : Text) (n : Ex) (ms : List Mark) (es js : Exs) (dd : Dom) (ns : List Text) (r : Repr) (env : Env)
    (new-d : NamesAreDom (λ a. not (same_text x a)) (λ a. true) dd) (new-js : NamesAreExs (λ a. not (same_text x a)) (λ a. true) js) where
  abbrev View : Ex
  View = seen_ex (repr ReprKind.Explicit (more_reprs r no_reprs)) (set_dom ms es dd) ns js

  abbrev Listing : Alternative
  Listing = record { gens = over (name_pat x) (slots_dom n) no_gens; item = seen_ex r dd ns (put_last js (name_ex x)) }

  module _ (ks : List Attribute) (d : Domain) (ts : Tables) (i : List ℤ) (attributes-are : attributes_of ms (meanings es env) ≡ Some ks)
      (dom-is : domain_of dd env ≡ Some d)
      (tables-are : tables_in env.cells ns ≡ Some ts) (index-is : indices (meanings js env) ≡ Some i)
      (h : tidy (repr ReprKind.Explicit (more_reprs r no_reprs)) (sets ks d) ts i ≡ true) (n-is : meaning n env ≡
      Some (number (pos (slots_of_set ks d)))) where
    abbrev N : ℕ
    N = slots_of_set ks d

    stand : SlotsStand ReprKind.Explicit r ks d N (all_slots N) [] no_own_tables (λ c vss. set_attributes_hold ks N) (cells_at ts i)
    stand = slots-stand ReprKind.Explicit r ks d N (all_slots N) [] no_own_tables (λ c vss. set_attributes_hold ks N) refl (cells_at ts i)
        (and-right _ _ h)

    over-slots : (k : ℤ) → over_axes (i ++ (k ∷ [])) (axes_of r d) ts ≡ true
    over-slots k = over-behind i k (one_to N) (declarations_below false r d) ts (and-left _ _ h)

    short : length ts ≤ width r
    short = let a = over-long (i ++ (pos 0 ∷ [])) (axes_of r d) ts (over-slots (pos 0)) in let b =
        axes-long (declarations_below false r d) in
        let c = tables-short false r d in omega arith

    js-are : stand.js ≡ map as_place (one_to N)
    js-are = sym (let e : lists_of (one_to N ∷ []) ≡ stand.js = ap list_or stand.places in e) ∙ slots-are (one_to N)
      where
        list_or : Option (List (List ℤ)) → List (List ℤ)
        list_or None = []
        list_or (Some xs) = xs

    values-are : each_of (map as_place (one_to N)) (In r d (cells_at ts i)) ≡ Some stand.vs
    values-are = ap (λ l. each_of l (In r d (cells_at ts i))) (sym js-are) ∙ stand.values

    abbrev At : Value → Option (List Value)
    At v = option_map (λ w. w ∷ []) (meaning Listing.item (behind x v env))

    items-are : items_listed Listing env ≡ Some stand.vs
    items-are = ap (λ o. and_then o (λ vs. collect vs At)) (slots-members n env N n-is)
        ∙ slots-collected d (In r d (cells_at ts i)) At
        (λ k v q m. ap (option_map (λ w. w ∷ []))
        (item-is x dd ns js r env d ts i new-d new-js dom-is tables-are index-is k v (sym (slot-value r d ts i short k) ∙ q) m))
        (one_to N) stand.vs values-are stand.members

    view-is : meaning View env ≡ Some (set_of stand.vs)
    view-is =
        ap (λ o. seen_in (repr ReprKind.Explicit (more_reprs r no_reprs)) (and_then o (λ ks. option_map (sets ks) (domain_of dd env)))
        (tables_in env.cells ns) (indices (meanings js env))) attributes-are
        ∙ ap (λ o. seen_in (repr ReprKind.Explicit (more_reprs r no_reprs)) (option_map (sets ks) o) (tables_in env.cells ns)
        (indices (meanings js env))) dom-is
        ∙ ap (λ o. seen_in (repr ReprKind.Explicit (more_reprs r no_reprs)) (Some (sets ks d)) o (indices (meanings js env))) tables-are
        ∙ ap (seen_in (repr ReprKind.Explicit (more_reprs r no_reprs)) (Some (sets ks d)) (Some ts)) index-is
        ∙ stand.is_value

    explicit-offers : MeetsDom dd env → MeetsAll false js env → Meets n env → Offers View (Listing ∷ []) env
    explicit-offers md mj mn = record {
      lists = counted-same (option_map items_of (meaning View env)) (all_listed (Listing ∷ []) env) (sorted_once stand.vs) stand.vs
          (ap (option_map items_of) view-is ∙ ap Some (to_list-of_list (sorted_once stand.vs))) (alone-listed (items_listed Listing env)
          ∙ items-are)
          (count-perm (sorted_once-perm stand.vs (twice-distinct stand.vs stand.differ)));
      met = (
        (
          (tt, (mn, tt)),
          subst (λ o. EachOf o (λ v. Meets Listing.item (behind x v env))) (sym (slots-members n env N n-is))
              (slots-each d (In r d (cells_at ts i)) (orderly_in r d (cells_at ts i)) (λ v. Meets Listing.item (behind x v env))
              (λ k v q m o. item-met x dd ns js r env d ts i new-d new-js dom-is tables-are index-is k
              (slot-tidy r d ts i short k v (over-slots k) q m o) md mj)
              (one_to N) stand.vs values-are stand.members
              (subst (λ l. list_all (orderly_in r d (cells_at ts i)) l ≡ true) js-are stand.orderly)),
        ),
        tt,
      );
    }

  listed : (a : Option (List Attribute)) (e : Option Domain) (t : Option Tables) (i : Option (List ℤ)) → attributes_of ms (meanings es env)
      ≡ a → domain_of dd env ≡ e → tables_in env.cells ns ≡ t →
      indices (meanings js env) ≡ i → IsTrue (tidy_in (repr ReprKind.Explicit (more_reprs r no_reprs))
      (and_then a (λ ks. option_map (sets ks) e)) t i) → MeetsDom dd env → MeetsAll false js env →
      SlotsAre n View env → Offers View (Listing ∷ []) env
  listed (Some ks) (Some e) (Some t) (Some i) p q s w h md mj c =
      explicit-offers ks e t i p q s w h (c.counts ks e (ap (λ o. and_then o (λ ks. option_map (sets ks) (domain_of dd env))) p
      ∙ ap (option_map (sets ks)) q)) md mj c.met
  listed (Some ks) (Some e) (Some t) None p q s w h md mj c = no h
  listed (Some ks) (Some e) None i p q s w h md mj c = no h
  listed (Some ks) None t i p q s w h md mj c = no h
  listed None e t i p q s w h md mj c = no h

-- Sets in slots all in use.
pub explicit-listed : (x : Text) (n e : Ex) (env : Env) → Unused x e → Meets e env → SlotsAre n e env →
    OffersWhereMet (explicit_listing x n e) e env
explicit-listed x n (seen_ex (repr ReprKind.Explicit (more_reprs r no_reprs)) (set_dom ms es d) ns js) env o m c =
    listed x n ms es js d ns r env o.0.1 o.1 (attributes_of ms (meanings es env)) (domain_of d env) (tables_in env.cells ns)
    (indices (meanings js env)) refl refl refl refl m.0 m.1.1 m.2 c
explicit-listed x n _ env o m c = tt
