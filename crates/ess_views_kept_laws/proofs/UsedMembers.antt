-- Slots of which a condition says that they are in use: their views list the members of a multiset.
use Rattle.std.proofs.Common.{◌≡◌, refl, sym, ap, ◌∙◌, subst, ℕ, ◌≤◌, Bool, true, false, if◌then◌else◌, not, List, [], ◌∷◌, ◌++◌, map, filter, length, ℤ, pos, Option, Some, option_map}
use Rattle.std.specs.List.{list_all}
use Rattle.ess_semantics.specs.Lists.{and_then, each_of}
use Rattle.ess_semantics.specs.Values.{Text, Value, number, truth, items_of}
use Rattle.ess_semantics.specs.Order.{same_text}
use Rattle.ess_semantics.specs.Collections.{sorted, mset_of}
use Rattle.ess_semantics.specs.Numbers.{one_to}
use Rattle.ess_semantics.specs.Trees.{Repr, name_pat, Ex, Exs, no_gens, over, cond, Dom}
use Rattle.ess_semantics.specs.Domains.{Domain}
use Rattle.ess_semantics.specs.Membership.{member}
use Rattle.ess_semantics.specs.Operators.{as_truth}
use Rattle.ess_semantics.specs.Tables.{Tables}
use Rattle.ess_semantics.specs.Cells.{cells_at}
use Rattle.ess_semantics.specs.Representations.{width}
use Rattle.ess_semantics.specs.Declarations.{axes_of}
use Rattle.ess_semantics.specs.Tidy.{over_axes}
use Rattle.ess_semantics.specs.Meaning.{Env, meaning, meanings, collect, where_true, domain_of, indices, tables_in}
use Rattle.ess_semantics.specs.Contexts.{Each, EachOf}
use Rattle.ess_semantics.specs.Meets.{Meets, MeetsAll, MeetsDom}
use Rattle.ess_semantics.specs.Substitution.{NamesAreExs, NamesAreDom}
use Rattle.ess_semantics.proofs.Orders.{to_list-of_list}
use Rattle.ess_semantics.proofs.Multisets.{count-sorted}
use Rattle.ess_rules_laws.specs.Listings.{Alternative, items_listed, all_listed}
use Rattle.ess_rules_laws.specs.ListedSources.{Offers}
use Rattle.ess_rules_laws.specs.SlotListings.{slots_dom}
use Rattle.ess_rules_laws.proofs.Listing.{append-none}
use Rattle.ess_rules_laws.proofs.RuleAnswers.{behind}
use Rattle.ess_rules_laws.proofs.ListedItems.{counted-same, alone-listed}
use Rattle.ess_rules_laws.proofs.SlotNumbers.{as_place, slots-members}
use Rattle.ess_rules_laws.proofs.SlotSets.{In, orderly_in, slot-value, slot-tidy}
use Rattle.ess_rules_laws.proofs.ExplicitListing.{slots-collected, slots-each, Item, item-is, item-met}

no : {A : Type 0} → false ≡ true → A
no h = cc

-- What is collected behind a test of numbers is collected over those that pass it.
pub collect-picked : (t : ℤ → Bool) (G H : Value → Option (List Value)) →
    ((k : ℤ) → G (number k) ≡ where_true (Some (truth (t k))) (λ u. H (number k))) → (ks : List ℤ) →
    collect (map number ks) G ≡ collect (map number (filter t ks)) H
collect-picked t G H h [] = refl
collect-picked t G H h (k ∷ ks) = go (t k) (h k) (collect-picked t G H h ks)
  where
    go : (b : Bool) → G (number k) ≡ where_true (Some (truth b)) (λ u. H (number k)) → collect (map number ks) G ≡
        collect (map number (filter t ks)) H →
        and_then (G (number k)) (λ xs. option_map (λ ys. xs ++ ys) (collect (map number ks) G)) ≡
        collect (map number (if b then k ∷ filter t ks else filter t ks)) H
    go true q r = ap (λ o. and_then o (λ xs. option_map (λ ys. xs ++ ys) (collect (map number ks) G))) q
        ∙ ap (λ o. and_then (H (number k)) (λ xs. option_map (λ ys. xs ++ ys) o)) r
    go false q r = ap (λ o. and_then o (λ xs. option_map (λ ys. xs ++ ys) (collect (map number ks) G))) q
        ∙ append-none (collect (map number ks) G) ∙ r

-- What holds of the numbers that pass a test holds of each number behind the test.
pub each-picked : (t : ℤ → Bool) (P Q : Value → Type 0) → ((k : ℤ) → (t k ≡ true → P (number k)) → Q (number k)) → (ks : List ℤ) →
    Each (map number (filter t ks)) P → Each (map number ks) Q
each-picked t P Q f [] a = tt
each-picked t P Q f (k ∷ ks) a = go (t k) refl a (λ z. each-picked t P Q f ks z)
  where
    go : (b : Bool) → t k ≡ b → Each (map number (if b then k ∷ filter t ks else filter t ks)) P →
        (Each (map number (filter t ks)) P → Each (map number ks) Q) → Q (number k) × Each (map number ks) Q
    go true q a r = (f k (λ z. a.0), r a.1)
    go false q a r = (f k (λ z. no (sym q ∙ z)), r a)

module _ (x : Text) (n c : Ex) (dd : Dom) (ns : List Text) (js : Exs) (r : Repr) (env : Env) (d : Domain) (ts : Tables) (i : List ℤ)
    (new-d : NamesAreDom (λ a. not (same_text x a)) (λ a. true) dd) (new-js : NamesAreExs (λ a. not (same_text x a)) (λ a. true) js)
    (dom-is : domain_of dd env ≡ Some d) (tables-are : tables_in env.cells ns ≡ Some ts) (index-is : indices (meanings js env) ≡ Some i)
    (N : ℕ) (n-is : meaning n env ≡ Some (number (pos N))) (short : length ts ≤ width r) (over-slots : (k : ℤ) →
    over_axes (i ++ (k ∷ [])) (axes_of r d) ts ≡ true)
    (t : ℤ → Bool) (says : (k : ℤ) → meaning c (behind x (number k) env) ≡ Some (truth (t k))) (vs : List Value)
    (values-are : each_of (map as_place (filter t (one_to N))) (In r d (cells_at ts i)) ≡ Some vs) (typed : list_all (member d) vs ≡ true)
    (orderly : list_all (orderly_in r d (cells_at ts i)) (map as_place (filter t (one_to N))) ≡ true)
  where
    abbrev View : Ex
    View = Item x dd ns js r env d ts i new-d new-js dom-is tables-are index-is

    abbrev Listing : Alternative
    Listing = record { gens = over (name_pat x) (slots_dom n) (cond c no_gens); item = View }

    abbrev At : Value → Option (List Value)
    At v = option_map (λ w. w ∷ []) (meaning View (behind x v env))

    abbrev Tested : Value → Option (List Value)
    Tested v = where_true (meaning c (behind x v env)) (λ u. At v)

    items-are : items_listed Listing env ≡ Some vs
    items-are = ap (λ o. and_then o (λ vs. collect vs Tested)) (slots-members n env N n-is)
        ∙ collect-picked t Tested At (λ k. ap (λ o. where_true o (λ u. At (number k))) (says k)) (one_to N)
        ∙ slots-collected d (In r d (cells_at ts i)) At
        (λ k v q m. ap (option_map (λ w. w ∷ []))
        (item-is x dd ns js r env d ts i new-d new-js dom-is tables-are index-is k v (sym (slot-value r d ts i short k) ∙ q) m))
        (filter t (one_to N)) vs values-are typed

    -- So the listing is offered by what means the multiset of these values.
    pub used-offers : (e : Ex) → meaning e env ≡ Some (mset_of vs) → ((k : ℤ) → Meets c (behind x (number k) env)) → MeetsDom dd env →
        MeetsAll false js env → Meets n env → Offers e (Listing ∷ []) env
    used-offers e q mc md mj mn = record {
      lists = counted-same (option_map items_of (meaning e env)) (all_listed (Listing ∷ []) env) (sorted vs) vs
          (ap (option_map items_of) q ∙ ap Some (to_list-of_list (sorted vs))) (alone-listed (items_listed Listing env) ∙ items-are)
          (λ v. count-sorted vs v);
      met = (
        (
          (tt, (mn, tt)),
          subst (λ o. EachOf o (λ v. Meets c (behind x v env)
              × (as_truth (meaning c (behind x v env)) ≡ true → Meets View (behind x v env)))) (sym (slots-members n env N n-is))
              (each-picked t (λ v. Meets View (behind x v env)) _ (λ k f. (mc k, λ z. f (sym (ap as_truth (says k)) ∙ z))) (one_to N)
              (slots-each d (In r d (cells_at ts i)) (orderly_in r d (cells_at ts i)) (λ v. Meets View (behind x v env))
              (λ k v q m o. item-met x dd ns js r env d ts i new-d new-js dom-is tables-are index-is k
              (slot-tidy r d ts i short k v (over-slots k) q m o) md mj)
              (filter t (one_to N)) vs values-are typed orderly)),
        ),
        tt,
      );
    }
