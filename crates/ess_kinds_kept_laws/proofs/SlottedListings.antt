-- A view of a multiset in slots with numbers offers the view in each slot as often as its number says, and its set the views in use.
use Rattle.std.proofs.Common.{◌≡◌, refl, sym, ap, ◌∙◌, subst, ℕ, zero, suc, ◌≤◌, true, false, ◌&&◌, not, List, [], ◌∷◌, ◌++◌, map, replicate, ℤ, pos, Option, Some, option_map, nat_le, arith}
use Rattle.std.proofs.lemmas.Bool.{leb-true}
use Rattle.ess_semantics.specs.declared.words.Op2.{Op2}
use Rattle.ess_semantics.specs.declared.words.Fun.{Fun}
use Rattle.ess_semantics.specs.Lists.{and_then}
use Rattle.ess_semantics.specs.Values.{a_set, Text, Value, node, of_list, number, truth, items_of}
use Rattle.ess_semantics.specs.Order.{same_text}
use Rattle.ess_semantics.specs.Collections.{sorted, mset_of, set_of, count}
use Rattle.ess_semantics.specs.Numbers.{run_from, one_to}
use Rattle.ess_semantics.specs.Trees.{word, Mark, Repr, name_pat, Ex, Exs, name_ex, seen_ex, fun1, ex2, no_gens, over, cond, Dom}
use Rattle.ess_semantics.specs.Membership.{member}
use Rattle.ess_semantics.specs.Operators.{value_of_node, as_truth}
use Rattle.ess_semantics.specs.Cells.{cells_at}
use Rattle.ess_semantics.specs.Layers.{repeated}
use Rattle.ess_semantics.specs.Sizes.{slots_of_mset}
use Rattle.ess_semantics.specs.Meaning.{Env, meaning, domain_of, members_in, collect, where_true}
use Rattle.ess_semantics.specs.Contexts.{Each, EachOf}
use Rattle.ess_semantics.specs.Meets.{Meets, MeetsDom}
use Rattle.ess_semantics.specs.Substitution.{NamesAreExs, NamesAreDom}
use Rattle.ess_semantics.proofs.Tests.{and-left, and-right}
use Rattle.ess_semantics.proofs.Orders.{to_list-of_list}
use Rattle.ess_semantics.proofs.Multisets.{count-sorted, same-members}
use Rattle.ess_semantics.proofs.Sorting.{one-set}
use Rattle.ess_rules_laws.specs.Rules.{Unused}
use Rattle.ess_rules_laws.specs.Listings.{Alternative, items_listed, all_listed}
use Rattle.ess_rules_laws.specs.ListedSources.{Offers}
use Rattle.ess_rules_laws.specs.SetListings.{put_last}
use Rattle.ess_rules_laws.specs.SlotListings.{slots_dom}
use Rattle.ess_rules_laws.proofs.Connectives.{binary-means}
use Rattle.ess_rules_laws.proofs.ListedItems.{counted-same, alone-listed}
use Rattle.ess_rules_laws.proofs.RuleAnswers.{behind, meaning-behind, meets-behind, name-behind}
use Rattle.ess_rules_laws.proofs.SlotNumbers.{slots-members}
use Rattle.ess_rules_laws.proofs.SlotSets.{In}
use Rattle.ess_rules_laws.proofs.UsedSlots.{used-offers}
use Rattle.ess_views_laws.specs.MultisetViews.{number_at, is_there}
use Rattle.ess_views_kept_laws.specs.MultisetsListed.{MultisetSlotsAre, OftenEnough}
use Rattle.ess_views_kept_laws.proofs.MultisetListing.{up_to_number, above, run-repeats, put-unused}
use Rattle.ess_kinds_kept_laws.proofs.SlottedNumbers.{positive, spread-repeated, fits-all, fits-both, fits-bounded, collect-slots, each-slot, holds-repeated}
use Rattle.ess_kinds_kept_laws.proofs.SlottedViews.{SlottedView, SlotsSeen, slots-short}
use Rattle.ess_kinds_kept_laws.proofs.SlottedRules.{s, Num, slots-are-members, number-means, there-means, item-means, items-met, number-met}

no : {A : Type 0} → false ≡ true → A
no h = cc

-- Numbers from 1 on that give nothing.
nothing-collected : (T : Value → Option (List Value)) → ((k : ℕ) → T (number (pos (suc k))) ≡ Some []) → (a n : ℕ) →
    collect (map number (run_from (suc a) n)) T ≡ Some []
nothing-collected T f a zero = refl
nothing-collected T f a (suc n) =
    ap (λ o. and_then o (λ xs. option_map (λ ys. xs ++ ys) (collect (map number (run_from (suc (suc a)) n)) T))) (f a)
    ∙ ap (option_map (λ ys. ys)) (nothing-collected T f (suc a) n)

-- What holds of each number from 1 on.
each-run : (P : Value → Type 0) → ((k : ℕ) → P (number (pos (suc k)))) → (a n : ℕ) → Each (map number (run_from (suc a) n)) P
each-run P f a zero = tt
each-run P f a (suc n) = (f a, each-run P f (suc a) n)

module _ (r : Repr) (ms : List Mark) (es : Exs) (dd : Dom) (m : Text) (ns : List Text) (js : Exs) (env : Env) (x : Text) (n : Ex)
    (new-d : NamesAreDom (λ a. not (same_text x a)) (λ a. true) dd) (new-js : NamesAreExs (λ a. not (same_text x a)) (λ a. true) js)
    (met : Meets (SlottedView r ms es dd m ns js env) env)
    (slots : MultisetSlotsAre n (SlottedView r ms es dd m ns js env) env) where
  abbrev V : Ex
  V = SlottedView r ms es dd m ns js env

  abbrev S : SlotsSeen r ms es dd m ns js env
  S = s r ms es dd m ns js env x n new-d new-js met slots

  abbrev N : ℕ
  N = slots_of_mset S.ks S.d

  abbrev In_slot : ℤ → Option ℕ
  In_slot k = Num r ms es dd m ns js env x n new-d new-js met slots k

  abbrev Value_in : List ℤ → Option Value
  Value_in j = In r S.d (cells_at S.ts S.i) j

  abbrev View : Ex
  View = seen_ex r dd ns (put_last js (name_ex x))

  abbrev Members : List Value
  Members = repeated S.stand.ns S.stand.vs

  -- ---- each member once

  abbrev Once : Alternative
  Once = record { gens = over (name_pat x) (slots_dom n) (cond (is_there m js x) no_gens); item = View }

  set-means : meaning (fun1 false Fun.ToSet V) env ≡ Some (set_of S.stand.vs)
  set-means = ap (λ o. value_of_node (word Fun.ToSet) (o ∷ [])) S.is_value
      ∙ ap (λ l. Some (set_of l)) (to_list-of_list (sorted Members))
      ∙ ap (λ l. Some (node a_set
      (of_list l))) (one-set (sorted Members) S.stand.vs
      (λ w. same-members (sorted Members) Members (λ v. count-sorted Members v) w
      ∙ holds-repeated In_slot Value_in (one_to N) S.stand.ns S.stand.vs S.stand.beside_slots w))

  pub slotted-once : Offers (fun1 false Fun.ToSet V) (Once ∷ []) env
  slotted-once = used-offers x n (is_there m js x) dd ns js r env S.d S.ts S.i new-d new-js S.inner_is S.rest_are S.index_is N
      (slots.counts S.ks S.d S.domain_is) (slots-short r ms es dd m ns js env S) S.over_slots (λ k. positive (In_slot k))
      (there-means r ms es dd m ns js env x n new-d new-js met slots) S.stand.vs S.stand.values S.stand.members S.stand.differ
      S.stand.orderly (fun1 false Fun.ToSet V) set-means
      (λ k. (number-met r ms es dd m ns js env x n new-d new-js met slots (number k), (tt, tt))) met.1.1 met.2 slots.met

  -- ---- each member as often as its number says

  module _ (y : Text) (o : Ex) (new-y : Unused y V) (apart : not (same_text y x) ≡ true) (new-o : Unused x o) (often : OftenEnough o V env)
    where
      abbrev Number : Ex
      Number = number_at m js x

      abbrev Test : Ex
      Test = ex2 true Op2.Le (name_ex y) Number

      abbrev Listing : Alternative
      Listing = record { gens = over (name_pat x) (slots_dom n) (over (name_pat y) (slots_dom o) (cond Test no_gens)); item = View }

      -- Where x is a slot and y a number.
      abbrev Here : Value → Value → Env
      Here v k = behind y k (behind x v env)

      abbrev Inner : Value → Value → Option (List Value)
      Inner v k = where_true (meaning Test (Here v k)) (λ u. option_map (λ w. w ∷ []) (meaning View (Here v k)))

      abbrev At : Value → Option (List Value)
      At v = and_then (members_in (domain_of (slots_dom o) (behind x v env))) (λ ks. collect ks (Inner v))

      many : (v : Value) → members_in (domain_of (slots_dom o) (behind x v env)) ≡ Some (map number (one_to often.often))
      many v = slots-members o (behind x v env) often.often (meaning-behind x v o env new-o ∙ often.says)

      number-unused : Unused y Number
      number-unused = put-unused y x js new-y.1 apart

      view-unused : Unused y View
      view-unused = (new-y.0.1, put-unused y x js new-y.1 apart)

      test-says : (k : ℤ) (c : ℕ) → In_slot k ≡ Some c → (u : ℤ) → meaning Test (Here (number k) (number u)) ≡
          Some (truth (up_to_number c u))
      test-says k c q u = binary-means (Here (number k) (number u)) true Op2.Le (name_ex y) Number (number u) (number (pos c))
          (name-behind y (number u) (behind x (number k) env))
          (meaning-behind y (number u) Number (behind x (number k) env) number-unused
          ∙ number-means r ms es dd m ns js env x n new-d new-js met slots k c q)

      at-unused : (k : ℤ) → In_slot k ≡ Some zero → At (number k) ≡ Some []
      at-unused k q = ap (λ z. and_then z (λ ks. collect ks (Inner (number k)))) (many (number k))
          ∙ nothing-collected (Inner (number k)) (λ u. ap (λ z. where_true z (λ u'. option_map (λ w. w ∷ []) (meaning View
          (Here (number k) (number (pos (suc u))))))) (test-says k zero q (pos (suc u)) ∙ ap (λ b. Some (truth b))
          (above zero (suc u) (omega arith)))) zero often.often

      at-used : (k : ℤ) (c : ℕ) (v : Value) → In_slot k ≡ Some (suc c) → Value_in (k ∷ []) ≡ Some v →
          member S.d v && nat_le (suc c) often.often ≡ true → At (number k) ≡ Some (replicate (suc c) v)
      at-used k c v q p t = ap (λ z. and_then z (λ ks. collect ks (Inner (number k)))) (many (number k))
          ∙ run-repeats (suc c) v (Inner (number k)) (λ u. ap (λ z. where_true z (λ u'. option_map (λ w. w ∷ []) (meaning View
          (Here (number k) (number u))))) (test-says k (suc c) q u)
          ∙ ap (λ z. where_true (Some (truth (up_to_number (suc c) u))) (λ u'. option_map (λ w. w ∷ []) z))
          (meaning-behind y (number u) View (behind x (number k) env) view-unused
          ∙ item-means r ms es dd m ns js env x n new-d new-js met slots k v p (and-left _ _ t)))
          1 often.often (suc c) (omega arith) (leb-true (suc c) often.often (and-right (member S.d v) _ t))

      in-bounds : (v : Value) → count Members v ≤ often.often
      in-bounds v = leb-true _ often.often
          (ap (λ c. nat_le c often.often) (sym (count-sorted Members v))
          ∙ ap (λ l. nat_le (count l v) often.often) (sym (to_list-of_list (sorted Members)))
          ∙ often.enough (mset_of Members) S.is_value v)

      items-are : items_listed Listing env ≡ Some Members
      items-are = ap (λ z. and_then z (λ vs. collect vs At)) (slots-are-members r ms es dd m ns js env x n new-d new-js met slots)
          ∙ collect-slots In_slot Value_in At (λ c v. replicate c v) (λ c v. member S.d v && nat_le c often.often) at-unused at-used (one_to N)
          S.stand.ns S.stand.vs S.stand.beside_slots
          (fits-both (λ c v. member S.d v) (λ c v. nat_le c often.often) S.stand.ns S.stand.vs
          (fits-all (member S.d) S.stand.ns S.stand.vs S.stand.members)
          (fits-bounded often.often S.stand.ns S.stand.vs in-bounds))
          ∙ ap Some (spread-repeated S.stand.ns S.stand.vs)

      abbrev MetBehind : Value → Value → Type 0
      MetBehind v u = Meets Test (Here v u) × (as_truth (meaning Test (Here v u)) ≡ true → Meets View (Here v u))

      in-use : (k : ℤ) (c : ℕ) → In_slot k ≡ Some c → (positive (In_slot k) ≡ true → Meets View (behind x (number k) env)) → (u : ℕ) →
          as_truth (meaning Test (Here (number k) (number (pos (suc u))))) ≡ true → Meets View (Here (number k) (number (pos (suc u))))
      in-use k zero q f u z = no (sym (ap as_truth (test-says k zero q (pos (suc u)))
          ∙ above zero (suc u) (omega arith)) ∙ z)
      in-use k (suc c) q f u z = meets-behind y (number (pos (suc u))) View (behind x (number k) env) view-unused (f (ap positive q))

      slot-met : (k : ℤ) (c : ℕ) → In_slot k ≡ Some c → (positive (In_slot k) ≡ true → Meets View (behind x (number k) env)) →
          MeetsDom (slots_dom o) (behind x (number k) env)
          × EachOf (members_in (domain_of (slots_dom o) (behind x (number k) env))) (MetBehind (number k))
      slot-met k c q f = (
        (tt, (meets-behind x (number k) o env new-o often.met, tt)),
        subst (λ l. EachOf l (MetBehind (number k))) (sym (many (number k)))
            (each-run (MetBehind (number k)) (λ u. (
              (
                tt,
                (
                  meets-behind y (number (pos (suc u))) Number (behind x (number k) env) number-unused
                      (number-met r ms es dd m ns js env x n new-d new-js met slots (number k)),
                  tt,
                ),
              ),
              in-use k c q f u,
            )) zero often.often),
      )

      pub slotted-often : Offers V (Listing ∷ []) env
      slotted-often = record {
        lists = counted-same (option_map items_of (meaning V env)) (all_listed (Listing ∷ []) env) (sorted Members) Members
            (ap (option_map items_of) S.is_value ∙ ap Some (to_list-of_list (sorted Members)))
            (alone-listed (items_listed Listing env) ∙ items-are) (λ v. count-sorted Members v);
        met = (
          (
            (tt, (slots.met, tt)),
            subst (λ l. EachOf l (λ v. MeetsDom (slots_dom o) (behind x v env)
                × EachOf (members_in (domain_of (slots_dom o) (behind x v env))) (MetBehind v)))
                (sym (slots-are-members r ms es dd m ns js env x n new-d new-js met slots))
                (each-slot In_slot Value_in (λ v. Meets View (behind x v env)) _ slot-met (one_to N) S.stand.ns S.stand.vs
                S.stand.beside_slots (items-met r ms es dd m ns js env x n new-d new-js met slots)),
          ),
          tt,
        );
      }
