-- Sizes and frequencies of views of multisets in slots with numbers are sums of the numbers.
use Rattle.std.proofs.Common.{◌≡◌, refl, sym, ap, ◌∙◌, subst, ℕ, zero, suc, Bool, true, false, not, if◌then◌else◌, List, [], ◌∷◌, map, filter, length, ℤ, pos, Option, Some, None, option_map}
use Rattle.ess_semantics.specs.declared.words.Op1.{Op1}
use Rattle.ess_semantics.specs.declared.words.Op2.{Op2}
use Rattle.ess_semantics.specs.declared.words.Fun.{Fun}
use Rattle.ess_semantics.specs.Lists.{and_then}
use Rattle.ess_semantics.specs.Values.{Text, Value, number, truth}
use Rattle.ess_semantics.specs.Order.{same, same_text}
use Rattle.ess_semantics.specs.Collections.{sorted, mset_of, count}
use Rattle.ess_semantics.specs.Numbers.{one_to}
use Rattle.ess_semantics.specs.Trees.{unary, word, Mark, Repr, name_pat, Ex, Exs, name_ex, node_ex, comp_ex, seen_ex, no_exs, more_exs, ex1, ex2, fun1, Gens, no_gens, over, cond, Dom}
use Rattle.ess_semantics.specs.Membership.{member}
use Rattle.ess_semantics.specs.Operators.{sum_of, list_value, value_of_node, as_truth}
use Rattle.ess_semantics.specs.Cells.{cells_at}
use Rattle.ess_semantics.specs.Layers.{repeated}
use Rattle.ess_semantics.specs.Sizes.{slots_of_mset}
use Rattle.ess_semantics.specs.Meaning.{Env, meaning, domain_of, members_in, items_under, collect, where_true}
use Rattle.ess_semantics.specs.Contexts.{Each, EachOf}
use Rattle.ess_semantics.specs.Meets.{Meets}
use Rattle.ess_semantics.specs.Substitution.{NamesAreExs, NamesAreDom}
use Rattle.ess_semantics.proofs.Orders.{to_list-of_list}
use Rattle.ess_semantics.proofs.Multisets.{sorted-length, count-sorted}
use Rattle.ess_rules_laws.specs.Rules.{Unused}
use Rattle.ess_rules_laws.specs.SetListings.{put_last}
use Rattle.ess_rules_laws.specs.SlotListings.{slots_dom}
use Rattle.ess_rules_laws.proofs.Connectives.{binary-means}
use Rattle.ess_rules_laws.proofs.ExplicitListing.{slots-each, item-is, item-met, last-met}
use Rattle.ess_rules_laws.proofs.RuleAnswers.{behind, each-any, meaning-behind, meets-behind}
use Rattle.ess_rules_laws.proofs.SlotNumbers.{slots-members}
use Rattle.ess_rules_laws.proofs.SlotSets.{In, orderly_in, slot-value, slot-tidy}
use Rattle.ess_views_laws.specs.MultisetViews.{number_at, is_there}
use Rattle.ess_views_kept_laws.specs.MultisetsListed.{MultisetSlotsAre}
use Rattle.ess_kinds_kept_laws.proofs.SlottedNumbers.{positive, spread_slots, fits-all, collect-numbers, collect-slots, each-slot, sum-numbers, number_at_same, sum-same}
use Rattle.ess_kinds_kept_laws.proofs.SlottedViews.{SlottedView, SlotsSeen, slots-seen, slots-short, SlotNumber, slot-number-means, is-there-means}

-- The sum of what is collected.
sum-means : (env : Env) (e : Ex) (gs : Gens) (xs : List Value) →
    items_under gs env (λ here. option_map (λ v. v ∷ []) (meaning e here)) ≡ Some xs →
    meaning (fun1 false Fun.Sum (comp_ex e gs)) env ≡ Some (number (sum_of xs))
sum-means env e gs xs q = ap (λ o. value_of_node (word Fun.Sum) (option_map list_value o ∷ [])) q
    ∙ ap (λ l. Some (number (sum_of l))) (to_list-of_list xs)

where-if : (b : Bool) (z : Value) → where_true (Some (truth b)) (λ u. Some (z ∷ [])) ≡ Some (if b then z ∷ [] else [])
where-if true z = refl
where-if false z = refl

each-of-any : (o : Option (List Value)) (P : Value → Type 0) → ((v : Value) → P v) → EachOf o P
each-of-any None P f = tt
each-of-any (Some vs) P f = each-any vs P f

module _ (r : Repr) (ms : List Mark) (es : Exs) (dd : Dom) (m : Text) (ns : List Text) (js : Exs) (env : Env) (x : Text) (n : Ex)
    (new-d : NamesAreDom (λ a. not (same_text x a)) (λ a. true) dd) (new-js : NamesAreExs (λ a. not (same_text x a)) (λ a. true) js)
    (met : Meets (SlottedView r ms es dd m ns js env) env)
    (slots : MultisetSlotsAre n (SlottedView r ms es dd m ns js env) env) where
  abbrev V : Ex
  V = SlottedView r ms es dd m ns js env

  pub s : SlotsSeen r ms es dd m ns js env
  s = slots-seen r ms es dd m ns js env met

  abbrev N : ℕ
  N = slots_of_mset s.ks s.d

  abbrev pub Num : ℤ → Option ℕ
  Num k = SlotNumber r ms es dd m ns js env s k

  pub slots-are-members : members_in (domain_of (slots_dom n) env) ≡ Some (map number (one_to (slots_of_mset s.ks s.d)))
  slots-are-members = slots-members n env N (slots.counts s.ks s.d s.domain_is)

  abbrev Number : Ex
  Number = number_at m js x

  abbrev There : Ex
  There = is_there m js x

  -- The view in a slot.
  abbrev pub Item : Ex
  Item = seen_ex r dd ns (put_last js (name_ex x))

  abbrev InSlot : List ℤ → Option Value
  InSlot j = In r s.d (cells_at s.ts s.i) j

  pub number-means : (k : ℤ) (c : ℕ) → Num k ≡ Some c → meaning Number (behind x (number k) env) ≡ Some (number (pos c))
  number-means k c q = slot-number-means r ms es dd m ns js env s x new-js k c q

  pub there-means : (k : ℤ) → meaning There (behind x (number k) env) ≡ Some (truth (positive (Num k)))
  there-means k = is-there-means r ms es dd m ns js env s x new-js k

  pub item-means : (k : ℤ) (v : Value) → InSlot (k ∷ []) ≡ Some v → member s.d v ≡ true → meaning Item (behind x (number k) env) ≡ Some v
  item-means k v q t = item-is x dd ns js r env s.d s.ts s.i new-d new-js s.inner_is s.rest_are s.index_is k v
      (sym (slot-value r s.d s.ts s.i (slots-short r ms es dd m ns js env s) k) ∙ q) t

  -- Tables that meet the structure of the view meet that of the view in each slot in use.
  pub items-met : Each (map number (filter (λ k. positive (Num k)) (one_to N))) (λ v. Meets Item (behind x v env))
  items-met = slots-each s.d InSlot (orderly_in r s.d (cells_at s.ts s.i)) (λ v. Meets Item (behind x v env))
      (λ k v q t o. item-met x dd ns js r env s.d s.ts s.i new-d new-js s.inner_is s.rest_are s.index_is k
      (slot-tidy r s.d s.ts s.i (slots-short r ms es dd m ns js env s) k v (s.over_slots k) q t o) met.1.1 met.2)
      (filter (λ k. positive (Num k)) (one_to N)) s.stand.vs s.stand.values s.stand.members s.stand.orderly

  pub number-met : (v : Value) → Meets Number (behind x v env)
  number-met v = last-met x v js env new-js met.2

  -- ---- sizes

  abbrev Size : Ex
  Size = fun1 false Fun.Sum (comp_ex Number (over (name_pat x) (slots_dom n) no_gens))

  pub slotted-size : meaning (ex1 false Op1.Bar V) env ≡ meaning Size env
  slotted-size = ap (λ o. value_of_node (unary Op1.Bar) (o ∷ [])) s.is_value
      ∙ ap (λ l. Some (number (pos (length l)))) (to_list-of_list (sorted (repeated s.stand.ns s.stand.vs)))
      ∙ ap (λ c. Some (number (pos c))) (sorted-length (repeated s.stand.ns s.stand.vs))
      ∙ sym (sum-means env Number (over (name_pat x) (slots_dom n) no_gens) (map (λ c. number (pos c)) s.stand.ns)
      (ap (λ o. and_then o (λ vs. collect vs (λ v. option_map (λ w. w ∷ []) (meaning Number (behind x v env))))) slots-are-members
      ∙ collect-numbers Num InSlot (λ v. option_map (λ w. w ∷ []) (meaning Number (behind x v env))) (λ c. number (pos c))
      (λ k c q. ap (option_map (λ w. w ∷ [])) (number-means k c q)) (one_to N) s.stand.ns s.stand.vs s.stand.beside_slots)
      ∙ ap (λ z. Some (number z)) (sum-numbers Num InSlot (one_to N) s.stand.ns s.stand.vs s.stand.beside_slots))

  pub slotted-size-met : Meets Size env
  slotted-size-met = (
    ((tt, (slots.met, tt)), each-of-any (members_in (domain_of (slots_dom n) env)) _ (λ v. number-met v)),
    tt,
  )

  -- ---- frequencies

  module _ (a : Ex) (new-a : Unused x a) where
    abbrev Is : Ex
    Is = ex2 true Op2.Eq a Item

    abbrev Freq : Ex
    Freq = fun1 false Fun.Sum (comp_ex Number (over (name_pat x) (slots_dom n) (cond There (cond Is no_gens))))

    abbrev At : Value → Option (List Value)
    At v = where_true (meaning There (behind x v env)) (λ u. where_true (meaning Is (behind x v env))
        (λ u. option_map (λ w. w ∷ []) (meaning Number (behind x v env))))

    at-unused : (k : ℤ) → Num k ≡ Some zero → At (number k) ≡ Some []
    at-unused k q = ap (λ o. where_true o (λ u. where_true (meaning Is (behind x (number k) env))
        (λ u. option_map (λ w. w ∷ []) (meaning Number (behind x (number k) env)))))
        (there-means k ∙ ap (λ o. Some (truth (positive o))) q)

    module _ (w : Value) (q : meaning a env ≡ Some w) where
      at-used : (k : ℤ) (c : ℕ) (v : Value) → Num k ≡ Some (suc c) → InSlot (k ∷ []) ≡ Some v → member s.d v ≡ true →
          At (number k) ≡ Some (number_at_same w (suc c) v)
      at-used k c v p y t = ap (λ o. where_true o (λ u. where_true (meaning Is (behind x (number k) env))
          (λ u. option_map (λ w. w ∷ []) (meaning Number (behind x (number k) env)))))
          (there-means k ∙ ap (λ o. Some (truth (positive o))) p)
          ∙ ap (λ o. where_true o (λ u. option_map (λ w. w ∷ []) (meaning Number (behind x (number k) env))))
          (binary-means (behind x (number k) env) true Op2.Eq a Item w v (meaning-behind x (number k) a env new-a ∙ q) (item-means k v y t))
          ∙ ap (λ o. where_true (Some (truth (same w v))) (λ u. option_map (λ w. w ∷ []) o)) (number-means k (suc c) p)
          ∙ where-if (same w v) (number (pos (suc c)))

      pub slotted-frequency : meaning (node_ex false (word Fun.Freq) (more_exs V (more_exs a no_exs))) env ≡ meaning Freq env
      slotted-frequency = ap (λ o. value_of_node (word Fun.Freq) (o ∷ meaning a env ∷ [])) s.is_value
          ∙ ap (λ o. value_of_node (word Fun.Freq) (Some (mset_of (repeated s.stand.ns s.stand.vs)) ∷ o ∷ [])) q
          ∙ ap (λ l. Some (number (pos (count l w)))) (to_list-of_list (sorted (repeated s.stand.ns s.stand.vs)))
          ∙ ap (λ c. Some (number (pos c))) (count-sorted (repeated s.stand.ns s.stand.vs) w)
          ∙ sym (sum-means env Number (over (name_pat x) (slots_dom n) (cond There (cond Is no_gens)))
          (spread_slots (number_at_same w) s.stand.ns s.stand.vs)
          (ap (λ o. and_then o (λ vs. collect vs At)) slots-are-members
          ∙ collect-slots Num InSlot At (number_at_same w) (λ c v. member s.d v) at-unused at-used (one_to N) s.stand.ns s.stand.vs
          s.stand.beside_slots (fits-all (member s.d) s.stand.ns s.stand.vs s.stand.members))
          ∙ ap (λ z. Some (number z)) (sum-same w s.stand.ns s.stand.vs))

    pub slotted-frequency-met : Meets a env → Meets Freq env
    slotted-frequency-met h = (
      (
        (tt, (slots.met, tt)),
        subst (λ o. EachOf o (λ v. Meets There (behind x v env) × (as_truth (meaning There (behind x v env)) ≡ true →
            Meets Is (behind x v env) × (as_truth (meaning Is (behind x v env)) ≡ true → Meets Number (behind x v env)))))
            (sym slots-are-members)
            (each-slot Num InSlot (λ v. Meets Item (behind x v env)) _
            (λ k c e f. (
              (number-met (number k), (tt, tt)),
              λ z. (
                (
                  meets-behind x (number k) a env new-a h,
                  (f (sym (ap as_truth (there-means k)) ∙ z), tt),
                ),
                λ y. number-met (number k),
              ),
            )) (one_to N) s.stand.ns s.stand.vs s.stand.beside_slots items-met),
      ),
      tt,
    )
