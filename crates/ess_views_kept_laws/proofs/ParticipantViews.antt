-- Who takes part in a partition that is kept by the number of each member's part: the members of the inner domain.
use Rattle.std.proofs.Common.{◌≡◌, refl, sym, ap, ◌∙◌, true, false, ◌||◌, List, [], ◌∷◌, map, Option, Some, None, option_map}
use Rattle.std.specs.List.{list_any}
use Rattle.ess_semantics.specs.declared.words.Op2.{Op2}
use Rattle.ess_semantics.specs.declared.words.Fun.{Fun}
use Rattle.ess_semantics.specs.declared.words.ReprKind.{ReprKind}
use Rattle.ess_semantics.specs.Lists.{and_then, append_all}
use Rattle.ess_semantics.specs.Values.{Text, Value, truth, to_list, of_list, items_of}
use Rattle.ess_semantics.specs.Order.{orders, same}
use Rattle.ess_semantics.specs.Collections.{holds, sorted_once}
use Rattle.ess_semantics.specs.Trees.{binary, word, Mark, Repr, repr, no_reprs, name_pat, Ex, Exs, name_ex, seen_ex, ex2, fun1, no_gens, over, Dom, partition_dom}
use Rattle.ess_semantics.specs.Domains.{members}
use Rattle.ess_semantics.specs.Membership.{same_list, member}
use Rattle.ess_semantics.specs.Operators.{value_of_node, false_where_undefined}
use Rattle.ess_semantics.specs.Meaning.{Env, meaning, meanings, attributes_of, domain_of, members_in, collect}
use Rattle.ess_semantics.specs.Contexts.{EachOf}
use Rattle.ess_semantics.specs.Meets.{Meets}
use Rattle.ess_semantics.specs.Kept.{Keeps}
use Rattle.ess_semantics.proofs.Tests.{some-and}
use Rattle.ess_semantics.proofs.Orders.{to_list-of_list, orders_exact, equal-of}
use Rattle.ess_semantics.proofs.Sorting.{holds-sorted_once}
use Rattle.ess_repr_laws.proofs.Parts.{partition-member}
use Rattle.ess_rules_laws.specs.Rules.{Unused}
use Rattle.ess_rules_laws.proofs.Connectives.{binary-means, any-means, bits, collect-bits, any-bits}
use Rattle.ess_rules_laws.proofs.RuleAnswers.{AnswerKeeps, fires, behind, each-any, meaning-behind, meets-behind, name-behind}
use Rattle.ess_views_laws.specs.PartitionViews.{is_one_of, is_participant}
use Rattle.ess_views_kept_laws.proofs.OpenedViews.{opened, opened-means, opened-value}
use Rattle.ess_views_kept_laws.proofs.ChildViews.{partition-parts}

-- Lists that are told equal are.
pub list-equal : (xs ys : List Value) → same_list xs ys ≡ true → xs ≡ ys
list-equal xs ys h = sym (to_list-of_list xs)
    ∙ ap to_list (orders_exact (of_list xs) (of_list ys) (equal-of (orders (of_list xs) (of_list ys)) h)) ∙ to_list-of_list ys

any-holds : (us : List Value) (w : Value) → list_any (λ v. same v w) us ≡ holds us w
any-holds [] w = refl
any-holds (u ∷ us) w = ap (λ b. same u w || b) (any-holds us w)

any-never : (us : List Value) → list_any (λ v. false) us ≡ false
any-never [] = refl
any-never (u ∷ us) = any-never us

each-of-any : (o : Option (List Value)) (P : Value → Type 0) → ((v : Value) → P v) → EachOf o P
each-of-any None P f = tt
each-of-any (Some vs) P f = each-any vs P f

module _ (x : Text) (ms : List Mark) (es : Exs) (dd : Dom) (ns : List Text) (js : Exs) (a : Ex) (env : Env) (new : Unused x a) where
  abbrev R : Repr
  R = repr ReprKind.PartitionOccurrence no_reprs

  abbrev View : Ex
  View = seen_ex R (partition_dom ms es dd) ns js

  abbrev Is : Ex
  Is = ex2 true Op2.Eq (name_ex x) a

  -- The members of the inner domain are those that the parts have.
  record Covered : Type 0 where
    pub us : List Value
    pub members_are : members_in (domain_of dd env) ≡ Some us
    pub value : Value
    pub is_value : meaning View env ≡ Some value
    pub have_them : sorted_once (append_all (map items_of (items_of value))) ≡ sorted_once us

  covered : Meets View env → Covered
  covered h = let o = opened R (partition_dom ms es dd) ns js env h in
      let d = partition-parts (attributes_of ms (meanings es env)) (domain_of dd env) o.d o.domain_is in
      let v = opened-value R (partition_dom ms es dd) ns js env o in
      let p = partition-member d.0 d.1 v.0 (ap (λ z. member z v.0) (sym d.2) ∙ v.2) in
      let c = some-and (members d.1) (λ vs. same_list (sorted_once vs) (sorted_once (append_all (map items_of p.0)))) p.2.whole in record {
        us = c.0;
        members_are = ap members_in d.3 ∙ c.1;
        value = v.0;
        is_value = opened-means R (partition_dom ms es dd) ns js env refl o ∙ v.1;
        have_them = ap (λ z. sorted_once (append_all (map items_of z))) (ap items_of p.1 ∙ to_list-of_list p.0)
            ∙ sym (list-equal _ _ c.2);
      }

  abbrev Old : Option Value → Option Value → Option Value
  Old o p = false_where_undefined true (value_of_node (binary Op2.Member) (o ∷ value_of_node (word Fun.Participants) (p ∷ []) ∷ []))

  abbrev At : Value → Option (List Value)
  At v = option_map (λ w. w ∷ []) (meaning Is (behind x v env))

  participant-is : Meets View env → meaning (ex2 true Op2.Member a (fun1 false Fun.Participants View)) env ≡ meaning (is_one_of x dd a) env
  participant-is h = go (covered h) (meaning a env) refl
    where
      go : Covered → (o : Option Value) → meaning a env ≡ o → Old (meaning a env) (meaning View env) ≡ meaning (is_one_of x dd a) env
      go c None q = ap (λ o. Old o (meaning View env)) q
          ∙ sym (any-means env Is (over (name_pat x) dd no_gens) (bits (λ v. false) c.us)
          (ap (λ o. and_then o (λ vs. collect vs At)) c.members_are ∙ collect-bits c.us At (λ v. false)
          (each-any c.us _ (λ v. ap (option_map (λ w. w ∷ []))
          (ap (λ o. false_where_undefined true (value_of_node (binary Op2.Eq) (o ∷ meaning a (behind x v env) ∷ []))) (name-behind x v env)
          ∙ ap (λ o. false_where_undefined true (value_of_node (binary Op2.Eq) (Some v ∷ o ∷ []))) (meaning-behind x v a env new ∙ q)))))
          ∙ ap (λ b. Some (truth b)) (any-bits (λ v. false) c.us ∙ any-never c.us))
      go c (Some w) q = ap (λ o. Old o (meaning View env)) q ∙ ap (Old (Some w)) c.is_value
          ∙ ap (λ l. Some (truth (holds l w))) (to_list-of_list (sorted_once (append_all (map items_of (items_of c.value)))) ∙ c.have_them)
          ∙ ap (λ b. Some (truth b)) (holds-sorted_once c.us w)
          ∙ sym (any-means env Is (over (name_pat x) dd no_gens) (bits (λ v. same v w) c.us)
          (ap (λ o. and_then o (λ vs. collect vs At)) c.members_are ∙ collect-bits c.us At (λ v. same v w)
          (each-any c.us _ (λ v. ap (option_map (λ w. w ∷ []))
          (binary-means (behind x v env) true Op2.Eq (name_ex x) a v w (name-behind x v env) (meaning-behind x v a env new ∙ q)))))
          ∙ ap (λ b. Some (truth b)) (any-bits (λ v. same v w) c.us ∙ any-holds c.us w))

  participant-met : Meets View env → Meets a env → Meets (is_one_of x dd a) env
  participant-met h m = (
    (h.1.1, each-of-any (members_in (domain_of dd env)) _ (λ v. (tt, (meets-behind x v a env new m, tt)))),
    tt,
  )

participant-answer : (x : Text) (e : Ex) (env : Env) → Unused x e → AnswerKeeps (is_participant x e) e env
participant-answer x (ex2 true Op2.Member a (fun1 false Fun.Participants
    (seen_ex (repr ReprKind.PartitionOccurrence no_reprs) (partition_dom ms es d) ns js))) env o =
    λ h. (participant-is x ms es d ns js a env o.0 h.1.0.0, participant-met x ms es d ns js a env o.0 h.1.0.0 h.0)
participant-answer x _ env o = tt

-- Who takes part.
pub is_participant-keeps : (x : Text) (e f : Ex) → is_participant x e ≡ Some f → Unused x e → (env : Env) → Keeps e f env
is_participant-keeps x e f q o env = fires (is_participant x e) e f env (participant-answer x e env o) q
