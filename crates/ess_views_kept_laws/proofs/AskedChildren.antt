-- What is asked of a view that is kept as another value may be asked of the child's view.
use Rattle.std.proofs.Common.{◌≡◌, refl, sym, ap, ◌∙◌, subst, true, false, List, [], ◌∷◌, length, pos, Option, Some, None, option_map}
use Rattle.ess_semantics.specs.declared.words.Op1.{Op1}
use Rattle.ess_semantics.specs.declared.words.Op2.{Op2}
use Rattle.ess_semantics.specs.declared.words.Fun.{Fun}
use Rattle.ess_semantics.specs.Lists.{and_then}
use Rattle.ess_semantics.specs.Values.{Text, Value, number, truth, items_of}
use Rattle.ess_semantics.specs.Collections.{holds, set_of, sorted_once}
use Rattle.ess_semantics.specs.Trees.{unary, binary, word, Ex, ex1, ex2, fun1, no_gens}
use Rattle.ess_semantics.specs.Operators.{value_of_node, false_where_undefined}
use Rattle.ess_semantics.specs.Meaning.{Env, meaning}
use Rattle.ess_semantics.specs.Meets.{Meets}
use Rattle.ess_semantics.specs.Kept.{Keeps}
use Rattle.ess_semantics.proofs.Orders.{to_list-of_list}
use Rattle.ess_semantics.proofs.Sorting.{sorted_once-itself}
use Rattle.ess_rules_laws.specs.Listings.{Alternative, those}
use Rattle.ess_rules_laws.specs.ListedSources.{Offers}
use Rattle.ess_rules_laws.proofs.RuleAnswers.{AnswerKeeps, fires, each-in-any}
use Rattle.ess_rules_laws.proofs.ListedItems.{all-members}
use Rattle.ess_rules_laws.proofs.LookedContainers.{in_order-offered}
use Rattle.ess_views_laws.specs.ChildViews.{kept_as, child_listing, asked_of_child}
use Rattle.ess_views_kept_laws.specs.ChildrenKept.{KnownChild, asked_view}
use Rattle.ess_views_kept_laws.proofs.ChildViews.{KeptChild, kept-child}

-- ---- the members

-- Both have the same members in the same order.
pub same-items : (e c : Ex) (env : Env) → KeptChild e c env → option_map items_of (meaning e env) ≡ option_map items_of (meaning c env)
same-items e c env k = ap (option_map items_of) k.means ∙ ap Some (k.same.whole_items ∙ sym k.same.part_items)
    ∙ sym (ap (option_map items_of) k.child_means)

abbrev OffersIn : Option (List Alternative) → Ex → Env → Type 0
OffersIn None e env = Unit {0}
OffersIn (Some l) e env = Offers e l env

child-offers : (x : Text) (e : Ex) (env : Env) (o : Option Ex) → ((c : Ex) → o ≡ Some c → KeptChild e c env) →
    OffersIn (and_then o (λ c. Some (those x c no_gens ∷ []))) e env
child-offers x e env None h = tt
child-offers x e env (Some c) h = let k = h c refl in in_order-offered e (those x c no_gens) env (record {
  items = same-items e c env k ∙ sym (all-members x c env);
  met = (k.met, each-in-any (meaning c env) _ (λ v. tt));
})

-- So the view is listed by the members of the child.
pub child-listed : (x : Text) (e : Ex) (l : List Alternative) → child_listing x e ≡ Some l → (env : Env) → KnownChild e env →
    Meets e env → Offers e l env
child-listed x e l q env h m = subst (λ z. OffersIn z e env) q
    (child-offers x e env (kept_as e) (λ c p. kept-child e c p env (h c p) m))

-- ---- `in` and sizes

module _ (e c : Ex) (env : Env) (k : KeptChild e c env) where
  -- A member of the one is one of the other.
  asked-member : (a : Ex) → meaning (ex2 true Op2.Member a e) env ≡ meaning (ex2 true Op2.Member a c) env
  asked-member a = go (meaning a env)
    where
      Asked : Option Value → Option Value → Option Value
      Asked o p = false_where_undefined true (value_of_node (binary Op2.Member) (o ∷ p ∷ []))

      go : (o : Option Value) → Asked o (meaning e env) ≡ Asked o (meaning c env)
      go None = refl
      go (Some w) = ap (Asked (Some w)) k.means
          ∙ ap (λ l. Some (truth (holds l w))) (k.same.whole_items ∙ sym k.same.part_items) ∙ sym (ap (Asked (Some w)) k.child_means)

  -- So is one of the set of the members.
  relation-member : (a : Ex) → meaning (ex2 true Op2.Member a (fun1 false Fun.ToRelation e)) env ≡ meaning (ex2 true Op2.Member a c) env
  relation-member a = go (meaning a env)
    where
      Asked : Option Value → Option Value → Option Value
      Asked o p = false_where_undefined true (value_of_node (binary Op2.Member) (o ∷ p ∷ []))

      go : (o : Option Value) → Asked o (value_of_node (word Fun.ToRelation) (meaning e env ∷ [])) ≡ Asked o (meaning c env)
      go None = refl
      go (Some w) = ap (λ z. Asked (Some w) (value_of_node (word Fun.ToRelation) (z ∷ []))) k.means
          ∙ ap (λ l. Some (truth (holds l w)))
          (to_list-of_list (sorted_once (items_of k.value)) ∙ ap sorted_once k.same.whole_items
          ∙ sorted_once-itself k.same.members k.same.rising ∙ sym k.same.part_items)
          ∙ sym (ap (Asked (Some w)) k.child_means)

  child-size : meaning (ex1 false Op1.Bar c) env ≡ Some (number (pos (length k.same.members)))
  child-size = ap (λ o. value_of_node (unary Op1.Bar) (o ∷ [])) (k.child_means ∙ ap Some k.same.part)
      ∙ ap (λ l. Some (number (pos (length l)))) (to_list-of_list k.same.members)

  -- They have one size.
  asked-size : meaning (ex1 false Op1.Bar e) env ≡ meaning (ex1 false Op1.Bar c) env
  asked-size = ap (λ o. value_of_node (unary Op1.Bar) (o ∷ [])) (k.means ∙ ap Some k.same.whole)
      ∙ ap (λ l. Some (number (pos (length l)))) (to_list-of_list k.same.members) ∙ sym child-size

  -- It is that of the set of the members.
  parts-size : meaning (ex1 false Op1.Bar (fun1 false Fun.Parts e)) env ≡ meaning (ex1 false Op1.Bar c) env
  parts-size = ap (λ o. value_of_node (unary Op1.Bar) (value_of_node (word Fun.Parts) (o ∷ []) ∷ [])) k.means
      ∙ ap (λ l. value_of_node (unary Op1.Bar) (Some (set_of l) ∷ [])) k.same.whole_items
      ∙ ap (λ l. Some (number (pos (length l))))
      (to_list-of_list (sorted_once k.same.members) ∙ sorted_once-itself k.same.members k.same.rising) ∙ sym child-size

through : (v e : Ex) (F : Ex → Ex) (env : Env) (o : Option Ex) → ((c : Ex) → o ≡ Some c → Keeps e (F c) env) →
    AnswerKeeps (and_then o (λ c. Some (F c))) e env
through v e F env None h = tt
through v e F env (Some c) h = h c refl

asked-answer : (e : Ex) (env : Env) → KnownChild (asked_view e) env → AnswerKeeps (asked_of_child e) e env
asked-answer (ex2 true Op2.Member a (fun1 false Fun.ToRelation v)) env h =
    through v (ex2 true Op2.Member a (fun1 false Fun.ToRelation v)) (λ c. ex2 true Op2.Member a c) env (kept_as v)
    (λ c q m. let k = kept-child v c q env (h c q) m.1.0.0 in (relation-member v c env k a, (m.0, (k.met, tt))))
asked-answer (ex2 true Op2.Member a v) env h =
    through v (ex2 true Op2.Member a v) (λ c. ex2 true Op2.Member a c) env (kept_as v)
    (λ c q m. let k = kept-child v c q env (h c q) m.1.0 in (asked-member v c env k a, (m.0, (k.met, tt))))
asked-answer (ex1 false Op1.Bar (fun1 false Fun.Parts v)) env h =
    through v (ex1 false Op1.Bar (fun1 false Fun.Parts v)) (λ c. ex1 false Op1.Bar c) env (kept_as v)
    (λ c q m. let k = kept-child v c q env (h c q) m.0.0 in (parts-size v c env k, (k.met, tt)))
asked-answer (ex1 false Op1.Bar v) env h =
    through v (ex1 false Op1.Bar v) (λ c. ex1 false Op1.Bar c) env (kept_as v)
    (λ c q m. let k = kept-child v c q env (h c q) m.0 in (asked-size v c env k, (k.met, tt)))
asked-answer _ env h = tt

-- `in` and sizes.
pub asked_of_child-keeps : (e f : Ex) → asked_of_child e ≡ Some f → (env : Env) → KnownChild (asked_view e) env → Keeps e f env
asked_of_child-keeps e f q env h = fires (asked_of_child e) e f env (asked-answer e env h) q
