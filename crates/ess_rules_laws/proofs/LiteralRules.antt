-- The rules of operators on literals keep what they rewrite.
use Rattle.std.proofs.Common.{◌≡◌, refl, sym, ap, ◌∙◌, subst, ℕ, zero, suc, Bool, true, false, ◌&&◌, ◌||◌, not, List, [], ◌∷◌, Option, Some, None, option_map}
use Rattle.std.specs.Prelude.{IsTrue, is_some}
use Rattle.std.specs.List.{list_all}
use Rattle.ess_semantics.specs.declared.words.Op2.{Op2}
use Rattle.ess_semantics.specs.declared.words.Fun.{Fun}
use Rattle.ess_semantics.specs.Lists.{and_then, all_some, or_default}
use Rattle.ess_semantics.specs.Values.{Value, truth, number, item, node, of_list}
use Rattle.ess_semantics.specs.Order.{same}
use Rattle.ess_semantics.specs.Collections.{holds, sorted, sorted_once}
use Rattle.ess_semantics.specs.Trees.{Op, to_component, index, word, tuple_literal, set_literal, mset_literal, matrix_literal, Ex, Exs, node_ex, fun1, no_exs, more_exs}
use Rattle.ess_semantics.specs.Operators.{value_of_word1, list_value, least, greatest, misfit, component, all_true, all_different, value_of_node, value_of_op, false_where_undefined}
use Rattle.ess_semantics.specs.Meaning.{Env, meaning, meanings}
use Rattle.ess_semantics.specs.Meets.{Meets, MeetsAll}
use Rattle.ess_semantics.proofs.Orders.{to_list-of_list}
use Rattle.ess_rules_laws.specs.Rules.{RuleKeeps, RuleKeepsWhere, IsTruth}
use Rattle.ess_rules_laws.specs.LiteralRules.{nth, component_listed, FitsMark, ComponentFits, unequal_each, unequal_pairs, different_listed, ListThere, extreme_listed}
use Rattle.ess_rules_laws.proofs.RuleAnswers.{AnswerKeeps, fires}
use Rattle.ess_rules_laws.proofs.Connectives.{binary-means}
use Rattle.ess_rules_laws.proofs.MembershipRules.{values, all-there}
use Rattle.ess_rules_laws.proofs.Folds.{literal-means, perm-counts}
use Rattle.ess_semantics.proofs.Multisets.{count-sorted}
use Rattle.ess_rules_laws.proofs.LeastGreatest.{least-once, greatest-once, least-perm, greatest-perm}

-- ---- a component of a tuple

-- The first of values that are there, and the others.
pub first-value : (o : Option Value) (os : List (Option Value)) → IsTrue (list_all is_some (o ∷ os)) → (v : Value) × (o ≡ Some v) × IsTrue (list_all is_some os)
first-value None os t = cc
first-value (Some v) os t = (v, refl, t)

-- The value of the k-th.
nth-means : (es : Exs) (k : ℕ) (a : Ex) (env : Env) → nth es k ≡ Some a → IsTrue (list_all is_some (meanings es env)) →
    (v : Value) × (meaning a env ≡ Some v) × (component (of_list (values (meanings es env))) k ≡ Some v)
nth-means no_exs k a env q t = cc
nth-means (more_exs b es) zero a env q t = cc
nth-means (more_exs b es) (suc zero) a env q t = let r = first-value (meaning b env) (meanings es env) t in
    (r.0, ap meaning-of (sym q) ∙ r.1, ap (λ o. component (of_list (values (o ∷ meanings es env))) 1) r.1)
  where
    meaning-of : Option Ex → Option Value
    meaning-of None = None
    meaning-of (Some e) = meaning e env
nth-means (more_exs b es) (suc (suc n)) a env q t = let r = first-value (meaning b env) (meanings es env) t in let s = nth-means es (suc n) a env q r.2 in
    (s.0, s.1, ap (λ o. component (of_list (values (o ∷ meanings es env))) (suc (suc n))) r.1 ∙ s.2)

nth-met : (es : Exs) (k : ℕ) (a : Ex) (env : Env) → nth es k ≡ Some a → MeetsAll false es env → Meets a env
nth-met no_exs k a env q m = cc
nth-met (more_exs b es) zero a env q m = cc
nth-met (more_exs b es) (suc zero) a env q m = met (Some a) q
  where
    MetIn : Option Ex → Type 0
    MetIn None = Unit {0}
    MetIn (Some e) = Meets e env

    met : (o : Option Ex) → Some b ≡ o → MetIn o
    met o p = subst MetIn p m.0
nth-met (more_exs b es) (suc (suc n)) a env q m = nth-met es (suc n) a env q m.1

-- A truth value is read as itself.
pub read-mark : (b : Bool) (a : Ex) (env : Env) (v : Value) → FitsMark b (Some a) env → meaning a env ≡ Some v → false_where_undefined b (Some v) ≡ Some v
read-mark false a env v f q = refl
read-mark true a env v f q = go v (subst IsTruth q f)
  where
    go : (v : Value) → IsTruth (Some v) → false_where_undefined true (Some v) ≡ Some v
    go (truth b) h = refl
    go (number n) h = absurd h
    go (item t k) h = absurd h
    go (node k vs) h = absurd h

component-answer : (e : Ex) (env : Env) → ComponentFits e env → AnswerKeeps (component_listed e) e env
component-answer (node_ex b (index (to_component k ∷ [])) (more_exs (node_ex false tuple_literal es) no_exs)) env t = go (nth es k) refl t.1
  where
    go : (o : Option Ex) → nth es k ≡ o → FitsMark b o env → AnswerKeeps o (node_ex b (index (to_component k ∷ [])) (more_exs (node_ex false tuple_literal es) no_exs)) env
    go None q f = tt
    go (Some a) q f = λ m. (
      let r = nth-means es k a env q t.0 in
          ap (λ o. false_where_undefined b (value_of_node (index (to_component k ∷ [])) (and_then o (value_of_op tuple_literal) ∷ []))) (all-there (meanings es env) t.0)
          ∙ ap (λ o. false_where_undefined b (Some (or_default o misfit))) r.2 ∙ read-mark b a env r.0 f r.1 ∙ sym r.1,
      nth-met es k a env q m.0,
    )
component-answer _ env t = tt

-- A component of a tuple literal.
pub component_listed-keeps : RuleKeepsWhere ComponentFits component_listed
component_listed-keeps e f q env t = fires (component_listed e) e f env (component-answer e env t) q

-- ---- `allDiff`

-- The items of a list of terms that are there, true where b is.
abbrev AllTrue : Exs → Bool → Env → Type 0
AllTrue es b env = (xs : List Value) × (all_some (meanings es env) ≡ Some xs) × (all_true xs ≡ b)

each-unequal : (a : Ex) (w : Value) (env : Env) → meaning a env ≡ Some w → (es rest : Exs) (b : Bool) → IsTrue (list_all is_some (meanings es env)) → AllTrue rest b env →
    AllTrue (unequal_each a es rest) (not (holds (values (meanings es env)) w) && b) env
each-unequal a w env q no_exs rest b t h = h
each-unequal a w env q (more_exs c es) rest b t h = let r = first-value (meaning c env) (meanings es env) t in let s = each-unequal a w env q es rest b r.2 h in (
  truth (not (same r.0 w)) ∷ s.0,
  ap (λ o. all_some (o ∷ meanings (unequal_each a es rest) env)) (binary-means env true Op2.Ne c a r.0 w r.1 q) ∙ ap (option_map (λ xs. truth (not (same r.0 w)) ∷ xs)) s.1,
  ap (λ z. not (same r.0 w) && z) s.2 ∙ both (same r.0 w) (holds (values (meanings es env)) w) ∙ sym (ap (λ o. not (holds (values (o ∷ meanings es env)) w) && b) r.1),
)
  where
    both : (s h : Bool) → not s && (not h && b) ≡ not (s || h) && b
    both true h = refl
    both false h = refl

pairs-unequal : (es : Exs) (env : Env) → IsTrue (list_all is_some (meanings es env)) → AllTrue (unequal_pairs es) (all_different (values (meanings es env))) env
pairs-unequal no_exs env t = ([], refl, refl)
pairs-unequal (more_exs a es) env t = let r = first-value (meaning a env) (meanings es env) t in
    let s = each-unequal a r.0 env r.1 es (unequal_pairs es) (all_different (values (meanings es env))) r.2 (pairs-unequal es env r.2) in
    (s.0, s.1, s.2 ∙ sym (ap (λ o. all_different (values (o ∷ meanings es env))) r.1))

each-met : (a : Ex) (es rest : Exs) (env : Env) → Meets a env → MeetsAll false es env → MeetsAll false rest env → MeetsAll false (unequal_each a es rest) env
each-met a no_exs rest env m h k = k
each-met a (more_exs b es) rest env m h k = ((h.0, (m, tt)), each-met a es rest env m h.1 k)

pairs-met : (es : Exs) (env : Env) → MeetsAll false es env → MeetsAll false (unequal_pairs es) env
pairs-met no_exs env m = tt
pairs-met (more_exs a es) env m = each-met a es (unequal_pairs es) env m.0 m.1 (pairs-met es env m.1)

different-answer : (e : Ex) (env : Env) → ListThere e env → AnswerKeeps (different_listed e) e env
different-answer (fun1 true Fun.AllDiff (node_ex false matrix_literal es)) env t = λ m. (
  let s = pairs-unequal es env t in
      ap (λ o. false_where_undefined true (value_of_node (word Fun.AllDiff) (and_then o (value_of_op matrix_literal) ∷ []))) (all-there (meanings es env) t)
      ∙ ap (λ l. Some (truth (all_different l))) (to_list-of_list (values (meanings es env)))
      ∙ sym (literal-means true Fun.And refl (unequal_pairs es) env s.0 s.1 ∙ ap (λ b. Some (truth b)) s.2),
  (pairs-met es env m.0, tt),
)
different-answer _ env t = tt

-- `allDiff` of a list literal.
pub different_listed-keeps : RuleKeepsWhere ListThere different_listed
different_listed-keeps e f q env t = fires (different_listed e) e f env (different-answer e env t) q

-- ---- `min` and `max`

-- A word that reads the items of a literal, with or without order and repeats.
extreme-means : (m : Bool) (f : Fun) (op : Op) (c : List Value → Option Value) → ((xs : List Value) → and_then (value_of_op op xs) (value_of_word1 f) ≡ c xs) →
    ((xs : List Value) → value_of_word1 f (list_value xs) ≡ c xs) → (o : Option (List Value)) →
    false_where_undefined m (value_of_node (word f) (and_then o (value_of_op op) ∷ [])) ≡ false_where_undefined m (value_of_node (word f) (and_then o (value_of_op matrix_literal) ∷ []))
extreme-means m f op c h k None = refl
extreme-means m f op c h k (Some xs) = ap (false_where_undefined m) (go (value_of_op op xs) (h xs) ∙ sym (k xs))
  where
    go : (o : Option Value) → and_then o (value_of_word1 f) ≡ c xs → value_of_node (word f) (o ∷ []) ≡ c xs
    go None q = q
    go (Some v) q = q

extreme-answer : (e : Ex) (env : Env) → AnswerKeeps (extreme_listed e) e env
extreme-answer (fun1 m Fun.Min (node_ex false set_literal es)) env = λ h. (
  extreme-means m Fun.Min set_literal least (λ xs. ap least (to_list-of_list (sorted_once xs)) ∙ least-once xs) (λ xs. ap least (to_list-of_list xs)) (all_some (meanings es env)),
  h,
)
extreme-answer (fun1 m Fun.Max (node_ex false set_literal es)) env = λ h. (
  extreme-means m Fun.Max set_literal greatest (λ xs. ap greatest (to_list-of_list (sorted_once xs)) ∙ greatest-once xs) (λ xs. ap greatest (to_list-of_list xs)) (all_some (meanings es env)),
  h,
)
extreme-answer (fun1 m Fun.Min (node_ex false mset_literal es)) env = λ h. (
  extreme-means m Fun.Min mset_literal least (λ xs. ap least (to_list-of_list (sorted xs)) ∙ least-perm (perm-counts (sorted xs) xs (count-sorted xs))) (λ xs. ap least (to_list-of_list xs)) (all_some (meanings es env)),
  h,
)
extreme-answer (fun1 m Fun.Max (node_ex false mset_literal es)) env = λ h. (
  extreme-means m Fun.Max mset_literal greatest (λ xs. ap greatest (to_list-of_list (sorted xs)) ∙ greatest-perm (perm-counts (sorted xs) xs (count-sorted xs))) (λ xs. ap greatest (to_list-of_list xs)) (all_some (meanings es env)),
  h,
)
extreme-answer _ env = tt

-- `min` and `max` of a set or multiset literal.
pub extreme_listed-keeps : RuleKeeps extreme_listed
extreme_listed-keeps e f q env = fires (extreme_listed e) e f env (extreme-answer e env) q
