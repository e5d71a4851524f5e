-- Quantifiers over the set of the members of a term keep their meaning over the term.
use Rattle.std.proofs.Common.{◌≡◌, refl, sym, ap, ◌∙◌, subst, Bool, true, false, ◌&&◌, ◌||◌, not, List, [], ◌∷◌, ◌++◌, Option, Some, None, option_map}
use Rattle.std.specs.Prelude.{is_some}
use Rattle.std.specs.List.{list_all}
use Rattle.ess_semantics.specs.declared.words.Fun.{Fun}
use Rattle.ess_semantics.specs.Lists.{and_then}
use Rattle.ess_semantics.specs.Values.{Value, truth, items_of}
use Rattle.ess_semantics.specs.Order.{same}
use Rattle.ess_semantics.specs.Collections.{holds, sorted_once}
use Rattle.ess_semantics.specs.Trees.{word, Ex, comp_ex, fun1, from}
use Rattle.ess_semantics.specs.Operators.{truth_in, all_true, any_true, list_value, value_of_node, false_where_undefined}
use Rattle.ess_semantics.specs.Meaning.{Env, meaning, items_under, with_pat, collect}
use Rattle.ess_semantics.specs.Contexts.{Each, EachIn}
use Rattle.ess_semantics.proofs.Tests.{or-yes}
use Rattle.ess_semantics.proofs.Orders.{to_list-of_list, same-itself, same-equal}
use Rattle.ess_semantics.proofs.Sorting.{holds-sorted_once, all-sorted_once}
use Rattle.ess_semantics.specs.Meets.{Meets, MeetsGens}
use Rattle.ess_rules_laws.specs.LooseRules.{fold_loosely, LooseFoldsKeep}
use Rattle.ess_rules_laws.proofs.RuleAnswers.{AnswerKeeps, fires}

-- ---- what quantifiers say of collected lists

-- Whether a list is there and all of it is true.
abbrev all_in : Option (List Value) → Bool
all_in None = false
all_in (Some xs) = all_true xs

-- Whether some of a list that is there is true.
abbrev any_in : Option (List Value) → Bool
any_in None = false
any_in (Some xs) = any_true xs

and-means : (o : Option (List Value)) →
    false_where_undefined true (value_of_node (word Fun.And) (option_map list_value o ∷ [])) ≡ Some (truth (all_in o))
and-means None = refl
and-means (Some xs) = ap (λ l. Some (truth (all_true l))) (to_list-of_list xs)

or-means : (o : Option (List Value)) →
    false_where_undefined true (value_of_node (word Fun.Or) (option_map list_value o ∷ [])) ≡ Some (truth (any_in o))
or-means None = refl
or-means (Some xs) = ap (λ l. Some (truth (any_true l))) (to_list-of_list xs)

all-append : (xs ys : List Value) → all_true (xs ++ ys) ≡ all_true xs && all_true ys
all-append [] ys = refl
all-append (x ∷ xs) ys = ap (λ b. truth_in x && b) (all-append xs ys) ∙ go (truth_in x)
  where
    go : (b : Bool) → b && (all_true xs && all_true ys) ≡ (b && all_true xs) && all_true ys
    go true = refl
    go false = refl

any-append : (xs ys : List Value) → any_true (xs ++ ys) ≡ any_true xs || any_true ys
any-append [] ys = refl
any-append (x ∷ xs) ys = ap (λ b. truth_in x || b) (any-append xs ys) ∙ go (truth_in x)
  where
    go : (b : Bool) → b || (any_true xs || any_true ys) ≡ (b || any_true xs) || any_true ys
    go true = refl
    go false = refl

all-parts : (o p : Option (List Value)) → all_in (and_then o (λ xs. option_map (λ ys. xs ++ ys) p)) ≡ all_in o && all_in p
all-parts None p = refl
all-parts (Some xs) None = go (all_true xs)
  where
    go : (b : Bool) → false ≡ b && false
    go true = refl
    go false = refl
all-parts (Some xs) (Some ys) = all-append xs ys

any-parts : (o p : Option (List Value)) →
    any_in (and_then o (λ xs. option_map (λ ys. xs ++ ys) p)) ≡ (is_some o && is_some p) && (any_in o || any_in p)
any-parts None p = refl
any-parts (Some xs) None = refl
any-parts (Some xs) (Some ys) = any-append xs ys

there-parts : (o p : Option (List Value)) → is_some (and_then o (λ xs. option_map (λ ys. xs ++ ys) p)) ≡ is_some o && is_some p
there-parts None p = refl
there-parts (Some xs) None = refl
there-parts (Some xs) (Some ys) = refl

module _ (F : Value → Option (List Value)) where
  all-collected : (vs : List Value) → all_in (collect vs F) ≡ list_all (λ v. all_in (F v)) vs
  all-collected [] = refl
  all-collected (v ∷ vs) = all-parts (F v) (collect vs F) ∙ ap (λ b. all_in (F v) && b) (all-collected vs)

  there-collected : (vs : List Value) → is_some (collect vs F) ≡ list_all (λ v. is_some (F v)) vs
  there-collected [] = refl
  there-collected (v ∷ vs) = there-parts (F v) (collect vs F) ∙ ap (λ b. is_some (F v) && b) (there-collected vs)

  any-collected : (vs : List Value) →
      any_in (collect vs F) ≡ list_all (λ v. is_some (F v)) vs && not (list_all (λ v. not (any_in (F v))) vs)
  any-collected [] = refl
  any-collected (v ∷ vs) = any-parts (F v) (collect vs F)
      ∙ ap (λ b. (is_some (F v) && b) && (any_in (F v) || any_in (collect vs F))) (there-collected vs)
      ∙ ap (λ b. (is_some (F v) && list_all (λ u. is_some (F u)) vs) && (any_in (F v) || b)) (any-collected vs)
      ∙ go (is_some (F v)) (list_all (λ u. is_some (F u)) vs) (any_in (F v)) (list_all (λ u. not (any_in (F u))) vs)
    where
      go : (a b c d : Bool) → (a && b) && (c || (b && not d)) ≡ (a && b) && not (not c && d)
      go false b c d = refl
      go true false c d = refl
      go true true true d = refl
      go true true false d = refl

  -- Over the sorted list without repeats they say the same.
  all-loosely : (vs : List Value) → all_in (collect (sorted_once vs) F) ≡ all_in (collect vs F)
  all-loosely vs = all-collected (sorted_once vs) ∙ all-sorted_once (λ v. all_in (F v)) vs ∙ sym (all-collected vs)

  any-loosely : (vs : List Value) → any_in (collect (sorted_once vs) F) ≡ any_in (collect vs F)
  any-loosely vs =
      any-collected (sorted_once vs)
      ∙ ap (λ b. b && not (list_all (λ v. not (any_in (F v))) (sorted_once vs))) (all-sorted_once (λ v. is_some (F v)) vs)
      ∙ ap (λ b. list_all (λ v. is_some (F v)) vs && not b) (all-sorted_once (λ v. not (any_in (F v))) vs) ∙ sym (any-collected vs)

-- ---- structures

-- What holds at each item of the sorted list holds at each item.
each-held : (P : Value → Type 0) (ys : List Value) (v : Value) → Each ys P → holds ys v ≡ true → P v
each-held P [] v e h = cc
each-held P (y ∷ ys) v e h = go (same y v) refl h (λ k. each-held P ys v e.1 k)
  where
    go : (b : Bool) → same y v ≡ b → b || holds ys v ≡ true → (holds ys v ≡ true → P v) → P v
    go true q h ih = subst P (same-equal y v q) e.0
    go false q h ih = ih h

held-each : (P : Value → Type 0) (xs : List Value) → ((v : Value) → holds xs v ≡ true → P v) → Each xs P
held-each P [] f = tt
held-each P (x ∷ xs) f =
    (f x (ap (λ b. b || holds xs x) (same-itself x)), held-each P xs (λ v h. f v (ap (λ b. same x v || b) h ∙ or-yes (same x v))))

loosely-met : (P : Value → Type 0) (o : Option Value) → EachIn (value_of_node (word Fun.ToSet) (o ∷ [])) P → EachIn o P
loosely-met P None e = tt
loosely-met P (Some w) e = held-each P (items_of w) (λ v h. each-held P (sorted_once (items_of w)) v
    (subst (λ l. Each l P) (to_list-of_list (sorted_once (items_of w))) e) (holds-sorted_once (items_of w) v ∙ h))

-- ---- the rule

-- The items of a generator over a set that is made of a term.
items-loosely : (f : Option (List Value) → Bool) (F : Value → Option (List Value)) →
    ((vs : List Value) → f (collect (sorted_once vs) F) ≡ f (collect vs F)) → (o : Option Value) →
    f (and_then (value_of_node (word Fun.ToSet) (o ∷ [])) (λ s. collect (items_of s) F)) ≡ f (and_then o (λ s. collect (items_of s) F))
items-loosely f F h None = refl
items-loosely f F h (Some w) = ap (λ l. f (collect l F)) (to_list-of_list (sorted_once (items_of w))) ∙ h (items_of w)

loosely-answer : (e : Ex) (env : Env) → AnswerKeeps (fold_loosely e) e env
loosely-answer (fun1 true Fun.And (comp_ex e (from p (fun1 false Fun.ToSet s) hs))) env = λ m. (
  and-means (and_then (value_of_node (word Fun.ToSet) (meaning s env ∷ [])) (λ w. collect (items_of w) F))
      ∙ ap (λ b. Some (truth b)) (items-loosely all_in F (all-loosely F) (meaning s env))
      ∙ sym (and-means (and_then (meaning s env) (λ w. collect (items_of w) F))),
  ((m.0.0.0, loosely-met (λ v. MeetsGens hs (with_pat p v env) (λ here. Meets e here)) (meaning s env) m.0.1), tt),
)
  where
    F : Value → Option (List Value)
    F v = items_under hs (with_pat p v env) (λ here. option_map (λ w. w ∷ []) (meaning e here))
loosely-answer (fun1 true Fun.Or (comp_ex e (from p (fun1 false Fun.ToSet s) hs))) env = λ m. (
  or-means (and_then (value_of_node (word Fun.ToSet) (meaning s env ∷ [])) (λ w. collect (items_of w) F))
      ∙ ap (λ b. Some (truth b)) (items-loosely any_in F (any-loosely F) (meaning s env))
      ∙ sym (or-means (and_then (meaning s env) (λ w. collect (items_of w) F))),
  ((m.0.0.0, loosely-met (λ v. MeetsGens hs (with_pat p v env) (λ here. Meets e here)) (meaning s env) m.0.1), tt),
)
  where
    F : Value → Option (List Value)
    F v = items_under hs (with_pat p v env) (λ here. option_map (λ w. w ∷ []) (meaning e here))
loosely-answer _ env = tt

-- Quantifiers over sets made of terms.
pub loosely-keeps : LooseFoldsKeep
loosely-keeps e f q env = fires (fold_loosely e) e f env (loosely-answer e env) q
