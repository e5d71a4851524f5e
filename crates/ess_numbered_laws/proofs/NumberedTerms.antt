-- A list whose items are counted is the list of its items by their numbers.
use Rattle.std.proofs.Common.{◌≡◌, refl, sym, ap, ◌∙◌, subst, ℕ, suc, ◌<◌, ◌≤◌, Bool, true, false, if◌then◌else◌, List, [], ◌∷◌, ◌++◌, map, length, pos, Option, Some, None, option_map, arith}
use Rattle.std.proofs.lemmas.Int.{ints}
use Rattle.ess_semantics.specs.Lists.{and_then}
use Rattle.ess_semantics.specs.Values.{Text, Value, number, of_list, a_matrix}
use Rattle.ess_semantics.specs.Order.{same, same_int}
use Rattle.ess_semantics.specs.Numbers.{run_from, one_to}
use Rattle.ess_semantics.specs.Trees.{name_ex, Ex}
use Rattle.ess_semantics.specs.Types.{Ty, compound2, is_bool}
use Rattle.ess_semantics.specs.Typing.{type_of}
use Rattle.ess_semantics.specs.Operators.{numbers_from, item_at, list_value, false_where_undefined}
use Rattle.ess_semantics.specs.Meaning.{Env, meaning, collect}
use Rattle.ess_semantics.specs.Contexts.{Each}
use Rattle.ess_semantics.specs.Meets.{Meets}
use Rattle.ess_semantics.specs.Kept.{Keeps}
use Rattle.ess_semantics.proofs.Orders.{same-itself, same_int-equal, to_list-of_list}
use Rattle.ess_rules_laws.specs.Rules.{Unused, IsTruth}
use Rattle.ess_rules_laws.specs.MatrixRules.{item_of}
use Rattle.ess_rules_laws.proofs.LiteralRules.{read-mark}
use Rattle.ess_rules_laws.proofs.RuleAnswers.{AnswerKeeps, fires, behind, meets-behind, name-behind}
use Rattle.ess_refine_laws.specs.IndexedLists.{of_matrix}
use Rattle.ess_refine_laws.specs.AllRules.{Supply}
use Rattle.ess_numbered_laws.specs.MostItems.{most_items}
use Rattle.ess_numbered_laws.specs.CountedSources.{is_counted, numbered_items, numbered_term}
use Rattle.ess_numbered_laws.specs.Bounds.{IsBound}
use Rattle.ess_numbered_laws.specs.CountedLaws.{IsList, ItemsBounded, NumberedTermsKeep}
use Rattle.ess_numbered_laws.proofs.CountedNumbers.{item-behind, numbers-collect, numbers-met}

-- ---- what numbers pick

-- A number is no later one.
pub not-later : (k j : ℕ) → k < j → same (number (pos k)) (number (pos j)) ≡ false
not-later k j h = go (same_int (pos k) (pos j)) refl
  where
    go : (b : Bool) → same_int (pos k) (pos j) ≡ b → b ≡ false
    go true e = let p : pos k ≡ pos j = same_int-equal (pos k) (pos j) e in let z : ⊥ = omega (arith, ints) in absurd z
    go false e = refl

-- The item at a number, of those that are numbered from k on.
abbrev pub At : ℕ → List Value → ℕ → Option Value
At k xs j = item_at (of_list (numbers_from k xs)) (of_list xs) (number (pos j))

-- What picks the item at each number, where that has the property P, collects all items.
pub collect-numbered : (P : Value → Type 0) (f : Option Value → Option Value) → ((v : Value) → P v → f (Some v) ≡ Some v)
    → (k : ℕ) (xs : List Value) → Each xs P → (G : Value → Option (List Value))
    → ((j : ℕ) → k ≤ j → G (number (pos j)) ≡ option_map (λ v. v ∷ []) (f (At k xs j)))
    → collect (map number (run_from k (length xs))) G ≡ Some xs
collect-numbered P f s k [] e G h = refl
collect-numbered P f s k (x ∷ xs) e G h =
    ap (λ o. and_then o (λ us. option_map (λ ys. us ++ ys) (collect (map number (run_from (suc k) (length xs))) G)))
    (h k (omega arith)
    ∙ ap (λ b. option_map (λ v. v ∷ []) (f (if b then Some x else At (suc k) xs k)))
    (same-itself (number (pos k)))
    ∙ ap (option_map (λ v. v ∷ [])) (s x e.0))
    ∙ ap (option_map (λ ys. x ∷ ys)) (collect-numbered P f s (suc k) xs e.1 G (λ j q. h j (omega arith)
    ∙ ap (λ b. option_map (λ v. v ∷ []) (f (if b then Some x else At (suc k) xs j)))
    (not-later k j (omega arith))))

-- ---- items and their marks

-- Items of which something is known under a test: it is so of each.
pub each-stays : (c : Bool) (xs : List Value) → (c ≡ true → Each xs (λ v. IsTruth (Some v))) → Each xs (λ v. c ≡ true → IsTruth (Some v))
each-stays c [] h = tt
each-stays c (y ∷ ys) h = ((λ q. (h q).0), each-stays c ys (λ q. (h q).1))

-- A truth value stays what it is where it is marked.
pub marked : (x : Text) (env : Env) (c : Bool) (v : Value) → (c ≡ true → IsTruth (Some v)) → false_where_undefined c (Some v) ≡ Some v
marked x env true v h = read-mark true (name_ex x) (behind x v env) v (subst-fits (name-behind x v env) (h refl)) (name-behind x v env)
  where
    subst-fits : {o p : Option Value} → o ≡ p → IsTruth p → IsTruth o
    subst-fits e t = subst IsTruth (sym e) t
marked x env false v h = refl

-- ---- the term

module _ (x z : Text) (n t : Ex) (u : Ty) (env : Env) (new : Unused x t) (l : IsList t env) (b : IsBound n t env)
    (truths : is_bool (Some u) ≡ true → Each l.items (λ v. IsTruth (Some v))) where
  abbrev G : Value → Option (List Value)
  G v = option_map (λ w. w ∷ []) (meaning (item_of u t (name_ex x)) (behind x v env))

  -- An item that its mark leaves as it is.
  abbrev Stays : Value → Type 0
  Stays v = is_bool (Some u) ≡ true → IsTruth (Some v)

  -- It has the same items.
  numbered-means : meaning (numbered_items x z t n u) env ≡ Some (list_value l.items)
  numbered-means = ap (option_map list_value)
      (numbers-collect x z n t env new (list_value l.items) l.value b
      (λ here. option_map (λ w. w ∷ []) (meaning (item_of u t (name_ex x)) here))
      ∙ ap (λ ys. collect (map number (one_to (length ys))) G) (to_list-of_list l.items)
      ∙ collect-numbered Stays (false_where_undefined (is_bool (Some u))) (marked x env (is_bool (Some u))) 1 l.items
      (each-stays (is_bool (Some u)) l.items truths) G
      (λ j q. ap (option_map (λ w. w ∷ [])) (item-behind x u t env (list_value l.items) new l.value (number (pos j)))))

  term-keeps : Keeps t (numbered_items x z t n u) env
  term-keeps m = (
    l.value ∙ sym numbered-means,
    numbers-met x z n t env new (list_value l.items) l.value b (λ here. Meets (item_of u t (name_ex x)) here) m
        (λ w. (meets-behind x w t env new m, (tt, tt))),
  )

term-answer : (s : Supply) (t : Ex) (env : Env) → Unused s.one t → (c : Bool) (o : Option Ex) (p : Option Ty)
    → (c ≡ true → ItemsBounded o p t env)
    → AnswerKeeps (if c then and_then o (λ n. of_matrix p (numbered_items s.one s.other t n)) else None) t env
term-answer s t env new false o p h = tt
term-answer s t env new true None p h = tt
term-answer s t env new true (Some n) (Some (compound2 a_matrix i u)) h =
    term-keeps s.one s.other n t u env new (h refl).0 (h refl).1 (h refl).2
term-answer s t env new true (Some n) _ h = tt

-- So its numbered items keep it.
pub terms-keep : NumberedTermsKeep
terms-keep s g t l q env h =
    fires (numbered_term s g t) t l env (term-answer s t env h.0 (is_counted s g t) (most_items s.third t) (type_of t g) h.1) q
