-- The operands of a function word, by how many there are.
use Rattle.std.proofs.Common.{◌≡◌, refl, sym, ap, ◌∙◌, suc, List, [], ◌∷◌, map, length, get_or, Option, Some, None, option_map, false}
use Rattle.ess_semantics.specs.declared.words.Fun.{Fun}
use Rattle.ess_semantics.specs.Lists.{and_then, all_some}
use Rattle.ess_semantics.specs.Values.{Value, truth}
use Rattle.ess_semantics.specs.Trees.{word}
use Rattle.ess_semantics.specs.Operators.{value_of_node, value_of_op, value_of_word}
use Rattle.ess_core.specs.declared.values.Val.{Val}
use Rattle.ess_core.specs.ValueViews.{pure_val}

pub word_of_one : (f : Fun) (os : List (Option Val)) (o : Option Val) → length os ≡ 1 → o ≡ get_or os 0 o
    → value_of_node (word f) (option_map pure_val o ∷ []) ≡ value_of_node (word f) (map (option_map pure_val) os)
word_of_one f [] o l h = cc
word_of_one f (p ∷ []) o l h = ap (λ q. value_of_node (word f) (option_map pure_val q ∷ [])) h
word_of_one f (p ∷ q ∷ os) o l h = cc

pub word_of_two : (f : Fun) (os : List (Option Val)) (o p : Option Val) → length os ≡ 2 → o ≡ get_or os 0 o → p ≡ get_or os 1 p
    → value_of_node (word f) (option_map pure_val o ∷ option_map pure_val p ∷ []) ≡ value_of_node (word f) (map (option_map pure_val) os)
word_of_two f [] o p l h k = cc
word_of_two f (q ∷ []) o p l h k = cc
word_of_two f (q ∷ r ∷ []) o p l h k =
    ap (λ x. value_of_node (word f) (option_map pure_val x ∷ option_map pure_val p ∷ [])) h
    ∙ ap (λ x. value_of_node (word f) (option_map pure_val q ∷ option_map pure_val x ∷ [])) k
word_of_two f (q ∷ r ∷ s ∷ os) o p l h k = cc

misfit_of_many : (f : Fun) (os : List (Option Value)) (xs : List Value) → (length os ≡ 1 → ⊥) → (length os ≡ 2 → ⊥) → Some xs ≡ all_some os
    → value_of_word f xs ≡ Some (truth false)
misfit_of_many f [] [] a b e = refl
misfit_of_many f [] (x ∷ xs) a b e = cc
misfit_of_many f (o ∷ []) xs a b e = absurd (a refl)
misfit_of_many f (o ∷ p ∷ []) xs a b e = absurd (b refl)
misfit_of_many f (None ∷ p ∷ q ∷ os) xs a b e = cc
misfit_of_many f (Some x ∷ None ∷ q ∷ os) xs a b e = cc
misfit_of_many f (Some x ∷ Some y ∷ None ∷ os) xs a b e = cc
misfit_of_many f (Some x ∷ Some y ∷ Some z ∷ os) xs a b e = go (all_some os) e
  where
    go : (o : Option (List Value)) → Some xs ≡ option_map (λ ys. x ∷ ys) (option_map (λ ys. y ∷ ys) (option_map (λ ys. z ∷ ys) o))
        → value_of_word f xs ≡ Some (truth false)
    go None e = cc
    go (Some zs) e = let q : xs ≡ x ∷ y ∷ z ∷ zs = cc in ap (value_of_word f) q

length_of_views : (os : List (Option Val)) → length (map (option_map pure_val) os) ≡ length os
length_of_views [] = refl
length_of_views (o ∷ os) = ap (λ n. suc n) (length_of_views os)

pub word_of_many : (f : Fun) (os : List (Option Val)) (xs : List Value) → (length os ≡ 1 → ⊥) → (length os ≡ 2 → ⊥)
    → Some xs ≡ all_some (map (option_map pure_val) os)
    → Some (truth false) ≡ value_of_node (word f) (map (option_map pure_val) os)
word_of_many f os xs a b e =
    sym (ap (λ o. and_then o (value_of_op (word f))) (sym e)
    ∙ misfit_of_many f (map (option_map pure_val) os) xs (λ q. a (sym (length_of_views os) ∙ q)) (λ q. b (sym (length_of_views os) ∙ q)) e)

pub word_of_none : (f : Fun) (os : List (Option Val)) → None ≡ all_some (map (option_map pure_val) os)
    → None ≡ value_of_node (word f) (map (option_map pure_val) os)
word_of_none f os e = ap (λ o. and_then o (value_of_op (word f))) e

pub ruleset word_operands = (word_of_one, word_of_two, word_of_many, word_of_none)
