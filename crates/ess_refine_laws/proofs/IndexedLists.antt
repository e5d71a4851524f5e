-- A list is what its indices pick, in order.
use Rattle.std.proofs.Common.{◌≡◌, refl, sym, ap, ◌∙◌, subst, ℕ, suc, ◌≤◌, Bool, true, false, if◌then◌else◌, List, [], ◌∷◌, ◌++◌, map, length, pos, Option, Some, None, option_map, arith}
use Rattle.std.specs.Prelude.{is_some}
use Rattle.ess_semantics.specs.Lists.{and_then, all_some}
use Rattle.ess_semantics.specs.Values.{Text, Value, number, truth, item, node, of_list, a_matrix}
use Rattle.ess_semantics.specs.Order.{same}
use Rattle.ess_semantics.specs.Names.{Names}
use Rattle.ess_semantics.specs.Numbers.{run_from}
use Rattle.ess_semantics.specs.Trees.{by_value, index, matrix_literal, Ex, Exs, number_ex, name_ex, node_ex, no_exs, more_exs}
use Rattle.ess_semantics.specs.Types.{Ty, no_tys, more_tys, compound, is_bool}
use Rattle.ess_semantics.specs.Typing.{type_of}
use Rattle.ess_semantics.specs.Constants.{operand_count}
use Rattle.ess_semantics.specs.Operators.{item_at, numbers_from, list_value, value_of_node, false_where_undefined}
use Rattle.ess_semantics.specs.Meaning.{Env, meaning, meanings, collect}
use Rattle.ess_semantics.specs.Contexts.{Each, EachOf}
use Rattle.ess_semantics.specs.Meets.{Meets}
use Rattle.ess_semantics.specs.Kept.{Keeps}
use Rattle.ess_semantics.proofs.Orders.{same-equal, same-itself}
use Rattle.ess_rules_laws.specs.Rules.{Unused, IsTruth}
use Rattle.ess_rules_laws.specs.MatrixRules.{item_of}
use Rattle.ess_rules_laws.proofs.SlotNumbers.{slots-members}
use Rattle.ess_rules_laws.proofs.RuleAnswers.{AnswerKeeps, fires, behind, meaning-behind, meets-behind, name-behind, each-any}
use Rattle.ess_refine_laws.specs.IndexedLists.{by_index, of_matrix, list_by_index, is_of_truths, TruthsListed, ListsAreIndices}

-- ---- what indices pick

-- The item of a list of the values at an index, where the first index is k.
abbrev At : ℕ → List Value → ℕ → Option Value
At k vs j = item_at (of_list (numbers_from k vs)) (of_list vs) (number (pos j))

same-number : (k j : ℕ) → same (number (pos k)) (number (pos j)) ≡ true → k ≡ j
same-number k j e = ap (λ v. elim v [ number (pos n) ↦ n | _ ↦ k ]) (same-equal (number (pos k)) (number (pos j)) e)

-- No index before the first one picks an item.
not-before : (k : ℕ) (vs : List Value) (j : ℕ) (w : Value) → At k vs j ≡ Some w → k ≤ j
not-before k [] j w e = cc
not-before k (v ∷ vs) j w e = go (same (number (pos k)) (number (pos j))) refl e (λ q. not-before (suc k) vs j w q)
  where
    go : (b : Bool) → same (number (pos k)) (number (pos j)) ≡ b → (if b then Some v else At (suc k) vs j) ≡ Some w →
        (At (suc k) vs j ≡ Some w → suc k ≤ j) → k ≤ j
    go true q e r = let s : k ≡ j = same-number k j q in omega arith
    go false q e r = let s : suc k ≤ j = r e in omega arith

-- What picks each item collects them all.
collect-picked : (k : ℕ) (vs : List Value) (G : Value → Option (List Value)) →
    ((j : ℕ) (w : Value) → At k vs j ≡ Some w → G (number (pos j)) ≡ Some (w ∷ [])) → collect (numbers_from k vs) G ≡ Some vs
collect-picked k [] G h = refl
collect-picked k (v ∷ vs) G h =
    ap (λ o. and_then o (λ xs. option_map (λ ys. xs ++ ys) (collect (numbers_from (suc k) vs) G)))
    (h k v (ap (λ b. if b then Some v else At (suc k) vs k) (same-itself (number (pos k)))))
    ∙ ap (option_map (λ ys. v ∷ ys)) (collect-picked (suc k) vs G (λ j w e. h j w (behind-first j w e)))
  where
    behind-first : (j : ℕ) (w : Value) → At (suc k) vs j ≡ Some w → At k (v ∷ vs) j ≡ Some w
    behind-first j w e = go (same (number (pos k)) (number (pos j))) refl
      where
        go : (b : Bool) → same (number (pos k)) (number (pos j)) ≡ b → (if b then Some v else At (suc k) vs j) ≡ Some w
        go true q = let s : k ≡ j = same-number k j q in let t : suc k ≤ j = not-before (suc k) vs j w e in let z : ⊥ = omega arith in absurd z
        go false q = e

numbers-run : (k : ℕ) (vs : List Value) (n : ℕ) → length vs ≡ n → map number (run_from k n) ≡ numbers_from k vs
numbers-run k [] n e = ap (λ n. map number (run_from k n)) (sym e)
numbers-run k (v ∷ vs) n e = ap (λ n. map number (run_from k n)) (sym e) ∙ ap (λ l. number (pos k) ∷ l) (numbers-run (suc k) vs (length vs) refl)

-- ---- the literal

as-many : (es : Exs) (env : Env) (vs : List Value) → all_some (meanings es env) ≡ Some vs → length vs ≡ operand_count es
as-many no_exs env vs e = ap (λ o. elim o [ None ↦ length vs | Some l ↦ length l ]) (sym e)
as-many (more_exs a es) env vs e = go (meaning a env) (all_some (meanings es env)) e (λ us q. as-many es env us q)
  where
    go : (o : Option Value) (p : Option (List Value)) → and_then o (λ x. option_map (λ xs. x ∷ xs) p) ≡ Some vs →
        ((us : List Value) → p ≡ Some us → length us ≡ operand_count es) → length vs ≡ suc (operand_count es)
    go None p e h = cc
    go (Some x) None e h = cc
    go (Some x) (Some us) e h =
        ap (λ o. elim o [ None ↦ length vs | Some l ↦ length l ]) (sym e) ∙ ap suc (h us refl)

list-of : (o : Option (List Value)) → is_some (and_then o (λ vs. Some (list_value vs))) ≡ true → (vs : List Value) × (o ≡ Some vs)
list-of None t = cc
list-of (Some vs) t = (vs, refl)

there-stays : (b : Bool) (w : Value) → (b ≡ true → IsTruth (Some w)) → false_where_undefined b (Some w) ≡ Some w
there-stays true w h = go w (h refl)
  where
    go : (w : Value) → IsTruth (Some w) → false_where_undefined true (Some w) ≡ Some w
    go (truth c) t = refl
    go (number n) t = absurd t
    go (item a n) t = absurd t
    go (node a vs) t = absurd t
there-stays false w h = refl

-- What holds of each item holds of the one at an index.
at-has : (P : Value → Type 0) (k : ℕ) (vs : List Value) (j : ℕ) (w : Value) → Each vs P → At k vs j ≡ Some w → P w
at-has P k [] j w h e = cc
at-has P k (v ∷ vs) j w h e = go (same (number (pos k)) (number (pos j))) e (λ q. at-has P (suc k) vs j w h.1 q)
  where
    go : (b : Bool) → (if b then Some v else At (suc k) vs j) ≡ Some w → (At (suc k) vs j ≡ Some w → P w) → P w
    go true e r = subst P (ap (λ o. elim o [ None ↦ v | Some z ↦ z ]) e) h.0
    go false e r = r e

module _ (x : Text) (t : Ty) (es : Exs) (env : Env) (u : Unused x (node_ex false matrix_literal es)) where
  abbrev L : Ex
  L = node_ex false matrix_literal es

  abbrev G : Value → Option (List Value)
  G v = option_map (λ w. w ∷ []) (meaning (item_of t L (name_ex x)) (behind x v env))

  picked-at : (vs : List Value) → meaning L env ≡ Some (list_value vs) → (is_bool (Some t) ≡ true → Each vs (λ v. IsTruth (Some v))) → (j : ℕ) (w : Value) → At 1 vs j ≡ Some w →
      G (number (pos j)) ≡ Some (w ∷ [])
  picked-at vs q h j w e =
      let v = number (pos j) in
      ap (λ o. option_map (λ w. w ∷ []) (false_where_undefined (is_bool (Some t)) (value_of_node (index (by_value ∷ []))
      (o ∷ meaning (name_ex x) (behind x v env) ∷ [])))) (meaning-behind x v L env u ∙ q)
      ∙ ap (λ o. option_map (λ w. w ∷ []) (false_where_undefined (is_bool (Some t)) (value_of_node (index (by_value ∷ []))
      (Some (list_value vs) ∷ o ∷ [])))) (name-behind x v env)
      ∙ ap (λ o. option_map (λ w. w ∷ []) (false_where_undefined (is_bool (Some t)) (and_then o (λ w. Some w)))) e
      ∙ ap (option_map (λ w. w ∷ [])) (there-stays (is_bool (Some t)) w (λ b. at-has (λ v. IsTruth (Some v)) 1 vs j w (h b) e))

  by-index-keeps : is_some (meaning L env) ≡ true →
      (is_bool (Some t) ≡ true → EachOf (all_some (meanings es env)) (λ v. IsTruth (Some v))) → Keeps L (by_index x t (number_ex (pos (operand_count es))) L) env
  by-index-keeps i h m =
      let vs = list-of (all_some (meanings es env)) i in
      let q = ap (λ o. and_then o (λ vs. Some (list_value vs))) vs.1 in
      let ms = slots-members (number_ex (pos (operand_count es))) env (operand_count es) refl
      ∙ ap Some (numbers-run 1 vs.0 (operand_count es) (as-many es env vs.0 vs.1)) in (
        q ∙ sym (ap (option_map list_value) (ap (λ o. and_then o (λ us. collect us G)) ms ∙ collect-picked 1 vs.0 G (picked-at vs.0 q (λ b. subst (λ o. EachOf o (λ v. IsTruth (Some v))) vs.1 (h b))))),
        (
          (tt, (tt, tt)),
          subst (λ o. EachOf o (λ v. Meets (item_of t L (name_ex x)) (behind x v env))) (sym ms)
              (each-any (numbers_from 1 vs.0) (λ v. Meets (item_of t L (name_ex x)) (behind x v env))
              (λ v. (meets-behind x v L env u m, (tt, tt)))),
        ),
      )

list-answer : (g : Names Ty) (x : Text) (e : Ex) → Unused x e → (env : Env) → is_some (meaning e env) ≡ true →
    TruthsListed g e env → AnswerKeeps (list_by_index g x e) e env
list-answer g x (node_ex false matrix_literal es) u env i h = go (type_of (node_ex false matrix_literal es) g) h
  where
    go : (o : Option Ty) → (is_of_truths o ≡ true → EachOf (all_some (meanings es env)) (λ v. IsTruth (Some v))) →
        AnswerKeeps (of_matrix o (λ t. by_index x t (number_ex (pos (operand_count es))) (node_ex false matrix_literal es)))
        (node_ex false matrix_literal es) env
    go (Some (compound a_matrix (more_tys k (more_tys t no_tys)))) h = by-index-keeps x t es env u i h
    go _ h = tt
list-answer g x _ u env i h = tt

-- What a list is by its indices.
pub lists-are-indices : ListsAreIndices
lists-are-indices g x e f q u env i h = fires (list_by_index g x e) e f env (list-answer g x e u env i h) q
