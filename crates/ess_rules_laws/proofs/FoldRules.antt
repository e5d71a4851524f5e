-- Rules of folds keep what they rewrite.
use Rattle.std.proofs.Common.{◌≡◌, refl, sym, ap, ◌∙◌, Bool, true, false, if◌then◌else◌, [], ◌∷◌, Option, Some, None, option_map, arith}
use Rattle.std.proofs.lemmas.Int.{ints}
use Rattle.std.specs.Prelude.{ℤ}
use Rattle.ess_semantics.specs.declared.words.Op2.{Op2}
use Rattle.ess_semantics.specs.declared.words.Fun.{Fun}
use Rattle.ess_semantics.specs.Lists.{and_then}
use Rattle.ess_semantics.specs.Values.{Text, Value, number, truth, item, node, items_of}
use Rattle.ess_semantics.specs.Trees.{binary, word, matrix_literal, name_pat, Ex, name_ex, node_ex, comp_ex, fun1, no_exs, more_exs, no_gens, from, cond}
use Rattle.ess_semantics.specs.Operators.{value_of_node, false_where_undefined, list_value, value_of_word1, all_true, any_true, sum_of, product_of}
use Rattle.ess_semantics.specs.Meaning.{Env, meaning, collect, where_true}
use Rattle.ess_semantics.proofs.Orders.{to_list-of_list}
use Rattle.ess_rules_laws.specs.Rules.{RuleKeeps, RuleKeepsWhere, RuleKeepsNew, IsTruth, IsNumber}
use Rattle.ess_rules_laws.specs.FoldRules.{fold_alone, fold_nothing, fold_one, fold_bare, fold_term, ItemFits, BareFits, is_fold, is_laid_open}
use Rattle.ess_rules_laws.proofs.RuleAnswers.{AnswerKeeps, fires, behind, collect-itself, each-in-any}

-- ---- over a condition alone

alone-and : (c e : Option Value) →
    false_where_undefined true (value_of_node (word Fun.And) (option_map list_value (where_true c (λ u. option_map (λ v. v ∷ []) e)) ∷ []))
    ≡ false_where_undefined true (value_of_node (binary Op2.Implies) (c ∷ e ∷ []))
alone-and None e = refl
alone-and (Some (truth true)) None = refl
alone-and (Some (truth true)) (Some (truth true)) = refl
alone-and (Some (truth true)) (Some (truth false)) = refl
alone-and (Some (truth true)) (Some (number n)) = refl
alone-and (Some (truth true)) (Some (item t n)) = refl
alone-and (Some (truth true)) (Some (node k vs)) = refl
alone-and (Some (truth false)) e = refl
alone-and (Some (number n)) e = refl
alone-and (Some (item t n)) e = refl
alone-and (Some (node k vs)) e = refl

alone-or : (c e : Option Value) →
    false_where_undefined true (value_of_node (word Fun.Or) (option_map list_value (where_true c (λ u. option_map (λ v. v ∷ []) e)) ∷ []))
    ≡ false_where_undefined true (value_of_node (binary Op2.And) (c ∷ e ∷ []))
alone-or None e = refl
alone-or (Some (truth true)) None = refl
alone-or (Some (truth true)) (Some (truth true)) = refl
alone-or (Some (truth true)) (Some (truth false)) = refl
alone-or (Some (truth true)) (Some (number n)) = refl
alone-or (Some (truth true)) (Some (item t n)) = refl
alone-or (Some (truth true)) (Some (node k vs)) = refl
alone-or (Some (truth false)) e = refl
alone-or (Some (number n)) e = refl
alone-or (Some (item t n)) e = refl
alone-or (Some (node k vs)) e = refl

alone-answer : (e : Ex) (env : Env) → AnswerKeeps (fold_alone e) e env
alone-answer (fun1 true Fun.And (comp_ex e (cond c no_gens))) env = λ m. (alone-and (meaning c env) (meaning e env), (m.0.0, λ t. (m.0.1 t, tt)))
alone-answer (fun1 true Fun.Or (comp_ex e (cond c no_gens))) env = λ m. (alone-or (meaning c env) (meaning e env), (m.0.0, λ t. (m.0.1 t, tt)))
alone-answer _ env = tt

-- `and([e | c])` and `or([e | c])`.
pub alone-keeps : RuleKeeps fold_alone
alone-keeps e f q env = fires (fold_alone e) e f env (alone-answer e env) q

-- ---- over no items, over one

nothing-answer : (e : Ex) (env : Env) → AnswerKeeps (fold_nothing e) e env
nothing-answer (fun1 true Fun.And (node_ex false matrix_literal no_exs)) env = λ m. (refl, tt)
nothing-answer (fun1 true Fun.Or (node_ex false matrix_literal no_exs)) env = λ m. (refl, tt)
nothing-answer (fun1 false Fun.Sum (node_ex false matrix_literal no_exs)) env = λ m. (refl, tt)
nothing-answer (fun1 false Fun.Product (node_ex false matrix_literal no_exs)) env = λ m. (refl, tt)
nothing-answer _ env = tt

-- Folds over no items.
pub nothing-keeps : RuleKeeps fold_nothing
nothing-keeps e f q env = fires (fold_nothing e) e f env (nothing-answer e env) q

-- A truth value as a fold over it alone.
one-truth : (o : Option Value) (f : Fun) → ((b : Bool) → value_of_word1 f (list_value (truth b ∷ [])) ≡ Some (truth b)) → IsTruth o →
    false_where_undefined true (value_of_node (word f) (value_of_node matrix_literal (o ∷ []) ∷ [])) ≡ o
one-truth (Some (truth b)) f h t = ap (false_where_undefined true) (h b)
one-truth _ f h t = absurd t

-- The same of a number.
one-number : (o : Option Value) (f : Fun) → ((n : ℤ) → value_of_word1 f (list_value (number n ∷ [])) ≡ Some (number n)) → IsNumber o →
    false_where_undefined false (value_of_node (word f) (value_of_node matrix_literal (o ∷ []) ∷ [])) ≡ o
one-number (Some (number n)) f h t = h n
one-number _ f h t = absurd t

and-one : (b : Bool) → value_of_word1 Fun.And (list_value (truth b ∷ [])) ≡ Some (truth b)
and-one true = refl
and-one false = refl

or-one : (b : Bool) → value_of_word1 Fun.Or (list_value (truth b ∷ [])) ≡ Some (truth b)
or-one true = refl
or-one false = refl

sum-one : (n : ℤ) → value_of_word1 Fun.Sum (list_value (number n ∷ [])) ≡ Some (number n)
sum-one n = ap (λ m. Some (number m)) (omega (arith, ints))

product-one : (n : ℤ) → value_of_word1 Fun.Product (list_value (number n ∷ [])) ≡ Some (number n)
product-one n = ap (λ m. Some (number m)) (omega (arith, ints))

one-answer : (e : Ex) (env : Env) → ItemFits e env → AnswerKeeps (fold_one e) e env
one-answer (fun1 true Fun.And (node_ex false matrix_literal (more_exs a no_exs))) env t = λ m. (one-truth (meaning a env) Fun.And and-one t, m.0.0)
one-answer (fun1 true Fun.Or (node_ex false matrix_literal (more_exs a no_exs))) env t = λ m. (one-truth (meaning a env) Fun.Or or-one t, m.0.0)
one-answer (fun1 false Fun.Sum (node_ex false matrix_literal (more_exs a no_exs))) env t = λ m. (one-number (meaning a env) Fun.Sum sum-one t, m.0.0)
one-answer (fun1 false Fun.Product (node_ex false matrix_literal (more_exs a no_exs))) env t = λ m. (one-number (meaning a env) Fun.Product product-one t, m.0.0)
one-answer _ env t = tt

-- Folds over one item.
pub one-keeps : RuleKeepsWhere ItemFits fold_one
one-keeps e f q env t = fires (fold_one e) e f env (one-answer e env t) q

-- ---- over a comprehension without generators

bare-truth : (o : Option Value) (f : Fun) → ((b : Bool) → value_of_word1 f (list_value (truth b ∷ [])) ≡ Some (truth b)) → IsTruth o →
    false_where_undefined true (value_of_node (word f) (option_map list_value (option_map (λ v. v ∷ []) o) ∷ [])) ≡ o
bare-truth (Some (truth b)) f h t = ap (false_where_undefined true) (h b)
bare-truth _ f h t = absurd t

bare-number : (o : Option Value) (f : Fun) → ((n : ℤ) → value_of_word1 f (list_value (number n ∷ [])) ≡ Some (number n)) → IsNumber o →
    false_where_undefined false (value_of_node (word f) (option_map list_value (option_map (λ v. v ∷ []) o) ∷ [])) ≡ o
bare-number (Some (number n)) f h t = h n
bare-number _ f h t = absurd t

bare-answer : (e : Ex) (env : Env) → BareFits e env → AnswerKeeps (fold_bare e) e env
bare-answer (fun1 true Fun.And (comp_ex e no_gens)) env t = λ m. (bare-truth (meaning e env) Fun.And and-one t, m.0)
bare-answer (fun1 true Fun.Or (comp_ex e no_gens)) env t = λ m. (bare-truth (meaning e env) Fun.Or or-one t, m.0)
bare-answer (fun1 false Fun.Sum (comp_ex e no_gens)) env t = λ m. (bare-number (meaning e env) Fun.Sum sum-one t, m.0)
bare-answer (fun1 false Fun.Product (comp_ex e no_gens)) env t = λ m. (bare-number (meaning e env) Fun.Product product-one t, m.0)
bare-answer _ env t = tt

-- Folds over a comprehension without generators.
pub bare-keeps : RuleKeepsWhere BareFits fold_bare
bare-keeps e f q env t = fires (fold_bare e) e f env (bare-answer e env t) q

-- ---- over a term

-- A fold reads the items of a value, in their order.
reads-items : (f : Fun) → is_fold f ≡ true → (v : Value) → value_of_word1 f v ≡ value_of_word1 f (list_value (items_of v))
reads-items Fun.And q v = ap (λ l. Some (truth (all_true l))) (sym (to_list-of_list (items_of v)))
reads-items Fun.Or q v = ap (λ l. Some (truth (any_true l))) (sym (to_list-of_list (items_of v)))
reads-items Fun.Sum q v = ap (λ l. Some (number (sum_of l))) (sym (to_list-of_list (items_of v)))
reads-items Fun.Product q v = ap (λ l. Some (number (product_of l))) (sym (to_list-of_list (items_of v)))
reads-items _ q v = cc

term-means : (x : Text) (b : Bool) (f : Fun) (env : Env) (o : Option Value) → is_fold f ≡ true →
    false_where_undefined b (value_of_node (word f) (o ∷ []))
    ≡ false_where_undefined b (value_of_node (word f) (option_map list_value (and_then o (λ s. collect (items_of s) (λ v. option_map (λ u. u ∷ []) (meaning (name_ex x) (behind x v env))))) ∷ []))
term-means x b f env None q = refl
term-means x b f env (Some s) q =
    ap (false_where_undefined b) (reads-items f q s)
    ∙ ap (λ o. false_where_undefined b (value_of_node (word f) (option_map list_value o ∷ []))) (sym (collect-itself x env (items_of s)))

term-answer : (x : Text) (e : Ex) (env : Env) → AnswerKeeps (fold_term x e) e env
term-answer x (fun1 b f l) env = go (is_fold f) refl (is_laid_open l)
  where
    go : (t : Bool) → is_fold f ≡ t → (u : Bool) →
        AnswerKeeps (if t then (if u then None else Some (fun1 b f (comp_ex (name_ex x) (from (name_pat x) l no_gens)))) else None) (fun1 b f l) env
    go false q u = tt
    go true q true = tt
    go true q false = λ m. (term-means x b f env (meaning l env) q, ((m.0, each-in-any (meaning l env) _ (λ v. tt)), tt))
term-answer x _ env = tt

-- Folds over a term.
pub term-keeps : RuleKeepsNew fold_term
term-keeps x e f q new env = fires (fold_term x e) e f env (term-answer x e env) q
