-- Rules of words and signs on lists keep what they rewrite.
use Rattle.std.proofs.Common.{◌≡◌, refl, sym, ap, ◌∙◌, subst, suc, Bool, true, false, ◌&&◌, ◌||◌, not, if◌then◌else◌, List, [], ◌∷◌, pos, Option, Some, None, option_map, arith}
use Rattle.std.specs.List.{list_all}
use Rattle.ess_semantics.specs.declared.words.Op2.{Op2}
use Rattle.ess_semantics.specs.declared.words.Fun.{Fun}
use Rattle.ess_semantics.specs.Lists.{and_then}
use Rattle.ess_semantics.specs.Values.{Text, Value, number, truth, to_list, tuple, of_list, items_of}
use Rattle.ess_semantics.specs.Order.{same, below}
use Rattle.ess_semantics.specs.Collections.{holds, count, sorted, mset_of}
use Rattle.ess_semantics.specs.Trees.{binary, word, Ex, number_ex, name_ex, ex2, fun1, no_exs, more_exs}
use Rattle.ess_semantics.specs.Operators.{all_different, least, greatest, as_list, list_value, value_of_node, false_where_undefined}
use Rattle.ess_semantics.specs.Meaning.{Env, meaning, collect}
use Rattle.ess_semantics.specs.Meets.{Meets, MeetsAll}
use Rattle.ess_semantics.specs.Contexts.{guards}
use Rattle.ess_semantics.proofs.Tests.{both-ways, and-left, and-right, and-both, not-true}
use Rattle.ess_semantics.proofs.Orders.{to_list-of_list, same-itself, same-equal}
use Rattle.ess_semantics.proofs.Sorting.{all-holds, holds-all}
use Rattle.ess_semantics.proofs.Multisets.{count-sorted}
use Rattle.ess_rules_laws.specs.Rules.{Unused}
use Rattle.ess_rules_laws.specs.FoldRules.{is_laid_open}
use Rattle.ess_rules_laws.specs.InclusionRules.{every, frequency}
use Rattle.ess_rules_laws.specs.ListRules.{members_list, is_of_list, list_term, is_lex, as_members, lex_both, different_term, ListRulesKeep}
use Rattle.ess_rules_laws.proofs.RuleAnswers.{AnswerKeeps, fires, when-so, behind, meaning-behind, meets-behind, name-behind, each-in-any, collect-itself, all-over, all-nowhere}
use Rattle.ess_rules_laws.proofs.Connectives.{binary-means}
use Rattle.ess_rules_laws.proofs.ContainerValues.{count-absent, count-present}

-- ---- members as a list

-- A term as the list of its members.
list-means : (x : Text) (s : Ex) (env : Env) → meaning (members_list x s) env ≡ option_map (λ v. list_value (items_of v)) (meaning s env)
list-means x s env = go (meaning s env)
  where
    go : (o : Option Value) →
        option_map list_value
        (and_then o (λ w. collect (items_of w) (λ v. option_map (λ u. u ∷ []) (meaning (name_ex x) (behind x v env)))))
        ≡ option_map (λ v. list_value (items_of v)) o
    go None = refl
    go (Some w) = ap (option_map list_value) (collect-itself x env (items_of w))

list-met : (x : Text) (s : Ex) (env : Env) → Meets s env → Meets (members_list x s) env
list-met x s env m = (m, each-in-any (meaning s env) _ (λ v. tt))

-- A word that looks at items alone.
word-lists : (b : Bool) (f : Fun) → is_of_list f ≡ true → (o : Option Value) →
    false_where_undefined b (value_of_node (word f) (o ∷ []))
    ≡ false_where_undefined b (value_of_node (word f) (option_map (λ v. list_value (items_of v)) o ∷ []))
word-lists b f q None = refl
word-lists b f q (Some v) = go f q
  where
    at : (g : List Value → Option Value) →
        false_where_undefined b (g (items_of v)) ≡ false_where_undefined b (g (to_list (of_list (items_of v))))
    at g = ap (λ l. false_where_undefined b (g l)) (sym (to_list-of_list (items_of v)))

    go : (f : Fun) → is_of_list f ≡ true →
        false_where_undefined b (value_of_node (word f) (Some v ∷ []))
        ≡ false_where_undefined b (value_of_node (word f) (Some (list_value (items_of v)) ∷ []))
    go Fun.Min q = at least
    go Fun.Max q = at greatest
    go Fun.AllDiff q = at (λ l. Some (truth (all_different l)))
    go _ q = cc

term-answer : (x : Text) (e : Ex) (env : Env) → AnswerKeeps (list_term x e) e env
term-answer x (fun1 b f s) env = when-so (is_of_list f && not (is_laid_open s)) (fun1 b f (members_list x s)) (fun1 b f s) env
    (λ q m. (
      word-lists b f (and-left _ _ q) (meaning s env)
          ∙ ap (λ o. false_where_undefined b (value_of_node (word f) (o ∷ []))) (sym (list-means x s env)),
      (list-met x s env m.0, tt),
    ))
term-answer x _ env = tt

-- ---- the signs

sign-lists : (o : Op2) → is_lex o ≡ true → (p q : Option Value) →
    (value_of_node (binary o) (p ∷ q ∷ []) ≡ value_of_node (binary o) (option_map (λ v. list_value (items_of v)) p ∷ q ∷ []))
    × (value_of_node (binary o) (p ∷ q ∷ []) ≡ value_of_node (binary o) (p ∷ option_map (λ v. list_value (items_of v)) q ∷ []))
sign-lists o l None q = (none q, none-right q)
  where
    none : (q : Option Value) → value_of_node (binary o) (None ∷ q ∷ []) ≡ value_of_node (binary o) (None ∷ q ∷ [])
    none q = refl

    none-right : (q : Option Value) →
        value_of_node (binary o) (None ∷ q ∷ []) ≡ value_of_node (binary o) (None ∷ option_map (λ v. list_value (items_of v)) q ∷ [])
    none-right None = refl
    none-right (Some w) = go o l
      where
        go : (o : Op2) → is_lex o ≡ true →
            value_of_node (binary o) (None ∷ Some w ∷ []) ≡ value_of_node (binary o) (None ∷ Some (list_value (items_of w)) ∷ [])
        go Op2.LexLt l = refl
        go Op2.LexLe l = refl
        go Op2.LexGt l = refl
        go Op2.LexGe l = refl
        go _ l = cc
sign-lists o l (Some v) None = (go o l, go-right o l)
  where
    go : (o : Op2) → is_lex o ≡ true →
        value_of_node (binary o) (Some v ∷ None ∷ []) ≡ value_of_node (binary o) (Some (list_value (items_of v)) ∷ None ∷ [])
    go Op2.LexLt l = refl
    go Op2.LexLe l = refl
    go Op2.LexGt l = refl
    go Op2.LexGe l = refl
    go _ l = cc

    go-right : (o : Op2) → is_lex o ≡ true → value_of_node (binary o) (Some v ∷ None ∷ []) ≡ value_of_node (binary o) (Some v ∷ None ∷ [])
    go-right o l = refl
sign-lists o l (Some v) (Some w) = (left o l, right o l)
  where
    V : List Value
    V = items_of v

    W : List Value
    W = items_of w

    left : (o : Op2) → is_lex o ≡ true →
        value_of_node (binary o) (Some v ∷ Some w ∷ []) ≡ value_of_node (binary o) (Some (list_value V) ∷ Some w ∷ [])
    left Op2.LexLt l = ap (λ z. Some (truth (below (tuple (of_list z)) (as_list w)))) (sym (to_list-of_list V))
    left Op2.LexLe l = ap (λ z. Some (truth (not (below (as_list w) (tuple (of_list z)))))) (sym (to_list-of_list V))
    left Op2.LexGt l = ap (λ z. Some (truth (below (as_list w) (tuple (of_list z))))) (sym (to_list-of_list V))
    left Op2.LexGe l = ap (λ z. Some (truth (not (below (tuple (of_list z)) (as_list w))))) (sym (to_list-of_list V))
    left _ l = cc

    right : (o : Op2) → is_lex o ≡ true →
        value_of_node (binary o) (Some v ∷ Some w ∷ []) ≡ value_of_node (binary o) (Some v ∷ Some (list_value W) ∷ [])
    right Op2.LexLt l = ap (λ z. Some (truth (below (as_list v) (tuple (of_list z))))) (sym (to_list-of_list W))
    right Op2.LexLe l = ap (λ z. Some (truth (not (below (tuple (of_list z)) (as_list v))))) (sym (to_list-of_list W))
    right Op2.LexGt l = ap (λ z. Some (truth (below (tuple (of_list z)) (as_list v)))) (sym (to_list-of_list W))
    right Op2.LexGe l = ap (λ z. Some (truth (not (below (as_list v) (tuple (of_list z)))))) (sym (to_list-of_list W))
    right _ l = cc

-- None of these signs guards its right operand.
lex-open : (o : Op2) → is_lex o ≡ true → guards (binary o) ≡ false
lex-open Op2.LexLt l = refl
lex-open Op2.LexLe l = refl
lex-open Op2.LexGt l = refl
lex-open Op2.LexGe l = refl
lex-open _ l = cc

both-met : (o : Op2) (a b : Ex) (env : Env) → is_lex o ≡ true → Meets (ex2 true o a b) env → Meets a env × Meets b env
both-met o a b env l m = let k = subst (λ z. MeetsAll z (more_exs a (more_exs b no_exs)) env) (lex-open o l) m in (k.0, k.1.0)

met-both : (o : Op2) (a b : Ex) (env : Env) → is_lex o ≡ true → Meets a env → Meets b env → Meets (ex2 true o a b) env
met-both o a b env l m n = subst (λ z. MeetsAll z (more_exs a (more_exs b no_exs)) env) (sym (lex-open o l)) (m, (n, tt))

-- Of a term as a list, whether it is laid open already or not, a sign reads the same items.
as-left : (o : Op2) → is_lex o ≡ true → (x : Text) (a : Ex) (env : Env) (q : Option Value) →
    value_of_node (binary o) (meaning a env ∷ q ∷ []) ≡ value_of_node (binary o) (meaning (as_members x a) env ∷ q ∷ [])
as-left o l x a env q = go (is_laid_open a)
  where
    go : (c : Bool) → value_of_node (binary o) (meaning a env ∷ q ∷ [])
        ≡ value_of_node (binary o) (meaning (if c then a else members_list x a) env ∷ q ∷ [])
    go true = refl
    go false = (sign-lists o l (meaning a env) q).0 ∙ ap (λ z. value_of_node (binary o) (z ∷ q ∷ [])) (sym (list-means x a env))

as-right : (o : Op2) → is_lex o ≡ true → (x : Text) (b : Ex) (env : Env) (p : Option Value) →
    value_of_node (binary o) (p ∷ meaning b env ∷ []) ≡ value_of_node (binary o) (p ∷ meaning (as_members x b) env ∷ [])
as-right o l x b env p = go (is_laid_open b)
  where
    go : (c : Bool) → value_of_node (binary o) (p ∷ meaning b env ∷ [])
        ≡ value_of_node (binary o) (p ∷ meaning (if c then b else members_list x b) env ∷ [])
    go true = refl
    go false = (sign-lists o l p (meaning b env)).1 ∙ ap (λ z. value_of_node (binary o) (p ∷ z ∷ [])) (sym (list-means x b env))

as-met : (x : Text) (s : Ex) (env : Env) → Meets s env → Meets (as_members x s) env
as-met x s env m = go (is_laid_open s)
  where
    go : (c : Bool) → Meets (if c then s else members_list x s) env
    go true = m
    go false = list-met x s env m

sides-answer : (x : Text) (e : Ex) (env : Env) → AnswerKeeps (lex_both x e) e env
sides-answer x (ex2 true o a b) env =
    when-so (is_lex o && (not (is_laid_open a) || not (is_laid_open b))) (ex2 true o (as_members x a) (as_members x b)) (ex2 true o a b) env
    (λ q m. let l = and-left _ _ q in let k = both-met o a b env l m in (
      ap (false_where_undefined true)
          (as-left o l x a env (meaning b env) ∙ as-right o l x b env (meaning (as_members x a) env)),
      met-both o (as_members x a) (as_members x b) env l (as-met x a env k.0) (as-met x b env k.1),
    ))
sides-answer x _ env = tt

-- ---- allDiff

-- Whether a value is there once.
abbrev once : List Value → Value → Bool
once xs v = same (number (pos (count xs v))) (number (pos 1))

once-one : (xs : List Value) (v : Value) → once xs v ≡ true → count xs v ≡ 1
once-one xs v h = let e : number (pos (count xs v)) ≡ number (pos 1) = same-equal _ _ h in cc

one-once : (xs : List Value) (v : Value) → count xs v ≡ 1 → once xs v ≡ true
one-once xs v h = ap (λ n. same (number (pos n)) (number (pos 1))) h

-- No two items are equal where each is there once.
different-once : (xs : List Value) → all_different xs ≡ list_all (once xs) xs
different-once xs = both-ways (all_different xs) (list_all (once xs) xs)
    (λ h. holds-all (once xs) xs (λ v q. one-once xs v (there xs v h q))) (differ xs)
  where
    there : (xs : List Value) (v : Value) → all_different xs ≡ true → holds xs v ≡ true → count xs v ≡ 1
    there [] v h q = cc
    there (x ∷ xs) v h q = go (same x v) refl q (λ k. there xs v (and-right _ _ h) k)
      where
        go : (b : Bool) → same x v ≡ b → b || holds xs v ≡ true → (holds xs v ≡ true → count xs v ≡ 1) →
            (if b then suc (count xs v) else count xs v) ≡ 1
        go true e k ih = ap suc (count-absent xs v (ap (holds xs) (sym (same-equal x v e)) ∙ not-true (holds xs x) (and-left _ _ h)))
        go false e k ih = ih k

    differ : (xs : List Value) → list_all (once xs) xs ≡ true → all_different xs ≡ true
    differ [] h = refl
    differ (x ∷ xs) h = and-both (not (holds xs x)) (all_different xs) (ap not (absent (holds xs x) refl))
        (differ xs (holds-all (once xs) xs
        (λ v q. one-once xs v (less v (same x v) (once-one (x ∷ xs) v (all-holds (once (x ∷ xs)) xs v (and-right _ _ h) q)) q))))
      where
        absent : (b : Bool) → holds xs x ≡ b → b ≡ false
        absent false q = refl
        absent true q =
            let a : (if same x x then suc (count xs x) else count xs x) ≡ 1 = once-one (x ∷ xs) x (and-left _ _ h) in
            let b : suc (count xs x) ≡ 1 = sym (ap (λ z. if z then suc (count xs x) else count xs x) (same-itself x)) ∙ a in
            let c = count-present xs x q in absurd (omega arith)

        less : (v : Value) (b : Bool) → (if b then suc (count xs v) else count xs v) ≡ 1 → holds xs v ≡ true → count xs v ≡ 1
        less v true e q = let c = count-present xs v q in absurd (omega arith)
        less v false e q = e

-- How often the new name is an item.
once-body : (x : Text) (l : Ex) (env : Env) (w : Value) → Unused x l → meaning l env ≡ Some w → (v : Value) →
    meaning (ex2 true Op2.Eq (frequency (fun1 false Fun.ToMSet l) (name_ex x)) (number_ex (pos 1))) (behind x v env)
    ≡ Some (truth (once (items_of w) v))
once-body x l env w new j v =
    binary-means (behind x v env) true Op2.Eq (frequency (fun1 false Fun.ToMSet l) (name_ex x)) (number_ex (pos 1))
    (number (pos (count (items_of w) v))) (number (pos 1))
    (ap (λ o. value_of_node (word Fun.Freq) (value_of_node (word Fun.ToMSet) (o ∷ []) ∷ meaning (name_ex x) (behind x v env) ∷ []))
    (meaning-behind x v l env new ∙ j)
    ∙ ap (λ o. value_of_node (word Fun.Freq) (Some (mset_of (items_of w)) ∷ o ∷ [])) (name-behind x v env)
    ∙ ap (λ n. Some (number (pos n))) (ap (λ k. count k v) (to_list-of_list (sorted (items_of w))) ∙ count-sorted (items_of w) v)) refl

different-answer : (x : Text) (e : Ex) → Unused x e → (env : Env) → AnswerKeeps (different_term x e) e env
different-answer x (fun1 true Fun.AllDiff l) o env = λ m. (
  go (meaning l env) refl,
  ((m.0, each-in-any (meaning l env) _ (λ v. (((meets-behind x v l env o.0 m.0, tt), (tt, tt)), (tt, tt)))), tt),
)
  where
    Body : Ex
    Body = ex2 true Op2.Eq (frequency (fun1 false Fun.ToMSet l) (name_ex x)) (number_ex (pos 1))

    go : (z : Option Value) → meaning l env ≡ z →
        false_where_undefined true (value_of_node (word Fun.AllDiff) (z ∷ [])) ≡ meaning (every x l Body) env
    go None j = sym (all-nowhere x l Body env j)
    go (Some w) j = sym (all-over x l Body env (once (items_of w)) (once-body x l env w o.0 j) w j
        ∙ ap (λ b. Some (truth b)) (sym (different-once (items_of w))))
different-answer x _ o env = tt

-- Words and signs on lists.
pub lists-keep : ListRulesKeep
lists-keep = record {
  of_a_term = λ x e f q o env. fires (list_term x e) e f env (term-answer x e env) q;
  on_both_sides = λ x e f q o env. fires (lex_both x e) e f env (sides-answer x e env) q;
  all_different = λ x e f q o env. fires (different_term x e) e f env (different-answer x e o env) q;
}
