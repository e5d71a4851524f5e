-- Words of lists and signs between them see no index domain.
use Rattle.std.proofs.Common.{◌≡◌, refl, sym, ap, ◌∙◌, Bool, true, false, ◌&&◌, ◌||◌, not, List, [], ◌∷◌, length, Option, Some, None, nat_eq}
use Rattle.std.specs.Prelude.{IsTrue, is_some}
use Rattle.std.specs.List.{list_all}
use Rattle.ess_semantics.specs.declared.words.Op2.{Op2}
use Rattle.ess_semantics.specs.declared.words.Fun.{Fun}
use Rattle.ess_semantics.specs.Lists.{and_then, all_some, when}
use Rattle.ess_semantics.specs.Values.{Value, number, truth, tuple, matrix, of_list, items_of}
use Rattle.ess_semantics.specs.Order.{below}
use Rattle.ess_semantics.specs.Trees.{binary, word, Ex, matrix_ex, ex2, fun1}
use Rattle.ess_semantics.specs.Operators.{value_of_node, value_of_word1, false_where_undefined, as_list, list_value, sum_of, product_of, all_true, any_true, least, greatest, all_different}
use Rattle.ess_semantics.specs.Meaning.{Env, meaning, meanings, domain_of, members_in, matrix_value}
use Rattle.ess_semantics.specs.Meets.{Meets}
use Rattle.ess_semantics.specs.Kept.{Keeps}
use Rattle.ess_semantics.proofs.Tests.{and-left}
use Rattle.ess_rules_laws.specs.Rules.{OperandsThere}
use Rattle.ess_rules_laws.specs.FoldRules.{is_fold}
use Rattle.ess_rules_laws.specs.SourceRules.{list_of}
use Rattle.ess_rules_laws.specs.ListRules.{is_lex, is_of_list}
use Rattle.ess_rules_laws.proofs.RuleAnswers.{AnswerKeeps, fires, when-so, both-there}
use Rattle.ess_open_rules_laws.specs.OpenSources.{is_placed, plain_list, listed_plainly}

no : {A : Type 0} → false ≡ true → A
no h = cc

-- ---- words by their items

word-items : (f : Fun) → is_fold f || is_of_list f ≡ true → (u v : Value) → items_of u ≡ items_of v →
    value_of_word1 f u ≡ value_of_word1 f v
word-items Fun.Sum h u v e = ap (λ l. Some (number (sum_of l))) e
word-items Fun.Product h u v e = ap (λ l. Some (number (product_of l))) e
word-items Fun.And h u v e = ap (λ l. Some (truth (all_true l))) e
word-items Fun.Or h u v e = ap (λ l. Some (truth (any_true l))) e
word-items Fun.Min h u v e = ap least e
word-items Fun.Max h u v e = ap greatest e
word-items Fun.AllDiff h u v e = ap (λ l. Some (truth (all_different l))) e
word-items _ h u v e = no h

sign-items : (o : Op2) → is_lex o ≡ true → (a a' b b' : Value) → items_of a ≡ items_of a' → items_of b ≡ items_of b' →
    value_of_node (binary o) (Some a ∷ Some b ∷ []) ≡ value_of_node (binary o) (Some a' ∷ Some b' ∷ [])
sign-items Op2.LexLt h a a' b b' p q = ap (λ l. Some (truth (below (tuple (of_list l)) (as_list b)))) p
    ∙ ap (λ l. Some (truth (below (as_list a') (tuple (of_list l))))) q
sign-items Op2.LexLe h a a' b b' p q = ap (λ l. Some (truth (not (below (as_list b) (tuple (of_list l)))))) p
    ∙ ap (λ l. Some (truth (not (below (tuple (of_list l)) (as_list a'))))) q
sign-items Op2.LexGt h a a' b b' p q = ap (λ l. Some (truth (below (as_list b) (tuple (of_list l))))) p
    ∙ ap (λ l. Some (truth (below (tuple (of_list l)) (as_list a')))) q
sign-items Op2.LexGe h a a' b b' p q = ap (λ l. Some (truth (not (below (tuple (of_list l)) (as_list b))))) p
    ∙ ap (λ l. Some (truth (not (below (as_list a') (tuple (of_list l)))))) q
sign-items _ h a a' b b' p q = no h

-- ---- lists of items

-- The list has the items of the matrix.
plain-value : (a : Ex) (env : Env) (v : Value) → meaning a env ≡ Some v →
    (u : Value) × (meaning (plain_list a) env ≡ Some u) × (items_of v ≡ items_of u)
plain-value (matrix_ex es d) env v q = go (all_some (meanings es env)) refl (members_in (domain_of d env)) q
  where
    made : (us vs : List Value) → all_some (meanings es env) ≡ Some vs → (b : Bool) → when b (matrix (of_list us) (of_list vs)) ≡ Some v →
        (u : Value) × (meaning (list_of es) env ≡ Some u) × (items_of v ≡ items_of u)
    made us vs e true q = (
      list_value vs,
      ap (λ o. and_then o (λ vs. Some (list_value vs))) e,
      ap items_of (sym (let z : matrix (of_list us) (of_list vs) ≡ v = cc in z)),
    )
    made us vs e false q = cc

    go : (o : Option (List Value)) → all_some (meanings es env) ≡ o → (p : Option (List Value)) → and_then o (matrix_value p) ≡ Some v →
        (u : Value) × (meaning (list_of es) env ≡ Some u) × (items_of v ≡ items_of u)
    go None e p q = cc
    go (Some vs) e None q = cc
    go (Some vs) e (Some us) q = made us vs e (nat_eq (length us) (length vs)) q
plain-value _ env v q = (v, q, refl)

plain-met : (a : Ex) (env : Env) → Meets a env → Meets (plain_list a) env
plain-met (matrix_ex es d) env m = m.0
plain-met _ env m = m

there : (o : Option Value) → is_some o ≡ true → (v : Value) × (o ≡ Some v)
there None h = no h
there (Some v) h = (v, refl)

word-keeps : (m : Bool) (f : Fun) (t : Ex) (env : Env) → is_fold f || is_of_list f ≡ true → is_some (meaning t env) ≡ true →
    Keeps (fun1 m f t) (fun1 m f (plain_list t)) env
word-keeps m f t env h s k = let v = there (meaning t env) s in let u = plain-value t env v.0 v.1 in (
  ap (λ o. false_where_undefined m (value_of_node (word f) (o ∷ []))) v.1
      ∙ ap (false_where_undefined m) (word-items f h v.0 u.0 u.2)
      ∙ sym (ap (λ o. false_where_undefined m (value_of_node (word f) (o ∷ []))) u.1),
  (plain-met t env k.0, tt),
)

same-sign : (o : Op2) → is_lex o ≡ true → (a b c d : Ex) (env : Env) (x y x' y' : Value) → meaning a env ≡ Some x → meaning b env ≡ Some y →
    meaning c env ≡ Some x' → meaning d env ≡ Some y' → items_of x ≡ items_of x' → items_of y ≡ items_of y' →
    meaning (ex2 true o a b) env ≡ meaning (ex2 true o c d) env
same-sign o h a b c d env x y x' y' p q p' q' e f =
    ap (λ z. false_where_undefined true (value_of_node (binary o) (z ∷ meaning b env ∷ []))) p
    ∙ ap (λ z. false_where_undefined true (value_of_node (binary o) (Some x ∷ z ∷ []))) q
    ∙ ap (false_where_undefined true) (sign-items o h x x' y y' e f)
    ∙ sym (ap (λ z. false_where_undefined true (value_of_node (binary o) (z ∷ meaning d env ∷ []))) p'
    ∙ ap (λ z. false_where_undefined true (value_of_node (binary o) (Some x' ∷ z ∷ []))) q')

sign-keeps : (o : Op2) (a b : Ex) (env : Env) → is_lex o ≡ true → IsTrue (list_all is_some (meaning a env ∷ meaning b env ∷ [])) →
    Keeps (ex2 true o a b) (ex2 true o (plain_list a) (plain_list b)) env
sign-keeps o a b env h s = let r = both-there (meaning a env) (meaning b env) s in
    let u = plain-value a env r.0 r.2 in let v = plain-value b env r.1 r.3 in
    by-sign o h r.0 r.1 r.2 r.3 u.0 v.0 u.1 v.1 u.2 v.2
  where
    by-sign : (o : Op2) → is_lex o ≡ true → (x y : Value) → meaning a env ≡ Some x → meaning b env ≡ Some y → (x' y' : Value) →
        meaning (plain_list a) env ≡ Some x' → meaning (plain_list b) env ≡ Some y' → items_of x ≡ items_of x' → items_of y ≡ items_of y' →
        Keeps (ex2 true o a b) (ex2 true o (plain_list a) (plain_list b)) env
    by-sign Op2.LexLt h x y p q x' y' p' q' e f = λ k. (
      same-sign Op2.LexLt refl a b (plain_list a) (plain_list b) env x y x' y' p q p' q' e f,
      (plain-met a env k.0, (plain-met b env k.1.0, tt)),
    )
    by-sign Op2.LexLe h x y p q x' y' p' q' e f = λ k. (
      same-sign Op2.LexLe refl a b (plain_list a) (plain_list b) env x y x' y' p q p' q' e f,
      (plain-met a env k.0, (plain-met b env k.1.0, tt)),
    )
    by-sign Op2.LexGt h x y p q x' y' p' q' e f = λ k. (
      same-sign Op2.LexGt refl a b (plain_list a) (plain_list b) env x y x' y' p q p' q' e f,
      (plain-met a env k.0, (plain-met b env k.1.0, tt)),
    )
    by-sign Op2.LexGe h x y p q x' y' p' q' e f = λ k. (
      same-sign Op2.LexGe refl a b (plain_list a) (plain_list b) env x y x' y' p q p' q' e f,
      (plain-met a env k.0, (plain-met b env k.1.0, tt)),
    )
    by-sign _ h x y p q x' y' p' q' e f = no h

listed-answer : (e : Ex) (env : Env) → OperandsThere e env → AnswerKeeps (listed_plainly e) e env
listed-answer (ex2 true o a b) env s = when-so (is_lex o && (is_placed a || is_placed b)) _ (ex2 true o a b) env
    (λ h. sign-keeps o a b env (and-left (is_lex o) _ h) s)
listed-answer (fun1 m f t) env s = when-so ((is_fold f || is_of_list f) && is_placed t) _ (fun1 m f t) env
    (λ h. word-keeps m f t env (and-left (is_fold f || is_of_list f) _ h) (and-left (is_some (meaning t env)) true s))
listed-answer _ env s = tt

-- Words and signs of lists.
pub listed_plainly-keeps : (e f : Ex) → listed_plainly e ≡ Some f → (env : Env) → OperandsThere e env → Keeps e f env
listed_plainly-keeps e f q env s = fires (listed_plainly e) e f env (listed-answer e env s) q
