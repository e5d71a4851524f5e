-- The items of lists, and what words and signs give for them.
use Rattle.std.proofs.Common.{◌≡◌, refl, sym, ap, ◌∙◌, Bool, true, false, not, List, [], ◌∷◌, map, Option, Some, None, option_map}
use Rattle.ess_semantics.specs.Lists.{and_then, all_some, when}
use Rattle.ess_semantics.specs.Values.{Text, Value, items_of, of_list, tuple}
use Rattle.ess_semantics.specs.Order.{below}
use Rattle.ess_semantics.specs.Trees as pure
use Rattle.ess_semantics.specs.Trees.{word, binary, more_exs, no_exs, plain_node, ex2, is_truth_op, is_truth_op2}
use Rattle.ess_semantics.specs.Operators.{list_value, as_list, yes_no, value_of_node, false_where_undefined}
use Rattle.ess_semantics.specs.Meaning.{Env, meaning, meanings}
use Rattle.ess_semantics.specs.Large.{is_large, any_large, is_big}
use Rattle.ess_semantics.proofs.Orders.{to_list-of_list}
use Rattle.ess_grammar.specs.Models.{is_lex_operator}
use Rattle.eprime_tree.specs.declared.words.PFun.{PFun}
use Rattle.eprime_tree.specs.declared.words.POp2.{POp2}
use Rattle.eprime_tree.specs.Views.{pure_fun, pure_op2, exs_of}
use Rattle.eprime_eval_kinds.specs.declared.tree.KEx.{KEx}
use Rattle.eprime_eval_kinds.specs.declared.tree.KList.{KList}
use Rattle.eprime_eval_kinds.specs.declared.tree.KGen.{KGen}
use Rattle.eprime_eval_kinds.specs.declared.tree.KList.TheVariants as variant
use Rattle.eprime_eval_kinds.specs.KindedViews.{pure_kex, pure_klist, pure_kgen}
use Rattle.eprime_eval_kinds.proofs.KindedEquations.{pure_klist_items, pure_klist_comp}
use Rattle.eprime_eval_scalars.specs.declared.scalars.Scalar.{Scalar}
use Rattle.eprime_eval_scalars.specs.ScalarViews.{pure_scalar}
use Rattle.eprime_eval.specs.Items.{Gathered, items_in, items_at, large_items}
use Rattle.eprime_eval.specs.Operating.{fold_of, folded, lex_of, compared}
use Rattle.eprime_eval.proofs.Gathering.{gathered_when}
use Rattle.eprime_eval.proofs.Excuses.{large_node, large_operand}

-- ---- the items of a list

items-back : (o : Option (List Value)) → option_map items_of (option_map list_value o) ≡ o
items-back None = refl
items-back (Some xs) = ap Some (to_list-of_list xs)

listed-back : (o : Option (List Value)) → option_map items_of (and_then o (λ xs. Some (list_value xs))) ≡ o
listed-back None = refl
listed-back (Some xs) = ap Some (to_list-of_list xs)

-- Those of a literal are its operands' values.
pub items_listed : (ns : List Text) (es : List KEx) (env : Env)
    → items_in (meaning (pure_klist ns (variant.Items es)) env) ≡ all_some (meanings (exs_of (map (pure_kex ns) es)) env)
items_listed ns es env = rw (pure_klist_items ns es) (listed-back (all_some (meanings (exs_of (map (pure_kex ns) es)) env)))

-- Those of a comprehension are its body's at all bindings.
pub items_swept : (ns : List Text) (e : KEx) (gs : List KGen) (env : Env)
    → items_in (meaning (pure_klist ns (variant.Comp e gs)) env) ≡ items_at (pure_kex ns e) (map (pure_kgen ns) gs) env
items_swept ns e gs env = rw (pure_klist_comp ns e gs) (items-back (items_at (pure_kex ns e) (map (pure_kgen ns) gs) env))

pub large_listed : (ns : List Text) (es : List KEx) (env : Env) → any_large (exs_of (map (pure_kex ns) es)) env ≡ true
    → is_large (pure_klist ns (variant.Items es)) env ≡ true
large_listed ns es env h = rw (pure_klist_items ns es) (large_operand false pure.matrix_literal (exs_of (map (pure_kex ns) es)) env h)

pub large_comp : (ns : List Text) (e : KEx) (gs : List KGen) (env : Env) → large_items (pure_kex ns e) (map (pure_kgen ns) gs) env ≡ true
    → is_large (pure_klist ns (variant.Comp e gs)) env ≡ true
large_comp ns e gs env h = rw (pure_klist_comp ns e gs) h

-- What was gathered of them was gathered of the list.
pub gathered_listed : (b : Bool) (old new : List Value) (ns : List Text) (es : List KEx) (env : Env)
    → Gathered b old new (all_some (meanings (exs_of (map (pure_kex ns) es)) env)) → Gathered b old new (items_in (meaning (pure_klist ns (variant.Items es)) env))
gathered_listed b old new ns es env h = rw (items_listed ns es env) h

pub gathered_swept : (b : Bool) (old new : List Value) (ns : List Text) (e : KEx) (gs : List KGen) (env : Env)
    → Gathered b old new (items_at (pure_kex ns e) (map (pure_kgen ns) gs) env) → Gathered b old new (items_in (meaning (pure_klist ns (variant.Comp e gs)) env))
gathered_swept b old new ns e gs env h = rw (items_swept ns e gs env) h

-- The same of a list that is one of them.
pub listed_at : (b : Bool) (old new : List Value) (ns : List Text) (l : KList) (es fs : List KEx) (env : Env) → l ≡ variant.Items es → fs ≡ es
    → Gathered b old new (all_some (meanings (exs_of (map (pure_kex ns) fs)) env)) → Gathered b old new (items_in (meaning (pure_klist ns l) env))
listed_at b old new ns l es fs env e f h = let k = rw f at h in rw e (gathered_listed b old new ns es env k)

pub swept_at : (b : Bool) (old new : List Value) (ns : List Text) (l : KList) (e f : KEx) (gs hs : List KGen) (env : Env) → l ≡ variant.Comp e gs → f ≡ e → hs ≡ gs
    → Gathered b old new (items_at (pure_kex ns f) (map (pure_kgen ns) hs) env) → Gathered b old new (items_in (meaning (pure_klist ns l) env))
swept_at b old new ns l e f gs hs env p q r h = let k = rw (q, r) at h in rw p (gathered_swept b old new ns e gs env k)

pub ruleset lists = (gathered_listed, gathered_swept, large_listed, large_comp)

-- A list whose items were put behind nothing, or that isn't there.
pub list_there : (t : Bool) (old new : List Scalar) (o : Option (List Value)) → old ≡ [] → t ≡ true → Gathered t (map pure_scalar old) (map pure_scalar new) o
    → Some (map pure_scalar new) ≡ o
list_there true old new o e z h = sym (gathered_when pure_scalar true old new o e h)
list_there false old new o e z h = cc

pub list_missing : (t : Bool) (old new : List Scalar) (o : Option (List Value)) → t ≡ false → Gathered t (map pure_scalar old) (map pure_scalar new) o → None ≡ o
list_missing false old new o z h = sym h
list_missing true old new o z h = cc

pub ruleset list_found = (list_there, list_missing)

-- ---- words

word-meaning : (f : PFun) (m : Option Value) → value_of_node (word (pure_fun f)) (m ∷ []) ≡ and_then (items_in m) (fold_of f)
word-meaning PFun.And None = refl
word-meaning PFun.And (Some v) = refl
word-meaning PFun.Or None = refl
word-meaning PFun.Or (Some v) = refl
word-meaning PFun.Sum None = refl
word-meaning PFun.Sum (Some v) = refl
word-meaning PFun.Product None = refl
word-meaning PFun.Product (Some v) = refl
word-meaning PFun.Min None = refl
word-meaning PFun.Min (Some v) = refl
word-meaning PFun.Max None = refl
word-meaning PFun.Max (Some v) = refl
word-meaning PFun.AllDiff None = refl
word-meaning PFun.AllDiff (Some v) = refl

folded-is : (f : PFun) (l : pure.Ex) (env : Env) (t : Bool) (old new : List Scalar) → old ≡ []
    → Gathered t (map pure_scalar old) (map pure_scalar new) (items_in (meaning l env))
    → folded f (when t (map pure_scalar new)) ≡ meaning (plain_node (word (pure_fun f)) (more_exs l no_exs)) env
folded-is f l env t old new e h =
    ap (λ o. folded f o) (sym (gathered_when pure_scalar t old new (items_in (meaning l env)) e h))
    ∙ ap (false_where_undefined (is_truth_op (word (pure_fun f)))) (sym (word-meaning f (meaning l env)))

-- A word over a list, from the list's items.
pub fold_there : (f : PFun) (l : pure.Ex) (env : Env) (t : Bool) (old new : List Scalar) (o : Option Value) → old ≡ [] → t ≡ true
    → Gathered t (map pure_scalar old) (map pure_scalar new) (items_in (meaning l env))
    → o ≡ folded f (Some (map pure_scalar new)) → o ≡ meaning (plain_node (word (pure_fun f)) (more_exs l no_exs)) env
fold_there f l env true old new o e z h k = k ∙ folded-is f l env true old new e h
fold_there f l env false old new o e z h k = cc

pub fold_missing : (f : PFun) (l : pure.Ex) (env : Env) (t : Bool) (old new : List Scalar) (o : Option Value) → old ≡ [] → t ≡ false
    → Gathered t (map pure_scalar old) (map pure_scalar new) (items_in (meaning l env))
    → o ≡ folded f None → o ≡ meaning (plain_node (word (pure_fun f)) (more_exs l no_exs)) env
fold_missing f l env false old new o e z h k = k ∙ folded-is f l env false old new e h
fold_missing f l env true old new o e z h k = cc

pub large_fold : (f : PFun) (l : pure.Ex) (env : Env) (t : Bool) (old new : List Scalar) → old ≡ [] → t ≡ true
    → Gathered t (map pure_scalar old) (map pure_scalar new) (items_in (meaning l env))
    → is_big (folded f (Some (map pure_scalar new))) ≡ true → is_large (plain_node (word (pure_fun f)) (more_exs l no_exs)) env ≡ true
large_fold f l env true old new e z h k =
    large_node (is_truth_op (word (pure_fun f))) (word (pure_fun f)) (more_exs l no_exs) env (ap is_big (sym (folded-is f l env true old new e h)) ∙ k)
large_fold f l env false old new e z h k = cc

pub ruleset folds = (fold_there, fold_missing, large_fold)

-- ---- signs between lists

lists-back : (v : Value) → as_list (list_value (items_of v)) ≡ as_list v
lists-back v = ap (λ xs. tuple (of_list xs)) (to_list-of_list (items_of v))

sign-values : (o : POp2) (v w : Value) → is_lex_operator (pure_op2 o) ≡ true
    → value_of_node (binary (pure_op2 o)) (Some v ∷ Some w ∷ []) ≡ lex_of o (items_of v) (items_of w)
sign-values POp2.LexLt v w h =
    ap (λ x. yes_no (below x (as_list w))) (sym (lists-back v)) ∙ ap (λ y. yes_no (below (as_list (list_value (items_of v))) y)) (sym (lists-back w))
sign-values POp2.LexLe v w h =
    ap (λ x. yes_no (not (below (as_list w) x))) (sym (lists-back v)) ∙ ap (λ y. yes_no (not (below y (as_list (list_value (items_of v)))))) (sym (lists-back w))
sign-values POp2.LexGt v w h =
    ap (λ x. yes_no (below (as_list w) x)) (sym (lists-back v)) ∙ ap (λ y. yes_no (below y (as_list (list_value (items_of v))))) (sym (lists-back w))
sign-values POp2.LexGe v w h =
    ap (λ x. yes_no (not (below x (as_list w)))) (sym (lists-back v)) ∙ ap (λ y. yes_no (not (below (as_list (list_value (items_of v))) y))) (sym (lists-back w))
sign-values POp2.Pow v w h = cc
sign-values POp2.Times v w h = cc
sign-values POp2.Div v w h = cc
sign-values POp2.Mod v w h = cc
sign-values POp2.Plus v w h = cc
sign-values POp2.Minus v w h = cc
sign-values POp2.Eq v w h = cc
sign-values POp2.Ne v w h = cc
sign-values POp2.Lt v w h = cc
sign-values POp2.Le v w h = cc
sign-values POp2.Gt v w h = cc
sign-values POp2.Ge v w h = cc
sign-values POp2.And v w h = cc
sign-values POp2.Or v w h = cc
sign-values POp2.Implies v w h = cc
sign-values POp2.Iff v w h = cc

sign-nothing : (o : POp2) (m n : Option Value) → is_lex_operator (pure_op2 o) ≡ true
    → value_of_node (binary (pure_op2 o)) (m ∷ n ∷ []) ≡ and_then m (λ v. and_then n (λ w. value_of_node (binary (pure_op2 o)) (Some v ∷ Some w ∷ [])))
sign-nothing o (Some v) (Some w) h = refl
sign-nothing POp2.LexLt (Some v) None h = refl
sign-nothing POp2.LexLe (Some v) None h = refl
sign-nothing POp2.LexGt (Some v) None h = refl
sign-nothing POp2.LexGe (Some v) None h = refl
sign-nothing POp2.LexLt None n h = refl
sign-nothing POp2.LexLe None n h = refl
sign-nothing POp2.LexGt None n h = refl
sign-nothing POp2.LexGe None n h = refl
sign-nothing POp2.And m n h = cc
sign-nothing POp2.Or m n h = cc
sign-nothing POp2.Implies m n h = cc
sign-nothing POp2.Iff m n h = cc
sign-nothing POp2.Pow m n h = cc
sign-nothing POp2.Times m n h = cc
sign-nothing POp2.Div m n h = cc
sign-nothing POp2.Mod m n h = cc
sign-nothing POp2.Plus m n h = cc
sign-nothing POp2.Minus m n h = cc
sign-nothing POp2.Eq m n h = cc
sign-nothing POp2.Ne m n h = cc
sign-nothing POp2.Lt m n h = cc
sign-nothing POp2.Le m n h = cc
sign-nothing POp2.Gt m n h = cc
sign-nothing POp2.Ge m n h = cc

both-items : (o : POp2) (m n : Option Value) → is_lex_operator (pure_op2 o) ≡ true
    → and_then m (λ v. and_then n (λ w. value_of_node (binary (pure_op2 o)) (Some v ∷ Some w ∷ [])))
    ≡ and_then (items_in m) (λ xs. and_then (items_in n) (λ ys. lex_of o xs ys))
both-items o None n h = refl
both-items o (Some v) None h = refl
both-items o (Some v) (Some w) h = sign-values o v w h

-- A sign between two lists, from their items.
pub lex_there : (o : POp2) (l m : pure.Ex) (env : Env) (p q : Option (List Value)) (r : Option Value) → p ≡ items_in (meaning l env) → q ≡ items_in (meaning m env)
    → is_lex_operator (pure_op2 o) ≡ true → r ≡ compared o p q → r ≡ meaning (ex2 (is_truth_op2 (pure_op2 o)) (pure_op2 o) l m) env
lex_there o l m env p q r e f s k =
    k ∙ ap (λ x. compared o x q) e ∙ ap (λ y. compared o (items_in (meaning l env)) y) f
    ∙ ap (false_where_undefined (is_truth_op2 (pure_op2 o)))
    (sym (sign-nothing o (meaning l env) (meaning m env) s ∙ both-items o (meaning l env) (meaning m env) s))
