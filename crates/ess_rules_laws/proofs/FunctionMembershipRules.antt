-- The rules of `in` what is made of a function keep what they rewrite.
use Rattle.std.proofs.Common.{◌≡◌, refl, sym, ap, ◌∙◌, Bool, true, false, ◌&&◌, ◌||◌, if◌then◌else◌, List, [], ◌∷◌, map, filter, Option, Some, None, option_map}
use Rattle.std.specs.Prelude.{IsTrue}
use Rattle.std.specs.List.{list_all, list_any}
use Rattle.std.specs.Ordering.{is_eq}
use Rattle.std.specs.declared.cmp.Ordering.{Ordering}
use Rattle.ess_semantics.specs.declared.words.Op2.{Op2}
use Rattle.ess_semantics.specs.declared.words.Fun.{Fun}
use Rattle.ess_semantics.specs.Lists.{and_then}
use Rattle.ess_semantics.specs.Values.{Text, a_function, Value, truth, node, nil, cons, to_list, items_of, pair, from_of, to_of}
use Rattle.ess_semantics.specs.Order.{order, orders, same}
use Rattle.ess_semantics.specs.Collections.{holds, sorted_once, set_of}
use Rattle.ess_semantics.specs.Names.{Names}
use Rattle.ess_semantics.specs.Trees.{binary, word, tuple_literal, name_pat, Ex, name_ex, node_ex, comp_ex, ex2, fun1, no_exs, more_exs, no_gens, from}
use Rattle.ess_semantics.specs.Types.{Ty, compound2}
use Rattle.ess_semantics.specs.Typing.{type_of}
use Rattle.ess_semantics.specs.Typed.{Typed}
use Rattle.ess_semantics.specs.TypeMembers.{is_of_type}
use Rattle.ess_semantics.specs.Membership.{is_pair}
use Rattle.ess_semantics.specs.Operators.{value_of_node, value_of_word1, false_where_undefined}
use Rattle.ess_semantics.specs.Meaning.{Env, meaning, collect}
use Rattle.ess_semantics.specs.Contexts.{Each}
use Rattle.ess_semantics.specs.Meets.{Meets}
use Rattle.ess_semantics.proofs.Tests.{and-left, and-right}
use Rattle.ess_semantics.proofs.Orders.{to_list-of_list}
use Rattle.ess_semantics.proofs.Sorting.{holds-sorted_once}
use Rattle.ess_rules_laws.specs.Rules.{RuleKeepsNew, Unused}
use Rattle.ess_rules_laws.specs.ComponentRules.{component_of}
use Rattle.ess_rules_laws.specs.ShortSizeRules.{SoundWithin, RuleKeepsWithin}
use Rattle.ess_rules_laws.specs.FunctionMembershipRules.{pair_ex, an_argument, a_result, a_source, member_of_function, member_related}
use Rattle.ess_rules_laws.proofs.Bindings.{each-map}
use Rattle.ess_rules_laws.proofs.RuleAnswers.{AnswerKeeps, fires, behind, meaning-behind, meets-behind, name-behind, each-in-any, any-over, any-nowhere}
use Rattle.ess_rules_laws.proofs.Connectives.{binary-means, any-means, bits, collect-bits, any-bits}
use Rattle.ess_rules_laws.proofs.Horizontal.{in-is-or, any-never}
use Rattle.ess_rules_laws.proofs.ComponentRules.{then-equal, component-means}

-- ---- what holds at each item

-- What a test of all items says of each.
all-each : (f : Value → Bool) (xs : List Value) → list_all f xs ≡ true → Each xs (λ v. f v ≡ true)
all-each f [] h = tt
all-each f (x ∷ xs) h = (and-left _ _ h, all-each f xs (and-right (f x) _ h))

-- `or([body | y <- s])`, where the body is known at the items of s.
any-each : (y : Text) (s body : Ex) (env : Env) (f : Value → Bool) (w : Value) → meaning s env ≡ Some w → Each (items_of w) (λ v. meaning body (behind y v env) ≡ Some (truth (f v))) →
    meaning (fun1 true Fun.Or (comp_ex body (from (name_pat y) s no_gens))) env ≡ Some (truth (list_any f (items_of w)))
any-each y s body env f w q h =
    any-means env body (from (name_pat y) s no_gens) (bits f (items_of w))
    (ap (λ o. and_then o (λ z. collect (items_of z) (λ v. option_map (λ u. u ∷ []) (meaning body (behind y v env))))) q
    ∙ collect-bits (items_of w) _ f (each-map (items_of w) _ _ (λ v e. ap (option_map (λ u. u ∷ [])) e) h))
    ∙ ap (λ b. Some (truth b)) (any-bits f (items_of w))

-- ---- a component of a pair

abbrev In2 : Option Value → Option Value → Option Value
In2 o s = false_where_undefined true (value_of_node (binary Op2.Member) (o ∷ s ∷ []))

-- Nothing is equal to a term without a value.
equal-nowhere : (o p : Option Value) → p ≡ None → false_where_undefined true (value_of_node (binary Op2.Eq) (o ∷ p ∷ [])) ≡ Some (truth false)
equal-nowhere o p q = ap (λ z. false_where_undefined true (value_of_node (binary Op2.Eq) (o ∷ z ∷ []))) q ∙ go o
  where
    go : (o : Option Value) → false_where_undefined true (value_of_node (binary Op2.Eq) (o ∷ None ∷ [])) ≡ Some (truth false)
    go None = refl
    go (Some v) = refl

any-map : (c : Value → Value) (xs : List Value) (w : Value) → list_any (λ p. same (c p) w) xs ≡ holds (map c xs) w
any-map c [] w = refl
any-map c (x ∷ xs) w = ap (λ b. same (c x) w || b) (any-map c xs w)

-- `in` the set of components, which the term A gives at each pair.
part-means : (W : Fun) (c : Value → Value) → ((v : Value) → value_of_word1 W v ≡ Some (set_of (map c (items_of v)))) → (y : Text) (a f A : Ex) (env : Env) → Unused y a →
    ((v : Value) → meaning f env ≡ Some v → Each (items_of v) (λ p. meaning A (behind y p env) ≡ Some (c p))) →
    meaning (ex2 true Op2.Member a (fun1 false W f)) env ≡ meaning (fun1 true Fun.Or (comp_ex (ex2 true Op2.Eq A a) (from (name_pat y) f no_gens))) env
part-means W c q y a f A env new h = go (meaning a env) (meaning f env) refl refl
  where
    body : Ex
    body = ex2 true Op2.Eq A a

    go : (o p : Option Value) → meaning a env ≡ o → meaning f env ≡ p → In2 o (value_of_node (word W) (p ∷ [])) ≡ meaning (fun1 true Fun.Or (comp_ex body (from (name_pat y) f no_gens))) env
    go None None j k = sym (any-nowhere y f body env k)
    go (Some w) None j k = sym (any-nowhere y f body env k)
    go None (Some v) j k = sym (any-over y f body env (λ u. false) (λ u. equal-nowhere (meaning A (behind y u env)) (meaning a (behind y u env)) (meaning-behind y u a env new ∙ j)) v k
        ∙ ap (λ b. Some (truth b)) (any-never (items_of v)))
    go (Some w) (Some v) j k =
        ap (In2 (Some w)) (q v) ∙ ap (λ l. Some (truth (holds l w))) (to_list-of_list (sorted_once (map c (items_of v))))
        ∙ ap (λ b. Some (truth b)) (holds-sorted_once (map c (items_of v)) w ∙ sym (any-map c (items_of v) w))
        ∙ sym (any-each y f body env (λ p. same (c p) w) v k
        (each-map (items_of v) _ _ (λ p e. binary-means (behind y p env) true Op2.Eq A a (c p) w e (meaning-behind y p a env new ∙ j)) (h v k)))

-- ---- what types say

-- Whether the value is a pair of these types.
abbrev pub IsPairOf : Ty → Ty → Env → Value → Bool
IsPairOf t u env x = is_pair x && is_of_type t env (from_of x) && is_of_type u env (to_of x)

-- The pairs of a function are of these types.
pub pairs-of : (t u : Ty) (env : Env) (v : Value) → IsTrue (is_of_type (compound2 a_function t u) env v) → Each (items_of v) (λ x. IsPairOf t u env x ≡ true)
pairs-of t u env (node a_function vs) h = all-each (IsPairOf t u env) (to_list vs) (and-right _ _ h)
pairs-of t u env _ h = cc

pair-is : (p : Value) → is_pair p ≡ true → p ≡ pair (from_of p) (to_of p)
pair-is (pair a b) h = refl
pair-is _ h = cc

-- The first component of the new name at a pair.
pub first-means : (y : Text) (t u : Ty) (env : Env) (p : Value) → IsPairOf t u env p ≡ true → meaning (component_of t 1 (name_ex y)) (behind y p env) ≡ Some (from_of p)
first-means y t u env p h = component-means t 1 (name_ex y) (behind y p env) (cons (from_of p) (cons (to_of p) nil)) (from_of p) (name-behind y p env ∙ ap Some (pair-is p (and-left _ _ (and-left _ _ h)))) refl
    (and-right (is_pair p) _ (and-left _ _ h))

-- The same of the second one.
pub second-means : (y : Text) (t u : Ty) (env : Env) (p : Value) → IsPairOf t u env p ≡ true → meaning (component_of u 2 (name_ex y)) (behind y p env) ≡ Some (to_of p)
second-means y t u env p h = component-means u 2 (name_ex y) (behind y p env) (cons (from_of p) (cons (to_of p) nil)) (to_of p) (name-behind y p env ∙ ap Some (pair-is p (and-left _ _ (and-left _ _ h)))) refl
    (and-right (is_pair p && is_of_type t env (from_of p)) _ h)

-- ---- the arguments of a result

-- Pairs are equal by components.
same-pair : (a b w u : Value) → same (pair a b) (pair w u) ≡ same a w && same b u && true
same-pair a b w u = then-equal (order a w) (orders (cons b nil) (cons u nil)) ∙ go (order a w)
  where
    go : (o : Ordering) → is_eq o && is_eq (orders (cons b nil) (cons u nil)) ≡ is_eq o && same b u && true
    go o = assoc (is_eq o) _ (same b u) (then-equal (order b u) (orders nil nil))
      where
        assoc : (s t r : Bool) → t ≡ r && true → s && t ≡ s && r && true
        assoc true t r e = e
        assoc false t r e = refl

source-holds : (ps : List Value) (w u : Value) → Each ps (λ p. is_pair p ≡ true) → holds (map from_of (filter (λ p. same (to_of p) u) ps)) w ≡ holds ps (pair w u)
source-holds [] w u h = refl
source-holds (pair a b ∷ ps) w u h = go (same b u) (same a w) refl (source-holds ps w u h.1) ∙ sym (ap (λ z. z || holds ps (pair w u)) (same-pair a b w u))
  where
    R : List Value
    R = filter (λ p. same (to_of p) u) ps

    go : (t s : Bool) → same a w ≡ s → holds (map from_of R) w ≡ holds ps (pair w u) → holds (map from_of (if t then pair a b ∷ R else R)) w ≡ (s && t && true) || holds ps (pair w u)
    go true true q e = ap (λ z. z || holds (map from_of R) w) q
    go true false q e = ap (λ z. z || holds (map from_of R) w) q ∙ e
    go false true q e = e
    go false false q e = e
source-holds (_ ∷ ps) w u h = cc

source-means : (a f b : Ex) (env : Env) → ((v : Value) → meaning f env ≡ Some v → Each (items_of v) (λ p. is_pair p ≡ true)) →
    meaning (ex2 true Op2.Member a (node_ex false (word Fun.PreImage) (more_exs f (more_exs b no_exs)))) env ≡ meaning (ex2 true Op2.Member (pair_ex a b) (fun1 false Fun.ToRelation f)) env
source-means a f b env h = go (meaning a env) (meaning f env) (meaning b env) (λ v j. h v j)
  where
    go : (o p r : Option Value) → ((v : Value) → p ≡ Some v → Each (items_of v) (λ q. is_pair q ≡ true)) →
        In2 o (value_of_node (word Fun.PreImage) (p ∷ r ∷ [])) ≡ In2 (value_of_node tuple_literal (o ∷ r ∷ [])) (value_of_node (word Fun.ToRelation) (p ∷ []))
    go None p None h = refl
    go None p (Some u) h = refl
    go (Some w) None None h = refl
    go (Some w) None (Some u) h = refl
    go (Some w) (Some v) None h = refl
    go (Some w) (Some v) (Some u) h =
        ap (λ l. Some (truth (holds l w))) (to_list-of_list (sorted_once (map from_of (filter (λ p. same (to_of p) u) (items_of v)))))
        ∙ ap (λ z. Some (truth z)) (holds-sorted_once (map from_of (filter (λ p. same (to_of p) u) (items_of v))) w ∙ source-holds (items_of v) w u (h v refl)
        ∙ sym (holds-sorted_once (items_of v) (pair w u)))
        ∙ sym (ap (λ l. Some (truth (holds l (pair w u)))) (to_list-of_list (sorted_once (items_of v))))

-- ---- the rules

-- The structures of a disjunction over pairs are met.
some-met : (y : Text) (a f A : Ex) (env : Env) → Unused y a → Meets a env → Meets f env → ((v : Value) → Meets A (behind y v env)) →
    Meets (fun1 true Fun.Or (comp_ex (ex2 true Op2.Eq A a) (from (name_pat y) f no_gens))) env
some-met y a f A env new m h i = ((h, each-in-any (meaning f env) _ (λ v. (i v, (meets-behind y v a env new m, tt)))), tt)

argument-answer : (o : Option Ty) (y : Text) (a f : Ex) (env : Env) → Unused y a → ((v : Value) (t : Ty) → o ≡ Some t → meaning f env ≡ Some v → IsTrue (is_of_type t env v)) →
    AnswerKeeps (an_argument o y a f) (ex2 true Op2.Member a (fun1 false Fun.Defined f)) env
argument-answer (Some (compound2 a_function t u)) y a f env new h = λ m. (
  part-means Fun.Defined from_of (λ v. refl) y a f (component_of t 1 (name_ex y)) env new (λ v j. each-map (items_of v) _ _ (λ p e. first-means y t u env p e) (pairs-of t u env v (h v (compound2 a_function t u) refl j))),
  some-met y a f (component_of t 1 (name_ex y)) env new m.0 m.1.0.0 (λ v. (tt, tt)),
)
argument-answer _ y a f env new h = tt

result-answer : (o : Option Ty) (y : Text) (a f : Ex) (env : Env) → Unused y a → ((v : Value) (t : Ty) → o ≡ Some t → meaning f env ≡ Some v → IsTrue (is_of_type t env v)) →
    AnswerKeeps (a_result o y a f) (ex2 true Op2.Member a (fun1 false Fun.Range f)) env
result-answer (Some (compound2 a_function t u)) y a f env new h = λ m. (
  part-means Fun.Range to_of (λ v. refl) y a f (component_of u 2 (name_ex y)) env new (λ v j. each-map (items_of v) _ _ (λ p e. second-means y t u env p e) (pairs-of t u env v (h v (compound2 a_function t u) refl j))),
  some-met y a f (component_of u 2 (name_ex y)) env new m.0 m.1.0.0 (λ v. (tt, tt)),
)
result-answer _ y a f env new h = tt

source-answer : (o : Option Ty) (a f b : Ex) (env : Env) → ((v : Value) (t : Ty) → o ≡ Some t → meaning f env ≡ Some v → IsTrue (is_of_type t env v)) →
    AnswerKeeps (a_source o a f b) (ex2 true Op2.Member a (node_ex false (word Fun.PreImage) (more_exs f (more_exs b no_exs)))) env
source-answer (Some (compound2 a_function t u)) a f b env h = λ m. (
  source-means a f b env (λ v j. each-map (items_of v) _ _ (λ p e. and-left _ _ (and-left _ _ e)) (pairs-of t u env v (h v (compound2 a_function t u) refl j))),
  ((m.0, (m.1.0.1.0, tt)), ((m.1.0.0, tt), tt)),
)
source-answer _ a f b env h = tt

function-answer : (g : Names Ty) (y : Text) (e : Ex) → Unused y e → SoundWithin g e → (env : Env) → Typed g env → AnswerKeeps (member_of_function g y e) e env
function-answer g y (ex2 true Op2.Member a (fun1 false Fun.Defined f)) o h env t = argument-answer (type_of f g) y a f env o.0 (λ v s q j. h.1.0.0 s q env t v j)
function-answer g y (ex2 true Op2.Member a (fun1 false Fun.Range f)) o h env t = result-answer (type_of f g) y a f env o.0 (λ v s q j. h.1.0.0 s q env t v j)
function-answer g y (ex2 true Op2.Member a (node_ex false (word Fun.PreImage) (more_exs f (more_exs b no_exs)))) o h env t = source-answer (type_of f g) a f b env (λ v s q j. h.1.0.0 s q env t v j)
function-answer g y _ o h env t = tt

-- `in` the arguments, the results and the arguments of a result.
pub member_of_function-keeps : RuleKeepsWithin member_of_function
member_of_function-keeps g y e f q o h env t = fires (member_of_function g y e) e f env (function-answer g y e o h env t) q

-- A relation made of a function has its pairs.
in-relation : (o p : Option Value) → In2 o (value_of_node (word Fun.ToRelation) (p ∷ [])) ≡ In2 o p
in-relation None None = refl
in-relation None (Some v) = refl
in-relation (Some w) None = refl
in-relation (Some w) (Some v) = ap (λ l. Some (truth (holds l w))) (to_list-of_list (sorted_once (items_of v))) ∙ ap (λ z. Some (truth z)) (holds-sorted_once (items_of v) w)

related-answer : (y : Text) (e : Ex) → Unused y e → (env : Env) → AnswerKeeps (member_related y e) e env
related-answer y (ex2 true Op2.Member p (fun1 false Fun.ToRelation f)) o env = λ m. (
  in-relation (meaning p env) (meaning f env) ∙ sym (in-is-or env.positions env.types env.cells env.vals y p f o.0),
  some-met y p f (name_ex y) env o.0 m.0 m.1.0.0 (λ v. tt),
)
related-answer y _ o env = tt

-- `in` the pairs of a function.
pub member_related-keeps : RuleKeepsNew member_related
member_related-keeps y e f q o env = fires (member_related y e) e f env (related-answer y e o env) q
