-- The rule of `=` between functions keeps what it rewrites.
use Rattle.std.proofs.Common.{◌≡◌, refl, sym, ap, ◌∙◌, Bool, true, false, ◌&&◌, List, [], ◌∷◌, Option, Some}
use Rattle.std.specs.Prelude.{IsTrue}
use Rattle.std.specs.List.{list_all}
use Rattle.std.specs.Ordering.{is_lt, ordering_then}
use Rattle.std.specs.declared.cmp.Ordering.TheVariants.{Less}
use Rattle.ess_semantics.specs.declared.words.Op2.{Op2}
use Rattle.ess_semantics.specs.declared.words.Fun.{Fun}
use Rattle.ess_semantics.specs.Values.{Text, a_function, Value, truth, node, Values, nil, cons, pair, from_of, to_of, to_list, items_of, itself}
use Rattle.ess_semantics.specs.Order.{order, orders, below}
use Rattle.ess_semantics.specs.Collections.{holds, rises, sorted_once, relation_of}
use Rattle.ess_semantics.specs.Names.{Names}
use Rattle.ess_semantics.specs.Trees.{word, Ex, name_ex, ex2, fun1}
use Rattle.ess_semantics.specs.Types.{Ty, Tys, no_tys, more_tys, compound}
use Rattle.ess_semantics.specs.Typing.{type_of}
use Rattle.ess_semantics.specs.Typed.{Typed}
use Rattle.ess_semantics.specs.TypeMembers.{is_of}
use Rattle.ess_semantics.specs.Membership.{is_pair}
use Rattle.ess_semantics.specs.Operators.{as_truth, value_of_node}
use Rattle.ess_semantics.specs.Meaning.{Env, TypeEntry, meaning}
use Rattle.ess_semantics.proofs.Tests.{and-left, and-right, and-both}
use Rattle.ess_semantics.proofs.Orders.{to_list-of_list}
use Rattle.ess_semantics.proofs.Sorting.{below-less, holds-sorted_once}
use Rattle.ess_rules_laws.specs.Rules.{RuleKeepsTyped, Unused, SoundOperands}
use Rattle.ess_rules_laws.specs.InclusionRules.{every, both_functions, equal_pairs}
use Rattle.ess_rules_laws.proofs.RuleAnswers.{AnswerKeeps, fires, when-so, behind, meets-behind, all-over, all-nowhere}
use Rattle.ess_rules_laws.proofs.ContainerValues.{Pair, Strictly, set-equal}
use Rattle.ess_rules_laws.proofs.InclusionRules.{member-body, every-met, equal-means}

-- ---- pairs that rise

pair-of : (p : Value) → is_pair p ≡ true → p ≡ pair (from_of p) (to_of p)
pair-of (pair a b) h = refl
pair-of _ h = cc

-- Pairs whose first parts rise strictly do so themselves; f says more of each.
pub pairs-rise : (f : Value → Bool) (ps : List Value) → ((p : Value) → f p ≡ true → is_pair p ≡ true) → list_all f ps ≡ true → rises from_of ps ≡ true → rises itself ps ≡ true
pairs-rise f [] k a h = refl
pairs-rise f (p ∷ []) k a h = refl
pairs-rise f (p ∷ q ∷ ps) k a h =
    and-both (below p q) (rises itself (q ∷ ps))
    (go (k p (and-left (f p) (list_all f (q ∷ ps)) a)) (k q (and-left (f q) (list_all f ps) (and-right (f p) (list_all f (q ∷ ps)) a)))
    (below-less (from_of p) (from_of q) (and-left (below (from_of p) (from_of q)) (rises from_of (q ∷ ps)) h)))
    (pairs-rise f (q ∷ ps) k (and-right (f p) (list_all f (q ∷ ps)) a) (and-right (below (from_of p) (from_of q)) (rises from_of (q ∷ ps)) h))
  where
    go : is_pair p ≡ true → is_pair q ≡ true → order (from_of p) (from_of q) ≡ Less → below p q ≡ true
    go a b e =
        ap (λ x. below x q) (pair-of p a) ∙ ap (λ y. below (pair (from_of p) (to_of p)) y) (pair-of q b)
        ∙ ap (λ o. is_lt (ordering_then o (orders (cons (to_of p) nil) (cons (to_of q) nil)))) e

module _ (p : Bool) (es : List TypeEntry) where
  function-value : (ts : Tys) (v : Value) → is_of p es (compound a_function ts) v ≡ true → (vs : Values) × (v ≡ node a_function vs) × Strictly (to_list vs)
  function-value (more_tys t (more_tys u no_tys)) (node a_function vs) h =
      (vs, refl, pairs-rise (λ x. is_pair x && is_of p es t (from_of x) && is_of p es u (to_of x)) (to_list vs) (λ x q. and-left _ _ (and-left _ _ q)) (and-right _ _ h) (and-left _ _ h))
  function-value _ _ h = cc

  -- Values of two types of functions.
  functions-of : (t u : Option Ty) (a b : Value) → both_functions t u ≡ true → ((s : Ty) → t ≡ Some s → IsTrue (is_of p es s a)) → ((s : Ty) → u ≡ Some s → IsTrue (is_of p es s b)) → Pair Strictly a b
  functions-of (Some (compound a_function ts)) (Some (compound a_function us)) a b h f g = go (function-value ts a (f (compound a_function ts) refl)) (function-value us b (g (compound a_function us) refl))
    where
      go : ((vs : Values) × (a ≡ node a_function vs) × Strictly (to_list vs)) → ((vs : Values) × (b ≡ node a_function vs) × Strictly (to_list vs)) → Pair Strictly a b
      go x y = record {
        kind = a_function;
        left = x.0;
        right = y.0;
        left_is = x.1;
        right_is = y.1;
        left_items = ap items_of x.1;
        right_items = ap items_of y.1;
        left_rises = x.2;
        right_rises = y.2;
        parts = λ us. refl;
      }
  functions-of _ _ a b h f g = cc

-- That the new name is a pair of a function.
pair-body : (x : Text) (b : Ex) (env : Env) (w : Value) → Unused x b → meaning b env ≡ Some w → (v : Value) →
    meaning (ex2 true Op2.Member (name_ex x) (fun1 false Fun.ToRelation b)) (behind x v env) ≡ Some (truth (holds (items_of w) v))
pair-body x b env w o q v =
    member-body x (fun1 false Fun.ToRelation b) env (relation_of (items_of w)) (o, tt) (ap (λ z. value_of_node (word Fun.ToRelation) (z ∷ [])) q) v
    ∙ ap (λ z. Some (truth z)) (ap (λ l. holds l v) (to_list-of_list (sorted_once (items_of w))) ∙ holds-sorted_once (items_of w) v)

pairs-answer : (g : Names Ty) (x : Text) (e : Ex) → Unused x e → SoundOperands g e → (env : Env) → Typed g env → AnswerKeeps (equal_pairs g x e) e env
pairs-answer g x (ex2 true Op2.Eq a b) o s env t = when-so (both_functions (type_of a g) (type_of b g)) _ (ex2 true Op2.Eq a b) env
    (λ q m. (
      equal-means a b A B env (meaning a env) (meaning b env) refl refl (all-nowhere x a A1 env) (all-nowhere x b B1 env) (λ v w j k.
          set-equal v w (functions-of env.positions env.types (type_of a g) (type_of b g) v w q (λ y p. s.0 y p env t v j) (λ y p. s.1.0 y p env t w k))
          ∙ sym (ap (λ z. as_truth z && as_truth (meaning B env)) (all-over x a A1 env (holds (items_of w)) (pair-body x b env w o.1.0 k) v j)
          ∙ ap (λ z. list_all (holds (items_of w)) (items_of v) && as_truth z) (all-over x b B1 env (holds (items_of v)) (pair-body x a env v o.0 j) w k))),
      (every-met x a A1 env m.0 (λ v. (tt, ((meets-behind x v b env o.1.0 m.1.0, tt), tt))), λ z. (every-met x b B1 env m.1.0 (λ v. (tt, ((meets-behind x v a env o.0 m.0, tt), tt))), tt)),
    ))
  where
    A1 : Ex
    A1 = ex2 true Op2.Member (name_ex x) (fun1 false Fun.ToRelation b)

    B1 : Ex
    B1 = ex2 true Op2.Member (name_ex x) (fun1 false Fun.ToRelation a)

    A : Ex
    A = every x a A1

    B : Ex
    B = every x b B1
pairs-answer g x _ o s env t = tt

-- `=` of functions.
pub equal_pairs-keeps : RuleKeepsTyped equal_pairs
equal_pairs-keeps g x e f q o s env t = fires (equal_pairs g x e) e f env (pairs-answer g x e o s env t) q
