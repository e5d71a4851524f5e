-- The rule of `=` between tuples keeps what it rewrites.
use Rattle.std.proofs.Common.{◌≡◌, refl, sym, ap, ◌∙◌, ℕ, suc, ◌+◌, Bool, true, ◌&&◌, List, [], ◌∷◌, Option, Some, arith}
use Rattle.std.specs.Prelude.{IsTrue}
use Rattle.std.specs.Ordering.{is_eq, ordering_then}
use Rattle.std.specs.declared.cmp.Ordering.{Ordering}
use Rattle.std.specs.declared.cmp.Ordering.TheVariants.{Less, Equal, Greater}
use Rattle.ess_semantics.specs.declared.words.Op2.{Op2}
use Rattle.ess_semantics.specs.Lists.{or_default}
use Rattle.ess_semantics.specs.Values.{Text, a_tuple, Value, truth, node, Values, nil, cons, to_list, tuple}
use Rattle.ess_semantics.specs.Order.{order, orders, same}
use Rattle.ess_semantics.specs.Names.{Names}
use Rattle.ess_semantics.specs.Trees.{to_component, index, Ex, ex2}
use Rattle.ess_semantics.specs.Types.{Ty, Tys, bool_ty, no_tys, more_tys, compound, is_bool}
use Rattle.ess_semantics.specs.Typing.{type_of}
use Rattle.ess_semantics.specs.Typed.{Typed}
use Rattle.ess_semantics.specs.TypeMembers.{is_of, are_of, is_of_type}
use Rattle.ess_semantics.specs.Operators.{component, misfit, value_of_node, false_where_undefined}
use Rattle.ess_semantics.specs.Meaning.{Env, TypeEntry, meaning}
use Rattle.ess_semantics.specs.Meets.{Meets}
use Rattle.ess_semantics.proofs.Tests.{and-left, and-right}
use Rattle.ess_rules_laws.specs.Rules.{RuleKeepsTypedThere, SoundOperands, OperandsThere}
use Rattle.ess_rules_laws.specs.ComponentRules.{component_of, equal_from, components, equal_where, equal_components}
use Rattle.ess_rules_laws.proofs.RuleAnswers.{AnswerKeeps, fires, both-there}
use Rattle.ess_rules_laws.proofs.Connectives.{binary-means, and-means}

-- Two lists are equal where their first items and the rest are.
pub then-equal : (o p : Ordering) → is_eq (ordering_then o p) ≡ is_eq o && is_eq p
then-equal Less p = refl
then-equal Equal p = refl
then-equal Greater p = refl

-- A value of a type, read as Boolean where the type is bool.
pub of-mark : (p : Bool) (es : List TypeEntry) (t : Ty) (v : Value) → is_of p es t v ≡ true → false_where_undefined (is_bool (Some t)) (Some v) ≡ Some v
of-mark p es bool_ty (truth b) h = refl
of-mark p es bool_ty v h = cc
of-mark p es t v h = refl

-- The component of a tuple.
pub component-means : (t : Ty) (k : ℕ) (a : Ex) (env : Env) (vs : Values) (v : Value) → meaning a env ≡ Some (tuple vs) → component vs k ≡ Some v → is_of_type t env v ≡ true →
    meaning (component_of t k a) env ≡ Some v
component-means t k a env vs v q c h =
    ap (λ o. false_where_undefined (is_bool (Some t)) (value_of_node (index (to_component k ∷ [])) (o ∷ []))) q
    ∙ ap (λ o. false_where_undefined (is_bool (Some t)) (Some (or_default o misfit))) c ∙ of-mark env.positions env.types t v h

-- The components behind the first ones.
shifted : (ws : Values) (k : ℕ) (v : Value) (vs : Values) → ((j : ℕ) → component ws (suc (j + k)) ≡ component (cons v vs) (suc j)) → (j : ℕ) → component ws (suc (j + suc k)) ≡ component vs (suc j)
shifted ws k v vs h j = ap (λ n. component ws (suc n)) (let e : j + suc k ≡ suc j + k = omega arith in e) ∙ h (suc j)

-- The first one.
here : (ws : Values) (k : ℕ) (v : Value) (vs : Values) → ((j : ℕ) → component ws (suc (j + k)) ≡ component (cons v vs) (suc j)) → component ws (suc k) ≡ Some v
here ws k v vs h = ap (λ n. component ws (suc n)) (let e : k ≡ 0 + k = omega arith in e) ∙ h 0

module _ (a b : Ex) (env : Env) (xs ys : Values) (p : meaning a env ≡ Some (tuple xs)) (q : meaning b env ≡ Some (tuple ys)) where
  equal-from : (ts us : Tys) (k : ℕ) (vs ws : Values) → are_of env.positions env.types ts (to_list vs) ≡ true → are_of env.positions env.types us (to_list ws) ≡ true →
      ((j : ℕ) → component xs (suc (j + k)) ≡ component vs (suc j)) → ((j : ℕ) → component ys (suc (j + k)) ≡ component ws (suc j)) →
      meaning (equal_from (suc k) ts us a b) env ≡ Some (truth (is_eq (orders vs ws)))
  equal-from no_tys no_tys k nil nil h i f g = refl
  equal-from (more_tys t ts) (more_tys u us) k (cons v vs) (cons w ws) h i f g =
      and-means env (ex2 true Op2.Eq (component_of t (suc k) a) (component_of u (suc k) b)) (equal_from (suc (suc k)) ts us a b) (same v w) (is_eq (orders vs ws))
      (binary-means env true Op2.Eq (component_of t (suc k) a) (component_of u (suc k) b) v w
      (component-means t (suc k) a env xs v p (here xs k v vs f) (and-left _ _ h)) (component-means u (suc k) b env ys w q (here ys k w ws g) (and-left _ _ i)))
      (equal-from ts us (suc k) vs ws (and-right _ _ h) (and-right _ _ i) (shifted xs k v vs f) (shifted ys k w ws g))
      ∙ ap (λ z. Some (truth z)) (sym (then-equal (order v w) (orders vs ws)))
  equal-from no_tys (more_tys u us) k nil (cons w ws) h i f g = refl
  equal-from (more_tys t ts) no_tys k (cons v vs) nil h i f g = refl
  equal-from _ _ k _ _ h i f g = cc

-- The structures of the equations are met.
equal-met : (ts us : Tys) (k : ℕ) (a b : Ex) (env : Env) → Meets a env → Meets b env → Meets (equal_from k ts us a b) env
equal-met no_tys no_tys k a b env m h = tt
equal-met (more_tys t ts) (more_tys u us) k a b env m h = (((m, tt), ((h, tt), tt)), λ z. (equal-met ts us (suc k) a b env m h, tt))
equal-met no_tys (more_tys u us) k a b env m h = tt
equal-met (more_tys t ts) no_tys k a b env m h = tt

-- A value of a type of tuples.
pub tuple-value : (p : Bool) (es : List TypeEntry) (ts : Tys) (v : Value) → is_of p es (compound a_tuple ts) v ≡ true → (vs : Values) × (v ≡ tuple vs) × (are_of p es ts (to_list vs) ≡ true)
tuple-value p es ts (node a_tuple vs) h = (vs, refl, h)
tuple-value p es ts _ h = cc

where-answer : (t u : Option Ty) (a b : Ex) (env : Env) (v w : Value) → meaning a env ≡ Some v → meaning b env ≡ Some w →
    ((s : Ty) → t ≡ Some s → IsTrue (is_of_type s env v)) → ((s : Ty) → u ≡ Some s → IsTrue (is_of_type s env w)) →
    AnswerKeeps (equal_where (components t) (components u) a b) (ex2 true Op2.Eq a b) env
where-answer (Some (compound a_tuple ts)) (Some (compound a_tuple us)) a b env v w p q f g =
    λ m. (
      let r = tuple-value env.positions env.types ts v (f (compound a_tuple ts) refl) in let s = tuple-value env.positions env.types us w (g (compound a_tuple us) refl) in
          binary-means env true Op2.Eq a b v w p q ∙ ap (λ z. Some (truth (same z w))) r.1 ∙ ap (λ z. Some (truth (same (tuple r.0) z))) s.1
          ∙ sym (equal-from a b env r.0 s.0 (p ∙ ap Some r.1) (q ∙ ap Some s.1) ts us 0 r.0 s.0 r.2 s.2 (λ j. start r.0 j) (λ j. start s.0 j)),
      equal-met ts us 1 a b env m.0 m.1.0,
    )
  where
    start : (vs : Values) (j : ℕ) → component vs (suc (j + 0)) ≡ component vs (suc j)
    start vs j = ap (λ n. component vs (suc n)) (let e : j + 0 ≡ j = omega arith in e)
where-answer _ _ a b env v w p q f g = tt

components-answer : (g : Names Ty) (x : Text) (e : Ex) → SoundOperands g e → (env : Env) → Typed g env → OperandsThere e env → AnswerKeeps (equal_components g x e) e env
components-answer g x (ex2 true Op2.Eq a b) s env t h = let r = both-there (meaning a env) (meaning b env) h in
    where-answer (type_of a g) (type_of b g) a b env r.0 r.1 r.2 r.3 (λ y p. s.0 y p env t r.0 r.2) (λ y p. s.1.0 y p env t r.1 r.3)
components-answer g x _ s env t h = tt

-- `=` of tuples.
pub equal_components-keeps : RuleKeepsTypedThere equal_components
equal_components-keeps g x e f q o s env t h = fires (equal_components g x e) e f env (components-answer g x e s env t h) q
