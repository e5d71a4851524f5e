-- A function is looked up over its pairs.
use Rattle.std.proofs.Common.{◌≡◌, refl, sym, ap, ◌∙◌, subst, Bool, true, false, ◌&&◌, ◌||◌, if◌then◌else◌, List, [], ◌∷◌, ◌++◌, map, Option, Some, None, option_map}
use Rattle.std.specs.Prelude.{IsTrue}
use Rattle.ess_semantics.specs.declared.words.Op2.{Op2}
use Rattle.ess_semantics.specs.declared.words.Fun.{Fun}
use Rattle.ess_semantics.specs.Lists.{and_then}
use Rattle.ess_semantics.specs.Values.{Text, a_function, Value, truth, node, Values, to_list, items_of, from_of, to_of, itself}
use Rattle.ess_semantics.specs.Order.{same, below}
use Rattle.ess_semantics.specs.Collections.{holds, value_at, rises}
use Rattle.ess_semantics.specs.Names.{Names}
use Rattle.ess_semantics.specs.Trees.{word, application, name_pat, Ex, name_ex, node_ex, comp_ex, ex2, no_exs, more_exs, no_gens, from, cond}
use Rattle.ess_semantics.specs.Types.{Ty, any_ty, compound2}
use Rattle.ess_semantics.specs.Typing.{type_of}
use Rattle.ess_semantics.specs.Typed.{Typed}
use Rattle.ess_semantics.specs.TypeMembers.{is_of_type}
use Rattle.ess_semantics.specs.Operators.{list_value, value_of_node}
use Rattle.ess_semantics.specs.Meaning.{Env, meaning, collect, where_true}
use Rattle.ess_semantics.specs.Contexts.{Each}
use Rattle.ess_semantics.specs.Meets.{Meets}
use Rattle.ess_semantics.proofs.Tests.{and-left}
use Rattle.ess_semantics.proofs.Orders.{same-equal, to_list-of_list}
use Rattle.ess_semantics.proofs.Sorting.{Distinct, sorted-of}
use Rattle.ess_semantics.proofs.Repeats.{sorted-distinct}
use Rattle.ess_rules_laws.specs.Rules.{Unused, SoundOperands, OperandsThere}
use Rattle.ess_rules_laws.specs.ComponentRules.{component_of}
use Rattle.ess_rules_laws.specs.Lookups.{found, Looked}
use Rattle.ess_rules_laws.specs.FunctionLookups.{pairs_at, function_lookup, unmarked, FunctionsAreLookedUp}
use Rattle.ess_rules_laws.proofs.Bindings.{each-map}
use Rattle.ess_rules_laws.proofs.RuleAnswers.{both-there, behind, meaning-behind, meets-behind, each-in-any}
use Rattle.ess_rules_laws.proofs.Connectives.{binary-means}
use Rattle.ess_rules_laws.proofs.FunctionMembershipRules.{IsPairOf, pairs-of, first-means, second-means}

-- ---- pairs with an argument

-- Rising by the first parts is rising of the first parts.
rises-firsts : (ps : List Value) → rises from_of ps ≡ rises itself (map from_of ps)
rises-firsts [] = refl
rises-firsts (p ∷ []) = refl
rises-firsts (p ∷ q ∷ ps) = ap (λ b. below (from_of p) (from_of q) && b) (rises-firsts (q ∷ ps))

-- The second part of a pair, where the first one is w.
abbrev Part : Value → Value → Option (List Value)
Part w p = where_true (Some (truth (same (from_of p) w))) (λ u. Some (to_of p ∷ []))

module _ (w : Value) (F : Value → Option (List Value)) where
  -- The rest behind a first pair.
  behind-first : (p : Value) (ps : List Value) (b : Bool) → same (from_of p) w ≡ b → F p ≡ Part w p →
      and_then (F p) (λ xs. option_map (λ ys. xs ++ ys) (collect ps F)) ≡ option_map (λ ys. (if b then to_of p ∷ ys else ys)) (collect ps F)
  behind-first p ps true q h =
      ap (λ o. and_then o (λ xs. option_map (λ ys. xs ++ ys) (collect ps F))) (h ∙ ap (λ b. where_true (Some (truth b)) (λ u. Some (to_of p ∷ []))) q)
  behind-first p ps false q h =
      ap (λ o. and_then o (λ xs. option_map (λ ys. xs ++ ys) (collect ps F))) (h ∙ ap (λ b. where_true (Some (truth b)) (λ u. Some (to_of p ∷ []))) q)

  none-found : (ps : List Value) → Each ps (λ p. F p ≡ Part w p) → holds (map from_of ps) w ≡ false → collect ps F ≡ Some []
  none-found [] h e = refl
  none-found (p ∷ ps) h e = go (same (from_of p) w) refl e (λ z. none-found ps h.1 z)
    where
      go : (b : Bool) → same (from_of p) w ≡ b → b || holds (map from_of ps) w ≡ false → (holds (map from_of ps) w ≡ false → collect ps F ≡ Some []) →
          and_then (F p) (λ xs. option_map (λ ys. xs ++ ys) (collect ps F)) ≡ Some []
      go true q e r = cc
      go false q e r = behind-first p ps false q h.0 ∙ ap (option_map (λ ys. ys)) (r e)

  one-found : (ps : List Value) → Each ps (λ p. F p ≡ Part w p) → Distinct (map from_of ps) → collect ps F ≡ Some (found (value_at ps w))
  one-found [] h d = refl
  one-found (p ∷ ps) h d = go (same (from_of p) w) refl (one-found ps h.1 d.1)
    where
      go : (b : Bool) → same (from_of p) w ≡ b → collect ps F ≡ Some (found (value_at ps w)) →
          and_then (F p) (λ xs. option_map (λ ys. xs ++ ys) (collect ps F)) ≡ Some (found (if b then Some (to_of p) else value_at ps w))
      go true q r = behind-first p ps true q h.0
          ∙ ap (option_map (λ ys. to_of p ∷ ys)) (none-found ps h.1 (ap (holds (map from_of ps)) (sym (same-equal (from_of p) w q)) ∙ d.0))
      go false q r = behind-first p ps false q h.0 ∙ ap (option_map (λ ys. ys)) r

-- ---- a function and an argument

-- A value of a type of functions.
function-of : (t u : Ty) (env : Env) (v : Value) → IsTrue (is_of_type (compound2 a_function t u) env v) → (vs : Values) × (v ≡ node a_function vs) × (rises from_of (to_list vs) ≡ true)
function-of t u env (node a_function vs) h = (vs, refl, and-left _ _ h)
function-of t u env _ h = cc

module _ (y : Text) (t u : Ty) (f a : Ex) (env : Env) (v w : Value) (new : Unused y a) (j : meaning f env ≡ Some v) (k : meaning a env ≡ Some w)
    (typed : IsTrue (is_of_type (compound2 a_function t u) env v)) where
  abbrev Test : Ex
  Test = ex2 true Op2.Eq (component_of t 1 (name_ex y)) a

  abbrev Result : Ex
  Result = component_of u 2 (name_ex y)

  abbrev Lookup : Ex
  Lookup = comp_ex Result (from (name_pat y) f (cond Test no_gens))

  abbrev At : Value → Option (List Value)
  At p = where_true (meaning Test (behind y p env)) (λ z. option_map (λ u. u ∷ []) (meaning Result (behind y p env)))

  at-pair : (p : Value) → IsPairOf t u env p ≡ true → At p ≡ Part w p
  at-pair p h =
      ap (λ o. where_true o (λ z. option_map (λ u. u ∷ []) (meaning Result (behind y p env))))
      (binary-means (behind y p env) true Op2.Eq (component_of t 1 (name_ex y)) a (from_of p) w (first-means y t u env p h) (meaning-behind y p a env new ∙ k))
      ∙ ap (λ o. where_true (Some (truth (same (from_of p) w))) (λ z. option_map (λ u. u ∷ []) o)) (second-means y t u env p h)

  distinct : Distinct (map from_of (items_of v))
  distinct = let r = function-of t u env v typed in
      subst (λ z. Distinct (map from_of (items_of z))) (sym r.1)
      (sorted-distinct (map from_of (to_list r.0)) (sorted-of (map from_of (to_list r.0)) (sym (rises-firsts (to_list r.0)) ∙ r.2)))

  pairs-looked : option_map items_of (meaning Lookup env) ≡ Some (found (value_at (items_of v) w))
  pairs-looked =
      ap (λ o. option_map items_of (option_map list_value (and_then o (λ s. collect (items_of s) At)))) j
      ∙ ap (λ o. option_map items_of (option_map list_value o)) (one-found w At (items_of v) (each-map (items_of v) _ _ at-pair (pairs-of t u env v typed)) distinct)
      ∙ ap Some (to_list-of_list (found (value_at (items_of v) w)))

  lookup-met : Meets f env → Meets a env → Meets Lookup env
  lookup-met m n = (m, each-in-any (meaning f env) _ (λ p. (((tt, tt), (meets-behind y p a env new n, tt)), λ z. (tt, tt))))

  image-means : value_of_node (word Fun.Image) (meaning f env ∷ meaning a env ∷ []) ≡ value_at (items_of v) w
  image-means = ap (λ o. value_of_node (word Fun.Image) (o ∷ meaning a env ∷ [])) j ∙ ap (λ o. value_of_node (word Fun.Image) (Some v ∷ o ∷ [])) k

  application-means : value_of_node application (meaning f env ∷ meaning a env ∷ []) ≡ value_at (items_of v) w
  application-means = let r = function-of t u env v typed in
      ap (λ o. value_of_node application (o ∷ meaning a env ∷ [])) (j ∙ ap Some r.1) ∙ ap (λ o. value_of_node application (Some (node a_function r.0) ∷ o ∷ [])) k
      ∙ sym (ap (λ z. value_at (items_of z) w) r.1)

-- ---- the lookup

-- What a lookup answers looks a term up.
abbrev pub AnswerLooks : Option Ex → Ex → Env → Type 0
AnswerLooks None t env = Unit {0}
AnswerLooks (Some l) t env = Looked t l env

-- So it is where there is one.
pub looks : (o : Option Ex) (t l : Ex) (env : Env) → AnswerLooks o t env → o ≡ Some l → Looked t l env
looks o t l env h q = subst (λ z. AnswerLooks z t env) q h

-- No value has the type of what has none.
no-value : {A : Type 0} (env : Env) (v : Value) → IsTrue (is_of_type any_ty env v) → A
no-value env v h = cc

applied : (o : Option Ty) (y : Text) (f a : Ex) (env : Env) (v w : Value) → Unused y a → meaning f env ≡ Some v → meaning a env ≡ Some w →
    ((s : Ty) → o ≡ Some s → IsTrue (is_of_type s env v)) → Meets f env → Meets a env → AnswerLooks (pairs_at o y f a) (node_ex false application (more_exs f (more_exs a no_exs))) env
applied (Some (compound2 a_function t u)) y f a env v w new j k h m n = let c = h (compound2 a_function t u) refl in record {
  items = pairs-looked y t u f a env v w new j k c ∙ ap (λ z. Some (found z)) (sym (application-means y t u f a env v w new j k c));
  met = lookup-met y t u f a env v w new j k c m n;
}
applied (Some any_ty) y f a env v w new j k h m n = no-value env v (h any_ty refl)
applied _ y f a env v w new j k h m n = tt

imaged : (o : Option Ty) (y : Text) (f a : Ex) (env : Env) (v w : Value) → Unused y a → meaning f env ≡ Some v → meaning a env ≡ Some w →
    ((s : Ty) → o ≡ Some s → IsTrue (is_of_type s env v)) → Meets f env → Meets a env → AnswerLooks (pairs_at o y f a) (node_ex false (word Fun.Image) (more_exs f (more_exs a no_exs))) env
imaged (Some (compound2 a_function t u)) y f a env v w new j k h m n = let c = h (compound2 a_function t u) refl in record {
  items = pairs-looked y t u f a env v w new j k c ∙ ap (λ z. Some (found z)) (sym (image-means y t u f a env v w new j k c));
  met = lookup-met y t u f a env v w new j k c m n;
}
imaged (Some any_ty) y f a env v w new j k h m n = no-value env v (h any_ty refl)
imaged _ y f a env v w new j k h m n = tt

lookup-answer : (g : Names Ty) (y : Text) (e : Ex) → Unused y e → SoundOperands g e → (env : Env) → Typed g env → OperandsThere e env → Meets e env →
    AnswerLooks (function_lookup g y e) (unmarked e) env
lookup-answer g y (node_ex b application (more_exs f (more_exs a no_exs))) o s env t h m = let r = both-there (meaning f env) (meaning a env) h in
    applied (type_of f g) y f a env r.0 r.1 o.1.0 r.2 r.3 (λ z q. s.0 z q env t r.0 r.2) m.0 m.1.0
lookup-answer g y (node_ex b (word Fun.Image) (more_exs f (more_exs a no_exs))) o s env t h m = let r = both-there (meaning f env) (meaning a env) h in
    imaged (type_of f g) y f a env r.0 r.1 o.1.0 r.2 r.3 (λ z q. s.0 z q env t r.0 r.2) m.0 m.1.0
lookup-answer g y _ o s env t h m = tt

-- The result of a function is looked up over its pairs.
pub function-looked : FunctionsAreLookedUp
function-looked g y e l q o s env t h m = looks (function_lookup g y e) (unmarked e) l env (lookup-answer g y e o s env t h m) q
