-- What a rule answers at a root, and what comprehensions over one term mean.
use Rattle.std.proofs.Common.{◌≡◌, refl, ap, ◌∙◌, subst, Bool, true, false, if◌then◌else◌, List, [], ◌∷◌, ◌++◌, Option, Some, None, option_map}
use Rattle.std.specs.Prelude.{IsTrue, is_some}
use Rattle.std.specs.List.{list_all, list_any}
use Rattle.ess_semantics.specs.declared.words.Fun.{Fun}
use Rattle.ess_semantics.specs.Lists.{and_then}
use Rattle.ess_semantics.specs.Values.{Text, Value, truth, items_of}
use Rattle.ess_semantics.specs.Trees.{word, name_pat, Ex, name_ex, comp_ex, fun1, no_gens, from}
use Rattle.ess_semantics.specs.Operators.{value_of_node, false_where_undefined, list_value}
use Rattle.ess_semantics.specs.Meaning.{Env, meaning, collect}
use Rattle.ess_semantics.specs.Contexts.{Each, EachIn}
use Rattle.ess_semantics.specs.Meets.{Meets}
use Rattle.ess_semantics.specs.Kept.{Keeps}
use Rattle.ess_rules_laws.specs.Rules.{Unused}
use Rattle.ess_rules_laws.proofs.Simulation.{but}
use Rattle.ess_rules_laws.proofs.Agreement.{look-itself, agree-but, meaning-agree}
use Rattle.ess_rules_laws.proofs.MeetsSimulation.{meets-agree}
use Rattle.ess_rules_laws.proofs.Connectives.{all-means, any-means, bits, collect-bits, all-bits, any-bits}

-- What a rule answers at an env is kept.
abbrev pub AnswerKeeps : Option Ex → Ex → Env → Type 0
AnswerKeeps None e env = Unit {0}
AnswerKeeps (Some f) e env = Keeps e f env

-- So it is where the rule fires.
pub fires : (o : Option Ex) (e f : Ex) (env : Env) → AnswerKeeps o e env → o ≡ Some f → Keeps e f env
fires o e f env k q = subst (λ z. AnswerKeeps z e env) q k

-- A rule that fires under a test.
pub when-so : (c : Bool) (f e : Ex) (env : Env) → (c ≡ true → Keeps e f env) → AnswerKeeps (if c then Some f else None) e env
when-so true f e env h = h refl
when-so false f e env h = tt

-- Two values that are there.
pub both-there : (o p : Option Value) → IsTrue (list_all is_some (o ∷ p ∷ [])) → (v : Value) × (w : Value) × (o ≡ Some v) × (p ≡ Some w)
both-there None p t = cc
both-there (Some v) None t = cc
both-there (Some v) (Some w) t = (v, w, refl, refl)

-- ---- a new name

-- The env with a value of one more name.
abbrev pub behind : Text → Value → Env → Env
behind x v env = record env { vals = (x, v) ∷ env.vals }

-- A value of a name that a tree has nowhere changes no meaning.
pub meaning-behind : (x : Text) (v : Value) (e : Ex) (env : Env) → Unused x e → meaning e (behind x v env) ≡ meaning e env
meaning-behind x v e env o = meaning-agree env.positions env.types env.cells (but x) e env.vals ((x, v) ∷ env.vals) o (agree-but x v env.vals)

-- And structures stay met.
pub meets-behind : (x : Text) (v : Value) (e : Ex) (env : Env) → Unused x e → Meets e env → Meets e (behind x v env)
meets-behind x v e env o = meets-agree env.positions env.types env.cells (but x) e env.vals ((x, v) ∷ env.vals) o (agree-but x v env.vals)

-- The new name has its value.
pub name-behind : (x : Text) (v : Value) (env : Env) → meaning (name_ex x) (behind x v env) ≡ Some v
name-behind x v env = look-itself x v env.vals

-- ---- what holds of any value

-- What holds of any value holds at each item.
pub each-any : (xs : List Value) (P : Value → Type 0) → ((v : Value) → P v) → Each xs P
each-any [] P f = tt
each-any (x ∷ xs) P f = (f x, each-any xs P f)

-- The same of the items of a value.
pub each-in-any : (o : Option Value) (P : Value → Type 0) → ((v : Value) → P v) → EachIn o P
each-in-any None P f = tt
each-in-any (Some s) P f = each-any (items_of s) P f

-- ---- quantifiers over one term

-- The items of a value, where a generator runs over them.
pub collect-itself : (x : Text) (env : Env) (vs : List Value) → collect vs (λ v. option_map (λ u. u ∷ []) (meaning (name_ex x) (behind x v env))) ≡ Some vs
collect-itself x env [] = refl
collect-itself x env (v ∷ vs) =
    ap (λ o. and_then (option_map (λ u. u ∷ []) o) (λ xs. option_map (λ ys. xs ++ ys) (collect vs (λ v. option_map (λ u. u ∷ []) (meaning (name_ex x) (behind x v env)))))) (name-behind x v env)
    ∙ ap (option_map (λ ys. v ∷ ys)) (collect-itself x env vs)

module _ (x : Text) (s body : Ex) (env : Env) (f : Value → Bool) (means : (v : Value) → meaning body (behind x v env) ≡ Some (truth (f v))) where
  -- What is collected.
  pub collected : (o : Option Value) → and_then o (λ w. collect (items_of w) (λ v. option_map (λ u. u ∷ []) (meaning body (behind x v env)))) ≡ option_map (λ w. bits f (items_of w)) o
  collected None = refl
  collected (Some w) = collect-bits (items_of w) _ f (each-any (items_of w) _ (λ v. ap (option_map (λ u. u ∷ [])) (means v)))

  -- `and([body | x <- s])`.
  pub all-over : (w : Value) → meaning s env ≡ Some w → meaning (fun1 true Fun.And (comp_ex body (from (name_pat x) s no_gens))) env ≡ Some (truth (list_all f (items_of w)))
  all-over w q = all-means env body (from (name_pat x) s no_gens) (bits f (items_of w)) (collected (meaning s env) ∙ ap (option_map (λ w. bits f (items_of w))) q) ∙ ap (λ b. Some (truth b)) (all-bits f (items_of w))

  -- `or([body | x <- s])`.
  pub any-over : (w : Value) → meaning s env ≡ Some w → meaning (fun1 true Fun.Or (comp_ex body (from (name_pat x) s no_gens))) env ≡ Some (truth (list_any f (items_of w)))
  any-over w q = any-means env body (from (name_pat x) s no_gens) (bits f (items_of w)) (collected (meaning s env) ∙ ap (option_map (λ w. bits f (items_of w))) q) ∙ ap (λ b. Some (truth b)) (any-bits f (items_of w))

-- A quantifier over a term without a value is false.
pub all-nowhere : (x : Text) (s body : Ex) (env : Env) → meaning s env ≡ None → meaning (fun1 true Fun.And (comp_ex body (from (name_pat x) s no_gens))) env ≡ Some (truth false)
all-nowhere x s body env q =
    ap (λ o. false_where_undefined true (value_of_node (word Fun.And) (option_map list_value (and_then o (λ w. collect (items_of w) (λ v. option_map (λ u. u ∷ []) (meaning body (behind x v env))))) ∷ []))) q

-- The same of `or`.
pub any-nowhere : (x : Text) (s body : Ex) (env : Env) → meaning s env ≡ None → meaning (fun1 true Fun.Or (comp_ex body (from (name_pat x) s no_gens))) env ≡ Some (truth false)
any-nowhere x s body env q =
    ap (λ o. false_where_undefined true (value_of_node (word Fun.Or) (option_map list_value (and_then o (λ w. collect (items_of w) (λ v. option_map (λ u. u ∷ []) (meaning body (behind x v env))))) ∷ []))) q
