-- Forms that rules answer have their values: in any place, in lists, and in comprehensions over a source.
use Rattle.std.proofs.Common.{◌≡◌, refl, sym, subst, Bool, true, false, ◌&&◌, if◌then◌else◌, List, [], ◌∷◌, ◌++◌, Option, Some, None, option_map}
use Rattle.std.specs.Prelude.{IsTrue, is_some}
use Rattle.std.specs.List.{list_all}
use Rattle.ess_semantics.specs.Lists.{and_then, all_some}
use Rattle.ess_semantics.specs.Values.{Text, Value, items_of}
use Rattle.ess_semantics.specs.Trees.{matrix_literal, name_pat, Ex, Exs, number_ex, truth_ex, name_ex, node_ex, matrix_ex, comp_ex, cell_ex, seen_ex, no_gens, from}
use Rattle.ess_semantics.specs.Operators.{list_value}
use Rattle.ess_semantics.specs.Meaning.{Env, collect, meaning, meanings}
use Rattle.ess_semantics.specs.Contexts.{EachIn, Each, guards}
use Rattle.ess_guard_laws.specs.Guard.{counts}
use Rattle.ess_guard_laws.specs.Supplied.{Unless}
use Rattle.ess_rules_laws.specs.InclusionRules.{every}
use Rattle.ess_rules_laws.proofs.RuleAnswers.{behind, name-behind}
use Rattle.ess_values_along_laws.specs.Valued.{Valued, AllValued}
use Rattle.ess_values_along_laws.specs.ValuesAlong.{may_lack_there}
use Rattle.ess_values_along_laws.proofs.ValuesAlong.{values-along}

-- ---- flags

-- Nothing is in both.
pub and-no : (w : Bool) → w && false ≡ false
and-no true = refl
and-no false = refl

-- What is asked of both.
pub and-yes : (w : Bool) → w && true ≡ w
and-yes true = refl
and-yes false = refl

-- What has values in no natural place has them in any.
pub anywhere : (z w : Bool) (e : Ex) (env : Env) → z ≡ false → Valued z e env → Valued w e env
anywhere z w e env q v = values-along.in_places w e env (subst (λ b. Valued b e env) q v)

said : (b : Bool) (P : Type 0) → b ≡ false → Unless b P → P
said true P q h = cc
said false P q h = h

-- What is no number and no cell by its form needs its values in a natural place too.
pub by-form : (e : Ex) (env : Env) (w : Bool) → may_lack_there e ≡ false → Valued w e env → Valued false e env
by-form e env false q v = v
by-form (number_ex n) env true q v = tt
by-form (truth_ex b) env true q v = tt
by-form (name_ex a) env true q v = v
by-form (node_ex true op es) env true q v = v
by-form (node_ex false op es) env true q v = (
  said (counts op) (IsTrue (is_some (meaning (node_ex false op es) env))) q v.0,
  subst (λ z. AllValued (guards op) z es env) q v.1,
)
by-form (matrix_ex es d) env true q v = v
by-form (comp_ex e gs) env true q v = v
by-form (cell_ex true n es) env true q v = v
by-form (cell_ex false n es) env true q v = cc
by-form (seen_ex r d ns es) env true q v = v

-- ---- lists and comprehensions

all-some : (os : List (Option Value)) → IsTrue (list_all is_some os) → IsTrue (is_some (all_some os))
all-some [] h = refl
all-some (None ∷ os) h = h
all-some (Some v ∷ os) h = go (all_some os) (all-some os h)
  where
    go : (o : Option (List Value)) → IsTrue (is_some o) → IsTrue (is_some (option_map (λ vs. v ∷ vs) o))
    go None k = k
    go (Some vs) k = refl

-- A list of values that are there is there.
pub list-there : (es : Exs) (env : Env) → IsTrue (list_all is_some (meanings es env)) → IsTrue (is_some (meaning
    (node_ex false matrix_literal es) env))
list-there es env h = go (all_some (meanings es env)) (all-some (meanings es env) h)
  where
    go : (o : Option (List Value)) → IsTrue (is_some o) → IsTrue (is_some (and_then o (λ xs. Some (list_value xs))))
    go None k = k
    go (Some vs) k = refl

collect-there : (vs : List Value) (f : Value → Option (List Value)) → ((v : Value) → IsTrue (is_some (f v))) →
    IsTrue (is_some (collect vs f))
collect-there [] f h = refl
collect-there (v ∷ vs) f h = go (f v) (collect vs f) (h v) (collect-there vs f h)
  where
    go : (o p : Option (List Value)) → IsTrue (is_some o) → IsTrue (is_some p) →
        IsTrue (is_some (and_then o (λ xs. option_map (λ ys. xs ++ ys) p)))
    go None p h k = h
    go (Some xs) None h k = k
    go (Some xs) (Some ys) h k = refl

each-there : (vs : List Value) (P : Value → Type 0) → ((v : Value) → P v) → Each vs P
each-there [] P h = tt
each-there (v ∷ vs) P h = (h v, each-there vs P h)

module _ (env : Env) where
  -- A comprehension over a source, whose item has a value at each member.
  comp-there : (x : Text) (s body : Ex) → IsTrue (is_some (meaning s env)) → ((v : Value) →
      IsTrue (is_some (meaning body (behind x v env)))) →
      IsTrue (is_some (meaning (comp_ex body (from (name_pat x) s no_gens)) env))
  comp-there x s body h k = go (meaning s env) h
    where
      item : (v : Value) → IsTrue (is_some (option_map (λ u. u ∷ []) (meaning body (behind x v env))))
      item v = mapped (meaning body (behind x v env)) (k v)
        where
          mapped : (o : Option Value) → IsTrue (is_some o) → IsTrue (is_some (option_map (λ u. u ∷ []) o))
          mapped None q = q
          mapped (Some u) q = refl

      listed : (o : Option (List Value)) → IsTrue (is_some o) → IsTrue (is_some (option_map list_value o))
      listed None q = q
      listed (Some vs) q = refl

      go : (o : Option Value) → IsTrue (is_some o) →
          IsTrue (is_some (option_map list_value (and_then o (λ u. collect (items_of u) (λ v. option_map (λ y. y ∷ []) (meaning body
          (behind x v env)))))))
      go None q = q
      go (Some u) q = listed (collect (items_of u) (λ v. option_map (λ y. y ∷ []) (meaning body (behind x v env))))
          (collect-there (items_of u) (λ v. option_map (λ y. y ∷ []) (meaning body (behind x v env))) item)

  -- The same of values within.
  pub comp-valued : (x : Text) (s body : Ex) (w : Bool) → Valued false s env → ((v : Value) → Valued false body (behind x v env)) →
      Valued w (comp_ex body (from (name_pat x) s no_gens)) env
  comp-valued x s body w h k = (
    comp-there x s body (values-along.value false s env refl h) (λ v. values-along.value false body (behind x v env) refl (k v)),
    (h, each-in (meaning s env)),
  )
    where
      each-in : (o : Option Value) → EachIn o (λ v. Valued false body (behind x v env))
      each-in None = tt
      each-in (Some u) = each-there (items_of u) (λ v. Valued false body (behind x v env)) k

  -- A bound name has a value.
  pub name-valued : (x : Text) (v : Value) (w : Bool) → Valued w (name_ex x) (behind x v env)
  name-valued x v w = subst (λ z. IsTrue (is_some z)) (sym (name-behind x v env)) refl

  -- What is said of what a rule answers.
  abbrev pub Kept : Bool → Ex → Option Ex → Type 0
  Kept w e None = Unit {0}
  Kept w e (Some f) = meaning e env ≡ meaning f env → Valued w f env

  -- Of what is answered where a test says so.
  pub when : (w c : Bool) (e f : Ex) → Valued w f env → Kept w e (if c then Some f else None)
  when w true e f h = λ q. h
  when w false e f h = tt

  -- Of what a rule answers where a test says so.
  pub under : (w c : Bool) (e : Ex) (r : Option Ex) → Kept w e r → Kept w e (if c then r else None)
  under w true e r h = h
  under w false e r h = tt

  -- Of what a rule answers where a test does not say so.
  pub unless : (w c : Bool) (e : Ex) (r : Option Ex) → Kept w e r → Kept w e (if c then None else r)
  unless w true e r h = tt
  unless w false e r h = h

  -- A Boolean `every`, or any word on a comprehension over a source.
  pub every-valued : (x : Text) (s body : Ex) (w : Bool) → Valued false s env → ((v : Value) → Valued false body (behind x v env)) →
      Valued w (every x s body) env
  every-valued x s body w h k = (tt, (comp-valued x s body false h k, tt))
