-- Lists and comprehensions over a source that have values, and what is said of what a rule answers.
use Rattle.std.proofs.Common.{◌≡◌, refl, sym, subst, Bool, true, false, if◌then◌else◌, List, [], ◌∷◌, ◌++◌, Option, Some, None, option_map}
use Rattle.std.specs.Prelude.{IsTrue, is_some}
use Rattle.std.specs.List.{list_all}
use Rattle.ess_semantics.specs.declared.words.Fun.{Fun}
use Rattle.ess_semantics.specs.Lists.{and_then, all_some}
use Rattle.ess_semantics.specs.Values.{Text, Value, number, truth, item, node, items_of}
use Rattle.ess_semantics.specs.Trees.{tuple_literal, matrix_literal, name_pat, Ex, Exs, name_ex, node_ex, comp_ex, fun1, no_exs, more_exs, Gens, no_gens, from}
use Rattle.ess_semantics.specs.Operators.{value_of_node, list_value}
use Rattle.ess_semantics.specs.Meaning.{Env, collect, where_true, meaning, meanings, items_under}
use Rattle.ess_semantics.specs.Contexts.{EachIn, Each}
use Rattle.ess_rules_laws.specs.InclusionRules.{every}
use Rattle.ess_rules_laws.proofs.RuleAnswers.{behind, name-behind}
use Rattle.ess_values_along_laws.specs.Valued.{Valued, AllValued}
use Rattle.ess_values_terms_laws.proofs.ValuedForms.{there, all-there, node-valued}

-- ---- lists

some-listed : (os : List (Option Value)) → IsTrue (list_all is_some os) → IsTrue (is_some (all_some os))
some-listed [] h = refl
some-listed (None ∷ os) h = h
some-listed (Some v ∷ os) h = go (all_some os) (some-listed os h)
  where
    go : (o : Option (List Value)) → IsTrue (is_some o) → IsTrue (is_some (option_map (λ vs. v ∷ vs) o))
    go None k = k
    go (Some vs) k = refl

-- A list is there where its items are.
pub list-there : (es : Exs) (env : Env) → IsTrue (list_all is_some (meanings es env)) →
    IsTrue (is_some (meaning (node_ex false matrix_literal es) env))
list-there es env h = go (all_some (meanings es env)) (some-listed (meanings es env) h)
  where
    go : (o : Option (List Value)) → IsTrue (is_some o) → IsTrue (is_some (and_then o (λ xs. Some (list_value xs))))
    go None k = k
    go (Some vs) k = refl

-- A list whose items have values.
pub list-valued : (w : Bool) (es : Exs) (env : Env) → AllValued false false es env → Valued w (node_ex false matrix_literal es) env
list-valued w es env v = node-valued false w matrix_literal es env refl (list-there es env (all-there es env v)) v

-- ---- comprehensions over a source

-- A new name has its value.
pub name-valued : (x : Text) (v : Value) (env : Env) (w : Bool) → Valued w (name_ex x) (behind x v env)
name-valued x v env w = subst (λ z. IsTrue (is_some z)) (sym (name-behind x v env)) refl

collect-there : (vs : List Value) (f : Value → Option (List Value)) → ((v : Value) → IsTrue (is_some (f v))) →
    IsTrue (is_some (collect vs f))
collect-there [] f h = refl
collect-there (v ∷ vs) f h = go (f v) (collect vs f) (h v) (collect-there vs f h)
  where
    go : (o p : Option (List Value)) → IsTrue (is_some o) → IsTrue (is_some p) →
        IsTrue (is_some (and_then o (λ xs. option_map (λ ys. xs ++ ys) p)))
    go None p h k = h
    go (Some xs) None h k = k
    go (Some xs) (Some ys) h k = refl

each-there : (vs : List Value) (P : Value → Type 0) → ((v : Value) → P v) → Each vs P
each-there [] P h = tt
each-there (v ∷ vs) P h = (h v, each-there vs P h)

-- At each item of a value.
pub each-in-there : (o : Option Value) (P : Value → Type 0) → ((v : Value) → P v) → EachIn o P
each-in-there None P h = tt
each-in-there (Some u) P h = each-there (items_of u) P h

-- A comprehension over a source is there where the source is, and what stands behind it at each value.
pub comp-there : (x : Text) (s e : Ex) (gs : Gens) (env : Env) → IsTrue (is_some (meaning s env)) →
    ((v : Value) → IsTrue (is_some (items_under gs (behind x v env) (λ here. option_map (λ u. u ∷ []) (meaning e here))))) →
    IsTrue (is_some (meaning (comp_ex e (from (name_pat x) s gs)) env))
comp-there x s e gs env h k = go (meaning s env) h
  where
    listed : (o : Option (List Value)) → IsTrue (is_some o) → IsTrue (is_some (option_map list_value o))
    listed None q = q
    listed (Some vs) q = refl

    go : (o : Option Value) → IsTrue (is_some o) →
        IsTrue (is_some (option_map list_value (and_then o (λ u. collect (items_of u)
        (λ v. items_under gs (behind x v env) (λ here. option_map (λ u. u ∷ []) (meaning e here)))))))
    go None q = q
    go (Some u) q = listed (collect (items_of u) (λ v. items_under gs (behind x v env) (λ here. option_map (λ u. u ∷ []) (meaning e here))))
        (collect-there (items_of u) (λ v. items_under gs (behind x v env) (λ here. option_map (λ u. u ∷ []) (meaning e here))) k)

-- Behind a condition there are items, where there are.
pub where-there : (o : Option Value) (p : Option (List Value)) → IsTrue (is_some p) → IsTrue (is_some (where_true o (λ u. p)))
where-there None p h = refl
where-there (Some (truth true)) p h = h
where-there (Some (truth false)) p h = refl
where-there (Some (number n)) p h = refl
where-there (Some (item t n)) p h = refl
where-there (Some (node s vs)) p h = refl

-- Two terms that are there make a pair.
pub pair-there : (a b : Ex) (env : Env) → IsTrue (is_some (meaning a env)) → IsTrue (is_some (meaning b env)) →
    IsTrue (is_some (meaning (node_ex false tuple_literal (more_exs a (more_exs b no_exs))) env))
pair-there a b env h k = go (meaning a env) (meaning b env) h k
  where
    go : (o p : Option Value) → IsTrue (is_some o) → IsTrue (is_some p) → IsTrue (is_some (value_of_node tuple_literal (o ∷ p ∷ [])))
    go None p h k = cc
    go (Some v) None h k = cc
    go (Some v) (Some u) h k = refl

-- An item that is there is a list of one.
pub item-there : (o : Option Value) → IsTrue (is_some o) → IsTrue (is_some (option_map (λ u. u ∷ []) o))
item-there None q = q
item-there (Some u) q = refl

-- A comprehension over a source, whose item has values at each value.
pub comp-valued : (w : Bool) (x : Text) (s body : Ex) (env : Env) → Valued false s env →
    ((v : Value) → Valued false body (behind x v env)) →
    Valued w (comp_ex body (from (name_pat x) s no_gens)) env
comp-valued w x s body env h k = (
  comp-there x s body no_gens env (there s env h)
      (λ v. item-there (meaning body (behind x v env)) (there body (behind x v env) (k v))),
  (h, each-in-there (meaning s env) (λ v. Valued false body (behind x v env)) k),
)

-- That all of it is so.
pub every-valued : (w : Bool) (x : Text) (s body : Ex) (env : Env) → Valued false s env →
    ((v : Value) → Valued false body (behind x v env)) →
    Valued w (every x s body) env
every-valued w x s body env h k = (tt, (comp-valued false x s body env h k, tt))

-- That some of it is so.
pub some-valued : (w : Bool) (x : Text) (s body : Ex) (env : Env) → Valued false s env →
    ((v : Value) → Valued false body (behind x v env)) →
    Valued w (fun1 true Fun.Or (comp_ex body (from (name_pat x) s no_gens))) env
some-valued w x s body env h k = (tt, (comp-valued false x s body env h k, tt))

-- ---- what a rule answers

-- What is said of what a rule answers.
abbrev pub AnswerValued : Bool → Ex → Option Ex → Env → Type 0
AnswerValued w e None env = Unit {0}
AnswerValued w e (Some f) env = meaning e env ≡ meaning f env → Valued w f env

-- Under a test.
pub when : (w c : Bool) (e f : Ex) (env : Env) → (meaning e env ≡ meaning f env → Valued w f env) →
    AnswerValued w e (if c then Some f else None) env
when w true e f env h = h
when w false e f env h = tt

-- Unless a test holds.
pub unless : (w c : Bool) (e : Ex) (r : Option Ex) (env : Env) → AnswerValued w e r env → AnswerValued w e (if c then None else r) env
unless w true e r env h = tt
unless w false e r env h = h

-- What is answered keeps values.
pub answered : (w : Bool) (e f : Ex) (r : Option Ex) (env : Env) → r ≡ Some f → AnswerValued w e r env → meaning e env ≡ meaning f env →
    Valued w f env
answered w e f r env q a m = (subst (λ z. AnswerValued w e z env) q a) m
