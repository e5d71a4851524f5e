-- What operators make of values that are there is there, and when trees over operands are refined.
use Rattle.std.proofs.Common.{◌≡◌, refl, Bool, true, false, ◌&&◌, ◌||◌, List, [], ◌∷◌, Option, Some, None, option_map}
use Rattle.std.specs.Prelude.{IsTrue, is_some}
use Rattle.ess_semantics.specs.declared.words.Op1.{Op1}
use Rattle.ess_semantics.specs.declared.words.Op2.{Op2}
use Rattle.ess_semantics.specs.Lists.{and_then, all_some}
use Rattle.ess_semantics.specs.Values.{Value, number, truth, item, node}
use Rattle.ess_semantics.specs.Trees.{unary, binary, matrix_literal, Ex, Exs, no_exs, more_exs, both_ends}
use Rattle.ess_semantics.specs.Operators.{value_of_node, list_value}
use Rattle.ess_semantics.specs.Domains.{integers}
use Rattle.ess_semantics.specs.Meaning.{Env, meaning, meanings, collect, where_true, spans_of, members_in}
use Rattle.ess_semantics.specs.Contexts.{EachOf}
use Rattle.ess_rules_laws.proofs.Kept.{guarded-true}
use Rattle.ess_rules_laws.proofs.RuleAnswers.{each-any}
use Rattle.ess_values_along_laws.specs.Valued.{Valued, AllValued}
use Rattle.ess_values_along_laws.proofs.ValuesAlong.{values-along}
use Rattle.ess_seen_laws.proofs.ess_values_sources_laws.CollectedLists.{some-each, left-of-both, right-of-both}

-- ---- values that are there

-- What is made of a value.
pub one-there : (F : Option Value → Option Value) → ((v : Value) → IsTrue (is_some (F (Some v)))) → (o : Option Value) →
    IsTrue (is_some o) → IsTrue (is_some (F o))
one-there F f None h = cc
one-there F f (Some v) h = f v

-- What is made of two.
pub both-there : (F : Option Value → Option Value → Option Value) → ((v u : Value) → IsTrue (is_some (F (Some v) (Some u)))) →
    (o p : Option Value) → IsTrue (is_some o) → IsTrue (is_some p) → IsTrue (is_some (F o p))
both-there F f None p h k = cc
both-there F f (Some v) None h k = cc
both-there F f (Some v) (Some u) h k = f v u

-- A difference.
pub subtracted : (v u : Value) → IsTrue (is_some (value_of_node (binary Op2.Minus) (Some v ∷ Some u ∷ [])))
subtracted (number n) u = refl
subtracted (truth b) u = refl
subtracted (item t k) u = refl
subtracted (node k vs) u = refl

-- A size.
pub sized : (o : Option Value) → IsTrue (is_some o) → IsTrue (is_some (value_of_node (unary Op1.Bar) (o ∷ [])))
sized None h = cc
sized (Some (number n)) h = refl
sized (Some (truth b)) h = refl
sized (Some (item t k)) h = refl
sized (Some (node k vs)) h = refl

-- A list of one item.
pub item-there : (o : Option Value) → IsTrue (is_some o) → IsTrue (is_some (option_map (λ v. v ∷ []) o))
item-there None h = cc
item-there (Some v) h = refl

-- The values of several operands.
pub all-there : (es : Exs) (env : Env) → AllValued false false es env → IsTrue (is_some (all_some (meanings es env)))
all-there no_exs env v = refl
all-there (more_exs e es) env v =
    go (meaning e env) (all_some (meanings es env)) (values-along.value false e env refl v.0) (all-there es env v.1)
  where
    go : (o : Option Value) (p : Option (List Value)) → IsTrue (is_some o) → IsTrue (is_some p) →
        IsTrue (is_some (and_then o (λ x. option_map (λ xs. x ∷ xs) p)))
    go None p h k = cc
    go (Some x) None h k = cc
    go (Some x) (Some xs) h k = refl

-- A list of items.
pub literal-there : (os : List (Option Value)) → IsTrue (is_some (all_some os)) → IsTrue (is_some (value_of_node matrix_literal os))
literal-there os h = go (all_some os) h
  where
    go : (o : Option (List Value)) → IsTrue (is_some o) → IsTrue (is_some (and_then o (λ xs. Some (list_value xs))))
    go None h = cc
    go (Some xs) h = refl

-- The numbers from a bound to a bound.
pub range-there : (o p : Option Value) → IsTrue (is_some o) → IsTrue (is_some p) →
    IsTrue (is_some (members_in (option_map integers (spans_of (both_ends ∷ []) (o ∷ p ∷ [])))))
range-there None p h k = cc
range-there (Some v) None h k = cc
range-there (Some v) (Some u) h k = refl

-- ---- bindings

-- What is collected over members that are there.
pub over-there : (o : Option (List Value)) (F : Value → Option (List Value)) (P : Value → Type 0) → IsTrue (is_some o) →
    EachOf o (λ v. IsTrue (is_some (F v)) × P v) → IsTrue (is_some (and_then o (λ vs. collect vs F))) × EachOf o P
over-there None F P h k = cc
over-there (Some vs) F P h k =
    (some-each vs F (left-of-both vs (λ v. IsTrue (is_some (F v))) P k), right-of-both vs (λ v. IsTrue (is_some (F v))) P k)

-- What holds of any value holds of each.
pub of-any : (o : Option (List Value)) (P : Value → Type 0) → ((v : Value) → P v) → EachOf o P
of-any None P f = tt
of-any (Some vs) P f = each-any vs P f

-- What is there is there under a condition.
pub where-there : (o : Option Value) (p : Option (List Value)) → IsTrue (is_some p) → IsTrue (is_some (where_true o (λ u. p)))
where-there (Some (truth true)) p h = h
where-there (Some (truth false)) p h = refl
where-there (Some (number n)) p h = refl
where-there (Some (item t k)) p h = refl
where-there (Some (node k vs)) p h = refl
where-there None p h = refl

-- ---- operands

-- Two operands that have values have them in any place.
pub two-valued : (g w : Bool) (x y : Ex) (env : Env) → Valued false x env → Valued false y env →
    AllValued g w (more_exs x (more_exs y no_exs)) env
two-valued g w x y env h k = (
  values-along.in_places w x env h,
  guarded-true g (meaning x env) (AllValued false w (more_exs y no_exs) env) (values-along.in_places w y env k, tt),
)

-- The operand of a refined operator is refined.
pub one-refined : (x : Bool) → (x && true) || false ≡ true → x ≡ true
one-refined true h = refl
one-refined false h = cc

-- So are both.
pub both-refined : (x y : Bool) → (x && (y && true)) || false ≡ true → (x ≡ true) × (y ≡ true)
both-refined true true h = (refl, refl)
both-refined true false h = cc
both-refined false y h = cc

-- What stands under a word is refined.
pub list-refined : (x : Bool) → x && true ≡ true → x ≡ true
list-refined true h = refl
list-refined false h = cc

-- A number of slots and what stands behind it.
pub slots-refined : (x z : Bool) → (x && true) && z ≡ true → z ≡ true
slots-refined true z h = h
slots-refined false z h = cc
