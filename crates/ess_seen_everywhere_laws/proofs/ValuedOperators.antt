-- What operators make of operands that have values has one, and so have its parts, where the tree is refined.
use Rattle.std.proofs.Common.{◌≡◌, refl, ap, ℕ, Bool, true, false, ◌&&◌, List, [], ◌∷◌, pos, Option, Some, option_map}
use Rattle.std.specs.Prelude.{IsTrue, is_some}
use Rattle.ess_semantics.specs.declared.words.Op1.{Op1}
use Rattle.ess_semantics.specs.declared.words.Op2.{Op2}
use Rattle.ess_semantics.specs.declared.words.Fun.{Fun}
use Rattle.ess_semantics.specs.Values.{Value, number as number_value}
use Rattle.ess_semantics.specs.Operators.{value_of_node, list_value}
use Rattle.ess_semantics.specs.Refined.{is_refined, are_refined, are_refined_gens}
use Rattle.ess_semantics.specs.Trees.{unary, binary, word, matrix_literal, Ex, Exs, comp_ex, Gens, ex1, ex2, fun1}
use Rattle.ess_semantics.specs.Meaning.{Env, meaning, meanings, items_under}
use Rattle.ess_semantics.specs.Contexts.{guards}
use Rattle.ess_rules_laws.specs.SourceRules.{list_of}
use Rattle.ess_values_along_laws.specs.Valued.{Valued, AllValued, UnderValued}
use Rattle.ess_values_along_laws.proofs.ValuesAlong.{values-along}
use Rattle.ess_seen_laws.proofs.ess_values_sources_laws.CollectedLists.{some-list}
use Rattle.ess_flat_laws.specs.Flat.{OneOp, denied, negative, absolute, TwoOp, both, either, implied, agreeing, equal, unequal, below, at_most, above, at_least, sum, difference, product}
use Rattle.ess_seen_laws.specs.ess_bare_laws.Lean.{FoldWord, of_all, of_some, of_sum}
use Rattle.ess_seen_laws.specs.Seen.{Combines, united, shared, lessened, Compares, alike, apart, included, properly_included, including, properly_including, Counted, so_many, from_to, from_0, subsets, none_below}
use Rattle.ess_seen_laws.proofs.Counts.{counted-means}
use Rattle.ess_seen_everywhere_laws.proofs.Operands.{one-there, both-there, subtracted, sized, all-there, literal-there, two-valued, one-refined, both-refined, list-refined}

-- It has a value.
pub there : (e : Ex) (env : Env) → Valued false e env → IsTrue (is_some (meaning e env))
there e env v = values-along.value false e env refl v

-- Numbers of slots have values, and so have their parts.
pub counted-valued : {e : Ex} {n : ℕ} → Counted e n → (env : Env) → Valued false e env
counted-valued so_many env = tt
counted-valued (from_to q) env = (refl, ((refl, (tt, (tt, tt))), (tt, tt)))
counted-valued from_0 env = (refl, (tt, (tt, tt)))
counted-valued (subsets c) env = (ap is_some (counted-means (subsets c) env), (tt, (counted-valued c env, tt)))
counted-valued (none_below c) env = (
  ap is_some (counted-means (none_below c) env),
  (
    (
      ap (λ o. is_some (value_of_node matrix_literal (o ∷ Some (number_value (pos 0)) ∷ []))) (counted-means c env),
      (counted-valued c env, (tt, tt)),
    ),
    tt,
  ),
)

-- The items of a comprehension.
abbrev pub Items : Ex → Gens → Env → Option (List Value)
Items e gs env = items_under gs env (λ here. option_map (λ v. v ∷ []) (meaning e here))

-- They are there, and each part of the comprehension has a value.
abbrev pub ItemsThere : Ex → Gens → Env → Type 0
ItemsThere e gs env = IsTrue (is_some (Items e gs env)) × UnderValued gs env (λ here. Valued false e here)

-- An operator on one operand.
pub one-valued : {b m : Bool} {o : Op1} → OneOp b o m → (x : Ex) (env : Env) → is_refined (ex1 b o x) ≡ true →
    (is_refined x ≡ true → Valued false x env) → Valued false (ex1 b o x) env
one-valued denied x env h f = (tt, (f (one-refined (is_refined x) h), tt))
one-valued negative x env h f =
    let v = f (one-refined (is_refined x) h) in
    (one-there (λ o. value_of_node (unary Op1.Minus) (o ∷ [])) (λ v. refl) (meaning x env) (there x env v), (v, tt))
one-valued absolute x env h f = let v = f (one-refined (is_refined x) h) in (sized (meaning x env) (there x env v), (v, tt))

-- A truth value of two operands that have values.
truth-valued : (o : Op2) (x y : Ex) (env : Env) → Valued false x env → Valued false y env → Valued false (ex2 true o x y) env
truth-valued o x y env h k = (tt, two-valued (guards (binary o)) _ x y env h k)

-- An operator on two scalars.
pub pair-valued : {b m k : Bool} {o : Op2} → TwoOp b o m k → (x y : Ex) (env : Env) → is_refined (ex2 b o x y) ≡ true →
    (is_refined x ≡ true → Valued false x env) → (is_refined y ≡ true → Valued false y env) → Valued false (ex2 b o x y) env
pair-valued both x y env h f g =
    let s = both-refined (is_refined x) (is_refined y) h in truth-valued Op2.And x y env (f s.0) (g s.1)
pair-valued either x y env h f g =
    let s = both-refined (is_refined x) (is_refined y) h in truth-valued Op2.Or x y env (f s.0) (g s.1)
pair-valued implied x y env h f g =
    let s = both-refined (is_refined x) (is_refined y) h in truth-valued Op2.Implies x y env (f s.0) (g s.1)
pair-valued agreeing x y env h f g =
    let s = both-refined (is_refined x) (is_refined y) h in truth-valued Op2.Iff x y env (f s.0) (g s.1)
pair-valued equal x y env h f g =
    let s = both-refined (is_refined x) (is_refined y) h in truth-valued Op2.Eq x y env (f s.0) (g s.1)
pair-valued unequal x y env h f g =
    let s = both-refined (is_refined x) (is_refined y) h in truth-valued Op2.Ne x y env (f s.0) (g s.1)
pair-valued below x y env h f g =
    let s = both-refined (is_refined x) (is_refined y) h in truth-valued Op2.Lt x y env (f s.0) (g s.1)
pair-valued at_most x y env h f g =
    let s = both-refined (is_refined x) (is_refined y) h in truth-valued Op2.Le x y env (f s.0) (g s.1)
pair-valued above x y env h f g =
    let s = both-refined (is_refined x) (is_refined y) h in truth-valued Op2.Gt x y env (f s.0) (g s.1)
pair-valued at_least x y env h f g =
    let s = both-refined (is_refined x) (is_refined y) h in truth-valued Op2.Ge x y env (f s.0) (g s.1)
pair-valued sum x y env h f g =
    let s = both-refined (is_refined x) (is_refined y) h in
    let v = f s.0 in
    let w = g s.1 in (
      both-there (λ o p. value_of_node (binary Op2.Plus) (o ∷ p ∷ [])) (λ v u. refl) (meaning x env) (meaning y env)
          (there x env v) (there y env w),
      (v, (w, tt)),
    )
pair-valued difference x y env h f g =
    let s = both-refined (is_refined x) (is_refined y) h in
    let v = f s.0 in
    let w = g s.1 in (
      both-there (λ o p. value_of_node (binary Op2.Minus) (o ∷ p ∷ [])) subtracted (meaning x env) (meaning y env)
          (there x env v) (there y env w),
      (v, (w, tt)),
    )
pair-valued product x y env h f g =
    let s = both-refined (is_refined x) (is_refined y) h in
    let v = f s.0 in
    let w = g s.1 in (
      both-there (λ o p. value_of_node (binary Op2.Times) (o ∷ p ∷ [])) (λ v u. refl) (meaning x env) (meaning y env)
          (there x env v) (there y env w),
      (v, (w, tt)),
    )

-- A number that a condition chooses.
pub chosen-valued : (x : Ex) (env : Env) → is_refined (fun1 false Fun.ToInt x) ≡ true → (is_refined x ≡ true → Valued false x env) →
    Valued false (fun1 false Fun.ToInt x) env
chosen-valued x env h f =
    let v = f (one-refined (is_refined x) h) in
    (one-there (λ o. value_of_node (word Fun.ToInt) (o ∷ [])) (λ v. refl) (meaning x env) (there x env v), (v, tt))

-- What a word folds of a comprehension.
pub fold-valued : {m : Bool} {w : Fun} → FoldWord m w → (e : Ex) (gs : Gens) (env : Env) → is_refined (fun1 m w (comp_ex e gs)) ≡ true →
    (is_refined e && are_refined_gens gs ≡ true → ItemsThere e gs env) → Valued false (fun1 m w (comp_ex e gs)) env
fold-valued of_all e gs env h f =
    let t = f (list-refined (is_refined e && are_refined_gens gs) h) in (tt, ((some-list (Items e gs env) t.0, t.1), tt))
fold-valued of_some e gs env h f =
    let t = f (list-refined (is_refined e && are_refined_gens gs) h) in (tt, ((some-list (Items e gs env) t.0, t.1), tt))
fold-valued of_sum e gs env h f =
    let t = f (list-refined (is_refined e && are_refined_gens gs) h) in
    let s = some-list (Items e gs env) t.0 in (
      one-there (λ o. value_of_node (word Fun.Sum) (o ∷ [])) (λ v. refl) (option_map list_value (Items e gs env)) s,
      ((s, t.1), tt),
    )

-- And of items.
pub items-valued : {m : Bool} {w : Fun} → FoldWord m w → (es : Exs) (env : Env) → is_refined (fun1 m w (list_of es)) ≡ true →
    (are_refined es ≡ true → AllValued false false es env) → Valued false (fun1 m w (list_of es)) env
items-valued of_all es env h f =
    let v = f (list-refined (are_refined es) h) in (tt, ((literal-there (meanings es env) (all-there es env v), v), tt))
items-valued of_some es env h f =
    let v = f (list-refined (are_refined es) h) in (tt, ((literal-there (meanings es env) (all-there es env v), v), tt))
items-valued of_sum es env h f =
    let v = f (list-refined (are_refined es) h) in
    let s = literal-there (meanings es env) (all-there es env v) in (
      one-there (λ o. value_of_node (word Fun.Sum) (o ∷ [])) (λ v. refl) (value_of_node matrix_literal (meanings es env)) s,
      ((s, v), tt),
    )

-- The size of a set.
pub size-valued : (x : Ex) (env : Env) → is_refined (ex1 false Op1.Bar x) ≡ true → (is_refined x ≡ true → Valued false x env) →
    Valued false (ex1 false Op1.Bar x) env
size-valued x env h f = one-valued absolute x env h f

-- Two sets that are compared: in a refined tree as equal or unequal.
pub compared-valued : {o : Op2} → Compares o → (x y : Ex) (env : Env) → is_refined (ex2 true o x y) ≡ true →
    (is_refined x ≡ true → Valued false x env) → (is_refined y ≡ true → Valued false y env) → Valued false (ex2 true o x y) env
compared-valued alike x y env h f g =
    let s = both-refined (is_refined x) (is_refined y) h in truth-valued Op2.Eq x y env (f s.0) (g s.1)
compared-valued apart x y env h f g =
    let s = both-refined (is_refined x) (is_refined y) h in truth-valued Op2.Ne x y env (f s.0) (g s.1)
compared-valued included x y env h f g = cc
compared-valued properly_included x y env h f g = cc
compared-valued including x y env h f g = cc
compared-valued properly_including x y env h f g = cc

-- A set that is made of two: in a refined tree a difference.
pub combined-valued : {o : Op2} → Combines o → (x y : Ex) (env : Env) → is_refined (ex2 false o x y) ≡ true →
    (is_refined x ≡ true → Valued false x env) → (is_refined y ≡ true → Valued false y env) → Valued false (ex2 false o x y) env
combined-valued united x y env h f g = cc
combined-valued shared x y env h f g = cc
combined-valued lessened x y env h f g = pair-valued difference x y env h f g
