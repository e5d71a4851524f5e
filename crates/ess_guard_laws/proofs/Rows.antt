-- Row by row: an operator's own conditions hold where it has a value.
use Rattle.std.proofs.Common.{◌≡◌, refl, true, List, [], ◌∷◌, Option, Some, None, option_map, is_some}
use Rattle.ess_semantics.specs.declared.words.Op2.{Op2}
use Rattle.ess_semantics.specs.declared.words.Fun.{Fun}
use Rattle.ess_semantics.specs.Lists.{and_then, all_some}
use Rattle.ess_semantics.specs.Values.{Text, Value, items_of}
use Rattle.ess_semantics.specs.Names.{Names}
use Rattle.ess_semantics.specs.Trees.{Op, binary, word, index, function_literal, partition_literal, Ex, Exs, no_exs, more_exs}
use Rattle.ess_semantics.specs.Operators.{value_of_op}
use Rattle.ess_semantics.specs.Meaning.{Env, meaning, meanings}
use Rattle.ess_guard_laws.specs.Origins.{Origin}
use Rattle.ess_guard_laws.specs.Conditions.{own}
use Rattle.ess_guard_laws.specs.Holds.{Hold}
use Rattle.ess_guard_laws.proofs.NumberRows.{div-divisor, mod-divisor, quotient-holds, power-holds}
use Rattle.ess_guard_laws.proofs.ItemRows.{some-item-holds, least-some, greatest-some, image-holds, party-holds}
use Rattle.ess_guard_laws.proofs.LiteralRows.{function-holds, partition-holds}
use Rattle.ess_guard_laws.proofs.IndexRows.{path-holds}

-- What follows where an operator on one operand has a value.
with-one : (op : Op) (a : Ex) (env : Env) (P : Type 0) → ((v : Value) → meaning a env ≡ Some v → is_some (value_of_op op (v ∷ [])) ≡ true → P) →
    is_some (and_then (all_some (meanings (more_exs a no_exs) env)) (value_of_op op)) ≡ true → P
with-one op a env P f h = go (meaning a env) refl h
  where
    go : (o : Option Value) → meaning a env ≡ o → is_some (and_then (all_some (o ∷ [])) (value_of_op op)) ≡ true → P
    go None e h = cc
    go (Some v) e h = f v e h

-- The same on two operands.
with-two : (op : Op) (a b : Ex) (env : Env) (P : Type 0) → ((v w : Value) → meaning a env ≡ Some v → meaning b env ≡ Some w → is_some (value_of_op op (v ∷ w ∷ [])) ≡ true → P) →
    is_some (and_then (all_some (meanings (more_exs a (more_exs b no_exs)) env)) (value_of_op op)) ≡ true → P
with-two op a b env P f h = go (meaning a env) (meaning b env) refl refl h
  where
    go : (o p : Option Value) → meaning a env ≡ o → meaning b env ≡ p → is_some (and_then (all_some (o ∷ p ∷ [])) (value_of_op op)) ≡ true → P
    go None p e q h = cc
    go (Some v) None e q h = cc
    go (Some v) (Some w) e q h = f v w e q h

-- The same of an index and what is indexed.
with-index : (op : Op) (m : Ex) (is : Exs) (env : Env) (P : Type 0) → ((v : Value) (ws : List Value) → meaning m env ≡ Some v → all_some (meanings is env) ≡ Some ws → is_some (value_of_op op (v ∷ ws)) ≡ true → P) →
    is_some (and_then (all_some (meanings (more_exs m is) env)) (value_of_op op)) ≡ true → P
with-index op m is env P f h = go (meaning m env) (all_some (meanings is env)) refl refl h
  where
    go : (o : Option Value) (p : Option (List Value)) → meaning m env ≡ o → all_some (meanings is env) ≡ p → is_some (and_then (and_then o (λ x. option_map (λ xs. x ∷ xs) p)) (value_of_op op)) ≡ true → P
    go None p e q h = cc
    go (Some v) None e q h = cc
    go (Some v) (Some ws) e q h = f v ws e q h

-- The conditions of an operator itself hold where it has a value.
pub own-holds : (x y : Text) (k : Names Origin) (op : Op) (es : Exs) (env : Env) → is_some (and_then (all_some (meanings es env)) (value_of_op op)) ≡ true → Hold (own k x y op es) env
own-holds x y k (binary Op2.Div) (more_exs a (more_exs b no_exs)) env h =
    with-two (binary Op2.Div) a b env _ (λ v w e q r. quotient-holds k b env w q (div-divisor v w r)) h
own-holds x y k (binary Op2.Mod) (more_exs a (more_exs b no_exs)) env h =
    with-two (binary Op2.Mod) a b env _ (λ v w e q r. quotient-holds k b env w q (mod-divisor v w r)) h
own-holds x y k (binary Op2.Pow) (more_exs a (more_exs b no_exs)) env h = with-two (binary Op2.Pow) a b env _ (λ v w e q r. power-holds k a b env v w e q r) h
own-holds x y k (word Fun.Min) (more_exs s no_exs) env h = with-one (word Fun.Min) s env _ (λ v e r. some-item-holds x s env v e (least-some (items_of v) r)) h
own-holds x y k (word Fun.Max) (more_exs s no_exs) env h = with-one (word Fun.Max) s env _ (λ v e r. some-item-holds x s env v e (greatest-some (items_of v) r)) h
own-holds x y k (word Fun.Image) (more_exs f (more_exs a no_exs)) env h = with-two (word Fun.Image) f a env _ (λ v w e q r. image-holds k f a env v w e q r) h
own-holds x y k (word Fun.Party) (more_exs a (more_exs p no_exs)) env h = with-two (word Fun.Party) a p env _ (λ v w e q r. party-holds a p env v w e q r) h
own-holds x y k function_literal es env h = function-holds es env h
own-holds x y k partition_literal es env h = partition-holds x y es env h
own-holds x y k (index qs) (more_exs m is) env h = with-index (index qs) m is env _ (λ v ws e q r. path-holds k x m qs is env v ws e q r) h
own-holds x y k op es env h = tt
