-- Truth values, numbers, sets and relations by their types.
use Rattle.std.proofs.Common.{◌≡◌, refl, true, Option, Some, None}
use Rattle.std.specs.Prelude.{IsTrue, is_some}
use Rattle.ess_semantics.specs.Values.{Value, number, truth, item, node, a_tuple, a_matrix, a_set, a_mset, a_function, a_relation, a_partition, a_record}
use Rattle.ess_semantics.specs.Names.{Names}
use Rattle.ess_semantics.specs.Trees.{Ex}
use Rattle.ess_semantics.specs.Types.{Ty, bool_ty, int_ty, compound, no_tys, more_tys}
use Rattle.ess_semantics.specs.Typing.{type_of}
use Rattle.ess_semantics.specs.TypeMembers.{is_of_type}
use Rattle.ess_semantics.specs.Typed.{Typed}
use Rattle.ess_semantics.specs.Meaning.{Env, meaning}
use Rattle.ess_rules_laws.specs.Rules.{IsTruth, IsNumber, Sound}
use Rattle.ess_rules_laws.specs.InclusionRules.{both_sets}
use Rattle.ess_rules_laws.specs.MembershipRules.{IsContainer}
use Rattle.ess_counted_more_laws.specs.MoreCounted.{IsTyped}

truth-of : (v : Value) (env : Env) → IsTrue (is_of_type bool_ty env v) → IsTruth (Some v)
truth-of (truth b) env h = tt
truth-of (number n) env h = cc
truth-of (item a n) env h = cc
truth-of (node k vs) env h = cc

number-of : (v : Value) (env : Env) → IsTrue (is_of_type int_ty env v) → IsNumber (Some v)
number-of (number n) env h = tt
number-of (truth b) env h = cc
number-of (item a n) env h = cc
number-of (node k vs) env h = cc

-- A set or relation by its type is one.
container-of : (o : Option Ty) (v : Value) (env : Env) → both_sets o o ≡ true →
    ((t : Ty) → o ≡ Some t → IsTrue (is_of_type t env v)) → IsContainer (Some v)
container-of (Some (compound a_set (more_tys t no_tys))) v env q h = go v (h (compound a_set (more_tys t no_tys)) refl)
  where
    go : (v : Value) → IsTrue (is_of_type (compound a_set (more_tys t no_tys)) env v) → IsContainer (Some v)
    go (node a_set vs) h = tt
    go (node a_relation vs) h = tt
    go (node a_tuple vs) h = cc
    go (node a_matrix vs) h = cc
    go (node a_mset vs) h = cc
    go (node a_function vs) h = cc
    go (node a_partition vs) h = cc
    go (node (a_record fs) vs) h = cc
    go (number n) h = cc
    go (truth b) h = cc
    go (item a n) h = cc
container-of (Some (compound a_set no_tys)) v env q h = go v (h (compound a_set no_tys) refl)
  where
    go : (v : Value) → IsTrue (is_of_type (compound a_set no_tys) env v) → IsContainer (Some v)
    go (node a_set vs) h = tt
    go (node a_relation vs) h = tt
    go (node a_tuple vs) h = cc
    go (node a_matrix vs) h = cc
    go (node a_mset vs) h = cc
    go (node a_function vs) h = cc
    go (node a_partition vs) h = cc
    go (node (a_record fs) vs) h = cc
    go (number n) h = cc
    go (truth b) h = cc
    go (item a n) h = cc
container-of (Some (compound a_set (more_tys t (more_tys u us)))) v env q h = go v (h (compound a_set (more_tys t (more_tys u us))) refl)
  where
    go : (v : Value) → IsTrue (is_of_type (compound a_set (more_tys t (more_tys u us))) env v) → IsContainer (Some v)
    go (node a_set vs) h = tt
    go (node a_relation vs) h = tt
    go (node a_tuple vs) h = cc
    go (node a_matrix vs) h = cc
    go (node a_mset vs) h = cc
    go (node a_function vs) h = cc
    go (node a_partition vs) h = cc
    go (node (a_record fs) vs) h = cc
    go (number n) h = cc
    go (truth b) h = cc
    go (item a n) h = cc
container-of (Some (compound a_relation ts)) v env q h = go v (h (compound a_relation ts) refl)
  where
    go : (v : Value) → IsTrue (is_of_type (compound a_relation ts) env v) → IsContainer (Some v)
    go (node a_set vs) h = tt
    go (node a_relation vs) h = tt
    go (node a_tuple vs) h = cc
    go (node a_matrix vs) h = cc
    go (node a_mset vs) h = cc
    go (node a_function vs) h = cc
    go (node a_partition vs) h = cc
    go (node (a_record fs) vs) h = cc
    go (number n) h = cc
    go (truth b) h = cc
    go (item a n) h = cc
container-of _ v env q h = cc

module _ (g : Names Ty) (env : Env) (typed : Typed g env) where
  -- A term of type bool that is there is a truth value.
  pub truth-there : (a : Ex) → IsTyped g bool_ty a → IsTrue (is_some (meaning a env)) → IsTruth (meaning a env)
  truth-there a t h = go (meaning a env) refl h
    where
      go : (o : Option Value) → meaning a env ≡ o → IsTrue (is_some o) → IsTruth o
      go None q h = cc
      go (Some v) q h = truth-of v env (t.1 bool_ty t.0 env typed v q)

  -- One of type int that is there is a number.
  pub number-there : (a : Ex) → IsTyped g int_ty a → IsTrue (is_some (meaning a env)) → IsNumber (meaning a env)
  number-there a t h = go (meaning a env) refl h
    where
      go : (o : Option Value) → meaning a env ≡ o → IsTrue (is_some o) → IsNumber o
      go None q h = cc
      go (Some v) q h = number-of v env (t.1 int_ty t.0 env typed v q)

  -- A set or relation by its type that is there is one.
  pub container-there : (a : Ex) → both_sets (type_of a g) (type_of a g) ≡ true → Sound g a → IsTrue (is_some (meaning a env)) →
      IsContainer (meaning a env)
  container-there a c s h = go (meaning a env) refl h
    where
      go : (o : Option Value) → meaning a env ≡ o → IsTrue (is_some o) → IsContainer o
      go None q h = cc
      go (Some v) q h = container-of (type_of a g) v env c (λ t r. s t r env typed v q)
