-- Lists of values that are sets.
use Rattle.std.proofs.Common.{◌≡◌, ap, Bool, true, false, ◌&&◌, List, [], ◌∷◌, ◌++◌, map}
use Rattle.std.specs.List.{list_all}
use Rattle.ess_core.specs.declared.values.Val.{Val}
use Rattle.ess_core.specs.declared.values.Val.TheVariants as variant
use Rattle.ess_core.specs.ValueViews.{pure_val}
use Rattle.ess_core.proofs.ValueEquations.{pure_set}
use Rattle.ess_semantics.specs.Membership.{is_set}

-- A set behind sets.
pub sets_more : (xs ms : List Val) → list_all is_set (map pure_val xs) ≡ true → list_all is_set (map pure_val (xs ++ variant.Set ms ∷ [])) ≡ true
sets_more [] ms h = ap (λ v. is_set v && true) (pure_set ms)
sets_more (x ∷ xs) ms h = go (is_set (pure_val x)) h (sets_more xs ms)
  where
    go : (b : Bool) → b && list_all is_set (map pure_val xs) ≡ true →
        (list_all is_set (map pure_val xs) ≡ true → list_all is_set (map pure_val (xs ++ variant.Set ms ∷ [])) ≡ true) →
        b && list_all is_set (map pure_val (xs ++ variant.Set ms ∷ [])) ≡ true
    go true k more = more k
    go false k more = k
