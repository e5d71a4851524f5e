-- The two answers for a term.
use Rattle.std.proofs.Common.{◌≡◌, refl, sym, ap, ◌∙◌, false, if◌then◌else◌, List, [], ◌∷◌, ℤ, pos, Some, option_map}
use Rattle.std.proofs.Math.IntN.{+ℤ_idr}
use Rattle.ess_semantics.specs.declared.words.Fun.{Fun}
use Rattle.ess_semantics.specs.Values.{number}
use Rattle.ess_semantics.specs.Trees.{word, Ex, comp_ex, no_exs, more_exs}
use Rattle.ess_semantics.specs.Operators.{as_truth, list_value, value_of_node}
use Rattle.ess_semantics.specs.Meaning.{Env, meaning}
use Rattle.ess_semantics.specs.Meets.{Meets}
use Rattle.ess_semantics.specs.Totality.{Total}
use Rattle.ess_guard_laws.specs.Conditions.{conds, all_of, summed}
use Rattle.ess_guard_laws.specs.Holds.{Hold}
use Rattle.ess_guard_laws.proofs.Holding.{hold-tested, conds-items, all-of-truth}
use Rattle.ess_guard_laws.proofs.MetRows.{Met, conds-met, one-met}
use Rattle.ess_guard_laws.proofs.Behind.{Behind, safe-total, conds-total}

-- Under conditions that hold a number is itself.
pub summed-means : (cs : List Ex) (e : Ex) (env : Env) (n : ℤ) → Hold cs env → meaning e env ≡ Some (number n) →
    meaning (summed cs e) env ≡ Some (number n)
summed-means [] e env n h q = q
summed-means (c ∷ cs) e env n h q =
    ap (λ o. value_of_node (word Fun.Sum) (option_map list_value o ∷ []))
    (conds-items (c ∷ cs) env (λ here. option_map (λ v. v ∷ []) (meaning e here)))
    ∙ ap (λ t. value_of_node (word Fun.Sum) (option_map list_value (if t then option_map (λ v. v ∷ []) (meaning e env) else Some []) ∷ []))
    (hold-tested (c ∷ cs) env h)
    ∙ ap (λ o. value_of_node (word Fun.Sum) (option_map list_value (option_map (λ v. v ∷ []) o) ∷ [])) q
    ∙ ap (λ z. Some (number z)) (+ℤ_idr n)

-- It is total under them.
pub summed-total : (cs : List Ex) (e : Ex) (env : Env) → Behind cs env (Total e env) → Total (summed cs e) env
summed-total [] e env t = t
summed-total (c ∷ cs) e env t =
    safe-total false (word Fun.Sum) (more_exs (comp_ex e (conds (c ∷ cs))) no_exs) env refl (conds-total (c ∷ cs) env e t, tt)

-- Where they don't all hold it is 0.
pub summed-elsewhere : (cs : List Ex) (e : Ex) (env : Env) → as_truth (meaning (all_of cs) env) ≡ false →
    meaning (summed cs e) env ≡ Some (number (pos 0))
summed-elsewhere [] e env h = cc
summed-elsewhere (c ∷ cs) e env h =
    ap (λ o. value_of_node (word Fun.Sum) (option_map list_value o ∷ []))
    (conds-items (c ∷ cs) env (λ here. option_map (λ v. v ∷ []) (meaning e here)))
    ∙ ap (λ t. value_of_node (word Fun.Sum) (option_map list_value (if t then option_map (λ v. v ∷ []) (meaning e env) else Some []) ∷ []))
    (sym (all-of-truth (c ∷ cs) env) ∙ h)

-- Tables that meet its structures meet those of the number under conditions that they meet.
pub summed-met : (cs : List Ex) (e : Ex) (env : Env) → Met cs env → Meets e env → Meets (summed cs e) env
summed-met [] e env m n = n
summed-met (c ∷ cs) e env m n =
    one-met false (word Fun.Sum) (comp_ex e (conds (c ∷ cs))) env (conds-met (c ∷ cs) env (λ here. Meets e here) m n)
