-- The members of sets.
use Rattle.std.proofs.Common.{◌≡◌, refl, sym, ap, ◌∙◌, subst, ℕ, suc, ◌+◌, List, [], ◌∷◌, length, map, arith}
use Rattle.ess_semantics.specs.Values.{to_list, of_list}
use Rattle.ess_semantics.specs.Trees.{Stm}
use Rattle.ess_core.specs.ValueViews.{pure_val}
use Rattle.ess_core.specs.declared.values.Val.{Val}
use Rattle.ess_core.specs.declared.values.Val.TheVariants as variant
use Rattle.ess_core.proofs.ValueEquations.{pure_set}
use Rattle.conjure_cli.specs.Members.{members_of, set_members, all_members}

-- As many values as there are in a list.
list-of : (vs : List Val) → length vs ≡ length (to_list (of_list (map pure_val vs)))
list-of [] = refl
list-of (v ∷ vs) = ap suc (list-of vs)

-- The members of a set.
pub set_size : (v : Val) (vs : List Val) (n : ℕ) → v ≡ variant.Set vs → n ≡ length vs → n ≡ members_of (pure_val v)
set_size v vs n is many = many ∙ list-of vs ∙ ap members_of (sym (pure_set vs)) ∙ ap (λ w. members_of (pure_val w)) (sym is)

-- The number behind k.
next : (k : ℕ) → suc k ≡ k + 1
next k = omega arith

-- A set more.
pub members_more : (G : List Stm) (k m n o : ℕ) → m ≡ all_members G k → n ≡ set_members G (k + 1) → o ≡ m + n → o ≡ all_members G (k + 1)
members_more G k m n o so here adds =
    adds ∙ ap (λ x. x + n) so ∙ ap (λ x. all_members G k + x) here
    ∙ subst (λ i. all_members G k + set_members G i ≡ all_members G i) (next k) refl
