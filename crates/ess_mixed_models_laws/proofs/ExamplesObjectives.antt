-- Worked examples of objectives that speak of nested sets.
use Rattle.std.proofs.Common.{◌≡◌, refl, true, false, List, [], ◌∷◌, pos, codes}
use Rattle.ess_semantics.specs.declared.words.Op1.{Op1}
use Rattle.ess_semantics.specs.declared.words.Op2.{Op2}
use Rattle.ess_semantics.specs.declared.words.Fun.{Fun}
use Rattle.ess_semantics.specs.declared.words.Key.{Key}
use Rattle.ess_semantics.specs.Trees.{both_ends, valued, name_pat, Ex, number_ex, name_ex, comp_ex, no_exs, more_exs, no_gens, over, from, cond, Dom, int_dom, set_dom, Stm, find, such_that, minimise, maximise, ex1, ex2, fun1}
use Rattle.ess_flat_models_laws.specs.FlatSpecifications.{is_flat_specification}
use Rattle.ess_mixed_models_laws.specs.MixedSpecifications.{is_mixed_specification}

-- `int(1..k)`
abbrev upto : Ex → Dom
upto k = int_dom (both_ends ∷ []) (more_exs (number_ex (pos 1)) (more_exs k no_exs))

abbrev s : Ex
s = name_ex (codes "s")

abbrev t : Ex
t = name_ex (codes "t")

abbrev x : Ex
x = name_ex (codes "x")

abbrev i : Ex
i = name_ex (codes "i")

abbrev size : Ex → Ex
size e = ex1 false Op1.Bar e

-- `find s : set (maxSize 3) of set of int(1..4)  find t : set of int(1..5)  find x : int(1..9)  ..`
abbrev with_goal : Stm → List Stm
with_goal g =
    find (codes "s")
    (set_dom (valued Key.MaxSize ∷ []) (more_exs (number_ex (pos 3)) no_exs) (set_dom [] no_exs (upto (number_ex (pos 4)))))
    ∷ find (codes "t") (set_dom [] no_exs (upto (number_ex (pos 5)))) ∷ find (codes "x") (upto (number_ex (pos 9))) ∷ g ∷ []

-- `minimising |s|`
least-size : is_mixed_specification (with_goal (minimise (size s))) [] ≡ true
least-size = refl

-- `maximising sum([i | i <- t])`
greatest-sum : is_mixed_specification (with_goal (maximise (fun1 false Fun.Sum (comp_ex i (from (name_pat (codes "i")) t no_gens))))) []
    ≡ true
greatest-sum = refl

-- `minimising sum([|i| | i <- s, 3 in i])`
sum-of-sizes : is_mixed_specification (with_goal (minimise (fun1 false Fun.Sum (comp_ex (size i)
    (from (name_pat (codes "i")) s (cond (ex2 true Op2.Member (number_ex (pos 3)) i) no_gens)))))) [] ≡ true
sum-of-sizes = refl

-- `maximising |t union t| - 2 * x`
of-both : is_mixed_specification (with_goal (maximise (ex2 false Op2.Minus (size (ex2 false Op2.Union t t))
    (ex2 false Op2.Times (number_ex (pos 2)) x)))) [] ≡ true
of-both = refl

-- Behind constraints: `such that |t| > 2  minimising |t|`
behind-constraints : is_mixed_specification
    (find (codes "t") (set_dom [] no_exs (upto (number_ex (pos 5)))) ∷ such_that (ex2 true Op2.Gt (size t) (number_ex (pos 2)))
    ∷ minimise (size t) ∷ []) [] ≡ true
behind-constraints = refl

-- It is no specification of scalars alone.
not-flat : is_flat_specification (with_goal (minimise (size s))) [] ≡ false
not-flat = refl

-- A set is no objective, nor is a truth value, nor what may be undefined: `minimising |t| / x`
not-a-set : is_mixed_specification (with_goal (minimise t)) [] ≡ false
not-a-set = refl

not-a-truth : is_mixed_specification (with_goal (minimise (ex2 true Op2.Member x t))) [] ≡ false
not-a-truth = refl

not-a-quotient : is_mixed_specification (with_goal (minimise (ex2 false Op2.Div (size t) x))) [] ≡ false
not-a-quotient = refl

-- No bound name is that of a set that the objective speaks of.
not-hiding : is_mixed_specification (with_goal (maximise (fun1 false Fun.Sum (comp_ex t (from (name_pat (codes "t")) t no_gens))))) []
    ≡ false
not-hiding = refl

-- It may be that of a set that is declared later: `minimising sum([i | i : int(1..4)])  find i : set of int(1..5)`
not-yet-declared : is_mixed_specification
    (minimise (fun1 false Fun.Sum (comp_ex i (over (name_pat (codes "i")) (upto (number_ex (pos 4))) no_gens)))
    ∷ find (codes "i") (set_dom [] no_exs (upto (number_ex (pos 5)))) ∷ []) [] ≡ true
not-yet-declared = refl
