-- Worked examples: printed names at a tree with one binder inside another, that keeps off a taken name; and that a name which isn't
-- bound has to be taken.
use Rattle.std.proofs.Common.{◌≡◌, refl, false, pos, Some, None, List, [], ◌∷◌, length, codes, arith}
use Rattle.std.specs.Fmt.{digits}
use Rattle.ess_semantics.specs.declared.words.Fun.{Fun}
use Rattle.ess_semantics.specs.Values.{Text, number}
use Rattle.ess_semantics.specs.Trees.{word, Ex, node_ex, comp_ex, no_gens, over, name_pat}
use Rattle.ess_semantics.specs.Meaning.{Env, empty_env, meaning}
use Rattle.ess_semantics.proofs.Shorthands.{N, es1, upto}
use Rattle.ess_repr_laws.specs.StructureParts.{upto as up_to}
use Rattle.conjure_model_laws.specs.Printed.{printed, binders}
use Rattle.conjure_model_laws.proofs.PrintedLaws.{names-printed}

abbrev total : Ex → Ex
total e = node_ex false (word Fun.Sum) (es1 e)

abbrev i : Ex
i = N (codes "i")

abbrev j : Ex
j = N (codes "j")

-- sum([sum([j | j : int(1..i)]) | i : int(1..2)])
abbrev sums : Ex
sums = total (comp_ex (total (comp_ex j (over (name_pat (codes "j")) (up_to i) no_gens))) (over (name_pat (codes "i")) (upto 2) no_gens))

abbrev one_taken : List Text
one_taken = codes "q1" ∷ []

-- it is printed with q2 and q3
written : printed one_taken sums [] ≡
    total (comp_ex (total (comp_ex (N (codes "q3")) (over (name_pat (codes "q3")) (up_to (N (codes "q2"))) no_gens)))
    (over (name_pat (codes "q2")) (upto 2) no_gens))
unfolding digits
written = refl

-- it means the same in each env, and the law says so
same_sums : (env : Env) → meaning (printed one_taken sums []) env ≡ meaning sums env
same_sums env =
    let number_of : binders sums ≡ 2 = refl in
    let few : length one_taken ≡ 1 = refl in
    names-printed.of_closed one_taken sums refl
    ((((tt, (tt, tt)), tt), ((((tt, (refl, tt)), tt), refl), tt)), tt) (omega (arith, number_of, few)) env

-- and by computing it where nothing is named
computed : meaning sums empty_env ≡ Some (number (pos 4))
computed = refl

-- sum([q1 | i : int(1..1)]) would get the value of its binder
abbrev unbound : Ex
unbound = total (comp_ex (N (codes "q1")) (over (name_pat (codes "i")) (upto 1) no_gens))

no_value : meaning unbound empty_env ≡ None
no_value = refl

one_value : meaning (printed [] unbound []) empty_env ≡ Some (number (pos 1))
unfolding digits
one_value = refl

-- where q1 is taken it stays
kept_free : meaning (printed one_taken unbound []) empty_env ≡ None
unfolding digits
kept_free = refl
