-- Worked examples: the law of names told apart at a tree in which one bound name hides another, and why names that aren't bound may not
-- be reserved.
use Rattle.std.proofs.Common.{◌≡◌, refl, None, [], codes, arith}
use Rattle.std.specs.Fmt.{digits}
use Rattle.ess_semantics.specs.Trees.{Ex, comp_ex, no_gens, over, name_pat}
use Rattle.ess_semantics.specs.Meaning.{Env, empty_env, meaning}
use Rattle.ess_semantics.proofs.Shorthands.{N, n, upto}
use Rattle.ess_repr_laws.specs.StructureParts.{upto as up_to}
use Rattle.conjure_model_laws.specs.ToldApart.{reserved, told, told_apart}
use Rattle.conjure_model_laws.proofs.ToldLaws.{names-told-apart}

abbrev i : Ex
i = N (codes "i")

-- [[i | i : int(1..i)] | i : int(1..2)]
abbrev rows : Ex
rows = comp_ex (comp_ex i (over (name_pat (codes "i")) (up_to i) no_gens)) (over (name_pat (codes "i")) (upto 2) no_gens)

-- it means the same in each env, and the law says so
same_rows : (env : Env) → meaning (told_apart 2 rows) env ≡ meaning rows env
same_rows env =
    let next : (told rows [] 2).1 ≡ 4 = refl in
    names-told-apart.of_specifications 2 rows ((tt, ((tt, (tt, tt)), tt)), ((tt, (tt, tt)), tt))
    (((tt, (tt, tt)), tt), (((tt, (refl, tt)), tt), refl)) (omega (arith, next)) env

-- as by computing it where nothing is named
computed : meaning (told_apart 2 rows) empty_env ≡ meaning rows empty_env
unfolding digits
computed = refl

-- [#2 | i : int(1..1)] would get the value of its binder
abbrev taken : Ex
taken = comp_ex (N (reserved 2)) (over (name_pat (codes "i")) (upto 1) no_gens)

no_value : meaning taken empty_env ≡ None
no_value = refl

one_value : meaning (told_apart 2 taken) empty_env ≡ meaning (comp_ex (n 1) no_gens) empty_env
unfolding digits
one_value = refl

-- where the names are kept for others it stays
kept_free : meaning (told_apart 3 taken) empty_env ≡ None
unfolding digits
kept_free = refl
