-- Worked examples: a quotient in a natural place, and an index of a bound name beside it.
use Rattle.std.proofs.Common.{◌≡◌, refl, true, false, [], ◌∷◌, pos}
use Rattle.std.specs.Prelude.{codes}
use Rattle.ess_semantics.specs.declared.words.Op2.{Op2}
use Rattle.ess_semantics.specs.declared.words.Fun.{Fun}
use Rattle.ess_semantics.specs.Trees.{by_value, index, Ex, number_ex, name_ex, node_ex, comp_ex, no_exs, more_exs, cond, no_gens, ex2, fun1}
use Rattle.ess_guard_laws.specs.Guard.{make_natural}
use Rattle.ess_guard_tests_laws.specs.FormsKnown.{FormsKnown}

abbrev one : Ex
one = number_ex (pos 1)

-- `m[1]`, where m is a name.
abbrev item : Ex
item = node_ex false (index (by_value ∷ [])) (more_exs (name_ex (codes "m")) (more_exs one no_exs))

-- `1 / x = m[1]`
abbrev of_both : Ex
of_both = ex2 true Op2.Eq (ex2 false Op2.Div one (name_ex (codes "x"))) item

pub of-both-known : FormsKnown of_both
of-both-known = (refl, tt, ((refl, tt, (tt, (tt, tt))), ((refl, tt, (tt, (tt, tt))), tt)))

-- Only the index is asked for: `or([1 / x = m[1] | m[1] = m[1]])`.
pub of-both-natural : make_natural (codes "p") (codes "q") of_both
    ≡ fun1 true Fun.Or (comp_ex of_both (cond (ex2 true Op2.Eq item item) no_gens))
of-both-natural = refl
