-- Worked examples of generators over tuples of domains, split.
use Rattle.std.specs.Prelude.{◌≡◌, refl, pos, codes, Some, None}
use Rattle.ess_semantics.specs.declared.words.Fun.{Fun}
use Rattle.ess_semantics.specs.Values.{Text, number}
use Rattle.ess_semantics.specs.Trees.{name_pat, tuple_pat, no_pats, more_pats, Pat, Ex, comp_ex, no_gens, over, Dom, tuple_dom}
use Rattle.ess_semantics.specs.Meaning.{empty_env, meaning}
use Rattle.ess_semantics.proofs.Shorthands.{N, n, fn, ds2, upto, any_int}
use Rattle.ess_rules_laws.specs.SplitRules.{split}

abbrev pub p : Text
p = codes "p"

abbrev pub q : Text
q = codes "q"

-- `(p, q)`
abbrev pub both : Pat
both = tuple_pat (more_pats (name_pat p) (more_pats (name_pat q) no_pats))

-- `[e | (p, q) : (a, b)]`
abbrev pub over_both : Dom → Dom → Ex → Ex
over_both a b e = comp_ex e (over both (tuple_dom (ds2 a b)) no_gens)

-- `[e | p : a, q : b]`
abbrev pub over_each : Dom → Dom → Ex → Ex
over_each a b e = comp_ex e (over (name_pat p) a (over (name_pat q) b no_gens))

two_generators : split (over_both (upto 2) (upto 3) (N q)) ≡ Some (over_each (upto 2) (upto 3) (N q))
two_generators = refl

one_sum : (meaning (fn Fun.Sum (over_both (upto 2) (upto 3) (N q))) empty_env ≡ Some (number (pos 12))) × (meaning (fn Fun.Sum (over_each (upto 2) (upto 3) (N q))) empty_env ≡ Some (number (pos 12)))
one_sum = (refl, refl)

-- a name over a tuple of domains stays
one_name : split (comp_ex (N p) (over (name_pat p) (tuple_dom (ds2 (upto 2) (upto 3))) no_gens)) ≡ None
one_name = refl

-- `sum([1 | (p, q) : (int(1..0), int)])` has nothing, and `sum([1 | p : int(1..0), q : int])` is 0
domain_without_list : (meaning (fn Fun.Sum (over_both (upto 0) any_int (n 1))) empty_env ≡ None) × (meaning (fn Fun.Sum (over_each (upto 0) any_int (n 1))) empty_env ≡ Some (number (pos 0)))
domain_without_list = (refl, refl)
