-- Worked examples: n is a table of a given, f one of a find; i and j are names bound over domains, x is one bound over an expression.
use Rattle.std.proofs.Common.{◌≡◌, refl, Bool, true, false, ◌||◌, [], ◌∷◌, codes}
use Rattle.ess_semantics.specs.declared.words.Op2.{Op2}
use Rattle.ess_semantics.specs.declared.words.Fun.{Fun}
use Rattle.ess_semantics.specs.Values.{Text}
use Rattle.ess_semantics.specs.Order.{same_text}
use Rattle.ess_semantics.specs.Trees.{both_ends, name_pat, Ex, cell_ex, comp_ex, no_exs, more_exs, no_gens, over, cond, Dom, int_dom}
use Rattle.ess_semantics.proofs.Shorthands.{N, n, bi, fn}
use Rattle.ess_given_laws.specs.Given.{is_fixed, is_fixed_dom, none_bound, GivenIn}
use Rattle.ess_given_laws.specs.GivenEnds.{domains_read_given, conditions_read_none}

-- The table n, and the name i that is bound over a domain.
abbrev u : Text → Bool
u a = same_text (codes "n") a || same_text (codes "i") a

abbrev size : Ex
size = cell_ex false (codes "n") no_exs

abbrev found : Ex
found = cell_ex false (codes "f") no_exs

-- `int(1..e)`
abbrev up_to : Ex → Dom
up_to e = int_dom (both_ends ∷ []) (more_exs (n 1) (more_exs e no_exs))

-- A given cell is fixed, a found one isn't; a name is where it is one of these.
cells : (is_fixed u size ≡ true) × (is_fixed u found ≡ false) × (is_fixed u (N (codes "i")) ≡ true) × (is_fixed u (N (codes "x")) ≡ false)
cells = (refl, refl, refl, refl)

-- `sum([1 | i : int(1..n), j : int(1..i), f = j])`: the domains read n and i alone, and the condition may read f.
abbrev counted : Ex
counted = fn Fun.Sum (comp_ex (n 1) (over (name_pat (codes "i")) (up_to size) (over (name_pat (codes "j")) (up_to (N (codes "i")))
    (cond (bi Op2.Eq found (N (codes "j"))) no_gens))))

counted-given : GivenIn u counted
counted-given = ((tt, (refl, refl, (refl, refl, (((refl, tt), (refl, tt)), tt)))), tt)

-- So its domains read given tables alone; its condition reads one of a find.
counted-reads : domains_read_given u counted ≡ true
counted-reads = refl

condition-reads : conditions_read_none (cond (bi Op2.Eq found (N (codes "j"))) no_gens) ≡ false
condition-reads = refl

-- `[1 | x <- [f], j : int(1..x)]`: x stands in a domain, so it must be one of u, and then its source must be fixed, which it isn't.
bound-by-a-find : (is_fixed_dom u (up_to (N (codes "x"))) ≡ false) × (none_bound (same_text (codes "x")) (name_pat (codes "x")) ≡ false)
bound-by-a-find = (refl, refl)
