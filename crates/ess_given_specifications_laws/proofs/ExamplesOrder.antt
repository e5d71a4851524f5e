-- Worked examples: n is a number that is given, f one that is found. `[x | x : int(1..2), e = x]` with one of them for e.
use Rattle.std.proofs.Common.{◌≡◌, refl, Bool, true, false, ◌||◌, codes}
use Rattle.ess_semantics.specs.declared.words.Op2.{Op2}
use Rattle.ess_semantics.specs.declared.words.Fun.{Fun}
use Rattle.ess_semantics.specs.Values.{Text}
use Rattle.ess_semantics.specs.Order.{same_text}
use Rattle.ess_semantics.specs.Trees.{matrix_literal, name_pat, Ex, node_ex, comp_ex, cell_ex, no_exs, no_gens, over, cond}
use Rattle.ess_semantics.proofs.Shorthands.{N, n, bi, fn, es1, upto}
use Rattle.ess_given_order_laws.specs.InOrder.{in_order, Ordered}
use Rattle.ess_given_order_laws.specs.OrderEnds.{given_conditions}
use Rattle.ess_given_order_laws.specs.OrderInScope.{is_ordered_in}

abbrev x : Text
x = codes "x"

abbrev size : Ex
size = cell_ex false (codes "n") no_exs

abbrev found : Ex
found = cell_ex false (codes "f") no_exs

abbrev listed_where : Ex → Ex
listed_where e = comp_ex (N x) (over (name_pat x) (upto 2) (cond (bi Op2.Eq e (N x)) no_gens))

abbrev less_than_one : Ex → Ex
less_than_one e = bi Op2.LexLt (listed_where e) (node_ex false matrix_literal (es1 (n 1)))

-- The table of n.
abbrev t : Text → Bool
t a = same_text (codes "n") a

-- With the name that is bound over a domain.
abbrev u : Text → Bool
u a = same_text (codes "n") a || same_text x a

-- ---- in order is what has fixed conditions

conditions : (in_order u (listed_where size) ≡ true) × (in_order u (listed_where found) ≡ false) × (in_order u found ≡ true)
conditions = (refl, refl, refl)

-- Under a lex sign it is asked, under `allDiff` it isn't.
under-lex : Ordered u (less_than_one size)
under-lex = ((refl, ((refl, tt), ((refl, ((refl, tt), ((refl, tt), tt))), tt))), ((refl, ((refl, tt), tt)), tt))

under-different : Ordered u (fn Fun.AllDiff (listed_where found))
under-different = (((refl, tt), ((refl, ((refl, tt), ((refl, tt), tt))), tt)), tt)

-- At its place a name that is bound over a domain is fixed.
at-places : (is_ordered_in t t (less_than_one size) ≡ true) × (is_ordered_in t t (less_than_one found) ≡ false)
    × (is_ordered_in t t (fn Fun.AllDiff (listed_where found)) ≡ true)
at-places = (refl, refl, refl)

-- ---- cells in conditions

cells : (given_conditions t (less_than_one size) ≡ true) × (given_conditions t (less_than_one found) ≡ false)
    × (given_conditions t (fn Fun.AllDiff (listed_where found)) ≡ false) × (given_conditions t (bi Op2.Eq found (n 1)) ≡ true)
cells = (refl, refl, refl, refl)
