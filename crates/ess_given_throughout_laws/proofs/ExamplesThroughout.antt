-- Worked examples of what chains of all rules ask of a step: of a list that is opened in order over a row, and of matrices compared over
-- index domains. i is a name over a domain, f a number that is found, m a matrix that is found.
use Rattle.std.specs.Prelude.{◌≡◌, refl, Bool, true, false, ◌||◌, [], ◌∷◌, codes}
use Rattle.ess_semantics.specs.declared.words.Op2.{Op2}
use Rattle.ess_semantics.specs.declared.words.ReprKind.{ReprKind}
use Rattle.ess_semantics.specs.Values.{Text}
use Rattle.ess_semantics.specs.Order.{same_text}
use Rattle.ess_semantics.specs.Trees.{repr, no_reprs, more_reprs, name_pat, Ex, comp_ex, cell_ex, seen_ex, no_exs, no_gens, over, from, cond, bool_dom, matrix_dom, no_doms, more_doms, ex2}
use Rattle.ess_semantics.proofs.Shorthands.{N, n, bi, es1, upto}
use Rattle.ess_given_laws.specs.Given.{is_fixed}
use Rattle.ess_given_rulings_laws.specs.ess_given_opened_laws.OpenedStays.{GensKept}
use Rattle.ess_given_rulings_laws.specs.RulingChains.{BothCountFixed}

abbrev i : Text
i = codes "i"

abbrev x : Text
x = codes "x"

-- The names that are fixed: x, an index, and i.
abbrev both : Text → Bool
both a = same_text a x || same_text a i

abbrev index_alone : Text → Bool
index_alone a = same_text a x

-- A number that is found.
abbrev found : Ex
found = cell_ex false (codes "f") no_exs

-- ---- the row at i: x over the index domain, where x is i

row-kept : GensKept both (over (name_pat x) (upto 2) (cond (bi Op2.Eq (N x) (N i)) no_gens))
row-kept = (λ q. refl, tt)

-- It isn't where i isn't fixed: then it is bound over a source, and what is found may stand for it.
row-waits : is_fixed index_alone (bi Op2.Eq (N x) (N i)) ≡ false
row-waits = refl

-- Of a condition that reads a table nothing is asked: with such a one no list is opened in order.
cells-aside : GensKept index_alone (over (name_pat x) (upto 2) (cond (bi Op2.Eq (N x) found) no_gens))
cells-aside = (λ q. cc, tt)

-- ---- `[m[x] | x : int(1..2)] = [y | y <- m]`

abbrev matrix : Ex
matrix = seen_ex (repr ReprKind.Matrix (more_reprs (repr ReprKind.Atom no_reprs) no_reprs))
    (matrix_dom (more_doms (upto 2) no_doms) bool_dom)
    (codes "m" ∷ []) no_exs

abbrev item : Ex
item = seen_ex (repr ReprKind.Atom no_reprs) bool_dom (codes "m" ∷ []) (es1 (N x))

-- Over a domain the items are counted by what is fixed, whatever they are.
over-a-domain : BothCountFixed index_alone (ex2 true Op2.Eq (comp_ex item (over (name_pat x) (upto 2) no_gens)) matrix)
over-a-domain = (refl, tt)

-- Over the matrix they aren't: that side is opened first.
over-a-matrix : is_fixed index_alone (comp_ex (n 1) (from (name_pat x) matrix no_gens)) ≡ false
over-a-matrix = refl
