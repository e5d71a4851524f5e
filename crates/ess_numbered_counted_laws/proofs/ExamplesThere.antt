-- Worked examples of numbers that are there by their form, and of conditions that bounds leave out.
use Rattle.std.specs.Prelude.{◌≡◌, refl, zero, true, false, [], ◌∷◌, codes, Some, None}
use Rattle.ess_semantics.specs.declared.words.Op2.{Op2}
use Rattle.ess_semantics.specs.declared.words.ReprKind.{ReprKind}
use Rattle.ess_semantics.specs.Trees.{repr, no_reprs, more_reprs, name_pat, Ex, matrix_ex, comp_ex, cell_ex, seen_ex, no_exs, no_gens, over, cond, Dom, matrix_dom, no_doms, more_doms, ex2}
use Rattle.ess_semantics.specs.Meaning.{Env}
use Rattle.ess_semantics.proofs.Shorthands.{N, n, es1, bi, range, upto, at}
use Rattle.ess_rules_laws.specs.SourceRules.{list_of}
use Rattle.ess_numbered_laws.specs.ThereByForm.{is_there}
use Rattle.ess_numbered_laws.specs.MostItems.{sum_at, most_items}
use Rattle.ess_numbered_laws.specs.ListedLaws.{ViewTold}
use Rattle.ess_numbered_counted_laws.specs.NumbersCounted.{PicksBeside}

-- A table without indices, and one at an index.
abbrev k : Ex
k = cell_ex false (codes "k") no_exs

abbrev g : Ex
g = cell_ex false (codes "g") (es1 (N (codes "q")))

-- Numerals, names and tables without indices are there, and so are their sums and products; not an item or a quotient.
there : (is_there (bi Op2.Plus (bi Op2.Times (n 2) (N (codes "q"))) k) ≡ true) × (is_there g ≡ false)
    × (is_there (bi Op2.Div (n 6) k) ≡ false)
there = (refl, refl, refl)

-- `int(1..6)`, `int(1..6 / k)`.
abbrev six : Dom
six = upto 6

abbrev quotient : Dom
quotient = range (n 1) (bi Op2.Div (n 6) k)

-- `sum([1 | y : d])`.
abbrev over_all : Dom → Ex
over_all d = sum_at (n 1) (over (name_pat (codes "y")) d no_gens)

runs : (is_there (over_all six) ≡ true) × (is_there (over_all quotient) ≡ false)
runs = (refl, refl)

-- `[y | k != 0, y : d]`: the condition reads a table, and is left out where the bound of d is there without it.
abbrev behind : Dom → Ex
behind d = comp_ex (N (codes "y")) (cond (ex2 true Op2.Ne k (n 0)) (over (name_pat (codes "y")) d no_gens))

left_out : (most_items (codes "z") (behind six) ≡ Some (over_all six)) × (most_items (codes "z") (behind quotient) ≡ None)
left_out = (refl, refl)

-- `[[2; int(0..0)]][k]` with another item: where a list takes the place of a literal nothing is asked, since that has a value. Where one
-- takes the place of a view, the view is asked to be a matrix over its index domain.
abbrev picked : Ex → Ex
picked m = at (list_of (es1 m)) k

abbrev over_nought : Dom
over_nought = matrix_dom (more_doms (range (n 0) (n 0)) no_doms) six

abbrev view : Ex
view = seen_ex (repr ReprKind.Matrix (more_reprs (repr ReprKind.Atom no_reprs) no_reprs)) over_nought (codes "m" ∷ []) no_exs

module _ (env : Env) where
  of_a_literal : PicksBeside (codes "z") zero (picked (matrix_ex (es1 (n 2)) (range (n 0) (n 0)))) env ≡ (Unit {0} × Unit {0})
  of_a_literal = refl

  of_a_view : PicksBeside (codes "z") zero (picked view) env
      ≡ (ViewTold (codes "z") view over_nought env × Unit {0})
  of_a_view = refl
