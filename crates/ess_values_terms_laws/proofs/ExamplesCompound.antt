-- Worked examples: a difference of two sets is compound by its form, a cell and a product are not.
use Rattle.std.proofs.Common.{◌≡◌, refl, true, false, codes}
use Rattle.ess_semantics.specs.declared.words.Op2.{Op2}
use Rattle.ess_semantics.specs.Trees.{cell_ex, ex2, no_exs, more_exs}
use Rattle.ess_semantics.proofs.Shorthands.{N, n}
use Rattle.ess_values_terms_laws.specs.TermsKeepValues.{is_compound, are_compound}

difference : is_compound (ex2 false Op2.Minus (N (codes "s")) (N (codes "t"))) ≡ true
difference = refl

-- A difference of cells isn't.
others : (is_compound (cell_ex false (codes "c") no_exs) ≡ false) × (is_compound (ex2 false Op2.Times (n 2) (n 3)) ≡ false)
    × (is_compound (ex2 false Op2.Minus (n 2) (cell_ex false (codes "c") no_exs)) ≡ false)
    × (are_compound (more_exs (N (codes "s")) (more_exs (ex2 false Op2.Times (n 2) (n 3)) no_exs)) ≡ false)
others = (refl, refl, refl, refl)
