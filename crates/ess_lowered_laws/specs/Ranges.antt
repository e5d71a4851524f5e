-- Whether ranges have the bounds that their forms ask for.
use Rattle.std.specs.Prelude.{◌≡◌, true}
use Rattle.ess_semantics.specs.Trees.{Ex, Exs, number_ex, truth_ex, name_ex, node_ex, matrix_ex, comp_ex, cell_ex, seen_ex, no_exs, more_exs, Gens, no_gens, over, from, cond, Dom, int_dom}
use Rattle.ess_grammar.specs.Readable.{fit_ranges}

abbrev mutual
  -- Each range that a generator in the tree goes over has as many bounds as its form asks for. Of views nothing is asked.
  pub RangesFit : Ex → Type 0
  RangesFit (number_ex k) = Unit {0}
  RangesFit (truth_ex b) = Unit {0}
  RangesFit (name_ex a) = Unit {0}
  RangesFit (node_ex b op es) = AllRangesFit es
  RangesFit (matrix_ex es d) = AllRangesFit es
  RangesFit (comp_ex e gs) = RangesFit e × GensFit gs
  RangesFit (cell_ex b a es) = AllRangesFit es
  RangesFit (seen_ex r d ns es) = Unit {0}

  -- The same of operands.
  pub AllRangesFit : Exs → Type 0
  AllRangesFit no_exs = Unit {0}
  AllRangesFit (more_exs e es) = RangesFit e × AllRangesFit es

  -- The same of generators and conditions.
  pub GensFit : Gens → Type 0
  GensFit no_gens = Unit {0}
  GensFit (over p d gs) = DomFits d × GensFit gs
  GensFit (from p e gs) = RangesFit e × GensFit gs
  GensFit (cond e gs) = RangesFit e × GensFit gs

  -- The same of what a generator goes over.
  pub DomFits : Dom → Type 0
  DomFits (int_dom rs es) = (fit_ranges rs es ≡ true) × AllRangesFit es
  DomFits d = Unit {0}
