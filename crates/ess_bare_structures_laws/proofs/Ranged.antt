-- Trees whose generators bind single names over ranges from one number to another and over truth values, and that read tables by cells
-- alone.
use Rattle.std.specs.Prelude.{[], ◌∷◌}
use Rattle.ess_semantics.specs.Trees.{unary, binary, word, both_ends, name_pat, Ex, Exs, number_ex, truth_ex, name_ex, node_ex, matrix_ex, comp_ex, cell_ex, seen_ex, no_exs, more_exs, Gens, no_gens, over, from, cond, Dom, bool_dom, int_dom}

abbrev mutual
  -- The tree is such.
  pub Ranged : Ex → Type 0
  Ranged (number_ex n) = Unit {0}
  Ranged (truth_ex b) = Unit {0}
  Ranged (name_ex a) = Unit {0}
  Ranged (node_ex b (unary o) es) = AllRanged es
  Ranged (node_ex b (binary o) es) = AllRanged es
  Ranged (node_ex b (word f) es) = AllRanged es
  Ranged (node_ex b op es) = ⊥
  Ranged (matrix_ex es d) = ⊥
  Ranged (comp_ex e gs) = RangedGens gs × Ranged e
  Ranged (cell_ex b n es) = AllRanged es
  Ranged (seen_ex r d ns es) = ⊥

  -- The same of operands.
  pub AllRanged : Exs → Type 0
  AllRanged no_exs = Unit {0}
  AllRanged (more_exs e es) = Ranged e × AllRanged es

  -- The same of generators.
  pub RangedGens : Gens → Type 0
  RangedGens no_gens = Unit {0}
  RangedGens (over (name_pat a) d gs) = RangedDom d × RangedGens gs
  RangedGens (over p d gs) = ⊥
  RangedGens (from p e gs) = ⊥
  RangedGens (cond e gs) = Ranged e × RangedGens gs

  -- Truth values, or a range.
  pub RangedDom : Dom → Type 0
  RangedDom bool_dom = Unit {0}
  RangedDom (int_dom (both_ends ∷ []) (more_exs a (more_exs b no_exs))) = Ranged a × Ranged b
  RangedDom d = ⊥
