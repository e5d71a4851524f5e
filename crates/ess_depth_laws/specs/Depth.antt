-- How deep names are bound in a tree: at no place do more generators that bind a name stand around than there are names for. A pattern of
-- several names, or of none, isn't counted.
use Rattle.std.specs.Prelude.{ℕ, zero, suc}
use Rattle.ess_semantics.specs.Trees.{name_pat, tuple_pat, Ex, Exs, number_ex, truth_ex, name_ex, node_ex, matrix_ex, comp_ex, cell_ex, seen_ex, no_exs, more_exs, Gens, no_gens, over, from, cond, Dom, int_dom}

abbrev mutual
  -- At each place of the expression at most n generators that bind a single name stand around it.
  pub NestsWithin : ℕ → Ex → Type 0
  NestsWithin n (number_ex k) = Unit {0}
  NestsWithin n (truth_ex b) = Unit {0}
  NestsWithin n (name_ex a) = Unit {0}
  NestsWithin n (node_ex b op es) = AllNestWithin n es
  NestsWithin n (matrix_ex es d) = AllNestWithin n es
  NestsWithin n (comp_ex e gs) = NestBehind n gs (λ k. NestsWithin k e)
  NestsWithin n (cell_ex b a es) = AllNestWithin n es
  NestsWithin n (seen_ex s d ns es) = Unit {0}

  -- The same of operands.
  pub AllNestWithin : ℕ → Exs → Type 0
  AllNestWithin n no_exs = Unit {0}
  AllNestWithin n (more_exs e es) = NestsWithin n e × AllNestWithin n es

  -- The same of generators, and K of how many may be bound behind them.
  pub NestBehind : ℕ → Gens → (ℕ → Type 0) → Type 0
  NestBehind n no_gens K = K n
  NestBehind n (over (tuple_pat ps) d gs) K = DomNestsWithin n d × NestBehind n gs K
  NestBehind zero (over (name_pat a) d gs) K = ⊥
  NestBehind (suc n) (over (name_pat a) d gs) K = DomNestsWithin (suc n) d × NestBehind n gs K
  NestBehind n (from (tuple_pat ps) e gs) K = NestsWithin n e × NestBehind n gs K
  NestBehind zero (from (name_pat a) e gs) K = ⊥
  NestBehind (suc n) (from (name_pat a) e gs) K = NestsWithin (suc n) e × NestBehind n gs K
  NestBehind n (cond e gs) K = NestsWithin n e × NestBehind n gs K

  -- The same of a range.
  pub DomNestsWithin : ℕ → Dom → Type 0
  DomNestsWithin n (int_dom rs es) = AllNestWithin n es
  DomNestsWithin n d = Unit {0}
