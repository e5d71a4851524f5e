-- Comprehensions where order counts: their conditions are fixed, and so are those of comprehensions that they run over.
use Rattle.std.specs.Prelude.{◌≡◌, Bool, true, false, ◌&&◌}
use Rattle.ess_semantics.specs.Values.{Text}
use Rattle.ess_semantics.specs.Trees.{Ex, Exs, number_ex, truth_ex, name_ex, node_ex, matrix_ex, comp_ex, cell_ex, seen_ex, no_exs, more_exs, Gens, no_gens, over, from, cond}
use Rattle.ess_semantics.specs.ExpressionJudgements.{forgets_order}
use Rattle.ess_given_laws.specs.Given.{is_fixed}

module _ (u : Text → Bool) where
  abbrev mutual
    -- Whether the conditions of the expression are fixed, if it is a comprehension.
    pub in_order : Ex → Bool
    in_order (number_ex n) = true
    in_order (truth_ex b) = true
    in_order (name_ex a) = true
    in_order (node_ex b op es) = true
    in_order (matrix_ex es d) = true
    in_order (comp_ex e gs) = gens_in_order gs
    in_order (cell_ex b n es) = true
    in_order (seen_ex r d ns es) = true

    -- The same of generators.
    pub gens_in_order : Gens → Bool
    gens_in_order no_gens = true
    gens_in_order (over p d gs) = gens_in_order gs
    gens_in_order (from p e gs) = in_order e && gens_in_order gs
    gens_in_order (cond c gs) = is_fixed u c && gens_in_order gs

  abbrev mutual
    -- In the expression each comprehension that stands where order counts is so. Of the expression's own place nothing is said.
    pub Ordered : Ex → Type 0
    Ordered (number_ex n) = Unit {0}
    Ordered (truth_ex b) = Unit {0}
    Ordered (name_ex a) = Unit {0}
    Ordered (node_ex b op es) = AllOrdered es (forgets_order op)
    Ordered (matrix_ex es d) = AllOrdered es false
    Ordered (comp_ex e gs) = ((in_order e ≡ true) × Ordered e) × GensOrdered gs
    Ordered (cell_ex b n es) = AllOrdered es false
    Ordered (seen_ex r d ns es) = AllOrdered es false

    -- The same of operands, in places where order is forgotten or counts.
    pub AllOrdered : Exs → Bool → Type 0
    AllOrdered no_exs forgets = Unit {0}
    AllOrdered (more_exs e es) true = Ordered e × AllOrdered es true
    AllOrdered (more_exs e es) false = ((in_order e ≡ true) × Ordered e) × AllOrdered es false

    -- The same of generators. Inside of domains nothing is asked.
    pub GensOrdered : Gens → Type 0
    GensOrdered no_gens = Unit {0}
    GensOrdered (over p d gs) = GensOrdered gs
    GensOrdered (from p e gs) = Ordered e × GensOrdered gs
    GensOrdered (cond c gs) = ((in_order c ≡ true) × Ordered c) × GensOrdered gs

  -- The same of an expression that stands where order counts.
  abbrev pub InOrder : Ex → Type 0
  InOrder e = (in_order e ≡ true) × Ordered e
