-- Comprehensions in order at their places: a condition is fixed where the names that are fixed at its place are.
use Rattle.std.specs.Prelude.{◌≡◌, Bool, true, false, ◌&&◌, [], ℕ, ◌≤◌, ◌^◌}
use Rattle.ess_semantics.specs.Values.{Text}
use Rattle.ess_semantics.specs.Names.{Names}
use Rattle.ess_semantics.specs.Trees.{Ex, Exs, number_ex, truth_ex, name_ex, node_ex, matrix_ex, comp_ex, cell_ex, seen_ex, no_exs, more_exs, Gens, no_gens, over, from, cond}
use Rattle.ess_semantics.specs.Types.{Ty}
use Rattle.ess_semantics.specs.ExpressionJudgements.{forgets_order}
use Rattle.ess_semantics.specs.Refined.{is_refined}
use Rattle.ess_given_laws.specs.conjure_model_laws.ToldApart.{told, told_apart}
use Rattle.ess_given_laws.specs.ess_chain_names_laws.Steps.{Chain}
use Rattle.ess_given_laws.specs.Given.{GivenIn}
use Rattle.ess_given_conditions_laws.specs.InScope.{bound_as, is_fixed_in, fixed_behind, is_given_in}
use Rattle.ess_given_conditions_laws.specs.GrowingNames.{HasNoneFrom, Grows}
use Rattle.ess_given_conditions_laws.specs.GivenChains.{IsGivenStep, SparesAll}
use Rattle.ess_given_conditions_laws.specs.ConditionsEnd.{SettledIn}
use Rattle.ess_given_order_laws.specs.InOrder.{Ordered}
use Rattle.ess_given_order_laws.specs.OrderEnds.{AllGiven}

-- t has the tables of givens, and each name that the domain of a view binds.
module _ (t : Text → Bool) where
  abbrev mutual
    -- Whether the conditions of the expression are fixed, if it is a comprehension; s are the names that are fixed at its place.
    pub is_in_order_in : (Text → Bool) → Ex → Bool
    is_in_order_in s (number_ex n) = true
    is_in_order_in s (truth_ex b) = true
    is_in_order_in s (name_ex a) = true
    is_in_order_in s (node_ex b op es) = true
    is_in_order_in s (matrix_ex es d) = true
    is_in_order_in s (comp_ex e gs) = are_gens_in_order_in s gs
    is_in_order_in s (cell_ex b n es) = true
    is_in_order_in s (seen_ex r d ns es) = true

    -- The same of generators.
    pub are_gens_in_order_in : (Text → Bool) → Gens → Bool
    are_gens_in_order_in s no_gens = true
    are_gens_in_order_in s (over p d gs) = are_gens_in_order_in (bound_as true p s) gs
    are_gens_in_order_in s (from p e gs) = is_in_order_in s e && are_gens_in_order_in (bound_as (is_fixed_in t s e) p s) gs
    are_gens_in_order_in s (cond c gs) = is_fixed_in t s c && are_gens_in_order_in s gs

  abbrev mutual
    -- Whether each comprehension that stands where order counts is in order.
    pub is_ordered_in : (Text → Bool) → Ex → Bool
    is_ordered_in s (number_ex n) = true
    is_ordered_in s (truth_ex b) = true
    is_ordered_in s (name_ex a) = true
    is_ordered_in s (node_ex b op es) = are_ordered_in s es (forgets_order op)
    is_ordered_in s (matrix_ex es d) = are_ordered_in s es false
    is_ordered_in s (comp_ex e gs) =
        are_gens_ordered_in s gs && (is_in_order_in (fixed_behind t s gs) e && is_ordered_in (fixed_behind t s gs) e)
    is_ordered_in s (cell_ex b n es) = are_ordered_in s es false
    is_ordered_in s (seen_ex r d ns es) = are_ordered_in s es false

    -- The same of operands, in places where order is forgotten or counts.
    pub are_ordered_in : (Text → Bool) → Exs → Bool → Bool
    are_ordered_in s no_exs forgets = true
    are_ordered_in s (more_exs e es) true = is_ordered_in s e && are_ordered_in s es true
    are_ordered_in s (more_exs e es) false = (is_in_order_in s e && is_ordered_in s e) && are_ordered_in s es false

    -- The same of generators.
    pub are_gens_ordered_in : (Text → Bool) → Gens → Bool
    are_gens_ordered_in s no_gens = true
    are_gens_ordered_in s (over p d gs) = are_gens_ordered_in (bound_as true p s) gs
    are_gens_ordered_in s (from p e gs) = is_ordered_in s e && are_gens_ordered_in (bound_as (is_fixed_in t s e) p s) gs
    are_gens_ordered_in s (cond c gs) = (is_in_order_in s c && is_ordered_in s c) && are_gens_ordered_in s gs

-- Told apart such a tree is in order where order counts, for the names that its own fixed names become.
pub record OrderedApart (n : ℕ) (t : Text → Bool) (e : Ex) : Type 0 where
  pub names : Text → Bool
  pub grow : Grows n (told e [] n).1 t names
  pub given : GivenIn names (told_apart n e)
  pub ordered : Ordered names (told_apart n e)

-- For each set t of names such that in the old tree numbers in domains, and conditions of comprehensions where order counts, are fixed at
-- their places, where the free names and the cells and views of t count as givens and all other cells and views as finds: it is so told
-- apart, and each cell in a domain or a condition of a refined tree to which rules lead is one of t.
pub record GivenStaysInConditions : Type 0 where
  pub apart : (t : Text → Bool) (n : ℕ) (e : Ex) → HasNoneFrom n t → (told e [] n).1 ≤ 2 ^ 64 → is_given_in t t e ≡ true →
      is_ordered_in t t e ≡ true → OrderedApart n t e
  pub of_judged_trees : (t : Text → Bool) (n m : ℕ) (g : Names Ty) (e new : Ex) → HasNoneFrom n t → SparesAll n e →
      is_given_in t t e ≡ true → is_ordered_in t t e ≡ true → Chain IsGivenStep (told e [] n).1 g (told_apart n e) new m → m ≤ 2 ^ 64 →
      is_refined new ≡ true → SettledIn new → AllGiven n m t new
