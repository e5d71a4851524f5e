-- Where rewriting ends each cell in a condition is one of a given, under lex signs too: there conditions stay, and they are fixed.
use Rattle.std.specs.Prelude.{◌≡◌, Bool, true, ◌&&◌, ℕ, ◌≤◌, ◌^◌}
use Rattle.std.specs.List.{list_all}
use Rattle.ess_semantics.specs.Values.{Text}
use Rattle.ess_semantics.specs.Names.{Names}
use Rattle.ess_semantics.specs.Trees.{Op, word, binary, Ex, Exs, number_ex, truth_ex, name_ex, node_ex, matrix_ex, comp_ex, cell_ex, seen_ex, no_exs, more_exs, Gens, no_gens, over, from, cond}
use Rattle.ess_semantics.specs.Types.{Ty}
use Rattle.ess_semantics.specs.Occurrences.{parts_of}
use Rattle.ess_semantics.specs.Refined.{is_refined}
use Rattle.ess_given_laws.specs.ess_chain_names_laws.Steps.{Chain}
use Rattle.ess_given_laws.specs.Given.{GivenIn}
use Rattle.ess_given_laws.specs.GivenEnds.{reads_given, domains_read_given}
use Rattle.ess_given_conditions_laws.specs.GrowingNames.{HasNoneFrom, Grows}
use Rattle.ess_given_conditions_laws.specs.GivenChains.{IsGivenStep, SparesAll}
use Rattle.ess_given_conditions_laws.specs.ConditionsEnd.{SettledIn}
use Rattle.ess_given_order_laws.specs.InOrder.{Ordered}

module _ (u : Text → Bool) where
  -- Whether each cell and view in the conditions among generators is one of u.
  abbrev pub conditions_read_given : Gens → Bool
  conditions_read_given no_gens = true
  conditions_read_given (over p d gs) = conditions_read_given gs
  conditions_read_given (from p e gs) = conditions_read_given gs
  conditions_read_given (cond c gs) = list_all (reads_given u) (parts_of c) && conditions_read_given gs

  -- The same of each comprehension among the operands.
  abbrev pub lists_read_given : Exs → Bool
  lists_read_given no_exs = true
  lists_read_given (more_exs (comp_ex e gs) es) = conditions_read_given gs && lists_read_given es
  lists_read_given (more_exs e es) = lists_read_given es

  -- The same of the comprehension under a word, and of those that a sign compares.
  abbrev pub own_read_given : Op → Exs → Bool
  own_read_given (word f) (more_exs (comp_ex e gs) no_exs) = conditions_read_given gs
  own_read_given (binary o) es = lists_read_given es
  own_read_given op es = true

  abbrev mutual
    -- Whether each cell in a condition of the tree is one of u, outside of domains.
    pub given_conditions : Ex → Bool
    given_conditions (number_ex n) = true
    given_conditions (truth_ex b) = true
    given_conditions (name_ex a) = true
    given_conditions (node_ex b op es) = own_read_given op es && all_given_conditions es
    given_conditions (matrix_ex es d) = all_given_conditions es
    given_conditions (comp_ex e gs) = given_conditions e && gens_given_conditions gs
    given_conditions (cell_ex b n es) = all_given_conditions es
    given_conditions (seen_ex r d ns es) = all_given_conditions es

    -- The same of several expressions.
    pub all_given_conditions : Exs → Bool
    all_given_conditions no_exs = true
    all_given_conditions (more_exs e es) = given_conditions e && all_given_conditions es

    -- The same of generators.
    pub gens_given_conditions : Gens → Bool
    gens_given_conditions no_gens = true
    gens_given_conditions (over p d gs) = gens_given_conditions gs
    gens_given_conditions (from p e gs) = given_conditions e && gens_given_conditions gs
    gens_given_conditions (cond c gs) = given_conditions c && gens_given_conditions gs

-- Each cell in a domain or in a condition of the tree is one of t, or has the name of a reserved one between the n-th and the m-th, which
-- no
-- table has.
pub record AllGiven (n m : ℕ) (t : Text → Bool) (e : Ex) : Type 0 where
  pub names : Text → Bool
  pub grow : Grows n m t names
  pub domains : domains_read_given names e ≡ true
  pub conditions : given_conditions names e ≡ true

-- So it is in a refined tree in which no condition can leave, where comprehensions are in order where order counts; and so it is where
-- chains of rules end that began with such a tree.
pub record OrderEnds : Type 0 where
  pub everywhere : (u : Text → Bool) (e : Ex) → is_refined e ≡ true → SettledIn e → Ordered u e → given_conditions u e ≡ true
  pub along : (t : Text → Bool) (n m : ℕ) (g : Names Ty) (old new : Ex) → HasNoneFrom n t → SparesAll n old → GivenIn t old → Ordered t
      old →
      Chain IsGivenStep n g old new m → m ≤ 2 ^ 64 → is_refined new ≡ true → SettledIn new → AllGiven n m t new
