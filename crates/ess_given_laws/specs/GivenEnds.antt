-- What is given where rewriting ends: domains of generators read given tables alone, and conditions under folds no table at all.
use Rattle.std.specs.Prelude.{◌≡◌, Bool, true, false, ◌&&◌, not, None}
use Rattle.std.specs.List.{list_all}
use Rattle.ess_semantics.specs.declared.words.Fun.{Fun}
use Rattle.ess_semantics.specs.Values.{Text}
use Rattle.ess_semantics.specs.Trees.{Ex, Exs, number_ex, truth_ex, name_ex, node_ex, matrix_ex, comp_ex, cell_ex, seen_ex, fun1, no_exs, more_exs, Gens, no_gens, over, from, cond, Dom}
use Rattle.ess_semantics.specs.Occurrences.{parts_of_dom, has_cells}
use Rattle.ess_semantics.specs.Refined.{is_refined}
use Rattle.ess_rules_laws.specs.SourceRules.{is_marked}
use Rattle.ess_refine_laws.specs.LeavingConditions.{condition_leaves}
use Rattle.ess_refine_laws.specs.MovingConditions.{condition_later}
use Rattle.ess_refine_laws.specs.ExtremeRules.{is_extreme, extreme_condition}
use Rattle.ess_chain_names_laws.specs.NamesHave.{NamesHave}
use Rattle.ess_given_laws.specs.Given.{GivenIn}

module _ (u : Text → Bool) where
  -- Whether a cell or view reads tables of u alone.
  abbrev pub reads_given : Ex → Bool
  reads_given (cell_ex b n es) = u n
  reads_given (seen_ex r d ns es) = list_all u ns
  reads_given e = true

  -- Whether each cell and view in the domain does.
  abbrev pub dom_reads_given : Dom → Bool
  dom_reads_given d = list_all reads_given (parts_of_dom d)

  abbrev mutual
    -- Whether each cell and view in the domain of a generator of the tree, or in the index domain of a matrix, does.
    pub domains_read_given : Ex → Bool
    domains_read_given (number_ex n) = true
    domains_read_given (truth_ex b) = true
    domains_read_given (name_ex a) = true
    domains_read_given (node_ex b op es) = all_read_given es
    domains_read_given (matrix_ex es d) = all_read_given es && dom_reads_given d
    domains_read_given (comp_ex e gs) = domains_read_given e && gens_read_given gs
    domains_read_given (cell_ex b n es) = all_read_given es
    domains_read_given (seen_ex r d ns es) = dom_reads_given d && all_read_given es

    -- The same of several expressions.
    pub all_read_given : Exs → Bool
    all_read_given no_exs = true
    all_read_given (more_exs e es) = domains_read_given e && all_read_given es

    -- The same of generators.
    pub gens_read_given : Gens → Bool
    gens_read_given no_gens = true
    gens_read_given (over p d gs) = dom_reads_given d && gens_read_given gs
    gens_read_given (from p e gs) = domains_read_given e && gens_read_given gs
    gens_read_given (cond e gs) = domains_read_given e && gens_read_given gs

-- Whether no condition among the generators reads a table.
abbrev pub conditions_read_none : Gens → Bool
conditions_read_none no_gens = true
conditions_read_none (over p d gs) = conditions_read_none gs
conditions_read_none (from p e gs) = conditions_read_none gs
conditions_read_none (cond c gs) = not (has_cells c) && conditions_read_none gs

-- Where what is given is given in the domains of a tree, these read given tables alone. In a refined fold in which no condition can leave,
-- no condition reads a table; nor in a refined `min` or `max` in which none can move behind the generators or into the numbers, m being a
-- refined way to say the greatest or least of all.
pub record GivenEnds : Type 0 where
  pub domains : (u : Text → Bool) (e : Ex) → GivenIn u e → domains_read_given u e ≡ true
  pub folds : (m : Bool) (f : Fun) (e : Ex) (gs : Gens) → is_refined (fun1 m f (comp_ex e gs)) ≡ true → is_marked m f ≡ true →
      condition_leaves (fun1 m f (comp_ex e gs)) ≡ None → conditions_read_none gs ≡ true
  pub extremes : (m : Ex) (f : Fun) (e : Ex) (gs : Gens) → is_refined (fun1 false f (comp_ex e gs)) ≡ true → is_extreme f ≡ true →
      is_refined m ≡ true → condition_later (fun1 false f (comp_ex e gs)) ≡ None →
      extreme_condition m (fun1 false f (comp_ex e gs)) ≡ None → conditions_read_none gs ≡ true

-- More names may belong to u, as long as none of them is one that the tree has: w are the names that it has.
abbrev pub MoreNamesMayJoin : Type 0
MoreNamesMayJoin = (u v w : Text → Bool) (e : Ex) → ((a : Text) → u a ≡ true → v a ≡ true) →
    ((a : Text) → w a ≡ true → v a ≡ true → u a ≡ true) → NamesHave w e → GivenIn u e → GivenIn v e
