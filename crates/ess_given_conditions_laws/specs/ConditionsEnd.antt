-- Conditions where rewriting ends: where none can leave, move or be counted, no condition of a word on a comprehension reads a table.
use Rattle.std.specs.Prelude.{◌≡◌, Bool, true, ◌&&◌, None}
use Rattle.ess_semantics.specs.declared.words.Fun.{Fun}
use Rattle.ess_semantics.specs.Names.{Names}
use Rattle.ess_semantics.specs.Trees.{Op, word, Ex, Exs, number_ex, truth_ex, name_ex, node_ex, matrix_ex, comp_ex, cell_ex, seen_ex, no_exs, more_exs, Gens, no_gens, over, from, cond}
use Rattle.ess_semantics.specs.Types.{Ty}
use Rattle.ess_semantics.specs.Refined.{is_refined}
use Rattle.ess_refine_laws.specs.LeavingConditions.{condition_leaves}
use Rattle.ess_refine_laws.specs.MovingConditions.{condition_later}
use Rattle.ess_refine_laws.specs.ExtremeRules.{extreme_condition}
use Rattle.ess_refine_laws.specs.AllRules.{Supply}
use Rattle.ess_open_rules_laws.specs.OpenSources.{counted_apart}
use Rattle.ess_given_laws.specs.GivenEnds.{conditions_read_none}

-- At this root no condition can leave a fold, move behind generators or into numbers under `min` and `max`, or be counted under
-- `allDiff`, whatever the rules take.
pub record IsSettled (e : Ex) : Type 0 where
  pub folds : condition_leaves e ≡ None
  pub moves : condition_later e ≡ None
  pub numbers : (m : Ex) → is_refined m ≡ true → extreme_condition m e ≡ None
  pub supply : Supply
  pub types : Names Ty
  pub counts : counted_apart supply types e ≡ None

abbrev mutual
  -- So it is at each operator of the tree outside of domains.
  pub SettledIn : Ex → Type 0
  SettledIn (number_ex n) = Unit {0}
  SettledIn (truth_ex b) = Unit {0}
  SettledIn (name_ex a) = Unit {0}
  SettledIn (node_ex b op es) = IsSettled (node_ex b op es) × AllSettled es
  SettledIn (matrix_ex es d) = AllSettled es
  SettledIn (comp_ex e gs) = SettledIn e × GensSettled gs
  SettledIn (cell_ex b n es) = AllSettled es
  SettledIn (seen_ex r d ns es) = AllSettled es

  -- The same of several expressions.
  pub AllSettled : Exs → Type 0
  AllSettled no_exs = Unit {0}
  AllSettled (more_exs e es) = SettledIn e × AllSettled es

  -- The same of generators.
  pub GensSettled : Gens → Type 0
  GensSettled no_gens = Unit {0}
  GensSettled (over p d gs) = GensSettled gs
  GensSettled (from p e gs) = SettledIn e × GensSettled gs
  GensSettled (cond c gs) = SettledIn c × GensSettled gs

-- Whether no condition of the comprehension under a word reads a table.
abbrev pub own_read_none : Op → Exs → Bool
own_read_none (word f) (more_exs (comp_ex e gs) no_exs) = conditions_read_none gs
own_read_none op es = true

abbrev mutual
  -- Whether no condition in the tree reads a table, outside of domains, but for those of lists that lex signs compare.
  pub no_condition_reads : Ex → Bool
  no_condition_reads (number_ex n) = true
  no_condition_reads (truth_ex b) = true
  no_condition_reads (name_ex a) = true
  no_condition_reads (node_ex b op es) = own_read_none op es && all_no_condition_reads es
  no_condition_reads (matrix_ex es d) = all_no_condition_reads es
  no_condition_reads (comp_ex e gs) = no_condition_reads e && gens_no_condition_reads gs
  no_condition_reads (cell_ex b n es) = all_no_condition_reads es
  no_condition_reads (seen_ex r d ns es) = all_no_condition_reads es

  -- The same of several expressions.
  pub all_no_condition_reads : Exs → Bool
  all_no_condition_reads no_exs = true
  all_no_condition_reads (more_exs e es) = no_condition_reads e && all_no_condition_reads es

  -- The same of generators.
  pub gens_no_condition_reads : Gens → Bool
  gens_no_condition_reads no_gens = true
  gens_no_condition_reads (over p d gs) = gens_no_condition_reads gs
  gens_no_condition_reads (from p e gs) = no_condition_reads e && gens_no_condition_reads gs
  gens_no_condition_reads (cond c gs) = no_condition_reads c && gens_no_condition_reads gs

-- So no condition reads a table in a refined tree in which none can leave; and under `allDiff` none does where it isn't counted.
pub record ConditionsEnd : Type 0 where
  pub everywhere : (e : Ex) → is_refined e ≡ true → SettledIn e → no_condition_reads e ≡ true
  pub different : (s : Supply) (g : Names Ty) (e : Ex) (gs : Gens) →
      is_refined (node_ex true (word Fun.AllDiff) (more_exs (comp_ex e gs) no_exs)) ≡ true →
      counted_apart s g (node_ex true (word Fun.AllDiff) (more_exs (comp_ex e gs) no_exs)) ≡ None → conditions_read_none gs ≡ true
