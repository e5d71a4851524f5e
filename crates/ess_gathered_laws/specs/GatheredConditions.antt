-- Several conditions that read cells, under `min` or `max`: they leave their places, and their conjunction stands behind all generators.
-- So one condition alone is left to be taken into the numbers.
use Rattle.std.specs.Prelude.{◌≡◌, Bool, true, false, ◌&&◌, not, List, [], ◌∷◌, Option, Some, None, IsTrue, is_some, if◌then◌else◌}
use Rattle.ess_semantics.specs.declared.words.Op2.{Op2}
use Rattle.ess_semantics.specs.declared.words.Fun.{Fun}
use Rattle.ess_semantics.specs.Values.{Text}
use Rattle.ess_semantics.specs.Trees.{Ex, comp_ex, ex2, fun1, Gens, no_gens, over, from, cond}
use Rattle.ess_semantics.specs.Occurrences.{has_cells}
use Rattle.ess_semantics.specs.Refined.{is_refined, are_refined_gens}
use Rattle.ess_semantics.specs.Meaning.{Env, meaning}
use Rattle.ess_semantics.specs.Kept.{Keeps}
use Rattle.ess_semantics.specs.Substitution.{NamesAre, Binds}
use Rattle.ess_rules_laws.specs.SpliceRules.{append_gens}
use Rattle.ess_refine_laws.specs.Everywhere.{everywhere_gens, ReadsUnder}
use Rattle.ess_refine_laws.specs.ExtremeRules.{is_extreme}

-- The conditions that read cells, in order.
abbrev pub cell_conditions : Gens → List Ex
cell_conditions no_gens = []
cell_conditions (over p d gs) = cell_conditions gs
cell_conditions (from p e gs) = cell_conditions gs
cell_conditions (cond c gs) = if has_cells c then c ∷ cell_conditions gs else cell_conditions gs

-- The generators and the other conditions.
abbrev pub without_conditions : Gens → Gens
without_conditions no_gens = no_gens
without_conditions (over p d gs) = over p d (without_conditions gs)
without_conditions (from p e gs) = from p e (without_conditions gs)
without_conditions (cond c gs) = if has_cells c then without_conditions gs else cond c (without_conditions gs)

-- `c /\ (d /\ ..)`.
abbrev pub all_hold : Ex → List Ex → Ex
all_hold c [] = c
all_hold c (d ∷ ds) = ex2 true Op2.And c (all_hold d ds)

-- The generators and the other conditions, over bounds that are there everywhere, and the condition behind them.
abbrev pub gathered_gens : Gens → Ex → Gens
gathered_gens gs c = append_gens (everywhere_gens (without_conditions gs)) (cond c no_gens)

-- What stands in the place of a list with these conditions, where there are two or more.
abbrev pub gathered_under : Fun → Ex → Gens → List Ex → Option Ex
gathered_under f e gs (c ∷ d ∷ ds) = Some (fun1 false f (comp_ex e (gathered_gens gs (all_hold c (d ∷ ds)))))
gathered_under f e gs cs = None

-- `min([e | gs, c, hs, d, ks])` is `min([e | gs', hs', ks', c /\ d])`, where c and d are all conditions that read cells, e, the generators
-- and the conditions are refined, and gs', hs', ks' have bounds that are there everywhere. So it is with more conditions, and with `max`.
abbrev pub conditions_gathered : Ex → Option Ex
conditions_gathered (fun1 false f (comp_ex e gs)) =
    if is_extreme f && (is_refined e && are_refined_gens gs) then gathered_under f e gs (cell_conditions gs) else None
conditions_gathered e = None

-- The patterns of generators bind these names alone.
abbrev pub BindOnly : (Text → Bool) → Gens → Type 0
BindOnly r no_gens = Unit {0}
BindOnly r (over p d gs) = Binds r p × BindOnly r gs
BindOnly r (from p e gs) = Binds r p × BindOnly r gs
BindOnly r (cond c gs) = BindOnly r gs

-- The condition uses no name that one of these generators binds.
abbrev pub FreeOf : Ex → Gens → Type 0
FreeOf c gs = (r : Text → Bool) × BindOnly r gs × NamesAre (λ a. not (r a)) (λ a. true) c

-- Each condition that reads cells uses no name that a generator behind it binds.
abbrev pub ConditionsFree : Gens → Type 0
ConditionsFree no_gens = Unit {0}
ConditionsFree (over p d gs) = ConditionsFree gs
ConditionsFree (from p e gs) = ConditionsFree gs
ConditionsFree (cond c gs) = (has_cells c ≡ true → FreeOf c gs) × ConditionsFree gs

-- What it counts on: the comprehension has a value, its bound names are told apart, and at each binding of the generators at which the
-- other conditions hold what the next bounds read is there, whatever the conditions that read cells say. Who uses the rule delivers it:
-- bound names are told apart before refining, and names and cells that are read as numbers have one in well typed trees.
pub record GathersWhere (e : Ex) (gs : Gens) (env : Env) : Type 0 where
  pub there : IsTrue (is_some (meaning (comp_ex e gs) env))
  pub apart : ConditionsFree gs
  pub reads : ReadsUnder (without_conditions gs) env (λ here. Unit {0})

abbrev pub GatheredFits : Ex → Env → Type 0
GatheredFits (fun1 m f (comp_ex e gs)) env = GathersWhere e gs env
GatheredFits e env = Unit {0}

-- So it keeps what it rewrites. What it makes is refined, and it isn't used there again: no condition that reads cells is left beside
-- the conjunction.
pub record ConditionsGather : Type 0 where
  pub keeps : (e f : Ex) → conditions_gathered e ≡ Some f → (env : Env) → GatheredFits e env → Keeps e f env
  pub stays_refined : (e f : Ex) → conditions_gathered e ≡ Some f → is_refined f ≡ true
  pub none_left : (gs : Gens) → cell_conditions (everywhere_gens (without_conditions gs)) ≡ []
  pub fires_once : (e f : Ex) → conditions_gathered e ≡ Some f → conditions_gathered f ≡ None
