-- A condition that reads cells moves behind the generators after it, so that `min` and `max` find it last.
use Rattle.std.specs.Prelude.{◌≡◌, Bool, true, false, ◌&&◌, not, Option, Some, None, option_map, IsTrue, is_some, if◌then◌else◌}
use Rattle.ess_semantics.specs.Values.{Text}
use Rattle.ess_semantics.specs.Trees.{Ex, comp_ex, fun1, Gens, over, cond}
use Rattle.ess_semantics.specs.Refined.{is_refined, are_refined_gens}
use Rattle.ess_semantics.specs.Meaning.{Env, meaning}
use Rattle.ess_semantics.specs.Contexts.{AtEach}
use Rattle.ess_semantics.specs.Kept.{Keeps}
use Rattle.ess_semantics.specs.Substitution.{NamesAre, Binds}
use Rattle.ess_rules_laws.specs.SpliceRules.{append_gens}
use Rattle.ess_refine_laws.specs.Everywhere.{everywhere_dom, ReadsBounds}
use Rattle.ess_refine_laws.specs.LeavingConditions.{Parted, at_last_condition}
use Rattle.ess_refine_laws.specs.ExtremeRules.{is_extreme}

-- `c, x : d, hs` is `x : d', c, hs`, where d' is d made to be there everywhere; and `c, b, hs` is `b, c, hs`.
abbrev pub one_later : Ex → Gens → Option Gens
one_later c (over p d hs) = Some (over p (everywhere_dom d) (cond c hs))
one_later c (cond b hs) = Some (cond b (cond c hs))
one_later c hs = None

-- `min([e | gs, c, x : d, hs])` is `min([e | gs, x : d', c, hs])`, where c is the last condition that reads a cell, and c, e and
-- what stands behind c are refined. So it is with another condition behind it, and with `max`.
abbrev pub condition_later : Ex → Option Ex
condition_later (fun1 false f (comp_ex e gs)) = elim (at_last_condition gs) [
  | None ↦ None
  | Some t ↦ if is_extreme f && (is_refined t.condition && (is_refined e && are_refined_gens t.after))
      then option_map (λ hs. fun1 false f (comp_ex e (append_gens t.before hs))) (one_later t.condition t.after) else None
]
condition_later e = None

-- What it counts on at a binding before the condition: what the bounds of the generator behind it read is there.
abbrev pub BoundsRead : Gens → Env → Type 0
BoundsRead (over p d hs) env = ReadsBounds d env
BoundsRead hs env = Unit {0}

-- And bound names are told apart: r has those that the generator binds, none of which the condition uses.
abbrev pub ConditionApart : (Text → Bool) → Ex → Gens → Type 0
ConditionApart r c (over p d hs) = Binds r p × NamesAre (λ a. not (r a)) (λ a. true) c
ConditionApart r c hs = Unit {0}

-- The same of a tree.
abbrev pub LaterApart : (Text → Bool) → Option Parted → Type 0
LaterApart r None = Unit {0}
LaterApart r (Some t) = ConditionApart r t.condition t.after

abbrev pub LaterRead : Option Parted → Env → Type 0
LaterRead None env = Unit {0}
LaterRead (Some t) env = AtEach t.before env (λ here. BoundsRead t.after here)

-- And the comprehension has a value.
abbrev pub LaterFits : (Text → Bool) → Ex → Env → Type 0
LaterFits r (fun1 m f (comp_ex e gs)) env =
    IsTrue (is_some (meaning (comp_ex e gs) env)) × LaterApart r (at_last_condition gs) × LaterRead (at_last_condition gs) env
LaterFits r e env = Unit {0}

-- So it keeps what it rewrites.
abbrev pub ConditionsMove : Type 0
ConditionsMove = (r : Text → Bool) (e f : Ex) → condition_later e ≡ Some f → (env : Env) → LaterFits r e env → Keeps e f env
