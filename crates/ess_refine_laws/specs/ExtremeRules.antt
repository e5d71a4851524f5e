-- The least and the greatest of numbers under a condition that reads cells: what the condition leaves out is replaced by a number
-- that is no less, or no greater, than all of them.
use Rattle.std.specs.Prelude.{◌≡◌, Bool, true, false, ◌&&◌, ℤ, Option, Some, None, IsTrue, is_some, if◌then◌else◌}
use Rattle.ess_semantics.specs.declared.words.Op1.{Op1}
use Rattle.ess_semantics.specs.declared.words.Op2.{Op2}
use Rattle.ess_semantics.specs.declared.words.Fun.{Fun}
use Rattle.ess_semantics.specs.Values.{number}
use Rattle.ess_semantics.specs.Trees.{Ex, comp_ex, ex1, ex2, fun1, Gens, no_gens}
use Rattle.ess_semantics.specs.Refined.{is_refined, are_refined_gens}
use Rattle.ess_semantics.specs.Meaning.{Env, meaning}
use Rattle.ess_semantics.specs.Kept.{Keeps}
use Rattle.ess_rules_laws.specs.Rules.{IsTruth}
use Rattle.ess_refine_laws.specs.Everywhere.{chosen, everywhere, everywhere_gens, ReadsNumbers, ReadsUnder}
use Rattle.ess_refine_laws.specs.LeavingConditions.{Parted, at_last_condition}

-- Whether the word picks the least or the greatest.
abbrev pub is_extreme : Fun → Bool
is_extreme Fun.Min = true
is_extreme Fun.Max = true
is_extreme f = false

-- The greatest where the word picks the least, else the least.
abbrev pub opposite : Fun → Fun
opposite Fun.Min = Fun.Max
opposite f = Fun.Min

-- Whether there are no generators.
abbrev pub are_none : Gens → Bool
are_none no_gens = true
are_none gs = false

-- `toInt(c) * n + toInt(!c) * m`: n where the condition is true, else m.
abbrev pub either_number : Ex → Ex → Ex → Ex
either_number c n m =
    ex2 false Op2.Plus (ex2 false Op2.Times (chosen c) n) (ex2 false Op2.Times (chosen (ex1 true Op1.Not c)) m)

-- `min([e | gs, c])` is `min([toInt(c) * n + toInt(!c) * m | hs])`, where c reads a cell, n and hs are e and gs made to be there
-- everywhere, and m is another way to say `max([n | hs])`, with names of its own. So it is with `max`.
abbrev pub extreme_condition : Ex → Ex → Option Ex
extreme_condition m (fun1 false f (comp_ex e gs)) = elim (at_last_condition gs) [
  | None ↦ None
  | Some t ↦ if (is_extreme f && are_none t.after) && (is_refined t.condition && (is_refined e && (is_refined m
      && are_refined_gens t.before)))
      then Some (fun1 false f (comp_ex (either_number t.condition (everywhere e) m) (everywhere_gens t.before))) else None
]
extreme_condition m e = None

-- What it counts on: m is the same number everywhere, the greatest or least of all; the condition has a truth value, and what is
-- read as a number has one.
abbrev pub OppositeFits : Ex → Fun → Ex → Option Parted → Env → Type 0
OppositeFits m f e None env = Unit {0}
OppositeFits m f e (Some t) env =
    (k : ℤ) × (meaning (fun1 false (opposite f) (comp_ex (everywhere e) (everywhere_gens t.before))) env ≡ Some (number k))
    × ReadsUnder t.before env (λ here. IsTruth (meaning t.condition here) × ReadsNumbers e here × (meaning m here ≡ Some (number k)))

-- And the whole has a value.
abbrev pub ExtremeFits : Ex → Ex → Env → Type 0
ExtremeFits m (fun1 false f (comp_ex e gs)) env =
    IsTrue (is_some (meaning (fun1 false f (comp_ex e gs)) env)) × OppositeFits m f e (at_last_condition gs) env
ExtremeFits m e env = Unit {0}

-- So it keeps what it rewrites.
abbrev pub ExtremesKeep : Type 0
ExtremesKeep = (m e f : Ex) → extreme_condition m e ≡ Some f → (env : Env) → ExtremeFits m e env → Keeps e f env
