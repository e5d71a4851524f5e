-- A copy with bound names of its own serves the least and the greatest under a condition: it means the same at each binding.
use Rattle.std.specs.Prelude.{◌≡◌, Bool, true, false, not, Option, Some, None, IsTrue, is_some}
use Rattle.ess_semantics.specs.declared.words.Fun.{Fun}
use Rattle.ess_semantics.specs.Values.{Text}
use Rattle.ess_semantics.specs.Trees.{Ex, comp_ex, fun1}
use Rattle.ess_semantics.specs.Meaning.{Env, meaning}
use Rattle.ess_semantics.specs.Kept.{Keeps}
use Rattle.ess_semantics.specs.Substitution.{NamesAre, NamesAreGens}
use Rattle.ess_rules_laws.specs.Rules.{IsTruth, IsNumber}
use Rattle.ess_refine_laws.specs.Everywhere.{everywhere, everywhere_gens, ReadsNumbers, ReadsUnder}
use Rattle.ess_refine_laws.specs.LeavingConditions.{Parted, at_last_condition}
use Rattle.ess_refine_laws.specs.ExtremeRules.{opposite, extreme_condition}

-- The greatest where the word picks the least, else the least, of the numbers once the condition is left out.
abbrev pub opposite_of : Fun → Ex → Parted → Ex
opposite_of f e t = fun1 false (opposite f) (comp_ex (everywhere e) (everywhere_gens t.before))

-- What the rule counts on with m, a copy of that number: r has the names that the generators bind, and none that m uses; the number
-- is there, and m is the same; the condition has a truth value, and what is read as a number has one.
abbrev pub CopyServes : (Text → Bool) → Ex → Fun → Ex → Option Parted → Env → Type 0
CopyServes r m f e None env = Unit {0}
CopyServes r m f e (Some t) env =
    NamesAreGens (λ a. true) r t.before × NamesAre (λ a. not (r a)) (λ a. true) m
    × IsNumber (meaning (opposite_of f e t) env) × (meaning m env ≡ meaning (opposite_of f e t) env)
    × ReadsUnder t.before env (λ here. IsTruth (meaning t.condition here) × ReadsNumbers e here)

-- And the whole has a value.
abbrev pub CopyFits : (Text → Bool) → Ex → Ex → Env → Type 0
CopyFits r m (fun1 false f (comp_ex e gs)) env =
    IsTrue (is_some (meaning (fun1 false f (comp_ex e gs)) env)) × CopyServes r m f e (at_last_condition gs) env
CopyFits r m e env = Unit {0}

-- So it keeps what it rewrites.
abbrev pub CopiesServe : Type 0
CopiesServe = (r : Text → Bool) (m e f : Ex) → extreme_condition m e ≡ Some f → (env : Env) → CopyFits r m e env → Keeps e f env
