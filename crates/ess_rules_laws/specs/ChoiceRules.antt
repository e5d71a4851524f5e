-- Shorter forms of numbers that a condition chooses.
use Rattle.std.specs.Prelude.{true, false, pos, suc, zero, Option, Some, None}
use Rattle.ess_semantics.specs.declared.words.Op2.{Op2}
use Rattle.ess_semantics.specs.declared.words.Fun.{Fun}
use Rattle.ess_semantics.specs.Trees.{Ex, number_ex, ex2, fun1}
use Rattle.ess_semantics.specs.Meaning.{Env, meaning}
use Rattle.ess_rules_laws.specs.Rules.{IsTruth, RuleKeepsWhere}

-- `toInt(c) * toInt(d)` is `toInt(c /\ d)`, and `toInt(c) * 1` is `toInt(c)`.
abbrev pub choice_shorter : Ex → Option Ex
choice_shorter (ex2 false Op2.Times (fun1 false Fun.ToInt c) (fun1 false Fun.ToInt d)) = Some (fun1 false Fun.ToInt (ex2 true Op2.And c d))
choice_shorter (ex2 false Op2.Times (fun1 false Fun.ToInt c) (number_ex (pos (suc zero)))) = Some (fun1 false Fun.ToInt c)
choice_shorter e = None

-- What it counts on: the conditions have truth values.
abbrev pub ChoicesFit : Ex → Env → Type 0
ChoicesFit (ex2 false o (fun1 false f c) (fun1 false h d)) env = IsTruth (meaning c env) × IsTruth (meaning d env)
ChoicesFit (ex2 false o (fun1 false f c) e) env = IsTruth (meaning c env)
ChoicesFit e env = Unit {0}

-- So it keeps what it rewrites.
abbrev pub ChoicesKeep : Type 0
ChoicesKeep = RuleKeepsWhere ChoicesFit choice_shorter
