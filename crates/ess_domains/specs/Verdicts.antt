-- The pure verdicts that verdicts stand for. The number of a statement above 2^32 - 1 is given as 2^32 - 1.
use Rattle.std.specs.Prelude.{ℕ, min}
use Rattle.ess_semantics.specs.Parameters as params
use Rattle.ess_semantics.specs.Parameters.{fits_param, missing_given, extra_name, no_meaning, below_0, not_member, false_need}
use Rattle.ess_semantics.specs.Solutions as solutions
use Rattle.ess_semantics.specs.Solutions.{valid, missing_find, extra_find, not_in_domain, false_constraint, no_objective}
use Rattle.ess_domains.specs.declared.verdicts.ParamVerdict.{ParamVerdict}
use Rattle.ess_domains.specs.declared.verdicts.ParamVerdict.TheVariants as param
use Rattle.ess_domains.specs.declared.verdicts.Verdict.{Verdict}
use Rattle.ess_domains.specs.declared.verdicts.Verdict.TheVariants as sol

-- The verdict on a parameter.
abbrev pub pure_param_verdict : ParamVerdict → params.ParamVerdict
pure_param_verdict param.Fits = fits_param
pure_param_verdict (param.Missing x) = missing_given x
pure_param_verdict (param.Extra x) = extra_name x
pure_param_verdict (param.NoMeaning n) = no_meaning n
pure_param_verdict (param.BelowZero n) = below_0 n
pure_param_verdict (param.NotMember n) = not_member n
pure_param_verdict (param.Needs n) = false_need n

-- The verdict on a solution.
abbrev pub pure_verdict : Verdict → solutions.Verdict
pure_verdict sol.Valid = valid
pure_verdict (sol.Missing x) = missing_find x
pure_verdict (sol.Extra x) = extra_find x
pure_verdict (sol.NotMember x) = not_in_domain x
pure_verdict (sol.False n) = false_constraint n
pure_verdict sol.NoObjective = no_objective

-- The largest number of a statement that is told.
abbrev pub largest : ℕ
largest = 4294967295

-- The verdict on a parameter as it is told.
abbrev pub cut_param : params.ParamVerdict → params.ParamVerdict
cut_param fits_param = fits_param
cut_param (missing_given x) = missing_given x
cut_param (extra_name x) = extra_name x
cut_param (no_meaning n) = no_meaning (min n largest)
cut_param (below_0 n) = below_0 (min n largest)
cut_param (not_member n) = not_member (min n largest)
cut_param (false_need n) = false_need (min n largest)

-- The verdict on a solution as it is told.
abbrev pub cut : solutions.Verdict → solutions.Verdict
cut valid = valid
cut (missing_find x) = missing_find x
cut (extra_find x) = extra_find x
cut (not_in_domain x) = not_in_domain x
cut (false_constraint n) = false_constraint (min n largest)
cut no_objective = no_objective
