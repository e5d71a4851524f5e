-- The texts of verdicts and of refusals.
use Rattle.std.specs.Prelude.{ℕ, List, [], ◌∷◌, ◌++◌, codes, decimal}
use Rattle.ess_rows.specs.declared.place.Place.{Place}
use Rattle.ess_parse.specs.declared.refusal.ReadNo.{ReadNo}
use Rattle.ess_types.specs.declared.refusal.TypeNo.{TypeNo}
use Rattle.ess_types.specs.declared.refusal.TypeNo.TheVariants as type
use Rattle.ess_domains.specs.declared.verdicts.ParamVerdict.{ParamVerdict}
use Rattle.ess_domains.specs.declared.verdicts.ParamVerdict.TheVariants as param
use Rattle.ess_domains.specs.declared.verdicts.Verdict.{Verdict}
use Rattle.ess_domains.specs.declared.verdicts.Verdict.TheVariants as sol
use Rattle.eprime_verdicts.specs.declared.satisfying.PVerdict.{PVerdict}
use Rattle.ess_translate.specs.declared.refusal.TransNo.{TransNo}

-- `:LINE:COL: TEXT`
abbrev pub at_place : Place → List ℕ → List ℕ
at_place p text = codes ":" ++ decimal p.line ++ codes ":" ++ decimal p.col ++ codes ": " ++ text

-- `: statement N: TEXT`
abbrev pub at_statement : ℕ → List ℕ → List ℕ
at_statement n text = codes ": statement " ++ decimal n ++ codes ": " ++ text

-- what is said of a text that isn't read, behind the file's name
abbrev pub read_reason : ReadNo → List ℕ
read_reason (ReadNo.BadByte p) = at_place p (codes "byte not allowed")
read_reason (ReadNo.WideNumber p) = at_place p (codes "number too large")
read_reason (ReadNo.Unsupported p) = at_place p (codes "word outside the profile")
read_reason (ReadNo.TooDeep p) = at_place p (codes "nested too deeply")
read_reason (ReadNo.Syntax p) = at_place p (codes "syntax error")
read_reason ReadNo.NoMemory = codes ": out of memory"

-- what is said of an ill typed specification, behind the file's name
abbrev pub type_reason : TypeNo → List ℕ
type_reason (type.UnknownName n) = at_statement n (codes "unknown name")
type_reason (type.DoubleName n) = at_statement n (codes "name declared twice")
type_reason (type.IllTyped n) = at_statement n (codes "ill typed")
type_reason (type.NotFinite n) = at_statement n (codes "not finite")
type_reason (type.NotEnumerable n) = at_statement n (codes "not enumerable")
type_reason (type.OpenGiven n) = at_statement n (codes "needs an unknown number of slots")
type_reason type.NoMemory = codes ": out of memory"

-- what is said of a parameter that doesn't fit, behind the file's name
abbrev pub param_reason : ParamVerdict → List ℕ
param_reason param.Fits = []
param_reason (param.Missing x) = codes ": missing " ++ x
param_reason (param.Extra x) = codes ": extra " ++ x
param_reason (param.NoMeaning n) = at_statement n (codes "a domain has no meaning")
param_reason (param.BelowZero n) = at_statement n (codes "a size is below 0")
param_reason (param.NotMember n) = at_statement n (codes "the value is not in its domain")
param_reason (param.Needs n) = at_statement n (codes "the condition is false")

-- what is said of cells that don't satisfy a model, behind the file's name
abbrev pub model_reason : PVerdict → List ℕ
model_reason PVerdict.Yes = []
model_reason (PVerdict.Missing x) = codes ": missing " ++ x
model_reason (PVerdict.Extra x) = codes ": extra " ++ x
model_reason (PVerdict.OutOfDomain x) = codes ": " ++ x ++ codes " is outside its domain"
model_reason (PVerdict.False n) = codes ": constraint " ++ decimal n ++ codes " is false"

-- What is said of a refusal of the texts; the file is the one that is looked at.
abbrev pub refusal_told : List ℕ → TransNo → List ℕ
refusal_told file TransNo.HeaderBad = file ++ codes ": no header of this tool"
refusal_told file (TransNo.Read which why) = file ++ read_reason why
refusal_told file (TransNo.Typing why) = file ++ type_reason why
refusal_told file (TransNo.InvalidParameter why) = file ++ param_reason why
refusal_told file (TransNo.TooManyCells x k) = x ++ codes ": " ++ decimal k ++ codes " cells, the limit is 16777216"
refusal_told file (TransNo.Unsatisfied v) = file ++ model_reason v
refusal_told file (TransNo.NotRepresented x) = file ++ codes ": " ++ x ++ codes " stands for no value"
refusal_told file TransNo.Big = codes "a number is outside 64 bits"
refusal_told file TransNo.NoMemory = codes "out of memory"

-- The line of a refusal on `err`.
abbrev pub refusal_line : List ℕ → TransNo → List ℕ
refusal_line file why = codes "conjure: " ++ refusal_told file why ++ 10 ∷ []

-- The line of a refused item of the list of representations.
abbrev pub item_line : ℕ → List ℕ
item_line k = codes "conjure: --use-repr: item " ++ decimal k ++ codes " is refused\n"

-- the status of a text that isn't read
abbrev pub read_status : ReadNo → ℕ
read_status (ReadNo.TooDeep p) = 5
read_status _ = 3

-- The status of a refusal.
abbrev pub refusal_status : TransNo → ℕ
refusal_status TransNo.HeaderBad = 3
refusal_status (TransNo.Read which why) = read_status why
refusal_status (TransNo.Typing why) = 3
refusal_status (TransNo.InvalidParameter why) = 3
refusal_status (TransNo.TooManyCells x k) = 5
refusal_status (TransNo.Unsatisfied v) = 1
refusal_status (TransNo.NotRepresented x) = 1
refusal_status TransNo.Big = 5
refusal_status TransNo.NoMemory = 6

-- why a solution isn't valid
abbrev pub verdict_reason : Verdict → List ℕ
verdict_reason sol.Valid = []
verdict_reason (sol.Missing x) = codes "missing " ++ x
verdict_reason (sol.Extra x) = codes "extra " ++ x
verdict_reason (sol.NotMember x) = x ++ codes " is not in its domain"
verdict_reason (sol.False n) = codes "statement " ++ decimal n ++ codes " is false"
verdict_reason sol.NoObjective = codes "the objective is undefined"

-- What is said of a verdict.
abbrev pub verdict_told : Verdict → List ℕ
verdict_told sol.Valid = codes "valid"
verdict_told v = codes "not valid: " ++ verdict_reason v

-- The line of a verdict on `out`.
abbrev pub verdict_line : Verdict → List ℕ
verdict_line v = verdict_told v ++ 10 ∷ []

-- The status of a verdict: 0 where the solution is valid, else 1.
abbrev pub verdict_status : Verdict → ℕ
verdict_status sol.Valid = 0
verdict_status _ = 1
