-- Which parameter and which solution a file of lettings stands for under a specification. A file says `letting x be ..`, or
-- `letting T be new type enum {..}`, as the manual's chapter on files has it. A letting's text is read as a value of the
-- type that x has in the specification, under the named types that stand before the declaration of x.
use Rattle.std.specs.Prelude.{List, [], ◌∷◌, ◌++◌, map, Option, Some, None}
use Rattle.ess_semantics.specs.Lists.{and_then, append_all}
use Rattle.ess_semantics.specs.Values.{Text, Value}
use Rattle.ess_semantics.specs.Names.{Names, look, keys}
use Rattle.ess_semantics.specs.Trees.{Ex, Dom, Stm, given, let_ex, let_enum, find}
use Rattle.ess_semantics.specs.Types.{type_of_dom}
use Rattle.ess_semantics.specs.Meaning.{Env, empty_env}
use Rattle.ess_semantics.specs.Prepared.{prepared}
use Rattle.ess_semantics.specs.Assignments.{Assignment, nothing_given, env_after}
use Rattle.ess_semantics.specs.Literals.{literal_value}
use Rattle.ess_semantics.specs.Parameters.{ParamVerdict, fits_param, param_verdict}
use Rattle.ess_semantics.specs.Solutions.{Verdict, verdict}
use Rattle.ess_semantics.specs.Plans.{Side, givens_side, finds_side}

-- ---- what a file says

-- The letting of a value in a statement of a file.
abbrev pub value_letting : Stm → Names Ex
value_letting (let_ex x e) = (x, e) ∷ []
value_letting s = []

-- The lettings of values in a file, in order.
abbrev pub value_lettings : List Stm → Names Ex
value_lettings F = append_all (map value_letting F)

-- The letting of a type in a statement of a file, with the names of the type's values.
abbrev pub type_letting : Stm → Names (List Text)
type_letting (let_enum t ns) = (t, ns) ∷ []
type_letting s = []

-- The lettings of types in a file, in order.
abbrev pub type_lettings : List Stm → Names (List Text)
type_lettings F = append_all (map type_letting F)

-- ---- values of the specification's names

-- The name whose value a parameter gives, or a solution, where a statement declares one, with its domain.
abbrev pub valued_name : Side → Stm → Names Dom
valued_name givens_side (given x d) = (x, d) ∷ []
valued_name finds_side (find x d) = (x, d) ∷ []
valued_name f s = []

-- The value that a file gives to a name with this domain: that of its first letting, where the text is a value of the type.
abbrev pub value_in_file : List Stm → Env → Text × Dom → Option Value
value_in_file F env b = and_then (look (value_lettings F) b.0) (λ e. literal_value e (type_of_dom b.1) env)

-- The names that a statement gives their values from a file.
abbrev pub values_here : Side → List Stm → Stm → Env → Names (Option Value)
values_here f F s env = map (λ b. (b.0, value_in_file F env b)) (valued_name f s)

-- The assignment that a parameter gets with the values of a statement's names, or that a solution gets.
abbrev pub as_parameter : Side → List Stm → Assignment → Names (Option Value) → Assignment
as_parameter givens_side F p vs = record { types = type_lettings F; vals = vs }
as_parameter finds_side F p vs = p

-- The same of the solution.
abbrev pub as_solution : Side → Names (Option Value) → Assignment
as_solution givens_side vs = nothing_given
as_solution finds_side vs = record { types = []; vals = vs }

-- The values of the names of the statements, each under the env before its statement; p is the parameter of a solution.
abbrev pub values_from : Side → List Stm → Assignment → List Stm → Env → Names (Option Value)
values_from f F p [] env = []
values_from f F p (s ∷ ss) env =
    let vs : Names (Option Value) = values_here f F s env in
    vs ++ values_from f F p ss (env_after s (as_parameter f F p vs) (as_solution f vs) env)

-- ---- assignments

-- What a file gives: its types, and the value of each name that has a letting, in the order of the file. A name that is
-- none of the specification's has no value, nor has one whose text isn't a value of its type.
abbrev pub assignment_from : List Stm → Names (Option Value) → Assignment
assignment_from F vs =
    record { types = type_lettings F; vals = map (λ b. (b.0, and_then (look vs b.0) (λ o. o))) (value_lettings F) }

-- The parameter that a file stands for under a specification.
abbrev pub parameter_in : List Stm → List Stm → Assignment
parameter_in S F = assignment_from F (values_from givens_side F nothing_given (prepared S) empty_env)

-- The solution that a file stands for under a specification and a parameter.
abbrev pub solution_in : List Stm → Assignment → List Stm → Assignment
solution_in S p F = assignment_from F (values_from finds_side F p (prepared S) empty_env)

-- ---- validating

-- What is said of a file of a parameter and a file of a solution: the parameter doesn't fit, or the verdict on the solution.
pub data FilesVerdict : Type 0 where
  unfit : ParamVerdict → FilesVerdict
  judged : Verdict → FilesVerdict

-- The parameter is looked at first.
abbrev pub verdict_under : ParamVerdict → Verdict → FilesVerdict
verdict_under fits_param v = judged v
verdict_under w v = unfit w

-- The verdict on two files under a specification.
abbrev pub files_verdict : List Stm → List Stm → List Stm → FilesVerdict
files_verdict S F G = let p : Assignment = parameter_in S F in verdict_under (param_verdict S p) (verdict S p (solution_in S p G))
