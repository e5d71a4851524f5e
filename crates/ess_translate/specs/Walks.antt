-- What the statements before a place have to do with numbers outside 64 bits.
use Rattle.std.specs.Prelude.{Bool, false, ◌||◌, List, [], ◌∷◌}
use Rattle.ess_semantics.specs.Values.{Text}
use Rattle.ess_semantics.specs.Names.{Names}
use Rattle.ess_semantics.specs.Trees.{Stm}
use Rattle.ess_semantics.specs.Meaning.{Env}
use Rattle.ess_semantics.specs.Assignments.{Assignment, nothing_given, env_after}
use Rattle.ess_semantics.specs.LargeSpecifications.{declares_large_number}
use Rattle.ess_semantics.specs.Plans.{Side, givens_side, finds_side}
use Rattle.ess_translate_laws.specs.FileAssignments.{type_lettings, values_here, as_parameter, as_solution}

-- The types that count while the values of a side are read from a file F.
abbrev pub types_for : Side → List Stm → Names (List Text)
types_for givens_side F = type_lettings F
types_for finds_side F = []

-- The parameter at a statement, where the file gives h there; p is the parameter of a solution.
abbrev pub param_here : Side → Assignment → Assignment → Assignment
param_here givens_side h p = h
param_here finds_side h p = p

-- The same of the solution.
abbrev pub sol_here : Side → Assignment → Assignment
sol_here givens_side h = nothing_given
sol_here finds_side h = h

-- The env behind a statement, where a file F gives the values of one side; p is the parameter of a solution.
abbrev pub env_behind_stm : Side → List Stm → Assignment → Stm → Env → Env
env_behind_stm f F p s env = env_after s (as_parameter f F p (values_here f F s env)) (as_solution f (values_here f F s env)) env

-- Whether some statement declares a number outside 64 bits under the env before it.
abbrev pub declare_large_number : Side → List Stm → Assignment → List Stm → Env → Bool
declare_large_number f F p [] env = false
declare_large_number f F p (s ∷ ss) env = declares_large_number s env || declare_large_number f F p ss (env_behind_stm f F p s env)
