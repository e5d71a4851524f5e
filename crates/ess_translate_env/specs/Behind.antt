-- What stands behind statements of the code: their env, and whether one of them declares a number outside 64 bits.
use Rattle.std.specs.Prelude.{Bool, false, ◌||◌, List, [], ◌∷◌, map}
use Rattle.ess_semantics.specs.Trees as pure
use Rattle.ess_semantics.specs.Meaning.{Env, empty_env}
use Rattle.ess_semantics.specs.Assignments.{Assignment, env_after, env_behind}
use Rattle.ess_semantics.specs.LargeSpecifications.{declares_large_number}
use Rattle.ess_core.specs.declared.statements.Stm.{Stm}
use Rattle.ess_core.specs.StatementViews.{pure_stm}

-- Whether some statement declares a number outside 64 bits, from this env on.
abbrev pub declare_large : List pure.Stm → Assignment → Assignment → Env → Bool
declare_large [] p a env = false
declare_large (s ∷ ss) p a env = declares_large_number s env || declare_large ss p a (env_after s p a env)

-- The env behind all of the statements.
abbrev pub behind_all : List Stm → Assignment → Assignment → Env
behind_all stms p a = env_behind (map pure_stm stms) p a empty_env

-- Whether one of the statements declares a number outside 64 bits.
abbrev pub large_in : List Stm → Assignment → Assignment → Bool
large_in stms p a = declare_large (map pure_stm stms) p a empty_env
