-- Whether some number on the way to the meaning of a specification lies outside 64 bits, under a parameter, or under a
-- parameter and values of the finds. Lettings are put in, so they count where they are used.
use Rattle.std.specs.Prelude.{Bool, false, ◌||◌, List}
use Rattle.std.specs.List.{list_any}
use Rattle.ess_semantics.specs.Trees.{Stm, given, let_unnamed, needs, find, such_that, minimise, maximise}
use Rattle.ess_semantics.specs.Meaning.{Env}
use Rattle.ess_semantics.specs.Large.{is_large, is_large_dom, is_large_with}
use Rattle.ess_semantics.specs.Assignments.{Assignment, nothing_given, placed, env_of}
use Rattle.ess_semantics.specs.Plans.{Options, Plan, size_plan, value_plan, plans}

-- Whether the domain, the type size or the condition that a statement declares or asks of a parameter has such a number.
abbrev pub declares_large_number : Stm → Env → Bool
declares_large_number (given x d) env = is_large_dom d env
declares_large_number (let_unnamed t e) env = is_large e env
declares_large_number (needs e) env = is_large e env
declares_large_number (find x d) env = is_large_dom d env
declares_large_number s env = false

-- The same of a constraint or an objective.
abbrev pub asks_large_number : Stm → Env → Bool
asks_large_number (such_that e) env = is_large e env
asks_large_number (minimise e) env = is_large e env
asks_large_number (maximise e) env = is_large e env
asks_large_number s env = false

-- Under the parameter p some domain, type size or `where` has a number outside 64 bits.
abbrev pub parameter_is_large : List Stm → Assignment → Bool
parameter_is_large S p = list_any (λ l. declares_large_number l.stm l.env) (placed S p nothing_given)

-- Under the parameter p and the values a some domain, type size, `where`, constraint or objective has one.
abbrev pub solution_is_large : List Stm → Assignment → Assignment → Bool
solution_is_large S p a = list_any (λ l. declares_large_number l.stm l.env || asks_large_number l.stm l.env) (placed S p a)

-- Whether the domain of a plan has one, with its representation.
abbrev pub plan_is_large : Env → Plan → Bool
plan_is_large env (size_plan t a) = false
plan_is_large env (value_plan f x r d ns) = is_large_with r d env

-- Under the parameter p some domain with its representations, type size or `where` has one.
abbrev pub tables_are_large : List Stm → Options → Assignment → Bool
tables_are_large S o p = parameter_is_large S p || list_any (plan_is_large (env_of S p nothing_given)) (plans S o)
