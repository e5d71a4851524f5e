-- Constraints and objectives change nothing of what tables stand for: the header of a model gives the same env, finds and plans.
use Rattle.std.proofs.Common.{◌≡◌, refl, ap, ◌∙◌, List, [], ◌∷◌, map, filter, Option, None}
use Rattle.ess_semantics.specs.Values.{Text, Value}
use Rattle.ess_semantics.specs.Names.{Names}
use Rattle.ess_semantics.specs.Trees.{Stm, given, given_enum, let_ex, let_dom, let_enum, let_unnamed, needs, find, such_that, minimise, maximise}
use Rattle.ess_semantics.specs.Tables.{Table}
use Rattle.ess_semantics.specs.Prepared.{prepared}
use Rattle.ess_semantics.specs.Meaning.{Env, empty_env}
use Rattle.ess_semantics.specs.Judgements.{fault}
use Rattle.ess_semantics.specs.Assignments.{Assignment, nothing_given, env_after, env_behind}
use Rattle.ess_semantics.specs.Solutions.{finds}
use Rattle.ess_semantics.specs.Plans.{Options, Plan, plans, is_plan_of, common_value, values_stood_for}
use Rattle.ess_semantics.specs.ModelTrees.{in_header, header_of}
use Rattle.conjure_laws.specs.Premises.{here}
use Rattle.ess_translate_tables_laws.proofs.HeaderStatements.{prepared-header}
use Rattle.ess_translate_tables_laws.proofs.HeaderPlans.{headers-keep}
use Rattle.conjure_round_laws.specs.Laws.{HeadersStandForTheSame}

env-header : (T : List Stm) (p a : Assignment) (env : Env) → env_behind (filter in_header T) p a env ≡ env_behind T p a env
env-header [] p a env = refl
env-header (given x d ∷ T) p a env = env-header T p a (env_after (given x d) p a env)
env-header (given_enum t ∷ T) p a env = env-header T p a (env_after (given_enum t) p a env)
env-header (let_ex x e ∷ T) p a env = env-header T p a env
env-header (let_dom x d ∷ T) p a env = env-header T p a env
env-header (let_enum t ns ∷ T) p a env = env-header T p a (env_after (let_enum t ns) p a env)
env-header (let_unnamed t e ∷ T) p a env = env-header T p a (env_after (let_unnamed t e) p a env)
env-header (needs e ∷ T) p a env = env-header T p a env
env-header (find x d ∷ T) p a env = env-header T p a (env_after (find x d) p a env)
env-header (such_that e ∷ T) p a env = env-header T p a env
env-header (minimise e ∷ T) p a env = env-header T p a env
env-header (maximise e ∷ T) p a env = env-header T p a env

finds-header : (T : List Stm) → finds (filter in_header T) ≡ finds T
finds-header [] = refl
finds-header (given x d ∷ T) = finds-header T
finds-header (given_enum t ∷ T) = finds-header T
finds-header (let_ex x e ∷ T) = finds-header T
finds-header (let_dom x d ∷ T) = finds-header T
finds-header (let_enum t ns ∷ T) = finds-header T
finds-header (let_unnamed t e ∷ T) = finds-header T
finds-header (needs e ∷ T) = finds-header T
finds-header (find x d ∷ T) = ap (λ xs. x ∷ xs) (finds-header T)
finds-header (such_that e ∷ T) = finds-header T
finds-header (minimise e ∷ T) = finds-header T
finds-header (maximise e ∷ T) = finds-header T

-- The env behind a header's statements is that behind the specification's.
pub here-header : (S : List Stm) (p : Assignment) → here (filter in_header S) p ≡ here S p
here-header S p = ap (λ T. env_behind T p nothing_given empty_env) (prepared-header S) ∙ env-header (prepared S) p nothing_given empty_env

-- The values of finds by plans under an env.
abbrev values_under : Env → List Plan → List Text → Names Table → Names (Option Value)
values_under env Ps xs c = map (λ x. (x, common_value env c (filter (is_plan_of x) Ps))) xs

-- Tables stand for the same.
pub values-header : (S : List Stm) (o : Options) (p : Assignment) (c : Names Table) → fault S ≡ None →
    values_stood_for (header_of S o).statements (header_of S o).reprs p c ≡ values_stood_for S o p c
values-header S o p c e =
    ap (λ z. values_under z (plans (header_of S o).statements (header_of S o).reprs) (finds (filter in_header S)) c) (here-header S p)
    ∙ ap (λ Ps. values_under (here S p) Ps (finds (filter in_header S)) c) (headers-keep.plans S o e)
    ∙ ap (λ xs. values_under (here S p) (plans S o) xs c) (finds-header S)

-- Under the header of a model tables stand for what they stand for under the specification.
pub headers-stand : HeadersStandForTheSame
headers-stand = record { values = values-header; env = λ S o p. here-header S p }
