-- The walk over the statements of a specification, statement after statement.
use Rattle.std.proofs.Common.{◌≡◌, arith, suc, ℕ, ◌+◌, ◌<◌, length, drop, get_or, refl, sym, ap, ◌∙◌, Bool, true, ◌||◌, List, ◌∷◌, ◌++◌, map, Option}
use Rattle.std.proofs.lemmas.List.{append_assoc, map-append}
use Rattle.std.proofs.Math.Seq.{drop-cons}
use Rattle.ess_semantics.specs.Values.{Value}
use Rattle.ess_semantics.specs.Names.{Names}
use Rattle.ess_semantics.specs.Trees.{Stm}
use Rattle.ess_semantics.specs.Meaning.{Env}
use Rattle.ess_semantics.specs.Assignments.{Assignment, env_after}
use Rattle.ess_semantics.specs.LargeSpecifications.{declares_large_number}
use Rattle.ess_semantics.specs.Plans.{Side, givens_side, finds_side}
use Rattle.ess_semantics.proofs.Tests.{or-yes}
use Rattle.ess_core.specs.declared.statements.Stm as Stm
use Rattle.ess_core.specs.StatementViews.{pure_stm}
use Rattle.ess_domains.specs.declared.assignments.TypeNames.{TypeNames}
use Rattle.ess_domains.specs.declared.assignments.NamedValue.{NamedValue}
use Rattle.ess_domains.specs.Assignments.{pure_type_names, pure_named_value}
use Rattle.ess_translate_laws.specs.FileAssignments.{values_here, values_from, as_parameter, as_solution}
use Rattle.ess_translate.specs.Walks.{types_for, param_here, sol_here, env_behind_stm, declare_large_number}

-- What the file gives at a statement is the parameter there, or the solution.
pub param_here-as : (f : Side) (F : List Stm) (p : Assignment) (vs : Names (Option Value))
    → param_here f (record { types = types_for f F; vals = vs }) p ≡ as_parameter f F p vs
param_here-as givens_side F p vs = refl
param_here-as finds_side F p vs = refl

pub sol_here-as : (f : Side) (F : List Stm) (vs : Names (Option Value))
    → sol_here f (record { types = types_for f F; vals = vs }) ≡ as_solution f vs
sol_here-as givens_side F vs = refl
sol_here-as finds_side F vs = refl

-- The env behind a statement, by what the file gives in it.
pub behind_here : (f : Side) (F : List Stm) (p : Assignment) (ts : List TypeNames) (vs : List NamedValue) (s : Stm) (env : Env)
    → map pure_type_names ts ≡ types_for f F → map pure_named_value vs ≡ values_here f F s env
    → env_after s (param_here f (record { types = map pure_type_names ts; vals = map pure_named_value vs }) p)
    (sol_here f (record { types = map pure_type_names ts; vals = map pure_named_value vs })) env
    ≡ env_behind_stm f F p s env
behind_here f F p ts vs s env h i =
    ap (λ us. env_after s (param_here f (record { types = us; vals = map pure_named_value vs }) p)
    (sol_here f (record { types = us; vals = map pure_named_value vs })) env) h
    ∙ ap (λ us. env_after s (param_here f (record { types = types_for f F; vals = us }) p)
    (sol_here f (record { types = types_for f F; vals = us })) env) i
    ∙ ap (λ q. env_after s q (sol_here f (record { types = types_for f F; vals = values_here f F s env })) env)
    (param_here-as f F p (values_here f F s env))
    ∙ ap (λ q. env_after s (as_parameter f F p (values_here f F s env)) q env) (sol_here-as f F (values_here f F s env))

-- The values of the statements left, behind one more.
pub values_on : (f : Side) (F : List Stm) (p : Assignment) (us vs : List NamedValue) (s : Stm) (ss : List Stm) (env : Env)
    → map pure_named_value vs ≡ values_here f F s env
    → map pure_named_value (us ++ vs) ++ values_from f F p ss (env_behind_stm f F p s env)
    ≡ map pure_named_value us ++ values_from f F p (s ∷ ss) env
values_on f F p us vs s ss env h =
    ap (λ ws. ws ++ values_from f F p ss (env_behind_stm f F p s env)) (map-append pure_named_value us vs)
    ∙ append_assoc (map pure_named_value us) (map pure_named_value vs) (values_from f F p ss (env_behind_stm f F p s env))
    ∙ ap (λ ws. map pure_named_value us ++ (ws ++ values_from f F p ss (env_behind_stm f F p s env))) h

-- One more statement, over what the code holds.
pub walk_on : (f : Side) (F : List Stm) (p : Assignment) (ts : List TypeNames) (us vs : List NamedValue) (s : Stm) (ss : List Stm)
    (env next : Env)
    (whole : Names (Option Value))
    → map pure_type_names ts ≡ types_for f F → map pure_named_value vs ≡ values_here f F s env
    → next ≡ env_after s (param_here f (record { types = map pure_type_names ts; vals = map pure_named_value vs }) p)
    (sol_here f (record { types = map pure_type_names ts; vals = map pure_named_value vs })) env
    → map pure_named_value us ++ values_from f F p (s ∷ ss) env ≡ whole
    → map pure_named_value (us ++ vs) ++ values_from f F p ss next ≡ whole
walk_on f F p ts us vs s ss env next whole h i e k =
    ap (λ v. map pure_named_value (us ++ vs) ++ values_from f F p ss v) (e ∙ behind_here f F p ts vs s env h i)
    ∙ values_on f F p us vs s ss env i ∙ k

-- The same of numbers outside 64 bits.
pub large_on : (f : Side) (F : List Stm) (p : Assignment) (ts : List TypeNames) (vs : List NamedValue) (s : Stm) (ss : List Stm)
    (env next : Env)
    (whole : Bool)
    → map pure_type_names ts ≡ types_for f F → map pure_named_value vs ≡ values_here f F s env
    → next ≡ env_after s (param_here f (record { types = map pure_type_names ts; vals = map pure_named_value vs }) p)
    (sol_here f (record { types = map pure_type_names ts; vals = map pure_named_value vs })) env
    → (declare_large_number f F p (s ∷ ss) env ≡ true → whole ≡ true)
    → declare_large_number f F p ss next ≡ true → whole ≡ true
large_on f F p ts vs s ss env next whole h i e k l =
    k (ap (λ b. declares_large_number s env || b) (sym (ap (λ v. declare_large_number f F p ss v) (e ∙ behind_here f F p ts vs s env h i))
    ∙ l) ∙ or-yes (declares_large_number s env))

-- The statements left, as the next one and those behind it.
pub statements_left : (stms : List Stm.Stm) (k : ℕ) (s : Stm.Stm) → s ≡ get_or stms k s → k < length stms
    → map pure_stm (drop k stms) ≡ pure_stm s ∷ map pure_stm (drop (k + 1) stms)
statements_left stms k s h l =
    let next : suc k ≡ k + 1 = omega arith in
    ap (map pure_stm) (drop-cons stms k s l ∙ ap (λ t. t ∷ drop (suc k) stms) (sym h) ∙ ap (λ n. s ∷ drop n stms) next)
