-- What is reached of a specification between two statements.
use Rattle.std.specs.Prelude.{◌≡◌, ℕ, List, [], ◌∷◌, ◌++◌, map, option_map}
use Rattle.ess_semantics.specs.Values.{Text}
use Rattle.ess_semantics.specs.Trees as pure
use Rattle.ess_semantics.specs.Types as pure_types
use Rattle.ess_semantics.specs.Prepared.{resolve_stm}
use Rattle.ess_semantics.specs.Judgements.{scope_after, names_by}
use Rattle.ess_core.specs.TypeViews.{pure_ty}
use Rattle.ess_core.specs.StatementViews.{pure_stm}
use Rattle.ess_types_judging.specs.declared.scope.Scope.{Scope}
use Rattle.ess_types_judging.specs.ScopeViews.{pure_scope}
use Rattle.ess_types_judging.specs.Findings.{pure_found}
use Rattle.ess_types_judging_laws.specs.Verdicts as found
use Rattle.ess_types.specs.declared.declared.NamedTy.{NamedTy}
use Rattle.ess_types.specs.declared.findings.Findings.{Findings}
use Rattle.ess_types.specs.declared.progress.Progress.{Progress}
use Rattle.ess_types.specs.Entering.{AreStems, AreTyped}
use Rattle.ess_types.specs.Verdicts.{Verdict, verdict_from}

-- A declared name with its type.
abbrev pub pure_named_ty : NamedTy → Text × pure_types.Ty
pure_named_ty n = (n.name, pure_ty n.ty)

-- What is found of a statement.
abbrev pub pure_findings : Findings → found.Findings
pure_findings f = record { ty = option_map pure_ty f.ty; found = pure_found f.found }

-- No name is bound.
pub record IsOutside (s : Scope) : Type 0 where
  pub table : s.table.bound ≡ []
  pub bound : s.bound ≡ []

-- What holds between two statements of a scope, and of the names ns of types that names in scope seem to have as values.
pub record IsBetween (s : Scope) (ns : List Text) : Type 0 where
  pub outside : IsOutside s
  pub stems : AreStems ns (pure_scope s)
  pub typed : AreTyped (pure_scope s)

-- The verdict where the statements ws, of which the first has the number k, are left.
abbrev pub verdict_behind : ℕ → List pure.Stm → Progress → Verdict
verdict_behind k ws p = verdict_from k ws (pure_scope p.scope) (map pure_named_ty p.names) (map pure_stm p.prepared)

-- What q has behind a statement with lettings put in, where p stood before it.
pub record IsBehind (t : pure.Stm) (p q : Progress) : Type 0 where
  pub scope : pure_scope q.scope ≡ scope_after t (pure_scope p.scope)
  pub names : map pure_named_ty q.names ≡ map pure_named_ty p.names ++ names_by t (pure_scope p.scope)
  pub prepared : map pure_stm q.prepared ≡ map pure_stm p.prepared ++ resolve_stm t (pure_scope p.scope).tys ∷ []
