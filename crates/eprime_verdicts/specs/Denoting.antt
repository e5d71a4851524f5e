-- What declared domains denote in each model whose declarations and given tables are held, whatever scopes they were read in.
use Rattle.std.specs.Prelude.{◌≡◌, Some, List, [], ◌∷◌, map}
use Rattle.ess_semantics.specs.Names.{Names}
use Rattle.ess_semantics.specs.Tables as pure
use Rattle.ess_semantics.specs.ModelTrees.{Model, all_decls}
use Rattle.ess_semantics.specs.ModelMeaning.{model_domain}
use Rattle.ess_grammar.specs.Models.{Scope}
use Rattle.eprime_tree.specs.declared.models.PDecl.{PDecl}
use Rattle.eprime_tree.specs.declared.expressions.PDom.{PDom}
use Rattle.eprime_tree.specs.Views.{pure_dom}
use Rattle.eprime_eval_kinds.specs.Shapes.{shape_of}
use Rattle.eprime_eval.specs.declared.under.Under.{Under}
use Rattle.eprime_eval.specs.declared.members.Closed.{Closed}
use Rattle.eprime_eval.specs.ClosedDomains.{pure_closed}
use Rattle.eprime_eval.specs.UnderTables.{IsUnder}
use Rattle.eprime_verdicts.specs.declared.domains.ClosedDecl.{ClosedDecl}

-- It holds of each model with these declarations, these tables and each scope.
abbrev pub InModels : Under → (Model → Names pure.Table → Scope → Type 0) → Type 0
InModels u P = (E : Model) (q : Names pure.Table) (s : Scope) → IsUnder u (map shape_of (all_decls E)) q → P E q s

-- Two lists have as many items, and each two in one place are related.
abbrev pub Beside : {A B : Type 0} → (A → B → Type 0) → List A → List B → Type 0
Beside P [] [] = Unit {0}
Beside P (x ∷ xs) (y ∷ ys) = P x y × Beside P xs ys
Beside P _ _ = ⊥

-- The domain denotes this one.
abbrev pub Denotes : Under → PDom → Closed → Type 0
Denotes u d r = InModels u (λ E q s. model_domain (all_decls E) q (pure_dom s d) ≡ Some (pure_closed r))

-- The domains denote these.
abbrev pub AreDenoted : Under → List PDom → List Closed → Type 0
AreDenoted u ds rs = Beside (Denotes u) ds rs

-- A declaration's domains denote these.
pub record IsClosed (u : Under) (d : PDecl) (r : ClosedDecl) : Type 0 where
  pub name : r.name ≡ d.name
  pub axes : AreDenoted u d.axes r.axes
  pub cell : Denotes u d.cell r.cell

-- The same of declarations.
abbrev pub AreClosed : Under → List PDecl → List ClosedDecl → Type 0
AreClosed u ds rs = Beside (IsClosed u) ds rs
