-- Laws of declarations, each stated at a function that does nothing.
use Rattle.std.specs.Prelude.{◌≡◌, List, map, Option, ℤ}
use Rattle.ess_semantics.specs.Trees.{Repr, Dom}
use Rattle.ess_semantics.specs.Domains.{Span, Domain}
use Rattle.ess_semantics.specs.Tables.{is_cell}
use Rattle.ess_semantics.specs.Declarations.{Declaration, declarations, cell_count}
use Rattle.ess_semantics.specs.DeclaredTables.{TableDecl, DeclaredAs}
use Rattle.ess_semantics.specs.Positions.{domain_with_positions}
use Rattle.ess_semantics.specs.Trees.{Stm}
use Rattle.ess_semantics.specs.Assignments.{Assignment, nothing_given, env_of}
use Rattle.ess_semantics.specs.Plans.{Side, Options, plans, declared_under}
use Rattle.ess_semantics.specs.Satisfaction.{AreRuns}
use Rattle.ess_translate_members_laws.specs.CellForms.{plain}
use Rattle.ess_translate_members_laws.specs.PlanDomains.{plan_closed, tables_of_side}

-- With positions in place of named types a representation of any domain declares tables over the same axes, with the same numbers as
-- cells.
abbrev pub PositionsKeepTables : Type 0
PositionsKeepTables = (r : Repr) (e : Domain) → map plain (declarations r (domain_with_positions e)) ≡ map plain (declarations r e)

-- So it has as many cells.
abbrev pub PositionsKeepCounts : Type 0
PositionsKeepCounts = (r : Repr) (e : Domain) → cell_count r (domain_with_positions e) ≡ cell_count r e

-- Two lists of maximal runs are one exactly where the domains have the same cells.
pub record RunsAreOne : Type 0 where
  pub one : (rs ss : List Span) (d e : Domain) → AreRuns rs d → AreRuns ss e → ((n : ℤ) → is_cell d n ≡ is_cell e n) → rs ≡ ss
  pub same : (rs : List Span) (d e : Domain) → AreRuns rs d → AreRuns rs e → (n : ℤ) → is_cell d n ≡ is_cell e n

-- The tables of a header's side under a parameter are, with cells as numbers, those of its plans over their domains with types; and
-- what is declared with cells as numbers is declared.
pub record SidesByPlans : Type 0 where
  pub tables : (f : Side) (S : List Stm) (o : Options) (p : Assignment) →
      map plain (declared_under f S o p) ≡ tables_of_side f (plans S o) (map (plan_closed (env_of S p nothing_given)) (plans S o))
  pub declared : (g : Dom → Option Domain) (ts : List TableDecl) (ds : List Declaration) → DeclaredAs g ts (map plain ds) →
      DeclaredAs g ts ds
  pub numbers : (g : Dom → Option Domain) (ts : List TableDecl) (ds : List Declaration) → DeclaredAs g ts ds →
      DeclaredAs g ts (map plain ds)
