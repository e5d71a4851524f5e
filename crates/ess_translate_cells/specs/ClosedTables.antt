-- Declared tables of a model whose domains have their meaning, beside those of a representation.
use Rattle.std.specs.Prelude.{◌≡◌, ◌++◌, Bool, true, false, ◌&&◌, List, [], ◌∷◌, ℤ, Option, Some, None}
use denote.Bor.{Bor}
use Rattle.ess_semantics.specs.Domains.{Domain}
use Rattle.ess_semantics.specs.Declarations.{Declaration}
use Rattle.ess_semantics.specs.DeclaredTables.{SameMembers}
use Rattle.eprime_tree.specs.declared.models.PDecl.{PDecl}
use Rattle.eprime_eval.specs.declared.under.Under.{Under}
use Rattle.eprime_eval.specs.ClosedDomains.{pure_closed as pure_cells}
use Rattle.eprime_verdicts.specs.Denoting.{Beside, Denotes, AreDenoted}
use Rattle.eprime_verdicts.specs.ClosedDecls.{are_over}
use Rattle.ess_translate_cells.specs.declared.closing.ClosedTable.{ClosedTable}

-- The domains of a declaration denote these.
pub record IsClosedTable (u : Under) (d : PDecl) (r : ClosedTable) : Type 0 where
  pub axes : AreDenoted u d.axes r.axes
  pub cell : Denotes u d.cell r.cell

-- The same of declarations.
abbrev pub AreClosedTables : Under → List PDecl → List ClosedTable → Type 0
AreClosedTables u ds rs = Beside (IsClosedTable u) ds rs

-- A truth value that says whether something holds.
pub record Decides (b : Bool) (P : Type 0) : Type 0 where
  pub yes : b ≡ true → P
  pub no : b ≡ false → P → ⊥

-- The axes have the members of a table's axes, and the cells the same numbers.
pub record SameTable (r : ClosedTable) (d : Declaration) : Type 0 where
  pub axes : are_over r.axes d.axes ≡ true
  pub cell : SameMembers (Some (pure_cells r.cell)) d.cell

-- The same of tables, in order.
abbrev pub AreTables : List ClosedTable → List Declaration → Type 0
AreTables [] [] = Unit {0}
AreTables (r ∷ rs) (d ∷ ds) = SameTable r d × AreTables rs ds
AreTables _ ds = ⊥

-- The first tables are these, and more are left behind them: whatever comes then is what is left.
pub record IsBehind (ds : List Declaration) (rest more : List ClosedTable) : Type 0 where
  pub on : (xs : List Declaration) → AreTables more xs → AreTables rest (ds ++ xs)
  pub back : (xs : List Declaration) → AreTables rest (ds ++ xs) → AreTables more xs

-- What is left behind these tables, or that they don't come first.
abbrev pub Behind : List Declaration → List ClosedTable → Option (Bor (List ClosedTable)) → Type 0
Behind ds rest None = (xs : List Declaration) → AreTables rest (ds ++ xs) → ⊥
Behind ds rest (Some more) = IsBehind ds rest more.now
