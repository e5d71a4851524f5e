-- The canonical tables of a member, and what is said of canonical cells.
use Rattle.std.specs.Prelude.{◌≡◌, true, List, [], ◌∷◌, Some, Bool, false}
use Rattle.std.specs.List.{list_all}
use Rattle.ess_semantics.specs.declared.words.ReprKind.{ReprKind}
use Rattle.ess_semantics.specs.Values.{Value}
use Rattle.ess_semantics.specs.Trees.{Repr}
use Rattle.ess_semantics.specs.Domains.{Domain}
use Rattle.ess_semantics.specs.Tables.{Tables, is_cell}
use Rattle.ess_semantics.specs.Cells.{Cells, cells_of, rows}
use Rattle.ess_semantics.specs.Representations.{value_of_cells, value_of_tables}
use Rattle.ess_semantics.specs.Declarations.{Declaration, declarations, axes_of}
use Rattle.ess_semantics.specs.Canonical.{tables_of_value}
use Rattle.ess_semantics.specs.CanonicalTest.{canonical}
use Rattle.ess_semantics.specs.Tidy.{over_axes, tidy_cells}

-- Each table is over its declared axes with items of its declared domain.
abbrev pub TablesFit : List Declaration → Tables → Type 0
TablesFit [] [] = Unit {0}
TablesFit (d ∷ ds) (t ∷ ts) = (t.axes ≡ d.axes) × (list_all (is_cell d.cell) t.items ≡ true) × TablesFit ds ts
TablesFit _ _ = ⊥

-- Canonical cells stand for a value, those that stand for one value have the same rows, and they are tidy.
pub record Right (r : Repr) (d : Domain) : Type 0 where
  pub sound : (c : Cells) → canonical r d c ≡ true → (v : Value) × (value_of_cells r d c ≡ Some v)
  pub unique : (c c' : Cells) → canonical r d c ≡ true → canonical r d c' ≡ true → value_of_cells r d c ≡ value_of_cells r d c' →
      rows (axes_of r d) c ≡ rows (axes_of r d) c'
  pub tidies : (c : Cells) → canonical r d c ≡ true → tidy_cells r d c ≡ true

-- The canonical tables of a member: they are over the declared axes with items in the declared domains, canonical, stand
-- for the member, and are the only ones.
pub record OneForm (r : Repr) (d : Domain) (v : Value) : Type 0 where
  pub tables : Tables
  pub there : tables_of_value r d v ≡ Some tables
  pub over : over_axes [] (axes_of r d) tables ≡ true
  pub fit : TablesFit (declarations r d) tables
  pub passes : canonical r d (cells_of tables) ≡ true
  pub stands : value_of_tables r d tables [] ≡ Some v
  pub only : (ts : Tables) → over_axes [] (axes_of r d) ts ≡ true → canonical r d (cells_of ts) ≡ true →
      value_of_tables r d ts [] ≡ Some v → ts ≡ tables

-- Whether a kind is one of components, each with a child of its own.
abbrev pub is_compound : ReprKind → Bool
is_compound ReprKind.Tuple = true
is_compound ReprKind.Rec = true
is_compound k = false
