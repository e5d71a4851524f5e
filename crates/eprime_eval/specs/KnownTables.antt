-- Tables that are found by the numbers of their declarations.
use Rattle.std.specs.Prelude.{◌≡◌, ℕ, List, map, slice_get, Option, Some, option_map}
use Rattle.ess_semantics.specs.Lists.{and_then}
use Rattle.ess_semantics.specs.Values.{Text}
use Rattle.ess_semantics.specs.Names.{Names, look}
use Rattle.ess_semantics.specs.Tables as pure
use Rattle.eprime_eval_kinds.specs.KindedViews.{name_at}
use Rattle.eprime_eval_scalars.specs.Grids.{pure_grid}
use Rattle.eprime_eval.specs.declared.known.Known.{Known}
use Rattle.eprime_eval.specs.declared.known.NamedGrid.{NamedGrid}

-- A table with its name.
abbrev pub named_table : NamedGrid → Text × pure.Table
named_table t = (t.name, pure_grid t.grid)

-- The tables by name.
abbrev pub cells_of : Known → Names pure.Table
cells_of k = map named_table k.tables

-- The table at a place, where there is one.
abbrev pub table_at : List NamedGrid → Option ℕ → Option pure.Table
table_at ts o = and_then o (λ i. option_map (λ t. pure_grid t.grid) (slice_get ts i))

-- Each declaration has the table that its name has.
pub record IsKnown (k : Known) : Type 0 where
  pub found : (n : ℕ) (o : Option ℕ) → slice_get k.places n ≡ Some o → table_at k.tables o ≡ look (cells_of k) (name_at k.names n)
