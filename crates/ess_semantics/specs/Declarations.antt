-- The tables that a representation declares: their axes and the domain of their cells. A cell that can be out of use may
-- also hold 0.
use Rattle.std.specs.Prelude.{ℕ, ◌+◌, Bool, true, false, ◌||◌, if◌then◌else◌, List, [], ◌∷◌, ◌++◌, map, length, pos, Some, None, nat_le}
use Rattle.ess_semantics.specs.Trees.{Repr, Reprs, repr, more_reprs}
use Rattle.ess_semantics.specs.Domains.{Domain, integers}
use Rattle.ess_semantics.specs.Tables.{volume}
use Rattle.ess_semantics.specs.Cells.{Axes}
use Rattle.ess_semantics.specs.Layers.{Use, everywhere, all_slots, OwnTable}
use Rattle.ess_semantics.specs.Representations.{layer}

-- The members of a table's axes, and the domain of its cells.
pub record Declaration : Type 0 where
  pub axes : Axes
  pub cell : Domain

-- With 0 as one more member: `int(RANGES)` becomes `int(0, RANGES)`. All else stays, `int` without ranges too.
abbrev pub widened : Domain → Domain
widened (integers (s ∷ ss)) = integers (record { low = Some (pos 0); high = Some (pos 0) } ∷ s ∷ ss)
widened d = d

-- A layer's own table, widened where its cells can be out of use.
abbrev pub declared_own : Bool → OwnTable → Declaration
declared_own out t = record { axes = t.axes; cell = if (if out then t.widens else false) then widened t.cell else t.cell }

-- A child's tables with further axes in front.
abbrev pub under : Axes → List Declaration → List Declaration
under as' ds = map (λ d. record { axes = as' ++ d.axes; cell = d.cell }) ds

-- Whether the children's cells can be out of use.
abbrev pub leaves_out : Use → Bool
leaves_out everywhere = false
leaves_out (all_slots n) = false
leaves_out _ = true

abbrev mutual
  -- The tables of a representation, below a layer that can be out of use or not.
  pub declarations_below : Bool → Repr → Domain → List Declaration
  declarations_below out (repr k rs) d =
      elim (layer k d) [
        | None ↦ []
        | Some l ↦ map (declared_own out) l.own ++ declarations_of_children (out || leaves_out l.in_use) rs l.children l.axes
      ]

  -- The tables of the children under further axes.
  pub declarations_of_children : Bool → Reprs → List Domain → Axes → List Declaration
  declarations_of_children out (more_reprs r rs) (d ∷ ds) as' =
      under as' (declarations_below out r d) ++ declarations_of_children out rs ds as'
  declarations_of_children out _ _ as' = []

-- The tables of a variable's representation.
abbrev pub declarations : Repr → Domain → List Declaration
declarations r d = declarations_below false r d

-- The axes of each table.
abbrev pub axes_of : Repr → Domain → List Axes
axes_of r d = map (λ t. t.axes) (declarations r d)

-- ---- numbers of cells

-- How many members the longest axis has.
abbrev pub longest : Axes → ℕ
longest [] = 0
longest (a ∷ as') = if nat_le (longest as') (length a) then length a else longest as'

-- A table counts with its cells, or with its longest axis where that is more.
abbrev pub cells_of_table : Axes → ℕ
cells_of_table as' = if nat_le (longest as') (volume as') then volume as' else longest as'

-- The cells of all tables.
abbrev pub cell_sum : List Declaration → ℕ
cell_sum [] = 0
cell_sum (d ∷ ds) = cells_of_table d.axes + cell_sum ds

-- The number of cells of a representation.
abbrev pub cell_count : Repr → Domain → ℕ
cell_count r d = cell_sum (declarations r d)
