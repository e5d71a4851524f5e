-- The number of cells of a representation, counted on the way down: each layer is given the volume of the axes that stand
-- before its own, and how many members the longest of these has.
use Rattle.std.specs.Prelude.{ℕ, ◌+◌, ◌*◌, List, [], ◌∷◌, Some, None}
use Rattle.ess_semantics.specs.Trees.{Repr, Reprs, repr, more_reprs}
use Rattle.ess_semantics.specs.Domains.{Domain}
use Rattle.ess_semantics.specs.Tables.{volume}
use Rattle.ess_semantics.specs.Layers.{OwnTable}
use Rattle.ess_semantics.specs.Representations.{layer}
use Rattle.ess_semantics.specs.Declarations.{longest}
use Rattle.ess_domains_cells.specs.Kept.{greater}

-- A layer's own tables, behind axes of volume v of which the longest has l members.
abbrev pub own_counted : ℕ → ℕ → List OwnTable → ℕ
own_counted v l [] = 0
own_counted v l (t ∷ ts) = greater (v * volume t.axes) (greater l (longest t.axes)) + own_counted v l ts

abbrev mutual
  -- The cells of a representation behind such axes.
  pub counted : Repr → Domain → ℕ → ℕ → ℕ
  counted (repr k rs) d v l =
      elim (layer k d) [
        | None ↦ 0
        | Some y ↦ own_counted v l y.own + counted_children rs y.children (v * volume y.axes) (greater l (longest y.axes))
      ]

  -- The same of children.
  pub counted_children : Reprs → List Domain → ℕ → ℕ → ℕ
  counted_children (more_reprs r rs) (d ∷ ds) v l = counted r d v l + counted_children rs ds v l
  counted_children _ _ v l = 0
