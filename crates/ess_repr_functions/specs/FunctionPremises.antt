-- What is asked of the tables of the parts of a layer with one child.
use Rattle.std.specs.Prelude.{◌≡◌, true, List, [], ◌∷◌, None, Some}
use Rattle.std.specs.List.{list_all}
use Rattle.ess_semantics.specs.declared.words.ReprKind.{ReprKind}
use Rattle.ess_semantics.specs.Trees.{Repr, Reprs, no_reprs, more_reprs}
use Rattle.ess_semantics.specs.Domains.{Domain}
use Rattle.ess_semantics.specs.Tables.{Tables}
use Rattle.ess_semantics.specs.Cells.{Axes}
use Rattle.ess_semantics.specs.Representations.{layer}
use Rattle.ess_semantics.specs.Declarations.{axes_of}
use Rattle.ess_semantics.specs.Tidy.{over_axes}

-- The domains of a layer's children.
abbrev pub children_of : ReprKind → Domain → List Domain
children_of k d = elim (layer k d) [ None ↦ [] | Some l ↦ l.children ]

-- The tables of the only child r over e are over the axes ass, and so are those of each part.
pub record PartsOver (r : Repr) (e : Domain) (ass : List Axes) (tss : List Tables) : Type 0 where
  pub axes : axes_of r e ≡ ass
  pub over : list_all (over_axes [] ass) tss ≡ true

-- The same of a layer's children, where there is one child.
abbrev pub ChildOver : Reprs → List Domain → List Axes → List Tables → Type 0
ChildOver (more_reprs r no_reprs) (e ∷ []) ass tss = PartsOver r e ass tss
ChildOver rs es ass tss = Unit {0}
