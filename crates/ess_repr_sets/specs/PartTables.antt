-- What a layer asks of the tables of a member's parts.
use Rattle.std.specs.Prelude.{◌≡◌, true, List, [], ◌∷◌, length, Option, Some, None}
use Rattle.std.specs.List.{list_all}
use Rattle.ess_semantics.specs.declared.words.ReprKind.{ReprKind}
use Rattle.ess_semantics.specs.Values.{Value}
use Rattle.ess_semantics.specs.Trees.{Repr, Reprs, no_reprs, more_reprs}
use Rattle.ess_semantics.specs.Domains.{Domain, sets, msets}
use Rattle.ess_semantics.specs.Tables.{Tables}
use Rattle.ess_semantics.specs.Cells.{Axes}
use Rattle.ess_semantics.specs.Layers.{Layer}
use Rattle.ess_semantics.specs.Representations.{layer}
use Rattle.ess_semantics.specs.Declarations.{axes_of}
use Rattle.ess_semantics.specs.OneLayer.{inner_values}
use Rattle.ess_semantics.specs.Tidy.{over_axes}

-- The tables of a member's parts, where r over e is the layer's only child: a list for each inner value, over the axes of the
-- child's tables.
pub record PartTables (r : Repr) (e : Domain) (l : Layer) (v : Value) (ass : List Axes) (tss : List Tables) : Type 0 where
  pub axes : axes_of r e ≡ ass
  pub over : list_all (over_axes [] ass) tss ≡ true
  pub count : length tss ≡ length (inner_values l v)

-- The same where there is one child. Nothing is asked where there is none.
abbrev pub ChildTables : Reprs → List Domain → Layer → Value → List Axes → List Tables → Type 0
ChildTables (more_reprs r no_reprs) (e ∷ []) l v ass tss = PartTables r e l v ass tss
ChildTables _ _ l v ass tss = Unit {0}

-- The tables of a member's parts, of the layer of a kind over a domain.
abbrev pub PartsFit : ReprKind → Reprs → Domain → Value → List Axes → List Tables → Type 0
PartsFit k rs d v ass tss = elim (layer k d) as (λ o. Type 0) [ None ↦ Unit {0} | Some l ↦ ChildTables rs l.children l v ass tss ]

-- The answer over a domain of sets or multisets; nothing over any other one.
abbrev pub over_collections : {A : Type 0} → Domain → Option A → Option A
over_collections (sets ks d) o = o
over_collections (msets ks d) o = o
over_collections d o = None
