-- What is asked of the tables of the parts of a layer that are handed to it.
use Rattle.std.specs.Prelude.{◌≡◌, ℕ, true, List, [], ◌∷◌, length, None, Some}
use Rattle.std.specs.List.{list_all}
use Rattle.ess_semantics.specs.declared.words.ReprKind.{ReprKind}
use Rattle.ess_semantics.specs.Values.{Value}
use Rattle.ess_semantics.specs.Trees.{Repr, Reprs, no_reprs, more_reprs}
use Rattle.ess_semantics.specs.Domains.{Domain}
use Rattle.ess_semantics.specs.Tables.{Tables}
use Rattle.ess_semantics.specs.Cells.{Axes}
use Rattle.ess_semantics.specs.Representations.{layer}
use Rattle.ess_semantics.specs.Declarations.{axes_of}
use Rattle.ess_semantics.specs.OneLayer.{inner_values}
use Rattle.ess_semantics.specs.Tidy.{over_axes}

-- The tables of n parts, which the child r keeps over e: the axes are those of its tables, and those of each part are over them.
pub record PartsOver (r : Repr) (e : Domain) (n : ℕ) (ass : List Axes) (tss : List Tables) : Type 0 where
  pub axes : axes_of r e ≡ ass
  pub over : list_all (over_axes [] ass) tss ≡ true
  pub count : length tss ≡ n

-- The same where r is an only child.
abbrev pub OnlyOver : Repr → List Domain → ℕ → List Axes → List Tables → Type 0
OnlyOver r (e ∷ []) n ass tss = PartsOver r e n ass tss
OnlyOver r es n ass tss = Unit {0}

-- The same of the parts of a value. Without children, or with several, nothing is asked.
abbrev pub TablesReady : ReprKind → Reprs → Domain → Value → List Axes → List Tables → Type 0
TablesReady k (more_reprs r no_reprs) d v ass tss =
    elim (layer k d) as (λ o. Type 0) [ None ↦ Unit {0} | Some l ↦ OnlyOver r l.children (length (inner_values l v)) ass tss ]
TablesReady k rs d v ass tss = Unit {0}
