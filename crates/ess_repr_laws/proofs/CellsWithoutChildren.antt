-- A layer without children: from what its own tables are.
use Rattle.std.proofs.Common.{◌≡◌, refl, sym, ap, ◌∙◌, ◌+◌, Bool, true, false, ◌&&◌, ◌||◌, List, [], ◌++◌, map, length, Option, Some, None, option_map, subst, append-nil, arith}
use Rattle.ess_semantics.specs.declared.words.ReprKind.{ReprKind}
use Rattle.ess_semantics.specs.Lists.{and_then, is_some_and}
use Rattle.ess_semantics.specs.Values.{Value}
use Rattle.ess_semantics.specs.Trees.{repr, no_reprs}
use Rattle.ess_semantics.specs.Domains.{Domain}
use Rattle.ess_semantics.specs.Tables.{Tables}
use Rattle.ess_semantics.specs.Cells.{Cells, cells_of}
use Rattle.ess_semantics.specs.Layers.{OwnTable, Layer, everywhere, Slot, no_children}
use Rattle.ess_semantics.specs.Representations.{layer, width, own_width, own_part, child_part, value_of_cells}
use Rattle.ess_semantics.specs.Declarations.{axes_of, declared_own, declarations_of_children, leaves_out}
use Rattle.ess_semantics.specs.Canonical.{canonical_layer, canonical_cells, canonical_children}
use Rattle.ess_semantics.specs.CanonicalTest.{own_cells_fit, canonical}
use Rattle.ess_semantics.proofs.Tests.{and-both}
use Rattle.ess_repr_laws.proofs.RowsOfCells.{own_axes, axes_in, axes-of-layer}
use Rattle.ess_repr_laws.proofs.CanonicalParts.{asked_of, value_of_layer}
use Rattle.ess_repr_laws.proofs.ExactCells.{AllExact, exact-length, exact-append}
use Rattle.ess_repr_laws.proofs.CellsOfMembers.{HasCells, take-front, drop-front, map-long}

module _ (k : ReprKind) (d : Domain) (own : List OwnTable) (sorted distinct : Bool) (ot : Value → List (Option Slot) → Tables)
    (b : Cells → List (List Value) → Option Value) (ic : Cells → List (List Value) → Bool) (td : Cells → Bool) where
  -- The layer.
  abbrev pub no_child : Layer
  no_child = record {
    own = own;
    children = [];
    axes = [];
    in_use = everywhere;
    is_sorted = false;
    is_distinct = false;
    contents = no_children;
    own_tables = ot;
    built = b;
    is_canonical = ic;
    is_tidy = td;
  }

  -- What the own tables are.
  pub record Alone (v : Value) : Type 0 where
    pub exact : AllExact (own_axes own) (cells_of (ot v []))
    pub fit : own_cells_fit own (cells_of (ot v [])) ≡ true
    pub built : b (cells_of (ot v [])) [] ≡ Some v
    pub asked : ic (cells_of (ot v [])) [] ≡ true

  module _ (at : layer k d ≡ Some no_child) (ow : length own ≡ own_width k) where
    axes : axes_of (repr k no_reprs) d ≡ own_axes own ++ []
    axes =
        ap (λ o. axes_in (elim o [ None ↦ [] | Some l ↦ map (declared_own false) l.own ++ declarations_of_children (false || leaves_out l.in_use) no_reprs l.children l.axes ])) at
        ∙ axes-of-layer no_child no_reprs

    -- It has as many lists of axes as tables.
    pub alone-wide : length (axes_of (repr k no_reprs) d) ≡ width (repr k no_reprs)
    alone-wide = ap length (axes ∙ append-nil (own_axes own)) ∙ map-long (λ (t : OwnTable). t.axes) own ∙ ow ∙ (let e : own_width k ≡ own_width k + 0 = omega arith in e)

    -- A member has canonical cells where the layer's own tables are as asked.
    pub alone-cells : (v : Value) → Alone v → HasCells (repr k no_reprs) d v
    alone-cells v h = record { cells = whole; there = there; exact = exact; passes = passes; stands = stands; inner = tt }
      where
        mine : Cells
        mine = cells_of (ot v [])

        whole : Cells
        whole = mine ++ []

        there : canonical_cells (repr k no_reprs) d v ≡ Some whole
        there = ap (λ o. and_then o (λ l. option_map (canonical_layer l v) (canonical_children no_reprs l.children (l.contents v)))) at

        exact : AllExact (axes_of (repr k no_reprs) d) whole
        exact = subst (λ l. AllExact l whole) (sym axes) (exact-append (own_axes own) [] mine [] h.exact tt)

        mine-long : length mine ≡ own_width k
        mine-long = exact-length (own_axes own) mine h.exact ∙ map-long (λ (t : OwnTable). t.axes) own ∙ ow

        own-is : own_part k whole ≡ mine
        own-is = take-front (own_width k) mine [] mine-long

        child-is : child_part k whole ≡ []
        child-is = drop-front (own_width k) mine [] mine-long

        stands : value_of_cells (repr k no_reprs) d whole ≡ Some v
        stands =
            ap (λ o. and_then o (λ l. value_of_layer l no_reprs (own_part k whole) (child_part k whole))) at
            ∙ ap (λ c. value_of_layer no_child no_reprs c (child_part k whole)) own-is ∙ ap (value_of_layer no_child no_reprs mine) child-is ∙ h.built

        asked : asked_of no_child no_reprs mine [] ≡ true
        asked = and-both ((own_cells_fit own mine && true) && true) (ic mine []) (and-both (own_cells_fit own mine && true) true (and-both (own_cells_fit own mine) true h.fit refl) refl) h.asked

        passes : canonical (repr k no_reprs) d whole ≡ true
        passes =
            ap (λ o. is_some_and o (λ l. asked_of l no_reprs (own_part k whole) (child_part k whole))) at
            ∙ ap (λ c. asked_of no_child no_reprs c (child_part k whole)) own-is ∙ ap (asked_of no_child no_reprs mine) child-is ∙ asked
