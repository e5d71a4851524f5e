-- The value that tables stand for, made of the values of the slots in use: kinds with at most one child.
use Rattle.std.proofs.Common.{◌≡◌, refl, sym, ap, ◌∙◌, subst, ℕ, suc, true, false, ◌&&◌, List, [], ◌∷◌, ◌++◌, map, length, take, drop, Option, Some, None, option_map, append-nil}
use Rattle.std.specs.List.{list_all}
use Rattle.ess_semantics.specs.declared.words.ReprKind.{ReprKind}
use Rattle.ess_semantics.specs.Lists.{and_then, each_of}
use Rattle.ess_semantics.specs.Trees.{Repr, repr, no_reprs, more_reprs}
use Rattle.ess_semantics.specs.Domains.{Domain, booleans, integers, named, sets, msets, relations, partitions}
use Rattle.ess_semantics.specs.Tables.{Tables, volume, same_axes, is_filled}
use Rattle.ess_semantics.specs.Cells.{Axes, cells_of}
use Rattle.ess_semantics.specs.Layers.{Layer}
use Rattle.ess_semantics.specs.Representations.{layer, own_width, own_part, places_in_use, value_of_cells, value_of_tables}
use Rattle.ess_semantics.specs.Declarations.{axes_of}
use Rattle.ess_semantics.specs.OneLayer.{inner_tables, values_for, layer_value}
use Rattle.ess_semantics.specs.Tidy.{over_axes}
use Rattle.ess_semantics.proofs.Tests.{and-left, and-right, and-both}
use Rattle.ess_repr_laws.specs.CanonicalTables.{is_compound}
use Rattle.ess_repr_laws.specs.Rooms.{Covered}
use Rattle.ess_repr_laws.proofs.Behind.{behind-none}
use Rattle.ess_repr_laws.proofs.RowsOfCells.{own_axes, axes_of_children}
use Rattle.ess_repr_laws.proofs.CellDomains.{axes-wide}
use Rattle.ess_repr_laws.proofs.LayersUp.{layer-up}
use Rattle.ess_repr_rows_laws.specs.Cutting.{parts_at, used_numbers}
use Rattle.ess_repr_rows_laws.proofs.LayerDownRows.{axes-at}
use Rattle.ess_repr_rows_laws.proofs.LayerUpRows.{inner-with-child}
use Rattle.ess_repr_layers_laws.specs.LayerParts.{children_of, front_axes, use_of}
use Rattle.ess_repr_layers_laws.proofs.OneChild.{OneChild, one-child}
use Rattle.ess_repr_layers_laws.proofs.SlotTables.{used-below, slots-over}

-- ---- tables side by side

-- Tables over the axes of two lists.
pub over-both : (xs ys : List Axes) (ts : Tables) → over_axes [] (xs ++ ys) ts ≡ true →
    (over_axes [] xs (take (length xs) ts) ≡ true) × (over_axes [] ys (drop (length xs) ts) ≡ true)
over-both [] ys ts h = (refl, h)
over-both (x ∷ xs) ys [] h = cc
over-both (x ∷ xs) ys (t ∷ ts) h =
    let r = over-both xs ys ts (and-right (is_filled t && same_axes t.axes x) (over_axes [] (xs ++ ys) ts) h) in
    (and-both (is_filled t && same_axes t.axes x) (over_axes [] xs (take (length xs) ts)) (and-left (is_filled t && same_axes t.axes x) (over_axes [] (xs ++ ys) ts) h) r.0, r.1)

-- They are as many as their axes.
pub over-long : (ass : List Axes) (ts : Tables) → over_axes [] ass ts ≡ true → length ts ≡ length ass
over-long [] [] h = refl
over-long [] (t ∷ ts) h = cc
over-long (x ∷ ass) [] h = cc
over-long (x ∷ ass) (t ∷ ts) h = ap suc (over-long ass ts (and-right (is_filled t && same_axes t.axes x) (over_axes [] ass ts) h))

-- ---- one child

module _ (k : ReprKind) (r : Repr) (d : Domain) (ts : Tables) (simple : is_compound k ≡ false) (cover : Covered (repr k (more_reprs r no_reprs)) d)
    (over : over_axes [] (axes_of (repr k (more_reprs r no_reprs)) d) ts ≡ true) where
  abbrev pub x : OneChild k r d
  x = one-child k r d simple cover

  axes : axes_of (repr k (more_reprs r no_reprs)) d ≡ own_axes x.the.own ++ map (λ as'. x.the.axes ++ as') (axes_of r x.child)
  axes =
      axes-at k (more_reprs r no_reprs) d x.the x.at ∙ ap (λ es. own_axes x.the.own ++ axes_of_children (more_reprs r no_reprs) es x.the.axes) x.only
      ∙ ap (λ ass. own_axes x.the.own ++ ass) (append-nil (map (λ as'. x.the.axes ++ as') (axes_of r x.child)))

  parts : (over_axes [] (own_axes x.the.own) (take (own_width k) ts) ≡ true) × (over_axes [] (map (λ as'. x.the.axes ++ as') (axes_of r x.child)) (drop (own_width k) ts) ≡ true)
  parts =
      let p = over-both (own_axes x.the.own) (map (λ as'. x.the.axes ++ as') (axes_of r x.child)) ts (subst (λ ass. over_axes [] ass ts ≡ true) axes over) in (
        subst (λ n. over_axes [] (own_axes x.the.own) (take n ts) ≡ true) x.wide p.0,
        subst (λ n. over_axes [] (map (λ as'. x.the.axes ++ as') (axes_of r x.child)) (drop n ts) ≡ true) x.wide p.1,
      )

  rows : inner_tables k d ts ≡ option_map (map (parts_at (length x.the.axes) (drop (own_width k) ts))) (used_numbers x.the.in_use (volume x.the.axes) (take (own_width k) ts))
  rows = inner-with-child k d x.child x.the (axes_of r x.child) ts x.at x.only x.differ (x.used (take (own_width k) ts) parts.0) parts.1

  front-is : front_axes k d ≡ x.the.axes
  front-is = ap (λ o. elim o [ None ↦ [] | Some l ↦ l.axes ]) x.at

  -- The tables of the slots in use, cut out of the child's tables.
  pub inner-rows : inner_tables k d ts ≡ option_map (map (parts_at (length (front_axes k d)) (drop (own_width k) ts))) (used_numbers (use_of k) (volume (front_axes k d)) (take (own_width k) ts))
  inner-rows =
      rows ∙ ap (option_map (map (parts_at (length x.the.axes) (drop (own_width k) ts)))) (x.same (volume x.the.axes) (take (own_width k) ts))
      ∙ sym (ap (λ bs. option_map (map (parts_at (length bs) (drop (own_width k) ts))) (used_numbers (use_of k) (volume bs) (take (own_width k) ts))) front-is)

  -- The only child.
  pub child-is : children_of k d ≡ x.child ∷ []
  child-is = ap (λ o. elim o [ None ↦ [] | Some l ↦ l.children ]) x.at ∙ x.only

  -- They are over the axes of the child's tables.
  pub inner-over : (tss : List Tables) → inner_tables k d ts ≡ Some tss → list_all (over_axes [] (axes_of r x.child)) tss ≡ true
  inner-over tss e = go (used_numbers x.the.in_use (volume x.the.axes) (take (own_width k) ts)) refl (sym rows ∙ e)
    where
      go : (o : Option (List ℕ)) → used_numbers x.the.in_use (volume x.the.axes) (take (own_width k) ts) ≡ o →
          option_map (map (parts_at (length x.the.axes) (drop (own_width k) ts))) o ≡ Some tss → list_all (over_axes [] (axes_of r x.child)) tss ≡ true
      go None p q = cc
      go (Some ks) p q =
          let w : map (parts_at (length x.the.axes) (drop (own_width k) ts)) ks ≡ tss = cc in
          let b = used-below x.the.in_use x.the.axes (take (own_width k) ts) ks (x.used (take (own_width k) ts) parts.0) p in
          subst (λ l. list_all (over_axes [] (axes_of r x.child)) l ≡ true) w (slots-over x.the.axes (axes_of r x.child) (drop (own_width k) ts) ks b parts.1)

  -- The value is the layer's, made of those of the slots in use.
  pub child-up : value_of_tables (repr k (more_reprs r no_reprs)) d ts [] ≡
      and_then (inner_tables k d ts) (λ tss. and_then (each_of tss (λ t. value_of_tables r x.child t [])) (layer_value k d ts))
  child-up =
      let l = over-long (map (λ as'. x.the.axes ++ as') (axes_of r x.child)) (drop (own_width k) ts) parts.1 in
      let m = long (axes_of r x.child) in
      let w = axes-wide r x.child x.covered in
      layer-up k r d x.child x.the ts x.at x.only (l ∙ m ∙ w)
    where
      long : (ass : List Axes) → length (map (λ as'. x.the.axes ++ as') ass) ≡ length ass
      long [] = refl
      long (a ∷ ass) = ap suc (long ass)

-- ---- no child

-- Kinds that aren't of components have no children where their representation has none.
pub childless : (k : ReprKind) (d : Domain) (l : Layer) → is_compound k ≡ false → Covered (repr k no_reprs) d → layer k d ≡ Some l → l.children ≡ []
childless k d l n c at = subst (λ o. Childless o) at (each k d n c)
  where
    Childless : Option Layer → Type 0
    Childless o = elim o as (λ o. Type 0) [ None ↦ Unit {0} | Some l ↦ l.children ≡ [] ]

    each : (k : ReprKind) (d : Domain) → is_compound k ≡ false → Covered (repr k no_reprs) d → Childless (layer k d)
    each ReprKind.Tuple d n c = cc
    each ReprKind.Rec d n c = cc
    each ReprKind.Atom booleans n c = refl
    each ReprKind.Atom (integers ss) n c = refl
    each ReprKind.Atom (named t m) n c = refl
    each ReprKind.Occurrence (sets ks d) n c = refl
    each ReprKind.ExplicitVarSizeWithDummy (sets ks d) n c = refl
    each ReprKind.MSetOccurrence (msets ks d) n c = refl
    each ReprKind.RelationAsMatrix (relations ks ds) n c = refl
    each ReprKind.PartitionOccurrence (partitions ks d) n c = refl
    each _ d n c = absurd c

-- The value is the layer's alone.
pub alone-up : (k : ReprKind) (d : Domain) (ts : Tables) → is_compound k ≡ false → Covered (repr k no_reprs) d →
    value_of_tables (repr k no_reprs) d ts [] ≡ layer_value k d ts []
alone-up k d ts n c = ap (value_of_cells (repr k no_reprs) d) (behind-none (cells_of ts)) ∙ go (layer k d) (λ l at. childless k d l n c at) refl
  where
    go : (o : Option Layer) → ((l : Layer) → layer k d ≡ Some l → l.children ≡ []) → layer k d ≡ o →
        and_then o (λ l. and_then (places_in_use l (own_part k (cells_of ts))) (λ js. l.built (own_part k (cells_of ts)) [])) ≡
        and_then o (λ l. and_then (places_in_use l (own_part k (cells_of ts))) (λ js. l.built (own_part k (cells_of ts)) (values_for l.children [])))
    go None h e = refl
    go (Some l) h e = ap (λ es. and_then (places_in_use l (own_part k (cells_of ts))) (λ js. l.built (own_part k (cells_of ts)) (values_for es []))) (sym (h l e))
