-- The canonical tables of a member, made of those of its inner values: kinds with at most one child.
use Rattle.std.proofs.Common.{◌≡◌, refl, sym, ap, ◌∙◌, subst, true, false, List, [], ◌∷◌, map, length, suc, Option, Some, None, option_map, append-nil}
use Rattle.std.specs.List.{list_all}
use Rattle.ess_semantics.specs.declared.words.ReprKind.{ReprKind}
use Rattle.ess_semantics.specs.Lists.{and_then, each_of, append_all}
use Rattle.ess_semantics.specs.Values.{Value}
use Rattle.ess_semantics.specs.Trees.{Repr, repr, no_reprs, more_reprs}
use Rattle.ess_semantics.specs.Domains.{Domain}
use Rattle.ess_semantics.specs.Membership.{member}
use Rattle.ess_semantics.specs.Tables.{Tables}
use Rattle.ess_semantics.specs.Cells.{tables_over}
use Rattle.ess_semantics.specs.Layers.{Layer}
use Rattle.ess_semantics.specs.Representations.{layer}
use Rattle.ess_semantics.specs.Declarations.{axes_of}
use Rattle.ess_semantics.specs.Canonical.{somes, canonical_layer, tables_of_value}
use Rattle.ess_semantics.specs.OneLayer.{inner_values, layer_tables}
use Rattle.ess_semantics.specs.Tidy.{over_axes}
use Rattle.ess_semantics.proofs.Tests.{and-left, and-right, and-both}
use Rattle.ess_repr_laws.specs.CanonicalTables.{is_compound}
use Rattle.ess_repr_laws.specs.Rooms.{Roomy}
use Rattle.ess_repr_laws.proofs.CanonicalPlaces.{AllOf}
use Rattle.ess_repr_laws.proofs.CellsOfMembers.{Inside, ChildInside, Unless, HasTables, cells-tables}
use Rattle.ess_repr_laws.proofs.LayersDown.{layer-down}
use Rattle.ess_repr_laws.proofs.MembersHaveTables.{members_have_cells, roomy-covered}
use Rattle.ess_repr_laws.proofs.RoomBelow.{room-below}
use Rattle.ess_repr_layers_laws.specs.LayerParts.{children_of}
use Rattle.ess_repr_layers_laws.proofs.OneChild.{OneChild, one-child}

-- ---- tables of several members

module _ (r : Repr) (e : Domain) (room : Roomy r e) where
  pub has : (v : Value) → member e v ≡ true → HasTables r e v
  has v m = cells-tables r e v (let w = members_have_cells r e room in w.of_member v m)

  -- Members have tables, and these are over the axes.
  pub tables-over : (vs : List Value) (tss : List Tables) → list_all (member e) vs ≡ true → each_of vs (tables_of_value r e) ≡ Some tss → list_all (over_axes [] (axes_of r e)) tss ≡ true
  tables-over [] [] m h = refl
  tables-over [] (ts ∷ tss) m h = cc
  tables-over (v ∷ vs) tss m h =
      go (each_of vs (tables_of_value r e)) (λ uss q. tables-over vs uss (and-right (member e v) (list_all (member e) vs) m) q)
      (ap (λ o. and_then o (λ y. option_map (λ ys. y ∷ ys) (each_of vs (tables_of_value r e)))) (sym x.there) ∙ h)
    where
      x : HasTables r e v
      x = has v (and-left (member e v) (list_all (member e) vs) m)

      go : (o : Option (List Tables)) → ((uss : List Tables) → o ≡ Some uss → list_all (over_axes [] (axes_of r e)) uss ≡ true) →
          option_map (λ ys. x.tables ∷ ys) o ≡ Some tss → list_all (over_axes [] (axes_of r e)) tss ≡ true
      go None ih q = cc
      go (Some uss) ih q =
          let w : x.tables ∷ uss ≡ tss = cc in
          subst (λ l. list_all (over_axes [] (axes_of r e)) l ≡ true) w (and-both (over_axes [] (axes_of r e) x.tables) (list_all (over_axes [] (axes_of r e)) uss) x.over (ih uss refl))

-- As many as the values.
pub each-long : {A B : Type 0} (f : A → Option B) (xs : List A) (ys : List B) → each_of xs f ≡ Some ys → length ys ≡ length xs
each-long f [] [] h = refl
each-long f [] (y ∷ ys) h = cc
each-long {A} {B} f (x ∷ xs) ys h = go (f x) (each_of xs f) (each-long f xs) h
  where
    go : (o : Option B) (q : Option (List B)) → ((zs : List B) → q ≡ Some zs → length zs ≡ length xs) →
        and_then o (λ y. option_map (λ ys. y ∷ ys) q) ≡ Some ys → length ys ≡ suc (length xs)
    go None q ih h = cc
    go (Some y) None ih h = cc
    go (Some y) (Some zs) ih h = let w : y ∷ zs ≡ ys = cc in sym (ap length w) ∙ ap suc (ih zs refl)

-- ---- one child

module _ (k : ReprKind) (r : Repr) (d : Domain) (v : Value) (simple : is_compound k ≡ false) (room : Roomy (repr k (more_reprs r no_reprs)) d) where
  abbrev pub x : OneChild k r d
  x = one-child k r d simple (roomy-covered (repr k (more_reprs r no_reprs)) d room)

  -- The only child.
  pub down-child : children_of k d ≡ x.child ∷ []
  down-child = ap (λ o. elim o [ None ↦ [] | Some l ↦ l.children ]) x.at ∙ x.only

  -- It has room.
  pub down-room : Roomy r x.child
  down-room = room-below k r d x.child x.the simple room x.at x.only

  -- The inner values are those of the layer.
  pub down-values : option_map (λ l. inner_values l v) (layer k d) ≡ Some (inner_values x.the v)
  down-values = ap (option_map (λ l. inner_values l v)) x.at

  members : (vs : List (Option Value)) → AllOf vs (Inside x.child) → list_all (member x.child) (somes vs) ≡ true
  members [] a = refl
  members (None ∷ vs) a = members vs a.1
  members (Some w ∷ vs) a = and-both (member x.child w) (list_all (member x.child) (somes vs)) a.0 (members vs a.1)

  -- They are members of the child's domain.
  pub down-members : member d v ≡ true → list_all (member x.child) (inner_values x.the v) ≡ true
  down-members m =
      let w = members_have_cells (repr k (more_reprs r no_reprs)) d room in
      let y = w.of_member v m in
      let i = subst (λ b. Unless b (elim (layer k d) as (λ o. Type 0) [ None ↦ Unit {0} | Some l ↦ ChildInside l.children (l.contents v) ])) simple y.inner in
      let j = subst (λ o. elim o as (λ o. Type 0) [ None ↦ Unit {0} | Some l ↦ ChildInside l.children (l.contents v) ]) x.at i in
      let c = x.content v in
      let a = subst (λ vss. ChildInside (x.child ∷ []) vss) c.1 (subst (λ es. ChildInside es (x.the.contents v)) x.only j) in
      ap (λ vss. list_all (member x.child) (append_all (map somes vss))) c.1 ∙ ap (list_all (member x.child)) (append-nil (somes c.0)) ∙ members c.0 a

  -- The tables are the layer's, made of those of the inner values.
  pub child-down : (tss : List Tables) → member d v ≡ true → each_of (inner_values x.the v) (tables_of_value r x.child) ≡ Some tss →
      layer_tables (repr k (more_reprs r no_reprs)) d v tss ≡ tables_of_value (repr k (more_reprs r no_reprs)) d v
  child-down tss m h = let c = x.content v in layer-down k r d x.child x.the v c.0 tss simple room down-room m x.at x.only c.1 h

-- ---- no child

-- The tables are the layer's alone.
pub alone-down : (k : ReprKind) (d : Domain) (v : Value) (tss : List Tables) → layer_tables (repr k no_reprs) d v tss ≡ tables_of_value (repr k no_reprs) d v
alone-down k d v tss = go (layer k d)
  where
    go : (o : Option Layer) → option_map (λ l. tables_over (axes_of (repr k no_reprs) d) (canonical_layer l v [])) o ≡
        option_map (tables_over (axes_of (repr k no_reprs) d)) (and_then o (λ l. option_map (canonical_layer l v) (Some [])))
    go None = refl
    go (Some l) = refl
