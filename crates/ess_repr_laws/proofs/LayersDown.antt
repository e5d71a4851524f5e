-- The canonical tables of a member, made of those of its inner values: one layer with one child.
use Rattle.std.proofs.Common.{◌≡◌, refl, sym, ap, ◌∙◌, subst, true, false, List, [], ◌∷◌, ◌++◌, map, Option, Some, None, option_map, append-nil}
use Rattle.ess_semantics.specs.declared.words.ReprKind.{ReprKind}
use Rattle.ess_semantics.specs.Lists.{and_then, each_of, append_all}
use Rattle.ess_semantics.specs.Values.{Value}
use Rattle.ess_semantics.specs.Trees.{Repr, repr, no_reprs, more_reprs}
use Rattle.ess_semantics.specs.Domains.{Domain}
use Rattle.ess_semantics.specs.Membership.{member}
use Rattle.ess_semantics.specs.Tables.{Tables}
use Rattle.ess_semantics.specs.Cells.{tables_over}
use Rattle.ess_semantics.specs.Layers.{Layer}
use Rattle.ess_semantics.specs.Representations.{layer}
use Rattle.ess_semantics.specs.Declarations.{axes_of}
use Rattle.ess_semantics.specs.Canonical.{somes, canonical_layer, canonical_slots, canonical_cells, canonical_children, tables_of_value}
use Rattle.ess_semantics.specs.OneLayer.{inner_values, with_tables, children_with, layer_tables}
use Rattle.ess_repr_laws.specs.CanonicalTables.{is_compound}
use Rattle.ess_repr_laws.specs.Rooms.{Roomy}
use Rattle.ess_repr_laws.proofs.CanonicalPlaces.{AllOf}
use Rattle.ess_repr_laws.proofs.ExactCells.{exact-tables}
use Rattle.ess_repr_laws.proofs.CellsOfMembers.{Inside, ChildInside, Unless, HasCells, MembersHaveCells}
use Rattle.ess_repr_laws.proofs.MembersHaveTables.{members_have_cells}

-- Where the tables of each value of a list are there, they are the canonical ones.
slots-with : (r : Repr) (e : Domain) → MembersHaveCells r e → (vs : List (Option Value)) (tss : List Tables) → AllOf vs (Inside e) →
    each_of (somes vs) (tables_of_value r e) ≡ Some tss →
    canonical_slots vs (canonical_cells r e) ≡ Some (with_tables vs tss)
slots-with r e c [] tss a h = refl
slots-with r e c (None ∷ vs) tss a h = ap (option_map (λ ss. None ∷ ss)) (slots-with r e c vs tss a.1 h)
slots-with r e c (Some v ∷ vs) tss a h =
    go (each_of (somes vs) (tables_of_value r e)) refl
    (ap (λ o. and_then o (λ y. option_map (λ ys. y ∷ ys) (each_of (somes vs) (tables_of_value r e)))) (sym there) ∙ h)
    (λ uss q. slots-with r e c vs uss a.1 q)
  where
    x : HasCells r e v
    x = c.of_member v a.0

    there : tables_of_value r e v ≡ Some (tables_over (axes_of r e) x.cells)
    there = ap (option_map (tables_over (axes_of r e))) x.there

    go : (o : Option (List Tables)) → each_of (somes vs) (tables_of_value r e) ≡ o →
        option_map (λ ys. tables_over (axes_of r e) x.cells ∷ ys) (each_of (somes vs) (tables_of_value r e)) ≡ Some tss →
        ((uss : List Tables) → each_of (somes vs) (tables_of_value r e) ≡ Some uss → canonical_slots vs (canonical_cells r e) ≡ Some (with_tables vs uss)) →
        canonical_slots (Some v ∷ vs) (canonical_cells r e) ≡ Some (with_tables (Some v ∷ vs) tss)
    go None q k ih = let z : None ≡ Some tss = sym (ap (option_map (λ ys. tables_over (axes_of r e) x.cells ∷ ys)) q) ∙ k in cc
    go (Some uss) q k ih =
        let z : Some (tables_over (axes_of r e) x.cells ∷ uss) ≡ Some tss = sym
        (ap (option_map (λ ys. tables_over (axes_of r e) x.cells ∷ ys)) q) ∙ k in
        let w : tables_over (axes_of r e) x.cells ∷ uss ≡ tss = cc in
        ap (λ o. and_then o (λ c. option_map (λ ss. Some (v, c) ∷ ss) (canonical_slots vs (canonical_cells r e)))) x.there
        ∙ ap (option_map (λ ss. Some (v, x.cells) ∷ ss)) (ih uss q)
        ∙ ap (λ y. Some (Some (v, y) ∷ with_tables vs uss)) (sym (exact-tables (axes_of r e) x.cells x.exact))
        ∙ ap (λ l. Some (with_tables (Some v ∷ vs) l)) w

-- The only child, with the slots that the tables make.
children-with : (r : Repr) (e : Domain) → MembersHaveCells r e →
    (es : List Domain) (vss : List (List (Option Value))) (vs : List (Option Value)) (tss : List Tables) →
    es ≡ e ∷ [] → vss ≡ vs ∷ [] → ChildInside es vss → each_of (append_all (map somes vss)) (tables_of_value r e) ≡ Some tss →
    canonical_children (more_reprs r no_reprs) es vss ≡ Some (children_with (more_reprs r no_reprs) es vss tss)
children-with r e c es vss vs tss p q a h =
    let i = subst (λ l. ChildInside l (vs ∷ [])) p (subst (ChildInside es) q a) in
    let j : each_of (somes vs ++ []) (tables_of_value r e) ≡ Some tss = ap
    (λ l. each_of (append_all (map somes l)) (tables_of_value r e)) (sym q) ∙ h in
    let k = ap (λ l. each_of l (tables_of_value r e)) (sym (append-nil (somes vs))) ∙ j in
    ap (λ l. canonical_children (more_reprs r no_reprs) l vss) p ∙ ap (canonical_children (more_reprs r no_reprs) (e ∷ [])) q
    ∙ ap (λ o. and_then o (λ ss. Some ((axes_of r e, ss) ∷ []))) (slots-with r e c vs tss i k)
    ∙ sym (ap (λ l. Some (children_with (more_reprs r no_reprs) l vss tss)) p ∙ ap (λ l. Some (children_with (more_reprs r no_reprs) (e ∷ []) l tss)) q)

-- The canonical tables of a member are the layer's, made of those of its inner values.
pub layer-down : (k : ReprKind) (r : Repr) (d e : Domain) (l : Layer) (v : Value) (vs : List (Option Value)) (tss : List Tables) →
    is_compound k ≡ false →
    Roomy (repr k (more_reprs r no_reprs)) d → Roomy r e → member d v ≡ true → layer k d ≡ Some l → l.children ≡ e ∷ [] → l.contents v ≡ vs ∷ [] →
    each_of (inner_values l v) (tables_of_value r e) ≡ Some tss →
    layer_tables (repr k (more_reprs r no_reprs)) d v tss ≡ tables_of_value (repr k (more_reprs r no_reprs)) d v
layer-down k r d e l v vs tss n room child m at only one h =
    let w = members_have_cells (repr k (more_reprs r no_reprs)) d room in
    let x = w.of_member v m in
    let i = subst
    (λ b. Unless b (elim (layer k d) as (λ o. Type 0) [ None ↦ Unit {0} | Some l ↦ ChildInside l.children (l.contents v) ])) n x.inner in
    let j = subst (λ o. elim o as (λ o. Type 0) [ None ↦ Unit {0} | Some l ↦ ChildInside l.children (l.contents v) ]) at i in
    let c = children-with r e (members_have_cells r e child) l.children (l.contents v) vs tss only one j h in
    ap (option_map (λ l. tables_over (axes_of (repr k (more_reprs r no_reprs)) d) (canonical_layer l v (children_with (more_reprs r no_reprs) l.children (l.contents v) tss)))) at
    ∙ sym (ap (option_map (tables_over (axes_of (repr k (more_reprs r no_reprs)) d)))
    (ap (λ o. and_then o (λ l. option_map (canonical_layer l v) (canonical_children (more_reprs r no_reprs) l.children (l.contents v)))) at ∙ ap (option_map (canonical_layer l v)) c))
