-- One layer with at most one child, as code goes through it: what is found of the parts makes what is asked of the whole.
use Rattle.std.proofs.Common.{◌≡◌, refl, sym, ap, ◌∙◌, subst, Bool, true, false, ◌&&◌, List, [], ◌∷◌, map, length, Option, Some, None, option_map}
use Rattle.std.specs.List.{list_all}
use Rattle.ess_semantics.specs.declared.words.ReprKind.{ReprKind}
use Rattle.ess_semantics.specs.Lists.{and_then, each_of}
use Rattle.ess_semantics.specs.Values.{Value}
use Rattle.ess_semantics.specs.Trees.{Repr, Reprs, repr, no_reprs, more_reprs}
use Rattle.ess_semantics.specs.Domains.{Domain}
use Rattle.ess_semantics.specs.Membership.{member}
use Rattle.ess_semantics.specs.Tables.{Tables}
use Rattle.ess_semantics.specs.Cells.{Axes}
use Rattle.ess_semantics.specs.Layers.{Layer}
use Rattle.ess_semantics.specs.Representations.{layer, value_of_tables}
use Rattle.ess_semantics.specs.Declarations.{axes_of}
use Rattle.ess_semantics.specs.Canonical.{tables_of_value}
use Rattle.ess_semantics.specs.OneLayer.{inner_values, layer_tables, inner_tables, layer_value}
use Rattle.ess_semantics.specs.Tidy.{over_axes}
use Rattle.ess_semantics.proofs.Tests.{and-left, and-right}
use Rattle.ess_repr_laws.specs.CanonicalTables.{is_compound}
use Rattle.ess_repr_laws.specs.Rooms.{Covered, Roomy}
use Rattle.ess_repr_laws.proofs.CellsOfMembers.{HasTables}
use Rattle.ess_repr_laws.proofs.MembersHaveTables.{roomy-covered}
use Rattle.ess_repr_layers_laws.specs.LayerParts.{children_of}
use Rattle.ess_repr_layers_laws.specs.LayerCalls.{OnlyOver, TablesReady}
use Rattle.ess_repr_layers_laws.proofs.LayerDown as down
use Rattle.ess_repr_layers_laws.proofs.LayerUp as up

-- Several children are none for a kind that isn't one of components.
several-none : (k : ReprKind) (r q : Repr) (rs : Reprs) (d : Domain) → is_compound k ≡ false → Covered (repr k (more_reprs r (more_reprs q rs))) d → ⊥
several-none ReprKind.Tuple r q rs d n h = cc
several-none ReprKind.Rec r q rs d n h = cc
several-none _ r q rs d n h = h

-- ---- down

-- What is asked of the layer's answer.
abbrev pub LayerDown : ReprKind → Domain → Value → List Axes → List Tables → Option Tables → Type 0
LayerDown k d v ass tss o = (rs : Reprs) → is_compound k ≡ false → Covered (repr k rs) d → TablesReady k rs d v ass tss → o ≡ layer_tables (repr k rs) d v tss

module _ (k : ReprKind) (r : Repr) (d e : Domain) (v : Value) (simple : is_compound k ≡ false) (room : Roomy (repr k (more_reprs r no_reprs)) d)
    (m : member d v ≡ true) (only : children_of k d ≡ e ∷ []) where
  same-child : (down.x k r d v simple room).child ≡ e
  same-child =
      let q : (down.x k r d v simple room).child ∷ [] ≡ e ∷ [] = sym (down.down-child k r d v simple room) ∙ only in cc

  child-room : Roomy r e
  child-room = subst (Roomy r) same-child (down.down-room k r d v simple room)

  abbrev values : List Value
  values = inner_values (down.x k r d v simple room).the v

  inside : list_all (member e) values ≡ true
  inside = subst (λ c. list_all (member c) (inner_values (down.x k r d v simple room).the v) ≡ true) same-child (down.down-members k r d v simple room m)

  -- The inner values are those of the layer.
  pub no-parts : (o : Option Tables) → (is_compound k ≡ false → None ≡ option_map (λ l. inner_values l v) (layer k d)) → o ≡ tables_of_value (repr k (more_reprs r no_reprs)) d v
  no-parts o f = let z : None ≡ Some values = f simple ∙ down.down-values k r d v simple room in cc

  module _ (vs : List Value) (found : is_compound k ≡ false → Some vs ≡ option_map (λ l. inner_values l v) (layer k d)) where
    same-values : vs ≡ values
    same-values = let z : Some vs ≡ Some values = found simple ∙ down.down-values k r d v simple room in cc

    inside-found : list_all (member e) vs ≡ true
    inside-found = subst (λ l. list_all (member e) l ≡ true) (sym same-values) inside

    -- Each of them has tables.
    pub no-tables : (o : Option Tables) → (Roomy r e → list_all (member e) vs ≡ true → None ≡ each_of vs (tables_of_value r e)) →
        o ≡ tables_of_value (repr k (more_reprs r no_reprs)) d v
    no-tables o f = absurd (go vs inside-found (f child-room inside-found))
      where
        go : (us : List Value) → list_all (member e) us ≡ true → None ≡ each_of us (tables_of_value r e) → ⊥
        go [] i q = cc
        go (u ∷ us) i q =
            let x = down.has r e child-room u (and-left (member e u) (list_all (member e) us) i) in
            rest x (each_of us (tables_of_value r e)) (λ p. go us (and-right (member e u) (list_all (member e) us) i) p)
            (q ∙ ap (λ o. and_then o (λ y. option_map (λ ys. y ∷ ys) (each_of us (tables_of_value r e)))) x.there)
          where
            rest : (x : HasTables r e u) (o : Option (List Tables)) → (None ≡ o → ⊥) → None ≡ option_map (λ ys. x.tables ∷ ys) o → ⊥
            rest x None ih p = ih refl
            rest x (Some ys) ih p = cc

    -- The tables are the layer's, made of those of the inner values.
    pub tables-made : (tss : List Tables) (ass : List Axes) (o : Option Tables) →
        (Roomy r e → list_all (member e) vs ≡ true → Some tss ≡ each_of vs (tables_of_value r e)) → ass ≡ axes_of r e → LayerDown k d v ass tss o →
        o ≡ tables_of_value (repr k (more_reprs r no_reprs)) d v
    tables-made tss ass o f a l =
        let each = sym (f child-room inside-found) in
        let over = down.tables-over r e child-room vs tss inside-found each in
        let count : length tss ≡ length values = down.each-long (tables_of_value r e) vs tss each ∙ ap length same-values in
        let x = down.x k r d v simple room in
        let one : OnlyOver r (e ∷ []) (length values) ass tss = record {
          axes = sym a;
          over = ap (λ xs. list_all (over_axes [] xs) tss) a ∙ over;
          count = count;
        } in
        let two : OnlyOver r x.the.children (length values) ass tss = subst (λ es. OnlyOver r es (length values) ass tss) (sym (x.only ∙ ap (λ c. c ∷ []) same-child)) one in
        let ready : TablesReady k (more_reprs r no_reprs) d v ass tss = subst
        (λ o. elim o as (λ o. Type 0) [ None ↦ Unit {0} | Some l ↦ OnlyOver r l.children (length (inner_values l v)) ass tss ]) (sym x.at) two in
        l (more_reprs r no_reprs) simple (roomy-covered (repr k (more_reprs r no_reprs)) d room) ready
        ∙ down.child-down k r d v simple room tss m
        (ap (λ c. each_of (inner_values x.the v) (tables_of_value r c)) same-child ∙ ap (λ us. each_of us (tables_of_value r e)) (sym same-values) ∙ each)

-- The tables of a layer that is no one with one child over one domain.
pub alone-made-down : (k : ReprKind) (rs : Reprs) (d : Domain) (v : Value) (ass : List Axes) (o : Option Tables) → is_compound k ≡ false → Roomy (repr k rs) d →
    ((r : Repr) (e : Domain) → rs ≡ more_reprs r no_reprs → children_of k d ≡ e ∷ [] → ⊥) → LayerDown k d v ass [] o → o ≡ tables_of_value (repr k rs) d v
alone-made-down k no_reprs d v ass o n room none l = l no_reprs n (roomy-covered (repr k no_reprs) d room) tt ∙ down.alone-down k d v []
alone-made-down k (more_reprs r no_reprs) d v ass o n room none l = absurd (none r (down.x k r d v n room).child refl (down.down-child k r d v n room))
alone-made-down k (more_reprs r (more_reprs q rs)) d v ass o n room none l = absurd (several-none k r q rs d n (roomy-covered (repr k (more_reprs r (more_reprs q rs))) d room))

-- ---- up

-- What is asked of the layer's answer.
abbrev pub LayerUp : ReprKind → Domain → Tables → List Value → Option Value → Type 0
LayerUp k d ts vs o = (rs : Reprs) → is_compound k ≡ false → Covered (repr k rs) d → over_axes [] (axes_of (repr k rs) d) ts ≡ true → o ≡ layer_value k d ts vs

module _ (k : ReprKind) (r : Repr) (d e : Domain) (ts : Tables) (simple : is_compound k ≡ false) (cover : Covered (repr k (more_reprs r no_reprs)) d)
    (over : over_axes [] (axes_of (repr k (more_reprs r no_reprs)) d) ts ≡ true) (only : children_of k d ≡ e ∷ []) where
  up-child : (up.x k r d ts simple cover over).child ≡ e
  up-child = let q : (up.x k r d ts simple cover over).child ∷ [] ≡ e ∷ [] = sym (up.child-is k r d ts simple cover over) ∙ only in cc

  whole : value_of_tables (repr k (more_reprs r no_reprs)) d ts [] ≡ and_then (inner_tables k d ts) (λ tss. and_then (each_of tss (λ t. value_of_tables r e t [])) (layer_value k d ts))
  whole = up.child-up k r d ts simple cover over ∙ ap (λ c. and_then (inner_tables k d ts) (λ tss. and_then (each_of tss (λ t. value_of_tables r c t [])) (layer_value k d ts))) up-child

  -- The layer's own tables stand for nothing.
  pub no-slots : None ≡ inner_tables k d ts → None ≡ value_of_tables (repr k (more_reprs r no_reprs)) d ts []
  no-slots q = ap (λ o. and_then o (λ tss. and_then (each_of tss (λ t. value_of_tables r e t [])) (layer_value k d ts))) q ∙ sym whole

  module _ (tss : List Tables) (slots : Some tss ≡ inner_tables k d ts) where
    covered-child : Covered r e
    covered-child = subst (Covered r) up-child (up.x k r d ts simple cover over).covered

    over-slots : list_all (over_axes [] (axes_of r e)) tss ≡ true
    over-slots = subst (λ c. list_all (over_axes [] (axes_of r c)) tss ≡ true) up-child (up.inner-over k r d ts simple cover over tss (sym slots))

    all : value_of_tables (repr k (more_reprs r no_reprs)) d ts [] ≡ and_then (each_of tss (λ t. value_of_tables r e t [])) (layer_value k d ts)
    all = whole ∙ ap (λ o. and_then o (λ tss. and_then (each_of tss (λ t. value_of_tables r e t [])) (layer_value k d ts))) (sym slots)

    -- A slot stands for nothing.
    pub no-values : (Covered r e → list_all (over_axes [] (axes_of r e)) tss ≡ true → None ≡ each_of tss (λ t. value_of_tables r e t [])) →
        None ≡ value_of_tables (repr k (more_reprs r no_reprs)) d ts []
    no-values f = ap (λ o. and_then o (layer_value k d ts)) (f covered-child over-slots) ∙ sym all

    -- The value is the layer's, made of those of the slots in use.
    pub value-made : (vs : List Value) (o : Option Value) → (Covered r e → list_all (over_axes [] (axes_of r e)) tss ≡ true → Some vs ≡ each_of tss (λ t. value_of_tables r e t [])) →
        LayerUp k d ts vs o → o ≡ value_of_tables (repr k (more_reprs r no_reprs)) d ts []
    value-made vs o f l = l (more_reprs r no_reprs) simple cover over ∙ ap (λ o. and_then o (layer_value k d ts)) (f covered-child over-slots) ∙ sym all

-- The value of a layer that is no one with one child over one domain.
pub alone-made-up : (k : ReprKind) (rs : Reprs) (d : Domain) (ts : Tables) (o : Option Value) → is_compound k ≡ false → Covered (repr k rs) d →
    over_axes [] (axes_of (repr k rs) d) ts ≡ true → ((r : Repr) (e : Domain) → rs ≡ more_reprs r no_reprs → children_of k d ≡ e ∷ [] → ⊥) →
    LayerUp k d ts [] o → o ≡ value_of_tables (repr k rs) d ts []
alone-made-up k no_reprs d ts o n cover over none l = l no_reprs n cover over ∙ sym (up.alone-up k d ts n cover)
alone-made-up k (more_reprs r no_reprs) d ts o n cover over none l = absurd (none r (up.x k r d ts n cover over).child refl (up.child-is k r d ts n cover over))
alone-made-up k (more_reprs r (more_reprs q rs)) d ts o n cover over none l = absurd (several-none k r q rs d n cover)
