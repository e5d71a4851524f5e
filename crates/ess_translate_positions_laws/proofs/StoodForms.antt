-- What tables stand for has the form of the domain.
use Rattle.std.proofs.Common.{◌≡◌, refl, sym, ap, ◌∙◌, subst, ℕ, zero, suc, Bool, true, List, [], ◌∷◌, map, take, drop, length, ℤ, Option, Some, None, option_map, false}
use Rattle.std.specs.List.{list_all}
use Rattle.ess_semantics.specs.declared.words.ReprKind.{ReprKind}
use Rattle.ess_semantics.specs.Lists.{and_then, each_of, only_of, append_all}
use Rattle.ess_semantics.specs.Values.{Value, node, a_set, a_mset, a_relation, of_list, items_of}
use Rattle.ess_semantics.specs.Collections.{set_of, mset_of}
use Rattle.ess_semantics.specs.Trees.{Repr, Reprs, repr, no_reprs, more_reprs}
use Rattle.ess_semantics.specs.Domains.{Domain, Domains, booleans, integers, named, tuples, records, matrices, sets, msets, functions, relations, partitions, domain_list, member_list}
use Rattle.ess_semantics.specs.Tables.{Tables, code}
use Rattle.ess_semantics.specs.Cells.{Cells, Grid, only_grid, first_of_grids, behind, cells_at}
use Rattle.ess_semantics.specs.Numbers.{one_to}
use Rattle.ess_semantics.specs.Numbers.{not_below_0}
use Rattle.ess_semantics.specs.Sizes.{slots_of_set, slots_of_mset, child_relation, child_set, child_parts}
use Rattle.ess_semantics.specs.Layers.{Layer, chosen, each_repeated, repeated, only_child, own_cell}
use Rattle.ess_semantics.specs.SetLayers.{dummy_of, set_in_slots, but_dummy}
use Rattle.ess_semantics.specs.ScalarLayers.{tuple_layer, record_layer}
use Rattle.ess_semantics.specs.FunctionLayers.{function_with, function_from}
use Rattle.ess_semantics.specs.RelationLayers.{relation_from}
use Rattle.ess_semantics.specs.PartitionLayers.{partition_from_numbers, partition_from}
use Rattle.ess_semantics.specs.Representations.{layer, width, own_part, child_part, places_in_use, value_of_cells, values_of_children, value_of_tables}
use Rattle.ess_repr_laws.specs.Rooms.{Covered, AllCovered}
use Rattle.ess_repr_laws.specs.CanonicalTables.{is_compound}
use Rattle.ess_repr_laws.proofs.FittingCells.{view}
use Rattle.ess_translate_positions_laws.specs.Forms.{has_form}
use Rattle.ess_translate_positions_laws.proofs.ListedForms.{all-hold, both-hold}
use Rattle.ess_translate_positions_laws.proofs.BuiltForms.{then-there, mapped-there, Forms, atom-form, dummy-form, components-form, only-holds, nested-form, set-form, mset-form, chosen-form, counted-form, repeated-form, total-form, partial-form}
use Rattle.ess_translate_positions_laws.proofs.ConvertedForms.{function-from-form, chosen-tuples, relation-from-form, partition-from-form, numbers-form}

-- ---- what a layer builds

-- Values of the layer's children, as many as it says.
abbrev Given : Option Layer → ℕ → List (List Value) → Type 0
Given None n vss = Unit {0}
Given (Some l) n vss = Forms n l.children vss

-- the layer builds this value
abbrev Builds : Option Layer → Cells → List (List Value) → Value → Type 0
Builds None c vss v = ⊥
Builds (Some l) c vss v = l.built c vss ≡ Some v

-- the values of the only child
only-form : (n : ℕ) (d : Domain) (vss : List (List Value)) → Forms n (d ∷ []) vss → list_all (has_form d) (only_child vss) ≡ true
only-form n d [] h = refl
only-form n d (vs ∷ []) h = h.1
only-form n d (vs ∷ ws ∷ vss) h = absurd h.2

-- what there is in an only grid
grid-there : (c : Cells) (f : Grid → Option Value) (v : Value) → only_grid c f ≡ Some v → (g : Grid) × (f g ≡ Some v)
grid-there [] f v e = let k : None ≡ Some v = e in cc
grid-there (g ∷ []) f v e = (g, e)
grid-there (g ∷ h ∷ c) f v e = let k : None ≡ Some v = e in cc

grids-there : (c : Cells) (f : Grid → Cells → Option Value) (v : Value) → first_of_grids c f ≡ Some v
    → (g : Grid) × (gs : Cells) × (f g gs ≡ Some v)
grids-there [] f v e = let k : None ≡ Some v = e in cc
grids-there (g ∷ c) f v e = (g, c, e)

some-same : (u v : Value) → Some u ≡ Some v → u ≡ v
some-same u v e = cc

-- the members in slots beside dummies
slots-form : (ks : _) (d : Domain) (n : ℕ) (m : ℤ) (f : Grid) (v : Value) → ((w : Value) → has_form d w ≡ true)
    → set_in_slots n d m f ≡ Some v → has_form (sets ks d) v ≡ true
slots-form ks d n m f v all e =
    let p = mapped-there (each_of (one_to n) (λ k. and_then (f (k ∷ [])) (but_dummy d m))) (λ ls. set_of (append_all ls)) v e in
    subst (λ z. has_form (sets ks d) z ≡ true) p.2 (set-form (has_form d) (append_all p.0) (all-hold (has_form d) all (append_all p.0)))

-- What a kind builds of values of its children's forms has its domain's form. A tuple or record has one value of each child.
built-form : (k : ReprKind) (rs : Reprs) (d : Domain) → Covered (repr k rs) d → (n : ℕ) (c : Cells) (vss : List (List Value))
    → (is_compound k ≡ true → n ≡ 1) → Given (layer k d) n vss → (v : Value) → Builds (layer k d) c vss v → has_form d v ≡ true
built-form ReprKind.Atom no_reprs d h n c vss one g v b = atom-form d h v
built-form ReprKind.Tuple rs (tuples ds) h n c vss one g v b =
    subst (λ z. has_form (tuples ds) z ≡ true) (some-same _ v b) (components-form ds vss (subst (λ m. Forms m (domain_list ds) vss) (one refl) g))
built-form ReprKind.Rec rs (records fs ds) h n c vss one g v b =
    subst (λ z. has_form (records fs ds) z ≡ true) (some-same _ v b) (components-form ds vss (subst (λ m. Forms m (domain_list ds) vss) (one refl) g))
built-form ReprKind.Matrix (more_reprs r no_reprs) (matrices is d) h n c vss one g v b =
    nested-form is (has_form d) (only_child vss) v (only-form n d vss g) b
built-form ReprKind.Occurrence no_reprs (sets ks d) h n c vss one g v b =
    let f = grid-there c (λ f. option_map (λ xs. node a_set (of_list xs)) (chosen (member_list d) (λ x. f (code x ∷ [])))) v b in
    let p = mapped-there (chosen (member_list d) (λ x. f.0 (code x ∷ []))) (λ xs. node a_set (of_list xs)) v f.1 in
    subst (λ z. has_form (sets ks d) z ≡ true) p.2 (chosen-form d (λ x. f.0 (code x ∷ [])) p.0 p.1)
built-form ReprKind.Explicit (more_reprs r no_reprs) (sets ks d) h n c vss one g v b =
    subst (λ z. has_form (sets ks d) z ≡ true) (some-same _ v b) (set-form (has_form d) (only_child vss) (only-form n d vss g))
built-form ReprKind.ExplicitVarSizeWithMarker (more_reprs r no_reprs) (sets ks d) h n c vss one g v b =
    subst (λ z. has_form (sets ks d) z ≡ true) (some-same _ v b) (set-form (has_form d) (only_child vss) (only-form n d vss g))
built-form ReprKind.ExplicitVarSizeWithFlags (more_reprs r no_reprs) (sets ks d) h n c vss one g v b =
    subst (λ z. has_form (sets ks d) z ≡ true) (some-same _ v b) (set-form (has_form d) (only_child vss) (only-form n d vss g))
built-form ReprKind.ExplicitVarSizeWithDummy no_reprs (sets ks d) h n c vss one g v b =
    let f = grid-there c (λ f. and_then (dummy_of d) (λ m. set_in_slots (slots_of_set ks d) d m f)) v b in
    let p = then-there (dummy_of d) (λ m. set_in_slots (slots_of_set ks d) d m f.0) v f.1 in
    slots-form ks d (slots_of_set ks d) p.0 f.0 v (dummy-form d h) p.2
built-form ReprKind.MSetOccurrence no_reprs (msets ks d) h n c vss one g v b =
    let f = grid-there c (λ f. option_map (λ ns. node a_mset (of_list (each_repeated ns (member_list d))))
    (each_of (member_list d) (λ x. and_then (f (code x ∷ [])) not_below_0))) v b in
    let p = mapped-there (each_of (member_list d) (λ x. and_then (f.0 (code x ∷ [])) not_below_0))
    (λ ns. node a_mset (of_list (each_repeated ns (member_list d)))) v f.1 in
    subst (λ z. has_form (msets ks d) z ≡ true) p.2 (counted-form d p.0)
built-form ReprKind.MSetExplicitWithRepetition (more_reprs r no_reprs) (msets ks d) h n c vss one g v b =
    subst (λ z. has_form (msets ks d) z ≡ true) (some-same _ v b) (mset-form (has_form d) (only_child vss) (only-form n d vss g))
built-form ReprKind.MSetExplicitWithFlags (more_reprs r no_reprs) (msets ks d) h n c vss one g v b =
    let p = mapped-there (each_of (one_to (slots_of_mset ks d)) (λ k. and_then (own_cell c (k ∷ [])) not_below_0))
    (λ ns. mset_of (repeated ns (only_child vss))) v b in
    subst (λ z. has_form (msets ks d) z ≡ true) p.2 (repeated-form d p.0 (only_child vss) (only-form n d vss g))
built-form ReprKind.Function1D (more_reprs r no_reprs) (functions ks d e) h n c vss one g v b =
    subst (λ z. has_form (functions ks d e) z ≡ true) (some-same _ v b) (total-form d e (only_child vss) (only-form n e vss g))
built-form ReprKind.Function1DPartial (more_reprs r no_reprs) (functions ks d e) h n c vss one g v b =
    let p = mapped-there (chosen (member_list d) (λ x. own_cell c (code x ∷ []))) (λ xs. function_with xs (only_child vss)) v b in
    subst (λ z. has_form (functions ks d e) z ≡ true) p.2
    (partial-form d e (λ x. own_cell c (code x ∷ [])) p.0 (only_child vss) p.1 (only-form n e vss g))
built-form ReprKind.FunctionND (more_reprs r no_reprs) (functions ks (tuples ds) e) h n c vss one g v b =
    subst (λ z. has_form (functions ks (tuples ds) e) z ≡ true) (some-same _ v b) (total-form (tuples ds) e (only_child vss) (only-form n e vss g))
built-form ReprKind.FunctionNDPartial (more_reprs r no_reprs) (functions ks (tuples ds) e) h n c vss one g v b =
    let p = mapped-there (chosen (member_list (tuples ds)) (λ x. own_cell c (map code (items_of x)))) (λ xs. function_with xs (only_child vss)) v b in
    subst (λ z. has_form (functions ks (tuples ds) e) z ≡ true) p.2
    (partial-form (tuples ds) e (λ x. own_cell c (map code (items_of x))) p.0 (only_child vss) p.1 (only-form n e vss g))
built-form ReprKind.FunctionAsRelation (more_reprs r no_reprs) (functions ks d e) h n c vss one g v b =
    let p = then-there (only_of (only_child vss)) function_from v b in
    function-from-form [] ks d e p.0 v (only-holds (has_form (child_relation ks d e)) (only_child vss) p.0 (only-form n (child_relation ks d e) vss g) p.1) p.2
built-form ReprKind.RelationAsMatrix no_reprs (relations ks ds) h n c vss one g v b =
    let f = grid-there c (λ f. option_map (λ xs. node a_relation (of_list xs)) (chosen (member_list (tuples ds)) (λ x. f (map code (items_of x))))) v b in
    let p = mapped-there (chosen (member_list (tuples ds)) (λ x. f.0 (map code (items_of x)))) (λ xs. node a_relation (of_list xs)) v f.1 in
    subst (λ z. has_form (relations ks ds) z ≡ true) p.2 (chosen-tuples ds (λ x. f.0 (map code (items_of x))) p.0 p.1)
built-form ReprKind.RelationAsSet (more_reprs r no_reprs) (relations ks ds) h n c vss one g v b =
    let p = then-there (only_of (only_child vss)) relation_from v b in
    relation-from-form [] ks ds p.0 v (only-holds (has_form (child_set ks ds)) (only_child vss) p.0 (only-form n (child_set ks ds) vss g) p.1) p.2
built-form ReprKind.PartitionOccurrence no_reprs (partitions ks d) h n c vss one g v b =
    let f = grids-there c (λ f fs. only_grid fs (λ g. and_then (f []) (λ n.
    and_then (each_of (member_list d) (λ x. g (code x ∷ []))) (λ ws. partition_from_numbers (member_list d) ws n)))) v b in
    let o = grid-there f.1 (λ g. and_then (f.0 []) (λ n.
    and_then (each_of (member_list d) (λ x. g (code x ∷ []))) (λ ws. partition_from_numbers (member_list d) ws n))) v f.2 in
    let p = then-there (f.0 []) (λ n. and_then (each_of (member_list d) (λ x. o.0 (code x ∷ []))) (λ ws. partition_from_numbers (member_list d) ws n)) v o.1 in
    let q = then-there (each_of (member_list d) (λ x. o.0 (code x ∷ []))) (λ ws. partition_from_numbers (member_list d) ws p.0) v p.2 in
    numbers-form ks d q.0 p.0 v q.2
built-form ReprKind.PartitionAsSet (more_reprs r no_reprs) (partitions ks d) h n c vss one g v b =
    let p = then-there (only_of (only_child vss)) partition_from v b in
    partition-from-form [] [] ks d p.0 v (only-holds (has_form (child_parts ks d)) (only_child vss) p.0 (only-form n (child_parts ks d) vss g) p.1) p.2
built-form _ rs d h n c vss one g v b = absurd h

-- ---- all layers

-- the values of children at places are as many as these
each-long : {A B : Type 0} (f : A → Option B) (xs : List A) (ys : List B) → each_of xs f ≡ Some ys → length ys ≡ length xs
each-long f [] ys e = let k : Some [] ≡ Some ys = e in ap length (sym (nil k))
  where
    nil : Some [] ≡ Some ys → [] ≡ ys
    nil k = cc
each-long f (x ∷ xs) ys e =
    let p = then-there (f x) (λ y. option_map (λ zs. y ∷ zs) (each_of xs f)) ys e in
    let q = mapped-there (each_of xs f) (λ zs. p.0 ∷ zs) ys p.2 in
    ap length (sym q.2) ∙ ap suc (each-long f xs q.0 q.1)

-- and what holds of each answer holds of all
each-holds : {A B : Type 0} (f : A → Option B) (g : B → Bool) → ((x : A) (y : B) → f x ≡ Some y → g y ≡ true) → (xs : List A) (ys : List B)
    → each_of xs f ≡ Some ys → list_all g ys ≡ true
each-holds f g step [] ys e = subst (λ l. list_all g l ≡ true) (nil e) refl
  where
    nil : Some [] ≡ Some ys → [] ≡ ys
    nil k = cc
each-holds f g step (x ∷ xs) ys e =
    let p = then-there (f x) (λ y. option_map (λ zs. y ∷ zs) (each_of xs f)) ys e in
    let q = mapped-there (each_of xs f) (λ zs. p.0 ∷ zs) ys p.2 in
    subst (λ l. list_all g l ≡ true) q.2 (both-hold (g p.0) (list_all g q.0) (step x p.0 p.1) (each-holds f g step xs q.0 q.1))

layer-same : (a b : Layer) → Some a ≡ Some b → a ≡ b
layer-same a b e = cc

places-same : (a b : List (List ℤ)) → Some a ≡ Some b → a ≡ b
places-same a b e = cc

-- a tuple or record has one place
one-place : (k : ReprKind) (rs : Reprs) (d : Domain) → Covered (repr k rs) d → (l : Layer) → layer k d ≡ Some l → (own : Cells)
    (js : List (List ℤ)) → is_compound k ≡ true → places_in_use l own ≡ Some js → length js ≡ 1
one-place ReprKind.Tuple rs (tuples ds) h l at own js z e =
    let k : Some ([] ∷ []) ≡ Some js = ap (λ m. places_in_use m own) (layer-same (tuple_layer ds) l at) ∙ e in ap length (sym (places-same _ js k))
one-place ReprKind.Rec rs (records fs ds) h l at own js z e =
    let k : Some ([] ∷ []) ≡ Some js = ap (λ m. places_in_use m own) (layer-same (record_layer fs ds) l at) ∙ e in
    ap length (sym (places-same _ js k))
one-place ReprKind.Tuple rs booleans h l at own js z e = absurd h
one-place ReprKind.Tuple rs (integers ss) h l at own js z e = absurd h
one-place ReprKind.Tuple rs (named t n) h l at own js z e = absurd h
one-place ReprKind.Tuple rs (records fs ds) h l at own js z e = absurd h
one-place ReprKind.Tuple rs (matrices is c) h l at own js z e = absurd h
one-place ReprKind.Tuple rs (sets ks c) h l at own js z e = absurd h
one-place ReprKind.Tuple rs (msets ks c) h l at own js z e = absurd h
one-place ReprKind.Tuple rs (functions ks c b) h l at own js z e = absurd h
one-place ReprKind.Tuple rs (relations ks ds) h l at own js z e = absurd h
one-place ReprKind.Tuple rs (partitions ks c) h l at own js z e = absurd h
one-place ReprKind.Rec rs booleans h l at own js z e = absurd h
one-place ReprKind.Rec rs (integers ss) h l at own js z e = absurd h
one-place ReprKind.Rec rs (named t n) h l at own js z e = absurd h
one-place ReprKind.Rec rs (tuples ds) h l at own js z e = absurd h
one-place ReprKind.Rec rs (matrices is c) h l at own js z e = absurd h
one-place ReprKind.Rec rs (sets ks c) h l at own js z e = absurd h
one-place ReprKind.Rec rs (msets ks c) h l at own js z e = absurd h
one-place ReprKind.Rec rs (functions ks c b) h l at own js z e = absurd h
one-place ReprKind.Rec rs (relations ks ds) h l at own js z e = absurd h
one-place ReprKind.Rec rs (partitions ks c) h l at own js z e = absurd h
one-place ReprKind.Atom rs d h l at own js z e = let c : false ≡ true = z in cc
one-place ReprKind.Matrix rs d h l at own js z e = let c : false ≡ true = z in cc
one-place ReprKind.Occurrence rs d h l at own js z e = let c : false ≡ true = z in cc
one-place ReprKind.Explicit rs d h l at own js z e = let c : false ≡ true = z in cc
one-place ReprKind.ExplicitVarSizeWithMarker rs d h l at own js z e = let c : false ≡ true = z in cc
one-place ReprKind.ExplicitVarSizeWithFlags rs d h l at own js z e = let c : false ≡ true = z in cc
one-place ReprKind.ExplicitVarSizeWithDummy rs d h l at own js z e = let c : false ≡ true = z in cc
one-place ReprKind.MSetOccurrence rs d h l at own js z e = let c : false ≡ true = z in cc
one-place ReprKind.MSetExplicitWithRepetition rs d h l at own js z e = let c : false ≡ true = z in cc
one-place ReprKind.MSetExplicitWithFlags rs d h l at own js z e = let c : false ≡ true = z in cc
one-place ReprKind.Function1D rs d h l at own js z e = let c : false ≡ true = z in cc
one-place ReprKind.Function1DPartial rs d h l at own js z e = let c : false ≡ true = z in cc
one-place ReprKind.FunctionND rs d h l at own js z e = let c : false ≡ true = z in cc
one-place ReprKind.FunctionNDPartial rs d h l at own js z e = let c : false ≡ true = z in cc
one-place ReprKind.FunctionAsRelation rs d h l at own js z e = let c : false ≡ true = z in cc
one-place ReprKind.RelationAsMatrix rs d h l at own js z e = let c : false ≡ true = z in cc
one-place ReprKind.RelationAsSet rs d h l at own js z e = let c : false ≡ true = z in cc
one-place ReprKind.PartitionOccurrence rs d h l at own js z e = let c : false ≡ true = z in cc
one-place ReprKind.PartitionAsSet rs d h l at own js z e = let c : false ≡ true = z in cc

mutual
  form-of-cells : (r : Repr) (d : Domain) → Covered r d → (c : Cells) (v : Value) → value_of_cells r d c ≡ Some v → has_form d v ≡ true
  form-of-cells (repr k rs) d h c v e =
      let w = view k rs d h in
      let a : and_then (places_in_use w.l (own_part k c)) (λ js. and_then (values_of_children rs w.l.children (child_part k c) js) (w.l.built (own_part k c)))
      ≡ Some v = sym (ap (λ o. and_then o (λ l. and_then (places_in_use l (own_part k c)) (λ js.
      and_then (values_of_children rs l.children (child_part k c) js) (l.built (own_part k c))))) w.at) ∙ e in
      let p = then-there (places_in_use w.l (own_part k c))
      (λ js. and_then (values_of_children rs w.l.children (child_part k c) js) (w.l.built (own_part k c))) v a in
      let q = then-there (values_of_children rs w.l.children (child_part k c) p.0) (w.l.built (own_part k c)) v p.2 in
      built-form k rs d h (length p.0) (own_part k c) q.0 (λ z. one-place k rs d h w.l w.at (own_part k c) p.0 z p.1)
      (subst (λ o. Given o (length p.0) q.0) (sym w.at) (forms-of-children rs w.l.children w.inner (child_part k c) p.0 q.0 q.1)) v
      (subst (λ o. Builds o (own_part k c) q.0 v) (sym w.at) q.2)

  forms-of-children : (rs : Reprs) (ds : List Domain) → AllCovered rs ds → (c : Cells) (js : List (List ℤ)) (vss : List (List Value))
      → values_of_children rs ds c js ≡ Some vss → Forms (length js) ds vss
  forms-of-children no_reprs [] h c js vss e = subst (λ l. Forms (length js) [] l) (nil e) tt
    where
      nil : Some [] ≡ Some vss → [] ≡ vss
      nil k = cc
  forms-of-children no_reprs (d ∷ ds) h c js vss e = absurd h
  forms-of-children (more_reprs r rs) [] h c js vss e = absurd h
  forms-of-children (more_reprs r rs) (d ∷ ds) h c js vss e =
      let p = then-there (each_of js (λ j. value_of_cells r d (behind j (take (width r) c))))
      (λ vs. option_map (λ wss. vs ∷ wss) (values_of_children rs ds (drop (width r) c) js)) vss e in
      let q = mapped-there (values_of_children rs ds (drop (width r) c) js) (λ wss. p.0 ∷ wss) vss p.2 in
      subst (λ l. Forms (length js) (d ∷ ds) l) q.2 (
        each-long (λ j. value_of_cells r d (behind j (take (width r) c))) js p.0 p.1,
        each-holds (λ j. value_of_cells r d (behind j (take (width r) c))) (has_form d)
            (λ j y k. form-of-cells r d h.0 (behind j (take (width r) c)) y k) js p.0 p.1,
        forms-of-children rs ds h.1 (drop (width r) c) js q.0 q.1,
      )

-- What tables stand for has the form of the domain.
pub stood_form : (r : Repr) (d : Domain) → Covered r d → (ts : Tables) (is : List ℤ) (v : Value) → value_of_tables r d ts is ≡ Some v
    → has_form d v ≡ true
stood_form r d h ts is v e = form-of-cells r d h (cells_at ts is) v e
