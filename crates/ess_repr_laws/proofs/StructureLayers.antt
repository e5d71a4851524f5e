-- The test of canonical cells of a layer with one child, as tests of its places.
use Rattle.std.proofs.Common.{◌≡◌, refl, sym, ap, ◌∙◌, Bool, true, false, ◌&&◌, ◌||◌, not, List, [], ◌∷◌, drop, length, ℤ, Option, Some, option_map}
use Rattle.std.proofs.lemmas.Bool.{eq-eqb}
use Rattle.std.specs.List.{list_all}
use Rattle.ess_semantics.specs.declared.words.ReprKind.{ReprKind}
use Rattle.ess_semantics.specs.Lists.{and_then, each_of, is_some_and}
use Rattle.ess_semantics.specs.Values.{Value}
use Rattle.ess_semantics.specs.Trees.{Repr, Reprs, no_reprs, more_reprs}
use Rattle.ess_semantics.specs.Domains.{Domain, lists_of}
use Rattle.ess_semantics.specs.Tables.{Tables}
use Rattle.ess_semantics.specs.Cells.{Cells, Axes, behind, are_zero}
use Rattle.ess_semantics.specs.Layers.{OwnTable, Layer, Use, everywhere, Slot, no_own_tables, always_tidy}
use Rattle.ess_semantics.specs.Representations.{width, is_used, places_by, value_of_cells, values_of_children}
use Rattle.ess_semantics.specs.Declarations.{axes_of}
use Rattle.ess_semantics.specs.CanonicalTest.{own_cells_fit, in_use_first, slots_rise, child_is_canonical, children_are_canonical, canonical}
use Rattle.ess_repr_laws.specs.CanonicalTables.{Right}
use Rattle.ess_repr_laws.proofs.CanonicalParts.{asked_of}
use Rattle.ess_repr_laws.proofs.CanonicalPlaces.{AllOf, all-of-list}
use Rattle.ess_repr_laws.proofs.CellsOfMembers.{take-whole, drop-whole}
use Rattle.ess_repr_laws.proofs.CellsOfOneChild.{one_child}
use Rattle.ess_repr_laws.proofs.OneForm.{values-length}

-- Where each item has a value, all have.
pub values-of-all : {A : Type 0} (js : List A) (f : A → Option Value) → AllOf js (λ j. (v : Value) × (f j ≡ Some v)) → (vs : List Value) × (each_of js f ≡ Some vs)
values-of-all [] f h = ([], refl)
values-of-all (j ∷ js) f h =
    let r = values-of-all js f h.1 in
    (h.0.0 ∷ r.0, ap (λ o. and_then o (λ v. option_map (λ vs. v ∷ vs) (each_of js f))) h.0.1 ∙ ap (option_map (λ vs. h.0.0 ∷ vs)) r.1)

-- A test that always passes.
pub all-pass : {A : Type 0} (js : List A) → list_all (λ j. true) js ≡ true
all-pass [] = refl
all-pass (j ∷ js) = all-pass js

-- Tests that agree on each item.
pub all-alike : {A : Type 0} (js : List A) (f g : A → Bool) → ((j : A) → f j ≡ g j) → list_all f js ≡ list_all g js
all-alike [] f g h = refl
all-alike (j ∷ js) f g h = ap (λ b. b && list_all f js) (h j) ∙ ap (λ b. g j && b) (all-alike js f g h)

-- Two tests at each item.
pub all-two : {A : Type 0} (js : List A) (f g : A → Bool) → list_all (λ j. f j && g j) js ≡ list_all f js && list_all g js
all-two [] f g = refl
all-two (j ∷ js) f g = ap (λ b. (f j && g j) && b) (all-two js f g) ∙ swap (f j) (g j) (list_all f js) (list_all g js)
  where
    swap : (a b c d : Bool) → (a && b) && (c && d) ≡ (a && c) && (b && d)
    swap false b c d = refl
    swap true false false d = refl
    swap true false true d = refl
    swap true true c d = refl

module _ (r : Repr) (e : Domain) (right : Right r e) (wide : length (axes_of r e) ≡ width r) where
  -- Canonical cells at places have values.
  pub places-values : (inner : Cells) (js : List (List ℤ)) → AllOf js (λ j. canonical r e (behind j inner) ≡ true) →
      (vs : List Value) × (each_of js (λ j. value_of_cells r e (behind j inner)) ≡ Some vs)
  places-values inner js h = values-of-all js (λ j. value_of_cells r e (behind j inner)) (each js h)
    where
      each : (js : List (List ℤ)) → AllOf js (λ j. canonical r e (behind j inner) ≡ true) → AllOf js (λ j. (v : Value) × (value_of_cells r e (behind j inner) ≡ Some v))
      each [] h = tt
      each (j ∷ js) h = (right.sound (behind j inner) h.0, each js h.1)

  module _ (k : ReprKind) (d : Domain) (own : List OwnTable) (bs : Axes) (u : Use) (sorted distinct : Bool) (ct : Value → List (Option Value)) (ot : Value → List (Option Slot) → Tables)
      (b : Cells → List (List Value) → Option Value) (ic : Cells → List (List Value) → Bool) (td : Cells → Bool) where
    abbrev L : Layer
    L = one_child k r d e own bs u sorted distinct ct ot b ic td

    -- Cells are canonical at each place in use.
    abbrev pub used_part : Cells → Cells → Bool
    used_part mine inner = list_all (λ js. not (is_used u mine js) || canonical r e (behind js inner)) (lists_of bs)

    -- They are 0 or false at all others.
    abbrev pub zero_part : Cells → Cells → Bool
    zero_part mine inner = list_all (λ js. is_used u mine js || are_zero (axes_of r e) (behind js inner)) (lists_of bs)

    -- What is asked of a layer whose own cells lie in their domains.
    pub layer-asked : (mine inner : Cells) (F : Bool) → own_cells_fit own mine ≡ true → length inner ≡ width r → (js : List (List ℤ)) → places_by u mine (lists_of bs) ≡ Some js →
        (used_part mine inner ≡ true → AllOf js (λ j. canonical r e (behind j inner) ≡ true)) →
        ((vs : List Value) → length vs ≡ length js → each_of js (λ j. value_of_cells r e (behind j inner)) ≡ Some vs → used_part mine inner ≡ true → ic mine (vs ∷ []) ≡ F) →
        asked_of L (more_reprs r no_reprs) mine inner ≡ (in_use_first L mine && (used_part mine inner && (slots_rise L mine (axes_of r e) inner && zero_part mine inner))) && F
    layer-asked mine inner F ok long js found each asked =
        ap (λ b. ((b && first) && children_are_canonical L mine rs (e ∷ []) inner) && A) ok ∙ ap (λ b. (first && b) && A) children
        ∙ arrange first (used_part mine inner) rise (zero_part mine inner) A F (λ h. attributes h (each h))
      where
        rs : Reprs
        rs = more_reprs r no_reprs

        first : Bool
        first = in_use_first L mine

        rise : Bool
        rise = slots_rise L mine (axes_of r e) inner

        A : Bool
        A = is_some_and (and_then (places_by u mine (lists_of bs)) (values_of_children rs (e ∷ []) inner)) (ic mine)

        children : children_are_canonical L mine rs (e ∷ []) inner ≡ (((true && used_part mine inner) && rise) && zero_part mine inner) && true
        children =
            ap (λ c. child_is_canonical L mine (axes_of r e) (canonical r e) c && children_are_canonical L mine no_reprs [] (drop (width r) inner)) (take-whole (width r) inner long)
            ∙ ap (λ c. child_is_canonical L mine (axes_of r e) (canonical r e) inner && children_are_canonical L mine no_reprs [] c) (drop-whole (width r) inner long)
            ∙ ap (λ b. (((b && used_part mine inner) && rise) && zero_part mine inner) && true) (eq-eqb (length inner) (length (axes_of r e)) (long ∙ sym wide))

        attributes : used_part mine inner ≡ true → AllOf js (λ j. canonical r e (behind j inner) ≡ true) → A ≡ F
        attributes u h =
            let v = places-values inner js h in
            ap (λ o. is_some_and (and_then o (values_of_children rs (e ∷ []) inner)) (ic mine)) found
            ∙ ap (λ c. is_some_and (and_then (each_of js (λ j. value_of_cells r e (behind j c))) (λ vs. Some (vs ∷ []))) (ic mine)) (take-whole (width r) inner long)
            ∙ ap (λ o. is_some_and (and_then o (λ vs. Some (vs ∷ []))) (ic mine)) v.1 ∙ asked v.0 (values-length (λ j. value_of_cells r e (behind j inner)) js v.0 v.1) v.1 u

        arrange : (f u r z a x : Bool) → (u ≡ true → a ≡ x) → (f && ((((true && u) && r) && z) && true)) && a ≡ (f && (u && (r && z))) && x
        arrange false u r z a x h = refl
        arrange true false r z a x h = refl
        arrange true true false z a x h = refl
        arrange true true true false a x h = refl
        arrange true true true true a x h = h refl

  -- What is asked of a layer without tables of its own whose places are all in use, where the values are those of the places.
  pub everywhere-valued : (k : ReprKind) (d : Domain) (bs : Axes) (ct : Value → List (Option Value)) (b : Cells → List (List Value) → Option Value) (ic : Cells → List (List Value) → Bool) (inner : Cells) (F : Bool) →
      length inner ≡ width r → ((vs : List Value) → length vs ≡ length (lists_of bs) → each_of (lists_of bs) (λ j. value_of_cells r e (behind j inner)) ≡ Some vs → AllOf (lists_of bs) (λ j. canonical r e (behind j inner) ≡ true) → ic [] (vs ∷ []) ≡ F) →
      asked_of (one_child k r d e [] bs everywhere false false ct no_own_tables b ic always_tidy) (more_reprs r no_reprs) [] inner ≡ list_all (λ js. canonical r e (behind js inner)) (lists_of bs) && F
  everywhere-valued k d bs ct b ic inner F long asked =
      layer-asked k d [] bs everywhere false false ct no_own_tables b ic always_tidy [] inner F refl long (lists_of bs) refl
      (λ h. all-of-list (lists_of bs) (λ js. canonical r e (behind js inner)) h) (λ vs n x u. asked vs n x (all-of-list (lists_of bs) (λ js. canonical r e (behind js inner)) u))
      ∙ ap (λ z. (list_all (λ js. canonical r e (behind js inner)) (lists_of bs) && z) && F) (all-pass (lists_of bs)) ∙ drop-true (list_all (λ js. canonical r e (behind js inner)) (lists_of bs))
    where
      drop-true : (a : Bool) → (a && true) && F ≡ a && F
      drop-true true = refl
      drop-true false = refl

  -- The same where the values don't matter.
  pub everywhere-asked : (k : ReprKind) (d : Domain) (bs : Axes) (ct : Value → List (Option Value)) (b : Cells → List (List Value) → Option Value) (ic : Cells → List (List Value) → Bool) (inner : Cells) (F : Bool) →
      length inner ≡ width r → ((vs : List Value) → length vs ≡ length (lists_of bs) → ic [] (vs ∷ []) ≡ F) →
      asked_of (one_child k r d e [] bs everywhere false false ct no_own_tables b ic always_tidy) (more_reprs r no_reprs) [] inner ≡ list_all (λ js. canonical r e (behind js inner)) (lists_of bs) && F
  everywhere-asked k d bs ct b ic inner F long asked = everywhere-valued k d bs ct b ic inner F long (λ vs n x u. asked vs n)
