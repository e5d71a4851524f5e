-- The function that the cells of a view with a value for each argument stand for, and what its attributes without a number say.
use Rattle.std.proofs.Common.{◌≡◌, refl, sym, ap, ◌∙◌, subst, ℕ, Bool, true, false, if◌then◌else◌, List, [], ◌∷◌, take, drop, length, ℤ, Option, Some, None, option_map}
use Rattle.ess_semantics.specs.declared.words.Key.{Key}
use Rattle.ess_semantics.specs.declared.words.ReprKind.{ReprKind}
use Rattle.ess_semantics.specs.Lists.{and_then, each_of, is_some_and}
use Rattle.ess_semantics.specs.Values.{Text, Value, truth}
use Rattle.ess_semantics.specs.Trees.{Repr, repr, no_reprs, more_reprs, Exs, Ex, Dom}
use Rattle.ess_semantics.specs.Domains.{Domain, functions, lists_of, member_list}
use Rattle.ess_semantics.specs.Membership.{member}
use Rattle.ess_semantics.specs.Operators.{as_truth}
use Rattle.ess_semantics.specs.Cells.{Grid, Cells, Axes, behind}
use Rattle.ess_semantics.specs.Layers.{Layer, chosen, only_child}
use Rattle.ess_semantics.specs.FunctionLayers.{total_layer, partial_layer, function_with}
use Rattle.ess_semantics.specs.Representations.{width, own_width, layer, places_in_use, value_of_cells, values_of_children}
use Rattle.ess_semantics.specs.CanonicalTest.{canonical}
use Rattle.ess_semantics.specs.Tidy.{is_orderly}
use Rattle.ess_semantics.specs.Meaning.{Env, meaning}
use Rattle.ess_semantics.proofs.Tests.{and-left, some-and}
use Rattle.ess_repr_laws.specs.CanonicalTables.{Right}
use Rattle.ess_repr_laws.specs.StructureParts.{Shape}
use Rattle.ess_repr_laws.specs.FunctionParts.{is_one_cell, differ_ex, value_key_ex, flag_key_ex}
use Rattle.ess_repr_laws.specs.ViewParts.{components_differ_ex}
use Rattle.ess_repr_laws.proofs.CanonicalPlaces.{AllOf}
use Rattle.ess_repr_laws.proofs.CellsOfMembers.{take-whole}
use Rattle.ess_repr_laws.proofs.DifferentCells.{atom}

-- ---- values

-- The values at places with canonical cells are members.
pub values-members : (r : Repr) (y : Domain) → Right r y → (inner : Cells) (js : List (List ℤ)) (vs : List Value) →
    AllOf js (λ j. canonical r y (behind j inner) ≡ true) → each_of js (λ j. value_of_cells r y (behind j inner)) ≡ Some vs →
    AllOf vs (λ v. member y v ≡ true)
values-members r y right inner [] vs h e = let z : [] ≡ vs = cc in subst (λ vs. AllOf vs (λ v. member y v ≡ true)) z tt
values-members r y right inner (j ∷ js) vs h e =
    let v = some-and (value_of_cells r y (behind j inner)) (member y) (and-left
    (is_some_and (value_of_cells r y (behind j inner)) (member y)) (is_orderly r y (behind j inner))
    (right.tidies (behind j inner) h.0)) in
    go v.0 v.2 (each_of js (λ j. value_of_cells r y (behind j inner)))
    (sym (ap (λ o. and_then o (λ v. option_map (λ vs. v ∷ vs) (each_of js (λ j. value_of_cells r y (behind j inner))))) v.1) ∙ e)
    (λ ws. values-members r y right inner js ws h.1)
  where
    go : (v : Value) → member y v ≡ true → (o : Option (List Value)) → option_map (λ ws. v ∷ ws) o ≡ Some vs →
        ((ws : List Value) → o ≡ Some ws → AllOf ws (λ v. member y v ≡ true)) → AllOf vs (λ v. member y v ≡ true)
    go v m None e ih = cc
    go v m (Some ws) e ih = let z : v ∷ ws ≡ vs = cc in subst (λ vs. AllOf vs (λ v. member y v ≡ true)) z (m, ih ws refl)

-- What a layer with one child builds of the values of its places.
pub built-of-values : (K : ReprKind) (r : Repr) (d y : Domain) (L : Layer) (mine inner : Cells) (js : List (List ℤ)) (vs : List Value) →
    L.children ≡ y ∷ [] → length inner ≡ width r → places_in_use L mine ≡ Some js →
    each_of js (λ j. value_of_cells r y (behind j inner)) ≡ Some vs →
    and_then (places_in_use L mine) (λ js. and_then (values_of_children (more_reprs r no_reprs) L.children inner js) (L.built mine)) ≡
    L.built mine (vs ∷ [])
built-of-values K r d y L mine inner js vs ch long pl e =
    ap (λ o. and_then o (λ js. and_then (values_of_children (more_reprs r no_reprs) L.children inner js) (L.built mine))) pl
    ∙ ap (λ ds. and_then (values_of_children (more_reprs r no_reprs) ds inner js) (L.built mine)) ch
    ∙ ap (λ c. and_then (and_then (each_of js (λ j. value_of_cells r y (behind j c))) (λ vs. Some (vs ∷ []))) (L.built mine))
    (take-whole (width r) inner long)
    ∙ ap (λ o. and_then (and_then o (λ vs. Some (vs ∷ []))) (L.built mine)) e

-- The function that a value for each argument gives.
pub total-view : (K : ReprKind) (r : Repr) (x y : Domain) (bs : Axes) → layer K (functions [] x y) ≡ Some (total_layer [] bs x y) →
    own_width K ≡ 0 → (inner : Cells) (vs : List Value) → length inner ≡ width r →
    each_of (lists_of bs) (λ j. value_of_cells r y (behind j inner)) ≡ Some vs →
    value_of_cells (repr K (more_reprs r no_reprs)) (functions [] x y) inner ≡ Some (function_with (member_list x) vs)
total-view K r x y bs at none inner vs long e =
    ap (λ o. and_then o (λ (l : Layer). and_then (places_in_use l (take (own_width K) inner))
    (λ js. and_then (values_of_children (more_reprs r no_reprs) l.children (drop (own_width K) inner) js)
    (l.built (take (own_width K) inner))))) at
    ∙ ap (λ n. and_then (places_in_use (total_layer [] bs x y) (take n inner))
    (λ js. and_then (values_of_children (more_reprs r no_reprs) (y ∷ []) (drop n inner) js)
    (λ vss. Some (function_with (member_list x) (only_child vss))))) none
    ∙ built-of-values K r (functions [] x y) y (total_layer [] bs x y) [] inner (lists_of bs) vs refl long refl e

-- The function that a flag and a value for each argument give, where the arguments xs are flagged, which stand at the places js.
pub partial-view : (K : ReprKind) (r : Repr) (x y : Domain) (bs : Axes) (index : Value → List ℤ) →
    layer K (functions [] x y) ≡ Some (partial_layer [] bs index x y) → own_width K ≡ 1 →
    (g : Grid) (inner : Cells) (js : List (List ℤ)) (xs vs : List Value) → length inner ≡ width r → chosen (lists_of bs) g ≡ Some js →
    chosen (member_list x) (λ v. g (index v)) ≡ Some xs →
    each_of js (λ j. value_of_cells r y (behind j inner)) ≡ Some vs → value_of_cells (repr K (more_reprs r no_reprs)) (functions [] x y)
    (g ∷ inner) ≡ Some (function_with xs vs)
partial-view K r x y bs index at one g inner js xs vs long pl ch e =
    ap (λ o. and_then o (λ (l : Layer). and_then (places_in_use l (take (own_width K) (g ∷ inner)))
    (λ js. and_then (values_of_children (more_reprs r no_reprs) l.children (drop (own_width K) (g ∷ inner)) js)
    (l.built (take (own_width K) (g ∷ inner)))))) at
    ∙ ap (λ n. and_then (places_in_use L (take n (g ∷ inner))) (λ js. and_then
    (values_of_children (more_reprs r no_reprs) (y ∷ []) (drop n (g ∷ inner)) js) (L.built (take n (g ∷ inner))))) one
    ∙ built-of-values K r (functions [] x y) y L (g ∷ []) inner js vs refl long pl e ∙ ap (option_map (λ xs. function_with xs vs)) ch
  where
    L : Layer
    L = partial_layer [] bs index x y

-- ---- keys

-- A view of one cell is an atom's.
pub is_one_cell-atom : (r : Repr) → is_one_cell r ≡ true → r ≡ atom
is_one_cell-atom (repr ReprKind.Atom no_reprs) h = refl
is_one_cell-atom _ h = cc

module _ (q : ℕ → Text) where
  differ-settled : (l : ℕ) (as' : List Dom) (ss : List Shape) (is : Exs) (env : Env) →
      meaning (differ_ex q l as' ss is) env ≡ Some (truth (as_truth (meaning (differ_ex q l as' ss is) env)))
  differ-settled l as' [] is env = refl
  differ-settled l as' (s ∷ []) is env = refl
  differ-settled l as' (s ∷ t ∷ ss) is env = refl

  -- What is asked of a function with a value for each argument is true or false.
  pub value-key-settled : (l : ℕ) (as' : List Dom) (ss : List Shape) (is : Exs) (r : Repr) (c : Dom) (e : Ex) (env : Env) (k : Key) →
      meaning (value_key_ex q l as' ss is r c e k) env ≡ Some (truth (as_truth (meaning (value_key_ex q l as' ss is r c e k) env)))
  value-key-settled l as' ss is r c e env Key.Injective = go (is_one_cell r)
    where
      go : (b : Bool) → meaning (if b then differ_ex q l as' ss is else components_differ_ex q l c 2 e) env ≡ Some
          (truth (as_truth (meaning (if b then differ_ex q l as' ss is else components_differ_ex q l c 2 e) env)))
      go true = differ-settled l as' ss is env
      go false = refl
  value-key-settled l as' ss is r c e env _ = refl

  -- So of a function with flags.
  pub flag-key-settled : (l : ℕ) (as' : List Dom) (n : Text) (is : Exs) (c : Dom) (e : Ex) (env : Env) (k : Key) →
      meaning (flag_key_ex q l as' n is c e k) env ≡ Some (truth (as_truth (meaning (flag_key_ex q l as' n is c e k) env)))
  flag-key-settled l as' n is c e env Key.Total = refl
  flag-key-settled l as' n is c e env _ = refl
