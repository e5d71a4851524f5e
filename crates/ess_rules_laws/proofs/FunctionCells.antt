-- A function kept by argument: what its tidy cells stand for, argument by argument.
use Rattle.std.proofs.Common.{◌≡◌, refl, sym, ap, ◌∙◌, subst, Bool, true, false, ◌&&◌, if◌then◌else◌, List, [], ◌∷◌, map, ℤ, Option, Some, None, option_map}
use Rattle.std.specs.List.{list_all}
use Rattle.ess_semantics.specs.declared.words.ReprKind.{ReprKind}
use Rattle.ess_semantics.specs.Lists.{and_then, each_of, is_some_and}
use Rattle.ess_semantics.specs.Values.{Value, from_of, to_of, pair}
use Rattle.ess_semantics.specs.Collections.{rises}
use Rattle.ess_semantics.specs.Trees.{Repr, repr, no_reprs, more_reprs}
use Rattle.ess_semantics.specs.Domains.{Attribute, Domain, functions, lists_of, member_list}
use Rattle.ess_semantics.specs.Membership.{is_pair, member}
use Rattle.ess_semantics.specs.Tables.{truth_of}
use Rattle.ess_semantics.specs.Cells.{Cells, Axes}
use Rattle.ess_semantics.specs.Layers.{Layer, own_cell, chosen, only_child}
use Rattle.ess_semantics.specs.FunctionLayers.{with_arguments, function_with, total_layer, partial_layer}
use Rattle.ess_semantics.specs.Representations.{layer, own_part, child_part, places_in_use, values_of_children, value_of_cells}
use Rattle.ess_semantics.specs.CanonicalTest.{in_use_first}
use Rattle.ess_semantics.specs.Tidy.{tidy_cells, is_orderly, are_orderly}
use Rattle.ess_semantics.proofs.Tests.{and-left, and-right}
use Rattle.ess_semantics.proofs.Orders.{to_list-of_list}
use Rattle.ess_rules_laws.proofs.SlotSets.{In, orderly_in}

no : {A : Type 0} → false ≡ true → A
no h = cc

-- Whether the value is a pair of an argument and a result.
abbrev is_pair_in : Domain → Domain → Value → Bool
is_pair_in d c p = is_pair p && member d (from_of p) && member c (to_of p)

-- The chosen of items that an index gives.
pub chosen-map : (index : Value → List ℤ) (f : List ℤ → Option ℤ) (xs : List Value) →
    chosen (map index xs) f ≡ option_map (map index) (chosen xs (λ x. f (index x)))
chosen-map index f [] = refl
chosen-map index f (x ∷ xs) = go (and_then (f (index x)) truth_of) (chosen xs (λ x. f (index x))) (chosen-map index f xs)
  where
    pick : (b : Bool) (ys : List Value) → (if b then index x ∷ map index ys else map index ys) ≡ map index (if b then x ∷ ys else ys)
    pick true ys = refl
    pick false ys = refl

    go : (o : Option Bool) (c : Option (List Value)) → chosen (map index xs) f ≡ option_map (map index) c →
        and_then o (λ b. option_map (λ ys. if b then index x ∷ ys else ys) (chosen (map index xs) f)) ≡
        option_map (map index) (and_then o (λ b. option_map (λ ys. if b then x ∷ ys else ys) c))
    go None c e = refl
    go (Some b) None e = ap (option_map (λ ys. if b then index x ∷ ys else ys)) e
    go (Some b) (Some ys) e = ap (option_map (λ ys. if b then index x ∷ ys else ys)) e ∙ ap Some (pick b ys)

module _ (k : ReprKind) (r : Repr) (ks : List Attribute) (d c : Domain) (index : Value → List ℤ) where
  abbrev R : Repr
  R = repr k (more_reprs r no_reprs)

  abbrev F : Domain
  F = functions ks d c

  -- What tidy cells stand for: the results vs at the arguments ys in use.
  pub record FunctionStands (cs : Cells) (ys : List Value) : Type 0 where
    pub vs : List Value
    pub values : each_of (map index ys) (In r c (child_part k cs)) ≡ Some vs
    pub is_value : value_of_cells R F cs ≡ Some (function_with ys vs)
    pub rising : rises from_of (with_arguments ys vs) ≡ true
    pub typed : list_all (member c) vs ≡ true
    pub orderly : list_all (orderly_in r c (child_part k cs)) (map index ys) ≡ true

  -- Results of pairs are as the pairs.
  results-typed : (f : List ℤ → Option Value) (ys vs : List Value) → each_of (map index ys) f ≡ Some vs →
      list_all (is_pair_in d c) (with_arguments ys vs) ≡ true → list_all (member c) vs ≡ true
  results-typed f [] vs q h = subst (λ l. list_all (member c) l ≡ true) (let e : [] ≡ vs = cc in e) refl
  results-typed f (y ∷ ys) vs q h = go (f (index y)) (each_of (map index ys) f) refl q h (λ us j g. results-typed f ys us j g)
    where
      both : (b e : Bool) → b ≡ true → e ≡ true → b && e ≡ true
      both true true p q = refl
      both true false p q = no q
      both false e p q = no p

      go : (o : Option Value) (p : Option (List Value)) → each_of (map index ys) f ≡ p →
          and_then o (λ v. option_map (λ us. v ∷ us) p) ≡ Some vs → list_all (is_pair_in d c) (with_arguments (y ∷ ys) vs) ≡ true →
          ((us : List Value) → each_of (map index ys) f ≡ Some us → list_all (is_pair_in d c) (with_arguments ys us) ≡ true →
          list_all (member c) us ≡ true) →
          list_all (member c) vs ≡ true
      go None p j q h k = cc
      go (Some v) None j q h k = cc
      go (Some v) (Some us) j q h k = let e : v ∷ us ≡ vs = cc in
          let g : list_all (is_pair_in d c) (with_arguments (y ∷ ys) (v ∷ us)) ≡ true =
          ap (λ l. list_all (is_pair_in d c) (with_arguments (y ∷ ys) l)) e ∙ h in
          subst (λ l. list_all (member c) l ≡ true) e
          (both (member c v) (list_all (member c) us) (and-right (member d y) _ (and-left _ _ g))
          (k us j (and-right (is_pair_in d c (pair y v)) _ g)))

  -- What is made of results at ys.
  abbrev Made : List Value → Option (List Value) → Option Value
  Made ys o = and_then (and_then o (λ vs. option_map (λ vss. vs ∷ vss) (Some []))) (λ vss. Some (function_with ys (only_child vss)))

  made-stands : (cs : Cells) (ys : List Value) (l : Layer) (js : List (List ℤ)) → js ≡ map index ys →
      value_of_cells R F cs ≡ Made ys (each_of js (In r c (child_part k cs))) → is_some_and (value_of_cells R F cs) (member F) ≡ true →
      are_orderly l (more_reprs r no_reprs) (c ∷ []) (child_part k cs) js ≡ true → FunctionStands cs ys
  made-stands cs ys l js e q m o = go (each_of (map index ys) (In r c (child_part k cs))) refl
    where
      is-made : value_of_cells R F cs ≡ Made ys (each_of (map index ys) (In r c (child_part k cs)))
      is-made = q ∙ ap (λ l. Made ys (each_of l (In r c (child_part k cs)))) e

      go : (p : Option (List Value)) → each_of (map index ys) (In r c (child_part k cs)) ≡ p → FunctionStands cs ys
      go None j = no (sym (ap (λ o. is_some_and o (member F)) (is-made ∙ ap (Made ys) j)) ∙ m)
      go (Some vs) j = let v = is-made ∙ ap (Made ys) j in
          let a : member F (function_with ys vs) ≡ true = sym (ap (λ o. is_some_and o (member F)) v) ∙ m in
          let z = to_list-of_list (with_arguments ys vs) in record {
            vs = vs;
            values = j;
            is_value = v;
            rising = sym (ap (rises from_of) z) ∙ and-left _ _ (and-left _ _ a);
            typed = results-typed (In r c (child_part k cs)) ys vs j (sym (ap (list_all (is_pair_in d c)) z)
                ∙ and-right _ _ (and-left _ _ a));
            orderly = sym (ap (list_all (orderly_in r c (child_part k cs))) e) ∙ and-left _ _ (and-left _ _ o);
          }

  -- What orderly cells of a layer's places are.
  abbrev Orderly : Layer → Cells → Option (List (List ℤ)) → Bool
  Orderly l cs o = is_some_and o (are_orderly l (more_reprs r no_reprs) l.children (child_part k cs))

  -- The value of a partial function, from the chosen arguments and their places.
  abbrev Value-of : Cells → Option (List Value) → Option (List (List ℤ)) → Option Value
  Value-of cs o p = and_then p (λ js. and_then (values_of_children (more_reprs r no_reprs) (c ∷ []) (child_part k cs) js)
      (λ vss. option_map (λ xs. function_with xs (only_child vss)) o))

  module _ (axes : Axes) (places-are : lists_of axes ≡ map index (member_list d)) (cs : Cells) where
    abbrev Own : Cells
    Own = own_part k cs

    module _ (l : Layer) (is_layer : layer k F ≡ Some l) where
      layer-value : value_of_cells R F cs ≡
          and_then (places_in_use l Own) (λ js. and_then (values_of_children (more_reprs r no_reprs) l.children (child_part k cs) js)
          (l.built Own))
      layer-value = ap (λ o. and_then o (λ l. and_then (places_in_use l Own)
          (λ js. and_then (values_of_children (more_reprs r no_reprs) l.children (child_part k cs) js) (l.built Own)))) is_layer

      layer-orderly : is_orderly R F cs ≡ true → Orderly l cs (places_in_use l Own) ≡ true
      layer-orderly h = and-right (l.is_tidy Own && in_use_first l Own) _
          (sym (ap (λ o. is_some_and o (λ l. l.is_tidy Own && in_use_first l Own && Orderly l cs (places_in_use l Own))) is_layer) ∙ h)

    -- Of a total function each member of the first domain is in use.
    pub total-stands : layer k F ≡ Some (total_layer ks axes d c) → tidy_cells R F cs ≡ true → FunctionStands cs (member_list d)
    total-stands is_layer h = made-stands cs (member_list d) (total_layer ks axes d c) (lists_of axes) places-are
        (layer-value (total_layer ks axes d c) is_layer)
        (and-left _ (is_orderly R F cs) h) (layer-orderly (total_layer ks axes d c) is_layer (and-right _ (is_orderly R F cs) h))

    abbrev Chosen : Option (List Value)
    Chosen = chosen (member_list d) (λ x. own_cell Own (index x))

    places : places_in_use (partial_layer ks axes index d c) Own ≡ option_map (map index) Chosen
    places = ap (λ z. chosen z (own_cell Own)) places-are ∙ chosen-map index (own_cell Own) (member_list d)

    -- Of one with flags those are that the flags choose.
    pub partial-stands : layer k F ≡ Some (partial_layer ks axes index d c) → tidy_cells R F cs ≡ true →
        (ys : List Value) × (Chosen ≡ Some ys) × FunctionStands cs ys
    partial-stands is_layer h = go Chosen refl (layer-orderly (partial_layer ks axes index d c) is_layer
        (and-right _ (is_orderly R F cs) h))
      where
        go : (o : Option (List Value)) → Chosen ≡ o → Orderly (partial_layer ks axes index d c) cs
            (places_in_use (partial_layer ks axes index d c) Own) ≡ true →
            (ys : List Value) × (Chosen ≡ Some ys) × FunctionStands cs ys
        go None q m = no (sym (ap (Orderly (partial_layer ks axes index d c) cs) (places ∙ ap (option_map (map index)) q)) ∙ m)
        go (Some ys) q m = (
          ys,
          q,
          made-stands cs ys (partial_layer ks axes index d c) (map index ys) refl
              (layer-value (partial_layer ks axes index d c) is_layer ∙ ap (Value-of cs Chosen) (places ∙ ap (option_map (map index)) q)
              ∙ ap (λ o. Value-of cs o (Some (map index ys))) q)
              (and-left _ (is_orderly R F cs) h)
              (sym (ap (Orderly (partial_layer ks axes index d c) cs) (places ∙ ap (option_map (map index)) q)) ∙ m),
        )
