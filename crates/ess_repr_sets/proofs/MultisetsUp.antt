-- The values of multisets, kind by kind, under what callers know: the tables are over the declared axes.
use Rattle.std.proofs.Common.{◌≡◌, refl, sym, ap, ◌∙◌, ℕ, suc, true, List, [], ◌∷◌, ◌++◌, map, ℤ, Option, Some, None, option_map}
use Rattle.ess_semantics.specs.declared.words.ReprKind.{ReprKind}
use Rattle.ess_semantics.specs.Lists.{and_then}
use Rattle.ess_semantics.specs.Values.{Value, a_mset, node, of_list}
use Rattle.ess_semantics.specs.Collections.{mset_of}
use Rattle.ess_semantics.specs.Trees.{Repr, Reprs, repr, no_reprs, more_reprs}
use Rattle.ess_semantics.specs.Numbers.{one_to, not_below_0}
use Rattle.ess_semantics.specs.Domains.{Attribute, Domain, msets, member_list}
use Rattle.ess_semantics.specs.Sizes.{slots_of_mset}
use Rattle.ess_semantics.specs.Tables.{Tables, cell_at}
use Rattle.ess_semantics.specs.Cells.{Axes}
use Rattle.ess_semantics.specs.Layers.{codes_of, up_to_marker, if_positive, repeated, each_repeated}
use Rattle.ess_semantics.specs.MultisetLayers.{repetition_layer, mset_flags_layer}
use Rattle.ess_semantics.specs.Declarations.{axes_of}
use Rattle.ess_semantics.specs.OneLayer.{layer_value}
use Rattle.ess_semantics.specs.Tidy.{over_axes}
use Rattle.ess_semantics.proofs.MemberLists.{atom-listed}
use Rattle.ess_repr_laws.specs.Rooms.{Covered}
use Rattle.ess_repr_laws.proofs.Arguments.{atom-arguments}
use Rattle.ess_repr_laws.proofs.AxesOfTables.{axes-differ, run-differs}
use Rattle.ess_repr_rows_laws.specs.Cutting.{counted_from, first_items, used_numbers}
use Rattle.ess_repr_rows_laws.specs.RowLayers.{times_of}
use Rattle.ess_repr_rows_laws.proofs.OwnCells.{each-item, slots-along}
use Rattle.ess_repr_rows_laws.proofs.LayerUpRows.{value-with-child}
use Rattle.ess_repr_rows_laws.proofs.LayerValues.{mset-occurrence-value, repetition-value}
use Rattle.ess_repr_sets.proofs.OverDeclared.{first-over, rest-over, over-child}
use Rattle.ess_repr_sets.proofs.SetsUp.{slots-volume}

-- Where no number is below 0, it is known which slots are in use.
counted-known : {B : Type 0} (f : List ℕ → B) (k : ℕ) (is : List ℤ) → and_then (counted_from k is) (λ ns. option_map f (times_of is)) ≡ option_map f (times_of is)
counted-known f k [] = refl
counted-known {B = B} f k (i ∷ is) = go (not_below_0 i) (counted-known (λ ns. ns) (suc k) is)
  where
    go : (o : Option ℕ) → and_then (counted_from (suc k) is) (λ ns. option_map (λ ns. ns) (times_of is)) ≡ option_map (λ ns. ns) (times_of is) →
        and_then (and_then o (λ m. option_map (if_positive m k) (counted_from (suc k) is))) (λ ns. option_map f (and_then o (λ y. option_map (λ ys. y ∷ ys) (times_of is))))
        ≡ option_map f (and_then o (λ y. option_map (λ ys. y ∷ ys) (times_of is)))
    go None ih = refl
    go (Some m) ih = both (counted_from (suc k) is) (times_of is) ih
      where
        both : (q : Option (List ℕ)) (w : Option (List ℕ)) → and_then q (λ ns. option_map (λ ns. ns) w) ≡ option_map (λ ns. ns) w →
            and_then (option_map (if_positive m k) q) (λ ns. option_map f (option_map (λ ys. m ∷ ys) w)) ≡ option_map f (option_map (λ ys. m ∷ ys) w)
        both (Some ns) w ih = refl
        both None None ih = refl
        both None (Some ns) ih = cc

module _ (ks : List Attribute) (e : Domain) (ts : Tables) where
  abbrev n : ℕ
  n = slots_of_mset ks e

  abbrev inner : Repr → List Axes
  inner r = map (λ as'. (one_to n ∷ []) ++ as') (axes_of r e)

  -- By how often the members occur.
  pub counts-up : (vs : List Value) (rs : Reprs) → Covered (repr ReprKind.MSetOccurrence rs) (msets ks e) → over_axes [] (axes_of (repr ReprKind.MSetOccurrence rs) (msets ks e)) ts ≡ true →
      option_map (λ ns. node a_mset (of_list (each_repeated ns (member_list e)))) (times_of (first_items ts)) ≡ layer_value ReprKind.MSetOccurrence (msets ks e) ts vs
  counts-up vs (more_reprs r rs) c h = absurd c
  counts-up vs no_reprs c h = go ts h
    where
      go : (ts : Tables) → over_axes [] ((codes_of e ∷ []) ∷ []) ts ≡ true →
          option_map (λ ns. node a_mset (of_list (each_repeated ns (member_list e)))) (times_of (first_items ts)) ≡ layer_value ReprKind.MSetOccurrence (msets ks e) ts vs
      go [] h = cc
      go (t ∷ u ∷ ts) h = let z = rest-over (codes_of e ∷ []) [] t (u ∷ ts) h in cc
      go (t ∷ []) h =
          let d = axes-differ (repr ReprKind.MSetOccurrence no_reprs) (msets ks e) c in
          sym (mset-occurrence-value ks e t vs (atom-arguments e (atom-listed e c)) d.0 (first-over (codes_of e ∷ []) [] t [] h))

  -- Up to a marker.
  pub repetition-up : (vs : List Value) (rs : Reprs) → Covered (repr ReprKind.MSetExplicitWithRepetition rs) (msets ks e) →
      over_axes [] (axes_of (repr ReprKind.MSetExplicitWithRepetition rs) (msets ks e)) ts ≡ true →
      option_map (λ ns. mset_of vs) (used_numbers up_to_marker (slots_of_mset ks e) ts) ≡ layer_value ReprKind.MSetExplicitWithRepetition (msets ks e) ts vs
  repetition-up vs no_reprs c h = absurd c
  repetition-up vs (more_reprs r (more_reprs s rs)) c h = absurd c
  repetition-up vs (more_reprs r no_reprs) c h = go ts (over-child ReprKind.MSetExplicitWithRepetition r (msets ks e) e (repetition_layer ks e) refl refl ts h)
    where
      go : (ts : Tables) → over_axes [] ([] ∷ inner r) ts ≡ true →
          option_map (λ ns. mset_of vs) (used_numbers up_to_marker n ts) ≡ layer_value ReprKind.MSetExplicitWithRepetition (msets ks e) ts vs
      go [] h = cc
      go (t ∷ ts) h =
          let o = first-over [] (inner r) t ts h in
          ap (λ k. option_map (λ ns. mset_of vs) (used_numbers up_to_marker k (t ∷ []))) (sym (slots-volume n))
          ∙ sym (repetition-value r ks e (axes_of r e) t ts vs o.over (rest-over [] (inner r) t ts h))

  -- With how often the member of each slot occurs.
  pub counted-up : (vs : List Value) (rs : Reprs) → Covered (repr ReprKind.MSetExplicitWithFlags rs) (msets ks e) →
      over_axes [] (axes_of (repr ReprKind.MSetExplicitWithFlags rs) (msets ks e)) ts ≡ true →
      option_map (λ ns. mset_of (repeated ns vs)) (times_of (first_items ts)) ≡ layer_value ReprKind.MSetExplicitWithFlags (msets ks e) ts vs
  counted-up vs no_reprs c h = absurd c
  counted-up vs (more_reprs r (more_reprs s rs)) c h = absurd c
  counted-up vs (more_reprs r no_reprs) c h = go ts (over-child ReprKind.MSetExplicitWithFlags r (msets ks e) e (mset_flags_layer ks e) refl refl ts h)
    where
      go : (ts : Tables) → over_axes [] ((one_to n ∷ []) ∷ inner r) ts ≡ true →
          option_map (λ ns. mset_of (repeated ns vs)) (times_of (first_items ts)) ≡ layer_value ReprKind.MSetExplicitWithFlags (msets ks e) ts vs
      go [] h = cc
      go (t ∷ ts) h =
          let o = first-over (one_to n ∷ []) (inner r) t ts h in
          sym (value-with-child ReprKind.MSetExplicitWithFlags (msets ks e) e (mset_flags_layer ks e) (axes_of r e) (t ∷ ts) refl refl (run-differs 1 n, tt) (o.over, o.filled)
          (rest-over (one_to n ∷ []) (inner r) t ts h) vs
          ∙ ap (λ q. and_then (counted_from 0 t.items) (λ ns. option_map (λ ns. mset_of (repeated ns vs)) q))
          (each-item (one_to n) t.items (λ k. cell_at t (k ∷ [])) not_below_0 (slots-along (one_to n) (run-differs 1 n, tt) t o))
          ∙ counted-known (λ ns. mset_of (repeated ns vs)) 0 t.items)
