-- The values of sets, kind by kind, under what callers know: the tables are over the declared axes.
use Rattle.std.proofs.Common.{◌≡◌, refl, sym, ap, ◌∙◌, ℕ, true, List, [], ◌∷◌, ◌++◌, map, length, ℤ, pos, ◌+ℤ◌, Option, Some, None, is_some, option_map, IsTrue, mul-one}
use Rattle.ess_semantics.specs.declared.words.ReprKind.{ReprKind}
use Rattle.ess_semantics.specs.Lists.{and_then, each_of, append_all}
use Rattle.ess_semantics.specs.Values.{Value, a_set, node, of_list}
use Rattle.ess_semantics.specs.Collections.{set_of}
use Rattle.ess_semantics.specs.Trees.{Reprs, repr, no_reprs, more_reprs}
use Rattle.ess_semantics.specs.Numbers.{one_to}
use Rattle.ess_semantics.specs.Domains.{Attribute, Domain, booleans, integers, named, tuples, records, matrices, sets, msets, functions, relations, partitions, member_list}
use Rattle.ess_semantics.specs.Sizes.{slots_of_set}
use Rattle.ess_semantics.specs.Tables.{Tables, volume}
use Rattle.ess_semantics.specs.Cells.{Axes}
use Rattle.ess_semantics.specs.Layers.{codes_of, up_to_marker, where_flagged}
use Rattle.ess_semantics.specs.SetLayers.{dummy_of, but_dummy, explicit_layer, marker_layer, flags_layer}
use Rattle.ess_semantics.specs.Declarations.{axes_of}
use Rattle.ess_semantics.specs.OneLayer.{layer_value}
use Rattle.ess_semantics.specs.Tidy.{over_axes}
use Rattle.ess_semantics.proofs.Tests.{run-length}
use Rattle.ess_semantics.proofs.MemberLists.{atom-listed}
use Rattle.ess_repr_laws.specs.Rooms.{HasDummy, Covered}
use Rattle.ess_repr_laws.proofs.Arguments.{atom-arguments}
use Rattle.ess_repr_laws.proofs.AxesOfTables.{axes-differ}
use Rattle.ess_repr_rows_laws.specs.Cutting.{first_items, used_numbers}
use Rattle.ess_repr_rows_laws.specs.RowLayers.{picked}
use Rattle.ess_repr_rows_laws.proofs.LayerValues.{occurrence-value, dummy-value, explicit-value, marker-value, flags-value}
use Rattle.ess_repr_sets.proofs.OverDeclared.{first-over, rest-over, over-child}

-- The places of n slots.
pub slots-volume : (n : ℕ) → volume (one_to n ∷ []) ≡ n
slots-volume n = mul-one (length (one_to n)) ∙ run-length 1 n

-- There is a dummy where there can be one.
has-dummy : (d : Domain) → HasDummy d → dummy_of d ≡ None → ⊥
has-dummy (integers []) h e = absurd h
has-dummy (integers (s ∷ [])) h e = go s.high h e
  where
    go : (o : Option ℤ) → IsTrue (is_some o) → option_map (λ b. b +ℤ pos 1) o ≡ None → ⊥
    go None h e = cc
    go (Some b) h e = cc
has-dummy (integers (s ∷ t ∷ ss)) h e = absurd h
has-dummy (named t n) h e = cc
has-dummy booleans h e = absurd h
has-dummy (tuples ds) h e = absurd h
has-dummy (records fs ds) h e = absurd h
has-dummy (matrices is d) h e = absurd h
has-dummy (sets ks d) h e = absurd h
has-dummy (msets ks d) h e = absurd h
has-dummy (functions ks d c) h e = absurd h
has-dummy (relations ks ds) h e = absurd h
has-dummy (partitions ks d) h e = absurd h

module _ (ks : List Attribute) (e : Domain) (ts : Tables) where
  -- By the members that occur.
  pub occurrence-up : (vs : List Value) (rs : Reprs) → Covered (repr ReprKind.Occurrence rs) (sets ks e) → over_axes [] (axes_of (repr ReprKind.Occurrence rs) (sets ks e)) ts ≡ true →
      option_map (λ xs. node a_set (of_list xs)) (picked (first_items ts) (member_list e)) ≡ layer_value ReprKind.Occurrence (sets ks e) ts vs
  occurrence-up vs (more_reprs r rs) c h = absurd c
  occurrence-up vs no_reprs c h = go ts h
    where
      go : (ts : Tables) → over_axes [] ((codes_of e ∷ []) ∷ []) ts ≡ true → option_map (λ xs. node a_set (of_list xs)) (picked (first_items ts) (member_list e)) ≡ layer_value ReprKind.Occurrence (sets ks e) ts vs
      go [] h = cc
      go (t ∷ u ∷ ts) h = let z = rest-over (codes_of e ∷ []) [] t (u ∷ ts) h in cc
      go (t ∷ []) h =
          let d = axes-differ (repr ReprKind.Occurrence no_reprs) (sets ks e) c in
          sym (occurrence-value ks e t vs (atom-arguments e (atom-listed e c)) d.0 (first-over (codes_of e ∷ []) [] t [] h))

  -- With dummies.
  dummy-up : (m : ℤ) → dummy_of e ≡ Some m → (vs : List Value) (rs : Reprs) → Covered (repr ReprKind.ExplicitVarSizeWithDummy rs) (sets ks e) →
      over_axes [] (axes_of (repr ReprKind.ExplicitVarSizeWithDummy rs) (sets ks e)) ts ≡ true →
      option_map (λ ls. set_of (append_all ls)) (each_of (first_items ts) (but_dummy e m)) ≡ layer_value ReprKind.ExplicitVarSizeWithDummy (sets ks e) ts vs
  dummy-up m dummy vs (more_reprs r rs) c h = absurd c
  dummy-up m dummy vs no_reprs c h = go ts h
    where
      a : Axes
      a = one_to (slots_of_set ks e) ∷ []

      go : (ts : Tables) → over_axes [] (a ∷ []) ts ≡ true →
          option_map (λ ls. set_of (append_all ls)) (each_of (first_items ts) (but_dummy e m)) ≡ layer_value ReprKind.ExplicitVarSizeWithDummy (sets ks e) ts vs
      go [] h = cc
      go (t ∷ u ∷ ts) h = let z = rest-over a [] t (u ∷ ts) h in cc
      go (t ∷ []) h = sym (dummy-value ks e m t vs dummy (first-over a [] t [] h))

  dummy-there : (rs : Reprs) → Covered (repr ReprKind.ExplicitVarSizeWithDummy rs) (sets ks e) → dummy_of e ≡ None → ⊥
  dummy-there no_reprs c n = has-dummy e c n
  dummy-there (more_reprs r rs) c n = absurd c

  pub dummy-value-up : (vs : List Value) (rs : Reprs) → Covered (repr ReprKind.ExplicitVarSizeWithDummy rs) (sets ks e) →
      over_axes [] (axes_of (repr ReprKind.ExplicitVarSizeWithDummy rs) (sets ks e)) ts ≡ true →
      and_then (dummy_of e) (λ m. option_map (λ ls. set_of (append_all ls)) (each_of (first_items ts) (but_dummy e m))) ≡ layer_value ReprKind.ExplicitVarSizeWithDummy (sets ks e) ts vs
  dummy-value-up vs rs c h = go (dummy_of e) refl
    where
      set : ℤ → Option Value
      set m = option_map (λ ls. set_of (append_all ls)) (each_of (first_items ts) (but_dummy e m))

      go : (o : Option ℤ) → dummy_of e ≡ o → and_then o set ≡ layer_value ReprKind.ExplicitVarSizeWithDummy (sets ks e) ts vs
      go None q = absurd (dummy-there rs c q)
      go (Some m) q = dummy-up m q vs rs c h

  -- With the members in all slots.
  pub explicit-up : (vs : List Value) (rs : Reprs) → Covered (repr ReprKind.Explicit rs) (sets ks e) → over_axes [] (axes_of (repr ReprKind.Explicit rs) (sets ks e)) ts ≡ true →
      Some (set_of vs) ≡ layer_value ReprKind.Explicit (sets ks e) ts vs
  explicit-up vs no_reprs c h = absurd c
  explicit-up vs (more_reprs r (more_reprs s rs)) c h = absurd c
  explicit-up vs (more_reprs r no_reprs) c h =
      sym (explicit-value r ks e (axes_of r e) ts vs (over-child ReprKind.Explicit r (sets ks e) e (explicit_layer ks e) refl refl ts h))

  -- Up to a marker.
  pub marker-up : (vs : List Value) (rs : Reprs) → Covered (repr ReprKind.ExplicitVarSizeWithMarker rs) (sets ks e) →
      over_axes [] (axes_of (repr ReprKind.ExplicitVarSizeWithMarker rs) (sets ks e)) ts ≡ true →
      option_map (λ ns. set_of vs) (used_numbers up_to_marker (slots_of_set ks e) ts) ≡ layer_value ReprKind.ExplicitVarSizeWithMarker (sets ks e) ts vs
  marker-up vs no_reprs c h = absurd c
  marker-up vs (more_reprs r (more_reprs s rs)) c h = absurd c
  marker-up vs (more_reprs r no_reprs) c h = go ts (over-child ReprKind.ExplicitVarSizeWithMarker r (sets ks e) e (marker_layer ks e) refl refl ts h)
    where
      n : ℕ
      n = slots_of_set ks e

      inner : List Axes
      inner = map (λ as'. (one_to n ∷ []) ++ as') (axes_of r e)

      go : (ts : Tables) → over_axes [] ([] ∷ inner) ts ≡ true →
          option_map (λ ns. set_of vs) (used_numbers up_to_marker n ts) ≡ layer_value ReprKind.ExplicitVarSizeWithMarker (sets ks e) ts vs
      go [] h = cc
      go (t ∷ ts) h =
          let o = first-over [] inner t ts h in
          ap (λ k. option_map (λ ns. set_of vs) (used_numbers up_to_marker k (t ∷ []))) (sym (slots-volume n))
          ∙ sym (marker-value r ks e (axes_of r e) t ts vs o.over (rest-over [] inner t ts h))

  -- With flags.
  pub flags-up : (vs : List Value) (rs : Reprs) → Covered (repr ReprKind.ExplicitVarSizeWithFlags rs) (sets ks e) →
      over_axes [] (axes_of (repr ReprKind.ExplicitVarSizeWithFlags rs) (sets ks e)) ts ≡ true →
      option_map (λ ns. set_of vs) (used_numbers where_flagged (slots_of_set ks e) ts) ≡ layer_value ReprKind.ExplicitVarSizeWithFlags (sets ks e) ts vs
  flags-up vs no_reprs c h = absurd c
  flags-up vs (more_reprs r (more_reprs s rs)) c h = absurd c
  flags-up vs (more_reprs r no_reprs) c h = go ts (over-child ReprKind.ExplicitVarSizeWithFlags r (sets ks e) e (flags_layer ks e) refl refl ts h)
    where
      n : ℕ
      n = slots_of_set ks e

      inner : List Axes
      inner = map (λ as'. (one_to n ∷ []) ++ as') (axes_of r e)

      go : (ts : Tables) → over_axes [] ((one_to n ∷ []) ∷ inner) ts ≡ true →
          option_map (λ ns. set_of vs) (used_numbers where_flagged n ts) ≡ layer_value ReprKind.ExplicitVarSizeWithFlags (sets ks e) ts vs
      go [] h = cc
      go (t ∷ ts) h = sym (flags-value r ks e (axes_of r e) t ts vs (first-over (one_to n ∷ []) inner t ts h) (rest-over (one_to n ∷ []) inner t ts h))
