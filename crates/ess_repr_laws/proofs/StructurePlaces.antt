-- The tables of a child under further axes, and a constraint that holds at each place of these axes.
use Rattle.std.proofs.Common.{◌≡◌, refl, sym, ap, ◌∙◌, subst, ℕ, suc, ◌+◌, ◌<◌, Bool, true, false, ◌&&◌, List, [], ◌∷◌, ◌++◌, map, length, ℤ, pos, ◌+ℤ◌, arith, Option, Some, option_map, append-nil, append_assoc}
use Rattle.std.proofs.lemmas.List.{map-append}
use Rattle.std.proofs.Math.Path.{fun_ext}
use Rattle.std.specs.List.{list_all}
use Rattle.ess_semantics.specs.declared.words.Fun.{Fun}
use Rattle.ess_semantics.proofs.Orders.{to_list-of_list}
use Rattle.ess_semantics.specs.Lists.{and_then}
use Rattle.ess_semantics.specs.Values.{Text, Value, number, truth}
use Rattle.ess_semantics.specs.Order.{same_text}
use Rattle.ess_semantics.specs.Trees.{word, Ex, Exs, no_exs, name_ex, number_ex, Dom}
use Rattle.ess_semantics.specs.Domains.{add_heads, lists_of}
use Rattle.ess_semantics.specs.Operators.{all_true, list_value, sum_of, false_where_undefined, value_of_node}
use Rattle.ess_semantics.specs.Tables.{Tables, code, cell_at}
use Rattle.ess_semantics.specs.Cells.{every_cell}
use Rattle.ess_semantics.specs.Meaning.{Env, meaning, items_under, collect}
use Rattle.ess_semantics.proofs.Connectives.{all-means}
use Rattle.ess_repr_laws.proofs.CanonicalPlaces.{AllOf, all-of-map}
use Rattle.ess_repr_laws.proofs.FittingCells.{every-under}
use Rattle.ess_repr_laws.specs.StructureParts.{Shape, add_ex, row_gens, row_index, each_ex, place_count_ex, level_behind, on_axes}
use Rattle.ess_repr_laws.specs.StructureMeaning.{Number, fit, Bound, M, AxesAre, Placed, on_members}
use Rattle.ess_repr_laws.proofs.StructureRows.{Steady, There, codes, grid_at, steady-name}

module _ (env0 : Env) (q : ℕ → Text) (q-apart : (m l : ℕ) → l < m → same_text (q m) (q l) ≡ false) where
  -- There are as many tables as shapes.
  pub placed-long : (ss : List Shape) (vsss : List (List (List Value))) (ts : Tables) → Placed env0 q q-apart ss vsss ts → length ts ≡ length ss
  placed-long [] [] [] h = refl
  placed-long (s ∷ ss) (vss ∷ vsss) (t ∷ ts) h = ap suc (placed-long ss vsss ts h.2)
  placed-long [] [] (t ∷ ts) h = absurd h
  placed-long [] (vss ∷ vsss) ts h = absurd h
  placed-long (s ∷ ss) [] ts h = absurd h
  placed-long (s ∷ ss) (vss ∷ vsss) [] h = absurd h

  axes-behind : (as' bs' : List Dom) (uss vss : List (List Value)) → length as' ≡ length uss → AxesAre env0 q q-apart (as' ++ bs') (uss ++ vss) → AxesAre env0 q q-apart bs' vss
  axes-behind [] bs' [] vss e h = h
  axes-behind (a ∷ as') bs' (us ∷ uss) vss e h = let e' : length as' ≡ length uss = cc in axes-behind as' bs' uss vss e' h.1
  axes-behind [] bs' (us ∷ uss) vss e h = cc
  axes-behind (a ∷ as') bs' [] vss e h = cc

  -- The tables of a child are found by their names.
  pub inner-placed : (as' : List Dom) (uss : List (List Value)) (ss : List Shape) (vsss : List (List (List Value))) (ts : Tables) → length as' ≡ length uss →
      Placed env0 q q-apart (map (on_axes as') ss) (on_members uss vsss) ts → Placed env0 q q-apart ss vsss ts
  inner-placed as' uss [] [] [] e h = tt
  inner-placed as' uss (s ∷ ss) (vss ∷ vsss) (t ∷ ts) e h = (h.0, axes-behind as' s.axes uss vss e h.1, inner-placed as' uss ss vsss ts e h.2)
  inner-placed as' uss [] [] (t ∷ ts) e h = absurd h
  inner-placed as' uss [] (vss ∷ vsss) ts e h = absurd h
  inner-placed as' uss (s ∷ ss) [] ts e h = absurd h
  inner-placed as' uss (s ∷ ss) (vss ∷ vsss) [] e h = absurd h

  axes-join : (as' bs' : List Dom) (uss vss : List (List Value)) → AxesAre env0 q q-apart as' uss → AxesAre env0 q q-apart bs' vss → AxesAre env0 q q-apart (as' ++ bs') (uss ++ vss)
  axes-join [] bs' [] vss h k = k
  axes-join (a ∷ as') bs' (us ∷ uss) vss h k = (h.0, axes-join as' bs' uss vss h.1 k)
  axes-join [] bs' (us ∷ uss) vss h k = absurd h
  axes-join (a ∷ as') bs' [] vss h k = absurd h

  -- A child's tables are those of the view, under its axes.
  pub outer-placed : (as' : List Dom) (uss : List (List Value)) → AxesAre env0 q q-apart as' uss → (ss : List Shape) (vsss : List (List (List Value))) (ts : Tables) →
      Placed env0 q q-apart ss vsss ts → Placed env0 q q-apart (map (on_axes as') ss) (on_members uss vsss) ts
  outer-placed as' uss ax [] [] [] h = tt
  outer-placed as' uss ax (s ∷ ss) (vss ∷ vsss) (t ∷ ts) h = (h.0, axes-join as' s.axes uss vss ax h.1, outer-placed as' uss ax ss vsss ts h.2)
  outer-placed as' uss ax [] [] (t ∷ ts) h = absurd h
  outer-placed as' uss ax [] (vss ∷ vsss) ts h = absurd h
  outer-placed as' uss ax (s ∷ ss) [] ts h = absurd h
  outer-placed as' uss ax (s ∷ ss) (vss ∷ vsss) [] h = absurd h

  -- Cells that are there at each place are there.
  pub outer-there : (as' : List Dom) (uss : List (List Value)) (ss : List Shape) (vsss : List (List (List Value))) (ts : Tables) (i : List ℤ) →
      AllOf (lists_of (codes env0 q q-apart uss)) (λ p. There env0 q q-apart ss vsss ts (i ++ p)) → There env0 q q-apart (map (on_axes as') ss) (on_members uss vsss) ts i
  outer-there as' uss [] vsss ts i h = tt
  outer-there as' uss (s ∷ ss) [] ts i h = tt
  outer-there as' uss (s ∷ ss) (vss ∷ vsss) [] i h = tt
  outer-there as' uss (s ∷ ss) (vss ∷ vsss) (t ∷ ts) i h = (
    ap (λ as'. every_cell as' (fit s.truth) (grid_at env0 q q-apart t i)) (map-append (map code) uss vss)
        ∙ every-under (codes env0 q q-apart uss) (codes env0 q q-apart vss) (fit s.truth) (grid_at env0 q q-apart t i)
        (all-of-map (lists_of (codes env0 q q-apart uss)) (λ p. There env0 q q-apart (s ∷ ss) (vss ∷ vsss) (t ∷ ts) (i ++ p))
        (λ p. every_cell (codes env0 q q-apart vss) (fit s.truth) (λ js. cell_at t (i ++ (p ++ js))) ≡ true)
        (λ p x. ap (every_cell (codes env0 q q-apart vss) (fit s.truth)) (fun_ext (λ js. ap (cell_at t) (sym (append_assoc i p js)))) ∙ x.0) h),
    outer-there as' uss ss vsss ts i
        (all-of-map (lists_of (codes env0 q q-apart uss)) (λ p. There env0 q q-apart (s ∷ ss) (vss ∷ vsss) (t ∷ ts) (i ++ p)) (λ p. There env0 q q-apart ss vsss ts (i ++ p)) (λ p x. x.1) h),
  )

  -- What a constraint means at a place: whatever is bound so that the index list is that of the place.
  abbrev pub ValueAt : ℕ → Exs → Ex → List ℤ → Value → Type 0
  ValueAt l is part js v = (cs : Bound env0 q q-apart) → Steady env0 q q-apart l is js cs → meaning part (M env0 q q-apart cs) ≡ Some v

  -- The same of a truth value.
  abbrev pub MeansAt : ℕ → Exs → Ex → List ℤ → Bool → Type 0
  MeansAt l is part js b = ValueAt l is part js (truth b)

  abbrev values : (List ℤ → Value) → List (List ℤ) → List Value
  values V ps = map V ps

  abbrev truths : (List ℤ → Bool) → List (List ℤ) → List Value
  truths P ps = values (λ p. truth (P p)) ps

  -- The values of an expression at all places.
  pub places-run : (l : ℕ) (as' : List Dom) (vss : List (List Value)) (is : Exs) (i : List ℤ) (bs : Bound env0 q q-apart) (part : Ex) (V : List ℤ → Value) →
      AxesAre env0 q q-apart as' vss → Steady env0 q q-apart l is i bs →
      AllOf (lists_of (codes env0 q q-apart vss)) (λ js. ValueAt (level_behind l as') (row_index q l as' is) part (i ++ js) (V js)) →
      items_under (row_gens q l as') (M env0 q q-apart bs) (λ here. option_map (λ v. v ∷ []) (meaning part here)) ≡ Some (values V (lists_of (codes env0 q q-apart vss)))
  places-run l [] [] is i bs part V ax st h =
      ap (option_map (λ v. v ∷ [])) (h.0 bs (subst (λ j. Steady env0 q q-apart l is j bs) (sym (append-nil i)) st))
  places-run l [] (vs ∷ vss) is i bs part V ax st h = absurd ax
  places-run l (a ∷ as') [] is i bs part V ax st h = absurd ax
  places-run l (a ∷ as') (vs ∷ vss) is i bs part V ax st h =
      ap (λ o. and_then o (λ us. collect us F)) (ax.0 bs)
      ∙ each vs h (λ v x. places-run (suc l) as' vss (add_ex is (name_ex (q l))) (i ++ (code v ∷ [])) ((l, v) ∷ bs) part (λ js. V (code v ∷ js)) ax.1 (steady-name env0 q q-apart l v is i bs st) x)
    where
      L : List (List ℤ)
      L = lists_of (codes env0 q q-apart vss)

      F : Value → Option (List Value)
      F v = items_under (row_gens q (suc l) as') (M env0 q q-apart ((l, v) ∷ bs)) (λ here. option_map (λ v. v ∷ []) (meaning part here))

      Here : List ℤ → Value → Type 0
      Here js v = ValueAt (level_behind l (a ∷ as')) (row_index q l (a ∷ as') is) part js v

      front : (k : ℤ) (ps ms : List (List ℤ)) → AllOf (map (λ p. k ∷ p) ps ++ ms) (λ js. Here (i ++ js) (V js)) → AllOf ps (λ js. Here ((i ++ (k ∷ [])) ++ js) (V (k ∷ js)))
      front k [] ms h = tt
      front k (p ∷ ps) ms h = (subst (λ j. Here j (V (k ∷ p))) (sym (append_assoc i (k ∷ []) p)) h.0, front k ps ms h.1)

      rest : (k : ℤ) (ps ms : List (List ℤ)) → AllOf (map (λ p. k ∷ p) ps ++ ms) (λ js. Here (i ++ js) (V js)) → AllOf ms (λ js. Here (i ++ js) (V js))
      rest k [] ms h = h
      rest k (p ∷ ps) ms h = rest k ps ms h.1

      moved : (k : ℤ) (ps : List (List ℤ)) → values (λ js. V (k ∷ js)) ps ≡ values V (map (λ p. k ∷ p) ps)
      moved k [] = refl
      moved k (p ∷ ps) = ap (λ l. V (k ∷ p) ∷ l) (moved k ps)

      each : (us : List Value) → AllOf (add_heads (map code us) L) (λ js. Here (i ++ js) (V js)) →
          ((v : Value) → AllOf L (λ js. Here ((i ++ (code v ∷ [])) ++ js) (V (code v ∷ js))) → F v ≡ Some (values (λ js. V (code v ∷ js)) L)) →
          collect us F ≡ Some (values V (add_heads (map code us) L))
      each [] h ih = refl
      each (u ∷ us) h ih =
          ap (λ o. and_then o (λ xs. option_map (λ ys. xs ++ ys) (collect us F))) (ih u (front (code u) L (add_heads (map code us) L) h))
          ∙ ap (option_map (λ ys. values (λ js. V (code u ∷ js)) L ++ ys)) (each us (rest (code u) L (add_heads (map code us) L) h) ih)
          ∙ ap (λ xs. Some (xs ++ values V (add_heads (map code us) L))) (moved (code u) L)
          ∙ ap Some (sym (map-append V (map (λ p. code u ∷ p) L) (add_heads (map code us) L)))

  all-truths : (P : List ℤ → Bool) (ps : List (List ℤ)) → all_true (truths P ps) ≡ list_all P ps
  all-truths P [] = refl
  all-truths P (p ∷ ps) = ap (λ b. P p && b) (all-truths P ps)

  -- A constraint at each place means that the test holds at each place.
  pub each-means : (l : ℕ) (as' : List Dom) (vss : List (List Value)) (is : Exs) (i : List ℤ) (bs : Bound env0 q q-apart) (part : Ex) (P : List ℤ → Bool) →
      AxesAre env0 q q-apart as' vss → Steady env0 q q-apart l is i bs →
      AllOf (lists_of (codes env0 q q-apart vss)) (λ js. MeansAt (level_behind l as') (row_index q l as' is) part (i ++ js) (P js)) →
      meaning (each_ex q l as' part) (M env0 q q-apart bs) ≡ Some (truth (list_all P (lists_of (codes env0 q q-apart vss))))
  each-means l as' vss is i bs part P ax st h =
      all-means (M env0 q q-apart bs) part (row_gens q l as') (truths P (lists_of (codes env0 q q-apart vss))) (places-run l as' vss is i bs part (λ js. truth (P js)) ax st h)
      ∙ ap (λ b. Some (truth b)) (all-truths P (lists_of (codes env0 q q-apart vss)))

  sum-ones : (ps : List (List ℤ)) → sum_of (values (λ p. number (pos 1)) ps) ≡ pos (length ps)
  sum-ones [] = refl
  sum-ones (p ∷ ps) = ap (λ z. pos 1 +ℤ z) (sum-ones ps) ∙ ap pos (let e : 1 + length ps ≡ suc (length ps) = omega arith in e)

  -- The number of places.
  pub place-count-means : (l : ℕ) (as' : List Dom) (vss : List (List Value)) (bs : Bound env0 q q-apart) → AxesAre env0 q q-apart as' vss →
      Number (place_count_ex q l as') (M env0 q q-apart bs) (pos (length (lists_of (codes env0 q q-apart vss))))
  place-count-means l as' vss bs ax =
      ap (λ o. false_where_undefined false (value_of_node (word Fun.Sum) (option_map list_value o ∷ [])))
      (places-run l as' vss no_exs [] bs (number_ex (pos 1)) (λ p. number (pos 1)) ax (λ cs f. refl) (each (lists_of (codes env0 q q-apart vss))))
      ∙ ap (λ l. Some (number (sum_of l))) (to_list-of_list (values (λ p. number (pos 1)) (lists_of (codes env0 q q-apart vss)))) ∙ ap (λ z. Some (number z)) (sum-ones (lists_of (codes env0 q q-apart vss)))
    where
      each : (ps : List (List ℤ)) → AllOf ps (λ js. ValueAt (level_behind l as') (row_index q l as' no_exs) (number_ex (pos 1)) js (number (pos 1)))
      each [] = tt
      each (p ∷ ps) = (λ cs st. refl, each ps)
