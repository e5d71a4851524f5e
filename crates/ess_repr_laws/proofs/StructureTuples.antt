-- The structure constraint of a tuple or record: that of each component.
use Rattle.std.proofs.Common.{◌≡◌, refl, sym, ap, ◌∙◌, subst, ℕ, zero, suc, ◌+◌, ◌<◌, Bool, true, false, ◌&&◌, ◌||◌, List, [], ◌∷◌, ◌++◌, map, take, drop, length, ℤ, Option, Some, option_map, length-append, arith}
use Rattle.std.proofs.lemmas.Bool.{eq-eqb}
use Rattle.std.proofs.lemmas.List.{map-append}
use Rattle.ess_semantics.specs.declared.words.ReprKind.{ReprKind}
use Rattle.ess_semantics.specs.Lists.{and_then, is_some_and}
use Rattle.ess_semantics.specs.Values.{Text, Value, truth}
use Rattle.ess_semantics.specs.Order.{same_text}
use Rattle.ess_semantics.specs.Trees.{Repr, Reprs, repr, no_reprs, more_reprs, Exs, Dom, Doms, no_doms, more_doms, tuple_dom, record_dom}
use Rattle.ess_semantics.specs.Domains.{Domain, Domains, tuples, records, domain_list}
use Rattle.ess_semantics.specs.Tables.{Tables, cell_at}
use Rattle.ess_semantics.specs.Cells.{Cells, Axes, behind, cells_of}
use Rattle.ess_semantics.specs.Layers.{Layer, always_canonical}
use Rattle.ess_semantics.specs.ScalarLayers.{tuple_layer, record_layer}
use Rattle.ess_semantics.specs.Representations.{width, widths, value_of_cells, values_of_children}
use Rattle.ess_semantics.specs.Declarations.{Declaration, under, declarations_below, declarations_of_children, axes_of}
use Rattle.ess_semantics.specs.CanonicalTest.{children_are_canonical, canonical}
use Rattle.ess_semantics.specs.Meaning.{Env, meaning}
use Rattle.ess_semantics.proofs.Connectives.{and-means}
use Rattle.ess_semantics.proofs.Tests.{and-left, and-right}
use Rattle.ess_repr_laws.specs.CanonicalTables.{Right}
use Rattle.ess_repr_laws.specs.Rooms.{AllCovered}
use Rattle.ess_repr_laws.specs.StructureParts.{Shape, Terms}
use Rattle.ess_repr_laws.specs.Structure.{shapes, shapes_of_each, structure, structure_of_each}
use Rattle.ess_repr_laws.specs.StructureMeaning.{Bound, M, FoundBy, Placed, axes_members, members_of_axes}
use Rattle.ess_repr_laws.proofs.Behind.{behind-length, behind-none, behind-take, behind-drop}
use Rattle.ess_repr_laws.proofs.CanonicalForms.{right}
use Rattle.ess_repr_laws.proofs.CanonicalParts.{asked_of}
use Rattle.ess_repr_laws.proofs.CanonicalPlaces.{all_places}
use Rattle.ess_repr_laws.proofs.CellDomains.{axes-wide}
use Rattle.ess_repr_laws.proofs.CellsOfMembers.{map-long}
use Rattle.ess_repr_laws.proofs.StructureFits.{Fit, fit-split}
use Rattle.ess_repr_laws.proofs.RowsOfCells.{axes_of_children, axes-below, axes-of-layer}
use Rattle.ess_repr_laws.proofs.StructureOf.{StructureOf}
use Rattle.ess_repr_laws.proofs.StructurePlaces.{placed-long}
use Rattle.ess_repr_laws.proofs.StructureRows.{Steady, There, all_codes}

-- ---- the test

-- Each component's cells are canonical.
abbrev pub each_canonical : Reprs → List Domain → Cells → Bool
each_canonical (more_reprs r rs) (e ∷ es) c = canonical r e (take (width r) c) && each_canonical rs es (drop (width r) c)
each_canonical _ es c = true

take-long : {A : Type 0} (n m : ℕ) (xs : List A) → length xs ≡ n + m → length (take n xs) ≡ n
take-long zero m xs h = refl
take-long (suc n) m [] h = absurd (omega arith)
take-long (suc n) m (x ∷ xs) h = let h' : length xs ≡ n + m = omega arith in ap suc (take-long n m xs h')

take-drop : {A : Type 0} (n : ℕ) (xs : List A) → xs ≡ take n xs ++ drop n xs
take-drop zero xs = refl
take-drop (suc n) [] = refl
take-drop (suc n) (x ∷ xs) = ap (λ l. x ∷ l) (take-drop n xs)

drop-long : {A : Type 0} (n m : ℕ) (xs : List A) → length xs ≡ n + m → length (drop n xs) ≡ m
drop-long zero m xs h = omega arith
drop-long (suc n) m [] h = absurd (omega arith)
drop-long (suc n) m (x ∷ xs) h = let h' : length xs ≡ n + m = omega arith in drop-long n m xs h'

module _ (ds : List Domain) (b : Cells → List (List Value) → Option Value) (t : Value → List (List (Option Value))) where
  abbrev L : Layer
  L = all_places ds [] b t always_canonical

  children-each : (rs : Reprs) (es : List Domain) → AllCovered rs es → (c : Cells) → length c ≡ widths rs → children_are_canonical L [] rs es c ≡ each_canonical rs es c
  children-each no_reprs [] h [] n = refl
  children-each no_reprs [] h (f ∷ fs) n = cc
  children-each no_reprs (e ∷ es) h c n = absurd h
  children-each (more_reprs r rs) [] h c n = absurd h
  children-each (more_reprs r rs) (e ∷ es) h c n =
      ap (λ z. (((z && (canonical r e (behind [] (take (width r) c)) && true)) && true) && true) && children_are_canonical L [] rs es (drop (width r) c))
      (eq-eqb (length (take (width r) c)) (length (axes_of r e)) (take-long (width r) (widths rs) c n ∙ sym (axes-wide r e h.0)))
      ∙ ap (λ x. (((true && (canonical r e x && true)) && true) && true) && children_are_canonical L [] rs es (drop (width r) c)) (behind-none (take (width r) c))
      ∙ ap (λ z. (((true && (canonical r e (take (width r) c) && true)) && true) && true) && z) (children-each rs es h.1 (drop (width r) c) (drop-long (width r) (widths rs) c n))
      ∙ plain (canonical r e (take (width r) c)) (each_canonical rs es (drop (width r) c))
    where
      plain : (x y : Bool) → (((true && (x && true)) && true) && true) && y ≡ x && y
      plain true y = refl
      plain false y = refl

  -- canonical components have values
  components-there : (rs : Reprs) (es : List Domain) → AllCovered rs es → (c : Cells) → each_canonical rs es c ≡ true → (vss : List (List Value)) × (values_of_children rs es c ([] ∷ []) ≡ Some vss)
  components-there no_reprs [] h c x = ([], refl)
  components-there no_reprs (e ∷ es) h c x = absurd h
  components-there (more_reprs r rs) [] h c x = absurd h
  components-there (more_reprs r rs) (e ∷ es) h c x =
      let s : Right r e = right r e h.0 in
      let v = s.sound (take (width r) c) (and-left (canonical r e (take (width r) c)) (each_canonical rs es (drop (width r) c)) x) in
      let vss = components-there rs es h.1 (drop (width r) c) (and-right (canonical r e (take (width r) c)) (each_canonical rs es (drop (width r) c)) x) in (
        (v.0 ∷ []) ∷ vss.0,
        ap (λ z. and_then (and_then (value_of_cells r e z) (λ y. Some (y ∷ []))) (λ vs. option_map (λ vss. vs ∷ vss) (values_of_children rs es (drop (width r) c) ([] ∷ [])))) (behind-none (take (width r) c))
            ∙ ap (λ o. and_then (and_then o (λ y. Some (y ∷ []))) (λ vs. option_map (λ vss. vs ∷ vss) (values_of_children rs es (drop (width r) c) ([] ∷ [])))) v.1
            ∙ ap (option_map (λ vss. (v.0 ∷ []) ∷ vss)) vss.1,
      )

  components-asked : (rs : Reprs) → AllCovered rs ds → (c : Cells) → length c ≡ widths rs → asked_of L rs [] c ≡ each_canonical rs ds c
  components-asked rs h c n =
      ap (λ z. z && is_some_and (values_of_children rs ds c ([] ∷ [])) (always_canonical [])) (children-each rs ds h c n) ∙ go (each_canonical rs ds c) refl
    where
      go : (x : Bool) → each_canonical rs ds c ≡ x → x && is_some_and (values_of_children rs ds c ([] ∷ [])) (always_canonical []) ≡ x
      go false e = refl
      go true e = let v = components-there rs ds h c e in ap (λ o. is_some_and o (always_canonical [])) v.1

-- ---- tables side by side

-- No axes in front.
pub under-none : (ds : List Declaration) → under [] ds ≡ ds
under-none [] = refl
under-none (d ∷ ds) = ap (λ l. d ∷ l) (under-none ds)

take-map : {A B : Type 0} (f : A → B) (n : ℕ) (xs : List A) → take n (map f xs) ≡ map f (take n xs)
take-map f zero xs = refl
take-map f (suc n) [] = refl
take-map f (suc n) (x ∷ xs) = ap (λ l. f x ∷ l) (take-map f n xs)

drop-map : {A B : Type 0} (f : A → B) (n : ℕ) (xs : List A) → drop n (map f xs) ≡ map f (drop n xs)
drop-map f zero xs = refl
drop-map f (suc n) [] = refl
drop-map f (suc n) (x ∷ xs) = drop-map f n xs

-- The first tables at an index list.
pub first-cells : (n : ℕ) (i : List ℤ) (ts : Tables) → take n (behind i (cells_of ts)) ≡ behind i (cells_of (take n ts))
first-cells n i ts = behind-take i n (cells_of ts) ∙ ap (behind i) (take-map cell_at n ts)

-- The others.
pub other-cells : (n : ℕ) (i : List ℤ) (ts : Tables) → drop n (behind i (cells_of ts)) ≡ behind i (cells_of (drop n ts))
other-cells n i ts = behind-drop i n (cells_of ts) ∙ ap (behind i) (drop-map cell_at n ts)

module _ (env0 : Env) (q : ℕ → Text) (q-apart : (m l : ℕ) → l < m → same_text (q m) (q l) ≡ false) where
  -- Tables of two parts are found side by side.
  pub placed-split : (ss ss' : List Shape) (vsss wsss : List (List (List Value))) (ts : Tables) → length ss ≡ length vsss → Placed env0 q q-apart (ss ++ ss') (vsss ++ wsss) ts →
      Placed env0 q q-apart ss vsss (take (length ss) ts) × Placed env0 q q-apart ss' wsss (drop (length ss) ts)
  placed-split [] ss' [] wsss ts n h = (tt, h)
  placed-split [] ss' (vss ∷ vsss) wsss ts n h = cc
  placed-split (s ∷ ss) ss' [] wsss ts n h = cc
  placed-split (s ∷ ss) ss' (vss ∷ vsss) wsss [] n h = absurd h
  placed-split (s ∷ ss) ss' (vss ∷ vsss) wsss (t ∷ ts) n h =
      let n' : length ss ≡ length vsss = cc in
      let x = placed-split ss ss' vsss wsss ts n' h.2 in ((h.0, h.1, x.0), x.1)

  none-found : (ns : List Text) (ts : Tables) → length ns ≡ 0 → FoundBy env0 q q-apart ns ts → Placed env0 q q-apart [] [] ts
  none-found [] [] w h = tt
  none-found [] (t ∷ ts) w h = absurd h
  none-found (n ∷ ns) ts w h = absurd (omega arith)

  found-split : (n : ℕ) (ns : List Text) (ts : Tables) → FoundBy env0 q q-apart ns ts → FoundBy env0 q q-apart (take n ns) (take n ts) × FoundBy env0 q q-apart (drop n ns) (drop n ts)
  found-split zero ns ts h = (tt, h)
  found-split (suc n) [] [] h = (tt, tt)
  found-split (suc n) (m ∷ ns) (t ∷ ts) h = let x = found-split n ns ts h.1 in ((h.0, x.0), x.1)
  found-split (suc n) [] (t ∷ ts) h = absurd h
  found-split (suc n) (m ∷ ns) [] h = absurd h

  placed-join : (ss ss' : List Shape) (vsss wsss : List (List (List Value))) (us vs ts : Tables) → us ++ vs ≡ ts → Placed env0 q q-apart ss vsss us → Placed env0 q q-apart ss' wsss vs →
      Placed env0 q q-apart (ss ++ ss') (vsss ++ wsss) ts
  placed-join ss ss' vsss wsss us vs ts e h k = subst (Placed env0 q q-apart (ss ++ ss') (vsss ++ wsss)) e (go ss vsss us h)
    where
      go : (ss : List Shape) (vsss : List (List (List Value))) (us : Tables) → Placed env0 q q-apart ss vsss us → Placed env0 q q-apart (ss ++ ss') (vsss ++ wsss) (us ++ vs)
      go [] [] [] h = k
      go (s ∷ ss) (vss ∷ vsss) (u ∷ us) h = (h.0, h.1, go ss vsss us h.2)
      go [] [] (u ∷ us) h = absurd h
      go [] (vss ∷ vsss) us h = absurd h
      go (s ∷ ss) [] us h = absurd h
      go (s ∷ ss) (vss ∷ vsss) [] h = absurd h

  there-join : (ss ss' : List Shape) (vsss wsss : List (List (List Value))) (ts : Tables) (i : List ℤ) → length ss ≡ length vsss →
      There env0 q q-apart ss vsss (take (length ss) ts) i → There env0 q q-apart ss' wsss (drop (length ss) ts) i → There env0 q q-apart (ss ++ ss') (vsss ++ wsss) ts i
  there-join [] ss' [] wsss ts i n h k = k
  there-join [] ss' (vss ∷ vsss) wsss ts i n h k = cc
  there-join (s ∷ ss) ss' [] wsss ts i n h k = cc
  there-join (s ∷ ss) ss' (vss ∷ vsss) wsss [] i n h k = tt
  there-join (s ∷ ss) ss' (vss ∷ vsss) wsss (t ∷ ts) i n h k = let n' : length ss ≡ length vsss = cc in (h.0, there-join ss ss' vsss wsss ts i n' h.1 k)

-- ---- components

module _ (env0 : Env) (q : ℕ → Text) (q-apart : (m l : ℕ) → l < m → same_text (q m) (q l) ≡ false) (terms : Terms) where
  -- The structure constraints of components mean that the cells of each are canonical.
  pub record EachStructure (rs : Reprs) (ds : Doms) (es : List Domain) : Type 0 where
    pub covered : AllCovered rs es
    pub long : (ns : List Text) → length (shapes_of_each q terms rs ds ns) ≡ widths rs
    pub axes : all_codes env0 q q-apart (members_of_axes rs es) ≡ axes_of_children rs es []
    pub found : (ns : List Text) (ts : Tables) → length ns ≡ widths rs → FoundBy env0 q q-apart ns ts → Placed env0 q q-apart (shapes_of_each q terms rs ds ns) (members_of_axes rs es) ts
    pub there : (out : Bool) (ns : List Text) (ts : Tables) (i : List ℤ) → Placed env0 q q-apart (shapes_of_each q terms rs ds ns) (members_of_axes rs es) ts →
        Fit (declarations_of_children out rs es []) (behind i (cells_of ts)) → There env0 q q-apart (shapes_of_each q terms rs ds ns) (members_of_axes rs es) ts i
    pub means : (out : Bool) (ns : List Text) (ts : Tables) (l : ℕ) (is : Exs) (i : List ℤ) (bs : Bound env0 q q-apart) →
        Placed env0 q q-apart (shapes_of_each q terms rs ds ns) (members_of_axes rs es) ts → Fit (declarations_of_children out rs es []) (behind i (cells_of ts)) →
        Steady env0 q q-apart l is i bs → meaning (structure_of_each q terms rs ds ns l is) (M env0 q q-apart bs) ≡ Some (truth (each_canonical rs es (behind i (cells_of ts))))

  -- No component.
  pub none-structure : EachStructure no_reprs no_doms []
  none-structure = record {
    covered = tt;
    long = λ ns. refl;
    axes = refl;
    found = none-found env0 q q-apart;
    there = λ out ns ts i p c. tt;
    means = λ out ns ts l is i bs p c st. refl;
  }

  -- One more component in front.
  pub more-structure : (r : Repr) (rs : Reprs) (d : Dom) (ds : Doms) (e : Domain) (es : List Domain) → StructureOf env0 q q-apart terms r d e → EachStructure rs ds es → EachStructure (more_reprs r rs) (more_doms d ds) (e ∷ es)
  more-structure r rs d ds e es one each = record {
    covered = (one.covered, each.covered);
    long = λ ns. length-append (S ns) (T ns) ∙ ap (λ n. n + length (T ns)) (one.long (take (width r) ns)) ∙ ap (λ n. width r + n) (each.long (drop (width r) ns));
    axes = map-append (map (map _)) (axes_members r e) (members_of_axes rs es) ∙ ap (λ l. l ++ all_codes env0 q q-apart (members_of_axes rs es)) (one.axes ∙ sym (no-axes (axes_of r e))) ∙ ap (λ l. map (λ (as' : Axes). as') (axes_of r e) ++ l) each.axes;
    found = λ ns ts w h.
        let x = found-split env0 q q-apart (width r) ns ts h in
        placed-join env0 q q-apart (S ns) (T ns) (axes_members r e) (members_of_axes rs es) (take (width r) ts) (drop (width r) ts) ts (sym (take-drop (width r) ts))
        (one.found (take (width r) ns) (take (width r) ts) (take-long (width r) (widths rs) ns w) x.0) (each.found (drop (width r) ns) (drop (width r) ts) (drop-long (width r) (widths rs) ns w) x.1);
    there = λ out ns ts i p c.
        let x = halves ns ts p in let y = parts out ts i c in
        there-join env0 q q-apart (S ns) (T ns) (axes_members r e) (members_of_axes rs es) ts i (even ns)
        (subst (λ n. There env0 q q-apart (S ns) (axes_members r e) (take n ts) i) (sym (one.long (take (width r) ns))) (one.there out (take (width r) ns) (take (width r) ts) i x.0 y.0))
        (subst (λ n. There env0 q q-apart (T ns) (members_of_axes rs es) (drop n ts) i) (sym (one.long (take (width r) ns))) (each.there out (drop (width r) ns) (drop (width r) ts) i x.1 y.1));
    means = λ out ns ts l is i bs p c st.
        let x = halves ns ts p in let y = parts out ts i c in
        and-means (M env0 q q-apart bs) (structure q terms r d (take (width r) ns) l is) (structure_of_each q terms rs ds (drop (width r) ns) l is)
        (canonical r e (take (width r) (behind i (cells_of ts)))) (each_canonical rs es (drop (width r) (behind i (cells_of ts))))
        (one.means out (take (width r) ns) (take (width r) ts) l is i bs x.0 y.0 st ∙ ap (λ z. Some (truth (canonical r e z))) (sym (first-cells (width r) i ts)))
        (each.means out (drop (width r) ns) (drop (width r) ts) l is i bs x.1 y.1 st ∙ ap (λ z. Some (truth (each_canonical rs es z))) (sym (other-cells (width r) i ts)));
  }
    where
      S : List Text → List Shape
      S ns = shapes q terms r d (take (width r) ns)

      T : List Text → List Shape
      T ns = shapes_of_each q terms rs ds (drop (width r) ns)

      no-axes : (ass : List Axes) → map (λ (as' : Axes). as') ass ≡ ass
      no-axes [] = refl
      no-axes (as' ∷ ass) = ap (λ l. as' ∷ l) (no-axes ass)

      even : (ns : List Text) → length (S ns) ≡ length (axes_members r e)
      even ns = one.long (take (width r) ns) ∙ sym (axes-wide r e one.covered) ∙ ap length (sym one.axes) ∙ map-long _ (axes_members r e)

      halves : (ns : List Text) (ts : Tables) → Placed env0 q q-apart (S ns ++ T ns) (axes_members r e ++ members_of_axes rs es) ts →
          Placed env0 q q-apart (S ns) (axes_members r e) (take (width r) ts) × Placed env0 q q-apart (T ns) (members_of_axes rs es) (drop (width r) ts)
      halves ns ts p = subst (λ n. Placed env0 q q-apart (S ns) (axes_members r e) (take n ts) × Placed env0 q q-apart (T ns) (members_of_axes rs es) (drop n ts)) (one.long (take (width r) ns))
          (placed-split env0 q q-apart (S ns) (T ns) (axes_members r e) (members_of_axes rs es) ts (even ns) p)

      declared-long : (out : Bool) → length (declarations_below out r e) ≡ width r
      declared-long out = sym (map-long (λ t. t.axes) (declarations_below out r e)) ∙ ap length (axes-below out r e) ∙ axes-wide r e one.covered

      parts : (out : Bool) (ts : Tables) (i : List ℤ) → Fit (under [] (declarations_below out r e) ++ declarations_of_children out rs es []) (behind i (cells_of ts)) →
          (Fit (declarations_below out r e) (behind i (cells_of (take (width r) ts)))) × (Fit (declarations_of_children out rs es []) (behind i (cells_of (drop (width r) ts))))
      parts out ts i c =
          let x = fit-split (declarations_below out r e) (declarations_of_children out rs es []) (behind i (cells_of ts))
          (subst (λ l. Fit (l ++ declarations_of_children out rs es []) (behind i (cells_of ts))) (under-none (declarations_below out r e)) c) in
          let y = subst (λ n. (Fit (declarations_below out r e) (take n (behind i (cells_of ts)))) × (Fit (declarations_of_children out rs es []) (drop n (behind i (cells_of ts))))) (declared-long out) x in
          (subst (Fit (declarations_below out r e)) (first-cells (width r) i ts) y.0, subst (Fit (declarations_of_children out rs es [])) (other-cells (width r) i ts) y.1)

  -- ---- the layers

  -- The structure constraint of a tuple means that its cells are canonical.
  pub tuple-structure : (rs : Reprs) (ds : Doms) (es : Domains) → EachStructure rs ds (domain_list es) → StructureOf env0 q q-apart terms (repr ReprKind.Tuple rs) (tuple_dom ds) (tuples es)
  tuple-structure rs ds es each = record {
    covered = each.covered;
    long = λ ns. each.long ns ∙ (let z : widths rs ≡ 0 + widths rs = omega arith in z);
    axes = each.axes ∙ sym (axes-of-layer (tuple_layer es) rs);
    found = λ ns ts w h. each.found ns ts (omega (arith, w)) h;
    there = λ out ns ts i p c. each.there (out || false) ns ts i p c;
    means = λ out ns ts l is i bs p c st. each.means (out || false) ns ts l is i bs p c st
        ∙ ap (λ b. Some (truth b)) (sym (components-asked (domain_list es) (tuple_layer es).built (tuple_layer es).contents rs each.covered (behind i (cells_of ts))
        (behind-length i (cells_of ts) ∙ map-long _ ts ∙ placed-long env0 q q-apart (shapes_of_each q terms rs ds ns) (members_of_axes rs (domain_list es)) ts p ∙ each.long ns)));
  }

  -- The same of a record.
  pub record-structure : (rs : Reprs) (fs gs : List Text) (ds : Doms) (es : Domains) → EachStructure rs ds (domain_list es) → StructureOf env0 q q-apart terms (repr ReprKind.Rec rs) (record_dom fs ds) (records gs es)
  record-structure rs fs gs ds es each = record {
    covered = each.covered;
    long = λ ns. each.long ns ∙ (let z : widths rs ≡ 0 + widths rs = omega arith in z);
    axes = each.axes ∙ sym (axes-of-layer (record_layer gs es) rs);
    found = λ ns ts w h. each.found ns ts (omega (arith, w)) h;
    there = λ out ns ts i p c. each.there (out || false) ns ts i p c;
    means = λ out ns ts l is i bs p c st. each.means (out || false) ns ts l is i bs p c st
        ∙ ap (λ b. Some (truth b)) (sym (components-asked (domain_list es) (record_layer gs es).built (record_layer gs es).contents rs each.covered (behind i (cells_of ts))
        (behind-length i (cells_of ts) ∙ map-long _ ts ∙ placed-long env0 q q-apart (shapes_of_each q terms rs ds ns) (members_of_axes rs (domain_list es)) ts p ∙ each.long ns)));
  }
