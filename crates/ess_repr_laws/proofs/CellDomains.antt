-- Canonical cells lie in the declared domains, and cells out of use in the widened ones: by induction over the representation.
use Rattle.std.proofs.Common.{◌≡◌, refl, sym, ap, ◌∙◌, ℕ, zero, suc, ◌+◌, Bool, true, false, ◌&&◌, ◌||◌, not, List, [], ◌∷◌, ◌++◌, map, take, drop, length, ℤ, Option, Some, None, nat_eq, arith, length-append}
use Rattle.std.proofs.lemmas.Bool.{eqb-true}
use Rattle.std.specs.List.{list_all}
use Rattle.ess_semantics.specs.Lists.{is_some_and}
use Rattle.ess_semantics.specs.Trees.{Repr, Reprs, repr, no_reprs, more_reprs}
use Rattle.ess_semantics.specs.Domains.{Domain, lists_of}
use Rattle.ess_semantics.specs.Cells.{Cells, Axes, behind, are_zero}
use Rattle.ess_semantics.specs.Layers.{OwnTable, Layer}
use Rattle.ess_semantics.specs.Representations.{width, widths, own_width, own_part, child_part, places, is_used}
use Rattle.ess_semantics.specs.Declarations.{Declaration, declared_own, under, leaves_out, declarations_below, declarations_of_children, axes_of}
use Rattle.ess_semantics.specs.CanonicalTest.{slots_rise, child_is_canonical, children_are_canonical, canonical}
use Rattle.ess_repr_laws.specs.Rooms.{Covered, AllCovered}
use Rattle.ess_semantics.proofs.Tests.{and-left, and-right, if-so, if-not, or-right-no}
use Rattle.ess_repr_laws.proofs.RowsOfCells.{own_axes, axes_of_children, axes_in, axes-of-layer}
use Rattle.ess_repr_laws.proofs.CanonicalParts.{asked_of, parts-of}
use Rattle.ess_repr_laws.proofs.CanonicalPlaces.{AllOf, all-of-list, all-of-map}
use Rattle.ess_repr_laws.proofs.CellsOfMembers.{map-long}
use Rattle.ess_repr_laws.proofs.FittingCells.{cells_fit, fit-append, fit-under, own-fits, view, zero-length, zero-own, zero-split, zero-under}

-- ---- all layers

take-drop-length : (n m : ℕ) (c : Cells) → length c ≡ n + m → (length (take n c) ≡ n) × (length (drop n c) ≡ m)
take-drop-length zero m c e = (refl, omega arith)
take-drop-length (suc n) m [] e = let z : 0 ≡ suc n + m = e in absurd (omega arith)
take-drop-length (suc n) m (f ∷ fs) e = let z : suc (length fs) ≡ suc n + m = e in let r = take-drop-length n m fs (omega arith) in (ap suc r.0, r.1)

module _ (out : Bool) where
  abbrev of_layer : Reprs → Option Layer → List Declaration
  of_layer rs o = elim o [ None ↦ [] | Some l ↦ map (declared_own out) l.own ++ declarations_of_children (out || leaves_out l.in_use) rs l.children l.axes ]

mutual
  declared-wide : (out : Bool) (r : Repr) (d : Domain) → Covered r d → length (declarations_below out r d) ≡ width r
  declared-wide out (repr k rs) d h =
      let v = view k rs d h in
      let l = v.l in
      let a = length-append (map (declared_own out) l.own) (declarations_of_children (out || leaves_out l.in_use) rs l.children l.axes) in
      let b : length (map (declared_own out) l.own) ≡ own_width k = map-long (declared_own out) l.own ∙ v.wide in
      let c = children-wide (out || leaves_out l.in_use) rs l.children l.axes v.inner in
      ap (λ o. length (of_layer out rs o)) v.at ∙ (let e : length (map (declared_own out) l.own ++ declarations_of_children (out || leaves_out l.in_use) rs l.children l.axes) ≡ own_width k + widths rs = omega (arith, a, b, c) in e)

  children-wide : (out : Bool) (rs : Reprs) (es : List Domain) (bs : Axes) → AllCovered rs es → length (declarations_of_children out rs es bs) ≡ widths rs
  children-wide out no_reprs [] bs h = refl
  children-wide out no_reprs (e ∷ es) bs h = absurd h
  children-wide out (more_reprs r rs) [] bs h = absurd h
  children-wide out (more_reprs r rs) (e ∷ es) bs h =
      let a = length-append (under bs (declarations_below out r e)) (declarations_of_children out rs es bs) in
      let b : length (under bs (declarations_below out r e)) ≡ width r = map-long (λ (t : Declaration). record { axes = bs ++ t.axes; cell = t.cell }) (declarations_below out r e) ∙ declared-wide out r e h.0 in
      let c = children-wide out rs es bs h.1 in omega (arith, a, b, c)

-- A representation has as many lists of axes as tables.
pub axes-wide : (r : Repr) (d : Domain) → Covered r d → length (axes_of r d) ≡ width r
axes-wide r d h = map-long (λ (t : Declaration). t.axes) (declarations_below false r d) ∙ declared-wide false r d h

-- the tables of a first child and of the others
first-tables : (out : Bool) (r : Repr) (e : Domain) (us : List Declaration) (bs : Axes) (c : Cells) → Covered r e →
    cells_fit (under bs (declarations_below out r e)) (take (width r) c) ≡ true → cells_fit us (drop (width r) c) ≡ true → cells_fit (under bs (declarations_below out r e) ++ us) c ≡ true
first-tables out r e us bs c h p q =
    let n : length (under bs (declarations_below out r e)) ≡ width r = map-long (λ (t : Declaration). record { axes = bs ++ t.axes; cell = t.cell }) (declarations_below out r e) ∙ declared-wide out r e h in
    fit-append (under bs (declarations_below out r e)) us c (ap (λ n. cells_fit (under bs (declarations_below out r e)) (take n c)) n ∙ p) (ap (λ n. cells_fit us (drop n c)) n ∙ q)

mutual
  -- What is out of use lies in the widened domains.
  zero-fits : (r : Repr) (d : Domain) → Covered r d → (c : Cells) → are_zero (axes_of r d) c ≡ true → cells_fit (declarations_below true r d) c ≡ true
  zero-fits (repr k rs) d h c z =
      let v = view k rs d h in
      let l = v.l in
      let ax : axes_of (repr k rs) d ≡ own_axes l.own ++ axes_of_children rs l.children l.axes = ap (λ o. axes_in (of_layer false rs o)) v.at ∙ axes-of-layer l rs in
      let s = zero-split (own_axes l.own) (axes_of_children rs l.children l.axes) c (ap (λ a. are_zero a c) (sym ax) ∙ z) in
      let n : length (own_axes l.own) ≡ length (map (declared_own true) l.own) = map-long (λ (t : OwnTable). t.axes) l.own ∙ sym (map-long (declared_own true) l.own) in
      ap (λ o. cells_fit (of_layer true rs o) c) v.at
      ∙ fit-append (map (declared_own true) l.own) (declarations_of_children true rs l.children l.axes) c
      (ap (λ n. cells_fit (map (declared_own true) l.own) (take n c)) (sym n) ∙ zero-own l.own (take (length (own_axes l.own)) c) v.zero s.0)
      (ap (λ n. cells_fit (declarations_of_children true rs l.children l.axes) (drop n c)) (sym n) ∙ children-zero rs l.children l.axes v.inner (drop (length (own_axes l.own)) c) s.1)

  children-zero : (rs : Reprs) (es : List Domain) (bs : Axes) → AllCovered rs es → (c : Cells) → are_zero (axes_of_children rs es bs) c ≡ true → cells_fit (declarations_of_children true rs es bs) c ≡ true
  children-zero no_reprs [] bs h [] z = refl
  children-zero no_reprs [] bs h (f ∷ fs) z = cc
  children-zero no_reprs (e ∷ es) bs h c z = absurd h
  children-zero (more_reprs r rs) [] bs h c z = absurd h
  children-zero (more_reprs r rs) (e ∷ es) bs h c z =
      let s = zero-split (map (λ as'. bs ++ as') (axes_of r e)) (axes_of_children rs es bs) c z in
      let n : length (map (λ (as' : Axes). bs ++ as') (axes_of r e)) ≡ width r = map-long (λ (as' : Axes). bs ++ as') (axes_of r e) ∙ axes-wide r e h.0 in
      let zc : are_zero (map (λ as'. bs ++ as') (axes_of r e)) (take (width r) c) ≡ true = ap (λ n. are_zero (map (λ as'. bs ++ as') (axes_of r e)) (take n c)) (sym n) ∙ s.0 in
      first-tables true r e (declarations_of_children true rs es bs) bs c h.0
      (fit-under bs (declarations_below true r e) (take (width r) c) (zero-length (map (λ as'. bs ++ as') (axes_of r e)) (take (width r) c) zc ∙ n ∙ sym (declared-wide true r e h.0))
      (all-of-map (lists_of bs) (λ q. are_zero (axes_of r e) (behind q (take (width r) c)) ≡ true) (λ q. cells_fit (declarations_below true r e) (behind q (take (width r) c)) ≡ true) (λ q x. zero-fits r e h.0 (behind q (take (width r) c)) x)
      (zero-under bs (axes_of r e) (take (width r) c) zc)))
      (children-zero rs es bs h.1 (drop (width r) c) (ap (λ n. are_zero (axes_of_children rs es bs) (drop n c)) (sym n) ∙ s.1))

each-place : (out : Bool) (l : Layer) (own : Cells) (r : Repr) (e : Domain) (c' : Cells) → (out ≡ false → AllOf (places l) (λ js. is_used l.in_use own js ≡ true)) →
    ((j : List ℤ) → canonical r e (behind j c') ≡ true → cells_fit (declarations_below out r e) (behind j c') ≡ true) →
    ((j : List ℤ) → are_zero (axes_of r e) (behind j c') ≡ true → cells_fit (declarations_below true r e) (behind j c') ≡ true) →
    (ps : List (List ℤ)) → (AllOf (places l) (λ js. is_used l.in_use own js ≡ true) → AllOf ps (λ js. is_used l.in_use own js ≡ true)) →
    AllOf ps (λ js. not (is_used l.in_use own js) || canonical r e (behind js c') ≡ true) → AllOf ps (λ js. is_used l.in_use own js || are_zero (axes_of r e) (behind js c') ≡ true) →
    AllOf ps (λ q. cells_fit (declarations_below out r e) (behind q c') ≡ true)
each-place out l own r e c' u f g [] w i o = tt
each-place out l own r e c' u f g (p ∷ ps) w i o =
    (here out (is_used l.in_use own p) refl u f w, each-place out l own r e c' u f g ps (λ a. let x = w a in x.1) i.1 o.1)
  where
    here : (out : Bool) (b : Bool) → is_used l.in_use own p ≡ b → (out ≡ false → AllOf (places l) (λ js. is_used l.in_use own js ≡ true)) → ((j : List ℤ) → canonical r e (behind j c') ≡ true → cells_fit (declarations_below out r e) (behind j c') ≡ true) →
        (AllOf (places l) (λ js. is_used l.in_use own js ≡ true) → AllOf (p ∷ ps) (λ js. is_used l.in_use own js ≡ true)) → cells_fit (declarations_below out r e) (behind p c') ≡ true
    here out true s u f w = f p (if-so (is_used l.in_use own p) (canonical r e (behind p c')) s i.0)
    here true false s u f w = g p (if-not (is_used l.in_use own p) (are_zero (axes_of r e) (behind p c')) s o.0)
    here false false s u f w = let x = w (u refl) in let z : false ≡ true = sym s ∙ x.0 in cc

mutual
  -- Canonical cells lie in the declared domains.
  pub canonical-fits : (out : Bool) (r : Repr) (d : Domain) → Covered r d → (c : Cells) → canonical r d c ≡ true → cells_fit (declarations_below out r d) c ≡ true
  canonical-fits out (repr k rs) d h c q =
      let v = view k rs d h in
      let l = v.l in
      let p = parts-of l rs (own_part k c) (child_part k c) (sym (ap (λ o. is_some_and o (λ l. asked_of l rs (own_part k c) (child_part k c))) v.at) ∙ q) in
      let n : length (map (declared_own out) l.own) ≡ own_width k = map-long (declared_own out) l.own ∙ v.wide in
      ap (λ o. cells_fit (of_layer out rs o) c) v.at
      ∙ fit-append (map (declared_own out) l.own) (declarations_of_children (out || leaves_out l.in_use) rs l.children l.axes) c
      (ap (λ n. cells_fit (map (declared_own out) l.own) (take n c)) n ∙ own-fits out l.own (own_part k c) p.fit)
      (ap (λ n. cells_fit (declarations_of_children (out || leaves_out l.in_use) rs l.children l.axes) (drop n c)) n
      ∙ children-fit l (own_part k c) (out || leaves_out l.in_use) (λ e. v.used (or-right-no out (leaves_out l.in_use) e) (own_part k c)) rs l.children v.inner (child_part k c) p.inside)

  children-fit : (l : Layer) (own : Cells) (out : Bool) → (out ≡ false → AllOf (places l) (λ js. is_used l.in_use own js ≡ true)) → (rs : Reprs) (es : List Domain) → AllCovered rs es → (c : Cells) →
      children_are_canonical l own rs es c ≡ true → cells_fit (declarations_of_children out rs es l.axes) c ≡ true
  children-fit l own out u no_reprs [] h [] q = refl
  children-fit l own out u no_reprs [] h (f ∷ fs) q = cc
  children-fit l own out u no_reprs (e ∷ es) h c q = absurd h
  children-fit l own out u (more_reprs r rs) [] h c q = absurd h
  children-fit l own out u (more_reprs r rs) (e ∷ es) h c q =
      let c' : Cells = take (width r) c in
      let ass : List Axes = axes_of r e in
      let one = and-left (child_is_canonical l own ass (canonical r e) c') (children_are_canonical l own rs es (drop (width r) c)) q in
      let a : Bool = nat_eq (length c') (length ass) in
      let b : Bool = list_all (λ js. not (is_used l.in_use own js) || canonical r e (behind js c')) (places l) in
      let s : Bool = slots_rise l own ass c' in
      let z : Bool = list_all (λ js. is_used l.in_use own js || are_zero ass (behind js c')) (places l) in
      let abs = and-left (a && b && s) z one in
      let long : length c' ≡ length ass = eqb-true (length c') (length ass) (and-left a b (and-left (a && b) s abs)) in
      let inside = all-of-list (places l) (λ js. not (is_used l.in_use own js) || canonical r e (behind js c')) (and-right a b (and-left (a && b) s abs)) in
      let outside = all-of-list (places l) (λ js. is_used l.in_use own js || are_zero ass (behind js c')) (and-right (a && b && s) z one) in
      first-tables out r e (declarations_of_children out rs es l.axes) l.axes c h.0
      (fit-under l.axes (declarations_below out r e) c' (long ∙ axes-wide r e h.0 ∙ sym (declared-wide out r e h.0))
      (each-place out l own r e c' u (λ j x. canonical-fits out r e h.0 (behind j c') x) (λ j x. zero-fits r e h.0 (behind j c') x) (places l) (λ w. w) inside outside))
      (children-fit l own out u rs es h.1 (drop (width r) c) (and-right (child_is_canonical l own ass (canonical r e) c') (children_are_canonical l own rs es (drop (width r) c)) q))
