-- The values of atoms' cells differ where the cells do.
use Rattle.std.proofs.Common.{◌≡◌, refl, sym, ap, ◌∙◌, subst, Bool, true, false, ◌&&◌, ◌||◌, not, List, [], ◌∷◌, ◌++◌, map, length, ℤ, pos, Option, Some, None, option_map}
use Rattle.std.specs.List.{list_all, list_any}
use Rattle.std.specs.Ordering.{is_eq}
use Rattle.ess_semantics.specs.declared.words.ReprKind.{ReprKind}
use Rattle.ess_semantics.specs.Lists.{and_then, each_of, or_default, is_some_and}
use Rattle.ess_semantics.specs.Values.{Value, to_of}
use Rattle.ess_semantics.specs.Order.{same, same_int}
use Rattle.ess_semantics.specs.Collections.{holds}
use Rattle.ess_semantics.specs.Trees.{Repr, repr, no_reprs}
use Rattle.ess_semantics.specs.Domains.{Domain, booleans, integers, named}
use Rattle.ess_semantics.specs.Attributes.{is_injective}
use Rattle.ess_semantics.specs.Operators.{all_different}
use Rattle.ess_semantics.specs.Membership.{member}
use Rattle.ess_semantics.specs.Tables.{code, atom_value, is_cell}
use Rattle.ess_semantics.specs.Cells.{Grid, behind}
use Rattle.ess_semantics.specs.Layers.{as_cell}
use Rattle.ess_semantics.specs.FunctionLayers.{with_arguments}
use Rattle.ess_semantics.specs.Representations.{value_of_cells}
use Rattle.ess_semantics.specs.CanonicalTest.{canonical}
use Rattle.ess_semantics.specs.Meaning.{cell_value}
use Rattle.ess_semantics.specs.Atoms.{IsAtom}
use Rattle.ess_semantics.proofs.Orders.{same-equal, same-itself, same_int-equal, same_int-itself}
use Rattle.ess_semantics.proofs.Tests.{and-left, and-right, and-both}
use Rattle.ess_repr_laws.specs.StructureMeaning.{fit}
use Rattle.ess_repr_laws.proofs.AxesOfTables.{one-code}
use Rattle.ess_repr_laws.proofs.CanonicalPlaces.{AllOf}
use Rattle.ess_repr_laws.proofs.CanonicalScalars.{Stands, boolean-stands, integer-stands, named-stands}
use Rattle.ess_repr_laws.proofs.StructureNumbers.{cell-order}

abbrev pub atom : Repr
atom = repr ReprKind.Atom no_reprs

-- No two numbers are equal.
abbrev pub numbers_differ : List ℤ → Bool
numbers_differ [] = true
numbers_differ (x ∷ xs) = not (list_any (λ y. same_int y x) xs) && numbers_differ xs

-- ---- cells

cells-hold : (b : Bool) (x : ℤ) (zs : List ℤ) → fit b x ≡ true → list_all (fit b) zs ≡ true → holds (map (cell_value b) zs) (cell_value b x) ≡ list_any (λ y. same_int y x) zs
cells-hold b x [] f h = refl
cells-hold b x (z ∷ zs) f h =
    ap (λ o. is_eq o || holds (map (cell_value b) zs) (cell_value b x)) (cell-order b z x (and-left (fit b z) (list_all (fit b) zs) h) f)
    ∙ ap (λ c. same_int z x || c) (cells-hold b x zs f (and-right (fit b z) (list_all (fit b) zs) h))

-- The values of a row differ where the numbers do.
pub cells-differ : (b : Bool) (zs : List ℤ) → list_all (fit b) zs ≡ true → all_different (map (cell_value b) zs) ≡ numbers_differ zs
cells-differ b [] h = refl
cells-differ b (z ∷ zs) h =
    ap (λ c. not c && all_different (map (cell_value b) zs)) (cells-hold b z zs (and-left (fit b z) (list_all (fit b) zs) h) (and-right (fit b z) (list_all (fit b) zs) h))
    ∙ ap (λ c. not (list_any (λ y. same_int y z) zs) && c) (cells-differ b zs (and-right (fit b z) (list_all (fit b) zs) h))

-- ---- values

same-code : (y : Domain) → IsAtom y → (v w : Value) → member y v ≡ true → member y w ≡ true → same v w ≡ same_int (code w) (code v)
same-code y a v w p q = go (same v w) refl (same_int (code w) (code v)) refl
  where
    go : (s : Bool) → same v w ≡ s → (t : Bool) → same_int (code w) (code v) ≡ t → same v w ≡ same_int (code w) (code v)
    go true e t f = e ∙ sym (ap (λ u. same_int (code u) (code v)) (sym (same-equal v w e)) ∙ same_int-itself (code v))
    go false e true f =
        let z : same v w ≡ true = ap (λ u. same u w) (sym (one-code y a w v q p (same_int-equal (code w) (code v) f))) ∙ same-itself w in
        let c : false ≡ true = sym e ∙ z in cc
    go false e false f = e ∙ sym f

-- The values of a function differ where their numbers do.
pub values-differ : (y : Domain) → IsAtom y → (xs vs : List Value) → length vs ≡ length xs → list_all (member y) vs ≡ true → is_injective (with_arguments xs vs) ≡ numbers_differ (map code vs)
values-differ y a [] [] e h = refl
values-differ y a [] (v ∷ vs) e h = cc
values-differ y a (x ∷ xs) [] e h = cc
values-differ y a (x ∷ xs) (v ∷ vs) e h =
    let e' : length vs ≡ length xs = cc in
    ap (λ c. not c && is_injective (with_arguments xs vs)) (among xs vs e' (and-right (member y v) (list_all (member y) vs) h))
    ∙ ap (λ c. not (list_any (λ z. same_int z (code v)) (map code vs)) && c) (values-differ y a xs vs e' (and-right (member y v) (list_all (member y) vs) h))
  where
    among : (xs vs : List Value) → length vs ≡ length xs → list_all (member y) vs ≡ true → list_any (λ p. same v (to_of p)) (with_arguments xs vs) ≡ list_any (λ z. same_int z (code v)) (map code vs)
    among [] [] e k = refl
    among [] (w ∷ ws) e k = cc
    among (u ∷ us) [] e k = cc
    among (u ∷ us) (w ∷ ws) e k =
        let e' : length ws ≡ length us = cc in
        ap (λ c. c || list_any (λ p. same v (to_of p)) (with_arguments us ws)) (same-code y a v w (and-left (member y v) (list_all (member y) vs') h) (and-left (member y w) (list_all (member y) ws) k))
        ∙ ap (λ c. same_int (code w) (code v) || c) (among us ws e' (and-right (member y w) (list_all (member y) ws) k))
      where
        vs' : List Value
        vs' = vs

-- ---- the values of cells

one-value : (y : Domain) → (o : Option ℤ) → (z : ℤ) → o ≡ Some z → Stands y z → (v : Value) → and_then o (atom_value y) ≡ Some v → (member y v ≡ true) × (code v ≡ z)
one-value y o z e s v h =
    let q : Some s.0 ≡ Some v = sym s.1 ∙ sym (ap (λ o. and_then o (atom_value y)) e) ∙ h in
    let w : s.0 ≡ v = cc in
    (subst (λ u. member y u ≡ true) w s.2, ap code (sym w) ∙ s.3)

asked-cell : (b : Bool) → (((b && true) && true) && true) && true ≡ true → b ≡ true
asked-cell true h = refl
asked-cell false h = cc

atom-at : (y : Domain) → IsAtom y → (f : Grid) → canonical atom y (f ∷ []) ≡ true → (v : Value) → value_of_cells atom y (f ∷ []) ≡ Some v → (member y v ≡ true) × (code v ≡ or_default (f []) (pos 0))
atom-at y a f h v e = go y a (f []) refl h e
  where
    go : (y : Domain) → IsAtom y → (o : Option ℤ) → f [] ≡ o → canonical atom y (f ∷ []) ≡ true → value_of_cells atom y (f ∷ []) ≡ Some v → (member y v ≡ true) × (code v ≡ or_default (f []) (pos 0))
    go booleans a None p h e = let c : false ≡ true = sym (ap (λ o. (((is_some_and o (is_cell booleans) && true) && true) && true) && true) p) ∙ h in cc
    go (integers ss) a None p h e = let c : false ≡ true = sym (ap (λ o. (((is_some_and o (is_cell (integers ss)) && true) && true) && true) && true) p) ∙ h in cc
    go (named t n) a None p h e = let c : false ≡ true = sym (ap (λ o. (((is_some_and o (is_cell (as_cell (named t n))) && true) && true) && true) && true) p) ∙ h in cc
    go booleans a (Some z) p h e =
        let r = one-value booleans (f []) z p (boolean-stands z (asked-cell (is_cell booleans z) (sym (ap (λ o. (((is_some_and o (is_cell booleans) && true) && true) && true) && true) p) ∙ h))) v e in
        (r.0, r.1 ∙ sym (ap (λ o. or_default o (pos 0)) p))
    go (integers ss) a (Some z) p h e =
        let r = one-value (integers ss) (f []) z p (integer-stands ss z (asked-cell (is_cell (integers ss) z) (sym (ap (λ o. (((is_some_and o (is_cell (integers ss)) && true) && true) && true) && true) p) ∙ h))) v e in
        (r.0, r.1 ∙ sym (ap (λ o. or_default o (pos 0)) p))
    go (named t n) a (Some z) p h e =
        let r = one-value (named t n) (f []) z p (named-stands t n z (asked-cell (is_cell (as_cell (named t n)) z) (sym (ap (λ o. (((is_some_and o (is_cell (as_cell (named t n))) && true) && true) && true) && true) p) ∙ h))) v e in
        (r.0, r.1 ∙ sym (ap (λ o. or_default o (pos 0)) p))
    go _ a o p h e = absurd a

-- The values at places are members, and their numbers are the cells.
pub place-values : (y : Domain) → IsAtom y → (f : Grid) (js : List (List ℤ)) (vs : List Value) → AllOf js (λ j. canonical atom y (behind j (f ∷ [])) ≡ true) →
    each_of js (λ j. value_of_cells atom y (behind j (f ∷ []))) ≡ Some vs → (list_all (member y) vs ≡ true) × (map code vs ≡ map (λ j. or_default (f (j ++ [])) (pos 0)) js)
place-values y a f [] vs h e = let z : [] ≡ vs = cc in (ap (list_all (member y)) (sym z), ap (map code) (sym z))
place-values y a f (j ∷ js) vs h e = go (value_of_cells atom y (behind j (f ∷ []))) (each_of js (λ j. value_of_cells atom y (behind j (f ∷ [])))) refl refl e (λ ws r. place-values y a f js ws h.1 r)
  where
    go : (o : Option Value) (p : Option (List Value)) → value_of_cells atom y (behind j (f ∷ [])) ≡ o → each_of js (λ j. value_of_cells atom y (behind j (f ∷ []))) ≡ p → and_then o (λ v. option_map (λ ws. v ∷ ws) p) ≡ Some vs →
        ((ws : List Value) → each_of js (λ j. value_of_cells atom y (behind j (f ∷ []))) ≡ Some ws → (list_all (member y) ws ≡ true) × (map code ws ≡ map (λ j. or_default (f (j ++ [])) (pos 0)) js)) →
        (list_all (member y) vs ≡ true) × (map code vs ≡ map (λ j. or_default (f (j ++ [])) (pos 0)) (j ∷ js))
    go None p q r e ih = cc
    go (Some v) None q r e ih = cc
    go (Some v) (Some ws) q r e ih =
        let z : v ∷ ws ≡ vs = cc in
        let m = atom-at y a (λ k. f (j ++ k)) h.0 v q in
        let n = ih ws r in (
          ap (list_all (member y)) (sym z) ∙ and-both (member y v) (list_all (member y) ws) m.0 n.0,
          ap (map code) (sym z) ∙ ap (λ c. c ∷ map code ws) m.1 ∙ ap (λ l. or_default (f (j ++ [])) (pos 0) ∷ l) n.1,
        )
