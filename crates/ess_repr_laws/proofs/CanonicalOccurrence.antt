-- Sets as truth values of the members of an atom are right.
use Rattle.std.proofs.Common.{◌≡◌, refl, sym, ap, ◌∙◌, true, false, ◌&&◌, List, [], ◌∷◌, map, length, ℤ, pos, Option, Some, option_map}
use Rattle.std.specs.List.{list_all}
use Rattle.ess_semantics.specs.declared.words.ReprKind.{ReprKind}
use Rattle.ess_semantics.specs.Lists.{is_some_and, or_default}
use Rattle.ess_semantics.specs.Values.{a_set, Value, node, to_list, of_list, itself}
use Rattle.ess_semantics.specs.Collections.{rises}
use Rattle.ess_semantics.specs.Trees.{Repr, repr, no_reprs}
use Rattle.ess_semantics.specs.Domains.{Attribute, Domain, sets, booleans, member_list}
use Rattle.ess_semantics.specs.Attributes.{set_attributes_hold}
use Rattle.ess_semantics.specs.Membership.{member}
use Rattle.ess_semantics.specs.Tables.{code, is_cell}
use Rattle.ess_semantics.specs.Cells.{Grid, Cells, every_cell, row, rows}
use Rattle.ess_semantics.specs.Layers.{chosen, codes_of, count_true}
use Rattle.ess_semantics.specs.SetLayers.{occurrence_layer}
use Rattle.ess_semantics.specs.Representations.{value_of_cells}
use Rattle.ess_semantics.specs.Declarations.{axes_of}
use Rattle.ess_semantics.specs.CanonicalTest.{canonical}
use Rattle.ess_semantics.specs.Tidy.{tidy_cells}
use Rattle.ess_repr_laws.specs.CanonicalTables.{Right}
use Rattle.ess_semantics.specs.Atoms.{Listed}
use Rattle.ess_semantics.proofs.Tests.{and-left, and-both}
use Rattle.ess_semantics.proofs.Orders.{to_list-of_list}
use Rattle.ess_repr_laws.proofs.RowsOfCells.{EachOf, agree-row}
use Rattle.ess_repr_laws.proofs.SlotsUsed.{all-map, bit-cell}
use Rattle.ess_repr_laws.proofs.CanonicalParts.{Parts, parts-of}
use Rattle.ess_repr_laws.proofs.CanonicalPlaces.{AllOf, all-of-list, all-of-map}
use Rattle.ess_repr_laws.proofs.Chosen.{Bit, chosen-there, chosen-once, chosen-rises, chosen-all, chosen-count}

module _ (e : Domain) (ks : List Attribute) (listed : Listed e) where
  abbrev occurrence : Repr
  occurrence = repr ReprKind.Occurrence no_reprs

  abbrev xs : List Value
  xs = member_list e

  -- the cell of a member
  abbrev cell_of : Grid → Value → Option ℤ
  cell_of f x = f (code x ∷ [])

  each-code : (zs : List Value) (P : ℤ → Type 0) → AllOf zs (λ x. P (code x)) → EachOf (map code zs) P
  each-code [] P h = tt
  each-code (z ∷ zs) P h = (h.0, each-code zs P h.1)

  row-of-codes : (f : Grid) (zs : List Value) → row (map code zs ∷ []) f ≡ map (λ x. or_default (cell_of f x) (pos 0)) zs
  row-of-codes f [] = refl
  row-of-codes f (z ∷ zs) = ap (λ l. or_default (cell_of f z) (pos 0) ∷ l) (row-of-codes f zs)

  record Chosen (f : Grid) : Type 0 where
    parts : Parts (occurrence_layer ks e) no_reprs (f ∷ []) []
    bits : AllOf xs (λ x. Bit (cell_of f x))
    ys : List Value
    found : chosen xs (cell_of f) ≡ Some ys
    value : value_of_cells occurrence (sets ks e) (f ∷ []) ≡ Some (node a_set (of_list ys))

  occurrence-chosen : (f : Grid) → canonical occurrence (sets ks e) (f ∷ []) ≡ true → Chosen f
  occurrence-chosen f h =
      let p = parts-of (occurrence_layer ks e) no_reprs (f ∷ []) [] h in
      let cells = sym (all-map (λ k. is_some_and (f (k ∷ [])) (is_cell booleans)) code xs) ∙ and-left (every_cell (codes_of e ∷ []) (is_cell booleans) f) true p.fit in
      let bits = all-of-map xs (λ x. is_some_and (cell_of f x) (is_cell booleans) ≡ true) (λ x. Bit (cell_of f x)) (λ x c. bit-cell (cell_of f x) c) (all-of-list xs (λ x. is_some_and (cell_of f x) (is_cell booleans)) cells) in
      let r = chosen-there xs (cell_of f) bits in
      record { parts = p; bits = bits; ys = r.0; found = r.1; value = ap (option_map (λ ys. node a_set (of_list ys))) r.1 }

  too-many : (f g : Grid) (gs : Cells) → canonical occurrence (sets ks e) (f ∷ g ∷ gs) ≡ true → ⊥
  too-many f g gs h = let p = parts-of (occurrence_layer ks e) no_reprs (f ∷ []) (g ∷ gs) h in let z : false ≡ true = p.inside in cc

  occurrence-sound : (c : Cells) → canonical occurrence (sets ks e) c ≡ true → (v : Value) × (value_of_cells occurrence (sets ks e) c ≡ Some v)
  occurrence-sound [] h = cc
  occurrence-sound (f ∷ []) h = let x = occurrence-chosen f h in (node a_set (of_list x.ys), x.value)
  occurrence-sound (f ∷ g ∷ gs) h = absurd (too-many f g gs h)

  occurrence-unique : (c c' : Cells) → canonical occurrence (sets ks e) c ≡ true → canonical occurrence (sets ks e) c' ≡ true →
      value_of_cells occurrence (sets ks e) c ≡ value_of_cells occurrence (sets ks e) c' → rows (axes_of occurrence (sets ks e)) c ≡ rows (axes_of occurrence (sets ks e)) c'
  occurrence-unique [] c' h h' q = cc
  occurrence-unique (f ∷ g ∷ gs) c' h h' q = absurd (too-many f g gs h)
  occurrence-unique (f ∷ []) [] h h' q = cc
  occurrence-unique (f ∷ []) (f' ∷ g ∷ gs) h h' q = absurd (too-many f' g gs h')
  occurrence-unique (f ∷ []) (g ∷ []) h h' q =
      let x = occurrence-chosen f h in
      let y = occurrence-chosen g h' in
      let w : Some (node a_set (of_list x.ys)) ≡ Some (node a_set (of_list y.ys)) = sym x.value ∙ q ∙ y.value in
      let l : of_list x.ys ≡ of_list y.ys = cc in
      let ys : x.ys ≡ y.ys = sym (to_list-of_list x.ys) ∙ ap to_list l ∙ to_list-of_list y.ys in
      ap (λ r. r ∷ []) (agree-row (codes_of e ∷ []) f g (each-code xs (λ k. f (k ∷ []) ≡ g (k ∷ []))
      (chosen-once xs x.ys (cell_of f) (cell_of g) x.found (y.found ∙ ap Some (sym ys)) xs (λ w e. e) x.bits y.bits)))

  occurrence-tidies : (c : Cells) → canonical occurrence (sets ks e) c ≡ true → tidy_cells occurrence (sets ks e) c ≡ true
  occurrence-tidies [] h = cc
  occurrence-tidies (f ∷ g ∷ gs) h = absurd (too-many f g gs h)
  occurrence-tidies (f ∷ []) h =
      let x = occurrence-chosen f h in
      let p = x.parts in
      and-both (is_some_and (value_of_cells occurrence (sets ks e) (f ∷ [])) (member (sets ks e))) true
      (ap (λ o. is_some_and o (member (sets ks e))) x.value
      ∙ ap (λ l. rises itself l && list_all (member e) l && set_attributes_hold ks (length l)) (to_list-of_list x.ys)
      ∙ and-both (rises itself x.ys && list_all (member e) x.ys) (set_attributes_hold ks (length x.ys))
      (and-both (rises itself x.ys) (list_all (member e) x.ys) (chosen-rises xs (cell_of f) x.ys x.found listed.sorted) (chosen-all (member e) xs (cell_of f) x.ys x.found listed.members))
      (ap (set_attributes_hold ks) (sym (ap count_true (row-of-codes f xs) ∙ chosen-count xs (cell_of f) x.ys x.found x.bits)) ∙ p.attributes)) refl

  -- Canonical cells of sets as the members that occur.
  pub occurrence-right : Right occurrence (sets ks e)
  occurrence-right = record { sound = occurrence-sound; unique = occurrence-unique; tidies = occurrence-tidies }
