-- Multisets as how often each member of an atom occurs are right.
use Rattle.std.proofs.Common.{◌≡◌, refl, sym, ap, ◌∙◌, ℕ, suc, true, false, ◌&&◌, List, [], ◌∷◌, map, length, ℤ, pos, Option, Some, option_map}
use Rattle.std.specs.List.{list_all}
use Rattle.ess_semantics.specs.declared.words.ReprKind.{ReprKind}
use Rattle.ess_semantics.specs.Lists.{and_then, each_of, is_some_and, or_default}
use Rattle.ess_semantics.specs.Values.{a_mset, Value, node, to_list, of_list}
use Rattle.ess_semantics.specs.Collections.{rises_weakly}
use Rattle.ess_semantics.specs.Numbers.{not_below_0}
use Rattle.ess_semantics.specs.Trees.{Repr, repr, no_reprs}
use Rattle.ess_semantics.specs.Domains.{Attribute, Domain, msets, member_list}
use Rattle.ess_semantics.specs.Attributes.{mset_attributes_hold}
use Rattle.ess_semantics.specs.Membership.{member}
use Rattle.ess_semantics.specs.Sizes.{occurrences}
use Rattle.ess_semantics.specs.Tables.{code, is_cell}
use Rattle.ess_semantics.specs.Cells.{Grid, Cells, every_cell, row, rows}
use Rattle.ess_semantics.specs.Layers.{codes_of, up_to, each_repeated}
use Rattle.ess_semantics.specs.MultisetLayers.{times_hold, counts_hold, mset_occurrence_layer}
use Rattle.ess_semantics.specs.Representations.{value_of_cells}
use Rattle.ess_semantics.specs.Declarations.{axes_of}
use Rattle.ess_semantics.specs.CanonicalTest.{canonical}
use Rattle.ess_semantics.specs.Tidy.{tidy_cells}
use Rattle.ess_repr_laws.specs.CanonicalTables.{Right}
use Rattle.ess_semantics.specs.Atoms.{Listed}
use Rattle.ess_semantics.proofs.Tests.{and-left, and-both}
use Rattle.ess_semantics.proofs.Orders.{to_list-of_list}
use Rattle.ess_semantics.proofs.Sorting.{sorted-of, Distinct}
use Rattle.ess_repr_laws.proofs.RowsOfCells.{EachOf, agree-row}
use Rattle.ess_repr_laws.proofs.SlotsUsed.{all-map, marker-cell}
use Rattle.ess_repr_laws.proofs.CanonicalParts.{Parts, parts-of}
use Rattle.ess_repr_laws.proofs.CanonicalPlaces.{AllOf, all-of-list, all-of-map}
use Rattle.ess_semantics.proofs.Repeats.{attributes-of, sorted-distinct, repeated-once, repeated-weakly, of-weakly, all-repeated, repeated-length, repeated-times}

-- a cell that is there and isn't below 0
abbrev pub Natural : Option ℤ → Type 0
Natural o = (n : ℕ) × (o ≡ Some (pos n))

-- the numbers of times
pub numbers-there : {A : Type 0} (xs : List A) (F : A → Option ℤ) → AllOf xs (λ x. Natural (F x)) →
    (ns : List ℕ) × (each_of xs (λ x. and_then (F x) not_below_0) ≡ Some ns) × (length ns ≡ length xs) × (map (λ x. or_default (F x) (pos 0)) xs ≡ map pos ns)
numbers-there [] F h = ([], refl, refl, refl)
numbers-there (x ∷ xs) F h =
    let r = numbers-there xs F h.1 in
    let n = h.0.0 in (
      n ∷ r.0,
      ap (λ o. and_then (and_then o not_below_0) (λ y. option_map (λ ys. y ∷ ys) (each_of xs (λ x. and_then (F x) not_below_0)))) h.0.1 ∙ ap (option_map (λ ys. n ∷ ys)) r.1,
      ap suc r.2,
      ap (λ o. or_default o (pos 0) ∷ map (λ x. or_default (F x) (pos 0)) xs) h.0.1 ∙ ap (λ l. pos n ∷ l) r.3,
    )

-- cells with the same numbers of times are one
pub numbers-once : {A : Type 0} (xs : List A) (F G : A → Option ℤ) → AllOf xs (λ x. Natural (F x)) → AllOf xs (λ x. Natural (G x)) → map (λ x. or_default (F x) (pos 0)) xs ≡ map (λ x. or_default (G x) (pos 0)) xs → AllOf xs (λ x. F x ≡ G x)
numbers-once [] F G a b e = tt
numbers-once (x ∷ xs) F G a b e =
    let h : or_default (F x) (pos 0) ≡ or_default (G x) (pos 0) = cc in
    let t : map (λ x. or_default (F x) (pos 0)) xs ≡ map (λ x. or_default (G x) (pos 0)) xs = cc in
    (a.0.1 ∙ ap Some (sym (ap (λ o. or_default o (pos 0)) a.0.1) ∙ h ∙ ap (λ o. or_default o (pos 0)) b.0.1) ∙ sym b.0.1, numbers-once xs F G a.1 b.1 t)

module _ (e : Domain) (ks : List Attribute) (listed : Listed e) where
  abbrev by_member : Repr
  by_member = repr ReprKind.MSetOccurrence no_reprs

  abbrev xs : List Value
  xs = member_list e

  abbrev cell_of : Grid → Value → Option ℤ
  cell_of f x = f (code x ∷ [])

  each-code : (zs : List Value) (P : ℤ → Type 0) → AllOf zs (λ x. P (code x)) → EachOf (map code zs) P
  each-code [] P h = tt
  each-code (z ∷ zs) P h = (h.0, each-code zs P h.1)

  row-of-codes : (f : Grid) (zs : List Value) → row (map code zs ∷ []) f ≡ map (λ x. or_default (cell_of f x) (pos 0)) zs
  row-of-codes f [] = refl
  row-of-codes f (z ∷ zs) = ap (λ l. or_default (cell_of f z) (pos 0) ∷ l) (row-of-codes f zs)

  distinct : Distinct xs
  distinct = sorted-distinct xs (sorted-of xs listed.sorted)

  record Counted (f : Grid) : Type 0 where
    parts : Parts (mset_occurrence_layer ks e) no_reprs (f ∷ []) []
    naturals : AllOf xs (λ x. Natural (cell_of f x))
    ns : List ℕ
    long : length ns ≡ length xs
    cells : map (λ x. or_default (cell_of f x) (pos 0)) xs ≡ map pos ns
    value : value_of_cells by_member (msets ks e) (f ∷ []) ≡ Some (node a_mset (of_list (each_repeated ns xs)))

  counted-of : (f : Grid) → canonical by_member (msets ks e) (f ∷ []) ≡ true → Counted f
  counted-of f h =
      let p = parts-of (mset_occurrence_layer ks e) no_reprs (f ∷ []) [] h in
      let u = occurrences ks in
      let cells = sym (all-map (λ k. is_some_and (f (k ∷ [])) (is_cell (up_to u))) code xs) ∙ and-left (every_cell (codes_of e ∷ []) (is_cell (up_to u)) f) true p.fit in
      let naturals = all-of-map xs (λ x. is_some_and (cell_of f x) (is_cell (up_to u)) ≡ true) (λ x. Natural (cell_of f x)) (λ x c. let m = marker-cell (cell_of f x) u c in (m.0, m.1)) (all-of-list xs (λ x. is_some_and (cell_of f x) (is_cell (up_to u))) cells) in
      let r = numbers-there xs (cell_of f) naturals in
      record {
        parts = p;
        naturals = naturals;
        ns = r.0;
        long = r.2;
        cells = r.3;
        value = ap (option_map (λ ns. node a_mset (of_list (each_repeated ns xs)))) r.1;
      }

  too-many : (f g : Grid) (gs : Cells) → canonical by_member (msets ks e) (f ∷ g ∷ gs) ≡ true → ⊥
  too-many f g gs h = let p = parts-of (mset_occurrence_layer ks e) no_reprs (f ∷ []) (g ∷ gs) h in let z : false ≡ true = p.inside in cc

  counted-sound : (c : Cells) → canonical by_member (msets ks e) c ≡ true → (v : Value) × (value_of_cells by_member (msets ks e) c ≡ Some v)
  counted-sound [] h = cc
  counted-sound (f ∷ []) h = let x = counted-of f h in (node a_mset (of_list (each_repeated x.ns xs)), x.value)
  counted-sound (f ∷ g ∷ gs) h = absurd (too-many f g gs h)

  counted-unique : (c c' : Cells) → canonical by_member (msets ks e) c ≡ true → canonical by_member (msets ks e) c' ≡ true →
      value_of_cells by_member (msets ks e) c ≡ value_of_cells by_member (msets ks e) c' → rows (axes_of by_member (msets ks e)) c ≡ rows (axes_of by_member (msets ks e)) c'
  counted-unique [] c' h h' q = cc
  counted-unique (f ∷ g ∷ gs) c' h h' q = absurd (too-many f g gs h)
  counted-unique (f ∷ []) [] h h' q = cc
  counted-unique (f ∷ []) (f' ∷ g ∷ gs) h h' q = absurd (too-many f' g gs h')
  counted-unique (f ∷ []) (g ∷ []) h h' q =
      let x = counted-of f h in
      let y = counted-of g h' in
      let w : Some (node a_mset (of_list (each_repeated x.ns xs))) ≡ Some (node a_mset (of_list (each_repeated y.ns xs))) = sym x.value ∙ q ∙ y.value in
      let l : of_list (each_repeated x.ns xs) ≡ of_list (each_repeated y.ns xs) = cc in
      let r : each_repeated x.ns xs ≡ each_repeated y.ns xs = sym (to_list-of_list (each_repeated x.ns xs)) ∙ ap to_list l ∙ to_list-of_list (each_repeated y.ns xs) in
      let n = repeated-once xs distinct x.ns y.ns x.long y.long r in
      ap (λ r. r ∷ []) (agree-row (codes_of e ∷ []) f g (each-code xs (λ k. f (k ∷ []) ≡ g (k ∷ []))
      (numbers-once xs (cell_of f) (cell_of g) x.naturals y.naturals (x.cells ∙ ap (map pos) n ∙ sym y.cells))))

  counted-tidies : (c : Cells) → canonical by_member (msets ks e) c ≡ true → tidy_cells by_member (msets ks e) c ≡ true
  counted-tidies [] h = cc
  counted-tidies (f ∷ g ∷ gs) h = absurd (too-many f g gs h)
  counted-tidies (f ∷ []) h =
      let x = counted-of f h in
      let p = x.parts in
      let ys = each_repeated x.ns xs in
      and-both (is_some_and (value_of_cells by_member (msets ks e) (f ∷ [])) (member (msets ks e))) true
      (ap (λ o. is_some_and o (member (msets ks e))) x.value
      ∙ ap (λ l. rises_weakly l && list_all (member e) l && mset_attributes_hold ks l) (to_list-of_list ys)
      ∙ and-both (rises_weakly ys && list_all (member e) ys) (mset_attributes_hold ks ys)
      (and-both (rises_weakly ys) (list_all (member e) ys) (of-weakly ys (repeated-weakly x.ns xs (sorted-of xs listed.sorted))) (all-repeated (member e) x.ns xs listed.members))
      (attributes-of ks ys (map pos x.ns) (repeated-length x.ns xs x.long) (λ k z a v m c. repeated-times (times_hold k z) x.ns xs distinct a v m c)
      (ap (counts_hold ks) (sym (row-of-codes f xs ∙ x.cells)) ∙ p.attributes))) refl

  -- Canonical cells of multisets as how often each member occurs.
  pub mset-occurrence-right : Right by_member (msets ks e)
  mset-occurrence-right = record { sound = counted-sound; unique = counted-unique; tidies = counted-tidies }
