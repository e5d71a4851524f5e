-- A table with an item for each member of a domain: its cells, and the members whose cell is true.
use Rattle.std.proofs.Common.{◌≡◌, refl, sym, ap, ◌∙◌, Bool, true, false, ◌&&◌, List, [], ◌∷◌, map, length, ℤ, pos, Option, Some, None, subst, inl, inr}
use Rattle.std.specs.List.{list_all}
use Rattle.ess_semantics.specs.Lists.{or_default, is_some_and}
use Rattle.ess_semantics.specs.Values.{Value, itself}
use Rattle.ess_semantics.specs.Collections.{holds, rises}
use Rattle.ess_semantics.specs.Domains.{Domain, booleans, lists_of, member_list}
use Rattle.ess_semantics.specs.Membership.{member}
use Rattle.ess_semantics.specs.Tables.{Table, volume, cell_at, truth_number, is_cell}
use Rattle.ess_semantics.specs.Cells.{Grid, Axes, row, every_cell}
use Rattle.ess_semantics.specs.Layers.{chosen, count_true}
use Rattle.ess_repr_laws.specs.Finite.{Complete}
use Rattle.ess_semantics.proofs.Tests.{and-both}
use Rattle.ess_semantics.proofs.Sorting.{all-holds, one-sorted-list}
use Rattle.ess_repr_laws.proofs.RowsOfCells.{EachOf, EachIndex}
use Rattle.ess_repr_laws.proofs.CanonicalPlaces.{AllOf, all-of-map}
use Rattle.ess_repr_laws.proofs.Chosen.{Bit, on, chosen-there, chosen-holds, chosen-rises, chosen-count}
use Rattle.ess_repr_laws.proofs.Arguments.{Arguments, of-held, arguments-index}
use Rattle.ess_repr_laws.proofs.TablesAndCells.{AxesDiffer, row-length}
use Rattle.ess_repr_laws.proofs.ExactCells.{Exact, exact-items}
use Rattle.ess_repr_laws.proofs.SideBySide.{Along, along-under}
use Rattle.ess_repr_laws.proofs.PlacesOfTables.{items-along, row-places}
use Rattle.ess_repr_laws.proofs.CellsOfMembers.{map-long}

-- A list beside itself: what holds of each item with itself.
pub along-diagonal : {A : Type 0} (xs : List A) (R : A → A → Type 0) → Along xs xs R → AllOf xs (λ x. R x x)
along-diagonal [] R h = tt
along-diagonal (x ∷ xs) R h = (h.0, along-diagonal xs R h.1)

-- as many places as items
pub places-volume : (as' : Axes) → length (lists_of as') ≡ volume as'
places-volume as' =
    sym (map-long (λ p. or_default ((λ (js : List ℤ). None) p) (pos 0)) (lists_of as')) ∙ ap length (sym (row-places as' (λ js. None))) ∙ row-length as' (λ js. None)

-- a test of the cell at each index list
pub index-cell : (as' : Axes) (p : ℤ → Bool) (f : Grid) → EachIndex as' (λ js. is_some_and (f js) p ≡ true) → every_cell as' p f ≡ true
index-cell [] p f h = h
index-cell (a ∷ as') p f h = go a (λ k e. index-cell as' p (λ js. f (k ∷ js)) e) h
  where
    go : (ks : List ℤ) → ((k : ℤ) → EachIndex as' (λ js. is_some_and (f (k ∷ js)) p ≡ true) → every_cell as' p (λ js. f (k ∷ js)) ≡ true) → EachOf ks (λ k. EachIndex as' (λ js. is_some_and (f (k ∷ js)) p ≡ true)) →
        list_all (λ k. every_cell as' p (λ js. f (k ∷ js))) ks ≡ true
    go [] ih h = refl
    go (k ∷ ks) ih h = and-both (every_cell as' p (λ js. f (k ∷ js))) (list_all (λ k. every_cell as' p (λ js. f (k ∷ js))) ks) (ih k h.0) (go ks ih h.1)

module _ (d : Domain) (as' : Axes) (index : Value → List ℤ) (args : Arguments d as' index) (differ : AxesDiffer as') where
  abbrev xs : List Value
  xs = member_list d

  -- the table with F of each member
  abbrev pub table_with : (Value → ℤ) → Table
  table_with F = record { axes = as'; items = map F xs }

  filled : (F : Value → ℤ) → length (map F xs) ≡ volume as'
  filled F = map-long F xs ∙ sym (map-long index xs) ∙ ap length (sym args.places) ∙ places-volume as'

  -- The table has exactly the cells of its axes.
  pub argument-exact : (F : Value → ℤ) → Exact as' (cell_at (table_with F))
  argument-exact F = exact-items as' (map F xs) (filled F)

  -- Its cells are F of the members.
  pub argument-cells : (F : Value → ℤ) → AllOf xs (λ x. cell_at (table_with F) (index x) ≡ Some (F x))
  argument-cells F =
      along-diagonal xs (λ x y. cell_at (table_with F) (index x) ≡ Some (F y))
      (along-under index F xs xs (λ p n. cell_at (table_with F) p ≡ Some n)
      (subst (λ l. Along l (map F xs) (λ p n. cell_at (table_with F) p ≡ Some n)) args.places (items-along as' differ (map F xs) (filled F))))

  -- They lie in a domain where each item does.
  pub argument-fit : (F : Value → ℤ) (p : ℤ → Bool) → AllOf xs (λ x. p (F x) ≡ true) → every_cell as' p (cell_at (table_with F)) ≡ true
  argument-fit F p h =
      index-cell as' p (cell_at (table_with F))
      (arguments-index d as' index args (λ js. is_some_and (cell_at (table_with F) js) p ≡ true) (both xs (argument-cells F) h))
    where
      both : (ys : List Value) → AllOf ys (λ x. cell_at (table_with F) (index x) ≡ Some (F x)) → AllOf ys (λ x. p (F x) ≡ true) → AllOf ys (λ x. is_some_and (cell_at (table_with F) (index x)) p ≡ true)
      both [] a b = tt
      both (y ∷ ys) a b = (ap (λ o. is_some_and o p) a.0 ∙ b.0, both ys a.1 b.1)

  -- the row of the table
  pub argument-row : (f : Grid) → row as' f ≡ map (λ x. or_default (f (index x)) (pos 0)) xs
  argument-row f = row-places as' f ∙ ap (map (λ p. or_default (f p) (pos 0))) args.places ∙ under xs
    where
      under : (ys : List Value) → map (λ p. or_default (f p) (pos 0)) (map index ys) ≡ map (λ x. or_default (f (index x)) (pos 0)) ys
      under [] = refl
      under (y ∷ ys) = ap (λ l. or_default (f (index y)) (pos 0) ∷ l) (under ys)

  -- ---- which members occur

  module _ (complete : Complete d) (zs : List Value) (rise : rises itself zs ≡ true) (inside : list_all (member d) zs ≡ true) where
    abbrev bit_of : Value → ℤ
    bit_of x = truth_number (holds zs x)

    -- The table of the members of a list: true where one stands in it.
    abbrev pub occurrence : Table
    occurrence = table_with bit_of

    is-bit : (b : Bool) → is_cell booleans (truth_number b) ≡ true
    is-bit true = refl
    is-bit false = refl

    each-fits : (ys : List Value) → AllOf ys (λ x. is_cell booleans (bit_of x) ≡ true)
    each-fits [] = tt
    each-fits (y ∷ ys) = (is-bit (holds zs y), each-fits ys)

    -- Its cells are truth values.
    pub occurrence-fits : every_cell as' (is_cell booleans) (cell_at occurrence) ≡ true
    occurrence-fits = argument-fit bit_of (is_cell booleans) (each-fits xs)

    a-bit : (o : Option ℤ) (b : Bool) → o ≡ Some (truth_number b) → Bit o
    a-bit o true e = inr e
    a-bit o false e = inl e

    bits : AllOf xs (λ x. Bit (cell_at occurrence (index x)))
    bits = all-of-map xs (λ x. cell_at occurrence (index x) ≡ Some (bit_of x)) (λ x. Bit (cell_at occurrence (index x))) (λ x e. a-bit (cell_at occurrence (index x)) (holds zs x) e) (argument-cells bit_of)

    -- The chosen members are the given ones.
    pub occurrence-chosen : chosen xs (λ x. cell_at occurrence (index x)) ≡ Some zs
    occurrence-chosen =
        let r = chosen-there xs (λ x. cell_at occurrence (index x)) bits in
        let l = args.listed in
        r.1 ∙ ap Some (one-sorted-list r.0 zs (chosen-rises xs (λ x. cell_at occurrence (index x)) r.0 r.1 l.sorted) rise (λ w. chosen-holds xs (λ x. cell_at occurrence (index x)) r.0 w r.1 ∙ go w (holds xs w) refl))
      where
        on-truth : (b : Bool) → on (Some (truth_number b)) ≡ b
        on-truth true = refl
        on-truth false = refl

        outside : (w : Value) (b : Bool) → holds xs w ≡ false → holds zs w ≡ b → false ≡ b
        outside w false e q = refl
        outside w true e q = sym e ∙ complete w (all-holds (member d) zs w inside q)

        go : (w : Value) (b : Bool) → holds xs w ≡ b → b && on (cell_at occurrence (index w)) ≡ holds zs w
        go w true e = ap on (of-held xs (λ x. cell_at occurrence (index x) ≡ Some (bit_of x)) w (argument-cells bit_of) e) ∙ on-truth (holds zs w)
        go w false e = outside w (holds zs w) e refl

    -- As many of its cells are true as the list has items.
    pub occurrence-count : count_true (row as' (cell_at occurrence)) ≡ length zs
    occurrence-count = ap count_true (argument-row (cell_at occurrence)) ∙ chosen-count xs (λ x. cell_at occurrence (index x)) zs occurrence-chosen bits
