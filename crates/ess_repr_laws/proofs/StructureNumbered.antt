-- The structure constraint of a partition by the number of each member's part: parts are numbered by their least members, all numbers are
-- taken, and the parts have the attributes.
use Rattle.std.proofs.Common.{◌≡◌, refl, sym, ap, ◌∙◌, subst, ℕ, ◌+◌, ◌≤◌, ◌<◌, Bool, true, false, ◌&&◌, List, [], ◌∷◌, ◌++◌, drop, length, ℤ, pos, Option, Some, None, IsTrue, is_some, arith, append-nil}
use Rattle.std.specs.List.{list_all}
use Rattle.ess_semantics.specs.declared.words.ReprKind.{ReprKind}
use Rattle.ess_semantics.specs.Lists.{is_some_and, or_default}
use Rattle.ess_semantics.specs.Values.{Text, Value, number, a_partition, node, of_list, to_list, truth}
use Rattle.ess_semantics.specs.Order.{same_text}
use Rattle.ess_semantics.specs.Collections.{sorted_once, has_empty_part}
use Rattle.ess_semantics.specs.Trees.{Mark, Repr, repr, no_reprs, Ex, Exs, cell_ex, Dom, partition_dom}
use Rattle.ess_semantics.specs.Domains.{Attribute, Domain, partitions, members, member_list, between}
use Rattle.ess_semantics.specs.Attributes.{partition_attributes_hold}
use Rattle.ess_semantics.specs.Operators.{as_truth}
use Rattle.ess_semantics.specs.Sizes.{bound}
use Rattle.ess_semantics.specs.Tables.{Table, Tables, code, cell_at, is_cell}
use Rattle.ess_semantics.specs.Cells.{Grid, behind, cells_of, every_cell}
use Rattle.ess_semantics.specs.Layers.{codes_of, up_to}
use Rattle.ess_semantics.specs.Declarations.{Declaration, declarations_below, widened}
use Rattle.ess_semantics.specs.CanonicalTest.{canonical}
use Rattle.ess_semantics.specs.Meaning.{Env, meaning}
use Rattle.ess_semantics.specs.Atoms.{IsAtom}
use Rattle.ess_semantics.proofs.Connectives.{and-means}
use Rattle.ess_semantics.proofs.MemberLists.{atom-listed}
use Rattle.ess_semantics.proofs.Orders.{to_list-of_list}
use Rattle.ess_semantics.proofs.Tests.{and-left, and-right}
use Rattle.ess_repr_laws.specs.Finite.{Complete}
use Rattle.ess_repr_laws.specs.PartitionParts.{bare_partition_dom, numbered_on_ex, taken_ex, part_sizes_ex, numbered_ex}
use Rattle.ess_repr_laws.specs.StructureParts.{Shape, Terms, and_ex, keys_ex, each_ex, first_name, own_shape}
use Rattle.ess_repr_laws.specs.StructureMeaning.{Number, Bound, M, AxesAre, FoundBy, Placed, Attributes, DomainIs}
use Rattle.ess_repr_laws.specs.ViewParts.{view_ex, one_size_ex, regular_key_ex}
use Rattle.ess_repr_laws.proofs.CompleteLists.{atom-complete}
use Rattle.ess_repr_laws.proofs.CanonicalPlaces.{AllOf, all-of-map, all-of-list}
use Rattle.ess_repr_laws.proofs.NumberedAsked.{numbered-value, numbered-asked}
use Rattle.ess_repr_laws.proofs.NumberedParts.{numbered_parts, is_taken, is_numbered_well, well-by-least, taken-filled, parts-count, parts-sets}
use Rattle.ess_repr_laws.proofs.NumbersOfCells.{each-well-means, taken-means}
use Rattle.ess_repr_laws.proofs.OnceHeld.{SetOf}
use Rattle.ess_repr_laws.proofs.SizesOfParts.{part-attributes-mean}
use Rattle.ess_repr_laws.proofs.SlotsUsed.{all-map, marker-cell}
use Rattle.ess_repr_laws.proofs.StructureFits.{Fit, first-fit}
use Rattle.ess_repr_laws.proofs.StructureMultisets.{cells-there}
use Rattle.ess_repr_laws.proofs.StructureOf.{StructureOf}
use Rattle.ess_repr_laws.proofs.StructureRows.{From, Steady, There, grid_at}
use Rattle.ess_repr_laws.proofs.StructureUse.{cell-means}
use Rattle.ess_repr_laws.proofs.ViewsOfCells.{view-stands}
use Rattle.ess_semantics.proofs.Sorting.{all-holds}

-- The members of an atom, where they are listed, are all there.
pub listed-complete : (x : Domain) → IsAtom x → members x ≡ Some (member_list x) → Complete x
listed-complete x a me = atom-complete x (a, subst (λ o. IsTrue (is_some o)) (sym me) refl)

module _ (env0 : Env) (q : ℕ → Text) (q-apart : (m l : ℕ) → l < m → same_text (q m) (q l) ≡ false) (terms : Terms)
    (ms : List Mark) (es : Exs) (d : Dom) (ks : List Attribute) (x : Domain) (a : IsAtom x) (me : members x ≡ Some (member_list x))
    (full : Complete x)
    (ax : AxesAre env0 q q-apart (d ∷ []) (member_list x ∷ [])) (dm : DomainIs env0 q q-apart (bare_partition_dom d) (partitions [] x))
    (at : Attributes env0 q q-apart terms ms es ks) where
  abbrev kind : Repr
  kind = repr ReprKind.PartitionOccurrence no_reprs

  abbrev count_table : Declaration
  count_table = record { axes = []; cell = up_to (bound x) }

  abbrev number_table : Domain → Declaration
  number_table c = record { axes = codes_of x ∷ []; cell = c }

  -- Cells that fit: the number of parts lies in its domain, and each member has a number.
  record TwoFit (f g : Grid) : Type 0 where
    count : every_cell [] (is_cell (up_to (bound x))) f ≡ true
    there : every_cell (codes_of x ∷ []) (λ z. true) g ≡ true

  two-fit : (out : Bool) (f g : Grid) → Fit (declarations_below out kind (partitions ks x)) (f ∷ g ∷ []) → TwoFit f g
  two-fit true f g c =
      let u = first-fit count_table (number_table (widened (between (pos 1) (pos (bound x)))) ∷ []) f (g ∷ []) c in
      let v = first-fit (number_table (widened (between (pos 1) (pos (bound x))))) [] g [] u.others in
      record { count = u.inside; there = cells-there (codes_of x ∷ []) (is_cell (widened (between (pos 1) (pos (bound x))))) g v.inside }
  two-fit false f g c =
      let u = first-fit count_table (number_table (between (pos 1) (pos (bound x))) ∷ []) f (g ∷ []) c in
      let v = first-fit (number_table (between (pos 1) (pos (bound x)))) [] g [] u.others in
      record { count = u.inside; there = cells-there (codes_of x ∷ []) (is_cell (between (pos 1) (pos (bound x)))) g v.inside }

  -- its tables
  abbrev own_shapes : List Text → List Shape
  own_shapes ns = own_shape ns false [] ∷ own_shape (drop 1 ns) false (d ∷ []) ∷ []

  abbrev own_members : List (List (List Value))
  own_members = [] ∷ (member_list x ∷ []) ∷ []

  numbers-there : (out : Bool) (ns : List Text) (ts : Tables) (i : List ℤ) → Placed env0 q q-apart (own_shapes ns) own_members ts →
      Fit (declarations_below out kind (partitions ks x)) (behind i (cells_of ts)) → There env0 q q-apart (own_shapes ns) own_members ts i
  numbers-there out ns (t ∷ u ∷ []) i p c =
      let z = two-fit out (grid_at env0 q q-apart t i) (grid_at env0 q q-apart u i) c in
      (cells-there [] (is_cell (up_to (bound x))) (grid_at env0 q q-apart t i) z.count, (z.there, tt))
  numbers-there out ns [] i p c = absurd p
  numbers-there out ns (t ∷ []) i p c = absurd p.2
  numbers-there out ns (t ∷ u ∷ v ∷ ts) i p c = absurd p.2.2

  numbers-found : (ns : List Text) (ts : Tables) → length ns ≡ 2 + 0 → FoundBy env0 q q-apart ns ts → Placed env0 q q-apart
      (own_shapes ns) own_members ts
  numbers-found (n ∷ m ∷ []) (t ∷ u ∷ []) w h = (h.0, tt, (h.1.0, ax, tt))
  numbers-found [] ts w h = absurd (omega arith)
  numbers-found (n ∷ []) ts w h = absurd (omega arith)
  numbers-found (n ∷ m ∷ k ∷ ns) ts w h = absurd (omega arith)
  numbers-found (n ∷ m ∷ []) [] w h = absurd h
  numbers-found (n ∷ m ∷ []) (t ∷ []) w h = absurd h.1
  numbers-found (n ∷ m ∷ []) (t ∷ u ∷ v ∷ ts) w h = absurd h.1.1

  -- its view
  abbrev seen : List Text → Exs → Ex
  seen ns is = view_ex kind (bare_partition_dom d) (own_shapes ns) is

  module _ (out : Bool) (ns : List Text) (t u : Table) (l : ℕ) (is : Exs) (i : List ℤ) (bs : Bound env0 q q-apart)
      (p : Placed env0 q q-apart (own_shapes ns) own_members (t ∷ u ∷ []))
      (c : Fit (declarations_below out kind (partitions ks x)) (behind i (cells_of (t ∷ u ∷ [])))) (st : Steady env0 q q-apart l is i bs)
    where
      abbrev f : Grid
      f = grid_at env0 q q-apart t i

      abbrev g : Grid
      g = grid_at env0 q q-apart u i

      fits : TwoFit f g
      fits = two-fit out f g c

      mark : (n : ℕ) × (f [] ≡ Some (pos n)) × (n ≤ bound x)
      mark = marker-cell (f []) (bound x) fits.count

      abbrev n : ℕ
      n = mark.0

      abbrev xs : List Value
      xs = member_list x

      -- the number of a member's part
      abbrev w : Value → ℤ
      w v = or_default (g (code v ∷ [])) (pos 0)

      cells : AllOf xs (λ v. g (code v ∷ []) ≡ Some (w v))
      cells =
          all-of-map xs (λ v. is_some_and (g (code v ∷ [])) (λ z. true) ≡ true) (λ v. g (code v ∷ []) ≡ Some (w v))
          (λ v h. some (g (code v ∷ [])) h)
          (all-of-list xs (λ v. is_some_and (g (code v ∷ [])) (λ z. true)) (sym (all-map (λ k. is_some_and (g (k ∷ [])) (λ z. true)) code
          xs) ∙ fits.there))
        where
          some : (o : Option ℤ) → is_some_and o (λ z. true) ≡ true → o ≡ Some (or_default o (pos 0))
          some None h = cc
          some (Some z) h = refl

      abbrev top : Ex
      top = cell_ex false (first_name ns) is

      top-is : (cs : Bound env0 q q-apart) → From env0 q q-apart l cs → Number top (M env0 q q-apart (cs ++ bs)) (pos n)
      top-is cs h =
          cell-means env0 q q-apart false (first_name ns) t is i (cs ++ bs) (pos n) p.0 (st cs h)
          (ap (λ js. f' js) (sym (append-nil i)) ∙ mark.1)
        where
          f' : List ℤ → Option ℤ
          f' js = cell_at t js

      abbrev well : Bool
      well = list_all (is_numbered_well xs w n) xs && is_taken xs w n

      abbrev parts : List Value
      parts = numbered_parts xs w n

      abbrev attributes : Ex
      attributes = and_ex (part_sizes_ex q l top (seen ns is) ms es) (keys_ex (regular_key_ex (one_size_ex q l (seen ns is))) ms)

      -- The attributes are asked of the parts.
      attributes-asked : well ≡ true → meaning attributes (M env0 q q-apart bs) ≡ Some
          (truth (partition_attributes_hold ks (sorted_once parts)))
      attributes-asked h =
          part-attributes-mean env0 q q-apart terms d x me full ax l bs (seen ns is) v
          (view-stands env0 q q-apart kind (bare_partition_dom d) (partitions [] x) (own_shapes ns) own_members (t ∷ u ∷ []) l is i bs v
          refl dm p st
          (numbered-value x [] w f g n mark.1 mark.2 fits.count me cells h))
          (subst (λ l. AllOf l (SetOf x)) (sym (to_list-of_list (sorted_once parts)))
          (parts-sets xs w n x (let m = atom-listed x a in m.members)))
          top (top-is [] tt ∙ ap (λ k. Some (number (pos k))) (sym many)) ms es ks at
          ∙ ap (λ l. Some (truth (partition_attributes_hold ks l))) (to_list-of_list (sorted_once parts))
        where
          v : Value
          v = node a_partition (of_list (sorted_once parts))

          each : list_all (is_numbered_well xs w n) xs ≡ true
          each = and-left (list_all (is_numbered_well xs w n) xs) (is_taken xs w n) h

          filled : has_empty_part parts ≡ false
          filled =
              taken-filled xs w n (well-by-least xs w n (λ y k. all-holds (is_numbered_well xs w n) xs y each k))
              (and-right (list_all (is_numbered_well xs w n) xs) (is_taken xs w n) h)

          many : length (to_list (of_list (sorted_once parts))) ≡ n
          many = ap length (to_list-of_list (sorted_once parts)) ∙ parts-count xs w n filled

      one-means : meaning (numbered_ex q l ms es d top (first_name (drop 1 ns)) is (seen ns is)) (M env0 q q-apart bs) ≡ Some
          (truth (canonical kind (partitions ks x) (behind i (cells_of (t ∷ u ∷ [])))))
      one-means =
          and-means (M env0 q q-apart bs) (and_ex (each_ex q l (d ∷ []) (numbered_on_ex q l d top w-name is)) (taken_ex q l d top w-name
          is)) attributes
          well (as_truth (meaning attributes (M env0 q q-apart bs)))
          (and-means (M env0 q q-apart bs) (each_ex q l (d ∷ []) (numbered_on_ex q l d top w-name is)) (taken_ex q l d top w-name is)
          (list_all (is_numbered_well xs w n) xs) (is_taken xs w n)
          (each-well-means env0 q q-apart x a d ax l is i bs st w-name u p.2.0 w cells top n top-is)
          (taken-means env0 q q-apart x a d ax l is i bs st w-name u p.2.0 w cells top n top-is)) refl
          ∙ ap (λ b. Some (truth b)) (go well refl ∙ sym (numbered-asked x ks w f g n mark.1 mark.2 fits.count me cells))
        where
          w-name : Text
          w-name = first_name (drop 1 ns)

          go : (b : Bool) → well ≡ b → well && as_truth (meaning attributes (M env0 q q-apart bs)) ≡ well && partition_attributes_hold ks
              (sorted_once parts)
          go true h = ap (λ o. well && as_truth o) (attributes-asked h)
          go false h =
              ap (λ b. b && as_truth (meaning attributes (M env0 q q-apart bs))) h
              ∙ sym (ap (λ b. b && partition_attributes_hold ks (sorted_once parts)) h)

  numbers-mean : (out : Bool) (ns : List Text) (ts : Tables) (l : ℕ) (is : Exs) (i : List ℤ) (bs : Bound env0 q q-apart) →
      Placed env0 q q-apart (own_shapes ns) own_members ts → Fit (declarations_below out kind (partitions ks x)) (behind i (cells_of ts)) →
      Steady env0 q q-apart l is i bs →
      meaning (numbered_ex q l ms es d (cell_ex false (first_name ns) is) (first_name (drop 1 ns)) is (seen ns is))
      (M env0 q q-apart bs) ≡ Some
      (truth (canonical kind (partitions ks x) (behind i (cells_of ts))))
  numbers-mean out ns (t ∷ u ∷ []) l is i bs p c st = one-means out ns t u l is i bs p c st
  numbers-mean out ns [] l is i bs p c st = absurd p
  numbers-mean out ns (t ∷ []) l is i bs p c st = absurd p.2
  numbers-mean out ns (t ∷ u ∷ v ∷ ts) l is i bs p c st = absurd p.2.2

  -- The structure constraint of a partition by part numbers means that its cells are canonical.
  pub numbered-structure : StructureOf env0 q q-apart terms kind (partition_dom ms es d) (partitions ks x)
  numbered-structure = record {
    covered = a;
    long = λ ns. let z : 2 ≡ 2 + 0 = omega arith in z;
    axes = refl;
    found = numbers-found;
    there = numbers-there;
    means = numbers-mean;
  }
