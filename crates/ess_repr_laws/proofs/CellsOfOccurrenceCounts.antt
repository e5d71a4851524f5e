-- Members of multisets as how often each member occurs.
use Rattle.std.proofs.Common.{◌≡◌, refl, sym, ap, ◌∙◌, subst, ℕ, ◌≤◌, Bool, true, false, ◌&&◌, ◌||◌, List, [], ◌∷◌, map, ℤ, pos, Option, Some, option_map, nat_le, arith}
use Rattle.std.proofs.lemmas.Bool.{le-leb}
use Rattle.ess_semantics.specs.declared.words.ReprKind.{ReprKind}
use Rattle.ess_semantics.specs.Lists.{and_then, each_of, or_default}
use Rattle.ess_semantics.specs.Values.{a_mset, Value, node, of_list, to_list}
use Rattle.ess_semantics.specs.Collections.{count}
use Rattle.ess_semantics.specs.Numbers.{not_below_0}
use Rattle.ess_semantics.specs.Trees.{repr, no_reprs}
use Rattle.ess_semantics.specs.Domains.{Attribute, Domain, msets, member_list}
use Rattle.ess_semantics.specs.Membership.{member}
use Rattle.ess_semantics.specs.Sizes.{occurrences}
use Rattle.ess_semantics.specs.Tables.{Tables, code, row_of, cell_at, is_cell}
use Rattle.ess_semantics.specs.Cells.{Cells, Axes, Grid, only_grid}
use Rattle.ess_semantics.specs.Layers.{OwnTable, Slot, codes_of, fixed_table, up_to, own_row, each_repeated, always_tidy}
use Rattle.ess_semantics.specs.MultisetLayers.{occurs, counts_hold}
use Rattle.ess_repr_laws.specs.Finite.{FiniteAtom, OccursBound}
use Rattle.ess_semantics.proofs.Tests.{and-both}
use Rattle.ess_semantics.proofs.Orders.{to_list-of_list}
use Rattle.ess_semantics.proofs.Sorting.{sorted-of, all-holds}
use Rattle.ess_semantics.proofs.Repeats.{sorted-distinct}
use Rattle.ess_repr_laws.proofs.CanonicalPlaces.{AllOf}
use Rattle.ess_semantics.proofs.MemberLists.{atom-listed}
use Rattle.ess_repr_laws.proofs.Arguments.{Arguments, atom-arguments}
use Rattle.ess_repr_laws.proofs.TablesAndCells.{AxesDiffer}
use Rattle.ess_repr_laws.proofs.CellsOfMembers.{HasCells, MembersHaveCells}
use Rattle.ess_repr_laws.proofs.CellsWithoutChildren.{Alone, alone-wide, alone-cells}
use Rattle.ess_repr_laws.proofs.CellsOfOccurrences.{atom-axis}
use Rattle.ess_repr_laws.proofs.CompleteLists.{atom-complete}
use Rattle.ess_repr_laws.proofs.ArgumentTables.{argument-exact, argument-cells, argument-fit, argument-row}
use Rattle.ess_repr_laws.proofs.Times.{MsetMember, mset-member, occurs-most, Among, repeated-again, counts-said}

-- A number up to u is in `int(0..u)`.
pub up-to-fits : (u c : ℕ) → c ≤ u → is_cell (up_to u) (pos c) ≡ true
up-to-fits u c h = ap (λ b. b || false) (and-both (nat_le 0 c) (nat_le c u) (le-leb 0 c (omega arith)) (le-leb c u h))

-- ---- how often each member occurs

module _ (d : Domain) (ks : List Attribute) (finite : FiniteAtom d) (bound : OccursBound ks) where
  abbrev axes : Axes
  axes = codes_of d ∷ []

  abbrev index : Value → List ℤ
  index x = code x ∷ []

  abbrev all : List Value
  all = member_list d

  args : Arguments d axes index
  args = atom-arguments d (atom-listed d finite.0)

  differ : AxesDiffer axes
  differ = (atom-axis d finite.0, tt)

  abbrev times_own : List OwnTable
  times_own = fixed_table axes (up_to (occurrences ks)) ∷ []

  abbrev times_tables : Value → List (Option Slot) → Tables
  times_tables v ss = row_of (codes_of d) (map (occurs v) (member_list d)) ∷ []

  abbrev times_built : Cells → List (List Value) → Option Value
  times_built c vss = only_grid c (λ f. option_map (λ ns. node a_mset (of_list (each_repeated ns (member_list d)))) (each_of (member_list d) (λ x. and_then (f (code x ∷ [])) not_below_0)))

  abbrev times_asked : Cells → List (List Value) → Bool
  times_asked c vss = counts_hold ks (own_row (codes_of d ∷ []) c)

  numbers : (f : Grid) (F : Value → ℕ) (ys : List Value) → AllOf ys (λ x. f (code x ∷ []) ≡ Some (pos (F x))) → each_of ys (λ x. and_then (f (code x ∷ [])) not_below_0) ≡ Some (map F ys)
  numbers f F [] h = refl
  numbers f F (y ∷ ys) h =
      ap (λ o. and_then (and_then o not_below_0) (λ n. option_map (λ ns. n ∷ ns) (each_of ys (λ x. and_then (f (code x ∷ [])) not_below_0)))) h.0 ∙ ap (option_map (λ ns. F y ∷ ns)) (numbers f F ys h.1)

  row-numbers : (f : Grid) (F : Value → ℕ) (ys : List Value) → AllOf ys (λ x. f (code x ∷ []) ≡ Some (pos (F x))) → map (λ x. or_default (f (index x)) (pos 0)) ys ≡ map pos (map F ys)
  row-numbers f F [] h = refl
  row-numbers f F (y ∷ ys) h = ap (λ o. or_default o (pos 0) ∷ map (λ x. or_default (f (index x)) (pos 0)) ys) h.0 ∙ ap (λ l. pos (F y) ∷ l) (row-numbers f F ys h.1)

  times-alone : (zs : List Value) → MsetMember ks d zs → Alone ReprKind.MSetOccurrence (msets ks d) times_own false false times_tables times_built times_asked always_tidy (node a_mset (of_list zs))
  times-alone zs m =
      let l = args.listed in
      let v : Value = node a_mset (of_list zs) in
      let f : Grid = cell_at (row_of (codes_of d) (map (occurs v) all)) in
      let items : to_list (of_list zs) ≡ zs = to_list-of_list zs in
      let cells : AllOf all (λ x. f (index x) ≡ Some (pos (count (to_list (of_list zs)) x))) = argument-cells d axes index args differ (occurs v) in
      let among : Among zs all = (λ w h. atom-complete d finite w (all-holds (member d) zs w m.inside h)) in
      record {
        exact = (argument-exact d axes index args differ (occurs v), tt);
        fit = ap (λ b. b && true) (argument-fit d axes index args differ (occurs v) (is_cell (up_to (occurrences ks)))
            (each all (λ x. up-to-fits (occurrences ks) (count (to_list (of_list zs)) x) (subst (λ l. count l x ≤ occurrences ks) (sym items) (occurs-most ks bound zs m.attributes x)))));
        built = ap (option_map (λ ns. node a_mset (of_list (each_repeated ns all)))) (numbers f (count (to_list (of_list zs))) all cells)
            ∙ ap (λ l. Some (node a_mset (of_list (each_repeated (map (count l) all) all)))) items ∙ ap (λ l. Some (node a_mset (of_list l))) (repeated-again zs all m.rise l.sorted among);
        asked = ap (counts_hold ks) (argument-row d axes index args differ f ∙ row-numbers f (count (to_list (of_list zs))) all cells ∙ ap (λ l. map pos (map (count l) all)) items)
            ∙ counts-said ks zs all m.rise (sorted-distinct all (sorted-of all l.sorted)) among m.attributes;
      }
    where
      each : {P : Value → Type 0} (ys : List Value) → ((x : Value) → P x) → AllOf ys P
      each [] p = tt
      each (y ∷ ys) p = (p y, each ys p)

  -- Members of multisets as how often each occurs.
  pub mset-occurrence-members : MembersHaveCells (repr ReprKind.MSetOccurrence no_reprs) (msets ks d)
  mset-occurrence-members = record {
    wide = alone-wide ReprKind.MSetOccurrence (msets ks d) times_own false false times_tables times_built times_asked always_tidy refl refl;
    of_member = λ v h. let m = mset-member ks d v h in subst (HasCells (repr ReprKind.MSetOccurrence no_reprs) (msets ks d)) (sym m.1)
        (alone-cells ReprKind.MSetOccurrence (msets ks d) times_own false false times_tables times_built times_asked always_tidy refl refl (node a_mset (of_list m.0)) (times-alone m.0 m.2));
  }
