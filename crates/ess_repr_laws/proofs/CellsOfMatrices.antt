-- Members of matrices, element by element.
use Rattle.std.proofs.Common.{◌≡◌, refl, sym, ap, ◌∙◌, subst, ℕ, ◌*◌, Bool, true, false, ◌&&◌, List, [], ◌∷◌, ◌++◌, map, take, drop, length, Option, Some, None, option_map, is_some, nat_eq, suc-mul, zero-mul, length-append, arith}
use Rattle.std.proofs.lemmas.Bool.{eqb-true}
use Rattle.std.specs.List.{list_all}
use Rattle.ess_semantics.specs.declared.words.ReprKind.{ReprKind}
use Rattle.ess_semantics.specs.Lists.{and_then, each_of, is_some_and, append_all, list_or_none}
use Rattle.ess_semantics.specs.Values.{Value, number, truth, item, node, Values, to_list, of_list, matrix}
use Rattle.ess_semantics.specs.Order.{orders}
use Rattle.ess_semantics.specs.Trees.{Repr, repr, no_reprs, more_reprs}
use Rattle.ess_semantics.specs.Domains.{Domain, Domains, matrices, no_domains, more_domains, domain_list, members, member_list, lists_of}
use Rattle.ess_semantics.specs.Membership.{member, nested_matrix, same_list}
use Rattle.ess_semantics.specs.Tables.{volume, code}
use Rattle.ess_semantics.specs.Cells.{Cells, Axes}
use Rattle.ess_semantics.specs.Layers.{everywhere, codes_of, some_each, no_own_tables, only_child, always_canonical, always_tidy}
use Rattle.ess_semantics.specs.ScalarLayers.{elements, nested_of, in_lists_of, count_of_places}
use Rattle.ess_semantics.specs.Atoms.{AreAtoms}
use Rattle.ess_semantics.proofs.Tests.{and-left, and-right, and-both}
use Rattle.ess_semantics.proofs.Orders.{orders_exact, equal-of, of_list-to_list, to_list-of_list}
use Rattle.ess_repr_laws.proofs.CanonicalPlaces.{AllOf}
use Rattle.ess_repr_laws.proofs.SideBySide.{length-along}
use Rattle.ess_repr_laws.proofs.CellsOfMembers.{HasCells, MembersHaveCells, Kept, Slots, slots-there, kept-good, kept-values, map-long}
use Rattle.ess_repr_laws.proofs.CellsOfOneChild.{Laid, layer-cells, layer-wide}
use Rattle.ess_repr_laws.proofs.CellsOfOccurrences.{atom-axes}
use Rattle.ess_repr_laws.proofs.ArgumentTables.{places-volume}
use Rattle.ess_repr_laws.proofs.CellsOfSlots.{some-somes, some-inside}
use Rattle.ess_repr_laws.proofs.CellsOfFunctions.{all-picked, all-kept, all-used}

-- ---- the elements of a matrix

take-append : (xs ys : List Value) → take (length xs) (xs ++ ys) ≡ xs
take-append [] ys = refl
take-append (x ∷ xs) ys = ap (λ l. x ∷ l) (take-append xs ys)

drop-append : (xs ys : List Value) → drop (length xs) (xs ++ ys) ≡ ys
drop-append [] ys = refl
drop-append (x ∷ xs) ys = drop-append xs ys

all-append : (f : Value → Bool) (xs ys : List Value) → list_all f xs ≡ true → list_all f ys ≡ true → list_all f (xs ++ ys) ≡ true
all-append f [] ys p q = q
all-append f (x ∷ xs) ys p q = and-both (f x) (list_all f (xs ++ ys)) (and-left (f x) (list_all f xs) p) (all-append f xs ys (and-right (f x) (list_all f xs) p) q)

-- The elements of a matrix: members, as many as there are places, which make the matrix again.
pub record Elements (is : Domains) (f : Value → Bool) (v : Value) : Type 0 where
  pub inside : list_all f (elements is v) ≡ true
  pub long : length (elements is v) ≡ count_of_places is
  pub back : nested_of is (elements is v) ≡ Some v

-- the same of several matrices
record AllElements (is : Domains) (f : Value → Bool) (xs : List Value) : Type 0 where
  inside : list_all f (append_all (map (elements is) xs)) ≡ true
  long : length (append_all (map (elements is) xs)) ≡ length xs * count_of_places is
  back : each_of (in_lists_of (length xs) (count_of_places is) (append_all (map (elements is) xs))) (nested_of is) ≡ Some xs

all-elements : (is : Domains) (f : Value → Bool) → ((v : Value) → nested_matrix is f v ≡ true → Elements is f v) → (xs : List Value) → list_all (nested_matrix is f) xs ≡ true → AllElements is f xs
all-elements is f one [] h = record { inside = refl; long = sym (zero-mul (count_of_places is)); back = refl }
all-elements is f one (x ∷ xs) h =
    let e = one x (and-left (nested_matrix is f x) (list_all (nested_matrix is f) xs) h) in
    let r = all-elements is f one xs (and-right (nested_matrix is f x) (list_all (nested_matrix is f) xs) h) in
    let n : ℕ = count_of_places is in
    let els : List Value = elements is x in
    let rest : List Value = append_all (map (elements is) xs) in
    record {
      inside = all-append f els rest e.inside r.inside;
      long = let l = length-append els rest in let a = e.long in let b = r.long in let m = suc-mul (length xs) n in omega (arith, l, a, b, m);
      back = ap (λ k. and_then (nested_of is (take k (els ++ rest))) (λ y. option_map (λ ys. y ∷ ys) (each_of (in_lists_of (length xs) n (drop k (els ++ rest))) (nested_of is)))) (sym e.long)
          ∙ ap (λ l. and_then (nested_of is l) (λ y. option_map (λ ys. y ∷ ys) (each_of (in_lists_of (length xs) n (drop (length els) (els ++ rest))) (nested_of is)))) (take-append els rest)
          ∙ ap (λ o. and_then o (λ y. option_map (λ ys. y ∷ ys) (each_of (in_lists_of (length xs) n (drop (length els) (els ++ rest))) (nested_of is)))) e.back
          ∙ ap (λ l. option_map (λ ys. x ∷ ys) (each_of (in_lists_of (length xs) n l) (nested_of is))) (drop-append els rest) ∙ ap (option_map (λ ys. x ∷ ys)) r.back;
    }

-- a matrix is one of its indices and items
pub record Shape (i : Domain) (is : Domains) (f : Value → Bool) (v : Value) : Type 0 where
  pub ix : Values
  pub xs : Values
  pub form : v ≡ matrix ix xs
  pub indices : is_some_and (members i) (λ vs. same_list vs (to_list ix)) ≡ true
  pub long : nat_eq (length (to_list ix)) (length (to_list xs)) ≡ true
  pub items : list_all (nested_matrix is f) (to_list xs) ≡ true

-- Such a matrix is one.
pub shape-of : (i : Domain) (is : Domains) (f : Value → Bool) (v : Value) → nested_matrix (more_domains i is) f v ≡ true → Shape i is f v
shape-of i is f (matrix ix xs) h =
    let a : Bool = is_some_and (members i) (λ vs. same_list vs (to_list ix)) in
    let b : Bool = nat_eq (length (to_list ix)) (length (to_list xs)) in
    record {
      ix = ix;
      xs = xs;
      form = refl;
      indices = and-left a b (and-left (a && b) (list_all (nested_matrix is f) (to_list xs)) h);
      long = and-right a b (and-left (a && b) (list_all (nested_matrix is f) (to_list xs)) h);
      items = and-right (a && b) (list_all (nested_matrix is f) (to_list xs)) h;
    }
shape-of i is f (number n) h = cc
shape-of i is f (truth b) h = cc
shape-of i is f (item t k) h = cc
shape-of i is f (node k vs) h = cc

index-list : (o : Option (List Value)) (ix : Values) → is_some_and o (λ vs. same_list vs (to_list ix)) ≡ true → list_or_none o ≡ to_list ix
index-list None ix h = cc
index-list (Some vs) ix h =
    let e = orders_exact (of_list vs) (of_list (to_list ix)) (equal-of (orders (of_list vs) (of_list (to_list ix))) h) in
    sym (to_list-of_list vs) ∙ ap to_list e ∙ to_list-of_list (to_list ix)

-- The elements of a member are such.
pub elements-of : (is : Domains) (f : Value → Bool) (v : Value) → nested_matrix is f v ≡ true → Elements is f v
elements-of no_domains f v h = record { inside = ap (λ b. b && true) h; long = refl; back = refl }
elements-of (more_domains i is) f v h = go (shape-of i is f v h) (λ x. all-elements is f (elements-of is f) x)
  where
    go : Shape i is f v → ((xs : List Value) → list_all (nested_matrix is f) xs ≡ true → AllElements is f xs) → Elements (more_domains i is) f v
    go s all = subst (Elements (more_domains i is) f) (sym s.form) (here (all (to_list s.xs) s.items))
      where
        ml : member_list i ≡ to_list s.ix
        ml = index-list (members i) s.ix s.indices

        count : length (member_list i) ≡ length (to_list s.xs)
        count = ap length ml ∙ eqb-true (length (to_list s.ix)) (length (to_list s.xs)) s.long

        here : AllElements is f (to_list s.xs) → Elements (more_domains i is) f (matrix s.ix s.xs)
        here r = record {
          inside = r.inside;
          long = r.long ∙ ap (λ k. k * count_of_places is) (sym count);
          back = ap (λ k. option_map (λ ys. matrix (of_list (member_list i)) (of_list ys)) (each_of (in_lists_of k (count_of_places is) (append_all (map (elements is) (to_list s.xs)))) (nested_of is))) count
              ∙ ap (option_map (λ ys. matrix (of_list (member_list i)) (of_list ys))) r.back
              ∙ ap (λ l. Some (matrix (of_list l) (of_list (to_list s.xs)))) ml ∙ ap (λ w. Some (matrix w (of_list (to_list s.xs)))) (of_list-to_list s.ix) ∙ ap (λ w. Some (matrix s.ix w)) (of_list-to_list s.xs);
        }

-- ---- places

places-count : (is : Domains) → volume (map codes_of (domain_list is)) ≡ count_of_places is
places-count no_domains = refl
places-count (more_domains i is) = ap (λ n. n * volume (map codes_of (domain_list is))) (map-long code (member_list i)) ∙ ap (λ n. length (member_list i) * n) (places-count is)

all-some : (xs : List Value) → AllOf (some_each xs) (λ o. is_some o ≡ true)
all-some [] = tt
all-some (x ∷ xs) = (refl, all-some xs)

module _ (r : Repr) (is : Domains) (d : Domain) (atoms : AreAtoms is) (child : MembersHaveCells r d) where
  abbrev axes : Axes
  axes = map codes_of (domain_list is)

  abbrev contents_of : Value → List (Option Value)
  contents_of v = some_each (elements is v)

  abbrev matrix_built : Cells → List (List Value) → Option Value
  matrix_built c vss = nested_of is (only_child vss)

  laid : (v : Value) → Elements is (member d) v → (x : Slots r d (contents_of v)) → Laid ReprKind.Matrix r (matrices is d) d [] axes everywhere false false contents_of no_own_tables matrix_built always_canonical always_tidy v x.slots
  laid v e x =
      let count : length (lists_of axes) ≡ length x.slots = places-volume axes ∙ places-count is ∙ sym e.long ∙ sym (map-long (λ (w : Value). Some w) (elements is v)) ∙ length-along (contents_of v) x.slots (Kept r d) x.kept in
      let all = all-kept r d (contents_of v) x.slots x.kept (all-some (elements is v)) in
      record {
        count = count;
        good = kept-good r d (contents_of v) x.slots x.kept;
        exact = tt;
        fit = refl;
        used = all-used (lists_of axes) x.slots count all;
        found = ap Some (sym (all-picked (lists_of axes) x.slots count all));
        first = refl;
        rise = refl;
        built = ap (nested_of is) (kept-values r d (contents_of v) x.slots x.kept ∙ some-somes (elements is v)) ∙ e.back;
        asked = refl;
      }

  matrix-cells : (v : Value) → Elements is (member d) v → HasCells (repr ReprKind.Matrix (more_reprs r no_reprs)) (matrices is d) v
  matrix-cells v e =
      let x = slots-there r d child.of_member (contents_of v) (some-inside d (elements is v) e.inside) in
      layer-cells ReprKind.Matrix r (matrices is d) d [] axes everywhere false false contents_of no_own_tables matrix_built always_canonical always_tidy refl refl child (atom-axes is atoms) v x (laid v e x)

  -- Members of matrices.
  pub matrix-members : MembersHaveCells (repr ReprKind.Matrix (more_reprs r no_reprs)) (matrices is d)
  matrix-members = record {
    wide = layer-wide ReprKind.Matrix r (matrices is d) d [] axes everywhere false false contents_of no_own_tables matrix_built always_canonical always_tidy refl refl child.wide;
    of_member = λ v h. matrix-cells v (elements-of is (member d) v h);
  }
