-- Members that stand as one value of another domain, and relations as sets.
use Rattle.std.proofs.Common.{◌≡◌, refl, sym, ap, ◌∙◌, subst, ℕ, ◌≤◌, Bool, true, false, ◌&&◌, List, [], ◌∷◌, ◌++◌, length, ℤ, pos, negsuc, Option, Some, None, option_map, nat_le, int_le, arith}
use Rattle.std.proofs.lemmas.Bool.{leb-true, le-leb}
use Rattle.std.specs.List.{list_all}
use Rattle.ess_semantics.specs.declared.words.ReprKind.{ReprKind}
use Rattle.ess_semantics.specs.declared.words.Key.{Key}
use Rattle.ess_semantics.specs.Lists.{and_then, is_some_and, only_of}
use Rattle.ess_semantics.specs.Values.{a_set, a_relation, Value, node, to_list, of_list, items_of, itself}
use Rattle.ess_semantics.specs.Collections.{rises}
use Rattle.ess_semantics.specs.Numbers.{natural}
use Rattle.ess_semantics.specs.Trees.{Repr, repr, no_reprs, more_reprs}
use Rattle.ess_semantics.specs.Domains.{Attribute, Domain, Domains, tuples, relations, attribute}
use Rattle.ess_semantics.specs.Attributes.{each_holds, attribute_holds, size_holds, set_attributes_hold, relation_holds, head_members, relation_attributes_hold}
use Rattle.ess_semantics.specs.Membership.{member}
use Rattle.ess_semantics.specs.Sizes.{size_attributes, sized_if, child_set}
use Rattle.ess_semantics.specs.Cells.{Cells}
use Rattle.ess_semantics.specs.Layers.{Layer, everywhere, no_own_tables, only_child, always_tidy}
use Rattle.ess_semantics.specs.RelationLayers.{relation_from}
use Rattle.ess_semantics.specs.Representations.{layer, width, own_width}
use Rattle.ess_semantics.specs.Declarations.{axes_of}
use Rattle.ess_semantics.proofs.Tests.{and-left, and-right, and-both}
use Rattle.ess_semantics.proofs.Orders.{to_list-of_list}
use Rattle.ess_repr_laws.proofs.CellsOfMembers.{HasCells, MembersHaveCells, Slots}
use Rattle.ess_repr_laws.proofs.CellsOfOneChild.{Laid, layer-cells, layer-wide}
use Rattle.ess_repr_laws.proofs.Rooms.{attribute-said, size-is, SaysSize}
use Rattle.ess_repr_laws.proofs.CellsOfOccurrences.{RelationMember, relation-member, members-of-tuples}

-- ---- one value of another domain

-- the value as one of e, and back
module _ (k : ReprKind) (r : Repr) (d e : Domain) (turn : Value → Value) (back : Value → Option Value) (ic : Cells → List (List Value) → Bool) where
  abbrev turned : Value → List (Option Value)
  turned v = Some (turn v) ∷ []

  abbrev back_built : Cells → List (List Value) → Option Value
  back_built c vss = and_then (only_of (only_child vss)) back

  -- The layer of a value that stands as one value of another domain.
  abbrev pub converted : Layer
  converted = record {
    own = [];
    children = e ∷ [];
    axes = [];
    in_use = everywhere;
    is_sorted = false;
    is_distinct = false;
    contents = λ v. (Some (turn v) ∷ []) ∷ [];
    own_tables = no_own_tables;
    built = λ c vss. and_then (only_of (only_child vss)) back;
    is_canonical = ic;
    is_tidy = always_tidy;
  }

  module _ (at : layer k d ≡ Some converted) (ow : 0 ≡ own_width k) (child : MembersHaveCells r e) where
    -- It has as many tables as its child.
    pub converted-wide : length (axes_of (repr k (more_reprs r no_reprs)) d) ≡ width (repr k (more_reprs r no_reprs))
    converted-wide = layer-wide k r d e [] [] everywhere false false turned no_own_tables back_built ic always_tidy at ow child.wide

    -- A member has canonical cells where the value that it stands as is a member.
    pub converted-cells : (v : Value) → member e (turn v) ≡ true → back (turn v) ≡ Some v → ic [] ((turn v ∷ []) ∷ []) ≡ true → HasCells (repr k (more_reprs r no_reprs)) d v
    converted-cells v m b a = layer-cells k r d e [] [] everywhere false false turned no_own_tables back_built ic always_tidy at ow child tt v x laid
      where
        y : HasCells r e (turn v)
        y = child.of_member (turn v) m

        x : Slots r e (turned v)
        x = record {
          slots = Some (turn v, y.cells) ∷ [];
          there = ap (λ o. and_then o (λ c. option_map (λ ss. Some (turn v, c) ∷ ss) (Some []))) y.there;
          kept = ((refl, (y.exact, y.passes, y.stands)), tt);
          inside = (m, tt);
        }

        laid : Laid k r d e [] [] everywhere false false turned no_own_tables back_built ic always_tidy v x.slots
        laid = record {
          count = refl;
          good = ((y.exact, y.passes, y.stands), tt);
          exact = tt;
          fit = refl;
          used = (refl, tt);
          found = refl;
          first = refl;
          rise = refl;
          built = b;
          asked = a;
        }

-- ---- sizes of children

-- A number that is at most m, counted as 0 below 0.
pub le-natural : (z : ℤ) (n m : ℕ) → natural z ≡ n → int_le z (pos m) ≡ true → n ≤ m
le-natural (pos a) n m e h = let l : a ≤ m = leb-true a m h in let e' : a ≡ n = e in omega arith
le-natural (negsuc a) n m e h = let e' : 0 ≡ n = e in omega arith

-- A number that is at least m.
pub natural-le : (z : ℤ) (n m : ℕ) → natural z ≡ n → int_le (pos m) z ≡ true → m ≤ n
natural-le (pos a) n m e h = let l : m ≤ a = leb-true m a h in let e' : a ≡ n = e in omega arith
natural-le (negsuc a) n m e h = cc

-- What `minSize` says.
pub min-is : (ks : List Attribute) (f : Key → ℤ → Bool) (g : Key → Bool) (m n : ℕ) → SaysSize f m → each_holds ks f g ≡ true → attribute Key.MinSize ks ≡ Some n → n ≤ m
min-is ks f g m n says h e = let r = attribute-said ks f g Key.MinSize n h e in le-natural r.0 n m r.1 (says Key.MinSize r.0 r.2)

-- What `maxSize` says.
pub max-is : (ks : List Attribute) (f : Key → ℤ → Bool) (g : Key → Bool) (m n : ℕ) → SaysSize f m → each_holds ks f g ≡ true → attribute Key.MaxSize ks ≡ Some n → m ≤ n
max-is ks f g m n says h e = let r = attribute-said ks f g Key.MaxSize n h e in natural-le r.0 n m r.1 (says Key.MaxSize r.0 r.2)

-- where each number that is there is right, the attributes hold
pub sizes-hold : (s a b : Option ℕ) (m : ℕ) (g : Key → Bool) → ((n : ℕ) → s ≡ Some n → m ≡ n) → ((n : ℕ) → a ≡ Some n → n ≤ m) → ((n : ℕ) → b ≡ Some n → m ≤ n) →
    each_holds (size_attributes s a b) (λ k n. size_holds k n m) g ≡ true
sizes-hold s a b m g hs ha hb = both (sized_if Key.Size s ++ sized_if Key.MinSize a) (sized_if Key.MaxSize b) (both (sized_if Key.Size s) (sized_if Key.MinSize a) (first s hs) (second a ha)) (third b hb)
  where
    both : (xs ys : List Attribute) → each_holds xs (λ k n. size_holds k n m) g ≡ true → each_holds ys (λ k n. size_holds k n m) g ≡ true → each_holds (xs ++ ys) (λ k n. size_holds k n m) g ≡ true
    both [] ys p q = q
    both (x ∷ xs) ys p q = and-both (attribute_holds (λ k n. size_holds k n m) g x) (each_holds (xs ++ ys) (λ k n. size_holds k n m) g) (and-left (attribute_holds (λ k n. size_holds k n m) g x) (each_holds xs (λ k n. size_holds k n m) g) p) (both xs ys (and-right (attribute_holds (λ k n. size_holds k n m) g x) (each_holds xs (λ k n. size_holds k n m) g) p) q)

    third : (b : Option ℕ) → ((n : ℕ) → b ≡ Some n → m ≤ n) → each_holds (sized_if Key.MaxSize b) (λ k n. size_holds k n m) g ≡ true
    third None h = refl
    third (Some n) h = and-both (nat_le m n) true (le-leb m n (h n refl)) refl

    second : (a : Option ℕ) → ((n : ℕ) → a ≡ Some n → n ≤ m) → each_holds (sized_if Key.MinSize a) (λ k n. size_holds k n m) g ≡ true
    second None h = refl
    second (Some n) h = and-both (nat_le n m) true (le-leb n m (h n refl)) refl

    first : (s : Option ℕ) → ((n : ℕ) → s ≡ Some n → m ≡ n) → each_holds (sized_if Key.Size s) (λ k n. size_holds k n m) g ≡ true
    first None h = refl
    first (Some n) h = and-both (nat_le n m && nat_le m n) true (and-both (nat_le n m) (nat_le m n) (le-leb n m (let e = h n refl in omega arith)) (le-leb m n (let e = h n refl in omega arith))) refl

-- ---- relations as sets

module _ (r : Repr) (ks : List Attribute) (ds : Domains) (child : MembersHaveCells r (child_set ks ds)) where
  abbrev set_of_tuples : Value → Value
  set_of_tuples v = node a_set (of_list (items_of v))

  abbrev tuples_asked : Cells → List (List Value) → Bool
  tuples_asked c vss = is_some_and (and_then (only_of (only_child vss)) relation_from) (λ v. relation_attributes_hold ks ds (items_of v))

  -- Members of relations as sets of tuples.
  pub relation-as-set-members : MembersHaveCells (repr ReprKind.RelationAsSet (more_reprs r no_reprs)) (relations ks ds)
  relation-as-set-members = record {
    wide = converted-wide ReprKind.RelationAsSet r (relations ks ds) (child_set ks ds) set_of_tuples relation_from tuples_asked refl refl child;
    of_member = λ v h. let m = relation-member ks ds v h in subst (HasCells (repr ReprKind.RelationAsSet (more_reprs r no_reprs)) (relations ks ds)) (sym m.1) (go m.0 m.2);
  }
    where
      go : (xs : List Value) → RelationMember ks ds xs → HasCells (repr ReprKind.RelationAsSet (more_reprs r no_reprs)) (relations ks ds) (node a_relation (of_list xs))
      go xs m =
          converted-cells ReprKind.RelationAsSet r (relations ks ds) (child_set ks ds) set_of_tuples relation_from tuples_asked refl refl child (node a_relation (of_list xs))
          (ap (λ l. member (child_set ks ds) (node a_set (of_list l))) (items xs)
          ∙ ap (λ l. rises itself l && list_all (member (tuples ds)) l && set_attributes_hold (size_attributes (attribute Key.Size ks) (attribute Key.MinSize ks) (attribute Key.MaxSize ks)) (length l)) (to_list-of_list xs)
          ∙ and-both (rises itself xs && list_all (member (tuples ds)) xs) (set_attributes_hold (size_attributes (attribute Key.Size ks) (attribute Key.MinSize ks) (attribute Key.MaxSize ks)) (length xs))
          (and-both (rises itself xs) (list_all (member (tuples ds)) xs) m.rise (members-of-tuples ds xs m.inside))
          (sizes-hold (attribute Key.Size ks) (attribute Key.MinSize ks) (attribute Key.MaxSize ks) (length xs) (λ k. true)
          (λ n e. size-is ks f g (length xs) n (λ k z e. e) m.attributes e) (λ n e. min-is ks f g (length xs) n (λ k z e. e) m.attributes e) (λ n e. max-is ks f g (length xs) n (λ k z e. e) m.attributes e)))
          (ap (λ l. Some (node a_relation (of_list l))) (items xs))
          (ap (λ l. relation_attributes_hold ks ds l) (ap (λ l. to_list (of_list l)) (items xs) ∙ items xs) ∙ m.attributes)
        where
          items : (xs : List Value) → items_of (node a_relation (of_list xs)) ≡ xs
          items xs = to_list-of_list xs

          f : Key → ℤ → Bool
          f k n = size_holds k n (length xs)

          g : Key → Bool
          g k = relation_holds k (head_members ds) xs
