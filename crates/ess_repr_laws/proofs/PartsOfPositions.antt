-- What is asked of the parts of a partition is asked of their values with positions.
use Rattle.std.proofs.Common.{◌≡◌, refl, sym, ap, ◌∙◌, Bool, true, not, List, [], ◌∷◌, ◌++◌, map, length, ℤ, Option, Some, None, option_map}
use Rattle.std.specs.List.{list_all}
use Rattle.ess_semantics.specs.declared.words.Key.{Key}
use Rattle.ess_semantics.specs.Lists.{append_all}
use Rattle.ess_semantics.specs.Values.{Value, items_of, itself}
use Rattle.ess_semantics.specs.Collections.{sorted_once, has_overlap, no_twice}
use Rattle.ess_semantics.specs.Domains.{Attribute}
use Rattle.ess_semantics.specs.Attributes.{size_holds, part_sizes, all_equal, partition_holds, parts_hold, partition_attributes_hold}
use Rattle.ess_semantics.specs.Membership.{same_list, covers, is_part}
use Rattle.ess_semantics.specs.Positions.{with_positions}
use Rattle.ess_semantics.proofs.Tests.{and-left, and-right, and-both}
use Rattle.ess_semantics.proofs.Sorting.{all-sorted_once}
use Rattle.ess_repr_laws.proofs.OrderOfPositions.{Agree}
use Rattle.ess_repr_laws.proofs.ListsOfPositions.{with_each, parts-with, append-with, length-with, twice-with, sorted-with, lists-with}
use Rattle.ess_repr_laws.proofs.AttributesOfPositions.{each-same}
use Rattle.ess_repr_laws.proofs.Parts.{part-of}

-- The members of a part.
part-items : (p : Value → Bool) (v : Value) → is_part p v ≡ true →
    (items_of (with_positions v) ≡ with_each (items_of v)) × (list_all p (items_of v) ≡ true)
part-items p v h =
    let x = part-of p v h in
    (ap (λ u. items_of (with_positions u)) x.form ∙ parts-with x.xs ∙ ap (λ u. with_each (items_of u)) (sym x.form), ap (λ u. list_all p (items_of u)) x.form ∙ x.inside)

-- The members of all parts.
all-items : (p : Value → Bool) (ps : List Value) → list_all (is_part p) ps ≡ true →
    append_all (map items_of (with_each ps)) ≡ with_each (append_all (map items_of ps))
all-items p [] h = refl
all-items p (v ∷ ps) h =
    let x = part-items p v (and-left (is_part p v) (list_all (is_part p) ps) h) in
    ap (λ l. l ++ append_all (map items_of (with_each ps))) x.0
    ∙ ap (λ l. with_each (items_of v) ++ l) (all-items p ps (and-right (is_part p v) (list_all (is_part p) ps) h))
    ∙ sym (append-with (items_of v) (append_all (map items_of ps)))

inside-all : (p : Value → Bool) (ps : List Value) → list_all (is_part p) ps ≡ true → list_all p (append_all (map items_of ps)) ≡ true
inside-all p [] h = refl
inside-all p (v ∷ ps) h =
    let x = part-items p v (and-left (is_part p v) (list_all (is_part p) ps) h) in
    both (items_of v) (append_all (map items_of ps)) x.1 (inside-all p ps (and-right (is_part p v) (list_all (is_part p) ps) h))
  where
    both : (xs ys : List Value) → list_all p xs ≡ true → list_all p ys ≡ true → list_all p (xs ++ ys) ≡ true
    both [] ys a b = b
    both (x ∷ xs) ys a b =
        and-both (p x) (list_all p (xs ++ ys)) (and-left (p x) (list_all p xs) a) (both xs ys (and-right (p x) (list_all p xs) a) b)

-- How many members each part has.
sizes-with : (p : Value → Bool) (ps : List Value) → list_all (is_part p) ps ≡ true → part_sizes (with_each ps) ≡ part_sizes ps
sizes-with p [] h = refl
sizes-with p (v ∷ ps) h =
    let x = part-items p v (and-left (is_part p v) (list_all (is_part p) ps) h) in
    ap (λ l. length l ∷ part_sizes (with_each ps)) x.0 ∙ ap (λ n. n ∷ part_sizes (with_each ps)) (length-with (items_of v))
    ∙ ap (λ l. length (items_of v) ∷ l) (sizes-with p ps (and-right (is_part p v) (list_all (is_part p) ps) h))

module _ (p : Value → Bool) (agree : Agree p p) (ps : List Value) (parts : list_all (is_part p) ps ≡ true) where
  -- Parts overlap where their values with positions do.
  pub overlap-with : has_overlap (with_each ps) ≡ has_overlap ps
  overlap-with =
      ap (λ l. not (no_twice itself l)) (all-items p ps parts)
      ∙ ap not (twice-with p agree itself (λ v. refl) (append_all (map items_of ps)) (inside-all p ps parts))

  -- They hold all members where these do.
  pub covers-with : (o : Option (List Value)) → ((vs : List Value) → o ≡ Some vs → list_all p vs ≡ true) →
      covers (option_map with_each o) (with_each ps) ≡ covers o ps
  covers-with None i = refl
  covers-with (Some vs) i =
      ap (λ l. same_list (sorted_once (with_each vs)) (sorted_once l)) (all-items p ps parts)
      ∙ ap (λ l. same_list l (sorted_once (with_each (append_all (map items_of ps))))) (sorted-with p agree vs (i vs refl))
      ∙ ap (same_list (with_each (sorted_once vs))) (sorted-with p agree (append_all (map items_of ps)) (inside-all p ps parts))
      ∙ lists-with p agree (sorted_once vs) (sorted_once (append_all (map items_of ps))) (all-sorted_once p vs ∙ i vs refl)
      (all-sorted_once p (append_all (map items_of ps)) ∙ inside-all p ps parts)

  -- The attributes of a partition.
  pub parts-attributes : (ks : List Attribute) → partition_attributes_hold ks (with_each ps) ≡ partition_attributes_hold ks ps
  parts-attributes ks =
      each-same ks (λ k n. partition_holds k n (with_each ps)) (λ k n. partition_holds k n ps) (λ k. parts_hold k (with_each ps))
      (λ k. parts_hold k ps) numbers flags
    where
      s : part_sizes (with_each ps) ≡ part_sizes ps
      s = sizes-with p ps parts

      numbers : (k : Key) (n : ℤ) → partition_holds k n (with_each ps) ≡ partition_holds k n ps
      numbers Key.NumParts n = ap (size_holds Key.Size n) (length-with ps)
      numbers Key.MinNumParts n = ap (size_holds Key.MinSize n) (length-with ps)
      numbers Key.MaxNumParts n = ap (size_holds Key.MaxSize n) (length-with ps)
      numbers Key.PartSize n = ap (list_all (size_holds Key.Size n)) s
      numbers Key.MinPartSize n = ap (list_all (size_holds Key.MinSize n)) s
      numbers Key.MaxPartSize n = ap (list_all (size_holds Key.MaxSize n)) s
      numbers _ n = refl

      flags : (k : Key) → parts_hold k (with_each ps) ≡ parts_hold k ps
      flags Key.Regular = ap all_equal s
      flags _ = refl
