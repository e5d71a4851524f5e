-- The sizes that a child takes over are those that the attributes ask for, where each attribute's number is the only one of its key.
use Rattle.std.proofs.Common.{◌≡◌, refl, sym, ap, ◌∙◌, ℕ, Bool, true, false, if◌then◌else◌, List, [], ◌∷◌, length, ℤ, pos, Option, Some, None}
use Rattle.std.specs.List.{list_all}
use Rattle.ess_semantics.specs.declared.words.Key.{Key}
use Rattle.ess_semantics.specs.Lists.{or_else}
use Rattle.ess_semantics.specs.Values.{Value, items_of}
use Rattle.ess_semantics.specs.Attributes.{each_number_holds, part_sizes, partition_holds, set_attributes_hold, size_holds}
use Rattle.ess_semantics.specs.Domains.{Attribute, numbered, flagged, Domain, attribute, has}
use Rattle.ess_semantics.specs.Sizes.{bound, size_attributes}
use Rattle.ess_semantics.proofs.Tests.{and-left, and-right, and-both}
use Rattle.ess_repr_laws.specs.PartSizes.{ArePartSizes, part_sizes_of}
use Rattle.ess_repr_laws.specs.StructureMeaning.{AreSizes, ArePairSizes, is_exact, tuple_set_sizes}
use Rattle.ess_repr_structure_laws.proofs.NeatDomains.{EachNumber, IsTold, Told}

-- Each number holds.
each-of-numbers : (P : Key → ℤ → Bool) (ks : List Attribute) → each_number_holds ks P ≡ true → EachNumber (λ k z. P k z ≡ true) ks
each-of-numbers P [] h = tt
each-of-numbers P (numbered k z ∷ ks) h = (
  and-left (P k z) (each_number_holds ks P) h,
  each-of-numbers P ks
      (and-right (P k z) (each_number_holds ks P) h),
)
each-of-numbers P (flagged k ∷ ks) h = each-of-numbers P ks h

numbers-of-each : (P : Key → ℤ → Bool) (ks : List Attribute) → EachNumber (λ k z. P k z ≡ true) ks → each_number_holds ks P ≡ true
numbers-of-each P [] h = refl
numbers-of-each P (numbered k z ∷ ks) h = and-both (P k z) (each_number_holds ks P) h.0 (numbers-of-each P ks h.1)
numbers-of-each P (flagged k ∷ ks) h = numbers-of-each P ks h

-- What follows of two things that are said of each number.
pub each-of-two : (P Q R : Key → ℤ → Type 0) (ks : List Attribute) → ((k : Key) (z : ℤ) → P k z → Q k z → R k z) → EachNumber P ks →
    EachNumber Q ks → EachNumber R ks
each-of-two P Q R [] f h i = tt
each-of-two P Q R (numbered k z ∷ ks) f h i = (f k z h.0 i.0, each-of-two P Q R ks f h.1 i.1)
each-of-two P Q R (flagged k ∷ ks) f h i = each-of-two P Q R ks f h i

-- What follows of each number.
pub each-follows : (P R : Key → ℤ → Type 0) (ks : List Attribute) → ((k : Key) (z : ℤ) → P k z → R k z) → EachNumber P ks → EachNumber R ks
each-follows P R [] f h = tt
each-follows P R (numbered k z ∷ ks) f h = (f k z h.0, each-follows P R ks f h.1)
each-follows P R (flagged k ∷ ks) f h = each-follows P R ks f h

-- ---- what sizes that are made of numbers say

size-said : (s a b : Option ℕ) (n m : ℕ) → set_attributes_hold (size_attributes s a b) n ≡ true → s ≡ Some m → size_holds Key.Size (pos m) n
    ≡ true
size-said None a b n m h e = cc
size-said (Some k) a b n m h e = let q : k ≡ m = cc in ap (λ j. size_holds Key.Size (pos j) n) (sym q) ∙ and-left
    (size_holds Key.Size (pos k) n) (set_attributes_hold (size_attributes None a b) n) h

least-alone : (a b : Option ℕ) (n m : ℕ) → set_attributes_hold (size_attributes None a b) n ≡ true → a ≡ Some m → size_holds Key.MinSize
    (pos m) n ≡ true
least-alone None b n m h e = cc
least-alone (Some k) b n m h e =
    let q : k ≡ m = cc in
    ap (λ j. size_holds Key.MinSize (pos j) n) (sym q) ∙ and-left (size_holds Key.MinSize (pos k) n)
    (set_attributes_hold (size_attributes None None b) n) h

least-said : (s a b : Option ℕ) (n m : ℕ) → set_attributes_hold (size_attributes s a b) n ≡ true → a ≡ Some m → size_holds Key.MinSize
    (pos m) n ≡ true
least-said None a b n m h e = least-alone a b n m h e
least-said (Some s) a b n m h e = least-alone a b n m
    (and-right (size_holds Key.Size (pos s) n) (set_attributes_hold (size_attributes None a b) n) h) e

greatest-alone : (b : Option ℕ) (n m : ℕ) → set_attributes_hold (size_attributes None None b) n ≡ true → b ≡ Some m → size_holds Key.MaxSize
    (pos m) n ≡ true
greatest-alone None n m h e = cc
greatest-alone (Some k) n m h e =
    let q : k ≡ m = cc in ap (λ j. size_holds Key.MaxSize (pos j) n) (sym q) ∙ and-left (size_holds Key.MaxSize (pos k) n) true h

greatest-behind : (a b : Option ℕ) (n m : ℕ) → set_attributes_hold (size_attributes None a b) n ≡ true → b ≡ Some m → size_holds Key.MaxSize
    (pos m) n ≡ true
greatest-behind None b n m h e = greatest-alone b n m h e
greatest-behind (Some a) b n m h e = greatest-alone b n m
    (and-right (size_holds Key.MinSize (pos a) n) (set_attributes_hold (size_attributes None None b) n) h) e

greatest-said : (s a b : Option ℕ) (n m : ℕ) → set_attributes_hold (size_attributes s a b) n ≡ true → b ≡ Some m → size_holds Key.MaxSize
    (pos m) n ≡ true
greatest-said None a b n m h e = greatest-behind a b n m h e
greatest-said (Some s) a b n m h e = greatest-behind a b n m
    (and-right (size_holds Key.Size (pos s) n) (set_attributes_hold (size_attributes None a b) n) h) e

-- ---- sets of tuples

-- The sizes of the set of a relation's tuples.
pub are-sizes : (ks : List Attribute) → Told ks → AreSizes (tuple_set_sizes ks) ks
are-sizes ks t n h = numbers-of-each (λ k z. size_holds k z n) ks (each-follows (IsTold ks) (λ k z. size_holds k z n ≡ true) ks one t)
  where
    one : (k : Key) (z : ℤ) → IsTold ks k z → size_holds k z n ≡ true
    one Key.Size z i = ap (λ j. size_holds Key.Size j n) i.1 ∙ size-said (attribute Key.Size ks) (attribute Key.MinSize ks)
        (attribute Key.MaxSize ks) n i.0 h i.2
    one Key.MinSize z i = ap (λ j. size_holds Key.MinSize j n) i.1 ∙ least-said (attribute Key.Size ks) (attribute Key.MinSize ks)
        (attribute Key.MaxSize ks) n i.0 h i.2
    one Key.MaxSize z i = ap (λ j. size_holds Key.MaxSize j n) i.1 ∙ greatest-said (attribute Key.Size ks) (attribute Key.MinSize ks)
        (attribute Key.MaxSize ks) n i.0 h i.2
    one _ z i = refl

-- ---- pairs

chosen-some : (b : Bool) (o : Option ℕ) (n m : ℕ) → o ≡ Some m → (if b then o else or_else o (Some n)) ≡ Some m
chosen-some true o n m e = e
chosen-some false o n m e = ap (λ p. or_else p (Some n)) e

-- The sizes of the relation of a function's pairs.
pub are-pair-sizes : (ks : List Attribute) (x : Domain) → Told ks → ArePairSizes ks x
are-pair-sizes ks x t n h exact = go (has Key.Total ks) refl h
  where
    go : (b : Bool) → has Key.Total ks ≡ b →
        set_attributes_hold (if b then size_attributes (Some (bound x)) (attribute Key.MinSize ks) (attribute Key.MaxSize ks)
        else size_attributes (attribute Key.Size ks) (attribute Key.MinSize ks)
        (if has Key.Size ks then attribute Key.MaxSize ks else or_else (attribute Key.MaxSize ks) (Some (bound x)))) n ≡ true →
        set_attributes_hold ks n ≡ true
    go true e h =
        numbers-of-each (λ k z. size_holds k z n) ks
        (each-of-two (IsTold ks) (λ k z. is_exact n k z ≡ true) (λ k z. size_holds k z n ≡ true) ks one t
        (each-of-numbers (is_exact n) ks (exact e)))
      where
        one : (k : Key) (z : ℤ) → IsTold ks k z → is_exact n k z ≡ true → size_holds k z n ≡ true
        one Key.Size z i g = g
        one Key.MinSize z i g = ap (λ j. size_holds Key.MinSize j n) i.1 ∙ least-said (Some (bound x)) (attribute Key.MinSize ks)
            (attribute Key.MaxSize ks) n i.0 h i.2
        one Key.MaxSize z i g = ap (λ j. size_holds Key.MaxSize j n) i.1 ∙ greatest-said (Some (bound x)) (attribute Key.MinSize ks)
            (attribute Key.MaxSize ks) n i.0 h i.2
        one _ z i g = refl
    go false e h = numbers-of-each (λ k z. size_holds k z n) ks (each-follows (IsTold ks) (λ k z. size_holds k z n ≡ true) ks one t)
      where
        one : (k : Key) (z : ℤ) → IsTold ks k z → size_holds k z n ≡ true
        one Key.Size z i =
            ap (λ j. size_holds Key.Size j n) i.1
            ∙ size-said (attribute Key.Size ks) (attribute Key.MinSize ks)
            (if has Key.Size ks then attribute Key.MaxSize ks else or_else (attribute Key.MaxSize ks) (Some (bound x))) n i.0 h i.2
        one Key.MinSize z i =
            ap (λ j. size_holds Key.MinSize j n) i.1
            ∙ least-said (attribute Key.Size ks) (attribute Key.MinSize ks)
            (if has Key.Size ks then attribute Key.MaxSize ks else or_else (attribute Key.MaxSize ks) (Some (bound x))) n i.0 h i.2
        one Key.MaxSize z i =
            ap (λ j. size_holds Key.MaxSize j n) i.1
            ∙ greatest-said (attribute Key.Size ks) (attribute Key.MinSize ks)
            (if has Key.Size ks then attribute Key.MaxSize ks else or_else (attribute Key.MaxSize ks) (Some (bound x))) n i.0 h
            (chosen-some (has Key.Size ks) (attribute Key.MaxSize ks) (bound x) i.0 i.2)
        one _ z i = refl

-- ---- parts

-- The numbers and sizes of a partition's parts.
pub are-part-sizes : (ks : List Attribute) (x : Domain) → Told ks → ArePartSizes ks x
are-part-sizes ks x t ps h g = numbers-of-each (λ k z. partition_holds k z ps) ks
    (each-follows (IsTold ks) (λ k z. partition_holds k z ps ≡ true) ks one t)
  where
    each : (k : Key) (m : ℕ) → ((n : ℕ) → set_attributes_hold (part_sizes_of ks) n ≡ true → size_holds k (pos m) n ≡ true) →
        (qs : List Value) →
        list_all (λ p. set_attributes_hold (part_sizes_of ks) (length (items_of p))) qs ≡ true → list_all (size_holds k (pos m))
        (part_sizes qs) ≡ true
    each k m f [] g = refl
    each k m f (p ∷ qs) g =
        and-both (size_holds k (pos m) (length (items_of p))) (list_all (size_holds k (pos m)) (part_sizes qs))
        (f (length (items_of p)) (and-left (set_attributes_hold (part_sizes_of ks) (length (items_of p)))
        (list_all (λ p. set_attributes_hold (part_sizes_of ks) (length (items_of p))) qs) g))
        (each k m f qs (and-right (set_attributes_hold (part_sizes_of ks) (length (items_of p)))
        (list_all (λ p. set_attributes_hold (part_sizes_of ks) (length (items_of p))) qs) g))

    one : (k : Key) (z : ℤ) → IsTold ks k z → partition_holds k z ps ≡ true
    one Key.NumParts z i =
        ap (λ j. partition_holds Key.NumParts j ps) i.1
        ∙ size-said (attribute Key.NumParts ks) (attribute Key.MinNumParts ks)
        (if has Key.NumParts ks then attribute Key.MaxNumParts ks else or_else (attribute Key.MaxNumParts ks) (Some (bound x)))
        (length ps) i.0 h i.2
    one Key.MinNumParts z i =
        ap (λ j. partition_holds Key.MinNumParts j ps) i.1
        ∙ least-said (attribute Key.NumParts ks) (attribute Key.MinNumParts ks)
        (if has Key.NumParts ks then attribute Key.MaxNumParts ks else or_else (attribute Key.MaxNumParts ks) (Some (bound x)))
        (length ps) i.0 h i.2
    one Key.MaxNumParts z i =
        ap (λ j. partition_holds Key.MaxNumParts j ps) i.1
        ∙ greatest-said (attribute Key.NumParts ks) (attribute Key.MinNumParts ks)
        (if has Key.NumParts ks then attribute Key.MaxNumParts ks else or_else (attribute Key.MaxNumParts ks) (Some (bound x)))
        (length ps) i.0 h
        (chosen-some (has Key.NumParts ks) (attribute Key.MaxNumParts ks) (bound x) i.0 i.2)
    one Key.PartSize z i =
        ap (λ j. partition_holds Key.PartSize j ps) i.1
        ∙ each Key.Size i.0 (λ n k. size-said (attribute Key.PartSize ks) (attribute Key.MinPartSize ks) (attribute Key.MaxPartSize ks) n
        i.0 k i.2) ps g
    one Key.MinPartSize z i =
        ap (λ j. partition_holds Key.MinPartSize j ps) i.1
        ∙ each Key.MinSize i.0 (λ n k. least-said (attribute Key.PartSize ks) (attribute Key.MinPartSize ks) (attribute Key.MaxPartSize ks)
        n i.0 k i.2) ps g
    one Key.MaxPartSize z i =
        ap (λ j. partition_holds Key.MaxPartSize j ps) i.1
        ∙ each Key.MaxSize i.0 (λ n k. greatest-said (attribute Key.PartSize ks) (attribute Key.MinPartSize ks)
        (attribute Key.MaxPartSize ks) n i.0 k i.2) ps g
    one _ z i = refl
