-- How many slots a set, multiset, function or relation needs at most, and the domains of children that are no part of
-- the domain itself.
use Rattle.std.specs.Prelude.{ℕ, suc, ◌*◌, ◌^◌, if◌then◌else◌, List, [], ◌∷◌, ◌++◌, length, pos, Option, Some, None}
use Rattle.ess_semantics.specs.declared.words.Key.{Key}
use Rattle.ess_semantics.specs.Lists.{or_else, or_default}
use Rattle.ess_semantics.specs.Domains.{Attribute, numbered, Domain, Domains, booleans, integers, named, tuples, records, matrices, sets, msets, functions, relations, partitions, no_domains, more_domains, member_list, attribute, has}

-- `size`, else `maxSize`.
abbrev pub greatest_size : List Attribute → Option ℕ
greatest_size ks = or_else (attribute Key.Size ks) (attribute Key.MaxSize ks)

-- How often a member of a multiset occurs at most: `maxOccur`, else `size`, else `maxSize`.
abbrev pub occurrences : List Attribute → ℕ
occurrences ks = or_default (or_else (attribute Key.MaxOccur ks) (greatest_size ks)) 0

abbrev mutual
  -- A number that the number of members of a finite domain never exceeds.
  pub bound : Domain → ℕ
  bound booleans = 2
  bound (integers ss) = length (member_list (integers ss))
  bound (named t n) = n
  bound (tuples ds) = product_bound ds
  bound (records fs ds) = product_bound ds
  bound (matrices is d) = suc (bound d) ^ product_bound is
  bound (sets ks d) = 2 ^ bound d
  bound (msets ks d) = suc (occurrences ks) ^ bound d
  bound (functions ks d c) = suc (bound c) ^ bound d
  bound (relations ks ds) = 2 ^ product_bound ds
  bound (partitions ks d) = suc (bound d) ^ bound d

  -- The product of the bounds.
  pub product_bound : Domains → ℕ
  product_bound no_domains = 1
  product_bound (more_domains d ds) = bound d * product_bound ds

-- The slots of a set: `size`, else `maxSize`, else the bound of the inner domain.
abbrev pub slots_of_set : List Attribute → Domain → ℕ
slots_of_set ks d = or_default (greatest_size ks) (bound d)

-- The slots of a multiset: `size`, else `maxSize`, else the inner bound as often as a member occurs.
abbrev pub slots_of_mset : List Attribute → Domain → ℕ
slots_of_mset ks d = or_default (greatest_size ks) (occurrences ks * bound d)

-- ---- the domains of children

-- An attribute with its number, where it is there.
abbrev pub sized_if : Key → Option ℕ → List Attribute
sized_if k None = []
sized_if k (Some n) = numbered k (pos n) ∷ []

-- `size`, `minSize` and `maxSize` from the attributes of these names.
abbrev pub size_attributes : Option ℕ → Option ℕ → Option ℕ → List Attribute
size_attributes s a b = sized_if Key.Size s ++ sized_if Key.MinSize a ++ sized_if Key.MaxSize b

-- The attributes of the relation of a function's pairs. A total function has as many pairs as its first domain has members;
-- any other one without `size` and `maxSize` has at most the bound of its first domain.
abbrev pub pair_sizes : List Attribute → Domain → List Attribute
pair_sizes ks d =
    if has Key.Total ks then size_attributes (Some (bound d)) (attribute Key.MinSize ks) (attribute Key.MaxSize ks)
    else size_attributes (attribute Key.Size ks) (attribute Key.MinSize ks)
    (if has Key.Size ks then attribute Key.MaxSize ks else or_else (attribute Key.MaxSize ks) (Some (bound d)))

-- The relation of a function's pairs.
abbrev pub child_relation : List Attribute → Domain → Domain → Domain
child_relation ks d c = relations (pair_sizes ks d) (more_domains d (more_domains c no_domains))

-- The set of a relation's tuples.
abbrev pub child_set : List Attribute → Domains → Domain
child_set ks ds = sets (size_attributes (attribute Key.Size ks) (attribute Key.MinSize ks) (attribute Key.MaxSize ks)) (tuples ds)

-- The set of a partition's parts, each a set. Without `numParts` and `maxNumParts` it has at most as many parts as the
-- inner domain has members.
abbrev pub child_parts : List Attribute → Domain → Domain
child_parts ks d =
    sets (size_attributes (attribute Key.NumParts ks) (attribute Key.MinNumParts ks)
    (if has Key.NumParts ks then attribute Key.MaxNumParts ks else or_else (attribute Key.MaxNumParts ks) (Some (bound d))))
    (sets (size_attributes (attribute Key.PartSize ks) (attribute Key.MinPartSize ks) (attribute Key.MaxPartSize ks)) d)
