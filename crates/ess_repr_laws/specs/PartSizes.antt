-- The sizes of a partition that is kept as the set of its parts: those of the set, and those of each part.
use Rattle.std.specs.Prelude.{◌≡◌, if◌then◌else◌, length, true, List, Some}
use Rattle.std.specs.List.{list_all}
use Rattle.ess_semantics.specs.Attributes.{each_holds, partition_holds, set_attributes_hold}
use Rattle.ess_semantics.specs.Domains.{Attribute, attribute, has, Domain}
use Rattle.ess_semantics.specs.Lists.{or_else}
use Rattle.ess_semantics.specs.Sizes.{size_attributes, bound}
use Rattle.ess_semantics.specs.Values.{Value, items_of}
use Rattle.ess_semantics.specs.declared.words.Key.{Key}

-- The attributes of the set of a partition's parts.
abbrev pub part_counts : List Attribute → Domain → List Attribute
part_counts ks x =
    size_attributes (attribute Key.NumParts ks) (attribute Key.MinNumParts ks)
    (if has Key.NumParts ks then attribute Key.MaxNumParts ks else or_else (attribute Key.MaxNumParts ks) (Some (bound x)))

-- Those of each part.
abbrev pub part_sizes_of : List Attribute → List Attribute
part_sizes_of ks = size_attributes (attribute Key.PartSize ks) (attribute Key.MinPartSize ks) (attribute Key.MaxPartSize ks)

-- What these allow is allowed by the attributes with a number of ks. So where no attribute stands twice.
abbrev pub ArePartSizes : List Attribute → Domain → Type 0
ArePartSizes ks x =
    (ps : List Value) → set_attributes_hold (part_counts ks x) (length ps) ≡ true →
    list_all (λ p. set_attributes_hold (part_sizes_of ks) (length (items_of p))) ps ≡ true →
    each_holds ks (λ k n. partition_holds k n ps) (λ k. true) ≡ true
