-- The cells of one layer and those below it, by the sizes of the layer's domain alone: its volume and longest axis before
-- the layer are v and l, a set's `size` or `maxSize` is s.
use Rattle.std.specs.Prelude.{ℕ, ◌+◌, ◌*◌, ◌^◌, Bool, true, false, if◌then◌else◌, [], ◌∷◌, length, Option}
use Rattle.ess_semantics.specs.declared.words.ReprKind.{ReprKind}
use Rattle.ess_semantics.specs.Lists.{or_default}
use Rattle.ess_semantics.specs.Trees.{Repr, Reprs, repr, no_reprs, more_reprs}
use Rattle.ess_semantics.specs.Domains.{Domain, Domains, tuples, no_domains, more_domains, member_list}
use Rattle.ess_semantics.specs.Sizes.{bound}
use Rattle.ess_domains_cells.specs.Kept.{greater}
use Rattle.ess_domains_cells.specs.Products.{member_product}
use Rattle.ess_domains_cells.specs.Counted.{counted_children}

-- A table over one more axis with n members.
abbrev pub table : ℕ → ℕ → ℕ → ℕ
table v l n = greater (v * n) (greater l n)

-- How many members the longest of several axes has.
abbrev pub longest_members : Domains → ℕ
longest_members no_domains = 0
longest_members (more_domains d ds) = greater (length (member_list d)) (longest_members ds)

-- A table with one more axis for each domain.
abbrev pub table_over : ℕ → ℕ → Domains → ℕ
table_over v l ds = greater (v * member_product ds) (greater l (longest_members ds))

-- The own tables of a set, with n slots over a domain of m members.
abbrev pub set_own : ReprKind → ℕ → ℕ → ℕ → ℕ → ℕ
set_own ReprKind.Occurrence v l n m = table v l m
set_own ReprKind.ExplicitVarSizeWithMarker v l n m = greater v l
set_own ReprKind.ExplicitVarSizeWithFlags v l n m = table v l n
set_own ReprKind.ExplicitVarSizeWithDummy v l n m = table v l n
set_own _ v l n m = 0

-- Whether a kind keeps the members of a set in slots of a child.
abbrev pub has_slots : ReprKind → Bool
has_slots ReprKind.Explicit = true
has_slots ReprKind.ExplicitVarSizeWithMarker = true
has_slots ReprKind.ExplicitVarSizeWithFlags = true
has_slots _ = false

-- The cells of a set over d.
abbrev pub counted_set : Repr → Option ℕ → Domain → ℕ → ℕ → ℕ
counted_set (repr k rs) s d v l =
    set_own k v l (or_default s (bound d)) (length (member_list d))
    + (if has_slots k then counted_children rs (d ∷ []) (v * or_default s (bound d)) (greater l (or_default s (bound d))) else 0)

-- The cells of an only child that is a set.
abbrev pub first_set : Reprs → Option ℕ → Domain → ℕ → ℕ → ℕ
first_set (more_reprs r rs) s d v l = counted_set r s d v l
first_set no_reprs s d v l = 0

-- The cells of a set of sets over d, where t is the size of the inner sets.
abbrev pub counted_sets : Repr → Option ℕ → Option ℕ → Domain → ℕ → ℕ → ℕ
counted_sets (repr k rs) s t d v l =
    set_own k v l (or_default s (2 ^ bound d)) 0
    + (if has_slots k then first_set rs t d (v * or_default s (2 ^ bound d)) (greater l (or_default s (2 ^ bound d))) else 0)

-- The own tables of a multiset, with n slots over a domain of m members.
abbrev pub mset_own : ReprKind → ℕ → ℕ → ℕ → ℕ → ℕ
mset_own ReprKind.MSetOccurrence v l n m = table v l m
mset_own ReprKind.MSetExplicitWithRepetition v l n m = greater v l
mset_own ReprKind.MSetExplicitWithFlags v l n m = table v l n
mset_own _ v l n m = 0

-- Whether a kind keeps the members of a multiset in slots of a child.
abbrev pub has_mset_slots : ReprKind → Bool
has_mset_slots ReprKind.MSetExplicitWithRepetition = true
has_mset_slots ReprKind.MSetExplicitWithFlags = true
has_mset_slots _ = false

-- The cells of a multiset over d with n slots.
abbrev pub counted_mset : Repr → ℕ → Domain → ℕ → ℕ → ℕ
counted_mset (repr k rs) n d v l =
    mset_own k v l n (length (member_list d)) + (if has_mset_slots k then counted_children rs (d ∷ []) (v * n) (greater l n) else 0)

-- The cells of a relation over ds.
abbrev pub counted_relation : Repr → Option ℕ → Domains → ℕ → ℕ → ℕ
counted_relation (repr ReprKind.RelationAsMatrix rs) s ds v l = table_over v l ds
counted_relation (repr ReprKind.RelationAsSet rs) s ds v l = first_set rs s (tuples ds) v l
counted_relation r s ds v l = 0
