-- Domains whose bounds, attribute values and sizes are known numbers, and the members of the enumerable ones. A domain
-- expression becomes such a domain where each of its numbers has a meaning. The kinds of domains are those of the
-- manual's chapter on domains.
use Rattle.std.specs.Prelude.{ℕ, zero, suc, Bool, true, false, if◌then◌else◌, List, [], ◌∷◌, ◌++◌, map, ℤ, pos, ◌+ℤ◌, ◌-ℤ◌, Option, Some, None, nat_eq, option_map}
use Rattle.std.specs.List.{list_any}
use Rattle.ess_semantics.specs.declared.words.Key.{Key}
use Rattle.ess_semantics.specs.Lists.{and_then, all_some, append_all, list_or_none}
use Rattle.ess_semantics.specs.Values.{Text, a_record, Value, number, truth, item, node, of_list, tuple}
use Rattle.ess_semantics.specs.Collections.{sorted_once}
use Rattle.ess_semantics.specs.Numbers.{natural}

-- A range with its bounds, where it has them.
pub record Span : Type 0 where
  pub low : Option ℤ
  pub high : Option ℤ

-- An attribute with its number, or one without.
pub data Attribute : Type 0 where
  numbered : Key → ℤ → Attribute
  flagged : Key → Attribute

mutual
  -- A domain. Without a range, `integers` holds all numbers. `named t n` is a type of n values.
  pub data Domain : Type 0 where
    booleans : Domain
    integers : List Span → Domain
    named : Text → ℕ → Domain
    tuples : Domains → Domain
    records : List Text → Domains → Domain
    matrices : Domains → Domain → Domain
    sets : List Attribute → Domain → Domain
    msets : List Attribute → Domain → Domain
    functions : List Attribute → Domain → Domain → Domain
    relations : List Attribute → Domains → Domain
    partitions : List Attribute → Domain → Domain

  -- Several domains.
  pub data Domains : Type 0 where
    no_domains : Domains
    more_domains : Domain → Domains → Domains

-- The domains as a list.
abbrev pub domain_list : Domains → List Domain
domain_list no_domains = []
domain_list (more_domains d ds) = d ∷ domain_list ds

-- ---- attributes

-- The place of an attribute in its list, by which two are told apart.
abbrev pub key_number : Key → ℕ
key_number Key.Size = 0
key_number Key.MinSize = 1
key_number Key.MaxSize = 2
key_number Key.Reflexive = 3
key_number Key.Irreflexive = 4
key_number Key.Symmetric = 5
key_number Key.AntiSymmetric = 6
key_number Key.ASymmetric = 7
key_number Key.Transitive = 8
key_number Key.MinOccur = 9
key_number Key.MaxOccur = 10
key_number Key.Total = 11
key_number Key.Injective = 12
key_number Key.Surjective = 13
key_number Key.Bijective = 14
key_number Key.NumParts = 15
key_number Key.MinNumParts = 16
key_number Key.MaxNumParts = 17
key_number Key.PartSize = 18
key_number Key.MinPartSize = 19
key_number Key.MaxPartSize = 20
key_number Key.Regular = 21

-- Whether two attributes are the same.
abbrev pub same_key : Key → Key → Bool
same_key k l = nat_eq (key_number k) (key_number l)

-- The number of an attribute, where it stands with one; below 0 it counts as 0.
abbrev pub attribute : Key → List Attribute → Option ℕ
attribute k [] = None
attribute k (numbered l n ∷ ks) = if same_key k l then Some (natural n) else attribute k ks
attribute k (flagged l ∷ ks) = attribute k ks

-- The key of an attribute.
abbrev pub key_of_attribute : Attribute → Key
key_of_attribute (numbered k n) = k
key_of_attribute (flagged k) = k

-- Whether the attribute stands, with a number or without.
abbrev pub has : Key → List Attribute → Bool
has k ks = list_any (λ a. same_key k (key_of_attribute a)) ks

-- ---- members

-- The numbers from a bound on.
abbrev pub numbers_up : ℤ → ℕ → List Value
numbers_up a zero = []
numbers_up a (suc n) = number a ∷ numbers_up (a +ℤ pos 1) n

-- The numbers from a bound to a bound; none where the upper one is lower.
abbrev pub interval : ℤ → ℤ → List Value
interval a b = numbers_up a (natural ((b -ℤ a) +ℤ pos 1))

-- The numbers of a range, where it has both bounds.
abbrev pub span_members : Span → Option (List Value)
span_members s = and_then s.low (λ a. and_then s.high (λ b. Some (interval a b)))

-- The numbers that some range holds, rising. Without a range, or without a bound, they can't be listed.
abbrev pub int_members : List Span → Option (List Value)
int_members [] = None
int_members (s ∷ ss) = option_map (λ ls. sorted_once (append_all ls)) (all_some (map span_members (s ∷ ss)))

-- n values of a named type, from the k-th on.
abbrev pub items_from : Text → ℕ → ℕ → List Value
items_from t k zero = []
items_from t k (suc n) = item t k ∷ items_from t (suc k) n

-- Each of the values in front of each of the lists.
abbrev pub add_heads : {A : Type 0} → List A → List (List A) → List (List A)
add_heads [] ls = []
add_heads (v ∷ vs) ls = map (λ l. v ∷ l) ls ++ add_heads vs ls

-- All lists with one item from each, in lexicographic order.
abbrev pub lists_of : {A : Type 0} → List (List A) → List (List A)
lists_of [] = [] ∷ []
lists_of (vs ∷ vss) = add_heads vs (lists_of vss)

abbrev mutual
  -- The members of an enumerable domain, rising: of an atom, or of a tuple or record of enumerable domains.
  pub members : Domain → Option (List Value)
  members booleans = Some (truth false ∷ truth true ∷ [])
  members (integers ss) = int_members ss
  members (named t n) = Some (items_from t 1 n)
  members (tuples ds) = option_map (λ ls. map (λ l. tuple (of_list l)) (lists_of ls)) (all_some (members_of_each ds))
  members (records fs ds) = option_map (λ ls. map (λ l. node (a_record fs) (of_list l)) (lists_of ls)) (all_some (members_of_each ds))
  members _ = None

  -- The members of each domain.
  pub members_of_each : Domains → List (Option (List Value))
  members_of_each no_domains = []
  members_of_each (more_domains d ds) = members d ∷ members_of_each ds

-- The members of a domain that has finitely many and is an atom, or a tuple or record of such.
abbrev pub member_list : Domain → List Value
member_list d = list_or_none (members d)

-- From a number to a number.
abbrev pub between : ℤ → ℤ → Domain
between a b = integers (record { low = Some a; high = Some b } ∷ [])
