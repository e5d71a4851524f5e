-- Finite domains: what is asked so that members are finitely many, and so that the members of an atom can be listed.
use Rattle.std.specs.Prelude.{◌≡◌, ◌≤◌, Bool, true, false, List, length, IsTrue, is_some}
use Rattle.std.specs.List.{list_all, list_any}
use Rattle.ess_semantics.specs.declared.words.Key.{Key}
use Rattle.ess_semantics.specs.Lists.{or_else}
use Rattle.ess_semantics.specs.Values.{Value, itself}
use Rattle.ess_semantics.specs.Collections.{holds, rises}
use Rattle.ess_semantics.specs.Domains.{Attribute, numbered, flagged, Domain, Domains, booleans, integers, named, tuples, records, matrices, sets, msets, functions, relations, partitions, no_domains, more_domains, members, member_list, attribute, same_key}
use Rattle.ess_semantics.specs.Membership.{member}
use Rattle.ess_semantics.specs.Atoms.{IsAtom, Listed}
use Rattle.ess_semantics.specs.Sizes.{greatest_size, bound}

-- ---- atoms

-- An atom whose members can be listed.
abbrev pub FiniteAtom : Domain → Type 0
FiniteAtom d = IsAtom d × IsTrue (is_some (members d))

-- Each of the domains is one.
abbrev pub FiniteAtoms : Domains → Type 0
FiniteAtoms no_domains = Unit {0}
FiniteAtoms (more_domains d ds) = FiniteAtom d × FiniteAtoms ds

-- The members of each of the domains can be listed.
abbrev pub HaveLists : Domains → Type 0
HaveLists no_domains = Unit {0}
HaveLists (more_domains d ds) = IsTrue (is_some (members d)) × HaveLists ds

-- ---- lists of members

-- Each member is listed.
abbrev pub Complete : Domain → Type 0
Complete d = (v : Value) → member d v ≡ true → holds (member_list d) v ≡ true

-- The members are listed: the list rises, holds all of them and nothing else, and is as long as the bound says.
pub record Enumerated (d : Domain) : Type 0 where
  pub listed : Listed d
  pub complete : Complete d
  pub exact : length (member_list d) ≡ bound d

-- The bound is right: a rising list of members is no longer.
abbrev pub Bounded : Domain → Type 0
Bounded d = (xs : List Value) → rises itself xs ≡ true → list_all (member d) xs ≡ true → length xs ≤ bound d

-- ---- attributes

-- Whether the attribute is this one, and stands without a number.
abbrev pub is_flag : Key → Attribute → Bool
is_flag k (flagged l) = same_key k l
is_flag k (numbered l n) = false

-- The attribute stands without a number.
abbrev pub IsFlagged : Key → List Attribute → Type 0
IsFlagged k ks = list_any (is_flag k) ks ≡ true

-- A number bounds how often a member of a multiset occurs.
abbrev pub OccursBound : List Attribute → Type 0
OccursBound ks = IsTrue (is_some (or_else (attribute Key.MaxOccur ks) (greatest_size ks)))

-- ---- domains

abbrev mutual
  -- A finite domain: its ints have bounds, its multisets bound how often a member occurs.
  pub Finite : Domain → Type 0
  Finite booleans = Unit {0}
  Finite (integers ss) = IsTrue (is_some (members (integers ss)))
  Finite (named t n) = Unit {0}
  Finite (tuples ds) = AllFinite ds
  Finite (records fs ds) = AllFinite ds
  Finite (matrices is d) = FiniteAtoms is × Finite d
  Finite (sets ks d) = Finite d
  Finite (msets ks d) = Finite d × OccursBound ks
  Finite (functions ks d c) = Finite d × Finite c
  Finite (relations ks ds) = AllFinite ds
  Finite (partitions ks d) = Finite d

  -- Each of the domains is finite.
  pub AllFinite : Domains → Type 0
  AllFinite no_domains = Unit {0}
  AllFinite (more_domains d ds) = Finite d × AllFinite ds

abbrev mutual
  -- An atom whose members can be listed, or a tuple or record of such: the members are listed one after the other.
  pub Enumerable : Domain → Type 0
  Enumerable (tuples ds) = AllEnumerable ds
  Enumerable (records fs ds) = AllEnumerable ds
  Enumerable d = FiniteAtom d

  -- Each of the domains is one.
  pub AllEnumerable : Domains → Type 0
  AllEnumerable no_domains = Unit {0}
  AllEnumerable (more_domains d ds) = Enumerable d × AllEnumerable ds
