-- Atoms among closed domains, and lists of members.
use Rattle.std.specs.Prelude.{◌≡◌, true}
use Rattle.std.specs.List.{list_all}
use Rattle.ess_semantics.specs.Values.{itself}
use Rattle.ess_semantics.specs.Collections.{rises}
use Rattle.ess_semantics.specs.Domains.{Domain, Domains, booleans, integers, named, no_domains, more_domains, member_list}
use Rattle.ess_semantics.specs.Membership.{member}

-- bool, a domain of numbers or a named type.
abbrev pub IsAtom : Domain → Type 0
IsAtom booleans = Unit {0}
IsAtom (integers ss) = Unit {0}
IsAtom (named t n) = Unit {0}
IsAtom _ = ⊥

-- Each of the domains is an atom.
abbrev pub AreAtoms : Domains → Type 0
AreAtoms no_domains = Unit {0}
AreAtoms (more_domains d ds) = IsAtom d × AreAtoms ds

-- The list of members rises, and holds members alone.
pub record Listed (d : Domain) : Type 0 where
  pub sorted : rises itself (member_list d) ≡ true
  pub members : list_all (member d) (member_list d) ≡ true
