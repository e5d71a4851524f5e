-- Whatever the list of members of a domain holds is a member, and the list rises.
use Rattle.std.proofs.Common.{◌≡◌, refl, sym, ap, ◌∙◌, true, List, map, Option, Some, None, option_map}
use Rattle.std.specs.List.{list_all}
use Rattle.ess_semantics.specs.Lists.{all_some, list_or_none}
use Rattle.ess_semantics.specs.Values.{Text, Value, itself}
use Rattle.ess_semantics.specs.Collections.{rises}
use Rattle.ess_semantics.specs.Domains.{Domain, Domains, booleans, integers, named, tuples, records, matrices, sets, msets, functions, relations, partitions, no_domains, more_domains, lists_of, members, members_of_each}
use Rattle.ess_semantics.specs.Membership.{member}
use Rattle.ess_semantics.specs.Atoms.{Listed}
use Rattle.ess_semantics.proofs.MemberLists.{booleans-listed, integers-listed, named-listed}
use Rattle.ess_repr_laws.proofs.TupleMembers.{AllListed, T, tuples-listed}
use Rattle.ess_repr_laws.proofs.Enumerables.{F, rise-same, all-same}

records-listed : (fs : List Text) (ds : Domains) → Listed (tuples ds) → Listed (records fs ds)
records-listed fs ds l = go (all_some (members_of_each ds)) refl
  where
    go : (o : Option (List (List Value))) → all_some (members_of_each ds) ≡ o → Listed (records fs ds)
    go None q = record {
      sorted = ap (λ o. rises itself (list_or_none (option_map (λ ls. map (F fs) (lists_of ls)) o))) q;
      members = ap (λ o. list_all (member (records fs ds)) (list_or_none (option_map (λ ls. map (F fs) (lists_of ls)) o))) q;
    }
    go (Some ls) q = record {
      sorted = ap (λ o. rises itself (list_or_none (option_map (λ ls. map (F fs) (lists_of ls)) o))) q ∙ rise-same fs (lists_of ls)
          ∙ sym (ap (λ o. rises itself (list_or_none (option_map (λ ls. map T (lists_of ls)) o))) q) ∙ l.sorted;
      members = ap (λ o. list_all (member (records fs ds)) (list_or_none (option_map (λ ls. map (F fs) (lists_of ls)) o))) q
          ∙ all-same fs ds (lists_of ls)
          (sym (ap (λ o. list_all (member (tuples ds)) (list_or_none (option_map (λ ls. map T (lists_of ls)) o))) q) ∙ l.members);
    }

mutual
  -- The members of a domain that are listed rise and are members.
  pub domain-listed : (d : Domain) → Listed d
  domain-listed booleans = booleans-listed
  domain-listed (integers ss) = integers-listed ss
  domain-listed (named t n) = named-listed t n
  domain-listed (tuples ds) = tuples-listed ds (domains-listed ds)
  domain-listed (records fs ds) = records-listed fs ds (tuples-listed ds (domains-listed ds))
  domain-listed (matrices is d) = record { sorted = refl; members = refl }
  domain-listed (sets ks d) = record { sorted = refl; members = refl }
  domain-listed (msets ks d) = record { sorted = refl; members = refl }
  domain-listed (functions ks d c) = record { sorted = refl; members = refl }
  domain-listed (relations ks ds) = record { sorted = refl; members = refl }
  domain-listed (partitions ks d) = record { sorted = refl; members = refl }

  domains-listed : (ds : Domains) → AllListed ds
  domains-listed no_domains = tt
  domains-listed (more_domains d ds) = (domain-listed d, domains-listed ds)

-- So what is listed is a member.
pub listed-inside : (d : Domain) (vs : List Value) → members d ≡ Some vs → list_all (member d) vs ≡ true
listed-inside d vs e = let l = domain-listed d in ap (λ o. list_all (member d) (list_or_none o)) (sym e) ∙ l.members
