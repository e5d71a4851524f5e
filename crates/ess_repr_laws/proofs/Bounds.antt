-- The bound of a finite domain is one of the number of its members.
use Rattle.std.proofs.Common.{refl}
use Rattle.ess_semantics.specs.Values.{a_tuple, a_set, a_mset, a_relation, a_record}
use Rattle.ess_semantics.specs.Domains.{Domain, Domains, booleans, integers, named, tuples, records, matrices, sets, msets, functions, relations, partitions, no_domains, more_domains}
use Rattle.ess_semantics.specs.Membership.{member}
use Rattle.ess_semantics.specs.Sizes.{occurrences, bound, product_bound}
use Rattle.ess_repr_laws.specs.Finite.{Bounded, Finite, AllFinite}
use Rattle.ess_repr_laws.proofs.CellsOfOccurrences.{set-member, relation-member, members-of-tuples}
use Rattle.ess_repr_laws.proofs.Times.{mset-member, occurs-most}
use Rattle.ess_repr_laws.proofs.Universes.{Universe, universe-bounds}
use Rattle.ess_repr_laws.proofs.BoundedLists.{atom-universe, counted, functions-universe, items-length, matrices-universe, sorted-set}
use Rattle.ess_repr_laws.proofs.BoundedParts.{Lists, compound-universe, more-lists, no-lists, partitions-universe, record-form, tuple-form}

-- ---- all domains

mutual
  universe : (d : Domain) → Finite d → Universe (member d) (bound d)
  universe booleans f = atom-universe booleans (tt, refl) refl
  universe (integers ss) f = atom-universe (integers ss) (tt, f) refl
  universe (named t n) f = atom-universe (named t n) (tt, refl) (items-length t 1 n)
  universe (tuples ds) f = compound-universe ds a_tuple (member (tuples ds)) (universes ds f) (tuple-form ds)
  universe (records fs ds) f = compound-universe ds (a_record fs) (member (records fs ds)) (universes ds f) (record-form fs ds)
  universe (matrices is d) f = matrices-universe is d f.0 (universe d f.1)
  universe (sets ks d) f =
      counted (member d) (member (sets ks d)) (bound d) 1 a_set (universe d f)
      (λ v h. let m = set-member ks d v h in let x = m.2 in let y = sorted-set m.0 x.rise in (m.0, m.1, y.0, x.inside, y.1))
  universe (msets ks d) f =
      counted (member d) (member (msets ks d)) (bound d) (occurrences ks) a_mset (universe d f.0)
      (λ v h. let m = mset-member ks d v h in let x = m.2 in (m.0, m.1, x.rise, x.inside, occurs-most ks f.1 m.0 x.attributes))
  universe (functions ks d c) f = functions-universe ks d c (universe d f.0) (universe c f.1)
  universe (relations ks ds) f =
      counted (member (tuples ds)) (member (relations ks ds)) (product_bound ds) 1 a_relation (compound-universe ds a_tuple (member (tuples ds)) (universes ds f) (tuple-form ds))
      (λ v h. let m = relation-member ks ds v h in let x = m.2 in let y = sorted-set m.0 x.rise in (m.0, m.1, y.0, members-of-tuples ds m.0 x.inside, y.1))
  universe (partitions ks d) f = partitions-universe ks d (universe d f)

  universes : (ds : Domains) → AllFinite ds → Lists ds
  universes no_domains f = no-lists
  universes (more_domains d ds) f = more-lists d ds (universe d f.0) (universes ds f.1)

-- A rising list of members of a finite domain is no longer than its bound.
pub finite-bounded : (d : Domain) → Finite d → Bounded d
finite-bounded d f = universe-bounds d (universe d f)
