-- The members of an enumerable domain are listed, and an enumerable expression denotes such a domain.
use Rattle.std.proofs.Common.{◌≡◌, true, Some}
use Rattle.ess_semantics.specs.Trees.{Dom, Doms, bool_dom, int_dom, name_dom, tuple_dom, record_dom, no_doms, more_doms}
use Rattle.ess_semantics.specs.Domains.{Domain, Domains, booleans, integers, named, tuples, records, matrices, sets, msets, functions, relations, partitions, no_domains, more_domains}
use Rattle.ess_semantics.specs.DomainJudgements.{is_enumerable, are_enumerable}
use Rattle.ess_semantics.specs.Meaning.{Env, domain_of}
use Rattle.ess_semantics.proofs.Tests.{and-left, and-right}
use Rattle.ess_repr_laws.specs.Finite.{FiniteAtom, Enumerable, AllEnumerable}
use Rattle.ess_repr_laws.specs.WellFormed.{Well}
use Rattle.ess_repr_laws.proofs.Enumerables.{IsEnumerated, AreEnumerated, atom-enumerable, tuples-enumerable, records-enumerable}
use Rattle.ess_repr_laws.proofs.DomainForms.{Formed, AllFormed, same_form, formed-same, atom-finite}
use Rattle.ess_repr_laws.proofs.DenotedDomains.{domain-formed}

mutual
  -- The members are there, rise, are all members, and are as many as the bound says.
  pub enumerable-listed : (d : Domain) → Enumerable d → IsEnumerated d
  enumerable-listed (tuples ds) h = tuples-enumerable ds (all-listed ds h)
  enumerable-listed (records fs ds) h = records-enumerable fs ds (all-listed ds h)
  enumerable-listed booleans h = atom-enumerable booleans h
  enumerable-listed (integers ss) h = atom-enumerable (integers ss) h
  enumerable-listed (named t n) h = atom-enumerable (named t n) h
  enumerable-listed (matrices is d) h = atom-enumerable (matrices is d) h
  enumerable-listed (sets ks d) h = atom-enumerable (sets ks d) h
  enumerable-listed (msets ks d) h = atom-enumerable (msets ks d) h
  enumerable-listed (functions ks d c) h = atom-enumerable (functions ks d c) h
  enumerable-listed (relations ks ds) h = atom-enumerable (relations ks ds) h
  enumerable-listed (partitions ks d) h = atom-enumerable (partitions ks d) h

  all-listed : (ds : Domains) → AllEnumerable ds → AreEnumerated ds
  all-listed no_domains h = tt
  all-listed (more_domains d ds) h = (enumerable-listed d h.0, all-listed ds h.1)

of-atom : (e : Domain) → FiniteAtom e → Enumerable e
of-atom booleans h = h
of-atom (integers ss) h = h
of-atom (named t n) h = h
of-atom _ h = absurd h.0

mutual
  formed-enumerable : (d : Dom) (e : Domain) → Formed d e → same_form d e ≡ true → is_enumerable d ≡ true → Enumerable e
  formed-enumerable (tuple_dom ds) (tuples es) f s h = all-formed ds es f h
  formed-enumerable (record_dom fs ds) (records gs es) f s h = all-formed ds es f h
  formed-enumerable bool_dom e f s h = of-atom e (atom-finite bool_dom e f h)
  formed-enumerable (int_dom rs es) e f s h = of-atom e (atom-finite (int_dom rs es) e f h)
  formed-enumerable (name_dom a) e f s h = of-atom e (atom-finite (name_dom a) e f h)
  formed-enumerable d e f s h = cc

  all-formed : (ds : Doms) (es : Domains) → AllFormed ds es → are_enumerable ds ≡ true → AllEnumerable es
  all-formed no_doms no_domains f h = tt
  all-formed no_doms (more_domains e es) f h = absurd f
  all-formed (more_doms d ds) no_domains f h = absurd f
  all-formed (more_doms d ds) (more_domains e es) f h =
      (formed-enumerable d e f.0 (formed-same d e f.0) (and-left (is_enumerable d) (are_enumerable ds) h), all-formed ds es f.1 (and-right (is_enumerable d) (are_enumerable ds) h))

-- A well-formed expression that is enumerable denotes an enumerable domain.
pub denoted-enumerable : (d : Dom) (env : Env) (e : Domain) → Well d → is_enumerable d ≡ true → domain_of d env ≡ Some e → Enumerable e
denoted-enumerable d env e w h q = let f = domain-formed d env e w q in formed-enumerable d e f (formed-same d e f) h
