-- A domain has one type with itself, and either way round.
use Rattle.std.proofs.Common.{refl, sym}
use Rattle.ess_semantics.specs.Domains.{Domain, Domains, booleans, integers, named, tuples, records, matrices, sets, msets, functions, relations, partitions, no_domains, more_domains}
use Rattle.ess_semantics.specs.Atoms.{IsAtom, AreAtoms}
use Rattle.ess_repr_laws.specs.TypedDomains.{OneType, AllOneType, Typed, AllTyped}

atom-itself : (d : Domain) → IsAtom d → OneType d d
atom-itself booleans a = tt
atom-itself (integers ss) a = tt
atom-itself (named t n) a = refl
atom-itself _ a = absurd a

atoms-themselves : (ds : Domains) → AreAtoms ds → AllOneType ds ds
atoms-themselves no_domains a = tt
atoms-themselves (more_domains d ds) a = (atom-itself d a.0, atoms-themselves ds a.1)

mutual
  -- With itself.
  pub type-itself : (d : Domain) → Typed d → OneType d d
  type-itself booleans t = tt
  type-itself (integers ss) t = tt
  type-itself (named x n) t = refl
  type-itself (tuples ds) t = types-themselves ds t
  type-itself (records fs ds) t = types-themselves ds t
  type-itself (matrices is d) t = (t.0, t.0, atoms-themselves is t.0, type-itself d t.1)
  type-itself (sets ks d) t = type-itself d t
  type-itself (msets ks d) t = type-itself d t
  type-itself (functions ks d c) t = (type-itself d t.0, type-itself c t.1)
  type-itself (relations ks ds) t = types-themselves ds t.1
  type-itself (partitions ks d) t = type-itself d t

  -- The same of several domains.
  pub types-themselves : (ds : Domains) → AllTyped ds → AllOneType ds ds
  types-themselves no_domains t = tt
  types-themselves (more_domains d ds) t = (type-itself d t.0, types-themselves ds t.1)

mutual
  -- The other way round.
  pub type-turned : (d e : Domain) → OneType d e → OneType e d
  type-turned booleans booleans t = tt
  type-turned (integers ss) (integers rs) t = tt
  type-turned (named x n) (named y m) t = sym t
  type-turned (tuples ds) (tuples es) t = types-turned ds es t
  type-turned (records fs ds) (records gs es) t = types-turned ds es t
  type-turned (matrices is d) (matrices js e) t = (t.1, t.0, types-turned is js t.2, type-turned d e t.3)
  type-turned (sets ks d) (sets ls e) t = type-turned d e t
  type-turned (msets ks d) (msets ls e) t = type-turned d e t
  type-turned (functions ks d c) (functions ls e f) t = (type-turned d e t.0, type-turned c f t.1)
  type-turned (relations ks ds) (relations ls es) t = types-turned ds es t
  type-turned (partitions ks d) (partitions ls e) t = type-turned d e t
  type-turned _ e t = absurd t

  types-turned : (ds es : Domains) → AllOneType ds es → AllOneType es ds
  types-turned no_domains no_domains t = tt
  types-turned (more_domains d ds) (more_domains e es) t = (type-turned d e t.0, types-turned ds es t.1)
  types-turned no_domains (more_domains e es) t = absurd t
  types-turned (more_domains d ds) no_domains t = absurd t
