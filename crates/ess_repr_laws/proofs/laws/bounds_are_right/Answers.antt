use Rattle.ess_repr_laws.proofs.laws.bounds_are_right.Goals as goal
use Rattle.ess_repr_laws.proofs.Bounds.{finite-bounded}
use Rattle.ess_repr_laws.proofs.DomainForms.{formed-same}
use Rattle.ess_repr_laws.proofs.DenotedDomains.{domain-formed, dom-finite}
use Rattle.ess_repr_laws.proofs.EnumerableDomains.{enumerable-listed, denoted-enumerable}

pub returns : goal.returns
returns c = record {
  bounded = finite-bounded;
  listed = λ e h. let x = enumerable-listed e h in x.enumerated;
  finite = λ d env e w h q. let f = domain-formed d env e w q in dom-finite d e f (formed-same d e f) h;
  enumerable = denoted-enumerable;
}
