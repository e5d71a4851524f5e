-- A declared domain, told apart and shown, is over tables what it is over values.
use Rattle.std.proofs.Common.{◌≡◌, ◌∙◌, ℕ, ◌^◌, Bool, []}
use Rattle.ess_semantics.specs.Values.{Text}
use Rattle.ess_semantics.specs.Trees.{Dom}
use Rattle.ess_semantics.specs.Meaning.{Env, domain_of}
use Rattle.ess_semantics.specs.Meets.{MeetsDom}
use Rattle.conjure_model_laws.specs.ToldApart.{told_dom}
use Rattle.conjure_model_laws.specs.Shown.{Shows, shown_dom}
use Rattle.conjure_model_laws.specs.StandsFor.{is_unshown, DomIsReady}
use Rattle.conjure_model_laws.specs.TreeLaws.{WrittenDomainsStand}
use Rattle.conjure_model_laws.proofs.Counted.{dom-plain}
use Rattle.conjure_model_laws.proofs.ToldNames.{dom-names}
use Rattle.conjure_model_laws.proofs.ToldMeanings.{domain-told}
use Rattle.conjure_model_laws.proofs.ToldLaws.{reserved-differ, start}
use Rattle.conjure_model_laws.proofs.ShownLaws.{shown-stands}
use Rattle.conjure_model_laws.proofs.ShownMeets.{dom-met}

module _ (sh : Shows) (n : Text → Bool) (env there : Env) (k : ℕ) (u : Text → Bool) (d : Dom) (R : DomIsReady sh n env there k u d) where
  domain-means : domain_of (shown_dom sh (told_dom d [] k).0) there ≡ domain_of d env
  domain-means =
      shown-stands.domains sh n env there R.stands (told_dom d [] k).0 (dom-plain d [] k R.plain)
      (dom-names n (is_unshown sh) R.reserved_in_use R.reserved_unshown d u [] k R.plain R.free R.in_use)
      ∙ domain-told (2 ^ 64) reserved-differ env.positions env.types env.cells d u [] k env.vals env.vals R.plain R.free R.few
      (start k u R.unreserved env.vals)

  domain-meets : MeetsDom (shown_dom sh (told_dom d [] k).0) there
  domain-meets = dom-met sh n env there R.stands (told_dom d [] k).0 there.vals (dom-plain d [] k R.plain)

-- What is proved of declared domains.
pub written-domains-stand : WrittenDomainsStand
written-domains-stand = record { domains = domain-means; meets = domain-meets }
