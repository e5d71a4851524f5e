use Rattle.conjure_laws.proofs.laws.plans_fit_their_domains.Goals as goal
use Rattle.conjure_laws.proofs.DefaultsFit.{default-fits}
use Rattle.conjure_laws.proofs.ChosenFit.{options-choose, options-fit}
use Rattle.conjure_laws.proofs.FittingPlans.{plans-fit, well-kept, well-typed-plans, plain-plans, plain-typed}
use Rattle.conjure_laws.proofs.JudgedDistinct.{kept-distinct, finds-distinct}

pub returns : goal.returns
returns c = record {
  defaults = default-fits;
  chosen = options-choose;
  options = options-fit;
  plans_fit = plans-fit;
  well_typed = well-typed-plans;
  plain = plain-plans;
  distinct = λ S e. (kept-distinct S e, finds-distinct S e);
  well_kept = well-kept;
  plain_typed = plain-typed;
}
