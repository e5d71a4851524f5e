use Rattle.conjure_laws.proofs.laws.rules_follow_from_chains.Goals as goal
use Rattle.conjure_laws.proofs.Views.{view-kept}
use Rattle.conjure_laws.proofs.NumericTrees.{positions-keep, flat-keep}
use Rattle.conjure_laws.proofs.Chains.{kept-at-tables, rule-from-chain, structure-from-chain}

pub returns : goal.returns
returns c = record {
  views = view-kept;
  kept = kept-at-tables;
  numeric = positions-keep;
  flat = flat-keep;
  rules = rule-from-chain;
  structures = structure-from-chain;
}
