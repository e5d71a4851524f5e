use Rattle.conjure_laws.proofs.laws.models_follow_from_layers.Goals as goal
use Rattle.conjure_laws.proofs.Reduction.{models, exact}

pub returns : goal.returns
returns c = record { models = λ S o H E L t. models S o E L H t; exact = λ S o E L. exact S o E L }
