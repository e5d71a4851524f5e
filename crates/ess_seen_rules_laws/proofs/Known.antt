-- What is known of the types of trees over views.
use Rattle.ess_seen_laws.specs.Laws.{SeenTreesHaveTypes}
use Rattle.ess_seen_laws.proofs.Types.{seen-type, set-type, items-type, going-under, going-behind}

-- Their types.
pub types : SeenTreesHaveTypes
types = record {
  of_scalars = λ cells r e m f. seen-type cells f;
  of_sets = λ cells r e k s. set-type cells s;
  of_lists = λ cells r e m i. items-type cells i;
  under = λ cells r t gs g. going-under cells g;
  behind = λ cells r t gs g. going-behind cells g;
}
