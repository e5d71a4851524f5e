use Rattle.ess_named_flat_laws.proofs.TestedTrees.{sort-tested}
use Rattle.ess_named_flat_laws.proofs.ShownTrees.{told-named, named-means, named-flat}
use Rattle.ess_named_flat_laws.proofs.laws.named_flat_trees_stand.Goals as goal

pub returns : goal.returns
returns c = record {
  tested = λ names e m q. sort-tested names e m q;
  unbound = λ names e m f k. told-named names f k;
  means = λ names sh env there h e m f. named-means names sh env there h f;
  flat = λ names cells sh s e m f. named-flat names cells sh s f;
}
