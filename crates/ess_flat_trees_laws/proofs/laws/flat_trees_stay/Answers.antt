use Rattle.ess_flat_trees_laws.proofs.FlatTrees.{told-flat, shown-flat, guarded-flat, has-value-flat, keyed-flat, printed-flat}
use Rattle.std.proofs.Common.{true, false, []}
use Rattle.ess_flat_trees_laws.proofs.laws.flat_trees_stay.Goals as goal

pub returns : goal.returns
returns c = record {
  told_apart = λ names e m k f. told-flat names f k;
  shows = λ Ps sh g e m f. shown-flat Ps sh g f;
  natural = λ cells x y e m f. guarded-flat cells x y true f [];
  total = λ cells x y e m f. guarded-flat cells x y false f [];
  sure = λ cells x y e m f. has-value-flat cells x y f;
  keys = λ cells e m f. keyed-flat cells f;
  prints = λ cells taken e m f. printed-flat cells taken f;
}
