-- What is said of a model that a file holds is said of the model.
use Rattle.std.proofs.Common.{◌≡◌, subst, true}
use Rattle.std.specs.declared.result.Result.{Result}
use Rattle.ess_semantics.specs.Values.{Text}
use Rattle.ess_semantics.specs.Names.{Names}
use Rattle.ess_semantics.specs.Tables.{Table}
use Rattle.ess_semantics.specs.LargeModels.{model_is_large}
use Rattle.ess_core.specs.declared.tables.Cells.{Cells}
use Rattle.eprime_tree.specs.declared.models.PModel.{PModel}
use Rattle.eprime_tree.specs.Views.{pure_model}
use Rattle.eprime_read_cells.specs.declared.cells.CellsNo.{CellsNo}
use Rattle.eprime_read_cells.specs.CellAnswers.{IsFitted}

-- What a text of cells is for the finds of one model beside the givens of another.
abbrev FittedAt : PModel → PModel → Cells → Text → Result Cells CellsNo → Type 0
FittedAt k l q text r = IsFitted l.givens q k.finds text r

-- Both are one.
pub fitted_here : (m k l : PModel) (q : Cells) (text : Text) (r : Result Cells CellsNo) → k ≡ m → l ≡ m → FittedAt k l q text r →
    FittedAt m m q text r
fitted_here m k l q text r a b f = subst (λ n. FittedAt m n q text r) b (subst (λ n. FittedAt n l q text r) a f)

-- A number outside 64 bits over the tables of a model.
pub large_here : (m k : PModel) (q c : Names Table) → k ≡ m → model_is_large (pure_model k) q c ≡ true →
    model_is_large (pure_model m) q c ≡ true
large_here m k q c e h = subst (λ n. model_is_large (pure_model n) q c ≡ true) e h
