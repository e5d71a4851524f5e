-- What it is that two models are one.
use Rattle.std.specs.Prelude.{◌≡◌}
use Rattle.eprime_tree.specs.declared.models.PModel.{PModel}
use Rattle.eprime_tree.specs.Views.{pure_model}

-- The lines of their headers are the same, and so is the model that each stands for.
pub record AreOneModel (m n : PModel) : Type 0 where
  pub head : m.head ≡ n.head
  pub model : pure_model m ≡ pure_model n
