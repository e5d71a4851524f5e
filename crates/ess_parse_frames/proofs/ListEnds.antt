-- The expressions of a list that ends.
use Rattle.std.proofs.Common.{◌≡◌, sym, ap, ◌∙◌, List}
use Rattle.ess_semantics.specs.Trees as pure
use Rattle.ess_semantics.specs.Trees.{no_exs, more_exs}
use Rattle.ess_parse_laws.specs.Reversed.{reverse_exs}
use Rattle.ess_core.specs.TreeViews.{pure_exs}
use Rattle.ess_core.specs.declared.expressions.Ex.{Ex}
use Rattle.ess_parse_frames.specs.Rows.{back_exs}
use Rattle.ess_parse_frames.proofs.RowLaws.{exs_closed}

-- the row of all expressions, the last of which is known
pub exs_with : (es : List Ex) (e : pure.Ex) (xs before : pure.Exs) → back_exs es before ≡ more_exs e xs → reverse_exs xs (more_exs e no_exs) ≡ reverse_exs before (pure_exs es)
exs_with es e xs before h = sym (ap (λ z. reverse_exs z no_exs) h) ∙ exs_closed es before
