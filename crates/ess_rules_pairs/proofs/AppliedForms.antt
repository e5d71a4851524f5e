-- Applications by their operands.
use Rattle.std.proofs.Common.{◌≡◌, refl, Bool}
use Rattle.ess_semantics.specs.declared.words.Fun.{Fun}
use Rattle.ess_semantics.specs.Trees.{word, application, Exs, node_ex, no_exs, more_exs}
use Rattle.ess_rules_forms.specs.Forms.{both_operands}
use Rattle.ess_rules_pairs.specs.Applications.{applied}

-- An application has its two operands.
pub application_of_both : (b : Bool) (es : Exs) → both_operands es ≡ applied (node_ex b application es)
application_of_both b (more_exs f (more_exs a no_exs)) = refl
application_of_both b es = refl

-- So has `image`.
pub image_of_both : (b : Bool) (es : Exs) → both_operands es ≡ applied (node_ex b (word Fun.Image) es)
image_of_both b (more_exs f (more_exs a no_exs)) = refl
image_of_both b es = refl
