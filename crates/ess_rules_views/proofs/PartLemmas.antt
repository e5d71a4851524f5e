-- The forms of views, from their parts.
use Rattle.std.proofs.Common.{◌≡◌, refl, Bool, false, option_map}
use Rattle.ess_semantics.specs.declared.words.Op1.{Op1}
use Rattle.ess_semantics.specs.declared.words.Fun.{Fun}
use Rattle.ess_semantics.specs.Trees.{unary, word, application, Exs, node_ex, no_exs, more_exs}
use Rattle.ess_rules_forms.specs.Forms.{only_operand, both_operands}
use Rattle.ess_rules_views.specs.ViewForms.{a_size, applied}

-- A size has the only operand.
pub size_of_only : (es : Exs) → a_size (node_ex false (unary Op1.Bar) es) ≡ only_operand es
size_of_only (more_exs a no_exs) = refl
size_of_only es = refl

-- An application has its two operands, and so has `image`.
pub application_of_both : (b : Bool) (es : Exs) → applied (node_ex b application es) ≡ option_map (λ p. (b, p)) (both_operands es)
application_of_both b (more_exs f (more_exs a no_exs)) = refl
application_of_both b es = refl

pub image_of_both : (b : Bool) (es : Exs) → applied (node_ex b (word Fun.Image) es) ≡ option_map (λ p. (b, p)) (both_operands es)
image_of_both b (more_exs f (more_exs a no_exs)) = refl
image_of_both b es = refl
