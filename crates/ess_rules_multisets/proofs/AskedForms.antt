-- Terms by their operands.
use Rattle.std.proofs.Common.{◌≡◌, refl, false}
use Rattle.ess_semantics.specs.declared.words.Op1.{Op1}
use Rattle.ess_semantics.specs.declared.words.Fun.{Fun}
use Rattle.ess_semantics.specs.Trees.{unary, word, Exs, node_ex, no_exs, more_exs}
use Rattle.ess_rules_forms.specs.Forms.{only_operand, both_operands}
use Rattle.ess_rules_multisets.specs.Asked.{a_size, a_frequency}

-- A size.
pub size_of_only : (es : Exs) → only_operand es ≡ a_size (node_ex false (unary Op1.Bar) es)
size_of_only (more_exs v no_exs) = refl
size_of_only es = refl

-- A frequency.
pub frequency_of_both : (es : Exs) → both_operands es ≡ a_frequency (node_ex false (word Fun.Freq) es)
frequency_of_both (more_exs v (more_exs a no_exs)) = refl
frequency_of_both es = refl
