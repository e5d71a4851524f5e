-- The forms that several rules share, from their operands.
use Rattle.std.proofs.Common.{◌≡◌, refl, true, false, Option, option_map}
use Rattle.ess_semantics.specs.declared.words.Op2.{Op2}
use Rattle.ess_semantics.specs.declared.words.Fun.{Fun}
use Rattle.ess_semantics.specs.Trees.{binary, word, Ex, Exs, node_ex, no_exs, more_exs}
use Rattle.ess_rules_forms.specs.Forms.{only_operand, both_operands, truth_pair, plain_pair, plain_word}

-- A Boolean operator between two operands has those of its operands that are the only two.
pub truth_pair_of : (o : Op2) (es : Exs) → truth_pair (node_ex true (binary o) es) ≡ option_map (λ p. (o, p)) (both_operands es)
truth_pair_of o (more_exs a (more_exs b no_exs)) = refl
truth_pair_of o es = refl

-- So has one that isn't Boolean.
pub plain_pair_of : (o : Op2) (es : Exs) → plain_pair (node_ex false (binary o) es) ≡ option_map (λ p. (o, p)) (both_operands es)
plain_pair_of o (more_exs a (more_exs b no_exs)) = refl
plain_pair_of o es = refl

-- A function word has the only one of its operands.
pub plain_word_of : (f : Fun) (es : Exs) → plain_word (node_ex false (word f) es) ≡ option_map (λ a. (f, a)) (only_operand es)
plain_word_of f (more_exs a no_exs) = refl
plain_word_of f es = refl
