-- Terms by their operands.
use Rattle.std.proofs.Common.{◌≡◌, refl, true, false}
use Rattle.ess_semantics.specs.declared.words.Op1.{Op1}
use Rattle.ess_semantics.specs.declared.words.Fun.{Fun}
use Rattle.ess_semantics.specs.Trees.{unary, word, Exs, node_ex, no_exs, more_exs}
use Rattle.ess_rules_forms.specs.Forms.{only_operand, both_operands}
use Rattle.ess_rules_partitions.specs.Asked.{a_party, a_size, the_parts, the_participants, a_together}

-- A party.
pub party_of_both : (es : Exs) → both_operands es ≡ a_party (node_ex false (word Fun.Party) es)
party_of_both (more_exs a (more_exs v no_exs)) = refl
party_of_both es = refl

-- A size.
pub size_of_only : (es : Exs) → only_operand es ≡ a_size (node_ex false (unary Op1.Bar) es)
size_of_only (more_exs s no_exs) = refl
size_of_only es = refl

-- Parts.
pub parts_of_only : (es : Exs) → only_operand es ≡ the_parts (node_ex false (word Fun.Parts) es)
parts_of_only (more_exs v no_exs) = refl
parts_of_only es = refl

-- Participants.
pub participants_of_only : (es : Exs) → only_operand es ≡ the_participants (node_ex false (word Fun.Participants) es)
participants_of_only (more_exs v no_exs) = refl
participants_of_only es = refl

-- That members lie together.
pub together_of_both : (es : Exs) → both_operands es ≡ a_together (node_ex true (word Fun.Together) es)
together_of_both (more_exs s (more_exs v no_exs)) = refl
together_of_both es = refl
