-- Worked examples: the parts of trees that have a form, and nothing of others.
use Rattle.std.proofs.Common.{◌≡◌, refl, true, false, [], ◌∷◌, pos, Some, None}
use Rattle.ess_semantics.specs.declared.words.Op1.{Op1}
use Rattle.ess_semantics.specs.declared.words.Op2.{Op2}
use Rattle.ess_semantics.specs.declared.words.Fun.{Fun}
use Rattle.ess_semantics.specs.Values.{Text}
use Rattle.ess_semantics.specs.Trees.{binary, word, matrix_literal, set_literal, Ex, number_ex, name_ex, node_ex, ex1, ex2, fun1}
use Rattle.ess_semantics.specs.Trees.{no_exs, more_exs}
use Rattle.ess_rules_forms.specs.Forms.{only_operand, both_operands, truth_pair, plain_pair, plain_word, is_nothing, of_pair}

abbrev pub a : Ex
a = name_ex (97 ∷ [])

abbrev pub b : Ex
b = name_ex (98 ∷ [])

-- `a = b` has two operands; `a + b` isn't Boolean, and `-a` has one operand.
pub comparison : truth_pair (ex2 true Op2.Eq a b) ≡ Some (Op2.Eq, (a, b))
comparison = refl

pub sum : truth_pair (ex2 false Op2.Plus a b) ≡ None
sum = refl

pub plain_sum : plain_pair (ex2 false Op2.Plus a b) ≡ Some (Op2.Plus, (a, b))
plain_sum = refl

pub one_operand : truth_pair (node_ex true (binary Op2.Eq) (more_exs a no_exs)) ≡ None
one_operand = refl

pub three_operands : both_operands (more_exs a (more_exs b (more_exs a no_exs))) ≡ None
three_operands = refl

-- `range(a)` has one operand, `freq(a, b)` two.
pub one_word : plain_word (fun1 false Fun.Range a) ≡ Some (Fun.Range, a)
one_word = refl

pub two_operands : plain_word (node_ex false (word Fun.Freq) (more_exs a (more_exs b no_exs))) ≡ None
two_operands = refl

-- `[]` is the list of no items; `[a]` and `{}` are not.
pub empty_list : is_nothing (node_ex false matrix_literal no_exs) ≡ true
empty_list = refl

pub list_of_one : is_nothing (node_ex false matrix_literal (more_exs a no_exs)) ≡ false
list_of_one = refl

pub empty_set : is_nothing (node_ex false set_literal no_exs) ≡ false
empty_set = refl
