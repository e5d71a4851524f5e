-- What operators on values that are kept as another value ask, by their operands.
use Rattle.std.proofs.Common.{◌≡◌, refl, true, false, Some}
use Rattle.ess_semantics.specs.declared.words.Op1.{Op1}
use Rattle.ess_semantics.specs.declared.words.Op2.{Op2}
use Rattle.ess_semantics.specs.declared.words.Fun.{Fun}
use Rattle.ess_semantics.specs.Lists.{and_then}
use Rattle.ess_semantics.specs.Trees.{unary, binary, Ex, Exs, node_ex, ex1, ex2, fun1, no_exs, more_exs}
use Rattle.ess_rules_forms.specs.Forms.{only_operand, both_operands, plain_word}
use Rattle.ess_views_laws.specs.ChildViews.{kept_as, asked_of_child}
use Rattle.ess_rules_children.specs.Kept.{behind_relation, behind_relation_word, behind_parts, behind_parts_word}

-- ---- by the operands

pub member_by_operands : (es : Exs)
    → asked_of_child (node_ex true (binary Op2.Member) es) ≡ and_then (both_operands es) (λ p. asked_of_child (ex2 true Op2.Member p.0 p.1))
member_by_operands (more_exs a (more_exs (fun1 false Fun.ToRelation v) (more_exs u us))) = refl
member_by_operands (more_exs a (more_exs v no_exs)) = refl
member_by_operands no_exs = refl
member_by_operands (more_exs a no_exs) = refl
member_by_operands (more_exs a (more_exs v (more_exs u us))) = refl

pub size_by_operand : (es : Exs)
    → asked_of_child (node_ex false (unary Op1.Bar) es) ≡ and_then (only_operand es) (λ v. asked_of_child (ex1 false Op1.Bar v))
size_by_operand (more_exs (fun1 false Fun.Parts v) (more_exs u us)) = refl
size_by_operand (more_exs v no_exs) = refl
size_by_operand no_exs = refl
size_by_operand (more_exs v (more_exs u us)) = refl

-- ---- by the child

pub member_by_child : (a v : Ex)
    → asked_of_child (ex2 true Op2.Member a v) ≡ and_then (kept_as (behind_relation v)) (λ c. Some (ex2 true Op2.Member a c))
member_by_child a (fun1 false Fun.ToRelation v) = refl
member_by_child a v = refl

pub size_by_child : (v : Ex)
    → asked_of_child (ex1 false Op1.Bar v) ≡ and_then (kept_as (behind_parts v)) (λ c. Some (ex1 false Op1.Bar c))
size_by_child (fun1 false Fun.Parts v) = refl
size_by_child v = refl

-- ---- behind a word

pub relation_by_word : (e : Ex) → behind_relation e ≡ behind_relation_word e (plain_word e)
relation_by_word (fun1 false Fun.ToRelation v) = refl
relation_by_word (fun1 false f v) = refl
relation_by_word e = refl

pub parts_by_word : (e : Ex) → behind_parts e ≡ behind_parts_word e (plain_word e)
parts_by_word (fun1 false Fun.Parts v) = refl
parts_by_word (fun1 false f v) = refl
parts_by_word e = refl
