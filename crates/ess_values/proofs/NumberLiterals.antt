-- Literals of numbers: what they mean, and how they are told from other expressions.
use Rattle.std.proofs.Common.{◌≡◌, refl, sym, ap, ◌∙◌, subst, false, List, Option, Some, None, option_map, pos, ℤ}
use Rattle.std.specs.Prelude.{is_some}
use lib.IntN.{negsuc}
use Rattle.ess_semantics.specs.declared.words.Op1.{Op1}
use Rattle.ess_semantics.specs.Values.{number}
use Rattle.ess_semantics.specs.Trees as pure
use Rattle.ess_semantics.specs.Trees.{Ends, one_value, both_ends, low_end, high_end, unary, binary, word, index, application, tuple_literal, set_literal, mset_literal, function_literal, relation_literal, partition_literal, matrix_literal, record_literal, number_ex, truth_ex, name_ex, node_ex, matrix_ex, comp_ex, cell_ex, seen_ex, no_exs, more_exs, Exs, ex1, is_truth_op1, int_dom}
use Rattle.ess_semantics.specs.Meaning.{Env, meaning}
use Rattle.ess_semantics.specs.Literals.{is_number_literal}
use Rattle.ess_core.specs.declared.domains.Dom.{Dom}
use Rattle.ess_core.specs.declared.domains.FieldDom.{FieldDom}
use Rattle.ess_core.specs.declared.domains.Range.{Range}
use Rattle.ess_core.specs.declared.domains.Attr.{Attr}
use Rattle.ess_core.specs.declared.expressions.Ex.{Ex}
use Rattle.ess_core.specs.declared.expressions.Step.{Step}
use Rattle.ess_core.specs.declared.expressions.FieldEx.{FieldEx}
use Rattle.ess_core.specs.declared.expressions.PairEx.{PairEx}
use Rattle.ess_core.specs.declared.expressions.Gen.{Gen}
use Rattle.ess_core.specs.declared.expressions.View.{View}
use Rattle.ess_core.specs.declared.domains.Dom.TheOpen.{Ex-F}
use Rattle.ess_core.specs.declared.domains.Dom.TheViews.{out-Ex, roll-Ex, roll-out-Ex}
use Rattle.ess_core.specs.declared.expressions.Ex.TheVariants as variant
use Rattle.ess_core.specs.TreeViews.{pure_ex}
use Rattle.ess_core.proofs.PartEquations.{pure_view_is}
use Rattle.ess_core.proofs.ExpressionEquations.{pure_num, pure_truth, pure_name, pure_one, pure_two, pure_call, pure_at, pure_apply, pure_tuple, pure_rec, pure_set, pure_mset, pure_function, pure_relation, pure_partition, pure_plain_matrix, pure_matrix_on, pure_comp, pure_cell, pure_seen}
use Rattle.ess_values.specs.TypedLiterals.{literal_number}

-- ---- a literal of a number means that number

-- Where the expression is a literal of a number, it means that number.
pub record Means (e : pure.Ex) : Type 0 where
  pub meant : (n : ℤ) (env : Env) → literal_number e ≡ Some n → meaning e env ≡ Some (number n)

means_none : (e : pure.Ex) → literal_number e ≡ None → Means e
means_none e z = record { meant = λ n env h. cc }

means_num : (k : ℤ) → Means (number_ex k)
means_num (pos k) = record { meant = λ n env h. ap (option_map number) h }
means_num (negsuc k) = means_none _ refl

means_minus : (e : pure.Ex) → Means (ex1 false Op1.Minus e)
means_minus (number_ex (pos k)) = record { meant = λ n env h. ap (option_map number) h }
means_minus (number_ex (negsuc k)) = means_none _ refl
means_minus (truth_ex b) = means_none _ refl
means_minus (name_ex a) = means_none _ refl
means_minus (node_ex b op es) = means_none _ refl
means_minus (matrix_ex es d) = means_none _ refl
means_minus (comp_ex e gs) = means_none _ refl
means_minus (cell_ex b a es) = means_none _ refl
means_minus (seen_ex r d ns es) = means_none _ refl

means_one : (o : Op1) (e : pure.Ex) → Means (ex1 (is_truth_op1 o) o e)
means_one Op1.Minus e = means_minus e
means_one Op1.Not e = means_none _ refl
means_one Op1.Bar e = means_none _ refl

means_matrix : (es : List Ex) (d : Option Dom) → Means (pure_ex (variant.Matrix es d))
means_matrix es None = subst Means (sym (pure_plain_matrix es)) (means_none _ refl)
means_matrix es (Some d) = subst Means (sym (pure_matrix_on es d)) (means_none _ refl)

means_at : (l : Ex-F Dom Range Ex Gen Step Attr FieldDom FieldEx PairEx View) → Means (pure_ex (roll-Ex l))
means_at (Ex-F.Num n) = subst (λ x. Means (pure_ex x)) (sym (variant.rolls-Num n)) (subst Means (sym (pure_num n)) (means_num n))
means_at (Ex-F.Truth b) = subst (λ x. Means (pure_ex x)) (sym (variant.rolls-Truth b)) (subst Means (sym (pure_truth b)) (means_none _ refl))
means_at (Ex-F.Ex::Name a) = subst (λ x. Means (pure_ex x)) (sym (variant.rolls-Name a)) (subst Means (sym (pure_name a)) (means_none _ refl))
means_at (Ex-F.Ex::One o a) = subst (λ x. Means (pure_ex x)) (sym (variant.rolls-One o a)) (subst Means (sym (pure_one o a)) (means_one o (pure_ex a)))
means_at (Ex-F.Two o a b) = subst (λ x. Means (pure_ex x)) (sym (variant.rolls-Two o a b)) (subst Means (sym (pure_two o a b)) (means_none _ refl))
means_at (Ex-F.Call b f es) = subst (λ x. Means (pure_ex x)) (sym (variant.rolls-Call b f es)) (subst Means (sym (pure_call b f es)) (means_none _ refl))
means_at (Ex-F.At b e ss) = subst (λ x. Means (pure_ex x)) (sym (variant.rolls-At b e ss)) (subst Means (sym (pure_at b e ss)) (means_none _ refl))
means_at (Ex-F.Apply b f es) = subst (λ x. Means (pure_ex x)) (sym (variant.rolls-Apply b f es)) (subst Means (sym (pure_apply b f es)) (means_none _ refl))
means_at (Ex-F.Ex::Tuple es) = subst (λ x. Means (pure_ex x)) (sym (variant.rolls-Tuple es)) (subst Means (sym (pure_tuple es)) (means_none _ refl))
means_at (Ex-F.Ex::Rec fs) = subst (λ x. Means (pure_ex x)) (sym (variant.rolls-Rec fs)) (subst Means (sym (pure_rec fs)) (means_none _ refl))
means_at (Ex-F.Ex::Set es) = subst (λ x. Means (pure_ex x)) (sym (variant.rolls-Set es)) (subst Means (sym (pure_set es)) (means_none _ refl))
means_at (Ex-F.Ex::MSet es) = subst (λ x. Means (pure_ex x)) (sym (variant.rolls-MSet es)) (subst Means (sym (pure_mset es)) (means_none _ refl))
means_at (Ex-F.Ex::Function ps) = subst (λ x. Means (pure_ex x)) (sym (variant.rolls-Function ps)) (subst Means (sym (pure_function ps)) (means_none _ refl))
means_at (Ex-F.Ex::Relation es) = subst (λ x. Means (pure_ex x)) (sym (variant.rolls-Relation es)) (subst Means (sym (pure_relation es)) (means_none _ refl))
means_at (Ex-F.Ex::Partition es) = subst (λ x. Means (pure_ex x)) (sym (variant.rolls-Partition es)) (subst Means (sym (pure_partition es)) (means_none _ refl))
means_at (Ex-F.Ex::Matrix es d) = subst (λ x. Means (pure_ex x)) (sym (variant.rolls-Matrix es d)) (means_matrix es d)
means_at (Ex-F.Comp e gs) = subst (λ x. Means (pure_ex x)) (sym (variant.rolls-Comp e gs)) (subst Means (sym (pure_comp e gs)) (means_none _ refl))
means_at (Ex-F.Cell b a es) = subst (λ x. Means (pure_ex x)) (sym (variant.rolls-Cell b a es)) (subst Means (sym (pure_cell b a es)) (means_none _ refl))
means_at (Ex-F.Seen v) = subst (λ x. Means (pure_ex x)) (sym (variant.rolls-Seen v)) (subst Means (sym (pure_seen v ∙ pure_view_is v)) (means_none _ refl))

pub means : (x : Ex) → Means (pure_ex x)
means x = subst (λ y. Means (pure_ex y)) (roll-out-Ex x) (means_at (out-Ex x))

-- ---- a literal of a number by its test

pub number_tests : (e : pure.Ex) → is_number_literal e ≡ is_some (literal_number e)
number_tests (number_ex (pos n)) = refl
number_tests (number_ex (negsuc n)) = refl
number_tests (truth_ex b) = refl
number_tests (name_ex a) = refl
number_tests (node_ex b (unary Op1.Minus) no_exs) = refl
number_tests (node_ex b (unary Op1.Minus) (more_exs (number_ex (pos n)) no_exs)) = refl
number_tests (node_ex b (unary Op1.Minus) (more_exs (number_ex (pos n)) (more_exs e es))) = refl
number_tests (node_ex b (unary Op1.Minus) (more_exs (number_ex (negsuc n)) es)) = refl
number_tests (node_ex b (unary Op1.Minus) (more_exs (truth_ex c) es)) = refl
number_tests (node_ex b (unary Op1.Minus) (more_exs (name_ex a) es)) = refl
number_tests (node_ex b (unary Op1.Minus) (more_exs (node_ex c op fs) es)) = refl
number_tests (node_ex b (unary Op1.Minus) (more_exs (matrix_ex fs d) es)) = refl
number_tests (node_ex b (unary Op1.Minus) (more_exs (comp_ex e gs) es)) = refl
number_tests (node_ex b (unary Op1.Minus) (more_exs (cell_ex c a fs) es)) = refl
number_tests (node_ex b (unary Op1.Minus) (more_exs (seen_ex r d ns fs) es)) = refl
number_tests (node_ex b (unary Op1.Not) es) = refl
number_tests (node_ex b (unary Op1.Bar) es) = refl
number_tests (node_ex b (binary o) es) = refl
number_tests (node_ex b (word f) es) = refl
number_tests (node_ex b (index qs) es) = refl
number_tests (node_ex b application es) = refl
number_tests (node_ex b tuple_literal es) = refl
number_tests (node_ex b set_literal es) = refl
number_tests (node_ex b mset_literal es) = refl
number_tests (node_ex b function_literal es) = refl
number_tests (node_ex b relation_literal es) = refl
number_tests (node_ex b partition_literal es) = refl
number_tests (node_ex b matrix_literal es) = refl
number_tests (node_ex b (record_literal fs) es) = refl
number_tests (matrix_ex es d) = refl
number_tests (comp_ex e gs) = refl
number_tests (cell_ex b a es) = refl
number_tests (seen_ex r d ns es) = refl
