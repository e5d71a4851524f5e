-- What an expression stands for, by what the trees in it are.
use Rattle.std.proofs.Common.{◌≡◌, sym, ap, ◌∙◌, Bool, List, map, Option, Some}
use Rattle.ess_semantics.specs.declared.words.Op2.{Op2}
use Rattle.ess_semantics.specs.Trees.{ex2, is_truth_op2, node_ex, index, application, more_exs, matrix_ex, comp_ex}
use Rattle.ess_core.specs.TreeViews.{pure_ex, pure_exs, pure_dom, pure_gens, pure_step, words_of, within, exs_of}
use Rattle.ess_core.specs.declared.expressions.Ex.{Ex}
use Rattle.ess_core.specs.declared.expressions.Gen.{Gen}
use Rattle.ess_core.specs.declared.expressions.Step.{Step}
use Rattle.ess_core.specs.declared.domains.Dom.{Dom}
use Rattle.ess_core.specs.declared.expressions.Ex.TheVariants as ex
use Rattle.ess_core.proofs.ExpressionEquations.{pure_two, pure_at, pure_apply, pure_matrix_on, pure_comp}

-- An operator on two operands.
pub viewed_two : (x a b d e : Ex) (o : Op2) → x ≡ ex.Two o a b → d ≡ a → e ≡ b → pure_ex x ≡ ex2 (is_truth_op2 o) o (pure_ex d) (pure_ex e)
viewed_two x a b d e o p q r =
    ap pure_ex p ∙ pure_two o a b ∙ ap (λ y. ex2 (is_truth_op2 o) o (pure_ex y) (pure_ex b)) (sym q)
    ∙ ap (λ y. ex2 (is_truth_op2 o) o (pure_ex d) (pure_ex y)) (sym r)

-- An index.
pub viewed_at : (x a d : Ex) (m : Bool) (ss ts : List Step) → x ≡ ex.At m a ss → d ≡ a → ts ≡ ss →
    pure_ex x ≡ node_ex m (index (words_of (map pure_step ts))) (more_exs (pure_ex d) (exs_of (within (map pure_step ts))))
viewed_at x a d m ss ts p q r =
    ap pure_ex p ∙ pure_at m a ss ∙ ap (λ y. node_ex m (index (words_of (map pure_step ss)))
    (more_exs (pure_ex y) (exs_of (within (map pure_step ss))))) (sym q)
    ∙ ap (λ l. node_ex m (index (words_of (map pure_step l))) (more_exs (pure_ex d) (exs_of (within (map pure_step l))))) (sym r)

-- An application.
pub viewed_apply : (x a d : Ex) (m : Bool) (es fs : List Ex) → x ≡ ex.Apply m a es → d ≡ a → fs ≡ es →
    pure_ex x ≡ node_ex m application (more_exs (pure_ex d) (pure_exs fs))
viewed_apply x a d m es fs p q r =
    ap pure_ex p ∙ pure_apply m a es ∙ ap (λ y. node_ex m application (more_exs (pure_ex y) (pure_exs es))) (sym q)
    ∙ ap (λ l. node_ex m application (more_exs (pure_ex d) (pure_exs l))) (sym r)

-- A matrix literal with its index domain.
pub viewed_matrix : (x : Ex) (es fs : List Ex) (o : Option Dom) (c d : Dom) → x ≡ ex.Matrix es o → o ≡ Some c → fs ≡ es → d ≡ c →
    pure_ex x ≡ matrix_ex (pure_exs fs) (pure_dom d)
viewed_matrix x es fs o c d p n q r =
    ap pure_ex (p ∙ ap (λ z. ex.Matrix es z) n) ∙ pure_matrix_on es c ∙ ap (λ l. matrix_ex (pure_exs l) (pure_dom c)) (sym q)
    ∙ ap (λ z. matrix_ex (pure_exs fs) (pure_dom z)) (sym r)

-- A comprehension.
pub viewed_comp : (x a d : Ex) (gs hs : List Gen) → x ≡ ex.Comp a gs → d ≡ a → hs ≡ gs → pure_ex x ≡ comp_ex (pure_ex d) (pure_gens hs)
viewed_comp x a d gs hs p q r =
    ap pure_ex p ∙ pure_comp a gs ∙ ap (λ y. comp_ex (pure_ex y) (pure_gens gs)) (sym q)
    ∙ ap (λ l. comp_ex (pure_ex d) (pure_gens l)) (sym r)
