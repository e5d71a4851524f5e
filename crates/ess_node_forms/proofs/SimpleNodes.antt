-- Tests of operands, one by one, and what the form says of an operator's node.
use Rattle.std.proofs.Common.{◌≡◌, refl, sym, ap, ◌∙◌, ℕ, ◌+◌, ◌<◌, ◌≤◌, Bool, true, false, not, ◌&&◌, ◌||◌, List, [], ◌∷◌, length, drop, get_or}
use Rattle.std.specs.Prelude.{is_some}
use Rattle.std.proofs.lemmas.List.{at_drop_more, at_drop_all}
use Rattle.ess_semantics.specs.declared.words.Op1.{Op1}
use Rattle.ess_semantics.specs.Trees.{Op, unary, binary, word, index, application, tuple_literal, set_literal, mset_literal, function_literal, relation_literal, partition_literal, matrix_literal, record_literal, Ex, Exs, node_ex}
use Rattle.ess_semantics.specs.Operators.{connective}
use Rattle.ess_semantics.specs.Simplified.{is_truth_value, is_negation, each_operand, is_simple_node}
use Rattle.ess_core_nodes.specs.NodeViews.{pure_node, pure_nodes}
use Rattle.ess_core_nodes.specs.declared.nodes.Node.{Node}
use Rattle.ess_node_forms.specs.RangedDomains.{is_denial}

-- A node is a `!` where its operator is.
pub negation_by : (b : Bool) (op : Op) (es : Exs) → is_negation (node_ex b op es) ≡ is_denial op
negation_by b (unary Op1.Not) es = refl
negation_by b (unary Op1.Minus) es = refl
negation_by b (unary Op1.Bar) es = refl
negation_by b (binary o) es = refl
negation_by b (word f) es = refl
negation_by b (index qs) es = refl
negation_by b application es = refl
negation_by b tuple_literal es = refl
negation_by b set_literal es = refl
negation_by b mset_literal es = refl
negation_by b function_literal es = refl
negation_by b relation_literal es = refl
negation_by b partition_literal es = refl
negation_by b matrix_literal es = refl
negation_by b (record_literal fs) es = refl

pub simple_by : (b : Bool) (op : Op) (es : Exs) → is_simple_node (node_ex b op es)
    ≡ ((not (is_some (connective op)) || each_operand (λ e. not (is_truth_value e)) es)
    && (not (is_denial op) || each_operand (λ e. not (is_negation e)) es))
simple_by b op es =
    ap (λ x. (not (is_some (connective op)) || each_operand (λ e. not (is_truth_value e)) es)
    && (not x || each_operand (λ e. not (is_negation e)) es))
    (negation_by b op es)

module _ (f : Ex → Bool) where
  left : (xs : List Node) (i : ℕ) (x : Node) → i < length xs → x ≡ get_or xs i x
      → each_operand f (pure_nodes (drop i xs)) ≡ (f (pure_node x) && each_operand f (pure_nodes (drop (i + 1) xs)))
  left xs i x h is =
      at_drop_more (λ l. each_operand f (pure_nodes l)) xs i x h
      ∙ ap (λ y. f (pure_node y) && each_operand f (pure_nodes (drop (i + 1) xs))) (sym is)

  more : (xs : List Node) (i : ℕ) (x : Node) → i < length xs → x ≡ get_or xs i x → f (pure_node x) ≡ true
      → each_operand f (pure_nodes (drop i xs)) ≡ each_operand f (pure_nodes (drop (i + 1) xs))
  more xs i x h is e = left xs i x h is ∙ ap (λ b. b && each_operand f (pure_nodes (drop (i + 1) xs))) e

  stop : (xs : List Node) (i : ℕ) (x : Node) → i < length xs → x ≡ get_or xs i x → f (pure_node x) ≡ false
      → each_operand f (pure_nodes (drop i xs)) ≡ false
  stop xs i x h is e = left xs i x h is ∙ ap (λ b. b && each_operand f (pure_nodes (drop (i + 1) xs))) e

  end : (xs : List Node) (i : ℕ) → length xs ≤ i → each_operand f (pure_nodes (drop i xs)) ≡ true
  end xs i h = at_drop_all (λ l. each_operand f (pure_nodes l)) xs i h

pub truths_more : (xs : List Node) (i : ℕ) (x : Node) → i < length xs → x ≡ get_or xs i x → is_truth_value (pure_node x) ≡ false
    → each_operand (λ e. not (is_truth_value e)) (pure_nodes (drop i xs))
    ≡ each_operand (λ e. not (is_truth_value e)) (pure_nodes (drop (i + 1) xs))
truths_more xs i x h is e = more (λ e. not (is_truth_value e)) xs i x h is (ap not e)

pub truths_stop : (xs : List Node) (i : ℕ) (x : Node) → i < length xs → x ≡ get_or xs i x → is_truth_value (pure_node x) ≡ true
    → each_operand (λ e. not (is_truth_value e)) (pure_nodes (drop i xs)) ≡ false
truths_stop xs i x h is e = stop (λ e. not (is_truth_value e)) xs i x h is (ap not e)

pub truths_end : (xs : List Node) (i : ℕ) → length xs ≤ i → each_operand (λ e. not (is_truth_value e)) (pure_nodes (drop i xs)) ≡ true
truths_end = end (λ e. not (is_truth_value e))

pub negations_more : (xs : List Node) (i : ℕ) (x : Node) → i < length xs → x ≡ get_or xs i x → is_negation (pure_node x) ≡ false
    → each_operand (λ e. not (is_negation e)) (pure_nodes (drop i xs))
    ≡ each_operand (λ e. not (is_negation e)) (pure_nodes (drop (i + 1) xs))
negations_more xs i x h is e = more (λ e. not (is_negation e)) xs i x h is (ap not e)

pub negations_stop : (xs : List Node) (i : ℕ) (x : Node) → i < length xs → x ≡ get_or xs i x → is_negation (pure_node x) ≡ true
    → each_operand (λ e. not (is_negation e)) (pure_nodes (drop i xs)) ≡ false
negations_stop xs i x h is e = stop (λ e. not (is_negation e)) xs i x h is (ap not e)

pub negations_end : (xs : List Node) (i : ℕ) → length xs ≤ i → each_operand (λ e. not (is_negation e)) (pure_nodes (drop i xs)) ≡ true
negations_end = end (λ e. not (is_negation e))
