-- Refined operators' nodes, and operands one by one.
use Rattle.std.proofs.Common.{◌≡◌, refl, sym, ap, ◌∙◌, ℕ, ◌+◌, ◌<◌, ◌≤◌, Bool, true, false, ◌&&◌, ◌||◌, List, [], ◌∷◌, length, drop, get_or}
use Rattle.std.proofs.lemmas.List.{at_drop_more, at_drop_all}
use Rattle.ess_semantics.specs.declared.words.Op2.{Op2}
use Rattle.ess_semantics.specs.declared.words.Fun.{Fun}
use Rattle.ess_semantics.specs.Operators.{iff}
use Rattle.ess_semantics.specs.Trees.{Op, unary, binary, word, index, application, tuple_literal, set_literal, mset_literal, function_literal, relation_literal, partition_literal, matrix_literal, record_literal, is_truth_op, Exs, node_ex}
use Rattle.ess_semantics.specs.Refined.{is_scalar_op, is_list_op, is_refined, are_refined, is_refined_list, are_refined_lists}
use Rattle.ess_core_nodes.specs.NodeViews.{pure_node, pure_nodes}
use Rattle.ess_core_nodes.specs.declared.nodes.Node.{Node}
use Rattle.ess_node_forms.specs.RangedDomains.{is_list}

-- ---- operators

differ : (b t : Bool) → (b ≡ t → ⊥) → iff b t ≡ false
differ true true h = absurd (h refl)
differ true false h = refl
differ false true h = refl
differ false false h = absurd (h refl)

agree : (b t : Bool) → b ≡ t → iff b t ≡ true
agree true t h = sym h
agree false true h = cc
agree false false h = refl

-- A node with the wrong mark.
pub mark_wrong : (b : Bool) (op : Op) (es : Exs) → (b ≡ is_truth_op op → ⊥) → is_refined (node_ex b op es) ≡ false
mark_wrong b op es h =
    ap (λ x. x && ((is_scalar_op op && are_refined es) || (is_list_op op && are_refined_lists es))) (differ b (is_truth_op op) h)

or-nothing : (a : Bool) → (a || false) ≡ a
or-nothing true = refl
or-nothing false = refl

-- No operator is both.
apart : (op : Op) → is_scalar_op op ≡ true → is_list_op op ≡ false
apart (unary o) h = refl
apart (binary Op2.LexLt) h = cc
apart (binary Op2.LexLe) h = cc
apart (binary Op2.LexGt) h = cc
apart (binary Op2.LexGe) h = cc
apart (word Fun.And) h = cc
apart (word Fun.Or) h = cc
apart (word Fun.Sum) h = cc
apart (word Fun.Product) h = cc
apart (word Fun.Min) h = cc
apart (word Fun.Max) h = cc
apart (word Fun.AllDiff) h = cc
apart _ h = refl

-- An operator on scalars.
pub scalars_refined : (b : Bool) (op : Op) (es : Exs) → b ≡ is_truth_op op → is_scalar_op op ≡ true → is_refined (node_ex b op es)
    ≡ are_refined es
scalars_refined b op es h s =
    ap (λ x. x && ((is_scalar_op op && are_refined es) || (is_list_op op && are_refined_lists es))) (agree b (is_truth_op op) h)
    ∙ ap (λ x. (x && are_refined es) || (is_list_op op && are_refined_lists es)) s
    ∙ ap (λ x. are_refined es || (x && are_refined_lists es)) (apart op s) ∙ or-nothing (are_refined es)

-- Any other operator.
pub lists_refined : (b : Bool) (op : Op) (es : Exs) → b ≡ is_truth_op op → is_scalar_op op ≡ false
    → is_refined (node_ex b op es) ≡ (is_list_op op && are_refined_lists es)
lists_refined b op es h s =
    ap (λ x. x && ((is_scalar_op op && are_refined es) || (is_list_op op && are_refined_lists es))) (agree b (is_truth_op op) h)
    ∙ ap (λ x. (x && are_refined es) || (is_list_op op && are_refined_lists es)) s

-- A node that is Boolean is no list.
pub list_marked : (op : Op) (es : Exs) → is_refined_list (node_ex true op es) ≡ false
list_marked op es = refl

-- Any other is one by its operator.
pub list_by : (op : Op) (es : Exs) → is_refined_list (node_ex false op es) ≡ (is_list op && are_refined es)
list_by (unary o) es = refl
list_by (binary o) es = refl
list_by (word f) es = refl
list_by (index qs) es = refl
list_by application es = refl
list_by tuple_literal es = refl
list_by set_literal es = refl
list_by mset_literal es = refl
list_by function_literal es = refl
list_by relation_literal es = refl
list_by partition_literal es = refl
list_by matrix_literal es = refl
list_by (record_literal fs) es = refl

-- ---- operands

left : (xs : List Node) (i : ℕ) (x : Node) → i < length xs → x ≡ get_or xs i x
    → are_refined (pure_nodes (drop i xs)) ≡ (is_refined (pure_node x) && are_refined (pure_nodes (drop (i + 1) xs)))
left xs i x h is =
    at_drop_more (λ l. are_refined (pure_nodes l)) xs i x h
    ∙ ap (λ y. is_refined (pure_node y) && are_refined (pure_nodes (drop (i + 1) xs))) (sym is)

pub refined_more : (xs : List Node) (i : ℕ) (x : Node) → i < length xs → x ≡ get_or xs i x → is_refined (pure_node x) ≡ true
    → are_refined (pure_nodes (drop i xs)) ≡ are_refined (pure_nodes (drop (i + 1) xs))
refined_more xs i x h is e = left xs i x h is ∙ ap (λ b. b && are_refined (pure_nodes (drop (i + 1) xs))) e

pub refined_not : (xs : List Node) (i : ℕ) (x : Node) → i < length xs → x ≡ get_or xs i x → is_refined (pure_node x) ≡ false
    → are_refined (pure_nodes (drop i xs)) ≡ false
refined_not xs i x h is e = left xs i x h is ∙ ap (λ b. b && are_refined (pure_nodes (drop (i + 1) xs))) e

pub refined_end : (xs : List Node) (i : ℕ) → length xs ≤ i → are_refined (pure_nodes (drop i xs)) ≡ true
refined_end xs i h = at_drop_all (λ l. are_refined (pure_nodes l)) xs i h

-- ---- lists

list-left : (xs : List Node) (i : ℕ) (x : Node) → i < length xs → x ≡ get_or xs i x
    → are_refined_lists (pure_nodes (drop i xs)) ≡ (is_refined_list (pure_node x) && are_refined_lists (pure_nodes (drop (i + 1) xs)))
list-left xs i x h is =
    at_drop_more (λ l. are_refined_lists (pure_nodes l)) xs i x h
    ∙ ap (λ y. is_refined_list (pure_node y) && are_refined_lists (pure_nodes (drop (i + 1) xs))) (sym is)

pub lists_more : (xs : List Node) (i : ℕ) (x : Node) → i < length xs → x ≡ get_or xs i x → is_refined_list (pure_node x) ≡ true
    → are_refined_lists (pure_nodes (drop i xs)) ≡ are_refined_lists (pure_nodes (drop (i + 1) xs))
lists_more xs i x h is e = list-left xs i x h is ∙ ap (λ b. b && are_refined_lists (pure_nodes (drop (i + 1) xs))) e

pub lists_not : (xs : List Node) (i : ℕ) (x : Node) → i < length xs → x ≡ get_or xs i x → is_refined_list (pure_node x) ≡ false
    → are_refined_lists (pure_nodes (drop i xs)) ≡ false
lists_not xs i x h is e = list-left xs i x h is ∙ ap (λ b. b && are_refined_lists (pure_nodes (drop (i + 1) xs))) e

pub lists_end : (xs : List Node) (i : ℕ) → length xs ≤ i → are_refined_lists (pure_nodes (drop i xs)) ≡ true
lists_end xs i h = at_drop_all (λ l. are_refined_lists (pure_nodes l)) xs i h
