-- How many items a list has at most: by an operator, a list, a comprehension and one generator, and one number behind others.
use Rattle.std.proofs.Common.{◌≡◌, refl, sym, ap, ◌∙◌, ℕ, zero, suc, ◌+◌, ◌-◌, ◌<◌, ◌≤◌, Bool, true, false, List, [], ◌∷◌, ◌++◌, length, drop, get_or, Option, Some, None, option_map, arith}
use Rattle.std.proofs.lemmas.List.{drop_more, drop_all}
use Rattle.ess_semantics.specs.declared.words.Fun.{Fun}
use Rattle.ess_semantics.specs.Lists.{and_then}
use Rattle.ess_semantics.specs.Values.{Text}
use Rattle.ess_semantics.specs.Trees as pure
use Rattle.ess_semantics.specs.Trees.{Step, Op, index, application, word, tuple_literal, matrix_literal, function_literal, record_literal, Pat, Ex, Exs, node_ex, matrix_ex, comp_ex, no_exs, more_exs, Gens, no_gens, over, Dom}
use Rattle.ess_core.specs.TreeViews.{Item, over_item, from_item, cond_item, gens_of}
use Rattle.ess_core_nodes.specs.declared.words.Op as code
use Rattle.ess_core_nodes.specs.declared.nodes.Node.{Node}
use Rattle.ess_core_nodes.specs.declared.nodes.Node.TheVariants as node
use Rattle.ess_core_nodes.specs.declared.nodes.Gen.TheOpen.{Node-F}
use Rattle.ess_core_nodes.specs.declared.nodes.Gen.TheFolds.{fold-roll-Node}
use Rattle.ess_core_nodes.specs.NodeViews.{gen_step, node_step, dom_step, seen_step, pure_node, pure_nodes, pure_op}
use Rattle.ess_rules_ordered.specs.ToldForms.{only_step}
use Rattle.ess_rules_ordered.proofs.NumberForms.{numbers_before, put-before, nothing-behind}
use Rattle.ess_numbered_laws.specs.MostItems.{Pick, an_item, a_result, a_component, a_field, pick_of, sum_at, so_often, most, most_behind, most_of_each, most_at}
use Rattle.ess_rules_numbered.specs.MostForms.{most_of_first, most_of_matrix, most_of_op, most_of_comp, most_before}

-- ---- by the form

-- Literals, by whether they are marked as Boolean, and by the steps.
matrix-most : (z : Text) (ps : List Pick) (b : Bool) (es : Exs) → most_of_op z ps b matrix_literal es ≡ most z ps (node_ex b matrix_literal es)
matrix-most z [] true es = refl
matrix-most z (an_item ∷ ps) true es = refl
matrix-most z (a_result ∷ ps) true es = refl
matrix-most z (a_component k ∷ ps) true es = refl
matrix-most z (a_field a ∷ ps) true es = refl
matrix-most z [] false es = refl
matrix-most z (an_item ∷ ps) false es = refl
matrix-most z (a_result ∷ ps) false es = refl
matrix-most z (a_component k ∷ ps) false es = refl
matrix-most z (a_field a ∷ ps) false es = refl

tuple-most : (z : Text) (ps : List Pick) (b : Bool) (es : Exs) → most_of_op z ps b tuple_literal es ≡ most z ps (node_ex b tuple_literal es)
tuple-most z [] true es = refl
tuple-most z (an_item ∷ ps) true es = refl
tuple-most z (a_result ∷ ps) true es = refl
tuple-most z (a_component k ∷ ps) true es = refl
tuple-most z (a_field a ∷ ps) true es = refl
tuple-most z [] false es = refl
tuple-most z (an_item ∷ ps) false es = refl
tuple-most z (a_result ∷ ps) false es = refl
tuple-most z (a_component k ∷ ps) false es = refl
tuple-most z (a_field a ∷ ps) false es = refl

record-most : (z : Text) (ps : List Pick) (b : Bool) (fs : List Text) (es : Exs) → most_of_op z ps b (record_literal fs) es ≡ most z ps (node_ex b (record_literal fs) es)
record-most z [] true fs es = refl
record-most z (an_item ∷ ps) true fs es = refl
record-most z (a_result ∷ ps) true fs es = refl
record-most z (a_component k ∷ ps) true fs es = refl
record-most z (a_field a ∷ ps) true fs es = refl
record-most z [] false fs es = refl
record-most z (an_item ∷ ps) false fs es = refl
record-most z (a_result ∷ ps) false fs es = refl
record-most z (a_component k ∷ ps) false fs es = refl
record-most z (a_field a ∷ ps) false fs es = refl

function-most : (z : Text) (ps : List Pick) (b : Bool) (es : Exs) → most_of_op z ps b function_literal es ≡ most z ps (node_ex b function_literal es)
function-most z [] true es = refl
function-most z (an_item ∷ ps) true es = refl
function-most z (a_result ∷ ps) true es = refl
function-most z (a_component k ∷ ps) true es = refl
function-most z (a_field a ∷ ps) true es = refl
function-most z [] false es = refl
function-most z (an_item ∷ ps) false es = refl
function-most z (a_result ∷ ps) false es = refl
function-most z (a_component k ∷ ps) false es = refl
function-most z (a_field a ∷ ps) false es = refl

-- An operator and its operands.
pub most_by_operands : (z : Text) (ps : List Pick) (b : Bool) (o : Op) (es : Exs) → most_of_op z ps b o es ≡ most z ps (node_ex b o es)
most_by_operands z ps b (index (q ∷ [])) (more_exs t is) = refl
most_by_operands z ps b (index (q ∷ [])) no_exs = refl
most_by_operands z ps b application (more_exs f is) = refl
most_by_operands z ps b application no_exs = refl
most_by_operands z ps b (word Fun.Image) (more_exs f is) = refl
most_by_operands z ps b (word Fun.Image) no_exs = refl
most_by_operands z ps b matrix_literal es = matrix-most z ps b es
most_by_operands z ps b tuple_literal es = tuple-most z ps b es
most_by_operands z ps b (record_literal fs) es = record-most z ps b fs es
most_by_operands z ps b function_literal es = function-most z ps b es
most_by_operands z ps true o es = refl
most_by_operands z ps false o es = refl

-- The same of the node that the code holds.
pub most_by_node : (z : Text) (ps : List Pick) (b : Bool) (o : code.Op) (es : List Node)
    → most_of_op z ps b (pure_op o) (pure_nodes es) ≡ most z ps (pure_node (node.Op b o es))
most_by_node z ps b o es = most_by_operands z ps b (pure_op o) (pure_nodes es)
    ∙ ap (most z ps) (sym (ap pure_node (sym (node.rolls-Op b o es))
    ∙ fold-roll-Node Item pure.Ex pure.Dom pure.Ex gen_step node_step dom_step seen_step (Node-F.Op b o es)))

-- The items of a matrix.
pub most_by_items : (z : Text) (ps : List Pick) (es : Exs) (d : Dom) → most_of_matrix z ps es d ≡ most z ps (matrix_ex es d)
most_by_items z [] es d = refl
most_by_items z (an_item ∷ ps) es d = refl
most_by_items z (p ∷ ps) es d = refl

-- A comprehension.
pub most_by_parts : (z : Text) (ps : List Pick) (e : Ex) (gs : Gens) → most_of_comp z ps e gs ≡ most z ps (comp_ex e gs)
most_by_parts z [] e gs = refl
most_by_parts z (an_item ∷ ps) e gs = refl
most_by_parts z ps e gs = refl

-- An index, by its only step.
pub most_by_step : (z : Text) (ps : List Pick) (b : Bool) (qs : List Step) (es : Exs) → most_of_op z ps b (index qs) es
    ≡ and_then (option_map pick_of (only_step qs)) (λ p. most_of_first z (p ∷ ps) es)
most_by_step z ps b (q ∷ []) es = refl
most_by_step z ps true [] es = refl
most_by_step z ps false [] es = refl
most_by_step z ps true (q ∷ p ∷ qs) es = refl
most_by_step z ps false (q ∷ p ∷ qs) es = refl

-- ---- one generator before others

before-dom : (p : Pat) (d : Dom) (o : Option Ex) → option_map (λ m. sum_at m (over p d no_gens)) o
    ≡ and_then o (λ m. Some (sum_at m (over p d no_gens)))
before-dom p d None = refl
before-dom p d (Some m) = refl

before-source : (p : Pat) (k o : Option Ex) → and_then k (λ k. and_then o (so_often p k))
    ≡ and_then o (λ n. and_then k (λ k. so_often p k n))
before-source p None None = refl
before-source p None (Some n) = refl
before-source p (Some k) None = refl
before-source p (Some k) (Some n) = refl

-- A number behind one generator or condition, and others.
pub behind_one_more : (z : Text) (i : Item) (is : List Item) (n : Ex)
    → most_behind z (gens_of (i ∷ is)) n ≡ and_then (most_behind z (gens_of is) n) (most_before z i)
behind_one_more z (over_item p d) is n = before-dom p d (most_behind z (gens_of is) n)
behind_one_more z (from_item p t) is n = before-source p (most z [] t) (most_behind z (gens_of is) n)
behind_one_more z (cond_item c) is n = refl

-- ---- one number behind others

each-more : (z : Text) (ps : List Pick) (l : List Node) (k : ℕ) (x : Node) → k < length l → x ≡ get_or l k x
    → and_then (most z ps (pure_node x)) (λ n. option_map (more_exs n) (most_of_each z ps (pure_nodes (drop (k + 1) l))))
    ≡ most_of_each z ps (pure_nodes (drop k l))
each-more z ps l k x lt is =
    ap (λ v. most_of_each z ps (pure_nodes v)) (sym (drop_more l k x lt ∙ ap (λ v. v ∷ drop (k + 1) l) (sym is)))

-- One more number, behind those that are there.
pub each_more : (z : Text) (ps : List Pick) (all : List Node) (n : Node) (l : List Node) (k : ℕ) (x : Node) (r : Option Exs)
    → k < length l → x ≡ get_or l k x → Some (pure_node n) ≡ most z ps (pure_node x)
    → numbers_before all (most_of_each z ps (pure_nodes (drop k l))) ≡ r
    → numbers_before (all ++ n ∷ []) (most_of_each z ps (pure_nodes (drop (k + 1) l))) ≡ r
each_more z ps all n l k x r lt is here before =
    put-before all n (most_of_each z ps (pure_nodes (drop (k + 1) l)))
    ∙ ap (λ o. numbers_before all
    (and_then o (λ n. option_map (more_exs n) (most_of_each z ps (pure_nodes (drop (k + 1) l)))))) here
    ∙ ap (numbers_before all) (each-more z ps l k x lt is)
    ∙ before

-- One that has no number leaves nothing.
pub each_none : (z : Text) (ps : List Pick) (all : List Node) (l : List Node) (k : ℕ) (x : Node) (r : Option Exs)
    → k < length l → x ≡ get_or l k x → None ≡ most z ps (pure_node x)
    → numbers_before all (most_of_each z ps (pure_nodes (drop k l))) ≡ r → None ≡ r
each_none z ps all l k x r lt is none before =
    ap (λ o. numbers_before all
    (and_then o (λ n. option_map (more_exs n) (most_of_each z ps (pure_nodes (drop (k + 1) l)))))) none
    ∙ ap (numbers_before all) (each-more z ps l k x lt is)
    ∙ before

-- Where none is left, what is there is all.
pub each_all : (z : Text) (ps : List Pick) (all : List Node) (l : List Node) (k : ℕ) (r : Option Exs) → length l ≤ k
    → numbers_before all (most_of_each z ps (pure_nodes (drop k l))) ≡ r → Some (pure_nodes all) ≡ r
each_all z ps all l k r end before =
    ap (λ v. Some v) (nothing-behind (pure_nodes all))
    ∙ ap (λ v. numbers_before all (most_of_each z ps (pure_nodes v))) (sym (drop_all k l end))
    ∙ before

-- ---- by a number from 1

-- The first of operands.
pub most_first : (k : ℕ) (z : Text) (ps : List Pick) (e : Ex) (es : Exs) → k ≡ 1 → most z ps e ≡ most_at k z ps (more_exs e es)
most_first zero z ps e es h = absurd (omega (arith, h))
most_first (suc zero) z ps e es h = refl
most_first (suc (suc k)) z ps e es h = absurd (omega (arith, h))

-- One behind it is one less of the others.
pub most_next : (k : ℕ) (z : Text) (ps : List Pick) (e : Ex) (es : Exs) → (k ≡ 0 → ⊥) → (k ≡ 1 → ⊥)
    → most_at (k - 1) z ps es ≡ most_at k z ps (more_exs e es)
most_next zero z ps e es h g = absurd (h refl)
most_next (suc zero) z ps e es h g = absurd (g refl)
most_next (suc (suc k)) z ps e es h g = let p : suc (suc k) - 1 ≡ suc k = omega arith in ap (λ i. most_at i z ps es) p

-- None has the number 0, and there is none among no operands.
pub most_zero : (k : ℕ) (z : Text) (ps : List Pick) (es : Exs) → k ≡ 0 → None ≡ most_at k z ps es
most_zero zero z ps no_exs h = refl
most_zero zero z ps (more_exs e es) h = refl
most_zero (suc k) z ps es h = absurd (omega (arith, h))

pub most_past : (k : ℕ) (z : Text) (ps : List Pick) → None ≡ most_at k z ps no_exs
most_past zero z ps = refl
most_past (suc zero) z ps = refl
most_past (suc (suc k)) z ps = refl
