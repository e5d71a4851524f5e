-- Folds of refined trees stay refined: what is left of them where their generators are gone, too.
use Rattle.std.proofs.Common.{◌≡◌, refl, Bool, true, false, ◌&&◌, ◌||◌, not, if◌then◌else◌, nat_le}
use Rattle.ess_semantics.specs.declared.words.Op2.{Op2}
use Rattle.ess_semantics.specs.declared.words.Fun.{Fun}
use Rattle.ess_semantics.specs.Lists.{or_default, when}
use Rattle.ess_semantics.specs.Names.{Names}
use Rattle.ess_semantics.specs.Trees.{Op, binary, word, matrix_literal, is_truth_op, Ex, Exs, node_ex, comp_ex, no_exs, more_exs}
use Rattle.ess_semantics.specs.Trees.{Gens, no_gens, over, from, cond, ex2, fun1}
use Rattle.ess_semantics.specs.Operators.{iff}
use Rattle.ess_semantics.specs.Refined.{is_scalar_op, is_list_op, is_refined, are_refined, is_refined_list, are_refined_lists}
use Rattle.ess_semantics.specs.Refined.{are_refined_gens}
use Rattle.ess_semantics.proofs.Tests.{and-left, and-right, and-both}
use Rattle.ess_guard_laws.specs.Origins.{Origin}
use Rattle.ess_keys_laws.specs.Chains.{is_of_flat_form, chain, all_under_and, has_many, conjuncts_of, conjunction_fold}
use Rattle.ess_keys_laws.specs.Keyed.{laid, is_bare, are_conditions, connected, all_of, conditions_of, how_many, joined, is_folded}
use Rattle.ess_keys_laws.specs.Keyed.{fold_of, folded}

-- ---- nodes

as-scalar : (a b c : Bool) → a && b ≡ true → (a && b) || c ≡ true
as-scalar true true c e = refl
as-scalar true false c e = cc
as-scalar false b c e = cc

as-list : (a c d : Bool) → c && d ≡ true → a || (c && d) ≡ true
as-list true c d e = refl
as-list false c d e = e

-- A node of a scalar operator over refined terms is refined.
pub scalar-node : (b : Bool) (op : Op) (es : Exs) → iff b (is_truth_op op) ≡ true → is_scalar_op op ≡ true → are_refined es ≡ true
    → is_refined (node_ex b op es) ≡ true
scalar-node b op es i s t =
    and-both (iff b (is_truth_op op)) _ i
    (as-scalar (is_scalar_op op) (are_refined es) (is_list_op op && are_refined_lists es) (and-both (is_scalar_op op) (are_refined es) s t))

-- A node of an operator of lists over refined lists is refined.
pub list-node : (b : Bool) (op : Op) (es : Exs) → iff b (is_truth_op op) ≡ true → is_list_op op ≡ true → are_refined_lists es ≡ true
    → is_refined (node_ex b op es) ≡ true
list-node b op es i s t =
    and-both (iff b (is_truth_op op)) _ i
    (as-list (is_scalar_op op && are_refined es) (is_list_op op) (are_refined_lists es) (and-both (is_list_op op)
    (are_refined_lists es) s t))

two-refined : (a b : Ex) → is_refined a ≡ true → is_refined b ≡ true → are_refined (more_exs a (more_exs b no_exs)) ≡ true
two-refined a b p q = and-both (is_refined a) (is_refined b && true) p (and-both (is_refined b) true q refl)

-- ---- folds

-- A comprehension of refined parts, with or without generators, is a refined list.
pub laid-refined : (e : Ex) (gs : Gens) → is_refined e ≡ true → are_refined_gens gs ≡ true → is_refined_list (laid e gs) ≡ true
laid-refined e no_gens p q = and-both (is_refined e) true p refl
laid-refined e (over a d gs) p q = and-both (is_refined e) (are_refined_gens (over a d gs)) p q
laid-refined e (from a s gs) p q = and-both (is_refined e) (are_refined_gens (from a s gs)) p q
laid-refined e (cond c gs) p q = and-both (is_refined e) (are_refined_gens (cond c gs)) p q

implied-refined : (e : Ex) (gs : Gens) → is_refined e ≡ true → are_refined_gens gs ≡ true → is_refined (connected Op2.Implies gs e) ≡ true
implied-refined e no_gens p q = p
implied-refined e (over a d gs) p q = p
implied-refined e (from a s gs) p q = p
implied-refined e (cond c gs) p q =
    scalar-node true (binary Op2.Implies) (more_exs c (more_exs (connected Op2.Implies gs e) no_exs)) refl refl
    (two-refined c (connected Op2.Implies gs e) (and-left (is_refined c) (are_refined_gens gs) q)
    (implied-refined e gs p (and-right (is_refined c) (are_refined_gens gs) q)))

chained-refined : (e : Ex) (gs : Gens) → is_refined e ≡ true → are_refined_gens gs ≡ true → is_refined (connected Op2.And gs e) ≡ true
chained-refined e no_gens p q = p
chained-refined e (over a d gs) p q = p
chained-refined e (from a s gs) p q = p
chained-refined e (cond c gs) p q =
    scalar-node true (binary Op2.And) (more_exs c (more_exs (connected Op2.And gs e) no_exs)) refl refl
    (two-refined c (connected Op2.And gs e) (and-left (is_refined c) (are_refined_gens gs) q)
    (chained-refined e gs p (and-right (is_refined c) (are_refined_gens gs) q)))

-- A list of all is one of refined trees.
items-refined : (e : Ex) (gs : Gens) → is_refined e ≡ true → are_refined_gens gs ≡ true → are_refined (all_of gs e) ≡ true
items-refined e no_gens p q = and-both (is_refined e) true p refl
items-refined e (over a d gs) p q = and-both (is_refined e) true p refl
items-refined e (from a s gs) p q = and-both (is_refined e) true p refl
items-refined e (cond c gs) p q =
    and-both (is_refined c) (are_refined (all_of gs e)) (and-left (is_refined c) (are_refined_gens gs) q)
    (items-refined e gs p (and-right (is_refined c) (are_refined_gens gs) q))

-- The same of the conditions alone.
conditions-refined : (gs : Gens) → are_refined_gens gs ≡ true → are_refined (conditions_of gs) ≡ true
conditions-refined no_gens q = refl
conditions-refined (over a d gs) q = refl
conditions-refined (from a s gs) q = refl
conditions-refined (cond c gs) q =
    and-both (is_refined c) (are_refined (conditions_of gs)) (and-left (is_refined c) (are_refined_gens gs) q)
    (conditions-refined gs (and-right (is_refined c) (are_refined_gens gs) q))

-- Refined trees as a list under `and` are refined.
all-refined : (es : Exs) → are_refined es ≡ true → is_refined (all_under_and es) ≡ true
all-refined es p =
    list-node true (word Fun.And) (more_exs (node_ex false matrix_literal es) no_exs) refl refl (and-both (are_refined es) true p refl)

-- A list of many under `and`, or a chain of few.
joined-refined : (e : Ex) (gs : Gens) (b : Bool) → is_refined e ≡ true → are_refined_gens gs ≡ true
    → is_refined (if b then all_under_and (all_of gs e) else connected Op2.And gs e) ≡ true
joined-refined e gs true p q = all-refined (all_of gs e) (items-refined e gs p q)
joined-refined e gs false p q = chained-refined e gs p q

-- The same under `->`.
led-refined : (e : Ex) (gs : Gens) (b : Bool) → is_refined e ≡ true → are_refined_gens gs ≡ true
    → is_refined (if b then ex2 true Op2.Implies (all_under_and (conditions_of gs)) e else connected Op2.Implies gs e) ≡ true
led-refined e gs true p q =
    scalar-node true (binary Op2.Implies) (more_exs (all_under_and (conditions_of gs)) (more_exs e no_exs)) refl refl
    (two-refined (all_under_and (conditions_of gs)) e (all-refined (conditions_of gs) (conditions-refined gs q)) p)
led-refined e gs false p q = implied-refined e gs p q

chosen-refined : (t : Bool) (r n : Ex) → is_refined r ≡ true → is_refined n ≡ true → is_refined (or_default (when t r) n) ≡ true
chosen-refined true r n p q = p
chosen-refined false r n p q = q

fold-refined : (k : Names Origin) (b : Bool) (f : Fun) (l : Ex) → is_refined_list l ≡ true → is_refined (fun1 b f l) ≡ true
    → is_refined (or_default (fold_of k b f l) (fun1 b f l)) ≡ true
fold-refined k true Fun.And (comp_ex e gs) t n =
    chosen-refined (not (is_bare gs) && are_conditions gs) (joined Op2.Implies gs e) (fun1 true Fun.And (comp_ex e gs))
    (led-refined e gs (nat_le 16 (how_many gs)) (and-left (is_refined e) (are_refined_gens gs) t)
    (and-right (is_refined e) (are_refined_gens gs) t)) n
fold-refined k true Fun.Or (comp_ex e gs) t n =
    chosen-refined (not (is_bare gs) && are_conditions gs) (joined Op2.And gs e) (fun1 true Fun.Or (comp_ex e gs))
    (joined-refined e gs (nat_le 16 (how_many gs)) (and-left (is_refined e) (are_refined_gens gs) t)
    (and-right (is_refined e) (are_refined_gens gs) t)) n
fold-refined k b f (node_ex false matrix_literal (more_exs e no_exs)) t n =
    chosen-refined (is_folded k b f e) e (fun1 b f (node_ex false matrix_literal (more_exs e no_exs))) (and-left (is_refined e) true t) n
fold-refined k b f l t n = n

-- What is left of an operator of lists is refined.
pub folded-list : (k : Names Origin) (b : Bool) (op : Op) (es : Exs) → iff b (is_truth_op op) ≡ true → is_list_op op ≡ true
    → are_refined_lists es ≡ true
    → is_refined (folded k b op es) ≡ true
folded-list k b (word f) (more_exs l no_exs) i s t =
    fold-refined k b f l (and-left (is_refined_list l) true t) (list-node b (word f) (more_exs l no_exs) i s t)
folded-list k true (binary Op2.And) (more_exs a (more_exs r no_exs)) i s t = cc
folded-list k b op es i s t = list-node b op es i s t

-- ---- conjunctions

both-refined : (a b : Ex) → is_refined (ex2 true Op2.And a b) ≡ true → (is_refined a ≡ true) × (is_refined b ≡ true)
both-refined a b p = go (is_refined a) (is_refined b) p
  where
    go : (x y : Bool) → (x && (y && true)) || false ≡ true → (x ≡ true) × (y ≡ true)
    go true true e = (refl, refl)
    go true false e = cc
    go false y e = cc

chain-refined : (e : Ex) → is_refined e ≡ true → are_refined (chain e) ≡ true
chain-refined (ex2 true Op2.And a r) p =
    let q = both-refined a r p in and-both (is_refined a) (are_refined (chain r)) q.0 (chain-refined r q.1)
chain-refined e p = and-both (is_refined e) true p refl

conjuncts_of-refined : (e : Ex) → is_refined e ≡ true → are_refined (conjuncts_of e) ≡ true
conjuncts_of-refined (fun1 true Fun.And (node_ex false matrix_literal es)) p = and-left (are_refined es) true p
conjuncts_of-refined e p = chain-refined e p

conjunction-refined : (a r : Ex) → is_refined a ≡ true → is_refined r ≡ true → is_refined (ex2 true Op2.And a r) ≡ true
    → is_refined (or_default (conjunction_fold a r) (ex2 true Op2.And a r)) ≡ true
conjunction-refined a r p q n =
    chosen-refined (has_many r && not (is_of_flat_form a && is_of_flat_form r)) (all_under_and (more_exs a (conjuncts_of r)))
    (ex2 true Op2.And a r)
    (all-refined (more_exs a (conjuncts_of r)) (and-both (is_refined a) (are_refined (conjuncts_of r)) p (conjuncts_of-refined r q))) n

fold-scalar : (k : Names Origin) (b : Bool) (f : Fun) (l : Ex) → is_refined l ≡ true → is_refined (fun1 b f l) ≡ true
    → is_refined (or_default (fold_of k b f l) (fun1 b f l)) ≡ true
fold-scalar k b f (comp_ex e gs) t n = cc
fold-scalar k b f (node_ex false matrix_literal (more_exs e no_exs)) t n = cc
fold-scalar k b f l t n = n

-- What is left of a scalar operator is refined.
pub folded-scalar : (k : Names Origin) (b : Bool) (op : Op) (es : Exs) → iff b (is_truth_op op) ≡ true → is_scalar_op op ≡ true
    → are_refined es ≡ true
    → is_refined (folded k b op es) ≡ true
folded-scalar k b (word f) (more_exs l no_exs) i s t =
    fold-scalar k b f l (and-left (is_refined l) true t) (scalar-node b (word f) (more_exs l no_exs) i s t)
folded-scalar k true (binary Op2.And) (more_exs a (more_exs r no_exs)) i s t =
    conjunction-refined a r (and-left (is_refined a) (is_refined r && true) t)
    (and-left (is_refined r) true (and-right (is_refined a) (is_refined r && true) t))
    (scalar-node true (binary Op2.And) (more_exs a (more_exs r no_exs)) i s t)
folded-scalar k b op es i s t = scalar-node b op es i s t
