-- Expressions of models are refined trees that are formed so.
use Rattle.std.proofs.Common.{◌≡◌, refl, ◌∙◌, Bool, true, false, ◌&&◌, ◌||◌}
use Rattle.ess_semantics.specs.Kinds.{is_bounded}
use Rattle.ess_semantics.specs.Operators.{iff}
use Rattle.ess_semantics.specs.Trees.{Op, matrix_literal, is_truth_op, name_pat, Ex, Exs, number_ex, truth_ex, name_ex, node_ex, matrix_ex, comp_ex, cell_ex, seen_ex, no_exs, more_exs, Gens, no_gens, over, from, cond, bool_dom, int_dom}
use Rattle.ess_semantics.specs.Refined.{is_scalar_op, is_list_op, is_refined, are_refined, is_refined_list, are_refined_lists, are_refined_gens}
use Rattle.ess_grammar.specs.Readable.{fit_ranges}
use Rattle.ess_grammar.specs.Models.{Scope, is_truth_table, same_truth}
use Rattle.eprime_lowering_laws.specs.Lowerable.{is_prefix, is_over_list, is_infix, is_lex, is_lowerable, has_lowerable, are_lowerable, is_lowerable_list, are_lowerable_gens}
use Rattle.eprime_lowering_laws.specs.Formed.{has_operands, is_formed, are_formed, are_gens_formed}
use Rattle.eprime_lowering_laws.proofs.Tests.{and-left, and-right, both, or-left, or-right, if-either, same-iff}
use Rattle.eprime_lowering_laws.proofs.Operators.{prefix-scalar, prefix-operand, over-list, over-operand, infix-scalar, infix-operands, lex-list, lex-operands}

module _ (s : Scope) where
  -- An expression is refined and formed.
  abbrev Whole : Ex → Type 0
  Whole e = (is_refined e ≡ true) × (is_formed s e ≡ true)

  -- So are several.
  abbrev All : Exs → Type 0
  All es = (are_refined es ≡ true) × (are_formed s es ≡ true)

  -- So is a list.
  abbrev Listed : Ex → Type 0
  Listed e = (is_refined_list e ≡ true) × (is_formed s e ≡ true)

  -- What is shown of an operand.
  record Refines (e : Ex) : Type 0 where
    whole : is_lowerable s e ≡ true → Whole e
    list : is_lowerable_list s e ≡ true → Listed e

  -- An operator with its operands is refined and formed.
  abbrev Operator : Op → Exs → Type 0
  Operator op es =
      (((is_scalar_op op && are_refined es) || (is_list_op op && are_refined_lists es)) ≡ true) ×
      ((has_operands op es && are_formed s es) ≡ true)

  one-operand : (op : Op) (a : Ex) → Refines a → has_lowerable s op (more_exs a no_exs) ≡ true → Operator op (more_exs a no_exs)
  one-operand op a i h =
      let x : Bool = is_scalar_op op && (is_refined a && true) in
      let y : Bool = is_list_op op && (is_refined_list a && true) in
      if-either (is_prefix op) (is_lowerable s a) (is_over_list op && is_lowerable_list s a) h
      (λ p l. let w : Whole a = i.whole l in (
        or-left x y (both (is_scalar_op op) (is_refined a && true) (prefix-scalar op p) (both (is_refined a) true w.0 refl)),
        both (has_operands op (more_exs a no_exs)) (is_formed s a && true) (prefix-operand op a p) (both (is_formed s a) true w.1 refl),
      ))
      (λ q. let p : is_over_list op ≡ true = and-left (is_over_list op) (is_lowerable_list s a) q in
      let w : Listed a = i.list (and-right (is_over_list op) (is_lowerable_list s a) q) in (
        or-right x y (both (is_list_op op) (is_refined_list a && true) (over-list op p) (both (is_refined_list a) true w.0 refl)),
        both (has_operands op (more_exs a no_exs)) (is_formed s a && true) (over-operand op a p) (both (is_formed s a) true w.1 refl),
      ))

  two-operands : (op : Op) (a b : Ex) → Refines a → Refines b → has_lowerable s op (more_exs a (more_exs b no_exs)) ≡ true →
      Operator op (more_exs a (more_exs b no_exs))
  two-operands op a b i j h =
      let es : Exs = more_exs a (more_exs b no_exs) in
      let x : Bool = is_scalar_op op && are_refined es in
      let y : Bool = is_list_op op && are_refined_lists es in
      let c : Bool = is_lowerable s a && is_lowerable s b in
      let d : Bool = is_lowerable_list s a && is_lowerable_list s b in
      if-either (is_infix op) c (is_lex op && d) h
      (λ p l. let v : Whole a = i.whole (and-left (is_lowerable s a) (is_lowerable s b) l) in
      let w : Whole b = j.whole (and-right (is_lowerable s a) (is_lowerable s b) l) in (
        or-left x y (both (is_scalar_op op) (are_refined es) (infix-scalar op p)
            (both (is_refined a) (is_refined b && true) v.0 (both (is_refined b) true w.0 refl))),
        both (has_operands op es) (are_formed s es) (infix-operands op a b p)
            (both (is_formed s a) (is_formed s b && true) v.1 (both (is_formed s b) true w.1 refl)),
      ))
      (λ q. let p : is_lex op ≡ true = and-left (is_lex op) d q in
      let l : d ≡ true = and-right (is_lex op) d q in
      let v : Listed a = i.list (and-left (is_lowerable_list s a) (is_lowerable_list s b) l) in
      let w : Listed b = j.list (and-right (is_lowerable_list s a) (is_lowerable_list s b) l) in (
        or-right x y (both (is_list_op op) (are_refined_lists es) (lex-list op p)
            (both (is_refined_list a) (is_refined_list b && true) v.0 (both (is_refined_list b) true w.0 refl))),
        both (has_operands op es) (are_formed s es) (lex-operands op a b p)
            (both (is_formed s a) (is_formed s b && true) v.1 (both (is_formed s b) true w.1 refl)),
      ))

  node : (b : Bool) (op : Op) (es : Exs) → is_lowerable s (node_ex b op es) ≡ true → Operator op es → Whole (node_ex b op es)
  node b op es h k = (
    both (iff b (is_truth_op op)) ((is_scalar_op op && are_refined es) || (is_list_op op && are_refined_lists es))
        (same-iff b (is_truth_op op) ∙ and-left (same_truth b (is_truth_op op)) (has_lowerable s op es) h) k.0,
    k.1,
  )

  mutual
    -- An expression.
    pub whole : (e : Ex) → is_lowerable s e ≡ true → Whole e
    whole (number_ex n) h = (refl, refl)
    whole (truth_ex b) h = (refl, refl)
    whole (name_ex a) h = (refl, refl)
    whole (cell_ex b a es) h =
        let w : All es = all es (and-right (same_truth b (is_truth_table s a)) (are_lowerable s es) h) in (
          w.0,
          both (same_truth b (is_truth_table s a)) (are_formed s es)
              (and-left (same_truth b (is_truth_table s a)) (are_lowerable s es) h) w.1,
        )
    whole (node_ex b op no_exs) h = let k : false ≡ true = and-right (same_truth b (is_truth_op op)) false h in cc
    whole (node_ex b op (more_exs a no_exs)) h =
        let es : Exs = more_exs a no_exs in
        node b op es h (one-operand op a (record { whole = whole a; list = list a })
        (and-right (same_truth b (is_truth_op op)) (has_lowerable s op es) h))
    whole (node_ex b op (more_exs a (more_exs c no_exs))) h =
        let es : Exs = more_exs a (more_exs c no_exs) in
        node b op es h (two-operands op a c (record { whole = whole a; list = list a }) (record { whole = whole c; list = list c })
        (and-right (same_truth b (is_truth_op op)) (has_lowerable s op es) h))
    whole (node_ex b op (more_exs a (more_exs c (more_exs d es)))) h =
        let k : false ≡ true = and-right (same_truth b (is_truth_op op)) false h in cc
    whole (matrix_ex es d) h = cc
    whole (comp_ex e gs) h = cc
    whole (seen_ex v d ns es) h = cc

    -- Several.
    all : (es : Exs) → are_lowerable s es ≡ true → All es
    all no_exs h = (refl, refl)
    all (more_exs e es) h =
        let v : Whole e = whole e (and-left (is_lowerable s e) (are_lowerable s es) h) in
        let w : All es = all es (and-right (is_lowerable s e) (are_lowerable s es) h) in
        (both (is_refined e) (are_refined es) v.0 w.0, both (is_formed s e) (are_formed s es) v.1 w.1)

    -- A list.
    list : (e : Ex) → is_lowerable_list s e ≡ true → Listed e
    list (node_ex false matrix_literal es) h = all es h
    list (node_ex true matrix_literal es) h = cc
    list (comp_ex e gs) h =
        let v : Whole e = whole e (and-left (is_lowerable s e) (are_lowerable_gens s gs) h) in
        let w : (are_refined_gens gs ≡ true) × (are_gens_formed s gs ≡ true) = gens gs
        (and-right (is_lowerable s e) (are_lowerable_gens s gs) h) in
        (both (is_refined e) (are_refined_gens gs) v.0 w.0, both (is_formed s e) (are_gens_formed s gs) v.1 w.1)
    list e h = cc

    -- Generators and conditions.
    gens : (gs : Gens) → are_lowerable_gens s gs ≡ true → (are_refined_gens gs ≡ true) × (are_gens_formed s gs ≡ true)
    gens no_gens h = (refl, refl)
    gens (over (name_pat a) bool_dom gs) h = gens gs h
    gens (over (name_pat a) (int_dom rs es) gs) h =
        let d : (is_bounded rs && (fit_ranges rs es && are_lowerable s es)) ≡ true =
        and-left (is_bounded rs && (fit_ranges rs es && are_lowerable s es)) (are_lowerable_gens s gs) h in
        let f : (fit_ranges rs es && are_lowerable s es) ≡ true = and-right (is_bounded rs) (fit_ranges rs es && are_lowerable s es) d in
        let v : All es = all es (and-right (fit_ranges rs es) (are_lowerable s es) f) in
        let w : (are_refined_gens gs ≡ true) × (are_gens_formed s gs ≡ true) =
        gens gs (and-right (is_bounded rs && (fit_ranges rs es && are_lowerable s es)) (are_lowerable_gens s gs) h) in (
          both (is_bounded rs && are_refined es) (are_refined_gens gs)
              (both (is_bounded rs) (are_refined es) (and-left (is_bounded rs) (fit_ranges rs es && are_lowerable s es) d) v.0) w.0,
          both (fit_ranges rs es && are_formed s es) (are_gens_formed s gs)
              (both (fit_ranges rs es) (are_formed s es) (and-left (fit_ranges rs es) (are_lowerable s es) f) v.1) w.1,
        )
    gens (over p d gs) h = cc
    gens (from p e gs) h = cc
    gens (cond e gs) h =
        let v : Whole e = whole e (and-left (is_lowerable s e) (are_lowerable_gens s gs) h) in
        let w : (are_refined_gens gs ≡ true) × (are_gens_formed s gs ≡ true) = gens gs
        (and-right (is_lowerable s e) (are_lowerable_gens s gs) h) in
        (both (is_refined e) (are_refined_gens gs) v.0 w.0, both (is_formed s e) (are_gens_formed s gs) v.1 w.1)
