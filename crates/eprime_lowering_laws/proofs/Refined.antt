-- Refined trees that are formed so are expressions of models.
use Rattle.std.proofs.Common.{◌≡◌, refl, sym, ◌∙◌, Bool, true, false, ◌&&◌, ◌||◌}
use Rattle.ess_semantics.specs.Kinds.{is_bounded}
use Rattle.ess_semantics.specs.Operators.{iff}
use Rattle.ess_semantics.specs.Trees.{Op, unary, binary, word, matrix_literal, is_truth_op, name_pat, Ex, Exs, number_ex, truth_ex, name_ex, node_ex, matrix_ex, comp_ex, cell_ex, seen_ex, no_exs, more_exs, Gens, no_gens, over, from, cond, bool_dom, int_dom}
use Rattle.ess_semantics.specs.Refined.{is_scalar_op, is_list_op, is_refined, are_refined, is_refined_list, are_refined_lists, are_refined_gens}
use Rattle.ess_grammar.specs.Readable.{fit_ranges}
use Rattle.ess_grammar.specs.Models.{Scope, is_truth_table, same_truth}
use Rattle.eprime_lowering_laws.specs.Lowerable.{is_prefix, is_over_list, is_infix, is_lex, is_lowerable, has_lowerable, are_lowerable, is_lowerable_list, are_lowerable_gens}
use Rattle.eprime_lowering_laws.specs.Formed.{has_operands, is_formed, are_formed, are_gens_formed}
use Rattle.eprime_lowering_laws.proofs.Tests.{and-left, and-right, both, or-either, if-true, if-false, same-iff}
use Rattle.eprime_lowering_laws.proofs.Operators.{scalar-prefix, list-not_prefix, list-over, scalar-infix, list-not_infix, list-lex}

module _ (s : Scope) where
  -- What is shown of an operand: as an expression, and as a list.
  record Lowers (e : Ex) : Type 0 where
    whole : is_refined e ≡ true → is_formed s e ≡ true → is_lowerable s e ≡ true
    list : is_refined_list e ≡ true → is_formed s e ≡ true → is_lowerable_list s e ≡ true

  -- Whether an operator is one of refined trees with these operands.
  abbrev of_refined : Op → Exs → Bool
  of_refined op es = (is_scalar_op op && are_refined es) || (is_list_op op && are_refined_lists es)

  one-operand : (op : Op) (a : Ex) → Lowers a → of_refined op (more_exs a no_exs) ≡ true → has_operands op (more_exs a no_exs) ≡ true →
      is_formed s a ≡ true → has_lowerable s op (more_exs a no_exs) ≡ true
  one-operand op a i r h f =
      or-either (is_scalar_op op && (is_refined a && true)) (is_list_op op && (is_refined_list a && true)) r
      (λ q. if-true (is_prefix op) (is_lowerable s a) (is_over_list op && is_lowerable_list s a)
      (scalar-prefix op a (and-left (is_scalar_op op) (is_refined a && true) q) h)
      (i.whole (and-left (is_refined a) true (and-right (is_scalar_op op) (is_refined a && true) q)) f))
      (λ q. if-false (is_prefix op) (is_lowerable s a) (is_over_list op && is_lowerable_list s a)
      (list-not_prefix op (and-left (is_list_op op) (is_refined_list a && true) q))
      (both (is_over_list op) (is_lowerable_list s a) (list-over op a (and-left (is_list_op op) (is_refined_list a && true) q) h)
      (i.list (and-left (is_refined_list a) true (and-right (is_list_op op) (is_refined_list a && true) q)) f)))

  two-operands : (op : Op) (a b : Ex) → Lowers a → Lowers b → of_refined op (more_exs a (more_exs b no_exs)) ≡ true →
      has_operands op (more_exs a (more_exs b no_exs)) ≡ true → is_formed s a ≡ true → is_formed s b ≡ true →
      has_lowerable s op (more_exs a (more_exs b no_exs)) ≡ true
  two-operands op a b i j r h f g =
      let x : Bool = is_refined a && (is_refined b && true) in
      let y : Bool = is_refined_list a && (is_refined_list b && true) in
      or-either (is_scalar_op op && x) (is_list_op op && y) r
      (λ q. let k : x ≡ true = and-right (is_scalar_op op) x q in
      if-true (is_infix op) (is_lowerable s a && is_lowerable s b) (is_lex op && (is_lowerable_list s a && is_lowerable_list s b))
      (scalar-infix op a b (and-left (is_scalar_op op) x q) h)
      (both (is_lowerable s a) (is_lowerable s b) (i.whole (and-left (is_refined a) (is_refined b && true) k) f)
      (j.whole (and-left (is_refined b) true (and-right (is_refined a) (is_refined b && true) k)) g)))
      (λ q. let k : y ≡ true = and-right (is_list_op op) y q in
      if-false (is_infix op) (is_lowerable s a && is_lowerable s b) (is_lex op && (is_lowerable_list s a && is_lowerable_list s b))
      (list-not_infix op (and-left (is_list_op op) y q))
      (both (is_lex op) (is_lowerable_list s a && is_lowerable_list s b) (list-lex op a b (and-left (is_list_op op) y q) h)
      (both (is_lowerable_list s a) (is_lowerable_list s b) (i.list (and-left (is_refined_list a) (is_refined_list b && true) k) f)
      (j.list (and-left (is_refined_list b) true (and-right (is_refined_list a) (is_refined_list b && true) k)) g))))

  -- An operator of other numbers of operands is none.
  no-operands : (op : Op) → of_refined op no_exs ≡ true → has_operands op no_exs ≡ true → ⊥
  no-operands (unary o) r h = cc
  no-operands (binary o) r h = cc
  no-operands (word f) r h = cc
  no-operands op r h = cc

  many-operands : (op : Op) (a b c : Ex) (es : Exs) → of_refined op (more_exs a (more_exs b (more_exs c es))) ≡ true →
      has_operands op (more_exs a (more_exs b (more_exs c es))) ≡ true → ⊥
  many-operands (unary o) a b c es r h = cc
  many-operands (binary o) a b c es r h = cc
  many-operands (word f) a b c es r h = cc
  many-operands op a b c es r h = cc

  node : (b : Bool) (op : Op) (es : Exs) → (iff b (is_truth_op op) && of_refined op es) ≡ true → has_lowerable s op es ≡ true →
      is_lowerable s (node_ex b op es) ≡ true
  node b op es r h =
      both (same_truth b (is_truth_op op)) (has_lowerable s op es)
      (sym (same-iff b (is_truth_op op)) ∙ and-left (iff b (is_truth_op op)) (of_refined op es) r) h

  mutual
    -- An expression.
    pub whole : (e : Ex) → is_refined e ≡ true → is_formed s e ≡ true → is_lowerable s e ≡ true
    whole (number_ex n) r f = refl
    whole (truth_ex b) r f = refl
    whole (name_ex a) r f = refl
    whole (cell_ex b a es) r f =
        both (same_truth b (is_truth_table s a)) (are_lowerable s es) (and-left (same_truth b (is_truth_table s a)) (are_formed s es) f)
        (all es r (and-right (same_truth b (is_truth_table s a)) (are_formed s es) f))
    whole (node_ex b op no_exs) r f =
        absurd (no-operands op (and-right (iff b (is_truth_op op)) (of_refined op no_exs) r) (and-left (has_operands op no_exs) true f))
    whole (node_ex b op (more_exs a no_exs)) r f =
        let es : Exs = more_exs a no_exs in
        node b op es r
        (one-operand op a (record { whole = whole a; list = list a }) (and-right (iff b (is_truth_op op)) (of_refined op es) r)
        (and-left (has_operands op es) (are_formed s es) f)
        (and-left (is_formed s a) true (and-right (has_operands op es) (are_formed s es) f)))
    whole (node_ex b op (more_exs a (more_exs c no_exs))) r f =
        let es : Exs = more_exs a (more_exs c no_exs) in
        let k : are_formed s es ≡ true = and-right (has_operands op es) (are_formed s es) f in
        node b op es r
        (two-operands op a c (record { whole = whole a; list = list a }) (record { whole = whole c; list = list c })
        (and-right (iff b (is_truth_op op)) (of_refined op es) r)
        (and-left (has_operands op es) (are_formed s es) f) (and-left (is_formed s a) (is_formed s c && true) k)
        (and-left (is_formed s c) true (and-right (is_formed s a) (is_formed s c && true) k)))
    whole (node_ex b op (more_exs a (more_exs c (more_exs d es)))) r f =
        let fs : Exs = more_exs a (more_exs c (more_exs d es)) in
        absurd (many-operands op a c d es (and-right (iff b (is_truth_op op)) (of_refined op fs) r)
        (and-left (has_operands op fs) (are_formed s fs) f))
    whole (matrix_ex es d) r f = cc
    whole (comp_ex e gs) r f = cc
    whole (seen_ex v d ns es) r f = cc

    -- Several.
    all : (es : Exs) → are_refined es ≡ true → are_formed s es ≡ true → are_lowerable s es ≡ true
    all no_exs r f = refl
    all (more_exs e es) r f =
        both (is_lowerable s e) (are_lowerable s es)
        (whole e (and-left (is_refined e) (are_refined es) r) (and-left (is_formed s e) (are_formed s es) f))
        (all es (and-right (is_refined e) (are_refined es) r) (and-right (is_formed s e) (are_formed s es) f))

    -- A list.
    list : (e : Ex) → is_refined_list e ≡ true → is_formed s e ≡ true → is_lowerable_list s e ≡ true
    list (node_ex false matrix_literal es) r f = all es r f
    list (node_ex true matrix_literal es) r f = cc
    list (comp_ex e gs) r f =
        both (is_lowerable s e) (are_lowerable_gens s gs)
        (whole e (and-left (is_refined e) (are_refined_gens gs) r) (and-left (is_formed s e) (are_gens_formed s gs) f))
        (gens gs (and-right (is_refined e) (are_refined_gens gs) r) (and-right (is_formed s e) (are_gens_formed s gs) f))
    list e r f = cc

    -- Generators and conditions.
    gens : (gs : Gens) → are_refined_gens gs ≡ true → are_gens_formed s gs ≡ true → are_lowerable_gens s gs ≡ true
    gens no_gens r f = refl
    gens (over (name_pat a) bool_dom gs) r f = gens gs r f
    gens (over (name_pat a) (int_dom rs es) gs) r f =
        let t : Bool = fit_ranges rs es && are_formed s es in
        both (is_bounded rs && (fit_ranges rs es && are_lowerable s es)) (are_lowerable_gens s gs)
        (both (is_bounded rs) (fit_ranges rs es && are_lowerable s es)
        (and-left (is_bounded rs) (are_refined es) (and-left (is_bounded rs && are_refined es) (are_refined_gens gs) r))
        (both (fit_ranges rs es) (are_lowerable s es) (and-left (fit_ranges rs es) (are_formed s es) (and-left t (are_gens_formed s gs) f))
        (all es (and-right (is_bounded rs) (are_refined es) (and-left (is_bounded rs && are_refined es) (are_refined_gens gs) r))
        (and-right (fit_ranges rs es) (are_formed s es) (and-left t (are_gens_formed s gs) f)))))
        (gens gs (and-right (is_bounded rs && are_refined es) (are_refined_gens gs) r) (and-right t (are_gens_formed s gs) f))
    gens (over p d gs) r f = cc
    gens (from p e gs) r f = cc
    gens (cond e gs) r f =
        both (is_lowerable s e) (are_lowerable_gens s gs)
        (whole e (and-left (is_refined e) (are_refined_gens gs) r) (and-left (is_formed s e) (are_gens_formed s gs) f))
        (gens gs (and-right (is_refined e) (are_refined_gens gs) r) (and-right (is_formed s e) (are_gens_formed s gs) f))
