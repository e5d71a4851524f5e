-- Where operands stay expressions of a model, and stay lists, so does what stands over them.
use Rattle.std.proofs.Common.{◌≡◌, refl, sym, ◌∙◌, Bool, true, false, ◌&&◌, if◌then◌else◌, List}
use Rattle.ess_semantics.specs.Kinds.{is_bounded}
use Rattle.ess_semantics.specs.Values.{Text}
use Rattle.ess_semantics.specs.Trees.{Op, unary, binary, word, matrix_literal, is_truth_op, Ends, Ex, Exs, node_ex, cell_ex, int_dom}
use Rattle.ess_semantics.proofs.Tests.{and-left, and-right, and-both}
use Rattle.ess_grammar.specs.Readable.{fit_ranges}
use Rattle.ess_grammar.specs.Models.{Scope, is_truth_table, same_truth}
use Rattle.eprime_lowering_laws.specs.Lowerable.{is_prefix, is_over_list, is_infix, is_lex, is_lowerable, has_lowerable, are_lowerable, is_lowerable_list, is_lowerable_dom}
use Rattle.ess_lowered_laws.proofs.Alongside.{Along, none_left, one_beside, fit-along}

-- One of two tests, where each part that holds before holds after.
one-kept : (t u p q v w : Bool) → (p ≡ true → v ≡ true) → (q ≡ true → w ≡ true) → (if t then p else (u && q)) ≡ true →
    (if t then v else (u && w)) ≡ true
one-kept true u p q v w f g h = f h
one-kept false true p q v w f g h = g h
one-kept false false p q v w f g h = h

-- Both of two tests.
pub both-kept : (p q v w : Bool) → (p ≡ true → v ≡ true) → (q ≡ true → w ≡ true) → p && q ≡ true → v && w ≡ true
both-kept p q v w f g h = and-both v w (f (and-left p q h)) (g (and-right p q h))

module _ (s : Scope) where
  -- Where the old tree is an expression of a model the new one is one, and where it is a list the new one is.
  pub record StaysLowerable (old new : Ex) : Type 0 where
    pub whole : is_lowerable s old ≡ true → is_lowerable s new ≡ true
    pub list : is_lowerable_list s old ≡ true → is_lowerable_list s new ≡ true

  -- The same of each of several.
  abbrev pub Stay : Exs → Exs → Type 0
  Stay = Along StaysLowerable

  -- All are expressions of a model, where all were.
  pub all-kept : {es fs : Exs} → Stay es fs → are_lowerable s es ≡ true → are_lowerable s fs ≡ true
  all-kept none_left h = refl
  all-kept (one_beside {e = e} {f = f} {es = es} {fs = fs} k l) h =
      both-kept (is_lowerable s e) (are_lowerable s es) (is_lowerable s f) (are_lowerable s fs) k.whole (all-kept l) h

  -- An operator of models has its operands.
  pub operands-kept : (op : Op) {es fs : Exs} → Stay es fs → has_lowerable s op es ≡ true → has_lowerable s op fs ≡ true
  operands-kept op none_left h = h
  operands-kept op (one_beside {e = e} {f = f} k none_left) h =
      one-kept (is_prefix op) (is_over_list op) (is_lowerable s e) (is_lowerable_list s e) (is_lowerable s f) (is_lowerable_list s f)
      k.whole k.list h
  operands-kept op (one_beside {e = e} {f = f} k (one_beside {e = a} {f = b} j none_left)) h =
      one-kept (is_infix op) (is_lex op) (is_lowerable s e && is_lowerable s a) (is_lowerable_list s e && is_lowerable_list s a)
      (is_lowerable s f && is_lowerable s b) (is_lowerable_list s f && is_lowerable_list s b)
      (both-kept (is_lowerable s e) (is_lowerable s a) (is_lowerable s f) (is_lowerable s b) k.whole j.whole)
      (both-kept (is_lowerable_list s e) (is_lowerable_list s a) (is_lowerable_list s f) (is_lowerable_list s b) k.list j.list) h
  operands-kept op (one_beside k (one_beside j (one_beside i l))) h = h

  -- So a node on such operands stays an expression of a model.
  pub node-kept : (b : Bool) (op : Op) {es fs : Exs} → Stay es fs → is_lowerable s (node_ex b op es) ≡ true →
      is_lowerable s (node_ex b op fs) ≡ true
  node-kept b op {es = es} {fs = fs} l h =
      both-kept (same_truth b (is_truth_op op)) (has_lowerable s op es) (same_truth b (is_truth_op op)) (has_lowerable s op fs) (λ q. q)
      (operands-kept op l) h

  -- It stays a list.
  pub items-kept : (b : Bool) (op : Op) {es fs : Exs} → Stay es fs → is_lowerable_list s (node_ex b op es) ≡ true →
      is_lowerable_list s (node_ex b op fs) ≡ true
  items-kept true matrix_literal l h = h
  items-kept false matrix_literal l h = all-kept l h
  items-kept b (unary o) l h = h
  items-kept b (binary o) l h = h
  items-kept b (word f) l h = h
  items-kept b op l h = h

  -- So does a cell.
  pub cell-kept : (b : Bool) (a : Text) {es fs : Exs} → Stay es fs → is_lowerable s (cell_ex b a es) ≡ true →
      is_lowerable s (cell_ex b a fs) ≡ true
  cell-kept b a {es = es} {fs = fs} l h =
      both-kept (same_truth b (is_truth_table s a)) (are_lowerable s es) (same_truth b (is_truth_table s a)) (are_lowerable s fs) (λ q. q)
      (all-kept l) h

  -- So does a domain of numbers.
  pub ranges-kept : (rs : List Ends) {es fs : Exs} → Stay es fs → is_lowerable_dom s false (int_dom rs es) ≡ true →
      is_lowerable_dom s false (int_dom rs fs) ≡ true
  ranges-kept rs {es = es} {fs = fs} l h =
      both-kept (is_bounded rs) (fit_ranges rs es && are_lowerable s es) (is_bounded rs) (fit_ranges rs fs && are_lowerable s fs) (λ q. q)
      (both-kept (fit_ranges rs es) (are_lowerable s es) (fit_ranges rs fs) (are_lowerable s fs)
      (λ q. sym (fit-along StaysLowerable rs l) ∙ q) (all-kept l)) h
