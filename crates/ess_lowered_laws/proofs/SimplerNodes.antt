-- A node that is an expression of a model stays one when it is simplified.
use Rattle.std.proofs.Common.{◌≡◌, refl, Bool, true, false, ◌&&◌, if◌then◌else◌}
use Rattle.std.specs.Prelude.{is_some}
use Rattle.ess_semantics.specs.declared.words.Op1.{Op1}
use Rattle.ess_semantics.specs.declared.words.Op2.{Op2}
use Rattle.ess_semantics.specs.Trees.{Op, unary, binary, word, Ex, Exs, truth_ex, node_ex, no_exs, more_exs, ex2}
use Rattle.ess_semantics.specs.Operators.{connective}
use Rattle.ess_semantics.proofs.Tests.{and-left, and-right, and-both}
use Rattle.ess_grammar.specs.Models.{Scope, same_truth}
use Rattle.ess_simplify_laws.specs.declared.words.Outcome.{Outcome}
use Rattle.ess_simplify_laws.specs.Simplifying.{said, denied, outcome, left, simpler_node}
use Rattle.eprime_lowering_laws.specs.Lowerable.{is_lowerable, is_lowerable_list}

module _ (s : Scope) where
  -- `!` of an operand.
  denied-kept : (b : Bool) (x : Ex) → same_truth b true ≡ true → is_lowerable s x ≡ true → is_lowerable s (denied b x) ≡ true
  denied-kept b (truth_ex v) t h = refl
  denied-kept b (node_ex c (unary Op1.Not) no_exs) t h = refl
  denied-kept b (node_ex c (unary Op1.Not) (more_exs a no_exs)) t h = and-right (same_truth c true) (is_lowerable s a) h
  denied-kept b (node_ex c (unary Op1.Not) (more_exs a (more_exs d es))) t h = refl
  denied-kept b x t h = and-both (same_truth b true) (is_lowerable s x) t h

  -- What is left of a connective.
  left-kept : (b : Bool) (o : Op2) (x y : Ex) → is_lowerable s (ex2 b o x y) ≡ true → same_truth b true ≡ true → is_lowerable s x ≡ true →
      is_lowerable s y ≡ true → (c : Outcome) → is_lowerable s (left b o x y c) ≡ true
  left-kept b o x y h t f g Outcome.Stays = h
  left-kept b o x y h t f g Outcome.First = f
  left-kept b o x y h t f g Outcome.Second = g
  left-kept b o x y h t f g Outcome.FirstDenied = denied-kept b x t f
  left-kept b o x y h t f g Outcome.SecondDenied = denied-kept b y t g
  left-kept b o x y h t f g (Outcome.Says v) = refl

  -- Its operands are two expressions of a model.
  connective-kept : (b : Bool) (o : Op2) (x y : Ex) → is_lowerable s (ex2 b o x y) ≡ true →
      same_truth b true && (is_lowerable s x && is_lowerable s y) ≡ true → (c : Outcome) → is_lowerable s (left b o x y c) ≡ true
  connective-kept b o x y h k c =
      let j : is_lowerable s x && is_lowerable s y ≡ true = and-right (same_truth b true) (is_lowerable s x && is_lowerable s y) k in
      left-kept b o x y h (and-left (same_truth b true) (is_lowerable s x && is_lowerable s y) k)
      (and-left (is_lowerable s x) (is_lowerable s y) j) (and-right (is_lowerable s x) (is_lowerable s y) j) c

  two-kept : (b : Bool) (o : Op2) (x y : Ex) → is_lowerable s (ex2 b o x y) ≡ true →
      is_lowerable s (left b o x y (outcome o (said x) (said y))) ≡ true
  two-kept b Op2.And x y h = connective-kept b Op2.And x y h h (outcome Op2.And (said x) (said y))
  two-kept b Op2.Or x y h = connective-kept b Op2.Or x y h h (outcome Op2.Or (said x) (said y))
  two-kept b Op2.Implies x y h = connective-kept b Op2.Implies x y h h (outcome Op2.Implies (said x) (said y))
  two-kept b Op2.Iff x y h = connective-kept b Op2.Iff x y h h (outcome Op2.Iff (said x) (said y))
  two-kept b o x y h = h

  -- A connective on another number of operands is none.
  other-kept : (c b : Bool) (op : Op) (es : Exs) → is_lowerable s (node_ex b op es) ≡ true →
      is_lowerable s (if c then truth_ex false else node_ex b op es) ≡ true
  other-kept true b op es h = refl
  other-kept false b op es h = h

  -- A node stays an expression of a model.
  pub simpler-kept : (b : Bool) (op : Op) (es : Exs) → is_lowerable s (node_ex b op es) ≡ true →
      is_lowerable s (simpler_node b op es) ≡ true
  simpler-kept b (unary Op1.Not) no_exs h = refl
  simpler-kept b (unary Op1.Not) (more_exs a no_exs) h =
      denied-kept b a (and-left (same_truth b true) (is_lowerable s a) h) (and-right (same_truth b true) (is_lowerable s a) h)
  simpler-kept b (unary Op1.Not) (more_exs a (more_exs c es)) h = refl
  simpler-kept b (unary Op1.Minus) es h = h
  simpler-kept b (unary Op1.Bar) es h = h
  simpler-kept b (binary o) (more_exs x (more_exs y no_exs)) h = two-kept b o x y h
  simpler-kept b (binary o) no_exs h = other-kept (is_some (connective (binary o))) b (binary o) no_exs h
  simpler-kept b (binary o) (more_exs x no_exs) h = other-kept (is_some (connective (binary o))) b (binary o) (more_exs x no_exs) h
  simpler-kept b (binary o) (more_exs x (more_exs y (more_exs z es))) h =
      other-kept (is_some (connective (binary o))) b (binary o) (more_exs x (more_exs y (more_exs z es))) h
  simpler-kept b op es h = h

  -- It stays a list.
  pub simpler-list : (b : Bool) (op : Op) (es : Exs) → is_lowerable_list s (node_ex b op es) ≡ true →
      is_lowerable_list s (simpler_node b op es) ≡ true
  simpler-list b (unary o) es h = cc
  simpler-list b (binary o) es h = cc
  simpler-list b (word f) es h = h
  simpler-list b op es h = h
