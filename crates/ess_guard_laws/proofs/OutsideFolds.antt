-- What a term spells that stands outside of a fold.
use Rattle.std.proofs.Common.{◌≡◌, refl, sym, ◌∙◌, Bool, true, false, ℤ, pos}
use Rattle.ess_semantics.specs.Values.{Text}
use Rattle.ess_semantics.specs.Names.{Names}
use Rattle.ess_semantics.specs.Trees.{unary, binary, word, index, application, tuple_literal, set_literal, mset_literal, function_literal, relation_literal, partition_literal, matrix_literal, record_literal, Ex, number_ex, truth_ex, name_ex, node_ex, matrix_ex, comp_ex, cell_ex, seen_ex, no_exs, more_exs}
use Rattle.ess_guard_laws.specs.Origins.{Origin}
use Rattle.ess_guard_laws.specs.Conditions.{has_items}
use Rattle.ess_guard_laws.specs.Guard.{guarded}
use Rattle.ess_guard_laws.specs.LiteralsFit.{LiteralsFit}
use Rattle.ess_guard_laws.proofs.ConstantRows as R

module _ (P : ℤ → Type 0) (p0 : P (pos 0)) (p1 : P (pos 1)) where
  abbrev Tree : Bool → Ex → Type 0
  Tree = R.Tree P p0 p1

  -- A term whose form doesn't tell an item spells the same outside of a fold.
  pub tree-outside : (e : Ex) (i : Bool) → LiteralsFit i e → has_items e ≡ false → Tree i e → Tree false e
  tree-outside e false f t p = p
  tree-outside (number_ex n) true f t p = p
  tree-outside (truth_ex b) true f t p = p
  tree-outside (name_ex a) true f t p = p
  tree-outside (matrix_ex es d) true f t p = p
  tree-outside (comp_ex e gs) true f t p = p
  tree-outside (cell_ex b n es) true f t p = p
  tree-outside (seen_ex r d ns es) true f t p = p
  tree-outside (node_ex b (unary o) es) true f t p = p
  tree-outside (node_ex b (binary o) es) true f t p = p
  tree-outside (node_ex b (word w) es) true f t p = p
  tree-outside (node_ex b (index qs) es) true f t p = p
  tree-outside (node_ex b application es) true f t p = p
  tree-outside (node_ex b tuple_literal es) true f t p = p
  tree-outside (node_ex b (record_literal fs) es) true f t p = p
  tree-outside (node_ex true set_literal es) true f t p = let q = f.0 in cc
  tree-outside (node_ex true mset_literal es) true f t p = let q = f.0 in cc
  tree-outside (node_ex true matrix_literal es) true f t p = let q = f.0 in cc
  tree-outside (node_ex true function_literal es) true f t p = let q = f.0 in cc
  tree-outside (node_ex true relation_literal es) true f t p = let q = f.0 in cc
  tree-outside (node_ex true partition_literal es) true f t p = let q = f.0 in cc
  tree-outside (node_ex false function_literal es) true f t p = let q = f.0 in cc
  tree-outside (node_ex false relation_literal es) true f t p = let q = f.0 in cc
  tree-outside (node_ex false partition_literal es) true f t p = let q = f.0 in cc
  tree-outside (node_ex false set_literal no_exs) true f t p = p
  tree-outside (node_ex false mset_literal no_exs) true f t p = p
  tree-outside (node_ex false matrix_literal no_exs) true f t p = p
  tree-outside (node_ex false set_literal (more_exs e es)) true f t p = cc
  tree-outside (node_ex false mset_literal (more_exs e es)) true f t p = cc
  tree-outside (node_ex false matrix_literal (more_exs e es)) true f t p = cc

module _ (natural : Bool) (x y : Text) where
  -- An item that a form tells it tells still.
  items-kept : (e : Ex) (k : Names Origin) → has_items e ≡ true → has_items (guarded natural x y k e) ≡ true
  items-kept (node_ex false matrix_literal (more_exs e es)) k t = refl
  items-kept (node_ex false set_literal (more_exs e es)) k t = refl
  items-kept (node_ex false mset_literal (more_exs e es)) k t = refl
  items-kept e k t = cc

  -- What tells no item told none.
  pub no-items : (e : Ex) (k : Names Origin) → has_items (guarded natural x y k e) ≡ false → has_items e ≡ false
  no-items e k t = go (has_items e) refl
    where
      go : (b : Bool) → has_items e ≡ b → b ≡ false
      go true q = let r : true ≡ false = sym (items-kept e k q) ∙ t in cc
      go false q = refl
