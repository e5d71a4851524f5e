-- The simplified tree has no new nodes but `!`, `true` and `false`.
use Rattle.std.proofs.Common.{◌≡◌, refl, sym, ap, ◌∙◌, Bool, true, false, ◌||◌, if◌then◌else◌, List, [], ◌∷◌, ◌++◌}
use Rattle.std.specs.Prelude.{is_some}
use Rattle.ess_semantics.specs.declared.words.Op1.{Op1}
use Rattle.ess_semantics.specs.declared.words.Op2.{Op2}
use Rattle.ess_semantics.specs.Trees.{Op, unary, binary, word, index, application, tuple_literal, set_literal, mset_literal, function_literal, relation_literal, partition_literal, matrix_literal, record_literal, Ex, Exs, number_ex, truth_ex, name_ex, node_ex, matrix_ex, comp_ex, cell_ex, seen_ex, no_exs, more_exs, Gens, no_gens, over, from, cond, Dom, Doms, bool_dom, int_dom, name_dom, tuple_dom, record_dom, matrix_dom, set_dom, mset_dom, function_dom, relation_dom, partition_dom, no_doms, more_doms, ex1, ex2}
use Rattle.ess_semantics.specs.Operators.{connective}
use Rattle.ess_semantics.specs.Contexts.{Each}
use Rattle.ess_semantics.specs.Occurrences.{parts_of, parts_of_all, parts_of_gens, parts_of_dom, parts_of_doms}
use Rattle.ess_semantics.specs.Simplified.{bare_dom, bare_doms, bare_gens, bare, HasNode, at_first, at_later, is_written_anew}
use Rattle.ess_simplify_laws.specs.declared.words.Outcome.{Outcome}
use Rattle.ess_simplify_laws.specs.Simplifying.{said, denied, outcome, left, simpler_unary, simpler_binary, simpler_node, simplified, all_simplified, gens_simplified, dom_simplified, doms_simplified}

-- ---- trees among others

-- Each of the trees has a node of one of the others at its root, if it isn't written anew.
abbrev pub From : List Ex → List Ex → Type 0
From xs ys = Each xs (λ x. is_written_anew x ≡ false → HasNode ys x)

has-front : (ys zs : List Ex) (x : Ex) → HasNode ys x → HasNode (ys ++ zs) x
has-front [] zs x h = elim h [ ]
has-front (y ∷ ys) zs x (at_first e) = at_first e
has-front (y ∷ ys) zs x (at_later h) = at_later (has-front ys zs x h)

has-back : (ys zs : List Ex) (x : Ex) → HasNode zs x → HasNode (ys ++ zs) x
has-back [] zs x h = h
has-back (y ∷ ys) zs x h = at_later (has-back ys zs x h)

all-from : (xs ys zs : List Ex) → ((x : Ex) → HasNode ys x → HasNode zs x) → From xs ys → From xs zs
all-from [] ys zs f h = tt
all-from (x ∷ xs) ys zs f h = ((λ e. f x (h.0 e)), all-from xs ys zs f h.1)

joined : (xs ys zs : List Ex) → From xs zs → From ys zs → From (xs ++ ys) zs
joined [] ys zs p q = q
joined (x ∷ xs) ys zs p q = (p.0, joined xs ys zs p.1 q)

front : (xs ys zs : List Ex) → From (xs ++ ys) zs → From xs zs
front [] ys zs h = tt
front (x ∷ xs) ys zs h = (h.0, front xs ys zs h.1)

back : (xs ys zs : List Ex) → From (xs ++ ys) zs → From ys zs
back [] ys zs h = h
back (x ∷ xs) ys zs h = back xs ys zs h.1

-- Two lists side by side.
beside : (xs xs' ys ys' : List Ex) → From xs xs' → From ys ys' → From (xs ++ ys) (xs' ++ ys')
beside xs xs' ys ys' p q =
    joined xs ys (xs' ++ ys') (all-from xs xs' (xs' ++ ys') (λ x. has-front xs' ys' x) p)
    (all-from ys ys' (xs' ++ ys') (λ x. has-back xs' ys' x) q)

-- A node whose parts come from those of another one, and which is that node but for its parts.
under : (x y : Ex) (xs ys : List Ex) → bare y ≡ bare x → From xs ys → From (x ∷ xs) (y ∷ ys)
under x y xs ys e h = ((λ n. at_first e), all-from xs ys (y ∷ ys) (λ z k. at_later k) h)

-- ---- one node

-- What is written anew asks for nothing.
anew : (b : Bool) → (true || b) ≡ false → ⊥
anew b e = cc

denied-stays : (b : Bool) (a : Ex) (zs : List Ex) → From (parts_of a) zs → From (parts_of (ex1 b Op1.Not a)) zs
denied-stays b a zs h = ((λ e. cc), joined (parts_of a) [] zs h tt)

pub denied-from : (b : Bool) (a : Ex) (zs : List Ex) → From (parts_of a) zs → From (parts_of (denied b a)) zs
denied-from b (truth_ex v) zs h = ((λ e. cc), tt)
denied-from b (node_ex c (unary Op1.Not) no_exs) zs h = ((λ e. cc), tt)
denied-from b (node_ex c (unary Op1.Not) (more_exs a no_exs)) zs h = front (parts_of a) [] zs h.1
denied-from b (node_ex c (unary Op1.Not) (more_exs a (more_exs x xs))) zs h = ((λ e. cc), tt)
denied-from b (number_ex n) zs h = denied-stays b (number_ex n) zs h
denied-from b (name_ex n) zs h = denied-stays b (name_ex n) zs h
denied-from b (node_ex c (unary Op1.Minus) es) zs h = denied-stays b (node_ex c (unary Op1.Minus) es) zs h
denied-from b (node_ex c (unary Op1.Bar) es) zs h = denied-stays b (node_ex c (unary Op1.Bar) es) zs h
denied-from b (node_ex c (binary o) es) zs h = denied-stays b (node_ex c (binary o) es) zs h
denied-from b (node_ex c (word f) es) zs h = denied-stays b (node_ex c (word f) es) zs h
denied-from b (node_ex c (index qs) es) zs h = denied-stays b (node_ex c (index qs) es) zs h
denied-from b (node_ex c application es) zs h = denied-stays b (node_ex c application es) zs h
denied-from b (node_ex c tuple_literal es) zs h = denied-stays b (node_ex c tuple_literal es) zs h
denied-from b (node_ex c set_literal es) zs h = denied-stays b (node_ex c set_literal es) zs h
denied-from b (node_ex c mset_literal es) zs h = denied-stays b (node_ex c mset_literal es) zs h
denied-from b (node_ex c function_literal es) zs h = denied-stays b (node_ex c function_literal es) zs h
denied-from b (node_ex c relation_literal es) zs h = denied-stays b (node_ex c relation_literal es) zs h
denied-from b (node_ex c partition_literal es) zs h = denied-stays b (node_ex c partition_literal es) zs h
denied-from b (node_ex c matrix_literal es) zs h = denied-stays b (node_ex c matrix_literal es) zs h
denied-from b (node_ex c (record_literal fs) es) zs h = denied-stays b (node_ex c (record_literal fs) es) zs h
denied-from b (matrix_ex es d) zs h = denied-stays b (matrix_ex es d) zs h
denied-from b (comp_ex e gs) zs h = denied-stays b (comp_ex e gs) zs h
denied-from b (cell_ex c n es) zs h = denied-stays b (cell_ex c n es) zs h
denied-from b (seen_ex r d ns es) zs h = denied-stays b (seen_ex r d ns es) zs h

-- The node itself, on any operands, comes from the trees.
module _ (b : Bool) (zs : List Ex) where
  abbrev Stands : Op → Type 0
  Stands op = (es : Exs) → HasNode zs (node_ex b op es)

  left-from : (o : Op2) (x y : Ex) (c : Outcome) → Stands (binary o) → From (parts_of_all (more_exs x (more_exs y no_exs))) zs
      → From (parts_of (left b o x y c)) zs
  left-from o x y Outcome.Stays s h = ((λ e. s (more_exs x (more_exs y no_exs))), h)
  left-from o x y Outcome.First s h = front (parts_of x) (parts_of y ++ []) zs h
  left-from o x y Outcome.Second s h = front (parts_of y) [] zs (back (parts_of x) (parts_of y ++ []) zs h)
  left-from o x y Outcome.FirstDenied s h = denied-from b x zs (front (parts_of x) (parts_of y ++ []) zs h)
  left-from o x y Outcome.SecondDenied s h = denied-from b y zs (front (parts_of y) [] zs (back (parts_of x) (parts_of y ++ []) zs h))
  left-from o x y (Outcome.Says v) s h = ((λ e. cc), tt)

  other-from : (o : Op2) (es : Exs) (j : Bool) → Stands (binary o) → From (parts_of_all es) zs
      → From (parts_of (if j then truth_ex false else node_ex b (binary o) es)) zs
  other-from o es true s h = ((λ e. cc), tt)
  other-from o es false s h = ((λ e. s es), h)

  binary-from : (o : Op2) (es : Exs) → Stands (binary o) → From (parts_of_all es) zs → From (parts_of (simpler_binary b o es)) zs
  binary-from o (more_exs x (more_exs y no_exs)) s h = left-from o x y (outcome o (said x) (said y)) s h
  binary-from o no_exs s h = other-from o no_exs (is_some (connective (binary o))) s h
  binary-from o (more_exs x no_exs) s h = other-from o (more_exs x no_exs) (is_some (connective (binary o))) s h
  binary-from o (more_exs x (more_exs y (more_exs z xs))) s h =
      other-from o (more_exs x (more_exs y (more_exs z xs))) (is_some (connective (binary o))) s h

  unary-from : (o : Op1) (es : Exs) → Stands (unary o) → From (parts_of_all es) zs → From (parts_of (simpler_unary b o es)) zs
  unary-from Op1.Not no_exs s h = ((λ e. cc), tt)
  unary-from Op1.Not (more_exs a no_exs) s h = denied-from b a zs (front (parts_of a) [] zs h)
  unary-from Op1.Not (more_exs a (more_exs x xs)) s h = ((λ e. cc), tt)
  unary-from Op1.Minus es s h = ((λ e. s es), h)
  unary-from Op1.Bar es s h = ((λ e. s es), h)

  pub node-from : (op : Op) (es : Exs) → Stands op → From (parts_of_all es) zs → From (parts_of (simpler_node b op es)) zs
  node-from (unary o) es s h = unary-from o es s h
  node-from (binary o) es s h = binary-from o es s h
  node-from (word f) es s h = ((λ e. s es), h)
  node-from (index qs) es s h = ((λ e. s es), h)
  node-from application es s h = ((λ e. s es), h)
  node-from tuple_literal es s h = ((λ e. s es), h)
  node-from set_literal es s h = ((λ e. s es), h)
  node-from mset_literal es s h = ((λ e. s es), h)
  node-from function_literal es s h = ((λ e. s es), h)
  node-from relation_literal es s h = ((λ e. s es), h)
  node-from partition_literal es s h = ((λ e. s es), h)
  node-from matrix_literal es s h = ((λ e. s es), h)
  node-from (record_literal fs) es s h = ((λ e. s es), h)

-- ---- parts aside, nothing changes

mutual
  bare-dom : (d : Dom) → bare_dom d ≡ bare_dom (dom_simplified d)
  bare-dom bool_dom = refl
  bare-dom (int_dom rs es) = refl
  bare-dom (name_dom a) = refl
  bare-dom (tuple_dom ds) = ap tuple_dom (bare-doms ds)
  bare-dom (record_dom fs ds) = ap (record_dom fs) (bare-doms ds)
  bare-dom (matrix_dom is d) =
      ap (λ x. matrix_dom x (bare_dom d)) (bare-doms is) ∙ ap (matrix_dom (bare_doms (doms_simplified is))) (bare-dom d)
  bare-dom (set_dom ms es d) = ap (set_dom ms no_exs) (bare-dom d)
  bare-dom (mset_dom ms es d) = ap (mset_dom ms no_exs) (bare-dom d)
  bare-dom (function_dom ms es d c) =
      ap (λ x. function_dom ms no_exs x (bare_dom c)) (bare-dom d) ∙ ap (function_dom ms no_exs (bare_dom (dom_simplified d))) (bare-dom c)
  bare-dom (relation_dom ms es ds) = ap (relation_dom ms no_exs) (bare-doms ds)
  bare-dom (partition_dom ms es d) = ap (partition_dom ms no_exs) (bare-dom d)

  bare-doms : (ds : Doms) → bare_doms ds ≡ bare_doms (doms_simplified ds)
  bare-doms no_doms = refl
  bare-doms (more_doms d ds) =
      ap (λ x. more_doms x (bare_doms ds)) (bare-dom d) ∙ ap (more_doms (bare_dom (dom_simplified d))) (bare-doms ds)

bare-gens : (gs : Gens) → bare_gens gs ≡ bare_gens (gens_simplified gs)
bare-gens no_gens = refl
bare-gens (over p d gs) = ap (λ x. over p x (bare_gens gs)) (bare-dom d) ∙ ap (over p (bare_dom (dom_simplified d))) (bare-gens gs)
bare-gens (from p e gs) = ap (from p (truth_ex true)) (bare-gens gs)
bare-gens (cond e gs) = ap (cond (truth_ex true)) (bare-gens gs)

-- ---- trees

mutual
  -- The parts of the simplified tree come from those of the tree.
  pub simplified-from : (e : Ex) → From (parts_of (simplified e)) (parts_of e)
  simplified-from (number_ex n) = ((λ h. at_first refl), tt)
  simplified-from (truth_ex v) = ((λ h. at_first refl), tt)
  simplified-from (name_ex a) = ((λ h. at_first refl), tt)
  simplified-from (node_ex b op es) =
      node-from b (parts_of (node_ex b op es)) op (all_simplified es) (λ xs. at_first refl)
      (all-from (parts_of_all (all_simplified es)) (parts_of_all es) (parts_of (node_ex b op es)) (λ z k. at_later k)
      (all-operands-from es))
  simplified-from (matrix_ex es d) = under (matrix_ex (all_simplified es) (dom_simplified d)) (matrix_ex es d)
      (parts_of_all (all_simplified es) ++ parts_of_dom (dom_simplified d)) (parts_of_all es ++ parts_of_dom d)
      (ap (matrix_ex no_exs) (bare-dom d))
      (beside (parts_of_all (all_simplified es)) (parts_of_all es) (parts_of_dom (dom_simplified d)) (parts_of_dom d)
      (all-operands-from es) (dom-from d))
  simplified-from (comp_ex e gs) = under (comp_ex (simplified e) (gens_simplified gs)) (comp_ex e gs)
      (parts_of (simplified e) ++ parts_of_gens (gens_simplified gs)) (parts_of e ++ parts_of_gens gs)
      (ap (comp_ex (truth_ex true)) (bare-gens gs))
      (beside (parts_of (simplified e)) (parts_of e) (parts_of_gens (gens_simplified gs)) (parts_of_gens gs) (simplified-from e)
      (gens-from gs))
  simplified-from (cell_ex b n es) = under (cell_ex b n (all_simplified es)) (cell_ex b n es)
      (parts_of_all (all_simplified es)) (parts_of_all es) refl (all-operands-from es)
  simplified-from (seen_ex r d ns es) = under (seen_ex r (dom_simplified d) ns (all_simplified es)) (seen_ex r d ns es)
      (parts_of_dom (dom_simplified d) ++ parts_of_all (all_simplified es)) (parts_of_dom d ++ parts_of_all es)
      (ap (λ x. seen_ex r x ns no_exs) (bare-dom d))
      (beside (parts_of_dom (dom_simplified d)) (parts_of_dom d) (parts_of_all (all_simplified es)) (parts_of_all es) (dom-from d)
      (all-operands-from es))

  all-operands-from : (es : Exs) → From (parts_of_all (all_simplified es)) (parts_of_all es)
  all-operands-from no_exs = tt
  all-operands-from (more_exs e es) =
      beside (parts_of (simplified e)) (parts_of e) (parts_of_all (all_simplified es)) (parts_of_all es) (simplified-from e)
      (all-operands-from es)

  gens-from : (gs : Gens) → From (parts_of_gens (gens_simplified gs)) (parts_of_gens gs)
  gens-from no_gens = tt
  gens-from (over p d gs) =
      beside (parts_of_dom (dom_simplified d)) (parts_of_dom d) (parts_of_gens (gens_simplified gs)) (parts_of_gens gs) (dom-from d)
      (gens-from gs)
  gens-from (from p e gs) =
      beside (parts_of (simplified e)) (parts_of e) (parts_of_gens (gens_simplified gs)) (parts_of_gens gs) (simplified-from e)
      (gens-from gs)
  gens-from (cond e gs) =
      beside (parts_of (simplified e)) (parts_of e) (parts_of_gens (gens_simplified gs)) (parts_of_gens gs) (simplified-from e)
      (gens-from gs)

  dom-from : (d : Dom) → From (parts_of_dom (dom_simplified d)) (parts_of_dom d)
  dom-from bool_dom = tt
  dom-from (int_dom rs es) = all-operands-from es
  dom-from (name_dom a) = tt
  dom-from (tuple_dom ds) = doms-from ds
  dom-from (record_dom fs ds) = doms-from ds
  dom-from (matrix_dom is d) =
      beside (parts_of_doms (doms_simplified is)) (parts_of_doms is) (parts_of_dom (dom_simplified d)) (parts_of_dom d) (doms-from is)
      (dom-from d)
  dom-from (set_dom ms es d) =
      beside (parts_of_all (all_simplified es)) (parts_of_all es) (parts_of_dom (dom_simplified d)) (parts_of_dom d)
      (all-operands-from es) (dom-from d)
  dom-from (mset_dom ms es d) =
      beside (parts_of_all (all_simplified es)) (parts_of_all es) (parts_of_dom (dom_simplified d)) (parts_of_dom d)
      (all-operands-from es) (dom-from d)
  dom-from (function_dom ms es d c) =
      beside (parts_of_all (all_simplified es) ++ parts_of_dom (dom_simplified d)) (parts_of_all es ++ parts_of_dom d)
      (parts_of_dom (dom_simplified c)) (parts_of_dom c)
      (beside (parts_of_all (all_simplified es)) (parts_of_all es) (parts_of_dom (dom_simplified d)) (parts_of_dom d)
      (all-operands-from es) (dom-from d))
      (dom-from c)
  dom-from (relation_dom ms es ds) =
      beside (parts_of_all (all_simplified es)) (parts_of_all es) (parts_of_doms (doms_simplified ds)) (parts_of_doms ds)
      (all-operands-from es) (doms-from ds)
  dom-from (partition_dom ms es d) =
      beside (parts_of_all (all_simplified es)) (parts_of_all es) (parts_of_dom (dom_simplified d)) (parts_of_dom d)
      (all-operands-from es) (dom-from d)

  doms-from : (ds : Doms) → From (parts_of_doms (doms_simplified ds)) (parts_of_doms ds)
  doms-from no_doms = tt
  doms-from (more_doms d ds) =
      beside (parts_of_dom (dom_simplified d)) (parts_of_dom d) (parts_of_doms (doms_simplified ds)) (parts_of_doms ds) (dom-from d)
      (doms-from ds)
