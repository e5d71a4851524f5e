-- The simplified tree is no larger.
use Rattle.std.proofs.Common.{◌≡◌, refl, sym, ap, ◌∙◌, ℕ, suc, ◌+◌, ◌≤◌, Bool, true, false, if◌then◌else◌, List, [], ◌∷◌, ◌++◌, length, arith}
use Rattle.std.specs.Prelude.{is_some, nat_le, IsTrue}
use Rattle.std.proofs.lemmas.Bool.{le-leb}
use Rattle.std.proofs.lemmas.List.{length-append}
use Rattle.ess_semantics.specs.declared.words.Op1.{Op1}
use Rattle.ess_semantics.specs.declared.words.Op2.{Op2}
use Rattle.ess_semantics.specs.Trees.{Op, unary, binary, word, index, application, tuple_literal, set_literal, mset_literal, function_literal, relation_literal, partition_literal, matrix_literal, record_literal, Ex, Exs, number_ex, truth_ex, name_ex, node_ex, matrix_ex, comp_ex, cell_ex, seen_ex, no_exs, more_exs, Gens, no_gens, over, from, cond, Dom, Doms, bool_dom, int_dom, name_dom, tuple_dom, record_dom, matrix_dom, set_dom, mset_dom, function_dom, relation_dom, partition_dom, no_doms, more_doms, ex1, ex2}
use Rattle.ess_semantics.specs.Operators.{connective}
use Rattle.ess_semantics.specs.Occurrences.{parts_of, parts_of_all, parts_of_gens, parts_of_dom, parts_of_doms}
use Rattle.ess_simplify_laws.specs.declared.words.Outcome.{Outcome}
use Rattle.ess_simplify_laws.specs.Simplifying.{said, denied, outcome, left, simpler_unary, simpler_binary, simpler_node, simplified, all_simplified, gens_simplified, dom_simplified, doms_simplified}

-- At most as many trees.
abbrev pub Fewer : List Ex → List Ex → Type 0
Fewer xs ys = length xs ≤ length ys

itself : (xs : List Ex) → Fewer xs xs
itself xs = omega arith

pub side_by_side : (xs xs' ys ys' : List Ex) → Fewer xs xs' → Fewer ys ys' → Fewer (xs ++ ys) (xs' ++ ys')
side_by_side xs xs' ys ys' p q =
    let e : length (xs ++ ys) ≡ length xs + length ys = length-append xs ys in
    let f : length (xs' ++ ys') ≡ length xs' + length ys' = length-append xs' ys' in
    omega (arith, p, q, e, f)

one-more : (x x' : Ex) (xs ys : List Ex) → Fewer xs ys → Fewer (x ∷ xs) (x' ∷ ys)
one-more x x' xs ys h = omega (arith, h)

then-fewer : (xs ys zs : List Ex) → Fewer xs ys → Fewer ys zs → Fewer xs zs
then-fewer xs ys zs p q = omega (arith, p, q)

front : (xs ys : List Ex) → Fewer xs (xs ++ ys)
front xs ys = let e : length (xs ++ ys) ≡ length xs + length ys = length-append xs ys in omega (arith, e)

back : (xs ys : List Ex) → Fewer ys (xs ++ ys)
back xs ys = let e : length (xs ++ ys) ≡ length xs + length ys = length-append xs ys in omega (arith, e)

skip : (x : Ex) (xs ys : List Ex) → Fewer xs ys → Fewer xs (x ∷ ys)
skip x xs ys h = omega (arith, h)

one : (x y : Ex) (ys : List Ex) → Fewer (x ∷ []) (y ∷ ys)
one x y ys = omega arith

-- ---- nodes

denied-stays : (b : Bool) (e : Ex) (r : Ex) → Fewer (parts_of (ex1 b Op1.Not e)) (r ∷ parts_of e)
denied-stays b e r =
    let f : length (parts_of e ++ []) ≡ length (parts_of e) + 0 = length-append (parts_of e) [] in omega (arith, f)

-- `!` of an expression is at most one node larger.
pub denied-fewer : (b : Bool) (e : Ex) (r : Ex) → Fewer (parts_of (denied b e)) (r ∷ parts_of e)
denied-fewer b (truth_ex v) r = omega arith
denied-fewer b (node_ex c (unary Op1.Not) no_exs) r = omega arith
denied-fewer b (node_ex c (unary Op1.Not) (more_exs a no_exs)) r =
    skip r (parts_of a) (ex1 c Op1.Not a ∷ parts_of a ++ [])
    (skip (ex1 c Op1.Not a) (parts_of a) (parts_of a ++ []) (front (parts_of a) []))
denied-fewer b (node_ex c (unary Op1.Not) (more_exs a (more_exs x xs))) r =
    one (truth_ex true) r (parts_of (node_ex c (unary Op1.Not) (more_exs a (more_exs x xs))))
denied-fewer b (number_ex n) r = denied-stays b (number_ex n) r
denied-fewer b (name_ex n) r = denied-stays b (name_ex n) r
denied-fewer b (node_ex c (unary Op1.Minus) es) r = denied-stays b (node_ex c (unary Op1.Minus) es) r
denied-fewer b (node_ex c (unary Op1.Bar) es) r = denied-stays b (node_ex c (unary Op1.Bar) es) r
denied-fewer b (node_ex c (binary o) es) r = denied-stays b (node_ex c (binary o) es) r
denied-fewer b (node_ex c (word f) es) r = denied-stays b (node_ex c (word f) es) r
denied-fewer b (node_ex c (index qs) es) r = denied-stays b (node_ex c (index qs) es) r
denied-fewer b (node_ex c application es) r = denied-stays b (node_ex c application es) r
denied-fewer b (node_ex c tuple_literal es) r = denied-stays b (node_ex c tuple_literal es) r
denied-fewer b (node_ex c set_literal es) r = denied-stays b (node_ex c set_literal es) r
denied-fewer b (node_ex c mset_literal es) r = denied-stays b (node_ex c mset_literal es) r
denied-fewer b (node_ex c function_literal es) r = denied-stays b (node_ex c function_literal es) r
denied-fewer b (node_ex c relation_literal es) r = denied-stays b (node_ex c relation_literal es) r
denied-fewer b (node_ex c partition_literal es) r = denied-stays b (node_ex c partition_literal es) r
denied-fewer b (node_ex c matrix_literal es) r = denied-stays b (node_ex c matrix_literal es) r
denied-fewer b (node_ex c (record_literal fs) es) r = denied-stays b (node_ex c (record_literal fs) es) r
denied-fewer b (matrix_ex es d) r = denied-stays b (matrix_ex es d) r
denied-fewer b (comp_ex e gs) r = denied-stays b (comp_ex e gs) r
denied-fewer b (cell_ex c n es) r = denied-stays b (cell_ex c n es) r
denied-fewer b (seen_ex q d ns es) r = denied-stays b (seen_ex q d ns es) r

under-first : (x y : Ex) (r : Ex) → Fewer (r ∷ parts_of x) (r ∷ parts_of_all (more_exs x (more_exs y no_exs)))
under-first x y r = one-more r r (parts_of x) (parts_of x ++ (parts_of y ++ [])) (front (parts_of x) (parts_of y ++ []))

under-second : (x y : Ex) (r : Ex) → Fewer (r ∷ parts_of y) (r ∷ parts_of_all (more_exs x (more_exs y no_exs)))
under-second x y r = one-more r r (parts_of y) (parts_of x ++ (parts_of y ++ []))
    (then-fewer (parts_of y) (parts_of y ++ []) (parts_of x ++ (parts_of y ++ [])) (front (parts_of y) [])
    (back (parts_of x) (parts_of y ++ [])))

left-fewer : (b : Bool) (o : Op2) (x y : Ex) (c : Outcome) (r : Ex)
    → Fewer (parts_of (left b o x y c)) (r ∷ parts_of_all (more_exs x (more_exs y no_exs)))
left-fewer b o x y Outcome.Stays r =
    one-more (ex2 b o x y) r (parts_of x ++ (parts_of y ++ [])) (parts_of x ++ (parts_of y ++ []))
    (itself (parts_of x ++ (parts_of y ++ [])))
left-fewer b o x y Outcome.First r =
    then-fewer (parts_of x) (r ∷ parts_of x) (r ∷ parts_of x ++ (parts_of y ++ []))
    (skip r (parts_of x) (parts_of x) (itself (parts_of x))) (under-first x y r)
left-fewer b o x y Outcome.Second r =
    then-fewer (parts_of y) (r ∷ parts_of y) (r ∷ parts_of x ++ (parts_of y ++ []))
    (skip r (parts_of y) (parts_of y) (itself (parts_of y))) (under-second x y r)
left-fewer b o x y Outcome.FirstDenied r =
    then-fewer (parts_of (denied b x)) (r ∷ parts_of x) (r ∷ parts_of x ++ (parts_of y ++ [])) (denied-fewer b x r) (under-first x y r)
left-fewer b o x y Outcome.SecondDenied r =
    then-fewer (parts_of (denied b y)) (r ∷ parts_of y) (r ∷ parts_of x ++ (parts_of y ++ [])) (denied-fewer b y r) (under-second x y r)
left-fewer b o x y (Outcome.Says v) r = one (truth_ex v) r (parts_of x ++ (parts_of y ++ []))

other-fewer : (b : Bool) (o : Op2) (es : Exs) (j : Bool) (r : Ex)
    → Fewer (parts_of (if j then truth_ex false else node_ex b (binary o) es)) (r ∷ parts_of_all es)
other-fewer b o es true r = one (truth_ex false) r (parts_of_all es)
other-fewer b o es false r = one-more (node_ex b (binary o) es) r (parts_of_all es) (parts_of_all es) (itself (parts_of_all es))

binary-fewer : (b : Bool) (o : Op2) (es : Exs) (r : Ex) → Fewer (parts_of (simpler_binary b o es)) (r ∷ parts_of_all es)
binary-fewer b o (more_exs x (more_exs y no_exs)) r = left-fewer b o x y (outcome o (said x) (said y)) r
binary-fewer b o no_exs r = other-fewer b o no_exs (is_some (connective (binary o))) r
binary-fewer b o (more_exs x no_exs) r = other-fewer b o (more_exs x no_exs) (is_some (connective (binary o))) r
binary-fewer b o (more_exs x (more_exs y (more_exs z zs))) r =
    other-fewer b o (more_exs x (more_exs y (more_exs z zs))) (is_some (connective (binary o))) r

unary-fewer : (b : Bool) (o : Op1) (es : Exs) (r : Ex) → Fewer (parts_of (simpler_unary b o es)) (r ∷ parts_of_all es)
unary-fewer b Op1.Not no_exs r = one (truth_ex false) r []
unary-fewer b Op1.Not (more_exs a no_exs) r = then-fewer (parts_of (denied b a)) (r ∷ parts_of a) (r ∷ parts_of a ++ [])
    (denied-fewer b a r) (one-more r r (parts_of a) (parts_of a ++ []) (front (parts_of a) []))
unary-fewer b Op1.Not (more_exs a (more_exs x xs)) r = one (truth_ex false) r (parts_of_all (more_exs a (more_exs x xs)))
unary-fewer b Op1.Minus es r = one-more (node_ex b (unary Op1.Minus) es) r (parts_of_all es) (parts_of_all es) (itself (parts_of_all es))
unary-fewer b Op1.Bar es r = one-more (node_ex b (unary Op1.Bar) es) r (parts_of_all es) (parts_of_all es) (itself (parts_of_all es))

pub node-fewer : (b : Bool) (op : Op) (es : Exs) (r : Ex) → Fewer (parts_of (simpler_node b op es)) (r ∷ parts_of_all es)
node-fewer b (unary o) es r = unary-fewer b o es r
node-fewer b (binary o) es r = binary-fewer b o es r
node-fewer b (word f) es r = omega arith
node-fewer b (index qs) es r = omega arith
node-fewer b application es r = omega arith
node-fewer b tuple_literal es r = omega arith
node-fewer b set_literal es r = omega arith
node-fewer b mset_literal es r = omega arith
node-fewer b function_literal es r = omega arith
node-fewer b relation_literal es r = omega arith
node-fewer b partition_literal es r = omega arith
node-fewer b matrix_literal es r = omega arith
node-fewer b (record_literal fs) es r = omega arith

-- ---- trees

mutual
  -- The simplified tree has at most as many parts.
  pub simplified-fewer : (e : Ex) → Fewer (parts_of (simplified e)) (parts_of e)
  simplified-fewer (number_ex n) = omega arith
  simplified-fewer (truth_ex v) = omega arith
  simplified-fewer (name_ex a) = omega arith
  simplified-fewer (node_ex b op es) =
      then-fewer (parts_of (simpler_node b op (all_simplified es))) (node_ex b op es ∷ parts_of_all (all_simplified es))
      (node_ex b op es ∷ parts_of_all es)
      (node-fewer b op (all_simplified es) (node_ex b op es))
      (one-more (node_ex b op es) (node_ex b op es) (parts_of_all (all_simplified es)) (parts_of_all es) (all-fewer es))
  simplified-fewer (matrix_ex es d) = one-more (matrix_ex (all_simplified es) (dom_simplified d)) (matrix_ex es d)
      (parts_of_all (all_simplified es) ++ parts_of_dom (dom_simplified d)) (parts_of_all es ++ parts_of_dom d)
      (side_by_side (parts_of_all (all_simplified es)) (parts_of_all es) (parts_of_dom (dom_simplified d)) (parts_of_dom d)
      (all-fewer es) (dom-fewer d))
  simplified-fewer (comp_ex e gs) = one-more (comp_ex (simplified e) (gens_simplified gs)) (comp_ex e gs)
      (parts_of (simplified e) ++ parts_of_gens (gens_simplified gs)) (parts_of e ++ parts_of_gens gs)
      (side_by_side (parts_of (simplified e)) (parts_of e) (parts_of_gens (gens_simplified gs)) (parts_of_gens gs) (simplified-fewer e)
      (gens-fewer gs))
  simplified-fewer (cell_ex b n es) =
      one-more (cell_ex b n (all_simplified es)) (cell_ex b n es) (parts_of_all (all_simplified es)) (parts_of_all es) (all-fewer es)
  simplified-fewer (seen_ex r d ns es) = one-more (seen_ex r (dom_simplified d) ns (all_simplified es)) (seen_ex r d ns es)
      (parts_of_dom (dom_simplified d) ++ parts_of_all (all_simplified es)) (parts_of_dom d ++ parts_of_all es)
      (side_by_side (parts_of_dom (dom_simplified d)) (parts_of_dom d) (parts_of_all (all_simplified es)) (parts_of_all es)
      (dom-fewer d) (all-fewer es))

  all-fewer : (es : Exs) → Fewer (parts_of_all (all_simplified es)) (parts_of_all es)
  all-fewer no_exs = omega arith
  all-fewer (more_exs e es) =
      side_by_side (parts_of (simplified e)) (parts_of e) (parts_of_all (all_simplified es)) (parts_of_all es) (simplified-fewer e)
      (all-fewer es)

  gens-fewer : (gs : Gens) → Fewer (parts_of_gens (gens_simplified gs)) (parts_of_gens gs)
  gens-fewer no_gens = omega arith
  gens-fewer (over p d gs) =
      side_by_side (parts_of_dom (dom_simplified d)) (parts_of_dom d) (parts_of_gens (gens_simplified gs)) (parts_of_gens gs)
      (dom-fewer d) (gens-fewer gs)
  gens-fewer (from p e gs) =
      side_by_side (parts_of (simplified e)) (parts_of e) (parts_of_gens (gens_simplified gs)) (parts_of_gens gs) (simplified-fewer e)
      (gens-fewer gs)
  gens-fewer (cond e gs) =
      side_by_side (parts_of (simplified e)) (parts_of e) (parts_of_gens (gens_simplified gs)) (parts_of_gens gs) (simplified-fewer e)
      (gens-fewer gs)

  dom-fewer : (d : Dom) → Fewer (parts_of_dom (dom_simplified d)) (parts_of_dom d)
  dom-fewer bool_dom = omega arith
  dom-fewer (int_dom rs es) = all-fewer es
  dom-fewer (name_dom a) = omega arith
  dom-fewer (tuple_dom ds) = doms-fewer ds
  dom-fewer (record_dom fs ds) = doms-fewer ds
  dom-fewer (matrix_dom is d) =
      side_by_side (parts_of_doms (doms_simplified is)) (parts_of_doms is) (parts_of_dom (dom_simplified d)) (parts_of_dom d)
      (doms-fewer is) (dom-fewer d)
  dom-fewer (set_dom ms es d) =
      side_by_side (parts_of_all (all_simplified es)) (parts_of_all es) (parts_of_dom (dom_simplified d)) (parts_of_dom d)
      (all-fewer es) (dom-fewer d)
  dom-fewer (mset_dom ms es d) =
      side_by_side (parts_of_all (all_simplified es)) (parts_of_all es) (parts_of_dom (dom_simplified d)) (parts_of_dom d)
      (all-fewer es) (dom-fewer d)
  dom-fewer (function_dom ms es d c) =
      side_by_side (parts_of_all (all_simplified es) ++ parts_of_dom (dom_simplified d)) (parts_of_all es ++ parts_of_dom d)
      (parts_of_dom (dom_simplified c)) (parts_of_dom c)
      (side_by_side (parts_of_all (all_simplified es)) (parts_of_all es) (parts_of_dom (dom_simplified d)) (parts_of_dom d)
      (all-fewer es) (dom-fewer d))
      (dom-fewer c)
  dom-fewer (relation_dom ms es ds) =
      side_by_side (parts_of_all (all_simplified es)) (parts_of_all es) (parts_of_doms (doms_simplified ds)) (parts_of_doms ds)
      (all-fewer es) (doms-fewer ds)
  dom-fewer (partition_dom ms es d) =
      side_by_side (parts_of_all (all_simplified es)) (parts_of_all es) (parts_of_dom (dom_simplified d)) (parts_of_dom d)
      (all-fewer es) (dom-fewer d)

  doms-fewer : (ds : Doms) → Fewer (parts_of_doms (doms_simplified ds)) (parts_of_doms ds)
  doms-fewer no_doms = omega arith
  doms-fewer (more_doms d ds) =
      side_by_side (parts_of_dom (dom_simplified d)) (parts_of_dom d) (parts_of_doms (doms_simplified ds)) (parts_of_doms ds)
      (dom-fewer d) (doms-fewer ds)

-- The test says so.
pub no-larger : (e : Ex) → IsTrue (nat_le (length (parts_of (simplified e))) (length (parts_of e)))
no-larger e = le-leb (length (parts_of (simplified e))) (length (parts_of e)) (simplified-fewer e)
