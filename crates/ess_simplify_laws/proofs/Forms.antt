-- The simplified tree has the form: no `!` under `!`, no `true` and no `false` under a connective.
use Rattle.std.proofs.Common.{◌≡◌, refl, sym, ap, ◌∙◌, Bool, true, false, not, ◌&&◌, ◌||◌, if◌then◌else◌, List, [], ◌∷◌, ◌++◌, Option, Some, None}
use Rattle.std.specs.Prelude.{is_some}
use Rattle.std.specs.List.{list_all}
use Rattle.std.proofs.lemmas.List.Folds.{list_all-append}
use Rattle.ess_semantics.specs.declared.words.Op1.{Op1}
use Rattle.ess_semantics.specs.declared.words.Op2.{Op2}
use Rattle.ess_semantics.specs.Trees.{Op, unary, binary, word, index, application, tuple_literal, set_literal, mset_literal, function_literal, relation_literal, partition_literal, matrix_literal, record_literal, Ex, Exs, number_ex, truth_ex, name_ex, node_ex, matrix_ex, comp_ex, cell_ex, seen_ex, no_exs, more_exs, Gens, no_gens, over, from, cond, Dom, Doms, bool_dom, int_dom, name_dom, tuple_dom, record_dom, matrix_dom, set_dom, mset_dom, function_dom, relation_dom, partition_dom, no_doms, more_doms, ex1, ex2}
use Rattle.ess_semantics.specs.Operators.{connective}
use Rattle.ess_semantics.specs.Occurrences.{parts_of, parts_of_all, parts_of_gens, parts_of_dom, parts_of_doms}
use Rattle.ess_semantics.specs.Simplified.{is_truth_value, is_negation, each_operand, is_simple_node}
use Rattle.ess_simplify_laws.specs.declared.words.Outcome.{Outcome}
use Rattle.ess_simplify_laws.specs.Simplifying.{said, denied, outcome, left, simpler_unary, simpler_binary, simpler_node, simplified, all_simplified, gens_simplified, dom_simplified, doms_simplified}

-- Each of the trees has the form at its root.
abbrev pub Simple : List Ex → Type 0
Simple es = list_all is_simple_node es ≡ true

both : (a b : Bool) → a ≡ true → b ≡ true → (a && b) ≡ true
both true b p q = q
both false b p q = p

first : (a b : Bool) → (a && b) ≡ true → a ≡ true
first true b h = refl
first false b h = h

second : (a b : Bool) → (a && b) ≡ true → b ≡ true
second true b h = h
second false b h = cc

pub joined : (xs ys : List Ex) → Simple xs → Simple ys → Simple (xs ++ ys)
joined xs ys p q = list_all-append is_simple_node xs ys ∙ both (list_all is_simple_node xs) (list_all is_simple_node ys) p q

front : (xs ys : List Ex) → Simple (xs ++ ys) → Simple xs
front xs ys h = first (list_all is_simple_node xs) (list_all is_simple_node ys) (sym (list_all-append is_simple_node xs ys) ∙ h)

back : (xs ys : List Ex) → Simple (xs ++ ys) → Simple ys
back xs ys h = second (list_all is_simple_node xs) (list_all is_simple_node ys) (sym (list_all-append is_simple_node xs ys) ∙ h)

-- ---- `!`

-- The parts of the only operand, alone.
only : (a : Ex) → Simple (parts_of a ++ []) → Simple (parts_of a)
only a h = front (parts_of a) [] h

-- `!` of what is neither a truth value nor a negation.
denied-stays : (b : Bool) (a : Ex) → is_truth_value a ≡ false → is_negation a ≡ false → Simple (parts_of a)
    → Simple (parts_of (ex1 b Op1.Not a))
denied-stays b a p q h =
    both ((not (is_truth_value a) && true) && (not (is_negation a) && true)) (list_all is_simple_node (parts_of a ++ []))
    (ap (λ x. (not x && true) && (not (is_negation a) && true)) p ∙ ap (λ x. true && (not x && true)) q)
    (joined (parts_of a) [] h refl)

pub denied-simple : (b : Bool) (a : Ex) → Simple (parts_of a) → Simple (parts_of (denied b a))
denied-simple b (truth_ex v) h = refl
denied-simple b (node_ex c (unary Op1.Not) no_exs) h = refl
denied-simple b (node_ex c (unary Op1.Not) (more_exs a no_exs)) h =
    only a (second (is_simple_node (ex1 c Op1.Not a)) (list_all is_simple_node (parts_of a ++ [])) h)
denied-simple b (node_ex c (unary Op1.Not) (more_exs a (more_exs x xs))) h = refl
denied-simple b (number_ex n) h = refl
denied-simple b (name_ex n) h = refl
denied-simple b (node_ex c (unary Op1.Minus) es) h = denied-stays b (node_ex c (unary Op1.Minus) es) refl refl h
denied-simple b (node_ex c (unary Op1.Bar) es) h = denied-stays b (node_ex c (unary Op1.Bar) es) refl refl h
denied-simple b (node_ex c (binary o) es) h = denied-stays b (node_ex c (binary o) es) refl refl h
denied-simple b (node_ex c (word f) es) h = denied-stays b (node_ex c (word f) es) refl refl h
denied-simple b (node_ex c (index qs) es) h = denied-stays b (node_ex c (index qs) es) refl refl h
denied-simple b (node_ex c application es) h = denied-stays b (node_ex c application es) refl refl h
denied-simple b (node_ex c tuple_literal es) h = denied-stays b (node_ex c tuple_literal es) refl refl h
denied-simple b (node_ex c set_literal es) h = denied-stays b (node_ex c set_literal es) refl refl h
denied-simple b (node_ex c mset_literal es) h = denied-stays b (node_ex c mset_literal es) refl refl h
denied-simple b (node_ex c function_literal es) h = denied-stays b (node_ex c function_literal es) refl refl h
denied-simple b (node_ex c relation_literal es) h = denied-stays b (node_ex c relation_literal es) refl refl h
denied-simple b (node_ex c partition_literal es) h = denied-stays b (node_ex c partition_literal es) refl refl h
denied-simple b (node_ex c matrix_literal es) h = denied-stays b (node_ex c matrix_literal es) refl refl h
denied-simple b (node_ex c (record_literal fs) es) h = denied-stays b (node_ex c (record_literal fs) es) refl refl h
denied-simple b (matrix_ex es d) h = denied-stays b (matrix_ex es d) refl refl h
denied-simple b (comp_ex e gs) h = denied-stays b (comp_ex e gs) refl refl h
denied-simple b (cell_ex c n es) h = denied-stays b (cell_ex c n es) refl refl h
denied-simple b (seen_ex r d ns es) h = denied-stays b (seen_ex r d ns es) refl refl h

pub unary-simple : (b : Bool) (o : Op1) (es : Exs) → Simple (parts_of_all es) → Simple (parts_of (simpler_unary b o es))
unary-simple b Op1.Not no_exs h = refl
unary-simple b Op1.Not (more_exs a no_exs) h = denied-simple b a (only a h)
unary-simple b Op1.Not (more_exs a (more_exs x xs)) h = refl
unary-simple b Op1.Minus es h = h
unary-simple b Op1.Bar es h = h

-- ---- operators on two operands

-- Where a connective stays, neither operand is a truth value.
abbrev Untold : Outcome → Option Bool → Option Bool → Type 0
Untold Outcome.Stays p q = (p ≡ None) × (q ≡ None)
Untold _ p q = Unit {0}

untold : (o : Op2) (p q : Option Bool) → is_some (connective (binary o)) ≡ true → Untold (outcome o p q) p q
untold Op2.And (Some true) q h = tt
untold Op2.And (Some false) q h = tt
untold Op2.And None (Some true) h = tt
untold Op2.And None (Some false) h = tt
untold Op2.And None None h = (refl, refl)
untold Op2.Or (Some true) q h = tt
untold Op2.Or (Some false) q h = tt
untold Op2.Or None (Some true) h = tt
untold Op2.Or None (Some false) h = tt
untold Op2.Or None None h = (refl, refl)
untold Op2.Implies (Some true) q h = tt
untold Op2.Implies (Some false) q h = tt
untold Op2.Implies None (Some true) h = tt
untold Op2.Implies None (Some false) h = tt
untold Op2.Implies None None h = (refl, refl)
untold Op2.Iff (Some true) q h = tt
untold Op2.Iff (Some false) q h = tt
untold Op2.Iff None (Some true) h = tt
untold Op2.Iff None (Some false) h = tt
untold Op2.Iff None None h = (refl, refl)
untold _ p q h = cc

-- What says no truth value is none.
unsaid : (e : Ex) → said e ≡ None → is_truth_value e ≡ false
unsaid (truth_ex v) h = cc
unsaid _ h = refl

-- An operator on two operands has the form, where no operand of a connective is a truth value.
binary-stays : (b : Bool) (o : Op2) (es : Exs) (j : Bool) → is_some (connective (binary o)) ≡ j
    → (j ≡ true → each_operand (λ e. not (is_truth_value e)) es ≡ true) → is_simple_node (node_ex b (binary o) es) ≡ true
binary-stays b o es true e h =
    ap (λ j. (not j || each_operand (λ e. not (is_truth_value e)) es) && true) e ∙ ap (λ x. x && true) (h refl)
binary-stays b o es false e h = ap (λ j. (not j || each_operand (λ e. not (is_truth_value e)) es) && true) e

two-stay : (b : Bool) (o : Op2) (x y : Ex) → (is_some (connective (binary o)) ≡ true → (said x ≡ None) × (said y ≡ None))
    → is_simple_node (ex2 b o x y) ≡ true
two-stay b o x y h = binary-stays b o (more_exs x (more_exs y no_exs)) (is_some (connective (binary o))) refl
    (λ e. ap (λ t. not t && (not (is_truth_value y) && true)) (unsaid x (h e).0) ∙ ap (λ t. not t && true) (unsaid y (h e).1))

left-simple : (b : Bool) (o : Op2) (x y : Ex) (c : Outcome) → (is_some (connective (binary o)) ≡ true → Untold c (said x) (said y))
    → Simple (parts_of_all (more_exs x (more_exs y no_exs))) → Simple (parts_of (left b o x y c))
left-simple b o x y Outcome.Stays u h =
    both (is_simple_node (ex2 b o x y)) (list_all is_simple_node (parts_of x ++ (parts_of y ++ []))) (two-stay b o x y u) h
left-simple b o x y Outcome.First u h = front (parts_of x) (parts_of y ++ []) h
left-simple b o x y Outcome.Second u h = only y (back (parts_of x) (parts_of y ++ []) h)
left-simple b o x y Outcome.FirstDenied u h = denied-simple b x (front (parts_of x) (parts_of y ++ []) h)
left-simple b o x y Outcome.SecondDenied u h = denied-simple b y (only y (back (parts_of x) (parts_of y ++ []) h))
left-simple b o x y (Outcome.Says v) u h = refl

-- On another number of operands.
other-simple : (b : Bool) (o : Op2) (es : Exs) (j : Bool) → is_some (connective (binary o)) ≡ j → Simple (parts_of_all es)
    → Simple (parts_of (if j then truth_ex false else node_ex b (binary o) es))
other-simple b o es true e h = refl
other-simple b o es false e h =
    both (is_simple_node (node_ex b (binary o) es)) (list_all is_simple_node (parts_of_all es)) (binary-stays b o es false e (λ f. cc)) h

pub binary-simple : (b : Bool) (o : Op2) (es : Exs) → Simple (parts_of_all es) → Simple (parts_of (simpler_binary b o es))
binary-simple b o (more_exs x (more_exs y no_exs)) h = left-simple b o x y (outcome o (said x) (said y)) (untold o (said x) (said y)) h
binary-simple b o no_exs h = other-simple b o no_exs (is_some (connective (binary o))) refl h
binary-simple b o (more_exs x no_exs) h = other-simple b o (more_exs x no_exs) (is_some (connective (binary o))) refl h
binary-simple b o (more_exs x (more_exs y (more_exs z zs))) h =
    other-simple b o (more_exs x (more_exs y (more_exs z zs))) (is_some (connective (binary o))) refl h

-- ---- trees

pub node-simple : (b : Bool) (op : Op) (es : Exs) → Simple (parts_of_all es) → Simple (parts_of (simpler_node b op es))
node-simple b (unary o) es h = unary-simple b o es h
node-simple b (binary o) es h = binary-simple b o es h
node-simple b (word f) es h = h
node-simple b (index qs) es h = h
node-simple b application es h = h
node-simple b tuple_literal es h = h
node-simple b set_literal es h = h
node-simple b mset_literal es h = h
node-simple b function_literal es h = h
node-simple b relation_literal es h = h
node-simple b partition_literal es h = h
node-simple b matrix_literal es h = h
node-simple b (record_literal fs) es h = h

mutual
  -- Each part of the simplified tree has the form.
  pub simplified-simple : (e : Ex) → Simple (parts_of (simplified e))
  simplified-simple (number_ex n) = refl
  simplified-simple (truth_ex v) = refl
  simplified-simple (name_ex a) = refl
  simplified-simple (node_ex b op es) = node-simple b op (all_simplified es) (all-simple es)
  simplified-simple (matrix_ex es d) =
      joined (parts_of_all (all_simplified es)) (parts_of_dom (dom_simplified d)) (all-simple es) (dom-simple d)
  simplified-simple (comp_ex e gs) =
      joined (parts_of (simplified e)) (parts_of_gens (gens_simplified gs)) (simplified-simple e) (gens-simple gs)
  simplified-simple (cell_ex b n es) = all-simple es
  simplified-simple (seen_ex r d ns es) =
      joined (parts_of_dom (dom_simplified d)) (parts_of_all (all_simplified es)) (dom-simple d) (all-simple es)

  all-simple : (es : Exs) → Simple (parts_of_all (all_simplified es))
  all-simple no_exs = refl
  all-simple (more_exs e es) = joined (parts_of (simplified e)) (parts_of_all (all_simplified es)) (simplified-simple e) (all-simple es)

  gens-simple : (gs : Gens) → Simple (parts_of_gens (gens_simplified gs))
  gens-simple no_gens = refl
  gens-simple (over p d gs) = joined (parts_of_dom (dom_simplified d)) (parts_of_gens (gens_simplified gs)) (dom-simple d) (gens-simple gs)
  gens-simple (from p e gs) = joined (parts_of (simplified e)) (parts_of_gens (gens_simplified gs)) (simplified-simple e) (gens-simple gs)
  gens-simple (cond e gs) = joined (parts_of (simplified e)) (parts_of_gens (gens_simplified gs)) (simplified-simple e) (gens-simple gs)

  dom-simple : (d : Dom) → Simple (parts_of_dom (dom_simplified d))
  dom-simple bool_dom = refl
  dom-simple (int_dom rs es) = all-simple es
  dom-simple (name_dom a) = refl
  dom-simple (tuple_dom ds) = doms-simple ds
  dom-simple (record_dom fs ds) = doms-simple ds
  dom-simple (matrix_dom is d) =
      joined (parts_of_doms (doms_simplified is)) (parts_of_dom (dom_simplified d)) (doms-simple is) (dom-simple d)
  dom-simple (set_dom ms es d) = joined (parts_of_all (all_simplified es)) (parts_of_dom (dom_simplified d)) (all-simple es) (dom-simple d)
  dom-simple (mset_dom ms es d) = joined (parts_of_all (all_simplified es)) (parts_of_dom (dom_simplified d)) (all-simple es) (dom-simple d)
  dom-simple (function_dom ms es d c) =
      joined (parts_of_all (all_simplified es) ++ parts_of_dom (dom_simplified d)) (parts_of_dom (dom_simplified c))
      (joined (parts_of_all (all_simplified es)) (parts_of_dom (dom_simplified d)) (all-simple es) (dom-simple d)) (dom-simple c)
  dom-simple (relation_dom ms es ds) =
      joined (parts_of_all (all_simplified es)) (parts_of_doms (doms_simplified ds)) (all-simple es) (doms-simple ds)
  dom-simple (partition_dom ms es d) =
      joined (parts_of_all (all_simplified es)) (parts_of_dom (dom_simplified d)) (all-simple es) (dom-simple d)

  doms-simple : (ds : Doms) → Simple (parts_of_doms (doms_simplified ds))
  doms-simple no_doms = refl
  doms-simple (more_doms d ds) =
      joined (parts_of_dom (dom_simplified d)) (parts_of_doms (doms_simplified ds)) (dom-simple d) (doms-simple ds)
