-- What operators on rows of operands become, by how many there are.
use Rattle.std.proofs.Common.{◌≡◌, refl, sym, ap, ◌∙◌, subst, ℕ, suc, ◌+◌, Bool, true, false, not, eqb, if◌then◌else◌, List, [], ◌∷◌, ◌++◌, length, map, take, get_or, Option, Some, None, arith}
use Rattle.std.specs.Prelude.{is_some}
use Rattle.std.specs.List.{remove}
use Rattle.std.proofs.lemmas.Bool.{false≢true}
use Rattle.std.proofs.lemmas.List.{length-append}
use Rattle.ess_semantics.specs.declared.words.Op1.{Op1}
use Rattle.ess_semantics.specs.declared.words.Op2.{Op2}
use Rattle.ess_semantics.specs.Trees.{unary, binary, word, index, application, tuple_literal, set_literal, mset_literal, function_literal, relation_literal, partition_literal, matrix_literal, record_literal, Ex, Exs, number_ex, truth_ex, name_ex, node_ex, matrix_ex, comp_ex, cell_ex, seen_ex, no_exs, more_exs, ex1, ex2}
use Rattle.ess_semantics.specs.Operators.{connective}
use Rattle.ess_core_nodes.specs.NodeViews.{pure_node, pure_nodes}
use Rattle.ess_core_nodes.specs.declared.nodes.Node.{Node}
use Rattle.ess_simplify_laws.specs.declared.words.Outcome.{Outcome}
use Rattle.ess_simplify_laws.specs.Simplifying.{said, denied, outcome, left, simpler_unary, simpler_binary}
use Rattle.ess_simplify.specs.declared.roots.Denial.{Denial}
use Rattle.ess_simplify.specs.Roots.{only, inner, denial, denial_by}

-- ---- `!`

-- `!` of an operand is what its denial says.
abbrev by : Bool → Ex → Denial → Ex
by b a (Denial.Says v) = truth_ex v
by b a Denial.Undone = inner a
by b a Denial.Stays = ex1 b Op1.Not a

denied-by : (b : Bool) (a : Ex) → denied b a ≡ by b a (denial a)
denied-by b (truth_ex v) = refl
denied-by b (node_ex c (unary Op1.Not) no_exs) = refl
denied-by b (node_ex c (unary Op1.Not) (more_exs a no_exs)) = refl
denied-by b (node_ex c (unary Op1.Not) (more_exs a (more_exs x xs))) = refl
denied-by b (number_ex n) = refl
denied-by b (name_ex n) = refl
denied-by b (node_ex c (unary Op1.Minus) es) = refl
denied-by b (node_ex c (unary Op1.Bar) es) = refl
denied-by b (node_ex c (binary o) es) = refl
denied-by b (node_ex c (word f) es) = refl
denied-by b (node_ex c (index qs) es) = refl
denied-by b (node_ex c application es) = refl
denied-by b (node_ex c tuple_literal es) = refl
denied-by b (node_ex c set_literal es) = refl
denied-by b (node_ex c mset_literal es) = refl
denied-by b (node_ex c function_literal es) = refl
denied-by b (node_ex c relation_literal es) = refl
denied-by b (node_ex c partition_literal es) = refl
denied-by b (node_ex c matrix_literal es) = refl
denied-by b (node_ex c (record_literal fs) es) = refl
denied-by b (matrix_ex es d) = refl
denied-by b (comp_ex e gs) = refl
denied-by b (cell_ex c n es) = refl
denied-by b (seen_ex r d ns es) = refl

pub not_one : (b : Bool) (xs : List Node) → eqb (length xs) 1 ≡ false → simpler_unary b Op1.Not (pure_nodes xs) ≡ truth_ex false
not_one b [] h = refl
not_one b (x ∷ []) h = absurd (false≢true (sym h))
not_one b (x ∷ y ∷ xs) h = refl

one : (b : Bool) (xs : List Node) (x : Node) (d : Denial) → length xs ≡ 1 → x ≡ get_or xs 0 x → d ≡ denial (pure_node x)
    → simpler_unary b Op1.Not (pure_nodes xs) ≡ by b (pure_node x) d
one b [] x d h is e = absurd (omega (arith, h))
one b (y ∷ []) x d h is e = ap (λ z. denied b (pure_node z)) (sym is) ∙ denied-by b (pure_node x) ∙ ap (by b (pure_node x)) (sym e)
one b (y ∷ z ∷ xs) x d h is e = absurd (omega (arith, h))

-- On any other number of operands.
pub other_false : (b : Bool) (xs : List Node) → (length xs ≡ 1 → ⊥) → simpler_unary b Op1.Not (pure_nodes xs) ≡ truth_ex false
other_false b [] h = refl
other_false b (x ∷ []) h = absurd (h refl)
other_false b (x ∷ y ∷ xs) h = refl

pub one_says : (b : Bool) (xs : List Node) (x : Node) (d : Denial) (v : Bool) → length xs ≡ 1 → x ≡ get_or xs 0 x → d ≡ denial (pure_node x)
    → d ≡ Denial.Says v → simpler_unary b Op1.Not (pure_nodes xs) ≡ truth_ex v
one_says b xs x d v h is e k = one b xs x d h is e ∙ ap (by b (pure_node x)) k

only-is : (xs : List Node) (x : Node) → length xs ≡ 1 → x ≡ get_or xs 0 x → only (pure_nodes xs) ≡ pure_node x
only-is [] x h is = absurd (omega (arith, h))
only-is (y ∷ []) x h is = ap pure_node (sym is)
only-is (y ∷ z ∷ xs) x h is = absurd (omega (arith, h))

pub one_undone : (b : Bool) (xs : List Node) (x : Node) (d : Denial) → length xs ≡ 1 → x ≡ get_or xs 0 x → d ≡ denial (pure_node x)
    → d ≡ Denial.Undone → simpler_unary b Op1.Not (pure_nodes xs) ≡ inner (only (pure_nodes xs))
one_undone b xs x d h is e k = one b xs x d h is e ∙ ap (by b (pure_node x)) k ∙ ap inner (sym (only-is xs x h is))

single : (xs : List Node) (x : Node) → length xs ≡ 1 → x ≡ get_or xs 0 x → pure_nodes xs ≡ more_exs (pure_node x) no_exs
single [] x h is = absurd (omega (arith, h))
single (y ∷ []) x h is = ap (λ z. more_exs (pure_node z) no_exs) (sym is)
single (y ∷ z ∷ xs) x h is = absurd (omega (arith, h))

pub one_stays : (b : Bool) (xs : List Node) (x : Node) (d : Denial) → length xs ≡ 1 → x ≡ get_or xs 0 x → d ≡ denial (pure_node x)
    → d ≡ Denial.Stays → simpler_unary b Op1.Not (pure_nodes xs) ≡ node_ex b (unary Op1.Not) (pure_nodes xs)
one_stays b xs x d h is e k =
    one b xs x d h is e ∙ ap (by b (pure_node x)) k ∙ ap (node_ex b (unary Op1.Not)) (sym (single xs x h is))

-- ---- the only one

pub only_none : (xs : List Node) → eqb (length xs) 1 ≡ false → only (pure_nodes xs) ≡ truth_ex true
only_none [] h = refl
only_none (x ∷ []) h = absurd (false≢true (sym h))
only_none (x ∷ y ∷ xs) h = refl

pub only_other : (xs : List Node) → (length xs ≡ 1 → ⊥) → only (pure_nodes xs) ≡ truth_ex true
only_other [] h = refl
only_other (x ∷ []) h = absurd (h refl)
only_other (x ∷ y ∷ xs) h = refl

-- What is popped off one.
pub only_one : (xs ys : List Node) (x : Node) → length xs ≡ 1 → xs ≡ ys ++ x ∷ [] → only (pure_nodes xs) ≡ pure_node x
only_one xs [] x h e = ap (λ l. only (pure_nodes l)) e
only_one xs (y ∷ ys) x h e =
    let k : suc (length (ys ++ x ∷ [])) ≡ 1 = sym (ap length e) ∙ h in
    let m : length (ys ++ x ∷ []) ≡ length ys + 1 = length-append ys (x ∷ []) in
    absurd (omega (arith, k, m))

-- ---- two operands

pub not_two_connected : (b : Bool) (o : Op2) (xs : List Node) → eqb (length xs) 2 ≡ false → is_some (connective (binary o)) ≡ true
    → simpler_binary b o (pure_nodes xs) ≡ truth_ex false
not_two_connected b o [] h e = ap (λ j. if j then truth_ex false else node_ex b (binary o) no_exs) e
not_two_connected b o (x ∷ []) h e = ap (λ j. if j then truth_ex false else node_ex b (binary o) (pure_nodes (x ∷ []))) e
not_two_connected b o (x ∷ y ∷ []) h e = absurd (false≢true (sym h))
not_two_connected b o (x ∷ y ∷ z ∷ xs) h e = ap (λ j. if j then truth_ex false else node_ex b (binary o) (pure_nodes (x ∷ y ∷ z ∷ xs))) e

pub other_connected : (b : Bool) (o : Op2) (xs : List Node) → (length xs ≡ 2 → ⊥) → is_some (connective (binary o)) ≡ true
    → simpler_binary b o (pure_nodes xs) ≡ truth_ex false
other_connected b o [] h e = ap (λ j. if j then truth_ex false else node_ex b (binary o) no_exs) e
other_connected b o (x ∷ []) h e = ap (λ j. if j then truth_ex false else node_ex b (binary o) (pure_nodes (x ∷ []))) e
other_connected b o (x ∷ y ∷ []) h e = absurd (h refl)
other_connected b o (x ∷ y ∷ z ∷ xs) h e = ap (λ j. if j then truth_ex false else node_ex b (binary o) (pure_nodes (x ∷ y ∷ z ∷ xs))) e

pub not_two_stays : (b : Bool) (o : Op2) (xs : List Node) → eqb (length xs) 2 ≡ false → is_some (connective (binary o)) ≡ false
    → simpler_binary b o (pure_nodes xs) ≡ node_ex b (binary o) (pure_nodes xs)
not_two_stays b o [] h e = ap (λ j. if j then truth_ex false else node_ex b (binary o) no_exs) e
not_two_stays b o (x ∷ []) h e = ap (λ j. if j then truth_ex false else node_ex b (binary o) (pure_nodes (x ∷ []))) e
not_two_stays b o (x ∷ y ∷ []) h e = absurd (false≢true (sym h))
not_two_stays b o (x ∷ y ∷ z ∷ xs) h e = ap (λ j. if j then truth_ex false else node_ex b (binary o) (pure_nodes (x ∷ y ∷ z ∷ xs))) e

module _ (b : Bool) (o : Op2) (xs : List Node) (x y : Node) (p q : Option Bool) (c : Outcome) (h : length xs ≡ 2)
    (is : x ≡ get_or xs 0 x) (it : y ≡ get_or xs 1 y) (P : p ≡ said (pure_node x)) (Q : q ≡ said (pure_node y)) (C : c ≡ outcome o p q) where
  pair : xs ≡ x ∷ y ∷ []
  pair = go xs h is it
    where
      go : (xs : List Node) → length xs ≡ 2 → x ≡ get_or xs 0 x → y ≡ get_or xs 1 y → xs ≡ x ∷ y ∷ []
      go [] h is it = absurd (omega (arith, h))
      go (z ∷ []) h is it = absurd (omega (arith, h))
      go (z ∷ w ∷ []) h is it = ap (λ v. v ∷ w ∷ []) (sym is) ∙ ap (λ v. x ∷ v ∷ []) (sym it)
      go (z ∷ w ∷ v ∷ zs) h is it = absurd (omega (arith, h))

  two : simpler_binary b o (pure_nodes xs) ≡ left b o (pure_node x) (pure_node y) c
  two =
      ap (λ l. simpler_binary b o (pure_nodes l)) pair
      ∙ ap (left b o (pure_node x) (pure_node y))
      (ap (λ r. outcome o r (said (pure_node y))) (sym P) ∙ ap (outcome o p) (sym Q) ∙ sym C)

  pub two_stay : c ≡ Outcome.Stays → simpler_binary b o (pure_nodes xs) ≡ node_ex b (binary o) (pure_nodes xs)
  two_stay k = two ∙ ap (left b o (pure_node x) (pure_node y)) k ∙ ap (λ l. node_ex b (binary o) (pure_nodes l)) (sym pair)

  pub two_first : c ≡ Outcome.First → simpler_binary b o (pure_nodes xs) ≡ only (pure_nodes (take 1 xs))
  two_first k = two ∙ ap (left b o (pure_node x) (pure_node y)) k ∙ ap (λ l. only (pure_nodes (take 1 l))) (sym pair)

  pub two_second : c ≡ Outcome.Second → simpler_binary b o (pure_nodes xs) ≡ only (pure_nodes (remove xs 0))
  two_second k = two ∙ ap (left b o (pure_node x) (pure_node y)) k ∙ ap (λ l. only (pure_nodes (remove l 0))) (sym pair)

  pub two_first_denied : c ≡ Outcome.FirstDenied → simpler_binary b o (pure_nodes xs) ≡ simpler_unary b Op1.Not (pure_nodes (take 1 xs))
  two_first_denied k = two ∙ ap (left b o (pure_node x) (pure_node y)) k ∙ ap (λ l. simpler_unary b Op1.Not (pure_nodes (take 1 l))) (sym pair)

  pub two_second_denied : c ≡ Outcome.SecondDenied → simpler_binary b o (pure_nodes xs) ≡ simpler_unary b Op1.Not (pure_nodes (remove xs 0))
  two_second_denied k = two ∙ ap (left b o (pure_node x) (pure_node y)) k ∙ ap (λ l. simpler_unary b Op1.Not (pure_nodes (remove l 0))) (sym pair)

  pub two_say : (v : Bool) → c ≡ Outcome.Says v → simpler_binary b o (pure_nodes xs) ≡ truth_ex v
  two_say v k = two ∙ ap (left b o (pure_node x) (pure_node y)) k
