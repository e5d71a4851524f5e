-- The printed tokens of an operator's node are derived, where its operands' are.
use Rattle.std.proofs.Common.{◌≡◌, refl, sym, ap, ◌∙◌, subst, Bool, true, false, ◌&&◌, not, List, [], ◌∷◌}
use Rattle.std.proofs.lemmas.Bool.{and_parts}
use Rattle.ess_semantics.specs.declared.words.Op1.{Op1}
use Rattle.ess_semantics.specs.declared.words.Op2.{Op2}
use Rattle.ess_semantics.specs.declared.words.Fun.{Fun}
use Rattle.ess_semantics.specs.Trees.{Step, by_value, to_component, to_field, Op, unary, binary, index, application, tuple_literal, set_literal, mset_literal, function_literal, relation_literal, partition_literal, matrix_literal, record_literal, Ex, Exs, node_ex, no_exs, more_exs, plain_node}
use Rattle.ess_grammar.specs.Words.{operator, function, symbol, open_round, close_round, close_square, close_curly, bar}
use Rattle.ess_grammar.specs.Levels.{level}
use Rattle.ess_grammar.specs.Patterns.{Shape, pattern_shape, member_shape, other_shape, atom_shape, is_pattern, binary_shape, is_member, is_sum, are_several, may_hold}
use Rattle.ess_grammar.specs.Grammar.{steps_of, unary_ex, binary_ex, indexed, applied, opens_tuple, opens_set, opens_mset, opens_relation, opens_partition, opens_matrix, opens_call, Atom, pair_atom, list_atom, empty_atom, bar_atom, index_atom, application_atom, atom_expression, minus_expression, not_expression, binary_expression}
use Rattle.ess_grammar.specs.Readable.{fit_operands, fit_steps, fit_fields, are_name_tokens, ReadableEx, ReadableExs}
use Rattle.std.proofs.Common.{lit≤}
use Rattle.ess_print_laws.specs.Pieces.{Piece, token, space, sign, tokens_of}
use Rattle.ess_print_laws.specs.Brackets.{is_operators, is_written_as_pattern, are_written_as_patterns}
use Rattle.ess_print_laws.specs.Parts.{comma_space, commas, bracketed}
use Rattle.ess_print_laws.specs.Expressions.{wholes, call_printers, ex_pieces, operands}
use Rattle.ess_print_laws.proofs.Derived.{Printed, Each, as-operand, as-bracketed, from-atom, from-operator, ReadsAll, one-reads, more-read, list-reads, left-low, right-low, and-true, and-false}
use Rattle.ess_print_laws.proofs.Literals.{function-printed, record-printed}

-- ---- operators

unary-printed : (o : Op1) (a : Ex) → Printed a → Printed (unary_ex o a)
unary-printed Op1.Minus a d = from-operator refl (λ us. record { shape = other_shape; level = 9; is = refl; derivation = minus_expression (lit≤ tt) (atom_expression (as-operand d us).derivation) })
unary-printed Op1.Not a d = from-operator refl (λ us. record { shape = other_shape; level = 9; is = refl; derivation = not_expression (lit≤ tt) (atom_expression (as-operand d us).derivation) })
unary-printed Op1.Bar a d = from-atom (λ us. bar_atom (d.reads (sign bar ∷ us)).derivation)

no-pattern : (o : Op2) (s : Shape) (a : Ex) → is_pattern (binary_shape o s a) ≡ false
no-pattern o (member_shape x) a = refl
no-pattern o other_shape a = refl
no-pattern o pattern_shape a = go (is_member o)
  where
    go : (m : Bool) → is_pattern (elim m [ true ↦ member_shape a | false ↦ other_shape ]) ≡ false
    go true = refl
    go false = refl

binary-printed : (o : Op2) (a b : Ex) → Printed a → Printed b → Printed (binary_ex o a b)
binary-printed o a b d g = from-operator refl (λ us.
    let k = as-operand d (space ∷ token (operator o) ∷ space ∷ bracketed (is_operators b) (ex_pieces b) us) in
    record {
      shape = binary_shape o (atom_shape k.pattern_like) a;
      level = level o;
      is = no-pattern o (atom_shape k.pattern_like) a;
      derivation = binary_expression (left-low o) (right-low o) (atom_expression k.derivation) (atom_expression (as-operand g us).derivation);
    })

-- ---- calls

may-hold-bracketed : (f : Fun) (k : Bool) (es : Exs) → k ≡ false → may_hold (Op.word f) k es ≡ true
may-hold-bracketed f k es h =
    ap (λ b. not (is_sum (Op.word f) && (b && are_several es))) h ∙ ap not (and-false (is_sum (Op.word f)))

call-list : (f : Fun) (e : Ex) (es : Exs) (b : Bool) → Printed e → Each es → (us : List Piece) →
    ReadsAll ((is_written_as_pattern e && not b) && are_written_as_patterns es) (more_exs e es) (tokens_of (commas (call_printers b (operands (more_exs e es))) us)) (tokens_of us)
call-list f e no_exs b d ds us = one-reads (as-bracketed b d us)
call-list f e (more_exs g es) b d ds us = more-read (as-bracketed b d (comma_space (commas (wholes (operands (more_exs g es))) us))) (list-reads g es ds.0 ds.2 us)

call-printed : (f : Fun) (e : Ex) (es : Exs) → Printed e → Each es → Printed (plain_node (Op.word f) (more_exs e es))
call-printed f e es d ds = from-atom (λ us. go (may_hold (Op.word f) (are_written_as_patterns (more_exs e es)) (more_exs e es)) refl us)
  where
    go : (m : Bool) → may_hold (Op.word f) (are_written_as_patterns (more_exs e es)) (more_exs e es) ≡ m → (us : List Piece) →
        Atom false (plain_node (Op.word f) (more_exs e es))
        (function f ∷ symbol open_round ∷ tokens_of (commas (call_printers (not m) (operands (more_exs e es))) (sign close_round ∷ us))) (tokens_of us)
    go true h us =
        let q = call-list f e es false d ds (sign close_round ∷ us) in
        let is : q.flag ≡ are_written_as_patterns (more_exs e es) = q.is ∙ ap (λ b. b && are_written_as_patterns es) (and-true (is_written_as_pattern e)) in
        list_atom opens_call q.derivation (ap (λ k. may_hold (Op.word f) k (more_exs e es)) is ∙ h)
    go false h us =
        let q = call-list f e es true d ds (sign close_round ∷ us) in
        let is : q.flag ≡ false = q.is ∙ ap (λ b. b && are_written_as_patterns es) (and-false (is_written_as_pattern e)) in
        list_atom opens_call q.derivation (may-hold-bracketed f q.flag (more_exs e es) is)

-- ---- indices and applications

fit-steps-are : (ss : List Step) (es : Exs) → fit_steps ss es ≡ true → steps_of es ≡ ss
fit-steps-are [] no_exs h = refl
fit-steps-are [] (more_exs e es) h = cc
fit-steps-are (by_value ∷ ss) no_exs h = cc
fit-steps-are (by_value ∷ ss) (more_exs e es) h = ap (λ rs. by_value ∷ rs) (fit-steps-are ss es h)
fit-steps-are (to_component n ∷ ss) es h = cc
fit-steps-are (to_field a ∷ ss) es h = cc

indexed-printed : (a e : Ex) (es : Exs) → Printed a → Printed e → Each es → Printed (indexed a (more_exs e es))
indexed-printed a e es d g ds = from-atom (λ us.
    index_atom (as-operand d _).derivation (list-reads e es g ds (sign close_square ∷ us)).derivation)

applied-printed : (a e : Ex) (es : Exs) → Printed a → Printed e → Each es → Printed (applied a (more_exs e es))
applied-printed a e es d g ds = from-atom (λ us.
    application_atom (as-operand d _).derivation (list-reads e es g ds (sign close_round ∷ us)).derivation)

-- ---- tuples and other literals

one-tuple : (e : Ex) → Printed e → Printed (plain_node tuple_literal (more_exs e no_exs))
one-tuple e d = from-atom (λ us. list_atom opens_tuple (one-reads (d.reads (sign close_round ∷ us))).derivation refl)

more-tuple : (e f : Ex) (es : Exs) → Printed e → Printed f → Each es → Printed (plain_node tuple_literal (more_exs e (more_exs f es)))
more-tuple e f es d g ds = from-atom (λ us.
    let r = d.reads (comma_space (commas (wholes (operands (more_exs f es))) (sign close_round ∷ us))) in
    let q = list-reads f es g ds (sign close_round ∷ us) in
    subst (λ k. Atom k (plain_node tuple_literal (more_exs e (more_exs f es))) (tokens_of (ex_pieces (plain_node tuple_literal (more_exs e (more_exs f es))) us)) (tokens_of us))
    (ap (λ b. b && q.flag) r.is ∙ ap (λ b. is_written_as_pattern e && b) q.is)
    (pair_atom r.derivation q.derivation))

set-printed : (es : Exs) → Each es → Printed (plain_node set_literal es)
set-printed no_exs k = from-atom (λ us. empty_atom opens_set)
set-printed (more_exs e es) k = from-atom (λ us. list_atom opens_set (list-reads e es k.0 k.2 (sign close_curly ∷ us)).derivation refl)

mset-printed : (es : Exs) → Each es → Printed (plain_node mset_literal es)
mset-printed no_exs k = from-atom (λ us. empty_atom opens_mset)
mset-printed (more_exs e es) k = from-atom (λ us. list_atom opens_mset (list-reads e es k.0 k.2 (sign close_round ∷ us)).derivation refl)

relation-printed : (es : Exs) → Each es → Printed (plain_node relation_literal es)
relation-printed no_exs k = from-atom (λ us. empty_atom opens_relation)
relation-printed (more_exs e es) k = from-atom (λ us. list_atom opens_relation (list-reads e es k.0 k.2 (sign close_round ∷ us)).derivation refl)

partition-printed : (es : Exs) → Each es → Printed (plain_node partition_literal es)
partition-printed no_exs k = from-atom (λ us. empty_atom opens_partition)
partition-printed (more_exs e es) k = from-atom (λ us. list_atom opens_partition (list-reads e es k.0 k.2 (sign close_round ∷ us)).derivation refl)

matrix-printed : (es : Exs) → Each es → Printed (plain_node matrix_literal es)
matrix-printed no_exs k = from-atom (λ us. empty_atom opens_matrix)
matrix-printed (more_exs e es) k = from-atom (λ us. list_atom opens_matrix (list-reads e es k.0 k.2 (sign close_square ∷ us)).derivation refl)

-- ---- any node

plain-printed : (op : Op) (es : Exs) → fit_operands op es ≡ true → ReadableExs es → Each es → Printed (plain_node op es)
plain-printed (unary o) no_exs h r k = cc
plain-printed (unary o) (more_exs a no_exs) h r k = unary-printed o a k.0
plain-printed (unary o) (more_exs a (more_exs b es)) h r k = cc
plain-printed (binary o) no_exs h r k = cc
plain-printed (binary o) (more_exs a no_exs) h r k = cc
plain-printed (binary o) (more_exs a (more_exs b no_exs)) h r k = binary-printed o a b k.0 k.2.0
plain-printed (binary o) (more_exs a (more_exs b (more_exs c es))) h r k = cc
plain-printed (Op.word f) no_exs h r k = cc
plain-printed (Op.word f) (more_exs a es) h r k = call-printed f a es k.0 k.2
plain-printed (index []) no_exs h r k = cc
plain-printed (index []) (more_exs a es) h r k = cc
plain-printed (index (s ∷ ss)) no_exs h r k = cc
plain-printed (index (s ∷ ss)) (more_exs a no_exs) h r k = let e = fit-steps-are (s ∷ ss) no_exs h in cc
plain-printed (index (s ∷ ss)) (more_exs a (more_exs b es)) h r k =
    subst (λ rs. Printed (plain_node (index rs) (more_exs a (more_exs b es)))) (fit-steps-are (s ∷ ss) (more_exs b es) h) (indexed-printed a b es k.0 k.2.0 k.2.2)
plain-printed application no_exs h r k = cc
plain-printed application (more_exs a no_exs) h r k = cc
plain-printed application (more_exs a (more_exs b es)) h r k = applied-printed a b es k.0 k.2.0 k.2.2
plain-printed tuple_literal no_exs h r k = cc
plain-printed tuple_literal (more_exs a no_exs) h r k = one-tuple a k.0
plain-printed tuple_literal (more_exs a (more_exs b es)) h r k = more-tuple a b es k.0 k.2.0 k.2.2
plain-printed set_literal es h r k = set-printed es k
plain-printed mset_literal es h r k = mset-printed es k
plain-printed function_literal es h r k = function-printed es h r k
plain-printed relation_literal es h r k = relation-printed es k
plain-printed partition_literal es h r k = partition-printed es k
plain-printed matrix_literal es h r k = matrix-printed es k
plain-printed (record_literal []) es h r k = cc
plain-printed (record_literal (a ∷ ns)) es h r k = record-printed a ns es (and_parts (are_name_tokens (a ∷ ns)) (fit_fields (a ∷ ns) es) h).1 k

-- A readable node is printed so that it is read.
pub node-printed : (b : Bool) (op : Op) (es : Exs) → ReadableEx (node_ex b op es) → Each es → Printed (node_ex b op es)
node-printed b op es h k = subst (λ c. Printed (node_ex c op es)) (sym h.0) (plain-printed op es h.1 h.2 k)
