-- Texts of expressions and domains with their trees, by derivations over the tokens of the texts.
use Rattle.std.specs.Prelude.{ℕ, refl, Bool, true, false, List, [], ◌∷◌, pos, Some, None, codes}
use Rattle.std.proofs.Common.{lit≤}
use Rattle.ess_semantics.specs.declared.words.Op1.{Op1}
use Rattle.ess_semantics.specs.declared.words.Op2.{Op2}
use Rattle.ess_semantics.specs.declared.words.Fun.{Fun}
use Rattle.ess_semantics.specs.declared.words.Key.{Key}
use Rattle.ess_semantics.specs.Values.{Text}
use Rattle.ess_semantics.specs.Trees.{Op, tuple_literal, set_literal, mset_literal, function_literal, partition_literal, matrix_literal, record_literal, one_value, both_ends, low_end, flag, valued, name_pat, tuple_pat, more_pats, no_pats, Ex, number_ex, name_ex, matrix_ex, comp_ex, no_exs, no_gens, over, from, cond, bool_dom, int_dom, name_dom, tuple_dom, record_dom, matrix_dom, set_dom, function_dom, relation_dom, partition_dom, no_doms, more_doms, plain_node}
use Rattle.ess_grammar.specs.Words.{Token}
use Rattle.ess_grammar.specs.Tokens.{tokens}
use Rattle.ess_grammar.specs.Patterns.{Shape, member_shape, other_shape}
use Rattle.ess_grammar.specs.Grammar.{one_ex, two_exs, unary_ex, binary_ex, pair_ex, quantified, indexed, applied, for_all_quantifier, sum_quantifier, opens_tuple, opens_set, opens_mset, opens_partition, opens_matrix, opens_call, Expression, Domain, number_atom, name_atom, bracketed_atom, pair_atom, list_atom, empty_atom, function_atom, record_atom, matrix_atom, comprehension_atom, bar_atom, index_atom, application_atom, atom_expression, minus_expression, not_expression, binary_expression, quantifier_expression, last_expression, next_expression, last_pair, next_pair, last_field, next_field, last_generator, next_generator, last_condition, next_condition, over_generator, from_generator, in_generator, bool_domain, int_domain, ranges_domain, name_domain, pair_domain, tuple_domain, record_domain, matrix_domain, set_domain, partition_domain, relation_domain, function_domain, plain_function_domain, last_domain, last_field_domain, next_field_domain, no_attributes, some_attributes, last_attribute, next_attribute, flag_attribute, valued_attribute, last_range, next_range, value_range, both_range, low_range}
use Rattle.ess_grammar.specs.Readable.{ReadableDom}

-- the tokens of a text without refusals
abbrev pub read : Text → List Token
read text = elim (tokens text) [ Some ts ↦ ts | None ↦ [] ]

-- the whole text is this expression, of this shape and level, and maybe it ends in a quantifier's body
abbrev pub Is : Bool → Shape → ℕ → Ex → Text → Type 0
Is w s l e text = Expression w s l e (read text) []

abbrev pub num : ℕ → Ex
num k = number_ex (pos k)

abbrev pub x : Ex
x = name_ex (codes "x")

abbrev pub y : Ex
y = name_ex (codes "y")

abbrev pub s : Ex
s = name_ex (codes "s")

-- ---- operators

-- `**` from the right, `-` from the left, and prefixes tighter than all
powers : Is false other_shape 6 (binary_ex Op2.Minus (binary_ex Op2.Pow (num 2) (binary_ex Op2.Pow (num 3) (num 2)))
    (unary_ex Op1.Minus x)) (codes "2 ** 3 ** 2 - -x")
powers =
    binary_expression (lit≤ tt) (lit≤ tt)
    (binary_expression (lit≤ tt) (lit≤ tt) (atom_expression number_atom)
    (binary_expression (lit≤ tt) (lit≤ tt) (atom_expression number_atom) (atom_expression number_atom)))
    (minus_expression (lit≤ tt) (atom_expression name_atom))

differences : Is false other_shape 6 (binary_ex Op2.Minus (binary_ex Op2.Minus x y) s) (codes "x - y - s")
differences = binary_expression (lit≤ tt) (lit≤ tt) (binary_expression (lit≤ tt) (lit≤ tt) (atom_expression name_atom)
    (atom_expression name_atom)) (atom_expression name_atom)

-- a negative number is the prefix before a number, and a negation reaches over a comparison only in brackets
negations : Is false other_shape 5 (binary_ex Op2.Eq (unary_ex Op1.Not x) (unary_ex Op1.Minus (num 1))) (codes "!x = -1")
negations = binary_expression (lit≤ tt) (lit≤ tt) (not_expression (lit≤ tt) (atom_expression name_atom))
    (minus_expression (lit≤ tt) (atom_expression number_atom))

-- `m[i, j]` stays one index of two steps
indices : Is false other_shape 10 (applied (indexed (indexed x (two_exs (num 1) (num 2))) (one_ex (num 3))) (one_ex (num 4)))
    (codes "x[1, 2][3](4)")
indices =
    atom_expression (application_atom (index_atom (index_atom name_atom
    (next_expression (atom_expression number_atom) (last_expression (atom_expression number_atom))))
    (last_expression (atom_expression number_atom))) (last_expression (atom_expression number_atom)))

-- ---- quantifiers and comprehensions

-- a quantifier's body reaches as far right as it can
body : Is true other_shape 3 (binary_ex Op2.Or x (quantified Fun.And (from (name_pat (codes "x")) s no_gens) (binary_ex Op2.And x y)))
    (codes "x \\/ forAll x in s . x /\\ y")
body =
    binary_expression (lit≤ tt) (lit≤ tt) (atom_expression name_atom)
    (quantifier_expression for_all_quantifier (last_generator
    (in_generator refl (last_expression (atom_expression name_atom)) (atom_expression name_atom)))
    (binary_expression (lit≤ tt) (lit≤ tt) (atom_expression name_atom) (atom_expression name_atom)))

-- in a quantifier `x in s` is a condition where x is bound by an earlier item
condition : Is true other_shape 10 (quantified Fun.And (from (name_pat (codes "x")) s (cond (binary_ex Op2.Member x s) no_gens)) x)
    (codes "forAll x in s, x in s . x")
condition =
    quantifier_expression for_all_quantifier
    (next_generator (in_generator refl (last_expression (atom_expression name_atom)) (atom_expression name_atom))
    (last_condition {s = member_shape x} refl (binary_expression (lit≤ tt) (lit≤ tt) (atom_expression name_atom)
    (atom_expression name_atom))))
    (atom_expression name_atom)

-- in a comprehension `in` is no generator's sign
comprehension : Is false other_shape 10
    (comp_ex x (over (name_pat (codes "x")) (int_dom (both_ends ∷ []) (two_exs (num 1) (num 2)))
    (cond (binary_ex Op2.Member y s) (cond (binary_ex Op2.Eq x (num 1)) no_gens))))
    (codes "[x | x : int(1..2), y in s, (x) = 1]")
comprehension =
    atom_expression (comprehension_atom (atom_expression name_atom)
    (next_generator (over_generator (last_expression (atom_expression name_atom))
    (ranges_domain (last_range (both_range (atom_expression number_atom) (atom_expression number_atom)))))
    (next_condition {s = member_shape y} refl refl (binary_expression (lit≤ tt) (lit≤ tt) (atom_expression name_atom)
    (atom_expression name_atom))
    (last_condition {s = other_shape} refl (binary_expression (lit≤ tt) (lit≤ tt)
    (atom_expression (bracketed_atom (atom_expression name_atom))) (atom_expression number_atom))))))

-- a name alone before a generator is one of its patterns, a name in brackets is a condition
patterns : Is false other_shape 10 (comp_ex x (from (name_pat (codes "y")) s (from (name_pat (codes "x")) s no_gens)))
    (codes "[x | y, x <- s]")
patterns =
    atom_expression (comprehension_atom (atom_expression name_atom)
    (last_generator (from_generator (next_expression (atom_expression name_atom) (last_expression (atom_expression name_atom)))
    (atom_expression name_atom))))

bracketed : Is false other_shape 10 (comp_ex x (cond y (from (name_pat (codes "x")) s no_gens))) (codes "[x | (y), x <- s]")
bracketed =
    atom_expression (comprehension_atom (atom_expression name_atom)
    (next_condition {s = other_shape} refl refl (atom_expression (bracketed_atom (atom_expression name_atom)))
    (last_generator (from_generator (last_expression (atom_expression name_atom)) (atom_expression name_atom)))))

-- a bracket directly behind `sum` that holds two or more patterns is the first pattern of a generator, any other a call's
sum_of_pairs : Is true other_shape 10
    (quantified Fun.Sum (from (tuple_pat (more_pats (name_pat (codes "x")) (more_pats (name_pat (codes "y")) no_pats))) s no_gens)
    (binary_ex Op2.Plus x y))
    (codes "sum (x, y) in s . x + y")
sum_of_pairs =
    quantifier_expression (sum_quantifier refl)
    (last_generator (in_generator refl (last_expression (atom_expression
    (pair_atom (atom_expression name_atom) (last_expression (atom_expression name_atom))))) (atom_expression name_atom)))
    (binary_expression (lit≤ tt) (lit≤ tt) (atom_expression name_atom) (atom_expression name_atom))

sum_call : Is false other_shape 10 (plain_node (Op.word Fun.Sum) (one_ex (plain_node matrix_literal (two_exs x y)))) (codes "sum([x, y])")
sum_call =
    atom_expression (list_atom opens_call
    (last_expression (atom_expression (list_atom opens_matrix
    (next_expression (atom_expression name_atom) (last_expression (atom_expression name_atom))) refl))) refl)

-- so a call of `sum` on two names has one in brackets
sum_of_names : Is false other_shape 10 (plain_node (Op.word Fun.Sum) (two_exs x y)) (codes "sum((x), y)")
sum_of_names =
    atom_expression (list_atom opens_call (next_expression (atom_expression (bracketed_atom (atom_expression name_atom)))
    (last_expression (atom_expression name_atom))) refl)

-- a bar where an operand may begin opens a bar's expression
bars : Is false other_shape 10 (comp_ex (unary_ex Op1.Bar x)
    (from (name_pat (codes "x")) s (cond (binary_ex Op2.Eq (unary_ex Op1.Bar x) (num 1)) no_gens))) (codes "[|x| | x <- s, |x| = 1]")
bars =
    atom_expression (comprehension_atom (atom_expression (bar_atom (atom_expression name_atom)))
    (next_generator (from_generator (last_expression (atom_expression name_atom)) (atom_expression name_atom))
    (last_condition {s = other_shape} refl (binary_expression (lit≤ tt) (lit≤ tt) (atom_expression (bar_atom (atom_expression name_atom)))
    (atom_expression number_atom)))))

-- ---- literals

literals : Is false other_shape 10
    (plain_node function_literal (two_exs (pair_ex (num 1) (plain_node set_literal no_exs))
    (pair_ex (num 2) (plain_node mset_literal no_exs)))) (codes "function(1 --> {}, 2 --> mset())")
literals =
    atom_expression (function_atom (next_pair (atom_expression number_atom) (atom_expression (empty_atom opens_set))
    (last_pair (atom_expression number_atom) (atom_expression (empty_atom opens_mset)))))

-- a record, a tuple of one component, a partition, a matrix with its index domain
more_literals : Is false other_shape 10
    (plain_node (record_literal (codes "a" ∷ codes "size" ∷ []))
    (two_exs (plain_node tuple_literal (one_ex (num 1))) (matrix_ex
    (one_ex (plain_node partition_literal (one_ex (plain_node set_literal (one_ex (num 1)))))) bool_dom)))
    (codes "record {a = tuple (1), size = [partition({1}); bool]}")
more_literals =
    atom_expression (record_atom (next_field (atom_expression (list_atom opens_tuple (last_expression (atom_expression number_atom)) refl))
    (last_field (atom_expression (matrix_atom (last_expression (atom_expression (list_atom opens_partition
    (last_expression (atom_expression (list_atom opens_set (last_expression (atom_expression number_atom)) refl))) refl))) bool_domain)))))

-- ---- domains

-- attributes where an attribute word follows the bracket directly behind `function`
total : Domain (function_dom (flag Key.Total ∷ valued Key.MinSize ∷ []) (one_ex (num 2))
    (tuple_dom (more_doms (int_dom [] no_exs) (more_doms bool_dom no_doms))) (int_dom (low_end ∷ []) (one_ex (num 1))))
    (read (codes "function (total, minSize 2) (int, bool) --> int(1..)")) []
total =
    function_domain (next_attribute (flag_attribute refl) (last_attribute (valued_attribute refl (atom_expression number_atom))))
    (pair_domain int_domain (last_domain bool_domain)) (ranges_domain (last_range (low_range (atom_expression number_atom))))

-- else its first domain
from_tuple : Domain (function_dom [] no_exs (tuple_dom (more_doms (name_dom (codes "c"))
    (more_doms (name_dom (codes "size")) no_doms))) bool_dom) (read (codes "function (c, size) --> bool")) []
from_tuple = plain_function_domain refl (pair_domain name_domain (last_domain name_domain)) bool_domain

-- with the word `tuple` it may begin with such a name
from_size : Domain (function_dom [] no_exs (tuple_dom (more_doms (name_dom (codes "size")) no_doms)) bool_dom)
    (read (codes "function tuple (size) --> bool")) []
from_size = plain_function_domain refl (tuple_domain (last_domain name_domain)) bool_domain

relations : Domain (relation_dom (flag Key.Symmetric ∷ []) no_exs
    (more_doms (int_dom (one_value ∷ one_value ∷ []) (two_exs (num 1) (num 3))) (more_doms bool_dom no_doms)))
    (read (codes "relation (symmetric) of (int(1, 3) * bool)")) []
relations =
    relation_domain (some_attributes (last_attribute (flag_attribute refl)))
    (ranges_domain (next_range (value_range (atom_expression number_atom)) (last_range (value_range (atom_expression number_atom)))))
    (last_domain bool_domain)

nested : Domain
    (matrix_dom (more_doms bool_dom no_doms) (record_dom (codes "a" ∷ codes "b" ∷ [])
    (more_doms (set_dom (valued Key.Size ∷ []) (one_ex (num 2)) (name_dom (codes "c")))
    (more_doms (partition_dom [] no_exs bool_dom) no_doms))))
    (read (codes "matrix indexed by [bool] of record {a : set (size 2) of c, b : partition from bool}")) []
nested =
    matrix_domain (last_domain bool_domain)
    (record_domain (next_field_domain (set_domain (some_attributes
    (last_attribute (valued_attribute refl (atom_expression number_atom)))) name_domain)
    (last_field_domain (partition_domain no_attributes bool_domain))))

-- the fields of a record's domain are kept by name, and two of one name in written order
by_name_of_fields : Domain
    (record_dom (codes "a" ∷ codes "b" ∷ []) (more_doms (int_dom (both_ends ∷ []) (two_exs (num 1) (num 2))) (more_doms bool_dom no_doms)))
    (read (codes "record {b : bool, a : int(1..2)}")) []
by_name_of_fields =
    record_domain (next_field_domain bool_domain
    (last_field_domain (ranges_domain (last_range (both_range (atom_expression number_atom) (atom_expression number_atom))))))

one_field_twice : Domain
    (record_dom (codes "a" ∷ codes "b" ∷ codes "b" ∷ []) (more_doms bool_dom (more_doms (int_dom [] no_exs) (more_doms bool_dom no_doms))))
    (read (codes "record {b : int, b : bool, a : bool}")) []
one_field_twice = record_domain (next_field_domain int_domain (next_field_domain bool_domain (last_field_domain bool_domain)))

-- the fields of a literal stay as they are written
written_fields : Is false other_shape 10 (plain_node (record_literal (codes "b" ∷ codes "a" ∷ [])) (two_exs x y))
    (codes "record {b = x, a = y}")
written_fields = atom_expression (record_atom (next_field (atom_expression name_atom) (last_field (atom_expression name_atom))))

-- so a domain with its fields by name is readable, and no other
fields_that_rise : ReadableDom (record_dom (codes "a" ∷ codes "b" ∷ []) (more_doms bool_dom (more_doms bool_dom no_doms)))
fields_that_rise = (refl, refl, (tt, (tt, tt)))

fields_that_fall : ReadableDom (record_dom (codes "b" ∷ codes "a" ∷ []) (more_doms bool_dom (more_doms bool_dom no_doms))) → ⊥
fields_that_fall h = let k = h.1 in cc
