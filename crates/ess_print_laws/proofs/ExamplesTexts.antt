-- The printed texts of trees: each form once.
use Rattle.std.specs.Prelude.{ℕ, ◌≡◌, refl, true, [], ◌∷◌, pos, codes}
use Rattle.std.specs.Fmt.{digits}
use Rattle.ess_semantics.specs.declared.words.Op1.{Op1}
use Rattle.ess_semantics.specs.declared.words.Op2.{Op2}
use Rattle.ess_semantics.specs.declared.words.Fun.{Fun}
use Rattle.ess_semantics.specs.declared.words.Key.{Key}
use Rattle.ess_semantics.specs.declared.words.ReprKind.{ReprKind}
use Rattle.ess_semantics.specs.Trees.{Op, tuple_literal, set_literal, mset_literal, function_literal, relation_literal, partition_literal, matrix_literal, record_literal, one_value, both_ends, low_end, high_end, flag, valued, name_pat, tuple_pat, more_pats, no_pats, repr, no_reprs, more_reprs, Ex, number_ex, truth_ex, name_ex, matrix_ex, comp_ex, cell_ex, no_exs, more_exs, no_gens, over, from, cond, Dom, bool_dom, int_dom, name_dom, tuple_dom, record_dom, matrix_dom, set_dom, mset_dom, function_dom, relation_dom, partition_dom, no_doms, more_doms, given, given_enum, let_ex, let_dom, let_enum, let_unnamed, needs, find, such_that, minimise, maximise, plain_node}
use Rattle.ess_grammar.specs.Grammar.{one_ex, two_exs, unary_ex, binary_ex, pair_ex, indexed, applied}
use Rattle.ess_print_laws.specs.Texts.{ex_text, dom_text, stm_text, repr_text}

abbrev num : ℕ → Ex
num k = number_ex (pos k)

abbrev a : Ex
a = name_ex (codes "a")

abbrev b : Ex
b = name_ex (codes "b")

abbrev c : Ex
c = name_ex (codes "c")

abbrev x : Ex
x = name_ex (codes "x")

abbrev y : Ex
y = name_ex (codes "y")

abbrev s : Ex
s = name_ex (codes "s")

abbrev int_to : ℕ → Dom
int_to n = int_dom (both_ends ∷ []) (two_exs (num 1) (num n))

abbrev any_int : Dom
any_int = int_dom [] no_exs

-- ---- expressions

-- an operand that is an operator's expression stands in brackets, whatever binds tighter
sums : ex_text (binary_ex Op2.Plus a (binary_ex Op2.Times b c)) ≡ codes "a + (b * c)"
sums = refl

comparisons : ex_text (binary_ex Op2.Lt (binary_ex Op2.Plus x (num 1)) y) ≡ codes "(x + 1) < y"
unfolding digits
comparisons = refl

negations : ex_text (unary_ex Op1.Not (binary_ex Op2.Member (num 9) s)) ≡ codes "!(9 in s)"
unfolding digits
negations = refl

-- a negative number has brackets as an operand alone
negatives : ex_text (plain_node set_literal (two_exs (unary_ex Op1.Minus (num 1)) (binary_ex Op2.Minus x (unary_ex Op1.Minus (num 1))))) ≡ codes "{-1, x - (-1)}"
unfolding digits
negatives = refl

bars : ex_text (binary_ex Op2.Eq (unary_ex Op1.Bar (binary_ex Op2.Union a b)) (unary_ex Op1.Bar (unary_ex Op1.Bar x))) ≡ codes "|a union b| = ||x||"
bars = refl

-- what is indexed or applied is an operand too
indices : ex_text (applied (indexed (binary_ex Op2.Plus a b) (two_exs x y)) (one_ex (truth_ex true))) ≡ codes "(a + b)[x, y](true)"
indices = refl

calls : ex_text (plain_node (Op.word Fun.AllDiff) (one_ex (plain_node matrix_literal (two_exs a b)))) ≡ codes "allDiff([a, b])"
calls = refl

-- `sum` of two or more patterns has its first in brackets
sums_of_patterns : ex_text (plain_node (Op.word Fun.Sum) (two_exs x y)) ≡ codes "sum((x), y)"
sums_of_patterns = refl

tuples : ex_text (plain_node tuple_literal (two_exs (plain_node tuple_literal (one_ex (num 1))) (plain_node tuple_literal (two_exs a b)))) ≡ codes "(tuple (1), (a, b))"
unfolding digits
tuples = refl

collections : ex_text (plain_node set_literal (more_exs (plain_node set_literal no_exs) (two_exs (plain_node mset_literal (two_exs (num 1) (num 1)))
    (plain_node relation_literal (one_ex (plain_node tuple_literal (two_exs (num 1) (num 2)))))))) ≡ codes "{{}, mset(1, 1), relation((1, 2))}"
unfolding digits
collections = refl

functions : ex_text (plain_node function_literal (two_exs (pair_ex (num 1) (num 2)) (pair_ex (num 3) (binary_ex Op2.Plus a b)))) ≡ codes "function(1 --> 2, 3 --> a + b)"
unfolding digits
functions = refl

partitions : ex_text (plain_node partition_literal (two_exs (plain_node set_literal (one_ex (num 1))) (plain_node set_literal (two_exs (num 2) (num 3))))) ≡ codes "partition({1}, {2, 3})"
unfolding digits
partitions = refl

records : ex_text (plain_node (record_literal (codes "b" ∷ codes "a" ∷ [])) (two_exs (num 1) (binary_ex Op2.And x y))) ≡ codes "record {b = 1, a = x /\\ y}"
unfolding digits
records = refl

matrices : ex_text (matrix_ex (two_exs (num 1) (num 2)) (int_to 2)) ≡ codes "[1, 2; int(1..2)]"
unfolding digits
matrices = refl

cells : ex_text (binary_ex Op2.Or (cell_ex true (codes "t") (two_exs (num 1) (num 2))) (cell_ex true (codes "u") no_exs)) ≡ codes "t[1, 2] \\/ u"
unfolding digits
cells = refl

-- ---- comprehensions

quantifiers : ex_text (plain_node (Op.word Fun.And) (one_ex (comp_ex (binary_ex Op2.Le x y) (over (name_pat (codes "x")) (int_to 3) (from (name_pat (codes "y")) s no_gens)))))
    ≡ codes "and([x <= y | x : int(1..3), y <- s])"
unfolding digits
quantifiers = refl

tuple_patterns : ex_text (comp_ex x (from (tuple_pat (more_pats (name_pat (codes "x")) (more_pats (name_pat (codes "y")) no_pats))) s (cond (binary_ex Op2.Ne x y) no_gens)))
    ≡ codes "[x | (x, y) <- s, x != y]"
tuple_patterns = refl

-- a condition that is written as a pattern has brackets before a generator, and none elsewhere
conditions : ex_text (comp_ex x (cond a (cond b (over (name_pat (codes "x")) bool_dom (cond c no_gens))))) ≡ codes "[x | a, (b), x : bool, c]"
conditions = refl

-- ---- domains

sets : dom_text (set_dom (valued Key.Size ∷ []) (one_ex (num 2)) (int_to 3)) ≡ codes "set (size 2) of int(1..3)"
unfolding digits
sets = refl

multisets : dom_text (mset_dom (valued Key.MinOccur ∷ valued Key.MaxOccur ∷ []) (two_exs (num 1) (binary_ex Op2.Plus a b)) any_int) ≡ codes "mset (minOccur 1, maxOccur a + b) of int"
unfolding digits
multisets = refl

ranges : dom_text (int_dom (one_value ∷ low_end ∷ high_end ∷ both_ends ∷ []) (more_exs a (more_exs (num 1) (more_exs (unary_ex Op1.Minus (num 1)) (two_exs (unary_ex Op1.Minus (num 2)) (binary_ex Op2.Plus a b))))))
    ≡ codes "int(a, 1.., ..-1, -2..a + b)"
unfolding digits
ranges = refl

total_functions : dom_text (function_dom (flag Key.Total ∷ flag Key.Injective ∷ []) no_exs (int_dom (both_ends ∷ []) (two_exs (num 1) (name_ex (codes "n")))) (int_dom (both_ends ∷ []) (two_exs (num 1) (name_ex (codes "n")))))
    ≡ codes "function (total, injective) int(1..n) --> int(1..n)"
unfolding digits
total_functions = refl

-- a tuple that begins with an attribute word has its word where no attributes stand before it
attribute_names : dom_text (function_dom [] no_exs (tuple_dom (more_doms (name_dom (codes "size")) (more_doms bool_dom no_doms))) bool_dom) ≡ codes "function tuple (size, bool) --> bool"
attribute_names = refl

behind_attributes : dom_text (function_dom (flag Key.Total ∷ []) no_exs (tuple_dom (more_doms (name_dom (codes "size")) (more_doms bool_dom no_doms))) bool_dom) ≡ codes "function (total) (size, bool) --> bool"
behind_attributes = refl

matrix_domains : dom_text (matrix_dom (more_doms (int_to 3) (more_doms bool_dom no_doms)) bool_dom) ≡ codes "matrix indexed by [int(1..3), bool] of bool"
unfolding digits
matrix_domains = refl

tuple_domains : dom_text (tuple_dom (more_doms (int_to 2) (more_doms (tuple_dom (more_doms bool_dom no_doms)) no_doms))) ≡ codes "(int(1..2), tuple (bool))"
unfolding digits
tuple_domains = refl

record_domains : dom_text (record_dom (codes "a" ∷ codes "b" ∷ []) (more_doms any_int (more_doms bool_dom no_doms))) ≡ codes "record {a : int, b : bool}"
record_domains = refl

relations : dom_text (relation_dom (valued Key.Size ∷ []) (one_ex a) (more_doms (name_dom (codes "A")) (more_doms (name_dom (codes "B")) no_doms))) ≡ codes "relation (size a) of (A * B)"
relations = refl

partition_domains : dom_text (partition_dom (flag Key.Regular ∷ valued Key.NumParts ∷ []) (one_ex (name_ex (codes "g"))) (name_dom (codes "D"))) ≡ codes "partition (regular, numParts g) from D"
partition_domains = refl

-- ---- statements

givens : stm_text (given (codes "w") (int_dom (low_end ∷ []) (one_ex (num 1)))) ≡ codes "given w : int(1..)"
unfolding digits
givens = refl

given_enums : stm_text (given_enum (codes "E")) ≡ codes "given E new type enum"
given_enums = refl

lettings : stm_text (let_ex (codes "a") (binary_ex Op2.Times x y)) ≡ codes "letting a be x * y"
lettings = refl

domain_lettings : stm_text (let_dom (codes "D") (int_to 9)) ≡ codes "letting D be domain int(1..9)"
unfolding digits
domain_lettings = refl

enum_lettings : stm_text (let_enum (codes "E") (codes "a" ∷ codes "b" ∷ [])) ≡ codes "letting E be new type enum {a, b}"
enum_lettings = refl

-- the social golfers: g groups of s golfers in each of w weeks
golfers : stm_text (let_unnamed (codes "Golfers") (binary_ex Op2.Times (name_ex (codes "g")) s)) ≡ codes "letting Golfers be new type of size g * s"
golfers = refl

schedules : stm_text (find (codes "sched") (set_dom (valued Key.Size ∷ []) (one_ex (name_ex (codes "w"))) (partition_dom (flag Key.Regular ∷ valued Key.NumParts ∷ valued Key.PartSize ∷ []) (two_exs (name_ex (codes "g")) s) (name_dom (codes "Golfers")))))
    ≡ codes "find sched : set (size w) of partition (regular, numParts g, partSize s) from Golfers"
schedules = refl

meetings : stm_text (such_that (plain_node (Op.word Fun.And) (one_ex (comp_ex
    (binary_ex Op2.Le (plain_node (Op.word Fun.Sum) (one_ex (comp_ex
    (plain_node (Op.word Fun.ToInt) (one_ex (plain_node (Op.word Fun.Together) (two_exs (plain_node set_literal (two_exs a b)) (name_ex (codes "week"))))))
    (from (name_pat (codes "week")) (name_ex (codes "sched")) no_gens)))) (num 1))
    (over (name_pat (codes "a")) (name_dom (codes "Golfers")) (over (name_pat (codes "b")) (name_dom (codes "Golfers")) (cond (binary_ex Op2.Lt a b) no_gens)))))))
    ≡ codes "such that and([sum([toInt(together({a, b}, week)) | week <- sched]) <= 1 | a : Golfers, b : Golfers, a < b])"
unfolding digits
meetings = refl

conditions_on_parameters : stm_text (needs (binary_ex Op2.LexLe x y)) ≡ codes "where x <=lex y"
conditions_on_parameters = refl

objectives : stm_text (minimise x) ≡ codes "minimising x"
objectives = refl

greatest_objectives : stm_text (maximise (unary_ex Op1.Minus (binary_ex Op2.Pow x (num 2)))) ≡ codes "maximising -(x ** 2)"
unfolding digits
greatest_objectives = refl

-- ---- representations

representations : repr_text (repr ReprKind.Explicit (more_reprs (repr ReprKind.Occurrence no_reprs) no_reprs)) ≡ codes "Explicit[Occurrence]"
representations = refl

several_children : repr_text (repr ReprKind.Function1D (more_reprs (repr ReprKind.Atom no_reprs) (more_reprs (repr ReprKind.Atom no_reprs) no_reprs))) ≡ codes "Function1D[Atom, Atom]"
several_children = refl
