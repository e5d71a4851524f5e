-- Worked examples of types: on which operands each operator, word and literal stands.
use Rattle.std.specs.Prelude.{◌≡◌, refl, Bool, true, false, List, [], ◌∷◌, map, codes, Some, None, is_some, not}
use Rattle.ess_semantics.specs.declared.words.Op1.{Op1}
use Rattle.ess_semantics.specs.declared.words.Op2.{Op2}
use Rattle.ess_semantics.specs.declared.words.Fun.{Fun}
use Rattle.ess_semantics.specs.declared.words.Key.{Key}
use Rattle.ess_semantics.specs.Trees.{by_value, to_component, to_field, index, application, tuple_literal, set_literal, mset_literal, function_literal, relation_literal, partition_literal, matrix_literal, valued, name_pat, Ex, truth_ex, node_ex, plain_node, comp_ex, cell_ex, no_exs, more_exs, no_gens, over, from, cond, bool_dom, tuple_dom, record_dom, matrix_dom, set_dom, mset_dom, function_dom, relation_dom, partition_dom, no_doms, more_doms}
use Rattle.std.specs.List.{list_all}
use Rattle.ess_semantics.specs.Values.{a_tuple, a_set, a_relation, a_record}
use Rattle.ess_semantics.specs.Names.{Names}
use Rattle.ess_semantics.specs.Types.{Ty, any_ty, bool_ty, int_ty, named_ty, compound, no_tys, compound1, compound2, join, type_of_dom}
use Rattle.ess_semantics.specs.Typing.{type_of}
use Rattle.ess_semantics.proofs.Shorthands.{N, n, es1, es2, un, bi, fn, fn2, at, app, upto, range}

-- The types of the names.
abbrev types : Names Ty
types =
    (codes "s", type_of_dom (set_dom [] no_exs (upto 3))) ∷
    (codes "q", type_of_dom (mset_dom (valued Key.MaxSize ∷ []) (es1 (n 4)) (upto 3))) ∷
    (codes "r", type_of_dom (relation_dom [] no_exs (more_doms (upto 2) (more_doms (upto 2) no_doms)))) ∷
    (codes "f", type_of_dom (function_dom [] no_exs (upto 3) (upto 9))) ∷
    (codes "p", type_of_dom (partition_dom [] no_exs (upto 3))) ∷
    (codes "m", type_of_dom (matrix_dom (more_doms (upto 2) no_doms) (range (n 0) (n 9)))) ∷
    (codes "b", type_of_dom (matrix_dom (more_doms (upto 2) no_doms) bool_dom)) ∷
    (codes "t", type_of_dom (tuple_dom (more_doms (upto 2) (more_doms bool_dom no_doms)))) ∷
    (codes "z", type_of_dom (range (n 0) (n 9))) ∷
    (codes "c", type_of_dom (bool_dom)) ∷
    (codes "k", type_of_dom (set_dom [] no_exs bool_dom)) ∷
    (codes "w", type_of_dom (matrix_dom (more_doms bool_dom no_doms) (range (n 0) (n 9)))) ∷
    (codes "e", type_of_dom (record_dom (codes "a" ∷ []) (more_doms bool_dom no_doms))) ∷
    []

abbrev fits : Ex → Bool
fits e = is_some (type_of e types)

abbrev all_fit : List Ex → Bool
all_fit es = list_all fits es

abbrev none_fits : List Ex → Bool
none_fits es = list_all (λ e. not (fits e)) es

-- sizes and absolute values: |z|, |s|, |q|, |f|, |r|
sizes_fit : all_fit (
    un Op1.Bar (N (codes "z")) ∷ un Op1.Bar (N (codes "s")) ∷ un Op1.Bar (N (codes "q")) ∷ un Op1.Bar (N (codes "f")) ∷
    un Op1.Bar (N (codes "r")) ∷ []) ≡ true
sizes_fit = refl

-- but not: |p|, |m|, |t|, |c|
sizes_do_not_fit : none_fits (
    un Op1.Bar (N (codes "p")) ∷ un Op1.Bar (N (codes "m")) ∷ un Op1.Bar (N (codes "t")) ∷ un Op1.Bar (N (codes "c")) ∷ []) ≡ true
sizes_do_not_fit = refl

-- `in`: 1 in s, 1 in q, (1, 2) in r
members_fit : all_fit (
    bi Op2.Member (n 1) (N (codes "s")) ∷ bi Op2.Member (n 1) (N (codes "q")) ∷
    bi Op2.Member (plain_node tuple_literal (es2 (n 1) (n 2))) (N (codes "r")) ∷ []) ≡ true
members_fit = refl

-- but not: true in s, 1 in f, 1 in p, 1 in m, (1, 2) in f, (1, true) in r
members_do_not_fit : none_fits (
    bi Op2.Member (truth_ex true) (N (codes "s")) ∷ bi Op2.Member (n 1) (N (codes "f")) ∷ bi Op2.Member (n 1) (N (codes "p")) ∷
    bi Op2.Member (n 1) (N (codes "m")) ∷ bi Op2.Member (plain_node tuple_literal (es2 (n 1) (n 2))) (N (codes "f")) ∷
    bi Op2.Member (plain_node tuple_literal (es2 (n 1) (truth_ex true))) (N (codes "r")) ∷ []) ≡ true
members_do_not_fit = refl

-- inclusion: s subsetEq s, q subset q, r supset r, s supsetEq {}
inclusions_fit : all_fit (
    bi Op2.SubsetEq (N (codes "s")) (N (codes "s")) ∷ bi Op2.Subset (N (codes "q")) (N (codes "q")) ∷
    bi Op2.Supset (N (codes "r")) (N (codes "r")) ∷ bi Op2.SupsetEq (N (codes "s")) (plain_node set_literal no_exs) ∷ []) ≡ true
inclusions_fit = refl

-- but not: s subset q, f subset f, m subset m, p subsetEq p
inclusions_do_not_fit : none_fits (
    bi Op2.Subset (N (codes "s")) (N (codes "q")) ∷ bi Op2.Subset (N (codes "f")) (N (codes "f")) ∷
    bi Op2.Subset (N (codes "m")) (N (codes "m")) ∷ bi Op2.SubsetEq (N (codes "p")) (N (codes "p")) ∷ []) ≡ true
inclusions_do_not_fit = refl

-- union, intersection and difference: s union s, r intersect r, s - s, z - z, r - r
unions_fit : all_fit (
    bi Op2.Union (N (codes "s")) (N (codes "s")) ∷ bi Op2.Intersect (N (codes "r")) (N (codes "r")) ∷
    bi Op2.Minus (N (codes "s")) (N (codes "s")) ∷ bi Op2.Minus (N (codes "z")) (N (codes "z")) ∷ bi Op2.Minus (N (codes "r")) (N (codes "r")) ∷ []) ≡ true
unions_fit = refl

-- but not: q union q, q - q, f intersect f, s union r, p - p
unions_do_not_fit : none_fits (
    bi Op2.Union (N (codes "q")) (N (codes "q")) ∷ bi Op2.Minus (N (codes "q")) (N (codes "q")) ∷
    bi Op2.Intersect (N (codes "f")) (N (codes "f")) ∷ bi Op2.Union (N (codes "s")) (N (codes "r")) ∷
    bi Op2.Minus (N (codes "p")) (N (codes "p")) ∷ []) ≡ true
unions_do_not_fit = refl

-- `toSet` and `toMSet`: toSet(q), toSet(r), toSet(f), toSet(m), toMSet(s), toMSet(m)
collections_fit : all_fit (
    fn Fun.ToSet (N (codes "q")) ∷ fn Fun.ToSet (N (codes "r")) ∷ fn Fun.ToSet (N (codes "f")) ∷ fn Fun.ToSet (N (codes "m")) ∷
    fn Fun.ToMSet (N (codes "s")) ∷ fn Fun.ToMSet (N (codes "m")) ∷ []) ≡ true
collections_fit = refl

-- but not: toSet(s), toSet(p), toSet(t), toMSet(q), toMSet(r), toMSet(f)
collections_do_not_fit : none_fits (
    fn Fun.ToSet (N (codes "s")) ∷ fn Fun.ToSet (N (codes "p")) ∷ fn Fun.ToSet (N (codes "t")) ∷ fn Fun.ToMSet (N (codes "q")) ∷
    fn Fun.ToMSet (N (codes "r")) ∷ fn Fun.ToMSet (N (codes "f")) ∷ []) ≡ true
collections_do_not_fit = refl

-- `min` and `max`: min(m), max(s), min(q), min({})
extremes_fit : all_fit (
    fn Fun.Min (N (codes "m")) ∷ fn Fun.Max (N (codes "s")) ∷ fn Fun.Min (N (codes "q")) ∷ fn Fun.Min (plain_node set_literal no_exs) ∷ []) ≡ true
extremes_fit = refl

-- but not: max(b), min(k), min(r), max(f), min(z)
extremes_do_not_fit : none_fits (
    fn Fun.Max (N (codes "b")) ∷ fn Fun.Min (N (codes "k")) ∷ fn Fun.Min (N (codes "r")) ∷ fn Fun.Max (N (codes "f")) ∷
    fn Fun.Min (N (codes "z")) ∷ []) ≡ true
extremes_do_not_fit = refl

-- folds over lists: sum(m), product(m), and(b), or(b), allDiff(m), allDiff(b), sum([])
folds_fit : all_fit (
    fn Fun.Sum (N (codes "m")) ∷ fn Fun.Product (N (codes "m")) ∷ fn Fun.And (N (codes "b")) ∷ fn Fun.Or (N (codes "b")) ∷
    fn Fun.AllDiff (N (codes "m")) ∷ fn Fun.AllDiff (N (codes "b")) ∷ fn Fun.Sum (plain_node matrix_literal no_exs) ∷ []) ≡ true
folds_fit = refl

-- but not: sum(b), and(m), sum(s), allDiff(s), or(k)
folds_do_not_fit : none_fits (
    fn Fun.Sum (N (codes "b")) ∷ fn Fun.And (N (codes "m")) ∷ fn Fun.Sum (N (codes "s")) ∷ fn Fun.AllDiff (N (codes "s")) ∷
    fn Fun.Or (N (codes "k")) ∷ []) ≡ true
folds_do_not_fit = refl

-- comparisons by order: z < z, c <= c, z >= 1
comparisons_fit : all_fit (
    bi Op2.Lt (N (codes "z")) (N (codes "z")) ∷ bi Op2.Le (N (codes "c")) (N (codes "c")) ∷ bi Op2.Ge (N (codes "z")) (n 1) ∷ []) ≡ true
comparisons_fit = refl

-- but not: s < s, t > t, z < c, m < m
comparisons_do_not_fit : none_fits (
    bi Op2.Lt (N (codes "s")) (N (codes "s")) ∷ bi Op2.Gt (N (codes "t")) (N (codes "t")) ∷ bi Op2.Lt (N (codes "z")) (N (codes "c")) ∷
    bi Op2.Lt (N (codes "m")) (N (codes "m")) ∷ []) ≡ true
comparisons_do_not_fit = refl

-- lexicographic signs: m <lex m, b >=lex b, m <lex [1], [] <=lex b
lexicographic_signs_fit : all_fit (
    bi Op2.LexLt (N (codes "m")) (N (codes "m")) ∷ bi Op2.LexGe (N (codes "b")) (N (codes "b")) ∷
    bi Op2.LexLt (N (codes "m")) (plain_node matrix_literal (es1 (n 1))) ∷ bi Op2.LexLe (plain_node matrix_literal no_exs) (N (codes "b")) ∷ []) ≡ true
lexicographic_signs_fit = refl

-- but not: m <lex b, m <lex w, z <lex z, s <lex s
lexicographic_signs_do_not_fit : none_fits (
    bi Op2.LexLt (N (codes "m")) (N (codes "b")) ∷ bi Op2.LexLt (N (codes "m")) (N (codes "w")) ∷ bi Op2.LexLt (N (codes "z")) (N (codes "z")) ∷
    bi Op2.LexLt (N (codes "s")) (N (codes "s")) ∷ []) ≡ true
lexicographic_signs_do_not_fit = refl

-- `=`: s = s, m = [1, 2], [] = m, [] = w, {} = s, f = function(), t = (1, true)
equalities_fit : all_fit (
    bi Op2.Eq (N (codes "s")) (N (codes "s")) ∷ bi Op2.Eq (N (codes "m")) (plain_node matrix_literal (es2 (n 1) (n 2))) ∷
    bi Op2.Eq (plain_node matrix_literal no_exs) (N (codes "m")) ∷ bi Op2.Eq (plain_node matrix_literal no_exs) (N (codes "w")) ∷
    bi Op2.Eq (plain_node set_literal no_exs) (N (codes "s")) ∷ bi Op2.Eq (N (codes "f")) (plain_node function_literal no_exs) ∷
    bi Op2.Eq (N (codes "t")) (plain_node tuple_literal (es2 (n 1) (truth_ex true))) ∷ []) ≡ true
equalities_fit = refl

-- but not: {} = q, s = q, m = w, b = m, z = c, r = toSet(r)
equalities_do_not_fit : none_fits (
    bi Op2.Eq (plain_node set_literal no_exs) (N (codes "q")) ∷ bi Op2.Eq (N (codes "s")) (N (codes "q")) ∷
    bi Op2.Eq (N (codes "m")) (N (codes "w")) ∷ bi Op2.Eq (N (codes "b")) (N (codes "m")) ∷ bi Op2.Eq (N (codes "z")) (N (codes "c")) ∷
    bi Op2.Eq (N (codes "r")) (fn Fun.ToSet (N (codes "r"))) ∷ []) ≡ true
equalities_do_not_fit = refl

-- words on functions: image(f, 1), preImage(f, 1), defined(f), range(f), toRelation(f)
function_words_fit : all_fit (
    fn2 Fun.Image (N (codes "f")) (n 1) ∷ fn2 Fun.PreImage (N (codes "f")) (n 1) ∷ fn Fun.Defined (N (codes "f")) ∷
    fn Fun.Range (N (codes "f")) ∷ fn Fun.ToRelation (N (codes "f")) ∷ []) ≡ true
function_words_fit = refl

-- but not: image(r, 1), preImage(f, true), defined(r), range(s), toRelation(r), image(f)
function_words_do_not_fit : none_fits (
    fn2 Fun.Image (N (codes "r")) (n 1) ∷ fn2 Fun.PreImage (N (codes "f")) (truth_ex true) ∷ fn Fun.Defined (N (codes "r")) ∷
    fn Fun.Range (N (codes "s")) ∷ fn Fun.ToRelation (N (codes "r")) ∷ fn Fun.Image (N (codes "f")) ∷ []) ≡ true
function_words_do_not_fit = refl

-- words on multisets and partitions: freq(q, 1), parts(p), participants(p), party(1, p), together({1}, p), together(s, p)
multiset_and_partition_words_fit : all_fit (
    fn2 Fun.Freq (N (codes "q")) (n 1) ∷ fn Fun.Parts (N (codes "p")) ∷ fn Fun.Participants (N (codes "p")) ∷
    fn2 Fun.Party (n 1) (N (codes "p")) ∷ fn2 Fun.Together (plain_node set_literal (es1 (n 1))) (N (codes "p")) ∷
    fn2 Fun.Together (N (codes "s")) (N (codes "p")) ∷ []) ≡ true
multiset_and_partition_words_fit = refl

-- but not: freq(s, 1), freq(q, true), parts(s), party(true, p), together(s, s), together(1, p), party(p, 1)
multiset_and_partition_words_do_not_fit : none_fits (
    fn2 Fun.Freq (N (codes "s")) (n 1) ∷ fn2 Fun.Freq (N (codes "q")) (truth_ex true) ∷ fn Fun.Parts (N (codes "s")) ∷
    fn2 Fun.Party (truth_ex true) (N (codes "p")) ∷ fn2 Fun.Together (N (codes "s")) (N (codes "s")) ∷ fn2 Fun.Together (n 1) (N (codes "p")) ∷
    fn2 Fun.Party (N (codes "p")) (n 1) ∷ []) ≡ true
multiset_and_partition_words_do_not_fit = refl

-- applications and indices: f(1), r(1, 2), m[1], t[2], e[a]
applications_and_indices_fit : all_fit (
    app (N (codes "f")) (n 1) ∷ plain_node application (more_exs (N (codes "r")) (es2 (n 1) (n 2))) ∷ at (N (codes "m")) (n 1) ∷
    at (N (codes "t")) (n 2) ∷ at (N (codes "e")) (N (codes "a")) ∷ []) ≡ true
applications_and_indices_fit = refl

-- but not: f(true), f(1, 1), r(1), r(1, true), s(1), m[true], t[3], t[0], e[b], z[1], m[1, 1]
applications_and_indices_do_not_fit : none_fits (
    app (N (codes "f")) (truth_ex true) ∷ plain_node application (more_exs (N (codes "f")) (es2 (n 1) (n 1))) ∷ app (N (codes "r")) (n 1) ∷
    plain_node application (more_exs (N (codes "r")) (es2 (n 1) (truth_ex true))) ∷ app (N (codes "s")) (n 1) ∷
    at (N (codes "m")) (truth_ex true) ∷ at (N (codes "t")) (n 3) ∷ at (N (codes "t")) (n 0) ∷ at (N (codes "e")) (N (codes "b")) ∷
    at (N (codes "z")) (n 1) ∷ plain_node (index (by_value ∷ by_value ∷ [])) (more_exs (N (codes "m")) (es2 (n 1) (n 1))) ∷ []) ≡ true
applications_and_indices_do_not_fit = refl

-- arithmetic and connectives: z + 1, z ** z, -z, !c, c /\ c, toInt(c)
arithmetic_and_connectives_fit : all_fit (
    bi Op2.Plus (N (codes "z")) (n 1) ∷ bi Op2.Pow (N (codes "z")) (N (codes "z")) ∷ un Op1.Minus (N (codes "z")) ∷ un Op1.Not (N (codes "c")) ∷
    bi Op2.And (N (codes "c")) (N (codes "c")) ∷ fn Fun.ToInt (N (codes "c")) ∷ []) ≡ true
arithmetic_and_connectives_fit = refl

-- but not: z + c, -c, !z, z /\ c, toInt(z), c -> z, s + s
arithmetic_and_connectives_do_not_fit : none_fits (
    bi Op2.Plus (N (codes "z")) (N (codes "c")) ∷ un Op1.Minus (N (codes "c")) ∷ un Op1.Not (N (codes "z")) ∷
    bi Op2.And (N (codes "z")) (N (codes "c")) ∷ fn Fun.ToInt (N (codes "z")) ∷ bi Op2.Implies (N (codes "c")) (N (codes "z")) ∷
    bi Op2.Plus (N (codes "s")) (N (codes "s")) ∷ []) ≡ true
arithmetic_and_connectives_do_not_fit = refl

-- literals: {1, 2}, {{}, {1}}, [1, 2], partition({1}, {2}), function(1 --> 2), relation((1, 2))
literals_fit : all_fit (
    plain_node set_literal (es2 (n 1) (n 2)) ∷
    plain_node set_literal (es2 (plain_node set_literal no_exs) (plain_node set_literal (es1 (n 1)))) ∷
    plain_node matrix_literal (es2 (n 1) (n 2)) ∷
    plain_node partition_literal (es2 (plain_node set_literal (es1 (n 1))) (plain_node set_literal (es1 (n 2)))) ∷
    plain_node function_literal (es1 (plain_node tuple_literal (es2 (n 1) (n 2)))) ∷
    plain_node relation_literal (es1 (plain_node tuple_literal (es2 (n 1) (n 2)))) ∷ []) ≡ true
literals_fit = refl

-- but not: {1, true}, [1, true], partition(1), function(1 --> 2, true --> 2), relation((1, 2), (1, 2, 3)), relation(1), mset(1, {})
literals_do_not_fit : none_fits (
    plain_node set_literal (es2 (n 1) (truth_ex true)) ∷ plain_node matrix_literal (es2 (n 1) (truth_ex true)) ∷
    plain_node partition_literal (es1 (n 1)) ∷
    plain_node function_literal (es2 (plain_node tuple_literal (es2 (n 1) (n 2))) (plain_node tuple_literal (es2 (truth_ex true) (n 2)))) ∷
    plain_node relation_literal (es2 (plain_node tuple_literal (es2 (n 1) (n 2))) (plain_node tuple_literal (more_exs (n 1) (es2 (n 2) (n 3))))) ∷
    plain_node relation_literal (es1 (n 1)) ∷ plain_node mset_literal (es2 (n 1) (plain_node set_literal no_exs)) ∷ []) ≡ true
literals_do_not_fit = refl

-- sources of generators: [i | i <- s], [i | i <- q], [i | i <- r], [i | i <- f], [i | i <- p], [i | i <- m], [i | i : bool, i]
generators_fit : all_fit (
    comp_ex (N (codes "i")) (from (name_pat (codes "i")) (N (codes "s")) no_gens) ∷
    comp_ex (N (codes "i")) (from (name_pat (codes "i")) (N (codes "q")) no_gens) ∷
    comp_ex (N (codes "i")) (from (name_pat (codes "i")) (N (codes "r")) no_gens) ∷
    comp_ex (N (codes "i")) (from (name_pat (codes "i")) (N (codes "f")) no_gens) ∷
    comp_ex (N (codes "i")) (from (name_pat (codes "i")) (N (codes "p")) no_gens) ∷
    comp_ex (N (codes "i")) (from (name_pat (codes "i")) (N (codes "m")) no_gens) ∷
    comp_ex (N (codes "i")) (over (name_pat (codes "i")) bool_dom (cond (N (codes "i")) no_gens)) ∷ []) ≡ true
generators_fit = refl

-- but not: [i | i <- t], [i | i <- z], [1 | i : bool, 1]
generators_do_not_fit : none_fits (
    comp_ex (N (codes "i")) (from (name_pat (codes "i")) (N (codes "t")) no_gens) ∷
    comp_ex (N (codes "i")) (from (name_pat (codes "i")) (N (codes "z")) no_gens) ∷
    comp_ex (n 1) (over (name_pat (codes "i")) bool_dom (cond (n 1) no_gens)) ∷ []) ≡ true
generators_do_not_fit = refl

-- a relation of unknown arity joins with every relation; a tuple without components joins with itself alone
joins : map (λ (p : Ty × Ty). join p.0 p.1) (
    (compound a_relation no_tys, compound2 a_relation int_ty bool_ty) ∷ (compound1 a_relation int_ty, compound a_relation no_tys) ∷
    (compound a_relation no_tys, compound a_relation no_tys) ∷ (compound a_tuple no_tys, compound a_tuple no_tys) ∷
    (compound a_tuple no_tys, compound1 a_tuple int_ty) ∷ (compound2 a_tuple int_ty bool_ty, compound a_tuple no_tys) ∷
    (compound (a_record []) no_tys, compound1 (a_record []) int_ty) ∷ (compound a_relation no_tys, compound a_set no_tys) ∷ []) ≡
    Some (compound2 a_relation int_ty bool_ty) ∷ Some (compound1 a_relation int_ty) ∷ Some (compound a_relation no_tys) ∷ Some (compound a_tuple no_tys) ∷
    None ∷ None ∷ None ∷ None ∷ []
joins = refl

-- relation() = relation((1, 2)) and relation() subsetEq r fit, {(), (1, 2)} doesn't
empty_literals : map fits (
    bi Op2.Eq (plain_node relation_literal no_exs) (plain_node relation_literal (es1 (plain_node tuple_literal (es2 (n 1) (n 2))))) ∷
    bi Op2.SubsetEq (plain_node relation_literal no_exs) (N (codes "r")) ∷
    plain_node set_literal (es2 (plain_node tuple_literal no_exs) (plain_node tuple_literal (es2 (n 1) (n 2)))) ∷ []) ≡ true ∷ true ∷ false ∷ []
empty_literals = refl

-- cells: x of a named type, y, y_Explicit[1], and a Boolean
cells : map (λ e. type_of e ((codes "x", named_ty (codes "E")) ∷ (codes "y", compound1 a_set int_ty) ∷ [])) (
    cell_ex false (codes "x") no_exs ∷ cell_ex false (codes "y") no_exs ∷ cell_ex false (codes "y_Explicit") (es1 (n 1)) ∷ cell_ex true (codes "x") no_exs ∷ []) ≡
    Some (named_ty (codes "E")) ∷ Some int_ty ∷ Some int_ty ∷ Some bool_ty ∷ []
cells = refl

-- a cell of numbers is no truth value and no set
cells_fit : map fits (
    bi Op2.Plus (cell_ex false (codes "x") no_exs) (n 1) ∷ bi Op2.And (cell_ex false (codes "x") no_exs) (truth_ex true) ∷
    bi Op2.Eq (cell_ex false (codes "x") no_exs) (N (codes "s")) ∷ []) ≡ true ∷ false ∷ false ∷ []
cells_fit = refl

-- ---- components and fields

-- A part of what has no values has none either; a number has no parts.
parts : map (λ t. map (λ q. type_of (node_ex false (index (q ∷ [])) (es1 (N (codes "a")))) ((codes "a", t) ∷ []))
    (to_component 2 ∷ to_field (codes "b") ∷ []))
    (any_ty ∷ int_ty ∷ []) ≡ (Some any_ty ∷ Some any_ty ∷ []) ∷ (None ∷ None ∷ []) ∷ []
parts = refl
