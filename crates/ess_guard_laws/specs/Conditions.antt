-- The conditions under which an operator has a value where its operands have values, row by row, and what is built of
-- conditions. x and y are reserved names: no tree uses or binds them.
use Rattle.std.specs.Prelude.{ℕ, zero, suc, Bool, true, false, if◌then◌else◌, List, [], ◌∷◌, ◌++◌, pos, ◌+ℤ◌, Option, Some, None}
use Rattle.ess_semantics.specs.declared.words.Op2.{Op2}
use Rattle.ess_semantics.specs.declared.words.Fun.{Fun}
use Rattle.ess_semantics.specs.declared.words.ReprKind.{ReprKind}
use Rattle.ess_semantics.specs.Values.{Text}
use Rattle.ess_semantics.specs.Order.{same_int}
use Rattle.ess_semantics.specs.Names.{Names}
use Rattle.ess_semantics.specs.Trees.{Step, by_value, to_component, to_field, Op, binary, word, index, tuple_literal, set_literal, mset_literal, function_literal, partition_literal, matrix_literal, both_ends, repr, more_reprs, name_pat, Ex, Exs, number_ex, truth_ex, name_ex, node_ex, comp_ex, seen_ex, no_exs, more_exs, Gens, no_gens, over, from, cond, Dom, int_dom, function_dom, ex2, fun1}
use Rattle.ess_semantics.specs.Constants.{operand_count}
use Rattle.ess_rules_laws.specs.Apart.{are_apart}
use Rattle.ess_guard_laws.specs.Origins.{Origin, is_number, is_sure}
use Rattle.ess_guard_laws.specs.IndexDomains.{index_dom}

-- ---- what is built of conditions

-- Conditions as generators.
abbrev pub conds : List Ex → Gens
conds [] = no_gens
conds (c ∷ cs) = cond c (conds cs)

-- The Boolean b under conditions: `or([b | c1, .., cn])`, which is false where one of them fails. Without conditions b.
abbrev pub chained : List Ex → Ex → Ex
chained [] b = b
chained (c ∷ cs) b = fun1 true Fun.Or (comp_ex b (conds (c ∷ cs)))

-- The number e under conditions: `sum([e | c1, .., cn])`, which is e where they hold, and 0 elsewhere.
abbrev pub summed : List Ex → Ex → Ex
summed [] e = e
summed (c ∷ cs) e = fun1 false Fun.Sum (comp_ex e (conds (c ∷ cs)))

-- That all conditions hold, each asked under those before it: `or([c2 | c1])`.
abbrev pub all_of : List Ex → Ex
all_of [] = truth_ex true
all_of (c ∷ []) = c
all_of (c ∷ d ∷ cs) = chained (c ∷ []) (all_of (d ∷ cs))

-- That conditions hold at each binding of a generator; nothing is asked where there are none.
abbrev pub every : Gens → List Ex → List Ex
every g [] = []
every g (c ∷ cs) = fun1 true Fun.And (comp_ex (all_of (c ∷ cs)) g) ∷ []

-- That conditions hold where another one does.
abbrev pub given_that : Ex → List Ex → List Ex
given_that b [] = []
given_that b (c ∷ cs) = ex2 true Op2.Implies b (all_of (c ∷ cs)) ∷ []

-- One condition, or none where the form says that it holds.
abbrev pub unless : Bool → Ex → List Ex
unless true c = []
unless false c = c ∷ []

-- ---- numbers

-- Zero.
abbrev pub nil_ex : Ex
nil_ex = number_ex (pos 0)

-- The number that an operator reads: the term itself where its form tells that it is a number, else `b + 0`. So no test
-- needs types.
abbrev pub as_number : Names Origin → Ex → Ex
as_number k b = if is_number k b then b else ex2 false Op2.Plus b nil_ex

-- Whether it is a number other than 0.
abbrev pub is_not_zero : Ex → Bool
is_not_zero (number_ex (pos zero)) = false
is_not_zero (number_ex n) = true
is_not_zero e = false

-- Whether it is a number above 0.
abbrev pub is_above_zero : Ex → Bool
is_above_zero (number_ex (pos (suc n))) = true
is_above_zero e = false

-- `b != 0`
abbrev pub quotient_conditions : Names Origin → Ex → List Ex
quotient_conditions k b = unless (is_not_zero b) (ex2 true Op2.Ne (as_number k b) nil_ex)

-- `b >= 0` and `b != 0 \/ a != 0`; where a is a number other than 0 the first alone, where b is a number above 0 none.
abbrev pub power_conditions : Names Origin → Ex → Ex → List Ex
power_conditions k a b =
    if is_above_zero b then [] else
    ex2 true Op2.Ge (as_number k b) nil_ex ∷ unless (is_not_zero a)
    (ex2 true Op2.Or (ex2 true Op2.Ne (as_number k b) nil_ex) (ex2 true Op2.Ne (as_number k a) nil_ex))

-- ---- containers

-- Whether it is a literal with an item.
abbrev pub has_items : Ex → Bool
has_items (node_ex false matrix_literal (more_exs e es)) = true
has_items (node_ex false set_literal (more_exs e es)) = true
has_items (node_ex false mset_literal (more_exs e es)) = true
has_items e = false

-- `or([true | x <- s])`; for a comprehension its own generators.
abbrev pub has_item : Text → Ex → Ex
has_item x (comp_ex e gs) = fun1 true Fun.Or (comp_ex (truth_ex true) gs)
has_item x s = fun1 true Fun.Or (comp_ex (truth_ex true) (from (name_pat x) s no_gens))

-- That a container has an item: asked of least and greatest items.
abbrev pub some_item : Text → Ex → List Ex
some_item x s = unless (has_items s) (has_item x s)

-- Whether it is a total function that is kept for each argument of its domain, and the argument is sure to be one.
abbrev pub is_argument : Names Origin → Ex → Ex → Bool
is_argument k (seen_ex (repr ReprKind.Function1D (more_reprs r rs)) (function_dom ms es d c) ns is) a = is_sure k a d
is_argument k f a = false

-- `a in defined(f)`
abbrev pub image_conditions : Names Origin → Ex → Ex → List Ex
image_conditions k f a = unless (is_argument k f a) (ex2 true Op2.Member a (fun1 false Fun.Defined f))

-- `a in participants(p)`
abbrev pub party_conditions : Ex → Ex → List Ex
party_conditions a p = ex2 true Op2.Member a (fun1 false Fun.Participants p) ∷ []

-- ---- literals

-- `a = c -> b = d` of the pairs (a, b) and (c, d).
abbrev pub agree : Ex → Ex → Ex
agree (node_ex false tuple_literal (more_exs a (more_exs b no_exs))) (node_ex false tuple_literal (more_exs c (more_exs d no_exs))) =
    ex2 true Op2.Implies (ex2 true Op2.Eq a c) (ex2 true Op2.Eq b d)
agree p q = truth_ex true

-- Whether two pairs have different arguments, by their form.
abbrev pub have_other_arguments : Ex → Ex → Bool
have_other_arguments (node_ex false tuple_literal (more_exs a (more_exs b no_exs)))
    (node_ex false tuple_literal (more_exs c (more_exs d no_exs))) = are_apart a c
have_other_arguments p q = false

-- That a pair agrees with each of several others. Nothing is asked of one whose argument is another by its form.
abbrev pub agree_all : Ex → Exs → List Ex
agree_all p no_exs = []
agree_all p (more_exs q qs) = unless (have_other_arguments p q) (agree p q) ++ agree_all p qs

-- That pairs have one value for each argument: each agrees with those behind it that may have its argument.
abbrev pub function_conditions : Exs → List Ex
function_conditions no_exs = []
function_conditions (more_exs p ps) = agree_all p ps ++ function_conditions ps

-- That each part of a partition has a member.
abbrev pub have_members : Text → Exs → List Ex
have_members x no_exs = []
have_members x (more_exs s ss) = some_item x s ++ have_members x ss

-- That no two parts share a member: `allDiff([x | y <- [s1, .., sk], x <- y])`.
abbrev pub are_disjoint : Text → Text → Exs → Ex
are_disjoint x y ss = fun1 true Fun.AllDiff
    (comp_ex (name_ex x) (from (name_pat y) (node_ex false matrix_literal ss) (from (name_pat x) (name_ex y) no_gens)))

-- Whether they are no sets, or a single set literal.
abbrev pub is_single_set : Exs → Bool
is_single_set no_exs = true
is_single_set (more_exs (node_ex false set_literal es) no_exs) = true
is_single_set ss = false

-- That a partition's parts have members and share none.
abbrev pub partition_conditions : Text → Text → Exs → List Ex
partition_conditions x y ss = have_members x ss ++ unless (is_single_set ss) (are_disjoint x y ss)

-- Whether the domain is a range of this many numbers, by its form.
abbrev pub has_size : Dom → ℕ → Bool
has_size (int_dom (both_ends ∷ []) (more_exs (number_ex a) (more_exs (number_ex b) no_exs))) (suc n) = same_int b (a +ℤ pos n)
has_size d n = false

-- `sum([1 | x : D]) = n`: a matrix literal has an item for each index.
abbrev pub matrix_conditions : Text → Exs → Dom → List Ex
matrix_conditions x es d =
    unless (has_size d (operand_count es))
    (ex2 true Op2.Eq (fun1 false Fun.Sum (comp_ex (number_ex (pos 1)) (over (name_pat x) d no_gens)))
    (number_ex (pos (operand_count es))))

-- ---- indices

-- The set of a domain's members: `toSet([x | x : D])`. Membership in a list has no type.
abbrev pub members_of : Text → Dom → Ex
members_of x d = fun1 false Fun.ToSet (comp_ex (name_ex x) (over (name_pat x) d no_gens))

-- `i in D`: `a <= i /\ i <= b` for one range, else that i is in the set of the members.
abbrev pub in_dom : Text → Ex → Dom → Ex
in_dom x i (int_dom (both_ends ∷ []) (more_exs a (more_exs b no_exs))) =
    ex2 true Op2.And (ex2 true Op2.Le (as_number [] a) i) (ex2 true Op2.Le i (as_number [] b))
in_dom x i d = ex2 true Op2.Member i (members_of x d)

-- A matrix at an index, and a step of a path.
abbrev pub at_step : Step → Ex → Exs → Ex
at_step q m is = node_ex false (index (q ∷ [])) (more_exs m is)

-- That i is an index of m, where d is the index domain of m. Where the form doesn't tell one, `m[i] = m[i]`, which holds where
-- it has a value but isn't total.
abbrev pub index_conditions : Names Origin → Text → Option Dom → Ex → Ex → List Ex
index_conditions k x (Some d) m i = unless (is_sure k i d) (in_dom x i d)
index_conditions k x None m i = ex2 true Op2.Eq (at_step by_value m (more_exs i no_exs)) (at_step by_value m (more_exs i no_exs)) ∷ []

-- The same of each step by a value, one behind the other.
abbrev pub path_conditions : Names Origin → Text → Ex → List Step → Exs → List Ex
path_conditions k x m [] is = []
path_conditions k x m (by_value ∷ qs) (more_exs i is) =
    index_conditions k x (index_dom m) m i ++ path_conditions k x (at_step by_value m (more_exs i no_exs)) qs is
path_conditions k x m (by_value ∷ qs) no_exs = []
path_conditions k x m (to_component c ∷ qs) is = path_conditions k x (at_step (to_component c) m no_exs) qs is
path_conditions k x m (to_field a ∷ qs) is = path_conditions k x (at_step (to_field a) m no_exs) qs is

-- ---- all operators

-- The conditions of an operator itself.
abbrev pub own : Names Origin → Text → Text → Op → Exs → List Ex
own k x y (binary Op2.Div) (more_exs a (more_exs b no_exs)) = quotient_conditions k b
own k x y (binary Op2.Mod) (more_exs a (more_exs b no_exs)) = quotient_conditions k b
own k x y (binary Op2.Pow) (more_exs a (more_exs b no_exs)) = power_conditions k a b
own k x y (word Fun.Min) (more_exs s no_exs) = some_item x s
own k x y (word Fun.Max) (more_exs s no_exs) = some_item x s
own k x y (word Fun.Image) (more_exs f (more_exs a no_exs)) = image_conditions k f a
own k x y (word Fun.Party) (more_exs a (more_exs p no_exs)) = party_conditions a p
own k x y function_literal es = function_conditions es
own k x y partition_literal es = partition_conditions x y es
own k x y (index qs) (more_exs m is) = path_conditions k x m qs is
own k x y op es = []
