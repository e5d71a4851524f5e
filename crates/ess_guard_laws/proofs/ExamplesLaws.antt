-- Worked examples of what the laws on conditions speak of: conditions that tell values, what is covered, and where literals stand.
use Rattle.std.specs.Prelude.{◌≡◌, refl, ℕ, true, false, [], ◌∷◌, Option, Some, None, codes, is_some}
use Rattle.ess_semantics.specs.declared.words.Op2.{Op2}
use Rattle.ess_semantics.specs.declared.words.Fun.{Fun}
use Rattle.ess_semantics.specs.declared.words.ReprKind.{ReprKind}
use Rattle.ess_semantics.specs.Values.{Text, Value, truth}
use Rattle.ess_semantics.specs.Choice.{alone}
use Rattle.ess_semantics.specs.Trees.{index, by_value, application, tuple_literal, set_literal, function_literal, partition_literal, matrix_literal, Ex, node_ex, matrix_ex, seen_ex, no_exs, no_doms, more_doms, relation_dom, ex2, fun1, at1}
use Rattle.ess_semantics.specs.Constants.{constants_of_tree, among_constants}
use Rattle.ess_semantics.specs.Meaning.{Env, empty_env, meaning}
use Rattle.ess_semantics.proofs.Shorthands.{N, n, es1, es2, range, upto, v}
use Rattle.ess_guard_laws.specs.Guard.{there, has_value, make_total}
use Rattle.ess_guard_laws.specs.Covered.{covers, is_relation}
use Rattle.ess_guard_laws.specs.Supplied.{is_known}
use Rattle.ess_guard_laws.specs.Reserved.{is_other}
use Rattle.ess_guard_laws.specs.LiteralsFit.{may_stand}

-- Reserved names.
abbrev q : Text
q = 0 ∷ 1 ∷ []

abbrev r : Text
r = 0 ∷ 2 ∷ []

abbrev x : Ex
x = N (codes "x")

-- x is k
abbrev at : ℕ → Env
at k = record empty_env { vals = (codes "x", v k) ∷ [] }

-- What the conditions of a term tell, and whether it has a value.
abbrev tells : Ex → Env → Option Value
tells e env = meaning (has_value q r e) env

-- ---- functions

abbrev pair_of : Ex → Ex → Ex
pair_of a b = node_ex false tuple_literal (es2 a b)

-- function(1 --> 5, x --> 6) is none where x is 1
abbrev f : Ex
f = node_ex false function_literal (es2 (pair_of (n 1) (n 5)) (pair_of x (n 6)))

function_told : tells f (at 2) ≡ Some (truth true)
function_told = refl

function_there : is_some (meaning f (at 2)) ≡ true
function_there = refl

two_values_told : tells f (at 1) ≡ Some (truth false)
two_values_told = refl

two_values : meaning f (at 1) ≡ None
two_values = refl

-- ---- partitions

-- partition({1}, {x}) is none where x is 1
abbrev p : Ex
p = node_ex false partition_literal (es2 (node_ex false set_literal (es1 (n 1))) (node_ex false set_literal (es1 x)))

partition_told : tells p (at 2) ≡ Some (truth true)
partition_told = refl

overlap_told : tells p (at 1) ≡ Some (truth false)
overlap_told = refl

overlap : meaning p (at 1) ≡ None
overlap = refl

-- ---- indices

-- [5, 6; int(2..x)][3]
abbrev m : Ex
m = at1 false (matrix_ex (es2 (n 5) (n 6)) (range (n 2) x)) (n 3)

index_told : tells m (at 3) ≡ Some (truth true)
index_told = refl

size_told : tells m (at 4) ≡ Some (truth false)
size_told = refl

-- what isn't known to be a matrix by its form is asked for itself
abbrev unknown : Ex
unknown = at1 false x (n 1)

unknown_told : there q r unknown ≡ ex2 true Op2.Eq unknown unknown ∷ []
unknown_told = refl

-- ---- what is covered

covered_index : covers (index (by_value ∷ [])) (es2 (matrix_ex (es2 (n 5) (n 6)) (range (n 2) x)) (n 3)) ≡ true
covered_index = refl

not_covered : covers (index (by_value ∷ [])) (es2 x (n 1)) ≡ false
not_covered = refl

-- its conditions are known still
known : is_known (index (by_value ∷ [])) (es2 x (n 1)) ≡ true
known = refl

-- a relation that is declared, or made of one
abbrev s : Ex
s = seen_ex (alone ReprKind.RelationAsMatrix) (relation_dom [] no_exs (more_doms (upto 3) (more_doms (upto 3) no_doms))) (codes "s" ∷ []) no_exs

declared_relation : covers application (es2 s x) ≡ true
declared_relation = refl

united : is_relation (ex2 false Op2.Union s x) ≡ true
united = refl

made : is_relation (fun1 false Fun.ToRelation x) ≡ true
made = refl

-- a name isn't told to be one
named : is_relation x ≡ false
named = refl

-- ---- literals and constants

-- in a fold a list may stand, and a partition may not
list_in_fold : may_stand true false matrix_literal ≡ true
list_in_fold = refl

partition_in_fold : may_stand true false partition_literal ≡ false
partition_in_fold = refl

no_boolean : may_stand false true set_literal ≡ false
no_boolean = refl

-- the condition of `[5, 6; int(2..x)][3] = 4` spells the number of its items, which is counted
abbrev spelled : Ex
spelled = ex2 true Op2.Eq m (n 4)

constants : among_constants (constants_of_tree (make_total q r spelled)) (constants_of_tree spelled) ≡ true
constants = refl

-- ---- reserved names

other : is_other q r (codes "x") ≡ true
other = refl

reserved : is_other q r r ≡ false
reserved = refl
