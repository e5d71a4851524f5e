-- Worked examples of rules at which types stay, and of one at which one isn't told.
use Rattle.std.specs.Prelude.{◌≡◌, refl, false, [], ◌∷◌, codes, Some, None}
use Rattle.ess_semantics.specs.declared.words.Op1.{Op1}
use Rattle.ess_semantics.specs.declared.words.Op2.{Op2}
use Rattle.ess_semantics.specs.declared.words.Fun.{Fun}
use Rattle.ess_semantics.specs.Values.{Text, a_matrix, a_set}
use Rattle.ess_semantics.specs.Names.{Names}
use Rattle.ess_semantics.specs.Trees.{matrix_literal, name_pat, Ex, node_ex, comp_ex, no_exs, more_exs, no_gens, from, ex1}
use Rattle.ess_semantics.specs.Types.{Ty, any_ty, bool_ty, int_ty, compound1, compound2}
use Rattle.ess_semantics.specs.Typing.{type_of}
use Rattle.ess_semantics.proofs.Shorthands.{N, n, es2, bi, fn}
use Rattle.ess_rules_laws.specs.FoldRules.{fold_one}
use Rattle.ess_rules_laws.specs.MembershipRules.{member_changed}
use Rattle.ess_rules_laws.specs.ListRules.{lex_both}
use Rattle.ess_rules_laws.specs.SizeRules.{size_term}

abbrev a : Text
a = codes "a"

abbrev b : Text
b = codes "b"

abbrev x : Text
x = codes "x"

-- `[e | y <- s]`.
abbrev comp : Ex → Text → Ex → Ex
comp e y s = comp_ex e (from (name_pat y) s no_gens)

-- Two matrices by truth values, and a set.
abbrev types : Names Ty
types = (a, compound2 a_matrix bool_ty int_ty) ∷ (b, compound2 a_matrix bool_ty int_ty) ∷ (codes "s", compound1 a_set int_ty) ∷ []

-- `|s|` is a number, and so is `sum([1 | x <- s])`.
size_stays : (type_of (ex1 false Op1.Bar (N (codes "s"))) types ≡ Some int_ty)
    × (size_term types x (ex1 false Op1.Bar (N (codes "s")))
    ≡ Some (fn Fun.Sum (comp (n 1) x (N (codes "s")))))
    × (type_of (fn Fun.Sum (comp (n 1) x (N (codes "s")))) types ≡ Some int_ty)
size_stays = (refl, refl, refl)

-- `and([y])`, with y of the type of an empty literal's members, is a truth value, and y isn't told to be one.
one_untold : (type_of (fn Fun.And (node_ex false matrix_literal (more_exs (N a) no_exs))) ((a, any_ty) ∷ []) ≡ Some bool_ty)
    × (fold_one (fn Fun.And (node_ex false matrix_literal (more_exs (N a) no_exs))) ≡ Some (N a))
    × (type_of (N a) ((a, any_ty) ∷ []) ≡ Some any_ty)
one_untold = (refl, refl, refl)

-- `1 in toSet([1, 2])` has a type, `1 in [1, 2]` has none, and `or([x = 1 | x <- [1, 2]])` has that of the first.
abbrev list : Ex
list = node_ex false matrix_literal (es2 (n 1) (n 2))

in_a_list : (type_of (bi Op2.Member (n 1) (fn Fun.ToSet list)) types ≡ Some bool_ty)
    × (type_of (bi Op2.Member (n 1) list) types ≡ None)
    × (member_changed types x (bi Op2.Member (n 1) (fn Fun.ToSet list)) ≡ Some (fn Fun.Or (comp (bi Op2.Eq (N x) (n 1)) x list)))
    × (type_of (fn Fun.Or (comp (bi Op2.Eq (N x) (n 1)) x list)) types ≡ Some bool_ty)
in_a_list = (refl, refl, refl, refl)

-- `a <lex b` by truth values has a type, `[x | x <- a] <lex b` has none, since a list is indexed by numbers, and
-- `[x | x <- a] <lex [x | x <- b]` has that of the first.
abbrev members : Text → Ex
members m = comp (N x) x (N m)

lex_by_truth : (type_of (bi Op2.LexLt (N a) (N b)) types ≡ Some bool_ty)
    × (type_of (bi Op2.LexLt (members a) (N b)) types ≡ None)
    × (lex_both x (bi Op2.LexLt (N a) (N b)) ≡ Some (bi Op2.LexLt (members a) (members b)))
    × (type_of (bi Op2.LexLt (members a) (members b)) types ≡ Some bool_ty)
lex_by_truth = (refl, refl, refl, refl)
