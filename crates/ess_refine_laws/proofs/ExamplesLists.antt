-- Worked examples of list literals by their indices.
use Rattle.std.specs.Prelude.{◌≡◌, refl, true, false, [], ◌∷◌, codes, Some, None}
use Rattle.ess_semantics.specs.declared.words.Op2.{Op2}
use Rattle.ess_semantics.specs.Values.{Text}
use Rattle.ess_semantics.specs.Trees.{by_value, index, set_literal, name_pat, Ex, truth_ex, node_ex, comp_ex, no_gens, over, from}
use Rattle.ess_semantics.specs.Meaning.{empty_env, meaning}
use Rattle.ess_semantics.proofs.Shorthands.{N, n, es2, bi, upto, at}
use Rattle.ess_rules_laws.specs.SourceRules.{list_of}
use Rattle.ess_rules_laws.specs.SpliceRules.{splice}
use Rattle.ess_refine_laws.specs.IndexedLists.{list_by_index}

abbrev x : Text
x = codes "x"

abbrev y : Text
y = codes "y"

abbrev numbers : Ex
numbers = list_of (es2 (n 7) (n 5))

-- `[[7, 5][x] | x : int(1..2)]`.
abbrev picked : Ex
picked = comp_ex (at numbers (N x)) (over (name_pat x) (upto 2) no_gens)

by_their_indices : list_by_index [] x numbers ≡ Some picked
by_their_indices = refl

-- Both have 7 before 5.
in_order : meaning numbers empty_env ≡ meaning picked empty_env
in_order = refl

-- So `[y * 2 | y <- [7, 5]]` is `[[7, 5][x] * 2 | x : int(1..2)]`.
spliced : splice (comp_ex (bi Op2.Times (N y) (n 2)) (from (name_pat y) picked no_gens)) ≡
    Some (comp_ex (bi Op2.Times (at numbers (N x)) (n 2)) (over (name_pat x) (upto 2) no_gens))
spliced = refl

-- An item that is a truth value is picked as one.
truths : list_by_index [] x (list_of (es2 (truth_ex true) (truth_ex false))) ≡
    Some (comp_ex (node_ex true (index (by_value ∷ [])) (es2 (list_of (es2 (truth_ex true) (truth_ex false))) (N x)))
    (over (name_pat x) (upto 2) no_gens))
truths = refl

-- Sets have no order.
sets_stay : list_by_index [] x (node_ex false set_literal (es2 (n 7) (n 5))) ≡ None
sets_stay = refl
