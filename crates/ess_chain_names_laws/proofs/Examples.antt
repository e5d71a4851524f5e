-- Worked examples of names along rules: what a rule brings, and equality of matrices whose form tells no index domain.
use Rattle.std.specs.Prelude.{◌≡◌, refl, true, false, [], ◌∷◌, codes, Some, IsTrue, not}
use Rattle.ess_semantics.specs.declared.words.Op2.{Op2}
use Rattle.ess_semantics.specs.Values.{Text, a_matrix, truth}
use Rattle.ess_semantics.specs.Order.{same_text}
use Rattle.ess_semantics.specs.Names.{Names}
use Rattle.ess_semantics.specs.Trees.{matrix_literal, name_pat, Ex, node_ex, comp_ex, cell_ex, no_exs, bool_dom, no_gens, over}
use Rattle.ess_semantics.specs.Types.{Ty, int_ty, compound2}
use Rattle.ess_semantics.specs.Operators.{list_value}
use Rattle.ess_semantics.specs.Meaning.{Env, empty_env, meaning}
use Rattle.ess_semantics.proofs.Shorthands.{N, n, es2, bi, upto, v}
use Rattle.ess_rules_laws.specs.MatrixRules.{lies_in, equal_each_at}
use Rattle.ess_refine_laws.specs.AllRules.{Supply, equal_matrices_at, rewrite}
use Rattle.ess_chain_names_laws.specs.NamesHave.{NamesHave}
use Rattle.ess_chain_names_laws.specs.Steps.{told_axis}

abbrev s : Text
s = codes "s"

abbrev m : Text
m = codes "m"

abbrev x : Text
x = codes "#4"

abbrev y : Text
y = codes "#5"

abbrev supply : Supply
supply = record { one = x; other = y; third = codes "#6"; parts = []; index_domain = told_axis; copy = λ e. e }

-- ---- names

-- Used, bound and of tables.
are_names : NamesHave (λ a. not (same_text x a)) (comp_ex (bi Op2.Plus (N s) (cell_ex false m no_exs)) (over (name_pat y) (upto 2) no_gens))
are_names = ((refl, ((refl, tt), tt)), (refl, (tt, (tt, tt)), tt))

not_bound : NamesHave (λ a. not (same_text x a)) (comp_ex (N s) (over (name_pat x) (upto 2) no_gens)) → ⊥
not_bound h = no h.1.0
  where
    no : IsTrue false → ⊥
    no e = cc

not_of_a_table : NamesHave (λ a. not (same_text x a)) (cell_ex false x no_exs) → ⊥
not_of_a_table h = no h.0
  where
    no : IsTrue false → ⊥
    no e = cc

-- ---- index domains that no form tells

-- m is a matrix over numbers; its form, a name, tells no index domain.
abbrev g : Names Ty
g = (m, compound2 a_matrix int_ty int_ty) ∷ []

abbrev list2 : Ex
list2 = node_ex false matrix_literal (es2 (n 1) (n 2))

untold : told_axis (N m) ≡ bool_dom
untold = refl

told_2 : told_axis list2 ≡ upto 2
told_2 = refl

-- So the rule says that the indices of a list are truth values, and what it makes of a true equality is false. It may be used only where
-- forms tell both index domains.
made : rewrite supply g equal_matrices_at (bi Op2.Eq (N m) list2)
    ≡ Some (bi Op2.And (bi Op2.And (lies_in x y bool_dom (upto 2)) (lies_in x y (upto 2) bool_dom))
    (equal_each_at x bool_dom int_ty int_ty (N m) list2))
made = refl

abbrev here : Env
here = record empty_env { vals = (m, list_value (v 1 ∷ v 2 ∷ [])) ∷ [] }

true_before : meaning (bi Op2.Eq (N m) list2) here ≡ Some (truth true)
true_before = refl

false_behind : meaning (bi Op2.And (bi Op2.And (lies_in x y bool_dom (upto 2)) (lies_in x y (upto 2) bool_dom))
    (equal_each_at x bool_dom int_ty int_ty (N m) list2)) here ≡ Some (truth false)
false_behind = refl
