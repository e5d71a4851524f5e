-- What the rules of matrices make of a tree, from its operands.
use Rattle.std.proofs.Common.{◌≡◌, refl, true, false, Option, Some}
use Rattle.ess_semantics.specs.declared.words.Op2.{Op2}
use Rattle.ess_semantics.specs.Values.{Text, a_matrix}
use Rattle.ess_semantics.specs.Names.{Names}
use Rattle.ess_semantics.specs.Trees.{matrix_literal, Ex, node_ex, no_exs, ex2, Dom}
use Rattle.ess_semantics.specs.Types.{Ty, compound2}
use Rattle.ess_semantics.specs.Typing.{type_of}
use Rattle.ess_rules_laws.specs.MatrixRules.{both_matrices, equal_matrices, equal_to_nothing}
use Rattle.ess_rules_forms.specs.Forms.{truth_pair, of_pair, is_nothing}
use Rattle.ess_rules_comparing.specs.RuleParts.{matrix_items, of_items, equal_over, nothing_on_a_side}

-- `a = b` over index domains.
pub matrices_of_pair : (d c : Dom) (g : Names Ty) (x y : Text) (e : Ex)
    → equal_matrices d c g x y e ≡ of_pair (equal_matrices d c g x y) (truth_pair e)
matrices_of_pair d c g x y (ex2 true Op2.Eq a b) = refl
matrices_of_pair d c g x y (ex2 true o a b) = refl
matrices_of_pair d c g x y e = refl

both-of : (o p : Option Ty) (f : Ty → Ty → Ex) → both_matrices o p f ≡ of_items (matrix_items o) (matrix_items p) f
both-of (Some (compound2 a_matrix i t)) (Some (compound2 a_matrix j u)) f = refl
both-of o p f = refl

-- By the types of the items.
pub matrices_by_items : (d c : Dom) (g : Names Ty) (x y : Text) (a b : Ex)
    → equal_matrices d c g x y (ex2 true Op2.Eq a b)
    ≡ of_items (matrix_items (type_of a g)) (matrix_items (type_of b g)) (equal_over x y d c a b)
matrices_by_items d c g x y a b = both-of (type_of a g) (type_of b g) (equal_over x y d c a b)

-- `a = []` and `[] = a`.
pub nothing_of_pair : (g : Names Ty) (x : Text) (e : Ex) → equal_to_nothing g x e ≡ of_pair (equal_to_nothing g x) (truth_pair e)
nothing_of_pair g x (ex2 true Op2.Eq a (node_ex false matrix_literal no_exs)) = refl
nothing_of_pair g x (ex2 true Op2.Eq (node_ex false matrix_literal no_exs) b) = refl
nothing_of_pair g x (ex2 true o a b) = refl
nothing_of_pair g x e = refl

-- By the side that is empty, the second before the first.
pub nothing_by_side : (g : Names Ty) (x : Text) (a b : Ex)
    → equal_to_nothing g x (ex2 true Op2.Eq a b) ≡ nothing_on_a_side (is_nothing a) (is_nothing b) (type_of a g) (type_of b g) x a b
nothing_by_side g x a (node_ex false matrix_literal no_exs) = refl
nothing_by_side g x (node_ex false matrix_literal no_exs) b = refl
nothing_by_side g x a b = refl
