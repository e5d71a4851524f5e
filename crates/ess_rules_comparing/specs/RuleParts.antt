-- What the rules of matrices build.
use Rattle.std.specs.Prelude.{Bool, true, false, Option, Some, None, if◌then◌else◌}
use Rattle.ess_semantics.specs.declared.words.Op1.{Op1}
use Rattle.ess_semantics.specs.declared.words.Op2.{Op2}
use Rattle.ess_semantics.specs.declared.words.Fun.{Fun}
use Rattle.ess_semantics.specs.Values.{Text, a_matrix}
use Rattle.ess_semantics.specs.Trees.{name_pat, Ex, truth_ex, comp_ex, ex1, ex2, fun1, no_gens, from, Dom}
use Rattle.ess_semantics.specs.Types.{Ty, compound2}
use Rattle.ess_rules_laws.specs.MatrixRules.{lies_in, equal_each_at, is_matrix}

-- The type of the items of a matrix.
abbrev pub matrix_items : Option Ty → Option Ty
matrix_items (Some (compound2 a_matrix i t)) = Some t
matrix_items t = None

-- What is said of both items' types, where both are there.
abbrev pub of_items : Option Ty → Option Ty → (Ty → Ty → Ex) → Option Ex
of_items (Some t) (Some u) f = Some (f t u)
of_items t u f = None

-- That a and b have equal items, over the index domains d and c, each of which lies in the other. t and u are the types of the items.
abbrev pub equal_over : Text → Text → Dom → Dom → Ex → Ex → Ty → Ty → Ex
equal_over x y d c a b t u = ex2 true Op2.And (ex2 true Op2.And (lies_in x y d c) (lies_in x y c d)) (equal_each_at x d t u a b)

-- That there is no item: `!(or([true | x <- a]))`.
abbrev pub no_item : Text → Ex → Ex
no_item x a = ex1 true Op1.Not (fun1 true Fun.Or (comp_ex (truth_ex true) (from (name_pat x) a no_gens)))

-- The same where the type is of matrices.
abbrev pub no_item_where : Option Ty → Text → Ex → Option Ex
no_item_where t x a = if is_matrix t then Some (no_item x a) else None

-- The same of the side that isn't the empty list, where the other side is: p and q say of each side whether it is, and t and u are
-- the types of both.
abbrev pub nothing_on_a_side : Bool → Bool → Option Ty → Option Ty → Text → Ex → Ex → Option Ex
nothing_on_a_side p true t u x a b = no_item_where t x a
nothing_on_a_side true false t u x a b = no_item_where u x b
nothing_on_a_side false false t u x a b = None
