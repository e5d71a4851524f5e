-- Worked examples: what the rules of matrices build.
use Rattle.std.proofs.Common.{◌≡◌, refl, true, false, [], ◌∷◌, Some, None}
use Rattle.ess_semantics.specs.declared.words.Op1.{Op1}
use Rattle.ess_semantics.specs.declared.words.Fun.{Fun}
use Rattle.ess_semantics.specs.Values.{Text, a_matrix, a_set}
use Rattle.ess_semantics.specs.Trees.{name_pat, Ex, truth_ex, name_ex, comp_ex, ex1, fun1, no_gens, from}
use Rattle.ess_semantics.specs.Types.{Ty, int_ty, bool_ty, compound1, compound2}
use Rattle.ess_rules_comparing.specs.RuleParts.{matrix_items, of_items, no_item_where, nothing_on_a_side}

abbrev pub x : Text
x = 120 ∷ []

abbrev pub a : Ex
a = name_ex (97 ∷ [])

abbrev pub b : Ex
b = name_ex (98 ∷ [])

abbrev pub lists : Ty
lists = compound2 a_matrix int_ty bool_ty

-- The items of a matrix have a type; a set has no items.
pub items : matrix_items (Some lists) ≡ Some bool_ty
items = refl

pub no_items : matrix_items (Some (compound1 a_set int_ty)) ≡ None
no_items = refl

pub one_side : of_items (Some int_ty) None (λ t u. a) ≡ None
one_side = refl

-- `!(or([true | x <- a]))` for a matrix, nothing for a set.
pub no_item_of_a_matrix : no_item_where (Some lists) x a
    ≡ Some (ex1 true Op1.Not (fun1 true Fun.Or (comp_ex (truth_ex true) (from (name_pat x) a no_gens))))
no_item_of_a_matrix = refl

pub no_item_of_a_set : no_item_where (Some (compound1 a_set int_ty)) x a ≡ None
no_item_of_a_set = refl

-- Where both sides are empty the first is looked at; where neither is, nothing.
pub both_empty : nothing_on_a_side true true (Some lists) None x a b ≡ no_item_where (Some lists) x a
both_empty = refl

pub second_looked_at : nothing_on_a_side true false None (Some lists) x a b ≡ no_item_where (Some lists) x b
second_looked_at = refl

pub neither_empty : nothing_on_a_side false false (Some lists) (Some lists) x a b ≡ None
neither_empty = refl
