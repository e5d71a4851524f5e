-- Membership in the set of the items of a term is membership in the term.
use Rattle.std.proofs.Common.{◌≡◌, refl, ap, ◌∙◌, true, false, [], ◌∷◌, Option, Some, None}
use Rattle.ess_semantics.specs.declared.words.Op2.{Op2}
use Rattle.ess_semantics.specs.declared.words.Fun.{Fun}
use Rattle.ess_semantics.specs.Values.{Value, truth, items_of}
use Rattle.ess_semantics.specs.Collections.{holds, sorted_once}
use Rattle.ess_semantics.specs.Trees.{binary, word, Ex, ex2, fun1}
use Rattle.ess_semantics.specs.Operators.{as_truth, value_of_node, false_where_undefined}
use Rattle.ess_semantics.specs.Meaning.{Env, meaning}
use Rattle.ess_semantics.proofs.Orders.{to_list-of_list}
use Rattle.ess_semantics.proofs.Sorting.{holds-sorted_once}

abbrev In : Option Value → Option Value → Option Value
In o m = false_where_undefined true (value_of_node (binary Op2.Member) (o ∷ m ∷ []))

in-set : (o m : Option Value) → In o (value_of_node (word Fun.ToSet) (m ∷ [])) ≡ In o m
in-set o None = refl
in-set None (Some s) = refl
in-set (Some v) (Some s) =
    ap (λ t. Some (truth t)) (ap (λ l. holds l v) (to_list-of_list (sorted_once (items_of s))) ∙ holds-sorted_once (items_of s) v)

-- So it is.
pub set-member : (i s : Ex) (env : Env) →
    as_truth (meaning (ex2 true Op2.Member i (fun1 false Fun.ToSet s)) env) ≡ as_truth (meaning (ex2 true Op2.Member i s) env)
set-member i s env = ap as_truth (in-set (meaning i env) (meaning s env))
