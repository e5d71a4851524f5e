-- The members of a set that is built, and of a multiset.
use Rattle.std.proofs.Common.{◌≡◌, sym, ap, ◌∙◌, List, [], map}
use Rattle.ess_semantics.specs.Values.{Value, to_list, node}
use Rattle.ess_semantics.specs.Collections.{set_of, mset_of, sorted, sorted_once}
use Rattle.ess_semantics.proofs.Orders.{to_list-of_list}
use Rattle.ess_core.specs.declared.values.Val.{Val}
use Rattle.ess_core.specs.ValueViews.{pure_val}
use Rattle.ess_core.proofs.ValueEquations.{pure_set, pure_mset}
use Rattle.ess_core.specs.declared.values.Val.TheVariants.{Set, MSet}

abbrev members_of : Value → List Value
members_of (node k xs) = to_list xs
members_of v = []

pub set_sorted : (ms : List Val) (xs : List Value) → pure_val (Set ms) ≡ set_of xs → map pure_val ms ≡ sorted_once xs
set_sorted ms xs e =
    sym (to_list-of_list (map pure_val ms)) ∙ ap members_of (sym (pure_set ms) ∙ e) ∙ to_list-of_list (sorted_once xs)

pub mset_sorted : (ms : List Val) (xs : List Value) → pure_val (MSet ms) ≡ mset_of xs → map pure_val ms ≡ sorted xs
mset_sorted ms xs e =
    sym (to_list-of_list (map pure_val ms)) ∙ ap members_of (sym (pure_mset ms) ∙ e) ∙ to_list-of_list (sorted xs)

pub ruleset members_sorted = (set_sorted, mset_sorted)
