-- The loops over the domains of components and fields, where the domains have ended.
use Rattle.std.proofs.Common.{◌≡◌, refl, ℕ, zero, suc, ◌<◌, ◌≤◌, Bool, false, List, [], ◌∷◌, length, drop, map, arith, Less}
use Rattle.std.proofs.lemmas.List.{drop_all}
use Rattle.ess_semantics.specs.Values.{Value, of_list}
use Rattle.ess_semantics.specs.Names.{keys}
use Rattle.ess_semantics.specs.Order.{order_texts}
use Rattle.ess_semantics.specs.Domains.{no_domains}
use Rattle.ess_semantics.specs.Membership.{member_of_each}
use Rattle.ess_core.specs.declared.values.Val.{Val}
use Rattle.ess_core.specs.declared.values.FieldVal.{FieldVal}
use Rattle.ess_core.specs.ValueViews.{pure_val, pure_vals, pure_field_val}
use Rattle.ess_eval_domains.specs.declared.closed.Closed.{Closed}
use Rattle.ess_eval_domains.specs.declared.closed.FieldClosed.{FieldClosed}
use Rattle.ess_eval_domains.specs.ClosedViews.{domains_of, pure_closeds, pure_field_closed}

no_name_below : (ys : List FieldVal) (i : ℕ) → i < length ys → order_texts [] (keys (map pure_field_val (drop i ys))) ≡ Less
no_name_below [] i k = absurd (omega arith)
no_name_below (y ∷ ys) zero k = refl
no_name_below (y ∷ ys) (suc i) k = no_name_below ys i (omega arith)

pub names_end : (xs : List FieldClosed) (ys : List FieldVal) (i : ℕ) → length xs ≤ i → i < length ys
    → order_texts (keys (map pure_field_closed (drop i xs))) (keys (map pure_field_val (drop i ys))) ≡ Less
names_end xs ys i h k = rw (drop_all i xs h) (no_name_below ys i k)

no_component : (ys : List Val) (i : ℕ) → i < length ys → member_of_each no_domains (pure_vals (drop i ys)) ≡ false
no_component [] i k = absurd (omega arith)
no_component (y ∷ ys) zero k = refl
no_component (y ∷ ys) (suc i) k = no_component ys i (omega arith)

pub each_end : (xs : List Closed) (ys : List Val) (i : ℕ) → length xs ≤ i → i < length ys
    → member_of_each (pure_closeds (drop i xs)) (pure_vals (drop i ys)) ≡ false
each_end xs ys i h k = rw (drop_all i xs h) (no_component ys i k)

no_field : (ys : List FieldVal) (i : ℕ) → i < length ys → member_of_each no_domains (of_list (map (λ f. f.1) (map pure_field_val (drop i ys)))) ≡ false
no_field [] i k = absurd (omega arith)
no_field (y ∷ ys) zero k = refl
no_field (y ∷ ys) (suc i) k = no_field ys i (omega arith)

pub fields_end : (xs : List FieldClosed) (ys : List FieldVal) (i : ℕ) → length xs ≤ i → i < length ys
    → member_of_each (domains_of (map (λ f. f.1) (map pure_field_closed (drop i xs)))) (of_list (map (λ f. f.1) (map pure_field_val (drop i ys)))) ≡ false
fields_end xs ys i h k = rw (drop_all i xs h) (no_field ys i k)
