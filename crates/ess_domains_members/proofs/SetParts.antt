-- The members of parts that are sets, and when a set is a part.
use Rattle.std.proofs.Common.{◌≡◌, ◌≢◌, refl, sym, ap, ◌∙◌, Bool, true, false, ◌&&◌, not, List, [], ◌∷◌, ◌++◌, map, length, Option, Some, None}
use Rattle.std.proofs.lemmas.List.{append-nil, map-append}
use Rattle.ess_semantics.specs.Lists.{append_all, is_some_and, is_empty}
use Rattle.ess_semantics.specs.Values.{Value, itself, to_list}
use Rattle.ess_semantics.specs.Order.{same}
use Rattle.ess_semantics.specs.Collections.{set_of, sorted_once, rises}
use Rattle.ess_semantics.specs.Membership.{same_list}
use Rattle.ess_semantics.proofs.Orders.{to_list-of_list}
use Rattle.ess_values.specs.Parts.{set_members}
use Rattle.ess_core.specs.declared.values.Val.{Val}
use Rattle.ess_core.specs.declared.values.Val.TheVariants as variant
use Rattle.ess_core.specs.ValueViews.{pure_val, pure_vals}
use Rattle.ess_core.proofs.ValueEquations.{pure_set}
use Rattle.ess_domains_members.specs.Forms.{is_filled, are_covered}

-- ---- members put behind others

pub set_more : (as' bs vs : List Val) → bs ≡ as' ++ vs → map pure_val bs ≡ map pure_val as' ++ set_members (pure_val (variant.Set vs))
set_more as' bs vs e =
    ap (map pure_val) e ∙ map-append pure_val as' vs
    ∙ ap (λ l. map pure_val as' ++ l) (sym (ap set_members (pure_set vs) ∙ to_list-of_list (map pure_val vs)))

pub set_none : (as' : List Val) (v : Value) → set_members v ≡ [] → map pure_val as' ≡ map pure_val as' ++ set_members v
set_none as' v e = sym (ap (λ l. map pure_val as' ++ l) e ∙ append-nil (map pure_val as'))

-- ---- the sets of two lists

pub sets_same : (xs ys : List Value) (x y : Val) (b : Bool) → pure_val x ≡ set_of xs → pure_val y ≡ set_of ys → b ≡ same (pure_val x) (pure_val y)
    → b ≡ same_list (sorted_once xs) (sorted_once ys)
sets_same xs ys x y b p q e = e ∙ ap (λ v. same v (pure_val y)) p ∙ ap (same (set_of xs)) q

pub covered_some : (o : Option (List Value)) (vs : List Value) (all own : List Val) (b : Bool) → Some (map pure_val all) ≡ o
    → map pure_val own ≡ append_all (map set_members vs) → b ≡ same_list (sorted_once (map pure_val all)) (sorted_once (map pure_val own))
    → b ≡ are_covered o vs
covered_some o vs all own b e p q =
    q ∙ ap (λ l. same_list (sorted_once (map pure_val all)) (sorted_once l)) p ∙ ap (λ k. are_covered k vs) e

pub covered_none : (o : Option (List Value)) (vs : List Value) → None ≡ o → false ≡ are_covered o vs
covered_none o vs e = ap (λ k. are_covered k vs) e

-- ---- one part

filled-is : (vs : List Val) → is_filled (pure_val (variant.Set vs)) ≡ rises itself (map pure_val vs) && not (is_empty (map pure_val vs))
filled-is vs = ap is_filled (pure_set vs) ∙ ap (λ l. rises itself l && not (is_empty l)) (to_list-of_list (map pure_val vs))

and-true : (b : Bool) → b ≡ b && true
and-true true = refl
and-true false = refl

pub filled_none : (vs : List Val) → length vs ≡ 0 → false ≡ is_filled (pure_val (variant.Set vs))
filled_none [] h = sym (filled-is [])
filled_none (v ∷ vs) h = cc

pub filled_some : (vs : List Val) (b : Bool) → length vs ≢ 0 → b ≡ rises itself (map pure_val vs) → b ≡ is_filled (pure_val (variant.Set vs))
filled_some [] b h e = absurd (h refl)
filled_some (v ∷ vs) b h e = e ∙ and-true (rises itself (map pure_val (v ∷ vs))) ∙ sym (filled-is (v ∷ vs))
