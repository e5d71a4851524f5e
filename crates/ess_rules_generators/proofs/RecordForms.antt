-- The rule of names over records by the parts of the comprehension, and fields in order.
use Rattle.std.proofs.Common.{◌≡◌, refl, ap, ◌∙◌, ℕ, suc, arith, Bool, true, false, ◌&&◌, List, [], ◌∷◌, map, length}
use Rattle.std.specs.Ordering.{is_lt}
use Rattle.ess_semantics.specs.Lists.{and_then}
use Rattle.ess_semantics.specs.Values.{Text}
use Rattle.ess_semantics.specs.Order.{order_text}
use Rattle.ess_semantics.specs.Trees.{name_pat, Ex, comp_ex, over, record_dom}
use Rattle.ess_semantics.specs.Kinds.{doms_of}
use Rattle.ess_core_nodes.specs.declared.nodes.NodeDom.{NodeDom}
use Rattle.ess_core_nodes.specs.NodeViews.{pure_dom}
use Rattle.ess_refine_laws.specs.RecordNames.{are_in_order, name_over_record}
use Rattle.ess_rules_folds.specs.Forms.{comp_parts}
use Rattle.ess_rules_generators.specs.RecordParts.{record_made, do_rise}

-- A name over a record of domains.
pub record_by_parts : (ys : List Text) (e : Ex) → name_over_record ys e ≡ and_then (comp_parts e) (record_made ys)
record_by_parts ys (comp_ex e (over (name_pat x) (record_dom fs ds) hs)) = refl
record_by_parts ys e = refl

tail_lengths : {m n : ℕ} → suc m ≡ suc n → m ≡ n
tail_lengths h = omega (arith, h)

and_false : (b : Bool) → (b && false) ≡ false
and_false true = refl
and_false false = refl

-- Fields of as many domains are in order where they rise.
pub order_of_lengths : (fs : List Text) (ds : List NodeDom) → length fs ≡ length ds
    → are_in_order fs (doms_of (map pure_dom ds)) ≡ do_rise fs
order_of_lengths [] [] h = refl
order_of_lengths [] (d ∷ ds) h = cc
order_of_lengths (f ∷ fs) [] h = cc
order_of_lengths (f ∷ []) (d ∷ []) h = refl
order_of_lengths (f ∷ []) (d ∷ c ∷ ds) h = cc
order_of_lengths (f ∷ k ∷ fs) (d ∷ ds) h = ap (λ b. is_lt (order_text f k) && b) (order_of_lengths (k ∷ fs) ds (tail_lengths h))

-- More or fewer fields aren't.
pub order_of_others : (fs : List Text) (ds : List NodeDom) → (length fs ≡ length ds → ⊥)
    → are_in_order fs (doms_of (map pure_dom ds)) ≡ false
order_of_others [] [] h = absurd (h refl)
order_of_others [] (d ∷ ds) h = refl
order_of_others (f ∷ []) [] h = refl
order_of_others (f ∷ k ∷ fs) [] h = refl
order_of_others (f ∷ []) (d ∷ []) h = absurd (h refl)
order_of_others (f ∷ []) (d ∷ c ∷ ds) h = refl
order_of_others (f ∷ k ∷ fs) (d ∷ ds) h =
    ap (λ b. is_lt (order_text f k) && b) (order_of_others (k ∷ fs) ds (λ e. h (ap suc e))) ∙ and_false (is_lt (order_text f k))
