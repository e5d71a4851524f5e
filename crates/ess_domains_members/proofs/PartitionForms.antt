-- Membership in a domain of partitions, by the members of the parts.
use Rattle.std.proofs.Common.{◌≡◌, refl, sym, ap, ◌∙◌, Bool, true, false, ◌&&◌, not, List, [], ◌∷◌, map, Option, Some, None}
use Rattle.std.specs.List.{list_all}
use Rattle.std.proofs.lemmas.List.Folds.{list_all-append}
use Rattle.ess_semantics.specs.Lists.{append_all, is_some_and, is_empty, when}
use Rattle.ess_semantics.specs.Values.{Value, node, a_set, a_partition, items_of, itself, to_list}
use Rattle.ess_semantics.specs.Collections.{rises, sorted_once, no_twice, has_overlap}
use Rattle.ess_semantics.specs.Attributes.{partition_attributes_hold}
use Rattle.ess_semantics.specs.Domains.{partitions, members}
use Rattle.ess_semantics.specs.Membership.{member, is_part, covers, same_list}
use Rattle.ess_semantics.proofs.Tests.{and-left, and-right}
use Rattle.ess_semantics.proofs.Orders.{to_list-of_list}
use Rattle.ess_values.specs.Parts.{set_members}
use Rattle.ess_core.specs.declared.values.Val.{Val}
use Rattle.ess_core.specs.declared.values.Val.TheVariants as val
use Rattle.ess_core.specs.ValueViews.{pure_val}
use Rattle.ess_core.proofs.ValueEquations.{pure_partition}
use Rattle.ess_eval_domains.specs.declared.closed.Attribute.{Attribute}
use Rattle.ess_eval_domains.specs.declared.closed.Closed.{Closed}
use Rattle.ess_eval_domains.specs.declared.closed.Closed.TheVariants as domain
use Rattle.ess_eval_domains.specs.ClosedViews.{pure_closed, pure_attributes}
use Rattle.ess_eval_domains.proofs.ClosedEquations.{pure_closed_partition}
use Rattle.ess_domains_members.specs.Forms.{is_filled, are_disjoint, are_covered, partition_form, part_members}

-- ---- truth values

and-false : (b : Bool) → b && false ≡ false
and-false true = refl
and-false false = refl

and-true : (b : Bool) → b ≡ b && true
and-true true = refl
and-true false = refl

regrouped : (a b c d : Bool) → (a && b) && (c && d) ≡ (a && c) && (b && d)
regrouped false b c d = refl
regrouped true false true d = refl
regrouped true false false d = refl
regrouped true true true d = refl
regrouped true true false d = refl

double-not : (b : Bool) → not (not b) ≡ b
double-not true = refl
double-not false = refl

-- ---- parts

filled-part : (f : Value → Bool) (p : Value) → is_part f p ≡ is_filled p && list_all f (set_members p)
filled-part f (node a_set xs) = refl
filled-part f _ = refl

filled-parts : (f : Value → Bool) (ps : List Value)
    → list_all (is_part f) ps ≡ list_all is_filled ps && list_all f (append_all (map set_members ps))
filled-parts f [] = refl
filled-parts f (p ∷ ps) =
    let rest = append_all (map set_members ps) in
    ap (λ b. b && list_all (is_part f) ps) (filled-part f p)
    ∙ ap (λ b. (is_filled p && list_all f (set_members p)) && b) (filled-parts f ps)
    ∙ regrouped (is_filled p) (list_all f (set_members p)) (list_all is_filled ps) (list_all f rest)
    ∙ ap (λ b. (is_filled p && list_all is_filled ps) && b) (sym (list_all-append f (set_members p) rest))

filled-items : (p : Value) → is_filled p ≡ true → set_members p ≡ items_of p
filled-items (node a_set xs) h = refl
filled-items _ h = cc

filled-all-items : (ps : List Value) → list_all is_filled ps ≡ true → map set_members ps ≡ map items_of ps
filled-all-items [] h = refl
filled-all-items (p ∷ ps) h =
    ap (λ l. l ∷ map set_members ps) (filled-items p (and-left (is_filled p) (list_all is_filled ps) h))
    ∙ ap (λ ls. items_of p ∷ ls) (filled-all-items ps (and-right (is_filled p) (list_all is_filled ps) h))

overlap-disjoint : (ps : List Value) → list_all is_filled ps ≡ true → not (has_overlap ps) ≡ are_disjoint ps
overlap-disjoint ps h =
    double-not (no_twice itself (append_all (map items_of ps))) ∙ ap (λ ls. no_twice itself (append_all ls)) (sym (filled-all-items ps h))

covers-covered : (o : Option (List Value)) (ps : List Value) → list_all is_filled ps ≡ true → covers o ps ≡ are_covered o ps
covers-covered None ps h = refl
covers-covered (Some vs) ps h =
    ap (λ ls. covered vs (append_all ls)) (sym (filled-all-items ps h))
  where
    covered : List Value → List Value → Bool
    covered xs ys = same_list (sorted_once xs) (sorted_once ys)

-- ---- a partition

combined : (r f l o q c d a : Bool) → (f ≡ true → o ≡ q) → (f ≡ true → c ≡ d) → r && (f && l) && o && c && a ≡ (r && f && q && d && a) && l
combined false f l o q c d a h k = refl
combined true false l o q c d a h k = refl
combined true true true o q c d a h k = ap (λ x. x && c && a) (h refl) ∙ ap (λ x. q && x && a) (k refl) ∙ and-true (q && d && a)
combined true true false o q c d a h k = sym (and-false (q && d && a))

when-some : (c : Bool) (f : List Value → Bool) (xs : List Value) → c && f xs ≡ is_some_and (when c xs) f
when-some true f xs = refl
when-some false f xs = refl

partition-is : (ks : List Attribute) (d : Closed) (ps : List Val)
    → member (pure_closed (domain.Partition ks d)) (pure_val (val.Partition ps))
    ≡ is_some_and (part_members (pure_attributes ks) (members (pure_closed d)) (map pure_val ps)) (list_all (member (pure_closed d)))
partition-is ks d ps =
    let as' = pure_attributes ks in let c = pure_closed d in let xs = map pure_val ps in
    ap (λ z. member z (pure_val (val.Partition ps))) (pure_closed_partition ks d)
    ∙ ap (member (partitions as' c)) (pure_partition ps)
    ∙ ap (λ l. rises itself l && list_all (is_part (member c)) l && not (has_overlap l) && covers (members c) l && partition_attributes_hold as' l) (to_list-of_list xs)
    ∙ ap (λ b. rises itself xs && b && not (has_overlap xs) && covers (members c) xs && partition_attributes_hold as' xs) (filled-parts (member c) xs)
    ∙ combined (rises itself xs) (list_all is_filled xs) (list_all (member c) (append_all (map set_members xs)))
    (not (has_overlap xs)) (are_disjoint xs) (covers (members c) xs) (are_covered (members c) xs) (partition_attributes_hold as' xs)
    (overlap-disjoint xs) (covers-covered (members c) xs)
    ∙ when-some (partition_form as' (members c) xs) (list_all (member c)) (append_all (map set_members xs))

pub partition_some : (ks : List Attribute) (d : Closed) (ps all : List Val) (b : Bool)
    → Some (map pure_val all) ≡ part_members (pure_attributes ks) (members (pure_closed d)) (map pure_val ps)
    → b ≡ list_all (member (pure_closed d)) (map pure_val all) → b ≡ member (pure_closed (domain.Partition ks d)) (pure_val (val.Partition ps))
partition_some ks d ps all b s e = e ∙ ap (λ o. is_some_and o (list_all (member (pure_closed d)))) s ∙ sym (partition-is ks d ps)

pub partition_none : (ks : List Attribute) (d : Closed) (ps : List Val)
    → None ≡ part_members (pure_attributes ks) (members (pure_closed d)) (map pure_val ps)
    → false ≡ member (pure_closed (domain.Partition ks d)) (pure_val (val.Partition ps))
partition_none ks d ps s = ap (λ o. is_some_and o (list_all (member (pure_closed d)))) s ∙ sym (partition-is ks d ps)
