-- Row by row: an operator's own conditions are total, each under those before it, and where they hold it has a value.
use Rattle.std.proofs.Common.{◌≡◌, refl, sym, ap, ◌∙◌, Bool, true, false, not, if◌then◌else◌, List, [], ◌∷◌, Option, Some, None, option_map, is_some}
use Rattle.std.specs.declared.cmp.Ordering.{Ordering}
use Rattle.std.specs.declared.cmp.Ordering.TheVariants.{Less, Equal, Greater}
use Rattle.ess_semantics.specs.declared.words.Op2.{Op2}
use Rattle.ess_semantics.specs.declared.words.Fun.{Fun}
use Rattle.ess_semantics.specs.Lists.{and_then, all_some, is_empty}
use Rattle.ess_semantics.specs.Values.{Text, Value, items_of}
use Rattle.ess_semantics.specs.Order.{order}
use Rattle.ess_semantics.specs.Names.{Names}
use Rattle.ess_semantics.specs.Collections.{place, place_by, sorted_once, sorted, add, add_by, set_of, mset_of}
use Rattle.ess_semantics.specs.Trees.{binary, word, set_literal, mset_literal, matrix_literal, name_pat, Ex, number_ex, truth_ex, name_ex, node_ex, matrix_ex, comp_ex, cell_ex, seen_ex, no_exs, more_exs, Gens, no_gens, over, from, cond, ex2, fun1}
use Rattle.ess_semantics.specs.Operators.{value_of_node, value_of_op, least, greatest}
use Rattle.ess_semantics.specs.Meaning.{Env, meaning, meanings, with_pat, domain_of, members_in}
use Rattle.ess_semantics.specs.Totality.{HasValue, Total, TotalUnder}
use Rattle.ess_semantics.proofs.Orders.{to_list-of_list}
use Rattle.ess_rules_laws.proofs.Bindings.{each-of-map, each-in-map}
use Rattle.ess_guard_laws.specs.Origins.{Origin, is_number}
use Rattle.ess_guard_laws.specs.Conditions.{unless, nil_ex, as_number, is_not_zero, is_above_zero, quotient_conditions, power_conditions, has_items, has_item, some_item, party_conditions}
use Rattle.ess_guard_laws.specs.Holds.{Hold}
use Rattle.ess_guard_laws.proofs.ItemRows.{has-item-means, participants-means}
use Rattle.ess_guard_laws.proofs.MetRows.{each-in-always}
use Rattle.ess_guard_laws.proofs.Safe.{is_safe}
use Rattle.ess_guard_laws.proofs.Behind.{EachTotal, each-total-unless, safe-total}
use Rattle.ess_guard_laws.proofs.NumberTells.{both-there, one-there}

-- ---- numbers

-- The number that an operator reads.
pub number-total : (k : Names Origin) (b : Ex) (env : Env) → Total b env → Total (as_number k b) env
number-total k b env t = go (is_number k b)
  where
    go : (z : Bool) → Total (if z then b else ex2 false Op2.Plus b nil_ex) env
    go true = t
    go false = safe-total false (binary Op2.Plus) (more_exs b (more_exs nil_ex no_exs)) env refl (t, (tt, tt))

compare-total : (o : Op2) (k : Names Origin) (b : Ex) (env : Env) → is_safe (binary o) ≡ true → Total b env →
    Total (ex2 true o (as_number k b) nil_ex) env
compare-total o k b env s t =
    safe-total true (binary o) (more_exs (as_number k b) (more_exs nil_ex no_exs)) env s (number-total k b env t, (tt, tt))

-- The condition of a quotient or a remainder is total.
pub quotient-asked : (k : Names Origin) (b : Ex) (env : Env) → Total b env → EachTotal (quotient_conditions k b) env
quotient-asked k b env t = each-total-unless (is_not_zero b) _ env (compare-total Op2.Ne k b env refl t)

-- The conditions of a power are total.
pub power-asked : (k : Names Origin) (a b : Ex) (env : Env) → Total a env → Total b env → EachTotal (power_conditions k a b) env
power-asked k a b env ta tb = go (is_above_zero b)
  where
    go : (t : Bool) →
        EachTotal (if t then [] else ex2 true Op2.Ge (as_number k b) nil_ex ∷ unless (is_not_zero a)
        (ex2 true Op2.Or (ex2 true Op2.Ne (as_number k b) nil_ex) (ex2 true Op2.Ne (as_number k a) nil_ex))) env
    go true = tt
    go false = (
      compare-total Op2.Ge k b env refl tb,
      each-total-unless (is_not_zero a) _ env
          (safe-total true (binary Op2.Or)
          (more_exs (ex2 true Op2.Ne (as_number k b) nil_ex) (more_exs (ex2 true Op2.Ne (as_number k a) nil_ex) no_exs)) env refl
          (compare-total Op2.Ne k b env refl tb, (compare-total Op2.Ne k a env refl ta, tt))),
    )

-- ---- items

-- What follows at each binding.
pub under-map : (gs : Gens) (env : Env) (P Q : Env → Type 0) → ((h : Env) → P h → Q h) → TotalUnder gs env P → TotalUnder gs env Q
under-map no_gens env P Q f m = f env m
under-map (over p d gs) env P Q f m = (m.0, each-of-map (members_in (domain_of d env)) _ _ (λ v. under-map gs (with_pat p v env) P Q f) m.1)
under-map (from p e gs) env P Q f m = (m.0, each-in-map (meaning e env) _ _ (λ v. under-map gs (with_pat p v env) P Q f) m.1)
under-map (cond c gs) env P Q f m = (m.0, λ t. under-map gs env P Q f (m.1 t))

from-item-total : (x : Text) (s : Ex) (env : Env) → Total s env →
    Total (fun1 true Fun.Or (comp_ex (truth_ex true) (from (name_pat x) s no_gens))) env
from-item-total x s env t =
    safe-total true (word Fun.Or) (more_exs (comp_ex (truth_ex true) (from (name_pat x) s no_gens)) no_exs) env refl
    ((t, each-in-always (meaning s env) _ (λ v. tt)), tt)

-- That a container has an item is total.
pub has-item-total : (x : Text) (s : Ex) (env : Env) → Total s env → Total (has_item x s) env
has-item-total x (comp_ex e gs) env t =
    safe-total true (word Fun.Or) (more_exs (comp_ex (truth_ex true) gs) no_exs) env refl (under-map gs env _ _ (λ h q. tt) t, tt)
has-item-total x (number_ex n) env t = from-item-total x (number_ex n) env t
has-item-total x (truth_ex b) env t = from-item-total x (truth_ex b) env t
has-item-total x (name_ex a) env t = from-item-total x (name_ex a) env t
has-item-total x (node_ex b op es) env t = from-item-total x (node_ex b op es) env t
has-item-total x (matrix_ex es d) env t = from-item-total x (matrix_ex es d) env t
has-item-total x (cell_ex b n es) env t = from-item-total x (cell_ex b n es) env t
has-item-total x (seen_ex r d ns es) env t = from-item-total x (seen_ex r d ns es) env t

map-least : (o : Option Value) (f : Value → Value) → is_some o ≡ true → is_some (option_map f o) ≡ true
map-least None f e = cc
map-least (Some v) f e = refl

-- A list with an item has a least one.
pub least-there : (xs : List Value) → is_empty xs ≡ false → is_some (least xs) ≡ true
least-there [] e = cc
least-there (x ∷ []) e = refl
least-there (x ∷ y ∷ ys) e = map-least (least (y ∷ ys)) _ (least-there (y ∷ ys) refl)

-- A list with an item has a greatest one.
pub greatest-there : (xs : List Value) → is_empty xs ≡ false → is_some (greatest xs) ≡ true
greatest-there [] e = cc
greatest-there (x ∷ []) e = refl
greatest-there (x ∷ y ∷ ys) e = map-least (greatest (y ∷ ys)) _ (greatest-there (y ∷ ys) refl)

by-place : (o : Ordering) (v x : Value) (xs rest : List Value) → is_empty (place_by o v x xs rest) ≡ false
by-place Less v x xs rest = refl
by-place Equal v x xs rest = refl
by-place Greater v x xs rest = refl

by-add : (o : Ordering) (v x : Value) (xs rest : List Value) → is_empty (add_by o v x xs rest) ≡ false
by-add Less v x xs rest = refl
by-add Equal v x xs rest = refl
by-add Greater v x xs rest = refl

once-empty : (x : Value) (xs : List Value) → is_empty (sorted_once (x ∷ xs)) ≡ false
once-empty x xs = go (sorted_once xs)
  where
    go : (ys : List Value) → is_empty (place x ys) ≡ false
    go [] = refl
    go (y ∷ ys) = by-place (order x y) x y ys (place x ys)

sorted-empty : (x : Value) (xs : List Value) → is_empty (sorted (x ∷ xs)) ≡ false
sorted-empty x xs = go (sorted xs)
  where
    go : (ys : List Value) → is_empty (add x ys) ≡ false
    go [] = refl
    go (y ∷ ys) = by-add (order x y) x y ys (add x ys)

first-there : (o : Option Value) (q : Option (List Value)) (F : List Value → Option Value) (v : Value) →
    and_then (and_then o (λ z. option_map (λ zs. z ∷ zs) q)) F ≡ Some v →
    (u : Value) × (us : List Value) × (F (u ∷ us) ≡ Some v)
first-there None q F v e = cc
first-there (Some u) None F v e = cc
first-there (Some u) (Some us) F v e = (u, us, e)

-- One value that is there.
pub some-value : (a b : Value) → Some a ≡ Some b → a ≡ b
some-value a b e = ap (λ o. elim o [ None ↦ a | Some z ↦ z ]) e

-- A literal with an item.
items-form : (s : Ex) (env : Env) (v : Value) → has_items s ≡ true → meaning s env ≡ Some v → is_empty (items_of v) ≡ false
items-form (node_ex false matrix_literal (more_exs e es)) env v t q =
    let r = first-there (meaning e env) (all_some (meanings es env)) (value_of_op matrix_literal) v q in
    ap (λ z. is_empty (items_of z)) (sym (some-value _ v r.2))
items-form (node_ex false set_literal (more_exs e es)) env v t q =
    let r = first-there (meaning e env) (all_some (meanings es env)) (value_of_op set_literal) v q in
    ap (λ z. is_empty (items_of z)) (sym (some-value (set_of (r.0 ∷ r.1)) v r.2)) ∙ ap is_empty (to_list-of_list (sorted_once (r.0 ∷ r.1)))
    ∙ once-empty r.0 r.1
items-form (node_ex false mset_literal (more_exs e es)) env v t q =
    let r = first-there (meaning e env) (all_some (meanings es env)) (value_of_op mset_literal) v q in
    ap (λ z. is_empty (items_of z)) (sym (some-value (mset_of (r.0 ∷ r.1)) v r.2)) ∙ ap is_empty (to_list-of_list (sorted (r.0 ∷ r.1)))
    ∙ sorted-empty r.0 r.1
items-form s env v t q = cc

not-not : (b : Bool) → not b ≡ true → b ≡ false
not-not true e = cc
not-not false e = refl

-- Where a container is told to have an item it has one.
pub some-item-tells : (x : Text) (s : Ex) (env : Env) (v : Value) → meaning s env ≡ Some v → Hold (some_item x s) env →
    is_empty (items_of v) ≡ false
some-item-tells x s env v e h = go (has_items s) refl h
  where
    go : (t : Bool) → has_items s ≡ t → Hold (unless t (has_item x s)) env → is_empty (items_of v) ≡ false
    go true q h = items-form s env v q e
    go false q h = not-not (is_empty (items_of v)) (sym (has-item-means x s env v e) ∙ h.0)

-- What the condition of least and greatest items tells.
pub item-tells : (f : Fun) (g : List Value → Option Value) (x : Text) (s : Ex) (env : Env) →
    ((v : Value) → value_of_node (word f) (Some v ∷ []) ≡ g (items_of v)) →
    ((xs : List Value) → is_empty xs ≡ false → is_some (g xs) ≡ true) →
    Hold (some_item x s) env → HasValue (value_of_node (word f) (meaning s env ∷ [])) (meaning s env ∷ [])
item-tells f g x s env is some h k =
    one-there (λ p. is_some (value_of_node (word f) (p ∷ [])) ≡ true) (meaning s env)
    (λ v e. ap is_some (is v) ∙ some (items_of v) (some-item-tells x s env v e h)) k

-- What the condition of a part tells.
pub party-tells : (a p : Ex) (env : Env) → Hold (party_conditions a p) env →
    HasValue (value_of_node (word Fun.Party) (meaning a env ∷ meaning p env ∷ [])) (meaning a env ∷ meaning p env ∷ [])
party-tells a p env h =
    both-there (λ o q. is_some (value_of_node (word Fun.Party) (o ∷ q ∷ [])) ≡ true) (meaning a env) (meaning p env)
    (λ w v e q. sym (participants-means a p env w v e q) ∙ h.0)

-- The condition of a part is total.
pub party-asked : (a p : Ex) (env : Env) → Total a env → Total p env → EachTotal (party_conditions a p) env
party-asked a p env ta tp = (
  safe-total true (binary Op2.Member) (more_exs a (more_exs (fun1 false Fun.Participants p) no_exs)) env refl
      (ta, (safe-total false (word Fun.Participants) (more_exs p no_exs) env refl (tp, tt), tt)),
  tt,
)
