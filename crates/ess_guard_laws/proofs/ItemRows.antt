-- The conditions of least and greatest items, of applications of functions and of parts hold where these have a value.
use Rattle.std.proofs.Common.{◌≡◌, refl, sym, ap, ◌∙◌, Bool, true, false, ◌||◌, not, if◌then◌else◌, List, [], ◌∷◌, ◌++◌, map, Option, Some, None, option_map, is_some}
use Rattle.std.specs.List.{list_any}
use Rattle.std.proofs.lemmas.List.Folds.{list_any-append}
use Rattle.ess_semantics.specs.declared.words.Op2.{Op2}
use Rattle.ess_semantics.specs.declared.words.Fun.{Fun}
use Rattle.ess_semantics.specs.Lists.{and_then, is_empty, append_all}
use Rattle.ess_semantics.specs.Values.{Text, Value, number, truth, item, node, from_of, to_of, items_of}
use Rattle.ess_semantics.specs.Order.{same}
use Rattle.ess_semantics.specs.Names.{Names}
use Rattle.ess_semantics.specs.Collections.{holds, value_at}
use Rattle.ess_semantics.specs.Trees.{binary, word, name_pat, Ex, number_ex, truth_ex, name_ex, node_ex, matrix_ex, comp_ex, cell_ex, seen_ex, Gens, no_gens, over, from, cond, ex2, fun1}
use Rattle.ess_semantics.specs.Operators.{as_truth, truth_in, any_true, least, greatest, part_with, list_value, value_of_node, false_where_undefined}
use Rattle.ess_semantics.specs.Meaning.{Env, meaning, items_under, with_pat, collect, where_true, domain_of, members_in}
use Rattle.ess_semantics.specs.Contexts.{Each}
use Rattle.ess_semantics.proofs.Orders.{to_list-of_list}
use Rattle.ess_semantics.proofs.Sorting.{holds-sorted_once}
use Rattle.ess_semantics.proofs.Overlaps.{holds-append}
use Rattle.ess_semantics.proofs.Connectives.{any-means, bits, collect-bits, any-bits}
use Rattle.ess_guard_laws.specs.Origins.{Origin}
use Rattle.ess_guard_laws.specs.Conditions.{has_items, has_item, some_item, is_argument, image_conditions, party_conditions}
use Rattle.ess_guard_laws.specs.Holds.{Hold}
use Rattle.ess_guard_laws.proofs.Holding.{unless-holds}

-- ---- bindings

-- The second list has a true item exactly where the first has an item.
abbrev pub Shown : Option (List Value) → Option (List Value) → Type 0
Shown None p = Unit {0}
Shown (Some xs) None = ⊥
Shown (Some xs) (Some ys) = any_true ys ≡ not (is_empty xs)

append-empty : {A : Type 0} (xs ys : List A) → not (is_empty xs) || not (is_empty ys) ≡ not (is_empty (xs ++ ys))
append-empty [] ys = refl
append-empty (x ∷ xs) ys = refl

shown-append : (o p c d : Option (List Value)) → Shown o p → Shown c d → Shown (and_then o (λ xs. option_map (λ ys. xs ++ ys) c)) (and_then p (λ xs. option_map (λ ys. xs ++ ys) d))
shown-append None p c d a b = tt
shown-append (Some xs) None c d a b = absurd a
shown-append (Some xs) (Some ys) None d a b = tt
shown-append (Some xs) (Some ys) (Some us) None a b = absurd b
shown-append (Some xs) (Some ys) (Some us) (Some vs) a b =
    list_any-append truth_in ys vs ∙ ap (λ z. z || any_true vs) a ∙ ap (λ z. not (is_empty xs) || z) b ∙ append-empty xs us

shown-collect : (vs : List Value) (f g : Value → Option (List Value)) → ((v : Value) → Shown (f v) (g v)) → Shown (collect vs f) (collect vs g)
shown-collect [] f g h = refl
shown-collect (v ∷ vs) f g h = shown-append (f v) (g v) (collect vs f) (collect vs g) (h v) (shown-collect vs f g h)

-- So it is over generators.
pub shown-under : (gs : Gens) (env : Env) (i j : Env → Option (List Value)) → ((here : Env) → Shown (i here) (j here)) → Shown (items_under gs env i) (items_under gs env j)
shown-under no_gens env i j h = h env
shown-under (over p d gs) env i j h = go (members_in (domain_of d env)) (λ v. shown-under gs (with_pat p v env) i j h)
  where
    go : (o : Option (List Value)) → ((v : Value) → Shown (items_under gs (with_pat p v env) i) (items_under gs (with_pat p v env) j)) →
        Shown (and_then o (λ vs. collect vs (λ v. items_under gs (with_pat p v env) i))) (and_then o (λ vs. collect vs (λ v. items_under gs (with_pat p v env) j)))
    go None k = tt
    go (Some vs) k = shown-collect vs _ _ k
shown-under (from p e gs) env i j h = go (meaning e env) (λ v. shown-under gs (with_pat p v env) i j h)
  where
    go : (o : Option Value) → ((v : Value) → Shown (items_under gs (with_pat p v env) i) (items_under gs (with_pat p v env) j)) →
        Shown (and_then o (λ s. collect (items_of s) (λ v. items_under gs (with_pat p v env) i))) (and_then o (λ s. collect (items_of s) (λ v. items_under gs (with_pat p v env) j)))
    go None k = tt
    go (Some s) k = shown-collect (items_of s) _ _ k
shown-under (cond c gs) env i j h = go (meaning c env) (shown-under gs env i j h)
  where
    go : (o : Option Value) → Shown (items_under gs env i) (items_under gs env j) → Shown (where_true o (λ u. items_under gs env i)) (where_true o (λ u. items_under gs env j))
    go (Some (truth true)) k = k
    go (Some (truth false)) k = refl
    go (Some (number n)) k = refl
    go (Some (item t n)) k = refl
    go (Some (node a b)) k = refl
    go None k = refl

body-shown : (o : Option Value) → Shown (option_map (λ v. v ∷ []) o) (Some (truth true ∷ []))
body-shown None = tt
body-shown (Some v) = refl

-- ---- items

-- Whether the comprehension of these generators has an item, for one with a value.
pub comp-item : (e : Ex) (gs : Gens) (env : Env) (v : Value) → meaning (comp_ex e gs) env ≡ Some v → as_truth (meaning (fun1 true Fun.Or (comp_ex (truth_ex true) gs)) env) ≡ not (is_empty (items_of v))
comp-item e gs env v q = go (items_under gs env (λ here. option_map (λ w. w ∷ []) (meaning e here))) (items_under gs env (λ here. Some (truth true ∷ []))) q refl
    (shown-under gs env _ _ (λ here. body-shown (meaning e here)))
  where
    go : (o p : Option (List Value)) → option_map list_value o ≡ Some v → items_under gs env (λ here. Some (truth true ∷ [])) ≡ p → Shown o p → as_truth (meaning (fun1 true Fun.Or (comp_ex (truth_ex true) gs)) env) ≡ not (is_empty (items_of v))
    go None p e r s = cc
    go (Some xs) None e r s = absurd s
    go (Some xs) (Some ys) e r s = ap as_truth (any-means env (truth_ex true) gs ys r) ∙ s
        ∙ ap (λ l. not (is_empty l)) (sym (to_list-of_list xs)) ∙ ap (λ o. not (is_empty (items_of (elim o [ None ↦ v | Some w ↦ w ])))) e

yes-any : (vs : List Value) → list_any (λ v. true) vs ≡ not (is_empty vs)
yes-any [] = refl
yes-any (v ∷ vs) = refl

each-refl : (vs : List Value) → Each vs (λ v. Some (truth true ∷ []) ≡ Some (truth true ∷ []))
each-refl [] = tt
each-refl (v ∷ vs) = (refl, each-refl vs)

-- Whether a container has an item.
pub from-item : (x : Text) (s : Ex) (env : Env) (v : Value) → meaning s env ≡ Some v → as_truth (meaning (fun1 true Fun.Or (comp_ex (truth_ex true) (from (name_pat x) s no_gens))) env) ≡ not (is_empty (items_of v))
from-item x s env v q =
    ap as_truth (any-means env (truth_ex true) (from (name_pat x) s no_gens) (bits (λ w. true) (items_of v))
    (ap (λ o. and_then o (λ z. collect (items_of z) (λ w. Some (truth true ∷ [])))) q ∙ collect-bits (items_of v) (λ w. Some (truth true ∷ [])) (λ w. true) (each-refl (items_of v))))
    ∙ any-bits (λ w. true) (items_of v) ∙ yes-any (items_of v)

-- Whether a container has an item, by its form.
pub has-item-means : (x : Text) (s : Ex) (env : Env) (v : Value) → meaning s env ≡ Some v → as_truth (meaning (has_item x s) env) ≡ not (is_empty (items_of v))
has-item-means x (comp_ex e gs) env v q = comp-item e gs env v q
has-item-means x (number_ex n) env v q = from-item x (number_ex n) env v q
has-item-means x (truth_ex b) env v q = from-item x (truth_ex b) env v q
has-item-means x (name_ex a) env v q = from-item x (name_ex a) env v q
has-item-means x (node_ex b op es) env v q = from-item x (node_ex b op es) env v q
has-item-means x (matrix_ex es d) env v q = from-item x (matrix_ex es d) env v q
has-item-means x (cell_ex b n es) env v q = from-item x (cell_ex b n es) env v q
has-item-means x (seen_ex r d ns es) env v q = from-item x (seen_ex r d ns es) env v q

-- A container with an item has one.
pub some-item-holds : (x : Text) (s : Ex) (env : Env) (v : Value) → meaning s env ≡ Some v → is_empty (items_of v) ≡ false → Hold (some_item x s) env
some-item-holds x s env v q h = unless-holds (has_items s) (has_item x s) env (has-item-means x s env v q ∙ ap not h)

-- A list with a least item has an item.
pub least-some : (xs : List Value) → is_some (least xs) ≡ true → is_empty xs ≡ false
least-some [] e = cc
least-some (x ∷ xs) e = refl

-- A list with a greatest item has an item.
pub greatest-some : (xs : List Value) → is_some (greatest xs) ≡ true → is_empty xs ≡ false
greatest-some [] e = cc
greatest-some (x ∷ xs) e = refl

-- ---- keys

-- An argument is one of the arguments where the function has a value there.
pub value-at-holds : (ps : List Value) (x : Value) → holds (map from_of ps) x ≡ is_some (value_at ps x)
value-at-holds [] x = refl
value-at-holds (p ∷ ps) x = go (same (from_of p) x) (value-at-holds ps x)
  where
    go : (b : Bool) → holds (map from_of ps) x ≡ is_some (value_at ps x) → b || holds (map from_of ps) x ≡ is_some (if b then Some (to_of p) else value_at ps x)
    go true e = refl
    go false e = e

-- A member is in some part where the parts have one with it.
pub part-with-holds : (ps : List Value) (x : Value) → holds (append_all (map items_of ps)) x ≡ is_some (part_with ps x)
part-with-holds [] x = refl
part-with-holds (p ∷ ps) x = holds-append (items_of p) (append_all (map items_of ps)) x ∙ go (holds (items_of p) x) (part-with-holds ps x)
  where
    go : (b : Bool) → holds (append_all (map items_of ps)) x ≡ is_some (part_with ps x) → b || holds (append_all (map items_of ps)) x ≡ is_some (if b then Some p else part_with ps x)
    go true e = refl
    go false e = e

-- `a in defined(f)` says whether f has a value at a.
pub defined-means : (f a : Ex) (env : Env) (v w : Value) → meaning f env ≡ Some v → meaning a env ≡ Some w →
    as_truth (meaning (ex2 true Op2.Member a (fun1 false Fun.Defined f)) env) ≡ is_some (value_at (items_of v) w)
defined-means f a env v w p q =
    ap (λ o. as_truth (false_where_undefined true (value_of_node (binary Op2.Member) (meaning a env ∷ value_of_node (word Fun.Defined) (o ∷ []) ∷ [])))) p
    ∙ ap (λ o. as_truth (false_where_undefined true (value_of_node (binary Op2.Member) (o ∷ value_of_node (word Fun.Defined) (Some v ∷ []) ∷ [])))) q
    ∙ ap (λ l. holds l w) (to_list-of_list _) ∙ holds-sorted_once (map from_of (items_of v)) w ∙ value-at-holds (items_of v) w

-- `a in participants(p)` says whether p has a part with a.
pub participants-means : (a p : Ex) (env : Env) (w v : Value) → meaning a env ≡ Some w → meaning p env ≡ Some v →
    as_truth (meaning (ex2 true Op2.Member a (fun1 false Fun.Participants p)) env) ≡ is_some (part_with (items_of v) w)
participants-means a p env w v q r =
    ap (λ o. as_truth (false_where_undefined true (value_of_node (binary Op2.Member) (meaning a env ∷ value_of_node (word Fun.Participants) (o ∷ []) ∷ [])))) r
    ∙ ap (λ o. as_truth (false_where_undefined true (value_of_node (binary Op2.Member) (o ∷ value_of_node (word Fun.Participants) (Some v ∷ []) ∷ [])))) q
    ∙ ap (λ l. holds l w) (to_list-of_list _) ∙ holds-sorted_once (append_all (map items_of (items_of v))) w ∙ part-with-holds (items_of v) w

-- The condition of an image.
pub image-holds : (k : Names Origin) (f a : Ex) (env : Env) (v w : Value) → meaning f env ≡ Some v → meaning a env ≡ Some w → is_some (value_at (items_of v) w) ≡ true → Hold (image_conditions k f a) env
image-holds k f a env v w p q h = unless-holds (is_argument k f a) _ env (defined-means f a env v w p q ∙ h)

-- The condition of a part.
pub party-holds : (a p : Ex) (env : Env) (w v : Value) → meaning a env ≡ Some w → meaning p env ≡ Some v → is_some (part_with (items_of v) w) ≡ true → Hold (party_conditions a p) env
party-holds a p env w v q r h = (participants-means a p env w v q r ∙ h, tt)
