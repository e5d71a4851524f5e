-- A view of a total function that is kept for each argument has a value at each member of its domain.
use Rattle.std.proofs.Common.{◌≡◌, refl, sym, ap, ◌∙◌, zero, suc, Bool, true, false, ◌||◌, if◌then◌else◌, List, [], ◌∷◌, map, length, take, ℤ, Option, Some, None, option_map, is_some}
use Rattle.ess_semantics.specs.declared.words.ReprKind.{ReprKind}
use Rattle.ess_semantics.specs.Lists.{and_then, each_of}
use Rattle.ess_semantics.specs.Values.{Text, Value, items_of}
use Rattle.ess_semantics.specs.Order.{same}
use Rattle.ess_semantics.specs.Collections.{holds, value_at}
use Rattle.ess_semantics.specs.Trees.{Mark, Repr, Reprs, repr, no_reprs, more_reprs, Exs, seen_ex, Dom, function_dom}
use Rattle.ess_semantics.specs.Domains.{Attribute, Domain, functions, member_list, lists_of, add_heads}
use Rattle.ess_semantics.specs.Tables.{Tables, code}
use Rattle.ess_semantics.specs.Cells.{Cells, behind}
use Rattle.ess_semantics.specs.Layers.{codes_of, only_child}
use Rattle.ess_semantics.specs.FunctionLayers.{with_arguments, function_with}
use Rattle.ess_semantics.specs.Representations.{width, child_part, value_of_cells, values_of_children}
use Rattle.ess_semantics.specs.Meaning.{Env, meaning, meanings, domain_of, seen_in, tables_in, indices, attributes_of}
use Rattle.ess_semantics.proofs.Orders.{to_list-of_list}

-- A function with a value for each of these arguments.
abbrev pub IsFull : Domain → Value → Type 0
IsFull d v = (ws : List Value) × (length ws ≡ length (member_list d)) × (v ≡ function_with (member_list d) ws)

each-length : {A B : Type 0} (xs : List A) (f : A → Option B) (ys : List B) → each_of xs f ≡ Some ys → length ys ≡ length xs
each-length {B = B} [] f ys e = ap (λ o. length {A = B} (elim o [ None ↦ [] | Some z ↦ z ])) (sym e)
each-length {B = B} (x ∷ xs) f ys e = go (f x) (each_of xs f) e (λ zs q. each-length xs f zs q)
  where
    go : (o : Option B) (r : Option (List B)) → and_then o (λ y. option_map (λ zs. y ∷ zs) r) ≡ Some ys → ((zs : List B) → r ≡ Some zs → length zs ≡ length xs) → length ys ≡ suc (length xs)
    go None r e h = cc
    go (Some y) None e h = cc
    go (Some y) (Some zs) e h = ap (λ o. length {A = B} (elim o [ None ↦ [] | Some z ↦ z ])) (sym e) ∙ ap suc (h zs refl)

heads-length : (xs : List ℤ) → length (add_heads xs ([] ∷ [])) ≡ length xs
heads-length [] = refl
heads-length (x ∷ xs) = ap suc (heads-length xs)

codes-length : (xs : List Value) → length (map code xs) ≡ length xs
codes-length [] = refl
codes-length (x ∷ xs) = ap suc (codes-length xs)

places-length : (d : Domain) → length (lists_of (codes_of d ∷ [])) ≡ length (member_list d)
places-length d = heads-length (codes_of d) ∙ codes-length (member_list d)

-- The values of the one child.
children-full : (r : Repr) (rs : Reprs) (x : Domain) (c : Cells) (js : List (List ℤ)) (vss : List (List Value)) → values_of_children (more_reprs r rs) (x ∷ []) c js ≡ Some vss → length (only_child vss) ≡ length js
children-full r no_reprs x c js vss e = go (each_of js (λ j. value_of_cells r x (behind j (take (width r) c)))) refl e
  where
    go : (o : Option (List Value)) → each_of js (λ j. value_of_cells r x (behind j (take (width r) c))) ≡ o → and_then o (λ vs. Some (vs ∷ [])) ≡ Some vss → length (only_child vss) ≡ length js
    go None q e = cc
    go (Some vs) q e = ap (λ o. length (only_child (elim o [ None ↦ [] | Some z ↦ z ]))) (sym e) ∙ each-length js _ vs q
children-full r (more_reprs s ss) x c js vss e = go (each_of js (λ j. value_of_cells r x (behind j (take (width r) c)))) e
  where
    go : (o : Option (List Value)) → and_then o (λ vs. None) ≡ Some vss → length (only_child vss) ≡ length js
    go None e = cc
    go (Some vs) e = cc

cells-full : (r : Repr) (rs : Reprs) (ks : List Attribute) (d x : Domain) (c : Cells) (v : Value) → value_of_cells (repr ReprKind.Function1D (more_reprs r rs)) (functions ks d x) c ≡ Some v → IsFull d v
cells-full r rs ks d x c v e = go (values_of_children (more_reprs r rs) (x ∷ []) (child_part ReprKind.Function1D c) (lists_of (codes_of d ∷ []))) refl e
  where
    go : (o : Option (List (List Value))) → values_of_children (more_reprs r rs) (x ∷ []) (child_part ReprKind.Function1D c) (lists_of (codes_of d ∷ [])) ≡ o →
        and_then o (λ vss. Some (function_with (member_list d) (only_child vss))) ≡ Some v → IsFull d v
    go None q e = cc
    go (Some vss) q e = (only_child vss, children-full r rs x (child_part ReprKind.Function1D c) (lists_of (codes_of d ∷ [])) vss q ∙ places-length d, ap (λ o. elim o [ None ↦ v | Some z ↦ z ]) (sym e))

-- A view of such a function that has a value.
pub view-full : (r : Repr) (rs : Reprs) (ms : List Mark) (fs : Exs) (d c : Dom) (ns : List Text) (es : Exs) (env : Env) (v : Value) →
    meaning (seen_ex (repr ReprKind.Function1D (more_reprs r rs)) (function_dom ms fs d c) ns es) env ≡ Some v → (a : Domain) × (domain_of d env ≡ Some a) × IsFull a v
view-full r rs ms fs d c ns es env v e = go (attributes_of ms (meanings fs env)) (domain_of d env) (domain_of c env) (tables_in env.cells ns) (indices (meanings es env)) refl e
  where
    go : (k : Option (List Attribute)) (a x : Option Domain) (t : Option Tables) (i : Option (List ℤ)) → domain_of d env ≡ a →
        seen_in (repr ReprKind.Function1D (more_reprs r rs)) (and_then k (λ ks. and_then a (λ z. option_map (functions ks z) x))) t i ≡ Some v → (a : Domain) × (domain_of d env ≡ Some a) × IsFull a v
    go None a x t i q e = cc
    go (Some ks) None x t i q e = cc
    go (Some ks) (Some a) None t i q e = cc
    go (Some ks) (Some a) (Some x) None i q e = cc
    go (Some ks) (Some a) (Some x) (Some t) None q e = cc
    go (Some ks) (Some a) (Some x) (Some t) (Some i) q e = (a, q, cells-full r rs ks a x _ v e)

value-there : (xs ws : List Value) (w : Value) → length ws ≡ length xs → holds xs w ≡ true → is_some (value_at (with_arguments xs ws) w) ≡ true
value-there [] ws w l h = cc
value-there (x ∷ xs) [] w l h = cc
value-there (x ∷ xs) (u ∷ ws) w l h = go (same x w) h (λ k. value-there xs ws w (shorter l) k)
  where
    shorter : suc (length ws) ≡ suc (length xs) → length ws ≡ length xs
    shorter e = ap (λ n. elim n [ zero ↦ 0 | suc m ↦ m ]) e

    go : (t : Bool) → t || holds xs w ≡ true → (holds xs w ≡ true → is_some (value_at (with_arguments xs ws) w) ≡ true) → is_some (if t then Some u else value_at (with_arguments xs ws) w) ≡ true
    go true h k = refl
    go false h k = k h

-- It has a value at each member.
pub full-value : (d : Domain) (v w : Value) → IsFull d v → holds (member_list d) w ≡ true → is_some (value_at (items_of v) w) ≡ true
full-value d v w h k = ap (λ z. is_some (value_at (items_of z) w)) h.2 ∙ ap (λ l. is_some (value_at l w)) (to_list-of_list (with_arguments (member_list d) h.0)) ∙ value-there (member_list d) h.0 w h.1 k
