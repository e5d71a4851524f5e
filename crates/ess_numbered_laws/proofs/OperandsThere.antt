-- What is there where a node, a list, a sum or a view is.
use Rattle.std.proofs.Common.{◌≡◌, refl, sym, ap, ◌∙◌, ℕ, suc, Bool, true, false, ◌&&◌, if◌then◌else◌, List, [], ◌∷◌, length, pos, Option, Some, None, option_map}
use Rattle.std.specs.Prelude.{is_some, nat_eq}
use Rattle.std.specs.List.{list_all}
use Rattle.ess_semantics.specs.declared.words.Fun.{Fun}
use Rattle.ess_semantics.specs.Lists.{and_then, when, all_some}
use Rattle.ess_semantics.specs.Values.{Text, Value, number, matrix, of_list, items_of}
use Rattle.ess_semantics.specs.Constants.{operand_count}
use Rattle.ess_semantics.specs.Trees.{word, Exs, no_exs, more_exs, Dom, bool_dom}
use Rattle.ess_semantics.specs.Domains.{Domain, booleans}
use Rattle.ess_semantics.specs.Operators.{sum_of, list_value, value_of_node, false_where_undefined}
use Rattle.ess_semantics.specs.Meaning.{Env, meaning, meanings, domain_of, members_in, collect, matrix_value, is_bool_dom}
use Rattle.ess_semantics.proofs.Orders.{to_list-of_list}
use Rattle.ess_guard_laws.specs.IndexDomains.{plain_axis, are_plain_bounds}
use Rattle.ess_semantics.specs.Trees.{int_dom, name_dom}
use Rattle.ess_numbered_laws.specs.MostItems.{all_summed, members_counted}
use Rattle.ess_numbered_laws.proofs.Answered.{Answered}
use Rattle.ess_numbered_laws.proofs.ItemsByNumber.{ones, collect-ones, sum-ones}
use Rattle.ess_numbered_laws.proofs.BoundedGenerators.{then-there, sum-there}

-- ---- operands that are there

-- The first operand of a node that is there.
pub operands-there : (o : Option Value) (os : List (Option Value)) (f : List Value → Option Value) (v : Value) →
    and_then (all_some (o ∷ os)) f ≡ Some v → (w : Value) × (ws : List Value) × (o ≡ Some w) × (f (w ∷ ws) ≡ Some v)
operands-there None os f v e = cc
operands-there (Some w) os f v e = go (all_some os) e
  where
    go : (p : Option (List Value)) → and_then (option_map (λ xs. w ∷ xs) p) f ≡ Some v →
        (u : Value) × (ws : List Value) × (Some w ≡ Some u) × (f (u ∷ ws) ≡ Some v)
    go None e = cc
    go (Some ws) e = (w, ws, refl, e)

-- The first of operands, and those behind it.
pub first-there : (o : Option Value) (p : Option (List Value)) (xs : List Value) → and_then o (λ x. option_map (λ ys. x ∷ ys) p) ≡ Some xs →
    (w : Value) × (ws : List Value) × (o ≡ Some w) × (p ≡ Some ws) × (w ∷ ws ≡ xs)
first-there None p xs e = cc
first-there (Some w) None xs e = cc
first-there (Some w) (Some ws) xs e = (w, ws, refl, refl, let z : w ∷ ws ≡ xs = cc in z)

-- There are as many values as operands.
pub as-many : (es : Exs) (env : Env) (xs : List Value) → all_some (meanings es env) ≡ Some xs → length xs ≡ operand_count es
as-many no_exs env xs e = let z : [] ≡ xs = cc in ap length (sym z)
as-many (more_exs a es) env xs e = let r = first-there (meaning a env) (all_some (meanings es env)) xs e in
    ap length (sym r.4) ∙ ap suc (as-many es env r.1 r.3)

-- Each operand is there.
pub all-are : (es : Exs) (env : Env) (xs : List Value) → all_some (meanings es env) ≡ Some xs → list_all is_some (meanings es env) ≡ true
all-are no_exs env xs e = refl
all-are (more_exs a es) env xs e = let r = first-there (meaning a env) (all_some (meanings es env)) xs e in
    ap (λ o. is_some o && list_all is_some (meanings es env)) r.2 ∙ all-are es env r.1 r.3

-- A written list that is there.
pub list-there : (o : Option (List Value)) (v : Value) → and_then o (λ xs. Some (list_value xs)) ≡ Some v →
    (xs : List Value) × (o ≡ Some xs) × (items_of v ≡ xs)
list-there None v e = cc
list-there (Some xs) v e = (xs, refl, ap items_of (let z : v ≡ list_value xs = cc in z) ∙ to_list-of_list xs)

-- The same of one with an index domain.
pub matrix-there : (o : Option (List Value)) (m : Option (List Value)) (v : Value) → and_then o (matrix_value m) ≡ Some v →
    (xs : List Value) × (o ≡ Some xs) × (items_of v ≡ xs)
matrix-there None m v e = cc
matrix-there (Some xs) m v e = (xs, refl, go m e)
  where
    go : (m : Option (List Value)) → matrix_value m xs ≡ Some v → items_of v ≡ xs
    go None e = cc
    go (Some is) e = at (nat_eq (length is) (length xs)) e
      where
        at : (b : Bool) → when b (matrix (of_list is) (of_list xs)) ≡ Some v → items_of v ≡ xs
        at false e = cc
        at true e = ap items_of (let z : v ≡ matrix (of_list is) (of_list xs) = cc in z) ∙ to_list-of_list xs

-- The same of a comprehension.
pub comp-there : (o : Option (List Value)) (v : Value) → option_map list_value o ≡ Some v → (xs : List Value) × (o ≡ Some xs)
    × (items_of v ≡ xs)
comp-there None v e = cc
comp-there (Some xs) v e = (xs, refl, ap items_of (let z : v ≡ list_value xs = cc in z) ∙ to_list-of_list xs)

-- The summands of a written sum that is there.
pub summands-there : (ns : Exs) (env : Env) (k : ℕ) → meaning (all_summed ns) env ≡ Some (number (pos k)) →
    (ws : List Value) × (all_some (meanings ns env) ≡ Some ws) × (sum_of ws ≡ pos k)
summands-there ns env k e = sum-there (all_some (meanings ns env)) k (sym (go (all_some (meanings ns env))) ∙ e)
  where
    go : (o : Option (List Value)) → value_of_node (word Fun.Sum) (and_then o (λ xs. Some (list_value xs)) ∷ [])
        ≡ value_of_node (word Fun.Sum) (option_map list_value o ∷ [])
    go None = refl
    go (Some xs) = refl

-- How many members are counted.
pub counted-there : (z : Text) (i : Dom) (env : Env) (k : ℕ) → meaning (members_counted z i) env ≡ Some (number (pos k)) →
    (vs : List Value) × (members_in (domain_of i env) ≡ Some vs) × (length vs ≡ k)
counted-there z i env k e =
    let s = sum-there (and_then (members_in (domain_of i env)) (λ vs. collect vs (λ v. Some (number (pos 1) ∷ [])))) k e in
    let r = then-there (members_in (domain_of i env)) (λ vs. collect vs (λ v. Some (number (pos 1) ∷ []))) s.0 s.1 in
    let a : ones r.0 ≡ s.0 = (let z : Some (ones r.0) ≡ Some s.0 = sym (collect-ones r.0) ∙ r.2 in cc) in
    let b : pos (length r.0) ≡ pos k = sym (sum-ones r.0) ∙ ap sum_of a ∙ s.2 in
    (r.0, r.1, let z : length r.0 ≡ k = cc in z)

-- A view that is there has a domain.
pub view-domain : (d : Dom) (env : Env) (f : Domain → Option Value) (v : Value) →
    false_where_undefined (is_bool_dom d) (and_then (domain_of d env) f) ≡ Some v → (c : Domain) × (domain_of d env ≡ Some c)
view-domain bool_dom env f v e = (booleans, refl)
view-domain d env f v e = go (domain_of d env) e
  where
    go : (o : Option Domain) → and_then o f ≡ Some v → (c : Domain) × (o ≡ Some c)
    go None e = cc
    go (Some c) e = (c, refl)

-- A plain index domain is the domain itself.
pub plain-same : (o : Option Dom) → Answered (plain_axis o) (λ i. o ≡ Some i)
plain-same (Some bool_dom) = refl
plain-same (Some (int_dom rs es)) = go (are_plain_bounds es)
  where
    go : (b : Bool) → Answered (if b then Some (int_dom rs es) else None) (λ i. Some (int_dom rs es) ≡ Some i)
    go true = refl
    go false = tt
plain-same (Some (name_dom a)) = refl
plain-same _ = tt
