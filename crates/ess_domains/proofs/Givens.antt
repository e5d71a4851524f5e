-- What an assignment gives, looked for in its rows.
use Rattle.std.proofs.Common.{◌≡◌, refl, ap, sym, ◌∙◌, Bool, true, false, List, [], ◌∷◌, ◌++◌, ◌||◌, map, Option, Some, option_map, cond}
use Rattle.std.specs.List.{find, list_any}
use Rattle.ess_semantics.specs.Values.{Text}
use Rattle.ess_semantics.specs.Order.{same_text}
use Rattle.ess_semantics.specs.Names.{look, keys, is_among}
use Rattle.ess_semantics.specs.Lists.{and_then}
use Rattle.ess_core.specs.ValueViews.{pure_val}
use Rattle.ess_domains.specs.Assignments.{pure_type_names, pure_named_value}
use Rattle.ess_domains.specs.declared.assignments.TypeNames.{TypeNames}
use Rattle.ess_domains.specs.declared.assignments.NamedValue.{NamedValue}

-- A name is among two lists where it is among one of them.
pub is_among-append : (ns ms : List Text) (x : Text) → is_among (ns ++ ms) x ≡ is_among ns x || is_among ms x
is_among-append [] ms x = refl
is_among-append (n ∷ ns) ms x = go (same_text n x) (is_among-append ns ms x)
  where
    go : (b : Bool) → is_among (ns ++ ms) x ≡ is_among ns x || is_among ms x → b || is_among (ns ++ ms) x ≡ (b || is_among ns x) || is_among ms x
    go true h = refl
    go false h = h

-- The names of types.
pub type_keys : (ts : List TypeNames) (x : Text) → is_among (keys (map pure_type_names ts)) x ≡ list_any (λ t. same_text t.name x) ts
type_keys [] x = refl
type_keys (t ∷ ts) x = ap (λ b. same_text t.name x || b) (type_keys ts x)

-- The names of values.
pub value_keys : (gs : List NamedValue) (x : Text) → is_among (keys (map pure_named_value gs)) x ≡ list_any (λ g. same_text g.name x) gs
value_keys [] x = refl
value_keys (g ∷ gs) x = ap (λ b. same_text g.name x || b) (value_keys gs x)

-- A name is given as a type or as a value.
pub given_in_either : (ts : List TypeNames) (gs : List NamedValue) (x : Text)
    → is_among (keys (map pure_type_names ts) ++ keys (map pure_named_value gs)) x ≡ list_any (λ t. same_text t.name x) ts || list_any (λ g. same_text g.name x) gs
given_in_either ts gs x =
    is_among-append (keys (map pure_type_names ts)) (keys (map pure_named_value gs)) x
    ∙ ap (λ b. b || is_among (keys (map pure_named_value gs)) x) (type_keys ts x)
    ∙ ap (λ b. list_any (λ t. same_text t.name x) ts || b) (value_keys gs x)

-- The first type with the name counts.
pub type_found : (ts : List TypeNames) (x : Text)
    → look (map pure_type_names ts) x ≡ option_map (λ t. t.names) (find (λ t. same_text t.name x) ts)
type_found [] x = refl
type_found (t ∷ ts) x = go (same_text t.name x) (type_found ts x)
  where
    go : (c : Bool) → look (map pure_type_names ts) x ≡ option_map (λ t. t.names) (find (λ t. same_text t.name x) ts)
        → cond c (Some t.names) (look (map pure_type_names ts) x) ≡ option_map (λ t. t.names) (cond c (Some t) (find (λ t. same_text t.name x) ts))
    go true h = refl
    go false h = h

-- The first value with the name counts.
pub named_found : (gs : List NamedValue) (x : Text)
    → look (map pure_named_value gs) x ≡ option_map (λ g. option_map pure_val g.val) (find (λ g. same_text g.name x) gs)
named_found [] x = refl
named_found (g ∷ gs) x = go (same_text g.name x) (named_found gs x)
  where
    go : (c : Bool) → look (map pure_named_value gs) x ≡ option_map (λ g. option_map pure_val g.val) (find (λ g. same_text g.name x) gs)
        → cond c (Some (option_map pure_val g.val)) (look (map pure_named_value gs) x) ≡ option_map (λ g. option_map pure_val g.val) (cond c (Some g) (find (λ g. same_text g.name x) gs))
    go true h = refl
    go false h = h

-- The value of the first that has the name.
pub value_found : (gs : List NamedValue) (x : Text) (o : Option NamedValue) → o ≡ find (λ g. same_text g.name x) gs
    → and_then (option_map (λ g. option_map pure_val g.val) o) (λ o. o) ≡ and_then (look (map pure_named_value gs) x) (λ o. o)
value_found gs x o h = ap (λ o. and_then o (λ o. o)) (ap (option_map (λ g. option_map pure_val g.val)) h ∙ sym (named_found gs x))
