-- The first operand that picks a compound value, one operand after another.
use Rattle.std.proofs.Common.{◌≡◌, refl, sym, ap, ◌∙◌, arith, ℕ, suc, ◌+◌, ◌<◌, Bool, true, false, ◌&&◌, ◌||◌, if◌then◌else◌, List, [], ◌∷◌, length, map, drop, get_or, Option, Some, None}
use Rattle.std.proofs.lemmas.List.{drop_more, drop_all}
use Rattle.ess_semantics.specs.Names.{Names}
use Rattle.ess_semantics.specs.Types.{Ty}
use Rattle.ess_semantics.specs.Typing.{type_of}
use Rattle.ess_semantics.specs.Trees.{Ex, Exs, more_exs}
use Rattle.ess_core_nodes.specs.declared.nodes.Node.{Node}
use Rattle.ess_core_nodes.specs.NodeViews.{pure_node, pure_nodes}
use Rattle.ess_kind_rules_laws.specs.TermLookups.{picks}
use Rattle.ess_open_rules_laws.specs.OpenRules.{is_compound_ty, first_picked}

when : (b : Bool) (x y : Option (ℕ × Ex)) → b ≡ true → (if b then x else y) ≡ x
when true x y h = refl
when false x y h = cc

unless : (b : Bool) (x y : Option (ℕ × Ex)) → b ≡ false → (if b then x else y) ≡ y
unless true x y h = cc
unless false x y h = refl

-- One that doesn't.
pub picked_later : (any : Bool) (g : Names Ty) (ns : List Node) (i k : ℕ) (x : Node) (o : Option (ℕ × Ex)) → i < length ns → x ≡ get_or ns i x
    → (picks (pure_node x) && (any || is_compound_ty (type_of (pure_node x) g))) ≡ false
    → first_picked any g k (pure_nodes (drop i ns)) ≡ o → first_picked any g (k + 1) (pure_nodes (drop (i + 1) ns)) ≡ o
picked_later any g ns i k x o lt is h e =
    let here : drop i ns ≡ x ∷ drop (i + 1) ns = drop_more ns i x lt ∙ ap (λ z. z ∷ drop (i + 1) ns) (sym is) in
    let on : k + 1 ≡ suc k = omega arith in
    ap (λ m. first_picked any g m (pure_nodes (drop (i + 1) ns))) on
    ∙ sym (unless (picks (pure_node x) && (any || is_compound_ty (type_of (pure_node x) g))) (Some (k, pure_node x))
    (first_picked any g (suc k) (pure_nodes (drop (i + 1) ns))) h)
    ∙ sym (ap (λ l. first_picked any g k (pure_nodes l)) here) ∙ e

-- One that does.
pub picked_here : (any : Bool) (g : Names Ty) (ns : List Node) (i k : ℕ) (x : Node) (o : Option (ℕ × Ex)) → i < length ns → x ≡ get_or ns i x
    → (picks (pure_node x) && (any || is_compound_ty (type_of (pure_node x) g))) ≡ true
    → first_picked any g k (pure_nodes (drop i ns)) ≡ o → Some (k, pure_node x) ≡ o
picked_here any g ns i k x o lt is h e =
    let here : drop i ns ≡ x ∷ drop (i + 1) ns = drop_more ns i x lt ∙ ap (λ z. z ∷ drop (i + 1) ns) (sym is) in
    sym (when (picks (pure_node x) && (any || is_compound_ty (type_of (pure_node x) g))) (Some (k, pure_node x))
    (first_picked any g (suc k) (pure_nodes (drop (i + 1) ns))) h)
    ∙ sym (ap (λ l. first_picked any g k (pure_nodes l)) here) ∙ e

-- Behind the last nothing is found.
pub picked_none : (any : Bool) (g : Names Ty) (ns : List Node) (i k : ℕ) (o : Option (ℕ × Ex)) → i ≡ length ns
    → first_picked any g k (pure_nodes (drop i ns)) ≡ o → None ≡ o
picked_none any g ns i k o h e = ap (λ l. first_picked any g k (pure_nodes l)) (sym (drop_all i ns (omega (arith, h)))) ∙ e
