-- The type that the steps of an index reach, one step after the other.
use Rattle.std.proofs.Common.{◌≡◌, refl, sym, ap, ◌∙◌, ℕ, ◌+◌, ◌<◌, ◌≤◌, true, false, eqb, List, [], ◌∷◌, length, map, drop, get_or, Option, Some, None, option_map, arith}
use Rattle.std.proofs.lemmas.List.{at_drop_more, at_drop_all}
use Rattle.std.proofs.lemmas.Bool.{false≢true}
use Rattle.std.proofs.lemmas.Bool.Decides.{nat_tests}
use Rattle.ess_semantics.specs.Lists.{and_then, tail_of}
use Rattle.ess_semantics.specs.Types as pure
use Rattle.ess_semantics.specs.Trees as tree
use Rattle.ess_semantics.specs.Trees.{by_value, to_component, to_field, index}
use Rattle.ess_semantics.specs.Typing.{path_ty, statics, type_of_node}
use Rattle.ess_core.specs.TypeViews.{pure_ty}
use Rattle.ess_core.specs.declared.types.Ty.{Ty}
use Rattle.ess_core_nodes.specs.NodeViews.{pure_nodes, pure_step}
use Rattle.ess_core_nodes.specs.declared.words.Step.{Step}
use Rattle.ess_core_nodes.specs.declared.nodes.Node.{Node}
use Rattle.ess_node_types.specs.StepsTaken.{path_from, step_at, items_behind}

-- ---- what is indexed

-- Of what has no type.
pub index_none : (qs : List Step) (vs : List Node) (us : List (Option Ty))
    → type_of_node (index (map pure_step qs)) (statics (pure_nodes vs)) (map (option_map pure_ty) (None ∷ us)) ≡ None
index_none qs vs us = refl

tails : (vs : List Node) → tail_of (statics (pure_nodes vs)) ≡ statics (pure_nodes (tail_of vs))
tails [] = refl
tails (v ∷ vs) = refl

-- Of what has the type t.
pub index_some : (qs : List Step) (vs ws : List Node) (t : Ty) (us : List (Option Ty)) → ws ≡ tail_of vs
    → type_of_node (index (map pure_step qs)) (statics (pure_nodes vs)) (map (option_map pure_ty) (Some t ∷ us)) ≡ path_from (pure_ty t) qs ws us
index_some qs vs ws t us e =
    ap (λ l. path_ty (pure_ty t) (map pure_step qs) l (map (option_map pure_ty) us)) (tails vs)
    ∙ ap (λ l. path_from (pure_ty t) qs l us) (sym e)

-- ---- step by step

one : (q : tree.Step) (qs : List tree.Step) (t : pure.Ty) (vs : List Node) (us : List (Option Ty))
    → path_ty t (q ∷ qs) (statics (pure_nodes vs)) (map (option_map pure_ty) us)
    ≡ and_then (step_at q t vs us) (λ u. path_ty u qs (statics (pure_nodes (items_behind q vs))) (map (option_map pure_ty) (items_behind q us)))
one by_value qs t [] us = refl
one by_value qs t (v ∷ vs) [] = refl
one by_value qs t (v ∷ vs) (u ∷ us) = refl
one (to_component k) qs t vs us = refl
one (to_field a) qs t vs us = refl

left : (xs : List Step) (i : ℕ) (x : Step) (t : pure.Ty) (vs : List Node) (us : List (Option Ty)) → i < length xs → x ≡ get_or xs i x
    → path_from t (drop i xs) vs us
    ≡ and_then (step_at (pure_step x) t vs us) (λ u. path_from u (drop (i + 1) xs) (items_behind (pure_step x) vs) (items_behind (pure_step x) us))
left xs i x t vs us h is =
    at_drop_more (λ l. path_from t l vs us) xs i x h
    ∙ ap (λ y. path_from t (y ∷ drop (i + 1) xs) vs us) (sym is)
    ∙ one (pure_step x) (map pure_step (drop (i + 1) xs)) t vs us

pub steps_more : (xs : List Step) (i : ℕ) (x : Step) (t u : Ty) (vs ws : List Node) (ts us : List (Option Ty)) → i < length xs → x ≡ get_or xs i x
    → Some (pure_ty u) ≡ step_at (pure_step x) (pure_ty t) vs ts → ws ≡ items_behind (pure_step x) vs → us ≡ items_behind (pure_step x) ts
    → path_from (pure_ty u) (drop (i + 1) xs) ws us ≡ path_from (pure_ty t) (drop i xs) vs ts
steps_more xs i x t u vs ws ts us h is e p q =
    ap (λ l. path_from (pure_ty u) (drop (i + 1) xs) l us) p
    ∙ ap (path_from (pure_ty u) (drop (i + 1) xs) (items_behind (pure_step x) vs)) q
    ∙ ap (λ o. and_then o (λ u. path_from u (drop (i + 1) xs) (items_behind (pure_step x) vs) (items_behind (pure_step x) ts))) e
    ∙ sym (left xs i x (pure_ty t) vs ts h is)

pub steps_none : (xs : List Step) (i : ℕ) (x : Step) (t : Ty) (vs : List Node) (us : List (Option Ty)) → i < length xs → x ≡ get_or xs i x
    → None ≡ step_at (pure_step x) (pure_ty t) vs us → path_from (pure_ty t) (drop i xs) vs us ≡ None
steps_none xs i x t vs us h is e =
    left xs i x (pure_ty t) vs us h is
    ∙ ap (λ o. and_then o (λ u. path_from u (drop (i + 1) xs) (items_behind (pure_step x) vs) (items_behind (pure_step x) us))) (sym e)

-- Behind the last step no value is left.
pub steps_end : (xs : List Step) (i : ℕ) (t : Ty) (vs : List Node) (us : List (Option Ty)) → length xs ≤ i → eqb (length vs) 0 ≡ true
    → eqb (length us) 0 ≡ true → path_from (pure_ty t) (drop i xs) vs us ≡ Some (pure_ty t)
steps_end xs i t [] [] h e f = at_drop_all (λ l. path_from (pure_ty t) l [] []) xs i h
steps_end xs i t [] (u ∷ us) h e f = absurd (grind (arith, nat_tests))
steps_end xs i t (v ∷ vs) us h e f = absurd (grind (arith, nat_tests))

-- A value that no step takes.
pub values_left : (xs : List Step) (i : ℕ) (t : Ty) (vs : List Node) (us : List (Option Ty)) → length xs ≤ i → eqb (length vs) 0 ≡ false
    → path_from (pure_ty t) (drop i xs) vs us ≡ None
values_left xs i t [] us h e = absurd (false≢true (sym e))
values_left xs i t (v ∷ vs) us h e = at_drop_all (λ l. path_from (pure_ty t) l (v ∷ vs) us) xs i h

-- A type of a value that isn't there.
pub types_left : (xs : List Step) (i : ℕ) (t : Ty) (vs : List Node) (us : List (Option Ty)) → length xs ≤ i → eqb (length us) 0 ≡ false
    → path_from (pure_ty t) (drop i xs) vs us ≡ None
types_left xs i t vs [] h e = absurd (false≢true (sym e))
types_left xs i t [] (u ∷ us) h e = at_drop_all (λ l. path_from (pure_ty t) l [] (u ∷ us)) xs i h
types_left xs i t (v ∷ vs) (u ∷ us) h e = at_drop_all (λ l. path_from (pure_ty t) l (v ∷ vs) (u ∷ us)) xs i h
