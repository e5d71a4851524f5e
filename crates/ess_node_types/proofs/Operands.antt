-- The types of several expressions, one by one.
use Rattle.std.proofs.Common.{◌≡◌, refl, sym, ap, ◌∙◌, ℕ, ◌+◌, ◌<◌, ◌≤◌, List, [], ◌∷◌, ◌++◌, length, map, drop, get_or, Option, Some, None, option_map}
use Rattle.std.proofs.lemmas.List.{at_drop_more, at_drop_all, map_push, append_assoc, append-nil}
use Rattle.ess_semantics.specs.Lists.{and_then, all_some}
use Rattle.ess_semantics.specs.Names.{Names}
use Rattle.ess_semantics.specs.Types as pure
use Rattle.ess_semantics.specs.Typing.{type_of, types_of}
use Rattle.ess_core.specs.TypeViews.{pure_ty}
use Rattle.ess_core.specs.declared.types.Ty.{Ty}
use Rattle.ess_core_nodes.specs.NodeViews.{pure_node, pure_nodes}
use Rattle.ess_core_nodes.specs.declared.nodes.Node.{Node}

-- Items that are found already, in front of those that are still to be found.
abbrev pub ahead : {A : Type 0} → List A → Option (List A) → Option (List A)
ahead xs None = None
ahead xs (Some ys) = Some (xs ++ ys)

pub ahead_nothing : {A : Type 0} (o : Option (List A)) → ahead [] o ≡ o
ahead_nothing None = refl
ahead_nothing (Some ys) = refl

ahead-one : {A : Type 0} (xs : List A) (x : A) (o : Option (List A)) → ahead (xs ++ x ∷ []) o ≡ ahead xs (option_map (λ ys. x ∷ ys) o)
ahead-one xs x None = refl
ahead-one xs x (Some ys) = ap Some (append_assoc xs (x ∷ []) ys)

-- The types of all, where each has one.
abbrev pub typed : List Node → Names pure.Ty → Option (List pure.Ty)
typed es g = all_some (types_of (pure_nodes es) g)

left : (xs : List Node) (i : ℕ) (x : Node) (g : Names pure.Ty) → i < length xs → x ≡ get_or xs i x
    → typed (drop i xs) g ≡ and_then (type_of (pure_node x) g) (λ t. option_map (λ ts. t ∷ ts) (typed (drop (i + 1) xs) g))
left xs i x g h is =
    at_drop_more (λ l. typed l g) xs i x h
    ∙ ap (λ y. typed (y ∷ drop (i + 1) xs) g) (sym is)

pub nodes_more : (xs : List Node) (i : ℕ) (x : Node) (g : Names pure.Ty) (ts us : List Ty) (t : Ty) → i < length xs → x ≡ get_or xs i x
    → Some (pure_ty t) ≡ type_of (pure_node x) g → us ≡ ts ++ t ∷ []
    → ahead (map pure_ty us) (all_some (types_of (pure_nodes (drop (i + 1) xs)) g))
    ≡ ahead (map pure_ty ts) (all_some (types_of (pure_nodes (drop i xs)) g))
nodes_more xs i x g ts us t h is e p =
    ap (λ l. ahead (map pure_ty l) (typed (drop (i + 1) xs) g)) p
    ∙ ap (λ l. ahead l (typed (drop (i + 1) xs) g)) (map_push pure_ty ts t)
    ∙ ahead-one (map pure_ty ts) (pure_ty t) (typed (drop (i + 1) xs) g)
    ∙ ap (λ o. ahead (map pure_ty ts) (and_then o (λ t. option_map (λ ts. t ∷ ts) (typed (drop (i + 1) xs) g)))) e
    ∙ ap (ahead (map pure_ty ts)) (sym (left xs i x g h is))

pub nodes_none : (xs : List Node) (i : ℕ) (x : Node) (g : Names pure.Ty) (ts : List Ty) → i < length xs → x ≡ get_or xs i x
    → None ≡ type_of (pure_node x) g → ahead (map pure_ty ts) (all_some (types_of (pure_nodes (drop i xs)) g)) ≡ None
nodes_none xs i x g ts h is e =
    ap (ahead (map pure_ty ts))
    (left xs i x g h is ∙ ap (λ o. and_then o (λ t. option_map (λ ts. t ∷ ts) (typed (drop (i + 1) xs) g))) (sym e))

pub nodes_end : (xs : List Node) (i : ℕ) (g : Names pure.Ty) (ts : List Ty) → length xs ≤ i
    → ahead (map pure_ty ts) (all_some (types_of (pure_nodes (drop i xs)) g)) ≡ Some (map pure_ty ts)
nodes_end xs i g ts h =
    at_drop_all (λ l. ahead (map pure_ty ts) (typed l g)) xs i h ∙ ap Some (append-nil (map pure_ty ts))

-- ---- there or not

pub each_more : (xs : List Node) (i : ℕ) (x : Node) (g : Names pure.Ty) (ts us : List (Option Ty)) (o : Option Ty) → i < length xs → x ≡ get_or xs i x
    → option_map pure_ty o ≡ type_of (pure_node x) g → us ≡ ts ++ o ∷ []
    → map (option_map pure_ty) us ++ types_of (pure_nodes (drop (i + 1) xs)) g ≡ map (option_map pure_ty) ts ++ types_of (pure_nodes (drop i xs)) g
each_more xs i x g ts us o h is e p =
    ap (λ l. map (option_map pure_ty) l ++ types_of (pure_nodes (drop (i + 1) xs)) g) p
    ∙ ap (λ l. l ++ types_of (pure_nodes (drop (i + 1) xs)) g) (map_push (option_map pure_ty) ts o)
    ∙ append_assoc (map (option_map pure_ty) ts) (option_map pure_ty o ∷ []) (types_of (pure_nodes (drop (i + 1) xs)) g)
    ∙ ap (λ t. map (option_map pure_ty) ts ++ (t ∷ types_of (pure_nodes (drop (i + 1) xs)) g)) e
    ∙ ap (λ y. map (option_map pure_ty) ts ++ types_of (pure_nodes (y ∷ drop (i + 1) xs)) g) is
    ∙ ap (λ l. map (option_map pure_ty) ts ++ l) (sym (at_drop_more (λ l. types_of (pure_nodes l) g) xs i x h))

pub each_end : (xs : List Node) (i : ℕ) (g : Names pure.Ty) (ts : List (Option Ty)) → length xs ≤ i
    → map (option_map pure_ty) ts ++ types_of (pure_nodes (drop i xs)) g ≡ map (option_map pure_ty) ts
each_end xs i g ts h =
    at_drop_all (λ l. map (option_map pure_ty) ts ++ types_of (pure_nodes l) g) xs i h ∙ append-nil (map (option_map pure_ty) ts)
