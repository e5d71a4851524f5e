-- The steps of an index, resolved one by one.
use Rattle.std.proofs.Common.{◌≡◌, refl, sym, ap, ◌∙◌, subst, Bool, ℕ, ◌+◌, ◌<◌, ◌≤◌, List, [], ◌∷◌, ◌++◌, length, map, drop, get_or, Option, Some, None, option_map}
use Rattle.std.proofs.lemmas.List.{at_drop_more, at_drop_all, map_push, append_assoc, append-nil}
use Rattle.ess_semantics.specs.Lists.{and_then}
use Rattle.ess_semantics.specs.Values.{Text, a_tuple, a_record}
use Rattle.ess_semantics.specs.Names.{Names, keys}
use Rattle.ess_semantics.specs.Types as pure
use Rattle.ess_semantics.specs.Types.{compound, tys_of}
use Rattle.ess_semantics.specs.Trees as tree
use Rattle.ess_semantics.specs.Trees.{by_value, to_component, to_field, index, Exs, node_ex, more_exs}
use Rattle.ess_semantics.specs.Typing.{Static, a_number, a_name, other, static, statics, type_behind, path_ty, type_of_node, type_of, types_of}
use Rattle.ess_semantics.specs.Resolving.{resolve, resolve_exs, step_at, steps_from, kept_indices}
use Rattle.ess_core.specs.TreeViews.{With, words_of, within, exs_of, pure_ex, pure_step}
use Rattle.ess_core.specs.TypeViews.{pure_ty, pure_tys, pure_field_ty}
use Rattle.ess_core.specs.declared.domains.Dom.{Dom}
use Rattle.ess_core.specs.declared.domains.FieldDom.{FieldDom}
use Rattle.ess_core.specs.declared.domains.Range.{Range}
use Rattle.ess_core.specs.declared.domains.Attr.{Attr}
use Rattle.ess_core.specs.declared.expressions.Ex.{Ex}
use Rattle.ess_core.specs.declared.expressions.FieldEx.{FieldEx}
use Rattle.ess_core.specs.declared.expressions.PairEx.{PairEx}
use Rattle.ess_core.specs.declared.expressions.Gen.{Gen}
use Rattle.ess_core.specs.declared.expressions.View.{View}
use Rattle.ess_core.specs.declared.expressions.Step.{Step, out-Step, roll-Step, roll-out-Step}
use Rattle.ess_core.specs.declared.expressions.Step.TheVariants as step
use Rattle.ess_core.specs.declared.domains.Dom.TheOpen.{Step-F}
use Rattle.ess_core.proofs.PartEquations.{pure_step_value, pure_step_component, pure_step_field}
use Rattle.ess_core.specs.declared.types.Ty.{Ty}
use Rattle.ess_core.specs.declared.types.FieldTy.{FieldTy}
use Rattle.ess_core.specs.declared.types.Ty.TheVariants as variant
use Rattle.ess_core.proofs.TypeEquations.{pure_tuple, pure_rec}
use Rattle.ess_types_operators.specs.Steps.{number_of, name_of}
use Rattle.ess_types_resolving.specs.Paths.{said_step, placed, resolved_step, step_behind, resolved_path, path_behind}

-- ---- the forms of steps

-- A step with its value where it is by one.
data Formed : With tree.Step → Type 0 where
  valued : (e : tree.Ex) → Formed (by_value, e ∷ [])
  numbered : (k : ℕ) → Formed (to_component k, [])
  named : (a : Text) → Formed (to_field a, [])

step-layer : (x : Step-F Dom Range Ex Gen Step Attr FieldDom FieldEx PairEx View) → Formed (pure_step (roll-Step x))
step-layer (Step-F.Value e) = subst (λ s. Formed (pure_step s)) (sym (step.rolls-Value e))
    (subst Formed (sym (pure_step_value e)) (valued (pure_ex e)))
step-layer (Step-F.Component k) =
    subst (λ s. Formed (pure_step s)) (sym (step.rolls-Component k)) (subst Formed (sym (pure_step_component k)) (numbered k))
step-layer (Step-F.Field a) = subst (λ s. Formed (pure_step s)) (sym (step.rolls-Field a))
    (subst Formed (sym (pure_step_field a)) (named a))

formed : (s : Step) → Formed (pure_step s)
formed s = subst (λ s. Formed (pure_step s)) (roll-out-Step s) (step-layer (out-Step s))

-- ---- one step after another

-- What a path says, over the steps and their values.
abbrev pub StepsSaid : Option pure.Ty → List (With tree.Step) → Names pure.Ty → Type 0
StepsSaid t ws g = steps_from t (words_of ws) (statics (exs_of (within ws))) (types_of (exs_of (within ws)) g)
    ≡ words_of (resolved_path t ws g)

abbrev pub IndicesKept : Option pure.Ty → List (With tree.Step) → Names pure.Ty → Type 0
IndicesKept t ws g = kept_indices (words_of ws) (words_of (resolved_path t ws g)) (resolve_exs (exs_of (within ws)) g)
    ≡ exs_of (within (resolved_path t ws g))

abbrev pub PathTyped : Option pure.Ty → List (With tree.Step) → Names pure.Ty → Type 0
PathTyped t ws g = path_behind t ws g
    ≡ and_then t (λ t. path_ty t (words_of ws) (statics (exs_of (within ws))) (types_of (exs_of (within ws)) g))

placed-word : (q : tree.Step) (e : tree.Ex) → (placed q e).0 ≡ q
placed-word by_value e = refl
placed-word (to_component k) e = refl
placed-word (to_field a) e = refl

no-path : (ws : List (With tree.Step)) (g : Names pure.Ty) → path_behind None ws g ≡ None
no-path [] g = refl
no-path ((by_value, []) ∷ ws) g = no-path ws g
no-path ((by_value, e ∷ es) ∷ ws) g = no-path ws g
no-path ((to_component k, es) ∷ ws) g = no-path ws g
no-path ((to_field a, es) ∷ ws) g = no-path ws g

step-said : (t : Option pure.Ty) {w : With tree.Step} (ws : List (With tree.Step)) (g : Names pure.Ty) → Formed w
    → StepsSaid (step_behind t w g) ws g → StepsSaid t (w ∷ ws) g
step-said t ws g (valued e) h =
    ap (λ l. step_at t (static e) ∷ l) h
    ∙ ap (λ q. q ∷ words_of (resolved_path (type_behind t (static e) (type_of e g)) ws g))
    (sym (placed-word (step_at t (static e)) (resolve e g)))
step-said t ws g (numbered k) h = ap (λ l. to_component k ∷ l) h
step-said t ws g (named a) h = ap (λ l. to_field a ∷ l) h

kept-placed : (q : tree.Step) (r : tree.Ex) (qs rs : List tree.Step) (es : Exs) (ws : List (With tree.Step))
    → kept_indices qs rs es ≡ exs_of (within ws)
    → kept_indices (by_value ∷ qs) ((placed q r).0 ∷ rs) (more_exs r es) ≡ exs_of ((placed q r).1 ++ within ws)
kept-placed by_value r qs rs es ws h = ap (more_exs r) h
kept-placed (to_component k) r qs rs es ws h = h
kept-placed (to_field a) r qs rs es ws h = h

step-kept : (t : Option pure.Ty) {w : With tree.Step} (ws : List (With tree.Step)) (g : Names pure.Ty) → Formed w
    → IndicesKept (step_behind t w g) ws g → IndicesKept t (w ∷ ws) g
step-kept t ws g (valued e) h = kept-placed (step_at t (static e)) (resolve e g) (words_of ws)
    (words_of (resolved_path (type_behind t (static e) (type_of e g)) ws g)) (resolve_exs (exs_of (within ws)) g)
    (resolved_path (type_behind t (static e) (type_of e g)) ws g) h
step-kept t ws g (numbered k) h = h
step-kept t ws g (named a) h = h

step-typed : (t : Option pure.Ty) {w : With tree.Step} (ws : List (With tree.Step)) (g : Names pure.Ty) → Formed w
    → PathTyped (step_behind t w g) ws g → PathTyped t (w ∷ ws) g
step-typed None ws g (valued e) h = no-path ws g
step-typed None ws g (numbered k) h = no-path ws g
step-typed None ws g (named a) h = no-path ws g
step-typed (Some t) ws g (valued e) h = h
step-typed (Some t) ws g (numbered k) h = h
step-typed (Some t) ws g (named a) h = h

-- ---- the steps of an index

-- The steps of an index are those resolved one by one.
pub path_steps : (t : Option pure.Ty) (xs : List Step) (g : Names pure.Ty)
    → steps_from t (words_of (map pure_step xs)) (statics (exs_of (within (map pure_step xs))))
    (types_of (exs_of (within (map pure_step xs))) g) ≡ words_of (resolved_path t (map pure_step xs) g)
path_steps t [] g = refl
path_steps t (x ∷ xs) g = step-said t (map pure_step xs) g (formed x) (path_steps (step_behind t (pure_step x) g) xs g)

-- The values that are kept are those that stand in them.
pub path_kept : (t : Option pure.Ty) (xs : List Step) (g : Names pure.Ty)
    → kept_indices (words_of (map pure_step xs)) (words_of (resolved_path t (map pure_step xs) g))
    (resolve_exs (exs_of (within (map pure_step xs))) g) ≡ exs_of (within (resolved_path t (map pure_step xs) g))
path_kept t [] g = refl
path_kept t (x ∷ xs) g = step-kept t (map pure_step xs) g (formed x) (path_kept (step_behind t (pure_step x) g) xs g)

-- The type behind the steps is the one reached by them one by one.
pub path_typed : (t : Option pure.Ty) (xs : List Step) (g : Names pure.Ty)
    → path_behind t (map pure_step xs) g
    ≡ and_then t (λ t. path_ty t (words_of (map pure_step xs)) (statics (exs_of (within (map pure_step xs))))
    (types_of (exs_of (within (map pure_step xs))) g))
path_typed None [] g = refl
path_typed (Some t) [] g = refl
path_typed t (x ∷ xs) g = step-typed t (map pure_step xs) g (formed x) (path_typed (step_behind t (pure_step x) g) xs g)

-- The type of an index is that behind its steps.
pub index_typed : (b : Bool) (qs : List tree.Step) (e : tree.Ex) (es : Exs) (g : Names pure.Ty)
    → type_of (node_ex b (index qs) (more_exs e es)) g ≡ and_then (type_of e g) (λ t. path_ty t qs (statics es) (types_of es g))
index_typed b qs e es g = go (type_of e g)
  where
    go : (t : Option pure.Ty)
        → type_of_node (index qs) (statics (more_exs e es)) (t ∷ types_of es g)
        ≡ and_then t (λ t. path_ty t qs (statics es) (types_of es g))
    go None = refl
    go (Some t) = refl

-- ---- in a loop

-- One more step is resolved: it stands in front of what is left.
pub steps_more : (xs ys zs : List Step) (i : ℕ) (x y : Step) (g : Names pure.Ty) (t u : Option Ty) → i < length xs → x ≡ get_or xs i x
    → pure_step y ≡ resolved_step (option_map pure_ty t) (pure_step x) g
    → option_map pure_ty u ≡ step_behind (option_map pure_ty t) (pure_step x) g → zs ≡ ys ++ y ∷ []
    → map pure_step zs ++ resolved_path (option_map pure_ty u) (map pure_step (drop (i + 1) xs)) g
    ≡ map pure_step ys ++ resolved_path (option_map pure_ty t) (map pure_step (drop i xs)) g
steps_more xs ys zs i x y g t u l is e q p =
    ap (λ l. map pure_step l ++ resolved_path (option_map pure_ty u) (map pure_step (drop (i + 1) xs)) g) p
    ∙ ap (λ l. l ++ resolved_path (option_map pure_ty u) (map pure_step (drop (i + 1) xs)) g) (map_push pure_step ys y)
    ∙ append_assoc (map pure_step ys) (pure_step y ∷ []) (resolved_path (option_map pure_ty u) (map pure_step (drop (i + 1) xs)) g)
    ∙ ap (λ b. map pure_step ys ++ b ∷ resolved_path (option_map pure_ty u) (map pure_step (drop (i + 1) xs)) g) e
    ∙ ap (λ o. map pure_step ys ++ resolved_step (option_map pure_ty t) (pure_step x) g ∷ resolved_path o
    (map pure_step (drop (i + 1) xs)) g) q
    ∙ sym (at_drop_more (λ l. map pure_step ys ++ resolved_path (option_map pure_ty t) (map pure_step l) g) xs i x l
    ∙ ap (λ z. map pure_step ys ++ resolved_path (option_map pure_ty t) (map pure_step (z ∷ drop (i + 1) xs)) g) (sym is))

-- Nothing is left to resolve.
pub steps_all : (xs ys : List Step) (i : ℕ) (g : Names pure.Ty) (t : Option pure.Ty) → length xs ≤ i
    → map pure_step ys ++ resolved_path t (map pure_step (drop i xs)) g ≡ map pure_step ys
steps_all xs ys i g t l = at_drop_all (λ l. map pure_step ys ++ resolved_path t (map pure_step l) g) xs i l ∙ append-nil (map pure_step ys)

-- One more step is taken: what is left reaches the same type.
pub reached_more : (xs : List Step) (i : ℕ) (x : Step) (g : Names pure.Ty) (t u : Option Ty) → i < length xs → x ≡ get_or xs i x
    → option_map pure_ty u ≡ step_behind (option_map pure_ty t) (pure_step x) g
    → path_behind (option_map pure_ty u) (map pure_step (drop (i + 1) xs)) g
    ≡ path_behind (option_map pure_ty t) (map pure_step (drop i xs)) g
reached_more xs i x g t u l is q =
    ap (λ o. path_behind o (map pure_step (drop (i + 1) xs)) g) q
    ∙ sym (at_drop_more (λ l. path_behind (option_map pure_ty t) (map pure_step l) g) xs i x l
    ∙ ap (λ z. path_behind (option_map pure_ty t) (map pure_step (z ∷ drop (i + 1) xs)) g) (sym is))

-- Behind no step the type stays.
pub reached_all : (xs : List Step) (i : ℕ) (g : Names pure.Ty) (t : Option pure.Ty) → length xs ≤ i
    → path_behind t (map pure_step (drop i xs)) g ≡ t
reached_all xs i g t l = at_drop_all (λ l. path_behind t (map pure_step l) g) xs i l

-- ---- what an index is at a place

-- At a tuple an index is the component of the number that it says.
pub tuple_step_at : (ts : List Ty) (s : Static)
    → step_at (Some (pure_ty (variant.Tuple ts))) s ≡ said_step (option_map to_component (number_of s))
tuple_step_at ts s = ap (λ p. step_at (Some p) s) (pure_tuple ts) ∙ go s
  where
    go : (s : Static) → step_at (Some (compound a_tuple (pure_tys ts))) s ≡ said_step (option_map to_component (number_of s))
    go (a_number n) = refl
    go (a_name a) = refl
    go other = refl

-- At a record an index is the field of the name that it says.
pub record_step_at : (fs : List FieldTy) (s : Static)
    → step_at (Some (pure_ty (variant.Rec fs))) s ≡ said_step (option_map to_field (name_of s))
record_step_at fs s = ap (λ p. step_at (Some p) s) (pure_rec fs) ∙ go s
  where
    go : (s : Static) → step_at (Some
        (compound (a_record (keys (map pure_field_ty fs))) (tys_of (map {A = Text × pure.Ty} (λ f. f.1) (map pure_field_ty fs))))) s
        ≡ said_step (option_map to_field (name_of s))
    go (a_number n) = refl
    go (a_name a) = refl
    go other = refl
