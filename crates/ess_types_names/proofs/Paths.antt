-- The steps of an index, one by one.
use Rattle.std.proofs.Common.{◌≡◌, refl, sym, ap, ◌∙◌, ℕ, ◌+◌, ◌<◌, ◌≤◌, List, [], ◌∷◌, length, map, drop, get_or, Option, Some, None, option_map}
use Rattle.std.proofs.lemmas.List.{at_drop_more, at_drop_all}
use Rattle.ess_semantics.specs.Lists.{and_then}
use Rattle.ess_semantics.specs.Names.{Names}
use Rattle.ess_semantics.specs.Types as pure
use Rattle.ess_semantics.specs.Trees as tree
use Rattle.ess_core.specs.TreeViews.{With, pure_step}
use Rattle.ess_core.specs.TypeViews.{pure_ty}
use Rattle.ess_core.specs.declared.expressions.Step.{Step}
use Rattle.ess_core.specs.declared.types.Ty.{Ty}
use Rattle.ess_types_names.specs.Paths.{steps_ty}

-- What a step reaches, whatever follows.
abbrev pub Reaches : pure.Ty → Step → Names pure.Ty → Option pure.Ty → Type 0
Reaches t s g o = (ws : List (With tree.Step)) → steps_ty t (pure_step s ∷ ws) g ≡ and_then o (λ v. steps_ty v ws g)

left : (xs : List Step) (i : ℕ) (x : Step) (g : Names pure.Ty) (t : pure.Ty) (o : Option pure.Ty) → i < length xs → x ≡ get_or xs i x → Reaches t x g o
    → steps_ty t (map pure_step (drop i xs)) g ≡ and_then o (λ v. steps_ty v (map pure_step (drop (i + 1) xs)) g)
left xs i x g t o h is e =
    at_drop_more (λ l. steps_ty t (map pure_step l) g) xs i x h
    ∙ ap (λ y. steps_ty t (map pure_step (y ∷ drop (i + 1) xs)) g) (sym is)
    ∙ e (map pure_step (drop (i + 1) xs))

pub steps_more : (xs : List Step) (i : ℕ) (x : Step) (g : Names pure.Ty) (t u : Ty) → i < length xs → x ≡ get_or xs i x → Reaches (pure_ty t) x g (Some (pure_ty u))
    → steps_ty (pure_ty u) (map pure_step (drop (i + 1) xs)) g ≡ steps_ty (pure_ty t) (map pure_step (drop i xs)) g
steps_more xs i x g t u h is e = sym (left xs i x g (pure_ty t) (Some (pure_ty u)) h is e)

pub steps_none : (xs : List Step) (i : ℕ) (x : Step) (g : Names pure.Ty) (t : Ty) → i < length xs → x ≡ get_or xs i x → Reaches (pure_ty t) x g None
    → steps_ty (pure_ty t) (map pure_step (drop i xs)) g ≡ None
steps_none xs i x g t h is e = left xs i x g (pure_ty t) None h is e

pub steps_end : (xs : List Step) (i : ℕ) (g : Names pure.Ty) (t : Ty) → length xs ≤ i → steps_ty (pure_ty t) (map pure_step (drop i xs)) g ≡ Some (pure_ty t)
steps_end xs i g t h = at_drop_all (λ l. steps_ty (pure_ty t) (map pure_step l) g) xs i h
