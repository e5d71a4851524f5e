-- The types of several parts, where each has one.
use Rattle.std.proofs.Common.{◌≡◌, refl, sym, ap, ◌∙◌, List, [], ◌∷◌, ◌++◌, map, Option, Some, None, option_map}
use Rattle.std.proofs.lemmas.List.{map_push}
use Rattle.ess_semantics.specs.Lists.{and_then, all_some}
use Rattle.ess_semantics.specs.Names.{Names}
use Rattle.ess_semantics.specs.Trees.{Ex}
use Rattle.ess_semantics.specs.Types as pure
use Rattle.ess_semantics.specs.Typing.{type_of, types_of}
use Rattle.ess_core.specs.declared.types.Ty.{Ty}
use Rattle.ess_core.specs.TypeViews.{pure_ty}
use Rattle.ess_core.specs.TreeViews.{exs_of}
use Rattle.ess_types_nodes.specs.Parts.{joined}

-- One more type stands behind the others.
pub one_more : (ts us : List Ty) (t : Ty) → us ≡ ts ++ t ∷ [] → map pure_ty us ≡ map pure_ty ts ++ pure_ty t ∷ []
one_more ts us t p = ap (map pure_ty) p ∙ map_push pure_ty ts t

joined-front : {A : Type 0} (x : Option A) (xs ys : Option (List A))
    → and_then x (λ a. option_map (λ bs. a ∷ bs) (joined xs ys)) ≡ joined (and_then x (λ a. option_map (λ bs. a ∷ bs) xs)) ys
joined-front None xs ys = refl
joined-front (Some a) None ys = refl
joined-front (Some a) (Some xs) None = refl
joined-front (Some a) (Some xs) (Some ys) = refl

-- The types of expressions and of one more.
types_push : (es : List Ex) (e : Ex) (g : Names pure.Ty)
    → all_some (types_of (exs_of (es ++ e ∷ [])) g) ≡ joined (all_some (types_of (exs_of es) g)) (option_map (λ t. t ∷ []) (type_of e g))
types_push [] e g = go (type_of e g)
  where
    go : (o : Option pure.Ty) → all_some (o ∷ []) ≡ joined (Some []) (option_map (λ t. t ∷ []) o)
    go None = refl
    go (Some t) = refl
types_push (x ∷ es) e g =
    ap (λ ts. and_then (type_of x g) (λ t. option_map (λ us. t ∷ us) ts)) (types_push es e g)
    ∙ joined-front (type_of x g) (all_some (types_of (exs_of es) g)) (option_map (λ t. t ∷ []) (type_of e g))

-- One part more has its type, or none: es are the expressions of the parts, fs are they with one more, e.
pub types_more : (es fs : List Ex) (e : Ex) (g : Names pure.Ty) (ts us : Option (List Ty)) (t : Option Ty) → fs ≡ es ++ e ∷ []
    → option_map (map pure_ty) us ≡ joined (option_map (map pure_ty) ts) (option_map (λ t. t ∷ []) (option_map pure_ty t))
    → option_map pure_ty t ≡ type_of e g
    → option_map (map pure_ty) ts ≡ all_some (types_of (exs_of es) g)
    → option_map (map pure_ty) us ≡ all_some (types_of (exs_of fs) g)
types_more es fs e g ts us t p q r s =
    q
    ∙ ap (λ o. joined (option_map (map pure_ty) ts) (option_map (λ t. t ∷ []) o)) r
    ∙ ap (λ o. joined o (option_map (λ t. t ∷ []) (type_of e g))) s
    ∙ sym (types_push es e g)
    ∙ ap (λ l. all_some (types_of (exs_of l) g)) (sym p)
