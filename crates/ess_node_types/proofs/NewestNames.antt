-- The type of a name is that of the last of the names that is this one.
use Rattle.std.proofs.Common.{◌≡◌, refl, sym, ap, ◌∙◌, Bool, true, false, cond, if◌then◌else◌, List, [], ◌∷◌, ◌++◌, map, reverse, Option, Some, None, option_map}
use Rattle.std.proofs.lemmas.List.{map-append, reverse-append}
use Rattle.std.specs.List.{find}
use Rattle.ess_semantics.specs.Values.{Text}
use Rattle.ess_semantics.specs.Names.{look}
use Rattle.ess_semantics.specs.Order.{same_text}
use Rattle.ess_core.specs.declared.types.FieldTy.{FieldTy}
use Rattle.ess_core.specs.TypeViews.{pure_ty, pure_field_ty}
use Rattle.ess_core.proofs.TypeEquations.{pure_field_ty_is}
use Rattle.ess_types_operators.specs.Parts.{newest_first}

found : (fs : List FieldTy) (a : Text) → look (map pure_field_ty fs) a ≡ option_map (λ f. pure_ty f.ty) (find (λ f. same_text f.name a) fs)
found [] a = refl
found (f ∷ fs) a =
    ap (λ n. if same_text n.0 a then Some n.1 else look (map pure_field_ty fs) a) (pure_field_ty_is f)
    ∙ go (same_text f.name a) (found fs a)
  where
    go : (b : Bool) → look (map pure_field_ty fs) a ≡ option_map (λ f. pure_ty f.ty) (find (λ f. same_text f.name a) fs)
        → (if b then Some (pure_ty f.ty) else look (map pure_field_ty fs) a)
        ≡ option_map (λ f. pure_ty f.ty) (cond b (Some f) (find (λ f. same_text f.name a) fs))
    go true h = refl
    go false h = h

map-reverse : {A B : Type 0} (f : A → B) (xs : List A) → reverse (map f xs) ≡ map f (reverse xs)
map-reverse f [] = refl
map-reverse f (x ∷ xs) =
    reverse-append (f x ∷ []) (map f xs) ∙ ap (λ l. l ++ f x ∷ []) (map-reverse f xs)
    ∙ sym (ap (map f) (reverse-append (x ∷ []) xs) ∙ map-append f (reverse xs) (x ∷ []))

newest : (fs : List FieldTy) (a : Text)
    → look (newest_first fs) a ≡ option_map (λ f. pure_ty f.ty) (find (λ f. same_text f.name a) (reverse fs))
newest fs a = ap (λ l. look l a) (map-reverse pure_field_ty fs) ∙ found (reverse fs) a

-- A name that is there has the type of the last one.
pub type_there : (fs : List FieldTy) (a : Text) (f : FieldTy) → Some f ≡ find (λ f. same_text f.name a) (reverse fs)
    → Some (pure_ty f.ty) ≡ look (newest_first fs) a
type_there fs a f e = sym (newest fs a ∙ ap (option_map (λ f. pure_ty f.ty)) (sym e))

-- A name that isn't there has none.
pub type_none : (fs : List FieldTy) (a : Text) → None ≡ find (λ f. same_text f.name a) (reverse fs) → None ≡ look (newest_first fs) a
type_none fs a e = sym (newest fs a ∙ ap (option_map (λ f. pure_ty f.ty)) (sym e))
