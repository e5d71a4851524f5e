-- Items that are found already, in front of those that are still to be found.
use Rattle.std.proofs.Common.{◌≡◌, refl, ap, ◌∙◌, List, [], ◌∷◌, ◌++◌, Option, Some, None, option_map}
use Rattle.std.proofs.lemmas.List.{append_assoc, append-nil}

abbrev pub ahead : {A : Type 0} → List A → Option (List A) → Option (List A)
ahead xs None = None
ahead xs (Some ys) = Some (xs ++ ys)

abbrev pub both_ahead : {A B : Type 0} → List A → List B → Option (List A × List B) → Option (List A × List B)
both_ahead xs ys None = None
both_ahead xs ys (Some p) = Some (xs ++ p.0, ys ++ p.1)

pub ahead_nothing : {A : Type 0} (o : Option (List A)) → ahead [] o ≡ o
ahead_nothing None = refl
ahead_nothing (Some ys) = refl

pub ahead_all : {A : Type 0} (xs : List A) → ahead xs (Some []) ≡ Some xs
ahead_all xs = ap Some (append-nil xs)

pub ahead_one : {A : Type 0} (xs : List A) (x : A) (o : Option (List A)) → ahead (xs ++ x ∷ []) o ≡ ahead xs (option_map (λ ys. x ∷ ys) o)
ahead_one xs x None = refl
ahead_one xs x (Some ys) = ap Some (append_assoc xs (x ∷ []) ys)

pub ahead_more : {A : Type 0} (xs ys : List A) (o : Option (List A)) → ahead (xs ++ ys) o ≡ ahead xs (option_map (λ zs. ys ++ zs) o)
ahead_more xs ys None = refl
ahead_more xs ys (Some zs) = ap Some (append_assoc xs ys zs)

pub both_nothing : {A B : Type 0} (o : Option (List A × List B)) → both_ahead [] [] o ≡ o
both_nothing None = refl
both_nothing (Some p) = refl

pub both_all : {A B : Type 0} (xs : List A) (ys : List B) → both_ahead xs ys (Some ([], [])) ≡ Some (xs, ys)
both_all xs ys = ap (λ l. Some (l, ys ++ [])) (append-nil xs) ∙ ap (λ l. Some (xs, l)) (append-nil ys)

pub both_one : {A B : Type 0} (xs : List A) (ys : List B) (x : A) (y : B) (o : Option (List A × List B))
    → both_ahead (xs ++ x ∷ []) (ys ++ y ∷ []) o ≡ both_ahead xs ys (option_map (λ p. (x ∷ p.0, y ∷ p.1)) o)
both_one xs ys x y None = refl
both_one xs ys x y (Some p) = ap (λ l. Some (l, (ys ++ y ∷ []) ++ p.1)) (append_assoc xs (x ∷ []) p.0) ∙ ap (λ l. Some (xs ++ (x ∷ p.0), l)) (append_assoc ys (y ∷ []) p.1)
