-- Items that are found already, in front of those that are still to be found.
use Rattle.std.proofs.Common.{◌≡◌, refl, ap, List, [], ◌∷◌, ◌++◌, Option, Some, None, option_map}
use Rattle.std.proofs.lemmas.List.{append_assoc, append-nil}

abbrev pub ahead : {A : Type 0} → List A → Option (List A) → Option (List A)
ahead xs None = None
ahead xs (Some ys) = Some (xs ++ ys)

-- Nothing in front leaves what there is.
pub ahead_nothing : {A : Type 0} (o : Option (List A)) → ahead [] o ≡ o
ahead_nothing None = refl
ahead_nothing (Some ys) = refl

-- Behind the last there is what was found.
pub ahead_all : {A : Type 0} (xs : List A) → ahead xs (Some []) ≡ Some xs
ahead_all xs = ap Some (append-nil xs)

-- One more in front.
pub ahead_one : {A : Type 0} (xs : List A) (x : A) (o : Option (List A)) → ahead (xs ++ x ∷ []) o ≡ ahead xs (option_map (λ ys. x ∷ ys) o)
ahead_one xs x None = refl
ahead_one xs x (Some ys) = ap Some (append_assoc xs (x ∷ []) ys)
