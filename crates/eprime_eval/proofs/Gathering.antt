-- Lists to which more is put behind, item by item.
use Rattle.std.proofs.Common.{◌≡◌, Bool, true, false, List, [], ◌∷◌, ◌++◌, append_assoc, map, Option, Some, None, option_map, refl, ap, sym, ◌∙◌}
use Rattle.std.proofs.lemmas.List.{map-append}
use Rattle.ess_semantics.specs.Lists.{and_then, when}
use Rattle.eprime_eval.specs.Items.{Gathered}

-- The items that are there were put behind the old ones, and the rest behind these.
pub put_behind : {A : Type 0} (old mid : List A) (o rest : Option (List A)) → option_map (λ xs. old ++ xs) o ≡ Some mid
    → option_map (λ xs. mid ++ xs) rest ≡ option_map (λ xs. old ++ xs) (and_then o (λ xs. option_map (λ ys. xs ++ ys) rest))
put_behind old mid None rest h = cc
put_behind old mid (Some xs) None h = refl
put_behind old mid (Some xs) (Some ys) h = let e : old ++ xs ≡ mid = cc in rw (← e) (ap Some (append_assoc old xs ys))

-- What isn't there behind the old items isn't there.
pub none_all : {A : Type 0} (old : List A) (o : Option (List A)) → option_map (λ xs. old ++ xs) o ≡ None → o ≡ None
none_all old None h = refl
none_all old (Some xs) h = cc

gathered_more : {A : Type 0} (t : Bool) (old new : List A) (x : A) (o : Option (List A)) → Gathered t (old ++ x ∷ []) new o
    → Gathered t old new (option_map (λ xs. x ∷ xs) o)
gathered_more true old new x None h = cc
gathered_more true old new x (Some xs) h = ap Some (sym (append_assoc old (x ∷ []) xs)) ∙ h
gathered_more false old new x None h = refl
gathered_more false old new x (Some xs) h = cc

-- With one more item put behind the old ones, and the rest behind it.
pub gathered_on : {A B : Type 0} (f : A → B) (t : Bool) (old mid new : List A) (x : A) (o : Option (List B)) → mid ≡ old ++ x ∷ []
    → Gathered t (map f mid) (map f new) o → Gathered t (map f old) (map f new) (option_map (λ xs. f x ∷ xs) o)
gathered_on f t old mid new x o e h =
    let k : map f mid ≡ map f old ++ f x ∷ [] = ap (map f) e ∙ map-append f old (x ∷ []) in
    gathered_more t (map f old) (map f new) (f x) o (rw k at h)

-- The same where the item is there.
pub values_more : {A B : Type 0} (f : A → B) (t : Bool) (old mid new : List A) (x : A) (p : Option B) (o : Option (List B)) → Some (f x) ≡ p
    → mid ≡ old ++ x ∷ [] → Gathered t (map f mid) (map f new) o → Gathered t (map f old) (map f new) (and_then p (λ y. option_map (λ xs. y ∷ xs) o))
values_more f t old mid new x p o g e h = rw (← g) (gathered_on f t old mid new x o e h)

-- Where the first isn't there, not all are.
pub none_first : {B : Type 0} (p : Option B) (o : Option (List B)) → None ≡ p → and_then p (λ y. option_map (λ xs. y ∷ xs) o) ≡ None
none_first p o g = rw (← g) refl

-- Put behind nothing.
pub gathered_all : {A : Type 0} (new : List A) (o : Option (List A)) → Gathered true [] new o → o ≡ Some new
gathered_all new None h = cc
gathered_all new (Some xs) h = h

-- Put behind nothing, or not there.
pub gathered_when : {A B : Type 0} (f : A → B) (t : Bool) (old new : List A) (o : Option (List B)) → old ≡ []
    → Gathered t (map f old) (map f new) o → o ≡ when t (map f new)
gathered_when f true old new o e h = gathered_all (map f new) o (rw e at h)
gathered_when f false old new o e h = h
