-- Rows that are made item by item of the items of another.
use Rattle.std.proofs.Common.{◌≡◌, refl, sym, ap, ◌∙◌, ℕ, ◌+◌, ◌<◌, ◌≤◌, List, [], ◌∷◌, ◌++◌, map, take, drop, length, get_or, Option, Some, None, option_map}
use Rattle.std.proofs.lemmas.List.{map-append, take_more, take_all, at_drop_more, at_drop_all, map_push, append_assoc, append-nil}
use Rattle.ess_semantics.specs.Lists.{and_then, each_of}

module _ {A B V : Type 0} (g : B → V) (f : A → V) where
  -- one item more
  pub made-more : (as' : List A) (i : ℕ) (a : A) (b : B) (xs ys : List B) → i < length as' → a ≡ get_or as' i a → g b ≡ f a → ys ≡ xs ++ b ∷ [] →
      map g xs ≡ map f (take i as') → map g ys ≡ map f (take (i + 1) as')
  made-more as' i a b xs ys h is e q p =
      ap (map g) q ∙ map-append g xs (b ∷ []) ∙ ap (λ l. l ++ g b ∷ []) p ∙ ap (λ y. map f (take i as') ++ y ∷ []) (e ∙ ap f is)
      ∙ sym (map-append f (take i as') (get_or as' i a ∷ [])) ∙ sym (ap (map f) (take_more as' i a h))

  -- all items
  pub made-all : (as' : List A) (i : ℕ) (xs : List B) → length as' ≤ i → map g xs ≡ map f (take i as') → map g xs ≡ map f as'
  made-all as' i xs h p = p ∙ ap (map f) (take_all i as' h)

-- Items that are found, in front of those that are still to be found.
abbrev pub ahead : {A : Type 0} → List A → Option (List A) → Option (List A)
ahead xs None = None
ahead xs (Some ys) = Some (xs ++ ys)

pub ahead-none : {A : Type 0} (o : Option (List A)) → o ≡ ahead [] o
ahead-none None = refl
ahead-none (Some ys) = refl

pub ahead-one : {A : Type 0} (xs : List A) (x : A) (o : Option (List A)) → ahead xs (option_map (λ ys. x ∷ ys) o) ≡ ahead (xs ++ x ∷ []) o
ahead-one xs x None = refl
ahead-one xs x (Some ys) = ap Some (sym (append_assoc xs (x ∷ []) ys))

module _ {A B V : Type 0} (g : B → V) (f : A → Option V) where
  -- one item more, where it is there
  pub found-more : (as' : List A) (i : ℕ) (a : A) (b : B) (xs ys : List B) → i < length as' → a ≡ get_or as' i a → Some (g b) ≡ f a →
      ys ≡ xs ++ b ∷ [] → ahead (map g xs) (each_of (drop i as') f) ≡ ahead (map g ys) (each_of (drop (i + 1) as') f)
  found-more as' i a b xs ys h is e q =
      at_drop_more (λ l. ahead (map g xs) (each_of l f)) as' i a h
      ∙ ap (λ o. ahead (map g xs) (and_then o (λ y. option_map (λ l. y ∷ l) (each_of (drop (i + 1) as') f)))) (sym (e ∙ ap f is))
      ∙ ahead-one (map g xs) (g b) (each_of (drop (i + 1) as') f)
      ∙ ap (λ l. ahead l (each_of (drop (i + 1) as') f)) (sym (ap (map g) q ∙ map_push g xs b))

  -- an item that isn't there
  pub found-not : (as' : List A) (i : ℕ) (a : A) (xs : List B) → i < length as' → a ≡ get_or as' i a → None ≡ f a →
      ahead (map g xs) (each_of (drop i as') f) ≡ None
  found-not as' i a xs h is e =
      at_drop_more (λ l. ahead (map g xs) (each_of l f)) as' i a h
      ∙ ap (λ o. ahead (map g xs) (and_then o (λ y. option_map (λ l. y ∷ l) (each_of (drop (i + 1) as') f)))) (sym (e ∙ ap f is))

  -- all items
  pub found-all : (as' : List A) (i : ℕ) (xs : List B) → length as' ≤ i → ahead (map g xs) (each_of (drop i as') f) ≡ Some (map g xs)
  found-all as' i xs h = at_drop_all (λ l. ahead (map g xs) (each_of l f)) as' i h ∙ ap Some (append-nil (map g xs))
