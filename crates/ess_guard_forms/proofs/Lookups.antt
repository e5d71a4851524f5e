-- What the row of bound names has for a name, and names that come behind others.
use Rattle.std.proofs.Common.{◌≡◌, refl, sym, ap, ◌∙◌, Bool, true, false, cond, if◌then◌else◌, List, [], ◌∷◌, ◌++◌, map, reverse, Some}
use Rattle.std.proofs.Common.{None, option_map}
use Rattle.std.proofs.lemmas.List.{map-append, reverse-append}
use Rattle.std.specs.List.{find}
use Rattle.ess_semantics.specs.Values.{Text}
use Rattle.ess_semantics.specs.Names.{look}
use Rattle.ess_semantics.specs.Order.{same_text}
use Rattle.ess_guard_forms.specs.declared.known.KnownName.{KnownName}
use Rattle.ess_guard_forms.specs.KnownNames.{pure_origin, pure_entry, pure_known}

look-found : (bs : List KnownName) (a : Text)
    → look (map pure_entry bs) a ≡ option_map (λ b. pure_origin b.dom) (find (λ b. same_text b.name a) bs)
look-found [] a = refl
look-found (b ∷ bs) a = go (same_text b.name a) (look-found bs a)
  where
    go : (c : Bool) → look (map pure_entry bs) a ≡ option_map (λ b. pure_origin b.dom) (find (λ b. same_text b.name a) bs)
        → (if c then Some (pure_origin b.dom) else look (map pure_entry bs) a)
        ≡ option_map (λ b. pure_origin b.dom) (cond c (Some b) (find (λ b. same_text b.name a) bs))
    go true h = refl
    go false h = h

map-reverse : {A B : Type 0} (f : A → B) (xs : List A) → reverse (map f xs) ≡ map f (reverse xs)
map-reverse f [] = refl
map-reverse f (x ∷ xs) =
    reverse-append (f x ∷ []) (map f xs) ∙ ap (λ l. l ++ f x ∷ []) (map-reverse f xs)
    ∙ sym (ap (map f) (reverse-append (x ∷ []) xs) ∙ map-append f (reverse xs) (x ∷ []))

known-look : (bs : List KnownName) (a : Text)
    → look (pure_known bs) a ≡ option_map (λ b. pure_origin b.dom) (find (λ b. same_text b.name a) (reverse bs))
known-look bs a = ap (λ l. look l a) (map-reverse pure_entry bs) ∙ look-found (reverse bs) a

-- What is known of a name is what the last one that has it says.
pub known_there : (bs : List KnownName) (a : Text) (b : KnownName) → Some b ≡ find (λ b. same_text b.name a) (reverse bs)
    → Some (pure_origin b.dom) ≡ look (pure_known bs) a
known_there bs a b e = ap (option_map (λ b. pure_origin b.dom)) e ∙ sym (known-look bs a)

-- Of a name that isn't there nothing is known.
pub known_none : (bs : List KnownName) (a : Text) → None ≡ find (λ b. same_text b.name a) (reverse bs) → None ≡ look (pure_known bs) a
known_none bs a e = ap (option_map (λ b. pure_origin b.dom)) e ∙ sym (known-look bs a)

-- One name more is the newest.
pub one_more : (bs cs : List KnownName) (b : KnownName) → cs ≡ bs ++ b ∷ [] → pure_known cs ≡ pure_entry b ∷ pure_known bs
one_more bs cs b e = ap pure_known e ∙ ap reverse (map-append pure_entry bs (b ∷ []))
    ∙ reverse-append (map pure_entry bs) (pure_entry b ∷ [])
