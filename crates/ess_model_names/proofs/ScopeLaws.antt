-- What a name has become, and how bound names come and go.
use Rattle.std.proofs.Common.{◌≡◌, refl, sym, ap, ◌∙◌, ℕ, Bool, true, false, cond, if◌then◌else◌, List, [], ◌∷◌, ◌++◌, map, reverse, take, drop, length, Option, Some, None, option_map}
use Rattle.std.proofs.lemmas.List.{map-append, reverse-append, length-map, length-reverse}
use Rattle.std.specs.List.{find}
use Rattle.ess_semantics.specs.Values.{Text}
use Rattle.ess_semantics.specs.Lists.{or_default}
use Rattle.ess_semantics.specs.Names.{look}
use Rattle.ess_semantics.specs.Order.{same_text}
use Rattle.conjure_model_laws.specs.ToldApart.{renamed}
use Rattle.ess_model_names.specs.declared.scopes.Renamed.{Renamed}
use Rattle.ess_model_names.specs.Renames.{pure_renamed, pure_scope, Extends}

-- ---- looking up

bound-found : (rs : List Renamed) (a : Text) → look (map pure_renamed rs) a ≡ option_map (λ r. r.to) (find (λ r. same_text r.name a) rs)
bound-found [] a = refl
bound-found (r ∷ rs) a = go (same_text r.name a) (bound-found rs a)
  where
    go : (b : Bool) → look (map pure_renamed rs) a ≡ option_map (λ r. r.to) (find (λ r. same_text r.name a) rs)
        → (if b then Some r.to else look (map pure_renamed rs) a)
        ≡ option_map (λ r. r.to) (cond b (Some r) (find (λ r. same_text r.name a) rs))
    go true h = refl
    go false h = h

map-reverse : {A B : Type 0} (f : A → B) (xs : List A) → reverse (map f xs) ≡ map f (reverse xs)
map-reverse f [] = refl
map-reverse f (x ∷ xs) =
    reverse-append (f x ∷ []) (map f xs) ∙ ap (λ l. l ++ f x ∷ []) (map-reverse f xs)
    ∙ sym (ap (map f) (reverse-append (x ∷ []) xs) ∙ map-append f (reverse xs) (x ∷ []))

bound-look : (rs : List Renamed) (a : Text) → look (pure_scope rs) a ≡ option_map (λ r. r.to) (find (λ r. same_text r.name a) (reverse rs))
bound-look rs a = ap (λ l. look l a) (map-reverse pure_renamed rs) ∙ bound-found (reverse rs) a

-- A name that is bound has become what the last of its bindings says.
pub newest_there : (rs : List Renamed) (a : Text) (r : Renamed) → Some r ≡ find (λ r. same_text r.name a) (reverse rs)
    → r.to ≡ renamed (pure_scope rs) a
newest_there rs a r e = sym (ap (λ o. or_default o a) (bound-look rs a ∙ ap (option_map (λ r. r.to)) (sym e)))

-- One that isn't bound stays.
pub newest_none : (rs : List Renamed) (a : Text) → None ≡ find (λ r. same_text r.name a) (reverse rs) → a ≡ renamed (pure_scope rs) a
newest_none rs a e = sym (ap (λ o. or_default o a) (bound-look rs a ∙ ap (option_map (λ r. r.to)) (sym e)))

-- ---- coming and going

-- One more name is the newest.
pub newest_pushed : (rs : List Renamed) (r : Renamed) → pure_scope (rs ++ r ∷ []) ≡ (r.name, r.to) ∷ pure_scope rs
newest_pushed rs r = ap reverse (map-append pure_renamed rs (r ∷ [])) ∙ reverse-append (map pure_renamed rs) (pure_renamed r ∷ [])

-- The names before it stay.
pub pushed_kept : (rs : List Renamed) (r : Renamed) → take (length rs) (rs ++ r ∷ []) ≡ rs
pushed_kept [] r = refl
pushed_kept (s ∷ rs) r = ap (λ l. s ∷ l) (pushed_kept rs r)

-- A list extends itself.
pub extends_itself : (rs : List Renamed) → take (length rs) rs ≡ rs
extends_itself [] = refl
extends_itself (r ∷ rs) = ap (λ l. r ∷ l) (extends_itself rs)

-- What is the same list extends it.
pub extends_same : (rs ss : List Renamed) → ss ≡ rs → take (length rs) ss ≡ rs
extends_same rs ss e = ap (take (length rs)) e ∙ extends_itself rs

-- What extends an extension extends the list.
pub extends_on : (rs ss ts : List Renamed) → take (length rs) ss ≡ rs → take (length ss) ts ≡ ss → take (length rs) ts ≡ rs
extends_on [] ss ts p q = refl
extends_on (x ∷ rs) [] ts p q = cc
extends_on (x ∷ rs) (y ∷ ss) [] p q = cc
extends_on (x ∷ rs) (y ∷ ss) (z ∷ ts) p q = let e = extends_on rs ss ts (ap (drop 1) p) (ap (drop 1) q) in cc

-- As many names are bound as the list has.
pub scope_length : (rs : List Renamed) → length (pure_scope rs) ≡ length rs
scope_length rs = length-reverse (map pure_renamed rs) ∙ length-map rs pure_renamed
