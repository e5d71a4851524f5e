-- What stands for a name, from the row of names with keys.
use Rattle.std.proofs.Common.{◌≡◌, refl, sym, ap, ◌∙◌, Bool, true, false, cond, if◌then◌else◌, List, [], ◌∷◌, ◌++◌, map, reverse, Some, None, option_map}
use Rattle.std.proofs.lemmas.List.{map-append, reverse-append}
use Rattle.std.specs.List.{find}
use Rattle.ess_semantics.specs.Lists.{or_default}
use Rattle.ess_semantics.specs.Values.{Text}
use Rattle.ess_semantics.specs.Names.{look}
use Rattle.ess_semantics.specs.Order.{same_text}
use Rattle.ess_semantics.specs.Trees.{name_ex}
use Rattle.ess_core_nodes.specs.NodeViews.{pure_node}
use Rattle.ess_keys_laws.specs.Keyed.{key_for}
use Rattle.ess_keys.specs.declared.around.Key.{Key}
use Rattle.ess_keys.specs.Views.{pure_key, pure_keys}

look-found : (ks : List Key) (a : Text) → look (map pure_key ks) a ≡ option_map (λ k. pure_node k.key) (find (λ k. same_text k.name a) ks)
look-found [] a = refl
look-found (k ∷ ks) a = go (same_text k.name a) (look-found ks a)
  where
    go : (c : Bool) → look (map pure_key ks) a ≡ option_map (λ k. pure_node k.key) (find (λ k. same_text k.name a) ks)
        → (if c then Some (pure_node k.key) else look (map pure_key ks) a)
        ≡ option_map (λ k. pure_node k.key) (cond c (Some k) (find (λ k. same_text k.name a) ks))
    go true h = refl
    go false h = h

map-reverse : {A B : Type 0} (f : A → B) (xs : List A) → reverse (map f xs) ≡ map f (reverse xs)
map-reverse f [] = refl
map-reverse f (x ∷ xs) =
    reverse-append (f x ∷ []) (map f xs) ∙ ap (λ l. l ++ f x ∷ []) (map-reverse f xs)
    ∙ sym (ap (map f) (reverse-append (x ∷ []) xs) ∙ map-append f (reverse xs) (x ∷ []))

key-look : (ks : List Key) (a : Text) → look (pure_keys ks) a ≡ option_map (λ k. pure_node k.key) (find (λ k. same_text k.name a) (reverse ks))
key-look ks a = ap (λ l. look l a) (map-reverse pure_key ks) ∙ look-found (reverse ks) a

-- The key of the last one that has the name.
pub key_there : (ks : List Key) (a : Text) (k : Key) → Some k ≡ find (λ k. same_text k.name a) (reverse ks)
    → pure_node k.key ≡ key_for (pure_keys ks) a
key_there ks a k e = sym (ap (λ o. or_default o (name_ex a)) (key-look ks a ∙ ap (option_map (λ k. pure_node k.key)) (sym e)))

-- A name that isn't there stays.
pub key_none : (ks : List Key) (a : Text) → None ≡ find (λ k. same_text k.name a) (reverse ks) → name_ex a ≡ key_for (pure_keys ks) a
key_none ks a e = sym (ap (λ o. or_default o (name_ex a)) (key-look ks a ∙ ap (option_map (λ k. pure_node k.key)) (sym e)))

-- One more is the newest.
pub key_more : (ks ls : List Key) (k : Key) → ls ≡ ks ++ k ∷ [] → pure_keys ls ≡ pure_key k ∷ pure_keys ks
key_more ks ls k e = ap pure_keys e ∙ ap reverse (map-append pure_key ks (k ∷ [])) ∙ reverse-append (map pure_key ks) (pure_key k ∷ [])
