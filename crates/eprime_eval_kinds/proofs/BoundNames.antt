-- What a scope has for a name.
use Rattle.std.proofs.Common.{◌≡◌, refl, sym, ap, ◌∙◌, Bool, true, false, cond, if◌then◌else◌, List, [], ◌∷◌, ◌++◌, map, reverse, Some, None, option_map}
use Rattle.std.proofs.lemmas.List.{map-append, reverse-append}
use Rattle.std.specs.List.{find}
use Rattle.ess_semantics.specs.Values.{Text}
use Rattle.ess_semantics.specs.Names.{look}
use Rattle.ess_semantics.specs.Order.{same_text}
use Rattle.eprime_eval_kinds.specs.declared.scope.BoundName.{BoundName}
use Rattle.eprime_eval_kinds.specs.KindedViews.{pure_kind}
use Rattle.eprime_eval_kinds.specs.BoundNames.{bound_kind, scope_kinds}

look-found : (bs : List BoundName) (a : Text)
    → look (map bound_kind bs) a ≡ option_map (λ b. pure_kind b.kind) (find (λ b. same_text b.name a) bs)
look-found [] a = refl
look-found (b ∷ bs) a = go (same_text b.name a) (look-found bs a)
  where
    go : (c : Bool) → look (map bound_kind bs) a ≡ option_map (λ b. pure_kind b.kind) (find (λ b. same_text b.name a) bs)
        → (if c then Some (pure_kind b.kind) else look (map bound_kind bs) a)
        ≡ option_map (λ b. pure_kind b.kind) (cond c (Some b) (find (λ b. same_text b.name a) bs))
    go true h = refl
    go false h = h

map-reverse : {A B : Type 0} (f : A → B) (xs : List A) → reverse (map f xs) ≡ map f (reverse xs)
map-reverse f [] = refl
map-reverse f (x ∷ xs) =
    reverse-append (f x ∷ []) (map f xs) ∙ ap (λ l. l ++ f x ∷ []) (map-reverse f xs)
    ∙ sym (ap (map f) (reverse-append (x ∷ []) xs) ∙ map-append f (reverse xs) (x ∷ []))

scope-look : (bs : List BoundName) (a : Text)
    → look (scope_kinds bs) a ≡ option_map (λ b. pure_kind b.kind) (find (λ b. same_text b.name a) (reverse bs))
scope-look bs a = ap (λ l. look l a) (map-reverse bound_kind bs) ∙ look-found (reverse bs) a

-- The kind of a bound name is that of the last one that has it.
pub kind_there : (bs : List BoundName) (a : Text) (b : BoundName) → Some b ≡ find (λ b. same_text b.name a) (reverse bs)
    → Some (pure_kind b.kind) ≡ look (scope_kinds bs) a
kind_there bs a b e = ap (option_map (λ b. pure_kind b.kind)) e ∙ sym (scope-look bs a)

-- A name that isn't there has none.
pub kind_none : (bs : List BoundName) (a : Text) → None ≡ find (λ b. same_text b.name a) (reverse bs) → None ≡ look (scope_kinds bs) a
kind_none bs a e = ap (option_map (λ b. pure_kind b.kind)) e ∙ sym (scope-look bs a)

-- One name more is the newest.
pub one_more : (bs cs : List BoundName) (b : BoundName) → cs ≡ bs ++ b ∷ [] → scope_kinds cs ≡ bound_kind b ∷ scope_kinds bs
one_more bs cs b e = ap scope_kinds e ∙ ap reverse (map-append bound_kind bs (b ∷ []))
    ∙ reverse-append (map bound_kind bs) (bound_kind b ∷ [])
