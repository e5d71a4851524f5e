-- The join of a list of types: the least that says what each says. Where it has parts, one of them has.
use Rattle.std.proofs.Common.{◌≡◌, refl, ap, ◌∙◌, Bool, true, false, if◌then◌else◌, List, [], ◌∷◌, Some, None, option_map, ◌⊎◌, inl, inr}
use Rattle.ess_semantics.specs.Lists.{and_then}
use Rattle.ess_semantics.specs.Types.{Ty, any_ty, bool_ty, int_ty, named_ty, compound, no_tys, more_tys, is_relation, join, join_all}
use Rattle.ess_semantics.specs.Order.{same_kind}
use Rattle.ess_values_laws.proofs.Options.{then-some}
use Rattle.ess_values_laws.proofs.LeastJoins.{join-within}
use Rattle.ess_values_laws.proofs.TypeOrder.{Within, within-on, join-says}

-- v says all that each type says
abbrev pub EachWithin : List Ty → Ty → Type 0
EachWithin [] v = Unit {0}
EachWithin (t ∷ ts) v = Within t v × EachWithin ts v

each-on : (ts : List Ty) (v w : Ty) → EachWithin ts v → Within v w → EachWithin ts w
each-on [] v w h k = tt
each-on (t ∷ ts) v w h k = (within-on t v w h.0 k, each-on ts v w h.1 k)

pub join-all-says : (ts : List Ty) (v : Ty) → join_all ts ≡ Some v → EachWithin ts v
join-all-says [] v e = tt
join-all-says (t ∷ ts) v e =
    let w = then-some (join_all ts) (join t) v e in
    let h = join-says t w.0 v w.2 in
    (h.0, each-on ts w.0 v (join-all-says ts w.0 w.1) h.1)

pub join-all-within : (ts : List Ty) (v : Ty) → EachWithin ts v → (w : Ty) × (join_all ts ≡ Some w) × Within w v
join-all-within [] v h = (any_ty, refl, tt)
join-all-within (t ∷ ts) v h =
    let w = join-all-within ts v h.1 in
    let x = join-within t w.0 v h.0 w.2 in
    (x.0, ap (λ o. and_then o (join t)) w.1 ∙ x.1, x.2)

-- ---- types with parts

-- Whether the type says something, and of a compound type its parts.
abbrev pub has_parts : Ty → Bool
has_parts any_ty = false
has_parts (compound k no_tys) = false
has_parts (compound k (more_tys t ts)) = true
has_parts t = true

pub parts-kept : (t v : Ty) → Within t v → has_parts t ≡ true → has_parts v ≡ true
parts-kept any_ty v h e = cc
parts-kept bool_ty bool_ty h e = refl
parts-kept bool_ty any_ty h e = absurd h
parts-kept bool_ty int_ty h e = absurd h
parts-kept bool_ty (named_ty b) h e = absurd h
parts-kept bool_ty (compound l us) h e = absurd h
parts-kept int_ty int_ty h e = refl
parts-kept int_ty any_ty h e = absurd h
parts-kept int_ty bool_ty h e = absurd h
parts-kept int_ty (named_ty b) h e = absurd h
parts-kept int_ty (compound l us) h e = absurd h
parts-kept (named_ty a) (named_ty b) h e = refl
parts-kept (named_ty a) any_ty h e = absurd h
parts-kept (named_ty a) bool_ty h e = absurd h
parts-kept (named_ty a) int_ty h e = absurd h
parts-kept (named_ty a) (compound l us) h e = absurd h
parts-kept (compound k ts) any_ty h e = absurd h
parts-kept (compound k ts) bool_ty h e = absurd h
parts-kept (compound k ts) int_ty h e = absurd h
parts-kept (compound k ts) (named_ty b) h e = absurd h
parts-kept (compound k no_tys) (compound l us) h e = cc
parts-kept (compound k (more_tys t ts)) (compound l no_tys) h e = absurd h.1
parts-kept (compound k (more_tys t ts)) (compound l (more_tys u us)) h e = refl

one-has-parts : (t u v : Ty) → Some u ≡ Some v → has_parts v ≡ true → (has_parts t ≡ true) ⊎ (has_parts u ≡ true)
one-has-parts t u v e h = let f : u ≡ v = cc in inr (ap has_parts f ∙ h)

join-has-parts : (t u v : Ty) → join t u ≡ Some v → has_parts v ≡ true → (has_parts t ≡ true) ⊎ (has_parts u ≡ true)
join-has-parts any_ty u v e h = one-has-parts any_ty u v e h
join-has-parts bool_ty u v e h = inl refl
join-has-parts int_ty u v e h = inl refl
join-has-parts (named_ty a) u v e h = inl refl
join-has-parts (compound k (more_tys t ts)) u v e h = inl refl
join-has-parts (compound k no_tys) any_ty v e h = let f : compound k no_tys ≡ v = cc in inl (ap has_parts f ∙ h)
join-has-parts (compound k no_tys) bool_ty v e h = cc
join-has-parts (compound k no_tys) int_ty v e h = cc
join-has-parts (compound k no_tys) (named_ty b) v e h = cc
join-has-parts (compound k no_tys) (compound l (more_tys u us)) v e h = inr refl
join-has-parts (compound k no_tys) (compound l no_tys) v e h = none (same_kind k l) (is_relation k) e
  where
    none : (a b : Bool) → (if a then option_map (compound k) (if b then Some no_tys else (if b then Some no_tys else Some no_tys)) else None) ≡ Some v →
        (false ≡ true) ⊎ (false ≡ true)
    none true true e = let f : compound k no_tys ≡ v = cc in inl (ap has_parts f ∙ h)
    none true false e = let f : compound k no_tys ≡ v = cc in inl (ap has_parts f ∙ h)
    none false b e = cc

-- one of the types has parts
abbrev pub SomeParts : List Ty → Type 0
SomeParts [] = ⊥
SomeParts (t ∷ ts) = (has_parts t ≡ true) ⊎ SomeParts ts

pub some-has-parts : (ts : List Ty) (v : Ty) → join_all ts ≡ Some v → has_parts v ≡ true → SomeParts ts
some-has-parts [] v e h = let f : any_ty ≡ v = cc in let g : false ≡ true = ap has_parts f ∙ h in cc
some-has-parts (t ∷ ts) v e h =
    let w = then-some (join_all ts) (join t) v e in
    go w.0 (join-has-parts t w.0 v w.2 h) (some-has-parts ts w.0 w.1)
  where
    go : (w : Ty) → (has_parts t ≡ true) ⊎ (has_parts w ≡ true) → (has_parts w ≡ true → SomeParts ts) → (has_parts t ≡ true) ⊎ SomeParts ts
    go w (inl k) ih = inl k
    go w (inr k) ih = inr (ih k)

has-parts-of : (ts : List Ty) (v : Ty) → EachWithin ts v → SomeParts ts → has_parts v ≡ true
has-parts-of [] v h s = absurd s
has-parts-of (t ∷ ts) v h (inl e) = parts-kept t v h.0 e
has-parts-of (t ∷ ts) v h (inr s) = has-parts-of ts v h.1 s

pub join-all-has-parts : (ts : List Ty) (v : Ty) → join_all ts ≡ Some v → SomeParts ts → has_parts v ≡ true
join-all-has-parts ts v e s = has-parts-of ts v (join-all-says ts v e) s
