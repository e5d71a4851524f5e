-- Types by how much they say: `any_ty` says nothing, and a relation of unknown arity nothing of its parts.
-- The join of two types says what both say.
use Rattle.std.proofs.Common.{◌≡◌, refl, sym, ap, ◌∙◌, subst, Bool, true, false, if◌then◌else◌, Option, Some, None, option_map}
use Rattle.std.specs.Ordering.{is_eq, ordering_then}
use Rattle.std.proofs.lemmas.Cmp.{tied_itself}
use Rattle.std.specs.declared.cmp.Ordering.{Ordering}
use Rattle.std.specs.declared.cmp.Ordering.TheVariants.{Less, Equal, Greater}
use Rattle.ess_semantics.specs.Values.{Text, Kind, node, nil}
use Rattle.ess_semantics.specs.Order.{same_text, same_kind, order_text, order_kind}
use Rattle.ess_semantics.specs.Types.{Ty, any_ty, bool_ty, int_ty, named_ty, compound, Tys, no_tys, more_tys, is_relation, is_open, join, joins}
use Rattle.ess_semantics.proofs.Orders.{text_exact, text_total, order_exact, same-itself, equal-of}
use Rattle.ess_values_laws.proofs.Options.{then-some, map-some, when-some, if-some}

-- Whether these parts say all that none say. `open` is whether none say nothing.
abbrev pub NoneWithin : Bool → Tys → Type 0
NoneWithin true us = Unit {0}
NoneWithin false no_tys = Unit {0}
NoneWithin false (more_tys u us) = ⊥

abbrev mutual
  -- The second type says all that the first one says.
  pub Within : Ty → Ty → Type 0
  Within any_ty t = Unit {0}
  Within bool_ty bool_ty = Unit {0}
  Within int_ty int_ty = Unit {0}
  Within (named_ty a) (named_ty b) = a ≡ b
  Within (compound k ts) (compound l us) = (k ≡ l) × PartsWithin k ts us
  Within t u = ⊥

  -- The same of the parts of a kind. A relation of unknown arity says nothing of them.
  pub PartsWithin : Kind → Tys → Tys → Type 0
  PartsWithin k no_tys us = NoneWithin (is_relation k) us
  PartsWithin k (more_tys t ts) (more_tys u us) = Within t u × AllWithin ts us
  PartsWithin k (more_tys t ts) no_tys = ⊥

  -- The same of each part.
  pub AllWithin : Tys → Tys → Type 0
  AllWithin no_tys no_tys = Unit {0}
  AllWithin (more_tys t ts) (more_tys u us) = Within t u × AllWithin ts us
  AllWithin ts us = ⊥

-- ---- kinds and names

pub same-kind-equal : (k l : Kind) → same_kind k l ≡ true → k ≡ l
same-kind-equal k l e = let h : node k nil ≡ node l nil = order_exact (node k nil) (node l nil) (ap (λ o. ordering_then o Equal) (equal-of (order_kind k l) e)) in cc

pub same-kind-itself : (k : Kind) → same_kind k k ≡ true
same-kind-itself k = go (order_kind k k) (same-itself (node k nil))
  where
    go : (o : Ordering) → is_eq (ordering_then o Equal) ≡ true → is_eq o ≡ true
    go Less e = cc
    go Equal e = refl
    go Greater e = cc

-- two kinds that are both a third one
pub same-kinds : (k l m : Kind) → k ≡ m → l ≡ m → same_kind k l ≡ true
same-kinds k l m p q = ap (same_kind k) (q ∙ sym p) ∙ same-kind-itself k

pub same-text-equal : (a b : Text) → same_text a b ≡ true → a ≡ b
same-text-equal a b e = text_exact a b (equal-of (order_text a b) e)

pub same-text-itself : (a : Text) → same_text a a ≡ true
same-text-itself a = ap is_eq (tied_itself text_total a)

-- ---- the order

none-within : (b : Bool) → NoneWithin b no_tys
none-within true = tt
none-within false = tt

-- Parts that say no more, each of them, say no more together.
pub all-within-parts : (k : Kind) (ts us : Tys) → AllWithin ts us → PartsWithin k ts us
all-within-parts k no_tys no_tys h = none-within (is_relation k)
all-within-parts k no_tys (more_tys u us) h = absurd h
all-within-parts k (more_tys t ts) no_tys h = absurd h
all-within-parts k (more_tys t ts) (more_tys u us) h = h

mutual
  pub within-itself : (t : Ty) → Within t t
  within-itself any_ty = tt
  within-itself bool_ty = tt
  within-itself int_ty = tt
  within-itself (named_ty a) = refl
  within-itself (compound k ts) = (refl, all-within-parts k ts ts (all-within-itself ts))

  all-within-itself : (ts : Tys) → AllWithin ts ts
  all-within-itself no_tys = tt
  all-within-itself (more_tys t ts) = (within-itself t, all-within-itself ts)

parts-within-itself : (k : Kind) (ts : Tys) → PartsWithin k ts ts
parts-within-itself k ts = all-within-parts k ts ts (all-within-itself ts)

none-within-on : (k : Kind) (b : Bool) (us vs : Tys) → is_relation k ≡ b → NoneWithin b us → PartsWithin k us vs → NoneWithin b vs
none-within-on k true us vs e p q = tt
none-within-on k false no_tys vs e p q = subst (λ x. NoneWithin x vs) e q
none-within-on k false (more_tys u us) vs e p q = absurd p

mutual
  pub within-on : (t u v : Ty) → Within t u → Within u v → Within t v
  within-on any_ty u v p q = tt
  within-on bool_ty any_ty v p q = absurd p
  within-on bool_ty bool_ty v p q = q
  within-on bool_ty int_ty v p q = absurd p
  within-on bool_ty (named_ty b) v p q = absurd p
  within-on bool_ty (compound l us) v p q = absurd p
  within-on int_ty any_ty v p q = absurd p
  within-on int_ty bool_ty v p q = absurd p
  within-on int_ty int_ty v p q = q
  within-on int_ty (named_ty b) v p q = absurd p
  within-on int_ty (compound l us) v p q = absurd p
  within-on (named_ty a) any_ty v p q = absurd p
  within-on (named_ty a) bool_ty v p q = absurd p
  within-on (named_ty a) int_ty v p q = absurd p
  within-on (named_ty a) (named_ty b) v p q = subst (λ x. Within (named_ty x) v) (sym p) q
  within-on (named_ty a) (compound l us) v p q = absurd p
  within-on (compound k ts) any_ty v p q = absurd p
  within-on (compound k ts) bool_ty v p q = absurd p
  within-on (compound k ts) int_ty v p q = absurd p
  within-on (compound k ts) (named_ty b) v p q = absurd p
  within-on (compound k ts) (compound l us) any_ty p q = absurd q
  within-on (compound k ts) (compound l us) bool_ty p q = absurd q
  within-on (compound k ts) (compound l us) int_ty p q = absurd q
  within-on (compound k ts) (compound l us) (named_ty c) p q = absurd q
  within-on (compound k ts) (compound l us) (compound m vs) p q =
      (p.0 ∙ q.0, parts-within-on k ts us vs p.1 (subst (λ x. PartsWithin x us vs) (sym p.0) q.1))

  parts-within-on : (k : Kind) (ts us vs : Tys) → PartsWithin k ts us → PartsWithin k us vs → PartsWithin k ts vs
  parts-within-on k no_tys us vs p q = none-within-on k (is_relation k) us vs refl p q
  parts-within-on k (more_tys t ts) no_tys vs p q = absurd p
  parts-within-on k (more_tys t ts) (more_tys u us) no_tys p q = absurd q
  parts-within-on k (more_tys t ts) (more_tys u us) (more_tys v vs) p q = (within-on t u v p.0 q.0, all-within-on ts us vs p.1 q.1)

  all-within-on : (ts us vs : Tys) → AllWithin ts us → AllWithin us vs → AllWithin ts vs
  all-within-on no_tys no_tys vs p q = q
  all-within-on no_tys (more_tys u us) vs p q = absurd p
  all-within-on (more_tys t ts) no_tys vs p q = absurd p
  all-within-on (more_tys t ts) (more_tys u us) no_tys p q = absurd q
  all-within-on (more_tys t ts) (more_tys u us) (more_tys v vs) p q = (within-on t u v p.0 q.0, all-within-on ts us vs p.1 q.1)

-- ---- the join says what both say

both-itself : (t u v : Ty) → Within t u → Some u ≡ Some v → Within t v × Within u v
both-itself t u v h e = let f : u ≡ v = cc in subst (λ x. Within t x × Within u x) f (h, within-itself u)

itself-both : (t u v : Ty) → Within u t → Some t ≡ Some v → Within t v × Within u v
itself-both t u v h e = let f : t ≡ v = cc in subst (λ x. Within t x × Within u x) f (within-itself t, h)

-- the join of the parts of two types of one kind
abbrev pub joined : Kind → Tys → Tys → Option Tys
joined k ts us = if is_open k ts then Some us else (if is_open k us then Some ts else joins ts us)

no-parts : (b : Bool) (vs : Tys) → (if b then Some no_tys else Some no_tys) ≡ Some vs → no_tys ≡ vs
no-parts true vs e = cc
no-parts false vs e = cc

-- the first has no parts
open-says : (k : Kind) (b : Bool) (us vs : Tys) → (if b then Some us else (if is_open k us then Some no_tys else joins no_tys us)) ≡ Some vs →
    NoneWithin b vs × PartsWithin k us vs
open-says k true us vs e = let f : us ≡ vs = cc in (tt, subst (PartsWithin k us) f (parts-within-itself k us))
open-says k false no_tys vs e =
    let f : no_tys ≡ vs = no-parts (is_relation k) vs e in
    (subst (NoneWithin false) f tt, subst (PartsWithin k no_tys) f (parts-within-itself k no_tys))
open-says k false (more_tys u us) vs e = cc

-- the second has none
beside-open : (k : Kind) (b : Bool) (t : Ty) (ts vs : Tys) → (if b then Some (more_tys t ts) else None) ≡ Some vs →
    PartsWithin k (more_tys t ts) vs × NoneWithin b vs
beside-open k true t ts vs e = let f : more_tys t ts ≡ vs = cc in (subst (PartsWithin k (more_tys t ts)) f (parts-within-itself k (more_tys t ts)), tt)
beside-open k false t ts vs e = cc

mutual
  -- The join of two types says what both say.
  pub join-says : (t u v : Ty) → join t u ≡ Some v → Within t v × Within u v
  join-says any_ty u v e = both-itself any_ty u v tt e
  join-says bool_ty any_ty v e = itself-both bool_ty any_ty v tt e
  join-says bool_ty bool_ty v e = itself-both bool_ty bool_ty v tt e
  join-says bool_ty int_ty v e = cc
  join-says bool_ty (named_ty b) v e = cc
  join-says bool_ty (compound l us) v e = cc
  join-says int_ty any_ty v e = itself-both int_ty any_ty v tt e
  join-says int_ty bool_ty v e = cc
  join-says int_ty int_ty v e = itself-both int_ty int_ty v tt e
  join-says int_ty (named_ty b) v e = cc
  join-says int_ty (compound l us) v e = cc
  join-says (named_ty a) any_ty v e = itself-both (named_ty a) any_ty v tt e
  join-says (named_ty a) bool_ty v e = cc
  join-says (named_ty a) int_ty v e = cc
  join-says (named_ty a) (named_ty b) v e =
      let h = when-some (same_text a b) (named_ty a) v e in
      itself-both (named_ty a) (named_ty b) v (sym (same-text-equal a b h.0)) (ap Some h.1)
  join-says (named_ty a) (compound l us) v e = cc
  join-says (compound k ts) any_ty v e = itself-both (compound k ts) any_ty v tt e
  join-says (compound k ts) bool_ty v e = cc
  join-says (compound k ts) int_ty v e = cc
  join-says (compound k ts) (named_ty b) v e = cc
  join-says (compound k ts) (compound l us) v e =
      let h = if-some (same_kind k l) (option_map (compound k) (joined k ts us)) v e in
      let ws = map-some (joined k ts us) (compound k) v h.1 in
      let p = joined-says k ts us ws.0 ws.1 in
      subst (λ x. Within (compound k ts) x × Within (compound l us) x) ws.2 ((refl, p.0), (sym (same-kind-equal k l h.0), subst (λ x. PartsWithin x us ws.0) (same-kind-equal k l h.0) p.1))

  joined-says : (k : Kind) (ts us vs : Tys) → joined k ts us ≡ Some vs → PartsWithin k ts vs × PartsWithin k us vs
  joined-says k no_tys us vs e = open-says k (is_relation k) us vs e
  joined-says k (more_tys t ts) no_tys vs e = beside-open k (is_relation k) t ts vs e
  joined-says k (more_tys t ts) (more_tys u us) vs e =
      let w = then-some (join t u) (λ w. option_map (more_tys w) (joins ts us)) vs e in
      let ws = map-some (joins ts us) (more_tys w.0) vs w.2 in
      let p = join-says t u w.0 w.1 in
      let q = joins-say ts us ws.0 ws.1 in
      subst (λ x. PartsWithin k (more_tys t ts) x × PartsWithin k (more_tys u us) x) ws.2 ((p.0, q.0), (p.1, q.1))

  joins-say : (ts us vs : Tys) → joins ts us ≡ Some vs → AllWithin ts vs × AllWithin us vs
  joins-say no_tys no_tys vs e = let f : no_tys ≡ vs = cc in subst (λ x. AllWithin no_tys x × AllWithin no_tys x) f (tt, tt)
  joins-say no_tys (more_tys u us) vs e = cc
  joins-say (more_tys t ts) no_tys vs e = cc
  joins-say (more_tys t ts) (more_tys u us) vs e =
      let w = then-some (join t u) (λ w. option_map (more_tys w) (joins ts us)) vs e in
      let ws = map-some (joins ts us) (more_tys w.0) vs w.2 in
      let p = join-says t u w.0 w.1 in
      let q = joins-say ts us ws.0 ws.1 in
      subst (λ x. AllWithin (more_tys t ts) x × AllWithin (more_tys u us) x) ws.2 ((p.0, q.0), (p.1, q.1))
