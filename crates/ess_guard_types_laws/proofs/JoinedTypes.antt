-- Types that agree: in either order, and with each of two that agree where they agree with what both agree with.
use Rattle.std.proofs.Common.{◌≡◌, refl, sym, ap, subst, Bool, true, false, if◌then◌else◌, List, [], ◌∷◌, Option, Some, None, option_map, is_some}
use Rattle.std.specs.Ordering.{ordering_then, is_eq}
use Rattle.std.specs.declared.cmp.Ordering.{Ordering}
use Rattle.std.specs.declared.cmp.Ordering.TheVariants.{Less, Equal, Greater}
use Rattle.ess_semantics.specs.Lists.{and_then, when}
use Rattle.ess_semantics.specs.Values.{Text, Kind, node, nil}
use Rattle.ess_semantics.specs.Order.{order_kind, same_text, same_kind}
use Rattle.ess_semantics.specs.Types.{Ty, Tys, any_ty, bool_ty, int_ty, named_ty, compound, no_tys, more_tys, is_open, join, joins, join_all}
use Rattle.ess_semantics.proofs.Texts.{same_text-itself, same_text-equal, same_text-turned}
use Rattle.ess_semantics.proofs.Orders.{order_exact, equal-of, same-itself}

-- Everything agrees with the type of members of an empty literal.
pub join-any : (t : Ty) → join t any_ty ≡ Some t
join-any any_ty = refl
join-any bool_ty = refl
join-any int_ty = refl
join-any (named_ty a) = refl
join-any (compound k ts) = refl

-- Two that agree.
abbrev pub Agree : Ty → Ty → Type 0
Agree a b = is_some (join a b) ≡ true

abbrev AgreeAll : Tys → Tys → Type 0
AgreeAll ts us = is_some (joins ts us) ≡ true

when-some : (c : Bool) (t : Ty) → is_some (when c t) ≡ true → c ≡ true
when-some true t h = refl
when-some false t h = cc

some-when : (c : Bool) (t : Ty) → c ≡ true → is_some (when c t) ≡ true
some-when true t h = refl
some-when false t h = cc

-- The parts of compound types of one kind.
abbrev parts_joined : Kind → Tys → Tys → Option Tys
parts_joined k ts us = if is_open k ts then Some us else (if is_open k us then Some ts else joins ts us)

of-kinds : (c : Bool) (k : Kind) (o : Option Tys) → is_some (if c then option_map (compound k) o else None) ≡ true →
    (c ≡ true) × (is_some o ≡ true)
of-kinds true k None h = cc
of-kinds true k (Some ts) h = (refl, refl)
of-kinds false k o h = cc

to-kinds : (c : Bool) (k : Kind) (o : Option Tys) → c ≡ true → is_some o ≡ true → is_some
    (if c then option_map (compound k) o else None) ≡ true
to-kinds true k None e h = h
to-kinds true k (Some ts) e h = refl
to-kinds false k o e h = cc

pair-some : (x : Option Ty) (y : Option Tys) → is_some (and_then x (λ v. option_map (more_tys v) y)) ≡ true →
    (is_some x ≡ true) × (is_some y ≡ true)
pair-some None y h = cc
pair-some (Some v) None h = cc
pair-some (Some v) (Some ws) h = (refl, refl)

some-pair : (x : Option Ty) (y : Option Tys) → is_some x ≡ true → is_some y ≡ true → is_some
    (and_then x (λ v. option_map (more_tys v) y)) ≡ true
some-pair None y h k = h
some-pair (Some v) None h k = k
some-pair (Some v) (Some ws) h k = refl

-- Kinds that count as equal are equal.
kind-equal : (k l : Kind) → same_kind k l ≡ true → k ≡ l
kind-equal k l e = let q : node k nil ≡ node l nil = order_exact (node k nil) (node l nil)
    (ap (λ o. ordering_then o Equal) (equal-of (order_kind k l) e)) in cc

-- ---- in either order

parts-turned : (a b : Bool) (ts us : Tys) → (AgreeAll ts us → AgreeAll us ts) →
    is_some (if a then Some us else (if b then Some ts else joins ts us)) ≡ true →
    is_some (if b then Some ts else (if a then Some us else joins us ts)) ≡ true
parts-turned true true ts us k h = refl
parts-turned true false ts us k h = refl
parts-turned false true ts us k h = refl
parts-turned false false ts us k h = k h

compound-turned : (k l : Kind) (ts us : Tys) → (AgreeAll ts us → AgreeAll us ts) → Agree (compound k ts) (compound l us) →
    Agree (compound l us) (compound k ts)
compound-turned k l ts us f h =
    let p = of-kinds (same_kind k l) k (parts_joined k ts us) h in
    let e : k ≡ l = kind-equal k l p.0 in
    let i : same_kind k k ≡ true = subst (λ z. same_kind k z ≡ true) (sym e) p.0 in
    subst (λ z. Agree (compound z us) (compound k ts)) e
    (to-kinds (same_kind k k) k (parts_joined k us ts) i (parts-turned (is_open k ts) (is_open k us) ts us f p.1))

mutual
  -- Two that agree do so in either order.
  pub turned : (a b : Ty) → Agree a b → Agree b a
  turned any_ty b h = ap is_some (join-any b)
  turned bool_ty any_ty h = refl
  turned bool_ty bool_ty h = refl
  turned bool_ty _ h = cc
  turned int_ty any_ty h = refl
  turned int_ty int_ty h = refl
  turned int_ty _ h = cc
  turned (named_ty a) any_ty h = refl
  turned (named_ty a) (named_ty b) h =
      some-when (same_text b a) (named_ty b) (same_text-turned a b (when-some (same_text a b) (named_ty a) h))
  turned (named_ty a) _ h = cc
  turned (compound k ts) any_ty h = refl
  turned (compound k ts) (compound l us) h = compound-turned k l ts us (turned-all ts us) h
  turned (compound k ts) _ h = cc

  turned-all : (ts us : Tys) → AgreeAll ts us → AgreeAll us ts
  turned-all no_tys no_tys h = refl
  turned-all no_tys (more_tys u us) h = cc
  turned-all (more_tys t ts) no_tys h = cc
  turned-all (more_tys t ts) (more_tys u us) h =
      let p = pair-some (join t u) (joins ts us) h in some-pair (join u t) (joins us ts) (turned t u p.0) (turned-all ts us p.1)

-- ---- with each of two

-- Lists of parts that agree with what two agree with agree with both.
abbrev PartsBelow : Tys → Tys → Type 0
PartsBelow ts us = (vs : Tys) → joins ts us ≡ Some vs → (ws : Tys) → AgreeAll ws vs → AgreeAll ws ts × AgreeAll ws us

parts-below : (a b c d : Bool) (ts us vs ws : Tys) → PartsBelow ts us → (us ≡ vs → b ≡ d) → (ts ≡ vs → a ≡ d) →
    (joins ts us ≡ Some vs → a ≡ d) → (if a then Some us else (if b then Some ts else joins ts us)) ≡ Some vs →
    is_some (if c then Some vs else (if d then Some ws else joins ws vs)) ≡ true →
    (is_some (if c then Some ts else (if a then Some ws else joins ws ts)) ≡ true)
    × (is_some (if c then Some us else (if b then Some ws else joins ws us)) ≡ true)
parts-below a b true d ts us vs ws k f g h e i = (refl, refl)
parts-below true b false d ts us vs ws k f g h e i =
    let q : us ≡ vs = cc in (
      refl,
      subst (λ z. is_some (if z then Some ws else joins ws us) ≡ true) (sym (f q))
          (subst (λ z. is_some (if d then Some ws else joins ws z) ≡ true) (sym q) i),
    )
parts-below false true false d ts us vs ws k f g h e i =
    let q : ts ≡ vs = cc in (
      subst (λ z. is_some (if z then Some ws else joins ws ts) ≡ true) (sym (g q))
          (subst (λ z. is_some (if d then Some ws else joins ws z) ≡ true) (sym q) i),
      refl,
    )
parts-below false false false d ts us vs ws k f g h e i =
    k vs e ws (subst (λ z. is_some (if z then Some ws else joins ws vs) ≡ true) (sym (h e)) i)

-- Parts joined are of unknown arity where the first ones are.
open-kept : (k : Kind) (ts us vs : Tys) → joins ts us ≡ Some vs → is_open k ts ≡ is_open k vs
open-kept k no_tys no_tys vs e = let q : no_tys ≡ vs = cc in ap (is_open k) q
open-kept k (more_tys t ts) (more_tys u us) vs e = go (join t u) (joins ts us) e
  where
    go : (x : Option Ty) (y : Option Tys) → and_then x (λ v. option_map (more_tys v) y) ≡ Some vs → false ≡ is_open k vs
    go None y e = cc
    go (Some v) None e = cc
    go (Some v) (Some ws) e = let q : more_tys v ws ≡ vs = cc in ap (is_open k) q
open-kept k no_tys (more_tys u us) vs e = cc
open-kept k (more_tys t ts) no_tys vs e = cc

of-compound : (c : Bool) (k : Kind) (o : Option Tys) (j : Ty) → (if c then option_map (compound k) o else None) ≡ Some j →
    (vs : Tys) × (c ≡ true) × (o ≡ Some vs) × (compound k vs ≡ j)
of-compound true k None j e = (no_tys, cc, cc, cc)
of-compound true k (Some vs) j e = (vs, refl, refl, cc)
of-compound false k o j e = (no_tys, cc, cc, cc)

-- Compound types of one kind.
kind-below : (k : Kind) (ts us vs : Tys) (i : same_kind k k ≡ true) → PartsBelow ts us → parts_joined k ts us ≡ Some vs → (u : Ty) →
    Agree u (compound k vs) → Agree u (compound k ts) × Agree u (compound k us)
kind-below k ts us vs i f e any_ty h = (refl, refl)
kind-below k ts us vs i f e (compound m ws) h =
    let p = of-kinds (same_kind m k) m (parts_joined m ws vs) h in
    let q : m ≡ k = kind-equal m k p.0 in
    let r = parts-below (is_open k ts) (is_open k us) (is_open k ws) (is_open k vs) ts us vs ws f (λ z. ap (is_open k) z)
    (λ z. ap (is_open k) z) (open-kept k ts us vs) e (subst (λ z. is_some (parts_joined z ws vs) ≡ true) q p.1) in (
      subst (λ z. Agree (compound z ws) (compound k ts)) (sym q) (to-kinds (same_kind k k) k (parts_joined k ws ts) i r.0),
      subst (λ z. Agree (compound z ws) (compound k us)) (sym q) (to-kinds (same_kind k k) k (parts_joined k ws us) i r.1),
    )
kind-below k ts us vs i f e _ h = (cc, cc)

compound-below : (k l : Kind) (ts us : Tys) (j : Ty) → PartsBelow ts us → join (compound k ts) (compound l us) ≡ Some j → (u : Ty) →
    Agree u j → Agree u (compound k ts) × Agree u (compound l us)
compound-below k l ts us j f e u h =
    let r = of-compound (same_kind k l) k (parts_joined k ts us) j e in
    let q : k ≡ l = kind-equal k l r.1 in
    let i : same_kind k k ≡ true = subst (λ z. same_kind k z ≡ true) (sym q) r.1 in
    subst (λ z. Agree u (compound k ts) × Agree u (compound z us)) q
    (kind-below k ts us r.0 i f r.2 u (subst (λ z. Agree u z) (sym r.3) h))

same-below : (s j u : Ty) → s ≡ j → Agree u j → Agree u s
same-below s j u q h = subst (λ z. Agree u z) (sym q) h

named-below : (a b : Text) (j u : Ty) (c : Bool) → same_text a b ≡ c → when c (named_ty a) ≡ Some j → Agree u j →
    Agree u (named_ty a) × Agree u (named_ty b)
named-below a b j u true q e h =
    let r : named_ty a ≡ j = cc in
    let x : Agree u (named_ty a) = same-below (named_ty a) j u r h in (x, subst (λ z. Agree u (named_ty z)) (same_text-equal a b q) x)
named-below a b j u false q e h = (cc, cc)

more-below : (t : Ty) (ts : Tys) (u : Ty) (us : Tys) → ((j : Ty) → join t u ≡ Some j → (w : Ty) → Agree w j → Agree w t × Agree w u) →
    PartsBelow ts us → (vs ws : Tys) (x : Option Ty) → join t u ≡ x → (y : Option Tys) → joins ts us ≡ y →
    and_then x (λ v. option_map (more_tys v) y) ≡ Some vs → AgreeAll ws vs → AgreeAll ws (more_tys t ts) × AgreeAll ws (more_tys u us)
more-below t ts u us f g vs ws None p y q e h = (cc, cc)
more-below t ts u us f g vs ws (Some v) p None q e h = (cc, cc)
more-below t ts u us f g vs ws (Some v) p (Some ys) q e h =
    let r : more_tys v ys ≡ vs = cc in at ws (subst (λ z. AgreeAll ws z) (sym r) h)
  where
    at : (ws : Tys) → AgreeAll ws (more_tys v ys) → AgreeAll ws (more_tys t ts) × AgreeAll ws (more_tys u us)
    at no_tys h = (cc, cc)
    at (more_tys w ws) h =
        let a = pair-some (join w v) (joins ws ys) h in
        let b = f v p w a.0 in
        let c = g ys q ws a.1 in (some-pair (join w t) (joins ws ts) b.0 c.0, some-pair (join w u) (joins ws us) b.1 c.1)

mutual
  -- What agrees with the type that two agree with agrees with both.
  pub below : (s t j : Ty) → join s t ≡ Some j → (u : Ty) → Agree u j → Agree u s × Agree u t
  below any_ty t j e u h = let q : t ≡ j = cc in (ap is_some (join-any u), same-below t j u q h)
  below bool_ty any_ty j e u h = let q : bool_ty ≡ j = cc in (same-below bool_ty j u q h, ap is_some (join-any u))
  below bool_ty bool_ty j e u h = let q : bool_ty ≡ j = cc in (same-below bool_ty j u q h, same-below bool_ty j u q h)
  below bool_ty _ j e u h = (cc, cc)
  below int_ty any_ty j e u h = let q : int_ty ≡ j = cc in (same-below int_ty j u q h, ap is_some (join-any u))
  below int_ty int_ty j e u h = let q : int_ty ≡ j = cc in (same-below int_ty j u q h, same-below int_ty j u q h)
  below int_ty _ j e u h = (cc, cc)
  below (named_ty a) any_ty j e u h = let q : named_ty a ≡ j = cc in (same-below (named_ty a) j u q h, ap is_some (join-any u))
  below (named_ty a) (named_ty b) j e u h = named-below a b j u (same_text a b) refl e h
  below (named_ty a) _ j e u h = (cc, cc)
  below (compound k ts) any_ty j e u h =
      let q : compound k ts ≡ j = cc in (same-below (compound k ts) j u q h, ap is_some (join-any u))
  below (compound k ts) (compound l us) j e u h = compound-below k l ts us j (all-below ts us) e u h
  below (compound k ts) _ j e u h = (cc, cc)

  all-below : (ts us : Tys) → PartsBelow ts us
  all-below no_tys no_tys vs e ws h = let q : no_tys ≡ vs = cc in (
    subst (λ z. AgreeAll ws z) (sym q) h,
    subst (λ z. AgreeAll ws z)
        (sym q) h,
  )
  all-below (more_tys t ts) (more_tys u us) vs e ws h =
      more-below t ts u us (below t u) (all-below ts us) vs ws (join t u) refl (joins ts us) refl e h
  all-below no_tys (more_tys u us) vs e ws h = (cc, cc)
  all-below (more_tys t ts) no_tys vs e ws h = (cc, cc)

-- ---- lists of types

-- A type agrees with each of these.
abbrev pub EachAgrees : Ty → List Ty → Type 0
EachAgrees u [] = Unit {0}
EachAgrees u (t ∷ ts) = Agree u t × EachAgrees u ts

-- What agrees with the type that all agree with agrees with each.
pub each-agrees : (ts : List Ty) (j : Ty) → join_all ts ≡ Some j → (u : Ty) → Agree u j → EachAgrees u ts
each-agrees [] j e u h = tt
each-agrees (t ∷ ts) j e u h = go (join_all ts) (λ i q w k. each-agrees ts i q w k) e
  where
    go : (o : Option Ty) → ((i : Ty) → o ≡ Some i → (w : Ty) → Agree w i → EachAgrees w ts) → and_then o (join t) ≡ Some j →
        Agree u t × EachAgrees u ts
    go None f e = cc
    go (Some i) f e = let b = below t i j e u h in (b.0, f i refl u b.1)

-- ---- with itself

then-equal : (o : Ordering) → is_eq (ordering_then o Equal) ≡ true → is_eq o ≡ true
then-equal Less h = h
then-equal Equal h = refl
then-equal Greater h = h

kind-itself : (k : Kind) → same_kind k k ≡ true
kind-itself k = then-equal (order_kind k k) (same-itself (node k nil))

parts-itself : (a : Bool) (ts : Tys) → AgreeAll ts ts → is_some (if a then Some ts else (if a then Some ts else joins ts ts)) ≡ true
parts-itself true ts h = refl
parts-itself false ts h = h

mutual
  -- Each type agrees with itself.
  pub itself : (t : Ty) → Agree t t
  itself any_ty = refl
  itself bool_ty = refl
  itself int_ty = refl
  itself (named_ty a) = some-when (same_text a a) (named_ty a) (same_text-itself a)
  itself (compound k ts) =
      to-kinds (same_kind k k) k (parts_joined k ts ts) (kind-itself k) (parts-itself (is_open k ts) ts (all-itself ts))

  all-itself : (ts : Tys) → AgreeAll ts ts
  all-itself no_tys = refl
  all-itself (more_tys t ts) = some-pair (join t t) (joins ts ts) (itself t) (all-itself ts)
