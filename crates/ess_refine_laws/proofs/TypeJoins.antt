-- Types that agree do so both ways.
use Rattle.std.proofs.Common.{◌≡◌, refl, ap, ◌∙◌, Bool, true, false, if◌then◌else◌, Option, Some, None, option_map}
use Rattle.ess_semantics.specs.Lists.{and_then}
use Rattle.ess_semantics.specs.Order.{same_text}
use Rattle.ess_semantics.specs.Types.{Ty, Tys, no_tys, more_tys, compound}
use Rattle.std.proofs.Common.{sym}
use Rattle.ess_semantics.specs.Types.{any_ty, bool_ty, int_ty, named_ty, join, joins}
use Rattle.ess_semantics.specs.Order.{same_kind}
use Rattle.ess_semantics.specs.Lists.{when as given}
use Rattle.ess_semantics.specs.Types.{is_open}
use Rattle.ess_semantics.specs.Values.{Kind, node, nil}
use Rattle.std.specs.Ordering.{ordering_then}
use Rattle.std.specs.declared.cmp.Ordering.TheVariants.{Equal}
use Rattle.ess_semantics.proofs.Orders.{order_exact, equal-of}
use Rattle.ess_semantics.specs.Order.{order_kind}
use Rattle.ess_rules_laws.proofs.Agreement.{same_text-equal}

-- Kinds that count as equal are equal.
kind-equal : (k l : Kind) → same_kind k l ≡ true → k ≡ l
kind-equal k l e = let q : node k nil ≡ node l nil = order_exact (node k nil) (node l nil)
    (ap (λ o. ordering_then o Equal) (equal-of (order_kind k l) e)) in cc

-- A test both ways.
test-swap : {A : Type 0} (f : A → A → Bool) → ((a b : A) → f a b ≡ true → a ≡ b) → (a b : A) → f a b ≡ f b a
test-swap f e a b = go (f a b) refl (f b a) refl
  where
    go : (x : Bool) → f a b ≡ x → (y : Bool) → f b a ≡ y → f a b ≡ f b a
    go true p y q = let i : a ≡ b = e a b p in ap (λ z. f z b) i ∙ ap (λ z. f b z) (sym i)
    go false p true q = let i : b ≡ a = e b a q in ap (λ z. f z b) (sym i) ∙ ap (λ z. f b z) i
    go false p false q = p ∙ sym q

-- What both ways answer where a test tells that the two are one.
same-answer : (b : Bool) (t u : Ty) → (b ≡ true → t ≡ u) → given b t ≡ given b u
same-answer true t u h = ap Some (h refl)
same-answer false t u h = refl

-- Compound types.
abbrev parts_of_both : Kind → Tys → Tys → Option Tys
parts_of_both k ts us = if is_open k ts then Some us else (if is_open k us then Some ts else joins ts us)

parts-swap : (k : Kind) (ts us : Tys) → joins ts us ≡ joins us ts → parts_of_both k ts us ≡ parts_of_both k us ts
parts-swap k no_tys no_tys h = refl
parts-swap k no_tys (more_tys u us) h = go (is_open k no_tys)
  where
    go : (b : Bool) → (if b then Some (more_tys u us) else joins no_tys (more_tys u us))
        ≡ (if b then Some (more_tys u us) else joins (more_tys u us) no_tys)
    go true = refl
    go false = refl
parts-swap k (more_tys t ts) no_tys h = go (is_open k no_tys)
  where
    go : (b : Bool) → (if b then Some (more_tys t ts) else joins (more_tys t ts) no_tys)
        ≡ (if b then Some (more_tys t ts) else joins no_tys (more_tys t ts))
    go true = refl
    go false = refl
parts-swap k (more_tys t ts) (more_tys u us) h = h

compounds-swap : (k l : Kind) (ts us : Tys) → joins ts us ≡ joins us ts →
    join (compound k ts) (compound l us) ≡ join (compound l us) (compound k ts)
compounds-swap k l ts us h = go (same_kind k l) refl ∙ ap (λ b. if b then option_map (compound l) (parts_of_both l us ts) else None)
    (test-swap same_kind kind-equal k l)
  where
    go : (b : Bool) → same_kind k l ≡ b → (if b then option_map (compound k) (parts_of_both k ts us) else None)
        ≡ (if b then option_map (compound l) (parts_of_both l us ts) else None)
    go true q = ap (option_map (compound k)) (parts-swap k ts us h) ∙ ap (λ m. option_map (compound m) (parts_of_both m us ts))
        (kind-equal k l q)
    go false q = refl

mutual
  pub join-swap : (t u : Ty) → join t u ≡ join u t
  join-swap any_ty any_ty = refl
  join-swap any_ty bool_ty = refl
  join-swap any_ty int_ty = refl
  join-swap any_ty (named_ty a) = refl
  join-swap any_ty (compound k ts) = refl
  join-swap bool_ty any_ty = refl
  join-swap bool_ty bool_ty = refl
  join-swap bool_ty int_ty = refl
  join-swap bool_ty (named_ty a) = refl
  join-swap bool_ty (compound k ts) = refl
  join-swap int_ty any_ty = refl
  join-swap int_ty bool_ty = refl
  join-swap int_ty int_ty = refl
  join-swap int_ty (named_ty a) = refl
  join-swap int_ty (compound k ts) = refl
  join-swap (named_ty a) any_ty = refl
  join-swap (named_ty a) bool_ty = refl
  join-swap (named_ty a) int_ty = refl
  join-swap (named_ty a) (named_ty b) =
      same-answer (same_text a b) (named_ty a) (named_ty b) (λ q. ap named_ty (same_text-equal a b q))
      ∙ ap (λ c. given c (named_ty b)) (test-swap same_text same_text-equal a b)
  join-swap (named_ty a) (compound k ts) = refl
  join-swap (compound k ts) any_ty = refl
  join-swap (compound k ts) bool_ty = refl
  join-swap (compound k ts) int_ty = refl
  join-swap (compound k ts) (named_ty a) = refl
  join-swap (compound k ts) (compound l us) = compounds-swap k l ts us (joins-swap ts us)

  joins-swap : (ts us : Tys) → joins ts us ≡ joins us ts
  joins-swap no_tys no_tys = refl
  joins-swap no_tys (more_tys u us) = refl
  joins-swap (more_tys t ts) no_tys = refl
  joins-swap (more_tys t ts) (more_tys u us) =
      ap (λ o. and_then o (λ v. option_map (more_tys v) (joins ts us))) (join-swap t u)
      ∙ ap (λ o. and_then (join u t) (λ v. option_map (more_tys v) o)) (joins-swap ts us)
