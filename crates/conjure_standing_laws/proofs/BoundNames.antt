-- Names that are bound: their types, and that a name isn't one.
use Rattle.std.proofs.Common.{◌≡◌, refl, ap, Bool, true, false, if◌then◌else◌, [], ◌∷◌, Option, Some, None}
use Rattle.std.specs.Prelude.{IsTrue, is_some}
use Rattle.ess_semantics.specs.Values.{Text}
use Rattle.ess_semantics.specs.Order.{same_text}
use Rattle.ess_semantics.specs.Names.{Names, look}
use Rattle.ess_seen_laws.specs.Seen.{Bound, bound_kind, bound_types, kind_ty}

-- The type of a bound name.
pub bound-type : (r : Names Bound) (a : Text) (b : Bound) → look r a ≡ Some b → look (bound_types r) a ≡ Some (kind_ty (bound_kind b))
bound-type [] a b h = cc
bound-type (x ∷ r) a b h = go (same_text x.0 a) (bound-type r a b) h
  where
    go : (c : Bool) → (look r a ≡ Some b → look (bound_types r) a ≡ Some (kind_ty (bound_kind b))) →
        (if c then Some x.1 else look r a) ≡ Some b →
        (if c then Some (kind_ty (bound_kind x.1)) else look (bound_types r) a) ≡ Some (kind_ty (bound_kind b))
    go true f q = let p : x.1 ≡ b = cc in ap (λ z. Some (kind_ty (bound_kind z))) p
    go false f q = f q

pub absurd-both : (b : Bool) → IsTrue b → b ≡ false → ⊥
absurd-both true p q = cc
absurd-both false p q = cc

-- A name that would be bound isn't.
pub isnt-bound : (o : Option Bound) → (IsTrue (is_some o) → ⊥) → o ≡ None
isnt-bound None f = refl
isnt-bound (Some b) f = absurd (f refl)
