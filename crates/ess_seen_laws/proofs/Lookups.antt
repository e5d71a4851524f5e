-- What names are bound over, once more names are bound, and the types of bound names.
use Rattle.std.proofs.Common.{◌≡◌, refl, sym, ap, ◌∙◌, Bool, true, false, if◌then◌else◌, [], ◌∷◌, Option, Some, None, option_map}
use Rattle.ess_semantics.specs.Values.{Text}
use Rattle.ess_semantics.specs.Order.{same_text}
use Rattle.ess_semantics.specs.Names.{Names, look}
use Rattle.ess_semantics.specs.Types.{int_ty}
use Rattle.ess_semantics.specs.Typing.{number_cell_ty}
use Rattle.ess_semantics.proofs.Texts.{same_text-equal}
use Rattle.ess_seen_laws.specs.Seen.{Kind, scalars, sets_of, Bound, bound_kind, kind_ty, bound_types}
use Rattle.ess_seen_laws.specs.Putting.{Within}

-- Names bound alike stay so under one more.
pub within-more : (r t : Names Bound) (a : Text) (b : Bound) → Within r t → Within ((a, b) ∷ r) ((a, b) ∷ t)
within-more r t a b w x c h = go (same_text a x) (w x c) h
  where
    go : (v : Bool) → (look r x ≡ Some c → look t x ≡ Some c) → (if v then Some b else look r x) ≡ Some c →
        (if v then Some b else look t x) ≡ Some c
    go true f q = q
    go false f q = f q

-- A name that wasn't bound hides none.
pub new-within : (r : Names Bound) (a : Text) (b : Bound) → look r a ≡ None → Within r ((a, b) ∷ r)
new-within r a b n x c h = go (same_text a x) (λ q. ap (look r) (same_text-equal a x q)) h
  where
    go : (v : Bool) → (v ≡ true → look r a ≡ look r x) → look r x ≡ Some c → (if v then Some b else look r x) ≡ Some c
    go true f q = clash (look r x) (sym (f refl) ∙ n) q
      where
        clash : (o : Option Bound) → o ≡ None → o ≡ Some c → Some b ≡ Some c
        clash None p q = cc
        clash (Some d) p q = cc
    go false f q = q

-- The type of a bound name is that of the kind of its values.
pub look-bound : (r : Names Bound) (a : Text) (b : Bound) → look r a ≡ Some b → look (bound_types r) a ≡ Some (kind_ty (bound_kind b))
look-bound [] a b h = cc
look-bound (c ∷ r) a b h = go (same_text c.0 a) (λ q. look-bound r a b q) h
  where
    go : (v : Bool) → (look r a ≡ Some b → look (bound_types r) a ≡ Some (kind_ty (bound_kind b))) →
        (if v then Some c.1 else look r a) ≡ Some b →
        (if v then Some (kind_ty (bound_kind c.1)) else look (bound_types r) a) ≡ Some (kind_ty (bound_kind b))
    go true k q = ap (λ o. option_map (λ d. kind_ty (bound_kind d)) o) q
    go false k q = k q

-- A cell of numbers has the type of numbers, whatever name its table has: no name is bound over values of a named type.
kind-cell : (k : Kind) → number_cell_ty (Some (kind_ty k)) ≡ int_ty
kind-cell (scalars true) = refl
kind-cell (scalars false) = refl
kind-cell (sets_of k) = refl

pub number-cell : (r : Names Bound) (n : Text) → number_cell_ty (look (bound_types r) n) ≡ int_ty
number-cell [] n = refl
number-cell (c ∷ r) n = go (same_text c.0 n) (number-cell r n)
  where
    go : (v : Bool) → number_cell_ty (look (bound_types r) n) ≡ int_ty →
        number_cell_ty (if v then Some (kind_ty (bound_kind c.1)) else look (bound_types r) n) ≡ int_ty
    go true q = kind-cell (bound_kind c.1)
    go false q = q
