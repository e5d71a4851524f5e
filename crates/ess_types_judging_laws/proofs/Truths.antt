-- Laws of truth values, and records of findings put together.
use Rattle.std.proofs.Common.{◌≡◌, refl, ap, ◌∙◌, Bool, true, false, ◌&&◌}
use Rattle.ess_types_judging_laws.specs.Found.{Found, all_well, both}

pub and_true : (a : Bool) → a && true ≡ a
and_true true = refl
and_true false = refl

pub and_assoc : (a b c : Bool) → (a && b) && c ≡ a && (b && c)
and_assoc true b c = refl
and_assoc false b c = refl

pub and_same : (a b c d : Bool) → a ≡ c → b ≡ d → a && b ≡ c && d
and_same a b c d p q = ap (λ x. x && b) p ∙ ap (λ x. c && x) q

-- What is found of a generator over a domain, behind what was found before it.
pub over-grouped : (a d g p r : Bool) → (a && (d && (g && p))) && r ≡ a && (((d && g) && p) && r)
over-grouped false d g p r = refl
over-grouped true false g p r = refl
over-grouped true true g p r = refl

-- The same of a generator from a source.
pub from-grouped : (a d p r : Bool) → (a && (d && p)) && r ≡ a && ((d && p) && r)
from-grouped false d p r = refl
from-grouped true d p r = refl

-- Findings are one where each of them is.
pub found-same : (f g : Found) → f.known ≡ g.known → f.new ≡ g.new → f.fits ≡ g.fits → f.fixed ≡ g.fixed → f.in_order ≡ g.in_order →
    f.unordered ≡ g.unordered → f.finite ≡ g.finite → f.enumerable ≡ g.enumerable → f ≡ g
found-same f g k n t x o u i e =
    ap (λ b. record f { known = b }) k ∙ ap (λ b. record f { known = g.known; new = b }) n
    ∙ ap (λ b. record f { known = g.known; new = g.new; fits = b }) t
    ∙ ap (λ b. record f { known = g.known; new = g.new; fits = g.fits; fixed = b }) x
    ∙ ap (λ b. record f { known = g.known; new = g.new; fits = g.fits; fixed = g.fixed; in_order = b }) o
    ∙ ap (λ b. record g { unordered = b; finite = f.finite; enumerable = f.enumerable }) u
    ∙ ap (λ b. record g { finite = b; enumerable = f.enumerable }) i ∙ ap (λ b. record g { enumerable = b }) e

-- Putting together can be grouped.
pub both_assoc : (f g h : Found) → both (both f g) h ≡ both f (both g h)
both_assoc f g h =
    found-same (both (both f g) h) (both f (both g h)) (and_assoc f.known g.known h.known) (and_assoc f.new g.new h.new)
    (and_assoc f.fits g.fits h.fits) (and_assoc f.fixed g.fixed h.fixed) (and_assoc f.in_order g.in_order h.in_order)
    (and_assoc f.unordered g.unordered h.unordered) (and_assoc f.finite g.finite h.finite)
    (and_assoc f.enumerable g.enumerable h.enumerable)

pub both_well : (f : Found) → both f all_well ≡ f
both_well f =
    found-same (both f all_well) f (and_true f.known) (and_true f.new) (and_true f.fits) (and_true f.fixed) (and_true f.in_order)
    (and_true f.unordered) (and_true f.finite) (and_true f.enumerable)
