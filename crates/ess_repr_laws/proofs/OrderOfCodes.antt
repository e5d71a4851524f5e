-- The members of an atom stand in the order of their numbers.
use Rattle.std.proofs.Common.{◌≡◌, refl, sym, ap, ◌∙◌, Bool, true, false, int_lt, arith}
use Rattle.std.proofs.lemmas.Int.{ints}
use Rattle.std.specs.Ordering.{is_lt, ordering_reverse}
use Rattle.std.specs.declared.cmp.Ordering.{Ordering}
use Rattle.std.specs.declared.cmp.Ordering.TheVariants.{Less, Equal, Greater}
use Rattle.ess_semantics.specs.Values.{Value}
use Rattle.ess_semantics.specs.Order.{order, below}
use Rattle.ess_semantics.specs.Domains.{Domain}
use Rattle.ess_semantics.specs.Membership.{member}
use Rattle.ess_semantics.specs.Atoms.{IsAtom}
use Rattle.ess_semantics.specs.Tables.{code}
use Rattle.ess_semantics.proofs.Orders.{order_exact, order_total}
use Rattle.ess_repr_laws.proofs.MemberNumbers.{low-codes}
use Rattle.ess_repr_laws.proofs.PartNumbers.{lt-is}

-- A member is below another one exactly where its number is.
pub below-codes : (d : Domain) → IsAtom d → (x y : Value) → member d x ≡ true → member d y ≡ true → below x y ≡ int_lt (code x) (code y)
below-codes d a x y h k = go (order x y) refl
  where
    not-itself : int_lt (code y) (code y) ≡ false
    not-itself = grind arith

    not-both : int_lt (code y) (code x) ≡ true → int_lt (code x) (code y) ≡ false
    not-both e = here (int_lt (code x) (code y)) refl
      where
        here : (b : Bool) → int_lt (code x) (code y) ≡ b → int_lt (code x) (code y) ≡ false
        here false f = f
        here true f = let l = lt-is (code y) (code x) e in let m = lt-is (code x) (code y) f in absurd (omega (arith, ints))

    go : (o : Ordering) → order x y ≡ o → below x y ≡ int_lt (code x) (code y)
    go Less e = ap is_lt e ∙ sym (low-codes d a x y h k (ap is_lt e))
    go Equal e = ap is_lt e ∙ sym (ap (λ z. int_lt (code z) (code y)) (order_exact x y e) ∙ not-itself)
    go Greater e =
        ap is_lt e
        ∙ sym (not-both (low-codes d a y x k h (ap is_lt (order_total.antisymm y x ∙ ap ordering_reverse e))))
