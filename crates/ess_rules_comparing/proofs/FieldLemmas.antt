-- The names of fields, side by side.
use Rattle.std.proofs.Common.{◌≡◌, refl, ◌&&◌, List, ◌∷◌}
use Rattle.std.specs.Ordering.{ordering_then, is_eq}
use Rattle.std.specs.declared.cmp.Ordering.{Ordering}
use Rattle.std.specs.declared.cmp.Ordering.TheVariants.{Less, Equal, Greater}
use Rattle.ess_semantics.specs.Values.{Text}
use Rattle.ess_semantics.specs.Order.{order_text, order_texts, same_text, same_texts}

then-both : (o p : Ordering) → is_eq (ordering_then o p) ≡ is_eq o && is_eq p
then-both Less p = refl
then-both Equal p = refl
then-both Greater p = refl

-- Two lists of names are equal where the first ones are and those behind them are.
pub same_more : (x y : Text) (xs ys : List Text) → same_texts (x ∷ xs) (y ∷ ys) ≡ same_text x y && same_texts xs ys
same_more x y xs ys = then-both (order_text x y) (order_texts xs ys)
