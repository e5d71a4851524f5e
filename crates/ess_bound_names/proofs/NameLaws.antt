-- The set of no names, and that of names with one more.
use Rattle.std.proofs.Common.{◌≡◌, refl, sym, ap, ◌∙◌, subst, Bool, true, false, ◌||◌, cond, List, [], ◌∷◌, ◌++◌}
use Rattle.std.specs.List.{list_any}
use Rattle.std.specs.BTreeMap.{is_at}
use Rattle.std.specs.BTreeSet.{BTreeSet, contains, IsEmpty, Updates}
use Rattle.std.proofs.lemmas.List.Folds.{list_any-append}
use Rattle.ess_semantics.specs.Values.{Text}
use Rattle.ess_semantics.specs.Order.{order_text, same_text}
use Rattle.ess_semantics.specs.Names.{is_among}
use Rattle.ess_bound_names.specs.Indexes.{HasNames}

-- An empty set has no names
pub no_names : (s : BTreeSet Text) → IsEmpty s → HasNames [] s
no_names s e = λ a. ap (list_any (is_at (order_text a))) e

either : (c d : Bool) → cond c true d ≡ (d || (c || false))
either true true = refl
either true false = refl
either false true = refl
either false false = refl

-- A set with a name more has the list with that name behind the others
pub one_name_more : (ns new : List Text) (a k : Text) (s n : BTreeSet Text) → new ≡ ns ++ a ∷ [] → HasNames ns s → k ≡ a → Updates order_text s n k true → HasNames new n
one_name_more ns new a k s n e h ke u =
    let w : Updates order_text s n a true = subst (λ k. Updates order_text s n k true) ke u in
    λ b.
    w.0 b ∙ ap (cond (same_text a b) true) (h b) ∙ either (same_text a b) (is_among ns b)
    ∙ sym (list_any-append (λ n. same_text n b) ns (a ∷ [])) ∙ sym (ap (λ l. is_among l b) e)

-- What the set has is among the names
pub found_name : (ns : List Text) (s : BTreeSet Text) (a : Text) → HasNames ns s → contains order_text s a ≡ is_among ns a
found_name ns s a h = h a
