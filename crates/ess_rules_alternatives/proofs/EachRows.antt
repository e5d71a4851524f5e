-- What is made of each alternative, one by one.
use Rattle.std.proofs.Common.{◌≡◌, refl, ap, Bool, List, [], ◌∷◌, map}
use Rattle.ess_semantics.specs.Values.{Text}
use Rattle.ess_semantics.specs.Trees.{Ex, more_exs}
use Rattle.ess_core.specs.TreeViews.{exs_of}
use Rattle.ess_rules_laws.specs.Listings.{Alternative}
use Rattle.ess_rules_laws.specs.AlternativeLookups.{each_picked, each_through, members_of_each}
use Rattle.ess_rules_alternatives.specs.Cases.{picked_from, put_through, members_of}

-- What picks the item of each.
pub picked_one_by_one : (b : Bool) (x : Text) (l : List Alternative) (e : Ex)
    → each_picked b x l e ≡ exs_of (map (picked_from b x e) l)
picked_one_by_one b x [] e = refl
picked_one_by_one b x (a ∷ l) e = ap (more_exs (picked_from b x e a)) (picked_one_by_one b x l e)

-- The item of each as an operand.
pub through_one_by_one : (x : Text) (l : List Alternative) (e : Ex) → each_through x l e ≡ map (put_through x e) l
through_one_by_one x [] e = refl
through_one_by_one x (a ∷ l) e = ap (λ m. put_through x e a ∷ m) (through_one_by_one x l e)

-- The members of what each picks.
pub members_one_by_one : (y x : Text) (l : List Alternative) → members_of_each y x l ≡ map (members_of y x) l
members_one_by_one y x [] = refl
members_one_by_one y x (a ∷ l) = ap (λ m. members_of y x a ∷ m) (members_one_by_one y x l)
