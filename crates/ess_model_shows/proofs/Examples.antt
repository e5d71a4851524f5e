-- What is entered, on small cases.
use Rattle.std.proofs.Common.{◌≡◌, refl, [], ◌∷◌, pos, codes}
use Rattle.ess_semantics.specs.Trees.{number_ex, name_ex, bool_dom}
use Rattle.conjure_model_laws.specs.Shown.{shows_nothing}
use Rattle.ess_model_shows.specs.Entered.{with_domain, with_number, with_values}

-- Values get the positions from 1 on, and their type the number of them.
values_first : (with_values (codes "t") (codes "a" ∷ codes "b" ∷ []) shows_nothing).first
    ≡ (codes "a", number_ex (pos 1)) ∷ (codes "b", number_ex (pos 2)) ∷ []
values_first = refl

values_size : (with_values (codes "t") (codes "a" ∷ codes "b" ∷ []) shows_nothing).sizes ≡ (codes "t", number_ex (pos 2)) ∷ []
values_size = refl

-- A domain without bound names takes no reserved name.
domain_next : (with_domain (codes "x") bool_dom shows_nothing).next ≡ 2
domain_next = refl

domain_there : (with_domain (codes "x") bool_dom shows_nothing).doms ≡ (codes "x", bool_dom) ∷ []
domain_there = refl

-- A number of values is entered before those that are there.
number_newest : (with_number (codes "u") (name_ex (codes "n")) (with_number (codes "t") (number_ex (pos 3)) shows_nothing)).sizes
    ≡ (codes "u", name_ex (codes "n")) ∷ (codes "t", number_ex (pos 3)) ∷ []
number_newest = refl
