-- Names that generators bind, the newest first.
use Rattle.std.proofs.Common.{◌≡◌, refl, sym, ap, ◌∙◌, ℕ, ◌+◌, ◌<◌, List, [], ◌∷◌, ◌++◌, length, get_or, drop, map, reverse}
use Rattle.std.proofs.lemmas.List.{drop_more, reverse-append}
use Rattle.ess_semantics.specs.Values.{Text}
use Rattle.ess_semantics.specs.Trees.{name_pat, tuple_pat}
use Rattle.ess_grammar.specs.Models.{names_of_gens}
use Rattle.ess_core.specs.TreeViews.{Item, over_item, from_item, cond_item, gens_of, pure_gen, pure_gens}
use Rattle.ess_core.specs.declared.expressions.Gen.{Gen}

-- A name behind the others is the newest.
pub one_newer : (ns new : List Text) (a : Text) → new ≡ ns ++ a ∷ [] → reverse new ≡ a ∷ reverse ns
one_newer ns new a e = ap reverse e ∙ reverse-append ns (a ∷ [])

-- The names of an item stand before those of the items behind it.
names-apart : (i : Item) (is : List Item) → names_of_gens (gens_of (i ∷ is)) ≡ names_of_gens (gens_of (i ∷ [])) ++ names_of_gens (gens_of is)
names-apart (over_item (name_pat a) d) is = refl
names-apart (over_item (tuple_pat ps) d) is = refl
names-apart (from_item p e) is = refl
names-apart (cond_item e) is = refl

-- The names of the items from the one at i on, where those behind it were there.
pub names_newer : (gs : List Gen) (i : ℕ) (d : Gen) (ns new : List Text) → i < length gs → reverse ns ≡ names_of_gens (pure_gens (drop (i + 1) gs)) →
    reverse new ≡ names_of_gens (pure_gens (get_or gs i d ∷ [])) ++ reverse ns → reverse new ≡ names_of_gens (pure_gens (drop i gs))
names_newer gs i d ns new h e f =
    f ∙ ap (λ ms. names_of_gens (pure_gens (get_or gs i d ∷ [])) ++ ms) e
    ∙ sym (names-apart (pure_gen (get_or gs i d)) (map pure_gen (drop (i + 1) gs))) ∙ ap (λ hs. names_of_gens (pure_gens hs)) (sym (drop_more gs i d h))
