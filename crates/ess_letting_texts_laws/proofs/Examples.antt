-- Texts of lettings, worked out.
use Rattle.std.proofs.Common.{◌≡◌, refl, [], ◌∷◌, codes, pos, true}
use Rattle.std.specs.Fmt.{digits}
use Rattle.ess_semantics.specs.Values.{a_set, number, truth, item, node, nil, cons}
use Rattle.ess_semantics.specs.Trees.{name_ex, let_ex}
use Rattle.ess_letting_texts_laws.specs.LettingTexts.{letting_line, lettings_text, lettings_of}

-- a set, and a value of a named type by its name
a_set_line : letting_line (λ t k. codes "red") (codes "x", node a_set (cons (number (pos 1)) (cons (number (pos 2)) nil)))
    ≡ codes "letting x be {1, 2}\n"
unfolding digits
a_set_line = refl

two_lines : lettings_text (λ t k. codes "red") ((codes "b", truth true) ∷ (codes "c", item (codes "colour") 2) ∷ [])
    ≡ codes "language Essence 1.3\nletting b be true\nletting c be red\n"
two_lines = refl

-- without values the language line alone
no_lines : lettings_text (λ t k. []) [] ≡ codes "language Essence 1.3\n"
no_lines = refl

their_lettings : lettings_of (λ t k. codes "red") ((codes "c", item (codes "colour") 2) ∷ []) ≡ let_ex (codes "c") (name_ex (codes "red")) ∷ []
their_lettings = refl
