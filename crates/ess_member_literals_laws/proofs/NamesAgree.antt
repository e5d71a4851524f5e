-- Where names agree at each value of a named type in a value, its literal is one, and it is spelled by both or by none.
use Rattle.std.proofs.Common.{◌≡◌, refl, ap, ◌∙◌, ℕ, ◌&&◌}
use Rattle.ess_semantics.specs.Values.{Text, a_matrix, Value, number, truth, item, node, Values, nil, cons}
use Rattle.ess_semantics.specs.Trees.{name_ex, more_exs}
use Rattle.ess_grammar.specs.ValueTexts.{literal_of, literals_of, compound_literal, matrix_literal_of, index_literal}
use Rattle.ess_grammar.specs.Readable.{is_name_token}
use Rattle.ess_print_laws.specs.Spelled.{is_spelled, are_spelled, may_have, are_spelled_indices}
use Rattle.ess_member_literals_laws.proofs.PartLiterals.{AgreesOn, AgreeOn}

module _ (f g : Text → ℕ → Text) where
  mutual
    -- The literals are one.
    pub same-literal : (v : Value) → AgreesOn f g v → literal_of f v ≡ literal_of g v
    same-literal (number n) h = refl
    same-literal (truth b) h = refl
    same-literal (item t k) h = ap name_ex h
    same-literal (node a_matrix (cons (node k is) (cons (node l xs) nil))) h = ap (matrix_literal_of (index_literal is)) (same-literals xs h)
    same-literal (node k vs) h = ap (compound_literal k) (same-literals vs h)

    pub same-literals : (vs : Values) → AgreeOn f g vs → literals_of f vs ≡ literals_of g vs
    same-literals nil h = refl
    same-literals (cons v vs) h =
        ap (λ e. more_exs e (literals_of f vs)) (same-literal v h.0) ∙ ap (more_exs (literal_of g v)) (same-literals vs h.1)

  mutual
    -- It is spelled by both or by none.
    pub same-spelled : (v : Value) → AgreesOn f g v → is_spelled f v ≡ is_spelled g v
    same-spelled (number n) h = refl
    same-spelled (truth b) h = refl
    same-spelled (item t k) h = ap is_name_token h
    same-spelled (node a_matrix (cons (node k is) (cons (node l nil) nil))) h = refl
    same-spelled (node a_matrix (cons (node k is) (cons (node l (cons x xs)) nil))) h =
        ap (λ b. are_spelled_indices is && b) (all-spelled (cons x xs) h)
    same-spelled (node k vs) h = ap (λ b. may_have k vs && b) (all-spelled vs h)

    pub all-spelled : (vs : Values) → AgreeOn f g vs → are_spelled f vs ≡ are_spelled g vs
    all-spelled nil h = refl
    all-spelled (cons v vs) h =
        ap (λ b. b && are_spelled f vs) (same-spelled v h.0) ∙ ap (λ b. is_spelled g v && b) (all-spelled vs h.1)
