-- What is written for a refined tree of a membership.
use Rattle.std.proofs.Common.{◌≡◌, refl, sym, ap, ◌∙◌, subst, true, false, if◌then◌else◌, List, [], ◌∷◌, Some, None}
use Rattle.ess_semantics.specs.declared.words.Op2.{Op2}
use Rattle.ess_semantics.specs.declared.words.Fun.{Fun}
use Rattle.ess_semantics.specs.Lists.{or_default}
use Rattle.ess_semantics.specs.Values.{Text}
use Rattle.ess_semantics.specs.Order.{same_text}
use Rattle.ess_semantics.specs.Names.{Names}
use Rattle.ess_semantics.specs.Trees.{name_pat, Ex, name_ex, cell_ex, no_gens, no_exs, more_exs, over, cond, Dom, bool_dom, ex2, fun1}
use Rattle.ess_semantics.specs.Refined.{is_refined}
use Rattle.ess_semantics.proofs.Texts.{same_text-itself}
use Rattle.ess_guard_laws.specs.Origins.{runs_over, comes_from}
use Rattle.ess_simplify_laws.specs.Simplifying.{simplified, dom_simplified}
use Rattle.ess_keys_laws.specs.Keyed.{Around, nothing_around, keyed, keyed_dom}
use Rattle.conjure_model_laws.specs.Printed.{printed_name, printed, printed_dom}
use Rattle.ess_member_trees_laws.specs.Memberships.{Literal, a_number, a_truth, at_number, at_cell, Axis, truths, numbers, cell_at, is_it, some_of, over_set, where_cell, with_bare, with_it, alone, a_cell, a_bare, an_it, Family, as_asked, the_cell, of_set, folded, listed}
use Rattle.ess_member_rules_laws.specs.WrittenForms.{index_of, literal_number, where_index, with_index, Written, by_number, by_condition, by_conjunction}

-- ---- literals and domains

simple-literal : {L : Ex} → Literal L → simplified L ≡ L
simple-literal a_number = refl
simple-literal a_truth = refl

keyed-literal : {L : Ex} (c : Around) → Literal L → keyed c L ≡ L
keyed-literal c a_number = refl
keyed-literal c a_truth = refl

printed-literal : {L : Ex} (taken : List Text) (r : Names Text) → Literal L → printed taken L r ≡ L
printed-literal taken r a_number = refl
printed-literal taken r a_truth = refl

simple-axis : {A : Dom} → Axis A → dom_simplified A ≡ A
simple-axis truths = refl
simple-axis (numbers at_number at_number) = refl
simple-axis (numbers at_number at_cell) = refl
simple-axis (numbers at_cell at_number) = refl
simple-axis (numbers at_cell at_cell) = refl

keyed-axis : {A : Dom} (c : Around) → Axis A → keyed_dom c A ≡ A
keyed-axis c truths = refl
keyed-axis c (numbers at_number at_number) = refl
keyed-axis c (numbers at_number at_cell) = refl
keyed-axis c (numbers at_cell at_number) = refl
keyed-axis c (numbers at_cell at_cell) = refl

printed-axis : {A : Dom} (taken : List Text) (r : Names Text) → Axis A → printed_dom taken A r ≡ A
printed-axis taken r truths = refl
printed-axis taken r (numbers at_number at_number) = refl
printed-axis taken r (numbers at_number at_cell) = refl
printed-axis taken r (numbers at_cell at_number) = refl
printed-axis taken r (numbers at_cell at_cell) = refl

-- An index with its key.
index-key : {A : Dom} (x : Text) → Axis A →
    (if comes_from (if same_text x x then Some (runs_over A) else None) bool_dom then fun1 false Fun.ToInt (name_ex x) else name_ex x)
    ≡ index_of A x
index-key {A} x a = ap (λ b. if comes_from (if b then Some (runs_over A) else None) bool_dom then fun1 false Fun.ToInt
    (name_ex x) else name_ex x)
    (same_text-itself x) ∙ go a
  where
    go : {B : Dom} → Axis B → (if comes_from (Some (runs_over B)) bool_dom then fun1 false Fun.ToInt (name_ex x) else name_ex x)
        ≡ index_of B x
    go truths = refl
    go (numbers at_number at_number) = refl
    go (numbers at_number at_cell) = refl
    go (numbers at_cell at_number) = refl
    go (numbers at_cell at_cell) = refl

module _ (n : Text) (A : Dom) (L : Ex) (ax : Axis A) (l : Literal L) where
  -- The folds, with what stands for the literal, the domain, the index, and the name.
  abbrev conditioned : Ex → Dom → Ex → Ex → Text → Ex
  conditioned k d i z x = some_of n A L (ex2 true Op2.Eq z k) (over (name_pat x) d (cond (cell_ex true n (more_exs i no_exs)) no_gens))

  abbrev conjoined : Ex → Dom → Ex → Ex → Text → Ex
  conjoined k d i z x =
      some_of n A L (ex2 true Op2.And (cell_ex true n (more_exs i no_exs)) (ex2 true Op2.Eq z k)) (over (name_pat x) d no_gens)

  -- Simplified first.
  simple-where : (x : Text) → simplified (where_cell n A L x) ≡ where_cell n A L x
  simple-where x = ap (λ k. conditioned k (dom_simplified A) (name_ex x) (name_ex x) x) (simple-literal l)
      ∙ ap (λ d. conditioned L d (name_ex x) (name_ex x) x) (simple-axis ax)

  simple-it : (x : Text) → simplified (with_it n A L x) ≡ with_it n A L x
  simple-it x = ap (λ k. conjoined k (dom_simplified A) (name_ex x) (name_ex x) x) (simple-literal l)
      ∙ ap (λ d. conjoined L d (name_ex x) (name_ex x) x) (simple-axis ax)

  simple-bare : (x : Text) → simplified (with_bare n A L x) ≡ with_bare n A L x
  simple-bare x =
      ap (λ k. some_of n A L (ex2 true Op2.And (cell_at n A L (name_ex x)) (some_of n A L (ex2 true Op2.Eq (name_ex x) k) no_gens))
      (over (name_pat x) (dom_simplified A) no_gens)) (simple-literal l)
      ∙ ap (λ d. some_of n A L (ex2 true Op2.And (cell_at n A L (name_ex x)) (some_of n A L (is_it n A L x) no_gens))
      (over (name_pat x) d no_gens)) (simple-axis ax)

  -- With plain keys.
  abbrev key_index : Text → Dom → Ex
  key_index x d =
      if comes_from (if same_text x x then Some (runs_over d) else None) bool_dom then fun1 false Fun.ToInt (name_ex x) else name_ex x

  keyed-where : (x : Text) → keyed nothing_around (where_cell n A L x) ≡ where_index n A L x
  keyed-where x =
      ap (λ k. conditioned k (keyed_dom nothing_around A) (key_index x (keyed_dom nothing_around A)) (name_ex x) x) (keyed-literal _ l)
      ∙ ap (λ d. conditioned L d (key_index x d) (name_ex x) x) (keyed-axis nothing_around ax)
      ∙ ap (λ i. conditioned L A i (name_ex x) x) (index-key x ax)

  keyed-it : (x : Text) → keyed nothing_around (with_it n A L x) ≡ with_index n A L x
  keyed-it x =
      ap (λ k. conjoined k (keyed_dom nothing_around A) (key_index x (keyed_dom nothing_around A)) (name_ex x) x) (keyed-literal _ l)
      ∙ ap (λ d. conjoined L d (key_index x d) (name_ex x) x) (keyed-axis nothing_around ax)
      ∙ ap (λ i. conjoined L A i (name_ex x) x) (index-key x ax)

  keyed-bare : (x : Text) → keyed nothing_around (with_bare n A L x) ≡ with_index n A L x
  keyed-bare x =
      ap (λ k. conjoined k (keyed_dom nothing_around A) (key_index x (keyed_dom nothing_around A)) (name_ex x) x) (keyed-literal _ l)
      ∙ ap (λ d. conjoined L d (key_index x d) (name_ex x) x) (keyed-axis nothing_around ax)
      ∙ ap (λ i. conjoined L A i (name_ex x) x) (index-key x ax)

  -- Simplified again.
  simple-index : {B : Dom} (x : Text) → Axis B → simplified (index_of B x) ≡ index_of B x
  simple-index x truths = refl
  simple-index x (numbers p q) = refl

  again-where : (x : Text) → simplified (where_index n A L x) ≡ where_index n A L x
  again-where x = ap (λ k. conditioned k (dom_simplified A) (simplified (index_of A x)) (name_ex x) x) (simple-literal l)
      ∙ ap (λ d. conditioned L d (simplified (index_of A x)) (name_ex x) x) (simple-axis ax)
      ∙ ap (λ i. conditioned L A i (name_ex x) x) (simple-index x ax)

  again-it : (x : Text) → simplified (with_index n A L x) ≡ with_index n A L x
  again-it x = ap (λ k. conjoined k (dom_simplified A) (simplified (index_of A x)) (name_ex x) x) (simple-literal l)
      ∙ ap (λ d. conjoined L d (simplified (index_of A x)) (name_ex x) x) (simple-axis ax)
      ∙ ap (λ i. conjoined L A i (name_ex x) x) (simple-index x ax)

  -- With the printed name.
  module _ (taken : List Text) where
    abbrev y : Text
    y = printed_name taken 0

    named : (x : Text) → or_default (if same_text x x then Some y else None) x ≡ y
    named x = ap (λ b. or_default (if b then Some y else None) x) (same_text-itself x)

    printed-index : {B : Dom} (x : Text) → Axis B → printed taken (index_of B x) ((x, y) ∷ []) ≡ index_of B y
    printed-index x truths = ap (λ z. fun1 false Fun.ToInt (name_ex z)) (named x)
    printed-index x (numbers p q) = ap name_ex (named x)

    printed-where : (x : Text) → printed taken (where_index n A L x) [] ≡ where_index n A L y
    printed-where x =
        ap (λ k. conditioned k (printed_dom taken A []) (printed taken (index_of A x) ((x, y) ∷ [])) (printed taken (name_ex x)
        ((x, y) ∷ [])) y)
        (printed-literal taken ((x, y) ∷ []) l)
        ∙ ap (λ d. conditioned L d (printed taken (index_of A x) ((x, y) ∷ [])) (printed taken (name_ex x) ((x, y) ∷ [])) y)
        (printed-axis taken [] ax)
        ∙ ap (λ i. conditioned L A i (printed taken (name_ex x) ((x, y) ∷ [])) y) (printed-index x ax)
        ∙ ap (λ z. conditioned L A (index_of A y) (name_ex z) y) (named x)

    printed-it : (x : Text) → printed taken (with_index n A L x) [] ≡ with_index n A L y
    printed-it x =
        ap (λ k. conjoined k (printed_dom taken A []) (printed taken (index_of A x) ((x, y) ∷ [])) (printed taken (name_ex x)
        ((x, y) ∷ [])) y)
        (printed-literal taken ((x, y) ∷ []) l)
        ∙ ap (λ d. conjoined L d (printed taken (index_of A x) ((x, y) ∷ [])) (printed taken (name_ex x) ((x, y) ∷ [])) y)
        (printed-axis taken [] ax)
        ∙ ap (λ i. conjoined L A i (printed taken (name_ex x) ((x, y) ∷ [])) y) (printed-index x ax)
        ∙ ap (λ z. conjoined L A (index_of A y) (name_ex z) y) (named x)

    abbrev W : Ex → Ex
    W e = printed taken (simplified (keyed nothing_around (simplified e))) []

    written-where : (x : Text) → W (where_cell n A L x) ≡ where_index n A L y
    written-where x = ap (λ e. printed taken (simplified (keyed nothing_around e)) []) (simple-where x)
        ∙ ap (λ e. printed taken (simplified e) []) (keyed-where x) ∙ ap (λ e. printed taken e []) (again-where x) ∙ printed-where x

    written-bare : (x : Text) → W (with_bare n A L x) ≡ with_index n A L y
    written-bare x = ap (λ e. printed taken (simplified (keyed nothing_around e)) []) (simple-bare x)
        ∙ ap (λ e. printed taken (simplified e) []) (keyed-bare x) ∙ ap (λ e. printed taken e []) (again-it x) ∙ printed-it x

    written-it : (x : Text) → W (with_it n A L x) ≡ with_index n A L y
    written-it x = ap (λ e. printed taken (simplified (keyed nothing_around e)) []) (simple-it x)
        ∙ ap (λ e. printed taken (simplified e) []) (keyed-it x) ∙ ap (λ e. printed taken e []) (again-it x) ∙ printed-it x

    written-cell : {K : Ex} → Literal K → W (cell_at n A K K) ≡ cell_at n A K (literal_number K)
    written-cell a_number = refl
    written-cell (a_truth {b = true}) = refl
    written-cell (a_truth {b = false}) = refl

    -- A fold alone in a list is itself.
    alone-where : (x : Text) → W (alone n A L (where_cell n A L x)) ≡ W (where_cell n A L x)
    alone-where x = refl

    alone-bare : (x : Text) → W (alone n A L (with_bare n A L x)) ≡ W (with_bare n A L x)
    alone-bare x = refl

    alone-it : (x : Text) → W (alone n A L (with_it n A L x)) ≡ W (with_it n A L x)
    alone-it x = refl

    no-yes : false ≡ true → ⊥
    no-yes h = cc

    not-over-set : {K : Ex} (x : Text) → Literal K → is_refined (over_set n A K x) ≡ true → ⊥
    not-over-set x a_number h = no-yes h
    not-over-set x a_truth h = no-yes h

    -- So the written tree has one of the forms.
    pub forms : (e : Ex) → Family n A L e → is_refined e ≡ true → Written n A L y (W e)
    forms e as_asked r = absurd (no-yes r)
    forms e the_cell r = subst (Written n A L y) (sym (written-cell l)) by_number
    forms e (of_set {x = x}) r = absurd (not-over-set x l r)
    forms e (folded (a_cell {x = x})) r = subst (Written n A L y) (sym (written-where x)) by_condition
    forms e (folded (a_bare {x = x})) r = subst (Written n A L y) (sym (written-bare x)) by_conjunction
    forms e (folded (an_it {x = x})) r = subst (Written n A L y) (sym (written-it x)) by_conjunction
    forms e (listed (a_cell {x = x})) r = subst (Written n A L y) (sym (alone-where x ∙ written-where x)) by_condition
    forms e (listed (a_bare {x = x})) r = subst (Written n A L y) (sym (alone-bare x ∙ written-bare x)) by_conjunction
    forms e (listed (an_it {x = x})) r = subst (Written n A L y) (sym (alone-it x ∙ written-it x)) by_conjunction
