-- Lean trees are refined, use no names but those that are bound around them, and mean the same wherever these names and the tables are the
-- same.
use Rattle.std.proofs.Common.{◌≡◌, refl, ap, ◌∙◌, ℕ, Bool, true, false, ◌&&◌, ◌||◌, if◌then◌else◌, List, [], ◌∷◌, ℤ, Option, Some, option_map}
use Rattle.std.specs.Prelude.{IsTrue}
use Rattle.ess_semantics.specs.declared.words.Op2.{Op2}
use Rattle.ess_semantics.specs.declared.words.Fun.{Fun}
use Rattle.ess_semantics.specs.Values.{Text, Value, truth}
use Rattle.ess_semantics.specs.Order.{same_text}
use Rattle.ess_semantics.specs.Names.{Names, look}
use Rattle.ess_semantics.specs.Kinds.{is_bounded}
use Rattle.ess_semantics.specs.Trees.{unary, binary, word, matrix_literal, name_pat, Ex, Exs, Gens, int_dom}
use Rattle.ess_semantics.specs.Operators.{value_of_node, false_where_undefined, list_value}
use Rattle.ess_semantics.specs.Domains.{integers}
use Rattle.ess_semantics.specs.Tables.{Table}
use Rattle.ess_semantics.specs.Scoped.{with_names}
use Rattle.ess_semantics.specs.FreeNames.{with_bound_names, FreeNamesAre, FreeNamesAreExs, FreeNamesAreGens}
use Rattle.ess_semantics.specs.Refined.{is_refined, are_refined, is_refined_list, are_refined_gens}
use Rattle.ess_semantics.specs.Meaning.{Env, TypeEntry, with_pat, collect, meaning, meanings, items_under, domain_of, members_in, spans_of, cell_in, indices}
use Rattle.ess_semantics.proofs.Tests.{and-both}
use Rattle.ess_rules_laws.proofs.Simulation.{Vals, E, collect-same, and_then-same, where-same}
use Rattle.ess_flat_laws.specs.Flat.{denied, negative, absolute, both, either, implied, agreeing, equal, unequal, below, at_most, above, at_least, sum, difference, product}
use Rattle.ess_bare_laws.specs.Bare.{before, not_behind}
use Rattle.ess_bare_laws.specs.Lean.{of_all, of_some, of_sum, Lean, a_number, a_truth, a_name, a_cell, by_one, by_two, by_power, by_truth, by_fold, by_items, by_greatest, by_order, Leans, last_lean, more_leans, Terms, no_terms, more_terms, Row, listed, alone, Ranging, behind_all, over_truths, over_numbers, under}

-- ---- tests

one-scalar : (a : Bool) → a ≡ true → (a && true) || false ≡ true
one-scalar true e = refl
one-scalar false e = cc

two-scalars : (a b : Bool) → a ≡ true → b ≡ true → (a && (b && true)) || false ≡ true
two-scalars true true e f = refl
two-scalars true false e f = cc
two-scalars false b e f = cc

one-list : (a : Bool) → a ≡ true → a && true ≡ true
one-list true e = refl
one-list false e = cc

two-lists : (a b : Bool) → a ≡ true → b ≡ true → a && (b && true) ≡ true
two-lists true true e f = refl
two-lists true false e f = cc
two-lists false b e f = cc

module _ (cells : Text → Option (Bool × ℕ)) (ok : ℤ → Bool) (fine : Text → Bool) (plain : Bool) where
  abbrev L : Names Bool → Ex → Bool → Type 0
  L = Lean cells ok fine plain

  -- ---- refined trees

  mutual
    pub lean-refined : {r : Names Bool} {e : Ex} {m : Bool} → L r e m → is_refined e ≡ true
    lean-refined (a_number q) = refl
    lean-refined a_truth = refl
    lean-refined (a_name q) = refl
    lean-refined (a_cell q l) = terms-refined l
    lean-refined (by_one {x = x} denied f) = one-scalar (is_refined x) (lean-refined f)
    lean-refined (by_one {x = x} negative f) = one-scalar (is_refined x) (lean-refined f)
    lean-refined (by_one {x = x} absolute f) = one-scalar (is_refined x) (lean-refined f)
    lean-refined (by_two {x = x} {y = y} both f h) = two-scalars (is_refined x) (is_refined y) (lean-refined f) (lean-refined h)
    lean-refined (by_two {x = x} {y = y} either f h) = two-scalars (is_refined x) (is_refined y) (lean-refined f) (lean-refined h)
    lean-refined (by_two {x = x} {y = y} implied f h) = two-scalars (is_refined x) (is_refined y) (lean-refined f) (lean-refined h)
    lean-refined (by_two {x = x} {y = y} agreeing f h) = two-scalars (is_refined x) (is_refined y) (lean-refined f) (lean-refined h)
    lean-refined (by_two {x = x} {y = y} equal f h) = two-scalars (is_refined x) (is_refined y) (lean-refined f) (lean-refined h)
    lean-refined (by_two {x = x} {y = y} unequal f h) = two-scalars (is_refined x) (is_refined y) (lean-refined f) (lean-refined h)
    lean-refined (by_two {x = x} {y = y} below f h) = two-scalars (is_refined x) (is_refined y) (lean-refined f) (lean-refined h)
    lean-refined (by_two {x = x} {y = y} at_most f h) = two-scalars (is_refined x) (is_refined y) (lean-refined f) (lean-refined h)
    lean-refined (by_two {x = x} {y = y} above f h) = two-scalars (is_refined x) (is_refined y) (lean-refined f) (lean-refined h)
    lean-refined (by_two {x = x} {y = y} at_least f h) = two-scalars (is_refined x) (is_refined y) (lean-refined f) (lean-refined h)
    lean-refined (by_two {x = x} {y = y} sum f h) = two-scalars (is_refined x) (is_refined y) (lean-refined f) (lean-refined h)
    lean-refined (by_two {x = x} {y = y} difference f h) = two-scalars (is_refined x) (is_refined y) (lean-refined f) (lean-refined h)
    lean-refined (by_two {x = x} {y = y} product f h) = two-scalars (is_refined x) (is_refined y) (lean-refined f) (lean-refined h)
    lean-refined (by_power {x = x} {y = y} f h) = two-scalars (is_refined x) (is_refined y) (lean-refined f) (lean-refined h)
    lean-refined (by_truth {x = x} f) = one-scalar (is_refined x) (lean-refined f)
    lean-refined (by_fold {e = e} {gs = gs} of_all s f) =
        and-both (is_refined e && are_refined_gens gs) true
        (and-both (is_refined e) (are_refined_gens gs) (lean-refined f) (ranging-refined s)) refl
    lean-refined (by_fold {e = e} {gs = gs} of_some s f) =
        and-both (is_refined e && are_refined_gens gs) true
        (and-both (is_refined e) (are_refined_gens gs) (lean-refined f) (ranging-refined s)) refl
    lean-refined (by_fold {e = e} {gs = gs} of_sum s f) =
        and-both (is_refined e && are_refined_gens gs) true
        (and-both (is_refined e) (are_refined_gens gs) (lean-refined f) (ranging-refined s)) refl
    lean-refined (by_items {es = es} of_all l) = one-list (are_refined es) (leans-refined l)
    lean-refined (by_items {es = es} of_some l) = one-list (are_refined es) (leans-refined l)
    lean-refined (by_items {es = es} of_sum l) = one-list (are_refined es) (leans-refined l)
    lean-refined (by_greatest {x = x} {y = y} f h) =
        one-list (is_refined x && (is_refined y && true)) (two-lists (is_refined x) (is_refined y) (lean-refined f) (lean-refined h))
    lean-refined (by_order {x = x} {y = y} before f h) = two-lists (is_refined_list x) (is_refined_list y) (row-refined f) (row-refined h)
    lean-refined (by_order {x = x} {y = y} not_behind f h) =
        two-lists (is_refined_list x) (is_refined_list y) (row-refined f) (row-refined h)

    leans-refined : {r : Names Bool} {es : Exs} {m : Bool} → Leans cells ok fine plain r es m → are_refined es ≡ true
    leans-refined (last_lean {e = e} f) = and-both (is_refined e) true (lean-refined f) refl
    leans-refined (more_leans {e = e} {es = es} f l) = and-both (is_refined e) (are_refined es) (lean-refined f) (leans-refined l)

    terms-refined : {w : Bool} {r : Names Bool} {es : Exs} {k : ℕ} → Terms cells ok fine plain w r es k → are_refined es ≡ true
    terms-refined no_terms = refl
    terms-refined (more_terms {e = e} {es = es} w f l) = and-both (is_refined e) (are_refined es) (lean-refined f) (terms-refined l)

    row-refined : {r : Names Bool} {e : Ex} {m : Bool} → Row cells ok fine plain r e m → is_refined_list e ≡ true
    row-refined (listed {e = e} {gs = gs} s f) = and-both (is_refined e) (are_refined_gens gs) (lean-refined f) (ranging-refined s)
    row-refined (alone {e = e} f) = and-both (is_refined e) true (lean-refined f) refl

    ranging-refined : {r t : Names Bool} {gs : Gens} → Ranging cells ok fine plain r gs t → are_refined_gens gs ≡ true
    ranging-refined behind_all = refl
    ranging-refined (over_truths c s) = ranging-refined s
    ranging-refined (over_numbers {rs = rs} {es = es} {gs = gs} c b l s) =
        and-both (is_bounded rs && are_refined es) (are_refined_gens gs) (and-both (is_bounded rs) (are_refined es) b (terms-refined l))
        (ranging-refined s)
    ranging-refined (under {c = c} {gs = gs} f s) = and-both (is_refined c) (are_refined_gens gs) (lean-refined f) (ranging-refined s)

  -- ---- free names

  -- The names are among u.
  abbrev pub Covers : Names Bool → (Text → Bool) → Type 0
  Covers r u = (a : Text) (m : Bool) → look r a ≡ Some m → IsTrue (u a)

  pub covers-more : (r : Names Bool) (u : Text → Bool) (b : Text) (n : Bool) → Covers r u → Covers ((b, n) ∷ r) (with_names u (name_pat b))
  covers-more r u b n h a m q = go (same_text b a) (u a) refl q (h a m)
    where
      go : (c d : Bool) → same_text b a ≡ c → (if c then Some n else look r a) ≡ Some m → (look r a ≡ Some m → IsTrue d) →
          IsTrue (d || same_text b a)
      go c true e q f = refl
      go true false e q f = e
      go false false e q f = let z : false ≡ true = f q in cc

  mutual
    pub lean-free : {r : Names Bool} {e : Ex} {m : Bool} → L r e m → (u : Text → Bool) → Covers r u → FreeNamesAre u e
    lean-free (a_number q) u h = tt
    lean-free a_truth u h = tt
    lean-free (a_name {a = a} {m = m} q) u h = h a m q
    lean-free (a_cell q l) u h = terms-free l u h
    lean-free (by_one w f) u h = (lean-free f u h, tt)
    lean-free (by_two w f k) u h = (lean-free f u h, (lean-free k u h, tt))
    lean-free (by_power f k) u h = (lean-free f u h, (lean-free k u h, tt))
    lean-free (by_truth f) u h = (lean-free f u h, tt)
    lean-free (by_fold {gs = gs} w s f) u h =
        let b = ranging-free s u h in ((b.0, lean-free f (with_bound_names u gs) b.1), tt)
    lean-free (by_items w l) u h = (leans-free l u h, tt)
    lean-free (by_greatest f k) u h = ((lean-free f u h, (lean-free k u h, tt)), tt)
    lean-free (by_order w f k) u h = (row-free f u h, (row-free k u h, tt))

    leans-free : {r : Names Bool} {es : Exs} {m : Bool} → Leans cells ok fine plain r es m → (u : Text → Bool) → Covers r u →
        FreeNamesAreExs u es
    leans-free (last_lean f) u h = (lean-free f u h, tt)
    leans-free (more_leans f l) u h = (lean-free f u h, leans-free l u h)

    terms-free : {w : Bool} {r : Names Bool} {es : Exs} {k : ℕ} → Terms cells ok fine plain w r es k → (u : Text → Bool) → Covers r u →
        FreeNamesAreExs u es
    terms-free no_terms u h = tt
    terms-free (more_terms w f l) u h = (lean-free f u h, terms-free l u h)

    row-free : {r : Names Bool} {e : Ex} {m : Bool} → Row cells ok fine plain r e m → (u : Text → Bool) → Covers r u → FreeNamesAre u e
    row-free (listed {gs = gs} s f) u h = let b = ranging-free s u h in (b.0, lean-free f (with_bound_names u gs) b.1)
    row-free (alone f) u h = (lean-free f u h, tt)

    ranging-free : {r t : Names Bool} {gs : Gens} → Ranging cells ok fine plain r gs t → (u : Text → Bool) → Covers r u →
        FreeNamesAreGens u gs × Covers t (with_bound_names u gs)
    ranging-free behind_all u h = (tt, h)
    ranging-free (over_truths {r = r} {a = a} c s) u h =
        let b = ranging-free s (with_names u (name_pat a)) (covers-more r u a true h) in ((tt, b.0), b.1)
    ranging-free (over_numbers {r = r} {a = a} c b l s) u h =
        let b = ranging-free s (with_names u (name_pat a)) (covers-more r u a false h) in ((terms-free l u h, b.0), b.1)
    ranging-free (under f s) u h = let b = ranging-free s u h in ((lean-free f u h, b.0), b.1)

  -- ---- meaning

  module _ (pl pl' : Bool) (ts ts' : List TypeEntry) (cs : Names Table) where
    abbrev M : Vals → Env
    M g = E pl ts cs g

    abbrev N : Vals → Env
    N g = E pl' ts' cs g

    -- The names have the same values.
    abbrev pub Agree : Names Bool → Vals → Vals → Type 0
    Agree r g h = (a : Text) (m : Bool) → look r a ≡ Some m → look g a ≡ look h a

    agree-more : (r : Names Bool) (g h : Vals) (b : Text) (n : Bool) (v : Value) → Agree r g h →
        Agree ((b, n) ∷ r) ((b, v) ∷ g) ((b, v) ∷ h)
    agree-more r g h b n v s a m q = go (same_text b a) q
      where
        go : (c : Bool) → (if c then Some n else look r a) ≡ Some m → (if c then Some v else look g a) ≡ (if c then Some v else look h a)
        go true q = refl
        go false q = s a m q

    mutual
      pub lean-same : {r : Names Bool} {e : Ex} {m : Bool} → L r e m → (g h : Vals) → Agree r g h → meaning e (M g) ≡ meaning e (N h)
      lean-same (a_number q) g h s = refl
      lean-same a_truth g h s = refl
      lean-same (a_name {a = a} {m = m} q) g h s = s a m q
      lean-same (a_cell {b = b} {n = n} q l) g h s =
          ap (λ x. false_where_undefined b (cell_in b (look cs n) (indices x))) (terms-same l g h s)
      lean-same (by_one {b = b} {o = o} w f) g h s =
          ap (λ x. false_where_undefined b (value_of_node (unary o) (x ∷ []))) (lean-same f g h s)
      lean-same (by_two {b = b} {o = o} {x = x} {y = y} w f k) g h s =
          ap (λ z. false_where_undefined b (value_of_node (binary o) (z ∷ meaning y (M g) ∷ []))) (lean-same f g h s)
          ∙ ap (λ z. false_where_undefined b (value_of_node (binary o) (meaning x (N h) ∷ z ∷ []))) (lean-same k g h s)
      lean-same (by_power {x = x} {y = y} f k) g h s =
          ap (λ z. value_of_node (binary Op2.Pow) (z ∷ meaning y (M g) ∷ [])) (lean-same f g h s)
          ∙ ap (λ z. value_of_node (binary Op2.Pow) (meaning x (N h) ∷ z ∷ [])) (lean-same k g h s)
      lean-same (by_truth f) g h s = ap (λ x. value_of_node (word Fun.ToInt) (x ∷ [])) (lean-same f g h s)
      lean-same (by_fold {b = b} {f = p} {e = e} w l f) g h s =
          ap (λ x. false_where_undefined b (value_of_node (word p) (option_map list_value x ∷ [])))
          (ranging-same l g h (λ here. option_map (λ v. v ∷ []) (meaning e here)) s
          (λ g' h' s'. ap (option_map (λ v. v ∷ [])) (lean-same f g' h' s')))
      lean-same (by_items {b = b} {f = p} w l) g h s =
          ap (λ x. false_where_undefined b (value_of_node (word p) (value_of_node matrix_literal x ∷ []))) (leans-same l g h s)
      lean-same (by_greatest {x = x} {y = y} f k) g h s =
          ap (λ z. value_of_node (word Fun.Max) (value_of_node matrix_literal (z ∷ meaning y (M g) ∷ []) ∷ [])) (lean-same f g h s)
          ∙ ap (λ z. value_of_node (word Fun.Max) (value_of_node matrix_literal (meaning x (N h) ∷ z ∷ []) ∷ [])) (lean-same k g h s)
      lean-same (by_order {o = o} {x = x} {y = y} w f k) g h s =
          ap (λ z. false_where_undefined true (value_of_node (binary o) (z ∷ meaning y (M g) ∷ []))) (row-same f g h s)
          ∙ ap (λ z. false_where_undefined true (value_of_node (binary o) (meaning x (N h) ∷ z ∷ []))) (row-same k g h s)

      leans-same : {r : Names Bool} {es : Exs} {m : Bool} → Leans cells ok fine plain r es m → (g h : Vals) → Agree r g h →
          meanings es (M g) ≡ meanings es (N h)
      leans-same (last_lean f) g h s = ap (λ x. x ∷ []) (lean-same f g h s)
      leans-same (more_leans {e = e} {es = es} f l) g h s =
          ap (λ x. x ∷ meanings es (M g)) (lean-same f g h s) ∙ ap (λ x. meaning e (N h) ∷ x) (leans-same l g h s)

      terms-same : {w : Bool} {r : Names Bool} {es : Exs} {k : ℕ} → Terms cells ok fine plain w r es k → (g h : Vals) → Agree r g h →
          meanings es (M g) ≡ meanings es (N h)
      terms-same no_terms g h s = refl
      terms-same (more_terms {e = e} {es = es} w f l) g h s =
          ap (λ x. x ∷ meanings es (M g)) (lean-same f g h s) ∙ ap (λ x. meaning e (N h) ∷ x) (terms-same l g h s)

      row-same : {r : Names Bool} {e : Ex} {m : Bool} → Row cells ok fine plain r e m → (g h : Vals) → Agree r g h →
          meaning e (M g) ≡ meaning e (N h)
      row-same (listed {e = e} l f) g h s =
          ap (option_map list_value) (ranging-same l g h (λ here. option_map (λ v. v ∷ []) (meaning e here)) s
          (λ g' h' s'. ap (option_map (λ v. v ∷ [])) (lean-same f g' h' s')))
      row-same (alone f) g h s = ap (λ x. value_of_node matrix_literal (x ∷ [])) (lean-same f g h s)

      ranging-same : {r t : Names Bool} {gs : Gens} → Ranging cells ok fine plain r gs t → (g h : Vals) → (x : Env → Option (List Value)) →
          Agree r g h → ((g' h' : Vals) → Agree t g' h' → x (M g') ≡ x (N h')) → items_under gs (M g) x ≡ items_under gs (N h) x
      ranging-same behind_all g h x s f = f g h s
      ranging-same (over_truths {r = r} {a = a} {gs = gs} c l) g h x s f =
          collect-same (truth false ∷ truth true ∷ []) (λ v. items_under gs (with_pat (name_pat a) v (M g)) x)
          (λ v. items_under gs (with_pat (name_pat a) v (N h)) x)
          (λ v. ranging-same l ((a, v) ∷ g) ((a, v) ∷ h) x (agree-more r g h a true v s) f)
      ranging-same (over_numbers {r = r} {a = a} {rs = rs} {es = es} {gs = gs} c b n l) g h x s f =
          and_then-same (members_in (domain_of (int_dom rs es) (M g))) (members_in (domain_of (int_dom rs es) (N h)))
          (λ vs. collect vs (λ v. items_under gs (with_pat (name_pat a) v (M g)) x))
          (λ vs. collect vs (λ v. items_under gs (with_pat (name_pat a) v (N h)) x))
          (ap (λ z. members_in (option_map integers (spans_of rs z))) (terms-same n g h s))
          (λ vs. collect-same vs (λ v. items_under gs (with_pat (name_pat a) v (M g)) x)
          (λ v. items_under gs (with_pat (name_pat a) v (N h)) x)
          (λ v. ranging-same l ((a, v) ∷ g) ((a, v) ∷ h) x (agree-more r g h a false v s) f))
      ranging-same (under {c = c} {gs = gs} k l) g h x s f =
          where-same (meaning c (M g)) (meaning c (N h)) (items_under gs (M g) x) (items_under gs (N h) x) (lean-same k g h s)
          (ranging-same l g h x s f)
