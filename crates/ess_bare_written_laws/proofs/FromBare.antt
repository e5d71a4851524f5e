-- Bare trees are lean; and the numbers of a lean tree have the property that is asked of them.
use Rattle.std.proofs.Common.{◌≡◌, refl, sym, ap, ◌∙◌, ℕ, Bool, true, false, ◌&&◌, List, [], ◌∷◌, ◌++◌, map, ℤ, Option}
use Rattle.std.specs.List.{list_all}
use Rattle.std.proofs.lemmas.List.Folds.{list_all-append}
use Rattle.ess_semantics.specs.Lists.{append_all}
use Rattle.ess_semantics.specs.Values.{Text}
use Rattle.ess_semantics.specs.Names.{Names}
use Rattle.ess_semantics.specs.Trees.{Ex, Exs, Gens}
use Rattle.ess_semantics.specs.Occurrences.{parts_of, parts_of_all, parts_of_gens, parts_of_dom}
use Rattle.ess_semantics.specs.Constants.{numbers_of_part}
use Rattle.ess_semantics.proofs.Tests.{and-left, and-right, and-both}
use Rattle.ess_bare_laws.specs.Bare.{all_hold, some_holds, Bare, number, truth, named, cell, one, two, power, chosen, folded, added, ordered, Indices, no_index, one_index, Row as BareRow, row, Ranging as BareRanging, at_end, through, where_holds, Axes, no_axis, along, truths, numbers, Bounds, no_bound, one_bound}
use Rattle.ess_bare_laws.specs.Lean.{of_all, of_some, of_sum, as_scalar, as_number, Lean, a_number, a_truth, a_name, a_cell, by_one, by_two, by_power, by_truth, by_fold, by_items, by_greatest, by_order, Leans, last_lean, more_leans, Terms, no_terms, more_terms, Row, listed, alone, Ranging, behind_all, over_truths, over_numbers, under}

module _ (ok : ℤ → Bool) where
  -- The numbers in these parts have the property.
  abbrev pub Of : List Ex → Type 0
  Of ps = list_all ok (append_all (map numbers_of_part ps)) ≡ true

  regroup : (a b c : Bool) → a && (b && c) ≡ (a && b) && c
  regroup true b c = refl
  regroup false b c = refl

  split : (ps rs : List Ex) → list_all ok (append_all (map numbers_of_part (ps ++ rs))) ≡
      list_all ok (append_all (map numbers_of_part ps)) && list_all ok (append_all (map numbers_of_part rs))
  split [] rs = refl
  split (p ∷ ps) rs =
      list_all-append ok (numbers_of_part p) (append_all (map numbers_of_part (ps ++ rs)))
      ∙ ap (λ b. list_all ok (numbers_of_part p) && b) (split ps rs)
      ∙ regroup (list_all ok (numbers_of_part p)) (list_all ok (append_all (map numbers_of_part ps)))
      (list_all ok (append_all (map numbers_of_part rs)))
      ∙ ap (λ b. b && list_all ok (append_all (map numbers_of_part rs)))
      (sym (list_all-append ok (numbers_of_part p) (append_all (map numbers_of_part ps))))

  pub left : (ps rs : List Ex) → Of (ps ++ rs) → Of ps
  left ps rs h = and-left (list_all ok (append_all (map numbers_of_part ps))) (list_all ok (append_all (map numbers_of_part rs)))
      (sym (split ps rs) ∙ h)

  pub right : (ps rs : List Ex) → Of (ps ++ rs) → Of rs
  right ps rs h = and-right (list_all ok (append_all (map numbers_of_part ps))) (list_all ok (append_all (map numbers_of_part rs)))
      (sym (split ps rs) ∙ h)

  both : (ps rs : List Ex) → Of ps → Of rs → Of (ps ++ rs)
  both ps rs h k = split ps rs
      ∙ and-both (list_all ok (append_all (map numbers_of_part ps))) (list_all ok (append_all (map numbers_of_part rs))) h k

  module _ (cells : Text → Option (Bool × ℕ)) (fine : Text → Bool) where
    abbrev L : Names Bool → Ex → Bool → Type 0
    L = Lean cells ok fine false

    module _ (all_fine : (a : Text) → fine a ≡ true) where
      mutual
        -- A bare tree whose numbers have the property.
        pub from-bare : {r : Names Bool} {e : Ex} {m : Bool} → Bare cells r e m → Of (parts_of e) → L r e m
        from-bare (number {k = k}) h = a_number (and-left (ok k) true h)
        from-bare truth h = a_truth
        from-bare (named q) h = a_name q
        from-bare (cell q is) h = a_cell q (from-indices is h)
        from-bare (one {x = x} w f) h = by_one w (from-bare f (left (parts_of x) [] h))
        from-bare (two {x = x} {y = y} w f k) h =
            by_two w (from-bare f (left (parts_of x) (parts_of y ++ []) h))
            (from-bare k (left (parts_of y) [] (right (parts_of x) (parts_of y ++ []) h)))
        from-bare (power {x = x} {y = y} f k) h =
            by_power (from-bare f (left (parts_of x) (parts_of y ++ []) h))
            (from-bare k (left (parts_of y) [] (right (parts_of x) (parts_of y ++ []) h)))
        from-bare (chosen {x = x} f) h = by_truth (from-bare f (left (parts_of x) [] h))
        from-bare (folded {e = e} {gs = gs} all_hold s f) h =
            let p = left (parts_of e ++ parts_of_gens gs) [] h in
            by_fold of_all (from-ranging s (right (parts_of e) (parts_of_gens gs) p)) (from-bare f (left (parts_of e) (parts_of_gens gs) p))
        from-bare (folded {e = e} {gs = gs} some_holds s f) h =
            let p = left (parts_of e ++ parts_of_gens gs) [] h in
            by_fold of_some (from-ranging s (right (parts_of e) (parts_of_gens gs) p))
            (from-bare f (left (parts_of e) (parts_of_gens gs) p))
        from-bare (added {e = e} {gs = gs} s f) h =
            let p = left (parts_of e ++ parts_of_gens gs) [] h in
            by_fold of_sum (from-axes s (right (parts_of e) (parts_of_gens gs) p)) (from-bare f (left (parts_of e) (parts_of_gens gs) p))
        from-bare (ordered {x = x} {y = y} w f k) h =
            by_order w (from-row f (left (parts_of x) (parts_of y ++ []) h))
            (from-row k (left (parts_of y) [] (right (parts_of x) (parts_of y ++ []) h)))

        from-indices : {r : Names Bool} {es : Exs} {k : ℕ} → Indices cells r es k → Of (parts_of_all es) →
            Terms cells ok fine false false r es k
        from-indices no_index h = no_terms
        from-indices (one_index {e = e} {es = es} f is) h =
            more_terms as_scalar (from-bare f (left (parts_of e) (parts_of_all es) h))
            (from-indices is (right (parts_of e) (parts_of_all es) h))

        from-row : {r : Names Bool} {e : Ex} {m : Bool} → BareRow cells r e m → Of (parts_of e) → Row cells ok fine false r e m
        from-row (row {e = e} {gs = gs} s f) h =
            listed (from-axes s (right (parts_of e) (parts_of_gens gs) h)) (from-bare f (left (parts_of e) (parts_of_gens gs) h))

        from-ranging : {r t : Names Bool} {gs : Gens} → BareRanging cells r gs t → Of (parts_of_gens gs) →
            Ranging cells ok fine false r gs t
        from-ranging at_end h = behind_all
        from-ranging (through {a = a} {d = d} {gs = gs} truths s) h = over_truths (all_fine a) (from-ranging s h)
        from-ranging (through {a = a} {d = d} {gs = gs} (numbers b es) s) h =
            let t = from-bounds es (left (parts_of_dom d) (parts_of_gens gs) h) in
            over_numbers (all_fine a) b t.1 (from-ranging s (right (parts_of_dom d) (parts_of_gens gs) h))
        from-ranging (where_holds {c = c} {gs = gs} f s) h =
            under (from-bare f (left (parts_of c) (parts_of_gens gs) h)) (from-ranging s (right (parts_of c) (parts_of_gens gs) h))

        from-axes : {r t : Names Bool} {gs : Gens} → Axes cells r gs t → Of (parts_of_gens gs) → Ranging cells ok fine false r gs t
        from-axes no_axis h = behind_all
        from-axes (along {a = a} {d = d} {gs = gs} truths s) h = over_truths (all_fine a) (from-axes s h)
        from-axes (along {a = a} {d = d} {gs = gs} (numbers b es) s) h =
            let t = from-bounds es (left (parts_of_dom d) (parts_of_gens gs) h) in
            over_numbers (all_fine a) b t.1 (from-axes s (right (parts_of_dom d) (parts_of_gens gs) h))

        from-bounds : {r : Names Bool} {es : Exs} → Bounds cells r es → Of (parts_of_all es) →
            (k : ℕ) × Terms cells ok fine false true r es k
        from-bounds no_bound h = (0, no_terms)
        from-bounds (one_bound {e = e} {es = es} f bs) h =
            let t = from-bounds bs (right (parts_of e) (parts_of_all es) h) in
            (_, more_terms as_number (from-bare f (left (parts_of e) (parts_of_all es) h)) t.1)

    -- ---- the numbers

    module _ (plain : Bool) where
      mutual
        -- The numbers of a lean tree have the property.
        pub lean-spells : {r : Names Bool} {e : Ex} {m : Bool} → Lean cells ok fine plain r e m → Of (parts_of e)
        lean-spells (a_number {k = k} q) = and-both (ok k) true q refl
        lean-spells a_truth = refl
        lean-spells (a_name q) = refl
        lean-spells (a_cell q ts) = terms-spell ts
        lean-spells (by_one {x = x} w f) = both (parts_of x) [] (lean-spells f) refl
        lean-spells (by_two {x = x} {y = y} w f k) =
            both (parts_of x) (parts_of y ++ []) (lean-spells f) (both (parts_of y) [] (lean-spells k) refl)
        lean-spells (by_power {x = x} {y = y} f k) =
            both (parts_of x) (parts_of y ++ []) (lean-spells f) (both (parts_of y) [] (lean-spells k) refl)
        lean-spells (by_truth {x = x} f) = both (parts_of x) [] (lean-spells f) refl
        lean-spells (by_fold {e = e} {gs = gs} w s f) =
            both (parts_of e ++ parts_of_gens gs) [] (both (parts_of e) (parts_of_gens gs) (lean-spells f) (ranging-spells s)) refl
        lean-spells (by_items {es = es} w l) = both (parts_of_all es) [] (leans-spell l) refl
        lean-spells (by_greatest {x = x} {y = y} f k) =
            both (parts_of x ++ (parts_of y ++ [])) []
            (both (parts_of x) (parts_of y ++ []) (lean-spells f) (both (parts_of y) [] (lean-spells k) refl)) refl
        lean-spells (by_order {x = x} {y = y} w f k) =
            both (parts_of x) (parts_of y ++ []) (row-spells f) (both (parts_of y) [] (row-spells k) refl)

        leans-spell : {r : Names Bool} {es : Exs} {m : Bool} → Leans cells ok fine plain r es m → Of (parts_of_all es)
        leans-spell (last_lean {e = e} f) = both (parts_of e) [] (lean-spells f) refl
        leans-spell (more_leans {e = e} {es = es} f l) = both (parts_of e) (parts_of_all es) (lean-spells f) (leans-spell l)

        terms-spell : {w : Bool} {r : Names Bool} {es : Exs} {k : ℕ} → Terms cells ok fine plain w r es k → Of (parts_of_all es)
        terms-spell no_terms = refl
        terms-spell (more_terms {e = e} {es = es} w f ts) = both (parts_of e) (parts_of_all es) (lean-spells f) (terms-spell ts)

        row-spells : {r : Names Bool} {e : Ex} {m : Bool} → Row cells ok fine plain r e m → Of (parts_of e)
        row-spells (listed {e = e} {gs = gs} s f) = both (parts_of e) (parts_of_gens gs) (lean-spells f) (ranging-spells s)
        row-spells (alone {e = e} f) = both (parts_of e) [] (lean-spells f) refl

        ranging-spells : {r t : Names Bool} {gs : Gens} → Ranging cells ok fine plain r gs t → Of (parts_of_gens gs)
        ranging-spells behind_all = refl
        ranging-spells (over_truths c s) = ranging-spells s
        ranging-spells (over_numbers {es = es} {gs = gs} c b ts s) =
            both (parts_of_all es) (parts_of_gens gs) (terms-spell ts) (ranging-spells s)
        ranging-spells (under {c = c} {gs = gs} f s) = both (parts_of c) (parts_of_gens gs) (lean-spells f) (ranging-spells s)

-- A property that all numbers have.
pub any-spell : (ps : List Ex) → Of (λ k. true) ps
any-spell ps = go (append_all (map numbers_of_part ps))
  where
    go : (ks : List ℤ) → list_all (λ k. true) ks ≡ true
    go [] = refl
    go (k ∷ ks) = go ks
