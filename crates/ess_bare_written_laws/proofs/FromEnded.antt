-- A tree that rules end in is lean with the numbers that it spells.
use Rattle.std.proofs.Common.{ℕ, Bool, true, false, [], ◌++◌, ℤ, Option}
use Rattle.ess_semantics.specs.Values.{Text}
use Rattle.ess_semantics.specs.Names.{Names}
use Rattle.ess_semantics.specs.Trees.{Ex, Exs, Gens}
use Rattle.ess_semantics.specs.Occurrences.{parts_of, parts_of_all, parts_of_gens}
use Rattle.ess_semantics.proofs.Tests.{and-left}
use Rattle.ess_bare_laws.specs.Lean.{Lean, Ended, a_number, a_truth, a_name, a_cell, by_one, by_two, by_power, by_truth, by_fold, by_items, by_greatest, by_order, Leans, last_lean, more_leans, Terms, no_terms, more_terms, Row, listed, alone, Ranging, behind_all, over_truths, over_numbers, under}
use Rattle.ess_bare_written_laws.proofs.FromBare.{Of, left, right}

-- Any number, and any name.
abbrev any : ℤ → Bool
any k = true

abbrev anyone : Text → Bool
anyone a = true

module _ (cells : Text → Option (Bool × ℕ)) (ok : ℤ → Bool) where
  abbrev L : Names Bool → Ex → Bool → Type 0
  L = Lean cells ok anyone false

  mutual
    -- It is lean with a property that its numbers have.
    pub from-ended : {r : Names Bool} {e : Ex} {m : Bool} → Ended cells r e m → Of ok (parts_of e) → L r e m
    from-ended (a_number {k = k} q) h = a_number (and-left (ok k) true h)
    from-ended a_truth h = a_truth
    from-ended (a_name q) h = a_name q
    from-ended (a_cell q l) h = a_cell q (terms-ended l h)
    from-ended (by_one {x = x} w f) h = by_one w (from-ended f (left ok (parts_of x) [] h))
    from-ended (by_two {x = x} {y = y} w f k) h =
        by_two w (from-ended f (left ok (parts_of x) (parts_of y ++ []) h))
        (from-ended k (left ok (parts_of y) [] (right ok (parts_of x) (parts_of y ++ []) h)))
    from-ended (by_power {x = x} {y = y} f k) h =
        by_power (from-ended f (left ok (parts_of x) (parts_of y ++ []) h))
        (from-ended k (left ok (parts_of y) [] (right ok (parts_of x) (parts_of y ++ []) h)))
    from-ended (by_truth {x = x} f) h = by_truth (from-ended f (left ok (parts_of x) [] h))
    from-ended (by_fold {e = e} {gs = gs} w s f) h =
        let p = left ok (parts_of e ++ parts_of_gens gs) [] h in
        by_fold w (ranging-ended s (right ok (parts_of e) (parts_of_gens gs) p)) (from-ended f (left ok (parts_of e) (parts_of_gens gs) p))
    from-ended (by_items {es = es} w l) h = by_items w (leans-ended l (left ok (parts_of_all es) [] h))
    from-ended (by_greatest {x = x} {y = y} f k) h =
        let p = left ok (parts_of x ++ (parts_of y ++ [])) [] h in
        by_greatest (from-ended f (left ok (parts_of x) (parts_of y ++ []) p))
        (from-ended k (left ok (parts_of y) [] (right ok (parts_of x) (parts_of y ++ []) p)))
    from-ended (by_order {x = x} {y = y} w f k) h =
        by_order w (row-ended f (left ok (parts_of x) (parts_of y ++ []) h))
        (row-ended k (left ok (parts_of y) [] (right ok (parts_of x) (parts_of y ++ []) h)))

    leans-ended : {r : Names Bool} {es : Exs} {m : Bool} → Leans cells any anyone false r es m → Of ok (parts_of_all es) →
        Leans cells ok anyone false r es m
    leans-ended (last_lean {e = e} f) h = last_lean (from-ended f (left ok (parts_of e) [] h))
    leans-ended (more_leans {e = e} {es = es} f l) h =
        more_leans (from-ended f (left ok (parts_of e) (parts_of_all es) h)) (leans-ended l (right ok (parts_of e) (parts_of_all es) h))

    terms-ended : {w : Bool} {r : Names Bool} {es : Exs} {k : ℕ} → Terms cells any anyone false w r es k → Of ok (parts_of_all es) →
        Terms cells ok anyone false w r es k
    terms-ended no_terms h = no_terms
    terms-ended (more_terms {e = e} {es = es} w f l) h =
        more_terms w (from-ended f (left ok (parts_of e) (parts_of_all es) h)) (terms-ended l (right ok (parts_of e) (parts_of_all es) h))

    row-ended : {r : Names Bool} {e : Ex} {m : Bool} → Row cells any anyone false r e m → Of ok (parts_of e) →
        Row cells ok anyone false r e m
    row-ended (listed {e = e} {gs = gs} s f) h =
        listed (ranging-ended s (right ok (parts_of e) (parts_of_gens gs) h)) (from-ended f (left ok (parts_of e) (parts_of_gens gs) h))
    row-ended (alone {e = e} f) h = alone (from-ended f (left ok (parts_of e) [] h))

    ranging-ended : {r t : Names Bool} {gs : Gens} → Ranging cells any anyone false r gs t → Of ok (parts_of_gens gs) →
        Ranging cells ok anyone false r gs t
    ranging-ended behind_all h = behind_all
    ranging-ended (over_truths q s) h = over_truths q (ranging-ended s h)
    ranging-ended (over_numbers {es = es} {gs = gs} q b l s) h =
        over_numbers q b (terms-ended l (left ok (parts_of_all es) (parts_of_gens gs) h))
        (ranging-ended s (right ok (parts_of_all es) (parts_of_gens gs) h))
    ranging-ended (under {c = c} {gs = gs} f s) h =
        under (from-ended f (left ok (parts_of c) (parts_of_gens gs) h)) (ranging-ended s (right ok (parts_of c) (parts_of_gens gs) h))
