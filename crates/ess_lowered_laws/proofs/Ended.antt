-- A lean tree over declared tables, whose ranges have their bounds, is an expression of a model; and so is what is written for it.
use Rattle.std.proofs.Common.{◌≡◌, refl, ℕ, Bool, true, false, List, [], ℤ, Option}
use Rattle.ess_semantics.specs.Values.{Text}
use Rattle.ess_semantics.specs.Names.{Names}
use Rattle.ess_semantics.specs.Trees.{Ex, Exs, Gens}
use Rattle.ess_grammar.specs.Models.{Scope, is_truth_table, same_truth}
use Rattle.eprime_lowering_laws.specs.Lowerable.{is_lowerable}
use Rattle.eprime_lowering_laws.proofs.Refined.{whole}
use Rattle.ess_bare_laws.specs.Bare.{Bare}
use Rattle.ess_bare_laws.specs.Lean.{Lean, Ended, a_number, a_truth, a_name, a_cell, by_one, by_two, by_power, by_truth, by_fold, by_items, by_greatest, by_order, Leans, last_lean, more_leans, Terms, no_terms, more_terms, Row, listed, alone, Ranging, behind_all, over_truths, over_numbers, under}
use Rattle.ess_bare_written_laws.specs.Laws.{as_written}
use Rattle.ess_bare_written_laws.proofs.Forms.{lean-refined}
use Rattle.ess_bare_written_laws.proofs.Written.{bare-ended}
use Rattle.ess_lowered_laws.specs.Ranges.{RangesFit, AllRangesFit, GensFit}
use Rattle.ess_lowered_laws.specs.Laws.{Declares}
use Rattle.ess_lowered_laws.proofs.Formed.{IsFormed, AreFormed, GensFormed, tested}
use Rattle.ess_lowered_laws.proofs.Written.{written-kept}

same-mark : (b c : Bool) → c ≡ b → same_truth b c ≡ true
same-mark true c q = q
same-mark false true q = cc
same-mark false false q = refl

module _ (cells : Text → Option (Bool × ℕ)) (ok : ℤ → Bool) (fine : Text → Bool) (plain : Bool) (s : Scope)
    (declared : Declares s cells) where
  mutual
    lean-formed : {r : Names Bool} {e : Ex} {m : Bool} → Lean cells ok fine plain r e m → RangesFit e → IsFormed s e
    lean-formed (a_number q) h = tt
    lean-formed a_truth h = tt
    lean-formed (a_name q) h = tt
    lean-formed (a_cell {b = b} {n = n} {k = k} q l) h = (same-mark b (is_truth_table s n) (declared n b k q), terms-formed l h)
    lean-formed (by_one w f) h = (refl, (lean-formed f h.0, tt))
    lean-formed (by_two w f g) h = (refl, (lean-formed f h.0, (lean-formed g h.1.0, tt)))
    lean-formed (by_power f g) h = (refl, (lean-formed f h.0, (lean-formed g h.1.0, tt)))
    lean-formed (by_truth f) h = (refl, (lean-formed f h.0, tt))
    lean-formed (by_fold w g f) h = (refl, ((lean-formed f h.0.0, ranging-formed g h.0.1), tt))
    lean-formed (by_items w l) h = (refl, ((refl, leans-formed l h.0), tt))
    lean-formed (by_greatest f g) h = (refl, ((refl, (lean-formed f h.0.0, (lean-formed g h.0.1.0, tt))), tt))
    lean-formed (by_order w f g) h = (refl, (row-formed f h.0, (row-formed g h.1.0, tt)))

    leans-formed : {r : Names Bool} {es : Exs} {m : Bool} → Leans cells ok fine plain r es m → AllRangesFit es → AreFormed s es
    leans-formed (last_lean f) h = (lean-formed f h.0, tt)
    leans-formed (more_leans f l) h = (lean-formed f h.0, leans-formed l h.1)

    terms-formed : {w : Bool} {r : Names Bool} {es : Exs} {k : ℕ} → Terms cells ok fine plain w r es k → AllRangesFit es → AreFormed s es
    terms-formed no_terms h = tt
    terms-formed (more_terms w f l) h = (lean-formed f h.0, terms-formed l h.1)

    row-formed : {r : Names Bool} {e : Ex} {m : Bool} → Row cells ok fine plain r e m → RangesFit e → IsFormed s e
    row-formed (listed g f) h = (lean-formed f h.0, ranging-formed g h.1)
    row-formed (alone f) h = (refl, (lean-formed f h.0, tt))

    ranging-formed : {r t : Names Bool} {gs : Gens} → Ranging cells ok fine plain r gs t → GensFit gs → GensFormed s gs
    ranging-formed behind_all h = tt
    ranging-formed (over_truths c g) h = (tt, ranging-formed g h.1)
    ranging-formed (over_numbers c b l g) h = ((h.0.0, terms-formed l h.0.1), ranging-formed g h.1)
    ranging-formed (under f g) h = (lean-formed f h.0, ranging-formed g h.1)

  -- It is an expression of a model.
  pub lean-lowerable : {r : Names Bool} {e : Ex} {m : Bool} → Lean cells ok fine plain r e m → RangesFit e → is_lowerable s e ≡ true
  lean-lowerable {e = e} l h = whole s e (lean-refined cells ok fine plain l) (tested s e (lean-formed l h))

-- What is written for a tree that rules end in.
pub ended-lowered : (cells : Text → Option (Bool × ℕ)) (taken : List Text) (e : Ex) (m : Bool) → Ended cells [] e m → RangesFit e →
    (s : Scope) → Declares s cells → is_lowerable s (as_written taken e) ≡ true
ended-lowered cells taken e m l h s d = written-kept s taken e (lean-lowerable cells (λ k. true) (λ a. true) false s d l h)

-- What is written for a bare tree.
pub bare-lowered : (cells : Text → Option (Bool × ℕ)) (taken : List Text) (e : Ex) (m : Bool) → Bare cells [] e m → RangesFit e →
    (s : Scope) → Declares s cells → is_lowerable s (as_written taken e) ≡ true
bare-lowered cells taken e m b h s d = ended-lowered cells taken e m (bare-ended cells [] e m b) h s d
