-- Lean trees stay lean when they are simplified.
use Rattle.std.proofs.Common.{ℕ, Bool, true, ℤ, Option}
use Rattle.ess_semantics.specs.declared.words.Op2.{Op2}
use Rattle.ess_semantics.specs.Values.{Text}
use Rattle.ess_semantics.specs.Names.{Names}
use Rattle.ess_semantics.specs.Trees.{Ex, Exs, Gens}
use Rattle.ess_simplify_laws.specs.declared.words.Outcome.{Outcome}
use Rattle.ess_simplify_laws.specs.Simplifying.{said, denied as undenied, outcome, left, simplified, all_simplified, gens_simplified}
use Rattle.ess_flat_laws.specs.Flat.{denied, negative, absolute, TwoOp, both, either, implied, agreeing, equal, unequal, below, at_most, above, at_least, sum, difference, product}
use Rattle.ess_bare_laws.specs.Bare.{before, not_behind}
use Rattle.ess_bare_laws.specs.Lean.{Lean, a_number, a_truth, a_name, a_cell, by_one, by_two, by_power, by_truth, by_fold, by_items, by_greatest, by_order, Leans, last_lean, more_leans, Terms, no_terms, more_terms, Row, listed, alone, Ranging, behind_all, over_truths, over_numbers, under}

module _ (cells : Text → Option (Bool × ℕ)) (ok : ℤ → Bool) (fine : Text → Bool) (plain : Bool) where
  abbrev L : Names Bool → Ex → Bool → Type 0
  L = Lean cells ok fine plain

  -- `!` of an operand.
  denied-lean : {r : Names Bool} {x : Ex} → L r x true → L r (undenied true x) true
  denied-lean a_truth = a_truth
  denied-lean (a_name q) = by_one denied (a_name q)
  denied-lean (a_cell q l) = by_one denied (a_cell q l)
  denied-lean (by_one denied f) = f
  denied-lean (by_two w f k) = by_one denied (by_two w f k)
  denied-lean (by_fold w s f) = by_one denied (by_fold w s f)
  denied-lean (by_items w l) = by_one denied (by_items w l)
  denied-lean (by_order w f k) = by_one denied (by_order w f k)

  -- What is left of a connective.
  left-lean : {r : Names Bool} {o : Op2} {x y : Ex} → TwoOp true o true true → L r x true → L r y true → (c : Outcome) →
      L r (left true o x y c) true
  left-lean w f k Outcome.Stays = by_two w f k
  left-lean w f k Outcome.First = f
  left-lean w f k Outcome.Second = k
  left-lean w f k Outcome.FirstDenied = denied-lean f
  left-lean w f k Outcome.SecondDenied = denied-lean k
  left-lean w f k (Outcome.Says v) = a_truth

  two-lean : {r : Names Bool} {b m k : Bool} {o : Op2} {x y : Ex} → TwoOp b o m k → L r x m → L r y k →
      L r (left b o x y (outcome o (said x) (said y))) b
  two-lean both f k = left-lean both f k _
  two-lean either f k = left-lean either f k _
  two-lean implied f k = left-lean implied f k _
  two-lean agreeing f k = left-lean agreeing f k _
  two-lean equal f k = by_two equal f k
  two-lean unequal f k = by_two unequal f k
  two-lean below f k = by_two below f k
  two-lean at_most f k = by_two at_most f k
  two-lean above f k = by_two above f k
  two-lean at_least f k = by_two at_least f k
  two-lean sum f k = by_two sum f k
  two-lean difference f k = by_two difference f k
  two-lean product f k = by_two product f k

  mutual
    pub simplified-lean : {r : Names Bool} {e : Ex} {m : Bool} → L r e m → L r (simplified e) m
    simplified-lean (a_number q) = a_number q
    simplified-lean a_truth = a_truth
    simplified-lean (a_name q) = a_name q
    simplified-lean (a_cell q l) = a_cell q (simplified-terms l)
    simplified-lean (by_one denied f) = denied-lean (simplified-lean f)
    simplified-lean (by_one negative f) = by_one negative (simplified-lean f)
    simplified-lean (by_one absolute f) = by_one absolute (simplified-lean f)
    simplified-lean (by_two w f k) = two-lean w (simplified-lean f) (simplified-lean k)
    simplified-lean (by_power f k) = by_power (simplified-lean f) (simplified-lean k)
    simplified-lean (by_truth f) = by_truth (simplified-lean f)
    simplified-lean (by_fold w s f) = by_fold w (simplified-ranging s) (simplified-lean f)
    simplified-lean (by_items w l) = by_items w (simplified-leans l)
    simplified-lean (by_greatest f k) = by_greatest (simplified-lean f) (simplified-lean k)
    simplified-lean (by_order before f k) = by_order before (simplified-row f) (simplified-row k)
    simplified-lean (by_order not_behind f k) = by_order not_behind (simplified-row f) (simplified-row k)

    simplified-leans : {r : Names Bool} {es : Exs} {m : Bool} → Leans cells ok fine plain r es m →
        Leans cells ok fine plain r (all_simplified es) m
    simplified-leans (last_lean f) = last_lean (simplified-lean f)
    simplified-leans (more_leans f l) = more_leans (simplified-lean f) (simplified-leans l)

    simplified-terms : {w : Bool} {r : Names Bool} {es : Exs} {k : ℕ} → Terms cells ok fine plain w r es k →
        Terms cells ok fine plain w r (all_simplified es) k
    simplified-terms no_terms = no_terms
    simplified-terms (more_terms w f l) = more_terms w (simplified-lean f) (simplified-terms l)

    simplified-row : {r : Names Bool} {e : Ex} {m : Bool} → Row cells ok fine plain r e m → Row cells ok fine plain r (simplified e) m
    simplified-row (listed s f) = listed (simplified-ranging s) (simplified-lean f)
    simplified-row (alone f) = alone (simplified-lean f)

    simplified-ranging : {r t : Names Bool} {gs : Gens} → Ranging cells ok fine plain r gs t →
        Ranging cells ok fine plain r (gens_simplified gs) t
    simplified-ranging behind_all = behind_all
    simplified-ranging (over_truths c s) = over_truths c (simplified-ranging s)
    simplified-ranging (over_numbers c b l s) = over_numbers c b (simplified-terms l) (simplified-ranging s)
    simplified-ranging (under k s) = under (simplified-lean k) (simplified-ranging s)
