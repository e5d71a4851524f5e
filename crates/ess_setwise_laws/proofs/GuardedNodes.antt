-- Nodes of terms that have a value under no condition stay as they are, whether natural places count or not.
use Rattle.std.proofs.Common.{◌≡◌, ap, ◌∙◌, Bool, true, false, List, []}
use Rattle.ess_semantics.specs.declared.words.Op1.{Op1}
use Rattle.ess_semantics.specs.declared.words.Op2.{Op2}
use Rattle.ess_semantics.specs.declared.words.Fun.{Fun}
use Rattle.ess_semantics.specs.Values.{Text}
use Rattle.ess_semantics.specs.Names.{Names}
use Rattle.ess_semantics.specs.Trees.{Ex, comp_ex, Gens, ex1, ex2, fun1}
use Rattle.ess_guard_laws.specs.Origins.{Origin, known_behind}
use Rattle.ess_guard_laws.specs.Guard.{guarded, guarded_gens, conditions}
use Rattle.ess_flat_laws.specs.Flat.{OneOp, TwoOp, denied, negative, absolute, both, either, implied, agreeing, equal, unequal, below, at_most, above, at_least, sum, difference, product}
use Rattle.ess_seen_laws.specs.ess_bare_laws.Lean.{FoldWord, of_all, of_some, of_sum}
use Rattle.ess_seen_laws.specs.Seen.{Compares, alike, apart, included, properly_included, including, properly_including}
use Rattle.ess_setwise_laws.proofs.GuardLists.{two-kept, fold-kept, both-kept}

module _ (p q : Text) where
  abbrev conds : Bool → Names Origin → Bool → Ex → List Ex
  conds n = conditions n p q

  abbrev kept : Bool → Names Origin → Ex → Ex
  kept n = guarded n p q

  -- An operator on two scalars.
  pub two-guarded : (n : Bool) {b m i : Bool} {o : Op2} (x y : Ex) → TwoOp b o m i →
      ((k : Names Origin) (w : Bool) → conds n k w x ≡ []) → ((k : Names Origin) (w : Bool) → conds n k w y ≡ []) → (k : Names Origin) →
      kept n k x ≡ x → kept n k y ≡ y → kept n k (ex2 b o x y) ≡ ex2 b o x y
  two-guarded n x y both f h k c d = both-kept true Op2.And x y _ _ c d
  two-guarded n x y either f h k c d = both-kept true Op2.Or x y _ _ c d
  two-guarded n x y implied f h k c d = both-kept true Op2.Implies x y _ _ c d
  two-guarded n x y agreeing f h k c d = both-kept true Op2.Iff x y _ _ c d
  two-guarded true x y equal f h k c d =
      two-kept Op2.Eq x y (kept true k x) (kept true k y) (conds true k true x) (conds true k true y) (f k true) (h k true) c d
  two-guarded false x y equal f h k c d =
      two-kept Op2.Eq x y (kept false k x) (kept false k y) (conds false k false x) (conds false k false y) (f k false) (h k false) c d
  two-guarded true x y unequal f h k c d =
      two-kept Op2.Ne x y (kept true k x) (kept true k y) (conds true k true x) (conds true k true y) (f k true) (h k true) c d
  two-guarded false x y unequal f h k c d =
      two-kept Op2.Ne x y (kept false k x) (kept false k y) (conds false k false x) (conds false k false y) (f k false) (h k false) c d
  two-guarded true x y below f h k c d =
      two-kept Op2.Lt x y (kept true k x) (kept true k y) (conds true k true x) (conds true k true y) (f k true) (h k true) c d
  two-guarded false x y below f h k c d =
      two-kept Op2.Lt x y (kept false k x) (kept false k y) (conds false k false x) (conds false k false y) (f k false) (h k false) c d
  two-guarded true x y at_most f h k c d =
      two-kept Op2.Le x y (kept true k x) (kept true k y) (conds true k true x) (conds true k true y) (f k true) (h k true) c d
  two-guarded false x y at_most f h k c d =
      two-kept Op2.Le x y (kept false k x) (kept false k y) (conds false k false x) (conds false k false y) (f k false) (h k false) c d
  two-guarded true x y above f h k c d =
      two-kept Op2.Gt x y (kept true k x) (kept true k y) (conds true k true x) (conds true k true y) (f k true) (h k true) c d
  two-guarded false x y above f h k c d =
      two-kept Op2.Gt x y (kept false k x) (kept false k y) (conds false k false x) (conds false k false y) (f k false) (h k false) c d
  two-guarded true x y at_least f h k c d =
      two-kept Op2.Ge x y (kept true k x) (kept true k y) (conds true k true x) (conds true k true y) (f k true) (h k true) c d
  two-guarded false x y at_least f h k c d =
      two-kept Op2.Ge x y (kept false k x) (kept false k y) (conds false k false x) (conds false k false y) (f k false) (h k false) c d
  two-guarded n x y sum f h k c d = both-kept false Op2.Plus x y _ _ c d
  two-guarded n x y difference f h k c d = both-kept false Op2.Minus x y _ _ c d
  two-guarded n x y product f h k c d = both-kept false Op2.Times x y _ _ c d

  -- An operator on one.
  pub one-guarded : (n : Bool) {b m : Bool} {o : Op1} (x : Ex) → OneOp b o m → (k : Names Origin) → kept n k x ≡ x →
      kept n k (ex1 b o x) ≡ ex1 b o x
  one-guarded n x denied k c = ap (ex1 true Op1.Not) c
  one-guarded n x negative k c = ap (ex1 false Op1.Minus) c
  one-guarded n x absolute k c = ap (ex1 false Op1.Bar) c

  -- A comparison of sets stays.
  pub compared-guarded : (n : Bool) {o : Op2} (x y : Ex) → Compares o → ((k : Names Origin) (w : Bool) → conds n k w x ≡ []) →
      ((k : Names Origin) (w : Bool) → conds n k w y ≡ []) → (k : Names Origin) → kept n k x ≡ x → kept n k y ≡ y →
      kept n k (ex2 true o x y) ≡ ex2 true o x y
  compared-guarded true x y alike f h k c d =
      two-kept Op2.Eq x y (kept true k x) (kept true k y) (conds true k true x) (conds true k true y) (f k true) (h k true) c d
  compared-guarded false x y alike f h k c d =
      two-kept Op2.Eq x y (kept false k x) (kept false k y) (conds false k false x) (conds false k false y) (f k false) (h k false) c d
  compared-guarded true x y apart f h k c d =
      two-kept Op2.Ne x y (kept true k x) (kept true k y) (conds true k true x) (conds true k true y) (f k true) (h k true) c d
  compared-guarded false x y apart f h k c d =
      two-kept Op2.Ne x y (kept false k x) (kept false k y) (conds false k false x) (conds false k false y) (f k false) (h k false) c d
  compared-guarded true x y included f h k c d =
      two-kept Op2.SubsetEq x y (kept true k x) (kept true k y) (conds true k false x) (conds true k false y) (f k false) (h k false) c d
  compared-guarded false x y included f h k c d =
      two-kept Op2.SubsetEq x y (kept false k x) (kept false k y) (conds false k false x) (conds false k false y) (f k false) (h k false)
      c d
  compared-guarded true x y properly_included f h k c d =
      two-kept Op2.Subset x y (kept true k x) (kept true k y) (conds true k false x) (conds true k false y) (f k false) (h k false) c d
  compared-guarded false x y properly_included f h k c d =
      two-kept Op2.Subset x y (kept false k x) (kept false k y) (conds false k false x) (conds false k false y) (f k false) (h k false) c d
  compared-guarded true x y including f h k c d =
      two-kept Op2.SupsetEq x y (kept true k x) (kept true k y) (conds true k false x) (conds true k false y) (f k false) (h k false) c d
  compared-guarded false x y including f h k c d =
      two-kept Op2.SupsetEq x y (kept false k x) (kept false k y) (conds false k false x) (conds false k false y) (f k false) (h k false)
      c d
  compared-guarded true x y properly_including f h k c d =
      two-kept Op2.Supset x y (kept true k x) (kept true k y) (conds true k false x) (conds true k false y) (f k false) (h k false) c d
  compared-guarded false x y properly_including f h k c d =
      two-kept Op2.Supset x y (kept false k x) (kept false k y) (conds false k false x) (conds false k false y) (f k false) (h k false) c d

  -- A membership in a set does.
  pub in-guarded : (n : Bool) (x y : Ex) → ((k : Names Origin) (w : Bool) → conds n k w x ≡ []) →
      ((k : Names Origin) (w : Bool) → conds n k w y ≡ []) → (k : Names Origin) →
      kept n k x ≡ x → kept n k y ≡ y → kept n k (ex2 true Op2.Member x y) ≡ ex2 true Op2.Member x y
  in-guarded true x y f h k c d =
      two-kept Op2.Member x y (kept true k x) (kept true k y) (conds true k false x) (conds true k false y) (f k false) (h k false) c d
  in-guarded false x y f h k c d =
      two-kept Op2.Member x y (kept false k x) (kept false k y) (conds false k false x) (conds false k false y) (f k false) (h k false) c d

  -- A word on a list.
  pub fold-guarded : (n : Bool) {m : Bool} {f : Fun} (e : Ex) (gs : Gens) → FoldWord m f → (k : Names Origin) →
      conds n k false (comp_ex e gs) ≡ [] → kept n (known_behind gs k) e ≡ e → guarded_gens n p q k gs ≡ gs →
      kept n k (fun1 m f (comp_ex e gs)) ≡ fun1 m f (comp_ex e gs)
  fold-guarded true e gs of_all k u c d =
      fold-kept Fun.And e (kept true (known_behind gs k) e) gs (guarded_gens true p q k gs) (conds true k false (comp_ex e gs)) u c d
  fold-guarded false e gs of_all k u c d =
      fold-kept Fun.And e (kept false (known_behind gs k) e) gs (guarded_gens false p q k gs) (conds false k false (comp_ex e gs)) u c d
  fold-guarded true e gs of_some k u c d =
      fold-kept Fun.Or e (kept true (known_behind gs k) e) gs (guarded_gens true p q k gs) (conds true k false (comp_ex e gs)) u c d
  fold-guarded false e gs of_some k u c d =
      fold-kept Fun.Or e (kept false (known_behind gs k) e) gs (guarded_gens false p q k gs) (conds false k false (comp_ex e gs)) u c d
  fold-guarded n e gs of_sum k u c d =
      ap (λ z. fun1 false Fun.Sum (comp_ex z (guarded_gens n p q k gs))) c ∙ ap (λ z. fun1 false Fun.Sum (comp_ex e z)) d
