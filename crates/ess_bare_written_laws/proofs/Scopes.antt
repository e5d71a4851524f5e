-- In a simplified lean tree no bound name hides another one where none did, and names are bound no deeper.
use Rattle.std.proofs.Common.{ℕ, zero, suc, Bool, true, false, ℤ, Option}
use Rattle.ess_semantics.specs.declared.words.Op1.{Op1}
use Rattle.ess_semantics.specs.declared.words.Op2.{Op2}
use Rattle.ess_semantics.specs.Values.{Text}
use Rattle.ess_semantics.specs.Names.{Names}
use Rattle.ess_semantics.specs.Trees.{name_pat, Ex, Exs, Gens, over, Dom, bool_dom, int_dom, ex1, ex2}
use Rattle.ess_semantics.specs.Scoped.{with_names, Scoped, ScopedExs, ScopedGens}
use Rattle.ess_simplify_laws.specs.declared.words.Outcome.{Outcome}
use Rattle.ess_simplify_laws.specs.Simplifying.{said, denied as undenied, outcome, left, simplified, all_simplified, gens_simplified}
use Rattle.ess_depth_laws.specs.Depth.{NestsWithin, AllNestWithin, NestBehind, DomNestsWithin}
use Rattle.ess_flat_laws.specs.Flat.{denied, negative, absolute, TwoOp, both, either, implied, agreeing, equal, unequal, below, at_most, above, at_least, sum, difference, product}
use Rattle.ess_bare_laws.specs.Bare.{before, not_behind}
use Rattle.ess_bare_laws.specs.Lean.{Lean, a_number, a_truth, a_name, a_cell, by_one, by_two, by_power, by_truth, by_fold, by_items, by_greatest, by_order, Leans, last_lean, more_leans, Terms, no_terms, more_terms, Row, listed, alone, Ranging, behind_all, over_truths, over_numbers, under}
use Rattle.ess_bare_written_laws.proofs.Simplifying.{simplified-lean}

-- An expression behind generators, where so many names may be bound.
abbrev pub Item : Ex → ℕ → Type 0
Item e k = NestsWithin k e

module _ (z : Text → Bool) where
  -- Names are apart in the new tree where they are in the old one, and are bound no deeper.
  pub record Smaller (old new : Ex) : Type 0 where
    pub scoped : (s o : Text → Bool) → Scoped z s o old → Scoped z s o new
    pub nests : (n : ℕ) → NestsWithin n old → NestsWithin n new

  record AllSmaller (old new : Exs) : Type 0 where
    scoped : (s o : Text → Bool) → ScopedExs z s o old → ScopedExs z s o new
    nests : (n : ℕ) → AllNestWithin n old → AllNestWithin n new

  -- Whatever stands behind the generators.
  record GensSmaller (old new : Gens) : Type 0 where
    scoped : (e f : Ex) → ((s o : Text → Bool) → Scoped z s o e → Scoped z s o f) → (s o : Text → Bool) →
        ScopedGens z s o old (λ s o. Scoped z s o e) → ScopedGens z s o new (λ s o. Scoped z s o f)
    nests : (e f : Ex) → ((k : ℕ) → NestsWithin k e → NestsWithin k f) → (n : ℕ) → NestBehind n old (Item e) → NestBehind n new (Item f)

  -- One more generator.
  over-nests : (a : Text) (d c : Dom) (gs hs : Gens) → ((n : ℕ) → DomNestsWithin n d → DomNestsWithin n c) →
      (e f : Ex) → ((n : ℕ) → NestBehind n gs (Item e) → NestBehind n hs (Item f)) → (n : ℕ) →
      NestBehind n (over (name_pat a) d gs) (Item e) → NestBehind n (over (name_pat a) c hs) (Item f)
  over-nests a d c gs hs b e f g zero h = absurd h
  over-nests a d c gs hs b e f g (suc n) h = (b (suc n) h.0, g n h.1)

  same : (e : Ex) → Smaller e e
  same e = record { scoped = λ s o h. h; nests = λ n h. h }

  follow : {a b c : Ex} → Smaller a b → Smaller b c → Smaller a c
  follow p q = record {
    scoped = λ s o h. q.scoped s o (p.scoped s o h);
    nests = λ n h. q.nests n (p.nests n h);
  }

  of-two : (m : Bool) (p : Op2) {x y v w : Ex} → Smaller x v → Smaller y w → Smaller (ex2 m p x y) (ex2 m p v w)
  of-two m p f g = record {
    scoped = λ s o h. (f.scoped s o h.0, (g.scoped s o h.1.0, tt));
    nests = λ n h. (f.nests n h.0, (g.nests n h.1.0, tt));
  }

  module _ (cells : Text → Option (Bool × ℕ)) (ok : ℤ → Bool) (fine : Text → Bool) (plain : Bool) where
    abbrev L : Names Bool → Ex → Bool → Type 0
    L = Lean cells ok fine plain

    -- ---- nodes

    denied-smaller : {r : Names Bool} {x : Ex} → L r x true → Smaller (ex1 true Op1.Not x) (undenied true x)
    denied-smaller a_truth = record { scoped = λ s o h. tt; nests = λ n h. tt }
    denied-smaller (a_name q) = same _
    denied-smaller (a_cell q l) = same _
    denied-smaller (by_one denied f) = record { scoped = λ s o h. h.0.0; nests = λ n h. h.0.0 }
    denied-smaller (by_two w f k) = same _
    denied-smaller (by_fold w l f) = same _
    denied-smaller (by_items w l) = same _
    denied-smaller (by_order w f k) = same _

    left-smaller : {r : Names Bool} {x y : Ex} → L r x true → L r y true → (p : Op2) (c : Outcome) →
        Smaller (ex2 true p x y) (left true p x y c)
    left-smaller f g p Outcome.Stays = same _
    left-smaller f g p Outcome.First = record { scoped = λ s o h. h.0; nests = λ n h. h.0 }
    left-smaller f g p Outcome.Second = record { scoped = λ s o h. h.1.0; nests = λ n h. h.1.0 }
    left-smaller f g p Outcome.FirstDenied =
        let d = denied-smaller f in record { scoped = λ s o h. d.scoped s o (h.0, tt); nests = λ n h. d.nests n (h.0, tt) }
    left-smaller f g p Outcome.SecondDenied =
        let d = denied-smaller g in record { scoped = λ s o h. d.scoped s o (h.1.0, tt); nests = λ n h. d.nests n (h.1.0, tt) }
    left-smaller f g p (Outcome.Says v) = record { scoped = λ s o h. tt; nests = λ n h. tt }

    two-smaller : {r : Names Bool} {b m k : Bool} {p : Op2} {x y : Ex} → TwoOp b p m k → L r x m → L r y k →
        Smaller (ex2 b p x y) (left b p x y (outcome p (said x) (said y)))
    two-smaller {x = x} {y = y} both f g = left-smaller f g Op2.And (outcome Op2.And (said x) (said y))
    two-smaller {x = x} {y = y} either f g = left-smaller f g Op2.Or (outcome Op2.Or (said x) (said y))
    two-smaller {x = x} {y = y} implied f g = left-smaller f g Op2.Implies (outcome Op2.Implies (said x) (said y))
    two-smaller {x = x} {y = y} agreeing f g = left-smaller f g Op2.Iff (outcome Op2.Iff (said x) (said y))
    two-smaller equal f g = same _
    two-smaller unequal f g = same _
    two-smaller below f g = same _
    two-smaller at_most f g = same _
    two-smaller above f g = same _
    two-smaller at_least f g = same _
    two-smaller sum f g = same _
    two-smaller difference f g = same _
    two-smaller product f g = same _

    -- ---- trees

    mutual
      pub simplified-smaller : {r : Names Bool} {e : Ex} {m : Bool} → L r e m → Smaller e (simplified e)
      simplified-smaller (a_number q) = same _
      simplified-smaller a_truth = same _
      simplified-smaller (a_name q) = same _
      simplified-smaller (a_cell q l) = let t = terms-smaller l in record { scoped = t.scoped; nests = t.nests }
      simplified-smaller (by_one {x = x} denied f) =
          let d = simplified-smaller f in
          follow {a = ex1 true Op1.Not x} {b = ex1 true Op1.Not (simplified x)} {c = undenied true (simplified x)}
          (record { scoped = λ s o h. (d.scoped s o h.0, tt); nests = λ n h. (d.nests n h.0, tt) })
          (denied-smaller (simplified-lean cells ok fine plain f))
      simplified-smaller (by_one {x = x} negative f) = let d = simplified-smaller f in
          record { scoped = λ s o h. (d.scoped s o h.0, tt); nests = λ n h. (d.nests n h.0, tt) }
      simplified-smaller (by_one {x = x} absolute f) = let d = simplified-smaller f in
          record { scoped = λ s o h. (d.scoped s o h.0, tt); nests = λ n h. (d.nests n h.0, tt) }
      simplified-smaller (by_two {b = b} {o = p} {x = x} {y = y} w f g) =
          follow {a = ex2 b p x y} {b = ex2 b p (simplified x) (simplified y)}
          {c = left b p (simplified x) (simplified y) (outcome p (said (simplified x)) (said (simplified y)))}
          (of-two b p (simplified-smaller f) (simplified-smaller g))
          (two-smaller w (simplified-lean cells ok fine plain f) (simplified-lean cells ok fine plain g))
      simplified-smaller (by_power f g) = of-two false Op2.Pow (simplified-smaller f) (simplified-smaller g)
      simplified-smaller (by_truth {x = x} f) = let d = simplified-smaller f in
          record { scoped = λ s o h. (d.scoped s o h.0, tt); nests = λ n h. (d.nests n h.0, tt) }
      simplified-smaller (by_fold {e = e} {gs = gs} w l f) =
          let g = ranging-smaller l in
          let d = simplified-smaller f in record {
            scoped = λ s o h. (g.scoped e (simplified e) d.scoped s o h.0, tt);
            nests = λ n h. (g.nests e (simplified e) d.nests n h.0, tt);
          }
      simplified-smaller (by_items w l) = let t = leans-smaller l in
          record { scoped = λ s o h. (t.scoped s o h.0, tt); nests = λ n h. (t.nests n h.0, tt) }
      simplified-smaller (by_greatest f g) =
          let d = simplified-smaller f in
          let e = simplified-smaller g in record {
            scoped = λ s o h. ((d.scoped s o h.0.0, (e.scoped s o h.0.1.0, tt)), tt);
            nests = λ n h. ((d.nests n h.0.0, (e.nests n h.0.1.0, tt)), tt);
          }
      simplified-smaller (by_order before f g) = of-two true Op2.LexLt (row-smaller f) (row-smaller g)
      simplified-smaller (by_order not_behind f g) = of-two true Op2.LexLe (row-smaller f) (row-smaller g)

      leans-smaller : {r : Names Bool} {es : Exs} {m : Bool} → Leans cells ok fine plain r es m → AllSmaller es (all_simplified es)
      leans-smaller (last_lean f) = let d = simplified-smaller f in
          record { scoped = λ s o h. (d.scoped s o h.0, tt); nests = λ n h. (d.nests n h.0, tt) }
      leans-smaller (more_leans f l) =
          let d = simplified-smaller f in
          let t = leans-smaller l in record {
            scoped = λ s o h. (d.scoped s o h.0, t.scoped s o h.1);
            nests = λ n h. (d.nests n h.0, t.nests n h.1);
          }

      terms-smaller : {w : Bool} {r : Names Bool} {es : Exs} {k : ℕ} → Terms cells ok fine plain w r es k →
          AllSmaller es (all_simplified es)
      terms-smaller no_terms = record { scoped = λ s o h. tt; nests = λ n h. tt }
      terms-smaller (more_terms w f l) =
          let d = simplified-smaller f in
          let t = terms-smaller l in record {
            scoped = λ s o h. (d.scoped s o h.0, t.scoped s o h.1);
            nests = λ n h. (d.nests n h.0, t.nests n h.1);
          }

      row-smaller : {r : Names Bool} {e : Ex} {m : Bool} → Row cells ok fine plain r e m → Smaller e (simplified e)
      row-smaller (listed {e = e} {gs = gs} l f) =
          let g = ranging-smaller l in
          let d = simplified-smaller f in record {
            scoped = λ s o h. g.scoped e (simplified e) d.scoped s o h;
            nests = λ n h. g.nests e (simplified e) d.nests n h;
          }
      row-smaller (alone {e = e} f) = let d = simplified-smaller f in
          record { scoped = λ s o h. (d.scoped s o h.0, tt); nests = λ n h. (d.nests n h.0, tt) }

      ranging-smaller : {r t : Names Bool} {gs : Gens} → Ranging cells ok fine plain r gs t → GensSmaller gs (gens_simplified gs)
      ranging-smaller behind_all = record { scoped = λ e f k s o h. k s o h; nests = λ e f k n h. k n h }
      ranging-smaller (over_truths {a = a} {gs = gs} c l) =
          let g = ranging-smaller l in record {
            scoped = λ e f k s o h. (h.0, tt, g.scoped e f k (with_names s (name_pat a)) (with_names o (name_pat a)) h.2);
            nests = λ e f k. over-nests a bool_dom bool_dom gs (gens_simplified gs) (λ n h. tt) e f (g.nests e f k);
          }
      ranging-smaller (over_numbers {a = a} {rs = rs} {es = es} {gs = gs} c b n l) =
          let t = terms-smaller n in
          let g = ranging-smaller l in record {
            scoped = λ e f k s o h. (h.0, t.scoped s o h.1, g.scoped e f k (with_names s (name_pat a)) (with_names o (name_pat a)) h.2);
            nests = λ e f k. over-nests a (int_dom rs es) (int_dom rs (all_simplified es)) gs (gens_simplified gs) t.nests e f
                (g.nests e f k);
          }
      ranging-smaller (under f l) =
          let d = simplified-smaller f in
          let g = ranging-smaller l in record {
            scoped = λ e f k s o h. (d.scoped s o h.0, g.scoped e f k s o h.1);
            nests = λ e f k n h. (d.nests n h.0, g.nests e f k n h.1);
          }
