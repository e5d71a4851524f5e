-- A step at a part keeps what is given, for names that grow by those that it takes.
use Rattle.std.proofs.Common.{◌≡◌, refl, sym, ap, subst, ◌∙◌, ℕ, zero, suc, ◌+◌, ◌≤◌, ◌<◌, ◌^◌, Bool, true, false, ◌&&◌, ◌||◌, List, [], ◌∷◌, ◌++◌, length, Option, Some, None, arith}
use Rattle.std.specs.List.{list_all}
use Rattle.ess_semantics.specs.declared.words.Fun.{Fun}
use Rattle.ess_semantics.specs.Values.{Text}
use Rattle.ess_semantics.specs.Order.{same_text}
use Rattle.ess_semantics.specs.Names.{Names}
use Rattle.ess_semantics.specs.Trees.{name_pat, Ex, comp_ex, ex2, fun1, from}
use Rattle.ess_semantics.specs.Types.{Ty}
use Rattle.ess_semantics.specs.Contexts.{In, fill}
use Rattle.ess_semantics.proofs.Texts.{same_text-equal}
use Rattle.ess_semantics.proofs.Tests.{and-left, and-right, and-both, both-ways}
use Rattle.ess_refine_laws.specs.LeavingConditions.{Parted, at_last_condition}
use Rattle.ess_refine_laws.specs.Copies.{opposite_of}
use Rattle.ess_refine_laws.specs.AllRules.{Rule, over_a_source, of_one_source, equal_matrices_at, least_under_a_condition, least_of_alternatives, opposite_copied, rewrite}
use Rattle.ess_given_laws.specs.conjure_model_laws.ToldApart.{reserved, told, told_apart}
use Rattle.ess_given_laws.specs.ess_chain_names_laws.Steps.{reserved_from, supply_at, behind_copy, behind_names}
use Rattle.ess_given_laws.specs.PartsHave.{PartsHave}
use Rattle.ess_given_laws.specs.Given.{is_fixed, are_fixed_gens, given, GivenIn}
use Rattle.ess_given_laws.specs.GivenStays.{KeepsGiven, draws_fixed, binds_fixed, TakesGiven, NewGiven}
use Rattle.ess_given_laws.proofs.FixedTrees.{fixed, fixed-has, has-fixed, given-has}
use Rattle.ess_given_laws.proofs.FixedNumbers.{every-dom}
use Rattle.ess_given_laws.proofs.PartsOfListings.{PartedHas, parted-names, everywhere-names, gens-everywhere}
use Rattle.ess_given_laws.proofs.GivenStays.{given-stays}
use Rattle.ess_given_conditions_laws.specs.GivenChains.{CountsNothing, IsGivenStep, by_given_rule, by_new_names, SparesAll, StaysGiven}
use Rattle.ess_given_conditions_laws.specs.GrowingNames.{HasNoneFrom, Grows}
use Rattle.ess_given_conditions_laws.proofs.Assigned.{assigned, Assigned, at-first, at-later, as-assigned, assigned-grows}
use Rattle.ess_given_conditions_laws.proofs.Marks.{marks, ex-number}
use Rattle.ess_given_conditions_laws.proofs.MoreFixed.{fixed-among, given-among}
use Rattle.ess_given_conditions_laws.proofs.ToldGiven.{fixed-told, given-told}
use Rattle.ess_given_conditions_laws.proofs.ScopedGiven.{fixed-scoped, given-scoped}
use Rattle.ess_given_conditions_laws.proofs.GivenAxes.{axis-of-others}
use Rattle.ess_given_conditions_laws.proofs.FixedParts.{of-part}

-- ---- which names a rule takes

-- Those for the components of a domain.
abbrev pub trues : ℕ → List Bool
trues zero = []
trues (suc k) = true ∷ trues k

-- Those of a copy.
abbrev pub marks-of : (Text → Bool) → Fun → Ex → Option Parted → List Bool
marks-of u f e None = []
marks-of u f e (Some t) = marks u u (opposite_of f e t)

abbrev pub opposite-marks : (Text → Bool) → Ex → List Bool
opposite-marks u (fun1 false f (comp_ex e gs)) = marks-of u f e (at_last_condition gs)
opposite-marks u e = []

abbrev pub copy-marks : (Text → Bool) → Rule → Ex → List Bool
copy-marks u least_under_a_condition e = opposite-marks u e
copy-marks u r e = []

-- All of them, in order.
abbrev pub taken-marks : (Text → Bool) → ℕ → Rule → Ex → List Bool
taken-marks u k r e = binds_fixed u r e ∷ binds_fixed u r e ∷ true ∷ (trues k ++ copy-marks u r e)

-- ---- how many they are

nothing-more : (j : ℕ) → j ≡ j + 0
nothing-more j = omega arith

opposite-number : (u : Text → Bool) (j : ℕ) (e : Ex) → behind_copy j e ≡ j + length (opposite-marks u e)
opposite-number u j (fun1 false f (comp_ex e gs)) = go (at_last_condition gs)
  where
    go : (o : Option Parted) → ◌≡◌ {A = ℕ} (elim o [
      | None ↦ j
      | Some t ↦ (told (opposite_of f e t) [] j).1
    ]) (j + length (marks-of u f e o))
    go None = nothing-more j
    go (Some t) = ex-number u (opposite_of f e t) u [] j
opposite-number u j e = nothing-more j

pub copy-number : (u : Text → Bool) (j : ℕ) (r : Rule) (e : Ex) → behind_names j r e ≡ j + length (copy-marks u r e)
copy-number u j least_under_a_condition e = opposite-number u j e
copy-number u j r e = nothing-more j

pub trues-number : (k : ℕ) (xs : List Bool) → length (trues k ++ xs) ≡ k + length xs
trues-number zero xs = omega arith
trues-number (suc k) xs = let r = trues-number k xs in omega (arith, r)

pub trues-alone : (k : ℕ) → length (trues k) ≡ k
trues-alone zero = refl
trues-alone (suc k) = let r = trues-alone k in omega (arith, r)

pub fit : (n k m b c t : ℕ) → t ≡ k + c → b ≡ n + 3 + k + c → b ≤ m → n + suc (suc (suc t)) ≤ m
fit n k m b c t p q l = omega (arith, p, q, l)

-- ---- what a rule asks, of names that have what u has of the tree

module _ (u v w : Text → Bool) (more : (a : Text) → u a ≡ true → v a ≡ true) (same : (a : Text) → w a ≡ true → v a ≡ u a) where
  up : (a : Text) → w a ≡ true → u a ≡ true → v a ≡ true
  up a k h = same a k ∙ h

  down : (a : Text) → w a ≡ true → v a ≡ true → u a ≡ true
  down a k h = sym (same a k) ∙ h

  pub back : (e : Ex) → is_fixed w e ≡ true → GivenIn v e → GivenIn u e
  back e k h = given-among w v u (λ a q. sym (same a q)) e k h

  fixed-same : (e : Ex) → is_fixed w e ≡ true → is_fixed v e ≡ is_fixed u e
  fixed-same e k = both-ways (is_fixed v e) (is_fixed u e) (fixed-among w v u down e k) (fixed-among w u v up e k)

  drawn-same : (e : Ex) → is_fixed w e ≡ true → draws_fixed v e ≡ draws_fixed u e
  drawn-same (fun1 m f (comp_ex e (from (name_pat y) t hs))) k =
      same y (and-left (w y) (is_fixed w t && are_fixed_gens w hs) (and-right (is_fixed w e) (are_fixed_gens w (from (name_pat y) t hs))
      (and-left (is_fixed w (comp_ex e (from (name_pat y) t hs))) true k)))
  drawn-same _ k = refl

  either-same : (a b c d : Bool) → a ≡ c → b ≡ d → a || b ≡ c || d
  either-same a b c d p q = ap (λ x. x || b) p ∙ ap (λ x. c || x) q

  binds-same : (r : Rule) (e : Ex) → is_fixed w e ≡ true → binds_fixed v r e ≡ binds_fixed u r e
  binds-same over_a_source e k =
      either-same (is_fixed v e) (draws_fixed v e) (is_fixed u e) (draws_fixed u e) (fixed-same e k) (drawn-same e k)
  binds-same of_one_source e k =
      either-same (is_fixed v e) (draws_fixed v e) (is_fixed u e) (draws_fixed u e) (fixed-same e k) (drawn-same e k)
  binds-same least_of_alternatives e k =
      either-same (is_fixed v e) (draws_fixed v e) (is_fixed u e) (draws_fixed u e) (fixed-same e k) (drawn-same e k)
  binds-same r e k = fixed-same e k

  -- A tree told apart.
  pub anew : (n : ℕ) (e : Ex) → is_fixed w e ≡ true → Assigned v n (marks u u e) → KeepsGiven v e (told_apart n e)
  anew n e k a = record {
    given = λ h. given-told u v more e u [] n more a (given-scoped u e u (λ c q. q) (back e k h));
    fixed = λ h. fixed-told u v more e u [] n more a (fixed-scoped u e u (λ c q. q) (fixed-among w v u down e k h));
  }

  -- A copy.
  pub copied : (n k : ℕ) (e : Ex) → is_fixed w e ≡ true → Assigned v (n + 3 + k) (opposite-marks u e) →
      KeepsGiven v e (opposite_copied (supply_at n k) e)
  copied n k (fun1 false f (comp_ex e gs)) q a = record {
    given = λ h. let i = back (fun1 false f (comp_ex e gs)) q h in
        to-given (at_last_condition gs) (parted-names (given u) gs i.0.1) a i.0.0 h;
    fixed = λ h. let i = fixed-has u (fun1 false f (comp_ex e gs)) (fixed-among w v u down (fun1 false f (comp_ex e gs)) q h) in
        to-fixed (at_last_condition gs) (parted-names (fixed u) gs i.0.1) a i.0.0 h;
  }
    where
      to-given : (o : Option Parted) → PartedHas (given u) o → Assigned v (n + 3 + k) (marks-of u f e o) → GivenIn u e →
          GivenIn v (fun1 false f (comp_ex e gs)) → GivenIn v (elim o [
            | None ↦ fun1 false f (comp_ex e gs)
            | Some t ↦ told_apart (n + 3 + k) (opposite_of f e t)
          ])
      to-given None p a i h = h
      to-given (Some t) p a i h = given-told u v more (opposite_of f e t) u [] (n + 3 + k) more a
          (given-scoped u (opposite_of f e t) u (λ c q. q) (
            (
              everywhere-names (given u) (every-dom u) e i,
              gens-everywhere (given u)
                  (every-dom u) t.before p.0,
            ),
            tt,
          ))

      to-fixed : (o : Option Parted) → PartedHas (fixed u) o → Assigned v (n + 3 + k) (marks-of u f e o) → PartsHave (fixed u) e →
          is_fixed v (fun1 false f (comp_ex e gs)) ≡ true → is_fixed v (elim o [
            | None ↦ fun1 false f (comp_ex e gs)
            | Some t ↦ told_apart (n + 3 + k) (opposite_of f e t)
          ]) ≡ true
      to-fixed None p a i h = h
      to-fixed (Some t) p a i h = fixed-told u v more (opposite_of f e t) u [] (n + 3 + k) more a
          (fixed-scoped u (opposite_of f e t) u (λ c q. q) (has-fixed u (opposite_of f e t)
          ((everywhere-names (fixed u) (every-dom u) e i, gens-everywhere (fixed u) (every-dom u) t.before p.0), tt)))
  copied n k e q a = record { given = λ h. h; fixed = λ h. h }

  taken : (n k : ℕ) (r : Rule) (e : Ex) → CountsNothing r e → is_fixed w e ≡ true → Assigned v (n + 3 + k) (copy-marks u r e) →
      GivenIn v e → TakesGiven v (supply_at n k) r e
  taken n k equal_matrices_at (ex2 m o x y) c q a h = (axis-of-others v x c.0 h.0, axis-of-others v y c.1 h.1.0)
  taken n k least_under_a_condition e c q a h = copied n k e q a
  taken n k r e c q a h = tt

  parts-true : (n k : ℕ) → Assigned v n (trues k) → list_all v (reserved_from n k) ≡ true
  parts-true n zero a = refl
  parts-true n (suc k) a = and-both (v (reserved n)) (list_all v (reserved_from (suc n) k)) a.0 (parts-true (suc n) k a.1)

  at-number : (i j : ℕ) (b : Bool) → i ≡ j → v (reserved i) ≡ b → v (reserved j) ≡ b
  at-number i j b q h = subst (λ x. v (reserved x) ≡ b) q h

  pub new : (n k : ℕ) (r : Rule) (e : Ex) → CountsNothing r e → is_fixed w e ≡ true → Assigned v n (taken-marks u k r e) → GivenIn v e →
      NewGiven v (supply_at n k) r e
  new n k r e c q a h = record {
    one = a.0 ∙ sym (binds-same r e q);
    other = at-number (suc n) (n + 1) (binds_fixed u r e) (omega arith) a.1.0 ∙ sym (binds-same r e q);
    third = at-number (suc (suc n)) (n + 2) true (omega arith) a.1.1.0;
    parts = parts-true (n + 3) k (subst (λ x. Assigned v x (trues k)) three (at-first v (suc (suc (suc n))) (trues k) (copy-marks u r e)
        a.1.1.1));
    taken = taken n k r e c q (at-later v (suc (suc (suc n))) (n + 3 + k) (trues k) (copy-marks u r e) behind a.1.1.1) h;
  }
    where
      three : suc (suc (suc n)) ≡ n + 3
      three = omega arith

      behind : n + 3 + k ≡ suc (suc (suc n)) + length (trues k)
      behind = let r = trues-alone k in omega (arith, r)

  pub by-rule : (n k : ℕ) (g : Names Ty) (r : Rule) (a b : Ex) → CountsNothing r a → rewrite (supply_at n k) g r a ≡ Some b →
      is_fixed w a ≡ true → Assigned v n (taken-marks u k r a) → KeepsGiven v a b
  by-rule n k g r a b c f q i = record {
    given = λ h. given-stays.by_each_rule v (supply_at n k) g r a b f (new n k r a c q i h) h;
    fixed = λ h. given-stays.of_fixed_trees v (supply_at n k) g r a b f (new n k r a c q i (given-has v a (fixed-has v a h))) h;
  }

-- ---- a step

-- The names of z and those that a step takes keep what is given in what it rewrites.
record StepKeeps (n m : ℕ) (z : Text → Bool) (a b : Ex) : Type 0 where
  names : Text → Bool
  grow : Grows n m z names
  keep : KeepsGiven names a b

-- Names that have what z has but for reserved names have it of a tree that spares those.
pub same-among : (n m : ℕ) (z v w : Text → Bool) → Grows n m z v → HasNoneFrom n w → (a : Text) → w a ≡ true → v a ≡ z a
same-among n m z v w g f a t = g.but_reserved a (λ j p b. go j p b (same_text a (reserved j)) refl)
  where
    go : (j : ℕ) → n ≤ j → j < 2 ^ 64 → (x : Bool) → same_text a (reserved j) ≡ x → same_text a (reserved j) ≡ false
    go j p b false q = q
    go j p b true q = let r : true ≡ false = sym t ∙ ap w (same_text-equal a (reserved j) q) ∙ f j p b in cc

step-keeps : (z w : Text → Bool) (n m : ℕ) (g : Names Ty) (a b : Ex) → IsGivenStep n g a b m → m ≤ 2 ^ 64 → HasNoneFrom n z →
    HasNoneFrom n w → is_fixed w a ≡ true → StepKeeps n m z a b
step-keeps z w n m g a b (by_given_rule k r c f p d) l y x q = record {
  names = v;
  grow = grow;
  keep = by-rule z v w grow.more (same-among n m z v w grow x) n k g r a b c f q (as-assigned z n (taken-marks z k r a) (on j l));
}
  where
    on : n + length (taken-marks z k r a) ≤ m → m ≤ 2 ^ 64 → n + length (taken-marks z k r a) ≤ 2 ^ 64
    on i j = omega (arith, i, j)

    j : n + length (taken-marks z k r a) ≤ m
    j = fit n k m (behind_names (n + 3 + k) r a) (length (copy-marks z r a)) (length (trues k ++ copy-marks z r a))
        (trues-number k (copy-marks z r a)) (copy-number z (n + 3 + k) r a) d

    v : Text → Bool
    v = assigned z n (taken-marks z k r a)

    grow : Grows n m z v
    grow = assigned-grows z n m (taken-marks z k r a) y j l
step-keeps z w n m g a b (by_new_names d) l y x q = record {
  names = v;
  grow = grow;
  keep = anew z v w grow.more (same-among n m z v w grow x) n a q (as-assigned z n (marks z z a) (on j l));
}
  where
    on : n + length (marks z z a) ≤ m → m ≤ 2 ^ 64 → n + length (marks z z a) ≤ 2 ^ 64
    on i j = omega (arith, i, j)

    down-to : (t : ℕ) → t ≡ n + length (marks z z a) → t ≤ m → n + length (marks z z a) ≤ m
    down-to t p r = omega (arith, p, r)

    j : n + length (marks z z a) ≤ m
    j = down-to (told a [] n).1 (ex-number z a z [] n) d

    v : Text → Bool
    v = assigned z n (marks z z a)

    grow : Grows n m z v
    grow = assigned-grows z n m (marks z z a) y j l

-- What a tree spares is spared once it is told apart.
pub spares-told : (n : ℕ) (e : Ex) → SparesAll n e → (told e [] n).1 ≤ 2 ^ 64 → SparesAll (told e [] n).1 (told_apart n e)
spares-told n e s l = let m = (told e [] n).1 in
    let y = step-keeps s.among s.among n m [] e (told_apart n e) (by_new_names (itself m)) l s.spared s.spared s.has in
    record {
      among = y.names;
      has = y.keep.fixed (fixed-among s.among s.among y.names (λ a p r. y.grow.more a r) e s.has s.has);
      spared = y.grow.none_from;
    }
  where
    itself : (a : ℕ) → a ≤ a
    itself a = omega arith

-- At a part.
pub by-a-step : (u : Text → Bool) (n m : ℕ) (g : Names Ty) (a b : Ex) → IsGivenStep n g a b m → m ≤ 2 ^ 64 → (c : In) →
    HasNoneFrom n u → SparesAll n (fill c a) → GivenIn u (fill c a) → StaysGiven n m u (fill c b)
by-a-step u n m g a b i l c f s h =
    let q = of-part s.among a c s.has in
    let x = step-keeps u s.among n m g a b i l f s.spared q in
    let y = step-keeps s.among s.among n m g a b i l s.spared s.spared q in
    record {
      names = x.names;
      grow = x.grow;
      given = (given-stays.at_a_part x.names c a b x.keep).given
          (given-among s.among u x.names (same-among n m u x.names s.among x.grow s.spared) (fill c a) s.has h);
      spares = record {
        among = y.names;
        has = (given-stays.at_a_part y.names c a b y.keep).fixed
            (fixed-among s.among s.among y.names (λ e p r. y.grow.more e r) (fill c a) s.has s.has);
        spared = y.grow.none_from;
      };
    }
