-- Comprehensions where order counts stay in order along chains.
use Rattle.std.proofs.Common.{◌≡◌, refl, sym, ◌∙◌, ℕ, suc, ◌+◌, ◌≤◌, ◌^◌, Bool, true, false, [], ◌++◌, length, Option, Some, None, arith}
use Rattle.ess_semantics.specs.declared.words.Fun.{Fun}
use Rattle.ess_semantics.specs.Values.{Text}
use Rattle.ess_semantics.specs.Names.{Names}
use Rattle.ess_semantics.specs.Trees.{word, Ex, comp_ex, fun1, no_exs}
use Rattle.ess_semantics.specs.Types.{Ty}
use Rattle.ess_semantics.specs.ExpressionJudgements.{forgets_order}
use Rattle.ess_semantics.specs.Contexts.{In, Ins, InGens, hole, in_operand, in_item, in_index_domain, in_body, in_generators, in_cell_index, in_view_domain, in_view_index, in_first, in_later, in_generator_domain, behind_over, in_source, behind_from, in_condition, behind_condition, fill, fill_exs, fill_gens}
use Rattle.ess_semantics.specs.NamesAt.{names_at}
use Rattle.ess_refine_laws.specs.LeavingConditions.{Parted, at_last_condition}
use Rattle.ess_refine_laws.specs.ExtremeRules.{opposite}
use Rattle.ess_refine_laws.specs.Everywhere.{everywhere, everywhere_gens}
use Rattle.ess_refine_laws.specs.Copies.{opposite_of}
use Rattle.ess_refine_laws.specs.AllRules.{Rule, least_under_a_condition, rewrite}
use Rattle.ess_given_laws.specs.conjure_model_laws.ToldApart.{told, told_apart}
use Rattle.ess_given_laws.specs.ess_chain_names_laws.Steps.{supply_at, behind_names, Chain, at_rest, one_more}
use Rattle.ess_given_laws.specs.PartsHave.{AllHave, GensHave}
use Rattle.ess_given_laws.specs.Given.{is_fixed, given, GivenIn}
use Rattle.ess_given_laws.specs.GivenStays.{KeepsGiven}
use Rattle.ess_given_laws.proofs.FixedTrees.{fixed-has, given-has}
use Rattle.ess_given_laws.proofs.FixedNumbers.{every-dom}
use Rattle.ess_given_laws.proofs.PartsOfListings.{PartedHas, parted-names, everywhere-names, gens-everywhere}
use Rattle.ess_given_laws.proofs.GivenStays.{given-stays}
use Rattle.ess_given_conditions_laws.specs.GrowingNames.{HasNoneFrom, Grows}
use Rattle.ess_given_conditions_laws.specs.GivenChains.{IsGivenStep, by_given_rule, by_new_names, SparesAll}
use Rattle.ess_given_conditions_laws.proofs.Assigned.{assigned, Assigned, at-later, as-assigned, assigned-grows}
use Rattle.ess_given_conditions_laws.proofs.Marks.{marks, ex-number}
use Rattle.ess_given_conditions_laws.proofs.MoreFixed.{given-among}
use Rattle.ess_given_conditions_laws.proofs.FixedParts.{of-part}
use Rattle.ess_given_conditions_laws.proofs.GivenSteps.{trues, marks-of, copy-marks, taken-marks, copy-number, trues-number, trues-alone, fit, anew, new, by-rule, same-among, by-a-step}
use Rattle.ess_given_conditions_laws.proofs.GivenChains.{step-up, chain-up, none-later, spares-later, grows-on}
use Rattle.ess_given_order_laws.specs.InOrder.{in_order, Ordered, InOrder}
use Rattle.ess_given_order_laws.specs.OrderStays.{TakesOrder, StaysOrdered, OrderStays}
use Rattle.ess_given_order_laws.proofs.OrderedParts.{part-order}
use Rattle.ess_given_order_laws.proofs.OrderOfListings.{of-word, worded, PartedOrder, parted-order, every-kept, every-gens}
use Rattle.ess_given_order_laws.proofs.RulesInOrder.{rule-answers}
use Rattle.ess_given_order_laws.proofs.ToldOrder.{in-told, order-told, in-among, order-among}

-- ---- a part of a tree has what is given

module _ (u : Text → Bool) (a : Ex) where
  -- In a domain everything is fixed.
  in-fixed : (c : In) → is_fixed u (fill c a) ≡ true → GivenIn u a
  in-fixed c h = given-has u a (fixed-has u a (of-part u a c h))

  mutual
    given-part : (c : In) → GivenIn u (fill c a) → GivenIn u a
    given-part hole h = h
    given-part (in_operand t op c) h = given-exs c h
    given-part (in_item c d) h = given-exs c h.0
    given-part (in_index_domain es c) h = in-fixed (in_index_domain no_exs c) h.1
    given-part (in_body c gs) h = given-part c h.0
    given-part (in_generators x c) h = given-gens c h.1
    given-part (in_cell_index t n c) h = given-exs c h.1
    given-part (in_view_domain r c ns es) h = in-fixed (in_index_domain no_exs c) h.1
    given-part (in_view_index r d ns c) h = given-exs c h.2

    given-exs : (c : Ins) → AllHave (given u) (fill_exs c a) → GivenIn u a
    given-exs (in_first c es) h = given-part c h.0
    given-exs (in_later x c) h = given-exs c h.1

    given-gens : (c : InGens) → GensHave (given u) (fill_gens c a) → GivenIn u a
    given-gens (in_generator_domain p c gs) h = in-fixed (in_index_domain no_exs c) h.1
    given-gens (behind_over p d c) h = given-gens c h.2
    given-gens (in_source p c gs) h = given-part c h.1
    given-gens (behind_from p x c) h = given-gens c h.2
    given-gens (in_condition c gs) h = given-part c h.0
    given-gens (behind_condition x c) h = given-gens c h.1

-- ---- what a step takes

opposite-forgets : (f : Fun) → forgets_order (word (opposite f)) ≡ true
opposite-forgets Fun.Min = refl
opposite-forgets f = refl

module _ (u v w : Text → Bool) (more : (a : Text) → u a ≡ true → v a ≡ true) (same : (a : Text) → w a ≡ true → v a ≡ u a) where
  down : (a : Text) → w a ≡ true → v a ≡ true → u a ≡ true
  down a k h = sym (same a k) ∙ h

  -- A tree told apart.
  anew-order : (n : ℕ) (e : Ex) → is_fixed w e ≡ true → Assigned v n (marks u u e) → GivenIn u e → Ordered v e → Ordered v (told_apart n e)
  anew-order n e k a g h = order-told u v more e u [] n more (λ c q. q) a g (order-among w v u down e k h)

  anew-in : (n : ℕ) (e : Ex) → is_fixed w e ≡ true → Assigned v n (marks u u e) → GivenIn u e → in_order v e ≡ true →
      in_order v (told_apart n e) ≡ true
  anew-in n e k a g h = in-told u v more e u [] n more (λ c q. q) a g (in-among w v u down e k h)

  -- A copy.
  copy-order : (n k : ℕ) (r : Rule) (e : Ex) → is_fixed w e ≡ true → Assigned v (n + 3 + k) (copy-marks u r e) → GivenIn u e → Ordered v e →
      TakesOrder v (supply_at n k) r e
  copy-order n k least_under_a_condition (fun1 false f (comp_ex e gs)) q a g h =
      let i = order-among w v u down (fun1 false f (comp_ex e gs)) q h in
      let o = of-word u (forgets_order (word f)) (comp_ex e gs) i in
      go (at_last_condition gs) (parted-names (given u) gs g.0.1) (parted-order u gs o.1) a g.0.0 o.0 h
    where
      go : (o : Option Parted) → PartedHas (given u) o → PartedOrder u o → Assigned v (n + 3 + k) (marks-of u f e o) → GivenIn u e →
          InOrder u e → Ordered v (fun1 false f (comp_ex e gs)) → InOrder v (elim o [
            | None ↦ fun1 false f (comp_ex e gs)
            | Some t ↦ told_apart (n + 3 + k) (opposite_of f e t)
          ])
      go None p z a g o h = (refl, h)
      go (Some t) p z a g o h = (
        refl,
        order-told u v more (opposite_of f e t) u [] (n + 3 + k) more (λ c q. q) a
            ((everywhere-names (given u) (every-dom u) e g, gens-everywhere (given u) (every-dom u) t.before p.0), tt)
            (worded u false (opposite f) (comp_ex (everywhere e) (everywhere_gens t.before)) (opposite-forgets f)
            (every-kept u e o, every-gens u t.before z.0)).1,
      )
  copy-order n k r e q a g h = tt

-- ---- a step

-- The names of z and those that a step takes keep what is given and in order in what it rewrites.
record StepOrders (n m : ℕ) (z : Text → Bool) (a b : Ex) : Type 0 where
  names : Text → Bool
  grow : Grows n m z names
  keep : KeepsGiven names a b
  order : GivenIn z a → Ordered names a → Ordered names b
  place : GivenIn z a → Ordered names a → in_order names a ≡ true → in_order names b ≡ true

step-orders : (z w : Text → Bool) (n m : ℕ) (g : Names Ty) (a b : Ex) → IsGivenStep n g a b m → m ≤ 2 ^ 64 → HasNoneFrom n z →
    HasNoneFrom n w → is_fixed w a ≡ true → StepOrders n m z a b
step-orders z w n m g a b (by_given_rule k r c f p d) l y x q = record {
  names = v;
  grow = grow;
  keep = by-rule z v w grow.more same n k g r a b c f q marked;
  order = λ i h. (answers i h).1;
  place = λ i h. (answers i h).0;
}
  where
    on : n + length (taken-marks z k r a) ≤ m → m ≤ 2 ^ 64 → n + length (taken-marks z k r a) ≤ 2 ^ 64
    on i j = omega (arith, i, j)

    j : n + length (taken-marks z k r a) ≤ m
    j = fit n k m (behind_names (n + 3 + k) r a) (length (copy-marks z r a)) (length (trues k ++ copy-marks z r a))
        (trues-number k (copy-marks z r a)) (copy-number z (n + 3 + k) r a) d

    v : Text → Bool
    v = assigned z n (taken-marks z k r a)

    grow : Grows n m z v
    grow = assigned-grows z n m (taken-marks z k r a) y j l

    same : (e : Text) → w e ≡ true → v e ≡ z e
    same = same-among n m z v w grow x

    marked : Assigned v n (taken-marks z k r a)
    marked = as-assigned z n (taken-marks z k r a) (on j l)

    behind : n + 3 + k ≡ suc (suc (suc n)) + length (trues k)
    behind = let t = trues-alone k in omega (arith, t)

    answers : GivenIn z a → Ordered v a → (in_order v a ≡ true → in_order v b ≡ true) × Ordered v b
    answers i h =
        let gv = given-among w z v same a q i in
        rule-answers v (supply_at n k) g r a b f (new z v w grow.more same n k r a c q marked gv)
        (copy-order z v w grow.more same n k r a q (at-later v (suc (suc (suc n))) (n + 3 + k) (trues k) (copy-marks z r a) behind
        marked.1.1.1) i h)
        gv h
step-orders z w n m g a b (by_new_names d) l y x q = record {
  names = v;
  grow = grow;
  keep = anew z v w grow.more same n a q marked;
  order = λ i h. anew-order z v w grow.more same n a q marked i h;
  place = λ i h. anew-in z v w grow.more same n a q marked i;
}
  where
    on : n + length (marks z z a) ≤ m → m ≤ 2 ^ 64 → n + length (marks z z a) ≤ 2 ^ 64
    on i j = omega (arith, i, j)

    down-to : (t : ℕ) → t ≡ n + length (marks z z a) → t ≤ m → n + length (marks z z a) ≤ m
    down-to t p r = omega (arith, p, r)

    j : n + length (marks z z a) ≤ m
    j = down-to (told a [] n).1 (ex-number z a z [] n) d

    v : Text → Bool
    v = assigned z n (marks z z a)

    grow : Grows n m z v
    grow = assigned-grows z n m (marks z z a) y j l

    same : (e : Text) → w e ≡ true → v e ≡ z e
    same = same-among n m z v w grow x

    marked : Assigned v n (marks z z a)
    marked = as-assigned z n (marks z z a) (on j l)

-- At a part.
by-step : (u : Text → Bool) (n m : ℕ) (g : Names Ty) (a b : Ex) → IsGivenStep n g a b m → m ≤ 2 ^ 64 → (c : In) → HasNoneFrom n u →
    SparesAll n (fill c a) → GivenIn u (fill c a) → Ordered u (fill c a) → StaysOrdered n m u (fill c b)
by-step u n m g a b i l c f s h o =
    let x = step-orders u s.among n m g a b i l f s.spared (of-part s.among a c s.has) in
    let e = same-among n m u x.names s.among x.grow s.spared in
    let p = given-part u a c h in
    let y = by-a-step u n m g a b i l c f s h in
    record {
      names = x.names;
      grow = x.grow;
      given = (given-stays.at_a_part x.names c a b x.keep).given (given-among s.among u x.names e (fill c a) s.has h);
      ordered = part-order x.names a b (x.order p) (x.place p) x.keep.fixed c
          (order-among s.among u x.names (λ z k r. e z k ∙ r) (fill c a) s.has o);
      spares = y.spares;
    }

along : (u : Text → Bool) (n m : ℕ) (g : Names Ty) (old new : Ex) → Chain IsGivenStep n g old new m → m ≤ 2 ^ 64 → HasNoneFrom n u →
    SparesAll n old → GivenIn u old → Ordered u old → StaysOrdered n m u new
along u n m g old new (at_rest l) b f s h o = record {
  names = u;
  grow = record { more = λ a t. t; but_reserved = λ a k. refl; none_from = none-later n m u l f };
  given = h;
  ordered = o;
  spares = spares-later n m old l s;
}
along u n m g old new (one_more {s = t} {k = k} {a = a} {b = b} c l i r) z f s h o =
    let d = chain-up k m g (fill c b) new r in
    let x = by-step u t k (names_at c g) a b i (on k m (2 ^ 64) d z) c (none-later n t u l f) (spares-later n t old l s) h o in
    let y = along x.names k m g (fill c b) new r z x.grow.none_from x.spares x.given x.ordered in
    record {
      names = y.names;
      grow = grows-on n t k m u x.names y.names l (on n t k l (step-up t k (names_at c g) a b i)) x.grow y.grow;
      given = y.given;
      ordered = y.ordered;
      spares = y.spares;
    }
  where
    on : (a b c : ℕ) → a ≤ b → b ≤ c → a ≤ c
    on a b c p q = omega (arith, p, q)

-- What is proved of order.
pub order-stays : OrderStays
order-stays = record {
  by_each_rule = λ u s g r e f q n t i h. (rule-answers u s g r e f q n t i h).1;
  in_its_place = λ u s g r e f q n t i h. (rule-answers u s g r e f q n t i h).0;
  at_a_part = λ u c a b f k j h. part-order u a b f k j c h;
  along = along;
}
