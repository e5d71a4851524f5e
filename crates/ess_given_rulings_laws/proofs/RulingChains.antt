-- Chains of all rules but those of counted sources, with reserved names, keep what is given, and comprehensions in order where order
-- counts.
use Rattle.std.proofs.Common.{◌≡◌, refl, ◌∙◌, ℕ, suc, zero, ◌≤◌, ◌^◌, Bool, true, arith}
use Rattle.ess_semantics.specs.Values.{Text}
use Rattle.ess_semantics.specs.Names.{Names}
use Rattle.ess_semantics.specs.NamesAt.{names_at}
use Rattle.ess_semantics.specs.Trees.{Ex}
use Rattle.ess_semantics.specs.Types.{Ty}
use Rattle.ess_semantics.specs.Contexts.{In, fill}
use Rattle.ess_repr_declare_laws.specs.SizeTerms.{unused_name}
use Rattle.ess_chain_names_laws.specs.Steps as steps
use Rattle.ess_given_laws.specs.Given.{is_fixed, GivenIn}
use Rattle.ess_given_laws.proofs.GivenStays.{given-stays}
use Rattle.ess_given_conditions_laws.specs.GivenChains.{SparesAll}
use Rattle.ess_given_conditions_laws.specs.GrowingNames.{HasNoneFrom}
use Rattle.ess_given_conditions_laws.proofs.FixedParts.{of-part}
use Rattle.ess_given_conditions_laws.proofs.GivenChains.{none-later, spares-later, grows-on}
use Rattle.ess_given_conditions_laws.proofs.GivenSteps.{same-among}
use Rattle.ess_given_conditions_laws.proofs.MoreFixed.{fixed-among, given-among}
use Rattle.ess_given_order_laws.specs.InOrder.{Ordered}
use Rattle.ess_given_order_laws.specs.OrderStays.{StaysOrdered}
use Rattle.ess_given_order_laws.proofs.OrderStays.{order-stays}
use Rattle.ess_given_order_laws.proofs.OrderedParts.{part-order}
use Rattle.ess_given_order_laws.proofs.ToldOrder.{order-among}
use Rattle.ess_given_offers_laws.specs.Seen.{Counts}
use Rattle.ess_given_kind_steps_laws.specs.GivenKindSteps.{StepOrders}
use Rattle.ess_given_kind_steps_laws.proofs.CountingNames.{with_unused, unused-counts, unused-spares, unused-fixed}
use Rattle.ess_given_kind_steps_laws.proofs.PartsGiven.{given-part}
use Rattle.ess_given_kind_steps_laws.proofs.KindSteps.{kind-steps-keep-given}
use Rattle.ess_given_rulings_laws.specs.RulingChains.{IsRulingStep, plainly, by_kinds, by_opening, by_gathering, by_order, by_matrices, RulingChain, at_rest, one_more, RulingChainsKeepGiven}
use Rattle.ess_given_rulings_laws.proofs.RulingSteps.{opening-orders, ordered-orders, matrix-orders, gathering-orders, picks-fixed, sources-fixed, both-fixed}

on : (a b c : ℕ) → a ≤ b → b ≤ c → a ≤ c
on a b c p q = omega (arith, p, q)

itself : (a : ℕ) → a ≤ a
itself a = omega arith

-- ---- at a part

module _ (u : Text → Bool) (n m : ℕ) (a b : Ex) (c : In) (k : Counts u) (f : HasNoneFrom n u) (s : SparesAll n (fill c a))
    (h : GivenIn u (fill c a)) (o : Ordered u (fill c a)) where
  -- By a step at its root, for u and for what the tree spares.
  part-stays : ((t : Text → Bool) → HasNoneFrom n t → is_fixed t a ≡ true → StepOrders n m u a b) →
      ((t : Text → Bool) → Counts t → HasNoneFrom n t → is_fixed t a ≡ true → StepOrders n m t a b) → StaysOrdered n m u (fill c b)
  part-stays first second =
      let t = with_unused s.among in
      let has = unused-fixed s.among (fill c a) s.has in
      let spared = unused-spares s.among n s.spared in
      let q = of-part t a c has in
      let x = first t spared q in
      let y = second t (unused-counts s.among) spared q in
      let e = same-among n m u x.names t x.grow spared in
      let p = given-part u a c h in
      record {
        names = x.names;
        grow = x.grow;
        given = (given-stays.at_a_part x.names c a b x.keep).given (given-among t u x.names e (fill c a) has h);
        ordered = part-order x.names a b (x.order p) (x.place p) x.keep.fixed c
            (order-among t u x.names (λ z j r. e z j ∙ r) (fill c a) has o);
        spares = record {
          among = y.names;
          has = (given-stays.at_a_part y.names c a b y.keep).fixed
              (fixed-among t t y.names (λ z j r. y.grow.more z r) (fill c a) has has);
          spared = y.grow.none_from;
        };
      }

  pub at-part : (g : Names Ty) → IsRulingStep u n (names_at c g) a b m → m ≤ 2 ^ 64 → StaysOrdered n m u (fill c b)
  at-part g (plainly i) l =
      order-stays.along u n m g (fill c a) (fill c b) (steps.one_more c (itself n) i (steps.at_rest (itself m))) l f s h o
  at-part g (by_kinds i) l = kind-steps-keep-given.at_a_part u n m (names_at c g) a b i l c k f s h o
  at-part g (by_opening j r q d p) l = part-stays
      (λ t x e. opening-orders u t n j m (names_at c g) d l k f x r a b q e p)
      (λ t i x e. opening-orders t t n j m (names_at c g) d l i x x r a b q e (λ v w. picks-fixed t v n j (names_at c g) r a e))
  at-part g (by_gathering q d) l = part-stays (λ t x e. gathering-orders u n m a b q d f) (λ t i x e. gathering-orders t n m a b q d x)
  at-part g (by_order j r q d p) l = part-stays
      (λ t x e. ordered-orders u t n j m (names_at c g) d l k f x r a b q e p)
      (λ t i x e. ordered-orders t t n j m (names_at c g) d l i x x r a b q e (λ v w. sources-fixed t v n j r a e))
  at-part g (by_matrices j q d p) l = part-stays
      (λ t x e. matrix-orders u t n j m (names_at c g) d l k f x a b q e p)
      (λ t i x e. matrix-orders t t n j m (names_at c g) d l i x x a b q e (λ v w. both-fixed t v a w.more e))

-- ---- chains

along : (i : ℕ) (u : Text → Bool) (n m : ℕ) (g : Names Ty) (old new : Ex) → RulingChain i u n g old new m → m ≤ 2 ^ 64 → Counts u →
    HasNoneFrom n u → SparesAll n old → GivenIn u old → Ordered u old → StaysOrdered n m u new
along zero u n m g old new (at_rest l) b k f s h o = record {
  names = u;
  grow = record { more = λ a t. t; but_reserved = λ a k. refl; none_from = none-later n m u l f };
  given = h;
  ordered = o;
  spares = spares-later n m old l s;
}
along (suc i) u n m g old new (one_more {s = t} {k = j} {a = a} {b = b} c l p q step r) z k f s h o =
    let x = at-part u t j a b c k (none-later n t u l f) (spares-later n t old l s) h o g step (on j m (2 ^ 64) q z) in
    let y = along i x.names j m g (fill c b) new (r x.names x.grow) z (x.grow.more unused_name k) x.grow.none_from x.spares x.given
    x.ordered in
    record {
      names = y.names;
      grow = grows-on n t j m u x.names y.names l (on n t j l p) x.grow y.grow;
      given = y.given;
      ordered = y.ordered;
      spares = y.spares;
    }

-- What is proved of chains.
pub ruling-chains-keep-given : RulingChainsKeepGiven
ruling-chains-keep-given = record {
  at_a_part = λ z n m g a b c i l k f s h o. at-part z n m a b c k f s h o g i l;
  along = along;
}
