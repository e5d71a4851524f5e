-- A step of a rule of kinds keeps what is given, for names that grow by those that it takes.
use Rattle.std.proofs.Common.{◌≡◌, refl, sym, ap, ◌∙◌, ℕ, ◌+◌, ◌≤◌, ◌^◌, Bool, true, ◌&&◌, ◌||◌, length, arith}
use Rattle.ess_semantics.specs.Values.{Text}
use Rattle.ess_semantics.specs.Names.{Names}
use Rattle.ess_semantics.specs.Trees.{name_pat, Ex, comp_ex, fun1, from}
use Rattle.ess_semantics.specs.Types.{Ty}
use Rattle.ess_semantics.specs.Contexts.{In, fill}
use Rattle.ess_semantics.specs.NamesAt.{names_at}
use Rattle.ess_semantics.proofs.Tests.{and-left, and-right, both-ways}
use Rattle.ess_refine_laws.specs.AllRules.{Supply}
use Rattle.ess_chain_names_laws.specs.Steps.{supply_at, Chain, at_rest, one_more}
use Rattle.ess_repr_declare_laws.specs.SizeTerms.{unused_name}
use Rattle.ess_kind_rules_laws.specs.KindRules.{KindRule, over_a_view, of_one_view, lie_together, truth_behind_a_flag, of_what_is_picked, picked}
use Rattle.ess_given_laws.specs.Given.{is_fixed, are_fixed_gens, GivenIn}
use Rattle.ess_given_laws.specs.GivenStays.{draws_fixed}
use Rattle.ess_given_laws.proofs.GivenStays.{given-stays}
use Rattle.ess_given_conditions_laws.specs.GrowingNames.{HasNoneFrom, Grows}
use Rattle.ess_given_conditions_laws.specs.GivenChains.{SparesAll}
use Rattle.ess_given_conditions_laws.proofs.Assigned.{assigned, Assigned, as-assigned, assigned-grows}
use Rattle.ess_given_conditions_laws.proofs.MoreFixed.{fixed-among, given-among}
use Rattle.ess_given_conditions_laws.proofs.FixedParts.{of-part}
use Rattle.ess_given_conditions_laws.proofs.GivenSteps.{same-among}
use Rattle.ess_given_conditions_laws.proofs.GivenChains.{none-later, spares-later, grows-on}
use Rattle.ess_given_order_laws.specs.InOrder.{Ordered}
use Rattle.ess_given_order_laws.specs.OrderStays.{StaysOrdered}
use Rattle.ess_given_order_laws.proofs.OrderedParts.{part-order}
use Rattle.ess_given_order_laws.proofs.ToldOrder.{order-among}
use Rattle.ess_given_kinds_laws.specs.ess_given_offers_laws.Seen.{Counts}
use Rattle.ess_given_kinds_laws.specs.ess_given_offers_laws.GivenOffers.{NoneIn}
use Rattle.ess_given_kinds_laws.specs.GivenKinds.{kind_binds, new_names, source_names, NewOfKinds}
use Rattle.ess_given_kinds_laws.proofs.GivenKinds.{kinds-keep-given}
use Rattle.ess_given_kind_steps_laws.specs.GivenKindSteps.{IsKindStep, by_a_kind, StepOrders, KindStepsKeepGiven}
use Rattle.ess_given_kind_steps_laws.proofs.SameMarks.{repeated, taken, repeated-number, taken-fit, all-new, none-new}
use Rattle.ess_given_kind_steps_laws.proofs.PartsGiven.{given-part}
use Rattle.ess_given_kind_steps_laws.proofs.CountingNames.{with_unused, unused-counts, unused-spares, unused-fixed}

-- ---- what a rule asks, of names that have what u has of the tree

module _ (u v w : Text → Bool) (same : (a : Text) → w a ≡ true → v a ≡ u a) where
  fixed-same : (e : Ex) → is_fixed w e ≡ true → is_fixed v e ≡ is_fixed u e
  fixed-same e k = both-ways (is_fixed v e) (is_fixed u e) (fixed-among w v u (λ a q h. sym (same a q) ∙ h) e k)
      (fixed-among w u v (λ a q h. same a q ∙ h) e k)

  drawn-same : (e : Ex) → is_fixed w e ≡ true → draws_fixed v e ≡ draws_fixed u e
  drawn-same (fun1 m f (comp_ex e (from (name_pat y) t hs))) k =
      same y (and-left (w y) (is_fixed w t && are_fixed_gens w hs) (and-right (is_fixed w e) (are_fixed_gens w (from (name_pat y) t hs))
      (and-left (is_fixed w (comp_ex e (from (name_pat y) t hs))) true k)))
  drawn-same _ k = refl

  either-same : (a b c d : Bool) → a ≡ c → b ≡ d → a || b ≡ c || d
  either-same a b c d p q = ap (λ x. x || b) p ∙ ap (λ x. c || x) q

  binds-same : (r : KindRule) (e : Ex) → is_fixed w e ≡ true → kind_binds v r e ≡ kind_binds u r e
  binds-same over_a_view e k =
      either-same (is_fixed v e) (draws_fixed v e) (is_fixed u e) (draws_fixed u e) (fixed-same e k) (drawn-same e k)
  binds-same of_one_view e k =
      either-same (is_fixed v e) (draws_fixed v e) (is_fixed u e) (draws_fixed u e) (fixed-same e k) (drawn-same e k)
  binds-same r e k = fixed-same e k

-- ---- names that a rule may bind over sources

module _ (v : Text → Bool) where
  some-new : (s : Supply) (r : KindRule) → NoneIn v (new_names s) → NoneIn v (source_names s r)
  some-new s over_a_view h = (h.0, tt)
  some-new s of_one_view h = (h.0, tt)
  some-new s lie_together h = (h.1.0, tt)
  some-new s truth_behind_a_flag h = (h.0, tt)
  some-new s of_what_is_picked h = h
  some-new s picked h = h
  some-new s r h = tt

-- ---- a step

at-root : (z w : Text → Bool) (n m : ℕ) (g : Names Ty) (a b : Ex) → IsKindStep n g a b m → m ≤ 2 ^ 64 → Counts z → HasNoneFrom n z →
    HasNoneFrom n w → is_fixed w a ≡ true → StepOrders n m z a b
at-root z w n m g a b (by_a_kind k r f d) l c y x q = record {
  names = v;
  grow = grow;
  keep = record {
    given = λ h. kinds-keep-given.by_each_rule v (supply_at n k) g r a b f counts new h;
    fixed = λ h. kinds-keep-given.of_fixed_trees v (supply_at n k) g r a b f counts new h;
  };
  order = λ i h. kinds-keep-given.keeps_order v (supply_at n k) g r a b f counts new (given-among w z v same a q i) h;
  place = λ i h p. kinds-keep-given.in_its_place v (supply_at n k) g r a b f counts new (given-among w z v same a q i) h;
}
  where
    x0 : Bool
    x0 = kind_binds z r a

    on : n + length (taken x0 k) ≤ m → m ≤ 2 ^ 64 → n + length (taken x0 k) ≤ 2 ^ 64
    on i j = omega (arith, i, j)

    j : n + length (taken x0 k) ≤ m
    j = taken-fit n k m (length (repeated x0 k)) (repeated-number x0 k) d

    v : Text → Bool
    v = assigned z n (taken x0 k)

    grow : Grows n m z v
    grow = assigned-grows z n m (taken x0 k) y j l

    same : (e : Text) → w e ≡ true → v e ≡ z e
    same = same-among n m z v w grow x

    marked : Assigned v n (taken x0 k)
    marked = as-assigned z n (taken x0 k) (on j l)

    counts : Counts v
    counts = grow.more unused_name c

    binds : kind_binds v r a ≡ x0
    binds = binds-same z v w same r a q

    new : NewOfKinds v (supply_at n k) r a
    new = record {
      fixed = λ h. all-new v n k x0 (sym binds ∙ h) marked;
      others = λ h. some-new v (supply_at n k) r (none-new v n k x0 (sym binds ∙ h) marked);
    }

-- ---- a part of a tree

at-part : (u : Text → Bool) (n m : ℕ) (g : Names Ty) (a b : Ex) → IsKindStep n g a b m → m ≤ 2 ^ 64 → (c : In) → Counts u →
    HasNoneFrom n u → SparesAll n (fill c a) → GivenIn u (fill c a) → Ordered u (fill c a) → StaysOrdered n m u (fill c b)
at-part u n m g a b i l c k f s h o =
    let t = with_unused s.among in
    let has = unused-fixed s.among (fill c a) s.has in
    let spared = unused-spares s.among n s.spared in
    let q = of-part t a c has in
    let x = at-root u t n m g a b i l k f spared q in
    let y = at-root t t n m g a b i l (unused-counts s.among) spared spared q in
    let e = same-among n m u x.names t x.grow spared in
    let p = given-part u a c h in
    record {
      names = x.names;
      grow = x.grow;
      given = (given-stays.at_a_part x.names c a b x.keep).given (given-among t u x.names e (fill c a) has h);
      ordered = part-order x.names a b (x.order p) (x.place p) x.keep.fixed c
          (order-among t u x.names (λ z j r. e z j ∙ r) (fill c a) has o);
      spares = record {
        among = y.names;
        has = (given-stays.at_a_part y.names c a b y.keep).fixed (fixed-among t t y.names (λ z j r. y.grow.more z r) (fill c a) has has);
        spared = y.grow.none_from;
      };
    }

step-up : (n m : ℕ) (g : Names Ty) (a b : Ex) → IsKindStep n g a b m → n ≤ m
step-up n m g a b (by_a_kind k r f d) = omega (arith, d)

chain-up : (n m : ℕ) (g : Names Ty) (old new : Ex) → Chain IsKindStep n g old new m → n ≤ m
chain-up n m g old new (at_rest l) = l
chain-up n m g old new (one_more {s = t} {k = k} {a = a} {b = b} c l i r) =
    let p = step-up t k (names_at c g) a b i in let q = chain-up k m g (fill c b) new r in omega (arith, l, p, q)

along : (u : Text → Bool) (n m : ℕ) (g : Names Ty) (old new : Ex) → Chain IsKindStep n g old new m → m ≤ 2 ^ 64 → Counts u →
    HasNoneFrom n u → SparesAll n old → GivenIn u old → Ordered u old → StaysOrdered n m u new
along u n m g old new (at_rest l) b c f s h o = record {
  names = u;
  grow = record { more = λ a t. t; but_reserved = λ a k. refl; none_from = none-later n m u l f };
  given = h;
  ordered = o;
  spares = spares-later n m old l s;
}
along u n m g old new (one_more {s = t} {k = k} {a = a} {b = b} c l i r) z d f s h o =
    let q = chain-up k m g (fill c b) new r in
    let x = at-part u t k (names_at c g) a b i (on k m (2 ^ 64) q z) c d (none-later n t u l f) (spares-later n t old l s) h o in
    let y = along x.names k m g (fill c b) new r z (x.grow.more unused_name d) x.grow.none_from x.spares x.given x.ordered in
    record {
      names = y.names;
      grow = grows-on n t k m u x.names y.names l (on n t k l (step-up t k (names_at c g) a b i)) x.grow y.grow;
      given = y.given;
      ordered = y.ordered;
      spares = y.spares;
    }
  where
    on : (a b c : ℕ) → a ≤ b → b ≤ c → a ≤ c
    on a b c p q = omega (arith, p, q)

-- What is proved of steps by rules of kinds.
pub kind-steps-keep-given : KindStepsKeepGiven
kind-steps-keep-given = record { at_a_root = at-root; at_a_part = at-part; along = along }
