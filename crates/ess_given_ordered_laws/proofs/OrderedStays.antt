-- What is given, and comprehensions in order, stay by the rules of comprehensions whose items have an order, and where conditions are
-- gathered.
use Rattle.std.proofs.Common.{◌≡◌, refl, ◌∙◌, subst, Bool, true, false, Option, Some, None}
use Rattle.ess_semantics.specs.Values.{Text}
use Rattle.ess_semantics.specs.Names.{Names}
use Rattle.ess_semantics.specs.Trees.{Ex}
use Rattle.ess_semantics.specs.Types.{Ty}
use Rattle.ess_refine_laws.specs.AllRules.{Supply, OfSome}
use Rattle.ess_ordered_laws.specs.OrderedRules.{OrderedRule, an_item, of_an_item, source_by_indices, source_of_an_item, operand_lookup, ordered_rewrite}
use Rattle.ess_given_laws.specs.PartsHave.{PartsHave}
use Rattle.ess_given_laws.specs.Given.{is_fixed, given, GivenIn}
use Rattle.ess_given_laws.proofs.FixedTrees.{fixed, fixed-has, has-fixed, given-has}
use Rattle.ess_given_laws.proofs.FixedNumbers.{every-dom}
use Rattle.ess_given_laws.proofs.PartsOfFolds.{Answers, HaveSome}
use Rattle.ess_given_order_laws.specs.InOrder.{Ordered}
use Rattle.ess_given_order_laws.proofs.OrderOfFolds.{Answered, AnsweredFor}
use Rattle.ess_given_offers_laws.specs.Seen.{Counts}
use Rattle.ess_given_opened_laws.proofs.SourcesGiven.{free}
use Rattle.ess_given_ordered_laws.specs.OrderedNames.{rewritten_operand, TermNames, NewOrdered}
use Rattle.ess_given_ordered_laws.specs.OrderedStays.{OrderedStays, GatheringStays}
use Rattle.ess_given_ordered_laws.proofs.PartsOfGathering.{gathered-has, gathered-order}
use Rattle.ess_given_ordered_laws.proofs.PartsOfOperands.{of-both, alone-has, item-has, rewritten-has}
use Rattle.ess_given_ordered_laws.proofs.OrderOfOperands.{Looks, alone-order, item-order}
use Rattle.ess_given_ordered_laws.proofs.NamesGiven.{by-fixed}
use Rattle.ess_given_ordered_laws.proofs.TermsGiven.{term-fixed, term-given, term-ordered, source-ordered, operand-fixed, operand-given}
use Rattle.ess_given_ordered_laws.proofs.IndexedGiven.{indexed-given, indexed-fixed, indexed-order}
use Rattle.ess_given_ordered_laws.proofs.SourcesOfItems.{item-source-given, item-source-fixed, item-source-order}

module _ (u : Text → Bool) (s : Supply) (g : Names Ty) where
  given-none : (o : Option Ex) → Answers (fixed u) o → Answers (given u) o
  given-none None h = tt
  given-none (Some f) h = given-has u f h

  -- By whether the root is fixed.
  by-root : (e : Ex) (o : Option Ex) → (is_fixed u e ≡ true → Answers (fixed u) o) → (is_fixed u e ≡ false → Answers (given u) o) →
      Answers (given u) o
  by-root e o k j = by-fixed u e (Answers (given u) o) (λ q. given-none o (k q)) j

  -- ---- an operand

  looks-fixed : Counts u → (e : Ex) → NewOrdered u s g of_an_item e → PartsHave (fixed u) e →
      OfSome (rewritten_operand s g e) (λ t. HaveSome (fixed u) (operand_lookup s g e t))
  looks-fixed c e n h = of-both (rewritten_operand s g e) (TermNames u s) (PartsHave (fixed u))
      (λ t. HaveSome (fixed u) (operand_lookup s g e t)) (λ t k j. operand-fixed u s g c e t k j) n.1
      (rewritten-has (fixed u) s g e h)

  looks-given : Counts u → (e : Ex) → NewOrdered u s g of_an_item e → GivenIn u e →
      OfSome (rewritten_operand s g e) (λ t. HaveSome (given u) (operand_lookup s g e t))
  looks-given c e n h = of-both (rewritten_operand s g e) (TermNames u s) (GivenIn u)
      (λ t. HaveSome (given u) (operand_lookup s g e t)) (λ t k j. operand-given u s g c e t k j) n.1
      (rewritten-has (given u) s g e h)

  looks-ordered : (e : Ex) → NewOrdered u s g of_an_item e →
      OfSome (rewritten_operand s g e) (Looks u s g)
  looks-ordered e n = each (rewritten_operand s g e) n.1
    where
      each : (o : Option Ex) → OfSome o (TermNames u s) → OfSome o (Looks u s g)
      each None n = tt
      each (Some t) n = (λ h. term-ordered u s g t n h, source-ordered u s g t n)

  -- ---- the rules

  fixed-answers : Counts u → (r : OrderedRule) (e : Ex) → NewOrdered u s g r e → PartsHave (fixed u) e →
      Answers (fixed u) (ordered_rewrite s g r e)
  fixed-answers c an_item e n h = let k = n.0 ∙ has-fixed u e h in
      alone-has (fixed u) s g k (λ z. k) e h (term-fixed u s g e n.1 h)
  fixed-answers c of_an_item e n h = let k = n.0 ∙ has-fixed u e h in
      item-has (fixed u) s g k (λ z. k) e h (looks-fixed c e n h)
  fixed-answers c source_by_indices e n h = indexed-fixed u s.one n.0 g e n.1 h
  fixed-answers c source_of_an_item e n h = item-source-fixed u s g e n h

  given-answers : Counts u → (r : OrderedRule) (e : Ex) → NewOrdered u s g r e → GivenIn u e →
      Answers (given u) (ordered_rewrite s g r e)
  given-answers c an_item e n h = by-root e (ordered_rewrite s g an_item e) (λ q. fixed-answers c an_item e n (fixed-has u e q))
      (λ q. alone-has (given u) s g refl (free u s.one (n.0 ∙ q)) e h (term-given u s g e n.1 h))
  given-answers c of_an_item e n h = by-root e (ordered_rewrite s g of_an_item e)
      (λ q. fixed-answers c of_an_item e n (fixed-has u e q))
      (λ q. item-has (given u) s g refl (free u s.one (n.0 ∙ q)) e h (looks-given c e n h))
  given-answers c source_by_indices e n h = indexed-given u s.one n.0 g e n.1 h
  given-answers c source_of_an_item e n h = item-source-given u s g e n h

  loosened : (e : Ex) (o : Option Ex) → Answered u o → AnsweredFor u e o
  loosened e None h = tt
  loosened e (Some f) h = (λ q. h.0, h.1)

  order-answers : (r : OrderedRule) (e : Ex) → NewOrdered u s g r e → Ordered u e → AnsweredFor u e (ordered_rewrite s g r e)
  order-answers an_item e n h =
      loosened e (ordered_rewrite s g an_item e) (alone-order u s g e (term-ordered u s g e n.1 h))
  order-answers of_an_item e n h =
      loosened e (ordered_rewrite s g of_an_item e) (item-order u s g e h (looks-ordered e n))
  order-answers source_by_indices e n h = indexed-order u s.one n.0 g e n.1 h
  order-answers source_of_an_item e n h = item-source-order u s g e n h

-- What stays by rules of comprehensions whose items have an order.
pub ordered-stays : OrderedStays
ordered-stays = record {
  given = λ u s g r e f q c n h. subst (Answers (given u)) q (given-answers u s g c r e n h);
  fixed = λ u s g r e f q c n h. has-fixed u f (subst (Answers (fixed u)) q (fixed-answers u s g c r e n (fixed-has u e h)));
  ordered = λ u s g r e f q n h. (subst (AnsweredFor u e) q (order-answers u s g r e n h)).1;
  in_its_place = λ u s g r e f q n h. (subst (AnsweredFor u e) q (order-answers u s g r e n h)).0;
}

-- What stays where conditions are gathered.
pub gathering-stays : GatheringStays
gathering-stays = record {
  given = λ u e f q h. subst (Answers (given u)) q (gathered-has (given u) (every-dom u) e h);
  fixed = λ u e f q h. has-fixed u f (subst (Answers (fixed u)) q (gathered-has (fixed u) (every-dom u) e (fixed-has u e h)));
  ordered = λ u e f q h. (subst (Answered u) q (gathered-order u e h)).1;
  in_its_place = λ u e f q h. (subst (Answered u) q (gathered-order u e h)).0;
}
