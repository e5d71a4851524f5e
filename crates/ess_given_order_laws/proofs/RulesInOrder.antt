-- Each rule keeps comprehensions in order where order counts, where its names belong to what is fixed.
use Rattle.std.proofs.Common.{◌≡◌, refl, ◌∙◌, subst, Bool, true, false, ◌||◌, List, [], ◌∷◌, Option, Some, None}
use Rattle.ess_semantics.specs.Values.{Text}
use Rattle.ess_semantics.specs.Names.{Names}
use Rattle.ess_semantics.specs.Trees.{word, name_pat, Ex, name_ex, comp_ex, fun1, from}
use Rattle.ess_semantics.specs.Types.{Ty}
use Rattle.ess_semantics.specs.ExpressionJudgements.{forgets_order}
use Rattle.ess_semantics.specs.Substitution.{for_name}
use Rattle.ess_rules_laws.specs.Listings.{Alternative}
use Rattle.ess_refine_laws.specs.AllRules.{Rule, over_a_source, of_one_source, least_of_alternatives, Supply, offered, rewrite}
use Rattle.ess_given_laws.specs.PartsHave.{PartsHave}
use Rattle.ess_given_laws.specs.Given.{is_fixed, GivenIn}
use Rattle.ess_given_laws.specs.GivenStays.{draws_fixed, NewGiven}
use Rattle.ess_given_laws.proofs.PartsHave.{Puts}
use Rattle.ess_given_laws.proofs.FixedTrees.{fixed, put-fixed-dom, fixed-has, has-fixed}
use Rattle.ess_given_laws.proofs.PartsOfFolds.{HaveAll, HaveSome}
use Rattle.ess_given_laws.proofs.PartsOfListings.{New, offered-has}
use Rattle.ess_given_order_laws.specs.InOrder.{in_order, Ordered}
use Rattle.ess_given_order_laws.specs.OrderStays.{TakesOrder}
use Rattle.ess_given_order_laws.proofs.OrderedParts.{at-name}
use Rattle.ess_given_order_laws.proofs.OrderOfListings.{of-word, AllAlternatives, SomeAlternatives, offered-order}
use Rattle.ess_given_order_laws.proofs.OrderOfFolds.{AnsweredFor, PutsAll, PutsSome, drawn}
use Rattle.ess_given_order_laws.proofs.OrderOfRules.{OffersOrder, OffersOf, each-in-order}

module _ (u : Text → Bool) where
  puts-fixed : (y : Text) (t : Ex) → PartsHave (fixed u) t → Puts (fixed u) y t
  puts-fixed y t h = record {
    item = h;
    in_dom = λ d q. put-fixed-dom u (for_name y t) (at-name u y t (λ b. has-fixed u t h)) d q;
    in_source = λ p k q. q;
  }

  new-fixed : (s : Supply) → u s.third ≡ true → u s.one ≡ true → u s.other ≡ true → New (fixed u) s
  new-fixed s t a b = record {
    one = a;
    other = b;
    third = t;
    from_one = λ k. a;
    from_other = λ k. b;
    over_one = a;
    over_other = b;
    over_third = t;
    renamed = λ y h. puts-fixed y (name_ex s.third) t;
    used = λ y h. h;
  }

  puts-all : (y : Text) (o : Option (List Alternative)) → SomeAlternatives u o → (u y ≡ true → HaveSome (fixed u) o) → PutsSome u y o
  puts-all y None h k = tt
  puts-all y (Some l) h k = go l h k
    where
      go : (l : List Alternative) → AllAlternatives u l → (u y ≡ true → HaveAll (fixed u) l) → PutsAll u y l
      go [] h k = tt
      go (a ∷ l) h k = (record { kept = h.0.0; fixed = λ q. has-fixed u a.item (k q).0.0 }, go l h.1 (λ q. (k q).1))

  or-so : (b c : Bool) → c ≡ true → b || c ≡ true
  or-so true c h = refl
  or-so false c h = h

  -- What the first source offers, where its names belong to what is fixed as the source does.
  offers : (s : Supply) (g : Names Ty) (e : Ex) → u s.third ≡ true → (b : Bool) → u s.one ≡ b || draws_fixed u e →
      u s.other ≡ b || draws_fixed u e → GivenIn u e → Ordered u e → OffersOrder u s g e
  offers s g (fun1 m f (comp_ex e (from (name_pat y) t hs))) third b p q i h =
      let k = of-word u (forgets_order (word f)) (comp_ex e (from (name_pat y) t hs)) h in
      let o = offered-order u s (λ a. record { kept = (refl, tt); fixed = λ z. third }) g t k.1.0 in (
        o,
        puts-all y (offered s g t) o (λ z. offered-has (fixed u) s (new-fixed s third (p ∙ or-so b (u y) z) (q ∙ or-so b (u y) z)) g t
            (fixed-has u t (drawn (u y) (is_fixed u t) i.0.1.0 z))),
      )
  offers s g _ third b p q i h = tt

  offers-of : (s : Supply) (g : Names Ty) (r : Rule) (e : Ex) → NewGiven u s r e → GivenIn u e → Ordered u e → OffersOf u s g r e
  offers-of s g over_a_source e n i h = offers s g e n.third (is_fixed u e) n.one n.other i h
  offers-of s g of_one_source e n i h = offers s g e n.third (is_fixed u e) n.one n.other i h
  offers-of s g least_of_alternatives e n i h = offers s g e n.third (is_fixed u e) n.one n.other i h
  offers-of s g r e n i h = tt

  -- By each rule.
  pub rule-answers : (s : Supply) (g : Names Ty) (r : Rule) (e f : Ex) → rewrite s g r e ≡ Some f → NewGiven u s r e → TakesOrder u s r e →
      GivenIn u e → Ordered u e → (in_order u e ≡ true → in_order u f ≡ true) × Ordered u f
  rule-answers s g r e f q n t i h =
      subst (λ z. AnsweredFor u e z) q (each-in-order u s g r e t (offers-of s g r e n i h) i h)
