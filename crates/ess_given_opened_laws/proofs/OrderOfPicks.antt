-- Rules of what is picked, of relations applied and of indices of several steps keep comprehensions in order where order counts.
use Rattle.std.proofs.Common.{refl, ℕ, suc, Bool, true, false, ◌&&◌, ◌||◌, if◌then◌else◌, List, ◌∷◌, Option, Some, None}
use Rattle.ess_semantics.specs.Lists.{and_then}
use Rattle.ess_semantics.specs.Values.{Text}
use Rattle.ess_semantics.specs.Names.{Names}
use Rattle.ess_semantics.specs.Trees.{by_value, to_component, to_field, index, application, Ex, Exs, node_ex, no_exs, more_exs}
use Rattle.ess_semantics.specs.Types.{Ty}
use Rattle.ess_semantics.specs.Typing.{type_of}
use Rattle.ess_semantics.specs.ExpressionJudgements.{forgets_order}
use Rattle.ess_rules_laws.specs.IndexSteps.{step_apart}
use Rattle.ess_rules_laws.specs.Listings.{Alternative}
use Rattle.ess_rules_laws.specs.AlternativeLookups.{select_each, select_whole_each}
use Rattle.ess_refine_laws.specs.AllRules.{Supply, OfSome}
use Rattle.ess_kind_rules_laws.specs.TermLookups.{picks, looked_up}
use Rattle.ess_open_rules_laws.specs.OpenRules.{is_relation_ty, related, gives_scalar, is_compound_ty, compares_values, first_picked, over_a_pick, pick_alone}
use Rattle.ess_given_order_laws.specs.InOrder.{Ordered, AllOrdered}
use Rattle.ess_given_order_laws.proofs.OrderOfListings.{SomeAlternatives}
use Rattle.ess_given_order_laws.proofs.OrderOfFolds.{Answered, when, under}
use Rattle.ess_given_offers_laws.proofs.OrderOfLookups.{picked-order}
use Rattle.ess_given_offers_laws.proofs.OrderOfPicks.{selected-each, whole-each}

module _ (u : Text → Bool) where
  pub steps-order : (e : Ex) → Ordered u e → Answered u (step_apart e)
  steps-order (node_ex b (index (by_value ∷ q ∷ qs)) (more_exs m (more_exs i es))) h = (refl, ((refl, (h.0, (h.1.0, tt))), h.1.1))
  steps-order (node_ex b (index (to_component k ∷ q ∷ qs)) (more_exs t es)) h = (refl, ((refl, (h.0, tt)), h.1))
  steps-order (node_ex b (index (to_field a ∷ q ∷ qs)) (more_exs t es)) h = (refl, ((refl, (h.0, tt)), h.1))
  steps-order _ h = tt

  pub related-order : (g : Names Ty) (e : Ex) → Ordered u e → Answered u (related g e)
  related-order g (node_ex true application (more_exs r es)) h =
      when u (is_relation_ty (type_of r g)) _ (refl, ((refl, h.1), (h.0, tt)))
  related-order g _ h = tt

  -- The operand that is picked first.
  first-order : (any : Bool) (g : Names Ty) (k : ℕ) (es : Exs) (c : Bool) → AllOrdered u es c →
      OfSome (first_picked any g k es) (λ p. Ordered u p.1)
  first-order any g k no_exs c h = tt
  first-order any g k (more_exs a es) true h =
      go (picks a && (any || is_compound_ty (type_of a g))) (first-order any g (suc k) es true h.1)
    where
      go : (b : Bool) → OfSome (first_picked any g (suc k) es) (λ p. Ordered u p.1) →
          OfSome (if b then Some (k, a) else first_picked any g (suc k) es) (λ p. Ordered u p.1)
      go true j = h.0
      go false j = j
  first-order any g k (more_exs a es) false h =
      go (picks a && (any || is_compound_ty (type_of a g))) (first-order any g (suc k) es false h.1)
    where
      go : (b : Bool) → OfSome (first_picked any g (suc k) es) (λ p. Ordered u p.1) →
          OfSome (if b then Some (k, a) else first_picked any g (suc k) es) (λ p. Ordered u p.1)
      go true j = h.0.1
      go false j = j

  module _ (s : Supply) (g : Names Ty) where
    pub pick-order : (e : Ex) → Ordered u e → Answered u (over_a_pick s g e)
    pick-order (node_ex b op es) h = under u (gives_scalar g (node_ex b op es)) _
        (go (first_picked (compares_values b op) g 1 es) (first-order (compares_values b op) g 1 es (forgets_order op) h))
      where
        at : (k : ℕ) (r : Option (List Alternative)) → SomeAlternatives u r →
            Answered u (and_then r (λ l. select_each s.one k l (node_ex b op es)))
        at k None j = tt
        at k (Some l) j = selected-each u s.one k l (node_ex b op es) j h

        go : (r : Option (ℕ × Ex)) → OfSome r (λ p. Ordered u p.1) → Answered u
            (and_then r (λ p. and_then (looked_up g s.third s.parts p.1) (λ l. select_each s.one p.0 l (node_ex b op es))))
        go None j = tt
        go (Some p) j = at p.0 (looked_up g s.third s.parts p.1) (picked-order u g s.third s.parts p.1 j)
    pick-order _ h = tt

    pub pick-alone-order : (e : Ex) → Ordered u e → Answered u (pick_alone s g e)
    pick-alone-order e h = under u (picks e && gives_scalar g e) _
        (go (looked_up g s.third s.parts e) (picked-order u g s.third s.parts e h))
      where
        go : (r : Option (List Alternative)) → SomeAlternatives u r → Answered u (and_then r (λ l. select_whole_each s.one l e))
        go None j = tt
        go (Some l) j = whole-each u s.one l e j
