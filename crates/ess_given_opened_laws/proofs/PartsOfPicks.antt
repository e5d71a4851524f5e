-- Rules of what is picked, of relations applied and of indices of several steps have what the parts have that they are made of.
use Rattle.std.proofs.Common.{ℕ, suc, Bool, true, false, ◌&&◌, ◌||◌, if◌then◌else◌, List, ◌∷◌, Option, Some, None}
use Rattle.std.specs.Prelude.{IsTrue}
use Rattle.ess_semantics.specs.Lists.{and_then}
use Rattle.ess_semantics.specs.Names.{Names}
use Rattle.ess_semantics.specs.Trees.{by_value, to_component, to_field, index, application, name_pat, Ex, Exs, node_ex, no_exs, more_exs}
use Rattle.ess_semantics.specs.Types.{Ty}
use Rattle.ess_semantics.specs.Typing.{type_of}
use Rattle.ess_rules_laws.specs.IndexSteps.{step_apart}
use Rattle.ess_rules_laws.specs.Listings.{Alternative}
use Rattle.ess_rules_laws.specs.AlternativeLookups.{select_each, select_whole_each}
use Rattle.ess_refine_laws.specs.AllRules.{Supply, OfSome}
use Rattle.ess_kind_rules_laws.specs.TermLookups.{picks, looked_up}
use Rattle.ess_open_rules_laws.specs.OpenRules.{is_relation_ty, related, gives_scalar, is_compound_ty, compares_values, first_picked, over_a_pick, pick_alone}
use Rattle.ess_given_laws.specs.PartsHave.{Wanted, PartsHave, AllHave}
use Rattle.ess_given_laws.proofs.PartsOfFolds.{Answers, HaveSome, when, under}
use Rattle.ess_given_offers_laws.proofs.PartsOfPicks.{selected-each, whole-each}

module _ (w : Wanted) where
  -- ---- steps and relations

  pub steps-have : (e : Ex) → PartsHave w e → Answers w (step_apart e)
  steps-have (node_ex b (index (by_value ∷ q ∷ qs)) (more_exs m (more_exs i es))) h = ((h.0, (h.1.0, tt)), h.1.1)
  steps-have (node_ex b (index (to_component k ∷ q ∷ qs)) (more_exs t es)) h = ((h.0, tt), h.1)
  steps-have (node_ex b (index (to_field a ∷ q ∷ qs)) (more_exs t es)) h = ((h.0, tt), h.1)
  steps-have _ h = tt

  pub related-has : (g : Names Ty) (e : Ex) → PartsHave w e → Answers w (related g e)
  related-has g (node_ex true application (more_exs r es)) h = when w (is_relation_ty (type_of r g)) _ (h.1, (h.0, tt))
  related-has g _ h = tt

  -- ---- what is picked

  -- The operand that is picked first.
  pub first-picked-has : (any : Bool) (g : Names Ty) (k : ℕ) (es : Exs) → AllHave w es →
      OfSome (first_picked any g k es) (λ p. PartsHave w p.1)
  first-picked-has any g k no_exs h = tt
  first-picked-has any g k (more_exs a es) h =
      go (picks a && (any || is_compound_ty (type_of a g))) (first-picked-has any g (suc k) es h.1)
    where
      go : (b : Bool) → OfSome (first_picked any g (suc k) es) (λ p. PartsHave w p.1) →
          OfSome (if b then Some (k, a) else first_picked any g (suc k) es) (λ p. PartsHave w p.1)
      go true j = h.0
      go false j = j

  module _ (s : Supply) (g : Names Ty) (n : IsTrue (w.name s.one)) (draws : (k : Ex) → IsTrue (w.draws (name_pat s.one) k))
      (looks : (t : Ex) → PartsHave w t → HaveSome w (looked_up g s.third s.parts t)) where
    pub pick-has : (e : Ex) → PartsHave w e → Answers w (over_a_pick s g e)
    pick-has (node_ex b op es) h = under w (gives_scalar g (node_ex b op es)) _
        (go (first_picked (compares_values b op) g 1 es) (first-picked-has (compares_values b op) g 1 es h))
      where
        at : (k : ℕ) (r : Option (List Alternative)) → HaveSome w r →
            Answers w (and_then r (λ l. select_each s.one k l (node_ex b op es)))
        at k None j = tt
        at k (Some l) j = selected-each w s.one n draws k l (node_ex b op es) j h

        go : (r : Option (ℕ × Ex)) → OfSome r (λ p. PartsHave w p.1) → Answers w
            (and_then r (λ p. and_then (looked_up g s.third s.parts p.1) (λ l. select_each s.one p.0 l (node_ex b op es))))
        go None j = tt
        go (Some p) j = at p.0 (looked_up g s.third s.parts p.1) (looks p.1 j)
    pick-has _ h = tt

    pub pick-alone-has : (e : Ex) → PartsHave w e → Answers w (pick_alone s g e)
    pick-alone-has e h = under w (picks e && gives_scalar g e) _ (go (looked_up g s.third s.parts e) (looks e h))
      where
        go : (r : Option (List Alternative)) → HaveSome w r → Answers w (and_then r (λ l. select_whole_each s.one l e))
        go None j = tt
        go (Some l) j = whole-each w s.one n draws l e j h
