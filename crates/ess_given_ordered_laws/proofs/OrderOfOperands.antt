-- Rules of comprehensions whose items have an order keep comprehensions in order where order counts, where the lookup of an operand does.
use Rattle.std.proofs.Common.{◌≡◌, refl, ℕ, zero, suc, Bool, true, false, ◌&&◌, not, if◌then◌else◌, List, [], ◌∷◌, Option, Some, None, option_map}
use Rattle.std.specs.Prelude.{is_some}
use Rattle.ess_semantics.specs.Lists.{and_then, or_else}
use Rattle.ess_semantics.specs.Values.{Text}
use Rattle.ess_semantics.specs.Names.{Names}
use Rattle.ess_semantics.specs.Trees.{name_pat, Op, Ex, Exs, node_ex, comp_ex, no_exs, more_exs, Gens, from}
use Rattle.ess_semantics.specs.Types.{Ty}
use Rattle.ess_semantics.specs.Typing.{type_of}
use Rattle.ess_semantics.specs.ExpressionJudgements.{forgets_order}
use Rattle.ess_semantics.proofs.Tests.{and-right}
use Rattle.ess_rules_laws.specs.LiteralRules.{nth}
use Rattle.ess_rules_laws.specs.Listings.{Alternative}
use Rattle.ess_rules_laws.specs.AlternativeLookups.{select_each, select_whole_each}
use Rattle.ess_refine_laws.specs.AllRules.{Supply, OfSome}
use Rattle.ess_open_rules_laws.specs.OpenRules.{gives_scalar, is_compound_ty}
use Rattle.ess_ordered_laws.specs.NumberedItems.{ordered_lookup}
use Rattle.ess_ordered_laws.specs.PickedSources.{is_untold, source_lookup, each_source, picked_source}
use Rattle.ess_ordered_laws.specs.OrderedRules.{item_alone, keeps_order, operand_lookup, over_operand, at_operand}
use Rattle.ess_given_order_laws.specs.InOrder.{in_order, gens_in_order, Ordered, AllOrdered, GensOrdered, InOrder}
use Rattle.ess_given_order_laws.proofs.OrderOfListings.{AllAlternatives, SomeAlternatives}
use Rattle.ess_given_order_laws.proofs.OrderOfFolds.{Answered, under}
use Rattle.ess_given_offers_laws.proofs.OrderOfPicks.{selected-each, whole-each}
use Rattle.ess_given_ordered_laws.specs.OrderedNames.{rewritten_operand}
use Rattle.ess_given_ordered_laws.proofs.PartsOfOperands.{told-operand}

module _ (u : Text → Bool) where
  -- ---- comprehensions over what is picked

  each-source-kept : (x y : Text) (l : List Alternative) (e : Ex) (hs : Gens) → AllAlternatives u l → InOrder u e →
      gens_in_order u hs ≡ true → GensOrdered u hs → AllAlternatives u (each_source x y l e hs)
  each-source-kept x y [] e hs h k p j = tt
  each-source-kept x y (a ∷ l) e hs h k p j = (((p, (k, (tt, j))), (h.0, tt)), each-source-kept x y l e hs h.1 k p j)

  -- What the first source of a comprehension picks is in order where the source is.
  abbrev pub SourceLooks : Supply → Names Ty → Ex → Type 0
  SourceLooks s g (comp_ex e (from (name_pat y) t hs)) = Ordered u t → SomeAlternatives u (source_lookup s g t)
  SourceLooks s g e = Unit {0}

  -- The comprehension stands in order itself: so it does as an item.
  pub picked-kept : (s : Supply) (g : Names Ty) (t : Ex) → SourceLooks s g t → InOrder u t → SomeAlternatives u (picked_source s g t)
  picked-kept s g (comp_ex e (from (name_pat y) t hs)) j h = go (is_untold s g t) (source_lookup s g t) (j h.1.1.0)
    where
      go : (c : Bool) (r : Option (List Alternative)) → SomeAlternatives u r →
          SomeAlternatives u (if c then option_map (λ l. each_source s.other y l e hs) r else None)
      go false r k = tt
      go true None k = tt
      go true (Some l) k =
          each-source-kept s.other y l e hs k h.1.0 (and-right (in_order u t) (gens_in_order u hs) h.0) h.1.1.1
  picked-kept s g _ j h = tt

  -- ---- the rules

  either-kept : (o p : Option (List Alternative)) (c : Bool) → SomeAlternatives u o → (c ≡ true → SomeAlternatives u p) →
      SomeAlternatives u (or_else o (if c then p else None))
  either-kept None p true h k = k refl
  either-kept None p false h k = tt
  either-kept (Some l) p c h k = h

  module _ (s : Supply) (g : Names Ty) where
    pub alone-order : (e : Ex) → SomeAlternatives u (ordered_lookup s.third s.parts e) → Answered u (item_alone s g e)
    alone-order e h = go (ordered_lookup s.third s.parts e) h
      where
        go : (r : Option (List Alternative)) → SomeAlternatives u r →
            Answered u (and_then r (λ l. if gives_scalar g e then select_whole_each s.one l e else None))
        go None k = tt
        go (Some l) k = under u (gives_scalar g e) _ (whole-each u s.one l e k)

    -- An operand is looked up in order, where it stands in order if order counts in the root.
    operand-kept : (e t : Ex) → SomeAlternatives u (ordered_lookup s.third s.parts t) → SourceLooks s g t →
        (keeps_order e ≡ true → InOrder u t) → SomeAlternatives u (operand_lookup s g e t)
    operand-kept e t h j k = either-kept (ordered_lookup s.third s.parts t) (picked_source s g t) (keeps_order e) h
        (λ q. picked-kept s g t j (k q))

    operand-order : (k : ℕ) (e t : Ex) → Ordered u e → SomeAlternatives u (operand_lookup s g e t) → Answered u (over_operand s g k e t)
    operand-order k e t h j = go (operand_lookup s g e t) j
      where
        go : (r : Option (List Alternative)) → SomeAlternatives u r →
            Answered u (and_then r (λ l. if gives_scalar g e && is_compound_ty (type_of t g) then select_each s.one k l e else None))
        go None i = tt
        go (Some l) i = under u (gives_scalar g e && is_compound_ty (type_of t g)) _ (selected-each u s.one k l e i h)

    -- What is said of an operand by the place that it stands in.
    abbrev Placed : Bool → Ex → Type 0
    Placed c t = Ordered u t × (not c ≡ true → InOrder u t)

    nth-placed : (es : Exs) (k : ℕ) (c : Bool) → AllOrdered u es c → OfSome (nth es k) (Placed c)
    nth-placed no_exs k c h = tt
    nth-placed (more_exs a es) zero c h = tt
    nth-placed (more_exs a es) (suc zero) true h = (h.0, λ q. cc)
    nth-placed (more_exs a es) (suc zero) false h = (h.0.1, λ q. h.0)
    nth-placed (more_exs a es) (suc (suc k)) true h = nth-placed es (suc k) true h.1
    nth-placed (more_exs a es) (suc (suc k)) false h = nth-placed es (suc k) false h.1

    -- What is picked out of an item is in order where the operand is, and so is what its first source picks.
    abbrev pub Looks : Ex → Type 0
    Looks t = (Ordered u t → SomeAlternatives u (ordered_lookup s.third s.parts t)) × SourceLooks s g t

    at-order : (k : ℕ) (b : Bool) (op : Op) (es : Exs) → AllOrdered u es (forgets_order op) → OfSome (nth es k) Looks →
        Answered u (at_operand s g k (node_ex b op es))
    at-order k b op es h j = go (nth es k) (nth-placed es k (forgets_order op) h) j
      where
        go : (r : Option Ex) → OfSome r (Placed (forgets_order op)) → OfSome r Looks →
            Answered u (and_then r (over_operand s g k (node_ex b op es)))
        go None i j = tt
        go (Some t) i j = operand-order k (node_ex b op es) t h (operand-kept (node_ex b op es) t (j.0 i.0) j.1 i.1)

    -- By the operand at which the root is rewritten.
    pub item-order : (e : Ex) → Ordered u e → OfSome (rewritten_operand s g e) Looks →
        Answered u (or_else (at_operand s g 1 e) (at_operand s g 2 e))
    item-order (node_ex b op es) h j = go (at_operand s g 1 (node_ex b op es)) (at_operand s g 2 (node_ex b op es))
        (λ q. at-order 1 b op es h (told-operand es (is_some (at_operand s g 1 (node_ex b op es))) true Looks q j))
        (λ q. at-order 2 b op es h (told-operand es (is_some (at_operand s g 1 (node_ex b op es))) false Looks q j))
      where
        go : (o p : Option Ex) → (is_some o ≡ true → Answered u o) → (is_some o ≡ false → Answered u p) → Answered u (or_else o p)
        go None p j k = k refl
        go (Some f) p j k = j refl
    item-order _ h j = tt
