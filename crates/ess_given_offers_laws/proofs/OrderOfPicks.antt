-- An operator on what is picked is in order where order counts, where it and what is picked are.
use Rattle.std.proofs.Common.{refl, Bool, true, false, ◌&&◌, if◌then◌else◌, List, [], ◌∷◌, ℕ, zero, suc, Option, Some, None}
use Rattle.std.specs.Prelude.{is_some}
use Rattle.ess_semantics.specs.Values.{Text}
use Rattle.ess_semantics.specs.Trees.{Op, Ex, Exs, name_ex, node_ex, no_exs, more_exs}
use Rattle.ess_semantics.specs.ExpressionJudgements.{forgets_order}
use Rattle.ess_rules_laws.specs.Listings.{Alternative}
use Rattle.ess_rules_laws.specs.ListedSources.{laid_out}
use Rattle.ess_rules_laws.specs.LiteralRules.{nth}
use Rattle.ess_rules_laws.specs.Lookups.{is_plain, put_nth, picking, select, select_whole}
use Rattle.ess_rules_laws.specs.AlternativeLookups.{each_picked, picking_each, select_each, select_whole_each, members_of_each, each_through, lookup_through_each}
use Rattle.ess_given_order_laws.specs.InOrder.{Ordered, AllOrdered, InOrder}
use Rattle.ess_given_order_laws.proofs.OrderOfFolds.{Answered, when}
use Rattle.ess_given_order_laws.proofs.OrderOfListings.{nm, AllAlternatives, SomeAlternatives}

module _ (u : Text → Bool) where
  abbrev A : Option Ex → Type 0
  A r = Answered u r

  abbrev H : Option (List Alternative) → Type 0
  H o = SomeAlternatives u o

  -- With another operand in the place of one.
  pub nth-order : (es : Exs) (k : ℕ) (b : Ex) (c : Bool) → InOrder u b → AllOrdered u es c → AllOrdered u (put_nth es k b) c
  nth-order no_exs k b c h i = tt
  nth-order (more_exs a es) zero b c h i = i
  nth-order (more_exs a es) (suc zero) b true h i = (h.1, i.1)
  nth-order (more_exs a es) (suc zero) b false h i = (h, i.1)
  nth-order (more_exs a es) (suc (suc n)) b true h i = (i.0, nth-order es (suc n) b true h i.1)
  nth-order (more_exs a es) (suc (suc n)) b false h i = (i.0, nth-order es (suc n) b false h i.1)

  put-node : (b : Bool) (op : Op) (es : Exs) (k : ℕ) (x : Text) → Ordered u (node_ex b op es) →
      InOrder u (node_ex b op (put_nth es k (name_ex x)))
  put-node b op es k x h = (refl, nth-order es k (name_ex x) (forgets_order op) (nm u x) h)

  module _ (x : Text) where
    -- What picks the one item of a lookup.
    pub picking-order : (b : Bool) (l e : Ex) → Ordered u l → InOrder u e → InOrder u (picking b x l e)
    picking-order true l e h k = (refl, ((k, (h, tt)), tt))
    picking-order false l e h k = (refl, ((k, (h, tt)), tt))

    picked-each : (b : Bool) (l : List Alternative) (e : Ex) → AllAlternatives u l → InOrder u e →
        AllOrdered u (each_picked b x l e) false
    picked-each b [] e h k = tt
    picked-each b (a ∷ l) e h k = (picking-order b (laid_out a) e h.0 k, picked-each b l e h.1 k)

    -- Of each alternative.
    pub each-order : (b : Bool) (l : List Alternative) (e : Ex) → AllAlternatives u l → InOrder u e → InOrder u (picking_each b x l e)
    each-order true l e h k = (refl, ((picked-each true l e h k), tt))
    each-order false l e h k = (refl, ((picked-each false l e h k), tt))

    -- An operator over the lookup of an operand; the whole by its lookup; and both over alternatives.
    pub selected : (k : ℕ) (l e : Ex) → Ordered u l → Ordered u e → A (select x k l e)
    selected k l (node_ex b op es) h i = when u (is_plain op && is_some (nth es k)) _
        (picking-order b l (node_ex b op (put_nth es k (name_ex x))) h (put-node b op es k x i))
    selected k l _ h i = tt

    -- The whole by its lookup.
    pub selected-whole : (l e : Ex) → Ordered u l → A (select_whole x l e)
    selected-whole l (node_ex b op es) h = picking-order b l (name_ex x) h (nm u x)
    selected-whole l _ h = tt

    -- An operator over the alternatives of an operand.
    pub selected-each : (k : ℕ) (l : List Alternative) (e : Ex) → AllAlternatives u l → Ordered u e → A (select_each x k l e)
    selected-each k l (node_ex b op es) h i = when u (is_plain op && is_some (nth es k)) _
        (each-order b l (node_ex b op (put_nth es k (name_ex x))) h (put-node b op es k x i))
    selected-each k l _ h i = tt

    -- The whole by its alternatives.
    pub whole-each : (l : List Alternative) (e : Ex) → AllAlternatives u l → A (select_whole_each x l e)
    whole-each l (node_ex b op es) h = each-order b l (name_ex x) h (nm u x)
    whole-each l _ h = tt

    -- An operator through each alternative.
    pub through : (l : List Alternative) (e : Ex) → AllAlternatives u l → InOrder u e → AllAlternatives u (each_through x l e)
    through [] e h k = tt
    through (a ∷ l) e h k = ((k, (h.0, tt)), through l e h.1 k)

    -- An operator through the alternatives of an operand.
    pub through-each : (k : ℕ) (l : List Alternative) (e : Ex) → AllAlternatives u l → Ordered u e → H (lookup_through_each x k l e)
    through-each k l (node_ex b op es) h i = go (is_plain op && is_some (nth es k))
      where
        go : (c : Bool) → H (if c then Some (each_through x l (node_ex b op (put_nth es k (name_ex x)))) else None)
        go true = through l (node_ex b op (put_nth es k (name_ex x))) h (put-node b op es k x i)
        go false = tt
    through-each k l _ h i = tt

    -- The members of what each alternative picks, called x; a member is called y.
    pub members-each : (y : Text) → (l : List Alternative) → AllAlternatives u l → AllAlternatives u (members_of_each x y l)
    members-each y [] h = tt
    members-each y (a ∷ l) h = ((nm u y, (h.0, (tt, tt))), members-each y l h.1)
