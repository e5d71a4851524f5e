-- Items of comprehensions by their numbers are in order where order counts, where names that are put in belong to u.
use Rattle.std.proofs.Common.{◌≡◌, refl, Bool, true, false, if◌then◌else◌, List, [], ◌∷◌, pos, Option, Some, None, option_map}
use Rattle.std.specs.List.{list_all}
use Rattle.ess_semantics.specs.declared.words.Op2.{Op2}
use Rattle.ess_semantics.specs.Lists.{and_then}
use Rattle.ess_semantics.specs.Values.{Text}
use Rattle.ess_semantics.specs.Substitution.{substitute, substitute_gens, for_name}
use Rattle.ess_semantics.specs.Trees.{by_value, index, name_pat, tuple_pat, Ex, number_ex, name_ex, node_ex, comp_ex, ex2, no_exs, more_exs, Gens, no_gens, over, from, cond, Dom}
use Rattle.ess_semantics.proofs.Tests.{and-left, and-right}
use Rattle.ess_rules_laws.specs.Listings.{Alternative}
use Rattle.ess_rules_laws.specs.AlternativeLookups.{lookup_through_each}
use Rattle.ess_refine_laws.specs.AllRules.{OfSome}
use Rattle.ess_refine_laws.specs.ItemsOnce.{is_atom_dom}
use Rattle.ess_refine_laws.specs.ExtremeRules.{are_none}
use Rattle.ess_kind_rules_laws.specs.TermLookups.{count_below, picks, picked_within}
use Rattle.ess_ordered_laws.specs.NumberedItems.{is_from_one, place_in, numbered_item, number_behind, under_condition, at_each_value, numbered_gens, numbered_over, numbered_lookup, ordered_lookup}
use Rattle.ess_given_order_laws.specs.InOrder.{Ordered, GensOrdered, InOrder}
use Rattle.ess_given_order_laws.proofs.OrderedParts.{PutsOrder, put-kept, put-gens-order}
use Rattle.ess_given_order_laws.proofs.OrderOfListings.{SomeAlternatives}
use Rattle.ess_given_offers_laws.proofs.OrderOfPicks.{through-each}
use Rattle.ess_given_offers_laws.proofs.OrderOfViews.{OrderedAlternative}
use Rattle.ess_given_ordered_laws.specs.OrderedNames.{OfEither}

module _ (u : Text → Bool) where
  -- The names behind those for what is picked within belong to u.
  abbrev pub BehindAlong : List Text → Ex → Type 0
  BehindAlong [] e = Unit {0}
  BehindAlong (y ∷ ys) e = OfEither (picked_within e) (list_all u ys ≡ true) (BehindAlong ys)

  -- ---- numbers

  place-kept : (z x : Text) (d : Dom) → InOrder u (place_in z x d)
  place-kept z x d = go (is_from_one d)
    where
      go : (b : Bool) → InOrder u (if b then name_ex x else ex2 false Op2.Plus (count_below z d (name_ex x)) (number_ex (pos 1)))
      go true = (refl, tt)
      go false = (refl, ((refl, (((refl, tt), ((refl, ((refl, tt), ((refl, tt), tt))), tt)), tt)), ((refl, tt), tt)))

  behind-kept : (v x : Text) (d : Dom) (gs : Gens) (i : Ex) → GensOrdered u gs → InOrder u i → InOrder u (number_behind v x d gs i)
  behind-kept v x d gs i k j = (refl, (j, ((refl, (((refl, tt), ((refl, ((refl, tt), ((refl, tt), tt))), k)), tt)), tt)))

  item-kept : (z x : Text) (d : Dom) (e i : Ex) → InOrder u e → InOrder u i → OrderedAlternative u (Some (numbered_item z x d e i))
  item-kept z x d e i h k = (h, ((refl, (place-kept z x d, (k, tt))), tt))

  -- ---- items by their numbers

  renamed : (x v : Text) → u v ≡ true → PutsOrder u x (name_ex v)
  renamed x v q = record { kept = (refl, tt); fixed = λ n. q }

  pub gens-kept : (ws : List Text) → list_all u ws ≡ true → (e : Ex) (gs : Gens) (i : Ex) → InOrder u e → GensOrdered u gs →
      InOrder u i → OrderedAlternative u (numbered_gens ws e gs i)
  gens-kept [] r e gs i h k j = tt
  gens-kept (v ∷ ws) r e no_gens i h k j = (h, ((refl, (j, ((refl, tt), tt))), tt))
  gens-kept (v ∷ ws) r e (cond c gs) i h k j =
      go (numbered_gens ws e gs i) (gens-kept ws (and-right (u v) (list_all u ws) r) e gs i h k.1 j)
    where
      go : (o : Option Alternative) → OrderedAlternative u o → OrderedAlternative u (option_map (under_condition c) o)
      go None q = tt
      go (Some a) q = (q.0, (k.0, q.1))
  gens-kept (v ∷ ws) r e (over (name_pat x) d gs) i h k j = go (is_atom_dom d) (are_none gs)
      (numbered_gens ws (substitute (for_name x (name_ex v)) e) (substitute_gens (for_name x (name_ex v)) gs) (number_behind v x d gs i))
      (gens-kept ws (and-right (u v) (list_all u ws) r) (substitute (for_name x (name_ex v)) e)
      (substitute_gens (for_name x (name_ex v)) gs) (number_behind v x d gs i)
      (put-kept u x (name_ex v) put e h) (put-gens-order u x (name_ex v) put gs k) (behind-kept v x d gs i k j))
    where
      put : PutsOrder u x (name_ex v)
      put = renamed x v (and-left (u v) (list_all u ws) r)

      go : (b c : Bool) (o : Option Alternative) → OrderedAlternative u o → OrderedAlternative u (if b then
          (if c then Some (numbered_item x v d (substitute (for_name x (name_ex v)) e) i) else option_map (at_each_value v d) o) else None)
      go false c o q = tt
      go true true o q = item-kept x v d (substitute (for_name x (name_ex v)) e) i (put-kept u x (name_ex v) put e h) j
      go true false None q = tt
      go true false (Some a) q = q
  gens-kept (v ∷ ws) r e (over (tuple_pat ps) d gs) i h k j = tt
  gens-kept (v ∷ ws) r e (from p t gs) i h k j = tt

  module _ (z : Text) where
    several-kept : (ws : List Text) → list_all u ws ≡ true → (e : Ex) (gs : Gens) (i : Ex) → Ordered u (comp_ex e gs) → InOrder u i →
        SomeAlternatives u (option_map (λ a. a ∷ []) (numbered_gens ws e gs i))
    several-kept ws r e gs i h j = go (numbered_gens ws e gs i) (gens-kept ws r e gs i h.0 h.1 j)
      where
        go : (p : Option Alternative) → OrderedAlternative u p → SomeAlternatives u (option_map (λ a. a ∷ []) p)
        go None q = tt
        go (Some a) q = (q, tt)

    over-kept : (ws : List Text) → list_all u ws ≡ true → (e : Ex) (gs : Gens) (i : Ex) → Ordered u (comp_ex e gs) → InOrder u i →
        SomeAlternatives u (numbered_over z ws e gs i)
    over-kept ws r e (over (name_pat x) d no_gens) i h k = go (is_atom_dom d)
      where
        go : (b : Bool) → SomeAlternatives u (if b then Some (numbered_item z x d e i ∷ []) else None)
        go true = (item-kept z x d e i h.0 k, tt)
        go false = tt
    over-kept ws r e gs i h k = several-kept ws r e gs i h k

    numbered-kept : (ws : List Text) → list_all u ws ≡ true → (e : Ex) → Ordered u e → SomeAlternatives u (numbered_lookup z ws e)
    numbered-kept ws r (node_ex b (index (by_value ∷ [])) (more_exs (comp_ex e gs) (more_exs i no_exs))) h =
        over-kept ws r e gs i h.0.1 h.1.0
    numbered-kept ws r _ h = tt

    within-kept : (e : Ex) → Ordered u e → OfSome (picked_within e) (Ordered u)
    within-kept (node_ex b (index (q ∷ [])) (more_exs t es)) h = go (picks t)
      where
        go : (c : Bool) → OfSome (if c then Some t else None) (Ordered u)
        go true = h.0.1
        go false = tt
    within-kept _ h = tt

    -- What is picked out of such an item.
    pub ordered-kept : (ys : List Text) (e : Ex) → BehindAlong ys e → Ordered u e → SomeAlternatives u (ordered_lookup z ys e)
    ordered-kept [] e r h = tt
    ordered-kept (y ∷ ys) e r h = go (picked_within e) (within-kept e h) r (ordered-kept ys)
      where
        behind : (l : Option (List Alternative)) → SomeAlternatives u l → SomeAlternatives u (and_then l (λ l. lookup_through_each y 1 l e))
        behind None k = tt
        behind (Some l) k = through-each u y 1 l e k h

        go : (p : Option Ex) → OfSome p (Ordered u) → OfEither p (list_all u ys ≡ true) (BehindAlong ys) →
            ((t : Ex) → BehindAlong ys t → Ordered u t → SomeAlternatives u (ordered_lookup z ys t)) →
            SomeAlternatives u (elim p [
              | None ↦ numbered_lookup z ys e
              | Some t ↦ and_then (ordered_lookup z ys t) (λ l. lookup_through_each y 1 l e)
            ])
        go None k q f = numbered-kept ys q e h
        go (Some t) k q f = behind (ordered_lookup z ys t) (f t q k)

    -- No comprehension is one.
    pub no-item-kept : (ys : List Text) (e : Ex) (gs : Gens) → SomeAlternatives u (ordered_lookup z ys (comp_ex e gs))
    no-item-kept [] e gs = tt
    no-item-kept (y ∷ ys) e gs = tt
