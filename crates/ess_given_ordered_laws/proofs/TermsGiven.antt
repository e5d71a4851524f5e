-- What an operand offers in order is given where the operand is, it is fixed where that is, and it is in order where order counts.
use Rattle.std.proofs.Common.{◌≡◌, refl, ◌∙◌, Bool, true, false, ◌||◌, not, if◌then◌else◌, List, [], ◌∷◌, Option, Some, None, option_map}
use Rattle.ess_semantics.specs.Lists.{or_else}
use Rattle.ess_semantics.specs.Values.{Text}
use Rattle.ess_semantics.specs.Names.{Names}
use Rattle.ess_semantics.specs.Trees.{name_pat, Ex, name_ex, comp_ex, from}
use Rattle.ess_semantics.specs.Types.{Ty}
use Rattle.ess_rules_laws.specs.Listings.{Alternative}
use Rattle.ess_rules_laws.specs.ListedSources.{laid_out}
use Rattle.ess_refine_laws.specs.AllRules.{Supply}
use Rattle.ess_kind_rules_laws.specs.TermLookups.{looked_up}
use Rattle.ess_ordered_laws.specs.NumberedItems.{ordered_lookup}
use Rattle.ess_ordered_laws.specs.PickedSources.{is_untold, source_lookup, each_source, picked_source}
use Rattle.ess_ordered_laws.specs.OrderedRules.{keeps_order, operand_lookup}
use Rattle.ess_given_laws.specs.PartsHave.{PartsHave}
use Rattle.ess_given_laws.specs.Given.{is_fixed, given, GivenIn}
use Rattle.ess_given_laws.proofs.FixedTrees.{fixed, fixed-has, has-fixed}
use Rattle.ess_given_laws.proofs.PartsOfFolds.{HaveAll, HaveSome}
use Rattle.ess_given_order_laws.specs.InOrder.{Ordered}
use Rattle.ess_given_order_laws.proofs.OrderOfListings.{SomeAlternatives}
use Rattle.ess_given_offers_laws.specs.Seen.{Counts}
use Rattle.ess_given_offers_laws.proofs.GivenOffers.{picks-given, picks-fixed}
use Rattle.ess_given_offers_laws.proofs.OrderOfLookups.{picked-order}
use Rattle.ess_given_opened_laws.specs.OpenedStays.{EachAs}
use Rattle.ess_given_opened_laws.proofs.SourcesGiven.{each-in, none-in, free, not-of, given-of-fixed}
use Rattle.ess_given_ordered_laws.specs.OrderedNames.{OfEither, ItemNames, PickedSourceNames, TermNames}
use Rattle.ess_given_ordered_laws.proofs.PartsOfItems.{ordered-has, no-item}
use Rattle.ess_given_ordered_laws.proofs.PartsOfOperands.{EachDraws, each-source-has, either-looks}
use Rattle.ess_given_ordered_laws.proofs.OrderOfItems.{BehindAlong, ordered-kept, no-item-kept}
use Rattle.ess_given_ordered_laws.proofs.OrderOfOperands.{SourceLooks}
use Rattle.ess_given_ordered_laws.proofs.NamesGiven.{fixed-along, given-along, all-behind, along-behind, by-fixed}

-- The second of two, where it is true.
pub or-right : (a b : Bool) → b ≡ true → a || b ≡ true
or-right true b q = refl
or-right false b q = q

module _ (u : Text → Bool) where
  -- ---- a name that is bound over alternatives

  -- It belongs to u.
  pub fixed-draws : (x : Text) → u x ≡ true → (l : List Alternative) → EachDraws (fixed u) x l
  fixed-draws x n [] = tt
  fixed-draws x n (a ∷ l) = (n, fixed-draws x n l)

  -- It doesn't.
  pub free-draws : (x : Text) → u x ≡ false → (l : List Alternative) → EachDraws (given u) x l
  free-draws x n [] = tt
  free-draws x n (a ∷ l) = (free u x n (laid_out a), free-draws x n l)

  -- The alternatives are fixed.
  pub given-draws : (x : Text) (l : List Alternative) → HaveAll (fixed u) l → EachDraws (given u) x l
  given-draws x [] h = tt
  given-draws x (a ∷ l) h =
      (or-right (not (u x)) (is_fixed u (laid_out a)) (has-fixed u (laid_out a) h.0), given-draws x l h.1)

  module _ (s : Supply) (g : Names Ty) where
    -- ---- what is picked out of an item

    behind-of : (t : Ex) → ItemNames u s t → BehindAlong u s.parts t
    behind-of t n = by-fixed u t (BehindAlong u s.parts t) (λ q. all-behind u s.parts t (n.where_fixed q))
        (λ q. along-behind u s.parts t (n.else_along q))

    -- It is fixed where the term is, given where it is, and in order where it is.
    pub item-fixed : (t : Ex) → ItemNames u s t → PartsHave (fixed u) t → HaveSome (fixed u) (ordered_lookup s.third s.parts t)
    item-fixed t n h = ordered-has (fixed u) (λ a q. q) s.third (n.third, n.third) s.parts t
        (fixed-along u s.parts t (n.where_fixed (has-fixed u t h))) h

    -- What is fixed is given.
    pub given-some : (o : Option (List Alternative)) → HaveSome (fixed u) o → HaveSome (given u) o
    given-some o h = (given-of-fixed u s.one o h).0

    pub item-given : (t : Ex) → ItemNames u s t → GivenIn u t → HaveSome (given u) (ordered_lookup s.third s.parts t)
    item-given t n h = by-fixed u t (HaveSome (given u) (ordered_lookup s.third s.parts t))
        (λ q. given-some (ordered_lookup s.third s.parts t) (item-fixed t n (fixed-has u t q)))
        (λ q. ordered-has (given u) (λ a q. refl) s.third (refl, refl) s.parts t (given-along u s.parts t (n.else_along q)) h)

    pub item-ordered : (t : Ex) → ItemNames u s t → Ordered u t → SomeAlternatives u (ordered_lookup s.third s.parts t)
    item-ordered t n h = ordered-kept u s.third s.parts t (behind-of t n) h

    pub term-ordered : (t : Ex) → TermNames u s t → Ordered u t → SomeAlternatives u (ordered_lookup s.third s.parts t)
    term-ordered (comp_ex e gs) n h = no-item-kept u s.third s.parts e gs
    term-ordered t n h = item-ordered t n h

    pub term-fixed : (t : Ex) → TermNames u s t → PartsHave (fixed u) t → HaveSome (fixed u) (ordered_lookup s.third s.parts t)
    term-fixed (comp_ex e gs) n h = no-item (fixed u) s.third s.parts e gs
    term-fixed t n h = item-fixed t n h

    pub term-given : (t : Ex) → TermNames u s t → GivenIn u t → HaveSome (given u) (ordered_lookup s.third s.parts t)
    term-given (comp_ex e gs) n h = no-item (given u) s.third s.parts e gs
    term-given t n h = item-given t n h

    -- ---- comprehensions over what is picked

    -- By the lookup that picks from the source.
    by-lookup : (t : Ex) (P : Option (List Alternative) → Type 0) → PickedSourceNames u s t →
        (ItemNames u s t → P (ordered_lookup s.third s.parts t)) →
        (EachAs u (is_fixed u t) (s.third ∷ s.parts) → P (looked_up g s.third s.parts t)) → P (source_lookup s g t)
    by-lookup t P n h k = go (ordered_lookup s.third s.parts t) n h
      where
        go : (o : Option (List Alternative)) →
            OfEither o (EachAs u (is_fixed u t) (s.third ∷ s.parts)) (λ l. ItemNames u s t) → (ItemNames u s t → P o) →
            P (or_else o (looked_up g s.third s.parts t))
        go None n h = k n
        go (Some l) n h = h n

    pub source-ordered : (t : Ex) → TermNames u s t → SourceLooks u s g t
    source-ordered (comp_ex e (from (name_pat y) t hs)) n =
        λ h. by-lookup t (SomeAlternatives u) n.1 (λ i. item-ordered t i h) (λ j. picked-order u g s.third s.parts t h)
    source-ordered _ n = tt

    module _ (c : Counts u) where
      at-fixed : (t : Ex) → PickedSourceNames u s t → is_fixed u t ≡ true → HaveSome (fixed u) (source_lookup s g t)
      at-fixed t n q = by-lookup t (HaveSome (fixed u)) n (λ i. item-fixed t i (fixed-has u t q))
          (λ j. picks-fixed u c g s.third s.parts t (each-in u (is_fixed u t) (s.third ∷ s.parts) q j) q)

      at-given : (t : Ex) → PickedSourceNames u s t → GivenIn u t → is_fixed u t ≡ false → HaveSome (given u) (source_lookup s g t)
      at-given t n h q = by-lookup t (HaveSome (given u)) n (λ i. item-given t i h)
          (λ j. picks-given u c g s.third s.parts t (none-in u (is_fixed u t) (s.third ∷ s.parts) q j) h)

      source-fixed : (t : Ex) → TermNames u s t → PartsHave (fixed u) t → HaveSome (fixed u) (picked_source s g t)
      source-fixed (comp_ex e (from (name_pat y) t hs)) n h =
          let q = has-fixed u t h.1.1 in go (is_untold s g t) (source_lookup s g t) (n.0 ∙ q) (at-fixed t n.1 q)
        where
          go : (b : Bool) (r : Option (List Alternative)) → u s.other ≡ true → HaveSome (fixed u) r →
              HaveSome (fixed u) (if b then option_map (λ l. each_source s.other y l e hs) r else None)
          go false r k j = tt
          go true None k j = tt
          go true (Some l) k j = each-source-has (fixed u) s.other y l e hs j (fixed-draws s.other k l) k h.1.0 h.0 h.1.2
      source-fixed _ n h = tt

      source-given : (t : Ex) → TermNames u s t → GivenIn u t → HaveSome (given u) (picked_source s g t)
      source-given (comp_ex e (from (name_pat y) t hs)) n h =
          by-fixed u t (HaveSome (given u) (picked_source s g (comp_ex e (from (name_pat y) t hs))))
          (λ q. of-fixed (is_untold s g t) (source_lookup s g t) (n.0 ∙ q) (at-fixed t n.1 q)) others
        where
          of-fixed : (b : Bool) (r : Option (List Alternative)) → u s.other ≡ true → HaveSome (fixed u) r →
              HaveSome (given u) (if b then option_map (λ l. each_source s.other y l e hs) r else None)
          of-fixed false r k j = tt
          of-fixed true None k j = tt
          of-fixed true (Some l) k j = each-source-has (given u) s.other y l e hs (given-some (Some l) j) (given-draws s.other l j) refl
              (or-right (not (u y)) (u s.other) k) h.0 h.1.2

          of-others : u y ≡ false → u s.other ≡ false → (b : Bool) (r : Option (List Alternative)) → HaveSome (given u) r →
              HaveSome (given u) (if b then option_map (λ l. each_source s.other y l e hs) r else None)
          of-others m k false r j = tt
          of-others m k true None j = tt
          of-others m k true (Some l) j = each-source-has (given u) s.other y l e hs j (free-draws s.other k l) refl
              (free u y m (name_ex s.other)) h.0 h.1.2

          others : is_fixed u t ≡ false → HaveSome (given u) (picked_source s g (comp_ex e (from (name_pat y) t hs)))
          others q = of-others (not-of u y t q h.1.0) (n.0 ∙ q) (is_untold s g t) (source_lookup s g t) (at-given t n.1 h.1.1 q)
      source-given _ n h = tt

      -- ---- an operand

      pub operand-fixed : (e t : Ex) → TermNames u s t → PartsHave (fixed u) t → HaveSome (fixed u) (operand_lookup s g e t)
      operand-fixed e t n h = either-looks (fixed u) (ordered_lookup s.third s.parts t) (picked_source s g t) (keeps_order e)
          (term-fixed t n h) (source-fixed t n h)

      pub operand-given : (e t : Ex) → TermNames u s t → GivenIn u t → HaveSome (given u) (operand_lookup s g e t)
      operand-given e t n h = either-looks (given u) (ordered_lookup s.third s.parts t) (picked_source s g t) (keeps_order e)
          (term-given t n h) (source-given t n h)
