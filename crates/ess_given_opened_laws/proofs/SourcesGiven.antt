-- What a source offers is given where the source is, and fixed where it is; its items may be put in for the name of the generator.
use Rattle.std.proofs.Common.{◌≡◌, refl, sym, ap, ◌∙◌, subst, Bool, true, false, ◌||◌, not, if◌then◌else◌, List, [], ◌∷◌, Option, Some, None, option_map}
use Rattle.std.specs.Prelude.{is_some}
use Rattle.std.specs.List.{list_all}
use Rattle.ess_semantics.specs.Lists.{or_else}
use Rattle.ess_semantics.specs.Values.{Text}
use Rattle.ess_semantics.specs.Names.{Names}
use Rattle.ess_semantics.specs.Trees.{name_pat, Ex, name_ex, Gens, from}
use Rattle.ess_semantics.specs.Types.{Ty}
use Rattle.ess_semantics.specs.Substitution.{for_name}
use Rattle.ess_semantics.proofs.Tests.{and-both}
use Rattle.ess_rules_laws.specs.Listings.{Alternative}
use Rattle.ess_refine_laws.specs.AllRules.{Supply, offered}
use Rattle.ess_kind_rules_laws.specs.ViewListings.{view_listing}
use Rattle.ess_rules_laws.specs.AlternativeLookups.{members_of_each}
use Rattle.ess_kind_rules_laws.specs.TermLookups.{picks, looked_up}
use Rattle.ess_open_rules_laws.specs.OpenSources.{picked_members, told_by_kind, all_offered}
use Rattle.ess_given_laws.specs.PartsHave.{PartsHave}
use Rattle.ess_given_laws.specs.Given.{none_bound, is_fixed, given, GivenIn}
use Rattle.ess_given_laws.proofs.PartsHave.{Puts}
use Rattle.ess_given_laws.proofs.FixedTrees.{fixed, put-fixed, put-fixed-dom, fixed-has, has-fixed, given-has, given-gens}
use Rattle.ess_given_laws.proofs.PartsOfFolds.{HaveAll, HaveSome, PutsAll, PutsSome}
use Rattle.ess_given_laws.proofs.PartsOfListings.{New, offered-has}
use Rattle.ess_given_order_laws.proofs.OrderedParts.{at-name}
use Rattle.ess_given_offers_laws.specs.Seen.{Counts, AlternativeHas}
use Rattle.ess_given_offers_laws.specs.GivenOffers.{NoneIn}
use Rattle.ess_given_offers_laws.proofs.GivenOffers.{view-given, view-fixed, picks-given, picks-fixed}
use Rattle.ess_given_offers_laws.proofs.PartsOfPicks.{members-each}
use Rattle.ess_given_opened_laws.specs.OpenedStays.{EachAs, AllAs, SourceNames}

module _ (u : Text → Bool) where
  -- ---- names

  pub each-in : (b : Bool) (zs : List Text) → b ≡ true → EachAs u b zs → list_all u zs ≡ true
  each-in b [] q h = refl
  each-in b (z ∷ zs) q h = and-both (u z) (list_all u zs) (h.0 ∙ q) (each-in b zs q h.1)

  pub none-in : (b : Bool) (zs : List Text) → b ≡ false → EachAs u b zs → NoneIn u zs
  none-in b [] q h = tt
  none-in b (z ∷ zs) q h = (h.0 ∙ q, none-in b zs q h.1)

  -- A name that isn't of u is bound over any source.
  pub free : (x : Text) → u x ≡ false → (k : Ex) → not (u x) || is_fixed u k ≡ true
  free x q k = ap (λ b. not b || is_fixed u k) q

  -- From what a generator draws: where its name is of u, the source is fixed.
  pub drawn : (b c : Bool) → not b || c ≡ true → b ≡ true → c ≡ true
  drawn true c h q = h
  drawn false c h q = cc

  or-so : (b c d : Bool) → (c ≡ true → d ≡ true) → b || c ≡ true → b || d ≡ true
  or-so true c d f h = refl
  or-so false c d f h = f h

  -- ---- terms that are put in

  pub puts-fixed : (y : Text) (t : Ex) → PartsHave (fixed u) t → Puts (fixed u) y t
  puts-fixed y t h = record {
    item = h;
    in_dom = λ d q. put-fixed-dom u (for_name y t) (at-name u y t (λ b. has-fixed u t h)) d q;
    in_source = λ p k q. q;
  }

  pub puts-given : (y : Text) (t : Ex) → (u y ≡ true → is_fixed u t ≡ true) → GivenIn u t → Puts (given u) y t
  puts-given y t k h = record {
    item = h;
    in_dom = λ d q. put-fixed-dom u (for_name y t) (at-name u y t k) d q;
    in_source = λ p z q. or-so (none_bound u p) (is_fixed u z) _ (put-fixed u (for_name y t) (at-name u y t k) z) q;
  }

  pub fixed-puts-all : (y : Text) (o : Option (List Alternative)) → HaveSome (fixed u) o → PutsSome (fixed u) y o
  fixed-puts-all y None h = tt
  fixed-puts-all y (Some l) h = go l h
    where
      go : (l : List Alternative) → HaveAll (fixed u) l → PutsAll (fixed u) y l
      go [] h = tt
      go (a ∷ l) h = (puts-fixed y a.item h.0.0, go l h.1)

  -- Of a fixed source.
  pub given-of-fixed : (y : Text) (o : Option (List Alternative)) → HaveSome (fixed u) o → HaveSome (given u) o × PutsSome (given u) y o
  given-of-fixed y None h = (tt, tt)
  given-of-fixed y (Some l) h = go l h
    where
      go : (l : List Alternative) → HaveAll (fixed u) l → HaveAll (given u) l × PutsAll (given u) y l
      go [] h = (tt, tt)
      go (a ∷ l) h = let k = go l h.1 in (
        ((given-has u a.item h.0.0, given-gens u a.gens h.0.1), k.0),
        (puts-given y a.item (λ q. has-fixed u a.item h.0.0) (given-has u a.item h.0.0), k.1),
      )

  -- Of a source whose name isn't of u.
  pub given-of-others : (y : Text) → u y ≡ false → (o : Option (List Alternative)) → HaveSome (given u) o → PutsSome (given u) y o
  given-of-others y n None h = tt
  given-of-others y n (Some l) h = go l h
    where
      no : u y ≡ true → true ≡ false
      no q = sym q ∙ n

      go : (l : List Alternative) → HaveAll (given u) l → PutsAll (given u) y l
      go [] h = tt
      go (a ∷ l) h = (puts-given y a.item (λ q. let z = no q in cc) h.0.0, go l h.1)

  -- A name over a source that isn't fixed isn't of u.
  pub not-of : (y : Text) (t : Ex) → is_fixed u t ≡ false → not (u y) || is_fixed u t ≡ true → u y ≡ false
  not-of y t f h = go (u y) refl
    where
      go : (b : Bool) → u y ≡ b → u y ≡ false
      go false q = q
      go true q = let z : true ≡ false = sym (drawn (u y) (is_fixed u t) h q) ∙ f in cc

  module _ (c : Counts u) (s : Supply) (g : Names Ty) where
    -- ---- the new names

    new-fixed : u s.one ≡ true → u s.other ≡ true → u s.third ≡ true → New (fixed u) s
    new-fixed a b d = record {
      one = a;
      other = b;
      third = d;
      from_one = λ k. a;
      from_other = λ k. b;
      over_one = a;
      over_other = b;
      over_third = d;
      renamed = λ y h. puts-fixed y (name_ex s.third) d;
      used = λ y h. h;
    }

    new-given : u s.one ≡ false → u s.other ≡ false → u s.third ≡ true → New (given u) s
    new-given a b d = record {
      one = refl;
      other = refl;
      third = refl;
      from_one = λ k. free s.one a k;
      from_other = λ k. free s.other b k;
      over_one = refl;
      over_other = refl;
      over_third = refl;
      renamed = λ y h. puts-given y (name_ex s.third) (λ q. d) refl;
      used = λ y h. refl;
    }

    -- ---- members of what is picked

    pub picked-fixed : AllAs u true s → (t : Ex) → PartsHave (fixed u) t → HaveSome (fixed u) (picked_members s g t)
    picked-fixed n t h = go (picks t) (looked_up g s.third s.parts t)
        (picks-fixed u c g s.third s.parts t (each-in true (s.third ∷ s.parts) refl n.1.1) (has-fixed u t h))
      where
        go : (b : Bool) (r : Option (List Alternative)) → HaveSome (fixed u) r →
            HaveSome (fixed u) (if b then option_map (members_of_each s.one s.other) r else None)
        go true None j = tt
        go true (Some l) j = members-each (fixed u) s.one n.0 (λ k. n.0) s.other n.1.0 (λ k. n.1.0) l j
        go false r j = tt

    pub picked-given : AllAs u false s → (t : Ex) → GivenIn u t → HaveSome (given u) (picked_members s g t)
    picked-given n t h = go (picks t) (looked_up g s.third s.parts t)
        (picks-given u c g s.third s.parts t (none-in false (s.third ∷ s.parts) refl n.1.1) h)
      where
        go : (b : Bool) (r : Option (List Alternative)) → HaveSome (given u) r →
            HaveSome (given u) (if b then option_map (members_of_each s.one s.other) r else None)
        go true None j = tt
        go true (Some l) j = members-each (given u) s.one refl (free s.one n.0) s.other refl (free s.other n.1.0) l j
        go false r j = tt

    -- Of a first source.
    pub picks-at : (y : Text) (t : Ex) → AllAs u (is_fixed u t) s → not (u y) || is_fixed u t ≡ true → GivenIn u t →
        HaveSome (given u) (picked_members s g t) × PutsSome (given u) y (picked_members s g t)
    picks-at y t n d h = go (is_fixed u t) refl
      where
        go : (b : Bool) → is_fixed u t ≡ b →
            HaveSome (given u) (picked_members s g t) × PutsSome (given u) y (picked_members s g t)
        go true q = given-of-fixed y (picked_members s g t) (picked-fixed (subst (λ b. AllAs u b s) q n) t (fixed-has u t q))
        go false q = let o = picked-given (subst (λ b. AllAs u b s) q n) t h in
            (o, given-of-others y (not-of y t q d) (picked_members s g t) o)

    -- ---- whatever tells them

    kind-fixed : AllAs u true s → (t : Ex) → PartsHave (fixed u) t → HaveSome (fixed u) (told_by_kind s g t)
    kind-fixed n t h = go (view_listing s.one s.other s.parts t)
        (view-fixed u c s.one s.other s.parts t n.0 n.1.0 (each-in true s.parts refl n.1.1.1) (has-fixed u t h))
      where
        go : (r : Option Alternative) → AlternativeHas (fixed u) r →
            HaveSome (fixed u) (or_else (option_map (λ a. a ∷ []) r) (picked_members s g t))
        go None j = picked-fixed n t h
        go (Some a) j = (j, tt)

    kind-given : AllAs u false s → (t : Ex) → GivenIn u t → HaveSome (given u) (told_by_kind s g t)
    kind-given n t h = go (view_listing s.one s.other s.parts t) (view-given u c s.one s.other s.parts t n.0 h)
      where
        go : (r : Option Alternative) → AlternativeHas (given u) r →
            HaveSome (given u) (or_else (option_map (λ a. a ∷ []) r) (picked_members s g t))
        go None j = picked-given n t h
        go (Some a) j = (j, tt)

    either-have : (o p : Option (List Alternative)) → (is_some o ≡ true → HaveSome (given u) o) →
        (is_some o ≡ false → HaveSome (given u) p) → HaveSome (given u) (or_else o p)
    either-have None p h k = k refl
    either-have (Some l) p h k = h refl

    pub all-fixed-offers : AllAs u true s → (t : Ex) → PartsHave (fixed u) t → HaveSome (fixed u) (all_offered s g t)
    all-fixed-offers n t h = go (offered s g t) (offered-has (fixed u) s (new-fixed n.0 n.1.0 n.1.1.0) g t h)
      where
        go : (r : Option (List Alternative)) → HaveSome (fixed u) r → HaveSome (fixed u) (or_else r (told_by_kind s g t))
        go None j = kind-fixed n t h
        go (Some l) j = j

    -- Of the source of a generator.
    pub source-given : (y : Text) (t : Ex) (hs : Gens) → SourceNames u s g (from (name_pat y) t hs) →
        not (u y) || is_fixed u t ≡ true → GivenIn u t →
        HaveSome (given u) (all_offered s g t) × PutsSome (given u) y (all_offered s g t)
    source-given y t hs n d h = go (is_fixed u t) refl n.0 n.1
      where
        others : EachAs u false (s.one ∷ s.other ∷ s.parts) → u s.third ≡ is_some (offered s g t) → HaveSome (given u) (all_offered s g t)
        others m q = either-have (offered s g t) (told_by_kind s g t)
            (λ r. offered-has (given u) s (new-given m.0 m.1.0 (q ∙ r)) g t h)
            (λ r. kind-given (m.0, (m.1.0, (q ∙ r, m.1.1))) t h)

        go : (b : Bool) → is_fixed u t ≡ b → EachAs u (is_fixed u t) (s.one ∷ s.other ∷ s.parts) →
            u s.third ≡ is_fixed u t || is_some (offered s g t) →
            HaveSome (given u) (all_offered s g t) × PutsSome (given u) y (all_offered s g t)
        go true q m r = let k = subst (λ b. EachAs u b (s.one ∷ s.other ∷ s.parts)) q m in
            given-of-fixed y (all_offered s g t)
            (all-fixed-offers (k.0, (k.1.0, (r ∙ ap (λ b. b || is_some (offered s g t)) q, k.1.1))) t (fixed-has u t q))
        go false q m r = let o = others (subst (λ b. EachAs u b (s.one ∷ s.other ∷ s.parts)) q m)
            (r ∙ ap (λ b. b || is_some (offered s g t)) q) in
            (o, given-of-others y (not-of y t q d) (all_offered s g t) o)

    pub source-fixed : (y : Text) (t : Ex) (hs : Gens) → SourceNames u s g (from (name_pat y) t hs) → PartsHave (fixed u) t →
        HaveSome (fixed u) (all_offered s g t) × PutsSome (fixed u) y (all_offered s g t)
    source-fixed y t hs n h =
        let q = has-fixed u t h in let k = subst (λ b. EachAs u b (s.one ∷ s.other ∷ s.parts)) q n.0 in
        let o = all-fixed-offers (k.0, (k.1.0, (n.1 ∙ ap (λ b. b || is_some (offered s g t)) q, k.1.1))) t h in
        (o, fixed-puts-all y (all_offered s g t) o)
