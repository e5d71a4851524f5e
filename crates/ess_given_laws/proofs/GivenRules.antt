-- Each rule keeps what is given in domains.
use Rattle.std.proofs.Common.{◌≡◌, refl, sym, ap, ◌∙◌, Bool, true, false, ◌&&◌, ◌||◌, not, if◌then◌else◌, List, [], ◌∷◌, Option, Some, None}
use Rattle.std.specs.List.{list_all}
use Rattle.ess_semantics.specs.Values.{Text}
use Rattle.ess_semantics.specs.Order.{same_text}
use Rattle.ess_semantics.specs.Names.{Names}
use Rattle.ess_semantics.specs.Trees.{Pats, name_pat, no_pats, more_pats, Ex, Exs, name_ex, comp_ex, ex2, fun1, no_exs, more_exs, from, Doms, no_doms, more_doms}
use Rattle.ess_semantics.specs.Types.{Ty}
use Rattle.ess_semantics.specs.Substitution.{for_name}
use Rattle.ess_semantics.proofs.Texts.{same_text-equal}
use Rattle.ess_semantics.proofs.Tests.{and-left, and-right, and-both}
use Rattle.ess_rules_laws.specs.Listings.{Alternative}
use Rattle.ess_rules_laws.specs.TupleNames.{named_exs, named_pats, tuples_over}
use Rattle.ess_refine_laws.specs.RecordNames.{records_over}
use Rattle.ess_refine_laws.specs.AllRules.{Rule, over_a_source, of_one_source, equal_matrices_at, least_under_a_condition, least_of_alternatives, Supply, offered, opposite_copied, rewrite}
use Rattle.ess_given_laws.specs.PartsHave.{PartsHave, AllHave}
use Rattle.ess_given_laws.specs.Given.{all_bound, all_bound_by, none_bound, is_fixed, are_fixed, are_fixed_gens, is_fixed_dom, are_fixed_doms, given, GivenIn}
use Rattle.ess_given_laws.specs.GivenStays.{draws_fixed, binds_fixed, TakesGiven, NewGiven}
use Rattle.ess_given_laws.proofs.PartsHave.{Puts}
use Rattle.ess_given_laws.proofs.FixedTrees.{fixed, put-fixed, put-fixed-dom, fixed-has, has-fixed, given-has, given-gens, then-so}
use Rattle.ess_given_laws.proofs.FixedNumbers.{every-dom}
use Rattle.ess_given_laws.proofs.PartsOfFolds.{Answers, HaveAll, HaveSome, PutsAll, PutsSome, PutsEach, DomsHave, PatsHave}
use Rattle.ess_given_laws.proofs.PartsOfListings.{New, offered-has}
use Rattle.ess_given_laws.proofs.PartsOfRules.{OffersAt, OffersOf, TakenHas, Allows, from-sources, each-has}

module _ (u : Text → Bool) where
  -- ---- terms that are put in

  -- A fixed term stands for any name, any term for a name that isn't of u.
  at-name : (y : Text) (t : Ex) → (u y ≡ true → is_fixed u t ≡ true) → (a : Text) → u a ≡ true → is_fixed u (for_name y t a) ≡ true
  at-name y t k a h = go (same_text y a) refl
    where
      go : (b : Bool) → same_text y a ≡ b → is_fixed u (if b then t else name_ex a) ≡ true
      go true q = k (ap u (same_text-equal y a q) ∙ h)
      go false q = h

  or-so : (b c d : Bool) → (c ≡ true → d ≡ true) → b || c ≡ true → b || d ≡ true
  or-so true c d f h = refl
  or-so false c d f h = f h

  puts-fixed : (y : Text) (t : Ex) → PartsHave (fixed u) t → Puts (fixed u) y t
  puts-fixed y t h = record {
    item = h;
    in_dom = λ d q. put-fixed-dom u (for_name y t) (at-name y t (λ b. has-fixed u t h)) d q;
    in_source = λ p k q. q;
  }

  puts-given : (y : Text) (t : Ex) → (u y ≡ true → is_fixed u t ≡ true) → GivenIn u t → Puts (given u) y t
  puts-given y t k h = record {
    item = h;
    in_dom = λ d q. put-fixed-dom u (for_name y t) (at-name y t k) d q;
    in_source = λ p z q. or-so (none_bound u p) (is_fixed u z) _ (put-fixed u (for_name y t) (at-name y t k) z) q;
  }

  -- From what a generator draws: where its name is of u, the source is fixed.
  drawn : (b c : Bool) → not b || c ≡ true → b ≡ true → c ≡ true
  drawn true c h q = h
  drawn false c h q = cc

  each-fixed-puts : (y : Text) (es : Exs) → AllHave (fixed u) es → PutsEach (fixed u) y es
  each-fixed-puts y no_exs h = tt
  each-fixed-puts y (more_exs a es) h = (puts-fixed y a h.0, each-fixed-puts y es h.1)

  each-given-puts : (y : Text) (es : Exs) → (u y ≡ true → are_fixed u es ≡ true) → AllHave (given u) es → PutsEach (given u) y es
  each-given-puts y no_exs k h = tt
  each-given-puts y (more_exs a es) k h = (
    puts-given y a (λ q. and-left (is_fixed u a) (are_fixed u es) (k q)) h.0,
    each-given-puts y es (λ q. and-right (is_fixed u a) (are_fixed u es) (k q)) h.1,
  )

  -- ---- domains and patterns

  doms-have : (ds : Doms) → are_fixed_doms u ds ≡ true → DomsHave (fixed u) ds
  doms-have no_doms h = tt
  doms-have (more_doms d ds) h =
      (and-left (is_fixed_dom u d) (are_fixed_doms u ds) h, doms-have ds (and-right (is_fixed_dom u d) (are_fixed_doms u ds) h))

  doms-given : (ds : Doms) → are_fixed_doms u ds ≡ true → DomsHave (given u) ds
  doms-given no_doms h = tt
  doms-given (more_doms d ds) h =
      (and-left (is_fixed_dom u d) (are_fixed_doms u ds) h, doms-given ds (and-right (is_fixed_dom u d) (are_fixed_doms u ds) h))

  pats-have : (ps : Pats) → all_bound_by u ps ≡ true → PatsHave (fixed u) ps
  pats-have no_pats h = tt
  pats-have (more_pats p ps) h =
      (and-left (all_bound u p) (all_bound_by u ps) h, pats-have ps (and-right (all_bound u p) (all_bound_by u ps) h))

  pats-given : (ps : Pats) → PatsHave (given u) ps
  pats-given no_pats = tt
  pats-given (more_pats p ps) = (refl, pats-given ps)

  names-fixed : (ys : List Text) → list_all u ys ≡ true → are_fixed u (named_exs ys) ≡ true
  names-fixed [] h = refl
  names-fixed (y ∷ ys) h = then-so (u y) (list_all u ys) _ (names-fixed ys) h

  pats-bound : (ys : List Text) → list_all u ys ≡ true → all_bound_by u (named_pats ys) ≡ true
  pats-bound [] h = refl
  pats-bound (y ∷ ys) h = then-so (u y) (list_all u ys) _ (pats-bound ys) h

  named : (ys : List Text) (ds : Doms) → list_all u ys ≡ true → are_fixed_doms u ds ≡ true →
      are_fixed u (named_exs ys) && (all_bound_by u (named_pats ys) && (are_fixed_doms u ds && true)) ≡ true
  named ys ds h k = and-both (are_fixed u (named_exs ys)) _ (names-fixed ys h)
      (and-both (all_bound_by u (named_pats ys)) _ (pats-bound ys h) (and-both (are_fixed_doms u ds) true k refl))

  -- ---- what rules ask

  or-yes : (b c : Bool) → c ≡ true → b || c ≡ true
  or-yes true c h = refl
  or-yes false c h = h

  none-of : (b c : Bool) → b ≡ false → not b || c ≡ true
  none-of true c h = cc
  none-of false c h = refl

  of-set : (b : Bool) → b && true ≡ true → b ≡ true
  of-set true h = refl
  of-set false h = h

  module _ (s : Supply) (third : u s.third ≡ true) (parts : list_all u s.parts ≡ true) where
    new-fixed : u s.one ≡ true → u s.other ≡ true → New (fixed u) s
    new-fixed a b = record {
      one = a;
      other = b;
      third = third;
      from_one = λ k. a;
      from_other = λ k. b;
      over_one = a;
      over_other = b;
      over_third = third;
      renamed = λ y h. puts-fixed y (name_ex s.third) third;
      used = λ y h. h;
    }

    allows-fixed : u s.one ≡ true → u s.other ≡ true → Allows (fixed u) s
    allows-fixed a b = record {
      new = new-fixed a b;
      in_dom = every-dom u;
      made = λ p t h. h;
      items = λ y m op es d h. each-fixed-puts y es h;
      bodies = λ y k ks d h. puts-fixed y k h;
      pats = pats-have;
      doms = doms-have;
      tuples = λ x ds h k. (h, fixed-has u (tuples_over s.parts ds) (named s.parts ds parts k));
      records = λ x fs ds h k. (h, fixed-has u (records_over fs s.parts ds) (named s.parts ds parts k));
    }

    new-given : u s.one ≡ false → u s.other ≡ false → New (given u) s
    new-given a b = record {
      one = refl;
      other = refl;
      third = refl;
      from_one = λ k. none-of (u s.one) (is_fixed u k) a;
      from_other = λ k. none-of (u s.other) (is_fixed u k) b;
      over_one = refl;
      over_other = refl;
      over_third = refl;
      renamed = λ y h. puts-given y (name_ex s.third) (λ q. third) refl;
      used = λ y h. refl;
    }

    allows-given : u s.one ≡ false → u s.other ≡ false → Allows (given u) s
    allows-given a b = record {
      new = new-given a b;
      in_dom = every-dom u;
      made = λ p t h. or-so (none_bound u p) (is_fixed u t && true) (is_fixed u t) (of-set (is_fixed u t)) h;
      items = λ y m op es d h. each-given-puts y es (drawn (u y) (are_fixed u es) d) h;
      bodies = λ y k ks d h. puts-given y k
          (λ q. and-left (is_fixed u k) (are_fixed_gens u ks) (drawn (u y) (is_fixed u (comp_ex k ks)) d q)) h;
      pats = λ ps h. pats-given ps;
      doms = doms-given;
      tuples = λ x ds h k. let z = named s.parts ds parts k in (
        or-yes (none_bound u (name_pat x)) (is_fixed u (tuples_over s.parts ds)) z,
        given-has u (tuples_over s.parts ds) (fixed-has u (tuples_over s.parts ds) z),
      );
      records = λ x fs ds h k. let z = named s.parts ds parts k in (
        or-yes (none_bound u (name_pat x)) (is_fixed u (records_over fs s.parts ds)) z,
        given-has u (records_over fs s.parts ds) (fixed-has u (records_over fs s.parts ds) z),
      );
    }

    -- ---- what sources offer

    fixed-puts-all : (y : Text) (o : Option (List Alternative)) → HaveSome (fixed u) o → PutsSome (fixed u) y o
    fixed-puts-all y None h = tt
    fixed-puts-all y (Some l) h = go l h
      where
        go : (l : List Alternative) → HaveAll (fixed u) l → PutsAll (fixed u) y l
        go [] h = tt
        go (a ∷ l) h = (puts-fixed y a.item h.0.0, go l h.1)

    -- Of a fixed source.
    given-of-fixed : (y : Text) (o : Option (List Alternative)) → HaveSome (fixed u) o → HaveSome (given u) o × PutsSome (given u) y o
    given-of-fixed y None h = (tt, tt)
    given-of-fixed y (Some l) h = go l h
      where
        go : (l : List Alternative) → HaveAll (fixed u) l → HaveAll (given u) l × PutsAll (given u) y l
        go [] h = (tt, tt)
        go (a ∷ l) h = let k = go l h.1 in (
          ((given-has u a.item h.0.0, given-gens u a.gens h.0.1), k.0),
          (puts-given y a.item (λ q. has-fixed u a.item h.0.0) (given-has u a.item h.0.0), k.1),
        )

    -- Of a source whose name isn't of u.
    given-of-others : (y : Text) → u y ≡ false → (o : Option (List Alternative)) → HaveSome (given u) o → PutsSome (given u) y o
    given-of-others y n None h = tt
    given-of-others y n (Some l) h = go l h
      where
        no : u y ≡ true → true ≡ false
        no q = sym q ∙ n

        go : (l : List Alternative) → HaveAll (given u) l → PutsAll (given u) y l
        go [] h = tt
        go (a ∷ l) h = (puts-given y a.item (λ q. let z = no q in cc) h.0.0, go l h.1)

    offers-fixed : (g : Names Ty) → u s.one ≡ true → u s.other ≡ true → (e : Ex) → PartsHave (fixed u) e → OffersAt (fixed u) s g e
    offers-fixed g a b (fun1 m f (comp_ex e (from (name_pat y) t hs))) h =
        let o = offered-has (fixed u) s (new-fixed a b) g t h.0.1.1 in (o, fixed-puts-all y (offered s g t) o)
    offers-fixed g a b _ h = tt

    offers-given : (g : Names Ty) (e : Ex) → u s.one ≡ draws_fixed u e → u s.other ≡ draws_fixed u e → GivenIn u e →
        OffersAt (given u) s g e
    offers-given g (fun1 m f (comp_ex e (from (name_pat y) t hs))) a b h = go (u y) refl
      where
        go : (c : Bool) → u y ≡ c → HaveSome (given u) (offered s g t) × PutsSome (given u) y (offered s g t)
        go true q = given-of-fixed y (offered s g t) (offered-has (fixed u) s (new-fixed (a ∙ q) (b ∙ q)) g t
            (fixed-has u t (drawn (u y) (is_fixed u t) h.0.1.0 q)))
        go false q = let o = offered-has (given u) s (new-given (a ∙ q) (b ∙ q)) g t h.0.1.1 in
            (o, given-of-others y q (offered s g t) o)
    offers-given g _ a b h = tt

  -- ---- each rule

  taken-fixed : (s : Supply) (r : Rule) (e : Ex) → TakesGiven u s r e → PartsHave (fixed u) e → TakenHas (fixed u) s r e
  taken-fixed s equal_matrices_at (ex2 m o a b) t h = t
  taken-fixed s least_under_a_condition e t h = fixed-has u (opposite_copied s e) (t.fixed (has-fixed u e h))
  taken-fixed s r e t h = tt

  taken-given : (s : Supply) (r : Rule) (e : Ex) → TakesGiven u s r e → GivenIn u e → TakenHas (given u) s r e
  taken-given s equal_matrices_at (ex2 m o a b) t h = t
  taken-given s least_under_a_condition e t h = t.given h
  taken-given s r e t h = tt

  offers-of : (s : Supply) (g : Names Ty) (r : Rule) (e : Ex) → OffersAt (fixed u) s g e → OffersOf (fixed u) s g r e
  offers-of s g over_a_source e o = o
  offers-of s g of_one_source e o = o
  offers-of s g least_of_alternatives e o = o
  offers-of s g r e o = tt

  -- Where the root is fixed the names belong to u.
  when-fixed : (r : Rule) (e : Ex) → is_fixed u e ≡ true → binds_fixed u r e ≡ true
  when-fixed over_a_source e h = ap (λ b. b || draws_fixed u e) h
  when-fixed of_one_source e h = ap (λ b. b || draws_fixed u e) h
  when-fixed least_of_alternatives e h = ap (λ b. b || draws_fixed u e) h
  when-fixed r e h = h

  pub fixed-answers : (s : Supply) (g : Names Ty) (r : Rule) (e : Ex) → NewGiven u s r e → is_fixed u e ≡ true →
      Answers (fixed u) (rewrite s g r e)
  fixed-answers s g r e n h =
      let one = n.one ∙ when-fixed r e h in let other = n.other ∙ when-fixed r e h in let p = fixed-has u e h in
      each-has (fixed u) s g (allows-fixed s n.third n.parts one other) r e (taken-fixed s r e n.taken p)
      (offers-of s g r e (offers-fixed s n.third n.parts g one other e p)) p

  given-none : (o : Option Ex) → Answers (fixed u) o → Answers (given u) o
  given-none None h = tt
  given-none (Some f) h = given-has u f h

  -- At a rule for sources whose root isn't fixed.
  at-source : (s : Supply) (g : Names Ty) (e : Ex) → is_fixed u e ≡ false → u s.one ≡ is_fixed u e || draws_fixed u e →
      u s.other ≡ is_fixed u e || draws_fixed u e → u s.third ≡ true → list_all u s.parts ≡ true → GivenIn u e → OffersAt (given u) s g e
  at-source s g e f a b t p h =
      offers-given s t p g e (a ∙ ap (λ z. z || draws_fixed u e) f) (b ∙ ap (λ z. z || draws_fixed u e) f) h

  unfixed : (s : Supply) (g : Names Ty) (r : Rule) (e : Ex) → NewGiven u s r e → is_fixed u e ≡ false → GivenIn u e →
      Answers (given u) (rewrite s g r e)
  unfixed s g over_a_source e n f h = (from-sources (given u) s g e (at-source s g e f n.one n.other n.third n.parts h) h).0
  unfixed s g of_one_source e n f h = (from-sources (given u) s g e (at-source s g e f n.one n.other n.third n.parts h) h).1
  unfixed s g least_of_alternatives e n f h = (from-sources (given u) s g e (at-source s g e f n.one n.other n.third n.parts h) h).2
  unfixed s g r e n f h = each-has (given u) s g (allows-given s n.third n.parts (n.one ∙ f) (n.other ∙ f)) r e
      (taken-given s r e n.taken h) tt h

  pub given-answers : (s : Supply) (g : Names Ty) (r : Rule) (e : Ex) → NewGiven u s r e → GivenIn u e → Answers (given u) (rewrite s g r e)
  given-answers s g r e n h = go (is_fixed u e) refl
    where
      go : (b : Bool) → is_fixed u e ≡ b → Answers (given u) (rewrite s g r e)
      go true q = given-none (rewrite s g r e) (fixed-answers s g r e n q)
      go false q = unfixed s g r e n q h
