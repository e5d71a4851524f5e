-- Comprehensions in any place, at the first generator that isn't plain: what is given and what is fixed stays.
use Rattle.std.proofs.Common.{◌≡◌, refl, ap, sym, ◌∙◌, subst, Bool, true, false, ◌&&◌, ◌||◌, not, if◌then◌else◌, List, [], ◌∷◌, Option, Some, None, option_map}
use Rattle.std.specs.Prelude.{is_some}
use Rattle.std.specs.List.{list_all}
use Rattle.ess_semantics.specs.declared.words.ReprKind.{ReprKind}
use Rattle.ess_semantics.specs.Lists.{or_else}
use Rattle.ess_semantics.specs.Values.{Text}
use Rattle.ess_semantics.specs.Names.{Names}
use Rattle.ess_semantics.specs.NamesAt.{names_behind}
use Rattle.ess_semantics.specs.Trees.{repr, no_reprs, more_reprs, name_pat, tuple_pat, Pats, no_pats, more_pats, Ex, name_ex, comp_ex, seen_ex, Gens, no_gens, over, from, cond, matrix_dom, no_doms, more_doms, Doms}
use Rattle.ess_semantics.specs.Types.{Ty}
use Rattle.ess_semantics.proofs.Tests.{and-left, and-right, and-both}
use Rattle.ess_rules_laws.specs.Listings.{Alternative}
use Rattle.ess_rules_laws.specs.AlternativeLookups.{members_of_each}
use Rattle.ess_rules_laws.specs.SpliceRules.{splice}
use Rattle.ess_rules_laws.specs.SplitRules.{split}
use Rattle.ess_rules_laws.specs.TupleNames.{named_exs, named_pats, name_over_tuple, tuples_over}
use Rattle.ess_refine_laws.specs.RecordNames.{name_over_record, records_over}
use Rattle.ess_refine_laws.specs.AllRules.{Supply, OfSome}
use Rattle.ess_views_laws.specs.ChildViews.{kept_as}
use Rattle.ess_kind_rules_laws.specs.ViewListings.{matrix_listing, view_listing}
use Rattle.ess_kind_rules_laws.specs.TermLookups.{picks, looked_up}
use Rattle.ess_open_rules_laws.specs.OpenGenerators.{Opened, at_first_open}
use Rattle.ess_open_rules_laws.specs.OpenSources.{picked_members, are_decided, is_first_decided, decided_one, in_order_told, pattern_opened, opened_in_order, kept_in_order, kept_behind}
use Rattle.ess_given_laws.specs.PartsHave.{PartsHave, GensHave}
use Rattle.ess_given_laws.specs.Given.{all_bound, all_bound_by, none_bound, none_bound_by, is_fixed, are_fixed, are_fixed_gens, is_fixed_dom, are_fixed_doms, given, GivenIn}
use Rattle.ess_given_laws.proofs.PartsHave.{Puts}
use Rattle.ess_given_laws.proofs.FixedTrees.{fixed, fixed-has, has-fixed, given-has, given-gens, then-so}
use Rattle.ess_given_laws.proofs.PartsOfFolds.{Answers, HaveSome, DomsHave, PatsHave, spliced, splits, tuple-name, record-name}
use Rattle.ess_given_offers_laws.specs.Seen.{Counts, AlternativeHas}
use Rattle.ess_given_offers_laws.proofs.GivenOffers.{view-fixed, sees-given, given-overs}
use Rattle.ess_given_offers_laws.proofs.PartsOfViews.{view-has}
use Rattle.ess_given_opened_laws.specs.OpenedStays.{EachAs, OutsideAlong, InPlace, PlaceNames, NamesInPlace}
use Rattle.ess_given_opened_laws.proofs.PartsInOrder.{EachDraws, pattern-has, ToldHas, told-has, either-has, behind-has}
use Rattle.ess_given_opened_laws.proofs.SourcesGiven.{free, drawn, not-of, puts-fixed, puts-given, picked-fixed}
use Rattle.ess_given_opened_laws.proofs.DecidedPicks.{OneHas, one-picked}

module _ (u : Text → Bool) where
  -- ---- domains and patterns

  doms-fixed : (ds : Doms) → are_fixed_doms u ds ≡ true → DomsHave (fixed u) ds
  doms-fixed no_doms h = tt
  doms-fixed (more_doms d ds) h =
      (and-left (is_fixed_dom u d) (are_fixed_doms u ds) h, doms-fixed ds (and-right (is_fixed_dom u d) (are_fixed_doms u ds) h))

  doms-given : (ds : Doms) → are_fixed_doms u ds ≡ true → DomsHave (given u) ds
  doms-given no_doms h = tt
  doms-given (more_doms d ds) h =
      (and-left (is_fixed_dom u d) (are_fixed_doms u ds) h, doms-given ds (and-right (is_fixed_dom u d) (are_fixed_doms u ds) h))

  pats-fixed : (ps : Pats) → all_bound_by u ps ≡ true → PatsHave (fixed u) ps
  pats-fixed no_pats h = tt
  pats-fixed (more_pats p ps) h =
      (and-left (all_bound u p) (all_bound_by u ps) h, pats-fixed ps (and-right (all_bound u p) (all_bound_by u ps) h))

  pats-given : (ps : Pats) → PatsHave (given u) ps
  pats-given no_pats = tt
  pats-given (more_pats p ps) = (refl, pats-given ps)

  names-fixed : (ys : List Text) → list_all u ys ≡ true → are_fixed u (named_exs ys) ≡ true
  names-fixed [] h = refl
  names-fixed (y ∷ ys) h = then-so (u y) (list_all u ys) _ (names-fixed ys) h

  names-bound : (ys : List Text) → list_all u ys ≡ true → all_bound_by u (named_pats ys) ≡ true
  names-bound [] h = refl
  names-bound (y ∷ ys) h = then-so (u y) (list_all u ys) _ (names-bound ys) h

  named : (ys : List Text) (ds : Doms) → list_all u ys ≡ true → are_fixed_doms u ds ≡ true →
      are_fixed u (named_exs ys) && (all_bound_by u (named_pats ys) && (are_fixed_doms u ds && true)) ≡ true
  named ys ds h k = and-both (are_fixed u (named_exs ys)) _ (names-fixed ys h)
      (and-both (all_bound_by u (named_pats ys)) _ (names-bound ys h) (and-both (are_fixed_doms u ds) true k refl))

  or-yes : (b c : Bool) → c ≡ true → b || c ≡ true
  or-yes true c h = refl
  or-yes false c h = h

  -- ---- patterns

  each-draws-fixed : (z : Text) (ps : Pats) → all_bound_by u ps ≡ true → EachDraws (fixed u) z ps
  each-draws-fixed z no_pats h = tt
  each-draws-fixed z (more_pats p ps) h =
      (λ t k. and-left (all_bound u p) (all_bound_by u ps) h, each-draws-fixed z ps (and-right (all_bound u p) (all_bound_by u ps) h))

  -- A component of z is fixed where z is one of u; else no pattern binds names of u.
  each-draws-given : (z : Text) (ps : Pats) (b : Bool) → u z ≡ b → none_bound_by u ps || b ≡ true → EachDraws (given u) z ps
  each-draws-given z no_pats b q h = tt
  each-draws-given z (more_pats p ps) true q h = (
    λ t k. or-yes (none_bound u p) _ (and-both (u z && true) true (and-both (u z) true q refl) refl),
    each-draws-given z ps true q (or-yes (none_bound_by u ps) true refl),
  )
  each-draws-given z (more_pats p ps) false q h = let k = plain (none_bound u p && none_bound_by u ps) h in (
    λ t n. or-first (none_bound u p) _ (and-left (none_bound u p) (none_bound_by u ps) k),
    each-draws-given z ps false q (or-first (none_bound_by u ps) false (and-right (none_bound u p) (none_bound_by u ps) k)),
  )
    where
      plain : (b : Bool) → b || false ≡ true → b ≡ true
      plain true h = refl
      plain false h = h

      or-first : (b c : Bool) → b ≡ true → b || c ≡ true
      or-first true c h = refl
      or-first false c h = cc

  -- ---- what is told in order

  module _ (c : Counts u) (s : Supply) (g : Names Ty) where
    matrix-seen : (t : Ex) (a : Alternative) → matrix_listing s.one t ≡ Some a → view_listing s.one s.other s.parts t ≡ Some a
    matrix-seen (seen_ex (repr ReprKind.Matrix (more_reprs r no_reprs)) (matrix_dom (more_doms i is) d) ns js) a q = q
    matrix-seen _ a q = cc

    each-of : (zs : List Text) → list_all u zs ≡ true → EachAs u true zs
    each-of [] h = tt
    each-of (z ∷ zs) h = (and-left (u z) (list_all u zs) h, each-of zs (and-right (u z) (list_all u zs) h))

    -- Of a fixed source everything is fixed.
    decided-fixed : (y : Text) (o : Option (List Alternative)) → HaveSome (fixed u) o → ToldHas (fixed u) y (decided_one o)
    decided-fixed y None h = tt
    decided-fixed y (Some []) h = tt
    decided-fixed y (Some (a ∷ [])) h = go (is_first_decided a.gens)
      where
        go : (b : Bool) → ToldHas (fixed u) y (if b then Some a else None)
        go true = (h.0, puts-fixed u y a.item h.0.0)
        go false = tt
    decided-fixed y (Some (a ∷ d ∷ l)) h = tt

    pub told-fixed : (y : Text) (t : Ex) → InPlace u s g t → is_fixed u t ≡ true → ToldHas (fixed u) y (in_order_told s g t)
    told-fixed y t n q = go (matrix_listing s.one t) refl
      where
        one : u s.one ≡ true
        one = n.one ∙ ap (λ b. b || is_some (matrix_listing s.one t)) q

        all : list_all u (s.third ∷ s.parts) ≡ true
        all = n.where_fixed q

        view : (r : Option Alternative) → AlternativeHas (fixed u) r → (a : Alternative) → r ≡ Some a →
            PartsHave (fixed u) a.item × GensHave (fixed u) a.gens
        view r h a e = subst (AlternativeHas (fixed u)) e h

        go : (r : Option Alternative) → matrix_listing s.one t ≡ r → ToldHas (fixed u) y (or_else r (decided_one (picked_members s g t)))
        go None e = decided-fixed y (picked_members s g t)
            (picked-fixed u c s g (one, (n.other ∙ q, each-of (s.third ∷ s.parts) all)) t (fixed-has u t q))
        go (Some a) e = let h = view (view_listing s.one s.other s.parts t)
            (view-fixed u c s.one s.other s.parts t one (n.other ∙ q) (and-right (u s.third) (list_all u s.parts) all) q) a
            (matrix-seen t a e) in (h, puts-fixed u y a.item h.0)

    of-fixed : (y : Text) (o : Option Alternative) → ToldHas (fixed u) y o → ToldHas (given u) y o
    of-fixed y None h = tt
    of-fixed y (Some a) h = (
      (given-has u a.item h.0.0, given-gens u a.gens h.0.1),
      puts-given u y a.item (λ q. has-fixed u a.item h.0.0) (given-has u a.item h.0.0),
    )

    -- Of a source that isn't fixed, over whose items a name runs that isn't one of u.
    module _ (y : Text) (out : u y ≡ false) (other : u s.other ≡ false) where
      puts-other : (a : Ex) → GivenIn u a → Puts (given u) y a
      puts-other a h = puts-given u y a (λ q. let z : true ≡ false = sym q ∙ out in cc) h

      decided-given : u s.one ≡ false → (o : Option (List Alternative)) → OneHas u c o →
          ToldHas (given u) y (decided_one (option_map (members_of_each s.one s.other) o))
      decided-given one None h = tt
      decided-given one (Some []) h = tt
      decided-given one (Some (a ∷ [])) h = go (are_decided a.gens) h
        where
          go : (b : Bool) → (b ≡ true → PartsHave (given u) a.item × GensHave (given u) a.gens) →
              ToldHas (given u) y (if b then Some (record {
                gens = from (name_pat s.one) (comp_ex a.item a.gens) (from (name_pat s.other) (name_ex s.one) no_gens);
                item = name_ex s.other;
              }) else None)
          go true k = (
            (refl, (free u s.one one (comp_ex a.item a.gens), k refl, (free u s.other other (name_ex s.one), refl, tt))),
            puts-other (name_ex s.other) refl,
          )
          go false k = tt
      decided-given one (Some (a ∷ d ∷ l)) h = tt

      -- The index of a matrix is bound over a domain.
      not-kept : {A : Type 0} (t : Ex) (a : Alternative) → matrix_listing s.one t ≡ Some a → (k : Ex) → kept_as t ≡ Some k → A
      not-kept (seen_ex (repr ReprKind.Matrix (more_reprs r no_reprs)) (matrix_dom (more_doms i is) d) ns js) a e k q = cc
      not-kept _ a e k q = cc

      matrix-given : (t : Ex) (a : Alternative) → matrix_listing s.one t ≡ Some a → GivenIn u t →
          PartsHave (given u) a.item × GensHave (given u) a.gens
      matrix-given t a e h = subst (AlternativeHas (given u)) (matrix-seen t a e)
          (view-has u (given u) (sees-given u c) s.one s.other s.parts (refl, refl) (given-overs u s.parts) t
          (record { name = refl; binds = λ q. refl; draws = λ k q. not-kept t a e k q }) h)

      told-other : (t : Ex) → u s.one ≡ is_some (matrix_listing s.one t) → OutsideAlong u s.parts t → GivenIn u t →
          ToldHas (given u) y (in_order_told s g t)
      told-other t one o h = go (matrix_listing s.one t) refl
        where
          picked : u s.one ≡ false → (b : Bool) (r : Option (List Alternative)) → OneHas u c r →
              ToldHas (given u) y (decided_one (if b then option_map (members_of_each s.one s.other) r else None))
          picked n true r k = decided-given n r k
          picked n false r k = tt

          go : (r : Option Alternative) → matrix_listing s.one t ≡ r →
              ToldHas (given u) y (or_else r (decided_one (picked_members s g t)))
          go None e = picked (one ∙ ap is_some e) (picks t) (looked_up g s.third s.parts t) (one-picked u c g s.third s.parts t o h)
          go (Some a) e = let k = matrix-given t a e h in (k, puts-other a.item k.0)

    pub told-given : (y : Text) (t : Ex) → InPlace u s g t → not (u y) || is_fixed u t ≡ true → GivenIn u t →
        ToldHas (given u) y (in_order_told s g t)
    told-given y t n d h = go (is_fixed u t) refl
      where
        go : (b : Bool) → is_fixed u t ≡ b → ToldHas (given u) y (in_order_told s g t)
        go true q = of-fixed y (in_order_told s g t) (told-fixed y t n q)
        go false q = told-other y (not-of u y t q d) (n.other ∙ q) t (n.one ∙ ap (λ b. b || is_some (matrix_listing s.one t)) q)
            (n.else_outside q) h

  -- ---- the tail

  draws-as : (x : Text) (t : Ex) → u x ≡ is_fixed u t → not (u x) || is_fixed u t ≡ true
  draws-as x t q = go (is_fixed u t) refl
    where
      go : (b : Bool) → is_fixed u t ≡ b → not (u x) || is_fixed u t ≡ true
      go true e = or-yes (not (u x)) (is_fixed u t) e
      go false e = free u x (q ∙ e) t

  abbrev bodies-given : (y : Text) (k : Ex) (ks : Gens) → not (u y) || is_fixed u (comp_ex k ks) ≡ true → GivenIn u k → Puts (given u) y k
  bodies-given y k ks d h =
      puts-given u y k (λ q. and-left (is_fixed u k) (are_fixed_gens u ks) (drawn u (u y) (is_fixed u (comp_ex k ks)) d q)) h

  module _ (c : Counts u) (s : Supply) where
    pub tail-given : (g : Names Ty) (e : Ex) (hs : Gens) → PlaceNames u s g hs → GivenIn u (comp_ex e hs) →
        Answers (given u) (kept_in_order s g (comp_ex e hs))
    tail-given g e (from (name_pat y) t hs) n h =
        either-has (given u) (splice (comp_ex e (from (name_pat y) t hs))) (opened_in_order s g (comp_ex e (from (name_pat y) t hs)))
        (spliced (given u) bodies-given (comp_ex e (from (name_pat y) t hs)) h)
        (told-has (given u) s g e t y hs (told-given c s g y t n h.1.0 h.1.1) h)
    tail-given g e (from (tuple_pat ps) t hs) n h =
        either-has (given u) (pattern_opened g s.one (comp_ex e (from (tuple_pat ps) t hs))) None
        (pattern-has (given u) s.one refl g e ps t hs (draws-as s.one t n) (each-draws-given s.one ps (is_fixed u t) n h.1.0) h) tt
    tail-given g e (over p d hs) n h =
        let at = comp_ex e (over p d hs) in
        either-has (given u) (split at) (or_else (name_over_tuple s.parts at) (or_else (name_over_record s.parts at) None))
        (splits (given u) (λ ps k. pats-given ps) doms-given at h)
        (either-has (given u) (name_over_tuple s.parts at) (or_else (name_over_record s.parts at) None)
        (tuple-name (given u) s.parts (λ x ds b k. let z = named s.parts ds n k in (
          or-yes (none_bound u (name_pat x)) (is_fixed u (tuples_over s.parts ds)) z,
          given-has u (tuples_over s.parts ds) (fixed-has u (tuples_over s.parts ds) z),
        )) at h)
        (either-has (given u) (name_over_record s.parts at) None
        (record-name (given u) s.parts (λ x fs ds b k. let z = named s.parts ds n k in (
          or-yes (none_bound u (name_pat x)) (is_fixed u (records_over fs s.parts ds)) z,
          given-has u (records_over fs s.parts ds) (fixed-has u (records_over fs s.parts ds) z),
        )) at h) tt))
    tail-given g e no_gens n h = tt
    tail-given g e (cond x hs) n h = tt

    pub tail-fixed : (g : Names Ty) (e : Ex) (hs : Gens) → PlaceNames u s g hs → PartsHave (fixed u) (comp_ex e hs) →
        Answers (fixed u) (kept_in_order s g (comp_ex e hs))
    tail-fixed g e (from (name_pat y) t hs) n h =
        either-has (fixed u) (splice (comp_ex e (from (name_pat y) t hs))) (opened_in_order s g (comp_ex e (from (name_pat y) t hs)))
        (spliced (fixed u) (λ y k ks d h. puts-fixed u y k h) (comp_ex e (from (name_pat y) t hs)) h)
        (told-has (fixed u) s g e t y hs (told-fixed c s g y t n (has-fixed u t h.1.1)) h)
    tail-fixed g e (from (tuple_pat ps) t hs) n h = let z = n ∙ has-fixed u t h.1.1 in
        either-has (fixed u) (pattern_opened g s.one (comp_ex e (from (tuple_pat ps) t hs))) None
        (pattern-has (fixed u) s.one z g e ps t hs z (each-draws-fixed s.one ps h.1.0) h) tt
    tail-fixed g e (over p d hs) n h =
        let at = comp_ex e (over p d hs) in
        either-has (fixed u) (split at) (or_else (name_over_tuple s.parts at) (or_else (name_over_record s.parts at) None))
        (splits (fixed u) pats-fixed doms-fixed at h)
        (either-has (fixed u) (name_over_tuple s.parts at) (or_else (name_over_record s.parts at) None)
        (tuple-name (fixed u) s.parts
        (λ x ds b k. (b, fixed-has u (tuples_over s.parts ds) (named s.parts ds n k))) at h)
        (either-has (fixed u) (name_over_record s.parts at) None
        (record-name (fixed u) s.parts
        (λ x fs ds b k. (b, fixed-has u (records_over fs s.parts ds) (named s.parts ds n k))) at h) tt))
    tail-fixed g e no_gens n h = tt
    tail-fixed g e (cond x hs) n h = tt

    -- ---- the whole

    at-tail : (g : Names Ty) (gs : Gens) (t : Opened) → at_first_open gs ≡ Some t →
        OfSome (at_first_open gs) (λ t. PlaceNames u s (names_behind t.before g) t.after) → PlaceNames u s (names_behind t.before g) t.after
    at-tail g gs t q n = subst (λ o. OfSome o (λ t. PlaceNames u s (names_behind t.before g) t.after)) q n

    pub place-given : (g : Names Ty) (e : Ex) → NamesInPlace u s g e → GivenIn u e → Answers (given u) (kept_behind s g e)
    place-given g (comp_ex e gs) n h = behind-has (given u) s g e gs
        (λ t q k. tail-given (names_behind t.before g) e t.after (at-tail g gs t q n) k) h
    place-given g _ n h = tt

    pub place-fixed : (g : Names Ty) (e : Ex) → NamesInPlace u s g e → PartsHave (fixed u) e → Answers (fixed u) (kept_behind s g e)
    place-fixed g (comp_ex e gs) n h = behind-has (fixed u) s g e gs
        (λ t q k. tail-fixed (names_behind t.before g) e t.after (at-tail g gs t q n) k) h
    place-fixed g _ n h = tt
