-- Rules of words over what the first source offers that isn't plain have what the parts have that they are made of.
use Rattle.std.proofs.Common.{Bool, true, false, ◌&&◌, ◌||◌, if◌then◌else◌, List, [], ◌∷◌, map, Option, Some, None, option_map}
use Rattle.std.specs.Prelude.{IsTrue}
use Rattle.ess_semantics.specs.declared.words.Fun.{Fun}
use Rattle.ess_semantics.specs.Lists.{and_then}
use Rattle.ess_semantics.specs.Values.{Text}
use Rattle.ess_semantics.specs.Names.{Names}
use Rattle.ess_semantics.specs.Trees.{word, name_pat, tuple_pat, Pat, Ex, matrix_ex, comp_ex, ex2, fun1, Gens, no_gens, over, from, cond}
use Rattle.ess_semantics.specs.Types.{Ty}
use Rattle.ess_semantics.specs.NamesAt.{names_behind}
use Rattle.ess_semantics.specs.Substitution.{substitute_gens, for_name}
use Rattle.ess_semantics.specs.ExpressionJudgements.{forgets_order}
use Rattle.ess_rules_laws.specs.FoldRules.{is_fold, is_laid_open}
use Rattle.ess_rules_laws.specs.SourceRules.{is_marked}
use Rattle.ess_rules_laws.specs.Listings.{Alternative}
use Rattle.ess_rules_laws.specs.ListedSources.{laid_out}
use Rattle.ess_rules_laws.specs.ListRules.{members_list, different_term, is_lex, is_of_list}
use Rattle.ess_rules_laws.specs.SpliceRules.{append_gens}
use Rattle.ess_refine_laws.specs.ExtremeRules.{is_extreme, are_none}
use Rattle.ess_refine_laws.specs.ExtremeAlternatives.{put_alternative, each_extreme, each_size, past_all, extreme_alternatives}
use Rattle.ess_refine_laws.specs.AllRules.{Supply, only_one}
use Rattle.ess_open_rules_laws.specs.OpenGenerators.{Opened, is_plain_over, with_first, at_first_open, folds_nested, nested}
use Rattle.ess_open_rules_laws.specs.OpenSources.{picked_members, all_offered, behind_gens, put_opened, comp_offered, several, over_one_opened, over_each_picked, least_of_several, sets_united, set_of_several, set_of_term, is_counted_apart, counted_apart, forgets_repeats, loose_source, seen_loosely, is_placed, plain_list, listed_plainly}
use Rattle.ess_given_laws.specs.PartsHave.{Wanted, PartsHave, AllHave, GensHave}
use Rattle.ess_given_laws.proofs.PartsHave.{put-parts, put-gens, append-parts}
use Rattle.ess_given_laws.proofs.PartsOfListings.{extreme-names}
use Rattle.ess_given_laws.proofs.PartsOfFolds.{Answers, HaveAll, HaveSome, PutsAll, PutsSome, when, under, in-parts}
use Rattle.ess_given_laws.proofs.PartsOfContainers.{different}

module _ (w : Wanted) where
  -- ---- generators in two parts

  abbrev pub OpenedHas : Option Opened → Type 0
  OpenedHas None = Unit {0}
  OpenedHas (Some t) = GensHave w t.before × GensHave w t.after

  first-has : (f : Gens → Gens) → ((gs : Gens) → GensHave w gs → GensHave w (f gs)) → (o : Option Opened) → OpenedHas o →
      OpenedHas (option_map (with_first f) o)
  first-has f k None h = tt
  first-has f k (Some t) h = (k t.before h.0, h.1)

  pub opened-has : (gs : Gens) → GensHave w gs → OpenedHas (at_first_open gs)
  opened-has no_gens h = tt
  opened-has (over p d gs) h = go (is_plain_over p d) (opened-has gs h.2)
    where
      go : (b : Bool) → OpenedHas (at_first_open gs) → OpenedHas (if b then option_map (with_first (over p d)) (at_first_open gs)
          else Some (record { before = no_gens; after = over p d gs }))
      go true k = first-has (over p d) (λ ks k. (h.0, h.1, k)) (at_first_open gs) k
      go false k = (tt, h)
  opened-has (from p e gs) h = (tt, h)
  opened-has (cond c gs) h = first-has (cond c) (λ ks k. (h.0, k)) (at_first_open gs) (opened-has gs h.1)

  -- ---- what is offered behind plain generators

  -- What the first source offers has it, and each item may be put in for the name.
  abbrev pub OffersAfter : Supply → Names Ty → Gens → Type 0
  OffersAfter s g (from (name_pat y) t hs) = HaveSome w (all_offered s g t) × PutsSome w y (all_offered s g t)
  OffersAfter s g gs = Unit {0}

  abbrev pub OffersBehind : Supply → Names Ty → Option Opened → Type 0
  OffersBehind s g None = Unit {0}
  OffersBehind s g (Some t) = OffersAfter s (names_behind t.before g) t.after

  put-each : (before : Gens) (y : Text) (e : Ex) (hs : Gens) (l : List Alternative) → GensHave w before → HaveAll w l → PutsAll w y l →
      PartsHave w e → GensHave w hs → HaveAll w (map (λ a. behind_gens before (put_alternative y e hs a)) l)
  put-each before y e hs [] b h p k j = tt
  put-each before y e hs (a ∷ l) b h p k j = (
    (
      put-parts w y a.item p.0 e k,
      append-parts w before (append_gens a.gens (substitute_gens (for_name y a.item) hs)) b
          (append-parts w a.gens (substitute_gens (for_name y a.item) hs) h.0.1 (put-gens w y a.item p.0 hs j)),
    ),
    put-each before y e hs l b h.1 p.1 k j,
  )

  put-opened-has : (s : Supply) (g : Names Ty) (e : Ex) (before after : Gens) → OffersAfter s g after → PartsHave w e →
      GensHave w before → GensHave w after → HaveSome w (put_opened e before after (all_offered s g))
  put-opened-has s g e before (from (name_pat y) t hs) o k b h = go (all_offered s g t) o.0 o.1
    where
      go : (r : Option (List Alternative)) → HaveSome w r → PutsSome w y r →
          HaveSome w (option_map (map (λ a. behind_gens before (put_alternative y e hs a))) r)
      go None j p = tt
      go (Some l) j p = put-each before y e hs l b j p k h.2
  put-opened-has s g e before (from (tuple_pat ps) t hs) o k b h = tt
  put-opened-has s g e before no_gens o k b h = tt
  put-opened-has s g e before (over p d hs) o k b h = tt
  put-opened-has s g e before (cond c hs) o k b h = tt

  pub comp-offered-has : (s : Supply) (g : Names Ty) (e : Ex) (gs : Gens) → OffersBehind s g (at_first_open gs) → PartsHave w e →
      GensHave w gs → HaveSome w (comp_offered s g e gs)
  comp-offered-has s g e gs o k h = go (at_first_open gs) o (opened-has gs h)
    where
      go : (r : Option Opened) → OffersBehind s g r → OpenedHas r →
          HaveSome w (and_then r (λ t. put_opened e t.before t.after (all_offered s (names_behind t.before g))))
      go None o j = tt
      go (Some t) o j = put-opened-has s (names_behind t.before g) e t.before t.after o k j.0 j.1

  -- So it is of a word on a comprehension.
  abbrev pub OpensAt : Supply → Names Ty → Ex → Type 0
  OpensAt s g (fun1 m f (comp_ex e gs)) = OffersBehind s g (at_first_open gs)
  OpensAt s g e = Unit {0}

  several-has : (o : Option (List Alternative)) → HaveSome w o → HaveSome w (several o)
  several-has None h = tt
  several-has (Some []) h = h
  several-has (Some (a ∷ [])) h = tt
  several-has (Some (a ∷ b ∷ l)) h = h

  -- ---- the least of several alternatives

  sizes-have : (l : List Alternative) → HaveAll w l → AllHave w (each_size l)
  sizes-have [] h = tt
  sizes-have (a ∷ l) h = ((((h.0.0, tt), h.0.1), tt), sizes-have l h.1)

  past-has : (f : Fun) (l : List Alternative) → HaveAll w l → PartsHave w (past_all f l)
  past-has Fun.Max l h = ((sizes-have l h, tt), tt)
  past-has _ l h = (sizes-have l h, tt)

  each-extreme-has : (f : Fun) (n : Ex) (l : List Alternative) → PartsHave w n → HaveAll w l → AllHave w (each_extreme f n l)
  each-extreme-has f n [] h k = tt
  each-extreme-has f n (a ∷ l) h k = (
    (
      extreme-names w f (laid_out a) k.0,
      ((((((tt, k.0.1), tt), tt), tt), (h, tt)), tt),
    ),
    each-extreme-has f n l h k.1,
  )

  extremes-have : (f : Fun) (l : List Alternative) (t : Ex) → HaveAll w l → Answers w (extreme_alternatives l (fun1 false f t))
  extremes-have f l t h = go f
    where
      go : (f : Fun) → Answers w (extreme_alternatives l (fun1 false f t))
      go Fun.Min = (each-extreme-has Fun.Min (past_all Fun.Min l) l (past-has Fun.Min l h) h, tt)
      go Fun.Max = (each-extreme-has Fun.Max (past_all Fun.Max l) l (past-has Fun.Max l h) h, tt)
      go _ = tt

  -- ---- each rule

  pub one-opened-has : (s : Supply) (g : Names Ty) (e : Ex) → OpensAt s g e → PartsHave w e → Answers w (over_one_opened s g e)
  one-opened-has s g (fun1 m f (comp_ex e gs)) o h =
      under w (forgets_order (word f)) _ (go (comp_offered s g e gs) (comp-offered-has s g e gs o h.0.0 h.0.1))
    where
      go : (r : Option (List Alternative)) → HaveSome w r → Answers w (option_map (λ a. fun1 m f (laid_out a)) (only_one r))
      go None j = tt
      go (Some []) j = tt
      go (Some (a ∷ [])) j = (j.0, tt)
      go (Some (a ∷ b ∷ l)) j = tt
  one-opened-has s g _ o h = tt

  pub least-has : (s : Supply) (g : Names Ty) (e : Ex) → OpensAt s g e → PartsHave w e → Answers w (least_of_several s g e)
  least-has s g (fun1 false f (comp_ex e gs)) o h = under w (is_extreme f) _ (go (several (comp_offered s g e gs))
      (several-has (comp_offered s g e gs) (comp-offered-has s g e gs o h.0.0 h.0.1)))
    where
      go : (r : Option (List Alternative)) → HaveSome w r →
          Answers w (and_then r (λ l. extreme_alternatives l (fun1 false f (comp_ex e gs))))
      go None j = tt
      go (Some l) j = extremes-have f l (comp_ex e gs) j
  least-has s g _ o h = tt

  united-have : (l : List Alternative) → HaveAll w l → PartsHave w (sets_united l)
  united-have [] h = tt
  united-have (a ∷ []) h = (h.0, tt)
  united-have (a ∷ b ∷ l) h = ((h.0, tt), (united-have (b ∷ l) h.1, tt))

  pub set-has : (s : Supply) (g : Names Ty) (e : Ex) → OpensAt s g e → PartsHave w e → Answers w (set_of_several s g e)
  set-has s g (fun1 false Fun.ToSet (comp_ex e gs)) o h = go (several (comp_offered s g e gs))
      (several-has (comp_offered s g e gs) (comp-offered-has s g e gs o h.0.0 h.0.1))
    where
      go : (r : Option (List Alternative)) → HaveSome w r → Answers w (option_map sets_united r)
      go None j = tt
      go (Some l) j = united-have l j
  set-has s g _ o h = tt

  -- What is picked at the first source has it, and may be put in.
  abbrev pub PicksAt : Supply → Names Ty → Ex → Type 0
  PicksAt s g (fun1 m f (comp_ex e (from (name_pat y) t hs))) = HaveSome w (picked_members s g t) × PutsSome w y (picked_members s g t)
  PicksAt s g e = Unit {0}

  pub each-picked-has : (s : Supply) (g : Names Ty) (e : Ex) → PicksAt s g e → PartsHave w e → Answers w (over_each_picked s g e)
  each-picked-has s g (fun1 m f (comp_ex e (from (name_pat y) t hs))) o h =
      in-parts w m f y e t hs (picked_members s g t) o.0 o.1 h.0.0 h.0.1.2
  each-picked-has s g _ o h = tt

  -- ---- rules that open nothing

  module _ (s : Supply) (n : IsTrue (w.name s.one)) (draws : (k : Ex) → IsTrue (w.draws (name_pat s.one) k)) where
    pub counted-has : (g : Names Ty) (e : Ex) → PartsHave w e → Answers w (counted_apart s g e)
    counted-has g (fun1 true Fun.AllDiff (comp_ex e gs)) h =
        under w (is_counted_apart s g e gs) (different_term s.one (fun1 true Fun.AllDiff (comp_ex e gs)))
        (different w s.one n draws (fun1 true Fun.AllDiff (comp_ex e gs)) h)
    counted-has g _ h = tt

    pub set-of-term-has : (e : Ex) → PartsHave w e → Answers w (set_of_term s e)
    set-of-term-has (fun1 false Fun.ToSet t) h = go (is_laid_open t)
      where
        go : (b : Bool) → Answers w (if b then None else Some (fun1 false Fun.ToSet (members_list s.one t)))
        go true = tt
        go false = ((n, (draws t, h.0, tt)), tt)
    set-of-term-has _ h = tt

  pub nested-has : (e : Ex) → PartsHave w e → Answers w (nested e)
  nested-has (fun1 m f (comp_ex e gs)) h = under w (is_marked m f) _ (go (at_first_open gs) (opened-has gs h.0.1))
    where
      parted : (b : Bool) (t : Opened) → OpenedHas (Some t) →
          Answers w (if b then None else Some (fun1 m f (comp_ex (fun1 m f (comp_ex e t.after)) t.before)))
      parted true t k = tt
      parted false t k = ((((h.0.0, k.1), tt), k.0), tt)

      go : (r : Option Opened) → OpenedHas r → Answers w (and_then r (folds_nested m f e))
      go None k = tt
      go (Some t) k = parted (are_none t.before) t k
  nested-has _ h = tt

  -- What is drawn from a set is drawn from what it is made of.
  module _ (made : (p : Pat) (t : Ex) → IsTrue (w.draws p (fun1 false Fun.ToSet t)) → IsTrue (w.draws p t)) where
    loose-has : (gs : Gens) → GensHave w gs → (before : Gens) (m : Bool) (f : Fun) (e : Ex) → GensHave w before → PartsHave w e →
        Answers w (option_map (λ hs. fun1 m f (comp_ex e (append_gens before hs))) (loose_source gs))
    loose-has (from p (fun1 false Fun.ToSet t) hs) h before m f e b k =
        ((k, append-parts w before (from p t hs) b (made p t h.0, h.1.0, h.2)), tt)
    loose-has _ h before m f e b k = tt

    pub loosely-has : (e : Ex) → PartsHave w e → Answers w (seen_loosely e)
    loosely-has (fun1 m f (comp_ex e gs)) h = under w (forgets_repeats m f) _ (go (at_first_open gs) (opened-has gs h.0.1))
      where
        go : (r : Option Opened) → OpenedHas r →
            Answers w (and_then r (λ t. option_map (λ hs. fun1 m f (comp_ex e (append_gens t.before hs))) (loose_source t.after)))
        go None k = tt
        go (Some t) k = loose-has t.after k.1 t.before m f e k.0 h.0.0
    loosely-has _ h = tt

  plain-has : (e : Ex) → PartsHave w e → PartsHave w (plain_list e)
  plain-has (matrix_ex es d) h = h.0
  plain-has _ h = h

  pub plainly-has : (e : Ex) → PartsHave w e → Answers w (listed_plainly e)
  plainly-has (ex2 true o a b) h = when w (is_lex o && (is_placed a || is_placed b)) _ (plain-has a h.0, (plain-has b h.1.0, tt))
  plainly-has (fun1 m f t) h = when w ((is_fold f || is_of_list f) && is_placed t) _ (plain-has t h.0, tt)
  plainly-has _ h = tt
