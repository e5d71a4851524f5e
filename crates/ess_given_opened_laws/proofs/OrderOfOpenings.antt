-- Rules of words over what the first source offers that isn't plain keep comprehensions in order where order counts.
use Rattle.std.proofs.Common.{◌≡◌, refl, Bool, true, false, ◌&&◌, ◌||◌, if◌then◌else◌, List, [], ◌∷◌, map, Option, Some, None, option_map}
use Rattle.ess_semantics.specs.declared.words.Fun.{Fun}
use Rattle.ess_semantics.specs.Lists.{and_then}
use Rattle.ess_semantics.specs.Values.{Text}
use Rattle.ess_semantics.specs.Names.{Names}
use Rattle.ess_semantics.specs.Trees.{word, name_pat, tuple_pat, Ex, matrix_ex, comp_ex, ex2, fun1, more_exs, no_exs, Gens, no_gens, over, from, cond}
use Rattle.ess_semantics.specs.Types.{Ty}
use Rattle.ess_semantics.specs.NamesAt.{names_behind}
use Rattle.ess_semantics.specs.Substitution.{substitute_gens, for_name}
use Rattle.ess_semantics.specs.ExpressionJudgements.{forgets_order}
use Rattle.ess_rules_laws.specs.FoldRules.{is_fold, is_laid_open}
use Rattle.ess_rules_laws.specs.SourceRules.{is_marked}
use Rattle.ess_rules_laws.specs.Listings.{Alternative}
use Rattle.ess_rules_laws.specs.ListedSources.{laid_out}
use Rattle.ess_rules_laws.specs.ListRules.{members_list, different_term, is_lex, is_of_list}
use Rattle.ess_rules_laws.specs.SpliceRules.{append_gens}
use Rattle.ess_refine_laws.specs.ExtremeRules.{is_extreme, are_none}
use Rattle.ess_refine_laws.specs.ExtremeAlternatives.{put_alternative, each_extreme, each_size, past_all, extreme_alternatives}
use Rattle.ess_refine_laws.specs.AllRules.{Supply, only_one}
use Rattle.ess_open_rules_laws.specs.OpenGenerators.{Opened, is_plain_over, with_first, at_first_open, folds_nested, nested}
use Rattle.ess_open_rules_laws.specs.OpenSources.{picked_members, all_offered, behind_gens, put_opened, comp_offered, several, over_one_opened, over_each_picked, least_of_several, sets_united, set_of_several, set_of_term, is_counted_apart, counted_apart, forgets_repeats, loose_source, seen_loosely, is_placed, plain_list, listed_plainly}
use Rattle.ess_given_order_laws.specs.InOrder.{Ordered, AllOrdered, GensOrdered, InOrder}
use Rattle.ess_given_order_laws.proofs.OrderedParts.{put-kept, put-gens-order, append-order}
use Rattle.ess_given_order_laws.proofs.OrderOfListings.{of-word, worded, AllAlternatives, SomeAlternatives, extreme-kept}
use Rattle.ess_given_order_laws.proofs.OrderOfFolds.{Answered, PutsAll, PutsSome, when, under, in-parts, marked-forgets}
use Rattle.ess_given_order_laws.proofs.OrderOfContainers.{different}

module _ (u : Text → Bool) where
  -- ---- generators in two parts

  abbrev pub OpenedOrder : Option Opened → Type 0
  OpenedOrder None = Unit {0}
  OpenedOrder (Some t) = GensOrdered u t.before × GensOrdered u t.after

  first-kept : (f : Gens → Gens) → ((gs : Gens) → GensOrdered u gs → GensOrdered u (f gs)) → (o : Option Opened) → OpenedOrder o →
      OpenedOrder (option_map (with_first f) o)
  first-kept f k None h = tt
  first-kept f k (Some t) h = (k t.before h.0, h.1)

  pub opened-order : (gs : Gens) → GensOrdered u gs → OpenedOrder (at_first_open gs)
  opened-order no_gens h = tt
  opened-order (over p d gs) h = go (is_plain_over p d) (opened-order gs h)
    where
      go : (b : Bool) → OpenedOrder (at_first_open gs) → OpenedOrder (if b then option_map (with_first (over p d)) (at_first_open gs)
          else Some (record { before = no_gens; after = over p d gs }))
      go true k = first-kept (over p d) (λ ks k. k) (at_first_open gs) k
      go false k = (tt, h)
  opened-order (from p e gs) h = (tt, h)
  opened-order (cond c gs) h = first-kept (cond c) (λ ks k. (h.0, k)) (at_first_open gs) (opened-order gs h.1)

  -- ---- what is offered behind plain generators

  -- What the first source offers is in order, and each item may be put in for the name.
  abbrev pub OrderAfter : Supply → Names Ty → Gens → Type 0
  OrderAfter s g (from (name_pat y) t hs) = SomeAlternatives u (all_offered s g t) × PutsSome u y (all_offered s g t)
  OrderAfter s g gs = Unit {0}

  abbrev pub OrderBehind : Supply → Names Ty → Option Opened → Type 0
  OrderBehind s g None = Unit {0}
  OrderBehind s g (Some t) = OrderAfter s (names_behind t.before g) t.after

  put-each : (before : Gens) (y : Text) (e : Ex) (hs : Gens) (l : List Alternative) → GensOrdered u before → AllAlternatives u l →
      PutsAll u y l → InOrder u e → GensOrdered u hs → AllAlternatives u (map (λ a. behind_gens before (put_alternative y e hs a)) l)
  put-each before y e hs [] b h p k j = tt
  put-each before y e hs (a ∷ l) b h p k j = (
    (
      put-kept u y a.item p.0 e k,
      append-order u before (append_gens a.gens (substitute_gens (for_name y a.item) hs)) b
          (append-order u a.gens (substitute_gens (for_name y a.item) hs) h.0.1 (put-gens-order u y a.item p.0 hs j)),
    ),
    put-each before y e hs l b h.1 p.1 k j,
  )

  put-opened-order : (s : Supply) (g : Names Ty) (e : Ex) (before after : Gens) → OrderAfter s g after → InOrder u e →
      GensOrdered u before → GensOrdered u after → SomeAlternatives u (put_opened e before after (all_offered s g))
  put-opened-order s g e before (from (name_pat y) t hs) o k b h = go (all_offered s g t) o.0 o.1
    where
      go : (r : Option (List Alternative)) → SomeAlternatives u r → PutsSome u y r →
          SomeAlternatives u (option_map (map (λ a. behind_gens before (put_alternative y e hs a))) r)
      go None j p = tt
      go (Some l) j p = put-each before y e hs l b j p k h.1
  put-opened-order s g e before (from (tuple_pat ps) t hs) o k b h = tt
  put-opened-order s g e before no_gens o k b h = tt
  put-opened-order s g e before (over p d hs) o k b h = tt
  put-opened-order s g e before (cond c hs) o k b h = tt

  pub comp-offered-order : (s : Supply) (g : Names Ty) (e : Ex) (gs : Gens) → OrderBehind s g (at_first_open gs) → InOrder u e →
      GensOrdered u gs → SomeAlternatives u (comp_offered s g e gs)
  comp-offered-order s g e gs o k h = go (at_first_open gs) o (opened-order gs h)
    where
      go : (r : Option Opened) → OrderBehind s g r → OpenedOrder r →
          SomeAlternatives u (and_then r (λ t. put_opened e t.before t.after (all_offered s (names_behind t.before g))))
      go None o j = tt
      go (Some t) o j = put-opened-order s (names_behind t.before g) e t.before t.after o k j.0 j.1

  -- So it is of a word on a comprehension.
  abbrev pub OrdersAt : Supply → Names Ty → Ex → Type 0
  OrdersAt s g (fun1 m f (comp_ex e gs)) = OrderBehind s g (at_first_open gs)
  OrdersAt s g e = Unit {0}

  several-kept : (o : Option (List Alternative)) → SomeAlternatives u o → SomeAlternatives u (several o)
  several-kept None h = tt
  several-kept (Some []) h = h
  several-kept (Some (a ∷ [])) h = tt
  several-kept (Some (a ∷ b ∷ l)) h = h

  -- The comprehension under a word.
  comp-of : (m : Bool) (f : Fun) (e : Ex) (gs : Gens) → Ordered u (fun1 m f (comp_ex e gs)) → Ordered u (comp_ex e gs)
  comp-of m f e gs h = of-word u (forgets_order (word f)) (comp_ex e gs) h

  -- ---- the least of several alternatives

  sizes-kept : (l : List Alternative) → AllAlternatives u l → AllOrdered u (each_size l) false
  sizes-kept [] h = tt
  sizes-kept (a ∷ l) h = ((refl, (((refl, (h.0.0, tt)), h.0.1), tt)), sizes-kept l h.1)

  past-kept : (f : Fun) (l : List Alternative) → AllAlternatives u l → InOrder u (past_all f l)
  past-kept Fun.Max l h = (refl, ((refl, (sizes-kept l h, tt)), tt))
  past-kept _ l h = (refl, (sizes-kept l h, tt))

  each-extreme-kept : (f : Fun) (m : Ex) (l : List Alternative) → forgets_order (word f) ≡ true → InOrder u m → AllAlternatives u l →
      AllOrdered u (each_extreme f m l) false
  each-extreme-kept f m [] q h k = tt
  each-extreme-kept f m (a ∷ l) q h k = (
    (
      refl,
      (
        extreme-kept u f (laid_out a) q k.0,
        ((refl, ((refl, ((refl, ((refl, (((refl, tt), k.0.1), tt)), tt)), tt)), (h, tt))), tt),
      ),
    ),
    each-extreme-kept f m l q h k.1,
  )

  extremes-kept : (f : Fun) (l : List Alternative) (t : Ex) → AllAlternatives u l → Answered u (extreme_alternatives l (fun1 false f t))
  extremes-kept f l t h = go f
    where
      go : (f : Fun) → Answered u (extreme_alternatives l (fun1 false f t))
      go Fun.Min = (refl, (each-extreme-kept Fun.Min (past_all Fun.Min l) l refl (past-kept Fun.Min l h) h, tt))
      go Fun.Max = (refl, (each-extreme-kept Fun.Max (past_all Fun.Max l) l refl (past-kept Fun.Max l h) h, tt))
      go _ = tt

  -- ---- each rule

  pub one-opened-order : (s : Supply) (g : Names Ty) (e : Ex) → OrdersAt s g e → Ordered u e → Answered u (over_one_opened s g e)
  one-opened-order s g (fun1 m f (comp_ex e gs)) o h = at (forgets_order (word f)) refl
    where
      k : Ordered u (comp_ex e gs)
      k = comp-of m f e gs h

      go : forgets_order (word f) ≡ true → (r : Option (List Alternative)) → SomeAlternatives u r →
          Answered u (option_map (λ a. fun1 m f (laid_out a)) (only_one r))
      go q None j = tt
      go q (Some []) j = tt
      go q (Some (a ∷ [])) j = worded u m f (laid_out a) q j.0
      go q (Some (a ∷ b ∷ l)) j = tt

      at : (b : Bool) → forgets_order (word f) ≡ b →
          Answered u (if b then option_map (λ a. fun1 m f (laid_out a)) (only_one (comp_offered s g e gs)) else None)
      at true q = go q (comp_offered s g e gs) (comp-offered-order s g e gs o k.0 k.1)
      at false q = tt
  one-opened-order s g _ o h = tt

  pub least-order : (s : Supply) (g : Names Ty) (e : Ex) → OrdersAt s g e → Ordered u e → Answered u (least_of_several s g e)
  least-order s g (fun1 false f (comp_ex e gs)) o h = under u (is_extreme f) _ (go (several (comp_offered s g e gs))
      (several-kept (comp_offered s g e gs) (comp-offered-order s g e gs o k.0 k.1)))
    where
      k : Ordered u (comp_ex e gs)
      k = comp-of false f e gs h

      go : (r : Option (List Alternative)) → SomeAlternatives u r →
          Answered u (and_then r (λ l. extreme_alternatives l (fun1 false f (comp_ex e gs))))
      go None j = tt
      go (Some l) j = extremes-kept f l (comp_ex e gs) j
  least-order s g _ o h = tt

  united-kept : (l : List Alternative) → AllAlternatives u l → InOrder u (sets_united l)
  united-kept [] h = (refl, tt)
  united-kept (a ∷ []) h = (refl, (h.0, tt))
  united-kept (a ∷ b ∷ l) h = (refl, ((refl, (h.0, tt)), (united-kept (b ∷ l) h.1, tt)))

  pub set-order : (s : Supply) (g : Names Ty) (e : Ex) → OrdersAt s g e → Ordered u e → Answered u (set_of_several s g e)
  set-order s g (fun1 false Fun.ToSet (comp_ex e gs)) o h = go (several (comp_offered s g e gs))
      (several-kept (comp_offered s g e gs) (comp-offered-order s g e gs o h.0.0 h.0.1))
    where
      go : (r : Option (List Alternative)) → SomeAlternatives u r → Answered u (option_map sets_united r)
      go None j = tt
      go (Some l) j = united-kept l j
  set-order s g _ o h = tt

  -- What is picked at the first source is in order, and may be put in.
  abbrev pub PicksOrder : Supply → Names Ty → Ex → Type 0
  PicksOrder s g (fun1 m f (comp_ex e (from (name_pat y) t hs))) =
      SomeAlternatives u (picked_members s g t) × PutsSome u y (picked_members s g t)
  PicksOrder s g e = Unit {0}

  pub each-picked-order : (s : Supply) (g : Names Ty) (e : Ex) → PicksOrder s g e → Ordered u e → Answered u (over_each_picked s g e)
  each-picked-order s g (fun1 m f (comp_ex e (from (name_pat y) t hs))) o h =
      let k = comp-of m f e (from (name_pat y) t hs) h in in-parts u m f y e t hs (picked_members s g t) o.0 o.1 k.0 k.1.1
  each-picked-order s g _ o h = tt

  -- ---- rules that open nothing

  pub counted-order : (s : Supply) (g : Names Ty) (e : Ex) → Ordered u e → Answered u (counted_apart s g e)
  counted-order s g (fun1 true Fun.AllDiff (comp_ex e gs)) h =
      under u (is_counted_apart s g e gs) (different_term s.one (fun1 true Fun.AllDiff (comp_ex e gs)))
      (different u s.one (fun1 true Fun.AllDiff (comp_ex e gs)) h)
  counted-order s g _ h = tt

  pub set-of-term-order : (s : Supply) (e : Ex) → Ordered u e → Answered u (set_of_term s e)
  set-of-term-order s (fun1 false Fun.ToSet t) h = go (is_laid_open t)
    where
      go : (b : Bool) → Answered u (if b then None else Some (fun1 false Fun.ToSet (members_list s.one t)))
      go true = tt
      go false = (refl, (((refl, tt), (h.0, tt)), tt))
  set-of-term-order s _ h = tt

  pub nested-order : (e : Ex) → Ordered u e → Answered u (nested e)
  nested-order (fun1 m f (comp_ex e gs)) h = at (is_marked m f) refl
    where
      k : Ordered u (comp_ex e gs)
      k = comp-of m f e gs h

      parted : forgets_order (word f) ≡ true → (b : Bool) (t : Opened) → OpenedOrder (Some t) →
          Answered u (if b then None else Some (fun1 m f (comp_ex (fun1 m f (comp_ex e t.after)) t.before)))
      parted q true t j = tt
      parted q false t j = worded u m f (comp_ex (fun1 m f (comp_ex e t.after)) t.before) q
          (worded u m f (comp_ex e t.after) q (k.0, j.1), j.0)

      go : forgets_order (word f) ≡ true → (r : Option Opened) → OpenedOrder r → Answered u (and_then r (folds_nested m f e))
      go q None j = tt
      go q (Some t) j = parted q (are_none t.before) t j

      at : (b : Bool) → is_marked m f ≡ b → Answered u (if b then and_then (at_first_open gs) (folds_nested m f e) else None)
      at true q = go (marked-forgets m f q) (at_first_open gs) (opened-order gs k.1)
      at false q = tt
  nested-order _ h = tt

  repeats-forget : (m : Bool) (f : Fun) → forgets_repeats m f ≡ true → forgets_order (word f) ≡ true
  repeats-forget true Fun.And q = refl
  repeats-forget true Fun.Or q = refl
  repeats-forget false Fun.Min q = refl
  repeats-forget false Fun.Max q = refl
  repeats-forget m f q = cc

  loose-order : (gs : Gens) → GensOrdered u gs → (before : Gens) (m : Bool) (f : Fun) (e : Ex) → forgets_order (word f) ≡ true →
      GensOrdered u before → InOrder u e →
      Answered u (option_map (λ hs. fun1 m f (comp_ex e (append_gens before hs))) (loose_source gs))
  loose-order (from p (fun1 false Fun.ToSet t) hs) h before m f e q b k =
      worded u m f (comp_ex e (append_gens before (from p t hs))) q (k, append-order u before (from p t hs) b (h.0.0, h.1))
  loose-order _ h before m f e q b k = tt

  pub loosely-order : (e : Ex) → Ordered u e → Answered u (seen_loosely e)
  loosely-order (fun1 m f (comp_ex e gs)) h = at (forgets_repeats m f) refl
    where
      k : Ordered u (comp_ex e gs)
      k = comp-of m f e gs h

      go : forgets_order (word f) ≡ true → (r : Option Opened) → OpenedOrder r →
          Answered u (and_then r (λ t. option_map (λ hs. fun1 m f (comp_ex e (append_gens t.before hs))) (loose_source t.after)))
      go q None j = tt
      go q (Some t) j = loose-order t.after j.1 t.before m f e q j.0 k.0

      at : (b : Bool) → forgets_repeats m f ≡ b → Answered u (if b then and_then (at_first_open gs)
          (λ t. option_map (λ hs. fun1 m f (comp_ex e (append_gens t.before hs))) (loose_source t.after)) else None)
      at true q = go (repeats-forget m f q) (at_first_open gs) (opened-order gs k.1)
      at false q = tt
  loosely-order _ h = tt

  plain-order : (e : Ex) → InOrder u e → InOrder u (plain_list e)
  plain-order (matrix_ex es d) h = h
  plain-order _ h = h

  plain-word : (c : Bool) (e : Ex) → AllOrdered u (more_exs e no_exs) c → AllOrdered u (more_exs (plain_list e) no_exs) c
  plain-word true (matrix_ex es d) h = h
  plain-word false (matrix_ex es d) h = h
  plain-word c _ h = h

  pub plainly-order : (e : Ex) → Ordered u e → Answered u (listed_plainly e)
  plainly-order (ex2 true o a b) h =
      when u (is_lex o && (is_placed a || is_placed b)) _ (refl, (plain-order a h.0, (plain-order b h.1.0, tt)))
  plainly-order (fun1 m f t) h = when u ((is_fold f || is_of_list f) && is_placed t) _ (refl, plain-word (forgets_order (word f)) t h)
  plainly-order _ h = tt
