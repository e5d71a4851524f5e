-- Sources that are items: what is given and what is fixed stays, and comprehensions stay in order where order counts.
use Rattle.std.proofs.Common.{◌≡◌, refl, ◌∙◌, Bool, true, false, ◌||◌, not, if◌then◌else◌, List, [], ◌∷◌, Option, Some, None, option_map}
use Rattle.std.specs.Prelude.{IsTrue}
use Rattle.ess_semantics.specs.declared.words.Fun.{Fun}
use Rattle.ess_semantics.specs.Lists.{and_then}
use Rattle.ess_semantics.specs.Values.{Text}
use Rattle.ess_semantics.specs.Names.{Names}
use Rattle.ess_semantics.specs.Trees.{word, name_pat, tuple_pat, Ex, name_ex, comp_ex, fun1, Gens, no_gens, over, from, cond}
use Rattle.ess_semantics.specs.Types.{Ty}
use Rattle.ess_semantics.specs.ExpressionJudgements.{forgets_order}
use Rattle.ess_semantics.proofs.Tests.{and-right, and-both}
use Rattle.ess_rules_laws.specs.Listings.{Alternative}
use Rattle.ess_refine_laws.specs.AllRules.{Supply, OfSome, only_one}
use Rattle.ess_open_rules_laws.specs.OpenGenerators.{Opened, at_first_open, put_before}
use Rattle.ess_open_rules_laws.specs.OpenSources.{are_decided}
use Rattle.ess_ordered_laws.specs.NumberedItems.{ordered_lookup}
use Rattle.ess_ordered_laws.specs.SourcesOfItems.{may_be_taken, over_the_item, item_source, item_behind, over_an_item}
use Rattle.ess_given_laws.specs.PartsHave.{Wanted, PartsHave, GensHave}
use Rattle.ess_given_laws.specs.Given.{is_fixed, given, GivenIn}
use Rattle.ess_given_laws.proofs.PartsHave.{append-parts}
use Rattle.ess_given_laws.proofs.FixedTrees.{fixed, fixed-has, has-fixed}
use Rattle.ess_given_laws.proofs.PartsOfFolds.{Answers, HaveSome}
use Rattle.ess_given_order_laws.specs.InOrder.{in_order, gens_in_order, Ordered, GensOrdered}
use Rattle.ess_given_order_laws.proofs.OrderedParts.{append-in, append-order}
use Rattle.ess_given_order_laws.proofs.OrderOfListings.{of-word, worded, SomeAlternatives}
use Rattle.ess_given_order_laws.proofs.OrderOfFolds.{AnsweredFor}
use Rattle.ess_given_offers_laws.proofs.FixedOrder.{fixed-order}
use Rattle.ess_given_opened_laws.specs.OpenedStays.{GensKept}
use Rattle.ess_given_opened_laws.proofs.PartsOfOpenings.{OpenedHas, opened-has}
use Rattle.ess_given_opened_laws.proofs.OrderOfOpenings.{OpenedOrder, opened-order}
use Rattle.ess_given_opened_laws.proofs.OrderInPlace.{OpenedIn, opened-in}
use Rattle.ess_given_opened_laws.proofs.PlaceOrder.{gens-in}
use Rattle.ess_given_opened_laws.proofs.SourcesGiven.{free, not-of}
use Rattle.ess_given_ordered_laws.specs.OrderedNames.{AtSource, ItemNames, ItemSourceNames, ItemSourceKept, SourceItemNames}
use Rattle.ess_given_ordered_laws.proofs.PartsOfOperands.{EachDraws}
use Rattle.ess_given_ordered_laws.proofs.NamesGiven.{by-fixed}
use Rattle.ess_given_ordered_laws.proofs.TermsGiven.{or-right, fixed-draws, free-draws, given-draws, item-fixed, given-some, item-given, item-ordered}

-- ---- parts

module _ (w : Wanted) (s : Supply) where
  -- The name may be bound over each of the alternatives.
  abbrev Draws : Option (List Alternative) → Type 0
  Draws None = Unit {0}
  Draws (Some l) = EachDraws w s.other l

  -- What is made of the one alternative.
  abbrev one_taken : Bool → Text → Ex → Gens → Option (List Alternative) → Option Ex
  one_taken any y e hs o = and_then (only_one o) (λ a. if may_be_taken any a then Some (over_the_item s.other y e hs a) else None)

  one-has : (any : Bool) (y : Text) (e : Ex) (hs : Gens) → IsTrue (w.name s.other) → IsTrue (w.draws (name_pat y) (name_ex s.other)) →
      PartsHave w e → GensHave w hs → (o : Option (List Alternative)) → HaveSome w o → Draws o → Answers w (one_taken any y e hs o)
  one-has any y e hs n q k j None h d = tt
  one-has any y e hs n q k j (Some []) h d = tt
  one-has any y e hs n q k j (Some (a ∷ [])) h d = go (may_be_taken any a)
    where
      go : (b : Bool) → Answers w (if b then Some (over_the_item s.other y e hs a) else None)
      go true = (k, (d.0, h.0, (q, n, j)))
      go false = tt
  one-has any y e hs n q k j (Some (a ∷ b ∷ l)) h d = tt

  -- What is said of the source, by the rule.
  abbrev SourceHas : (Gens → Type 0) → Type 0
  SourceHas P = (any : Bool) (e : Ex) (hs : Gens) → P hs → PartsHave w (comp_ex e hs) → Answers w (item_source s any (comp_ex e hs))

  behind-has : (P : Gens → Type 0) → SourceHas P → (any : Bool) (e : Ex) (gs : Gens) → AtSource P (comp_ex e gs) →
      PartsHave w (comp_ex e gs) → Answers w (item_behind s any (comp_ex e gs))
  behind-has P f any e gs n h = go (at_first_open gs) n (opened-has w gs h.1)
    where
      put : (before : Gens) → GensHave w before → (r : Option Ex) → Answers w r → Answers w (and_then r (put_before before))
      put before b None j = tt
      put before b (Some (comp_ex z ks)) j = (j.0, append-parts w before ks b j.1)
      put before b (Some _) j = tt

      go : (o : Option Opened) → OfSome o (λ t. P t.after) → OpenedHas w o →
          Answers w (and_then o (λ t. and_then (item_source s any (comp_ex e t.after)) (put_before t.before)))
      go None n j = tt
      go (Some t) n j = put t.before j.0 (item_source s any (comp_ex e t.after)) (f any e t.after n (h.0, j.1))

  -- Under a word.
  worded-has : (m : Bool) (v : Fun) (c : Bool) (o : Option Ex) → Answers w o → Answers w (if c then option_map (fun1 m v) o else None)
  worded-has m v true None h = tt
  worded-has m v true (Some f) h = (h, tt)
  worded-has m v false o h = tt

module _ (u : Text → Bool) (s : Supply) (g : Names Ty) where
  -- ---- what is fixed

  abbrev found : Ex → Option (List Alternative)
  found t = ordered_lookup s.third s.parts t

  each-fixed : u s.other ≡ true → (o : Option (List Alternative)) → Draws (fixed u) s o
  each-fixed q None = tt
  each-fixed q (Some l) = fixed-draws u s.other q l

  source-fixed : SourceHas (fixed u) s (ItemSourceNames u s)
  source-fixed any e (from (name_pat y) t hs) n h =
      let q = has-fixed u t h.1.1 in let k = n.0 ∙ q in
      one-has (fixed u) s any y e hs k h.1.0 h.0 h.1.2 (found t) (item-fixed u s g t n.1 h.1.1) (each-fixed k (found t))
  source-fixed any e (from (tuple_pat ps) t hs) n h = tt
  source-fixed any e no_gens n h = tt
  source-fixed any e (over p d hs) n h = tt
  source-fixed any e (cond c hs) n h = tt

  pub item-source-fixed : (e : Ex) → SourceItemNames u s e → PartsHave (fixed u) e → Answers (fixed u) (over_an_item s e)
  item-source-fixed (fun1 m f (comp_ex e gs)) n h = worded-has (fixed u) s m f (forgets_order (word f)) (item_behind s true (comp_ex e gs))
      (behind-has (fixed u) s (ItemSourceNames u s) source-fixed true e gs n h.0)
  item-source-fixed (comp_ex e gs) n h = behind-has (fixed u) s (ItemSourceNames u s) source-fixed false e gs n.0 h
  item-source-fixed _ n h = tt

  -- ---- what is given

  each-given : (o : Option (List Alternative)) → HaveSome (fixed u) o → Draws (given u) s o
  each-given None h = tt
  each-given (Some l) h = given-draws u s.other l h

  each-free : u s.other ≡ false → (o : Option (List Alternative)) → Draws (given u) s o
  each-free q None = tt
  each-free q (Some l) = free-draws u s.other q l

  source-given : SourceHas (given u) s (ItemSourceNames u s)
  source-given any e (from (name_pat y) t hs) n h =
      by-fixed u t (Answers (given u) (item_source s any (comp_ex e (from (name_pat y) t hs)))) of-fixed of-others
    where
      of-fixed : is_fixed u t ≡ true → Answers (given u) (item_source s any (comp_ex e (from (name_pat y) t hs)))
      of-fixed q = let l = item-fixed u s g t n.1 (fixed-has u t q) in
          one-has (given u) s any y e hs refl (or-right (not (u y)) (u s.other) (n.0 ∙ q)) h.0 h.1.2 (found t)
          (given-some u s g (found t) l) (each-given (found t) l)

      of-others : is_fixed u t ≡ false → Answers (given u) (item_source s any (comp_ex e (from (name_pat y) t hs)))
      of-others q = one-has (given u) s any y e hs refl (free u y (not-of u y t q h.1.0) (name_ex s.other)) h.0 h.1.2 (found t)
          (item-given u s g t n.1 h.1.1) (each-free (n.0 ∙ q) (found t))
  source-given any e (from (tuple_pat ps) t hs) n h = tt
  source-given any e no_gens n h = tt
  source-given any e (over p d hs) n h = tt
  source-given any e (cond c hs) n h = tt

  pub item-source-given : (e : Ex) → SourceItemNames u s e → GivenIn u e → Answers (given u) (over_an_item s e)
  item-source-given (fun1 m f (comp_ex e gs)) n h = worded-has (given u) s m f (forgets_order (word f)) (item_behind s true (comp_ex e gs))
      (behind-has (given u) s (ItemSourceNames u s) source-given true e gs n h.0)
  item-source-given (comp_ex e gs) n h = behind-has (given u) s (ItemSourceNames u s) source-given false e gs n.0 h
  item-source-given _ n h = tt

  -- ---- order

  -- The one alternative is in order, if it is decided.
  abbrev OneIn : Option (List Alternative) → Type 0
  OneIn o = OfSome (only_one o) (λ a. are_decided a.gens ≡ true → gens_in_order u a.gens ≡ true)

  -- What is fixed is.
  fixed-one : (o : Option (List Alternative)) → HaveSome (fixed u) o → OneIn o
  fixed-one None h = tt
  fixed-one (Some []) h = tt
  fixed-one (Some (a ∷ [])) h = λ q. (fixed-order u (comp_ex a.item a.gens) (has-fixed u (comp_ex a.item a.gens) h.0)).0
  fixed-one (Some (a ∷ b ∷ l)) h = tt

  kept-one : (o : Option (List Alternative)) → OfSome (only_one o) (λ a. GensKept u a.gens) → OneIn o
  kept-one None h = tt
  kept-one (Some []) h = tt
  kept-one (Some (a ∷ [])) h = λ q. gens-in u a.gens q h
  kept-one (Some (a ∷ b ∷ l)) h = tt

  one-in : (y : Text) (t : Ex) (hs : Gens) → ItemNames u s t → ItemSourceKept u s (from (name_pat y) t hs) → OneIn (found t)
  one-in y t hs n k = by-fixed u t (OneIn (found t)) (λ q. fixed-one (found t) (item-fixed u s g t n (fixed-has u t q)))
      (λ q. kept-one (found t) (k q))

  -- What the rule makes of a comprehension is in order where that is, unless order is forgotten.
  abbrev KeptFor : Bool → Ex → Option Ex → Type 0
  KeptFor any e None = Unit {0}
  KeptFor any e (Some f) = (any ≡ false → in_order u e ≡ true → in_order u f ≡ true) × Ordered u f

  told : (any b : Bool) → any || b ≡ true → any ≡ false → b ≡ true
  told true b q r = cc
  told false b q r = q

  source-order : (any : Bool) (e : Ex) (hs : Gens) → ItemSourceNames u s hs → (any ≡ false → ItemSourceKept u s hs) →
      Ordered u (comp_ex e hs) → KeptFor any (comp_ex e hs) (item_source s any (comp_ex e hs))
  source-order any e (from (name_pat y) t hs) n i h =
      go (found t) (λ q. one-in y t hs n.1 (i q)) (item-ordered u s g t n.1 h.1.0)
    where
      go : (o : Option (List Alternative)) → (any ≡ false → OneIn o) → SomeAlternatives u o →
          KeptFor any (comp_ex e (from (name_pat y) t hs)) (one_taken (fixed u) s any y e hs o)
      go None i k = tt
      go (Some []) i k = tt
      go (Some (a ∷ [])) i k = at (may_be_taken any a) refl
        where
          at : (b : Bool) → may_be_taken any a ≡ b →
              KeptFor any (comp_ex e (from (name_pat y) t hs)) (if b then Some (over_the_item s.other y e hs a) else None)
          at true q = (
            λ r p. and-both (gens_in_order u a.gens) (gens_in_order u hs) (i r (told any (are_decided a.gens) q r))
                (and-right (in_order u t) (gens_in_order u hs) p),
            (h.0, (k.0, (tt, h.1.1))),
          )
          at false q = tt
      go (Some (a ∷ b ∷ l)) i k = tt
  source-order any e (from (tuple_pat ps) t hs) n i h = tt
  source-order any e no_gens n i h = tt
  source-order any e (over p d hs) n i h = tt
  source-order any e (cond c hs) n i h = tt

  behind-order : (any : Bool) (e : Ex) (gs : Gens) → AtSource (ItemSourceNames u s) (comp_ex e gs) →
      (any ≡ false → AtSource (ItemSourceKept u s) (comp_ex e gs)) → Ordered u (comp_ex e gs) →
      KeptFor any (comp_ex e gs) (item_behind s any (comp_ex e gs))
  behind-order any e gs n i h = go (at_first_open gs) n i (opened-order u gs h.1) (opened-in u gs)
    where
      put : (t : Opened) → GensOrdered u t.before → (gens_in_order u gs ≡ true → OpenedIn u (Some t)) → (r : Option Ex) →
          KeptFor any (comp_ex e t.after) r → KeptFor any (comp_ex e gs) (and_then r (put_before t.before))
      put t b o None j = tt
      put t b o (Some (comp_ex z ks)) j =
          (λ r q. append-in u t.before ks (o q).0 (j.0 r (o q).1), (j.1.0, append-order u t.before ks b j.1.1))
      put t b o (Some _) j = tt

      go : (o : Option Opened) → OfSome o (λ t. ItemSourceNames u s t.after) → (any ≡ false → OfSome o (λ t. ItemSourceKept u s t.after)) →
          OpenedOrder u o → (gens_in_order u gs ≡ true → OpenedIn u o) →
          KeptFor any (comp_ex e gs) (and_then o (λ t. and_then (item_source s any (comp_ex e t.after)) (put_before t.before)))
      go None n i j k = tt
      go (Some t) n i j k = put t j.0 k (item_source s any (comp_ex e t.after)) (source-order any e t.after n i (h.0, j.1))

  pub item-source-order : (e : Ex) → SourceItemNames u s e → Ordered u e → AnsweredFor u e (over_an_item s e)
  item-source-order (fun1 m f (comp_ex e gs)) n h = go (forgets_order (word f)) refl
    where
      put : forgets_order (word f) ≡ true → (o : Option Ex) → KeptFor true (comp_ex e gs) o →
          AnsweredFor u (fun1 m f (comp_ex e gs)) (option_map (fun1 m f) o)
      put q None k = tt
      put q (Some x) k = let j = worded u m f x q k.1 in (λ r. j.0, j.1)

      go : (b : Bool) → forgets_order (word f) ≡ b →
          AnsweredFor u (fun1 m f (comp_ex e gs)) (if b then option_map (fun1 m f) (item_behind s true (comp_ex e gs)) else None)
      go true q = put q (item_behind s true (comp_ex e gs))
          (behind-order true e gs n (λ r. cc) (of-word u (forgets_order (word f)) (comp_ex e gs) h))
      go false q = tt
  item-source-order (comp_ex e gs) n h = go (item_behind s false (comp_ex e gs)) (behind-order false e gs n.0 (λ r. n.1) h)
    where
      go : (o : Option Ex) → KeptFor false (comp_ex e gs) o → AnsweredFor u (comp_ex e gs) o
      go None k = tt
      go (Some f) k = (k.0 refl, k.1)
  item-source-order _ n h = tt
