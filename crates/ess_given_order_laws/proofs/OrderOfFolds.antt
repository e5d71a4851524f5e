-- Rules of folds, generators, literals and comparisons keep comprehensions in order where order counts.
use Rattle.std.proofs.Common.{◌≡◌, refl, subst, Bool, true, false, ◌&&◌, ◌||◌, not, if◌then◌else◌, List, [], ◌∷◌, Option, Some, None}
use Rattle.ess_semantics.specs.declared.words.Fun.{Fun}
use Rattle.ess_semantics.specs.Lists.{and_then}
use Rattle.ess_semantics.specs.Values.{Text}
use Rattle.ess_semantics.specs.Trees.{word, mset_literal, matrix_literal, Pats, more_pats, no_pats, name_pat, tuple_pat, Ex, Exs, name_ex, node_ex, comp_ex, fun1, no_exs, more_exs, Gens, no_gens, over, from, cond, Doms, no_doms, more_doms, tuple_dom, record_dom}
use Rattle.ess_semantics.specs.Types.{Ty}
use Rattle.ess_semantics.specs.ExpressionJudgements.{forgets_order}
use Rattle.ess_semantics.specs.Substitution.{substitute, substitute_gens, for_name}
use Rattle.ess_semantics.proofs.Tests.{and-left, and-right}
use Rattle.ess_rules_laws.specs.FoldRules.{is_fold, is_laid_open, fold_alone, fold_nothing, fold_one, fold_bare, fold_term}
use Rattle.ess_rules_laws.specs.LooseRules.{fold_loosely}
use Rattle.ess_rules_laws.specs.SourceRules.{is_marked, each_fold, fold_items}
use Rattle.ess_rules_laws.specs.SpliceRules.{append_gens, splice}
use Rattle.ess_rules_laws.specs.SplitRules.{as_many, each_over, split}
use Rattle.ess_rules_laws.specs.TupleNames.{named_exs, tuples_over, name_over_tuple, are_names}
use Rattle.ess_rules_laws.specs.Listings.{Alternative}
use Rattle.ess_rules_laws.specs.ListedSources.{put_listed, source_alone, each_put, source_parts}
use Rattle.ess_refine_laws.specs.RecordNames.{are_in_order, records_over, name_over_record}
use Rattle.ess_refine_laws.specs.AllRules.{only_one}
use Rattle.ess_given_laws.specs.Given.{is_fixed, are_fixed, are_fixed_gens, GivenIn}
use Rattle.ess_given_order_laws.specs.InOrder.{in_order, gens_in_order, Ordered, AllOrdered, GensOrdered, InOrder}
use Rattle.ess_given_order_laws.proofs.OrderedParts.{PutsOrder, put-order, put-kept, put-gens-in, put-gens-order, append-in, append-order}
use Rattle.ess_given_order_laws.proofs.OrderOfListings.{of-word, worded, AllAlternatives, SomeAlternatives}

fold-forgets : (f : Fun) → is_fold f ≡ true → forgets_order (word f) ≡ true
fold-forgets Fun.And q = refl
fold-forgets Fun.Or q = refl
fold-forgets Fun.Sum q = refl
fold-forgets Fun.Product q = refl
fold-forgets f q = cc

pub marked-forgets : (b : Bool) (f : Fun) → is_marked b f ≡ true → forgets_order (word f) ≡ true
marked-forgets true Fun.And q = refl
marked-forgets true Fun.Or q = refl
marked-forgets false Fun.Sum q = refl
marked-forgets false Fun.Product q = refl
marked-forgets b f q = cc

-- From what a generator draws: where its name is of u, the source is fixed.
pub drawn : (b c : Bool) → not b || c ≡ true → b ≡ true → c ≡ true
drawn true c h q = h
drawn false c h q = cc

module _ (u : Text → Bool) where
  -- What a rule answers is in order; what one answers for a comprehension is so where that is.
  abbrev pub Answered : Option Ex → Type 0
  Answered None = Unit {0}
  Answered (Some f) = InOrder u f

  abbrev pub AnsweredFor : Ex → Option Ex → Type 0
  AnsweredFor e None = Unit {0}
  AnsweredFor e (Some f) = (in_order u e ≡ true → in_order u f ≡ true) × Ordered u f

  pub when : (c : Bool) (f : Ex) → InOrder u f → Answered (if c then Some f else None)
  when true f h = h
  when false f h = tt

  pub under : (c : Bool) (r : Option Ex) → Answered r → Answered (if c then r else None)
  under true r h = h
  under false r h = tt

  when-for : (e : Ex) (c : Bool) (f : Ex) → (in_order u e ≡ true → in_order u f ≡ true) → Ordered u f → AnsweredFor e
      (if c then Some f else None)
  when-for e true f h k = (h, k)
  when-for e false f h k = tt

  -- The item may be put in for the name, of each alternative, and of each of the expressions.
  abbrev pub PutsAll : Text → List Alternative → Type 0
  PutsAll y [] = Unit {0}
  PutsAll y (a ∷ l) = PutsOrder u y a.item × PutsAll y l

  abbrev pub PutsSome : Text → Option (List Alternative) → Type 0
  PutsSome y None = Unit {0}
  PutsSome y (Some l) = PutsAll y l

  abbrev PutsEach : Text → Exs → Type 0
  PutsEach y no_exs = Unit {0}
  PutsEach y (more_exs a es) = PutsOrder u y a × PutsEach y es

  puts-each : (y : Text) (es : Exs) → (u y ≡ true → are_fixed u es ≡ true) → AllOrdered u es false → PutsEach y es
  puts-each y no_exs k h = tt
  puts-each y (more_exs a es) k h = (
    record { kept = h.0; fixed = λ q. and-left (is_fixed u a) (are_fixed u es) (k q) },
    puts-each y es (λ q. and-right (is_fixed u a) (are_fixed u es) (k q)) h.1,
  )

  -- ---- folds

  pub nothing : (e : Ex) → Ordered u e → Answered (fold_nothing e)
  nothing (fun1 true Fun.And (node_ex false matrix_literal no_exs)) h = (refl, tt)
  nothing (fun1 true Fun.Or (node_ex false matrix_literal no_exs)) h = (refl, tt)
  nothing (fun1 false Fun.Sum (node_ex false matrix_literal no_exs)) h = (refl, tt)
  nothing (fun1 false Fun.Product (node_ex false matrix_literal no_exs)) h = (refl, tt)
  nothing _ h = tt

  pub one-item : (e : Ex) → Ordered u e → Answered (fold_one e)
  one-item (fun1 true Fun.And (node_ex false matrix_literal (more_exs a no_exs))) h = h.0.0
  one-item (fun1 true Fun.Or (node_ex false matrix_literal (more_exs a no_exs))) h = h.0.0
  one-item (fun1 false Fun.Sum (node_ex false matrix_literal (more_exs a no_exs))) h = h.0.0
  one-item (fun1 false Fun.Product (node_ex false matrix_literal (more_exs a no_exs))) h = h.0.0
  one-item _ h = tt

  pub bare : (e : Ex) → Ordered u e → Answered (fold_bare e)
  bare (fun1 true Fun.And (comp_ex e no_gens)) h = h.0.0
  bare (fun1 true Fun.Or (comp_ex e no_gens)) h = h.0.0
  bare (fun1 false Fun.Sum (comp_ex e no_gens)) h = h.0.0
  bare (fun1 false Fun.Product (comp_ex e no_gens)) h = h.0.0
  bare _ h = tt

  pub alone : (e : Ex) → Ordered u e → Answered (fold_alone e)
  alone (fun1 true Fun.And (comp_ex e (cond c no_gens))) h = (refl, (h.0.1.0, (h.0.0, tt)))
  alone (fun1 true Fun.Or (comp_ex e (cond c no_gens))) h = (refl, (h.0.1.0, (h.0.0, tt)))
  alone _ h = tt

  pub term : (x : Text) (e : Ex) → Ordered u e → Answered (fold_term x e)
  term x (fun1 b f l) h = go (is_fold f) (is_laid_open l) refl
    where
      go : (c d : Bool) → is_fold f ≡ c → Answered (if c then (if d then None else Some (fun1 b f (comp_ex (name_ex x)
          (from (name_pat x) l no_gens)))) else None)
      go true true q = tt
      go true false q = worded u b f (comp_ex (name_ex x) (from (name_pat x) l no_gens)) (fold-forgets f q)
          ((refl, tt), (of-word u (forgets_order (word f)) l h, tt))
      go false d q = tt
  term x _ h = tt

  pub loosely : (e : Ex) → Ordered u e → Answered (fold_loosely e)
  loosely (fun1 true Fun.And (comp_ex e (from p (fun1 false Fun.ToSet s) hs))) h = (refl, ((h.0.0, (h.0.1.0.0, h.0.1.1)), tt))
  loosely (fun1 true Fun.Or (comp_ex e (from p (fun1 false Fun.ToSet s) hs))) h = (refl, ((h.0.0, (h.0.1.0.0, h.0.1.1)), tt))
  loosely _ h = tt

  -- ---- generators

  -- A comprehension with a term for a name.
  pub put-comp : (y : Text) (t e : Ex) (ks hs : Gens) → PutsOrder u y t → GensOrdered u ks → InOrder u e → GensOrdered u hs →
      Ordered u (comp_ex (substitute (for_name y t) e) (append_gens ks (substitute_gens (for_name y t) hs)))
  put-comp y t e ks hs p g k l =
      (put-kept u y t p e k, append-order u ks (substitute_gens (for_name y t) hs) g (put-gens-order u y t p hs l))

  each-item : (m : Bool) (f : Fun) (y : Text) (e : Ex) (hs : Gens) (es : Exs) → forgets_order (word f) ≡ true → PutsEach y es → InOrder u
      e →
      GensOrdered u hs → AllOrdered u (each_fold m f y e hs es) false
  each-item m f y e hs no_exs q p k l = tt
  each-item m f y e hs (more_exs a es) q p k l = (
    worded u m f (comp_ex (substitute (for_name y a) e) (substitute_gens (for_name y a) hs)) q (put-comp y a e no_gens hs p.0 tt k l),
    each-item m f y e hs es q p.1 k l,
  )

  marked : (c : Bool) (b : Bool) (f : Fun) (es : Exs) → is_marked b f ≡ c → (forgets_order (word f) ≡ true → AllOrdered u es false) →
      Answered (if c then Some (fun1 b f (node_ex false matrix_literal es)) else None)
  marked true b f es q h = worded u b f (node_ex false matrix_literal es) (marked-forgets b f q) (h (marked-forgets b f q))
  marked false b f es q h = tt

  pub literal-items : (e : Ex) → GivenIn u e → Ordered u e → Answered (fold_items e)
  literal-items (fun1 b f (comp_ex e (from (name_pat y) (node_ex false matrix_literal es) hs))) g h =
      let k = of-word u (forgets_order (word f)) (comp_ex e (from (name_pat y) (node_ex false matrix_literal es) hs)) h in
      marked (is_marked b f) b f (each_fold b f y e hs es) refl
      (λ q. each-item b f y e hs es q (puts-each y es (drawn (u y) (are_fixed u es) g.0.1.0) k.1.0) k.0 k.1.1)
  literal-items (fun1 b f (comp_ex e (from (name_pat y) (node_ex false mset_literal es) hs))) g h =
      let k = of-word u (forgets_order (word f)) (comp_ex e (from (name_pat y) (node_ex false mset_literal es) hs)) h in
      marked (is_marked b f) b f (each_fold b f y e hs es) refl
      (λ q. each-item b f y e hs es q (puts-each y es (drawn (u y) (are_fixed u es) g.0.1.0) k.1.0) k.0 k.1.1)
  literal-items _ g h = tt

  each-put-order : (m : Bool) (f : Fun) (y : Text) (e : Ex) (hs : Gens) (l : List Alternative) → forgets_order (word f) ≡ true →
      AllAlternatives u l → PutsAll y l → InOrder u e → GensOrdered u hs → AllOrdered u (each_put m f y e hs l) false
  each-put-order m f y e hs [] q h p k j = tt
  each-put-order m f y e hs (a ∷ l) q h p k j = (
    worded u m f (put_listed y e hs a) q (put-comp y a.item e a.gens hs p.0 h.0.1 k j),
    each-put-order m f y e hs l q h.1 p.1 k j,
  )

  -- The alternatives of a source.
  pub in-parts : (b : Bool) (f : Fun) (y : Text) (e t : Ex) (hs : Gens) (r : Option (List Alternative)) → SomeAlternatives u r →
      PutsSome y r → InOrder u e → GensOrdered u hs →
      Answered (and_then r (λ l. source_parts l (fun1 b f (comp_ex e (from (name_pat y) t hs)))))
  in-parts b f y e t hs None h p k j = tt
  in-parts b f y e t hs (Some l) h p k j =
      marked (is_marked b f) b f (each_put b f y e hs l) refl (λ q. each-put-order b f y e hs l q h p k j)

  alone-put : (c : Bool) (b : Bool) (f : Fun) (e : Ex) → forgets_order (word f) ≡ c → Ordered u e →
      Answered (if c then Some (fun1 b f e) else None)
  alone-put true b f e q h = worded u b f e q h
  alone-put false b f e q h = tt

  pub in-one-part : (b : Bool) (f : Fun) (y : Text) (e t : Ex) (hs : Gens) (r : Option (List Alternative)) → SomeAlternatives u r →
      PutsSome y r → InOrder u e → GensOrdered u hs →
      Answered (and_then (only_one r) (λ a. source_alone a (fun1 b f (comp_ex e (from (name_pat y) t hs)))))
  in-one-part b f y e t hs None h p k j = tt
  in-one-part b f y e t hs (Some []) h p k j = tt
  in-one-part b f y e t hs (Some (a ∷ [])) h p k j =
      alone-put (forgets_order (word f)) b f (put_listed y e hs a) refl (put-comp y a.item e a.gens hs p.0 h.0.1 k j)
  in-one-part b f y e t hs (Some (a ∷ c ∷ l)) h p k j = tt

  pub spliced : (e : Ex) → GivenIn u e → Ordered u e → AnsweredFor e (splice e)
  spliced (comp_ex e (from (name_pat y) (comp_ex k ks) hs)) g h = (
    λ q. append-in u ks (substitute_gens (for_name y k) hs) (and-left (gens_in_order u ks) (gens_in_order u hs) q)
        (put-gens-in u y k p hs (and-right (gens_in_order u ks) (gens_in_order u hs) q)),
    put-comp y k e ks hs p h.1.0.1 h.0 h.1.1,
  )
    where
      p : PutsOrder u y k
      p = record {
        kept = h.1.0.0;
        fixed = λ q. and-left (is_fixed u k) (are_fixed_gens u ks) (drawn (u y) (is_fixed u (comp_ex k ks)) g.1.0 q);
      }
  spliced _ g h = tt

  each-over-order : (ps : Pats) (ds : Doms) (hs : Gens) → GensOrdered u hs → GensOrdered u (each_over ps ds hs)
  each-over-order (more_pats p ps) (more_doms d ds) hs h = each-over-order ps ds hs h
  each-over-order no_pats ds hs h = h
  each-over-order (more_pats p ps) no_doms hs h = h

  each-over-in : (ps : Pats) (ds : Doms) (hs : Gens) → gens_in_order u hs ≡ true → gens_in_order u (each_over ps ds hs) ≡ true
  each-over-in (more_pats p ps) (more_doms d ds) hs h = each-over-in ps ds hs h
  each-over-in no_pats ds hs h = h
  each-over-in (more_pats p ps) no_doms hs h = h

  pub splits : (e : Ex) → Ordered u e → AnsweredFor e (split e)
  splits (comp_ex e (over (tuple_pat ps) (tuple_dom ds) hs)) h =
      when-for (comp_ex e (over (tuple_pat ps) (tuple_dom ds) hs)) (as_many ps ds) (comp_ex e (each_over ps ds hs)) (each-over-in ps ds hs)
      (h.0, each-over-order ps ds hs h.1)
  splits _ h = tt

  names-kept : (ys : List Text) → AllOrdered u (named_exs ys) false
  names-kept [] = tt
  names-kept (y ∷ ys) = ((refl, tt), names-kept ys)

  pub tuple-name : (ys : List Text) (e : Ex) → Ordered u e → AnsweredFor e (name_over_tuple ys e)
  tuple-name ys (comp_ex e (over (name_pat x) (tuple_dom ds) hs)) h =
      when-for (comp_ex e (over (name_pat x) (tuple_dom ds) hs)) (are_names ys ds) (comp_ex e (from (name_pat x) (tuples_over ys ds) hs))
      (λ q. q) (h.0, (((refl, names-kept ys), tt), h.1))
  tuple-name ys _ h = tt

  pub record-name : (ys : List Text) (e : Ex) → Ordered u e → AnsweredFor e (name_over_record ys e)
  record-name ys (comp_ex e (over (name_pat x) (record_dom fs ds) hs)) h =
      when-for (comp_ex e (over (name_pat x) (record_dom fs ds) hs)) (are_names ys ds && are_in_order fs ds)
      (comp_ex e (from (name_pat x) (records_over fs ys ds) hs)) (λ q. q) (h.0, (((refl, names-kept ys), tt), h.1))
  record-name ys _ h = tt
