-- Where terms get conditions, what is given is given at its place, and comprehensions are in order there.
use Rattle.std.proofs.Common.{◌≡◌, refl, sym, ◌∙◌, Bool, true, false, ◌&&◌, ◌||◌, not, if◌then◌else◌, List, [], ◌∷◌, ◌++◌}
use Rattle.ess_semantics.specs.Values.{Text}
use Rattle.ess_semantics.specs.Names.{Names}
use Rattle.ess_semantics.specs.Trees.{Op, Pat, Ex, Exs, number_ex, truth_ex, name_ex, node_ex, matrix_ex, comp_ex, cell_ex, seen_ex, no_exs, more_exs, Gens, no_gens, over, from, cond}
use Rattle.ess_semantics.specs.ExpressionJudgements.{forgets_order}
use Rattle.ess_semantics.proofs.Tests.{and-both}
use Rattle.ess_guard_laws.specs.Origins.{Origin, with_any, with_over, known_behind}
use Rattle.ess_guard_laws.specs.Conditions.{chained, matrix_conditions, own}
use Rattle.ess_guard_laws.specs.Guard.{is_plain, connects, own_at, opens, passes, guarded, guarded_all, guarded_gens, guarded_dom, conditions, conditions_all, conditions_gens, conditions_dom}
use Rattle.ess_given_laws.specs.PartsHave.{AllHave, GensHave}
use Rattle.ess_given_laws.specs.Given.{none_bound, is_fixed, given, GivenIn}
use Rattle.ess_given_laws.proofs.FixedTrees.{both-so}
use Rattle.ess_given_conditions_laws.specs.InScope.{bound_as, is_fixed_in, fixed_behind, is_dom_fixed_in, is_given_in, are_given_in, are_gens_given_in}
use Rattle.ess_given_conditions_laws.proofs.ScopedGiven.{Within, within-bound, within-drawn, given-scoped}
use Rattle.ess_given_order_laws.specs.InOrder.{in_order, gens_in_order, Ordered, AllOrdered, GensOrdered}
use Rattle.ess_given_order_laws.specs.OrderInScope.{is_in_order_in, are_gens_in_order_in, is_ordered_in, are_ordered_in, are_gens_ordered_in}
use Rattle.ess_given_guard_laws.proofs.OwnConditions.{ListHas, has-append, chained-has, given-has, matrix-has, Operands, own-has}
use Rattle.ess_given_guard_laws.proofs.BuildsFixed.{DF}
use Rattle.ess_given_guard_laws.proofs.GuardFixed.{guard-fixed, guard-dom, dom-conditions}
use Rattle.ess_given_guard_laws.proofs.OrderScoped.{order-scoped}
use Rattle.ess_given_guard_laws.proofs.BuildsGiven.{R, K, given-each, loose-each, list-fixed, builds-given, every-over-given, every-from-given}

module _ (u : Text → Bool) (natural : Bool) (x y : Text) where
  -- ---- nodes and cells

  chain : (s : Text → Bool) → Within u s → (cs : List Ex) (b : Ex) → ListHas (K u s) cs → K u s b → K u s (chained cs b)
  chain s f cs b h k = chained-has u (K u s) (R u s) (DF u s) (builds-given u s f) cs b h k

  node-given : (c b : Bool) (op : Op) (es : Exs) (s : Text → Bool) (cs : List Ex) → Within u s → ListHas (K u s) cs →
      are_given_in u s es ≡ true → are_ordered_in u s es (forgets_order op) ≡ true →
      R u s (if c then chained cs (node_ex true op es) else node_ex b op es)
  node-given true b op es s cs f h i o = (chain s f cs (node_ex true op es) h ((i, o), refl)).0
  node-given false b op es s cs f h i o = (i, o)

  cell-given : (b : Bool) (n : Text) (es : Exs) (s : Text → Bool) (cs : List Ex) → Within u s → ListHas (K u s) cs →
      are_given_in u s es ≡ true → are_ordered_in u s es false ≡ true →
      R u s (if b then chained cs (cell_ex true n es) else cell_ex false n es)
  cell-given true n es s cs f h i o = (chain s f cs (cell_ex true n es) h ((i, o), refl)).0
  cell-given false n es s cs f h i o = (i, o)

  node-place : (c b : Bool) (op : Op) (es : Exs) (s : Text → Bool) (cs : List Ex) →
      is_in_order_in u s (if c then chained cs (node_ex true op es) else node_ex b op es) ≡ true
  node-place true b op es s [] = refl
  node-place true b op es s (c ∷ cs) = refl
  node-place false b op es s cs = refl

  cell-place : (b : Bool) (n : Text) (es : Exs) (s : Text → Bool) (cs : List Ex) →
      is_in_order_in u s (if b then chained cs (cell_ex true n es) else cell_ex false n es) ≡ true
  cell-place true n es s [] = refl
  cell-place true n es s (c ∷ cs) = refl
  cell-place false n es s cs = refl

  operands-of : (s : Text → Bool) (f : Within u s) (c : Bool) (es : Exs) → are_given_in u s es ≡ true →
      are_ordered_in u s es c ≡ true → Operands u (K u s) (R u s) (DF u s) (builds-given u s f) c es
  operands-of s f true es i o = loose-each u es s i o
  operands-of s f false es i o = given-each u es s i o

  own-given : (k : Names Origin) (c : Bool) (op : Op) (es : Exs) (s : Text → Bool) → Within u s → are_given_in u s es ≡ true →
      are_ordered_in u s es (forgets_order op) ≡ true → ListHas (K u s) (own_at natural x y k c op es)
  own-given k c op es s f i o = go (c && is_plain op)
    where
      go : (b : Bool) → ListHas (K u s) (if b then [] else own k x y op es)
      go true = tt
      go false = own-has u (K u s) (R u s) (DF u s) (builds-given u s f) k x y op es (operands-of s f (forgets_order op) es i o)

  unless-so : (s : Text → Bool) (c : Bool) (cs : List Ex) → ListHas (K u s) cs → ListHas (K u s) (if c then [] else cs)
  unless-so s true cs h = tt
  unless-so s false cs h = h

  -- ---- scopes

  none-where : (n f b : Bool) → n || f ≡ true → (f ≡ true → b ≡ true) → b ≡ false → n ≡ true
  none-where true f b h k q = refl
  none-where false true b h k q = let r : true ≡ false = sym (k refl) ∙ q in cc
  none-where false false b h k q = cc

  -- Behind a generator over a term that has conditions now.
  source-within : (p : Pat) (e : Ex) (s : Text → Bool) (k : Names Origin) → Within u s → none_bound u p || is_fixed u e ≡ true →
      Within u (bound_as (is_fixed_in u s (guarded natural x y k e)) p s)
  source-within p e s k f h = let b = is_fixed_in u s (guarded natural x y k e) in
      within-drawn u b p s (none-where (none_bound u p) (is_fixed u e) b h (guard-fixed u natural x y e s k f)) f

  gens-within : (gs : Gens) (s : Text → Bool) (k : Names Origin) → Within u s → GensHave (given u) gs →
      Within u (fixed_behind u s (guarded_gens natural x y k gs))
  gens-within no_gens s k f h = f
  gens-within (over p d gs) s k f h = gens-within gs (bound_as true p s) (with_over p d k) (within-bound u p s f) h.2
  gens-within (from p e gs) s k f h = gens-within gs (bound_as (is_fixed_in u s (guarded natural x y k e)) p s) (with_any p k)
      (source-within p e s k f h.0) h.2
  gens-within (cond c gs) s k f h = gens-within gs s k f h.1

  -- ---- the own place

  mutual
    guard-place : (e : Ex) (s : Text → Bool) (k : Names Origin) → Within u s → GivenIn u e → in_order u e ≡ true →
        is_in_order_in u s (guarded natural x y k e) ≡ true
    guard-place (comp_ex e gs) s k f i h = gens-place gs s k f i.1 h
    guard-place (number_ex n) s k f i h = refl
    guard-place (truth_ex b) s k f i h = refl
    guard-place (name_ex a) s k f i h = refl
    guard-place (node_ex b op es) s k f i h = let w = opens natural x y op in
        node-place (b && not (connects op)) b op (guarded_all natural x y k es) s (conditions_all natural x y k w es
        ++ own_at natural x y k false op (guarded_all natural x y k es))
    guard-place (matrix_ex es d) s k f i h = refl
    guard-place (cell_ex b n es) s k f i h = cell-place b n (guarded_all natural x y k es) s (conditions_all natural x y k false es)
    guard-place (seen_ex r d ns es) s k f i h = refl

    gens-place : (gs : Gens) (s : Text → Bool) (k : Names Origin) → Within u s → GensHave (given u) gs → gens_in_order u gs ≡ true →
        are_gens_in_order_in u s (guarded_gens natural x y k gs) ≡ true
    gens-place no_gens s k f i h = refl
    gens-place (over p d gs) s k f i h = gens-place gs (bound_as true p s) (with_over p d k) (within-bound u p s f) i.2 h
    gens-place (from p e gs) s k f i h = let t = bound_as (is_fixed_in u s (guarded natural x y k e)) p s in
        both-so (in_order u e) (gens_in_order u gs) (is_in_order_in u s (guarded natural x y k e))
        (are_gens_in_order_in u t (guarded_gens natural x y (with_any p k) gs)) (guard-place e s k f i.1)
        (gens-place gs t (with_any p k) (source-within p e s k f i.0) i.2) h
    gens-place (cond c gs) s k f i h = both-so (is_fixed u c) (gens_in_order u gs) (is_fixed_in u s (guarded natural x y k c))
        (are_gens_in_order_in u s (guarded_gens natural x y k gs)) (guard-fixed u natural x y c s k f) (gens-place gs s k f i.1) h

  -- ---- trees

  mutual
    -- A tree in which what is given is given, and comprehensions are in order.
    pub guard-given : (e : Ex) (s : Text → Bool) (k : Names Origin) → Within u s → GivenIn u e → Ordered u e →
        R u s (guarded natural x y k e)
    guard-given (number_ex n) s k f i h = (refl, refl)
    guard-given (truth_ex b) s k f i h = (refl, refl)
    guard-given (name_ex a) s k f i h = (refl, refl)
    guard-given (node_ex b op es) s k f i h =
        let w = opens natural x y op in let all = guard-all es (forgets_order op) s k f i h in
        node-given (b && not (connects op)) b op (guarded_all natural x y k es) s _ f
        (has-append (K u s) (conditions_all natural x y k w es)
        (own_at natural x y k false op (guarded_all natural x y k es))
        (all-conditions es (forgets_order op) s k w f i h)
        (own-given k false op (guarded_all natural x y k es) s f all.0 all.1)) all.0 all.1
    guard-given (matrix_ex es d) s k f i h = let all = guard-all es false s k f i.0 h in (
      and-both (are_given_in u s (guarded_all natural x y k es)) (is_dom_fixed_in u s (guarded_dom natural x y k d)) all.0
          (guard-dom u natural x y d s k f i.1),
      all.1,
    )
    guard-given (comp_ex e gs) s k f i h =
        let j = known_behind gs k in let gs' = guarded_gens natural x y k gs in let e' = guarded natural x y j e in
        let t = fixed_behind u s gs' in let w = gens-within gs s k f i.1 in
        let a = guard-gens gs s k f i.1 h.1 in let b = guard-given e t j w i.0 h.0.1 in (
          and-both (are_gens_given_in u s gs') (is_given_in u t e') a.0 b.0,
          and-both (are_gens_ordered_in u s gs') (is_in_order_in u t e' && is_ordered_in u t e') a.1
              (and-both (is_in_order_in u t e') (is_ordered_in u t e') (guard-place e t j w i.0 h.0.0) b.1),
        )
    guard-given (cell_ex b n es) s k f i h = let all = guard-all es false s k f i.1 h in
        cell-given b n (guarded_all natural x y k es) s (conditions_all natural x y k false es) f
        (all-conditions es false s k false f i.1 h) all.0 all.1
    guard-given (seen_ex r d ns es) s k f i h = (given-scoped u (seen_ex r d ns es) s f i, order-scoped u (seen_ex r d ns es) s f i h)

    guard-all : (es : Exs) (c : Bool) (s : Text → Bool) (k : Names Origin) → Within u s → AllHave (given u) es → AllOrdered u es c →
        (are_given_in u s (guarded_all natural x y k es) ≡ true) × (are_ordered_in u s (guarded_all natural x y k es) c ≡ true)
    guard-all no_exs c s k f i h = (refl, refl)
    guard-all (more_exs e es) true s k f i h =
        let e' = guarded natural x y k e in let es' = guarded_all natural x y k es in
        let a = guard-given e s k f i.0 h.0 in let b = guard-all es true s k f i.1 h.1 in (
          and-both (is_given_in u s e') (are_given_in u s es') a.0 b.0,
          and-both (is_ordered_in u s e') (are_ordered_in u s es' true) a.1 b.1,
        )
    guard-all (more_exs e es) false s k f i h =
        let e' = guarded natural x y k e in let es' = guarded_all natural x y k es in
        let a = guard-given e s k f i.0 h.0.1 in let b = guard-all es false s k f i.1 h.1 in (
          and-both (is_given_in u s e') (are_given_in u s es') a.0 b.0,
          and-both (is_in_order_in u s e' && is_ordered_in u s e') (are_ordered_in u s es' false)
              (and-both (is_in_order_in u s e') (is_ordered_in u s e') (guard-place e s k f i.0 h.0.0) a.1) b.1,
        )

    guard-gens : (gs : Gens) (s : Text → Bool) (k : Names Origin) → Within u s → GensHave (given u) gs → GensOrdered u gs →
        (are_gens_given_in u s (guarded_gens natural x y k gs) ≡ true) × (are_gens_ordered_in u s (guarded_gens natural x y k gs) ≡ true)
    guard-gens no_gens s k f i h = (refl, refl)
    guard-gens (over p d gs) s k f i h = let t = bound_as true p s in let j = with_over p d k in
        let r = guard-gens gs t j (within-bound u p s f) i.2 h in (
          and-both (is_dom_fixed_in u s (guarded_dom natural x y k d)) (are_gens_given_in u t (guarded_gens natural x y j gs))
              (guard-dom u natural x y d s k f i.1) r.0,
          r.1,
        )
    guard-gens (from p e gs) s k f i h =
        let e' = guarded natural x y k e in let t = bound_as (is_fixed_in u s e') p s in let j = with_any p k in
        let a = guard-given e s k f i.1 h.0 in let r = guard-gens gs t j (source-within p e s k f i.0) i.2 h.1 in (
          and-both (is_given_in u s e') (are_gens_given_in u t (guarded_gens natural x y j gs)) a.0 r.0,
          and-both (is_ordered_in u s e') (are_gens_ordered_in u t (guarded_gens natural x y j gs)) a.1 r.1,
        )
    guard-gens (cond c gs) s k f i h =
        let c' = guarded natural x y k c in let gs' = guarded_gens natural x y k gs in
        let a = guard-given c s k f i.0 h.0.1 in let r = guard-gens gs s k f i.1 h.1 in (
          and-both (is_given_in u s c') (are_gens_given_in u s gs') a.0 r.0,
          and-both (is_in_order_in u s c' && is_ordered_in u s c') (are_gens_ordered_in u s gs')
              (and-both (is_in_order_in u s c') (is_ordered_in u s c') (guard-place c s k f i.0 h.0.0) a.1) r.1,
        )

    -- ---- conditions

    given-conditions : (e : Ex) (s : Text → Bool) (k : Names Origin) (c : Bool) → Within u s → GivenIn u e → Ordered u e →
        ListHas (K u s) (conditions natural x y k c e)
    given-conditions (number_ex n) s k c f i h = tt
    given-conditions (truth_ex b) s k c f i h = tt
    given-conditions (name_ex a) s k c f i h = tt
    given-conditions (node_ex b op es) s k c f i h =
        let w = passes natural x y c op in let all = guard-all es (forgets_order op) s k f i h in
        unless-so s (b || connects op) _ (has-append (K u s) (conditions_all natural x y k w es)
        (own_at natural x y k c op (guarded_all natural x y k es)) (all-conditions es (forgets_order op) s k w f i h)
        (own-given k c op (guarded_all natural x y k es) s f all.0 all.1))
    given-conditions (matrix_ex es d) s k c f i h =
        has-append (K u s) (conditions_all natural x y k false es) _ (all-conditions es false s k false f i.0 h)
        (has-append (K u s) (conditions_dom natural x y k d) (matrix_conditions x es (guarded_dom natural x y k d))
        (list-fixed u s (conditions_dom natural x y k d) (dom-conditions u natural x y d s k f i.1))
        (matrix-has u (K u s) (R u s) (DF u s) (builds-given u s f) x es (guarded_dom natural x y k d)
        (guard-dom u natural x y d s k f i.1)))
    given-conditions (comp_ex e gs) s k c f i h = gens-conditions gs s k _ f i.1 h.1
        (given-conditions e (fixed_behind u s (guarded_gens natural x y k gs)) (known_behind gs k) false (gens-within gs s k f i.1)
        i.0 h.0.1)
    given-conditions (cell_ex b n es) s k c f i h =
        unless-so s b (conditions_all natural x y k false es) (all-conditions es false s k false f i.1 h)
    given-conditions (seen_ex r d ns es) s k c f i h = tt

    all-conditions : (es : Exs) (o : Bool) (s : Text → Bool) (k : Names Origin) (c : Bool) → Within u s → AllHave (given u) es →
        AllOrdered u es o → ListHas (K u s) (conditions_all natural x y k c es)
    all-conditions no_exs o s k c f i h = tt
    all-conditions (more_exs e es) true s k c f i h =
        has-append (K u s) (conditions natural x y k c e) (conditions_all natural x y k c es) (given-conditions e s k c f i.0 h.0)
        (all-conditions es true s k c f i.1 h.1)
    all-conditions (more_exs e es) false s k c f i h =
        has-append (K u s) (conditions natural x y k c e) (conditions_all natural x y k c es) (given-conditions e s k c f i.0 h.0.1)
        (all-conditions es false s k c f i.1 h.1)

    gens-conditions : (gs : Gens) (s : Text → Bool) (k : Names Origin) (cs : List Ex) → Within u s → GensHave (given u) gs →
        GensOrdered u gs → ListHas (K u (fixed_behind u s (guarded_gens natural x y k gs))) cs →
        ListHas (K u s) (conditions_gens natural x y k gs cs)
    gens-conditions no_gens s k cs f i h j = j
    gens-conditions (over p d gs) s k cs f i h j = let t = bound_as true p s in
        has-append (K u s) (conditions_dom natural x y k d) _
        (list-fixed u s (conditions_dom natural x y k d) (dom-conditions u natural x y d s k f i.1))
        (every-over-given u p (guarded_dom natural x y k d) s _ f (guard-dom u natural x y d s k f i.1)
        (gens-conditions gs t (with_over p d k) cs (within-bound u p s f) i.2 h j))
    gens-conditions (from p e gs) s k cs f i h j =
        let t = bound_as (is_fixed_in u s (guarded natural x y k e)) p s in let w = source-within p e s k f i.0 in
        has-append (K u s) (conditions natural x y k false e) _ (given-conditions e s k false f i.1 h.0)
        (every-from-given u p (guarded natural x y k e) s _ (guard-given e s k f i.1 h.0) w
        (gens-conditions gs t (with_any p k) cs w i.2 h.1 j))
    gens-conditions (cond c gs) s k cs f i h j =
        given-has u (K u s) (R u s) (DF u s) (builds-given u s f) (guarded natural x y k c) (conditions_gens natural x y k gs cs)
        (guard-given c s k f i.0 h.0.1, guard-place c s k f i.0 h.0.0) (gens-conditions gs s k cs f i.1 h.1 j)
