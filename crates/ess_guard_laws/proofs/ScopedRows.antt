-- Where operands are in scope an operator's own conditions are.
use Rattle.std.proofs.Common.{◌≡◌, refl, ap, ◌∙◌, Bool, true, false, ◌||◌, not, if◌then◌else◌, List, [], ◌∷◌, ◌++◌, Option, Some, None}
use Rattle.ess_semantics.specs.declared.words.Op1.{Op1}
use Rattle.ess_semantics.specs.declared.words.Op2.{Op2}
use Rattle.ess_semantics.specs.declared.words.Fun.{Fun}
use Rattle.ess_semantics.specs.Values.{Text}
use Rattle.ess_semantics.specs.Order.{same_text}
use Rattle.ess_semantics.specs.Names.{Names}
use Rattle.ess_semantics.specs.Trees.{Step, by_value, to_component, to_field, Op, unary, binary, word, index, tuple_literal, matrix_literal, function_literal, partition_literal, both_ends, Pat, name_pat, Ex, Exs, number_ex, truth_ex, name_ex, node_ex, matrix_ex, comp_ex, cell_ex, seen_ex, no_exs, more_exs, Gens, no_gens, over, from, cond, Dom, bool_dom, int_dom, name_dom, matrix_dom, more_doms, ex2, fun1}
use Rattle.ess_semantics.specs.Substitution.{NamesAre, NamesAreExs, NamesAreDom}
use Rattle.ess_semantics.specs.Scoped.{BindsNew, with_names, Scoped, ScopedExs, ScopedGens, ScopedDom}
use Rattle.ess_semantics.specs.Constants.{operand_count}
use Rattle.ess_semantics.proofs.Texts.{same_text-itself}
use Rattle.ess_semantics.proofs.Tests.{and-left, and-right, or-yes}
use Rattle.ess_guard_laws.specs.Origins.{Origin, is_number, is_sure}
use Rattle.ess_guard_laws.specs.IndexDomains.{item_dom, dom_behind, dom_followed, first_index, is_plain_bound, are_plain_bounds, plain_axis, index_dom}
use Rattle.ess_guard_laws.specs.Conditions.{conds, chained, summed, all_of, every, given_that, unless, nil_ex, as_number, is_not_zero, is_above_zero, power_conditions, has_items, has_item, some_item, is_argument, agree, have_other_arguments, agree_all, function_conditions, have_members, are_disjoint, is_single_set, partition_conditions, has_size, matrix_conditions, in_dom, at_step, index_conditions, path_conditions, own}

-- The names of the domains of declarations are in scope.
abbrev pub Within : (Text → Bool) → (Text → Bool) → Type 0
Within z s = (a : Text) → z a ≡ true → s a ≡ true

-- Neither reserved name is in scope.
abbrev pub Clear : Text → Text → (Text → Bool) → Type 0
Clear x y s = (s x ≡ false) × (s y ≡ false)

module _ (z : Text → Bool) where
  -- Each condition is in scope.
  abbrev pub EachScoped : (Text → Bool) → (Text → Bool) → List Ex → Type 0
  EachScoped s o [] = Unit {0}
  EachScoped s o (c ∷ cs) = Scoped z s o c × EachScoped s o cs

  -- Both lists are.
  pub scoped-append : (s o : Text → Bool) (cs ds : List Ex) → EachScoped s o cs → EachScoped s o ds → EachScoped s o (cs ++ ds)
  scoped-append s o [] ds p q = q
  scoped-append s o (c ∷ cs) ds p q = (p.0, scoped-append s o cs ds p.1 q)

  -- One condition, or none.
  pub scoped-unless : (s o : Text → Bool) (t : Bool) (c : Ex) → Scoped z s o c → EachScoped s o (unless t c)
  scoped-unless s o true c p = tt
  scoped-unless s o false c p = (p, tt)

  -- Conditions that are asked, or none.
  pub scoped-choose : (s o : Text → Bool) (t : Bool) (cs : List Ex) → EachScoped s o cs → EachScoped s o (if t then [] else cs)
  scoped-choose s o true cs p = tt
  scoped-choose s o false cs p = p

  -- ---- what is built of conditions

  conds-scoped : (s o : Text → Bool) (cs : List Ex) (b : Ex) → EachScoped s o cs → Scoped z s o b →
      ScopedGens z s o (conds cs) (λ t p. Scoped z t p b)
  conds-scoped s o [] b p q = q
  conds-scoped s o (c ∷ cs) b p q = (p.0, conds-scoped s o cs b p.1 q)

  -- A Boolean under conditions.
  pub chained-scoped : (s o : Text → Bool) (cs : List Ex) (b : Ex) → EachScoped s o cs → Scoped z s o b → Scoped z s o (chained cs b)
  chained-scoped s o [] b p q = q
  chained-scoped s o (c ∷ cs) b p q = (conds-scoped s o (c ∷ cs) b p q, tt)

  -- A number under conditions.
  pub summed-scoped : (s o : Text → Bool) (cs : List Ex) (b : Ex) → EachScoped s o cs → Scoped z s o b → Scoped z s o (summed cs b)
  summed-scoped s o [] b p q = q
  summed-scoped s o (c ∷ cs) b p q = (conds-scoped s o (c ∷ cs) b p q, tt)

  -- That all conditions hold.
  pub all-of-scoped : (s o : Text → Bool) (cs : List Ex) → EachScoped s o cs → Scoped z s o (all_of cs)
  all-of-scoped s o [] p = tt
  all-of-scoped s o (c ∷ []) p = p.0
  all-of-scoped s o (c ∷ d ∷ cs) p = chained-scoped s o (c ∷ []) (all_of (d ∷ cs)) (p.0, tt) (all-of-scoped s o (d ∷ cs) p.1)

  -- Conditions at each member of a domain.
  pub over-scoped : (s o : Text → Bool) (p : Pat) (d : Dom) (cs : List Ex) → BindsNew s p → ScopedDom z s o d →
      EachScoped (with_names s p) (with_names o p) cs → EachScoped s o (every (over p d no_gens) cs)
  over-scoped s o p d [] b t q = tt
  over-scoped s o p d (c ∷ cs) b t q = (((b, t, all-of-scoped (with_names s p) (with_names o p) (c ∷ cs) q), tt), tt)

  -- Conditions at each item of a source.
  pub from-scoped : (s o : Text → Bool) (p : Pat) (e : Ex) (cs : List Ex) → BindsNew s p → Scoped z s o e → EachScoped (with_names s p) o cs →
      EachScoped s o (every (from p e no_gens) cs)
  from-scoped s o p e [] b t q = tt
  from-scoped s o p e (c ∷ cs) b t q = (((b, t, all-of-scoped (with_names s p) o (c ∷ cs) q), tt), tt)

  -- Conditions behind another one.
  pub given-scoped : (s o : Text → Bool) (b : Ex) (cs : List Ex) → Scoped z s o b → EachScoped s o cs → EachScoped s o (given_that b cs)
  given-scoped s o b [] p q = tt
  given-scoped s o b (c ∷ cs) p q = ((p, (all-of-scoped s o (c ∷ cs) q, tt)), tt)

  -- What stands behind generators.
  pub gens-scoped-map : (gs : Gens) (s o : Text → Bool) (K L : (Text → Bool) → (Text → Bool) → Type 0) →
      ((t p : Text → Bool) → K t p → L t p) → ScopedGens z s o gs K → ScopedGens z s o gs L
  gens-scoped-map no_gens s o K L f q = f s o q
  gens-scoped-map (over p d gs) s o K L f q = (q.0, q.1, gens-scoped-map gs (with_names s p) (with_names o p) K L f q.2)
  gens-scoped-map (from p e gs) s o K L f q = (q.0, q.1, gens-scoped-map gs (with_names s p) o K L f q.2)
  gens-scoped-map (cond c gs) s o K L f q = (q.0, gens-scoped-map gs s o K L f q.1)

  -- ---- index domains

  -- The names of a domain that may be there are those of declarations.
  abbrev Declared : Option Dom → Type 0
  Declared None = Unit {0}
  Declared (Some d) = NamesAreDom z (λ a. true) d

  item-declared : (o : Option Dom) → Declared o → Declared (item_dom o)
  item-declared (Some (matrix_dom (more_doms i (more_doms j is)) d)) q = (q.0.1, q.1)
  item-declared o q = tt

  behind-declared : (o : Option Dom) (qs : List Step) (is : Exs) → Declared o → Declared (dom_behind o qs is)
  behind-declared o [] no_exs q = q
  behind-declared o (by_value ∷ qs) (more_exs i is) q = behind-declared (item_dom o) qs is (item-declared o q)
  behind-declared o qs is q = tt

  followed-declared : (m : Ex) (s o : Text → Bool) → Scoped z s o m → Declared (dom_followed m)
  followed-declared (seen_ex r d ns es) s o q = q.0
  followed-declared (node_ex false (index qs) (more_exs m is)) s o q = behind-declared (dom_followed m) qs is (followed-declared m s o q.0)
  followed-declared m s o q = tt

  first-declared : (o : Option Dom) → Declared o → Declared (first_index o)
  first-declared (Some (matrix_dom (more_doms i is) d)) q = q.0.0
  first-declared o q = tt

  -- A domain that may be there is in scope.
  abbrev pub DomScoped : (Text → Bool) → (Text → Bool) → Option Dom → Type 0
  DomScoped s o None = Unit {0}
  DomScoped s o (Some d) = ScopedDom z s o d

  module _ (s o : Text → Bool) (w : Within z s) where
    mutual
      bound-scoped : (e : Ex) → is_plain_bound e ≡ true → NamesAre z (λ a. true) e → Scoped z s o e
      bound-scoped (number_ex n) t q = tt
      bound-scoped (name_ex a) t q = w a q
      bound-scoped (cell_ex b n es) t q = bounds-scoped es t q
      bound-scoped (node_ex false (unary Op1.Minus) es) t q = bounds-scoped es t q
      bound-scoped (node_ex false (binary Op2.Plus) es) t q = bounds-scoped es t q
      bound-scoped (node_ex false (binary Op2.Minus) es) t q = bounds-scoped es t q
      bound-scoped (node_ex false (binary Op2.Times) es) t q = bounds-scoped es t q
      bound-scoped e t q = cc

      bounds-scoped : (es : Exs) → are_plain_bounds es ≡ true → NamesAreExs z (λ a. true) es → ScopedExs z s o es
      bounds-scoped no_exs t q = tt
      bounds-scoped (more_exs e es) t q = (
        bound-scoped e (and-left (is_plain_bound e) (are_plain_bounds es) t) q.0,
        bounds-scoped es (and-right (is_plain_bound e) (are_plain_bounds es) t) q.1,
      )

    plain-scoped : (d : Option Dom) → Declared d → DomScoped s o (plain_axis d)
    plain-scoped (Some bool_dom) q = tt
    plain-scoped (Some (int_dom rs es)) q = go (are_plain_bounds es) refl
      where
        go : (t : Bool) → are_plain_bounds es ≡ t → DomScoped s o (if t then Some (int_dom rs es) else None)
        go true t = bounds-scoped es t q
        go false t = tt
    plain-scoped (Some (name_dom a)) q = tt
    plain-scoped d q = tt

    -- The index domain of a term.
    pub index-dom-scoped : (m : Ex) → Scoped z s o m → DomScoped s o (index_dom m)
    index-dom-scoped (node_ex false matrix_literal es) q = (tt, (tt, tt))
    index-dom-scoped (matrix_ex es d) q = q.1
    index-dom-scoped (comp_ex e gs) q = (tt, ((gens-scoped-map gs s o _ _ (λ t p k. tt) q, tt), tt))
    index-dom-scoped m q = plain-scoped (first_index (dom_followed m)) (first-declared (dom_followed m) (followed-declared m s o q))

  -- ---- rows

  module _ (x y : Text) (differ : same_text y x ≡ false) (s o : Text → Bool) (clear : Clear x y s) (w : Within z s) where
    number-scoped : (k : Names Origin) (b : Ex) → Scoped z s o b → Scoped z s o (as_number k b)
    number-scoped k b q = go (is_number k b)
      where
        go : (t : Bool) → Scoped z s o (if t then b else ex2 false Op2.Plus b nil_ex)
        go true = q
        go false = (q, (tt, tt))

    compare-scoped : (p : Op2) (k : Names Origin) (b : Ex) → Scoped z s o b → Scoped z s o (ex2 true p (as_number k b) nil_ex)
    compare-scoped p k b q = (number-scoped k b q, (tt, tt))

    power-scoped : (k : Names Origin) (a b : Ex) → Scoped z s o a → Scoped z s o b → EachScoped s o (power_conditions k a b)
    power-scoped k a b q r = scoped-choose s o (is_above_zero b) _ (
      compare-scoped Op2.Ge k b r,
      scoped-unless s o (is_not_zero a) _ (compare-scoped Op2.Ne k b r, (compare-scoped Op2.Ne k a q, tt)),
    )

    -- A reserved name may be bound.
    new-first : BindsNew s (name_pat x)
    new-first = ap not clear.0

    new-second : BindsNew s (name_pat y)
    new-second = ap not clear.1

    from-item-scoped : (e : Ex) → Scoped z s o e → Scoped z s o (fun1 true Fun.Or (comp_ex (truth_ex true) (from (name_pat x) e no_gens)))
    from-item-scoped e q = ((new-first, q, tt), tt)

    has-item-scoped : (e : Ex) → Scoped z s o e → Scoped z s o (has_item x e)
    has-item-scoped (comp_ex e gs) q = (gens-scoped-map gs s o _ _ (λ t p k. tt) q, tt)
    has-item-scoped (number_ex n) q = from-item-scoped (number_ex n) q
    has-item-scoped (truth_ex b) q = from-item-scoped (truth_ex b) q
    has-item-scoped (name_ex a) q = from-item-scoped (name_ex a) q
    has-item-scoped (node_ex b op es) q = from-item-scoped (node_ex b op es) q
    has-item-scoped (matrix_ex es d) q = from-item-scoped (matrix_ex es d) q
    has-item-scoped (cell_ex b n es) q = from-item-scoped (cell_ex b n es) q
    has-item-scoped (seen_ex r d ns es) q = from-item-scoped (seen_ex r d ns es) q

    some-item-scoped : (e : Ex) → Scoped z s o e → EachScoped s o (some_item x e)
    some-item-scoped e q = scoped-unless s o (has_items e) (has_item x e) (has-item-scoped e q)

    agree-scoped : (p q : Ex) → Scoped z s o p → Scoped z s o q → Scoped z s o (agree p q)
    agree-scoped (node_ex false tuple_literal (more_exs a (more_exs b no_exs)))
        (node_ex false tuple_literal (more_exs c (more_exs d no_exs))) m l =
        ((m.0, (l.0, tt)), ((m.1.0, (l.1.0, tt)), tt))
    agree-scoped p q m l = tt

    agree-all-scoped : (p : Ex) (qs : Exs) → Scoped z s o p → ScopedExs z s o qs → EachScoped s o (agree_all p qs)
    agree-all-scoped p no_exs m l = tt
    agree-all-scoped p (more_exs q qs) m l =
        scoped-append s o (unless (have_other_arguments p q) (agree p q)) (agree_all p qs)
        (scoped-unless s o (have_other_arguments p q) (agree p q) (agree-scoped p q m l.0)) (agree-all-scoped p qs m l.1)

    function-scoped : (ps : Exs) → ScopedExs z s o ps → EachScoped s o (function_conditions ps)
    function-scoped no_exs m = tt
    function-scoped (more_exs p ps) m =
        scoped-append s o (agree_all p ps) (function_conditions ps) (agree-all-scoped p ps m.0 m.1) (function-scoped ps m.1)

    members-scoped : (es : Exs) → ScopedExs z s o es → EachScoped s o (have_members x es)
    members-scoped no_exs m = tt
    members-scoped (more_exs e es) m =
        scoped-append s o (some_item x e) (have_members x es) (some-item-scoped e m.0) (members-scoped es m.1)

    -- A name that is bound is in scope.
    bound-in : (u : Text → Bool) (a : Text) → with_names u (name_pat a) a ≡ true
    bound-in u a = ap (λ b. u a || b) (same_text-itself a) ∙ or-yes (u a)

    -- x may be bound behind y.
    first-behind : BindsNew (with_names s (name_pat y)) (name_pat x)
    first-behind = ap (λ b. not (b || same_text y x)) clear.0 ∙ ap not differ

    disjoint-scoped : (es : Exs) → ScopedExs z s o es → Scoped z s o (are_disjoint x y es)
    disjoint-scoped es m = ((new-second, m, (first-behind, bound-in s y, bound-in (with_names s (name_pat y)) x)), tt)

    partition-scoped : (es : Exs) → ScopedExs z s o es → EachScoped s o (partition_conditions x y es)
    partition-scoped es m =
        scoped-append s o (have_members x es) _ (members-scoped es m)
        (scoped-unless s o (is_single_set es) (are_disjoint x y es) (disjoint-scoped es m))

    -- The condition of a matrix literal.
    pub matrix-scoped : (es : Exs) (d : Dom) → ScopedDom z s o d → EachScoped s o (matrix_conditions x es d)
    matrix-scoped es d m = scoped-unless s o (has_size d (operand_count es)) _ ((((new-first, m, tt), tt)), (tt, tt))

    -- ---- indices

    in-dom-scoped : (i : Ex) (d : Dom) → Scoped z s o i → ScopedDom z s o d → Scoped z s o (in_dom x i d)
    in-dom-scoped i (int_dom (both_ends ∷ []) (more_exs a (more_exs b no_exs))) m l =
        ((number-scoped [] a l.0, (m, tt)), ((m, (number-scoped [] b l.1.0, tt)), tt))
    in-dom-scoped i d m l = (m, (((new-first, l, bound-in s x), tt), tt))

    one-index-scoped : (k : Names Origin) (d : Option Dom) (m i : Ex) → DomScoped s o d → Scoped z s o m → Scoped z s o i →
        EachScoped s o (index_conditions k x d m i)
    one-index-scoped k (Some d) m i h p q = scoped-unless s o (is_sure k i d) (in_dom x i d) (in-dom-scoped i d q h)
    one-index-scoped k None m i h p q = (((p, (q, tt)), ((p, (q, tt)), tt)), tt)

    path-scoped : (k : Names Origin) (m : Ex) (qs : List Step) (is : Exs) → Scoped z s o m → ScopedExs z s o is →
        EachScoped s o (path_conditions k x m qs is)
    path-scoped k m [] is h l = tt
    path-scoped k m (by_value ∷ qs) no_exs h l = tt
    path-scoped k m (by_value ∷ qs) (more_exs i is) h l =
        scoped-append s o (index_conditions k x (index_dom m) m i) _
        (one-index-scoped k (index_dom m) m i (index-dom-scoped s o w m h) h l.0)
        (path-scoped k (at_step by_value m (more_exs i no_exs)) qs is (h, (l.0, tt)) l.1)
    path-scoped k m (to_component c ∷ qs) is h l = path-scoped k (at_step (to_component c) m no_exs) qs is (h, tt) l
    path-scoped k m (to_field a ∷ qs) is h l = path-scoped k (at_step (to_field a) m no_exs) qs is (h, tt) l

    -- ---- all operators

    -- The conditions of an operator itself.
    pub own-scoped : (k : Names Origin) (op : Op) (es : Exs) → ScopedExs z s o es → EachScoped s o (own k x y op es)
    own-scoped k (binary Op2.Div) (more_exs a (more_exs b no_exs)) m = scoped-unless s o (is_not_zero b) _ (compare-scoped Op2.Ne k b m.1.0)
    own-scoped k (binary Op2.Mod) (more_exs a (more_exs b no_exs)) m = scoped-unless s o (is_not_zero b) _ (compare-scoped Op2.Ne k b m.1.0)
    own-scoped k (binary Op2.Pow) (more_exs a (more_exs b no_exs)) m = power-scoped k a b m.0 m.1.0
    own-scoped k (word Fun.Min) (more_exs e no_exs) m = some-item-scoped e m.0
    own-scoped k (word Fun.Max) (more_exs e no_exs) m = some-item-scoped e m.0
    own-scoped k (word Fun.Image) (more_exs f (more_exs a no_exs)) m = scoped-unless s o (is_argument k f a) _ (m.1.0, ((m.0, tt), tt))
    own-scoped k (word Fun.Party) (more_exs a (more_exs p no_exs)) m = ((m.0, ((m.1.0, tt), tt)), tt)
    own-scoped k function_literal es m = function-scoped es m
    own-scoped k partition_literal es m = partition-scoped es m
    own-scoped k (index qs) (more_exs m is) q = path-scoped k m qs is q.0 q.1
    own-scoped k op es m = tt
