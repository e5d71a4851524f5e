-- What conditions are built of keeps what is fixed at its place.
use Rattle.std.proofs.Common.{◌≡◌, refl, sym, ap, ◌∙◌, Bool, true, false, ◌&&◌, if◌then◌else◌, List, [], ◌∷◌, pos}
use Rattle.std.specs.List.{list_all}
use Rattle.ess_semantics.specs.Values.{Text}
use Rattle.ess_semantics.specs.Names.{Names}
use Rattle.ess_semantics.specs.Trees.{Op, matrix_literal, Pat, name_pat, Ex, Exs, number_ex, truth_ex, name_ex, node_ex, matrix_ex, comp_ex, cell_ex, no_exs, more_exs, Gens, no_gens, over, from, Dom}
use Rattle.ess_semantics.proofs.Texts.{same_text-itself}
use Rattle.ess_semantics.proofs.Tests.{and-left, and-right, and-both}
use Rattle.ess_guard_laws.specs.Origins.{Origin}
use Rattle.ess_guard_laws.specs.Conditions.{conds, chained, all_of, every, own}
use Rattle.ess_guard_laws.specs.Guard.{is_plain, own_at}
use Rattle.ess_given_laws.specs.Given.{is_fixed_dom}
use Rattle.ess_given_conditions_laws.specs.InScope.{bound_as, is_fixed_in, are_fixed_in, are_gens_fixed_in, fixed_behind, is_dom_fixed_in}
use Rattle.ess_given_conditions_laws.proofs.ScopedGiven.{Within, within-bound, within-drawn, fixed-scoped}
use Rattle.ess_semantics.specs.ExpressionJudgements.{forgets_order}
use Rattle.ess_given_guard_laws.proofs.OwnConditions.{Operands, EachHas, ListHas, Builds, chained-has, all-has, own-has}

module _ (u : Text → Bool) where
  -- Fixed where s are the fixed names.
  abbrev pub F : (Text → Bool) → Ex → Type 0
  F s e = is_fixed_in u s e ≡ true

  -- The same of a domain.
  abbrev pub DF : (Text → Bool) → Dom → Type 0
  DF s d = is_dom_fixed_in u s d ≡ true

  -- ---- scopes

  -- A bound name.
  pub bound-self : (b : Bool) (x : Text) (s : Text → Bool) → b ≡ true → bound_as b (name_pat x) s x ≡ true
  bound-self b x s h = ap (λ z. if z then b else s x) (same_text-itself x) ∙ h

  -- A domain that is fixed is so at its place.
  pub into-dom : (s : Text → Bool) → Within u s → (d : Dom) → is_fixed_dom u d ≡ true → DF s d
  into-dom s f d h = fixed-scoped u (matrix_ex no_exs d) s f h

  -- Where a source is fixed its names are.
  pub drawn : (b : Bool) (p : Pat) (s : Text → Bool) → b ≡ true → Within u s → Within u (bound_as b p s)
  drawn b p s i f = within-drawn u b p s (λ q. let r : true ≡ false = sym i ∙ q in cc) f

  -- ---- what conditions are built of

  each-fixed : (es : Exs) (s : Text → Bool) → EachHas (F s) es → are_fixed_in u s es ≡ true
  each-fixed no_exs s h = refl
  each-fixed (more_exs e es) s h = and-both (is_fixed_in u s e) (are_fixed_in u s es) h.0 (each-fixed es s h.1)

  -- Each of fixed operands.
  pub fixed-each : (es : Exs) (s : Text → Bool) → are_fixed_in u s es ≡ true → EachHas (F s) es
  fixed-each no_exs s h = tt
  fixed-each (more_exs e es) s h = (
    and-left (is_fixed_in u s e) (are_fixed_in u s es) h,
    fixed-each es s (and-right (is_fixed_in u s e) (are_fixed_in u s es) h),
  )

  one : (s : Text → Bool) (e : Ex) → F s e → is_fixed_in u s e && true ≡ true
  one s e h = and-both (is_fixed_in u s e) true h refl

  conds-under : (cs : List Ex) (s : Text → Bool) (b : Ex) → ListHas (F s) cs → F s b → F s (comp_ex b (conds cs))
  conds-under [] s b h k = k
  conds-under (c ∷ cs) s b h k = let r = conds-under cs s b h.1 k in
      and-both (is_fixed_in u s c && are_gens_fixed_in u s (conds cs)) (is_fixed_in u (fixed_behind u s (conds cs)) b)
      (and-both (is_fixed_in u s c) (are_gens_fixed_in u s (conds cs)) h.0
      (and-left (are_gens_fixed_in u s (conds cs)) (is_fixed_in u (fixed_behind u s (conds cs)) b) r))
      (and-right (are_gens_fixed_in u s (conds cs)) (is_fixed_in u (fixed_behind u s (conds cs)) b) r)

  over-one : (s : Text → Bool) (x : Text) (d : Dom) (e : Ex) → DF s d → F (bound_as true (name_pat x) s) e →
      F s (comp_ex e (over (name_pat x) d no_gens))
  over-one s x d e h k = and-both (is_dom_fixed_in u s d && true) (is_fixed_in u (bound_as true (name_pat x) s) e)
      (and-both (is_dom_fixed_in u s d) true h refl) k

  constant : (s : Text → Bool) (e c : Ex) (gs : Gens) → ((r : Text → Bool) → F r c) → F s (comp_ex e gs) → F s (comp_ex c gs)
  constant s e c gs k h = and-both (are_gens_fixed_in u s gs) (is_fixed_in u (fixed_behind u s gs) c)
      (and-left (are_gens_fixed_in u s gs) (is_fixed_in u (fixed_behind u s gs) e) h) (k (fixed_behind u s gs))

  two-sources : (s : Text → Bool) (x y : Text) (ss : Exs) → EachHas (F s) ss →
      F s (comp_ex (name_ex x) (from (name_pat y) (node_ex false matrix_literal ss) (from (name_pat x) (name_ex y) no_gens)))
  two-sources s x y ss h =
      let i = each-fixed ss s h in
      let s1 = bound_as (are_fixed_in u s ss) (name_pat y) s in
      let j : s1 y ≡ true = bound-self (are_fixed_in u s ss) y s i in
      let s2 = bound_as (s1 y) (name_pat x) s1 in
      and-both (are_fixed_in u s ss && (s1 y && true)) (s2 x) (and-both (are_fixed_in u s ss) (s1 y && true) i
      (and-both (s1 y) true j refl)) (bound-self (s1 y) x s1 j)

  -- What operators keep.
  pub builds-fixed : (s : Text → Bool) → Within u s → Builds u (F s) (F s) (DF s)
  builds-fixed s f = record {
    loosen = λ e h. h;
    number = λ z. refl;
    truth = λ b. refl;
    node = λ b op es h. each-fixed es s h;
    worded = λ b g e q h. one s e h;
    counted = λ x d h. over-one s x d (number_ex (pos 1)) h refl;
    named = λ x d h. over-one s x d (name_ex x) h (bound-self true x s refl);
    truths = λ e gs h. constant s e (truth_ex true) gs (λ r. refl) h;
    numbers = λ e gs h. constant s e (number_ex (pos 1)) gs (λ r. refl) h;
    drawn = λ x e h. and-both (is_fixed_in u s e && true) true (one s e h) refl;
    disjoint = λ x y ss h. two-sources s x y ss h;
    under = λ b cs h k. conds-under cs s b h k;
    items = λ es h. fixed-each es s h;
    axis = λ es d h. and-right (are_fixed_in u s es) (is_dom_fixed_in u s d) h;
    seen = λ r d ns js h. and-left (is_fixed_dom u d) (are_fixed_in u s js)
        (and-right (list_all u ns) (is_fixed_dom u d && are_fixed_in u s js) h);
    indexed = λ qs m is h. and-left (is_fixed_in u s m) (are_fixed_in u s is) h;
    into = λ d h. into-dom s f d h;
    ends = λ a b h. let k = and-right (is_fixed_in u s a) (is_fixed_in u s b && true) h in
        (and-left (is_fixed_in u s a) (is_fixed_in u s b && true) h, and-left (is_fixed_in u s b) true k);
  }

  -- Conditions at each binding of a generator over a domain.
  pub every-over : (p : Pat) (d : Dom) (s : Text → Bool) (cs : List Ex) → Within u s → DF s d → ListHas (F (bound_as true p s)) cs →
      ListHas (F s) (every (over p d no_gens) cs)
  every-over p d s [] f h k = tt
  every-over p d s (c ∷ cs) f h k = let i = bound_as true p s in (
    one s (comp_ex (all_of (c ∷ cs)) (over p d no_gens)) (and-both (is_dom_fixed_in u s d && true) (is_fixed_in u i (all_of (c ∷ cs)))
        (and-both (is_dom_fixed_in u s d) true h refl)
        (all-has u (F i) (F i) (DF i) (builds-fixed i (within-bound u p s f)) (c ∷ cs) k)),
    tt,
  )

  -- The same over a source.
  pub every-from : (p : Pat) (e : Ex) (s : Text → Bool) (cs : List Ex) → Within u s → F s e →
      ListHas (F (bound_as (is_fixed_in u s e) p s)) cs →
      ListHas (F s) (every (from p e no_gens) cs)
  every-from p e s [] f h k = tt
  every-from p e s (c ∷ cs) f h k = let i = bound_as (is_fixed_in u s e) p s in (
    one s (comp_ex (all_of (c ∷ cs)) (from p e no_gens)) (and-both (is_fixed_in u s e && true) (is_fixed_in u i (all_of (c ∷ cs)))
        (one s e h) (all-has u (F i) (F i) (DF i) (builds-fixed i (drawn (is_fixed_in u s e) p s h f)) (c ∷ cs) k)),
    tt,
  )

  -- ---- trees

  module _ (natural : Bool) (x y : Text) where
    -- The own conditions of an operator.
    pub own-fixed : (k : Names Origin) (c : Bool) (op : Op) (es : Exs) (s : Text → Bool) → Within u s → EachHas (F s) es →
        ListHas (F s) (own_at natural x y k c op es)
    own-fixed k c op es s f h = go (c && is_plain op) (operands (forgets_order op))
      where
        operands : (b : Bool) → Operands u (F s) (F s) (DF s) (builds-fixed s f) b es
        operands true = h
        operands false = h

        go : (b : Bool) → Operands u (F s) (F s) (DF s) (builds-fixed s f) (forgets_order op) es →
            ListHas (F s) (if b then [] else own k x y op es)
        go true q = tt
        go false q = own-has u (F s) (F s) (DF s) (builds-fixed s f) k x y op es q

    chained-fixed : (s : Text → Bool) → Within u s → (cs : List Ex) (b : Ex) → ListHas (F s) cs → F s b → F s (chained cs b)
    chained-fixed s f cs b h k = chained-has u (F s) (F s) (DF s) (builds-fixed s f) cs b h k

    -- A node under conditions.
    pub node-fixed : (c b : Bool) (op : Op) (es : Exs) (s : Text → Bool) (cs : List Ex) → Within u s → ListHas (F s) cs →
        are_fixed_in u s es ≡ true → F s (if c then chained cs (node_ex true op es) else node_ex b op es)
    node-fixed true b op es s cs f h k = chained-fixed s f cs (node_ex true op es) h k
    node-fixed false b op es s cs f h k = k

    -- A cell under conditions.
    pub cell-fixed : (b : Bool) (n : Text) (es : Exs) (s : Text → Bool) (cs : List Ex) → Within u s → u n ≡ true → ListHas (F s) cs →
        are_fixed_in u s es ≡ true → F s (if b then chained cs (cell_ex true n es) else cell_ex false n es)
    cell-fixed true n es s cs f t h k =
        chained-fixed s f cs (cell_ex true n es) h (and-both (u n) (are_fixed_in u s es) t k)
    cell-fixed false n es s cs f t h k = and-both (u n) (are_fixed_in u s es) t k

    -- Conditions, or none.
    pub unless-so : (s : Text → Bool) (c : Bool) (cs : List Ex) → ListHas (F s) cs → ListHas (F s) (if c then [] else cs)
    unless-so s true cs h = tt
    unless-so s false cs h = h
