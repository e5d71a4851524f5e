-- A term in the place of a name, behind generators of its own, stays in scope.
use Rattle.std.proofs.Common.{◌≡◌, refl, sym, ap, ◌∙◌, Bool, true, false, ◌||◌, not, if◌then◌else◌}
use Rattle.ess_semantics.specs.Values.{Text}
use Rattle.ess_semantics.specs.Order.{same_text}
use Rattle.ess_semantics.specs.Trees.{Pat, Pats, name_pat, tuple_pat, no_pats, more_pats, Ex, Exs, number_ex, truth_ex, name_ex, node_ex, matrix_ex, comp_ex, cell_ex, seen_ex, no_exs, more_exs, Gens, no_gens, over, from, cond, Dom, Doms, bool_dom, int_dom, name_dom, tuple_dom, record_dom, matrix_dom, set_dom, mset_dom, function_dom, relation_dom, partition_dom, no_doms, more_doms}
use Rattle.ess_semantics.specs.Scoped.{is_bound, is_bound_by_some, BindsNew, AllBindNew, with_names}
use Rattle.ess_semantics.specs.Substitution.{substitute, substitute_exs, substitute_gens, substitute_dom, substitute_doms, for_name, Binds, BindsAll, NamesAre, NamesAreExs, NamesAreGens, NamesAreDom, NamesAreDoms}
use Rattle.ess_semantics.proofs.Tests.{or-yes}
use Rattle.ess_rules_laws.proofs.Agreement.{same_text-equal}
use Rattle.ess_refine_laws.proofs.WiderScopes.{Fewer, Among, Wider, fewer-with}

-- ---- names that patterns bind

pub no : {A : Type 0} → false ≡ true → A
no h = cc

-- Of two tests one is true.
pub one-of : {A : Type 0} (x y : Bool) → x || y ≡ true → (x ≡ true → A) → (y ≡ true → A) → A
one-of true y h f g = f refl
one-of false y h f g = g h

mutual
  -- What a pattern binds is among the names that it may bind.
  pat-among : (u : Text → Bool) (p : Pat) → Binds u p → Fewer (is_bound p) u
  pat-among u (name_pat b) h a k = ap u (same b a k) ∙ h
    where
      same : (b a : Text) → same_text b a ≡ true → a ≡ b
      same b a k = let i : b ≡ a = same_text-equal b a k in cc
  pat-among u (tuple_pat ps) h a k = pats-among u ps h a k

  pats-among : (u : Text → Bool) (ps : Pats) → BindsAll u ps → Fewer (is_bound_by_some ps) u
  pats-among u no_pats h a k = no k
  pats-among u (more_pats p ps) h a k =
      one-of (is_bound p a) (is_bound_by_some ps a) k (λ q. pat-among u p h.0 a q) (λ q. pats-among u ps h.1 a q)

mutual
  -- A new pattern doesn't bind a name that is there.
  new-apart : (s : Text → Bool) (y : Text) → s y ≡ true → (p : Pat) → BindsNew s p → is_bound p y ≡ false
  new-apart s y h (name_pat b) n = go (same_text b y) refl
    where
      go : (c : Bool) → same_text b y ≡ c → c ≡ false
      go true q = let i : b ≡ y = same_text-equal b y q in let j : s b ≡ true = ap s i ∙ h in no (sym (ap not j) ∙ n)
      go false q = refl
  new-apart s y h (tuple_pat ps) n = all-apart s y h ps n

  all-apart : (s : Text → Bool) (y : Text) → s y ≡ true → (ps : Pats) → AllBindNew s ps → is_bound_by_some ps y ≡ false
  all-apart s y h no_pats n = refl
  all-apart s y h (more_pats p ps) n =
      ap (λ b. b || is_bound_by_some ps y) (new-apart s y h p n.0) ∙ all-apart s y h ps n.1

mutual
  pub twice : (u : Text → Bool) (p : Pat) → Binds u p → Binds (λ a. not (not (u a))) p
  twice u (name_pat a) h = ap (λ b. not (not b)) h
  twice u (tuple_pat ps) h = twice-all u ps h

  twice-all : (u : Text → Bool) (ps : Pats) → BindsAll u ps → BindsAll (λ a. not (not (u a))) ps
  twice-all u no_pats h = tt
  twice-all u (more_pats p ps) h = (twice u p h.0, twice-all u ps h.1)

-- A test that is true on either side.
pub either-left : (x y : Bool) → x ≡ true → x || y ≡ true
either-left x y h = ap (λ b. b || y) h

pub either-right : (x y : Bool) → y ≡ true → x || y ≡ true
either-right x y h = ap (λ b. x || b) h ∙ or-yes x

-- ---- scopes behind generators

-- u are the names that stand behind. Names in scope, and more of them, none of u.
pub record Grown (u s t o p : Text → Bool) : Type 0 where
  pub fewer : Fewer s t
  pub plain : Fewer o p
  pub among : Among t s (λ a. not (u a))

pub grown-both : (u s t o p : Text → Bool) (q : Pat) → Binds (λ a. not (u a)) q → Grown u s t o p →
    Grown u s (with_names t q) o (with_names p q)
grown-both u s t o p q b w = record {
  fewer = λ a h. either-left (t a) (is_bound q a) (w.fewer a h);
  plain = λ a h. either-left (p a) (is_bound q a) (w.plain a h);
  among = λ a h. one-of (t a) (is_bound q a) h (w.among a) (λ k. either-right (s a) (not (u a)) (pat-among (λ c. not (u c)) q b a k));
}

pub grown-one : (u s t o p : Text → Bool) (q : Pat) → Binds (λ a. not (u a)) q → Grown u s t o p → Grown u s (with_names t q) o p
grown-one u s t o p q b w = record {
  fewer = λ a h. either-left (t a) (is_bound q a) (w.fewer a h);
  plain = w.plain;
  among = λ a h. one-of (t a) (is_bound q a) h (w.among a) (λ k. either-right (s a) (not (u a)) (pat-among (λ c. not (u c)) q b a k));
}

-- ---- a term for a name

-- The tree stands at names s and, of these, o over domains; with a term for y it goes to t and p. The term is in scope at t0 and p0.
-- Where y may be an index of a view, n says of p that the term may be one.
pub record Puts (n : (Text → Bool) → Type 0) (u : Text → Bool) (y : Text) (t0 p0 s t o p : Text → Bool) : Type 0 where
  pub kept : (a : Text) → same_text y a ≡ false → s a ≡ true → t a ≡ true
  pub plain : (a : Text) → same_text y a ≡ false → o a ≡ true → p a ≡ true
  pub indexed : o y ≡ true → n p
  pub there : s y ≡ true
  pub among : Among t s (λ a. not (u a))
  pub wide : Wider u t0 t p0 p

wide-both : (u t0 t p0 p : Text → Bool) (q : Pat) → Binds u q → Wider u t0 t p0 p → Wider u t0 (with_names t q) p0 (with_names p q)
wide-both u t0 t p0 p q b w = record {
  fewer = λ a h. either-left (t a) (is_bound q a) (w.fewer a h);
  plain = λ a h. either-left (p a) (is_bound q a) (w.plain a h);
  among = λ a h. one-of (t a) (is_bound q a) h (w.among a) (λ k. either-right (t0 a) (u a) (pat-among u q b a k));
}

wide-one : (u t0 t p0 p : Text → Bool) (q : Pat) → Binds u q → Wider u t0 t p0 p → Wider u t0 (with_names t q) p0 p
wide-one u t0 t p0 p q b w = record {
  fewer = λ a h. either-left (t a) (is_bound q a) (w.fewer a h);
  plain = w.plain;
  among = λ a h. one-of (t a) (is_bound q a) h (w.among a) (λ k. either-right (t0 a) (u a) (pat-among u q b a k));
}

module _ (m : (Text → Bool) → Type 0) (grow : (p : Text → Bool) (q : Pat) → m p → m (with_names p q)) (u : Text → Bool) (y : Text)
    (t0 p0 : Text → Bool) where
  pub puts-both : (s t o p : Text → Bool) (q : Pat) → Binds u q → BindsNew s q → Puts m u y t0 p0 s t o p →
      Puts m u y t0 p0 (with_names s q) (with_names t q) (with_names o q) (with_names p q)
  puts-both s t o p q b n w = record {
    kept = λ a d h. one-of (s a) (is_bound q a) h (λ k. either-left (t a) (is_bound q a) (w.kept a d k)) (either-right (t a)
        (is_bound q a));
    plain = λ a d h. one-of (o a) (is_bound q a) h (λ k. either-left (p a) (is_bound q a) (w.plain a d k)) (either-right (p a)
        (is_bound q a));
    indexed = λ h. one-of (o y) (is_bound q y) h (λ k. grow p q (w.indexed k)) (λ k. no (sym (new-apart s y w.there q n) ∙ k));
    there = either-left (s y) (is_bound q y) w.there;
    among = λ a h. one-of (t a) (is_bound q a) h
        (λ k. one-of (s a) (not (u a)) (w.among a k) (λ m. either-left (s a || is_bound q a) (not (u a)) (either-left (s a)
        (is_bound q a) m))
        (either-right (s a || is_bound q a) (not (u a))))
        (λ k. either-left (s a || is_bound q a) (not (u a)) (either-right (s a) (is_bound q a) k));
    wide = wide-both u t0 t p0 p q b w.wide;
  }

  pub puts-one : (s t o p : Text → Bool) (q : Pat) → Binds u q → BindsNew s q → Puts m u y t0 p0 s t o p →
      Puts m u y t0 p0 (with_names s q) (with_names t q) o p
  puts-one s t o p q b n w = record {
    kept = λ a d h. one-of (s a) (is_bound q a) h (λ k. either-left (t a) (is_bound q a) (w.kept a d k)) (either-right (t a)
        (is_bound q a));
    plain = w.plain;
    indexed = w.indexed;
    there = either-left (s y) (is_bound q y) w.there;
    among = λ a h. one-of (t a) (is_bound q a) h
        (λ k. one-of (s a) (not (u a)) (w.among a k) (λ m. either-left (s a || is_bound q a) (not (u a)) (either-left (s a)
        (is_bound q a) m))
        (either-right (s a || is_bound q a) (not (u a))))
        (λ k. either-left (s a || is_bound q a) (not (u a)) (either-right (s a) (is_bound q a) k));
    wide = wide-one u t0 t p0 p q b w.wide;
  }

-- ---- views

module _ (z : Text → Bool) (y : Text) (zy : z y ≡ false) (w : Ex) where
  -- A name of z stays as it is.
  named : (a : Text) → z a ≡ true → NamesAre z (λ c. true) (for_name y w a)
  named a h = go (same_text y a) refl
    where
      go : (b : Bool) → same_text y a ≡ b → NamesAre z (λ c. true) (if b then w else name_ex a)
      go true q = let i : y ≡ a = same_text-equal y a q in no (let j : z y ≡ true = ap z i ∙ h in cc)
      go false q = h

  mutual
    names-put : (e : Ex) → NamesAre z (λ a. true) e → NamesAre z (λ a. true) (substitute (for_name y w) e)
    names-put (number_ex n) h = tt
    names-put (truth_ex b) h = tt
    names-put (name_ex a) h = named a h
    names-put (node_ex b op es) h = names-exs es h
    names-put (matrix_ex es d) h = (names-exs es h.0, names-dom d h.1)
    names-put (comp_ex e gs) h = (names-put e h.0, names-gens gs h.1)
    names-put (cell_ex b n es) h = names-exs es h
    names-put (seen_ex r d ns es) h = (names-dom d h.0, names-exs es h.1)

    names-exs : (es : Exs) → NamesAreExs z (λ a. true) es → NamesAreExs z (λ a. true) (substitute_exs (for_name y w) es)
    names-exs no_exs h = tt
    names-exs (more_exs e es) h = (names-put e h.0, names-exs es h.1)

    names-gens : (gs : Gens) → NamesAreGens z (λ a. true) gs → NamesAreGens z (λ a. true) (substitute_gens (for_name y w) gs)
    names-gens no_gens h = tt
    names-gens (over p d gs) h = (h.0, names-dom d h.1, names-gens gs h.2)
    names-gens (from p e gs) h = (h.0, names-put e h.1, names-gens gs h.2)
    names-gens (cond e gs) h = (names-put e h.0, names-gens gs h.1)

    pub names-dom : (d : Dom) → NamesAreDom z (λ a. true) d → NamesAreDom z (λ a. true) (substitute_dom (for_name y w) d)
    names-dom bool_dom h = tt
    names-dom (int_dom rs es) h = names-exs es h
    names-dom (name_dom a) h = tt
    names-dom (tuple_dom ds) h = names-doms ds h
    names-dom (record_dom fs ds) h = names-doms ds h
    names-dom (matrix_dom is d) h = (names-doms is h.0, names-dom d h.1)
    names-dom (set_dom ms es d) h = (names-exs es h.0, names-dom d h.1)
    names-dom (mset_dom ms es d) h = (names-exs es h.0, names-dom d h.1)
    names-dom (function_dom ms es d c) h = (names-exs es h.0, names-dom d h.1, names-dom c h.2)
    names-dom (relation_dom ms es ds) h = (names-exs es h.0, names-doms ds h.1)
    names-dom (partition_dom ms es d) h = (names-exs es h.0, names-dom d h.1)

    names-doms : (ds : Doms) → NamesAreDoms z (λ a. true) ds → NamesAreDoms z (λ a. true) (substitute_doms (for_name y w) ds)
    names-doms no_doms h = tt
    names-doms (more_doms d ds) h = (names-dom d h.0, names-doms ds h.1)
