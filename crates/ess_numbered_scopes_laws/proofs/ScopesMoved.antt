-- A tree stays in scope where each name that it uses is in scope still, and no name that it binds has come into it.
use Rattle.std.proofs.Common.{◌≡◌, refl, sym, ap, ◌∙◌, Bool, true, false, ◌||◌, not}
use Rattle.std.specs.Prelude.{IsTrue}
use Rattle.ess_semantics.specs.Values.{Text}
use Rattle.ess_semantics.specs.Order.{same_text}
use Rattle.ess_semantics.specs.Trees.{Pat, Pats, name_pat, tuple_pat, no_pats, more_pats, Ex, Exs, number_ex, truth_ex, name_ex, node_ex, matrix_ex, comp_ex, cell_ex, seen_ex, no_exs, more_exs, Gens, no_gens, over, from, cond, Dom, Doms, bool_dom, int_dom, name_dom, tuple_dom, record_dom, matrix_dom, set_dom, mset_dom, function_dom, relation_dom, partition_dom, no_doms, more_doms}
use Rattle.ess_semantics.specs.Scoped.{is_bound, BindsNew, AllBindNew, with_names, IsPlainIndex, Scoped, ScopedExs, ScopedGens, ScopedDom, ScopedDoms}
use Rattle.ess_semantics.specs.Substitution.{Binds, BindsAll, NamesAre, NamesAreExs, NamesAreGens, NamesAreDom, NamesAreDoms}
use Rattle.ess_semantics.proofs.Tests.{or-yes}
use Rattle.ess_semantics.proofs.Texts.{same_text-itself}
use Rattle.ess_rules_laws.proofs.Simulation.{any, but}

pub isnt : (b : Bool) → IsTrue (not b) → b ≡ false
isnt true h = cc
isnt false h = refl

is-not : (b : Bool) → b ≡ false → IsTrue (not b)
is-not true h = cc
is-not false h = refl

pub neither : (b c : Bool) → b ≡ false → c ≡ false → b || c ≡ false
neither true c p q = p
neither false c p q = q

module _ (u b : Text → Bool) where
  -- From names s in scope to names t, and from o, bound over domains, to p: of those in u none is lost, and none of those in b is added.
  pub record Moves (s t o p : Text → Bool) : Type 0 where
    pub used : (a : Text) → IsTrue (u a) → s a ≡ true → t a ≡ true
    pub plain : (a : Text) → o a ≡ true → p a ≡ true
    pub free : (a : Text) → IsTrue (b a) → s a ≡ false → t a ≡ false

  -- So it is with what a pattern binds.
  kept : (s t : Text → Bool) (q : Pat) (a : Text) → (s a ≡ true → t a ≡ true) → with_names s q a ≡ true → with_names t q a ≡ true
  kept s t q a f h = go (s a) refl h
    where
      go : (c : Bool) → s a ≡ c → c || is_bound q a ≡ true → t a || is_bound q a ≡ true
      go true i h = ap (λ c. c || is_bound q a) (f i)
      go false i h = ap (λ c. t a || c) h ∙ or-yes (t a)

  still-free : (s t : Text → Bool) (q : Pat) (a : Text) → (s a ≡ false → t a ≡ false) → with_names s q a ≡ false →
      with_names t q a ≡ false
  still-free s t q a f h = go (s a) (is_bound q a) refl h
    where
      go : (c d : Bool) → s a ≡ c → c || d ≡ false → t a || d ≡ false
      go true d i h = cc
      go false d i h = neither (t a) d (f i) h

  over-with : (s t o p : Text → Bool) (q : Pat) → Moves s t o p → Moves (with_names s q) (with_names t q) (with_names o q) (with_names p q)
  over-with s t o p q m = record {
    used = λ a i h. kept s t q a (m.used a i) h;
    plain = λ a h. kept o p q a (m.plain a) h;
    free = λ a i h. still-free s t q a (m.free a i) h;
  }

  from-with : (s t o p : Text → Bool) (q : Pat) → Moves s t o p → Moves (with_names s q) (with_names t q) o p
  from-with s t o p q m = record {
    used = λ a i h. kept s t q a (m.used a i) h;
    plain = m.plain;
    free = λ a i h. still-free s t q a (m.free a i) h;
  }

  module _ (s t o p : Text → Bool) (m : Moves s t o p) where
    mutual
      new-still : (q : Pat) → Binds b q → BindsNew s q → BindsNew t q
      new-still (name_pat a) i h = is-not (t a) (m.free a i (isnt (s a) h))
      new-still (tuple_pat qs) i h = all-still qs i h

      all-still : (qs : Pats) → BindsAll b qs → AllBindNew s qs → AllBindNew t qs
      all-still no_pats i h = tt
      all-still (more_pats q qs) i h = (new-still q i.0 h.0, all-still qs i.1 h.1)

    index-still : (es : Exs) → IsPlainIndex o es → IsPlainIndex p es
    index-still no_exs h = tt
    index-still (more_exs (number_ex n) es) h = index-still es h
    index-still (more_exs (name_ex a) es) h = (m.plain a h.0, index-still es h.1)
    index-still (more_exs _ es) h = absurd h

  module _ (z : Text → Bool) where
    mutual
      pub moved : (e : Ex) (s t o p : Text → Bool) → Moves s t o p → NamesAre u b e → Scoped z s o e → Scoped z t p e
      moved (number_ex k) s t o p m i h = tt
      moved (truth_ex k) s t o p m i h = tt
      moved (name_ex a) s t o p m i h = m.used a i h
      moved (node_ex k op es) s t o p m i h = exs-moved es s t o p m i h
      moved (matrix_ex es d) s t o p m i h = (exs-moved es s t o p m i.0 h.0, dom-moved d s t o p m i.1 h.1)
      moved (comp_ex e gs) s t o p m i h = gens-moved gs e s t o p m i.1 (λ v w j k n l. moved e v w j k n i.0 l) h
      moved (cell_ex k c es) s t o p m i h = exs-moved es s t o p m i h
      moved (seen_ex r d ns es) s t o p m i h = (h.0, index-still s t o p m es h.1)

      exs-moved : (es : Exs) (s t o p : Text → Bool) → Moves s t o p → NamesAreExs u b es → ScopedExs z s o es → ScopedExs z t p es
      exs-moved no_exs s t o p m i h = tt
      exs-moved (more_exs e es) s t o p m i h = (moved e s t o p m i.0 h.0, exs-moved es s t o p m i.1 h.1)

      gens-moved : (gs : Gens) (e : Ex) (s t o p : Text → Bool) → Moves s t o p → NamesAreGens u b gs →
          ((v w j k : Text → Bool) → Moves v w j k → Scoped z v j e → Scoped z w k e) → ScopedGens z s o gs (λ v j. Scoped z v j e) →
          ScopedGens z t p gs (λ v j. Scoped z v j e)
      gens-moved no_gens e s t o p m i k h = k s t o p m h
      gens-moved (over q d gs) e s t o p m i k h = (
        new-still s t o p m q i.0 h.0,
        dom-moved d s t o p m i.1 h.1,
        gens-moved gs e (with_names s q) (with_names t q) (with_names o q) (with_names p q) (over-with s t o p q m) i.2 k h.2,
      )
      gens-moved (from q a gs) e s t o p m i k h = (
        new-still s t o p m q i.0 h.0,
        moved a s t o p m i.1 h.1,
        gens-moved gs e (with_names s q) (with_names t q) o p (from-with s t o p q m) i.2 k h.2,
      )
      gens-moved (cond c gs) e s t o p m i k h = (moved c s t o p m i.0 h.0, gens-moved gs e s t o p m i.1 k h.1)

      pub dom-moved : (d : Dom) (s t o p : Text → Bool) → Moves s t o p → NamesAreDom u b d → ScopedDom z s o d → ScopedDom z t p d
      dom-moved bool_dom s t o p m i h = tt
      dom-moved (int_dom rs es) s t o p m i h = exs-moved es s t o p m i h
      dom-moved (name_dom a) s t o p m i h = tt
      dom-moved (tuple_dom ds) s t o p m i h = doms-moved ds s t o p m i h
      dom-moved (record_dom fs ds) s t o p m i h = doms-moved ds s t o p m i h
      dom-moved (matrix_dom is d) s t o p m i h = (doms-moved is s t o p m i.0 h.0, dom-moved d s t o p m i.1 h.1)
      dom-moved (set_dom ms es d) s t o p m i h = (exs-moved es s t o p m i.0 h.0, dom-moved d s t o p m i.1 h.1)
      dom-moved (mset_dom ms es d) s t o p m i h = (exs-moved es s t o p m i.0 h.0, dom-moved d s t o p m i.1 h.1)
      dom-moved (function_dom ms es d c) s t o p m i h =
          (exs-moved es s t o p m i.0 h.0, dom-moved d s t o p m i.1 h.1, dom-moved c s t o p m i.2 h.2)
      dom-moved (relation_dom ms es ds) s t o p m i h = (exs-moved es s t o p m i.0 h.0, doms-moved ds s t o p m i.1 h.1)
      dom-moved (partition_dom ms es d) s t o p m i h = (exs-moved es s t o p m i.0 h.0, dom-moved d s t o p m i.1 h.1)

      doms-moved : (ds : Doms) (s t o p : Text → Bool) → Moves s t o p → NamesAreDoms u b ds → ScopedDoms z s o ds → ScopedDoms z t p ds
      doms-moved no_doms s t o p m i h = tt
      doms-moved (more_doms d ds) s t o p m i h = (dom-moved d s t o p m i.0 h.0, doms-moved ds s t o p m i.1 h.1)

-- ---- one name less, or more

-- A tree that doesn't use the name is in scope without it.
pub outside : (y : Text) (z : Text → Bool) (e : Ex) (s o : Text → Bool) → NamesAre (but y) any e →
    Scoped z (with_names s (name_pat y)) o e → Scoped z s o e
outside y z e s o i h = moved (but y) any z e (with_names s (name_pat y)) s o o (record {
  used = λ a q k. go (s a) (same_text y a) (isnt (same_text y a) q) k;
  plain = λ a k. k;
  free = λ a q k. left (s a) (same_text y a) k;
}) i h
  where
    go : (c d : Bool) → d ≡ false → c || d ≡ true → c ≡ true
    go true d q k = refl
    go false true q k = sym q
    go false false q k = k

    left : (c d : Bool) → c || d ≡ false → c ≡ false
    left true d k = k
    left false d k = refl

-- A tree that doesn't bind the name stays in scope behind a generator of it over a domain. So does a domain.
more-names : (x : Text) (s o : Text → Bool) →
    Moves any (but x) s (with_names s (name_pat x)) o (with_names o (name_pat x))
more-names x s o = record {
  used = λ a q k. ap (λ c. c || same_text x a) k;
  plain = λ a k. ap (λ c. c || same_text x a) k;
  free = λ a q k. neither (s a) (same_text x a) k (isnt (same_text x a) q);
}

pub behind : (x : Text) (z : Text → Bool) (s o : Text → Bool) (e : Ex) → NamesAre (λ a. true) (λ a. not (same_text x a)) e →
    Scoped z s o e → Scoped z (with_names s (name_pat x)) (with_names o (name_pat x)) e
behind x z s o e i h =
    moved any (but x) z e s (with_names s (name_pat x)) o (with_names o (name_pat x)) (more-names x s o) i h

pub dom-behind : (x : Text) (z : Text → Bool) (s o : Text → Bool) (d : Dom) → NamesAreDom (λ a. true) (λ a. not (same_text x a)) d →
    ScopedDom z s o d → ScopedDom z (with_names s (name_pat x)) (with_names o (name_pat x)) d
dom-behind x z s o d i h =
    dom-moved any (but x) z d s (with_names s (name_pat x)) o (with_names o (name_pat x)) (more-names x s o) i h

-- A new name is in scope behind its generator.
pub bound : (x : Text) (u : Text → Bool) → IsTrue (with_names u (name_pat x) x)
bound x u = ap (λ c. u x || c) (same_text-itself x) ∙ or-yes (u x)
