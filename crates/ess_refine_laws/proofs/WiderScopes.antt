-- A tree stays in scope where more names are, none of which it binds.
use Rattle.std.proofs.Common.{◌≡◌, refl, ap, ◌∙◌, Bool, true, false, ◌||◌, not}
use Rattle.std.specs.Prelude.{IsTrue}
use Rattle.ess_semantics.specs.Values.{Text}
use Rattle.ess_semantics.specs.Trees.{Pat, Pats, name_pat, tuple_pat, no_pats, more_pats, Ex, Exs, number_ex, truth_ex, name_ex, node_ex, matrix_ex, comp_ex, cell_ex, seen_ex, no_exs, more_exs, Gens, no_gens, over, from, cond, Dom, Doms, bool_dom, int_dom, name_dom, tuple_dom, record_dom, matrix_dom, set_dom, mset_dom, function_dom, relation_dom, partition_dom, no_doms, more_doms}
use Rattle.ess_semantics.specs.Scoped.{is_bound, BindsNew, AllBindNew, with_names, IsPlainIndex, Scoped, ScopedExs, ScopedGens, ScopedDom, ScopedDoms}
use Rattle.ess_semantics.specs.Substitution.{Binds, BindsAll, NamesAre, NamesAreExs, NamesAreGens, NamesAreDom, NamesAreDoms}
use Rattle.ess_semantics.proofs.Tests.{or-yes}
use Rattle.ess_rules_laws.proofs.Agreement.{same_text-itself}

-- ---- more names

-- What the first names have the second have.
abbrev pub Fewer : (Text → Bool) → (Text → Bool) → Type 0
Fewer u w = (a : Text) → u a ≡ true → w a ≡ true

-- The names t are among those of s and n.
abbrev pub Among : (Text → Bool) → (Text → Bool) → (Text → Bool) → Type 0
Among t s n = (a : Text) → t a ≡ true → s a || n a ≡ true

pub fewer-with : (u w : Text → Bool) (p : Pat) → Fewer u w → Fewer (with_names u p) (with_names w p)
fewer-with u w p f a h = go (u a) refl h
  where
    go : (b : Bool) → u a ≡ b → b || is_bound p a ≡ true → w a || is_bound p a ≡ true
    go true q h = ap (λ b. b || is_bound p a) (f a q)
    go false q h = ap (λ b. w a || b) h ∙ or-yes (w a)

pub among-with : (t s n : Text → Bool) (p : Pat) → Among t s n → Among (with_names t p) (with_names s p) n
among-with t s n p f a h = go (t a) refl h
  where
    left : (b c d : Bool) → b || d ≡ true → (b || c) || d ≡ true
    left true c d h = refl
    left false true d h = refl
    left false false d h = h

    right : (b d : Bool) → (b || true) || d ≡ true
    right true d = refl
    right false d = refl

    go : (b : Bool) → t a ≡ b → b || is_bound p a ≡ true → (s a || is_bound p a) || n a ≡ true
    go true q h = left (s a) (is_bound p a) (n a) (f a q)
    go false q h = ap (λ c. (s a || c) || n a) h ∙ right (s a) (n a)

module _ (s t n : Text → Bool) (w : Among t s n) where
  mutual
    -- A pattern that binds no name of s and none of n binds none of t.
    pub new-wider : (p : Pat) → Binds (λ a. not (n a)) p → BindsNew s p → BindsNew t p
    new-wider (name_pat a) b h = go (t a) (s a) (n a) (w a) b h
      where
        go : (x y m : Bool) → (x ≡ true → y || m ≡ true) → IsTrue (not m) → IsTrue (not y) → IsTrue (not x)
        go true true m f b h = h
        go true false true f b h = b
        go true false false f b h = absurd (no (f refl))
          where
            no : false ≡ true → ⊥
            no e = cc
        go false y m f b h = refl
    new-wider (tuple_pat ps) b h = all-wider ps b h

    all-wider : (ps : Pats) → BindsAll (λ a. not (n a)) ps → AllBindNew s ps → AllBindNew t ps
    all-wider no_pats b h = tt
    all-wider (more_pats p ps) b h = (new-wider p b.0 h.0, all-wider ps b.1 h.1)

-- An index list of names stays one with more names.
wider-index : (o p : Text → Bool) → Fewer o p → (es : Exs) → IsPlainIndex o es → IsPlainIndex p es
wider-index o p f no_exs h = tt
wider-index o p f (more_exs (number_ex n) es) h = wider-index o p f es h
wider-index o p f (more_exs (name_ex a) es) h = (f a h.0, wider-index o p f es h.1)
wider-index o p f (more_exs _ es) h = absurd h

-- ---- trees

-- Names in scope, those bound over domains, and more of both.
pub record Wider (n s t o p : Text → Bool) : Type 0 where
  pub fewer : Fewer s t
  pub plain : Fewer o p
  pub among : Among t s n

both-with : (n s t o p : Text → Bool) (q : Pat) → Wider n s t o p →
    Wider n (with_names s q) (with_names t q) (with_names o q) (with_names p q)
both-with n s t o p q w = record {
  fewer = fewer-with s t q w.fewer;
  plain = fewer-with o p q w.plain;
  among = among-with t s n q w.among;
}

one-with : (n s t o p : Text → Bool) (q : Pat) → Wider n s t o p → Wider n (with_names s q) (with_names t q) o p
one-with n s t o p q w = record { fewer = fewer-with s t q w.fewer; plain = w.plain; among = among-with t s n q w.among }

module _ (z n : Text → Bool) where
  mutual
    pub wider : (e : Ex) (s t o p : Text → Bool) → Wider n s t o p → NamesAre (λ a. true) (λ a. not (n a)) e → Scoped z s o e →
        Scoped z t p e
    wider (number_ex k) s t o p w b h = tt
    wider (truth_ex k) s t o p w b h = tt
    wider (name_ex a) s t o p w b h = w.fewer a h
    wider (node_ex k op es) s t o p w b h = wider-exs es s t o p w b h
    wider (matrix_ex es d) s t o p w b h = (wider-exs es s t o p w b.0 h.0, wider-dom d s t o p w b.1 h.1)
    wider (comp_ex e gs) s t o p w b h =
        wider-gens gs e s t o p w b.1 (λ u v i j k l. wider e u v i j k b.0 l) h
    wider (cell_ex k c es) s t o p w b h = wider-exs es s t o p w b h
    wider (seen_ex r d ns es) s t o p w b h = (h.0, wider-index o p w.plain es h.1)

    wider-exs : (es : Exs) (s t o p : Text → Bool) → Wider n s t o p → NamesAreExs (λ a. true) (λ a. not (n a)) es → ScopedExs z s o es →
        ScopedExs z t p es
    wider-exs no_exs s t o p w b h = tt
    wider-exs (more_exs e es) s t o p w b h = (wider e s t o p w b.0 h.0, wider-exs es s t o p w b.1 h.1)

    wider-gens : (gs : Gens) (e : Ex) (s t o p : Text → Bool) → Wider n s t o p → NamesAreGens (λ a. true) (λ a. not (n a)) gs →
        ((u v i j : Text → Bool) → Wider n u v i j → Scoped z u i e → Scoped z v j e) →
        ScopedGens z s o gs (λ u i. Scoped z u i e) → ScopedGens z t p gs (λ u i. Scoped z u i e)
    wider-gens no_gens x s t o p w b k h = k s t o p w h
    wider-gens (over q d gs) x s t o p w b k h = (
      new-wider s t n w.among q b.0 h.0,
      wider-dom d s t o p w b.1 h.1,
      wider-gens gs x (with_names s q) (with_names t q) (with_names o q) (with_names p q) (both-with n s t o p q w) b.2 k h.2,
    )
    wider-gens (from q e gs) x s t o p w b k h = (
      new-wider s t n w.among q b.0 h.0,
      wider e s t o p w b.1 h.1,
      wider-gens gs x (with_names s q) (with_names t q) o p (one-with n s t o p q w) b.2 k h.2,
    )
    wider-gens (cond e gs) x s t o p w b k h = (wider e s t o p w b.0 h.0, wider-gens gs x s t o p w b.1 k h.1)

    wider-dom : (d : Dom) (s t o p : Text → Bool) → Wider n s t o p → NamesAreDom (λ a. true) (λ a. not (n a)) d → ScopedDom z s o d →
        ScopedDom z t p d
    wider-dom bool_dom s t o p w b h = tt
    wider-dom (int_dom rs es) s t o p w b h = wider-exs es s t o p w b h
    wider-dom (name_dom a) s t o p w b h = tt
    wider-dom (tuple_dom ds) s t o p w b h = wider-doms ds s t o p w b h
    wider-dom (record_dom fs ds) s t o p w b h = wider-doms ds s t o p w b h
    wider-dom (matrix_dom is d) s t o p w b h = (wider-doms is s t o p w b.0 h.0, wider-dom d s t o p w b.1 h.1)
    wider-dom (set_dom ms es d) s t o p w b h = (wider-exs es s t o p w b.0 h.0, wider-dom d s t o p w b.1 h.1)
    wider-dom (mset_dom ms es d) s t o p w b h = (wider-exs es s t o p w b.0 h.0, wider-dom d s t o p w b.1 h.1)
    wider-dom (function_dom ms es d c) s t o p w b h =
        (wider-exs es s t o p w b.0 h.0, wider-dom d s t o p w b.1 h.1, wider-dom c s t o p w b.2 h.2)
    wider-dom (relation_dom ms es ds) s t o p w b h = (wider-exs es s t o p w b.0 h.0, wider-doms ds s t o p w b.1 h.1)
    wider-dom (partition_dom ms es d) s t o p w b h = (wider-exs es s t o p w b.0 h.0, wider-dom d s t o p w b.1 h.1)

    wider-doms : (ds : Doms) (s t o p : Text → Bool) → Wider n s t o p → NamesAreDoms (λ a. true) (λ a. not (n a)) ds →
        ScopedDoms z s o ds → ScopedDoms z t p ds
    wider-doms no_doms s t o p w b h = tt
    wider-doms (more_doms d ds) s t o p w b h = (wider-dom d s t o p w b.0 h.0, wider-doms ds s t o p w b.1 h.1)

-- ---- one more name

-- A new name is in scope behind its generator.
pub bound : (x : Text) (u : Text → Bool) → IsTrue (with_names u (name_pat x) x)
bound x u = ap (λ b. u x || b) (same_text-itself x) ∙ or-yes (u x)

-- Names that a pattern binds are in scope behind it, also those bound over a domain or not.
behind-with : (p : Pat) (s o : Text → Bool) → Wider (is_bound p) s (with_names s p) o (with_names o p)
behind-with p s o = record {
  fewer = λ a h. ap (λ b. b || is_bound p a) h;
  plain = λ a h. ap (λ b. b || is_bound p a) h;
  among = λ a h. h;
}

behind-from : (p : Pat) (s o : Text → Bool) → Wider (is_bound p) s (with_names s p) o o
behind-from p s o = record { fewer = λ a h. ap (λ b. b || is_bound p a) h; plain = λ a h. h; among = λ a h. h }

module _ (z : Text → Bool) where
  -- A tree that doesn't bind what a pattern binds stays in scope behind a generator of the pattern: over a source, and over a domain.
  pub behind : (p : Pat) (s o : Text → Bool) (e : Ex) → NamesAre (λ a. true) (λ a. not (is_bound p a)) e → Scoped z s o e →
      Scoped z (with_names s p) o e
  behind p s o e b h = wider z (is_bound p) e s (with_names s p) o o (behind-from p s o) b h

  pub behind-domain : (p : Pat) (s o : Text → Bool) (e : Ex) → NamesAre (λ a. true) (λ a. not (is_bound p a)) e → Scoped z s o e →
      Scoped z (with_names s p) (with_names o p) e
  behind-domain p s o e b h = wider z (is_bound p) e s (with_names s p) o (with_names o p) (behind-with p s o) b h

  -- So does a domain.
  pub domain-behind : (p : Pat) (s o : Text → Bool) (d : Dom) → NamesAreDom (λ a. true) (λ a. not (is_bound p a)) d → ScopedDom z s o d →
      ScopedDom z (with_names s p) (with_names o p) d
  domain-behind p s o d b h = wider-dom z (is_bound p) d s (with_names s p) o (with_names o p) (behind-with p s o) b h

  pub domains-behind : (p : Pat) (s o : Text → Bool) (ds : Doms) → NamesAreDoms (λ a. true) (λ a. not (is_bound p a)) ds →
      ScopedDoms z s o ds → ScopedDoms z (with_names s p) (with_names o p) ds
  domains-behind p s o ds b h = wider-doms z (is_bound p) ds s (with_names s p) o (with_names o p) (behind-with p s o) b h

-- ---- scopes with the same names

mutual
  any-pat : (p : Pat) → Binds (λ a. true) p
  any-pat (name_pat a) = refl
  any-pat (tuple_pat ps) = any-pats ps

  any-pats : (ps : Pats) → BindsAll (λ a. true) ps
  any-pats no_pats = tt
  any-pats (more_pats p ps) = (any-pat p, any-pats ps)

mutual
  -- Each tree has some names.
  any-names : (e : Ex) → NamesAre (λ a. true) (λ a. true) e
  any-names (number_ex n) = tt
  any-names (truth_ex b) = tt
  any-names (name_ex a) = refl
  any-names (node_ex b op es) = any-exs es
  any-names (matrix_ex es d) = (any-exs es, any-dom d)
  any-names (comp_ex e gs) = (any-names e, any-gens gs)
  any-names (cell_ex b n es) = any-exs es
  any-names (seen_ex r d ns es) = (any-dom d, any-exs es)

  any-exs : (es : Exs) → NamesAreExs (λ a. true) (λ a. true) es
  any-exs no_exs = tt
  any-exs (more_exs e es) = (any-names e, any-exs es)

  any-gens : (gs : Gens) → NamesAreGens (λ a. true) (λ a. true) gs
  any-gens no_gens = tt
  any-gens (over p d gs) = (any-pat p, any-dom d, any-gens gs)
  any-gens (from p e gs) = (any-pat p, any-names e, any-gens gs)
  any-gens (cond e gs) = (any-names e, any-gens gs)

  any-dom : (d : Dom) → NamesAreDom (λ a. true) (λ a. true) d
  any-dom bool_dom = tt
  any-dom (int_dom rs es) = any-exs es
  any-dom (name_dom a) = tt
  any-dom (tuple_dom ds) = any-doms ds
  any-dom (record_dom fs ds) = any-doms ds
  any-dom (matrix_dom is d) = (any-doms is, any-dom d)
  any-dom (set_dom ms es d) = (any-exs es, any-dom d)
  any-dom (mset_dom ms es d) = (any-exs es, any-dom d)
  any-dom (function_dom ms es d c) = (any-exs es, any-dom d, any-dom c)
  any-dom (relation_dom ms es ds) = (any-exs es, any-doms ds)
  any-dom (partition_dom ms es d) = (any-exs es, any-dom d)

  any-doms : (ds : Doms) → NamesAreDoms (λ a. true) (λ a. true) ds
  any-doms no_doms = tt
  any-doms (more_doms d ds) = (any-dom d, any-doms ds)

-- A comprehension stays in scope where the same names are, however they are told, and more of them are bound over domains.
pub equal-scopes : (z s t o p : Text → Bool) → Fewer s t → Fewer t s → Fewer o p → (e : Ex) → Scoped z s o e → Scoped z t p e
equal-scopes z s t o p f g k e h = wider z (λ a. false) e s t o p (record {
  fewer = f;
  plain = k;
  among = λ a q. ap (λ b. b || false) (g a q);
}) (any-names e) h
