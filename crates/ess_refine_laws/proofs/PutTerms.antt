-- With a term for a bound name a tree stays in scope, also behind generators that stand before it.
use Rattle.std.proofs.Common.{◌≡◌, refl, sym, ap, ◌∙◌, Bool, true, false, ◌||◌, not, if◌then◌else◌}
use Rattle.ess_semantics.specs.Values.{Text}
use Rattle.ess_semantics.specs.Order.{same_text}
use Rattle.ess_semantics.specs.Trees.{Pat, name_pat, Ex, Exs, number_ex, truth_ex, name_ex, node_ex, matrix_ex, comp_ex, cell_ex, seen_ex, no_exs, more_exs, Gens, no_gens, over, from, cond, Dom, Doms, bool_dom, int_dom, name_dom, tuple_dom, record_dom, matrix_dom, set_dom, mset_dom, function_dom, relation_dom, partition_dom, no_doms, more_doms}
use Rattle.ess_semantics.specs.Scoped.{with_names, IsPlainIndex, Scoped, ScopedExs, ScopedGens, ScopedDom, ScopedDoms}
use Rattle.ess_semantics.specs.Substitution.{substitute, substitute_exs, substitute_gens, substitute_dom, substitute_doms, for_name, NamesAre, NamesAreExs, NamesAreGens, NamesAreDom, NamesAreDoms}
use Rattle.ess_rules_laws.specs.SpliceRules.{append_gens}
use Rattle.ess_rules_laws.proofs.Agreement.{same_text-equal}
use Rattle.ess_refine_laws.proofs.WiderScopes.{new-wider, wider, bound}
use Rattle.ess_refine_laws.proofs.PutScopes.{no, twice, either-left, either-right, one-of, Grown, grown-both, grown-one, Puts, puts-both, puts-one, names-dom}

module _ (m : (Text → Bool) → Type 0) (grow : (p : Text → Bool) (q : Pat) → m p → m (with_names p q)) (z u : Text → Bool) (y : Text)
    (w : Ex) (zy : z y ≡ false)
    (as-index : (p : Text → Bool) → m p → (es : Exs) → IsPlainIndex p es → IsPlainIndex p (more_exs w es)) where
  -- An index list of a view with the term for the name.
  index-put : (o p : Text → Bool) → ((a : Text) → same_text y a ≡ false → o a ≡ true → p a ≡ true) → (o y ≡ true → m p) → (es : Exs) →
      IsPlainIndex o es → IsPlainIndex p (substitute_exs (for_name y w) es)
  index-put o p f d no_exs h = tt
  index-put o p f d (more_exs (number_ex n) es) h = index-put o p f d es h
  index-put o p f d (more_exs (name_ex a) es) h = go (same_text y a) refl (index-put o p f d es h.1)
    where
      go : (b : Bool) → same_text y a ≡ b → IsPlainIndex p (substitute_exs (for_name y w) es) →
          IsPlainIndex p (more_exs (if b then w else name_ex a) (substitute_exs (for_name y w) es))
      go true q k = as-index p (d (ap o (same_text-equal y a q) ∙ h.0)) (substitute_exs (for_name y w) es) k
      go false q k = (f a q h.0, k)
  index-put o p f d (more_exs _ es) h = absurd h

  module _ (t0 p0 : Text → Bool) (item : Scoped z t0 p0 w) (binds : NamesAre (λ a. true) (λ a. not (u a)) w) where
    mutual
      pub put : (e : Ex) (s t o p : Text → Bool) → Puts m u y t0 p0 s t o p → NamesAre (λ a. true) u e → Scoped z s o e →
          Scoped z t p (substitute (for_name y w) e)
      put (number_ex n) s t o p k b h = tt
      put (truth_ex c) s t o p k b h = tt
      put (name_ex a) s t o p k b h = go (same_text y a) refl
        where
          go : (c : Bool) → same_text y a ≡ c → Scoped z t p (if c then w else name_ex a)
          go true q = wider z u w t0 t p0 p k.wide binds item
          go false q = k.kept a q h
      put (node_ex c op es) s t o p k b h = put-exs es s t o p k b h
      put (matrix_ex es d) s t o p k b h = (put-exs es s t o p k b.0 h.0, put-dom d s t o p k b.1 h.1)
      put (comp_ex e gs) s t o p k b h = put-gens gs e s t o p k b.1 (λ v x i j l m. put e v x i j l b.0 m) h
      put (cell_ex c n es) s t o p k b h = put-exs es s t o p k b h
      put (seen_ex r d ns es) s t o p k b h = (names-dom z y zy w d h.0, index-put o p k.plain k.indexed es h.1)

      put-exs : (es : Exs) (s t o p : Text → Bool) → Puts m u y t0 p0 s t o p → NamesAreExs (λ a. true) u es → ScopedExs z s o es →
          ScopedExs z t p (substitute_exs (for_name y w) es)
      put-exs no_exs s t o p k b h = tt
      put-exs (more_exs e es) s t o p k b h = (put e s t o p k b.0 h.0, put-exs es s t o p k b.1 h.1)

      pub put-gens : (gs : Gens) (e : Ex) (s t o p : Text → Bool) → Puts m u y t0 p0 s t o p → NamesAreGens (λ a. true) u gs →
          ((v x i j : Text → Bool) → Puts m u y t0 p0 v x i j → Scoped z v i e → Scoped z x j (substitute (for_name y w) e)) →
          ScopedGens z s o gs (λ v i. Scoped z v i e) →
          ScopedGens z t p (substitute_gens (for_name y w) gs) (λ v i. Scoped z v i (substitute (for_name y w) e))
      put-gens no_gens e s t o p k b f h = f s t o p k h
      put-gens (over q d gs) e s t o p k b f h = (
        new-wider s t (λ a. not (u a)) k.among q (twice u q b.0) h.0,
        put-dom d s t o p k b.1 h.1,
        put-gens gs e (with_names s q) (with_names t q) (with_names o q) (with_names p q)
            (puts-both m grow u y t0 p0 s t o p q b.0 h.0 k) b.2 f h.2,
      )
      put-gens (from q x gs) e s t o p k b f h = (
        new-wider s t (λ a. not (u a)) k.among q (twice u q b.0) h.0,
        put x s t o p k b.1 h.1,
        put-gens gs e (with_names s q) (with_names t q) o p (puts-one m grow u y t0 p0 s t o p q b.0 h.0 k) b.2 f h.2,
      )
      put-gens (cond x gs) e s t o p k b f h = (put x s t o p k b.0 h.0, put-gens gs e s t o p k b.1 f h.1)

      put-dom : (d : Dom) (s t o p : Text → Bool) → Puts m u y t0 p0 s t o p → NamesAreDom (λ a. true) u d → ScopedDom z s o d →
          ScopedDom z t p (substitute_dom (for_name y w) d)
      put-dom bool_dom s t o p k b h = tt
      put-dom (int_dom rs es) s t o p k b h = put-exs es s t o p k b h
      put-dom (name_dom a) s t o p k b h = tt
      put-dom (tuple_dom ds) s t o p k b h = put-doms ds s t o p k b h
      put-dom (record_dom fs ds) s t o p k b h = put-doms ds s t o p k b h
      put-dom (matrix_dom is d) s t o p k b h = (put-doms is s t o p k b.0 h.0, put-dom d s t o p k b.1 h.1)
      put-dom (set_dom ms es d) s t o p k b h = (put-exs es s t o p k b.0 h.0, put-dom d s t o p k b.1 h.1)
      put-dom (mset_dom ms es d) s t o p k b h = (put-exs es s t o p k b.0 h.0, put-dom d s t o p k b.1 h.1)
      put-dom (function_dom ms es d c) s t o p k b h =
          (put-exs es s t o p k b.0 h.0, put-dom d s t o p k b.1 h.1, put-dom c s t o p k b.2 h.2)
      put-dom (relation_dom ms es ds) s t o p k b h = (put-exs es s t o p k b.0 h.0, put-doms ds s t o p k b.1 h.1)
      put-dom (partition_dom ms es d) s t o p k b h = (put-exs es s t o p k b.0 h.0, put-dom d s t o p k b.1 h.1)

      put-doms : (ds : Doms) (s t o p : Text → Bool) → Puts m u y t0 p0 s t o p → NamesAreDoms (λ a. true) u ds → ScopedDoms z s o ds →
          ScopedDoms z t p (substitute_doms (for_name y w) ds)
      put-doms no_doms s t o p k b h = tt
      put-doms (more_doms d ds) s t o p k b h = (put-dom d s t o p k b.0 h.0, put-doms ds s t o p k b.1 h.1)

-- ---- behind generators of its own

-- A term that is no index of a view.
module _ (z u : Text → Bool) (y : Text) (w : Ex) (zy : z y ≡ false) where
  module _ (e : Ex) (hs : Gens) (s0 o0 : Text → Bool) (apart : o0 y ≡ false) (binds : NamesAre (λ a. true) (λ a. not (u a)) w)
      (be : NamesAre (λ a. true) u (comp_ex e hs))
      (tail : ScopedGens z (with_names s0 (name_pat y)) o0 hs (λ v i. Scoped z v i e)) where
    -- The tail with the term, once the generators of the term stand before it.
    tail-put : (t p : Text → Bool) → Grown u s0 t o0 p → Scoped z t p w →
        ScopedGens z t p (substitute_gens (for_name y w) hs) (λ v i. Scoped z v i (substitute (for_name y w) e))
    tail-put t p k item = put (λ i. ⊥) (λ i q h. h) z u y w zy (λ i h es l. absurd h) t p item binds (comp_ex e hs) (with_names s0 (name_pat y)) t o0 p (record {
      kept = λ a d h. one-of (s0 a) (same_text y a) h (k.fewer a) (λ m. no (let j : false ≡ true = differ a d m in cc));
      plain = λ a d h. k.plain a h;
      indexed = λ h. no (sym apart ∙ h);
      there = bound y s0;
      among = λ a h. one-of (s0 a) (not (u a)) (k.among a h)
          (λ m. either-left (s0 a || same_text y a) (not (u a)) (either-left (s0 a) (same_text y a) m))
          (either-right (s0 a || same_text y a) (not (u a)));
      wide = record { fewer = λ a h. h; plain = λ a h. h; among = λ a h. either-left (t a) (u a) h };
    }) be tail
      where
        differ : (a : Text) → same_text y a ≡ false → same_text y a ≡ true → false ≡ true
        differ a d m = cc

    behind-gens : (ks : Gens) (t p : Text → Bool) → Grown u s0 t o0 p → NamesAreGens (λ a. true) (λ a. not (u a)) ks →
        ScopedGens z t p ks (λ v i. Scoped z v i w) →
        ScopedGens z t p (append_gens ks (substitute_gens (for_name y w) hs)) (λ v i. Scoped z v i (substitute (for_name y w) e))
    behind-gens no_gens t p k b h = tail-put t p k h
    behind-gens (over q d ks) t p k b h =
        (h.0, h.1, behind-gens ks (with_names t q) (with_names p q) (grown-both u s0 t o0 p q b.0 k) b.2 h.2)
    behind-gens (from q x ks) t p k b h = (h.0, h.1, behind-gens ks (with_names t q) p (grown-one u s0 t o0 p q b.0 k) b.2 h.2)
    behind-gens (cond c ks) t p k b h = (h.0, behind-gens ks t p k b.1 h.1)

    -- The comprehension with the term and its generators.
    pub put-listed-scoped : (ks : Gens) → NamesAreGens (λ a. true) (λ a. not (u a)) ks → ScopedGens z s0 o0 ks (λ v i. Scoped z v i w) →
        Scoped z s0 o0 (comp_ex (substitute (for_name y w) e) (append_gens ks (substitute_gens (for_name y w) hs)))
    put-listed-scoped ks b h = behind-gens ks s0 o0 (record {
      fewer = λ a k. k;
      plain = λ a k. k;
      among = λ a k. either-left (s0 a) (not (u a)) k;
    }) b h
