-- What the set of the items of a comprehension offers over the domain of an atom stays in scope.
use Rattle.std.specs.Prelude.{IsTrue}
use Rattle.std.proofs.Common.{◌≡◌, refl, ap, ◌∙◌, Bool, true, false, ◌||◌, not}
use Rattle.ess_semantics.specs.Values.{Text}
use Rattle.ess_semantics.specs.Order.{same_text}
use Rattle.ess_semantics.specs.Trees.{name_pat, Ex, Exs, name_ex, comp_ex, more_exs, Gens, over, Dom}
use Rattle.ess_semantics.specs.Scoped.{with_names, is_bound, IsPlainIndex, Scoped}
use Rattle.ess_semantics.specs.Substitution.{substitute, for_name}
use Rattle.ess_rules_laws.specs.ListedSources.{laid_out}
use Rattle.ess_rules_laws.proofs.Agreement.{same_text-equal, same_text-itself}
use Rattle.ess_refine_laws.specs.ScopesOfRules.{BindsNone}
use Rattle.ess_refine_laws.specs.ItemsOnce.{items_over}
use Rattle.ess_refine_laws.proofs.WiderScopes.{bound, behind, behind-domain}
use Rattle.ess_refine_laws.proofs.PutScopes.{no, one-of, either-left, either-right}
use Rattle.ess_refine_laws.proofs.PutTerms.{put}

-- ---- new names

-- Names that differ do so either way round.
turned : (a b : Text) → same_text a b ≡ false → same_text b a ≡ false
turned a b h = go (same_text b a) refl
  where
    go : (c : Bool) → same_text b a ≡ c → c ≡ false
    go true q = let i : b ≡ a = same_text-equal b a q in let j : same_text a b ≡ true = ap (same_text a) i ∙ same_text-itself a in cc
    go false q = refl

-- A new name is new behind another one.
new-behind : (s : Text → Bool) (a b : Text) → IsTrue (not (s b)) → same_text a b ≡ false → IsTrue (not (with_names s (name_pat a) b))
new-behind s a b n d = ap (λ c. not (s b || c)) d ∙ go (s b) n
  where
    go : (c : Bool) → IsTrue (not c) → not (c || false) ≡ true
    go true h = h
    go false h = refl

-- A name in scope stays there.
stays : (s : Text → Bool) (a b : Text) → IsTrue (s b) → IsTrue (with_names s (name_pat a) b)
stays s a b h = either-left (s b) (same_text a b) h

-- ---- another name in the place of one

module _ (z s o : Text → Bool) (x w : Text) (zx : z x ≡ false) where
  -- What stands behind a generator of x over a domain stands behind one of w, with w in the place of x.
  renamed : (e : Ex) → BindsNone (same_text w) e → Scoped z (with_names s (name_pat x)) (with_names o (name_pat x)) e →
      Scoped z (with_names s (name_pat w)) (with_names o (name_pat w)) (substitute (for_name x (name_ex w)) e)
  renamed e b h = put (λ p. IsTrue (p w)) (λ p q k. either-left (p w) (is_bound q w) k) z (λ a. not (same_text w a)) x (name_ex w) zx
      (λ p k es i. (k, i)) (with_names s (name_pat w)) (with_names o (name_pat w)) (bound w s) refl e
      (with_names s (name_pat x)) (with_names s (name_pat w)) (with_names o (name_pat x)) (with_names o (name_pat w))
      (record {
        kept = kept s;
        plain = kept o;
        indexed = λ k. bound w o;
        there = bound x s;
        among = λ a h. one-of (s a) (same_text w a) h
            (λ k. either-left (s a || same_text x a) (not (not (same_text w a))) (either-left (s a) (same_text x a) k))
            (λ k. either-right (s a || same_text x a) (not (not (same_text w a))) (ap (λ c. not (not c)) k));
        wide = record {
          fewer = λ a h. h;
          plain = λ a h. h;
          among = λ a h. either-left (with_names s (name_pat w) a) (not (same_text w a)) h;
        };
      }) b h
    where
      kept : (t : Text → Bool) (a : Text) → same_text x a ≡ false → t a || same_text x a ≡ true → t a || same_text w a ≡ true
      kept t a d h = one-of (t a) (same_text x a) h (either-left (t a) (same_text w a)) (λ k. no (let j : false ≡ true = differ a d k in j))
        where
          differ : (a : Text) → same_text x a ≡ false → same_text x a ≡ true → false ≡ true
          differ a d k = cc

-- ---- over the domain of an atom

module _ (z s o : Text → Bool) (y q w x : Text) (ny : IsTrue (not (s y))) (nq : IsTrue (not (s q))) (nw : IsTrue (not (s w)))
    (yq : same_text y q ≡ false) (yw : same_text y w ≡ false) (qw : same_text q w ≡ false) (zx : z x ≡ false) where
  -- Behind the generators of w and of y.
  abbrev All : Text → Bool
  All = with_names (with_names s (name_pat w)) (name_pat y)

  abbrev Domains : Text → Bool
  Domains = with_names o (name_pat w)

  pub over-scoped : (d : Dom) (e : Ex) (gs : Gens) → BindsNone (same_text y) (comp_ex e (over (name_pat x) d gs)) →
      BindsNone (same_text w) (comp_ex e (over (name_pat x) d gs)) → Scoped z s o (comp_ex e (over (name_pat x) d gs)) →
      Scoped z s o (laid_out (items_over y q w x d e gs))
  over-scoped d e gs by bw h = (
    nw,
    h.1,
    (
      new-behind s w y ny (turned y w yw),
      (renamed z s o x w zx (comp_ex e gs) (bw.0, bw.1.2) h.2, tt),
      (
        (
          (
            new-behind (with_names s (name_pat w)) y q (new-behind s w q nq (turned q w qw)) yq,
            (later.0, later.1, ((bound x All, (stays All x w (stays (with_names s (name_pat w)) y w (bound w s)), tt)), later.2)),
            ((bound q All, (stays All q y (bound y (with_names s (name_pat w))), tt)), tt),
          ),
          tt,
        ),
        bound y (with_names s (name_pat w)),
      ),
    ),
  )
    where
      -- The comprehension behind both names.
      later : Scoped z All Domains (comp_ex e (over (name_pat x) d gs))
      later = behind z (name_pat y) (with_names s (name_pat w)) Domains (comp_ex e (over (name_pat x) d gs)) by
          (behind-domain z (name_pat w) s o (comp_ex e (over (name_pat x) d gs)) bw h)
