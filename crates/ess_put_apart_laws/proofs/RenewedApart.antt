-- Bound names are apart where a source is told apart anew.
use Rattle.std.proofs.Common.{◌≡◌, refl, sym, ap, subst, ℕ, ◌<◌, ◌≤◌, ◌^◌, Bool, true, false, ◌&&◌, ◌||◌, not, [], arith}
use Rattle.std.specs.Prelude.{IsTrue}
use Rattle.ess_semantics.specs.declared.words.Fun.{Fun}
use Rattle.ess_semantics.specs.Values.{Text}
use Rattle.ess_semantics.specs.Order.{same_text}
use Rattle.ess_semantics.specs.Trees.{name_pat, Op, Ex, Exs, node_ex, comp_ex, fun1, Gens, from}
use Rattle.ess_semantics.specs.Substitution.{NamesAre}
use Rattle.ess_semantics.proofs.Texts.{same_text-itself}
use Rattle.ess_rules_laws.specs.SourceRules.{ItemsApart}
use Rattle.ess_rules_laws.specs.SpliceRules.{NamesApart}
use Rattle.ess_rules_laws.proofs.UsedNames.{names-map, names-map-exs, names-map-gens}
use Rattle.conjure_model_laws.specs.ToldApart.{reserved, told, told_apart}
use Rattle.ess_told_over_laws.specs.ToldOverTables.{IsScopedBelow}
use Rattle.ess_told_over_laws.proofs.Renamed.{or-left, or-right}
use Rattle.ess_put_apart_laws.specs.RenewedApart.{ViewsBindNone, Behind, RenewedSourcesAreApart}
use Rattle.ess_put_apart_laws.proofs.ToldUses.{told-uses}

double-not : (b : Bool) → IsTrue b → IsTrue (not (not b))
double-not true h = refl
double-not false h = cc

-- What is in v and not in scope is none of the put names.
kept-out : (v s : Bool) → IsTrue (v && not s) → IsTrue (not (s || not v))
kept-out true true h = cc
kept-out true false h = refl
kept-out false s h = cc

module _ (z s o v : Text → Bool) (j : ℕ) (y : Text) (e t : Ex) (hs : Gens) (i : IsScopedBelow z s o j t) (n : ViewsBindNone z t)
    (l : (told t [] j).1 ≤ 2 ^ 64) (k : Behind v s y j e hs) where
  -- New names, and those that may stand for y.
  abbrev fresh : Text → Bool
  fresh a = not (v a)

  abbrev put : Text → Bool
  put a = (s a || same_text y a) || not (v a)

  fresh-one : (x : ℕ) → j ≤ x → x < (told t [] j).1 → IsTrue (fresh (reserved x))
  fresh-one x m q = ap not (k.spared x m (below x (told t [] j).1 (2 ^ 64) q l))
    where
      below : (a b c : ℕ) → a < b → b ≤ c → a < c
      below a b c p q = omega (arith, p, q)

  put-one : (x : ℕ) → j ≤ x → x < (told t [] j).1 → IsTrue (put (reserved x))
  put-one x m q = or-right (s (reserved x) || same_text y (reserved x)) (not (v (reserved x))) (fresh-one x m q)

  in-scope : (c : Text) → IsTrue (s c) → IsTrue (put c)
  in-scope c h = or-left (s c || same_text y c) (not (v c)) (or-left (s c) (same_text y c) h)

  source-uses : NamesAre put fresh (told_apart j t)
  source-uses = told-uses z put fresh j (told t [] j).1 (λ c h. in-scope c (i.around c h)) put-one fresh-one t s o [] j i.scoped n
      (itself j) (itself (told t [] j).1) i.within in-scope
    where
      itself : (a : ℕ) → a ≤ a
      itself a = omega arith

  has-y : IsTrue (put y)
  has-y = or-left (s y || same_text y y) (not (v y)) (or-right (s y) (same_text y y) (same_text-itself y))

  out : (a : Text) → IsTrue (v a && not (s a || same_text y a)) → IsTrue (not (put a))
  out a h = kept-out (v a) (s a || same_text y a) h

  spliced : (h : Ex) (ks : Gens) → told_apart j t ≡ comp_ex h ks → NamesApart fresh put (comp_ex e (from (name_pat y) (told_apart j t) hs))
  spliced h ks q =
      subst (λ x. NamesApart fresh put (comp_ex e (from (name_pat y) x hs))) (sym q) (go (subst (NamesAre put fresh) q source-uses))
    where
      go : NamesAre put fresh (comp_ex h ks) → NamesApart fresh put (comp_ex e (from (name_pat y) (comp_ex h ks) hs))
      go w = (
        has-y,
        names-map put put fresh (λ a. true) (λ a h. h) (λ a h. refl) h w.0,
        names-map-gens put (λ a. true) fresh fresh (λ a h. refl) (λ a h. h) ks w.1,
        names-map-gens v (λ a. not (fresh a)) (λ a. v a && not (s a || same_text y a)) (λ a. not (put a)) (λ a h. double-not (v a) h)
            out hs k.gens,
        names-map v (λ a. not (fresh a)) (λ a. v a && not (s a || same_text y a)) (λ a. not (put a)) (λ a h. double-not (v a) h)
            out e k.body,
      )

  literal : (m b : Bool) (f : Fun) (op : Op) (es : Exs) → told_apart j t ≡ node_ex b op es →
      ItemsApart put (fun1 m f (comp_ex e (from (name_pat y) (told_apart j t) hs)))
  literal m b f op es q =
      subst (λ x. ItemsApart put (fun1 m f (comp_ex e (from (name_pat y) x hs)))) (sym q) (go (subst (NamesAre put fresh) q source-uses))
    where
      go : NamesAre put fresh (node_ex b op es) → ItemsApart put (fun1 m f (comp_ex e (from (name_pat y) (node_ex b op es) hs)))
      go w = (
        has-y,
        names-map-exs put put fresh (λ a. true) (λ a h. h) (λ a h. refl) es w,
        names-map-gens v (λ a. true) (λ a. v a && not (s a || same_text y a)) (λ a. not (put a)) (λ a h. refl) out hs k.gens,
        names-map v (λ a. true) (λ a. v a && not (s a || same_text y a)) (λ a. not (put a)) (λ a h. refl) out e k.body,
      )

-- What is proved of them.
pub renewed-sources-are-apart : RenewedSourcesAreApart
renewed-sources-are-apart = record {
  of_comprehensions = λ z s o v j y e t h ks hs i n l k q.
      ((λ a. not (v a)), (λ a. (s a || same_text y a) || not (v a)), spliced z s o v j y e t hs i n l k h ks q);
  of_literals = λ z s o v j y e t hs m b f op es i n l k q.
      ((λ a. (s a || same_text y a) || not (v a)), literal z s o v j y e t hs i n l k m b f op es q);
}
