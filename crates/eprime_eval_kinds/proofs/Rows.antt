-- Rows of expressions and of ranges, one item behind the other.
use Rattle.std.proofs.Common.{◌≡◌, refl, sym, ap, ◌∙◌, subst, ℕ, ◌+◌, ◌<◌, ◌≤◌, List, [], ◌∷◌, ◌++◌, map, take, length, get_or, Option, Some, None, option_map}
use Rattle.std.proofs.lemmas.List.{map-append, take_more, take_all}
use Rattle.ess_semantics.specs.Lists.{append_all}
use Rattle.ess_semantics.specs.Values.{Text}
use Rattle.ess_semantics.specs.Names.{Names}
use Rattle.ess_semantics.specs.Trees as pure
use Rattle.ess_semantics.specs.Trees.{no_exs, more_exs, name_ex, bool_dom, int_dom, one_value, both_ends, low_end, high_end}
use Rattle.ess_semantics.specs.Types.{Ty}
use Rattle.ess_semantics.specs.DeclaredTables.{TableDecl}
use Rattle.ess_semantics.specs.ModelMeaning as model
use Rattle.ess_semantics.specs.ModelMeaning.{as_bound}
use Rattle.eprime_tree.specs.declared.expressions.PEx.{PEx}
use Rattle.eprime_tree.specs.declared.expressions.PRange.{PRange}
use Rattle.eprime_tree.specs.declared.expressions.PDom.TheVariants as dom
use Rattle.eprime_tree.specs.declared.expressions.PRange.TheVariants as range
use Rattle.eprime_tree.specs.Views.{Bounds, exs_of, int_of, no_bound, span, pure_ex, pure_range}
use Rattle.eprime_tree.proofs.Equations.{pure_dom-Bool, pure_dom-Int, pure_range-One, pure_range-Span}
use Rattle.eprime_eval_kinds.specs.declared.declared.Shape.{Shape}
use Rattle.eprime_eval_kinds.specs.declared.nodes.KindedEx.{KindedEx}
use Rattle.eprime_eval_kinds.specs.declared.lists.KindedRow.{KindedRow}
use Rattle.eprime_eval_kinds.specs.declared.tree.KEx.{KEx}
use Rattle.eprime_eval_kinds.specs.declared.tree.KRange.{KRange}
use Rattle.eprime_eval_kinds.specs.declared.tree.KDom.TheVariants as kdom
use Rattle.eprime_eval_kinds.specs.declared.tree.KRange.TheVariants as krange
use Rattle.eprime_eval_kinds.specs.KindedViews.{pure_kex, pure_krange, pure_kind, pure_kinded}
use Rattle.eprime_eval_kinds.specs.KindedLists.{pure_row}
use Rattle.eprime_eval_kinds.specs.Shapes.{names_of}
use Rattle.eprime_eval_kinds.specs.Kinding.{ends_of, bounds_by, IsKinded, AreKinded, IsKindedBound, IsKindedEnd, IsKindedDom, IsKindedRange, AreKindedRanges}
use Rattle.eprime_eval_kinds.proofs.KindedEquations.{pure_kdom_bool, pure_kdom_int, pure_krange_one}

-- ---- expressions

-- One behind the others.
abbrev put_behind : pure.Exs → pure.Ex → pure.Exs
put_behind no_exs e = more_exs e no_exs
put_behind (more_exs x xs) e = more_exs x (put_behind xs e)

exs-behind : (xs : List pure.Ex) (e : pure.Ex) → exs_of (xs ++ e ∷ []) ≡ put_behind (exs_of xs) e
exs-behind [] e = refl
exs-behind (x ∷ xs) e = ap (more_exs x) (exs-behind xs e)

all-behind : (ds : List TableDecl) (g : Names Ty) (es : pure.Exs) (e : pure.Ex)
    → model.kinded_all ds (put_behind es e) g
    ≡ (put_behind (model.kinded_all ds es g).0 (model.kinded ds e g).0, (model.kinded_all ds es g).1 ++ (model.kinded ds e g).1 ∷ [])
all-behind ds g no_exs e = refl
all-behind ds g (more_exs x xs) e = ap (λ ks. (more_exs (model.kinded ds x g).0 ks.0, (model.kinded ds x g).1 ∷ ks.1))
    (all-behind ds g xs e)

row-behind : (names : List Text) (r q : KindedRow) (x : KindedEx) → q.items ≡ r.items ++ x.ex ∷ [] → q.kinds ≡ r.kinds ++ x.kind ∷ []
    → pure_row names q ≡ (put_behind (pure_row names r).0 (pure_kinded names x).0, (pure_row names r).1 ++ (pure_kinded names x).1 ∷ [])
row-behind names r q x e f =
    ap (λ xs. (exs_of (map (pure_kex names) xs), map pure_kind q.kinds)) e
    ∙ ap (λ xs. (exs_of xs, map pure_kind q.kinds)) (map-append (pure_kex names) r.items (x.ex ∷ []))
    ∙ ap (λ xs. (xs, map pure_kind q.kinds)) (exs-behind (map (pure_kex names) r.items) (pure_kex names x.ex))
    ∙ ap (λ ts. (put_behind (exs_of (map (pure_kex names) r.items)) (pure_kex names x.ex), ts))
    (ap (map pure_kind) f ∙ map-append pure_kind r.kinds (x.kind ∷ []))

behind : (ss : List Shape) (g : Names Ty) (es : List PEx) (e : PEx) (r q : KindedRow) (x : KindedEx) → AreKinded ss g es r
    → IsKinded ss g e x → q.items ≡ r.items ++ x.ex ∷ []
    → q.kinds ≡ r.kinds ++ x.kind ∷ [] → AreKinded ss g (es ++ e ∷ []) q
behind ss g es e r q x p k u v = record {
  means = λ ds s m.
      row-behind (names_of ss) r q x u v
      ∙ ap (λ y. (put_behind y.0 (pure_kinded (names_of ss) x).0, y.1 ++ (pure_kinded (names_of ss) x).1 ∷ [])) (p.means ds s m)
      ∙ ap (λ y. (
        put_behind (model.kinded_all ds (exs_of (map (pure_ex s) es)) g).0 y.0,
        (model.kinded_all ds (exs_of (map (pure_ex s) es)) g).1 ++ y.1 ∷ [],
      )) (k.means ds s m)
      ∙ sym (all-behind ds g (exs_of (map (pure_ex s) es)) (pure_ex s e))
      ∙ sym (ap (λ y. model.kinded_all ds y g)
      (ap exs_of (map-append (pure_ex s) es (e ∷ [])) ∙ exs-behind (map (pure_ex s) es) (pure_ex s e)));
}

-- None.
pub row_none : (ss : List Shape) (g : Names Ty) (r : KindedRow) → r.items ≡ [] → r.kinds ≡ [] → AreKinded ss g [] r
row_none ss g r p q = record {
  means = λ ds s m. ap (λ xs. (exs_of (map (pure_kex (names_of ss)) xs), map pure_kind r.kinds)) p
      ∙ ap (λ ts. (no_exs, map pure_kind ts)) q;
}

-- The next of a row.
pub row_more : (ss : List Shape) (g : Names Ty) (es : List PEx) (n : ℕ) (e : PEx) (r q : KindedRow) (x : KindedEx) → n < length es
    → e ≡ get_or es n e
    → AreKinded ss g (take n es) r → IsKinded ss g e x → q.items ≡ r.items ++ x.ex ∷ [] → q.kinds ≡ r.kinds ++ x.kind ∷ []
    → AreKinded ss g (take (n + 1) es) q
row_more ss g es n e r q x lt at p k u v =
    subst (λ l. AreKinded ss g l q) (sym (take_more es n e lt ∙ ap (λ y. take n es ++ y ∷ []) (sym at)))
    (behind ss g (take n es) e r q x p k u v)

-- All of a row.
pub row_all : (ss : List Shape) (g : Names Ty) (es : List PEx) (n : ℕ) (r : KindedRow) → length es ≤ n → AreKinded ss g (take n es) r
    → AreKinded ss g es r
row_all ss g es n r le p = subst (λ l. AreKinded ss g l r) (take_all n es le) p

-- ---- bounds and ranges

pub bound_kinded : (ss : List Shape) (g : Names Ty) (e : PEx) (x : KindedEx) (k : KEx) → IsKinded ss g e x
    → ((names : List Text) → pure_kex names k ≡ as_bound (pure_kinded names x))
    → IsKindedBound ss g e k
bound_kinded ss g e x k q p = record { means = λ ds s m. p (names_of ss) ∙ ap as_bound (q.means ds s m) }

pub one_range : (ss : List Shape) (g : Names Ty) (e : PEx) (k : KEx) → IsKindedBound ss g e k
    → IsKindedRange ss g (range.One e) (krange.One k)
one_range ss g e k q = record {
  means = λ ds s m.
      pure_krange_one (names_of ss) k ∙ ap (λ y. (one_value, y ∷ [])) (q.means ds s m)
      ∙ sym (ap (bounds_by (λ e. model.kinded ds e g)) (pure_range-One s e));
}

-- A bound that is missing, and one that is there.
pub end_missing : (ss : List Shape) (g : Names Ty) → IsKindedEnd ss g None None
end_missing ss g = record { means = λ ds s m. refl }

pub end_there : (ss : List Shape) (g : Names Ty) (e : PEx) (k : KEx) → IsKindedBound ss g e k → IsKindedEnd ss g (Some e) (Some k)
end_there ss g e k q = record { means = λ ds s m. ap (λ y. Some y) (q.means ds s m) }

spanned : (f : pure.Ex → model.Kinded) (p : PEx → pure.Ex) (a b : Option PEx) → as_bound (f no_bound) ≡ name_ex []
    → ends_of (option_map (λ e. as_bound (f (p e))) a) (option_map (λ e. as_bound (f (p e))) b)
    ≡ bounds_by f (span (option_map p a) (option_map p b))
spanned f p None None n = ap (λ e. (both_ends, e ∷ e ∷ [])) (sym n)
spanned f p None (Some b) n = refl
spanned f p (Some a) None n = refl
spanned f p (Some a) (Some b) n = refl

-- A range of two bounds, of which either or both may be missing.
pub span_kinded : (ss : List Shape) (g : Names Ty) (a b : Option PEx) (x y : Option KEx) (k : KRange) → IsKindedEnd ss g a x
    → IsKindedEnd ss g b y
    → ((names : List Text) → pure_krange names k ≡ ends_of (option_map (pure_kex names) x) (option_map (pure_kex names) y))
    → IsKindedRange ss g (range.Span a b) k
span_kinded ss g a b x y k q r p = record {
  means = λ ds s m.
      p (names_of ss) ∙ ap (λ o. ends_of o (option_map (pure_kex (names_of ss)) y)) (q.means ds s m)
      ∙ ap (ends_of (option_map (λ e. as_bound (model.kinded ds (pure_ex s e) g)) a)) (r.means ds s m)
      ∙ spanned (λ e. model.kinded ds e g) (pure_ex s) a b refl
      ∙ sym (ap (bounds_by (λ e. model.kinded ds e g)) (pure_range-Span s a b));
}

-- ---- several ranges

-- None.
pub ranges_none : (ss : List Shape) (g : Names Ty) → AreKindedRanges ss g [] []
ranges_none ss g = record { means = λ ds s m. refl }

ranges-behind : (ss : List Shape) (g : Names Ty) (rs : List PRange) (r : PRange) (ks : List KRange) (k : KRange)
    → AreKindedRanges ss g rs ks → IsKindedRange ss g r k
    → AreKindedRanges ss g (rs ++ r ∷ []) (ks ++ k ∷ [])
ranges-behind ss g rs r ks k p q = record {
  means = λ ds s m.
      map-append (pure_krange (names_of ss)) ks (k ∷ []) ∙ ap (λ l. l ++ pure_krange (names_of ss) k ∷ []) (p.means ds s m)
      ∙ ap (λ y. map (bounds_by (λ e. model.kinded ds e g)) (map (pure_range s) rs) ++ y ∷ []) (q.means ds s m)
      ∙ sym (map-append (bounds_by (λ e. model.kinded ds e g)) (map (pure_range s) rs) (pure_range s r ∷ []))
      ∙ sym (ap (map (bounds_by (λ e. model.kinded ds e g))) (map-append (pure_range s) rs (r ∷ [])));
}

-- The next of a row.
pub ranges_more : (ss : List Shape) (g : Names Ty) (rs : List PRange) (n : ℕ) (r : PRange) (ks ls : List KRange) (k : KRange)
    → n < length rs → r ≡ get_or rs n r
    → AreKindedRanges ss g (take n rs) ks → IsKindedRange ss g r k → ls ≡ ks ++ k ∷ [] → AreKindedRanges ss g (take (n + 1) rs) ls
ranges_more ss g rs n r ks ls k lt at p q e =
    subst (λ l. AreKindedRanges ss g l ls) (sym (take_more rs n r lt ∙ ap (λ y. take n rs ++ y ∷ []) (sym at)))
    (subst (λ l. AreKindedRanges ss g (take n rs ++ r ∷ []) l) (sym e) (ranges-behind ss g (take n rs) r ks k p q))

-- All of a row.
pub ranges_all : (ss : List Shape) (g : Names Ty) (rs : List PRange) (n : ℕ) (ks : List KRange) → length rs ≤ n
    → AreKindedRanges ss g (take n rs) ks → AreKindedRanges ss g rs ks
ranges_all ss g rs n ks le p = subst (λ l. AreKindedRanges ss g l ks) (take_all n rs le) p

-- ---- domains

pub bool_kinded : (ss : List Shape) (g : Names Ty) → IsKindedDom ss g dom.Bool kdom.Bool
bool_kinded ss g = record { means = λ ds s m. pure_kdom_bool (names_of ss) ∙ sym (ap (λ d. model.kinded_dom ds d g) (pure_dom-Bool s)) }

bounds-each : (ds : List TableDecl) (g : Names Ty) (es : List pure.Ex)
    → model.bounds_of ds (exs_of es) g ≡ exs_of (map (λ e. as_bound (model.kinded ds e g)) es)
bounds-each ds g [] = refl
bounds-each ds g (e ∷ es) = ap (more_exs (as_bound (model.kinded ds e g))) (bounds-each ds g es)

ends-each : (f : pure.Ex → model.Kinded) (bs : List Bounds) → map (λ b. b.0) (map (bounds_by f) bs) ≡ map (λ b. b.0) bs
ends-each f [] = refl
ends-each f (b ∷ bs) = ap (λ l. b.0 ∷ l) (ends-each f bs)

all-each : (f : pure.Ex → model.Kinded) (bs : List Bounds)
    → append_all (map (λ b. b.1) (map (bounds_by f) bs)) ≡ map (λ e. as_bound (f e)) (append_all (map (λ b. b.1) bs))
all-each f [] = refl
all-each f (b ∷ bs) = ap (λ l. map (λ e. as_bound (f e)) b.1 ++ l) (all-each f bs)
    ∙ sym (map-append (λ e. as_bound (f e)) b.1 (append_all (map (λ b. b.1) bs)))

int-each : (ds : List TableDecl) (g : Names Ty) (bs : List Bounds)
    → int_of (map (bounds_by (λ e. model.kinded ds e g)) bs) ≡ model.kinded_dom ds (int_of bs) g
int-each ds g bs =
    ap (λ l. int_dom l (exs_of (append_all (map (λ b. b.1) (map (bounds_by (λ e. model.kinded ds e g)) bs)))))
    (ends-each (λ e. model.kinded ds e g) bs)
    ∙ ap (λ l. int_dom (map (λ b. b.0) bs) (exs_of l)) (all-each (λ e. model.kinded ds e g) bs)
    ∙ sym (ap (int_dom (map (λ b. b.0) bs)) (bounds-each ds g (append_all (map (λ b. b.1) bs))))

pub int_kinded : (ss : List Shape) (g : Names Ty) (rs : List PRange) (ks : List KRange) → AreKindedRanges ss g rs ks
    → IsKindedDom ss g (dom.Int rs) (kdom.Int ks)
int_kinded ss g rs ks q = record {
  means = λ ds s m.
      pure_kdom_int (names_of ss) ks ∙ ap int_of (q.means ds s m) ∙ int-each ds g (map (pure_range s) rs)
      ∙ sym (ap (λ d. model.kinded_dom ds d g) (pure_dom-Int s rs));
}
