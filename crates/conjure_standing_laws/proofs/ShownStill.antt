-- What is shown for a name over tables stays behind statements that declare other names, and so do the types that are known.
use Rattle.std.proofs.Common.{◌≡◌, refl, sym, ap, ◌∙◌, ℕ, suc, Bool, false, ◌||◌, if◌then◌else◌, List, [], ◌∷◌, ◌++◌, filter, map, length, pos, Option, Some, None}
use Rattle.ess_semantics.specs.Values.{Text}
use Rattle.ess_semantics.specs.Order.{same_text}
use Rattle.ess_semantics.specs.Names.{Names, look, keys, is_among}
use Rattle.ess_semantics.specs.Trees.{Ex, number_ex, cell_ex, no_exs, Dom, Stm, given, given_enum, let_ex, let_dom, let_enum, let_unnamed, needs, find, such_that, minimise, maximise}
use Rattle.ess_semantics.specs.Judgements.{declares}
use Rattle.ess_semantics.specs.Parameters.{all_declared}
use Rattle.ess_semantics.specs.Plans.{Plan, is_plan_for}
use Rattle.ess_semantics.proofs.Tests.{or-left-no, or-right-no}
use Rattle.conjure_laws.specs.SetsOfAtoms.{TypeKind, fixed, sized}
use Rattle.conjure_laws.specs.ModelsOfSets.{size_name}
use Rattle.conjure_laws.proofs.FreeNames.{among-append}
use Rattle.conjure_laws.proofs.Lookups.{look-right}
use Rattle.conjure_model_laws.specs.Shown.{Shows, shown, shown_dom, view_by, last_of, with_views, with_declared, positions_from, shows_behind, shows_from}
use Rattle.conjure_model_laws.specs.ToldApart.{told, told_dom}
use Rattle.ess_mixed_models_laws.specs.MixedSpecifications.{written_size, kinds_of_size, kinds_by, known_after}

-- ---- names that a statement doesn't declare

-- What is shown for a name is the same.
pub record SameFor (a : Text) (sh later : Shows) : Type 0 where
  pub first : look later.first a ≡ look sh.first a
  pub last : look later.last a ≡ look sh.last a
  pub sizes : look later.sizes a ≡ look sh.sizes a
  pub doms : look later.doms a ≡ look sh.doms a

-- As it is, it is the same.
pub same-all : (a : Text) (sh : Shows) → SameFor a sh sh
same-all a sh = record { first = refl; last = refl; sizes = refl; doms = refl }

-- Twice the same is the same.
pub same-twice : (a : Text) (x y z : Shows) → SameFor a x y → SameFor a y z → SameFor a x z
same-twice a x y z p q =
    record { first = q.first ∙ p.first; last = q.last ∙ p.last; sizes = q.sizes ∙ p.sizes; doms = q.doms ∙ p.doms }

not-it : (b : Bool) → b || false ≡ false → b ≡ false
not-it b e = or-left-no b false e

views-still : (x : Text) (vs : List Ex) (sh : Shows) (a : Text) → same_text x a ≡ false → SameFor a sh (with_views x vs sh)
views-still x [] sh a q = same-all a sh
views-still x (v ∷ vs) sh a q = record {
  first = ap (λ b. if b then Some v else look sh.first a) q;
  last = ap (λ b. if b then Some (last_of v vs) else look sh.last a) q;
  sizes = refl;
  doms = refl;
}

position-keys : (k : ℕ) (ns : List Text) → keys (positions_from k ns) ≡ ns
position-keys k [] = refl
position-keys k (n ∷ ns) = ap (λ l. n ∷ l) (position-keys (suc k) ns)

-- A declaration leaves other names.
pub declared-still : (Ps : List Plan) (x : Text) (d : Dom) (sh : Shows) (a : Text) → same_text x a ≡ false →
    SameFor a sh (with_declared Ps x d sh)
declared-still Ps x d sh a q =
    same-twice a sh (record sh { doms = (x, shown_dom sh (told_dom d [] sh.next).0) ∷ sh.doms; next = (told_dom d [] sh.next).1 })
    (with_declared Ps x d sh)
    (record {
      first = refl;
      last = refl;
      sizes = refl;
      doms = ap (λ b. if b then Some (shown_dom sh (told_dom d [] sh.next).0) else look sh.doms a) q;
    })
    (views-still x (map (view_by (shown_dom sh (told_dom d [] sh.next).0)) (filter (is_plan_for x) Ps))
    (record sh { doms = (x, shown_dom sh (told_dom d [] sh.next).0) ∷ sh.doms; next = (told_dom d [] sh.next).1 }) a q)

-- A statement leaves other names.
pub stm-still : (Ps : List Plan) (s : Stm) (sh : Shows) (a : Text) → is_among (declares s) a ≡ false → SameFor a sh (shows_behind Ps s sh)
stm-still Ps (given x d) sh a n = declared-still Ps x d sh a (not-it (same_text x a) n)
stm-still Ps (find x d) sh a n = declared-still Ps x d sh a (not-it (same_text x a) n)
stm-still Ps (given_enum t) sh a n = record {
  first = refl;
  last = refl;
  sizes = ap (λ b. if b then Some (cell_ex false (size_name Ps t) no_exs) else look sh.sizes a) (not-it (same_text t a) n);
  doms = refl;
}
stm-still Ps (let_enum t ns) sh a n =
    let p = or-left-no (same_text t a) (is_among ns a) n in
    let q = ap (λ l. is_among l a) (position-keys 1 ns) ∙ or-right-no (same_text t a) (is_among ns a) n in record {
      first = look-right (positions_from 1 ns) sh.first a q;
      last = look-right (positions_from 1 ns) sh.last a q;
      sizes = ap (λ b. if b then Some (number_ex (pos (length ns))) else look sh.sizes a) p;
      doms = refl;
    }
stm-still Ps (let_unnamed t e) sh a n = record {
  first = refl;
  last = refl;
  sizes = ap (λ b. if b then Some (shown sh (told e [] sh.next).0) else look sh.sizes a) (not-it (same_text t a) n);
  doms = refl;
}
stm-still Ps (let_ex x e) sh a n = same-all a sh
stm-still Ps (let_dom x d) sh a n = same-all a sh
stm-still Ps (needs e) sh a n = same-all a sh
stm-still Ps (such_that e) sh a n = same-all a sh
stm-still Ps (minimise e) sh a n = same-all a sh
stm-still Ps (maximise e) sh a n = same-all a sh

-- What no statement declares the first one doesn't.
pub off-here : (s : Stm) (T : List Stm) (a : Text) → is_among (all_declared (s ∷ T)) a ≡ false → is_among (declares s) a ≡ false
off-here s T a n = or-left-no (is_among (declares s) a) (is_among (all_declared T) a) (sym (among-append (declares s)
    (all_declared T) a) ∙ n)

-- Nor do the others.
pub off-later : (s : Stm) (T : List Stm) (a : Text) → is_among (all_declared (s ∷ T)) a ≡ false → is_among (all_declared T) a ≡ false
off-later s T a n = or-right-no (is_among (declares s) a) (is_among (all_declared T) a) (sym (among-append (declares s)
    (all_declared T) a) ∙ n)

-- So do several.
pub all-still : (Ps : List Plan) (T : List Stm) (sh : Shows) (a : Text) → is_among (all_declared T) a ≡ false →
    SameFor a sh (shows_from Ps T sh)
all-still Ps [] sh a n = same-all a sh
all-still Ps (s ∷ T) sh a n =
    same-twice a sh (shows_behind Ps s sh) (shows_from Ps T (shows_behind Ps s sh)) (stm-still Ps s sh a (off-here s T a n))
    (all-still Ps T (shows_behind Ps s sh) a (off-later s T a n))

-- The types that statements declare have other names.
kinds-still : (s : Stm) (ks : Names TypeKind) (t : Text) → is_among (declares s) t ≡ false → look (kinds_by s ++ ks) t ≡ look ks t
kinds-still (given_enum u) ks t n = ap (λ b. if b then Some sized else look ks t) (not-it (same_text u t) n)
kinds-still (let_enum u ns) ks t n =
    ap (λ b. if b then Some (fixed (length ns)) else look ks t) (or-left-no (same_text u t) (is_among ns t) n)
kinds-still (let_unnamed u e) ks t n = go (written_size e)
  where
    go : (r : Option ℕ) → look (kinds_of_size u r ++ ks) t ≡ look ks t
    go None = refl
    go (Some k) = ap (λ b. if b then Some (fixed k) else look ks t) (not-it (same_text u t) n)
kinds-still (given x d) ks t n = refl
kinds-still (find x d) ks t n = refl
kinds-still (let_ex x e) ks t n = refl
kinds-still (let_dom x d) ks t n = refl
kinds-still (needs e) ks t n = refl
kinds-still (such_that e) ks t n = refl
kinds-still (minimise e) ks t n = refl
kinds-still (maximise e) ks t n = refl

-- So have those of several statements.
pub known-still : (T : List Stm) (ks : Names TypeKind) (t : Text) → is_among (all_declared T) t ≡ false →
    look (known_after kinds_by T ks) t ≡ look ks t
known-still [] ks t n = refl
known-still (s ∷ T) ks t n = known-still T (kinds_by s ++ ks) t (off-later s T t n) ∙ kinds-still s ks t (off-here s T t n)
