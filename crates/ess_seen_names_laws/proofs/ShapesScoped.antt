-- What a rule makes of a tree is in scope where the tree is, and where the name that the rule takes is new.
use Rattle.std.proofs.Common.{◌≡◌, refl, sym, ap, ◌∙◌, Bool, true, false, ◌||◌, not, if◌then◌else◌, List, [], ◌∷◌}
use Rattle.std.specs.Prelude.{IsTrue}
use Rattle.ess_semantics.specs.declared.words.Op2.{Op2}
use Rattle.ess_semantics.specs.declared.words.Fun.{Fun}
use Rattle.ess_semantics.specs.Values.{Text}
use Rattle.ess_semantics.specs.Order.{same_text}
use Rattle.ess_semantics.specs.Trees.{name_pat, Ex, name_ex, comp_ex, no_exs, more_exs, Gens, no_gens, over, from, cond, ex2, fun1}
use Rattle.ess_semantics.specs.Substitution.{substitute, substitute_gens, for_name, NamesAre, NamesAreGens}
use Rattle.ess_semantics.specs.Scoped.{with_names, Scoped, ScopedExs, ScopedGens}
use Rattle.ess_rules_laws.specs.InclusionRules.{every}
use Rattle.ess_rules_laws.specs.SpliceRules.{append_gens}
use Rattle.ess_rules_laws.specs.Listings.{Alternative}
use Rattle.ess_rules_laws.specs.ListedSources.{each_put}
use Rattle.ess_rules_laws.proofs.Agreement.{same_text-equal}
use Rattle.ess_refine_laws.specs.ScopesStay.{Scope}
use Rattle.ess_refine_laws.specs.ScopesOfRules.{IsNew}
use Rattle.ess_seen_names_laws.specs.Shapes.{Offered, AllOffered, Shape, one_item, one_binding, implied, both, size, member, different, turned_round, turned_strictly, strictly_included, equal, included, in_a_union, in_both, in_the_first_alone, chosen_twice, chosen_once, leaving, cell_of, flag_of, marker_of, slots_of, in_a_list, alone, opened, nested}
use Rattle.ess_seen_names_laws.specs.Laws.{none, Within}
use Rattle.ess_seen_names_laws.proofs.SizeTerms.{slots-fine}
use Rattle.ess_seen_names_laws.proofs.ConditionsScoped.{gens-map, under-scoped}
use Rattle.ess_seen_names_laws.proofs.PutScoped.{left-true, right-true, one-of, second-false, otherwise, absent, bound, Moves, moved, moved-gens, behind}
use Rattle.ess_seen_names_laws.proofs.NewNames.{new-behind, behind_domain, behind_source, within-domain, within-source}
use Rattle.ess_seen_names_laws.proofs.ViewsScoped.{term-scoped, steps-scoped, append-scoped}
use Rattle.ess_seen_names_laws.proofs.OffersScoped.{ranging, ranging-more, offered-grows, offered-item, offered-gens}

-- ---- generators

-- Behind the first generators are the others.
behind-first : (gs hs : Gens) (K : (Text → Bool) → (Text → Bool) → Type 0) (s o : Text → Bool) →
    ScopedGens none s o (append_gens gs hs) K → ScopedGens none s o gs (λ u i. ScopedGens none u i hs K)
behind-first no_gens hs K s o h = h
behind-first (over p d gs) hs K s o h = (h.0, h.1, behind-first gs hs K (with_names s p) (with_names o p) h.2)
behind-first (from p e gs) hs K s o h = (h.0, h.1, behind-first gs hs K (with_names s p) o h.2)
behind-first (cond e gs) hs K s o h = (h.0, behind-first gs hs K s o h.1)

-- What generators bind one behind the other.
parts-bind : (b : Text → Bool) (gs hs : Gens) → NamesAreGens (λ a. true) b (append_gens gs hs) →
    NamesAreGens (λ a. true) b gs × NamesAreGens (λ a. true) b hs
parts-bind b no_gens hs h = (tt, h)
parts-bind b (over p d gs) hs h = let k = parts-bind b gs hs h.2 in ((h.0, h.1, k.0), k.1)
parts-bind b (from p e gs) hs h = let k = parts-bind b gs hs h.2 in ((h.0, h.1, k.0), k.1)
parts-bind b (cond e gs) hs h = let k = parts-bind b gs hs h.1 in ((h.0, k.0), k.1)

module _ (x y : Text) (i t : Ex) (hs : Gens) (a : Alternative) (l : Offered x t a)
    (b : NamesAre (λ a. true) (λ a. not (same_text x a)) (comp_ex i hs)) (bt : NamesAre (λ a. true) (λ a. not (same_text x a)) t) where
  abbrev f : Text → Ex
  f = for_name y a.item

  f-grows : (c : Text) (u o v p : Text → Bool) → ((d : Text) → u d ≡ true → v d ≡ true) → ((d : Text) → o d ≡ true → p d ≡ true) →
      Scoped none u o (f c) → Scoped none v p (f c)
  f-grows c u o v p g k h = go (same_text y c) h
    where
      go : (d : Bool) → Scoped none u o (if d then a.item else name_ex c) → Scoped none v p (if d then a.item else name_ex c)
      go true h = offered-grows l u v o p g k h
      go false h = g c h

  f-same : (c : Text) → same_text y c ≡ false → f c ≡ name_ex c
  f-same c q = ap (λ d. if d then a.item else name_ex c) q

  module _ (s : Scope) (n : IsTrue (not (s.all x))) (within : Within s) (new : IsTrue (not (s.all y)))
      (h : Scoped none s.all s.over_domains t) where
    f-used : (c : Text) → with_names s.all (name_pat y) c ≡ true →
        Scoped none (with_names s.all (name_pat x)) (ranging l s.over_domains) (f c)
    f-used c q = go (same_text y c) refl q
      where
        go : (d : Bool) → same_text y c ≡ d → s.all c || d ≡ true →
            Scoped none (with_names s.all (name_pat x)) (ranging l s.over_domains) (if d then a.item else name_ex c)
        go true k q = offered-item x s n within l h
        go false k q = left-true (s.all c) (same_text x c) (one-of (s.all c) false q (λ r. r) (λ r. cc))

    apart : (c : Text) → s.over_domains c ≡ true → same_text y c ≡ false
    apart c q = otherwise (same_text y c) (λ r.
        let e : y ≡ c = same_text-equal y c r in
        let k : s.all y ≡ true = ap s.all e ∙ within c q in sym (absent (s.all y) new) ∙ k)

    moves : Moves f x f-grows (with_names s.all (name_pat y)) (with_names s.all (name_pat x)) s.over_domains (ranging l s.over_domains)
    moves = record {
      used = f-used;
      plain = λ c q. (ranging-more l s.over_domains c q, f-same c (apart c q));
      new = λ c q. one-of (s.all c) (same_text x c) q
          (λ r. left-true (s.all c || same_text y c) (same_text x c) (left-true (s.all c) (same_text y c) r))
          (right-true (s.all c || same_text y c) (same_text x c));
      same = λ c q. f-same c (second-false (s.all c) (same_text y c) q);
    }

  -- What the source offers stands in its place, also behind other generators.
  put-behind : (gs : Gens) (s : Scope) → NamesAreGens (λ a. true) (λ a. not (same_text x a)) gs → IsTrue (not (s.all x)) → Within s →
      ScopedGens none s.all s.over_domains (append_gens gs (from (name_pat y) t hs)) (λ u o. Scoped none u o i) →
      ScopedGens none s.all s.over_domains (append_gens gs (append_gens a.gens (substitute_gens (for_name y a.item) hs)))
      (λ u o. Scoped none u o (substitute (for_name y a.item) i))
  put-behind no_gens s k n w h = offered-gens x s n w l bt h.1 (substitute_gens f hs) _
      (moved-gens f x f-grows hs i (with_names s.all (name_pat y)) (with_names s.all (name_pat x)) s.over_domains (ranging l s.over_domains)
      (moves s n w h.0 h.1) b.1 (λ u v o p m q. moved f x f-grows i u v o p m b.0 q) h.2)
  put-behind (over p d gs) s k n w h =
      (h.0, h.1, put-behind gs (behind_domain s p) k.2 (new-behind s.all x p n k.0) (within-domain s p w) h.2)
  put-behind (from p e gs) s k n w h =
      (h.0, h.1, put-behind gs (behind_source s p) k.2 (new-behind s.all x p n k.0) (within-source s p w) h.2)
  put-behind (cond e gs) s k n w h = (h.0, put-behind gs s k.1 n w h.1)

-- ---- what rules make

-- `and([x in b | x <- a])`.
every-scoped : (x : Text) (s : Scope) (a b : Ex) → IsTrue (not (s.all x)) → NamesAre (λ c. true) (λ c. not (same_text x c)) b →
    Scoped none s.all s.over_domains a → Scoped none s.all s.over_domains b →
    Scoped none s.all s.over_domains (every x a (ex2 true Op2.Member (name_ex x) b))
every-scoped x s a b n u h k = ((n, h, (bound x s.all, (behind x s b u k, tt))), tt)

-- The folds over all alternatives.
each-scoped : (x : Text) (s : Scope) → IsTrue (not (s.all x)) → Within s → (m : Bool) (w : Fun) (y : Text) (i t : Ex) (hs : Gens) →
    NamesAre (λ c. true) (λ c. not (same_text x c)) (comp_ex i hs) → NamesAre (λ c. true) (λ c. not (same_text x c)) t →
    Scoped none s.all s.over_domains (comp_ex i (from (name_pat y) t hs)) → (l : List Alternative) → AllOffered x t l →
    ScopedExs none s.all s.over_domains (each_put m w y i hs l)
each-scoped x s n v m w y i t hs b bt h [] o = tt
each-scoped x s n v m w y i t hs b bt h (a ∷ l) o =
    ((put-behind x y i t hs a o.0 b bt no_gens s tt n v h, tt), each-scoped x s n v m w y i t hs b bt h l o.1)

pub shape-scoped : (x : Text) {e f : Ex} → Shape x e f → (s : Scope) → IsNew s x e → Within s → Scoped none s.all s.over_domains e →
    Scoped none s.all s.over_domains f
shape-scoped x one_item s n w h = h.0.0
shape-scoped x one_binding s n w h = h.0
shape-scoped x implied s n w h = (h.0.0, (h.0.1, tt))
shape-scoped x both s n w h = (h.0.0, (h.0.1, tt))
shape-scoped x size s n w h = ((n.0, h.0, tt), tt)
shape-scoped x (member {a = a}) s n w h =
    ((n.0, h.1.0, (bound x s.all, (behind x s a n.1.0 h.0, tt))), tt)
shape-scoped x different s n w h = ((h.0, (h.1.0, tt)), tt)
shape-scoped x turned_round s n w h = (h.1.0, (h.0, tt))
shape-scoped x turned_strictly s n w h = (h.1.0, (h.0, tt))
shape-scoped x strictly_included s n w h = ((h.0, (h.1.0, tt)), (((h.1.0, (h.0, tt)), tt), tt))
shape-scoped x (equal {a = a} {b = b}) s n w h =
    (every-scoped x s a b n.0 n.1.1.0 h.0 h.1.0, (every-scoped x s b a n.0 n.1.0 h.1.0 h.0, tt))
shape-scoped x (included {a = a} {b = b}) s n w h = every-scoped x s a b n.0 n.1.1.0 h.0 h.1.0
shape-scoped x in_a_union s n w h = ((h.0, (h.1.0.0, tt)), ((h.0, (h.1.0.1.0, tt)), tt))
shape-scoped x in_both s n w h = ((h.0, (h.1.0.0, tt)), ((h.0, (h.1.0.1.0, tt)), tt))
shape-scoped x in_the_first_alone s n w h = ((h.0, (h.1.0.0, tt)), (((h.0, (h.1.0.1.0, tt)), tt), tt))
shape-scoped x chosen_twice s n w h = ((h.0.0, (h.1.0.0, tt)), tt)
shape-scoped x chosen_once s n w h = h.0
shape-scoped x (leaving {m = m} {w = v} {i = i} before c after) s n w h = (
  gens-map before _ _ (λ u o k. under-scoped v c (fun1 m v (comp_ex i after)) u o k.0 (k.1, tt)) s.all s.over_domains
      (behind-first before (cond c after) (λ u o. Scoped none u o i) s.all s.over_domains h.0),
  tt,
)
shape-scoped x (cell_of i) s n w h = steps-scoped s w i h.1
shape-scoped x (flag_of {a = a} i) s n w h = append-scoped s w i h.1.0.1 (more_exs a no_exs) (h.0, tt)
shape-scoped x (marker_of i) s n w h = steps-scoped s w i h.0.1
shape-scoped x (slots_of {ms = ms} v k) s n w h = term-scoped (slots-fine ms v k) s.all s.over_domains
shape-scoped x (in_a_list {m = m} {w = v} {i = i} {t = t} y hs l o) s n w h =
    (each-scoped x s n.0 w m v y i t hs (n.1.0.0, n.1.0.1.2) n.1.0.1.1 h.0 l o, tt)
shape-scoped x (alone {i = i} {t = t} {a = a} y hs l) s n w h =
    (put-behind x y i t hs a l (n.1.0.0, n.1.0.1.2) n.1.0.1.1 no_gens s tt n.0 w h.0, tt)
shape-scoped x (opened {i = i} {t = t} {a = a} before y hs l) s n w h =
    let k = parts-bind (λ a. not (same_text x a)) before (from (name_pat y) t hs) n.1.0.1 in
    (put-behind x y i t hs a l (n.1.0.0, k.1.2) k.1.1 before s k.0 n.0 w h.0, tt)
shape-scoped x (nested {i = i} before hs) s n w h = (
  gens-map before _ _ (λ u o k. (k, tt)) s.all s.over_domains
      (behind-first before hs (λ u o. Scoped none u o i) s.all s.over_domains h.0),
  tt,
)
