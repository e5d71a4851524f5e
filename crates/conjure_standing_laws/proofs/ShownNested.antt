-- Over tables the domain of a find that is a set of any nesting is itself: it names nothing, and binds nothing.
use Rattle.std.proofs.Common.{◌≡◌, refl, sym, ap, ◌∙◌, subst, ℕ, Bool, true, false, ◌||◌, not, if◌then◌else◌, List, [], ◌∷◌, ◌++◌, inl, inr, filter, map, pos, Some, None}
use Rattle.ess_semantics.specs.Lists.{append_all, or_default}
use Rattle.ess_semantics.specs.Values.{Text}
use Rattle.ess_semantics.specs.Order.{same_text}
use Rattle.ess_semantics.specs.Names.{look, keys, is_among, all_distinct}
use Rattle.ess_semantics.specs.Trees.{Mark, Ex, Exs, number_ex, more_exs, Dom, set_dom, Stm, given, given_enum, let_ex, let_dom, let_enum, let_unnamed, needs, find, such_that, minimise, maximise}
use Rattle.ess_semantics.specs.Prepared.{prepared}
use Rattle.ess_semantics.specs.Plans.{Plan, plans, is_plan_for, domain_of_stm}
use Rattle.ess_semantics.proofs.Tests.{and-left, or-left-no, or-right-no}
use Rattle.ess_semantics.proofs.Texts.{same_text-itself}
use Rattle.conjure_laws.specs.Members.{In}
use Rattle.conjure_laws.proofs.FreeNames.{halves}
use Rattle.conjure_laws.proofs.JudgedDistinct.{kept-distinct}
use Rattle.conjure_laws.proofs.Statements.{plan-is-found}
use Rattle.conjure_model_laws.specs.ToldApart.{told_dom, told_all}
use Rattle.conjure_model_laws.specs.Shown.{Shows, shown_dom, shown_all, view_by, with_views, with_declared, shows_nothing, shows_behind, shows_from}
use Rattle.ess_nested_laws.proofs.NestedForms.{Sizes, no_sizes, one_size, WrittenAtom, written_truths, written_numbers, NestedSet, of_atoms, of_sets, nested-form}
use Rattle.conjure_standing_laws.specs.NestedLaws.{NestedDomainsStay}

-- ---- the domain

told-sizes : {ms : List Mark} {es : Exs} → Sizes ms es → (k : ℕ) → told_all es [] k ≡ (es, k)
told-sizes no_sizes k = refl
told-sizes (one_size {n = n} h s) k = ap (λ q. (more_exs (number_ex (pos n)) q.0, q.1)) (told-sizes s k)

told-atom : {d : Dom} → WrittenAtom d → (k : ℕ) → told_dom d [] k ≡ (d, k)
told-atom written_truths k = refl
told-atom written_numbers k = refl

told-set : {ms : List Mark} {es : Exs} (d : Dom) (k : ℕ) → told_all es [] k ≡ (es, k) → told_dom d [] k ≡ (d, k) →
    told_dom (set_dom ms es d) [] k ≡ (set_dom ms es d, k)
told-set {ms = ms} {es = es} d k p q =
    ap (λ z. let u : Dom × ℕ = told_dom d [] z.1 in (set_dom ms z.0 u.0, u.1)) p ∙ ap (λ u. (set_dom ms es u.0, u.1)) q

-- Told apart it is itself, with no name taken.
pub told-nested : {d : Dom} → NestedSet d → (k : ℕ) → told_dom d [] k ≡ (d, k)
told-nested (of_atoms {d = d} s a) k = told-set d k (told-sizes s k) (told-atom a k)
told-nested (of_sets {d = d} s n) k = told-set d k (told-sizes s k) (told-nested n k)

shown-sizes : (sh : Shows) {ms : List Mark} {es : Exs} → Sizes ms es → shown_all sh es ≡ es
shown-sizes sh no_sizes = refl
shown-sizes sh (one_size {n = n} h s) = ap (more_exs (number_ex (pos n))) (shown-sizes sh s)

shown-atom : (sh : Shows) {d : Dom} → WrittenAtom d → shown_dom sh d ≡ d
shown-atom sh written_truths = refl
shown-atom sh written_numbers = refl

-- Over tables it is itself.
pub shown-nested : (sh : Shows) {d : Dom} → NestedSet d → shown_dom sh d ≡ d
shown-nested sh (of_atoms {ms = ms} {es = es} {d = d} s a) =
    ap (λ z. set_dom ms z (shown_dom sh d)) (shown-sizes sh s) ∙ ap (set_dom ms es) (shown-atom sh a)
shown-nested sh (of_sets {ms = ms} {es = es} {d = d} s n) =
    ap (λ z. set_dom ms z (shown_dom sh d)) (shown-sizes sh s) ∙ ap (set_dom ms es) (shown-nested sh n)

-- ---- where it is declared

doms-behind : (x : Text) (vs : List Ex) (sh : Shows) → (with_views x vs sh).doms ≡ sh.doms
doms-behind x [] sh = refl
doms-behind x (v ∷ vs) sh = refl

module _ (Ps : List Plan) where
  -- What is shown where a name is declared.
  declared-here : (x : Text) (d : Dom) (sh : Shows) (a : Text) → look (with_declared Ps x d sh).doms a
      ≡ (if same_text x a then Some (shown_dom sh (told_dom d [] sh.next).0) else look sh.doms a)
  declared-here x d sh a =
      ap (λ g. look g a) (doms-behind x (map (view_by (shown_dom sh (told_dom d [] sh.next).0)) (filter (is_plan_for x) Ps))
      (record sh { doms = (x, shown_dom sh (told_dom d [] sh.next).0) ∷ sh.doms; next = (told_dom d [] sh.next).1 }))

  one-not : (b : Bool) {A : Type 0} (x y : A) → b ≡ false → (if b then x else y) ≡ y
  one-not false x y q = refl
  one-not true x y q = cc

  -- A statement leaves the domains of names that it doesn't declare.
  stays-behind : (s : Stm) (sh : Shows) (a : Text) → is_among (keys (domain_of_stm s)) a ≡ false →
      look (shows_behind Ps s sh).doms a ≡ look sh.doms a
  stays-behind (given x d) sh a h = declared-here x d sh a ∙ one-not (same_text x a) (Some (shown_dom sh (told_dom d [] sh.next).0))
      (look sh.doms a) (or-left-no (same_text x a) false h)
  stays-behind (find x d) sh a h = declared-here x d sh a ∙ one-not (same_text x a) (Some (shown_dom sh (told_dom d [] sh.next).0))
      (look sh.doms a) (or-left-no (same_text x a) false h)
  stays-behind (given_enum t) sh a h = refl
  stays-behind (let_ex x e) sh a h = refl
  stays-behind (let_dom x d) sh a h = refl
  stays-behind (let_enum t ns) sh a h = refl
  stays-behind (let_unnamed t e) sh a h = refl
  stays-behind (needs e) sh a h = refl
  stays-behind (such_that e) sh a h = refl
  stays-behind (minimise e) sh a h = refl
  stays-behind (maximise e) sh a h = refl

  -- The names with domains that statements declare.
  abbrev named : List Stm → List Text
  named T = keys (append_all (map domain_of_stm T))

  named-more : (s : Stm) (T : List Stm) → named (s ∷ T) ≡ keys (domain_of_stm s) ++ named T
  named-more (given x d) T = refl
  named-more (find x d) T = refl
  named-more (given_enum t) T = refl
  named-more (let_ex x e) T = refl
  named-more (let_dom x d) T = refl
  named-more (let_enum t ns) T = refl
  named-more (let_unnamed t e) T = refl
  named-more (needs e) T = refl
  named-more (such_that e) T = refl
  named-more (minimise e) T = refl
  named-more (maximise e) T = refl

  among-both : (xs ys : List Text) (a : Text) → is_among (xs ++ ys) a ≡ false → (is_among xs a ≡ false) × (is_among ys a ≡ false)
  among-both [] ys a h = (refl, h)
  among-both (x ∷ xs) ys a h =
      let r = among-both xs ys a (or-right-no (same_text x a) (is_among (xs ++ ys) a) h) in
      (ap (λ b. b || is_among xs a) (or-left-no (same_text x a) (is_among (xs ++ ys) a) h) ∙ r.0, r.1)

  -- So do several.
  stays-from : (T : List Stm) (sh : Shows) (a : Text) → is_among (named T) a ≡ false → look (shows_from Ps T sh).doms a ≡ look sh.doms a
  stays-from [] sh a h = refl
  stays-from (s ∷ T) sh a h =
      let r = among-both (keys (domain_of_stm s)) (named T) a (ap (λ l. is_among l a) (sym (named-more s T)) ∙ h) in
      stays-from T (shows_behind Ps s sh) a r.1 ∙ stays-behind s sh a r.0

  -- The domain of a find that is a nested set.
  found-from : (T : List Stm) (sh : Shows) (x : Text) (d : Dom) → NestedSet d → all_distinct (named T) ≡ true → In (find x d) T →
      look (shows_from Ps T sh).doms x ≡ Some d
  found-from [] sh x d n h i = absurd i
  found-from (s ∷ T) sh x d n h (inl e) =
      subst (λ s. all_distinct (named (s ∷ T)) ≡ true → look (shows_from Ps (s ∷ T) sh).doms x ≡ Some d) e
      (λ h. stays-from T (with_declared Ps x d sh) x (not-later h) ∙ declared-here x d sh x
      ∙ ap (λ b. if b then Some (shown_dom sh (told_dom d [] sh.next).0) else look sh.doms x) (same_text-itself x)
      ∙ ap (λ q. Some (shown_dom sh q.0)) (told-nested n sh.next) ∙ ap (λ z. Some z) (shown-nested sh n)) h
    where
      not-later : all_distinct (x ∷ named T) ≡ true → is_among (named T) x ≡ false
      not-later k = go (is_among (named T) x) (and-left (not (is_among (named T) x)) (all_distinct (named T)) k)
        where
          go : (b : Bool) → not b ≡ true → b ≡ false
          go false q = refl
          go true q = cc
  found-from (s ∷ T) sh x d n h (inr i) =
      found-from T (shows_behind Ps s sh) x d n
      (halves (keys (domain_of_stm s)) (named T) (ap all_distinct (sym (named-more s T)) ∙ h)).1 i

-- Over tables the domain of a find that is a nested set is itself.
pub nested-domains-stay : NestedDomainsStay
nested-domains-stay S o x r d ns f w =
    ap (λ z. or_default z d) (found-from (plans S o) (prepared S) shows_nothing x d (nested-form 250 d w.nested)
    (kept-distinct S (ap (λ z. elim z [ None ↦ true | Some g ↦ false ]) f)) (plan-is-found S o x r d ns w.planned))
