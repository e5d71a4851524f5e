-- Names that are avoided, one more at each turn: fewer and fewer of the names that are taken are left out.
use Rattle.std.proofs.Common.{◌≡◌, refl, sym, ap, ◌∙◌, subst, ℕ, suc, ◌<◌, ◌≤◌, Bool, true, false, ◌||◌, if◌then◌else◌, List, [], ◌∷◌, ◌++◌, map, length, Some, None, arith}
use Rattle.ess_semantics.specs.Values.{Text}
use Rattle.ess_semantics.specs.Order.{same_text}
use Rattle.ess_semantics.specs.Names.{keys, is_among}
use Rattle.ess_semantics.specs.Contexts.{Each}
use Rattle.ess_semantics.specs.TableNames.{free_name, named_tables}
use Rattle.ess_semantics.specs.DeclaredTables.{TableDecl, decl_name}
use Rattle.ess_semantics.proofs.Texts.{same_text-equal}
use Rattle.ess_repr_declare_laws.specs.DeclaredTrees.{named_trees}
use Rattle.conjure_laws.proofs.FreeNames.{among-append}
use Rattle.ess_translate_plans_laws.specs.Requests.{first_among, left_out}
use Rattle.ess_translate_plans_laws.proofs.FreeBySets.{AreSome, tables-are-new}

-- ---- the first that is taken

-- No name is taken.
pub first_among-none : (T ns : List Text) → first_among T ns ≡ None → Each ns (λ c. is_among T c ≡ false)
first_among-none T [] h = tt
first_among-none T (n ∷ ns) h = go (is_among T n) refl h (first_among-none T ns)
  where
    go : (b : Bool) → is_among T n ≡ b → (if b then Some n else first_among T ns) ≡ None →
        (first_among T ns ≡ None → Each ns (λ c. is_among T c ≡ false)) → Each (n ∷ ns) (λ c. is_among T c ≡ false)
    go true e k f = cc
    go false e k f = (e, f k)

-- The name is taken.
pub first_among-taken : (T ns : List Text) (a : Text) → first_among T ns ≡ Some a → is_among T a ≡ true
first_among-taken T [] a h = cc
first_among-taken T (n ∷ ns) a h = go (is_among T n) refl h (first_among-taken T ns a)
  where
    go : (b : Bool) → is_among T n ≡ b → (if b then Some n else first_among T ns) ≡ Some a →
        (first_among T ns ≡ Some a → is_among T a ≡ true) → is_among T a ≡ true
    go true e k f = let same : n ≡ a = cc in ap (is_among T) (sym same) ∙ e
    go false e k f = f k

-- It is one of the names.
pub first_among-one : (T S ns : List Text) (a : Text) → first_among T ns ≡ Some a → Each ns (λ c. is_among S c ≡ false) →
    is_among S a ≡ false
first_among-one T S [] a h p = cc
first_among-one T S (n ∷ ns) a h p = go (is_among T n) h (λ k. first_among-one T S ns a k p.1)
  where
    go : (b : Bool) → (if b then Some n else first_among T ns) ≡ Some a → (first_among T ns ≡ Some a → is_among S a ≡ false) →
        is_among S a ≡ false
    go true k f = let same : n ≡ a = cc in ap (is_among S) (sym same) ∙ p.0
    go false k f = f k

-- ---- the names of declared trees

pub named_trees-names : (x : Text) (ts : List TableDecl) (S : List Text) →
    map decl_name (named_trees x ts S) ≡ named_tables x (map decl_name ts) S
named_trees-names x [] S = refl
named_trees-names x (t ∷ ts) S =
    ap (λ l. (free_name S (x ++ t.name), length t.axes) ∷ l) (named_trees-names x ts (free_name S (x ++ t.name) ∷ S))

-- They are none of those that are avoided.
pub named_trees-new : (x : Text) (ts : List TableDecl) (S : List Text) →
    Each (keys (map decl_name (named_trees x ts S))) (λ c. is_among S c ≡ false)
named_trees-new x ts S =
    subst (λ l. Each (keys l) (λ c. is_among S c ≡ false)) (sym (named_trees-names x ts S)) (tables-are-new x (map decl_name ts) S)

-- ---- one more name is avoided

at-end : (S : List Text) (a t : Text) → is_among S t ≡ true → is_among (S ++ a ∷ []) t ≡ true
at-end S a t h = among-append S (a ∷ []) t ∙ ap (λ b. b || is_among (a ∷ []) t) h

end-itself : (S : List Text) (a t : Text) → same_text a t ≡ true → is_among (S ++ a ∷ []) t ≡ true
end-itself S a t h = among-append S (a ∷ []) t ∙ ap (λ b. is_among S t || (b || false)) h ∙ or-yes (is_among S t)
  where
    or-yes : (b : Bool) → b || true ≡ true
    or-yes true = refl
    or-yes false = refl

fewer-or-same : (p q : Bool) (m n : ℕ) → (p ≡ true → q ≡ true) → m ≤ n → (if q then m else suc m) ≤ (if p then n else suc n)
fewer-or-same true true m n h k = k
fewer-or-same true false m n h k = let clash : false ≡ true = h refl in cc
fewer-or-same false true m n h k = omega arith
fewer-or-same false false m n h k = omega arith

fewer-later : (p q : Bool) (m n : ℕ) → (p ≡ true → q ≡ true) → m < n → (if q then m else suc m) < (if p then n else suc n)
fewer-later true true m n h k = k
fewer-later true false m n h k = let clash : false ≡ true = h refl in cc
fewer-later false true m n h k = omega arith
fewer-later false false m n h k = omega arith

fewer-here : (p q : Bool) (m n : ℕ) → p ≡ false → q ≡ true → m ≤ n → (if q then m else suc m) < (if p then n else suc n)
fewer-here true q m n e f k = cc
fewer-here false true m n e f k = omega arith
fewer-here false false m n e f k = cc

no-more : (ts S : List Text) (a : Text) → left_out ts (S ++ a ∷ []) ≤ left_out ts S
no-more [] S a = omega arith
no-more (t ∷ ts) S a =
    fewer-or-same (is_among S t) (is_among (S ++ a ∷ []) t) (left_out ts (S ++ a ∷ [])) (left_out ts S) (at-end S a t) (no-more ts S a)

-- A name that is taken and wasn't avoided: fewer are left out.
pub left_out-fewer : (ts S : List Text) (a : Text) → is_among ts a ≡ true → is_among S a ≡ false → left_out ts (S ++ a ∷ []) < left_out ts S
left_out-fewer [] S a h f = cc
left_out-fewer (t ∷ ts) S a h f = go (same_text t a) refl h (λ k. left_out-fewer ts S a k f)
  where
    go : (b : Bool) → same_text t a ≡ b → b || is_among ts a ≡ true → (is_among ts a ≡ true → left_out ts (S ++ a ∷ []) < left_out ts S) →
        left_out (t ∷ ts) (S ++ a ∷ []) < left_out (t ∷ ts) S
    go true e k r =
        fewer-here (is_among S t) (is_among (S ++ a ∷ []) t) (left_out ts (S ++ a ∷ [])) (left_out ts S)
        (ap (is_among S) (same_text-equal t a e) ∙ f)
        (end-itself S a t (ap (λ x. same_text a x) (same_text-equal t a e) ∙ ap (λ x. same_text x a) (sym (same_text-equal t a e)) ∙ e))
        (no-more ts S a)
    go false e k r =
        fewer-later (is_among S t) (is_among (S ++ a ∷ []) t) (left_out ts (S ++ a ∷ [])) (left_out ts S) (at-end S a t) (r k)

-- And all that is avoided is still taken.
pub some-avoided : (S T : List Text) (a : Text) → AreSome S T → is_among T a ≡ true → AreSome (S ++ a ∷ []) T
some-avoided S T a h k = λ t e. go t (is_among S t) refl (sym (among-append S (a ∷ []) t) ∙ e)
  where
    only : (b : Bool) → (b || false) ≡ true → b ≡ true
    only true m = refl
    only false m = m

    go : (t : Text) (b : Bool) → is_among S t ≡ b → b || (same_text a t || false) ≡ true → is_among T t ≡ true
    go t true e m = h t e
    go t false e m = ap (is_among T) (sym (same_text-equal a t (only (same_text a t) m))) ∙ k
