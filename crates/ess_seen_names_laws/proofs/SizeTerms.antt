-- Sizes of nested domains are terms of numerals: those of the domain, 0, 1 and 2.
use Rattle.std.proofs.Common.{◌≡◌, refl, Bool, true, false, if◌then◌else◌, List, [], ◌∷◌, ℤ, pos, Option, Some, None}
use Rattle.std.specs.Ordering.{int_cmp}
use Rattle.std.specs.declared.cmp.Ordering.{Ordering}
use Rattle.std.specs.declared.cmp.Ordering.TheVariants.{Less, Equal, Greater}
use Rattle.ess_semantics.specs.declared.words.Op2.{Op2}
use Rattle.ess_semantics.specs.declared.words.Key.{Key}
use Rattle.ess_semantics.specs.Lists.{or_else, or_default}
use Rattle.ess_semantics.specs.Values.{Text}
use Rattle.ess_semantics.specs.Domains.{same_key}
use Rattle.ess_semantics.specs.Trees.{Mark, flag, valued, Ex, Exs, number_ex, Dom, set_dom, ex2}
use Rattle.ess_repr_declare_laws.specs.SizeTerms.{one_ex, is_numeral, next_ex, plus_ex, minus_ex, span_ex, span_by, number_of, greatest_size_of, bound_ex, slots_ex, dummy_ex}
use Rattle.ess_seen_names_laws.specs.Shapes.{Numerals, no_numeral, numeral, Written, of_truths, of_numbers, of_sets}
use Rattle.ess_seen_names_laws.proofs.Has.{AllHave, DomHas}

-- A term of numerals that have the property q.
pub data Term (q : ℤ → Bool) : Ex → Type 0 where
  one : {i : ℤ} → q i ≡ true → Term q (number_ex i)
  two : {o : Op2} {a b : Ex} → Term q a → Term q b → Term q (ex2 false o a b)

module _ (q : ℤ → Bool) (u : Text → Bool) (q0 : q (pos 0) ≡ true) (q1 : q (pos 1) ≡ true) (q2 : q (pos 2) ≡ true) where
  abbrev T : Ex → Type 0
  T e = Term q e

  -- ---- spans

  next-term : (a : Ex) → T a → T (next_ex a)
  next-term a h = two h (one q1)

  either : (b : Bool) (x y : Ex) → T x → T y → T (if b then x else y)
  either true x y h k = h
  either false x y h k = k

  span-term : (a b : Ex) → T a → T b → T (span_ex a b)
  span-term a b h k = either (is_numeral (pos 0) a) (next_ex b) _ (next-term b k)
      (either (is_numeral (pos 1) a) b (plus_ex (minus_ex one_ex a) b) k (two (two (one q1) h) k))

  ordered-term : (o : Ordering) (a b : Ex) → T a → T b → T (span_by (Some o) a b)
  ordered-term Less a b h k = span-term a b h k
  ordered-term Equal a b h k = one q1
  ordered-term Greater a b h k = one q0

  -- ---- bounds and slots

  bound-term : {d : Dom} → Written d → DomHas q u d → T (bound_ex d)
  bound-term of_truths h = one q2
  bound-term (of_numbers {i} {j}) h =
      ordered-term (int_cmp i j) (number_ex i) (number_ex j) (one h.0) (one h.1.0)
  bound-term (of_sets s w) h = two (one q2) (bound-term w h.1)

  abbrev SomeTerm : Option Ex → Type 0
  SomeTerm None = Unit {0}
  SomeTerm (Some e) = T e

  sized-term : (k : Key) (ms : List Mark) {es : Exs} → Numerals es → AllHave q u es → SomeTerm (number_of k ms es)
  sized-term k [] s h = tt
  sized-term k (flag j ∷ ms) s h = sized-term k ms s h
  sized-term k (valued j ∷ ms) no_numeral h = tt
  sized-term k (valued j ∷ ms) (numeral {i = i} {es = es} s) h = go (same_key j k) (sized-term k ms s h.1)
    where
      go : (b : Bool) → SomeTerm (number_of k ms es) → SomeTerm (if b then Some (number_ex i) else number_of k ms es)
      go true t = one h.0
      go false t = t

  first-term : (o p : Option Ex) → SomeTerm o → SomeTerm p → SomeTerm (or_else o p)
  first-term None p h k = k
  first-term (Some e) p h k = h

  default-term : (o : Option Ex) (e : Ex) → SomeTerm o → T e → T (or_default o e)
  default-term None e h k = k
  default-term (Some f) e h k = h

  -- The number of slots.
  pub slots-term : (ms : List Mark) (es : Exs) (d : Dom) → Numerals es → Written d → DomHas q u (set_dom ms es d) →
      T (slots_ex (set_dom ms es d))
  slots-term ms es d s w h = default-term (greatest_size_of ms es) (bound_ex d)
      (first-term (number_of Key.Size ms es) (number_of Key.MaxSize ms es) (sized-term Key.Size ms s h.0)
      (sized-term Key.MaxSize ms s h.0)) (bound-term w h.1)

  -- The dummy.
  pub dummy-term : {d : Dom} → Written d → DomHas q u d → T (dummy_ex d)
  dummy-term of_truths h = one q0
  dummy-term (of_numbers {i} {j}) h = next-term (number_ex j) (one h.1.0)
  dummy-term (of_sets s w) h = one q0

-- ---- of any domain

-- Any number will do.
abbrev fine : ℤ → Bool
fine n = true

abbrev named : Text → Bool
named a = true

numerals-have : {es : Exs} → Numerals es → AllHave fine named es
numerals-have no_numeral = tt
numerals-have (numeral s) = (refl, numerals-have s)

written-has : {d : Dom} → Written d → DomHas fine named d
written-has of_truths = tt
written-has of_numbers = (refl, (refl, tt))
written-has (of_sets s w) = (numerals-have s, written-has w)

-- So slots and dummies of nested domains are such terms.
pub slots-fine : {es : Exs} {d : Dom} (ms : List Mark) → Numerals es → Written d → Term fine (slots_ex (set_dom ms es d))
slots-fine {es} {d} ms s w = slots-term fine named refl refl refl ms es d s w (numerals-have s, written-has w)

pub dummy-fine : {d : Dom} → Written d → Term fine (dummy_ex d)
dummy-fine w = dummy-term fine named refl refl refl w (written-has w)
