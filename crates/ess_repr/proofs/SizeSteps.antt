-- The steps by which code makes sizes of domains as terms.
use Rattle.std.proofs.Common.{◌≡◌, refl, sym, ap, ◌∙◌, ℕ, suc, ◌+◌, ◌<◌, ◌≤◌, Bool, true, false, if◌then◌else◌, List, [], ◌∷◌, ◌++◌, map, drop, length, get_or, Option, Some, None, option_map, pos, arith}
use Rattle.std.proofs.lemmas.List.{at_drop_more, at_drop_all, append-nil}
use Rattle.ess_semantics.specs.declared.words.Key.{Key}
use Rattle.ess_semantics.specs.Lists.{or_else, or_default}
use Rattle.ess_semantics.specs.Trees as pure
use Rattle.ess_semantics.specs.Trees.{Ends, one_value, both_ends, low_end, high_end, Mark, Ex, Exs, no_exs, more_exs, int_dom, set_dom, mset_dom, no_doms, more_doms}
use Rattle.ess_semantics.specs.Kinds.{doms_of, is_bounded}
use Rattle.ess_core.specs.declared.domains.Dom.{Dom}
use Rattle.ess_core.specs.declared.domains.FieldDom.{FieldDom}
use Rattle.ess_core.specs.declared.domains.Range.{Range}
use Rattle.ess_core.specs.declared.domains.Range.TheVariants as range
use Rattle.ess_core.specs.declared.expressions.Ex as code
use Rattle.ess_core.specs.declared.domains.Dom.TheViews.{out-FieldDom}
use Rattle.ess_core.specs.TreeViews.{words_of, within, exs_of, span, field_values, pure_range, pure_ex, pure_dom, pure_doms, pure_field_dom}
use Rattle.ess_core.proofs.PartEquations.{pure_range_one, pure_range_span, pure_field_dom_is}
use Rattle.ess_repr.proofs.Present.{bound_there}
use Rattle.ess_repr_declare_laws.specs.SizeTerms.{zero_ex, one_ex, times_ex, listed_ex, between_ex, bound_or_0, count_ex, number_of, greatest_size_of, occurrences_ex, bound_ex, product_ex, product_behind, slots_ex}

-- ---- ranges

pub count_one : (rs : List Range) (r : Range) (e : Ex) → length rs ≡ 1 → r ≡ get_or rs 0 r → e ≡ count_ex ((pure_range r).0 ∷ []) (exs_of (pure_range r).1) →
    e ≡ count_ex (words_of (map pure_range rs)) (exs_of (within (map pure_range rs)))
count_one [] r e h is p = cc
count_one (x ∷ []) r e h is p =
    p ∙ ap (λ y. count_ex ((pure_range y).0 ∷ []) (exs_of (pure_range y).1)) is
    ∙ ap (λ es. count_ex ((pure_range x).0 ∷ []) (exs_of es)) (sym (append-nil (pure_range x).1))
count_one (x ∷ y ∷ rs) r e h is p = absurd (omega arith)

two-bounded : (v w : Ends) (ws : List Ends) (es : Exs) →
    count_ex (v ∷ w ∷ ws) es ≡ (if is_bounded (v ∷ w ∷ ws) then listed_ex (int_dom (v ∷ w ∷ ws) es) else zero_ex)
two-bounded one_value w ws es = refl
two-bounded both_ends w ws es = refl
two-bounded low_end w ws es = refl
two-bounded high_end w ws es = refl

other : (rs : List Range) → (length rs ≡ 1 → ⊥) →
    count_ex (words_of (map pure_range rs)) (exs_of (within (map pure_range rs)))
    ≡ (if is_bounded (words_of (map pure_range rs)) then listed_ex (int_dom (words_of (map pure_range rs)) (exs_of (within (map pure_range rs)))) else zero_ex)
other [] h = refl
other (x ∷ []) h = absurd (h refl)
other (x ∷ y ∷ rs) h = two-bounded (pure_range x).0 (pure_range y).0 (words_of (map pure_range rs)) (exs_of (within (map pure_range (x ∷ y ∷ rs))))

pub count_many : (rs : List Range) → (length rs ≡ 1 → ⊥) → is_bounded (words_of (map pure_range rs)) ≡ true →
    count_ex (words_of (map pure_range rs)) (exs_of (within (map pure_range rs))) ≡ listed_ex (int_dom (words_of (map pure_range rs)) (exs_of (within (map pure_range rs))))
count_many rs h b = other rs h ∙ ap (λ c. if c then listed_ex (int_dom (words_of (map pure_range rs)) (exs_of (within (map pure_range rs)))) else zero_ex) b

pub count_open : (rs : List Range) → (length rs ≡ 1 → ⊥) → is_bounded (words_of (map pure_range rs)) ≡ false →
    count_ex (words_of (map pure_range rs)) (exs_of (within (map pure_range rs))) ≡ zero_ex
count_open rs h b = other rs h ∙ ap (λ c. if c then listed_ex (int_dom (words_of (map pure_range rs)) (exs_of (within (map pure_range rs)))) else zero_ex) b

-- A range of one value has one member.
pub count_single : (r : Range) (v : code.Ex) (e : Ex) → r ≡ range.One v → e ≡ one_ex → e ≡ count_ex ((pure_range r).0 ∷ []) (exs_of (pure_range r).1)
count_single r v e p q = q ∙ sym (ap (λ x. count_ex (x.0 ∷ []) (exs_of x.1)) (ap pure_range p ∙ pure_range_one v))

-- A range of these bounds.
abbrev counted : Option code.Ex → Option code.Ex → Ex
counted l h = count_ex ((span (option_map pure_ex l) (option_map pure_ex h)).0 ∷ []) (exs_of (span (option_map pure_ex l) (option_map pure_ex h)).1)

-- A range has as many members as one of its bounds.
pub count_span : (r : Range) (l h : Option code.Ex) (e : Ex) → r ≡ range.Span l h → e ≡ counted l h →
    e ≡ count_ex ((pure_range r).0 ∷ []) (exs_of (pure_range r).1)
count_span r l h e p q = q ∙ sym (ap (λ x. count_ex (x.0 ∷ []) (exs_of x.1)) (ap pure_range p ∙ pure_range_span l h))

pub span_both : (l h : Option code.Ex) (a b : code.Ex) (e : Ex) → l ≡ Some a → h ≡ Some b → e ≡ between_ex (pure_ex a) (pure_ex b) →
    e ≡ count_ex ((span (option_map pure_ex l) (option_map pure_ex h)).0 ∷ []) (exs_of (span (option_map pure_ex l) (option_map pure_ex h)).1)
span_both l h a b e p q r =
    r ∙ sym (ap (λ x. counted x h) p ∙ ap (λ x. counted (Some a) x) q
    ∙ ap (λ x. between_ex x (bound_or_0 (pure_ex b))) (bound_there a) ∙ ap (between_ex (pure_ex a)) (bound_there b))

-- ---- attributes

pub greatest_there : (ms : List Mark) (es : Exs) (e : Ex) → number_of Key.Size ms es ≡ Some e → greatest_size_of ms es ≡ Some e
greatest_there ms es e h = ap (λ o. or_else o (number_of Key.MaxSize ms es)) h

pub greatest_other : (ms : List Mark) (es : Exs) → number_of Key.Size ms es ≡ None → greatest_size_of ms es ≡ number_of Key.MaxSize ms es
greatest_other ms es h = ap (λ o. or_else o (number_of Key.MaxSize ms es)) h

pub times_there : (ms : List Mark) (es : Exs) (e : Ex) → number_of Key.MaxOccur ms es ≡ Some e → occurrences_ex ms es ≡ e
times_there ms es e h = ap (λ o. or_default (or_else o (greatest_size_of ms es)) zero_ex) h

pub times_other : (ms : List Mark) (es : Exs) → number_of Key.MaxOccur ms es ≡ None → occurrences_ex ms es ≡ or_default (greatest_size_of ms es) zero_ex
times_other ms es h = ap (λ o. or_default (or_else o (greatest_size_of ms es)) zero_ex) h

pub default_there : (o : Option Ex) (e f : Ex) → o ≡ Some e → or_default o f ≡ e
default_there o e f h = ap (λ p. or_default p f) h

pub default_other : (o : Option Ex) (f : Ex) → o ≡ None → or_default o f ≡ f
default_other o f h = ap (λ p. or_default p f) h

-- ---- products

module _ {A : Type 0} (P : List A → pure.Doms) (f : A → pure.Dom) (end : P [] ≡ no_doms)
    (step : (x : A) (xs : List A) → P (x ∷ xs) ≡ more_doms (f x) (P xs)) where
  none : (xs : List A) → length xs ≡ 0 → product_ex (P xs) ≡ pure.number_ex (pos 1)
  none [] h = ap product_ex end
  none (x ∷ xs) h = cc

  first : (xs : List A) (x : A) (e : Ex) → (length xs ≡ 0 → ⊥) → x ≡ get_or xs 0 x → e ≡ bound_ex (f x) → product_behind e (P (drop 1 xs)) ≡ product_ex (P xs)
  first [] x e h is p = absurd (h refl)
  first (y ∷ xs) x e h is p = ap (λ t. product_behind t (P xs)) (p ∙ ap (λ z. bound_ex (f z)) is) ∙ sym (ap product_ex (step y xs))

  more : (xs : List A) (i : ℕ) (x : A) (t e u : Ex) → i < length xs → x ≡ get_or xs i x → e ≡ bound_ex (f x) → u ≡ times_ex t e →
      product_behind t (P (drop i xs)) ≡ product_ex (P xs) → product_behind u (P (drop (i + 1) xs)) ≡ product_ex (P xs)
  more xs i x t e u h is p q k =
      ap (λ z. product_behind z (P (drop (i + 1) xs))) (q ∙ ap (times_ex t) p)
      ∙ sym (at_drop_more (λ l. product_behind t (P l)) xs i x h ∙ ap (λ y. product_behind t (P (y ∷ drop (i + 1) xs))) (sym is)
      ∙ ap (product_behind t) (step x (drop (i + 1) xs))) ∙ k

  all : (xs : List A) (i : ℕ) (t : Ex) → length xs ≤ i → product_behind t (P (drop i xs)) ≡ product_ex (P xs) → t ≡ product_ex (P xs)
  all xs i t h k = sym (at_drop_all (λ l. product_behind t (P l)) xs i h ∙ ap (product_behind t) end) ∙ k

-- The pure domains of fields.
abbrev pub fields : List FieldDom → pure.Doms
fields fs = doms_of (field_values (map pure_field_dom fs))

field-step : (x : FieldDom) (xs : List FieldDom) → fields (x ∷ xs) ≡ more_doms (pure_dom (out-FieldDom x).dom) (fields xs)
field-step x xs = ap (λ d. more_doms d (fields xs)) (ap (λ f. f.1) (pure_field_dom_is x))

pub product_none : (ds : List Dom) → length ds ≡ 0 → product_ex (pure_doms ds) ≡ pure.number_ex (pos 1)
product_none = none pure_doms pure_dom refl (λ x xs. refl)

pub product_first : (ds : List Dom) (d : Dom) (e : Ex) → (length ds ≡ 0 → ⊥) → d ≡ get_or ds 0 d → e ≡ bound_ex (pure_dom d) →
    product_behind e (pure_doms (drop 1 ds)) ≡ product_ex (pure_doms ds)
product_first = first pure_doms pure_dom refl (λ x xs. refl)

pub product_more : (ds : List Dom) (i : ℕ) (d : Dom) (t e u : Ex) → i < length ds → d ≡ get_or ds i d → e ≡ bound_ex (pure_dom d) → u ≡ times_ex t e →
    product_behind t (pure_doms (drop i ds)) ≡ product_ex (pure_doms ds) → product_behind u (pure_doms (drop (i + 1) ds)) ≡ product_ex (pure_doms ds)
product_more = more pure_doms pure_dom refl (λ x xs. refl)

pub product_all : (ds : List Dom) (i : ℕ) (t : Ex) → length ds ≤ i → product_behind t (pure_doms (drop i ds)) ≡ product_ex (pure_doms ds) → t ≡ product_ex (pure_doms ds)
product_all = all pure_doms pure_dom refl (λ x xs. refl)

pub field_product_none : (fs : List FieldDom) → length fs ≡ 0 → product_ex (fields fs) ≡ pure.number_ex (pos 1)
field_product_none = none fields (λ x. pure_dom (out-FieldDom x).dom) refl field-step

pub field_product_first : (fs : List FieldDom) (f : FieldDom) (e : Ex) → (length fs ≡ 0 → ⊥) → f ≡ get_or fs 0 f → e ≡ bound_ex (pure_dom (out-FieldDom f).dom) →
    product_behind e (fields (drop 1 fs)) ≡ product_ex (fields fs)
field_product_first = first fields (λ x. pure_dom (out-FieldDom x).dom) refl field-step

pub field_product_more : (fs : List FieldDom) (i : ℕ) (f : FieldDom) (t e u : Ex) → i < length fs → f ≡ get_or fs i f →
    e ≡ bound_ex (pure_dom (out-FieldDom f).dom) → u ≡ times_ex t e →
    product_behind t (fields (drop i fs)) ≡ product_ex (fields fs) → product_behind u (fields (drop (i + 1) fs)) ≡ product_ex (fields fs)
field_product_more = more fields (λ x. pure_dom (out-FieldDom x).dom) refl field-step

pub field_product_all : (fs : List FieldDom) (i : ℕ) (t : Ex) → length fs ≤ i → product_behind t (fields (drop i fs)) ≡ product_ex (fields fs) → t ≡ product_ex (fields fs)
field_product_all = all fields (λ x. pure_dom (out-FieldDom x).dom) refl field-step
