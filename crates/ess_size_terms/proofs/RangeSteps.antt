-- The forms of ranges that sizes ask for, one by one.
use Rattle.std.proofs.Common.{◌≡◌, refl, sym, ap, ◌∙◌, Bool, true, false, if◌then◌else◌, List, [], ◌∷◌, Option, Some, None}
use Rattle.ess_semantics.specs.Trees.{Ends, one_value, both_ends, low_end, high_end, Ex, Exs, no_exs, more_exs, int_dom}
use Rattle.ess_semantics.specs.Kinds.{is_bounded}
use Rattle.ess_repr_declare_laws.specs.SizeTerms.{zero_ex, one_ex, next_ex, listed_ex, between_ex, bound_or_0, lacks_bounds, count_ex, dummy_ex}
use Rattle.ess_size_terms.specs.RangeForms.{is_single, is_span, pair_of, span_of}

-- ---- domains whose one range has no bounds

-- Where there are no bounds, the one range has to have both.
pub lacks_both : (rs : List Ends) → lacks_bounds (int_dom rs no_exs) ≡ is_span rs
lacks_both [] = refl
lacks_both (one_value ∷ rs) = refl
lacks_both (both_ends ∷ []) = refl
lacks_both (both_ends ∷ r ∷ rs) = refl
lacks_both (low_end ∷ rs) = refl
lacks_both (high_end ∷ rs) = refl

-- Where there are bounds it isn't so.
pub lacks_none : (rs : List Ends) (e : Ex) (es : Exs) → lacks_bounds (int_dom rs (more_exs e es)) ≡ false
lacks_none [] e es = refl
lacks_none (one_value ∷ rs) e es = refl
lacks_none (both_ends ∷ []) e es = refl
lacks_none (both_ends ∷ r ∷ rs) e es = refl
lacks_none (low_end ∷ rs) e es = refl
lacks_none (high_end ∷ rs) e es = refl

-- What is made of two bounds, where they are there.
abbrev picked : (Ex → Ex → Ex) → Ex → Option (Ex × Ex) → Ex
picked f e None = e
picked f e (Some p) = f p.0 p.1

-- ---- the number of members

-- One value is one member.
pub count_single : (rs : List Ends) (es : Exs) → is_single rs ≡ true → count_ex rs es ≡ one_ex
count_single (one_value ∷ []) es h = refl
count_single [] es h = cc
count_single (one_value ∷ r ∷ rs) es h = cc
count_single (both_ends ∷ rs) es h = cc
count_single (low_end ∷ rs) es h = cc
count_single (high_end ∷ rs) es h = cc

-- One range with both bounds.
pub count_span : (rs : List Ends) (es : Exs) (a b : Ex) → span_of rs es ≡ Some (a, b) → count_ex rs es ≡ between_ex (bound_or_0 a) (bound_or_0 b)
count_span [] es a b h = cc
count_span (one_value ∷ rs) es a b h = cc
count_span (low_end ∷ rs) es a b h = cc
count_span (high_end ∷ rs) es a b h = cc
count_span (both_ends ∷ r ∷ rs) es a b h = cc
count_span (both_ends ∷ []) no_exs a b h = cc
count_span (both_ends ∷ []) (more_exs x no_exs) a b h = cc
count_span (both_ends ∷ []) (more_exs x (more_exs y (more_exs z es))) a b h = cc
count_span (both_ends ∷ []) (more_exs x (more_exs y no_exs)) a b h = ap (picked (λ u v. between_ex (bound_or_0 u) (bound_or_0 v)) one_ex) h

-- Any other ranges.
other : (rs : List Ends) (es : Exs) → is_single rs ≡ false → span_of rs es ≡ None →
    count_ex rs es ≡ (if is_bounded rs then listed_ex (int_dom rs es) else zero_ex)
other [] es h k = refl
other (one_value ∷ []) es h k = cc
other (one_value ∷ r ∷ rs) es h k = refl
other (low_end ∷ rs) es h k = refl
other (high_end ∷ rs) es h k = refl
other (both_ends ∷ r ∷ rs) es h k = refl
other (both_ends ∷ []) no_exs h k = refl
other (both_ends ∷ []) (more_exs x no_exs) h k = refl
other (both_ends ∷ []) (more_exs x (more_exs y (more_exs z es))) h k = refl
other (both_ends ∷ []) (more_exs x (more_exs y no_exs)) h k = cc

-- Those that have their bounds are counted one by one.
pub count_many : (rs : List Ends) (es : Exs) → is_single rs ≡ false → span_of rs es ≡ None → is_bounded rs ≡ true →
    count_ex rs es ≡ listed_ex (int_dom rs es)
count_many rs es h k b = other rs es h k ∙ ap (λ c. if c then listed_ex (int_dom rs es) else zero_ex) b

-- Others can't be.
pub count_open : (rs : List Ends) (es : Exs) → is_single rs ≡ false → span_of rs es ≡ None → is_bounded rs ≡ false →
    count_ex rs es ≡ zero_ex
count_open rs es h k b = other rs es h k ∙ ap (λ c. if c then listed_ex (int_dom rs es) else zero_ex) b

-- ---- dummies

-- One range with both bounds.
pub dummy_there : (rs : List Ends) (es : Exs) (a b : Ex) → span_of rs es ≡ Some (a, b) → dummy_ex (int_dom rs es) ≡ next_ex (bound_or_0 b)
dummy_there [] es a b h = cc
dummy_there (one_value ∷ rs) es a b h = cc
dummy_there (low_end ∷ rs) es a b h = cc
dummy_there (high_end ∷ rs) es a b h = cc
dummy_there (both_ends ∷ r ∷ rs) es a b h = cc
dummy_there (both_ends ∷ []) no_exs a b h = cc
dummy_there (both_ends ∷ []) (more_exs x no_exs) a b h = cc
dummy_there (both_ends ∷ []) (more_exs x (more_exs y (more_exs z es))) a b h = cc
dummy_there (both_ends ∷ []) (more_exs x (more_exs y no_exs)) a b h = ap (picked (λ u v. next_ex (bound_or_0 v)) zero_ex) h

-- Any other ranges.
pub dummy_none : (rs : List Ends) (es : Exs) → span_of rs es ≡ None → dummy_ex (int_dom rs es) ≡ zero_ex
dummy_none [] es k = refl
dummy_none (one_value ∷ rs) es k = refl
dummy_none (low_end ∷ rs) es k = refl
dummy_none (high_end ∷ rs) es k = refl
dummy_none (both_ends ∷ r ∷ rs) es k = refl
dummy_none (both_ends ∷ []) no_exs k = refl
dummy_none (both_ends ∷ []) (more_exs x no_exs) k = refl
dummy_none (both_ends ∷ []) (more_exs x (more_exs y (more_exs z es))) k = refl
dummy_none (both_ends ∷ []) (more_exs x (more_exs y no_exs)) k = cc
