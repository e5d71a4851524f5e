-- The ranges of int domains.
use Rattle.std.proofs.Common.{◌≡◌, refl, sym, ap, ◌∙◌, ℕ, suc, ◌+◌, ◌<◌, ◌≤◌, Bool, true, false, ◌&&◌, List, [], ◌∷◌, map, drop, length, get_or, Some, None, arith}
use Rattle.std.specs.List.{list_all}
use Rattle.std.proofs.lemmas.List.{at_drop_more, at_drop_all}
use Rattle.std.specs.Prelude.{slice_get}
use Rattle.ess_semantics.specs.Kinds.{is_closed_end, is_bounded, has_dummy}
use Rattle.ess_semantics.specs.Trees.{Ends, one_value, both_ends, low_end, high_end, Exs, no_exs, int_dom}
use Rattle.ess_core.specs.TreeViews.{words_of, within, exs_of, pure_range, pure_dom}
use Rattle.ess_core.specs.declared.domains.Range.{Range}

-- Whether each range of a row has both bounds.
abbrev pub closed : List Range → Bool
closed rs = list_all is_closed_end (words_of (map pure_range rs))

-- Whether a range has both bounds.
abbrev pub one_closed : Range → Bool
one_closed r = is_closed_end (pure_range r).0

closed-first : (rs : List Range) (i : ℕ) (r : Range) → i < length rs → r ≡ get_or rs i r →
    closed (drop i rs) ≡ one_closed r && closed (drop (i + 1) rs)
closed-first rs i r h is = at_drop_more closed rs i r h ∙ ap (λ b. closed (b ∷ drop (i + 1) rs)) (sym is)

pub closed_more : (rs : List Range) (i : ℕ) (r : Range) → i < length rs → r ≡ get_or rs i r → one_closed r ≡ true →
    closed (drop i rs) ≡ closed (drop (i + 1) rs)
closed_more rs i r h is e = closed-first rs i r h is ∙ ap (λ b. b && closed (drop (i + 1) rs)) e

pub closed_none : (rs : List Range) (i : ℕ) (r : Range) → i < length rs → r ≡ get_or rs i r → one_closed r ≡ false →
    closed (drop i rs) ≡ false
closed_none rs i r h is e = closed-first rs i r h is ∙ ap (λ b. b && closed (drop (i + 1) rs)) e

pub closed_all : (rs : List Range) (i : ℕ) → length rs ≤ i → closed (drop i rs) ≡ true
closed_all rs i h = at_drop_all closed rs i h

pub unbounded : (rs : List Range) → slice_get rs 0 ≡ None → is_bounded (words_of (map pure_range rs)) ≡ false
unbounded [] h = refl
unbounded (r ∷ rs) h = cc

pub bounded_closed : (rs : List Range) (r : Range) → slice_get rs 0 ≡ Some r → is_bounded (words_of (map pure_range rs)) ≡ closed rs
bounded_closed [] x h = cc
bounded_closed (r ∷ rs) x h = refl

-- ---- one range

dummy-any : (ws : List Ends) (es : Exs) → has_dummy (int_dom ws es) ≡ has_dummy (int_dom ws no_exs)
dummy-any [] es = refl
dummy-any (one_value ∷ []) es = refl
dummy-any (both_ends ∷ []) es = refl
dummy-any (low_end ∷ []) es = refl
dummy-any (high_end ∷ []) es = refl
dummy-any (one_value ∷ w ∷ ws) es = refl
dummy-any (both_ends ∷ w ∷ ws) es = refl
dummy-any (low_end ∷ w ∷ ws) es = refl
dummy-any (high_end ∷ w ∷ ws) es = refl

two-ends : (w v : Ends) (ws : List Ends) → has_dummy (int_dom (w ∷ v ∷ ws) no_exs) ≡ false
two-ends one_value v ws = refl
two-ends both_ends v ws = refl
two-ends low_end v ws = refl
two-ends high_end v ws = refl

pub span_there : (rs : List Range) (r : Range) (b : Bool) → length rs ≡ 1 → r ≡ get_or rs 0 r → b ≡ has_dummy (int_dom ((pure_range r).0 ∷ []) no_exs) →
    b ≡ has_dummy (int_dom (words_of (map pure_range rs)) no_exs)
span_there [] r b h is e = cc
span_there (x ∷ []) r b h is e = e ∙ ap (λ y. has_dummy (int_dom ((pure_range y).0 ∷ []) no_exs)) is
span_there (x ∷ y ∷ rs) r b h is e = absurd (omega arith)

pub span_other : (rs : List Range) → (length rs ≡ 1 → ⊥) → has_dummy (int_dom (words_of (map pure_range rs)) no_exs) ≡ false
span_other [] h = refl
span_other (x ∷ []) h = absurd (h refl)
span_other (x ∷ y ∷ rs) h = two-ends (pure_range x).0 (pure_range y).0 (words_of (map pure_range rs))

pub dummy_of_ints : (rs : List Range) → has_dummy (int_dom (words_of (map pure_range rs)) (exs_of (within (map pure_range rs)))) ≡ has_dummy (int_dom (words_of (map pure_range rs)) no_exs)
dummy_of_ints rs = dummy-any (words_of (map pure_range rs)) (exs_of (within (map pure_range rs)))
