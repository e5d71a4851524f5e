-- The ranges of int domains.
use Rattle.std.proofs.Common.{◌≡◌, refl, sym, ap, ◌∙◌, ℕ, suc, ◌+◌, ◌<◌, ◌≤◌, Bool, true, false, ◌&&◌, List, [], ◌∷◌, map, drop, length, get_or, Some, None}
use Rattle.std.specs.List.{list_all}
use Rattle.std.proofs.lemmas.List.{at_drop_more, at_drop_all}
use Rattle.std.specs.Prelude.{slice_get}
use Rattle.ess_semantics.specs.Kinds.{is_closed_end, is_bounded}
use Rattle.ess_core.specs.TreeViews.{words_of, pure_range}
use Rattle.ess_core.specs.declared.domains.Range.{Range}

-- Whether each range of a row has both bounds.
abbrev pub closed : List Range → Bool
closed rs = list_all is_closed_end (words_of (map pure_range rs))

-- Whether a range has both bounds.
abbrev pub one_closed : Range → Bool
one_closed r = is_closed_end (pure_range r).0

closed-first : (rs : List Range) (i : ℕ) (r : Range) → i < length rs → r ≡ get_or rs i r →
    closed (drop i rs) ≡ one_closed r && closed (drop (i + 1) rs)
closed-first rs i r h is = at_drop_more closed rs i r h ∙ ap (λ b. closed (b ∷ drop (i + 1) rs)) (sym is)

pub closed_more : (rs : List Range) (i : ℕ) (r : Range) → i < length rs → r ≡ get_or rs i r → one_closed r ≡ true →
    closed (drop i rs) ≡ closed (drop (i + 1) rs)
closed_more rs i r h is e = closed-first rs i r h is ∙ ap (λ b. b && closed (drop (i + 1) rs)) e

pub closed_none : (rs : List Range) (i : ℕ) (r : Range) → i < length rs → r ≡ get_or rs i r → one_closed r ≡ false →
    closed (drop i rs) ≡ false
closed_none rs i r h is e = closed-first rs i r h is ∙ ap (λ b. b && closed (drop (i + 1) rs)) e

pub closed_all : (rs : List Range) (i : ℕ) → length rs ≤ i → closed (drop i rs) ≡ true
closed_all rs i h = at_drop_all closed rs i h

pub unbounded : (rs : List Range) → slice_get rs 0 ≡ None → is_bounded (words_of (map pure_range rs)) ≡ false
unbounded [] h = refl
unbounded (r ∷ rs) h = cc

pub bounded_closed : (rs : List Range) (r : Range) → slice_get rs 0 ≡ Some r → is_bounded (words_of (map pure_range rs)) ≡ closed rs
bounded_closed [] x h = cc
bounded_closed (r ∷ rs) x h = refl

pub words_counted : (rs : List Range) → length (words_of (map pure_range rs)) ≡ length rs
words_counted [] = refl
words_counted (r ∷ rs) = ap suc (words_counted rs)
