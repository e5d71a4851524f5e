-- Ranges made one after the other, from bounds that are left: these stand from the last to the first.
use Rattle.std.proofs.Common.{◌≡◌, refl, sym, ap, ◌∙◌, ℕ, ◌+◌, ◌<◌, List, [], ◌∷◌, ◌++◌, append-nil, append_assoc, length, get_or, drop, map, reverse, Bool, false, ◌&&◌, Option, Some, None}
use Rattle.std.proofs.lemmas.List.{drop_more, reverse-append, reverse-reverse}
use Rattle.std.specs.List.{list_all}
use Rattle.std.specs.Option.{option_map}
use Rattle.ess_semantics.specs.Kinds.{is_closed_end, is_bounded}
use Rattle.ess_semantics.specs.Lists.{and_then}
use Rattle.ess_core_nodes.specs.declared.words.Ends.{Ends}
use Rattle.ess_core_nodes.specs.NodeViews.{pure_ends}
use Rattle.eprime_tree.specs.declared.expressions.PEx.{PEx}
use Rattle.eprime_tree.specs.declared.expressions.PRange.{PRange}
use Rattle.eprime_tree.specs.declared.expressions.PRange.TheVariants as range
use Rattle.eprime_read_convert.proofs.Sweeps.{put, put-none}
use Rattle.eprime_lowering.specs.Ranges.{first_range, ranges_of}

-- ---- the loop

-- The ranges so far, with those of the forms and the bounds that are left, are all ranges.
abbrev pub RangesLeft : List PRange → List Ends → List PEx → Option (List PRange) → Type 0
RangesLeft rs ends left all = put rs (ranges_of ends (reverse left)) ≡ all

put-more : {B : Type 0} (ys : List B) (y : B) (o : Option (List B)) → put ys (option_map (λ zs. y ∷ zs) o) ≡ put (ys ++ (y ∷ [])) o
put-more ys y None = refl
put-more ys y (Some zs) = ap (λ xs. Some xs) (sym (append_assoc ys (y ∷ []) zs))

-- At first all are left.
pub ranges_first : (rs : List PRange) (ends : List Ends) (left bounds : List PEx) → rs ≡ [] → left ≡ reverse bounds →
    RangesLeft rs ends left (ranges_of ends bounds)
ranges_first rs ends left bounds h k =
    ap (λ rs. put rs (ranges_of ends (reverse left))) h ∙ put-none (ranges_of ends (reverse left))
    ∙ ap (ranges_of ends) (ap reverse k ∙ reverse-reverse bounds)

at-form : (rs : List PRange) (e : Ends) (ends : List Ends) (es : List PEx) (o : Option (PRange × List PEx)) → o ≡ first_range e es →
    put rs (ranges_of (e ∷ ends) es) ≡ put rs (and_then o (λ p. option_map (λ ranges. p.0 ∷ ranges) (ranges_of ends p.1)))
at-form rs e ends es o h = ap (λ o. put rs (and_then o (λ p. option_map (λ ranges. p.0 ∷ ranges) (ranges_of ends p.1)))) (sym h)

-- A range is there: it goes behind the others.
pub ranges_more : (rs new : List PRange) (r : PRange) (o : Option PRange) (ends : List Ends) (i : ℕ) (e : Ends) (left less : List PEx)
    (all : Option (List PRange)) → option_map (λ r. (r, reverse less)) o ≡ first_range e (reverse left) → o ≡ Some r → new ≡ rs ++ r ∷ [] →
    i < length ends → e ≡ get_or ends i e → RangesLeft rs (drop i ends) left all → RangesLeft new (drop (i + 1) ends) less all
ranges_more rs new r o ends i e left less all h k n lt p l =
    let rest : List Ends = drop (i + 1) ends in
    ap (λ rs. put rs (ranges_of rest (reverse less))) n ∙ sym (put-more rs r (ranges_of rest (reverse less)))
    ∙ sym (at-form rs e rest (reverse left) (Some (r, reverse less)) (sym (ap (option_map (λ r. (r, reverse less))) k) ∙ h))
    ∙ ap (λ es. put rs (ranges_of es (reverse left))) (sym (drop_more ends i e lt ∙ ap (λ q. q ∷ rest) (sym p))) ∙ l

-- None is there: the bounds don't fit.
pub ranges_none : (rs : List PRange) (o : Option PRange) (ends : List Ends) (i : ℕ) (e : Ends) (left less : List PEx)
    (all : Option (List PRange)) → option_map (λ r. (r, reverse less)) o ≡ first_range e (reverse left) → o ≡ None →
    i < length ends → e ≡ get_or ends i e → RangesLeft rs (drop i ends) left all → None ≡ all
ranges_none rs o ends i e left less all h k lt p l =
    let rest : List Ends = drop (i + 1) ends in
    sym (at-form rs e rest (reverse left) None (sym (ap (option_map (λ r. (r, reverse less))) k) ∙ h))
    ∙ ap (λ es. put rs (ranges_of es (reverse left))) (sym (drop_more ends i e lt ∙ ap (λ q. q ∷ rest) (sym p))) ∙ l

-- No form and no bound is left.
pub ranges_all : (rs : List PRange) (left : List PEx) (all : Option (List PRange)) → left ≡ [] → RangesLeft rs [] left all → Some rs ≡ all
ranges_all rs left all h l =
    ap (λ xs. Some xs) (sym (append-nil rs)) ∙ sym (ap (λ es. put rs (ranges_of [] (reverse es))) h) ∙ l

no-ranges : (es : List PEx) → (es ≡ [] → ⊥) → ranges_of [] es ≡ None
no-ranges [] h = absurd (h refl)
no-ranges (e ∷ es) h = refl

-- A bound is left.
pub ranges_left : (rs : List PRange) (left : List PEx) (all : Option (List PRange)) → (left ≡ [] → ⊥) → RangesLeft rs [] left all →
    None ≡ all
ranges_left rs left all h l =
    sym (ap (put rs) (no-ranges (reverse left) (λ e. h (sym (reverse-reverse left) ∙ ap reverse e)))) ∙ l

pub ruleset ranges_swept = (ranges_first, ranges_more, ranges_none, ranges_all, ranges_left)

-- ---- one range

last-first : (new old : List PEx) (a : PEx) → old ≡ new ++ a ∷ [] → reverse old ≡ a ∷ reverse new
last-first new old a h = ap reverse h ∙ reverse-append new (a ∷ [])

-- One bound is taken out.
pub one_taken : (new old : List PEx) (a : PEx) → old ≡ new ++ a ∷ [] → Some (range.One a, reverse new) ≡ first_range Ends.One (reverse old)
one_taken new old a h = sym (ap (first_range Ends.One) (last-first new old a h))

pub low_taken : (new old : List PEx) (a : PEx) → old ≡ new ++ a ∷ [] →
    Some (range.Span (Some a) None, reverse new) ≡ first_range Ends.Low (reverse old)
low_taken new old a h = sym (ap (first_range Ends.Low) (last-first new old a h))

pub high_taken : (new old : List PEx) (a : PEx) → old ≡ new ++ a ∷ [] →
    Some (range.Span None (Some a), reverse new) ≡ first_range Ends.High (reverse old)
high_taken new old a h = sym (ap (first_range Ends.High) (last-first new old a h))

-- Two are.
pub two_taken : (new middle old : List PEx) (a b : PEx) → old ≡ middle ++ a ∷ [] → middle ≡ new ++ b ∷ [] →
    Some (range.Span (Some a) (Some b), reverse new) ≡ first_range Ends.Both (reverse old)
two_taken new middle old a b h k =
    sym (ap (first_range Ends.Both) (last-first middle old a h ∙ ap (λ l. a ∷ l) (last-first new middle b k)))

-- There is one where two are wanted.
pub one_left : (middle old : List PEx) (a : PEx) → old ≡ middle ++ a ∷ [] → middle ≡ [] → None ≡ first_range Ends.Both (reverse old)
one_left middle old a h k = sym (ap (first_range Ends.Both) (last-first middle old a h ∙ ap (λ l. a ∷ reverse l) k))

-- There is none.
pub none_left : (e : Ends) (old : List PEx) → old ≡ [] → None ≡ first_range e (reverse old)
none_left Ends.One old h = sym (ap (λ l. first_range Ends.One (reverse l)) h)
none_left Ends.Both old h = sym (ap (λ l. first_range Ends.Both (reverse l)) h)
none_left Ends.Low old h = sym (ap (λ l. first_range Ends.Low (reverse l)) h)
none_left Ends.High old h = sym (ap (λ l. first_range Ends.High (reverse l)) h)

pub ruleset bound_taken = (one_taken, low_taken, high_taken, none_left)

-- ---- whether ranges have their bounds

-- Each has.
pub bounded_all : (ends : List Ends) (b : Bool) → (ends ≡ [] → ⊥) → b ≡ list_all (λ e. is_closed_end (pure_ends e)) ends →
    b ≡ is_bounded (map pure_ends ends)
bounded_all [] b h k = absurd (h refl)
bounded_all (e ∷ ends) b h k = k ∙ ap (λ c. is_closed_end (pure_ends e) && c) (go ends)
  where
    go : (rs : List Ends) → list_all (λ e. is_closed_end (pure_ends e)) rs ≡ list_all is_closed_end (map pure_ends rs)
    go [] = refl
    go (r ∷ rs) = ap (λ c. is_closed_end (pure_ends r) && c) (go rs)

-- There is none.
pub bounded_none : (ends : List Ends) → ends ≡ [] → false ≡ is_bounded (map pure_ends ends)
bounded_none ends h = sym (ap (λ es. is_bounded (map pure_ends es)) h)
