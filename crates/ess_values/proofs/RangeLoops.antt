-- The loop over ranges of literals: what each range adds to the numbers before it, where it adds too many or none, and the end.
use Rattle.std.proofs.Common.{◌≡◌, sym, ap, ◌∙◌, ℕ, ◌+◌, ◌<◌, ◌≤◌, Bool, true, false, if◌then◌else◌, List, ◌∷◌, ◌++◌, length, map, drop, get_or, Some, None, option_map}
use Rattle.std.specs.Prelude.{nat_le}
use Rattle.std.proofs.lemmas.List.{at_drop_more, at_drop_all}
use Rattle.ess_semantics.specs.Lists.{and_then}
use Rattle.ess_semantics.specs.Domains.{interval}
use Rattle.ess_core.specs.declared.domains.Range.{Range}
use Rattle.ess_core.specs.TreeViews.{pure_range}
use Rattle.ess_core.specs.ValueViews.{pure_val}
use Rattle.ess_core.specs.declared.values.Val.{Val}
use Rattle.ess_values.specs.Ranges.{literal_interval, numbers_of}
use Rattle.ess_values.specs.Literals.{pure_interval}
use Rattle.ess_values.specs.declared.literals.index.Interval.{Interval}
use Rattle.ess_values.proofs.Ahead.{ahead, ahead_all, ahead_more}

numbers_next : (rs : List Range) (i : ℕ) (r : Range) (n : ℕ) → i < length rs → r ≡ get_or rs i r
    → numbers_of n (map pure_range (drop i rs)) ≡ and_then (literal_interval (pure_range r)) (λ j. if nat_le (length (interval j.0 j.1)) n then option_map (λ more. interval j.0 j.1 ++ more) (numbers_of n (map pure_range (drop (i + 1) rs))) else None)
numbers_next rs i r n h is =
    at_drop_more (λ l. numbers_of n (map pure_range l)) rs i r h ∙ ap (λ s. numbers_of n (pure_range s ∷ map pure_range (drop (i + 1) rs))) (sym is)

numbers_at : (rs : List Range) (i : ℕ) (r : Range) (n : ℕ) (s : Interval) (b : Bool) → i < length rs → r ≡ get_or rs i r → Some (pure_interval s) ≡ literal_interval (pure_range r)
    → nat_le (length (interval s.low s.high)) n ≡ b
    → numbers_of n (map pure_range (drop i rs)) ≡ (if b then option_map (λ more. interval s.low s.high ++ more) (numbers_of n (map pure_range (drop (i + 1) rs))) else None)
numbers_at rs i r n s b h is e t =
    numbers_next rs i r n h is
    ∙ ap (λ o. and_then o (λ j. if nat_le (length (interval j.0 j.1)) n then option_map (λ more. interval j.0 j.1 ++ more) (numbers_of n (map pure_range (drop (i + 1) rs))) else None)) (sym e)
    ∙ ap (λ c. if c then option_map (λ more. interval s.low s.high ++ more) (numbers_of n (map pure_range (drop (i + 1) rs))) else None) t

pub numbers_step : (rs : List Range) (i : ℕ) (r : Range) (n : ℕ) (s : Interval) (old new : List Val) → i < length rs → r ≡ get_or rs i r → Some (pure_interval s) ≡ literal_interval (pure_range r)
    → nat_le (length (interval s.low s.high)) n ≡ true → map pure_val new ≡ map pure_val old ++ interval s.low s.high
    → ahead (map pure_val new) (numbers_of n (map pure_range (drop (i + 1) rs))) ≡ ahead (map pure_val old) (numbers_of n (map pure_range (drop i rs)))
numbers_step rs i r n s old new h is e t p =
    ap (λ l. ahead l (numbers_of n (map pure_range (drop (i + 1) rs)))) p
    ∙ ahead_more (map pure_val old) (interval s.low s.high) (numbers_of n (map pure_range (drop (i + 1) rs)))
    ∙ ap (ahead (map pure_val old)) (sym (numbers_at rs i r n s true h is e t))

pub numbers_long : (rs : List Range) (i : ℕ) (r : Range) (n : ℕ) (s : Interval) (old : List Val) → i < length rs → r ≡ get_or rs i r → Some (pure_interval s) ≡ literal_interval (pure_range r)
    → nat_le (length (interval s.low s.high)) n ≡ false → ahead (map pure_val old) (numbers_of n (map pure_range (drop i rs))) ≡ None
numbers_long rs i r n s old h is e t = ap (ahead (map pure_val old)) (numbers_at rs i r n s false h is e t)

pub numbers_bad : (rs : List Range) (i : ℕ) (r : Range) (n : ℕ) (old : List Val) → i < length rs → r ≡ get_or rs i r → None ≡ literal_interval (pure_range r)
    → ahead (map pure_val old) (numbers_of n (map pure_range (drop i rs))) ≡ None
numbers_bad rs i r n old h is e =
    ap (ahead (map pure_val old)) (numbers_next rs i r n h is
    ∙ ap (λ o. and_then o (λ j. if nat_le (length (interval j.0 j.1)) n then option_map (λ more. interval j.0 j.1 ++ more) (numbers_of n (map pure_range (drop (i + 1) rs))) else None)) (sym e))

pub numbers_end : (rs : List Range) (i n : ℕ) (old : List Val) → length rs ≤ i → ahead (map pure_val old) (numbers_of n (map pure_range (drop i rs))) ≡ Some (map pure_val old)
numbers_end rs i n old h = at_drop_all (λ l. ahead (map pure_val old) (numbers_of n (map pure_range l))) rs i h ∙ ahead_all (map pure_val old)
