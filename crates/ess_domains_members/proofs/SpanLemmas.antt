-- Ranges of numbers, where there is one and where there is none.
use Rattle.std.proofs.Common.{◌≡◌, refl, ◌<◌, Bool, true, List, [], ◌∷◌, length, map, ℤ, arith}
use Rattle.std.specs.List.{list_any}
use Rattle.ess_semantics.specs.Membership.{in_span, in_spans}
use Rattle.ess_eval_domains.specs.declared.closed.Span.{Span}
use Rattle.ess_eval_domains.specs.ClosedViews.{pure_span}

pub no_spans : (ss : List Span) (n : ℤ) → length ss ≡ 0 → true ≡ in_spans (map pure_span ss) n
no_spans [] n h = refl
no_spans (s ∷ ss) n h = cc

pub some_spans : (ss : List Span) (n : ℤ) (b : Bool) → 0 < length ss → b ≡ list_any (in_span n) (map pure_span ss) → b ≡ in_spans (map pure_span ss) n
some_spans [] n b h e = absurd (omega arith)
some_spans (s ∷ ss) n b h e = e
