-- Laws of plans one after the other, stated at a function that does nothing, so that their proofs are checked with the code.
use Rattle.std.specs.Prelude.{◌≡◌, true, List, [], ◌∷◌, None, codes}
use Rattle.ess_semantics.specs.Values.{Text}
use Rattle.ess_semantics.specs.Names.{Names}
use Rattle.ess_semantics.specs.Trees.{Repr, Stm}
use Rattle.ess_semantics.specs.Contexts.{Each}
use Rattle.ess_semantics.specs.Judgements.{fault}
use Rattle.ess_semantics.specs.Parameters.{all_declared}
use Rattle.ess_semantics.specs.Prepared.{prepared}
use Rattle.ess_semantics.specs.Plans.{kept_names, plans}
use Rattle.ess_translate_header_laws.specs.Headers.{are_reprs_of}
use Rattle.ess_translate_plans_laws.specs.Requests.{requests, plans_for_all, HasNumbers, IsRightRequest}

-- The names that are taken before any table has one.
abbrev pub taken_at_first : List Text
taken_at_first = codes "alldifferent_except" ∷ []

-- What holds of a well typed specification and representations that are those of its givens and finds, in order.
pub record ComeInOrder (S : List Stm) (rs : Names (List Repr)) : Type 0 where
  -- Each representation fits a domain that is sound.
  pub right : Each (requests (prepared S) rs) IsRightRequest
  -- The plans one after the other are those of the specification.
  pub plans : plans_for_all (requests (prepared S) rs) (all_declared S) taken_at_first ≡ plans S rs

-- The plans of a header come in order.
abbrev pub PlansComeInOrder : Type 0
PlansComeInOrder =
    (S : List Stm) (rs : Names (List Repr)) → fault S ≡ None → are_reprs_of (kept_names S) rs ≡ true →
    Each (kept_names S) (λ x. HasNumbers x.1) → ComeInOrder S rs
