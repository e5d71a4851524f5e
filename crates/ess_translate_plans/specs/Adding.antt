-- What it means that plans are added for requests.
use Rattle.std.specs.Prelude.{◌≡◌, ◌++◌, List}
use Rattle.ess_semantics.specs.Values.{Text}
use Rattle.ess_semantics.specs.Contexts.{Each}
use Rattle.ess_semantics.specs.Plans.{Plan}
use Rattle.ess_translate_plans_laws.specs.Requests.{Request, plans_for_all, IsRightRequest}

-- Behind these plans and names of tables stand those of requests, whatever is asked for later: with the later plans they are the plans
-- for all.
abbrev pub Adds : List Request → List Text → List Plan → List Text → List Plan → List Text → Type 0
Adds qs declared before done after more =
    Each qs IsRightRequest → (later : List Request) →
    after ++ plans_for_all later declared more ≡ before ++ plans_for_all (qs ++ later) declared done
