-- Ranges with 0 as one more number.
use Rattle.std.proofs.Common.{◌≡◌, refl, sym, ap, ◌∙◌, Bool, true, false, if◌then◌else◌, List, [], ◌∷◌, ◌++◌, map, pos, Some}
use Rattle.ess_semantics.specs.Domains.{Span, Domain, integers}
use Rattle.ess_semantics.specs.Declarations.{widened}
use Rattle.eprime_eval_scalars.specs.declared.running.Run.{Run}
use Rattle.eprime_eval_scalars.specs.Runs.{pure_run}
use Rattle.eprime_eval.specs.ClosedDomains.{pure_closed}
use Rattle.eprime_eval.specs.declared.members.Closed.TheVariants.{Numbers}

-- The numbers of ranges, widened or not.
abbrev pub wide : Bool → List Span → Domain
wide out ss = if out then widened (integers ss) else integers ss

pub not_wide : (out : Bool) (rs : List Run) → out ≡ false → pure_closed (Numbers rs) ≡ wide out (map pure_run rs)
not_wide out rs e = sym (ap (λ b. wide b (map pure_run rs)) e)

pub wide_none : (out : Bool) (rs : List Run) → out ≡ true → rs ≡ [] → pure_closed (Numbers rs) ≡ wide out (map pure_run rs)
wide_none out rs e z = ap (λ l. integers (map pure_run l)) z ∙ sym (ap (λ b. wide b (map pure_run rs)) e
    ∙ ap (λ l. wide true (map pure_run l)) z)

some-wide : (ss : List Span) → (ss ≡ [] → ⊥) → integers (record { low = Some (pos 0); high = Some (pos 0) } ∷ ss) ≡ widened (integers ss)
some-wide [] z = absurd (z refl)
some-wide (s ∷ ss) z = refl

none-mapped : (rs : List Run) → map pure_run rs ≡ [] → rs ≡ []
none-mapped [] e = refl
none-mapped (r ∷ rs) e = cc

pub wide_some : (out : Bool) (rs us all : List Run) (r : Run) → out ≡ true → (rs ≡ [] → ⊥) → us ≡ rs →
    pure_run r ≡ record { low = Some (pos 0); high = Some (pos 0) } →
    all ≡ (r ∷ []) ++ us → pure_closed (Numbers all) ≡ wide out (map pure_run rs)
wide_some out rs us all r e z u q a =
    ap (λ l. integers (map pure_run l)) (a ∙ ap (λ l. r ∷ l) u) ∙ ap (λ s. integers (s ∷ map pure_run rs)) q
    ∙ some-wide (map pure_run rs) (λ w. z (none-mapped rs w)) ∙ sym (ap (λ b. wide b (map pure_run rs)) e)
