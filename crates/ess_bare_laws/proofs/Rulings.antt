-- The rules that read kinds, and those of openings, in one.
use Rattle.std.proofs.Common.{◌≡◌, ℕ, Bool, Option, None}
use Rattle.ess_semantics.specs.Values.{Text}
use Rattle.ess_semantics.specs.Names.{Names}
use Rattle.ess_semantics.specs.Trees.{Ex, comp_ex, Gens}
use Rattle.ess_semantics.specs.Types.{Ty}
use Rattle.ess_refine_laws.specs.AllRules.{Supply}
use Rattle.ess_open_rules_laws.specs.OpenRules.{KindRuling, of_kind, of_opening, kind_ruled}
use Rattle.ess_bare_laws.specs.Bare.{Bare, Ranging}
use Rattle.ess_bare_laws.proofs.KindRules.{no-kind-rule, no-kind-list}
use Rattle.ess_bare_laws.proofs.OpenRules.{no-open-rule, no-open-list}

module _ (cells : Text → Option (Bool × ℕ)) (s : Supply) (g : Names Ty) (r : Names Bool) where
  -- None fires at a bare tree.
  pub no-ruling : {e : Ex} {m : Bool} → Bare cells r e m → (u : KindRuling) → kind_ruled s g u e ≡ None
  no-ruling f (of_kind u) = no-kind-rule cells s g r f u
  no-ruling f (of_opening u) = no-open-rule cells s g r f u

  -- None fires at a list of bare items.
  pub no-ruling-list : {t : Names Bool} {gs : Gens} (e : Ex) → Ranging cells r gs t → (u : KindRuling) →
      kind_ruled s g u (comp_ex e gs) ≡ None
  no-ruling-list e k (of_kind u) = no-kind-list cells s g r e k u
  no-ruling-list e k (of_opening u) = no-open-list cells s g r e k u
