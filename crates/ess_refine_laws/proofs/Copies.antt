-- A copy that uses no name that generators bind means the same at each of their bindings.
use Rattle.std.proofs.Common.{◌≡◌, ◌∙◌, Bool, false, ℤ, Option, Some, None}
use Rattle.ess_semantics.specs.declared.words.Fun.{Fun}
use Rattle.ess_semantics.specs.Values.{Text, number}
use Rattle.ess_semantics.specs.Trees.{Ex, comp_ex, fun1, Gens, no_gens, over, from, cond}
use Rattle.ess_semantics.specs.Meaning.{Env, bind, meaning, domain_of, members_in, with_pat}
use Rattle.ess_semantics.specs.Substitution.{NamesAre, NamesAreGens}
use Rattle.ess_rules_laws.specs.Rules.{IsTruth}
use Rattle.ess_rules_laws.proofs.Agreement.{outside, meaning-agree}
use Rattle.ess_rules_laws.proofs.Simulation.{any}
use Rattle.ess_rules_laws.proofs.Splices.{bind-outside}
use Rattle.ess_rules_laws.proofs.Bindings.{each-of-map}
use Rattle.ess_refine_laws.specs.Everywhere.{everywhere_dom, ReadsNumbers, ReadsUnder}
use Rattle.ess_refine_laws.specs.LeavingConditions.{Parted, at_last_condition}
use Rattle.ess_refine_laws.specs.ExtremeRules.{OppositeFits, ExtremeFits}
use Rattle.ess_refine_laws.specs.Copies.{CopyServes, CopyFits, CopiesServe}
use Rattle.ess_refine_laws.proofs.Replaced.{number-of}
use Rattle.ess_refine_laws.proofs.ExtremeRules.{extremes-keep}

module _ (r : Text → Bool) (e c m : Ex) (k : ℤ) (n : NamesAre (outside r) any m) where
  -- At each binding.
  copied : (gs : Gens) (env : Env) → NamesAreGens any r gs → meaning m env ≡ Some (number k) →
      ReadsUnder gs env (λ here. IsTruth (meaning c here) × ReadsNumbers e here) →
      ReadsUnder gs env (λ here. IsTruth (meaning c here) × ReadsNumbers e here × (meaning m here ≡ Some (number k)))
  copied no_gens env o q h = (h.0, h.1, q)
  copied (over p d gs) env o q h = (
    h.0,
    each-of-map (members_in (domain_of (everywhere_dom d) env))
        (λ v. ReadsUnder gs (with_pat p v env) (λ here. IsTruth (meaning c here) × ReadsNumbers e here))
        (λ v. ReadsUnder gs (with_pat p v env)
        (λ here. IsTruth (meaning c here) × ReadsNumbers e here × (meaning m here ≡ Some (number k))))
        (λ v. copied gs (with_pat p v env) o.2
        (meaning-agree env.positions env.types env.cells (outside r) m env.vals (bind p v env.vals) n (bind-outside r p v env.vals o.0)
        ∙ q)) h.1,
  )
  copied (from p x gs) env o q h = absurd h
  copied (cond b gs) env o q h = λ t. copied gs env o.1 q (h t)

copy-serves : (r : Text → Bool) (m : Ex) (f : Fun) (e : Ex) (o : Option Parted) (env : Env) → CopyServes r m f e o env →
    OppositeFits m f e o env
copy-serves r m f e None env h = tt
copy-serves r m f e (Some t) env h =
    let k = number-of _ h.2 in (k.0, k.1, copied r e t.condition m k.0 h.1 t.before env h.0 (h.3 ∙ k.1) h.4)

copy-fits : (r : Text → Bool) (m e : Ex) (env : Env) → CopyFits r m e env → ExtremeFits m e env
copy-fits r m (fun1 false f (comp_ex e gs)) env h = (h.0, copy-serves r m f e (at_last_condition gs) env h.1)
copy-fits r m _ env h = tt

-- What is kept with a copy.
pub copies-serve : CopiesServe
copies-serve r m e f q env h = extremes-keep m e f q env (copy-fits r m e env h)
