-- Chains of rules of views of sets keep meanings, structures met and values.
use Rattle.std.proofs.Common.{◌≡◌, refl, ◌∙◌, Bool, true}
use Rattle.ess_semantics.specs.Names.{Names}
use Rattle.ess_semantics.specs.Trees.{Ex}
use Rattle.ess_semantics.specs.Types.{Ty}
use Rattle.ess_semantics.specs.Meaning.{Env}
use Rattle.ess_semantics.specs.Meets.{Meets}
use Rattle.ess_semantics.specs.Contexts.{In, fill, Where}
use Rattle.ess_semantics.specs.NamesAt.{names_at}
use Rattle.ess_semantics.specs.Kept.{Keeps}
use Rattle.ess_rules_laws.proofs.KeptUnder.{step-here}
use Rattle.ess_rules_laws.proofs.Places.{where-join}
use Rattle.ess_refine_laws.specs.ScopesStay.{is_outside_views}
use Rattle.ess_refine_laws.specs.AllRules.{Supply}
use Rattle.ess_values_along_laws.specs.Valued.{Valued}
use Rattle.ess_values_along_laws.specs.ValuesAlong.{natural_at, KeepsValues}
use Rattle.ess_values_along_laws.proofs.ValuesAlong.{values-along}
use Rattle.ess_valued_chains_laws.specs.ValuedChains.{StaysValued}
use Rattle.ess_valued_chains_laws.proofs.Parts.{valued-part, met-part}
use Rattle.ess_kind_steps_laws.specs.SetsAtHand.{AtHand}
use Rattle.ess_kind_steps_laws.proofs.SetsAsked.{set-rules-have}
use Rattle.ess_kind_values_laws.proofs.SetsKeepValues.{set-rules-keep-values}
use Rattle.ess_kind_chains_laws.specs.SetChains.{IsSetStep, at_rest, set_at, otherwise, SetChainsKeep}

-- ---- one step at a part

module _ (s : Supply) (g : Names Ty) (a b : Ex) (i : IsSetStep s g a b) where
  -- What the rule has at hand, and structures that are met.
  abbrev Given : Env → Type 0
  Given here = AtHand s g i.rule a here × Meets a here

  keeps : (w : Bool) (here : Env) → AtHand s g i.rule a here → Valued w a here → Keeps a b here
  keeps w here h v = set-rules-have.kept s g i.rule a b i.fires i.of_sets here h w v

  turns : (w : Bool) (here : Env) → Given here → Keeps a b here → KeepsValues w a b here
  turns w here h k =
      ((k h.1).0, λ v. set-rules-keep-values s g i.rule a b i.fires i.of_sets here h.0 w h.1 v)

  step-stays : (c : In) (env : Env) (w : Bool) → is_outside_views c ≡ true → Where c env (AtHand s g i.rule a) → Meets (fill c a) env →
      Valued w (fill c a) env → StaysValued w (fill c a) (fill c b) env
  step-stays c env w o h x v =
      let z : Bool = natural_at a c w in
      let kept = where-join (AtHand s g i.rule a) (Valued z a) (Keeps a b) (λ here p q. keeps z here p q) c env h
      (valued-part a c w env o v) in
      let given = where-join (AtHand s g i.rule a) (Meets a) Given (λ here p q. (p, q)) c env h (met-part a c env x) in
      let turned = where-join Given (Keeps a b) (KeepsValues z a b) (λ here p q. turns z here p q) c env given kept in
      let whole = step-here c a b env kept x in
      record { means = whole.0; met = whole.1; valued = (values-along.at_a_part c w a b env o turned).1 v }

-- ---- a chain

-- One after the other.
both-stay : (w : Bool) (a b e : Ex) (env : Env) → StaysValued w a b env → StaysValued w b e env → StaysValued w a e env
both-stay w a b e env p q = record { means = p.means ∙ q.means; met = q.met; valued = q.valued }

-- Along a chain.
pub set-chains-keep : SetChainsKeep
set-chains-keep env w g old new at_rest x v = record { means = refl; met = x; valued = v }
set-chains-keep env w g old new (set_at {a = a} {b = b} s c i o h n) x v =
    let p : StaysValued w (fill c a) (fill c b) env = step-stays s (names_at c g) a b i c env w o h x v in
    both-stay w (fill c a) (fill c b) new env p (set-chains-keep env w g (fill c b) new n p.met p.valued)
set-chains-keep env w g old new (otherwise {b = b} f n) x v =
    let p : StaysValued w old b env = f x v in
    both-stay w old b new env p (set-chains-keep env w g b new n p.met p.valued)
