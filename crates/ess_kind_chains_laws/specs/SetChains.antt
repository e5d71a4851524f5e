-- Chains of rules of views of sets, with other steps between them, keep meanings, structures met and values, from a tree on each part of
-- which has a value wherever its context holds, but for numbers in natural places. So they lay open views of sets of any nesting.
use Rattle.std.specs.Prelude.{◌≡◌, Bool, true, Some}
use Rattle.ess_semantics.specs.Names.{Names}
use Rattle.ess_semantics.specs.Trees.{Ex}
use Rattle.ess_semantics.specs.Types.{Ty}
use Rattle.ess_semantics.specs.Meaning.{Env}
use Rattle.ess_semantics.specs.Meets.{Meets}
use Rattle.ess_semantics.specs.Contexts.{In, fill, Where}
use Rattle.ess_semantics.specs.NamesAt.{names_at}
use Rattle.ess_refine_laws.specs.ScopesStay.{is_outside_views}
use Rattle.ess_refine_laws.specs.AllRules.{Supply}
use Rattle.ess_values_along_laws.specs.Valued.{Valued}
use Rattle.ess_valued_chains_laws.specs.ValuedChains.{StaysValued}
use Rattle.ess_kind_rules_laws.specs.KindRules.{KindRule, kind_rewrite}
use Rattle.ess_kind_sizes_laws.specs.SetRules.{is_of_sets}
use Rattle.ess_kind_steps_laws.specs.SetsAtHand.{AtHand}

-- A rule of views of sets makes b of a, where names have the types g.
pub record IsSetStep (s : Supply) (g : Names Ty) (a b : Ex) : Type 0 where
  pub rule : KindRule
  pub of_sets : is_of_sets rule ≡ true
  pub fires : kind_rewrite s g rule a ≡ Some b

-- Such rules one after the other, each at a part outside of views, where the rule has at hand what its view has wherever the context of
-- the part holds under this env; and between them other steps that keep meanings, structures met and values, as chains of other rules do
-- (`valued_chains_keep`). w says that the trees stand in a natural place.
module _ (env : Env) (w : Bool) where
  pub data SetChain : Names Ty → Ex → Ex → Type 0 where
    at_rest : {g : Names Ty} {e : Ex} → SetChain g e e
    set_at : {g : Names Ty} {a b e : Ex} (s : Supply) (c : In) (i : IsSetStep s (names_at c g) a b) → is_outside_views c ≡ true →
        Where c env (AtHand s (names_at c g) i.rule a) → SetChain g (fill c b) e → SetChain g (fill c a) e
    otherwise : {g : Names Ty} {a b e : Ex} → (Meets a env → Valued w a env → StaysValued w a b env) → SetChain g b e → SetChain g a e

-- So it is along each such chain.
abbrev pub SetChainsKeep : Type 0
SetChainsKeep = (env : Env) (w : Bool) (g : Names Ty) (old new : Ex) → SetChain env w g old new → Meets old env → Valued w old env →
    StaysValued w old new env
