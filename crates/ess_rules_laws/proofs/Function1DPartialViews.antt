-- Views of functions from an atom with flags offer their pairs, and are looked up.
use Rattle.std.proofs.Common.{refl, false, [], ◌∷◌}
use Rattle.ess_semantics.specs.declared.words.ReprKind.{ReprKind}
use Rattle.ess_semantics.specs.declared.words.Fun.{Fun}
use Rattle.ess_semantics.specs.Values.{Text}
use Rattle.ess_semantics.specs.Trees.{Op, word, application, repr, no_reprs, more_reprs, Ex, node_ex, seen_ex, no_exs, more_exs, function_dom}
use Rattle.ess_semantics.specs.Layers.{codes_of}
use Rattle.ess_semantics.specs.Meaning.{Env}
use Rattle.ess_semantics.specs.Meets.{Meets}
use Rattle.ess_rules_laws.specs.Rules.{Unused}
use Rattle.ess_rules_laws.specs.SetListings.{InOrderWhereMet}
use Rattle.ess_rules_laws.specs.FunctionLookups.{unmarked}
use Rattle.ess_rules_laws.specs.FunctionViews.{by_name, FirstThere, AppliedThere}
use Rattle.ess_rules_laws.specs.Function1DPartialViews.{function_1d_partial_listing, function_1d_partial_result, function_1d_partial_lookup}
use Rattle.ess_rules_laws.proofs.Simulation.{but}
use Rattle.ess_rules_laws.proofs.FunctionLookups.{AnswerLooks}
use Rattle.ess_rules_laws.proofs.FunctionViewParts.{opened}
use Rattle.ess_rules_laws.proofs.FunctionViews.{flagged-offers}
use Rattle.ess_rules_laws.proofs.FunctionViewLookups.{Applies, application-applies, image-applies}
use Rattle.ess_rules_laws.proofs.FunctionViewResults.{flagged-looked}
use Rattle.ess_rules_laws.proofs.ArgumentRuns.{atom_index, runs-over_atom}

-- Their pairs.
pub function_1d_partial-listed : (x : Text) (e : Ex) (env : Env) → Unused x e → Meets e env → FirstThere e env →
    InOrderWhereMet (function_1d_partial_listing x e) e env
function_1d_partial-listed x (seen_ex (repr ReprKind.Function1DPartial (more_reprs r no_reprs)) (function_dom ms es d c)
    (f ∷ ns) js) env new m h =
    let o = opened (repr ReprKind.Function1DPartial (more_reprs r no_reprs)) ms es d c (f ∷ ns) js env m in
    flagged-offers (but x) (by_name x) atom_index ReprKind.Function1DPartial r ms es d c js env new.0.2 new.1
    (codes_of o.d ∷ []) f ns o refl refl
    (runs-over_atom x env d o.d o.first_is h) m
function_1d_partial-listed x _ env new m h = tt

-- Their results.
looked : (op : Op) → Applies op → (x : Text) (f a : Ex) (env : Env) → Unused x f → Unused x a → Meets f env → Meets a env →
    FirstThere f env →
    AnswerLooks (function_1d_partial_result x f a) (node_ex false op (more_exs f (more_exs a no_exs))) env
looked op p x (seen_ex (repr ReprKind.Function1DPartial (more_reprs r no_reprs)) (function_dom ms es d c)
    (f ∷ ns) js) a env new new-a m ma h =
    let o = opened (repr ReprKind.Function1DPartial (more_reprs r no_reprs)) ms es d c (f ∷ ns) js env m in
    flagged-looked (but x) (by_name x) atom_index ReprKind.Function1DPartial r ms es d c js env new.0.2 new.1
    (codes_of o.d ∷ []) a new-a op p ma
    f ns o refl refl (runs-over_atom x env d o.d o.first_is h) m
looked op p x _ a env new new-a m ma h = tt

pub function_1d_partial-looked : (x : Text) (e : Ex) (env : Env) → Unused x e → Meets e env → AppliedThere e env →
    AnswerLooks (function_1d_partial_lookup x e) (unmarked e) env
function_1d_partial-looked x (node_ex b application (more_exs f (more_exs a no_exs))) env new m h =
    looked application application-applies x f a env new.0 new.1.0 m.0 m.1.0 h
function_1d_partial-looked x (node_ex b (word Fun.Image) (more_exs f (more_exs a no_exs))) env new m h =
    looked (word Fun.Image) image-applies x f a env new.0 new.1.0 m.0 m.1.0 h
function_1d_partial-looked x _ env new m h = tt
