-- Shorter forms of views of functions with flags keep what they rewrite.
use Rattle.std.proofs.Common.{◌≡◌, refl, sym, ap, ◌∙◌, subst, true, false, [], ◌∷◌, length, Some}
use Rattle.ess_semantics.specs.declared.words.Op2.{Op2}
use Rattle.ess_semantics.specs.declared.words.Fun.{Fun}
use Rattle.ess_semantics.specs.declared.words.ReprKind.{ReprKind}
use Rattle.ess_semantics.specs.Trees.{Op, word, application, tuple_literal, repr, no_reprs, more_reprs, Ex, node_ex, seen_ex, ex2, fun1, no_exs, more_exs, tuple_dom, function_dom}
use Rattle.ess_semantics.specs.Domains.{functions, members}
use Rattle.ess_semantics.specs.FunctionLayers.{partial_layer}
use Rattle.ess_semantics.specs.Layers.{codes_of}
use Rattle.ess_semantics.specs.Representations.{layer}
use Rattle.ess_semantics.specs.Meaning.{Env, members_in, indices}
use Rattle.ess_semantics.specs.Meets.{Meets}
use Rattle.ess_semantics.specs.Kept.{Keeps}
use Rattle.ess_rules_laws.specs.FunctionLookups.{unmarked}
use Rattle.ess_rules_laws.specs.FunctionKeys.{flag_of, defined_where_flagged, flagged_view_at, lookup_behind_flag, ToldBy, ArgumentTold, DefinedTold}
use Rattle.ess_rules_laws.proofs.RuleAnswers.{AnswerKeeps, fires}
use Rattle.ess_rules_laws.proofs.FunctionLookups.{AnswerLooks}
use Rattle.ess_rules_laws.proofs.FunctionViewParts.{opened}
use Rattle.ess_rules_laws.proofs.FunctionViewLookups.{Applies, application-applies, image-applies}
use Rattle.ess_rules_laws.proofs.ArgumentRuns.{atom_index, atom-members-there}
use Rattle.ess_rules_laws.proofs.TupleRuns.{tuple_index, axes_over, tuple-parts, each-held, tuple-members-there}
use Rattle.ess_rules_laws.proofs.FunctionKeys.{literal-keys}
use Rattle.ess_rules_laws.proofs.FlaggedArguments.{flag-defines, flag-looks}

-- ---- the flag at a term

flag-answer : (f a : Ex) (env : Env) → ToldBy f a env → Meets f env → Meets a env →
    AnswerKeeps (flag_of f a) (ex2 true Op2.Member a (fun1 false Fun.Defined f)) env
flag-answer (seen_ex (repr ReprKind.Function1DPartial (more_reprs r no_reprs)) (function_dom ms es d c) (f ∷ ns) js) a env h m n = λ y.
    let o = opened (repr ReprKind.Function1DPartial (more_reprs r no_reprs)) ms es d c (f ∷ ns) js env m in
    let u : members o.d ≡ Some h.members = sym (ap members_in o.first_is) ∙ h.are_members in
    flag-defines atom_index ReprKind.Function1DPartial r ms es d c js env (codes_of o.d ∷ []) f ns o refl refl h.members u
    (atom-members-there o.d h.members u) m h.value a h.is_value h.is_told (more_exs a no_exs) (ap (λ z. indices (z ∷ [])) h.is_value)
    (n, tt)
flag-answer (seen_ex (repr ReprKind.FunctionNDPartial (more_reprs r no_reprs)) (function_dom ms es (tuple_dom ds) c) (f ∷ ns) js)
    (node_ex false tuple_literal as') env h m n = λ y.
    let o = opened (repr ReprKind.FunctionNDPartial (more_reprs r no_reprs)) ms es (tuple_dom ds) c (f ∷ ns) js env m in
    let p = tuple-parts ds env o.d o.first_is in
    let u : members o.d ≡ Some h.members = sym (ap members_in o.first_is) ∙ h.are_members in
    let t = tuple-members-there p.0 h.members (ap members p.2 ∙ u) in
    flag-defines tuple_index ReprKind.FunctionNDPartial r ms es (tuple_dom ds) c js env (axes_over p.0) f ns o
    (subst (λ z. layer ReprKind.FunctionNDPartial (functions o.ks z o.c) ≡
    Some (partial_layer o.ks (axes_over p.0) tuple_index z o.c)) p.2 refl)
    refl h.members u t.0 m h.value (node_ex false tuple_literal as') h.is_value h.is_told as' (literal-keys as' env h.value h.is_value) n
flag-answer _ a env h m n = tt

defined-answer : (e : Ex) (env : Env) → DefinedTold e env → Meets e env → AnswerKeeps (defined_where_flagged e) e env
defined-answer (ex2 true Op2.Member a (fun1 false Fun.Defined f)) env h m = flag-answer f a env h m.1.0.0 m.0
defined-answer _ env h m = tt

-- A term is an argument of a function with flags where the flag there is true.
pub defined_where_flagged-keeps : (e f : Ex) → defined_where_flagged e ≡ Some f → (env : Env) → DefinedTold e env → Keeps e f env
defined_where_flagged-keeps e f q env h m = fires (defined_where_flagged e) e f env (defined-answer e env h m) q m

-- ---- the view behind the flag

looked : (op : Op) → Applies op → (f a : Ex) (env : Env) → ToldBy f a env → Meets f env → Meets a env →
    AnswerLooks (flagged_view_at f a) (node_ex false op (more_exs f (more_exs a no_exs))) env
looked op k (seen_ex (repr ReprKind.Function1DPartial (more_reprs r no_reprs)) (function_dom ms es d c) (f ∷ ns) js) a env h m n =
    let o = opened (repr ReprKind.Function1DPartial (more_reprs r no_reprs)) ms es d c (f ∷ ns) js env m in
    let u : members o.d ≡ Some h.members = sym (ap members_in o.first_is) ∙ h.are_members in
    flag-looks atom_index ReprKind.Function1DPartial r ms es d c js env (codes_of o.d ∷ []) f ns o refl refl h.members u
    (atom-members-there o.d h.members u) m h.value a h.is_value h.is_told (more_exs a no_exs) (ap (λ z. indices (z ∷ [])) h.is_value)
    (n, tt)
    (λ z. refl) op k
looked op k (seen_ex (repr ReprKind.FunctionNDPartial (more_reprs r no_reprs)) (function_dom ms es (tuple_dom ds) c) (f ∷ ns) js)
    (node_ex false tuple_literal as') env h m n =
    let o = opened (repr ReprKind.FunctionNDPartial (more_reprs r no_reprs)) ms es (tuple_dom ds) c (f ∷ ns) js env m in
    let p = tuple-parts ds env o.d o.first_is in
    let u : members o.d ≡ Some h.members = sym (ap members_in o.first_is) ∙ h.are_members in
    let t = tuple-members-there p.0 h.members (ap members p.2 ∙ u) in
    flag-looks tuple_index ReprKind.FunctionNDPartial r ms es (tuple_dom ds) c js env (axes_over p.0) f ns o
    (subst (λ z. layer ReprKind.FunctionNDPartial (functions o.ks z o.c) ≡
    Some (partial_layer o.ks (axes_over p.0) tuple_index z o.c)) p.2 refl)
    refl h.members u t.0 m h.value (node_ex false tuple_literal as') h.is_value h.is_told as' (literal-keys as' env h.value h.is_value) n
    (λ z. each-held h.members (λ v. length (tuple_index v) ≡ length (axes_over p.0)) h.value t.1 z) op k
looked op k _ a env h m n = tt

-- It looks the result up.
pub behind_flag-looked : (e : Ex) (env : Env) → ArgumentTold e env → Meets e env → AnswerLooks (lookup_behind_flag e) (unmarked e) env
behind_flag-looked (node_ex b application (more_exs f (more_exs a no_exs))) env h m =
    looked application application-applies f a env h m.0 m.1.0
behind_flag-looked (node_ex b (word Fun.Image) (more_exs f (more_exs a no_exs))) env h m =
    looked (word Fun.Image) image-applies f a env h m.0 m.1.0
behind_flag-looked _ env h m = tt
