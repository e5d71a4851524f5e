-- Shorter forms of views of total functions keep what they rewrite.
use Rattle.std.proofs.Common.{◌≡◌, refl, sym, ap, ◌∙◌, subst, Bool, true, false, List, [], ◌∷◌, map, Option, Some, None, option_map}
use Rattle.ess_semantics.specs.declared.words.Op2.{Op2}
use Rattle.ess_semantics.specs.declared.words.Fun.{Fun}
use Rattle.ess_semantics.specs.declared.words.ReprKind.{ReprKind}
use Rattle.ess_semantics.specs.Lists.{and_then, all_some}
use Rattle.ess_semantics.specs.Values.{Value, tuple, of_list}
use Rattle.ess_semantics.specs.Trees.{Op, word, application, tuple_literal, repr, no_reprs, more_reprs, Ex, Exs, truth_ex, node_ex, seen_ex, ex2, fun1, no_exs, more_exs, tuple_dom, function_dom}
use Rattle.ess_semantics.specs.Domains.{functions, members}
use Rattle.ess_semantics.specs.Tables.{code}
use Rattle.ess_semantics.specs.FunctionLayers.{total_layer}
use Rattle.ess_semantics.specs.Layers.{codes_of}
use Rattle.ess_semantics.specs.Representations.{layer}
use Rattle.ess_semantics.specs.Meaning.{Env, meaning, meanings, members_in, indices}
use Rattle.ess_semantics.specs.Meets.{Meets}
use Rattle.ess_semantics.specs.Kept.{Keeps}
use Rattle.ess_semantics.proofs.Orders.{to_list-of_list}
use Rattle.ess_rules_laws.specs.FunctionViews.{result_at}
use Rattle.ess_rules_laws.specs.FunctionKeys.{fits_mark, view_at, result_at_argument, is_total_view, defined_everywhere, HeldBy, ArgumentHeld, DefinedHeld}
use Rattle.ess_rules_laws.proofs.RuleAnswers.{AnswerKeeps, fires, when-so}
use Rattle.ess_rules_laws.proofs.FunctionViewParts.{opened}
use Rattle.ess_rules_laws.proofs.FunctionViewLookups.{Applies, application-applies, image-applies}
use Rattle.ess_rules_laws.proofs.ArgumentRuns.{atom_index, atom-members-there}
use Rattle.ess_rules_laws.proofs.TupleRuns.{tuple_index, axes_over, tuple-parts, each-held, tuple-members-there}
use Rattle.ess_rules_laws.proofs.SureArguments.{sure-defined, sure-result}

no : {A : Type 0} → false ≡ true → A
no h = cc

-- The indices of a tuple that is written as a literal.
pub literal-keys : (es : Exs) (env : Env) (w : Value) → meaning (node_ex false tuple_literal es) env ≡ Some w →
    indices (meanings es env) ≡ Some (tuple_index w)
literal-keys es env w q = go (all_some (meanings es env)) refl q
  where
    go : (o : Option (List Value)) → all_some (meanings es env) ≡ o → and_then o (λ ws. Some (tuple (of_list ws))) ≡ Some w →
        indices (meanings es env) ≡ Some (tuple_index w)
    go None e q = cc
    go (Some ws) e q = ap (option_map (map code)) e ∙ ap (λ l. Some (map code l)) (sym (to_list-of_list ws))
        ∙ ap (λ z. Some (tuple_index z)) (let z : tuple (of_list ws) ≡ w = cc in z)

-- ---- the view at an argument

at-answer : (op : Op) → Applies op → (b : Bool) (f a : Ex) (env : Env) → HeldBy f a env → Meets f env → Meets a env →
    AnswerKeeps (view_at b f a) (node_ex b op (more_exs f (more_exs a no_exs))) env
at-answer op p b (seen_ex (repr ReprKind.Function1D (more_reprs r no_reprs)) (function_dom ms es d c) ns js) a env h m n =
    when-so (fits_mark b c) (result_at r c ns js (more_exs a no_exs)) _ env (λ q y.
    let o = opened (repr ReprKind.Function1D (more_reprs r no_reprs)) ms es d c ns js env m in
    let u : members o.d ≡ Some h.members = sym (ap members_in o.first_is) ∙ h.are_members in
    sure-result atom_index ReprKind.Function1D r ms es d c js env (codes_of o.d ∷ []) ns o refl refl h.members u
    (atom-members-there o.d h.members u) m h.value a h.is_value h.is_held (more_exs a no_exs) (ap (λ z. indices (z ∷ [])) h.is_value) refl
    (n, tt) op p b q)
at-answer op p b (seen_ex (repr ReprKind.FunctionND (more_reprs r no_reprs)) (function_dom ms es (tuple_dom ds) c) ns js)
    (node_ex false tuple_literal as') env h m n =
    when-so (fits_mark b c) (result_at r c ns js as') _ env (λ q y.
    let o = opened (repr ReprKind.FunctionND (more_reprs r no_reprs)) ms es (tuple_dom ds) c ns js env m in
    let p' = tuple-parts ds env o.d o.first_is in
    let u : members o.d ≡ Some h.members = sym (ap members_in o.first_is) ∙ h.are_members in
    let t = tuple-members-there p'.0 h.members (ap members p'.2 ∙ u) in
    sure-result tuple_index ReprKind.FunctionND r ms es (tuple_dom ds) c js env (axes_over p'.0) ns o
    (subst (λ z. layer ReprKind.FunctionND (functions o.ks z o.c) ≡
    Some (total_layer o.ks (axes_over p'.0) z o.c)) p'.2 refl) refl h.members u
    t.0 m h.value (node_ex false tuple_literal as') h.is_value h.is_held as' (literal-keys as' env h.value h.is_value)
    (each-held h.members _ h.value t.1 h.is_held) n op p b q)
at-answer op p b _ a env h m n = tt

result-answer : (e : Ex) (env : Env) → ArgumentHeld e env → Meets e env → AnswerKeeps (result_at_argument e) e env
result-answer (node_ex b application (more_exs f (more_exs a no_exs))) env h m =
    at-answer application application-applies b f a env h m.0 m.1.0
result-answer (node_ex b (word Fun.Image) (more_exs f (more_exs a no_exs))) env h m =
    at-answer (word Fun.Image) image-applies b f a env h m.0 m.1.0
result-answer _ env h m = tt

-- The result of a total function at one of its arguments is the view there.
pub result_at_argument-keeps : (e f : Ex) → result_at_argument e ≡ Some f → (env : Env) → ArgumentHeld e env → Keeps e f env
result_at_argument-keeps e f q env h m = fires (result_at_argument e) e f env (result-answer e env h m) q m

-- ---- arguments that are defined

defined-held : (a f : Ex) (env : Env) → HeldBy f a env → Meets f env → is_total_view f ≡ true →
    meaning (ex2 true Op2.Member a (fun1 false Fun.Defined f)) env ≡ meaning (truth_ex true) env
defined-held a (seen_ex (repr ReprKind.Function1D (more_reprs r no_reprs)) (function_dom ms es d c) ns js) env h m q =
    let o = opened (repr ReprKind.Function1D (more_reprs r no_reprs)) ms es d c ns js env m in
    let u : members o.d ≡ Some h.members = sym (ap members_in o.first_is) ∙ h.are_members in
    sure-defined atom_index ReprKind.Function1D r ms es d c js env (codes_of o.d ∷ []) ns o refl refl h.members u
    (atom-members-there o.d h.members u) m h.value a h.is_value h.is_held
defined-held a (seen_ex (repr ReprKind.FunctionND (more_reprs r no_reprs)) (function_dom ms es (tuple_dom ds) c) ns js) env h m q =
    let o = opened (repr ReprKind.FunctionND (more_reprs r no_reprs)) ms es (tuple_dom ds) c ns js env m in
    let p = tuple-parts ds env o.d o.first_is in
    let u : members o.d ≡ Some h.members = sym (ap members_in o.first_is) ∙ h.are_members in
    sure-defined tuple_index ReprKind.FunctionND r ms es (tuple_dom ds) c js env (axes_over p.0) ns o
    (subst (λ z. layer ReprKind.FunctionND (functions o.ks z o.c) ≡
    Some (total_layer o.ks (axes_over p.0) z o.c)) p.2 refl) refl h.members u
    (tuple-members-there p.0 h.members (ap members p.2 ∙ u)).0 m h.value a h.is_value h.is_held
defined-held a _ env h m q = no q

defined-answer : (e : Ex) (env : Env) → DefinedHeld e env → AnswerKeeps (defined_everywhere e) e env
defined-answer (ex2 true Op2.Member a (fun1 false Fun.Defined f)) env h =
    when-so (is_total_view f) (truth_ex true) _ env (λ q m. (defined-held a f env h m.1.0.0 q, tt))
defined-answer _ env h = tt

-- Each member of the first domain of a total function is an argument.
pub defined_everywhere-keeps : (e f : Ex) → defined_everywhere e ≡ Some f → (env : Env) → DefinedHeld e env → Keeps e f env
defined_everywhere-keeps e f q env h = fires (defined_everywhere e) e f env (defined-answer e env h) q
