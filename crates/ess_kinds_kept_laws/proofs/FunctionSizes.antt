-- The size of a view of a total function is how many members its first domain has.
use Rattle.std.proofs.Common.{◌≡◌, refl, sym, ap, ◌∙◌, subst, suc, true, false, List, [], ◌∷◌, map, length, ℤ, pos, Some}
use Rattle.ess_semantics.specs.declared.words.Op1.{Op1}
use Rattle.ess_semantics.specs.declared.words.ReprKind.{ReprKind}
use Rattle.ess_semantics.specs.Values.{Value, number, from_of}
use Rattle.ess_semantics.specs.Trees.{unary, Mark, Repr, repr, no_reprs, more_reprs, Ex, Exs, seen_ex, ex1, Dom, function_dom, tuple_dom}
use Rattle.ess_semantics.specs.Domains.{functions, members, member_list, lists_of}
use Rattle.ess_semantics.specs.Operators.{value_of_node}
use Rattle.ess_semantics.specs.Cells.{Axes, cells_at}
use Rattle.ess_semantics.specs.Layers.{codes_of}
use Rattle.ess_semantics.specs.FunctionLayers.{with_arguments, total_layer}
use Rattle.ess_semantics.specs.Representations.{layer, child_part}
use Rattle.ess_semantics.specs.Meaning.{Env, meaning, members_in}
use Rattle.ess_semantics.specs.Values.{Text}
use Rattle.ess_semantics.specs.Lists.{list_or_none}
use Rattle.ess_semantics.proofs.Tests.{and-right}
use Rattle.ess_semantics.proofs.Orders.{to_list-of_list}
use Rattle.ess_rules_laws.proofs.RuleAnswers.{AnswerKeeps, fires}
use Rattle.ess_rules_laws.proofs.FunctionViewParts.{Opened, opened, view-is}
use Rattle.ess_rules_laws.proofs.FunctionCells.{total-stands}
use Rattle.ess_rules_laws.proofs.ArgumentRuns.{atom_index, atom-members-there}
use Rattle.ess_rules_laws.proofs.TupleRuns.{tuple_index, axes_over, tuple-parts, tuple-members-there}
use Rattle.ess_rules_laws.proofs.SlotSets.{In}
use Rattle.ess_rules_laws.proofs.SureArguments.{firsts-of}
use Rattle.ess_rules_laws.specs.FunctionKeys.{is_total_view}
use Rattle.ess_kind_rules_laws.specs.ViewListings.{members_of_first}
use Rattle.ess_kind_rules_laws.specs.KindRules.{function_size}
use Rattle.ess_kinds_kept_laws.specs.FunctionAsks.{FirstBound, FunctionSizeAsks, FunctionSizesServe}

no : {A : Type 0} → false ≡ true → A
no h = cc

map-long : (f : Value → Value) (xs : List Value) → length (map f xs) ≡ length xs
map-long f [] = refl
map-long f (x ∷ xs) = ap suc (map-long f xs)

module _ (index : Value → List ℤ) (k : ReprKind) (r : Repr) (ms : List Mark) (es : Exs) (dd ce : Dom) (js : Exs) (env : Env) (axes : Axes)
    (names : List Text) (o : Opened (repr k (more_reprs r no_reprs)) ms es dd ce names js env)
    (is_layer : layer k (functions o.ks o.d o.c) ≡ Some (total_layer o.ks axes o.d o.c))
    (us : List Value) (us-are : members o.d ≡ Some us) (places : lists_of axes ≡ map index us) where
  abbrev View : Ex
  View = seen_ex (repr k (more_reprs r no_reprs)) (function_dom ms es dd ce) names js

  -- It has a pair for each member.
  total-size : meaning (ex1 false Op1.Bar View) env ≡ Some (number (pos (length us)))
  total-size = let list-is : member_list o.d ≡ us = ap list_or_none us-are in
      let s = total-stands k r o.ks o.d o.c index axes (places ∙ ap (map index) (sym list-is)) (cells_at o.tables o.i) is_layer
      (and-right _ _ o.is_tidy) in
      ap (λ z. value_of_node (unary Op1.Bar) (z ∷ [])) (view-is (repr k (more_reprs r no_reprs)) ms es dd ce names js env o ∙ s.is_value)
      ∙ ap (λ l. Some (number (pos (length l)))) (to_list-of_list (with_arguments (member_list o.d) s.vs))
      ∙ ap (λ n. Some (number (pos n))) (sym (map-long from_of (with_arguments (member_list o.d) s.vs))
      ∙ ap length (firsts-of index (In r o.c (child_part k (cells_at o.tables o.i))) (member_list o.d) s.vs s.values)
      ∙ ap length list-is)

size-of : (v : Ex) (env : Env) → is_total_view v ≡ true → FirstBound v env → AnswerKeeps (members_of_first v) (ex1 false Op1.Bar v) env
size-of (seen_ex (repr ReprKind.Function1D (more_reprs r no_reprs)) (function_dom ms es d c) ns js) env t b = λ h.
    let m = h.0 in
    let o = opened (repr ReprKind.Function1D (more_reprs r no_reprs)) ms es d c ns js env m in
    let u : members o.d ≡ Some b.members = sym (ap members_in o.first_is) ∙ b.are_members in (
      total-size atom_index ReprKind.Function1D r ms es d c js env (codes_of o.d ∷ []) ns o refl b.members u
          (atom-members-there o.d b.members u) ∙ sym b.says,
      b.met,
    )
size-of (seen_ex (repr ReprKind.FunctionND (more_reprs r no_reprs)) (function_dom ms es (tuple_dom ds) c) ns js) env t b = λ h.
    let m = h.0 in
    let o = opened (repr ReprKind.FunctionND (more_reprs r no_reprs)) ms es (tuple_dom ds) c ns js env m in
    let p = tuple-parts ds env o.d o.first_is in
    let u : members o.d ≡ Some b.members = sym (ap members_in o.first_is) ∙ b.are_members in (
      total-size tuple_index ReprKind.FunctionND r ms es (tuple_dom ds) c js env (axes_over p.0) ns o
          (subst (λ z. layer ReprKind.FunctionND (functions o.ks z o.c) ≡ Some (total_layer o.ks (axes_over p.0) z o.c)) p.2 refl)
          b.members u (tuple-members-there p.0 b.members (ap members p.2 ∙ u)).0 ∙ sym b.says,
      b.met,
    )
size-of _ env t b = no t

size-answer : (e : Ex) (env : Env) → FunctionSizeAsks e env → AnswerKeeps (function_size e) e env
size-answer (ex1 false Op1.Bar v) env c = size-of v env c.0 c.1
size-answer _ env c = tt

pub function_size-keeps : FunctionSizesServe
function_size-keeps e f q env c = fires (function_size e) e f env (size-answer e env c) q
