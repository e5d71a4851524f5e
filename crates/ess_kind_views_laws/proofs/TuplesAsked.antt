-- Rules of views that are kept by tuples of atoms have what they count on, and keep what they rewrite.
use Rattle.std.proofs.Common.{◌≡◌, refl, subst, Bool, true, false, ◌&&◌, List, [], ◌∷◌, if◌then◌else◌, Some, None}
use Rattle.std.specs.Prelude.{IsTrue, is_some}
use Rattle.std.specs.List.{list_all}
use Rattle.ess_semantics.specs.declared.words.Op1.{Op1}
use Rattle.ess_semantics.specs.declared.words.Op2.{Op2}
use Rattle.ess_semantics.specs.declared.words.Fun.{Fun}
use Rattle.ess_semantics.specs.declared.words.Key.{Key}
use Rattle.ess_semantics.specs.declared.words.ReprKind.{ReprKind}
use Rattle.ess_semantics.specs.Kinds.{has_key, is_atom_tuple, fits, all_fit}
use Rattle.ess_semantics.specs.Names.{Names}
use Rattle.ess_semantics.specs.Trees.{binary, word, application, tuple_literal, Op, Mark, Reprs, repr, no_reprs, more_reprs, Ex, Exs, node_ex, seen_ex, ex1, ex2, fun1, no_exs, more_exs, Dom, tuple_dom, function_dom, relation_dom}
use Rattle.ess_semantics.specs.Types.{Ty, type_of_dom, types_of_doms}
use Rattle.ess_semantics.specs.OperatorTypes.{tuple_ty}
use Rattle.ess_semantics.specs.Typing.{type_of}
use Rattle.ess_semantics.specs.Typed.{Typed}
use Rattle.ess_semantics.specs.Meaning.{Env, meaning}
use Rattle.ess_semantics.specs.Meets.{Meets}
use Rattle.ess_semantics.proofs.Tests.{and-left, and-right}
use Rattle.ess_repr_structure_laws.specs.Laws.{JudgedView}
use Rattle.ess_rules_laws.specs.Rules.{Sound}
use Rattle.ess_rules_laws.specs.FunctionKeys.{flag_of, defined_where_flagged, flagged_view_at, lookup_behind_flag, is_total_view, ToldBy, ArgumentTold, DefinedTold}
use Rattle.ess_rules_laws.specs.OccurrenceViews.{cell_of_member, member_by_cell, ToldIn, MemberTold}
use Rattle.ess_rules_laws.specs.Lookups.{select_whole}
use Rattle.ess_refine_laws.specs.AllRules.{Supply}
use Rattle.ess_values_along_laws.specs.Valued.{Valued}
use Rattle.ess_values_along_laws.proofs.ValuesAlong.{values-along}
use Rattle.ess_kind_rules_laws.specs.ViewListings.{members_of_first}
use Rattle.ess_kind_rules_laws.specs.KindRules.{KindRule, member_at_a_cell, argument_with_a_flag, truth_behind_a_flag, size_of_a_function, function_size, kind_rewrite}
use Rattle.ess_kinds_kept_laws.specs.FunctionAsks.{FirstBound, FunctionSizeAsks}
use Rattle.ess_kinds_kept_laws.specs.KindAsks.{KindAsks}
use Rattle.ess_kinds_kept_laws.proofs.KindRulesKeep.{kind-rules-keep}
use Rattle.ess_kind_steps_laws.specs.JudgedItems.{JudgedSeen, IsJudged}
use Rattle.ess_kind_steps_laws.proofs.ToldAtoms.{Agreed}
use Rattle.ess_kind_steps_laws.proofs.SetsAsked.{agreed}
use Rattle.ess_kind_functions_laws.proofs.FunctionsAsked.{AgreesWith, applied, imaged, second-there, looked}
use Rattle.ess_kind_views_laws.specs.TuplesAtHand.{is_of_tuples, is_by_tuple, TuplesAtHand, TypesAtHand, TupleRulesHaveWhatTheyAsk}
use Rattle.ess_kind_views_laws.proofs.JudgedTuples.{total-tuples, flagged-tuples, relation-tuples, bound-says}
use Rattle.ess_kind_views_laws.proofs.ToldTuples.{agree-each, agree-related, literal-told, related-agrees}

no : {A : Type 0} → false ≡ true → A
no h = cc

-- A rule that doesn't fire.
absent : {A : Type 0} (f : Ex) → None ≡ Some f → A
absent f q = cc

-- The first of two operands has a value.
first-there : (a v : Ex) (env : Env) → IsTrue (list_all is_some (meaning a env ∷ meaning v env ∷ [])) → IsTrue (is_some (meaning a env))
first-there a v env h = and-left (is_some (meaning a env)) (list_all is_some (meaning v env ∷ [])) h

-- ---- members of relations

member-at : (g : Names Ty) (v a f : Ex) → cell_of_member v a ≡ Some f → (env : Env) → is_by_tuple v ≡ true → IsJudged v env → Sound g a →
    Typed g env → IsTrue env.positions → IsTrue (is_some (meaning a env)) → (t : Ty) → type_of (ex2 true Op2.Member a v) g ≡ Some t →
    ToldIn v a env
member-at g (seen_ex (repr ReprKind.RelationAsMatrix no_reprs) (relation_dom ms es ds) (n ∷ []) js) (node_ex false tuple_literal as') f q
    env k j o h p i t y =
    let u = related-agrees (type_of (node_ex false tuple_literal as') g) (types_of_doms ds) t y in
    literal-told g as' ds env (relation-tuples ms es ds env j) o h p i u.0 u.1
    (λ ts e. agree-related ts ds (subst (λ z. Agreed z (tuple_ty (types_of_doms ds))) e u.2))
member-at g (seen_ex (repr ReprKind.Occurrence rs) d ns js) a f q env k j o h p i t y = no k
member-at g _ a f q env k j o h p i t y = absent f q

member-asked : (s : Supply) (g : Names Ty) (e f : Ex) → member_by_cell e ≡ Some f → (env : Env) → TypesAtHand g e env →
    TuplesAtHand member_at_a_cell e env → (w : Bool) → Valued w e env → MemberTold e env
member-asked s g (ex2 true Op2.Member a v) f q env h k w i =
    member-at g v a f q env k.0 k.1 h.sound.0 h.held h.positions
    (first-there a v env (values-along.operands w true (binary Op2.Member) (more_exs a (more_exs v no_exs)) env refl refl i))
    h.type h.is_typed
member-asked s g _ f q env h k w i = absent f q

-- ---- arguments by their flags

flag-at : (g : Names Ty) (v a f : Ex) → flag_of v a ≡ Some f → (env : Env) → is_by_tuple v ≡ true → IsJudged v env → Sound g a →
    Typed g env → IsTrue env.positions → IsTrue (is_some (meaning a env)) → (t : Ty) →
    type_of (ex2 true Op2.Member a (fun1 false Fun.Defined v)) g ≡ Some t → ToldBy v a env
flag-at g (seen_ex (repr ReprKind.FunctionNDPartial (more_reprs r no_reprs)) (function_dom ms es (tuple_dom ds) c) (m ∷ ns) js)
    (node_ex false tuple_literal as') f q env k j o h p i t y =
    let u = agreed (type_of (node_ex false tuple_literal as') g) (type_of_dom (tuple_dom ds)) t y in
    literal-told g as' ds env (flagged-tuples r ms es ds c env j) o h p i u.0 u.1
    (λ ts e. agree-each ts ds (subst (λ z. Agreed z (type_of_dom (tuple_dom ds))) e u.2))
flag-at g (seen_ex (repr ReprKind.Function1DPartial rs) d ns js) a f q env k j o h p i t y = no k
flag-at g _ a f q env k j o h p i t y = absent f q

flag-asked : (s : Supply) (g : Names Ty) (e f : Ex) → defined_where_flagged e ≡ Some f → (env : Env) → TypesAtHand g e env →
    TuplesAtHand argument_with_a_flag e env → (w : Bool) → Valued w e env → DefinedTold e env
flag-asked s g (ex2 true Op2.Member a (fun1 false Fun.Defined f)) r q env h k w v =
    flag-at g f a r q env k.0 k.1 h.sound.0 h.held h.positions
    (first-there a (fun1 false Fun.Defined f) env
    (values-along.operands w true (binary Op2.Member) (more_exs a (more_exs (fun1 false Fun.Defined f) no_exs)) env refl refl v))
    h.type h.is_typed
flag-asked s g _ r q env h k w v = absent r q

-- ---- results behind a flag

behind-at : (g : Names Ty) (v a l : Ex) → flagged_view_at v a ≡ Some l → (env : Env) → is_by_tuple v ≡ true → IsJudged v env → Sound g a →
    Typed g env → IsTrue env.positions → IsTrue (is_some (meaning a env)) → AgreesWith g v a → ToldBy v a env
behind-at g (seen_ex (repr ReprKind.FunctionNDPartial (more_reprs r no_reprs)) (function_dom ms es (tuple_dom ds) c) (m ∷ ns) js)
    (node_ex false tuple_literal as') l q env k j o h p i u =
    literal-told g as' ds env (flagged-tuples r ms es ds c env j) o h p i u.0 u.1
    (λ ts e. agree-each ts ds (subst (λ z. Agreed z (type_of_dom (tuple_dom ds))) e u.2))
behind-at g (seen_ex (repr ReprKind.Function1DPartial rs) d ns js) a l q env k j o h p i u = no k
behind-at g _ a l q env k j o h p i u = absent l q

truth-asked : (s : Supply) (g : Names Ty) (op : Op) (es : Exs) (l : Ex) → lookup_behind_flag (node_ex true op es) ≡ Some l → (env : Env) →
    TypesAtHand g (node_ex true op es) env → TuplesAtHand truth_behind_a_flag (node_ex true op es) env → (w : Bool) →
    Valued w (node_ex true op es) env → ArgumentTold (node_ex true op es) env
truth-asked s g application (more_exs f (more_exs a no_exs)) l q env h k w v =
    behind-at g f a l q env k.0 k.1 h.sound.1.0 h.held h.positions
    (second-there f a env (values-along.operands w true application (more_exs f (more_exs a no_exs)) env refl refl v))
    (applied g f a h.type h.is_typed)
truth-asked s g (word Fun.Image) (more_exs f (more_exs a no_exs)) l q env h k w v =
    behind-at g f a l q env k.0 k.1 h.sound.1.0 h.held h.positions
    (second-there f a env (values-along.operands w true (word Fun.Image) (more_exs f (more_exs a no_exs)) env refl refl v))
    (imaged g f a h.type h.is_typed)
truth-asked s g _ es l q env h k w v = absent l q

truth-rule : (s : Supply) (g : Names Ty) (e f : Ex) → kind_rewrite s g truth_behind_a_flag e ≡ Some f → (env : Env) → TypesAtHand g e env →
    TuplesAtHand truth_behind_a_flag e env → (w : Bool) → Valued w e env → ArgumentTold e env
truth-rule s g (node_ex true op es) f q env h k w v =
    let l = looked (lookup_behind_flag (node_ex true op es)) (λ l. select_whole s.one l (node_ex true op es)) f q in
    truth-asked s g op es l.0 l.1 env h k w v
truth-rule s g _ f q env h k w v = absent f q

-- ---- sizes

-- Whether the parts of a view of a total function by tuples are of its form.
abbrev has_form : Reprs → Dom → Bool
has_form (more_reprs r no_reprs) (tuple_dom ds) = true
has_form rs d = false

-- They are where the representation fits.
parts-form : (c : Dom) (rs : Reprs) (d : Dom) → is_atom_tuple d ≡ true → all_fit rs (c ∷ []) ≡ true → has_form rs d ≡ true
parts-form c (more_reprs r no_reprs) (tuple_dom ds) a h = refl
parts-form c (more_reprs r no_reprs) _ a h = no a
parts-form c no_reprs d a h = no h
parts-form c (more_reprs r (more_reprs q qs)) d a h = no (and-right (fits r c) false h)

both-tested : (c : Dom) (rs : Reprs) (b : Bool) →
    elim (if b then Some (c ∷ []) else None) [ None ↦ false | Some ds ↦ all_fit rs ds ] ≡ true →
    (b ≡ true) × (all_fit rs (c ∷ []) ≡ true)
both-tested c rs true h = (refl, h)
both-tested c rs false h = no h

nd-form : (rs : Reprs) (ms : List Mark) (es : Exs) (d c : Dom) (env : Env) →
    JudgedSeen (repr ReprKind.FunctionND rs) (function_dom ms es d c) env → has_form rs d ≡ true
nd-form rs ms es d c env j =
    let v : JudgedView env j.names (repr ReprKind.FunctionND rs) (function_dom ms es d c) j.domain = j.judged in
    let t = both-tested c rs (has_key Key.Total ms && is_atom_tuple d) v.fit in
    parts-form c rs d (and-right (has_key Key.Total ms) (is_atom_tuple d) t.0) t.1

size-at : (v f : Ex) → members_of_first v ≡ Some f → (env : Env) → is_by_tuple v ≡ true → IsJudged v env → Meets v env →
    IsTrue (is_total_view v) × FirstBound v env
size-at (seen_ex (repr ReprKind.FunctionND (more_reprs r no_reprs)) (function_dom ms es (tuple_dom ds) c) ns js) f q env k j m =
    let v : JudgedView env j.names (repr ReprKind.FunctionND (more_reprs r no_reprs)) (function_dom ms es (tuple_dom ds) c) j.domain =
    j.judged in
    let n = v.numbers in
    (refl, bound-says ds env (total-tuples r ms es ds c env j) n.1 m.1.1)
size-at (seen_ex (repr ReprKind.FunctionND rs) (function_dom ms es d c) ns js) f q env k j m = no (nd-form rs ms es d c env j)
size-at (seen_ex (repr ReprKind.Function1D rs) d ns js) f q env k j m = no k
size-at _ f q env k j m = absent f q

size-asked : (s : Supply) (g : Names Ty) (e f : Ex) → function_size e ≡ Some f → (env : Env) → TuplesAtHand size_of_a_function e env →
    Meets e env → FunctionSizeAsks e env
size-asked s g (ex1 false Op1.Bar v) f q env k m = size-at v f q env k.0 k.1 m.0
size-asked s g _ f q env k m = absent f q

-- ---- each rule

asked : (s : Supply) (g : Names Ty) (r : KindRule) (e f : Ex) → kind_rewrite s g r e ≡ Some f → is_of_tuples r ≡ true → (env : Env) →
    TypesAtHand g e env → TuplesAtHand r e env → (w : Bool) → Valued w e env → Meets e env → KindAsks s g r e env
asked s g member_at_a_cell e f q i env h k w v m = member-asked s g e f q env h k w v
asked s g argument_with_a_flag e f q i env h k w v m = flag-asked s g e f q env h k w v
asked s g truth_behind_a_flag e f q i env h k w v m = truth-rule s g e f q env h k w v
asked s g size_of_a_function e f q i env h k w v m = size-asked s g e f q env k m
asked s g _ e f q i env h k w v m = no i

-- What is proved of them.
pub tuple-rules-have : TupleRulesHaveWhatTheyAsk
tuple-rules-have = record {
  asked = asked;
  kept = λ s g r e f q i env h k w v m. kind-rules-keep.each s g r e f q env h.held (asked s g r e f q i env h k w v m) m;
}
