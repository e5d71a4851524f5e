-- Rules of views of functions have what they count on, and keep what they rewrite.
use Rattle.std.proofs.Common.{◌≡◌, refl, Bool, true, false, [], ◌∷◌, Option, Some, None, option_map}
use Rattle.std.specs.Prelude.{IsTrue, is_some}
use Rattle.std.specs.List.{list_all}
use Rattle.ess_semantics.specs.declared.words.Op1.{Op1}
use Rattle.ess_semantics.specs.declared.words.Op2.{Op2}
use Rattle.ess_semantics.specs.declared.words.Fun.{Fun}
use Rattle.ess_semantics.specs.declared.words.ReprKind.{ReprKind}
use Rattle.ess_semantics.specs.Lists.{and_then, all_some}
use Rattle.ess_semantics.specs.Values.{a_function}
use Rattle.ess_semantics.specs.Kinds.{fits}
use Rattle.ess_semantics.specs.Names.{Names}
use Rattle.ess_semantics.specs.Trees.{binary, word, application, Op, Repr, Reprs, repr, no_reprs, more_reprs, Ex, Exs, node_ex, seen_ex, ex1, ex2, fun1, no_exs, more_exs, function_dom}
use Rattle.ess_semantics.specs.Types.{Ty, Tys, any_ty, compound, no_tys, more_tys, compound2, join, joins, type_of_dom}
use Rattle.ess_semantics.specs.OperatorTypes.{type_of_op, value_ty}
use Rattle.ess_semantics.specs.Typing.{type_of}
use Rattle.ess_semantics.specs.Typed.{Typed}
use Rattle.ess_semantics.specs.Meaning.{Env, meaning}
use Rattle.ess_semantics.specs.Meets.{Meets}
use Rattle.ess_semantics.proofs.Tests.{and-left, and-right}
use Rattle.ess_rules_laws.specs.Rules.{Sound}
use Rattle.ess_rules_laws.specs.FunctionKeys.{is_total_view, flag_of, defined_where_flagged, flagged_view_at, lookup_behind_flag, ToldBy, ArgumentTold, DefinedTold}
use Rattle.ess_rules_laws.specs.Lookups.{select_whole}
use Rattle.ess_refine_laws.specs.AllRules.{Supply}
use Rattle.ess_guard_types_laws.proofs.JoinedTypes.{turned}
use Rattle.ess_values_along_laws.specs.Valued.{Valued}
use Rattle.ess_values_along_laws.proofs.ValuesAlong.{values-along}
use Rattle.ess_kind_rules_laws.specs.ViewListings.{members_of_first}
use Rattle.ess_kind_rules_laws.specs.KindRules.{KindRule, argument_with_a_flag, size_of_a_function, truth_behind_a_flag, function_size, kind_rewrite}
use Rattle.ess_kinds_kept_laws.specs.FunctionAsks.{BoundSays, FirstBound, FunctionSizeAsks}
use Rattle.ess_kinds_kept_laws.specs.KindAsks.{KindAsks}
use Rattle.ess_kinds_kept_laws.proofs.KindRulesKeep.{kind-rules-keep}
use Rattle.ess_kind_steps_laws.specs.JudgedItems.{JudgedSeen, IsJudged}
use Rattle.ess_kind_steps_laws.specs.SetsAtHand.{AtHand}
use Rattle.ess_kind_steps_laws.proofs.ToldAtoms.{Agreed}
use Rattle.ess_kind_steps_laws.proofs.SetsAsked.{agreed, told-by}
use Rattle.ess_repr_structure_laws.specs.Laws.{JudgedView}
use Rattle.ess_kind_functions_laws.specs.FunctionsAtHand.{is_of_functions, is_by_atom, FunctionsAtHand, FunctionRulesHaveWhatTheyAsk}
use Rattle.ess_kind_functions_laws.proofs.JudgedFunctions.{total-arguments, flagged-arguments, bound-says, one-child}

no : {A : Type 0} → false ≡ true → A
no h = cc

-- A rule that doesn't fire.
absent : {A : Type 0} (f : Ex) → None ≡ Some f → A
absent f q = cc

-- ---- arguments by their flags

flag-at : (g : Names Ty) (v a f : Ex) → flag_of v a ≡ Some f → (env : Env) → is_by_atom v ≡ true → IsJudged v env → Sound g a →
    Typed g env → IsTrue env.positions → IsTrue (is_some (meaning a env)) → (t : Ty) →
    type_of (ex2 true Op2.Member a (fun1 false Fun.Defined v)) g ≡ Some t → ToldBy v a env
flag-at g (seen_ex (repr ReprKind.Function1DPartial (more_reprs r no_reprs)) (function_dom ms es d c) (m ∷ ns) js) a f q env k j o h p i t
    y =
    let u = agreed (type_of a g) (type_of_dom d) t y in told-by g a d env (flagged-arguments r ms es d c env j) o h p i u.0 u.1 u.2
flag-at g (seen_ex (repr ReprKind.FunctionNDPartial rs) d ns js) a f q env k j o h p i t y = no k
flag-at g _ a f q env k j o h p i t y = absent f q

flag-asked : (s : Supply) (g : Names Ty) (e f : Ex) → defined_where_flagged e ≡ Some f → (env : Env) →
    AtHand s g argument_with_a_flag e env → FunctionsAtHand argument_with_a_flag e env → (w : Bool) → Valued w e env → DefinedTold e env
flag-asked s g (ex2 true Op2.Member a (fun1 false Fun.Defined f)) r q env h k w v =
    flag-at g f a r q env k.0 k.1 h.sound.0 h.held h.positions
    (and-left (is_some (meaning a env)) (list_all is_some (meaning (fun1 false Fun.Defined f) env ∷ []))
    (values-along.operands w true (binary Op2.Member) (more_exs a (more_exs (fun1 false Fun.Defined f) no_exs)) env refl refl v))
    h.type h.is_typed
flag-asked s g _ r q env h k w v = absent r q

-- ---- results behind a flag

-- The type of an argument agrees with that of the first domain.
applied-agrees : (o : Option Ty) (d c t : Ty) →
    and_then (all_some (Some (compound2 a_function d c) ∷ o ∷ [])) (type_of_op application) ≡ Some t →
    (u : Ty) × (o ≡ Some u) × Agreed u d
applied-agrees None d c t q = (any_ty, cc, cc)
applied-agrees (Some u) d c t q = (u, refl, turned d u (go (join d u) q))
  where
    go : (p : Option Ty) → option_map (λ v. c) p ≡ Some t → is_some p ≡ true
    go None q = cc
    go (Some v) q = refl

image-agrees : (o : Option Ty) (d c t : Ty) →
    and_then (all_some (Some (compound2 a_function d c) ∷ o ∷ [])) (type_of_op (word Fun.Image)) ≡ Some t →
    (u : Ty) × (o ≡ Some u) × Agreed u d
image-agrees None d c t q = (any_ty, cc, cc)
image-agrees (Some u) d c t q = (u, refl, turned d u (go (join d u) (joins (more_tys c no_tys) (more_tys any_ty no_tys)) q))
  where
    go : (p : Option Ty) (rest : Option Tys) →
        and_then (option_map (compound a_function) (and_then p (λ v. option_map (more_tys v) rest))) value_ty ≡ Some t → is_some p ≡ true
    go None rest q = cc
    go (Some v) rest q = refl

-- The second of two operands has a value.
pub second-there : (f a : Ex) (env : Env) → IsTrue (list_all is_some (meaning f env ∷ meaning a env ∷ [])) → IsTrue (is_some (meaning a env))
second-there f a env h =
    and-left (is_some (meaning a env)) true (and-right (is_some (meaning f env)) (list_all is_some (meaning a env ∷ [])) h)

-- The type of an operand of a function of the first domain of the view.
abbrev pub AgreesWith : Names Ty → Ex → Ex → Type 0
AgreesWith g (seen_ex r (function_dom ms es d c) ns js) a = (u : Ty) × (type_of a g ≡ Some u) × Agreed u (type_of_dom d)
AgreesWith g v a = Unit {0}

behind-at : (g : Names Ty) (v a l : Ex) → flagged_view_at v a ≡ Some l → (env : Env) → is_by_atom v ≡ true → IsJudged v env → Sound g a →
    Typed g env → IsTrue env.positions → IsTrue (is_some (meaning a env)) → AgreesWith g v a → ToldBy v a env
behind-at g (seen_ex (repr ReprKind.Function1DPartial (more_reprs r no_reprs)) (function_dom ms es d c) (m ∷ ns) js) a l q env k j o h p i
    u =
    told-by g a d env (flagged-arguments r ms es d c env j) o h p i u.0 u.1 u.2
behind-at g (seen_ex (repr ReprKind.FunctionNDPartial rs) d ns js) a l q env k j o h p i u = no k
behind-at g _ a l q env k j o h p i u = absent l q

-- In an application it agrees.
pub applied : (g : Names Ty) (v a : Ex) (t : Ty) → type_of (node_ex true application (more_exs v (more_exs a no_exs))) g ≡ Some t →
    AgreesWith g v a
applied g (seen_ex r (function_dom ms es d c) ns js) a t q = applied-agrees (type_of a g) (type_of_dom d) (type_of_dom c) t q
applied g _ a t q = tt

-- And in `image`.
pub imaged : (g : Names Ty) (v a : Ex) (t : Ty) → type_of (node_ex true (word Fun.Image) (more_exs v (more_exs a no_exs))) g ≡ Some t →
    AgreesWith g v a
imaged g (seen_ex r (function_dom ms es d c) ns js) a t q = image-agrees (type_of a g) (type_of_dom d) (type_of_dom c) t q
imaged g _ a t q = tt

-- A rule that fires has a lookup.
pub looked : (o : Option Ex) (F : Ex → Option Ex) (f : Ex) → and_then o F ≡ Some f → (l : Ex) × (o ≡ Some l)
looked None F f q = (f, cc)
looked (Some l) F f q = (l, refl)

truth-asked : (s : Supply) (g : Names Ty) (op : Op) (es : Exs) (l : Ex) → lookup_behind_flag (node_ex true op es) ≡ Some l → (env : Env) →
    AtHand s g truth_behind_a_flag (node_ex true op es) env → FunctionsAtHand truth_behind_a_flag (node_ex true op es) env → (w : Bool) →
    Valued w (node_ex true op es) env → ArgumentTold (node_ex true op es) env
truth-asked s g application (more_exs f (more_exs a no_exs)) l q env h k w v =
    behind-at g f a l q env k.0 k.1 h.sound.1.0 h.held h.positions
    (second-there f a env (values-along.operands w true application (more_exs f (more_exs a no_exs)) env refl refl v))
    (applied g f a h.type h.is_typed)
truth-asked s g (word Fun.Image) (more_exs f (more_exs a no_exs)) l q env h k w v =
    behind-at g f a l q env k.0 k.1 h.sound.1.0 h.held h.positions
    (second-there f a env (values-along.operands w true (word Fun.Image) (more_exs f (more_exs a no_exs)) env refl refl v))
    (imaged g f a h.type h.is_typed)
truth-asked s g _ es l q env h k w v = absent l q

truth-rule : (s : Supply) (g : Names Ty) (e f : Ex) → kind_rewrite s g truth_behind_a_flag e ≡ Some f → (env : Env) →
    AtHand s g truth_behind_a_flag e env → FunctionsAtHand truth_behind_a_flag e env → (w : Bool) → Valued w e env → ArgumentTold e env
truth-rule s g (node_ex true op es) f q env h k w v =
    let l = looked (lookup_behind_flag (node_ex true op es)) (λ l. select_whole s.one l (node_ex true op es)) f q in
    truth-asked s g op es l.0 l.1 env h k w v
truth-rule s g _ f q env h k w v = absent f q

-- ---- sizes

size-at : (v f : Ex) → members_of_first v ≡ Some f → (env : Env) → is_by_atom v ≡ true → IsJudged v env → Meets v env →
    IsTrue (is_total_view v) × FirstBound v env
size-at (seen_ex (repr ReprKind.Function1D rs) (function_dom ms es d c) ns js) f q env k j m =
    go rs (one-child rs ms es d c (fits-of j)) j
  where
    fits-of : JudgedSeen (repr ReprKind.Function1D rs) (function_dom ms es d c) env →
        fits (repr ReprKind.Function1D rs) (function_dom ms es d c) ≡ true
    fits-of j = let v : JudgedView env j.names (repr ReprKind.Function1D rs) (function_dom ms es d c) j.domain = j.judged in v.fit

    go : (rs : Reprs) → (r : Repr) × (rs ≡ more_reprs r no_reprs) →
        JudgedSeen (repr ReprKind.Function1D rs) (function_dom ms es d c) env →
        IsTrue (is_total_view (seen_ex (repr ReprKind.Function1D rs) (function_dom ms es d c) ns js)) × BoundSays d env
    go (more_reprs r no_reprs) p j =
        let a = total-arguments r ms es d c env j in (refl, bound-says ReprKind.Function1D r ms es d c env j m.1.1 a.0 a.1 a.2)
    go no_reprs p j = let z : no_reprs ≡ more_reprs p.0 no_reprs = p.1 in cc
    go (more_reprs r (more_reprs x xs)) p j = let z : more_reprs r (more_reprs x xs) ≡ more_reprs p.0 no_reprs = p.1 in cc
size-at (seen_ex (repr ReprKind.FunctionND rs) d ns js) f q env k j m = no k
size-at _ f q env k j m = absent f q

size-asked : (s : Supply) (g : Names Ty) (e f : Ex) → function_size e ≡ Some f → (env : Env) → FunctionsAtHand size_of_a_function e env →
    Meets e env → FunctionSizeAsks e env
size-asked s g (ex1 false Op1.Bar v) f q env k m = size-at v f q env k.0 k.1 m.0
size-asked s g _ f q env k m = absent f q

-- ---- each rule

asked : (s : Supply) (g : Names Ty) (r : KindRule) (e f : Ex) → kind_rewrite s g r e ≡ Some f → is_of_functions r ≡ true →
    (env : Env) → AtHand s g r e env → FunctionsAtHand r e env → (w : Bool) → Valued w e env → Meets e env → KindAsks s g r e env
asked s g argument_with_a_flag e f q i env h k w v m = flag-asked s g e f q env h k w v
asked s g truth_behind_a_flag e f q i env h k w v m = truth-rule s g e f q env h k w v
asked s g size_of_a_function e f q i env h k w v m = size-asked s g e f q env k m
asked s g _ e f q i env h k w v m = no i

-- What is proved of them.
pub function-rules-have : FunctionRulesHaveWhatTheyAsk
function-rules-have = record {
  asked = asked;
  kept = λ s g r e f q i env h k w v m. kind-rules-keep.each s g r e f q env h.held (asked s g r e f q i env h k w v m) m;
}
