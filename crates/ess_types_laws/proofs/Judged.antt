-- What is asked of each part of a judged tree makes it well bound once it is resolved.
use Rattle.std.proofs.Common.{◌≡◌, refl, sym, ap, ◌∙◌, subst, Bool, true, false, ◌&&◌, List, [], ◌∷◌, ◌++◌, Option, Some}
use Rattle.std.specs.List.{list_any}
use Rattle.std.proofs.lemmas.List.Folds.{list_any-append}
use Rattle.ess_semantics.specs.Values.{a_function, Value}
use Rattle.ess_semantics.specs.Names.{Names}
use Rattle.ess_semantics.specs.Trees.{index, application, Pat, Ex, Exs, number_ex, truth_ex, name_ex, node_ex, matrix_ex, comp_ex, cell_ex, seen_ex, no_exs, more_exs, Gens, no_gens, over, from, cond, Dom, bool_dom, int_dom, name_dom}
use Rattle.ess_semantics.specs.Types.{Ty, compound2, is_bool, type_of_dom, bind_types}
use Rattle.ess_semantics.specs.Typing.{type_of, types_of, source_ty}
use Rattle.ess_semantics.specs.Kinds.{is_atom}
use Rattle.ess_semantics.specs.Occurrences.{parts_of, parts_of_all, parts_of_gens, parts_of_dom, is_cell_or_view, has_cells}
use Rattle.ess_semantics.specs.Scopes.{Scope, with_bound, Asked, every, every_operand, every_under, every_dom}
use Rattle.ess_semantics.specs.ExpressionJudgements.{ex_fits, pattern_fits}
use Rattle.ess_semantics.specs.Resolving.{resolved_op, resolve, resolve_exs, resolve_dom}
use Rattle.ess_semantics.specs.NamesAt.{names_behind}
use Rattle.ess_semantics.proofs.Tests.{and-left, and-right, or-left-no, or-right-no}
use Rattle.ess_types_laws.specs.WellBound.{tuples_have_parts, WellBound, AreWellBound, GensWellBound}
use Rattle.ess_types_laws.proofs.ResolvedTypes.{gens_resolved, comp-resolved, dom-type, type-resolved, types-resolved}
use Rattle.ess_types_laws.proofs.Resolved.{source-resolved, behind-resolved, resolved-again}
use Rattle.ess_types_laws.proofs.SoundEnvs.{meaning-typed}
use Rattle.ess_types_laws.specs.SoundParts.{relation_has_parts, sound_parts}
use Rattle.ess_semantics.specs.Meaning.{Env, meaning}
use Rattle.ess_semantics.specs.TypeMembers.{is_of_type}
use Rattle.ess_semantics.specs.Typed.{Typed}
use Rattle.std.specs.Prelude.{IsTrue, is_some}

-- Whether the part is as type soundness asks.
abbrev pub part_is_sound : Ex → Scope → Bool
part_is_sound (node_ex b op es) z = tuples_have_parts op (types_of es z.tys)
part_is_sound (matrix_ex es d) z = is_atom d
part_is_sound e z = true

atom-resolved : (d : Dom) (g : Names Ty) → is_atom (resolve_dom d g) ≡ is_atom d
atom-resolved bool_dom g = refl
atom-resolved (int_dom rs es) g = refl
atom-resolved (name_dom a) g = refl
atom-resolved _ g = refl

-- The tree has neither a cell nor a view.
abbrev plain : List Ex → Type 0
plain xs = list_any is_cell_or_view xs ≡ false

plain-left : (xs ys : List Ex) → plain (xs ++ ys) → plain xs
plain-left xs ys h = or-left-no (list_any is_cell_or_view xs) (list_any is_cell_or_view ys) (sym (list_any-append is_cell_or_view xs ys)
    ∙ h)

plain-right : (xs ys : List Ex) → plain (xs ++ ys) → plain ys
plain-right xs ys h = or-right-no (list_any is_cell_or_view xs) (list_any is_cell_or_view ys) (sym (list_any-append is_cell_or_view xs ys)
    ∙ h)

application-bound : (m : Bool) (us : List (Option Ty)) (es : Exs) (g : Names Ty) → AreWellBound es g →
    WellBound (node_ex m (resolved_op application us) es) g
application-bound m (Some (compound2 a_function a b) ∷ u ∷ []) es g w = (refl, w)
application-bound m _ es g w = (refl, w)

module _ (q : Asked) (parts : (x : Ex) (z : Scope) → q.of_ex x z ≡ true →
    part_is_sound x z ≡ true) (patterns : (p : Pat) (t : Ty) (z : Scope) → q.of_pattern p t z ≡ true → pattern_fits p t ≡ true) where
  mutual
    -- A judged tree without cells and views is well bound once it is resolved.
    pub judged-bound : (e : Ex) (s : Scope) → plain (parts_of e) → every q e s ≡ true → WellBound (resolve e s.tys) s.tys
    judged-bound (number_ex n) s c h = tt
    judged-bound (truth_ex b) s c h = tt
    judged-bound (name_ex a) s c h = tt
    judged-bound (node_ex b (index qs) no_exs) s c h = tt
    judged-bound (node_ex b (index qs) (more_exs e es)) s c h =
        judged-bound e s (plain-left (parts_of e) (parts_of_all es) c)
        (and-left (every q e s) _ (and-right (q.of_ex (node_ex b (index qs) (more_exs e es)) s) _ h))
    judged-bound (node_ex b application es) s c h =
        application-bound (is_bool (type_of (node_ex b application es) s.tys)) (types_of es s.tys) (resolve_exs es s.tys) s.tys
        (operands-bound es s c (and-right (q.of_ex (node_ex b application es) s) (every_operand q [] es s) h))
    judged-bound (node_ex b op es) s c h = (
      ap (tuples_have_parts op) (types-resolved es s.tys)
          ∙ parts (node_ex b op es) s (and-left (q.of_ex (node_ex b op es) s) (every_operand q [] es s) h),
      operands-bound es s c (and-right (q.of_ex (node_ex b op es) s) (every_operand q [] es s) h),
    )
    judged-bound (matrix_ex es d) s c h =
        let l = and-left (q.of_ex (matrix_ex es d) s && every_operand q [] es s) (every_dom q d s) h in (
          atom-resolved d s.tys ∙ parts (matrix_ex es d) s (and-left (q.of_ex (matrix_ex es d) s) (every_operand q [] es s) l),
          operands-bound es s (plain-left (parts_of_all es) (parts_of_dom d) c)
              (and-right (q.of_ex (matrix_ex es d) s) (every_operand q [] es s) l),
        )
    judged-bound (comp_ex e gs) s c h =
        let r = gens-bound gs s (every q e) (plain-right (parts_of e) (parts_of_gens gs) c)
        (and-right (q.of_ex (comp_ex e gs) s) (every_under q gs s (every q e)) h) in
        let w = judged-bound e r.1.0 (plain-left (parts_of e) (parts_of_gens gs) c) r.1.2 in
        subst (λ x. WellBound x s.tys) (sym (comp-resolved e gs s.tys)) (
          r.0,
          subst (λ n. WellBound (resolve e (names_behind gs s.tys)) n) (sym (behind-resolved gs s.tys))
              (subst (λ n. WellBound (resolve e n) n) r.1.1 w),
        )
    judged-bound (cell_ex b n es) s c h = cc
    judged-bound (seen_ex rep d ns es) s c h = cc

    operands-bound : (es : Exs) (s : Scope) → plain (parts_of_all es) → every_operand q [] es s ≡ true →
        AreWellBound (resolve_exs es s.tys) s.tys
    operands-bound no_exs s c h = tt
    operands-bound (more_exs e es) s c h = (
      judged-bound e s (plain-left (parts_of e) (parts_of_all es) c) (and-left (every q e s) (every_operand q [] es s) h),
      operands-bound es s (plain-right (parts_of e) (parts_of_all es) c) (and-right (every q e s) (every_operand q [] es s) h),
    )

    gens-bound : (gs : Gens) (s : Scope) (k : Scope → Bool) → plain (parts_of_gens gs) → every_under q gs s k ≡ true →
        GensWellBound (gens_resolved gs s.tys) s.tys × ((z : Scope) × (z.tys ≡ names_behind gs s.tys) × (k z ≡ true))
    gens-bound no_gens s k c h = (tt, (s, refl, h))
    gens-bound (over p d gs) s k c h =
        let t = type_of_dom d in
        let z = with_bound false p (type_of_dom d) s in
        let r = gens-bound gs (with_bound false p (type_of_dom d) s) k (plain-right (parts_of_dom d) (parts_of_gens gs) c)
        (and-right (every_dom q d s && q.of_generator d s && q.of_pattern p (type_of_dom d) s)
        (every_under q gs (with_bound false p (type_of_dom d) s) k) h) in
        let l = and-right (every_dom q d s && q.of_generator d s) (q.of_pattern p (type_of_dom d) s)
        (and-left (every_dom q d s && q.of_generator d s && q.of_pattern p (type_of_dom d) s)
        (every_under q gs (with_bound false p (type_of_dom d) s) k) h) in (
          (
            ap (pattern_fits p) (dom-type d s.tys) ∙ patterns p (type_of_dom d) s l,
            subst (λ u. GensWellBound (gens_resolved gs (bind_types p (type_of_dom d) s.tys)) (bind_types p u s.tys)) (sym (dom-type d s.tys))
                r.0,
          ),
          r.1,
        )
    gens-bound (from p e gs) s k c h =
        let r = gens-bound gs (with_bound (q.draws_on_finds e s) p (source_ty e s.tys) s) k (plain-right (parts_of e) (parts_of_gens gs) c)
        (and-right (every q e s && q.of_pattern p (source_ty e s.tys) s)
        (every_under q gs (with_bound (q.draws_on_finds e s) p (source_ty e s.tys) s) k) h) in
        let l = and-left (every q e s && q.of_pattern p (source_ty e s.tys) s)
        (every_under q gs (with_bound (q.draws_on_finds e s) p (source_ty e s.tys) s) k) h in (
          (
            ap (pattern_fits p) (source-resolved e s.tys)
                ∙ patterns p (source_ty e s.tys) s (and-right (every q e s) (q.of_pattern p (source_ty e s.tys) s) l),
            judged-bound e s (plain-left (parts_of e) (parts_of_gens gs) c) (and-left (every q e s) (q.of_pattern p (source_ty e s.tys) s) l),
            subst (λ u. GensWellBound (gens_resolved gs (bind_types p (source_ty e s.tys) s.tys)) (bind_types p u s.tys))
                (sym (source-resolved e s.tys)) r.0,
          ),
          r.1,
        )
    gens-bound (cond e gs) s k c h =
        let r = gens-bound gs s k (plain-right (parts_of e) (parts_of_gens gs) c) (and-right (every q e s) (every_under q gs s k) h) in
        ((judged-bound e s (plain-left (parts_of e) (parts_of_gens gs) c) (and-left (every q e s) (every_under q gs s k) h), r.0), r.1)

-- ---- the judgement of types

judged-part : (x : Ex) (z : Scope) → ex_fits x z && relation_has_parts x z ≡ true → part_is_sound x z ≡ true
judged-part (node_ex b op es) z h = and-right (ex_fits (node_ex b op es) z) (tuples_have_parts op (types_of es z.tys)) h
judged-part (matrix_ex es d) z h =
    and-right (is_some (type_of (matrix_ex es d) z.tys)) (is_atom d)
    (and-left (is_some (type_of (matrix_ex es d) z.tys) && is_atom d) true h)
judged-part (number_ex n) z h = refl
judged-part (truth_ex b) z h = refl
judged-part (name_ex a) z h = refl
judged-part (comp_ex e gs) z h = refl
judged-part (cell_ex b n es) z h = refl
judged-part (seen_ex rep d ns es) z h = refl

-- A judged expression has, resolved, nothing or a value of its type.
pub judged-typed : (e : Ex) (s : Scope) (env : Env) → has_cells e ≡ false → every sound_parts e s ≡ true → Typed s.tys env → (t : Ty) →
    type_of e s.tys ≡ Some t →
    (v : Value) → meaning (resolve e s.tys) env ≡ Some v → IsTrue (is_of_type t env v)
judged-typed e s env c h f t q =
    meaning-typed (resolve e s.tys) s.tys env (resolved-again e s.tys) (judged-bound sound_parts judged-part (λ p t z r. r) e s c h) f t
    (type-resolved e s.tys ∙ q)
