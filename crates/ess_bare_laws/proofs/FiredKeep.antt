-- What a rule makes of a bare tree means the same and has values, where names have values of their marks.
use Rattle.std.proofs.Common.{◌≡◌, refl, subst, ℕ, zero, suc, Bool, true, false, ◌&&◌, [], pos, Option, Some, None}
use Rattle.ess_semantics.specs.declared.words.Op2.{Op2}
use Rattle.ess_semantics.specs.declared.words.Fun.{Fun}
use Rattle.ess_semantics.specs.Values.{Text}
use Rattle.ess_semantics.specs.Names.{Names}
use Rattle.ess_semantics.specs.Trees.{Ex, number_ex, ex2, fun1, bool_dom}
use Rattle.ess_semantics.specs.Typed.{Typed}
use Rattle.ess_semantics.specs.Meaning.{Env, meaning}
use Rattle.ess_rules_laws.specs.Rules.{IsTruth}
use Rattle.ess_rules_laws.specs.ChoiceRules.{choice_shorter}
use Rattle.ess_rules_laws.specs.FoldRules.{fold_alone, fold_bare, BareFits}
use Rattle.ess_rules_laws.proofs.ChoiceRules.{choices-keep}
use Rattle.ess_rules_laws.proofs.FoldRules.{alone-keeps, bare-keeps}
use Rattle.ess_refine_laws.specs.AllRules.{Supply, condition}
use Rattle.ess_refine_laws.specs.LeavingConditions.{LeavesFits}
use Rattle.ess_refine_laws.proofs.LeavingConditions.{conditions-leave}
use Rattle.ess_values_along_laws.specs.Valued.{Valued}
use Rattle.ess_values_along_laws.proofs.ValuesAlong.{values-along}
use Rattle.ess_values_bindings_laws.specs.BindingsKeepValues.{BindsApart}
use Rattle.ess_values_bindings_laws.proofs.BindingsKeepValues.{bindings-keep-values}
use Rattle.ess_flat_laws.specs.Flat.{denied, both}
use Rattle.ess_bare_laws.specs.Bare.{before, all_hold, some_holds, Bare, number, truth, named, cell, one, two, power, chosen, folded, added, ordered, at_end, through, where_holds, no_axis, along}
use Rattle.ess_bare_laws.specs.BareParts.{marked_types}
use Rattle.ess_bare_laws.specs.Fires.{Fires, without_generators, over_one_condition, as_a_condition_leaves, as_one_choice}
use Rattle.ess_bare_laws.proofs.Fired.{factors, condition-of}
use Rattle.ess_bare_laws.proofs.Scalars.{bare-truth, bare-number}
use Rattle.ess_bare_laws.proofs.Refined.{bare-met}

-- Names that no rule which fires takes.
any_supply : Supply
any_supply = record { one = []; other = []; third = []; parts = []; index_domain = λ e. bool_dom; copy = λ e. e }

module _ (cells : Text → Option (Bool × ℕ)) (r : Names Bool) (env : Env) (typed : Typed (marked_types r) env) where
  -- What is made has values.
  abbrev Has : Bool → Option Ex → Type 0
  Has w None = Unit {0}
  Has w (Some f) = Valued w f env

  -- ---- without generators

  fits : {e : Ex} {m : Bool} (w : Bool) → Bare cells r e m → Valued w e env → BareFits e env
  fits w number v = tt
  fits w truth v = tt
  fits w (named h) v = tt
  fits w (cell h i) v = tt
  fits w (one denied f) v = tt
  fits w (two both f h) v = tt
  fits w (power f h) v = tt
  fits w (chosen truth) v = tt
  fits w (folded {e = e} x at_end f) v =
      bare-truth cells r e f env typed (values-along.value false e env refl v.1.0.1)
  fits w (folded x (through n k) f) v = tt
  fits w (folded x (where_holds c k) f) v = tt
  fits w (added {e = e} no_axis f) v =
      bare-number cells r e f env typed (values-along.value false e env refl v.1.0.1)
  fits w (added (along n k) f) v = tt
  fits w (ordered before f h) v = tt
  fits w f v = tt

  without-valued : {e : Ex} {m : Bool} (w : Bool) → Bare cells r e m → Valued w e env → Has w (fold_bare e)
  without-valued w number v = tt
  without-valued w truth v = tt
  without-valued w (named h) v = tt
  without-valued w (cell h i) v = tt
  without-valued w (one denied f) v = tt
  without-valued w (two both f h) v = tt
  without-valued w (power f h) v = tt
  without-valued w (chosen f) v = tt
  without-valued w (folded {e = e} all_hold at_end f) v = values-along.in_places w e env v.1.0.1
  without-valued w (folded all_hold (through n k) f) v = tt
  without-valued w (folded all_hold (where_holds c k) f) v = tt
  without-valued w (folded {e = e} some_holds at_end f) v = values-along.in_places w e env v.1.0.1
  without-valued w (folded some_holds (through n k) f) v = tt
  without-valued w (folded some_holds (where_holds c k) f) v = tt
  without-valued w (added {e = e} no_axis f) v = values-along.in_places w e env v.1.0.1
  without-valued w (added (along n k) f) v = tt
  without-valued w (ordered before f h) v = tt
  without-valued w f v = tt

  -- ---- over a condition alone

  alone-valued : {e : Ex} {m : Bool} (w : Bool) → Bare cells r e m → Valued w e env → Has w (fold_alone e)
  alone-valued w number v = tt
  alone-valued w truth v = tt
  alone-valued w (named h) v = tt
  alone-valued w (cell h i) v = tt
  alone-valued w (one denied f) v = tt
  alone-valued w (two both f h) v = tt
  alone-valued w (power f h) v = tt
  alone-valued w (chosen f) v = tt
  alone-valued w (folded all_hold (where_holds c at_end) f) v = (tt, (v.1.0.1.0, λ t. (v.1.0.1.1 t, tt)))
  alone-valued w (folded all_hold k f) v = tt
  alone-valued w (folded some_holds (where_holds c at_end) f) v = (tt, (v.1.0.1.0, λ t. (v.1.0.1.1 t, tt)))
  alone-valued w (folded some_holds k f) v = tt
  alone-valued w (added k f) v = tt
  alone-valued w (ordered before f h) v = tt
  alone-valued w f v = tt

  -- ---- a condition that leaves

  leaving-fits : {e : Ex} (w : Bool) → Bare cells r e true → Valued w e env → LeavesFits e env
  leaving-fits w truth v = tt
  leaving-fits w (named h) v = tt
  leaving-fits w (cell h i) v = tt
  leaving-fits w (one denied f) v = tt
  leaving-fits w (two both f h) v = tt
  leaving-fits w (folded x k f) v = (v.1.0.0, tt)
  leaving-fits w (ordered before f h) v = tt
  leaving-fits w f v = tt

  binds-apart : {e : Ex} → Bare cells r e true → BindsApart condition e
  binds-apart truth = tt
  binds-apart (named h) = tt
  binds-apart (cell h i) = tt
  binds-apart (one denied f) = tt
  binds-apart (two both f h) = tt
  binds-apart (folded x k f) = refl
  binds-apart (ordered before f h) = tt
  binds-apart f = tt

  -- ---- numbers that conditions choose

  -- A condition in a factor has values, in no natural place.
  in-factor : (w : Bool) (c : Ex) → Valued ((w && true) && false) c env → Valued false c env
  in-factor true c v = v
  in-factor false c v = v

  chosen-valued : (w : Bool) (c d : Ex) → Valued false c env → Valued false d env →
      Valued w (fun1 false Fun.ToInt (ex2 true Op2.And c d)) env
  chosen-valued true c d i j = (refl, ((tt, (i, λ z. (j, tt))), tt))
  chosen-valued false c d i j = (refl, ((tt, (i, λ z. (j, tt))), tt))

  factor-valued : (w : Bool) (e : Ex) → Valued (w && true) e env → Valued w e env
  factor-valued true e v = v
  factor-valued false e v = v

  -- Such a condition has a truth value.
  factor-truth : (c : Ex) → Bare cells r c true → Valued false c env → IsTruth (meaning c env)
  factor-truth c f v = bare-truth cells r c f env typed (values-along.value false c env refl v)

  shorter-keeps : (e f : Ex) → Bare cells r e false → (w : Bool) → Valued w e env → choice_shorter e ≡ Some f →
      (meaning e env ≡ meaning f env) × Valued w f env
  shorter-keeps (ex2 false Op2.Times (fun1 false Fun.ToInt c) (fun1 false Fun.ToInt d)) f b w v q =
      let p = factors cells b in
      let i = in-factor w c v.1.0.1.0 in
      let j = in-factor w d v.1.1.0.1.0 in
      let e : Ex = ex2 false Op2.Times (fun1 false Fun.ToInt c) (fun1 false Fun.ToInt d) in
      let t : IsTruth (meaning c env) × IsTruth (meaning d env) =
      (factor-truth c (condition-of cells p.1) i, factor-truth d (condition-of cells p.2) j) in (
        (choices-keep e f q env t (bare-met cells r e false b env)).0,
        subst (λ o. Has w o) q (chosen-valued w c d i j),
      )
  shorter-keeps (ex2 false Op2.Times (fun1 false Fun.ToInt c) (number_ex (pos (suc zero)))) f b w v q =
      let p = factors cells b in
      let e : Ex = ex2 false Op2.Times (fun1 false Fun.ToInt c) (number_ex (pos (suc zero))) in
      let t = factor-truth c (condition-of cells p.1) (in-factor w c v.1.0.1.0) in (
        (choices-keep e f q env t (bare-met cells r e false b env)).0,
        subst (λ o. Has w o) q (factor-valued w (fun1 false Fun.ToInt c) v.1.0),
      )
  shorter-keeps _ f b w v q = cc

  -- ---- all

  -- The meaning and values are kept.
  pub fired-keeps : (e f : Ex) (m : Bool) → Bare cells r e m → Fires e f m → (w : Bool) → Valued w e env →
      (meaning e env ≡ meaning f env) × Valued w f env
  fired-keeps e f m b (without_generators q) w v = (
    (bare-keeps e f q env (fits w b v) (bare-met cells r e m b env)).0,
    subst (λ o. Has w o) q (without-valued w b v),
  )
  fired-keeps e f m b (over_one_condition q) w v = (
    (alone-keeps e f q env (bare-met cells r e true b env)).0,
    subst (λ o. Has w o) q (alone-valued w b v),
  )
  fired-keeps e f m b (as_a_condition_leaves q) w v =
      let met = bare-met cells r e true b env in
      let same = (conditions-leave.keeps e f q env (leaving-fits w b v) met).0 in
      (same, bindings-keep-values any_supply [] condition e f q refl (binds-apart b) env met same w v)
  fired-keeps e f m b (as_one_choice q) w v = shorter-keeps e f b w v q
