-- Flat constraints, as they were written, stay as they are when lettings are put in; and keep their form in the model.
use Rattle.std.proofs.Common.{◌≡◌, refl, sym, ap, ◌∙◌, Bool, true, false, ◌||◌, not, if◌then◌else◌, List, [], ◌∷◌, Option, Some, None, is_some}
use Rattle.std.specs.List.{list_all}
use Rattle.ess_semantics.specs.declared.words.Op2.{Op2}
use Rattle.ess_semantics.specs.Lists.{and_then}
use Rattle.ess_semantics.specs.Values.{Text}
use Rattle.ess_semantics.specs.Order.{same_text}
use Rattle.ess_semantics.specs.Names.{Names, look}
use Rattle.ess_semantics.specs.Trees.{Ex, name_ex, Stm, given, given_enum, let_ex, let_dom, let_enum, let_unnamed, needs, find, such_that, minimise, maximise, ex2}
use Rattle.ess_semantics.specs.Types.{Ty}
use Rattle.ess_semantics.specs.Lettings.{Lettings, no_lettings, lettings_after, put_ex, put_dom, put_stm, put_all, types_after}
use Rattle.ess_semantics.specs.Resolving.{resolve}
use Rattle.ess_semantics.specs.Prepared.{resolve_stm, resolve_all, prepared}
use Rattle.ess_semantics.specs.Plans.{Options, Plan, plans}
use Rattle.ess_semantics.specs.ModelTrees.{Model}
use Rattle.ess_semantics.specs.Models.{is_flat, with_cells, constraints_of}
use Rattle.ess_semantics.proofs.Tests.{and-left, and-right}
use Rattle.ess_semantics.proofs.Texts.{same_text-equal}
use Rattle.ess_simplify_laws.specs.Simplifying.{simplified}
use Rattle.conjure_laws.specs.SideBySide.{Along}
use Rattle.ess_flat_models_laws.specs.ess_flat_laws.Flat.{two_mark, as_marked, flat_mark, none_marked}
use Rattle.ess_flat_models_laws.specs.FlatSpecifications.{scalar_mark, is_of_truths, is_flat_truth, has_marks}
use Rattle.ess_flat_models_laws.specs.FlatModels.{flat_rule}
use Rattle.ess_flat_models_laws.proofs.PreparedStatements.{truth-flat, NoLetting, put-flat, resolve-flat}
use Rattle.ess_flat_models_laws.proofs.FlatCells.{form-stays}
use Rattle.ess_mixed_models_laws.specs.MixedSpecifications.{is_mixed_statement, are_mixed_statements}
use Rattle.ess_mixed_models_laws.specs.MixedModels.{IsRuleOf, of_flat, of_membership, of_setwise}
use Rattle.ess_mixed_models_laws.proofs.NamedKinds.{no-yes}

-- A membership isn't flat.
pub no-member : (Ps : List Plan) (e : Ex) (x : Text) → is_flat_truth Ps (ex2 true Op2.Member e (name_ex x)) ≡ true → ⊥
no-member Ps e x h = no-yes (sym (first (flat_mark (scalar_mark Ps) none_marked e)) ∙ h)
  where
    both : (m k : Bool) → two_mark Op2.Member m k ≡ None
    both true true = refl
    both true false = refl
    both false true = refl
    both false false = refl

    second : (m : Bool) (q : Option Bool) → is_of_truths (and_then (and_then q (two_mark Op2.Member m)) (as_marked true)) ≡ false
    second m None = refl
    second m (Some k) = ap (λ z. is_of_truths (and_then z (as_marked true))) (both m k)

    first : (p : Option Bool) →
        is_of_truths (and_then (and_then p (λ m. and_then (scalar_mark Ps x) (two_mark Op2.Member m))) (as_marked true)) ≡ false
    first None = refl
    first (Some m) = second m (scalar_mark Ps x)

module _ (S : List Stm) (o : Options) where
  abbrev Ps : List Plan
  Ps = plans S o

  abbrev test : Stm → Bool
  test s = is_mixed_statement S o s

  rest : (s : Stm) (T : List Stm) (l : Lettings) (g : Names Ty) → list_all test (resolve_all (put_all (s ∷ T) l g) g) ≡ true →
      list_all test (resolve_all (put_all T (lettings_after (put_stm s l g) l) (types_after (put_stm s l g) g)) (types_after
      (put_stm s l g) g))
      ≡ true
  rest s T l g h =
      let t : Stm = put_stm s l g in
      and-right (test (resolve_stm t g)) (list_all test (resolve_all (put_all T (lettings_after t l) (types_after t g))
      (types_after t g))) h

  first : (s : Stm) (T : List Stm) (l : Lettings) (g : Names Ty) → list_all test (resolve_all (put_all (s ∷ T) l g) g) ≡ true →
      test (resolve_stm (put_stm s l g) g) ≡ true
  first s T l g h =
      let t : Stm = put_stm s l g in
      and-left (test (resolve_stm t g)) (list_all test (resolve_all (put_all T (lettings_after t l) (types_after t g)) (types_after t g))) h

  more-lettings : (x : Text) (e : Ex) (l : Lettings) → NoLetting (scalar_mark Ps) l → not (is_some (scalar_mark Ps x)) ≡ true →
      NoLetting (scalar_mark Ps) (record l { exs = (x, e) ∷ l.exs })
  more-lettings x e l q n a m h = go (same_text x a) refl
    where
      go : (b : Bool) → same_text x a ≡ b → (if same_text x a then Some e else look l.exs a) ≡ None
      go false u = ap (λ c. if c then Some e else look l.exs a) u ∙ q a m h
      go true u =
          let z : scalar_mark Ps x ≡ Some m = ap (scalar_mark Ps) (same_text-equal x a u) ∙ h in
          let y : false ≡ true = ap (λ o. not (is_some o)) (sym z) ∙ n in absurd (no-yes y)

  -- A flat constraint stays as it is.
  constraints-stay : (T : List Stm) (l : Lettings) (g : Names Ty) → NoLetting (scalar_mark Ps) l →
      list_all test (resolve_all (put_all T l g) g) ≡ true →
      Along (constraints_of T) (constraints_of (resolve_all (put_all T l g) g)) (λ e f. is_flat_truth Ps e ≡ true → f ≡ e)
  constraints-stay [] l g q h = tt
  constraints-stay (given x d ∷ T) l g q h =
      let t : Stm = given x (put_dom d l g) in constraints-stay T l (types_after t g) q (rest (given x d) T l g h)
  constraints-stay (find x d ∷ T) l g q h =
      let t : Stm = find x (put_dom d l g) in constraints-stay T l (types_after t g) q (rest (find x d) T l g h)
  constraints-stay (given_enum t ∷ T) l g q h =
      constraints-stay T l (types_after (given_enum t) g) q (rest (given_enum t) T l g h)
  constraints-stay (let_enum t ns ∷ T) l g q h =
      constraints-stay T l (types_after (let_enum t ns) g) q (rest (let_enum t ns) T l g h)
  constraints-stay (let_unnamed t e ∷ T) l g q h =
      constraints-stay T l (types_after (let_unnamed t (put_ex e l g)) g) q (rest (let_unnamed t e) T l g h)
  constraints-stay (let_ex x e ∷ T) l g q h =
      let f : Ex = put_ex e l g in
      constraints-stay T (lettings_after (let_ex x f) l) (types_after (let_ex x f) g)
      (more-lettings x f l q (first (let_ex x e) T l g h)) (rest (let_ex x e) T l g h)
  constraints-stay (let_dom x d ∷ T) l g q h =
      let t : Stm = let_dom x (put_dom d l g) in
      constraints-stay T (lettings_after t l) (types_after t g) q (rest (let_dom x d) T l g h)
  constraints-stay (needs e ∷ T) l g q h = constraints-stay T l g q (rest (needs e) T l g h)
  constraints-stay (minimise e ∷ T) l g q h = constraints-stay T l g q (rest (minimise e) T l g h)
  constraints-stay (maximise e ∷ T) l g q h = constraints-stay T l g q (rest (maximise e) T l g h)
  constraints-stay (such_that e ∷ T) l g q h = (
    λ u. let f = truth-flat Ps e u in ap (λ z. resolve z g) (put-flat (scalar_mark Ps) l q g f) ∙ resolve-flat (scalar_mark Ps) g f,
    constraints-stay T l g q (rest (such_that e) T l g h),
  )

  rule-form : (M : Model) (f r : Ex) → IsRuleOf S o M f r → (e : Ex) → f ≡ e → is_flat_truth Ps e ≡ true →
      is_flat Ps e ≡ true → r ≡ with_cells Ps e
  rule-form M f r (of_flat t) e q v u =
      let c = truth-flat Ps e v in ap (flat_rule Ps) q ∙ ap simplified (form-stays Ps c u) ∙ form-stays Ps c u
  rule-form M f r (of_membership {e = a} {x = x} t R) e q v u = absurd (no-member Ps a x (ap (is_flat_truth Ps) q ∙ v))
  rule-form M f r (of_setwise n t m s) e q v u = absurd (no-yes (sym n ∙ ap (is_flat_truth Ps) q ∙ v))

  form-at : (M : Model) (e f r : Ex) → (is_flat_truth Ps e ≡ true → f ≡ e) → has_marks Ps e ≡ true → IsRuleOf S o M f r →
      is_flat Ps e ≡ true → r ≡ with_cells Ps e
  form-at M e f r w k R u = let v = marked (is_flat Ps e) (is_flat_truth Ps e) k u in rule-form M f r R e (w v) v u
    where
      marked : (b c : Bool) → not b || c ≡ true → b ≡ true → c ≡ true
      marked true c p q = p
      marked false c p q = absurd (no-yes q)

  forms-along : (M : Model) (es fs rs : List Ex) → Along es fs (λ e f. is_flat_truth Ps e ≡ true → f ≡ e) →
      list_all (has_marks Ps) es ≡ true →
      Along fs rs (IsRuleOf S o M) → Along es rs (λ e r. is_flat Ps e ≡ true → r ≡ with_cells Ps e)
  forms-along M [] [] [] w k R = tt
  forms-along M (e ∷ es) (f ∷ fs) (r ∷ rs) w k R = (
    form-at M e f r w.0 (and-left (has_marks Ps e) (list_all (has_marks Ps) es) k) R.0,
    forms-along M es fs rs w.1 (and-right (has_marks Ps e) (list_all (has_marks Ps) es) k) R.1,
  )
  forms-along M [] (f ∷ fs) rs w k R = absurd w
  forms-along M (e ∷ es) [] rs w k R = absurd w
  forms-along M [] [] (r ∷ rs) w k R = absurd R
  forms-along M (e ∷ es) (f ∷ fs) [] w k R = absurd R

  -- So each flat constraint keeps its form.
  pub forms-stay : are_mixed_statements S o ≡ true → list_all (has_marks Ps) (constraints_of S) ≡ true → (M : Model) (rs : List Ex) →
      Along (constraints_of (prepared S)) rs (IsRuleOf S o M) →
      Along (constraints_of S) rs (λ e r. is_flat Ps e ≡ true → r ≡ with_cells Ps e)
  forms-stay h k M rs w =
      forms-along M (constraints_of S) (constraints_of (prepared S)) rs (constraints-stay S no_lettings [] (λ a m e. refl) h) k w
