-- Flat trees over givens and finds stay as they are when they are prepared: lettings have other names, and their marks are those of resolved
-- trees.
use Rattle.std.proofs.Common.{◌≡◌, refl, sym, ap, ◌∙◌, Bool, true, false, not, if◌then◌else◌, List, [], ◌∷◌, Option, Some, None, option_map, is_some}
use Rattle.std.specs.List.{list_all}
use Rattle.ess_semantics.specs.declared.words.Op1.{Op1}
use Rattle.ess_semantics.specs.declared.words.Op2.{Op2}
use Rattle.ess_semantics.specs.declared.words.Fun.{Fun}
use Rattle.ess_semantics.specs.Lists.{and_then, all_some}
use Rattle.ess_semantics.specs.Values.{Text, a_set}
use Rattle.ess_semantics.specs.Order.{same_text}
use Rattle.ess_semantics.specs.Names.{Names, look}
use Rattle.ess_semantics.specs.Trees.{unary, binary, word, Ex, ex1, ex2, fun1, Stm, given, given_enum, let_ex, let_dom, let_enum, let_unnamed, needs, find, such_that, minimise, maximise}
use Rattle.ess_semantics.specs.Types.{Ty, any_ty, bool_ty, int_ty, named_ty, compound, join, is_bool}
use Rattle.ess_semantics.specs.OperatorTypes.{type_of_op, sized, subtracted}
use Rattle.ess_semantics.specs.Typing.{type_of}
use Rattle.ess_semantics.specs.Lettings.{Lettings, no_lettings, lettings_after, put_name, put_ex, put_dom, put_stm, put_all, types_after}
use Rattle.ess_semantics.specs.Resolving.{resolve}
use Rattle.ess_semantics.specs.Prepared.{resolve_stm, resolve_all, prepared}
use Rattle.ess_semantics.specs.Plans.{Options, Plan, plans}
use Rattle.ess_semantics.specs.ModelTrees.{goal_of, same_direction}
use Rattle.ess_semantics.specs.Models.{constraints_of}
use Rattle.ess_semantics.proofs.Tests.{and-left, and-right}
use Rattle.ess_rules_laws.proofs.Agreement.{same_text-equal}
use Rattle.conjure_laws.specs.SideBySide.{Along}
use Rattle.ess_flat_laws.specs.Flat.{OneOp, denied, negative, absolute, TwoOp, both, either, implied, agreeing, equal, unequal, below, at_most, above, at_least, sum, difference, product, Flat, number, truth, named, cell, one, two, chosen, flat_mark, none_marked}
use Rattle.ess_flat_laws.proofs.Tested.{tested}
use Rattle.ess_flat_models_laws.specs.FlatSpecifications.{scalar_mark, is_of_truths, is_of_numbers, is_flat_truth, is_flat_number, is_flat_statement, are_flat_statements}
use Rattle.ess_flat_models_laws.specs.FlatModels.{flat_goal}

-- ---- flat trees

-- A truth value of the class.
pub truth-marked : (o : Option Bool) → is_of_truths o ≡ true → o ≡ Some true
truth-marked (Some true) e = refl
truth-marked (Some false) e = cc
truth-marked None e = cc

-- A number of the class.
pub number-marked : (o : Option Bool) → is_of_numbers o ≡ true → o ≡ Some false
number-marked (Some false) e = refl
number-marked (Some true) e = cc
number-marked None e = cc

-- Where two types agree on numbers, the answer isn't bool.
no-truth : (o : Option Ty) → is_bool (option_map (λ v. int_ty) o) ≡ false
no-truth None = refl
no-truth (Some t) = refl

behind-no : (o : Option Ty) (f : Ty → Option Ty) → ((t : Ty) → is_bool (f t) ≡ false) → is_bool (and_then o f) ≡ false
behind-no None f h = refl
behind-no (Some t) f h = h t

subtracted-no : (t : Ty) → is_bool (subtracted t) ≡ false
subtracted-no any_ty = refl
subtracted-no bool_ty = refl
subtracted-no int_ty = refl
subtracted-no (named_ty a) = refl
subtracted-no (compound a_set ts) = refl
subtracted-no (compound k ts) = refl

sized-no : (t : Ty) → is_bool (sized t) ≡ false
sized-no any_ty = refl
sized-no bool_ty = refl
sized-no int_ty = refl
sized-no (named_ty a) = refl
sized-no (compound a_set ts) = refl
sized-no (compound k ts) = refl

-- No operator of numbers has the type bool.
one-no : {m : Bool} {o : Op1} → OneOp false o m → (t : Option Ty) → is_bool (and_then (all_some (t ∷ [])) (type_of_op (unary o))) ≡ false
one-no w None = refl
one-no negative (Some t) = no-truth (join t int_ty)
one-no absolute (Some t) = sized-no t

two-no : {m k : Bool} {o : Op2} → TwoOp false o m k → (t u : Option Ty) →
    is_bool (and_then (all_some (t ∷ u ∷ [])) (type_of_op (binary o))) ≡ false
two-no w None u = refl
two-no w (Some t) None = refl
two-no sum (Some t) (Some u) = behind-no (join t u) (λ v. option_map (λ w. int_ty) (join v int_ty)) (λ v. no-truth (join v int_ty))
two-no difference (Some t) (Some u) = behind-no (join t u) subtracted subtracted-no
two-no product (Some t) (Some u) = behind-no (join t u) (λ v. option_map (λ w. int_ty) (join v int_ty)) (λ v. no-truth (join v int_ty))

chosen-no : (t : Option Ty) → is_bool (and_then (all_some (t ∷ [])) (type_of_op (word Fun.ToInt))) ≡ false
chosen-no None = refl
chosen-no (Some t) = no-truth (join t bool_ty)

-- Lettings, none of which has one of these names.
abbrev pub NoLetting : (Text → Option Bool) → Lettings → Type 0
NoLetting names l = (a : Text) (m : Bool) → names a ≡ Some m → look l.exs a ≡ None

module _ (names : Text → Option Bool) (l : Lettings) (q : NoLetting names l) (g : Names Ty) where
  -- No letting is put into a flat tree.
  pub put-flat : {e : Ex} {m : Bool} → Flat names none_marked e m → put_ex e l g ≡ e
  put-flat number = refl
  put-flat truth = refl
  put-flat (named {a = a} {m = m} h) = ap (λ o. put_name o a) (q a m h)
  put-flat (cell h) = cc
  put-flat (one {b = b} {o = o} w f) = ap (λ y. ex1 b o y) (put-flat f)
  put-flat (two {b = b} {o = o} {x = x} {y = y} w f h c) =
      ap (λ z. ex2 b o z (put_ex y l g)) (put-flat f) ∙ ap (λ z. ex2 b o x z) (put-flat h)
  put-flat (chosen f) = ap (λ y. fun1 false Fun.ToInt y) (put-flat f)

module _ (names : Text → Option Bool) (g : Names Ty) where
  -- Resolving leaves it as it is.
  pub resolve-flat : {e : Ex} {m : Bool} → Flat names none_marked e m → resolve e g ≡ e
  resolve-flat number = refl
  resolve-flat truth = refl
  resolve-flat (named h) = refl
  resolve-flat (cell h) = cc
  resolve-flat (one denied f) = ap (λ y. ex1 true Op1.Not y) (resolve-flat f)
  resolve-flat (one {x = x} negative f) =
      ap (λ b. ex1 b Op1.Minus (resolve x g)) (one-no negative (type_of x g)) ∙ ap (λ y. ex1 false Op1.Minus y) (resolve-flat f)
  resolve-flat (one {x = x} absolute f) =
      ap (λ b. ex1 b Op1.Bar (resolve x g)) (one-no absolute (type_of x g)) ∙ ap (λ y. ex1 false Op1.Bar y) (resolve-flat f)
  resolve-flat (two {x = x} {y = y} both f h c) =
      ap (λ z. ex2 true Op2.And z (resolve y g)) (resolve-flat f) ∙ ap (λ z. ex2 true Op2.And x z) (resolve-flat h)
  resolve-flat (two {x = x} {y = y} either f h c) =
      ap (λ z. ex2 true Op2.Or z (resolve y g)) (resolve-flat f) ∙ ap (λ z. ex2 true Op2.Or x z) (resolve-flat h)
  resolve-flat (two {x = x} {y = y} implied f h c) =
      ap (λ z. ex2 true Op2.Implies z (resolve y g)) (resolve-flat f) ∙ ap (λ z. ex2 true Op2.Implies x z) (resolve-flat h)
  resolve-flat (two {x = x} {y = y} agreeing f h c) =
      ap (λ z. ex2 true Op2.Iff z (resolve y g)) (resolve-flat f) ∙ ap (λ z. ex2 true Op2.Iff x z) (resolve-flat h)
  resolve-flat (two {x = x} {y = y} equal f h c) =
      ap (λ z. ex2 true Op2.Eq z (resolve y g)) (resolve-flat f) ∙ ap (λ z. ex2 true Op2.Eq x z) (resolve-flat h)
  resolve-flat (two {x = x} {y = y} unequal f h c) =
      ap (λ z. ex2 true Op2.Ne z (resolve y g)) (resolve-flat f) ∙ ap (λ z. ex2 true Op2.Ne x z) (resolve-flat h)
  resolve-flat (two {x = x} {y = y} below f h c) =
      ap (λ z. ex2 true Op2.Lt z (resolve y g)) (resolve-flat f) ∙ ap (λ z. ex2 true Op2.Lt x z) (resolve-flat h)
  resolve-flat (two {x = x} {y = y} at_most f h c) =
      ap (λ z. ex2 true Op2.Le z (resolve y g)) (resolve-flat f) ∙ ap (λ z. ex2 true Op2.Le x z) (resolve-flat h)
  resolve-flat (two {x = x} {y = y} above f h c) =
      ap (λ z. ex2 true Op2.Gt z (resolve y g)) (resolve-flat f) ∙ ap (λ z. ex2 true Op2.Gt x z) (resolve-flat h)
  resolve-flat (two {x = x} {y = y} at_least f h c) =
      ap (λ z. ex2 true Op2.Ge z (resolve y g)) (resolve-flat f) ∙ ap (λ z. ex2 true Op2.Ge x z) (resolve-flat h)
  resolve-flat (two {x = x} {y = y} sum f h c) =
      ap (λ b. ex2 b Op2.Plus (resolve x g) (resolve y g)) (two-no sum (type_of x g) (type_of y g))
      ∙ ap (λ z. ex2 false Op2.Plus z (resolve y g)) (resolve-flat f) ∙ ap (λ z. ex2 false Op2.Plus x z) (resolve-flat h)
  resolve-flat (two {x = x} {y = y} difference f h c) =
      ap (λ b. ex2 b Op2.Minus (resolve x g) (resolve y g)) (two-no difference (type_of x g) (type_of y g))
      ∙ ap (λ z. ex2 false Op2.Minus z (resolve y g)) (resolve-flat f) ∙ ap (λ z. ex2 false Op2.Minus x z) (resolve-flat h)
  resolve-flat (two {x = x} {y = y} product f h c) =
      ap (λ b. ex2 b Op2.Times (resolve x g) (resolve y g)) (two-no product (type_of x g) (type_of y g))
      ∙ ap (λ z. ex2 false Op2.Times z (resolve y g)) (resolve-flat f) ∙ ap (λ z. ex2 false Op2.Times x z) (resolve-flat h)
  resolve-flat (chosen {x = x} f) =
      ap (λ b. fun1 b Fun.ToInt (resolve x g)) (chosen-no (type_of x g)) ∙ ap (λ y. fun1 false Fun.ToInt y) (resolve-flat f)

-- ---- statements

-- What a truth value of the class is, and what a number is.
pub truth-flat : (Ps : List Plan) (e : Ex) → is_flat_truth Ps e ≡ true → Flat (scalar_mark Ps) none_marked e true
truth-flat Ps e h = tested (scalar_mark Ps) none_marked e true (truth-marked (flat_mark (scalar_mark Ps) none_marked e) h)

pub number-flat : (Ps : List Plan) (e : Ex) → is_flat_number Ps e ≡ true → Flat (scalar_mark Ps) none_marked e false
number-flat Ps e h = tested (scalar_mark Ps) none_marked e false (number-marked (flat_mark (scalar_mark Ps) none_marked e) h)

module _ (Ps : List Plan) (o : Options) where
  abbrev flat : Stm → Bool
  flat = is_flat_statement Ps o

  rest : (s : Stm) (T : List Stm) (l : Lettings) (g : Names Ty) → list_all flat (resolve_all (put_all (s ∷ T) l g) g) ≡ true →
      let t : Stm = put_stm s l g in
      list_all flat (resolve_all (put_all T (lettings_after t l) (types_after t g)) (types_after t g)) ≡ true
  rest s T l g h =
      let t : Stm = put_stm s l g in
      and-right (flat (resolve_stm t g)) (list_all flat (resolve_all (put_all T (lettings_after t l) (types_after t g)) (types_after t g))) h

  more-lettings : (x : Text) (e : Ex) (l : Lettings) → NoLetting (scalar_mark Ps) l → not (is_some (scalar_mark Ps x)) ≡ true →
      NoLetting (scalar_mark Ps) (record l { exs = (x, e) ∷ l.exs })
  more-lettings x e l q n a m h = go (same_text x a) refl
    where
      go : (b : Bool) → same_text x a ≡ b → (if same_text x a then Some e else look l.exs a) ≡ None
      go false u = ap (λ c. if c then Some e else look l.exs a) u ∙ q a m h
      go true u =
          let z : scalar_mark Ps x ≡ Some m = ap (scalar_mark Ps) (same_text-equal x a u) ∙ h in
          let y : false ≡ true = ap (λ o. not (is_some o)) (sym z) ∙ n in cc

  -- A constraint of the class, as it was written, stays as it is.
  pub constraints-stay : (T : List Stm) (l : Lettings) (g : Names Ty) → NoLetting (scalar_mark Ps) l →
      list_all flat (resolve_all (put_all T l g) g) ≡ true →
      Along (constraints_of T) (constraints_of (resolve_all (put_all T l g) g)) (λ e f. is_flat_truth Ps e ≡ true → f ≡ e)
  constraints-stay [] l g q h = tt
  constraints-stay (given x d ∷ T) l g q h =
      let t : Stm = given x (put_dom d l g) in constraints-stay T l (types_after t g) q (rest (given x d) T l g h)
  constraints-stay (find x d ∷ T) l g q h =
      let t : Stm = find x (put_dom d l g) in constraints-stay T l (types_after t g) q (rest (find x d) T l g h)
  constraints-stay (let_ex x e ∷ T) l g q h =
      let f : Ex = put_ex e l g in
      constraints-stay T (lettings_after (let_ex x f) l) (types_after (let_ex x f) g)
      (more-lettings x f l q (and-left (not (is_some (scalar_mark Ps x)))
      (list_all flat (resolve_all (put_all T (lettings_after (let_ex x f) l) (types_after (let_ex x f) g)) (types_after (let_ex x f) g))) h)) (rest (let_ex x e) T l g h)
  constraints-stay (let_dom x d ∷ T) l g q h =
      constraints-stay T (lettings_after (let_dom x (put_dom d l g)) l) g q h
  constraints-stay (needs e ∷ T) l g q h = constraints-stay T l g q (rest (needs e) T l g h)
  constraints-stay (minimise e ∷ T) l g q h = constraints-stay T l g q (rest (minimise e) T l g h)
  constraints-stay (maximise e ∷ T) l g q h = constraints-stay T l g q (rest (maximise e) T l g h)
  constraints-stay (such_that e ∷ T) l g q h = (
    λ u. let f = truth-flat Ps e u in ap (λ z. resolve z g) (put-flat (scalar_mark Ps) l q g f) ∙ resolve-flat (scalar_mark Ps) g f,
    constraints-stay T l g q (rest (such_that e) T l g h),
  )
  constraints-stay (s ∷ T) l g q h = cc

-- So do those of a specification of the class.
pub prepared-constraints : (S : List Stm) (o : Options) → are_flat_statements S o ≡ true →
    Along (constraints_of S) (constraints_of (prepared S)) (λ e f. is_flat_truth (plans S o) e ≡ true → f ≡ e)
prepared-constraints S o h = constraints-stay (plans S o) o S no_lettings [] (λ a m e. refl) h

-- ---- the objective

direction-stays : (Ps : List Plan) (T : List Stm) (l : Lettings) (g : Names Ty) →
    same_direction (flat_goal Ps (goal_of (resolve_all (put_all T l g) g))) (goal_of T) ≡ true
direction-stays Ps [] l g = refl
direction-stays Ps (minimise e ∷ T) l g = refl
direction-stays Ps (maximise e ∷ T) l g = refl
direction-stays Ps (given x d ∷ T) l g =
    let t : Stm = put_stm (given x d) l g in direction-stays Ps T (lettings_after t l) (types_after t g)
direction-stays Ps (given_enum t ∷ T) l g =
    let t : Stm = put_stm (given_enum t) l g in direction-stays Ps T (lettings_after t l) (types_after t g)
direction-stays Ps (let_ex x e ∷ T) l g =
    let t : Stm = put_stm (let_ex x e) l g in direction-stays Ps T (lettings_after t l) (types_after t g)
direction-stays Ps (let_dom x d ∷ T) l g =
    let t : Stm = put_stm (let_dom x d) l g in direction-stays Ps T (lettings_after t l) (types_after t g)
direction-stays Ps (let_enum t ns ∷ T) l g =
    let t : Stm = put_stm (let_enum t ns) l g in direction-stays Ps T (lettings_after t l) (types_after t g)
direction-stays Ps (let_unnamed t e ∷ T) l g =
    let t : Stm = put_stm (let_unnamed t e) l g in direction-stays Ps T (lettings_after t l) (types_after t g)
direction-stays Ps (needs e ∷ T) l g =
    let t : Stm = put_stm (needs e) l g in direction-stays Ps T (lettings_after t l) (types_after t g)
direction-stays Ps (find x d ∷ T) l g =
    let t : Stm = put_stm (find x d) l g in direction-stays Ps T (lettings_after t l) (types_after t g)
direction-stays Ps (such_that e ∷ T) l g =
    let t : Stm = put_stm (such_that e) l g in direction-stays Ps T (lettings_after t l) (types_after t g)

-- The model's objective has the direction of that of the specification.
pub prepared-direction : (Ps : List Plan) (S : List Stm) → same_direction (flat_goal Ps (goal_of (prepared S))) (goal_of S) ≡ true
prepared-direction Ps S = direction-stays Ps S no_lettings []
