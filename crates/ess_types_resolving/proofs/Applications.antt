-- What an application is: a function at one argument is `image`, any other stays an application.
use Rattle.std.proofs.Common.{◌≡◌, refl, sym, arith, true, false, eqb, List, [], ◌∷◌, length, Option, Some, None}
use Rattle.std.proofs.lemmas.Bool.{false≢true}
use Rattle.ess_semantics.specs.declared.words.Fun.{Fun}
use Rattle.ess_semantics.specs.Values.{a_tuple, a_matrix, a_set, a_mset, a_function, a_relation, a_partition, a_record}
use Rattle.ess_semantics.specs.Names.{Names}
use Rattle.ess_semantics.specs.Trees.{word, application}
use Rattle.ess_semantics.specs.Types.{Ty, any_ty, bool_ty, int_ty, named_ty, compound, no_tys, more_tys}
use Rattle.ess_semantics.specs.Typing.{type_of, types_of}
use Rattle.ess_semantics.specs.Resolving.{resolved_op}
use Rattle.ess_core.specs.TreeViews.{pure_ex, pure_exs}
use Rattle.ess_core.specs.declared.expressions.Ex.{Ex}
use Rattle.ess_types_resolving.specs.Parts.{is_function}

-- A function at one argument.
pub image_at : (t : Option Ty) (es : List Ex) (g : Names Ty) → is_function t ≡ true → length es ≡ 1
    → word Fun.Image ≡ resolved_op application (t ∷ types_of (pure_exs es) g)
image_at t [] g h l = absurd (omega (arith, l))
image_at t (x ∷ y ∷ es) g h l = absurd (omega (arith, l))
image_at None (x ∷ []) g h l = absurd (false≢true h)
image_at (Some any_ty) (x ∷ []) g h l = absurd (false≢true h)
image_at (Some bool_ty) (x ∷ []) g h l = absurd (false≢true h)
image_at (Some int_ty) (x ∷ []) g h l = absurd (false≢true h)
image_at (Some (named_ty a)) (x ∷ []) g h l = absurd (false≢true h)
image_at (Some (compound a_tuple ts)) (x ∷ []) g h l = absurd (false≢true h)
image_at (Some (compound a_matrix ts)) (x ∷ []) g h l = absurd (false≢true h)
image_at (Some (compound a_set ts)) (x ∷ []) g h l = absurd (false≢true h)
image_at (Some (compound a_mset ts)) (x ∷ []) g h l = absurd (false≢true h)
image_at (Some (compound a_relation ts)) (x ∷ []) g h l = absurd (false≢true h)
image_at (Some (compound a_partition ts)) (x ∷ []) g h l = absurd (false≢true h)
image_at (Some (compound (a_record fs) ts)) (x ∷ []) g h l = absurd (false≢true h)
image_at (Some (compound a_function no_tys)) (x ∷ []) g h l = absurd (false≢true h)
image_at (Some (compound a_function (more_tys a no_tys))) (x ∷ []) g h l = absurd (false≢true h)
image_at (Some (compound a_function (more_tys a (more_tys b no_tys)))) (x ∷ []) g h l = refl
image_at (Some (compound a_function (more_tys a (more_tys b (more_tys c ts))))) (x ∷ []) g h l = absurd (false≢true h)

-- What is no function.
pub no_function : (t : Option Ty) (us : List (Option Ty)) → is_function t ≡ false → application ≡ resolved_op application (t ∷ us)
no_function None us h = refl
no_function (Some any_ty) us h = refl
no_function (Some bool_ty) us h = refl
no_function (Some int_ty) us h = refl
no_function (Some (named_ty a)) us h = refl
no_function (Some (compound a_tuple ts)) us h = refl
no_function (Some (compound a_matrix ts)) us h = refl
no_function (Some (compound a_set ts)) us h = refl
no_function (Some (compound a_mset ts)) us h = refl
no_function (Some (compound a_relation ts)) us h = refl
no_function (Some (compound a_partition ts)) us h = refl
no_function (Some (compound (a_record fs) ts)) us h = refl
no_function (Some (compound a_function no_tys)) us h = refl
no_function (Some (compound a_function (more_tys a no_tys))) us h = refl
no_function (Some (compound a_function (more_tys a (more_tys b no_tys)))) us h = absurd (false≢true (sym h))
no_function (Some (compound a_function (more_tys a (more_tys b (more_tys c ts))))) us h = refl

no-argument : (t : Option Ty) → application ≡ resolved_op application (t ∷ [])
no-argument None = refl
no-argument (Some any_ty) = refl
no-argument (Some bool_ty) = refl
no-argument (Some int_ty) = refl
no-argument (Some (named_ty a)) = refl
no-argument (Some (compound a_tuple ts)) = refl
no-argument (Some (compound a_matrix ts)) = refl
no-argument (Some (compound a_set ts)) = refl
no-argument (Some (compound a_mset ts)) = refl
no-argument (Some (compound a_relation ts)) = refl
no-argument (Some (compound a_partition ts)) = refl
no-argument (Some (compound (a_record fs) ts)) = refl
no-argument (Some (compound a_function no_tys)) = refl
no-argument (Some (compound a_function (more_tys a no_tys))) = refl
no-argument (Some (compound a_function (more_tys a (more_tys b no_tys)))) = refl
no-argument (Some (compound a_function (more_tys a (more_tys b (more_tys c ts))))) = refl

more-arguments : (t u v : Option Ty) (us : List (Option Ty)) → application ≡ resolved_op application (t ∷ u ∷ v ∷ us)
more-arguments None u v us = refl
more-arguments (Some any_ty) u v us = refl
more-arguments (Some bool_ty) u v us = refl
more-arguments (Some int_ty) u v us = refl
more-arguments (Some (named_ty a)) u v us = refl
more-arguments (Some (compound a_tuple ts)) u v us = refl
more-arguments (Some (compound a_matrix ts)) u v us = refl
more-arguments (Some (compound a_set ts)) u v us = refl
more-arguments (Some (compound a_mset ts)) u v us = refl
more-arguments (Some (compound a_relation ts)) u v us = refl
more-arguments (Some (compound a_partition ts)) u v us = refl
more-arguments (Some (compound (a_record fs) ts)) u v us = refl
more-arguments (Some (compound a_function no_tys)) u v us = refl
more-arguments (Some (compound a_function (more_tys a no_tys))) u v us = refl
more-arguments (Some (compound a_function (more_tys a (more_tys b no_tys)))) u v us = refl
more-arguments (Some (compound a_function (more_tys a (more_tys b (more_tys c ts))))) u v us = refl

-- A number of arguments that isn't one.
pub other_count : (t : Option Ty) (es : List Ex) (g : Names Ty) → eqb (length es) 1 ≡ false
    → application ≡ resolved_op application (t ∷ types_of (pure_exs es) g)
other_count t [] g h = no-argument t
other_count t (x ∷ []) g h = absurd (false≢true (sym h))
other_count t (x ∷ y ∷ es) g h = more-arguments t (type_of (pure_ex x) g) (type_of (pure_ex y) g) (types_of (pure_exs es) g)
