-- What a type stands for, variant by variant.
use Rattle.std.proofs.Common.{◌≡◌, sym, ap, ◌∙◌, List, map}
use Rattle.ess_semantics.specs.Values.{Text, a_tuple, a_matrix, a_set, a_mset, a_function, a_relation, a_partition}
use Rattle.ess_semantics.specs.Types as pure
use Rattle.ess_semantics.specs.Types.{any_ty, bool_ty, int_ty, named_ty, compound, compound1, compound2, tys_of}
use Rattle.ess_semantics.specs.OperatorTypes.{record_ty}
use Rattle.ess_core.specs.TypeViews.{ty_step, field_ty_step, pure_ty, pure_field_ty, pure_tys}
use Rattle.ess_core.specs.declared.types.Ty.{Ty}
use Rattle.ess_core.specs.declared.types.FieldTy.{FieldTy}
use Rattle.ess_core.specs.declared.types.Ty.TheOpen.{Ty-F}
use Rattle.ess_core.specs.declared.types.Ty.TheVariants as variant
use Rattle.ess_core.specs.declared.types.Ty.TheViews.{out-FieldTy, roll-out-FieldTy}
use Rattle.ess_core.specs.declared.types.Ty.TheFolds.{fold-roll-Ty, fold-roll-FieldTy}

pub pure_any : pure_ty variant.Any ≡ any_ty
pure_any = ap pure_ty (sym variant.rolls-Any) ∙ fold-roll-Ty pure.Ty (Text × pure.Ty) ty_step field_ty_step Ty-F.Any

pub pure_bool : pure_ty variant.Bool ≡ bool_ty
pure_bool = ap pure_ty (sym variant.rolls-Bool) ∙ fold-roll-Ty pure.Ty (Text × pure.Ty) ty_step field_ty_step Ty-F.Bool

pub pure_int : pure_ty variant.Int ≡ int_ty
pure_int = ap pure_ty (sym variant.rolls-Int) ∙ fold-roll-Ty pure.Ty (Text × pure.Ty) ty_step field_ty_step Ty-F.Int

pub pure_named : (a : Text) → pure_ty (variant.Named a) ≡ named_ty a
pure_named a = ap pure_ty (sym (variant.rolls-Named a)) ∙ fold-roll-Ty pure.Ty (Text × pure.Ty) ty_step field_ty_step (Ty-F.Named a)

pub pure_tuple : (ts : List Ty) → pure_ty (variant.Tuple ts) ≡ compound a_tuple (pure_tys ts)
pure_tuple ts = ap pure_ty (sym (variant.rolls-Tuple ts)) ∙ fold-roll-Ty pure.Ty (Text × pure.Ty) ty_step field_ty_step (Ty-F.Tuple ts)

pub pure_rec : (fs : List FieldTy) → pure_ty (variant.Rec fs) ≡ record_ty (map pure_field_ty fs)
pure_rec fs = ap pure_ty (sym (variant.rolls-Rec fs)) ∙ fold-roll-Ty pure.Ty (Text × pure.Ty) ty_step field_ty_step (Ty-F.Rec fs)

pub pure_matrix : (i t : Ty) → pure_ty (variant.Matrix i t) ≡ compound2 a_matrix (pure_ty i) (pure_ty t)
pure_matrix i t = ap pure_ty (sym (variant.rolls-Matrix i t)) ∙ fold-roll-Ty pure.Ty (Text × pure.Ty) ty_step field_ty_step (Ty-F.Matrix i t)

pub pure_set : (t : Ty) → pure_ty (variant.Set t) ≡ compound1 a_set (pure_ty t)
pure_set t = ap pure_ty (sym (variant.rolls-Set t)) ∙ fold-roll-Ty pure.Ty (Text × pure.Ty) ty_step field_ty_step (Ty-F.Set t)

pub pure_mset : (t : Ty) → pure_ty (variant.MSet t) ≡ compound1 a_mset (pure_ty t)
pure_mset t = ap pure_ty (sym (variant.rolls-MSet t)) ∙ fold-roll-Ty pure.Ty (Text × pure.Ty) ty_step field_ty_step (Ty-F.MSet t)

pub pure_function : (t u : Ty) → pure_ty (variant.Function t u) ≡ compound2 a_function (pure_ty t) (pure_ty u)
pure_function t u = ap pure_ty (sym (variant.rolls-Function t u)) ∙ fold-roll-Ty pure.Ty (Text × pure.Ty) ty_step field_ty_step (Ty-F.Function t u)

pub pure_relation : (ts : List Ty) → pure_ty (variant.Relation ts) ≡ compound a_relation (pure_tys ts)
pure_relation ts = ap pure_ty (sym (variant.rolls-Relation ts)) ∙ fold-roll-Ty pure.Ty (Text × pure.Ty) ty_step field_ty_step (Ty-F.Relation ts)

pub pure_partition : (t : Ty) → pure_ty (variant.Partition t) ≡ compound1 a_partition (pure_ty t)
pure_partition t = ap pure_ty (sym (variant.rolls-Partition t)) ∙ fold-roll-Ty pure.Ty (Text × pure.Ty) ty_step field_ty_step (Ty-F.Partition t)

pub pure_field_ty_is : (x : FieldTy) → pure_field_ty x ≡ ((out-FieldTy x).name, pure_ty (out-FieldTy x).ty)
pure_field_ty_is x = ap pure_field_ty (sym (roll-out-FieldTy x)) ∙ fold-roll-FieldTy pure.Ty (Text × pure.Ty) ty_step field_ty_step (out-FieldTy x)
