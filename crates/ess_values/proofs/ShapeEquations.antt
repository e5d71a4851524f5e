-- What a shape stands for, variant by variant.
use Rattle.std.proofs.Common.{◌≡◌, sym, ap, ◌∙◌, List}
use Rattle.ess_semantics.specs.Values.{Text}
use Rattle.ess_semantics.specs.Types as pure
use Rattle.ess_semantics.specs.Types.{any_ty, bool_ty, int_ty, named_ty, compound}
use Rattle.ess_values.specs.Shapes.{pure_kind, shape_step, pure_shape, pure_shapes}
use Rattle.ess_values.specs.declared.shapes.Kind.{Kind}
use Rattle.ess_values.specs.declared.shapes.Shape.{Shape}
use Rattle.ess_values.specs.declared.shapes.Shape.TheOpen.{Shape-F}
use Rattle.ess_values.specs.declared.shapes.Shape.TheVariants as variant
use Rattle.ess_values.specs.declared.shapes.Shape.TheFolds.{fold-roll-Shape}

pub shape_any : pure_shape variant.Any ≡ any_ty
shape_any = ap pure_shape (sym variant.rolls-Any) ∙ fold-roll-Shape pure.Ty shape_step Shape-F.Any

pub shape_bool : pure_shape variant.Bool ≡ bool_ty
shape_bool = ap pure_shape (sym variant.rolls-Bool) ∙ fold-roll-Shape pure.Ty shape_step Shape-F.Bool

pub shape_int : pure_shape variant.Int ≡ int_ty
shape_int = ap pure_shape (sym variant.rolls-Int) ∙ fold-roll-Shape pure.Ty shape_step Shape-F.Int

pub shape_named : (a : Text) → pure_shape (variant.Named a) ≡ named_ty a
shape_named a = ap pure_shape (sym (variant.rolls-Named a)) ∙ fold-roll-Shape pure.Ty shape_step (Shape-F.Named a)

pub shape_node : (k : Kind) (ss : List Shape) → pure_shape (variant.Node k ss) ≡ compound (pure_kind k) (pure_shapes ss)
shape_node k ss = ap pure_shape (sym (variant.rolls-Node k ss)) ∙ fold-roll-Shape pure.Ty shape_step (Shape-F.Node k ss)
