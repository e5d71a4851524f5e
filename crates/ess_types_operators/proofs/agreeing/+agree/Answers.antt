use Rattle.std.proofs.Common.{◌≡◌, true}
use Rattle.std.specs.Prelude.{is_some}
use Rattle.ess_semantics.specs.Types.{join}
use Rattle.ess_core.specs.TypeViews.{pure_ty}
use Rattle.ess_types_operators.proofs.Agreement.{matrices_agree, functions_agree}
use Rattle.ess_types_operators.proofs.agreeing.+agree.Goals as goal

pub agree-returns-then-agree : goal.agree-returns-then-agree
agree-returns-then-agree t c =
    let m = c.in-Matrix-Matrix in
    let h : is_some (join (pure_ty m.i) (pure_ty m.j)) ≡ true = cc in
    cc (matrices_agree m.i m.x m.j m.y h)

pub agree-returns-then-agree-2 : goal.agree-returns-then-agree-2
agree-returns-then-agree-2 t c =
    let m = c.in-Function-Function in
    let h : is_some (join (pure_ty m.i) (pure_ty m.j)) ≡ true = cc in
    cc (functions_agree m.i m.x m.j m.y h)
