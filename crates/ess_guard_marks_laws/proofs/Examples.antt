-- Worked examples: a guarded tree with the right marks, and one whose condition lacks one, as its tree isn't covered.
use Rattle.std.proofs.Common.{refl, true, false, [], ◌∷◌, pos}
use Rattle.std.specs.Prelude.{codes}
use Rattle.ess_semantics.specs.declared.words.Op2.{Op2}
use Rattle.ess_semantics.specs.Values.{a_matrix}
use Rattle.ess_semantics.specs.Names.{Names}
use Rattle.ess_semantics.specs.Trees.{by_value, index, Ex, number_ex, name_ex, node_ex, no_exs, more_exs, ex2}
use Rattle.ess_semantics.specs.Types.{Ty, bool_ty, int_ty, compound2}
use Rattle.ess_guard_laws.specs.Guard.{make_total, make_natural}
use Rattle.ess_guard_laws.specs.Covered.{Covered}
use Rattle.ess_refine_laws.specs.MarksStay.{HasMarks}

-- A number and a matrix of truth values.
abbrev names : Names Ty
names = (codes "x", int_ty) ∷ (codes "m", compound2 a_matrix int_ty bool_ty) ∷ []

abbrev one : Ex
one = number_ex (pos 1)

-- `1 / x = 1`
abbrev quotient : Ex
quotient = ex2 true Op2.Eq (ex2 false Op2.Div one (name_ex (codes "x"))) one

pub quotient-marked : HasMarks (make_total (codes "p") (codes "q") quotient) names
quotient-marked =
    (refl, (((((refl, ((refl, (tt, (tt, tt))), (tt, tt))), tt), (refl, ((refl, (tt, (tt, tt))), (tt, tt)))), tt)))

-- `m[1]`, where m is a name: its condition is `m[1] = m[1]`, whose indices aren't marked, though they are truth values.
abbrev item : Ex
item = node_ex true (index (by_value ∷ [])) (more_exs (name_ex (codes "m")) (more_exs one no_exs))

pub item-marked : HasMarks item names
item-marked = (refl, (tt, (tt, tt)))

pub item-uncovered : Covered item → ⊥
item-uncovered v = let r = v.0 in cc

pub item-lacks : HasMarks (make_natural (codes "p") (codes "q") item) names → ⊥
item-lacks m = let r = m.1.0.0.0.1.0.0 in cc
