-- Where literals may stand, and what counts nothing.
use Rattle.std.proofs.Common.{◌≡◌, refl, ℕ, Bool, true, false, []}
use Rattle.ess_semantics.specs.Trees.{Op, unary, binary, word, index, application, Ex, number_ex, truth_ex, name_ex, node_ex, matrix_ex, comp_ex, cell_ex, seen_ex}
use Rattle.ess_semantics.specs.Constants.{counted_op}
use Rattle.ess_guard_laws.specs.LiteralsFit.{is_literal, may_stand, LiteralsFit}

-- What isn't a literal counts nothing.
pub uncounted : (op : Op) (n : ℕ) → is_literal op ≡ false → counted_op false op n ≡ []
uncounted (unary o) n t = refl
uncounted (binary o) n t = refl
uncounted (word f) n t = refl
uncounted (index qs) n t = refl
uncounted application n t = refl
uncounted op n t = cc

-- What may stand anywhere may stand outside of folds.
may-outside : (i b : Bool) (op : Op) → may_stand i b op ≡ true → may_stand false b op ≡ true
may-outside i true op t = t
may-outside i false op t = refl

-- A tree outside of folds.
pub fit-outside : (e : Ex) (i : Bool) → LiteralsFit i e → LiteralsFit false e
fit-outside (number_ex n) i f = tt
fit-outside (truth_ex b) i f = tt
fit-outside (name_ex a) i f = tt
fit-outside (node_ex b op es) i f = (may-outside i b op f.0, f.1)
fit-outside (matrix_ex es d) i f = f
fit-outside (comp_ex e gs) i f = f
fit-outside (cell_ex b n es) i f = f
fit-outside (seen_ex r d ns es) i f = tt
