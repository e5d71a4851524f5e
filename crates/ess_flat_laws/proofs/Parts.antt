-- Parts of flat trees are flat, and no name is bound around one.
use Rattle.std.proofs.Common.{◌≡◌, refl, Bool, Option}
use Rattle.ess_semantics.specs.Values.{Text}
use Rattle.ess_semantics.specs.Names.{Names}
use Rattle.ess_semantics.specs.Trees.{Ex, Exs, number_ex, truth_ex, name_ex, node_ex, matrix_ex, comp_ex, cell_ex, seen_ex, no_exs, more_exs}
use Rattle.ess_semantics.specs.Types.{Ty}
use Rattle.ess_semantics.specs.Contexts.{In, hole, in_operand, in_item, in_index_domain, in_body, in_generators, in_cell_index, in_view_domain, in_view_index, Ins, in_first, in_later, fill, fill_exs}
use Rattle.ess_semantics.specs.NamesAt.{names_at, names_at_exs}
use Rattle.ess_flat_laws.specs.Flat.{Flat, number, truth, named, cell, one, two, chosen}

module _ (names cells : Text → Option Bool) where
  -- The tree is flat, with some mark.
  abbrev IsFlat : Ex → Type 0
  IsFlat e = (m : Bool) × Flat names cells e m

  -- So is each of these.
  abbrev AreFlat : Exs → Type 0
  AreFlat no_exs = Unit {0}
  AreFlat (more_exs e es) = IsFlat e × AreFlat es

  -- So is each operand of the root; a flat root is no literal over an index domain, no comprehension and no view.
  abbrev OperandsFlat : Ex → Type 0
  OperandsFlat (number_ex k) = Unit {0}
  OperandsFlat (truth_ex b) = Unit {0}
  OperandsFlat (name_ex a) = Unit {0}
  OperandsFlat (node_ex b op es) = AreFlat es
  OperandsFlat (matrix_ex es d) = ⊥
  OperandsFlat (comp_ex e gs) = ⊥
  OperandsFlat (cell_ex b n es) = AreFlat es
  OperandsFlat (seen_ex r d ns es) = ⊥

  operands-flat : {e : Ex} {m : Bool} → Flat names cells e m → OperandsFlat e
  operands-flat number = tt
  operands-flat truth = tt
  operands-flat (named h) = tt
  operands-flat (cell h) = tt
  operands-flat (one {m = k} o f) = ((k, f), tt)
  operands-flat (two {m = i} {k = k} o f h c) = ((i, f), ((k, h), tt))
  operands-flat (chosen {x = x} f) = ((_, f), tt)

  mutual
    -- Each part is flat.
    pub part-flat : (c : In) (e : Ex) (m : Bool) → Flat names cells (fill c e) m → IsFlat e
    part-flat hole e m f = (m, f)
    part-flat (in_operand b op c) e m f = part-flat-exs c e (operands-flat f)
    part-flat (in_item c d) e m f = absurd (operands-flat f)
    part-flat (in_index_domain es c) e m f = absurd (operands-flat f)
    part-flat (in_body c gs) e m f = absurd (operands-flat f)
    part-flat (in_generators x c) e m f = absurd (operands-flat f)
    part-flat (in_cell_index b n c) e m f = part-flat-exs c e (operands-flat f)
    part-flat (in_view_domain r c ns es) e m f = absurd (operands-flat f)
    part-flat (in_view_index r d ns c) e m f = absurd (operands-flat f)

    part-flat-exs : (c : Ins) (e : Ex) → AreFlat (fill_exs c e) → IsFlat e
    part-flat-exs (in_first c es) e f = part-flat c e f.0.0 f.0.1
    part-flat-exs (in_later x c) e f = part-flat-exs c e f.1

  mutual
    -- No name is bound around it.
    pub part-unbound : (c : In) (e : Ex) (m : Bool) (g : Names Ty) → Flat names cells (fill c e) m → names_at c g ≡ g
    part-unbound hole e m g f = refl
    part-unbound (in_operand b op c) e m g f = part-unbound-exs c e g (operands-flat f)
    part-unbound (in_item c d) e m g f = absurd (operands-flat f)
    part-unbound (in_index_domain es c) e m g f = absurd (operands-flat f)
    part-unbound (in_body c gs) e m g f = absurd (operands-flat f)
    part-unbound (in_generators x c) e m g f = absurd (operands-flat f)
    part-unbound (in_cell_index b n c) e m g f = part-unbound-exs c e g (operands-flat f)
    part-unbound (in_view_domain r c ns es) e m g f = absurd (operands-flat f)
    part-unbound (in_view_index r d ns c) e m g f = absurd (operands-flat f)

    part-unbound-exs : (c : Ins) (e : Ex) (g : Names Ty) → AreFlat (fill_exs c e) → names_at_exs c g ≡ g
    part-unbound-exs (in_first c es) e g f = part-unbound c e f.0.0 g f.0.1
    part-unbound-exs (in_later x c) e g f = part-unbound-exs c e g f.1
