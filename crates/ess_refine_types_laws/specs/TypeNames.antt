-- The names on which the type of a tree depends: those that it uses, and the tables of its cells, which may be of a named type.
use Rattle.std.specs.Prelude.{◌≡◌, Bool, not, ◌∷◌, IsTrue}
use Rattle.ess_semantics.specs.Values.{Text}
use Rattle.ess_semantics.specs.Order.{same_text}
use Rattle.ess_semantics.specs.Names.{Names, look}
use Rattle.ess_semantics.specs.Trees.{Ex, Exs, number_ex, truth_ex, name_ex, node_ex, matrix_ex, comp_ex, cell_ex, seen_ex, no_exs, more_exs, Gens, no_gens, over, from, cond}
use Rattle.ess_semantics.specs.Types.{Ty}
use Rattle.ess_semantics.specs.Typing.{type_of}

-- Each of them has the property u.
abbrev mutual
  pub TypeNamesAre : (Text → Bool) → Ex → Type 0
  TypeNamesAre u (number_ex n) = Unit {0}
  TypeNamesAre u (truth_ex b) = Unit {0}
  TypeNamesAre u (name_ex a) = IsTrue (u a)
  TypeNamesAre u (node_ex b op es) = AllTypeNamesAre u es
  TypeNamesAre u (matrix_ex es d) = AllTypeNamesAre u es
  TypeNamesAre u (comp_ex e gs) = TypeNamesAre u e × GensTypeNamesAre u gs
  TypeNamesAre u (cell_ex b n es) = IsTrue (u n)
  TypeNamesAre u (seen_ex r d ns es) = Unit {0}

  -- The same of operands.
  pub AllTypeNamesAre : (Text → Bool) → Exs → Type 0
  AllTypeNamesAre u no_exs = Unit {0}
  AllTypeNamesAre u (more_exs e es) = TypeNamesAre u e × AllTypeNamesAre u es

  -- The same of generators.
  pub GensTypeNamesAre : (Text → Bool) → Gens → Type 0
  GensTypeNamesAre u no_gens = Unit {0}
  GensTypeNamesAre u (over p d gs) = GensTypeNamesAre u gs
  GensTypeNamesAre u (from p e gs) = TypeNamesAre u e × GensTypeNamesAre u gs
  GensTypeNamesAre u (cond e gs) = TypeNamesAre u e × GensTypeNamesAre u gs

-- The type of the tree doesn't depend on the name.
abbrev pub IsUntyped : Text → Ex → Type 0
IsUntyped x e = TypeNamesAre (λ a. not (same_text x a)) e

-- Under types that agree on these names a tree has one type. So a new name changes none.
pub record TypesNeedTheirNames : Type 0 where
  pub under_equal_types : (u : Text → Bool) (e : Ex) (g h : Names Ty) → TypeNamesAre u e →
      ((a : Text) → IsTrue (u a) → look g a ≡ look h a) → type_of e g ≡ type_of e h
  pub behind_a_new_name : (x : Text) (t : Ty) (e : Ex) (g : Names Ty) → IsUntyped x e → type_of e ((x, t) ∷ g) ≡ type_of e g
