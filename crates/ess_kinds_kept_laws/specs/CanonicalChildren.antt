-- Of a view whose tables are canonical: the cells of each child at each place in use are, and the view of the child as which a value is
-- kept stands for a member of its domain.
use Rattle.std.specs.Prelude.{◌≡◌, Bool, true, false, not, ◌||◌, ℤ, List, ◌∷◌, take, drop, Option, Some, IsTrue}
use Rattle.std.specs.List.{list_all}
use Rattle.ess_semantics.specs.declared.words.ReprKind.{ReprKind}
use Rattle.ess_semantics.specs.Trees.{Repr, Reprs, repr, more_reprs, Ex, seen_ex}
use Rattle.ess_semantics.specs.Domains.{Domain}
use Rattle.ess_semantics.specs.Tables.{Tables}
use Rattle.ess_semantics.specs.Cells.{Cells, behind, cells_at}
use Rattle.ess_semantics.specs.Layers.{Layer}
use Rattle.ess_semantics.specs.Representations.{layer, width, own_part, child_part, places, is_used}
use Rattle.ess_semantics.specs.CanonicalTest.{canonical}
use Rattle.ess_semantics.specs.Tidy.{tidy_cells}
use Rattle.ess_semantics.specs.Meaning.{Env, meanings, domain_of, tables_in, indices}
use Rattle.ess_semantics.specs.Meets.{MeetsDom}
use Rattle.ess_repr_laws.specs.Rooms.{Covered, AllCovered}
use Rattle.ess_views_laws.specs.ChildViews.{kept_as}
use Rattle.ess_views_kept_laws.specs.ChildrenKept.{ChildDenoted, ChildKnown}

-- The cells of each child pass a test at each place in use.
abbrev pub AtChildren : (Repr → Domain → Cells → Bool) → Layer → Cells → Reprs → List Domain → Cells → Type 0
AtChildren p l own (more_reprs r rs) (d ∷ ds) c =
    IsTrue (list_all (λ js. not (is_used l.in_use own js) || p r d (behind js (take (width r) c))) (places l))
    × AtChildren p l own rs ds (drop (width r) c)
AtChildren p l own rs ds c = Unit {0}

-- Whether the cells of a view are canonical.
abbrev pub canonical_in : Repr → Option Domain → Option Tables → Option (List ℤ) → Bool
canonical_in r (Some d) (Some ts) (Some i) = canonical r d (cells_at ts i)
canonical_in r d ts i = false

-- So they are.
abbrev pub IsCanonical : Ex → Env → Type 0
IsCanonical (seen_ex r d ns js) env = IsTrue (canonical_in r (domain_of d env) (tables_in env.cells ns) (indices (meanings js env)))
IsCanonical e env = Unit {0}

-- The kinds of a view are ones for its domain, and the tables meet the structures in the domain's own terms.
abbrev pub IsCovered : Ex → Env → Type 0
IsCovered (seen_ex r d ns js) env = ((x : Domain) → domain_of d env ≡ Some x → Covered r x) × MeetsDom d env
IsCovered e env = Unit {0}

-- So children are canonical, and tidy where their kinds are ones for their domains; and what is asked of the view of a child as which a
-- value is kept follows from canonical tables.
pub record CanonicalChildren : Type 0 where
  pub are_canonical : (k : ReprKind) (rs : Reprs) (d : Domain) (c : Cells) (l : Layer) → layer k d ≡ Some l →
      canonical (repr k rs) d c ≡ true → AtChildren canonical l (own_part k c) rs l.children (child_part k c)
  pub are_tidy : (k : ReprKind) (rs : Reprs) (d : Domain) (c : Cells) (l : Layer) → layer k d ≡ Some l →
      canonical (repr k rs) d c ≡ true → AllCovered rs l.children → AtChildren tidy_cells l (own_part k c) rs l.children (child_part k c)
  pub are_known : (e c : Ex) → kept_as e ≡ Some c → (env : Env) → ChildDenoted e c env → IsCovered c env → IsCanonical e env →
      ChildKnown e c env
