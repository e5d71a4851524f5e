-- The laws of specifications of sets of atoms over tables, stated at a function that does nothing.
use Rattle.std.specs.Prelude.{◌≡◌, true, List, [], ◌∷◌, filter, codes}
use Rattle.ess_semantics.specs.Values.{Text}
use Rattle.ess_semantics.specs.Trees.{truth_ex, such_that, find}
use Rattle.ess_semantics.specs.Contexts.{Each}
use Rattle.ess_semantics.specs.Judgements.{is_well_typed}
use Rattle.ess_semantics.specs.Plans.{finds_side, value_names, is_plan_of}
use Rattle.conjure_laws.specs.Members.{In}
use Rattle.conjure_laws.specs.SetsOfAtoms.{Atom, Lit, Line, sets_of, membership, spec}
use Rattle.conjure_laws.specs.ModelsOfSets.{no_options, table_of}
use Rattle.conjure_model_laws.specs.Shown.{shows_of}
use Rattle.conjure_model_laws.specs.IsBuiltFrom.{constraint_tree, structure_tree, channel_trees, declared_of, taken_names}
use Rattle.conjure_model_laws.specs.Printed.{printed_name}
use Rattle.ess_member_models_laws.specs.ess_member_trees_laws.Memberships.{Literal, Axis, asked}
use Rattle.ess_member_models_laws.specs.MemberModels.{shown_literal, places, planned, axis_at, table_decl}

-- The tree of a constraint that a literal is in a find: a membership in a set over an axis.
pub record IsShown (T : List Line) (l : Lit) (x : Text) : Type 0 where
  pub atom : Atom
  pub found : In (find x (sets_of atom)) (spec T)
  pub axis : Axis (axis_at T atom)
  pub literal : Literal (shown_literal (places T) l)
  pub tree : constraint_tree (shows_of (spec T) no_options) (membership l x)
      ≡ asked (table_of (planned T) x) (axis_at T atom) (shown_literal (places T) l)

-- Of a well typed specification of sets of atoms: the trees of its constraints; what is declared of each plan; that nothing is asked of the
-- finds' tables, and that no find has a further view; and the first printed name, which no table has.
pub record MembershipsAreShown : Type 0 where
  pub trees : (T : List Line) → is_well_typed (spec T) ≡ true → (l : Lit) (x : Text) → In (such_that (membership l x)) (spec T) →
      IsShown T l x
  pub declared : (T : List Line) → is_well_typed (spec T) ≡ true →
      Each (planned T) (λ P. declared_of (shows_of (spec T) no_options) P ≡ table_decl T P ∷ [])
  pub structures : (T : List Line) → is_well_typed (spec T) ≡ true →
      Each (planned T) (λ P. structure_tree (shows_of (spec T) no_options) P ≡ truth_ex true)
  pub channels : (T : List Line) → is_well_typed (spec T) ≡ true → (x : Text) → In x (value_names finds_side (spec T)) →
      channel_trees (shows_of (spec T) no_options) (filter (is_plan_of x) (planned T)) ≡ []
  pub first_name : (T : List Line) → is_well_typed (spec T) ≡ true → printed_name (taken_names (spec T) no_options) 0 ≡ codes "q1"
