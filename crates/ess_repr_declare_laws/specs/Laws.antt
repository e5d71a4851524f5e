-- Laws of sizes as terms and of children, each stated at a function that does nothing.
use Rattle.std.specs.Prelude.{◌≡◌, Bool, true, false, List, [], ◌∷◌, map, pos, Some}
use Rattle.std.specs.List.{list_all}
use Rattle.ess_semantics.specs.declared.words.Key.{Key}
use Rattle.ess_semantics.specs.Values.{Text}
use Rattle.ess_semantics.specs.declared.words.ReprKind.{ReprKind}
use Rattle.ess_semantics.specs.Trees.{Mark, flag, valued, Repr, Ex, Exs, no_exs, more_exs, Dom, Doms, no_doms, more_doms, tuple_dom, record_dom, matrix_dom, set_dom, mset_dom, function_dom, relation_dom, partition_dom}
use Rattle.ess_semantics.specs.Domains.{Domain}
use Rattle.ess_semantics.specs.Membership.{no_negative_attribute}
use Rattle.ess_semantics.specs.Sizes.{bound}
use Rattle.ess_semantics.specs.Kinds.{has_key, are_atoms, child_forms, fits}
use Rattle.ess_semantics.specs.DomainJudgements.{is_enumerable}
use Rattle.ess_semantics.specs.TableNames.{table_names, named_tables}
use Rattle.ess_semantics.specs.DeclaredTables.{decl_name}
use Rattle.ess_semantics.specs.Meaning.{Env, meaning, as_int, domain_of}
use Rattle.ess_semantics.specs.Children.{ChildrenAre}
use Rattle.ess_repr_laws.specs.WellFormed.{is_right, Well, AllWell}
use Rattle.ess_repr_declare_laws.specs.SizeTerms.{bound_ex}
use Rattle.ess_repr_declare_laws.specs.ChildDomains.{child_doms}
use Rattle.ess_repr_declare_laws.specs.DeclaredTrees.{declared_trees}

-- Whether there is a number for each mark that has one, and no other.
abbrev pub are_numbered : List Mark → Exs → Bool
are_numbered [] no_exs = true
are_numbered [] (more_exs e es) = false
are_numbered (flag k ∷ ms) es = are_numbered ms es
are_numbered (valued k ∷ ms) no_exs = false
are_numbered (valued k ∷ ms) (more_exs e es) = are_numbered ms es

-- Whether the attributes of a domain have their numbers, as in each tree.
abbrev pub has_numbers : Dom → Bool
has_numbers (set_dom ms es d) = are_numbered ms es
has_numbers (mset_dom ms es d) = are_numbered ms es
has_numbers (function_dom ms es d c) = are_numbered ms es
has_numbers (relation_dom ms es ds) = are_numbered ms es
has_numbers (partition_dom ms es d) = are_numbered ms es
has_numbers d = true

abbrev mutual
  -- The domain is well formed, and so that each attribute has its number, at each depth.
  pub Sound : Dom → Type 0
  Sound (tuple_dom ds) = AllSound ds
  Sound (record_dom fs ds) = AllSound ds
  Sound (matrix_dom is d) = (are_atoms is ≡ true) × AllWell is × Sound d
  Sound (set_dom ms es d) = (list_all is_right ms ≡ true) × (are_numbered ms es ≡ true) × Sound d
  Sound (mset_dom ms es d) = (list_all is_right ms ≡ true) × (are_numbered ms es ≡ true) × Sound d
  Sound (function_dom ms es d c) =
      (list_all is_right ms ≡ true) × (are_numbered ms es ≡ true) × (has_key Key.Total ms ≡ true → is_enumerable d ≡ true) × Sound d × Sound c
  Sound (relation_dom ms es ds) = (list_all is_right ms ≡ true) × (are_numbered ms es ≡ true) × AllSound ds
  Sound (partition_dom ms es d) = (list_all is_right ms ≡ true) × (are_numbered ms es ≡ true) × Sound d
  Sound d = Unit {0}

  -- The same of several domains.
  pub AllSound : Doms → Type 0
  AllSound no_doms = Unit {0}
  AllSound (more_doms d ds) = Sound d × AllSound ds

-- The bound of a domain as a term reads the bound of the domain that it denotes, under each env, where no attribute value is below 0.
abbrev pub BoundsAreRead : Type 0
BoundsAreRead = (env : Env) (d : Dom) (e : Domain) → domain_of d env ≡ Some e → no_negative_attribute e ≡ true →
    as_int (meaning (bound_ex d) env) ≡ Some (pos (bound e))

-- The children of a kind over a well-formed domain for which it is one are the right ones.
abbrev pub ChildrenAreRight : Type 0
ChildrenAreRight = (k : ReprKind) (d : Dom) (ds : List Dom) → Well d → has_numbers d ≡ true → child_forms k d ≡ Some ds → ChildrenAre k d (child_doms k d)

-- The declared tables of a representation that fits have its names, in order, each with as many axes as its table has.
abbrev pub DeclaredNamesAreRight : Type 0
DeclaredNamesAreRight = (r : Repr) (d : Dom) (x : Text) (taken : List Text) → Sound d → fits r d ≡ true →
    map decl_name (declared_trees r d x taken) ≡ named_tables x (table_names r d) taken
