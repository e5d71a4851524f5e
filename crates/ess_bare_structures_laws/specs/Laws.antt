-- The law of structures of nested sets, stated at a function that does nothing.
use Rattle.std.specs.Prelude.{◌≡◌, ℕ, ◌+◌, ◌≤◌, ◌^◌, Bool, true, false, List, [], map, length, ℤ, pos, Option, Some}
use Rattle.std.specs.List.{list_all}
use Rattle.ess_semantics.specs.Values.{Text, truth}
use Rattle.ess_semantics.specs.Trees.{Repr, Ex, no_exs, Dom}
use Rattle.ess_semantics.specs.Domains.{Domain}
use Rattle.ess_semantics.specs.DeclaredTables.{TableDecl}
use Rattle.ess_semantics.specs.Tables.{Tables}
use Rattle.ess_semantics.specs.Cells.{cells_of}
use Rattle.ess_semantics.specs.Kinds.{fits}
use Rattle.ess_semantics.specs.Representations.{width}
use Rattle.ess_semantics.specs.Declarations.{declarations, axes_of}
use Rattle.ess_semantics.specs.CanonicalTest.{canonical}
use Rattle.ess_semantics.specs.Tidy.{over_axes}
use Rattle.ess_semantics.specs.Contexts.{Each}
use Rattle.ess_semantics.specs.Meaning.{Env, meaning, domain_of, tables_in, is_bool_dom}
use Rattle.ess_semantics.specs.Scoped.{Scoped}
use Rattle.ess_semantics.specs.Lists.{append_all}
use Rattle.ess_semantics.specs.Occurrences.{parts_of}
use Rattle.ess_semantics.specs.Constants.{numbers_of_part, dom_constants}
use Rattle.ess_repr_laws.specs.CanonicalTables.{TablesFit}
use Rattle.ess_repr_laws.specs.Structure.{structure}
use Rattle.ess_repr_declare_laws.specs.SizeTerms.{size_terms}
use Rattle.ess_repr_declare_laws.specs.DeclaredTrees.{trees_below}
use Rattle.ess_values_along_laws.specs.Valued.{Valued}
use Rattle.conjure_model_laws.specs.ToldApart.{reserved, told, told_apart}
use Rattle.conjure_model_laws.specs.Printed.{binders}
use Rattle.conjure_model_laws.specs.IsBuiltFrom.{with_whole_names}
use Rattle.ess_bare_laws.specs.Bare.{Bare}
use Rattle.ess_nested_laws.specs.NestedDomains.{is_nested_dom}

-- The constraint that tables with these names are canonical for a domain and a representation. Names that it binds are reserved ones from
-- the n-th on, which siblings share.
abbrev pub structure_from : Repr → Dom → List Text → ℕ → Ex
structure_from r d ns n = structure reserved size_terms r d ns n no_exs

-- The same with its bound names told apart.
abbrev pub told_structure : Repr → Dom → List Text → ℕ → Ex
told_structure r d ns n = told_apart n (structure_from r d ns n)

-- The table holds truth values where its cells are bool, and has as many axes as are declared.
abbrev pub IsMarked : (Text → Option (Bool × ℕ)) → TableDecl → Type 0
IsMarked cells t = cells t.name ≡ Some (is_bool_dom t.cell, length t.axes)

-- So are the tables of a representation, by these names.
abbrev pub AreMarked : (Text → Option (Bool × ℕ)) → Repr → Dom → List Text → Type 0
AreMarked cells r d ns = Each (with_whole_names ns (trees_below false r d)) (IsMarked cells)

-- The tables of these names are on the axes that are declared for the domain, and their items lie in the declared domains.
pub record TablesFound (env : Env) (r : Repr) (d : Dom) (ns : List Text) (e : Domain) (ts : Tables) : Type 0 where
  pub denotes : domain_of d env ≡ Some e
  pub named : tables_in env.cells ns ≡ Some ts
  pub over : over_axes [] (axes_of r e) ts ≡ true
  pub fit : TablesFit (declarations r e) ts

-- The domain is one of nested sets, the representation fits it, there is a name for each table, names are left
-- above the n-th, and the tables have the marks and numbers of axes that are declared.
pub record IsNestedView (cells : Text → Option (Bool × ℕ)) (r : Repr) (d : Dom) (ns : List Text) (n : ℕ) : Type 0 where
  pub nested : is_nested_dom d ≡ true
  pub fit : fits r d ≡ true
  pub named : length ns ≡ width r
  pub low : n ≤ 2 ^ 62
  pub marked : AreMarked cells r d ns

-- No name.
abbrev pub none : Text → Bool
none a = false

-- The structure, told apart, is bare over its tables, and no bound name hides another one. It binds few names, and takes few reserved
-- ones. It spells no numbers but those of its domain, 0, 1 and 2. Over tables that fit it means that these are canonical, and each part of
-- it has a value wherever its context holds.
pub record StructureIsBare (cells : Text → Option (Bool × ℕ)) (r : Repr) (d : Dom) (ns : List Text) (n : ℕ) : Type 0 where
  pub bare : Bare cells [] (told_structure r d ns n) true
  pub scoped : Scoped none none none (told_structure r d ns n)
  pub few : binders (told_structure r d ns n) ≤ 2 ^ 27
  pub next : (told (structure_from r d ns n) [] n).1 ≤ n + 2 ^ 27
  pub spells : (p : ℤ → Bool) → p (pos 0) ≡ true → p (pos 1) ≡ true → p (pos 2) ≡ true → list_all p (dom_constants d) ≡ true →
      list_all p (append_all (map numbers_of_part (parts_of (told_structure r d ns n)))) ≡ true
  pub means : (env : Env) (e : Domain) (ts : Tables) → TablesFound env r d ns e ts →
      meaning (told_structure r d ns n) env ≡ Some (truth (canonical r e (cells_of ts)))
  pub valued : (env : Env) (e : Domain) (ts : Tables) → TablesFound env r d ns e ts → Valued false (told_structure r d ns n) env

-- The structure of each view of nested sets is so.
abbrev pub NestedStructuresAreBare : Type 0
NestedStructuresAreBare =
    (cells : Text → Option (Bool × ℕ)) (r : Repr) (d : Dom) (ns : List Text) (n : ℕ) → IsNestedView cells r d ns n →
    StructureIsBare cells r d ns n
