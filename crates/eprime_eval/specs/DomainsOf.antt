-- What a declared domain denotes under declarations of givens, whatever scope it was read in.
use Rattle.std.specs.Prelude.{◌≡◌, Bool, true, List, Option, Some, ℤ}
use Rattle.ess_semantics.specs.DeclaredTables.{TableDecl}
use Rattle.ess_semantics.specs.Domains.{Span, Domain}
use Rattle.ess_semantics.specs.Tables.{is_cell}
use Rattle.ess_semantics.specs.ModelMeaning.{model_domain}
use Rattle.ess_semantics.specs.LargeModels.{dom_is_large}
use Rattle.ess_semantics.specs.Satisfaction.{axis_of, AreRuns}
use Rattle.ess_grammar.specs.Models.{Scope, empty_scope, with_given}
use Rattle.ess_core.specs.declared.tables.Cells.{Cells}
use Rattle.ess_core.specs.TableViews.{pure_cells}
use Rattle.eprime_tree.specs.declared.models.PDecl.{PDecl}
use Rattle.eprime_tree.specs.declared.expressions.PDom.{PDom}
use Rattle.eprime_tree.specs.Views.{pure_decls, pure_dom}

-- The declared tables of givens.
abbrev pub given_decls : List PDecl → List TableDecl
given_decls ds = pure_decls with_given empty_scope ds

-- The domain denotes this one, or nothing.
abbrev pub Denotes : List PDecl → Cells → PDom → Option Domain → Type 0
Denotes ks q d o = (s : Scope) → model_domain (given_decls ks) (pure_cells q) (pure_dom s d) ≡ o

-- The axis has these members, or none that can be listed.
abbrev pub HasMembers : List PDecl → Cells → PDom → Option (List ℤ) → Type 0
HasMembers ks q d o = (s : Scope) → axis_of (given_decls ks) (pure_cells q) (pure_dom s d) ≡ o

-- A bound of the domain lies outside 64 bits, or a number on the way to it.
abbrev pub HasLargeBound : List PDecl → Cells → PDom → Type 0
HasLargeBound ks q d = (s : Scope) → dom_is_large (given_decls ks) (pure_cells q) (pure_dom s d) ≡ true

-- Whether the number is a member of the domain, which has a meaning.
pub record IsItem (ks : List PDecl) (q : Cells) (d : PDom) (n : ℤ) (b : Bool) : Type 0 where
  pub domain : Domain
  pub denoted : Denotes ks q d (Some domain)
  pub is_member : is_cell domain n ≡ b

-- The maximal runs of the members of the domain, which has a meaning.
pub record AreRunsOf (ks : List PDecl) (q : Cells) (d : PDom) (rs : List Span) : Type 0 where
  pub domain : Domain
  pub denoted : Denotes ks q d (Some domain)
  pub are_runs : AreRuns rs domain
