-- Declared tables as trees: a name, domains for the axes, and the domain of the cells, whose bounds are expressions. They
-- are right where they have the right names, and under each parameter axes and cell domains with the right members.
use Rattle.std.specs.Prelude.{◌≡◌, List, [], ◌∷◌, map, length, ℤ, Option, Some, None, option_map, IsTrue}
use Rattle.ess_semantics.specs.Lists.{and_then, each_of}
use Rattle.ess_semantics.specs.Values.{Text}
use Rattle.ess_semantics.specs.Trees.{Repr, Dom}
use Rattle.ess_semantics.specs.Domains.{Domain, members}
use Rattle.ess_semantics.specs.Membership.{no_negative_attribute}
use Rattle.ess_semantics.specs.Tables.{code, is_cell}
use Rattle.ess_semantics.specs.Declarations.{Declaration, declarations}
use Rattle.ess_semantics.specs.TableNames.{Named, table_names, named_tables}
use Rattle.ess_semantics.specs.Meaning.{Env, domain_of}

-- A declared table: its axes and the domain of its cells.
pub record TableDecl : Type 0 where
  pub name : Text
  pub axes : List Dom
  pub cell : Dom

-- A declared name with its number of axes.
abbrev pub decl_name : TableDecl → Named
decl_name d = (d.name, length d.axes)

-- The members of an axis as numbers, rising.
abbrev pub axis_members : Option Domain → Option (List ℤ)
axis_members o = option_map (map code) (and_then o members)

-- The cell's domain has the same members.
abbrev pub SameMembers : Option Domain → Domain → Type 0
SameMembers None e = ⊥
SameMembers (Some d) e = (n : ℤ) → is_cell d n ≡ is_cell e n

-- Each declared table has these axes, and a cell domain with these members, where f gives the domains that domain
-- expressions denote.
abbrev pub DeclaredAs : (Dom → Option Domain) → List TableDecl → List Declaration → Type 0
DeclaredAs f [] [] = Unit {0}
DeclaredAs f (t ∷ ts) (d ∷ ds) = (each_of t.axes (λ a. axis_members (f a)) ≡ Some d.axes) × SameMembers (f t.cell) d.cell × DeclaredAs f ts ds
DeclaredAs f _ _ = ⊥

-- The trees declare the tables of a representation of the domain for the name x, behind names that are taken. Members are
-- asked of where no attribute value is below 0, as in every parameter.
pub record Declares (r : Repr) (d : Dom) (x : Text) (taken : List Text) (ts : List TableDecl) : Type 0 where
  pub names : map decl_name ts ≡ named_tables x (table_names r d) taken
  pub members : (env : Env) (e : Domain) → domain_of d env ≡ Some e → IsTrue (no_negative_attribute e) → DeclaredAs (λ a. domain_of a env) ts (declarations r e)
