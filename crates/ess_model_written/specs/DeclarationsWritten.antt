-- What is written for a declared table: its name stays, and so does bool; of each bound of a domain of numbers there comes an expression
-- of a model, and the forms of the ranges stay.
use Rattle.std.specs.Prelude.{◌≡◌, ℕ, ◌⊎◌, Bool, true, false, List, [], ◌∷◌, Option, Some, None}
use Rattle.ess_semantics.specs.Values.{Text}
use Rattle.ess_semantics.specs.Trees.{Ex, Exs, no_exs, more_exs, Dom, bool_dom, int_dom}
use Rattle.ess_semantics.specs.DeclaredTables.{TableDecl}
use Rattle.ess_grammar.specs.Models.{Scope, with_given, with_find}
use Rattle.ess_grammar.specs.Readable.{fit_ranges}
use Rattle.conjure_laws.specs.SideBySide.{Along}
use Rattle.conjure_model_laws.specs.ToldApart.{told, told_apart}
use Rattle.ess_model_trees.specs.Written.{ComesFrom}

-- Earlier lines declare s; these names are taken; the bound names of a bound become reserved names from the k-th on.
module _ (s : Scope) (taken : List Text) (k : ℕ) where
  -- What comes of a bound.
  abbrev pub BoundComes : Ex → Option Ex → Type 0
  BoundComes old new = ComesFrom s taken (told old [] k).1 (told_apart k old) new

  -- Bounds are written for bounds.
  abbrev pub BoundsAreWritten : Exs → Exs → Type 0
  BoundsAreWritten no_exs no_exs = Unit {0}
  BoundsAreWritten (more_exs e es) (more_exs f fs) = BoundComes e (Some f) × BoundsAreWritten es fs
  BoundsAreWritten es fs = ⊥

  -- A domain of numbers or truth values is written for one.
  abbrev pub DomIsWritten : Dom → Dom → Type 0
  DomIsWritten bool_dom bool_dom = Unit {0}
  DomIsWritten (int_dom rs es) (int_dom ss fs) = (rs ≡ ss) × BoundsAreWritten es fs
  DomIsWritten d e = ⊥

  -- A declaration is written for a declared table.
  abbrev pub DeclIsWritten : TableDecl → TableDecl → Type 0
  DeclIsWritten t u = (t.name ≡ u.name) × Along t.axes u.axes DomIsWritten × DomIsWritten t.cell u.cell

  -- ---- where nothing is written

  -- For one of the bounds.
  abbrev pub OneBoundFails : Exs → Type 0
  OneBoundFails no_exs = ⊥
  OneBoundFails (more_exs e es) = BoundComes e None ⊎ OneBoundFails es

  -- For a domain: there aren't the bounds that the forms of its ranges ask for, or nothing is written for one of them. Domains of
  -- anything but numbers and truth values have none.
  abbrev pub DomFails : Dom → Type 0
  DomFails bool_dom = ⊥
  DomFails (int_dom rs es) = (fit_ranges rs es ≡ false) ⊎ OneBoundFails es
  DomFails d = Unit {0}

  -- For one of the domains.
  abbrev pub OneDomFails : List Dom → Type 0
  OneDomFails [] = ⊥
  OneDomFails (d ∷ ds) = DomFails d ⊎ OneDomFails ds

  -- For a declared table.
  abbrev pub DeclFails : TableDecl → Type 0
  DeclFails t = OneDomFails t.axes ⊎ DomFails t.cell

  -- ---- what comes

  -- Of a domain.
  abbrev pub DomComes : Dom → Option Dom → Type 0
  DomComes d (Some e) = DomIsWritten d e
  DomComes d None = DomFails d

  -- Of several.
  abbrev pub DomsCome : List Dom → Option (List Dom) → Type 0
  DomsCome ds (Some es) = Along ds es DomIsWritten
  DomsCome ds None = OneDomFails ds

  -- Of a declared table.
  abbrev pub DeclComes : TableDecl → Option TableDecl → Type 0
  DeclComes t (Some u) = DeclIsWritten t u
  DeclComes t None = DeclFails t

-- What is declared behind a find, or behind a given.
abbrev pub adding : Bool → Scope → TableDecl → Scope
adding true = with_find
adding false = with_given
