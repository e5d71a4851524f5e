-- What is written for declared tables, one after the other.
use Rattle.std.specs.Prelude.{◌≡◌, ℕ, List, [], ◌∷◌, ◌++◌, Option, Some, None}
use Rattle.ess_semantics.specs.Values.{Text}
use Rattle.ess_semantics.specs.DeclaredTables.{TableDecl}
use Rattle.ess_grammar.specs.Models.{Scope, scope_behind}
use Rattle.eprime_tree.specs.declared.models.PDecl.{PDecl}
use Rattle.eprime_tree.specs.Views.{pure_decls}
use Rattle.eprime_read_convert.specs.declared.lines.Line.{Line}
use Rattle.eprime_read_convert.specs.Lines.{scope_of}
use Rattle.ess_model_written.specs.DeclarationsWritten.{DeclIsWritten, DeclFails}

module _ (add : Scope → TableDecl → Scope) (taken : List Text) (k : ℕ) where
  -- Declarations are written for declared tables, where earlier lines declare s: each declares its name for those behind it.
  pub data DeclsAreWritten : Scope → List TableDecl → List TableDecl → Type 0 where
    none_written : {s : Scope} → DeclsAreWritten s [] []
    one_written : {s : Scope} {t u : TableDecl} {ts us : List TableDecl} → DeclIsWritten s taken k t u → DeclsAreWritten (add s u) ts us
        → DeclsAreWritten s (t ∷ ts) (u ∷ us)

  -- Nothing is written for one of them.
  pub record OneDeclFails (s : Scope) (ts : List TableDecl) : Type 0 where
    pub first : List TableDecl
    pub before : List TableDecl
    pub failing : TableDecl
    pub rest : List TableDecl
    pub all : ts ≡ first ++ failing ∷ rest
    pub written : DeclsAreWritten s first before
    pub fails : DeclFails (scope_behind add s before) taken k failing

  -- What comes of them: declarations with the lines behind theirs, or nothing.
  abbrev pub DeclsCome : Scope → List TableDecl → Option (List PDecl × List Line) → Type 0
  DeclsCome s ts (Some p) =
      DeclsAreWritten s ts (pure_decls add s p.0) × (scope_of p.1 ≡ scope_behind add s (pure_decls add s p.0))
  DeclsCome s ts None = OneDeclFails s ts
