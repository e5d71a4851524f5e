-- The declarations of a model, side by side.
use Rattle.std.proofs.Common.{◌≡◌, ap, ◌∙◌, subst, List, []}
use Rattle.ess_semantics.specs.Values.{Text}
use Rattle.ess_semantics.specs.Plans.{givens_side, finds_side, Plan}
use Rattle.ess_grammar.specs.Models.{empty_scope, with_given, with_find, scope_behind}
use Rattle.eprime_tree.specs.declared.models.PDecl.{PDecl}
use Rattle.eprime_tree.specs.Views.{pure_decls}
use Rattle.eprime_read_convert.specs.Lines.{scope_of}
use Rattle.eprime_read_convert.specs.declared.lines.Line.{Line}
use Rattle.conjure_model_laws.specs.Shown.{Shows}
use Rattle.ess_model_written.specs.Coming.{DeclsAreWritten, OneDeclFails}
use Rattle.ess_models.specs.declared.declared.Declarations.{Declarations}
use Rattle.ess_models.specs.Parts.{tables_on, FindsLack}
use Rattle.ess_models.specs.Coming.{given_tables, GivensKnown, AreKnown}

module _ (taken : List Text) (sh : Shows) (Ps : List Plan) where
  -- The givens, where no line stood before.
  pub givens_known : (before ls : List Line) (gs : List PDecl) → before ≡ []
      → DeclsAreWritten with_given taken sh.next (scope_of before) (tables_on taken sh Ps givens_side) (pure_decls with_given (scope_of before) gs)
      → scope_of ls ≡ scope_behind with_given (scope_of before) (pure_decls with_given (scope_of before) gs)
      → GivensKnown taken sh Ps gs ls
  givens_known before ls gs e h k = record {
    written = subst (λ b. DeclsAreWritten with_given taken sh.next (scope_of b) (tables_on taken sh Ps givens_side)
        (pure_decls with_given (scope_of b) gs)) e h;
    known = k ∙ ap (λ b. scope_behind with_given (scope_of b) (pure_decls with_given (scope_of b) gs)) e;
  }

  -- The finds behind them.
  pub finds_known : (d : Declarations) (before : List Line) → GivensKnown taken sh Ps d.givens before
      → DeclsAreWritten with_find taken sh.next (scope_of before) (tables_on taken sh Ps finds_side)
      (pure_decls with_find (scope_of before) d.finds)
      → scope_of d.lines ≡ scope_behind with_find (scope_of before) (pure_decls with_find (scope_of before) d.finds)
      → AreKnown taken sh Ps d
  finds_known d before g h k = record {
    written = record {
      givens = g.written;
      finds = subst (λ s. DeclsAreWritten with_find taken sh.next s (tables_on taken sh Ps finds_side) (pure_decls with_find s d.finds))
          g.known h;
    };
    known = k ∙ ap (λ s. scope_behind with_find s (pure_decls with_find s d.finds)) g.known;
  }

  -- One of the finds can't be declared.
  pub finds_lack : (gs : List PDecl) (before : List Line) → GivensKnown taken sh Ps gs before
      → OneDeclFails with_find taken sh.next (scope_of before) (tables_on taken sh Ps finds_side) → FindsLack taken sh Ps
  finds_lack gs before g h = record {
    givens = given_tables gs;
    declared = g.written;
    lacks = subst (λ s. OneDeclFails with_find taken sh.next s (tables_on taken sh Ps finds_side)) g.known h;
  }

  -- One of the givens can't.
  pub givens_lack : (before : List Line) → before ≡ []
      → OneDeclFails with_given taken sh.next (scope_of before) (tables_on taken sh Ps givens_side)
      → OneDeclFails with_given taken sh.next empty_scope (tables_on taken sh Ps givens_side)
  givens_lack before e h = subst (λ b. OneDeclFails with_given taken sh.next (scope_of b) (tables_on taken sh Ps givens_side)) e h
