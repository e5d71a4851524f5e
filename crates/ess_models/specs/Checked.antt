-- What a specification and its representations are, of which a model is written.
use Rattle.std.specs.Prelude.{◌≡◌, true, List, None}
use Rattle.ess_semantics.specs.Trees.{Stm}
use Rattle.ess_semantics.specs.Judgements.{fault}
use Rattle.ess_semantics.specs.Prepared.{prepared}
use Rattle.ess_semantics.specs.Plans.{Options, kept_names}
use Rattle.ess_core.specs.StatementViews.{pure_spec}
use Rattle.ess_types.specs.declared.checking.Typed.{Typed}
use Rattle.ess_translate_header_laws.specs.Headers.{are_reprs_of}

-- What `check` says of a specification that it takes: it is well typed, and stands beside its prepared statements.
pub record IsChecked (t : Typed) : Type 0 where
  pub typed : fault (pure_spec t.spec) ≡ None
  pub prepared : pure_spec t.prepared ≡ prepared (pure_spec t.spec)

-- The representations are of exactly the givens and finds with a domain, in order, and fit their domains.
abbrev pub Fit : List Stm → Options → Type 0
Fit S o = are_reprs_of (kept_names S) o ≡ true
