-- One turn of a reader's loop: a run goes on behind a token that the machine takes.
use Rattle.std.proofs.Common.{◌≡◌, sym, ap, ◌∙◌, Option, Some}
use Rattle.std.specs.declared.result.Result.{Result}
use Rattle.ess_rows.specs.declared.place.Place.{Place}
use Rattle.ess_semantics.specs.Values.{Text}
use Rattle.ess_grammar.specs.Words.{Token}
use Rattle.ess_grammar.specs.Tokens.{Lexed, next_token}
use Rattle.ess_parse.specs.declared.refusal.ReadNo.{ReadNo}
use Rattle.ess_parse.specs.Runs.{then_run, run_over}

pub turn : {S A : Type 0} (step : Token → S → Option S) (finish : S → Option A) (end : Place) (x : Result A ReadNo) (t : Token) (bytes : Text) (p : Place) (more l : Lexed) (s q : S) →
    x ≡ run_over step finish end l s → next_token t bytes p more ≡ l → step t s ≡ Some q → x ≡ run_over step finish end more q
turn step finish end x t bytes p more l s q h e k = h ∙ ap (λ m. run_over step finish end m s) (sym e) ∙ ap (then_run p (run_over step finish end more)) k
