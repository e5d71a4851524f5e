-- An expression or a domain that the rules derive is read as a whole.
use Rattle.std.proofs.Common.{Bool, List, Some, [], not, refl, ℕ, ◌≡◌}
use Rattle.ess_semantics.specs.Trees.{Dom, Ex}
use Rattle.ess_grammar.specs.Grammar.{Domain, Expression}
use Rattle.ess_grammar.specs.Patterns.{Shape}
use Rattle.ess_grammar.specs.Words.{Token}
use Rattle.ess_parse_laws.specs.Modes.{domain_answer, expression_answer}
use Rattle.ess_parse_laws.proofs.ExpressionEnds.{fits-else}
use Rattle.ess_parse_laws.proofs.Booleans.{or-true, zero-le}
use Rattle.ess_parse_laws.specs.Machine.{read_domain, read_expression}
use Rattle.ess_parse_laws.proofs.DerivedRuns.{expression-run, domain-run}

-- An expression that the rules derive is read.
pub complete : {w : Bool} {s : Shape} {l : ℕ} {e : Ex} {ts : List Token} → Expression w s l e ts [] → read_expression ts ≡ Some (expression_answer e)
complete {w = w} {s = s} d = expression-run d [] zero-le tt (fits-else [] (λ x. refl) s) (or-true (not w))

-- A domain that the rules derive is read.
pub complete-domain : {d : Dom} {ts : List Token} → Domain d ts [] → read_domain ts ≡ Some (domain_answer d)
complete-domain k = domain-run k [] tt
