-- Each list of tokens is at most one expression, one domain and one specification.
use Rattle.std.proofs.Common.{Bool, List, Some, [], sym, ℕ, ◌∙◌, ◌≡◌}
use Rattle.ess_semantics.specs.Trees.{Dom, Ex, Stm}
use Rattle.ess_grammar.specs.Grammar.{Domain, Expression}
use Rattle.ess_grammar.specs.Statements.{IsSpecification}
use Rattle.ess_grammar.specs.Patterns.{Shape}
use Rattle.ess_grammar.specs.Words.{Token}
use Rattle.ess_parse_laws.proofs.Complete.{complete, complete-domain}
use Rattle.ess_parse_laws.proofs.CompleteStatements.{complete-specification}
use Rattle.ess_parse_laws.specs.Modes.{domain_answer, expression_answer, specification_answer}

-- Each list of tokens is at most one expression.
pub one_reading : {v w : Bool} {s z : Shape} {l m : ℕ} {e f : Ex} {ts : List Token} → Expression v s l e ts [] → Expression w z m f ts [] → e ≡ f
one_reading {e = e} {f = f} d g = let h : Some (expression_answer e) ≡ Some (expression_answer f) = sym (complete d) ∙ complete g in cc

-- Each list of tokens is at most one domain.
pub one-domain : {c d : Dom} {ts : List Token} → Domain c ts [] → Domain d ts [] → c ≡ d
one-domain {c = c} {d = d} k g = let h : Some (domain_answer c) ≡ Some (domain_answer d) = sym (complete-domain k) ∙ complete-domain g in cc

-- Each list of tokens is at most one specification.
pub one_specification : {rs ss : List Stm} {ts : List Token} → IsSpecification rs ts → IsSpecification ss ts → rs ≡ ss
one_specification {rs = rs} {ss = ss} d g = let h : Some (specification_answer rs) ≡ Some (specification_answer ss) = sym (complete-specification d) ∙ complete-specification g in cc
