-- Where the machine stops, nothing goes on that the rules derive.
use Rattle.std.proofs.Common.{◌++◌, Bool, List, None, Option, Some, [], refl, ℕ, ◌∷◌, ◌≡◌}
use Rattle.ess_semantics.specs.Trees.{Dom, Ex, Stm}
use Rattle.ess_grammar.specs.Grammar.{Domain, Expression}
use Rattle.ess_grammar.specs.Statements.{IsSpecification}
use Rattle.ess_grammar.specs.Patterns.{Shape}
use Rattle.ess_grammar.specs.Words.{Token}
use Rattle.ess_parse_laws.specs.Frames.{Frame}
use Rattle.ess_parse_laws.specs.Modes.{Mode, State, domain_wanted, nothing_read, operand_wanted}
use Rattle.ess_parse_laws.proofs.Complete.{complete, complete-domain}
use Rattle.ess_parse_laws.proofs.CompleteStatements.{complete-specification}
use Rattle.ess_parse_laws.specs.Machine.{run, state_after, step, then_run, then_state_after}

stopped-at : (ts us : List Token) (r : Option State) → ((m : Mode) (fs : List Frame) → state_after ts m fs ≡ None → run (ts ++ us) m fs ≡ None) → then_state_after r (state_after ts) ≡ None → then_run r (run (ts ++ us)) ≡ None
stopped-at ts us None k h = refl
stopped-at ts us (Some r) k h = k r.mode r.frames h

stopped : (ts us : List Token) (m : Mode) (fs : List Frame) → state_after ts m fs ≡ None → run (ts ++ us) m fs ≡ None
stopped [] us m fs h = cc
stopped (t ∷ ts) us m fs h = stopped-at ts us (step t m fs) (λ n gs k. stopped ts us n gs k) h

-- No expression begins with tokens at which the machine has stopped.
pub no-expression : (ts us : List Token) → state_after ts operand_wanted [] ≡ None → {w : Bool} {s : Shape} {l : ℕ} {e : Ex} → Expression w s l e (ts ++ us) [] → ⊥
no-expression ts us h d = let k = stopped ts us operand_wanted [] h in let c = complete d in cc

-- No domain begins with them.
pub no-domain : (ts us : List Token) → state_after ts domain_wanted [] ≡ None → {d : Dom} → Domain d (ts ++ us) [] → ⊥
no-domain ts us h d = let k = stopped ts us domain_wanted [] h in let c = complete-domain d in cc

-- No specification begins with them.
pub no-specification : (ts us : List Token) → state_after ts nothing_read [] ≡ None → {ss : List Stm} → IsSpecification ss (ts ++ us) → ⊥
no-specification ts us h d = let k = stopped ts us nothing_read [] h in let c = complete-specification d in cc
