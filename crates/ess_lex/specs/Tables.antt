-- The tables of words and symbols that the code searches.
use Rattle.std.specs.Prelude.{ℕ, List, map, filter, nat_eq, length}
use denote.Bor.{Bor}
use Rattle.ess_grammar.specs.Words.{Text}
use Rattle.ess_grammar.specs.declared.kind.Kind.{Kind}
use Rattle.ess_grammar.specs.Words.{Token}
use Rattle.ess_grammar.specs.Kinds.{token}

-- a table of the code as one of the definitions
abbrev pub shown_table : List (Bor Text × Kind) → List (Text × Token)
shown_table entries = map (λ e. (e.0.now, token e.1 e.0.now)) entries

-- the entries whose text has n bytes
abbrev pub of_length : ℕ → List (Text × Token) → List (Text × Token)
of_length n entries = filter (λ e. nat_eq n (length e.0)) entries
