-- The printed tokens of a pattern are derived as a pattern: as an expression that is written as one.
use Rattle.std.proofs.Common.{◌≡◌, refl, ap, true, List, ◌∷◌}
use Rattle.ess_semantics.specs.Trees.{tuple_literal, Pat, Pats, name_pat, tuple_pat, no_pats, more_pats, Ex, Exs, name_ex, no_exs, more_exs, plain_node}
use Rattle.ess_grammar.specs.Words.{close_round}
use Rattle.ess_grammar.specs.Patterns.{as_pattern, as_patterns}
use Rattle.ess_grammar.specs.Grammar.{Atom, Expressions, pair_atom, name_atom, atom_expression, last_expression, next_expression}
use Rattle.ess_grammar.specs.Readable.{ReadablePat, ReadablePats, several_pats}
use Rattle.ess_print_laws.specs.Pieces.{Piece, sign, tokens_of}
use Rattle.ess_print_laws.specs.Parts.{comma_space, commas, pat_pieces, pat_printers}

abbrev mutual
  -- The expression that is written as the pattern.
  pub pattern_ex : Pat → Ex
  pattern_ex (name_pat a) = name_ex a
  pattern_ex (tuple_pat ps) = plain_node tuple_literal (pattern_exs ps)

  pub pattern_exs : Pats → Exs
  pattern_exs no_pats = no_exs
  pattern_exs (more_pats p ps) = more_exs (pattern_ex p) (pattern_exs ps)

mutual
  -- It is written as that pattern.
  pub pattern-itself : (p : Pat) → as_pattern (pattern_ex p) ≡ p
  pattern-itself (name_pat a) = refl
  pattern-itself (tuple_pat ps) = ap tuple_pat (patterns-themselves ps)

  patterns-themselves : (ps : Pats) → as_patterns (pattern_exs ps) ≡ ps
  patterns-themselves no_pats = refl
  patterns-themselves (more_pats p ps) = (λ i. more_pats (pattern-itself p i) (patterns-themselves ps i))

-- It is derived as a pattern, whatever follows.
abbrev pub PatDerived : Pat → Type 0
PatDerived p = (us : List Piece) → Atom true (pattern_ex p) (tokens_of (pat_pieces p us)) (tokens_of us)

abbrev EachPat : Pats → Type 0
EachPat no_pats = Unit {0}
EachPat (more_pats p ps) = PatDerived p × EachPat ps

list-derived : (p : Pat) (ps : Pats) → PatDerived p → EachPat ps → (us : List Piece) →
    Expressions true (pattern_exs (more_pats p ps)) (tokens_of (commas (pat_printers (more_pats p ps)) us)) (tokens_of us)
list-derived p no_pats d ds us = last_expression (atom_expression (d us))
list-derived p (more_pats q ps) d ds us = next_expression (atom_expression (d (comma_space (commas (pat_printers (more_pats q ps)) us)))) (list-derived q ps ds.0 ds.1 us)

tuple-derived : (ps : Pats) → several_pats ps ≡ true → EachPat ps → PatDerived (tuple_pat ps)
tuple-derived no_pats h ds us = cc
tuple-derived (more_pats p no_pats) h ds us = cc
tuple-derived (more_pats p (more_pats q ps)) h ds us =
    pair_atom (atom_expression (ds.0 (comma_space (commas (pat_printers (more_pats q ps)) (sign close_round ∷ us))))) (list-derived q ps ds.1.0 ds.1.1 (sign close_round ∷ us))

mutual
  pub pat-derived : (p : Pat) → ReadablePat p → PatDerived p
  pat-derived (name_pat a) h = λ us. name_atom
  pat-derived (tuple_pat ps) h = tuple-derived ps h.0 (each-derived ps h.1)

  each-derived : (ps : Pats) → ReadablePats ps → EachPat ps
  each-derived no_pats h = tt
  each-derived (more_pats p ps) h = (pat-derived p h.0, each-derived ps h.1)
