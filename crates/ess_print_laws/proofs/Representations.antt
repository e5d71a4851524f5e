-- The printed tokens of a representation are derived by the rules for exactly that representation.
use Rattle.std.proofs.Common.{List, ◌∷◌}
use Rattle.ess_semantics.specs.declared.words.ReprKind.{ReprKind}
use Rattle.ess_semantics.specs.Trees.{Repr, Reprs, repr, no_reprs, more_reprs}
use Rattle.ess_grammar.specs.Words.{close_square}
use Rattle.ess_grammar.specs.Representations.{Representation, Representations, childless, with_children, last_representation, next_representation}
use Rattle.ess_print_laws.specs.Pieces.{Piece, sign, tokens_of}
use Rattle.ess_print_laws.specs.Parts.{comma_space, commas}
use Rattle.ess_print_laws.specs.Statements.{repr_pieces, children}
use Rattle.ess_print_laws.proofs.NamesBack.{kind-back}

-- It is derived, whatever follows.
abbrev pub Derived : Repr → Type 0
Derived r = (us : List Piece) → Representation r (tokens_of (repr_pieces r us)) (tokens_of us)

-- Each of them is.
abbrev Each : Reprs → Type 0
Each no_reprs = Unit {0}
Each (more_reprs r rs) = Derived r × Each rs

list-derived : (r : Repr) (rs : Reprs) → Derived r → Each rs → (us : List Piece) →
    Representations (more_reprs r rs) (tokens_of (commas (children (more_reprs r rs)) us)) (tokens_of us)
list-derived r no_reprs d ds us = last_representation (d us)
list-derived r (more_reprs q rs) d ds us = next_representation (d (comma_space (commas (children (more_reprs q rs)) us))) (list-derived q rs ds.0 ds.1 us)

node-derived : (k : ReprKind) (rs : Reprs) → Each rs → Derived (repr k rs)
node-derived k no_reprs ds us = childless (kind-back k)
node-derived k (more_reprs r rs) ds us = with_children (kind-back k) (list-derived r rs ds.0 ds.1 (sign close_square ∷ us))

mutual
  pub repr-derived : (r : Repr) → Derived r
  repr-derived (repr k rs) = node-derived k rs (each-derived rs)

  each-derived : (rs : Reprs) → Each rs
  each-derived no_reprs = tt
  each-derived (more_reprs r rs) = (repr-derived r, each-derived rs)
