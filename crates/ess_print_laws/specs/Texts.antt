-- The printed text of a tree.
use Rattle.std.specs.Prelude.{[]}
use Rattle.ess_semantics.specs.Values.{Text}
use Rattle.ess_semantics.specs.Trees.{Repr, Ex, Dom, Stm}
use Rattle.ess_print_laws.specs.Pieces.{text_of}
use Rattle.ess_print_laws.specs.Expressions.{ex_pieces, dom_pieces}
use Rattle.ess_print_laws.specs.Statements.{stm_pieces, repr_pieces}

-- Of an expression.
abbrev pub ex_text : Ex → Text
ex_text e = text_of (ex_pieces e [])

-- Of a domain.
abbrev pub dom_text : Dom → Text
dom_text d = text_of (dom_pieces d [])

-- Of a statement.
abbrev pub stm_text : Stm → Text
stm_text s = text_of (stm_pieces s [])

-- Of a representation.
abbrev pub repr_text : Repr → Text
repr_text r = text_of (repr_pieces r [])
