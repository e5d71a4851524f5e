-- The pieces of statements and representations as they are printed, one statement behind its word (Essence, Constraints 13,
-- 2008, its grammar of statements; the Conjure manual, on representations).
use Rattle.std.specs.Prelude.{List, [], ◌∷◌, codes}
use Rattle.ess_semantics.specs.Values.{Text}
use Rattle.ess_semantics.specs.Trees.{Repr, Reprs, repr, no_reprs, more_reprs, Stm, given, given_enum, let_ex, let_dom, let_enum, let_unnamed, needs, find, such_that, minimise, maximise}
use Rattle.ess_grammar.specs.Words.{Word, given_word, find_word, letting_word, be_word, new_word, type_word, enum_word, domain_word, of_word, where_word, such_word, that_word, minimising_word, maximising_word, open_square, close_square, open_curly, close_curly, colon}
use Rattle.ess_print_laws.specs.TokenTexts.{kind_text}
use Rattle.ess_print_laws.specs.Pieces.{space, Printer, reserved, sign, named, within}
use Rattle.ess_print_laws.specs.Parts.{commas, name_printers}
use Rattle.ess_print_laws.specs.Expressions.{ex_pieces, dom_pieces}

-- A word and a space before what follows.
abbrev pub behind_word : Word → Printer
behind_word w us = reserved w ∷ space ∷ us

-- A name with its domain: `x : int`.
abbrev pub declared : Text → Printer → Printer
declared a p us = named a ∷ space ∷ sign colon ∷ space ∷ p us

-- The words `new type`.
abbrev pub new_type : Printer
new_type us = behind_word new_word (behind_word type_word us)

-- A letting of this name.
abbrev pub let_be : Text → Printer
let_be a us = behind_word letting_word (named a ∷ space ∷ behind_word be_word us)

-- A statement.
abbrev pub stm_pieces : Stm → Printer
stm_pieces (given a d) us = behind_word given_word (declared a (dom_pieces d) us)
stm_pieces (given_enum a) us = behind_word given_word (named a ∷ space ∷ new_type (reserved enum_word ∷ us))
stm_pieces (let_ex a e) us = let_be a (ex_pieces e us)
stm_pieces (let_dom a d) us = let_be a (behind_word domain_word (dom_pieces d us))
stm_pieces (let_enum a ns) us = let_be a (new_type (behind_word enum_word (within open_curly close_curly (commas (name_printers ns)) us)))
stm_pieces (let_unnamed a e) us = let_be a (new_type (behind_word of_word (named (codes "size") ∷ space ∷ ex_pieces e us)))
stm_pieces (needs e) us = behind_word where_word (ex_pieces e us)
stm_pieces (find a d) us = behind_word find_word (declared a (dom_pieces d) us)
stm_pieces (such_that e) us = behind_word such_word (behind_word that_word (ex_pieces e us))
stm_pieces (minimise e) us = behind_word minimising_word (ex_pieces e us)
stm_pieces (maximise e) us = behind_word maximising_word (ex_pieces e us)

-- The children of a representation in square brackets, or none.
abbrev pub children_pieces : List Printer → Printer
children_pieces [] us = us
children_pieces (p ∷ ps) us = within open_square close_square (commas (p ∷ ps)) us

abbrev mutual
  -- A representation.
  pub repr_pieces : Repr → Printer
  repr_pieces (repr k rs) us = named (kind_text k) ∷ children_pieces (children rs) us

  -- Several representations.
  pub children : Reprs → List Printer
  children no_reprs = []
  children (more_reprs r rs) = repr_pieces r ∷ children rs
