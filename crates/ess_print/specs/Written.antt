-- What the functions of this crate write behind a text: the pieces that the definitions of printed texts have for a part.
use Rattle.std.specs.Prelude.{ℕ, zero, suc, ◌≡◌, Bool, true, false, ◌&&◌, List, [], ◌∷◌, ◌++◌, map, Option, Some, None, codes}
use Rattle.std.specs.List.{list_any}
use Rattle.std.specs.Str.{bytes_eq}
use Rattle.ess_semantics.specs.declared.words.Op1.{Op1}
use Rattle.ess_semantics.specs.declared.words.Op2.{Op2}
use Rattle.ess_semantics.specs.declared.words.Fun.{Fun}
use Rattle.ess_semantics.specs.Values.{Text}
use Rattle.ess_semantics.specs.Names as names
use Rattle.ess_semantics.specs.Kinds.{doms_of}
use Rattle.ess_semantics.specs.Trees as pure
use Rattle.ess_semantics.specs.Trees.{word, function_literal, record_literal, Ends, Mark, Exs, node_ex, ex1, int_dom, name_dom, record_dom}
use Rattle.ess_grammar.specs.Words.{keys, open_square, close_square, semicolon, colon, drawn_from}
use Rattle.ess_print_laws.specs.TokenTexts.{operator_text}
use Rattle.ess_print_laws.specs.Pieces.{Piece, piece_text, text_of, Printer, space, sign}
use Rattle.ess_print_laws.specs.Pieces as pieces
use Rattle.ess_print_laws.specs.Parts.{commas, bracketed, pat_pieces}
use Rattle.ess_print_laws.specs.Brackets.{is_operators, is_written_as_pattern, begins_as_attributes}
use Rattle.ess_print_laws.specs.Expressions.{ex_pieces, dom_pieces, wholes, operands, range_printers, mark_printers, attributes_pieces}
use Rattle.ess_core.specs.TreeViews.{With, words_of, within, Item, over_item, from_item, cond_item, exs_of, field_values, pure_range, pure_step, pure_attr, pure_dom, pure_field_dom, pure_field_ex, pure_pair_ex}
use Rattle.ess_core.specs.declared.domains.Dom.{Dom}
use Rattle.ess_core.specs.declared.domains.FieldDom.{FieldDom}
use Rattle.ess_core.specs.declared.domains.Range.{Range}
use Rattle.ess_core.specs.declared.domains.Attr.{Attr}
use Rattle.ess_core.specs.declared.expressions.Step.{Step}
use Rattle.ess_core.specs.declared.expressions.FieldEx.{FieldEx}
use Rattle.ess_core.specs.declared.expressions.PairEx.{PairEx}

-- ---- a text that grows

-- The text `now` is the text `before` and behind it what p writes, whatever pieces follow.
pub record Puts (before now : Text) (p : Printer) : Type 0 where
  pub same : (us : List Piece) → now ++ text_of us ≡ before ++ text_of (p us)

-- The same, with the text s before what p writes and the text of a piece behind it.
pub record PutsBetween (before s : Text) (p : Printer) (behind now : Text) : Type 0 where
  pub same : (b : Piece) (us : List Piece) → behind ≡ piece_text b → now ++ text_of us ≡ (before ++ s) ++ text_of (p (b ∷ us))

-- ---- texts between the parts of a list

-- What stands before the domain at an index of a relation.
abbrev pub times_before : ℕ → Text
times_before zero = []
times_before (suc i) = codes " * "

-- What opens a tuple of so many parts.
abbrev pub tuple_opening : ℕ → Text
tuple_opening (suc zero) = codes "tuple ("
tuple_opening _ = codes "("

-- An operator between its spaces.
abbrev pub spaced_operator : Op2 → Text
spaced_operator o = codes " " ++ operator_text o ++ codes " "

-- ---- parts of expressions

-- An operand of an operator.
abbrev pub operand_of : pure.Ex → Printer
operand_of e = bracketed (is_operators e) (ex_pieces e)

-- A prefix with its operand, or bars round it.
abbrev pub one_pieces : Op1 → pure.Ex → Printer
one_pieces o a = ex_pieces (ex1 false o a)

-- Whether the operand at an index stands in brackets where only the first may.
abbrev pub only_first : Bool → ℕ → Bool
only_first b zero = b
only_first b (suc i) = false

-- A function word with its operands.
abbrev pub call_pieces : Fun → Exs → Printer
call_pieces f es = ex_pieces (node_ex false (word f) es)

-- The steps of an index.
abbrev pub steps_pieces : List Step → Printer
steps_pieces ss = pieces.within open_square close_square (commas (wholes (operands (exs_of (within (map pure_step ss))))))

-- A record's literal.
abbrev pub record_pieces : List FieldEx → Printer
record_pieces fs = ex_pieces (node_ex false (record_literal (names.keys (map pure_field_ex fs))) (exs_of (field_values (map pure_field_ex fs))))

-- A function's literal.
abbrev pub function_pieces : List PairEx → Printer
function_pieces ps = ex_pieces (node_ex false function_literal (exs_of (map pure_pair_ex ps)))

-- The end of a matrix literal.
abbrev pub axis_pieces : Option Dom → Printer
axis_pieces None us = sign close_square ∷ us
axis_pieces (Some d) us = sign semicolon ∷ space ∷ dom_pieces (pure_dom d) (sign close_square ∷ us)

-- A generator, or a condition, which stands in brackets where it is written as a pattern and a generator follows, as b says.
abbrev pub item_pieces : Bool → Item → Printer
item_pieces b (over_item p d) us = pat_pieces p (space ∷ sign colon ∷ space ∷ dom_pieces d us)
item_pieces b (from_item p e) us = pat_pieces p (space ∷ sign drawn_from ∷ space ∷ ex_pieces e us)
item_pieces b (cond_item e) us = bracketed (b && is_written_as_pattern e) (ex_pieces e) us

-- ---- parts of domains

-- The domain of whole numbers in ranges.
abbrev pub int_pieces : List Range → Printer
int_pieces rs = dom_pieces (int_dom (words_of (map pure_range rs)) (exs_of (within (map pure_range rs))))

-- A range.
abbrev pub range_pieces : With Ends → Printer
range_pieces r = commas (range_printers (r.0 ∷ []) (operands (exs_of r.1)))

-- The domain of records.
abbrev pub record_dom_pieces : List FieldDom → Printer
record_dom_pieces fs = dom_pieces (record_dom (names.keys (map pure_field_dom fs)) (doms_of (field_values (map pure_field_dom fs))))

-- What stands before the first domain of a function behind these attributes.
abbrev pub argument_opening : List Mark → pure.Dom → Text
argument_opening [] d = elim (begins_as_attributes d) [ true ↦ codes " tuple " | false ↦ codes " " ]
argument_opening (m ∷ ms) d = codes " "

-- Attributes, or none.
abbrev pub attrs_pieces : List Attr → Printer
attrs_pieces as' = attributes_pieces (words_of (map pure_attr as')) (operands (exs_of (within (map pure_attr as'))))

-- An attribute.
abbrev pub attr_pieces : With Mark → Printer
attr_pieces m = commas (mark_printers (m.0 ∷ []) (operands (exs_of m.1)))

-- ---- attribute words

-- The names that are attribute words.
abbrev pub key_names : List Text
key_names = map (λ e. e.0) keys

-- Whether the domain is a name that is an attribute word.
abbrev pub names_attribute : pure.Dom → Bool
names_attribute (name_dom a) = list_any (λ word. bytes_eq word a) key_names
names_attribute d = false
