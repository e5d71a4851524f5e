-- Small parts of what is printed stand on one line: they are tokens with spaces between.
use Rattle.std.proofs.Common.{◌≡◌, refl, Bool, true, false, List, [], ◌∷◌, map, ℤ, pos, negsuc}
use Rattle.ess_semantics.specs.declared.words.Op1.{Op1}
use Rattle.ess_semantics.specs.Values.{Text}
use Rattle.ess_semantics.specs.Trees.{Op, unary, binary, index, application, tuple_literal, set_literal, mset_literal, function_literal}
use Rattle.ess_semantics.specs.Trees.{relation_literal, partition_literal, matrix_literal, record_literal, Ends, one_value, both_ends}
use Rattle.ess_semantics.specs.Trees.{low_end, high_end, Mark, flag, valued, Pat, Pats, name_pat, tuple_pat, no_pats, more_pats}
use Rattle.ess_semantics.specs.Trees.{Exs, Gens, no_gens, over, from, cond, Dom}
use Rattle.ess_grammar.specs.Words.{Symbol}
use Rattle.ess_print_laws.specs.Pieces.{Piece, token, space, Printer, listed, within}
use Rattle.ess_print_laws.specs.Brackets.{begins_as_quantifier, begins_as_attributes}
use Rattle.ess_print_laws.specs.Parts.{commas, comma_space, bracketed, worded, number_pieces, tuple_pieces, pat_pieces, pat_printers}
use Rattle.ess_print_laws.specs.Parts.{name_printers}
use Rattle.ess_print_laws.specs.Expressions.{Operand, wholes, maps_pieces, field_printers, prefix_pieces, call_printers, index_pieces}
use Rattle.ess_print_laws.specs.Expressions.{node_pieces, range_printers, ranges_pieces, mark_printers, attributes_pieces}
use Rattle.ess_print_laws.specs.Expressions.{argument_pieces, field_domains, before_items}

-- Whether the piece stands on a line: a token or a space.
abbrev pub is_inline : Piece → Bool
is_inline (token t) = true
is_inline space = true
is_inline p = false

-- Whether all do.
abbrev pub are_inline : List Piece → Bool
are_inline [] = true
are_inline (p ∷ ps) = elim (is_inline p) [ true ↦ are_inline ps | false ↦ false ]

-- Before pieces on a line it puts such pieces.
pub record Inline (p : Printer) : Type 0 where
  pub law : (us : List Piece) → are_inline us ≡ true → are_inline (p us) ≡ true

-- Each of several does so.
abbrev pub AllInline : List Printer → Type 0
AllInline [] = Unit {0}
AllInline (p ∷ ps) = Inline p × AllInline ps

-- ---- small parts

-- nothing at all
pub nothing : Inline (λ us. us)
nothing = record { law = λ us h. h }

more-inline : (a : Piece) (us : List Piece) → is_inline a ≡ true → are_inline us ≡ true → are_inline (a ∷ us) ≡ true
more-inline (token t) us h k = k
more-inline space us h k = k
more-inline Piece.next_line us h k = cc
more-inline Piece.indented_line us h k = cc
more-inline (Piece.comment c) us h k = cc

-- a piece first
pub front : {a : Piece} {p : Printer} → is_inline a ≡ true → Inline p → Inline (λ us. a ∷ p us)
front {a = a} {p = p} k h = record { law = λ us i. more-inline a (p us) k (h.law us i) }

-- a piece alone
pub one : {a : Piece} → is_inline a ≡ true → Inline (λ us. a ∷ us)
one {a = a} k = record { law = λ us i. more-inline a us k i }

-- one before the other
pub then : {p q : Printer} → Inline p → Inline q → Inline (λ us. p (q us))
then {p = p} {q = q} h k = record { law = λ us i. h.law (q us) (k.law us i) }

-- parts with a separator between
pub listed-inline : {between : Printer} (ps : List Printer) → Inline between → AllInline ps → Inline (listed between ps)
listed-inline [] b h = nothing
listed-inline (p ∷ []) b h = h.0
listed-inline (p ∷ q ∷ ps) b h = then h.0 (then b (listed-inline (q ∷ ps) b h.1))

-- with commas between
pub commas-inline : (ps : List Printer) → AllInline ps → Inline (commas ps)
commas-inline ps h = let q = listed-inline {between = comma_space} ps (front refl (one refl)) h in record { law = q.law }

-- between two symbols
pub within-inline : {a b : Symbol} {p : Printer} → Inline p → Inline (within a b p)
within-inline {a = a} {b = b} h = front refl (then h (one refl))

-- with commas, between two symbols
pub enclosed : (a b : Symbol) (ps : List Printer) → AllInline ps → Inline (within a b (commas ps))
enclosed a b ps h = within-inline (commas-inline ps h)

-- in brackets or not
pub bracketed-inline : (b : Bool) (p : Printer) → Inline p → Inline (bracketed b p)
bracketed-inline true p h = within-inline h
bracketed-inline false p h = h

worded-inline : (b : Bool) (p : Printer) → Inline p → Inline (worded b p)
worded-inline true p h = front refl (front refl h)
worded-inline false p h = h

-- a number
pub number-inline : (n : ℤ) → Inline (number_pieces n)
number-inline (pos n) = (one refl)
number-inline (negsuc n) = front refl (one refl)

-- a tuple
pub tuple-inline : (ps : List Printer) → AllInline ps → Inline (tuple_pieces ps)
tuple-inline [] h = front refl (one refl)
tuple-inline (p ∷ []) h = front refl (front refl (within-inline h.0))
tuple-inline (p ∷ q ∷ ps) h = enclosed _ _ (p ∷ q ∷ ps) h

mutual
  -- a pattern
  pub pat-inline : (p : Pat) → Inline (pat_pieces p)
  pat-inline (name_pat a) = (one refl)
  pat-inline (tuple_pat ps) = enclosed _ _ (pat_printers ps) (pats-inline ps)

  pats-inline : (ps : Pats) → AllInline (pat_printers ps)
  pats-inline no_pats = tt
  pats-inline (more_pats p ps) = (pat-inline p, pats-inline ps)

-- names
pub names-inline : (ns : List Text) → AllInline (name_printers ns)
names-inline [] = tt
names-inline (a ∷ ns) = ((one refl), names-inline ns)

-- ---- operands

-- In each of its forms.
pub record OperandInline (o : Operand) : Type 0 where
  pub whole : Inline o.whole
  pub part : Inline o.part
  pub pair : Inline o.pair

-- The same of several.
abbrev pub Operands : List Operand → Type 0
Operands [] = Unit {0}
Operands (o ∷ os) = OperandInline o × Operands os

-- operands as they are
pub wholes-inline : (os : List Operand) → Operands os → AllInline (wholes os)
wholes-inline [] h = tt
wholes-inline (o ∷ os) h = (h.0.whole, wholes-inline os h.1)

pairs-inline : (os : List Operand) → Operands os → AllInline (map (λ o. o.pair) os)
pairs-inline [] h = tt
pairs-inline (o ∷ os) h = (h.0.pair, pairs-inline os h.1)

-- an argument with its value
pub maps-inline : (os : List Operand) → Operands os → Inline (maps_pieces os)
maps-inline [] h = nothing
maps-inline (a ∷ []) h = nothing
maps-inline (a ∷ b ∷ []) h = then h.0.whole (front refl (front refl (front refl h.1.0.whole)))
maps-inline (a ∷ b ∷ c ∷ os) h = nothing

fields-inline : (ns : List Text) (os : List Operand) → Operands os → AllInline (field_printers ns os)
fields-inline [] os h = tt
fields-inline (a ∷ ns) [] h = tt
fields-inline (a ∷ ns) (o ∷ os) h = (front refl (front refl (front refl (front refl h.0.whole))), fields-inline ns os h.1)

prefix-inline : (o : Op1) (a : Operand) → OperandInline a → Inline (prefix_pieces o a)
prefix-inline Op1.Minus a h = front refl h.part
prefix-inline Op1.Not a h = front refl h.part
prefix-inline Op1.Bar a h = within-inline h.whole

call-inline : (b : Bool) (os : List Operand) → Operands os → AllInline (call_printers b os)
call-inline b [] h = tt
call-inline b (a ∷ os) h = (bracketed-inline b a.whole h.0.whole, wholes-inline os h.1)

-- indices
pub index-inline : (os : List Operand) → Operands os → Inline (index_pieces os)
index-inline [] h = nothing
index-inline (o ∷ os) h = enclosed _ _ (wholes (o ∷ os)) (wholes-inline (o ∷ os) h)

-- a node over its operands
pub node-inline : (op : Op) (es : Exs) (os : List Operand) → Operands os → Inline (node_pieces op es os)
node-inline (unary o) es [] h = nothing
node-inline (unary o) es (a ∷ []) h = prefix-inline o a h.0
node-inline (unary o) es (a ∷ b ∷ os) h = nothing
node-inline (binary o) es [] h = nothing
node-inline (binary o) es (a ∷ []) h = nothing
node-inline (binary o) es (a ∷ b ∷ []) h = then h.0.part (front refl (front refl (front refl h.1.0.part)))
node-inline (binary o) es (a ∷ b ∷ c ∷ os) h = nothing
node-inline (Op.word f) es os h =
    front refl (enclosed _ _ (call_printers (begins_as_quantifier f es) os) (call-inline (begins_as_quantifier f es) os h))
node-inline (index ss) es [] h = nothing
node-inline (index ss) es (a ∷ os) h = then h.0.part (enclosed _ _ (wholes os) (wholes-inline os h.1))
node-inline application es [] h = nothing
node-inline application es (a ∷ os) h = then h.0.part (enclosed _ _ (wholes os) (wholes-inline os h.1))
node-inline tuple_literal es os h = tuple-inline (wholes os) (wholes-inline os h)
node-inline set_literal es os h = enclosed _ _ (wholes os) (wholes-inline os h)
node-inline mset_literal es os h = front refl (enclosed _ _ (wholes os) (wholes-inline os h))
node-inline function_literal es os h = front refl (enclosed _ _ (map (λ o. o.pair) os) (pairs-inline os h))
node-inline relation_literal es os h = front refl (enclosed _ _ (wholes os) (wholes-inline os h))
node-inline partition_literal es os h = front refl (enclosed _ _ (wholes os) (wholes-inline os h))
node-inline matrix_literal es os h = enclosed _ _ (wholes os) (wholes-inline os h)
node-inline (record_literal ns) es os h = front refl (front refl (enclosed _ _ (field_printers ns os) (fields-inline ns os h)))

ranges-inline : (rs : List Ends) (os : List Operand) → Operands os → AllInline (range_printers rs os)
ranges-inline [] os h = tt
ranges-inline (one_value ∷ rs) [] h = tt
ranges-inline (one_value ∷ rs) (a ∷ os) h = (h.0.whole, ranges-inline rs os h.1)
ranges-inline (both_ends ∷ rs) [] h = tt
ranges-inline (both_ends ∷ rs) (a ∷ []) h = tt
ranges-inline (both_ends ∷ rs) (a ∷ b ∷ os) h = (then h.0.whole (front refl h.1.0.whole), ranges-inline rs os h.1.1)
ranges-inline (low_end ∷ rs) [] h = tt
ranges-inline (low_end ∷ rs) (a ∷ os) h = (then h.0.whole (one refl), ranges-inline rs os h.1)
ranges-inline (high_end ∷ rs) [] h = tt
ranges-inline (high_end ∷ rs) (a ∷ os) h = (front refl h.0.whole, ranges-inline rs os h.1)

-- ranges
pub int-inline : (rs : List Ends) (os : List Operand) → Operands os → Inline (ranges_pieces rs os)
int-inline [] os h = nothing
int-inline (r ∷ rs) os h = enclosed _ _ (range_printers (r ∷ rs) os) (ranges-inline (r ∷ rs) os h)

marks-inline : (ms : List Mark) (os : List Operand) → Operands os → AllInline (mark_printers ms os)
marks-inline [] os h = tt
marks-inline (flag k ∷ ms) os h = ((one refl), marks-inline ms os h)
marks-inline (valued k ∷ ms) [] h = tt
marks-inline (valued k ∷ ms) (a ∷ os) h = (front refl (front refl h.0.whole), marks-inline ms os h.1)

-- attributes
pub attributes-inline : (ms : List Mark) (os : List Operand) → Operands os → Inline (attributes_pieces ms os)
attributes-inline [] os h = nothing
attributes-inline (m ∷ ms) os h = front refl (enclosed _ _ (mark_printers (m ∷ ms) os) (marks-inline (m ∷ ms) os h))

-- the argument of a function
pub argument-inline : (ms : List Mark) (c : Dom) (p : Printer) → Inline p → Inline (argument_pieces ms c p)
argument-inline [] c p h = worded-inline (begins_as_attributes c) p h
argument-inline (m ∷ ms) c p h = h

-- fields with their domains
pub field-domains-inline : (ns : List Text) (ps : List Printer) → AllInline ps → AllInline (field_domains ns ps)
field-domains-inline [] ps h = tt
field-domains-inline (a ∷ ns) [] h = tt
field-domains-inline (a ∷ ns) (p ∷ ps) h = (front refl (front refl (front refl (front refl h.0))), field-domains-inline ns ps h.1)

-- what stands before further generators
pub items-inline : (gs : Gens) → Inline (before_items gs)
items-inline no_gens = nothing
items-inline (over p d gs) = front refl (one refl)
items-inline (from p e gs) = front refl (one refl)
items-inline (cond e gs) = front refl (one refl)
