-- Operators' nodes, attributes and ranges print separate pieces, where their operands do.
use Rattle.std.proofs.Common.{◌≡◌, refl, Bool, true, List, [], ◌∷◌, map}
use Rattle.std.proofs.lemmas.Bool.{and_parts}
use Rattle.ess_semantics.specs.declared.words.Op1.{Op1}
use Rattle.ess_semantics.specs.Values.{Text}
use Rattle.ess_semantics.specs.Trees.{Op, unary, binary, index, application, tuple_literal, set_literal, mset_literal, function_literal, relation_literal, partition_literal, matrix_literal, record_literal, Ends, one_value, both_ends, low_end, high_end, Mark, flag, valued, Exs, Dom}
use Rattle.ess_grammar.specs.Words.{bar}
use Rattle.ess_grammar.specs.Readable.{is_name_token, are_name_tokens}
use Rattle.ess_print_laws.specs.TokenTexts.{key_text}
use Rattle.ess_print_laws.specs.Pieces.{Piece, text_of, Printer}
use Rattle.ess_print_laws.specs.Brackets.{begins_as_quantifier, begins_as_attributes}
use Rattle.ess_print_laws.specs.Expressions.{Operand, wholes, maps_pieces, field_printers, prefix_pieces, call_printers, index_pieces, node_pieces, range_printers, ranges_pieces, mark_printers, attributes_pieces, argument_pieces, field_domains}
use Rattle.ess_print_laws.proofs.NamesBack.{key-named}
use Rattle.ess_print_laws.proofs.Closing.{begins_operand, minus-ends, exclamation-ends}
use Rattle.ess_print_laws.proofs.SafeParts.{Safe, Closed, AllSafe, safe, nothing, spaced, plain, free, closed, then, within-safe, in-round, in-square, in-curly, bracketed-safe, worded-safe, tuple-safe, name-safe}

-- An operand in each of its forms, and how it begins behind a prefix.
pub record SafeOperand (o : Operand) : Type 0 where
  pub whole : Safe o.whole
  pub part : Safe o.part
  pub pair : Safe o.pair
  pub begins : (us : List Piece) → begins_operand (text_of (o.part us)) ≡ true

-- Each of several.
abbrev pub Operands : List Operand → Type 0
Operands [] = Unit {0}
Operands (o ∷ os) = SafeOperand o × Operands os

pub wholes-safe : (os : List Operand) → Operands os → AllSafe (wholes os)
wholes-safe [] h = tt
wholes-safe (o ∷ os) h = (h.0.whole, wholes-safe os h.1)

pairs-safe : (os : List Operand) → Operands os → AllSafe (map (λ o. o.pair) os)
pairs-safe [] h = tt
pairs-safe (o ∷ os) h = (h.0.pair, pairs-safe os h.1)

pub maps-safe : (os : List Operand) → Operands os → Safe (maps_pieces os)
maps-safe [] h = safe nothing
maps-safe (a ∷ []) h = safe nothing
maps-safe (a ∷ b ∷ []) h = then h.0.whole (spaced (plain refl refl (spaced h.1.0.whole)))
maps-safe (a ∷ b ∷ c ∷ os) h = safe nothing

fields-safe : (ns : List Text) (os : List Operand) → are_name_tokens ns ≡ true → Operands os → AllSafe (field_printers ns os)
fields-safe [] os n h = tt
fields-safe (a ∷ ns) [] n h = tt
fields-safe (a ∷ ns) (o ∷ os) n h =
    let parts = and_parts (is_name_token a) (are_name_tokens ns) n in
    (plain parts.0 refl (spaced (plain refl refl (spaced h.0.whole))), fields-safe ns os parts.1 h.1)

prefix-safe : (o : Op1) (a : Operand) → SafeOperand a → Safe (prefix_pieces o a)
prefix-safe Op1.Minus a h = record { law = λ us c s. (refl, minus-ends (text_of (a.part us)) (h.begins us), h.part.law us c s) }
prefix-safe Op1.Not a h = record { law = λ us c s. (refl, exclamation-ends (text_of (a.part us)) (h.begins us), h.part.law us c s) }
prefix-safe Op1.Bar a h = within-safe bar bar refl refl refl h.whole

call-safe : (b : Bool) (os : List Operand) → Operands os → AllSafe (call_printers b os)
call-safe b [] h = tt
call-safe b (a ∷ os) h = (bracketed-safe b a.whole h.0.whole, wholes-safe os h.1)

pub index-safe : (os : List Operand) → Operands os → Closed (index_pieces os)
index-safe [] h = nothing
index-safe (o ∷ os) h = in-square (wholes (o ∷ os)) (wholes-safe (o ∷ os) h)

-- The names of a record literal's fields are name tokens.
abbrev pub fields_named : Op → Bool
fields_named (record_literal ns) = are_name_tokens ns
fields_named op = true

pub node-safe : (op : Op) (es : Exs) (os : List Operand) → fields_named op ≡ true → Operands os → Safe (node_pieces op es os)
node-safe (unary o) es [] n h = safe nothing
node-safe (unary o) es (a ∷ []) n h = prefix-safe o a h.0
node-safe (unary o) es (a ∷ b ∷ os) n h = safe nothing
node-safe (binary o) es [] n h = safe nothing
node-safe (binary o) es (a ∷ []) n h = safe nothing
node-safe (binary o) es (a ∷ b ∷ []) n h = then h.0.part (spaced (plain refl refl (spaced h.1.0.part)))
node-safe (binary o) es (a ∷ b ∷ c ∷ os) n h = safe nothing
node-safe (Op.word f) es os n h = plain refl refl (in-round (call_printers (begins_as_quantifier f es) os) (call-safe (begins_as_quantifier f es) os h))
node-safe (index ss) es [] n h = safe nothing
node-safe (index ss) es (a ∷ os) n h = then h.0.part (in-square (wholes os) (wholes-safe os h.1))
node-safe application es [] n h = safe nothing
node-safe application es (a ∷ os) n h = then h.0.part (in-round (wholes os) (wholes-safe os h.1))
node-safe tuple_literal es os n h = tuple-safe (wholes os) (wholes-safe os h)
node-safe set_literal es os n h = in-curly (wholes os) (wholes-safe os h)
node-safe mset_literal es os n h = plain refl refl (in-round (wholes os) (wholes-safe os h))
node-safe function_literal es os n h = plain refl refl (in-round (map (λ o. o.pair) os) (pairs-safe os h))
node-safe relation_literal es os n h = plain refl refl (in-round (wholes os) (wholes-safe os h))
node-safe partition_literal es os n h = plain refl refl (in-round (wholes os) (wholes-safe os h))
node-safe matrix_literal es os n h = safe (in-square (wholes os) (wholes-safe os h))
node-safe (record_literal ns) es os n h = plain refl refl (spaced (in-curly (field_printers ns os) (fields-safe ns os n h)))

ranges-all : (rs : List Ends) (os : List Operand) → Operands os → AllSafe (range_printers rs os)
ranges-all [] os h = tt
ranges-all (one_value ∷ rs) [] h = tt
ranges-all (one_value ∷ rs) (a ∷ os) h = (h.0.whole, ranges-all rs os h.1)
ranges-all (both_ends ∷ rs) [] h = tt
ranges-all (both_ends ∷ rs) (a ∷ []) h = tt
ranges-all (both_ends ∷ rs) (a ∷ b ∷ os) h = (then h.0.whole (closed refl refl h.1.0.whole), ranges-all rs os h.1.1)
ranges-all (low_end ∷ rs) [] h = tt
ranges-all (low_end ∷ rs) (a ∷ os) h = (then h.0.whole (closed refl refl (safe nothing)), ranges-all rs os h.1)
ranges-all (high_end ∷ rs) [] h = tt
ranges-all (high_end ∷ rs) (a ∷ os) h = (free refl h.0.whole, ranges-all rs os h.1)

pub ranges-safe : (rs : List Ends) (os : List Operand) → Operands os → Closed (ranges_pieces rs os)
ranges-safe [] os h = nothing
ranges-safe (r ∷ rs) os h = in-round (range_printers (r ∷ rs) os) (ranges-all (r ∷ rs) os h)

marks-all : (ms : List Mark) (os : List Operand) → Operands os → AllSafe (mark_printers ms os)
marks-all [] os h = tt
marks-all (flag k ∷ ms) os h = (name-safe (key_text k) (key-named k), marks-all ms os h)
marks-all (valued k ∷ ms) [] h = tt
marks-all (valued k ∷ ms) (a ∷ os) h = (plain (key-named k) refl (spaced h.0.whole), marks-all ms os h.1)

pub attributes-safe : (ms : List Mark) (os : List Operand) → Operands os → Closed (attributes_pieces ms os)
attributes-safe [] os h = nothing
attributes-safe (m ∷ ms) os h = spaced (safe (in-round (mark_printers (m ∷ ms) os) (marks-all (m ∷ ms) os h)))

pub argument-safe : (ms : List Mark) (c : Dom) (p : Printer) → Safe p → Safe (argument_pieces ms c p)
argument-safe [] c p h = worded-safe (begins_as_attributes c) p h
argument-safe (m ∷ ms) c p h = h

pub field-domains-safe : (ns : List Text) (ps : List Printer) → are_name_tokens ns ≡ true → AllSafe ps → AllSafe (field_domains ns ps)
field-domains-safe [] ps n h = tt
field-domains-safe (a ∷ ns) [] n h = tt
field-domains-safe (a ∷ ns) (p ∷ ps) n h =
    let parts = and_parts (is_name_token a) (are_name_tokens ns) n in
    (plain parts.0 refl (spaced (plain refl refl (spaced h.0))), field-domains-safe ns ps parts.1 h.1)
