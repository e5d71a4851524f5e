-- What is printed before some pieces is what is printed before none, and then they. So a printer may write a tree's text behind
-- what it has written.
use Rattle.std.proofs.Common.{◌≡◌, refl, sym, ap, ◌∙◌, Bool, true, false, List, [], ◌∷◌, ◌++◌, map, ℤ, pos, negsuc, append_assoc}
use Rattle.ess_semantics.specs.declared.words.Op1.{Op1}
use Rattle.ess_semantics.specs.Values.{Text}
use Rattle.ess_semantics.specs.Trees.{Op, unary, binary, index, application, tuple_literal, set_literal, mset_literal, function_literal, relation_literal, partition_literal, matrix_literal, record_literal, Ends, one_value, both_ends, low_end, high_end, Mark, flag, valued, Pat, Pats, name_pat, tuple_pat, no_pats, more_pats, Repr, Reprs, repr, no_reprs, more_reprs, Ex, Exs, number_ex, truth_ex, name_ex, node_ex, matrix_ex, comp_ex, cell_ex, seen_ex, no_exs, more_exs, Gens, no_gens, over, from, cond, Dom, bool_dom, int_dom, name_dom, tuple_dom, record_dom, matrix_dom, set_dom, mset_dom, function_dom, relation_dom, partition_dom, Doms, no_doms, more_doms, Stm, given, given_enum, let_ex, let_dom, let_enum, let_unnamed, needs, find, such_that, minimise, maximise}
use Rattle.ess_grammar.specs.Words.{Symbol}
use Rattle.ess_print_laws.specs.Pieces.{Piece, piece_text, text_of, Printer, listed, within}
use Rattle.ess_print_laws.specs.Brackets.{is_operators, begins_as_quantifier, begins_as_attributes, begins_as_pattern}
use Rattle.ess_print_laws.specs.Parts.{commas, comma_space, bracketed, worded, number_pieces, tuple_pieces, pat_pieces, pat_printers, name_printers}
use Rattle.ess_print_laws.specs.Expressions.{Operand, wholes, maps_pieces, field_printers, prefix_pieces, call_printers, index_pieces, node_pieces, range_printers, ranges_pieces, mark_printers, attributes_pieces, argument_pieces, field_domains, before_items, ex_pieces, pair_pieces, operands, gens_pieces, dom_pieces, domains}
use Rattle.ess_print_laws.specs.Statements.{stm_pieces, children_pieces, repr_pieces, children}

-- Pieces that follow stay as they are.
pub record Appends (p : Printer) : Type 0 where
  pub law : (us vs : List Piece) → p (us ++ vs) ≡ p us ++ vs

-- Each of several does so.
abbrev pub AllAppend : List Printer → Type 0
AllAppend [] = Unit {0}
AllAppend (p ∷ ps) = Appends p × AllAppend ps

-- So what is printed before us is what is printed before nothing, and then us.
pub behind : (p : Printer) → Appends p → (us : List Piece) → p us ≡ p [] ++ us
behind p h us = h.law [] us

pub text-append : (us vs : List Piece) → text_of (us ++ vs) ≡ text_of us ++ text_of vs
text-append [] vs = refl
text-append (u ∷ us) vs = ap (λ t. piece_text u ++ t) (text-append us vs) ∙ sym (append_assoc (piece_text u) (text_of us) (text_of vs))

-- The same of texts.
pub text-behind : (p : Printer) → Appends p → (us : List Piece) → text_of (p us) ≡ text_of (p []) ++ text_of us
text-behind p h us = ap text_of (behind p h us) ∙ text-append (p []) us

-- ---- small parts

pub nothing : Appends (λ us. us)
nothing = record { law = λ us vs. refl }

-- a piece first
pub front : {a : Piece} {p : Printer} → Appends p → Appends (λ us. a ∷ p us)
front {a = a} h = record { law = λ us vs. ap (λ ws. a ∷ ws) (h.law us vs) }

pub one : {a : Piece} → Appends (λ us. a ∷ us)
one = record { law = λ us vs. refl }

-- one before the other
pub then : {p q : Printer} → Appends p → Appends q → Appends (λ us. p (q us))
then {p = p} {q = q} h k = record { law = λ us vs. ap p (k.law us vs) ∙ h.law (q us) vs }

pub listed-appends : {between : Printer} (ps : List Printer) → Appends between → AllAppend ps → Appends (listed between ps)
listed-appends [] b h = nothing
listed-appends (p ∷ []) b h = h.0
listed-appends (p ∷ q ∷ ps) b h = then h.0 (then b (listed-appends (q ∷ ps) b h.1))

pub commas-append : (ps : List Printer) → AllAppend ps → Appends (commas ps)
commas-append ps h = let q = listed-appends {between = comma_space} ps (front one) h in record { law = q.law }

pub within-appends : {a b : Symbol} {p : Printer} → Appends p → Appends (within a b p)
within-appends {a = a} {b = b} h = front (then h one)

enclosed : (a b : Symbol) (ps : List Printer) → AllAppend ps → Appends (within a b (commas ps))
enclosed a b ps h = within-appends (commas-append ps h)

bracketed-appends : (b : Bool) (p : Printer) → Appends p → Appends (bracketed b p)
bracketed-appends true p h = within-appends h
bracketed-appends false p h = h

worded-appends : (b : Bool) (p : Printer) → Appends p → Appends (worded b p)
worded-appends true p h = front (front h)
worded-appends false p h = h

number-appends : (n : ℤ) → Appends (number_pieces n)
number-appends (pos n) = one
number-appends (negsuc n) = front one

tuple-appends : (ps : List Printer) → AllAppend ps → Appends (tuple_pieces ps)
tuple-appends [] h = front one
tuple-appends (p ∷ []) h = front (front (within-appends h.0))
tuple-appends (p ∷ q ∷ ps) h = enclosed _ _ (p ∷ q ∷ ps) h

mutual
  pub pat-appends : (p : Pat) → Appends (pat_pieces p)
  pat-appends (name_pat a) = one
  pat-appends (tuple_pat ps) = enclosed _ _ (pat_printers ps) (pats-append ps)

  pats-append : (ps : Pats) → AllAppend (pat_printers ps)
  pats-append no_pats = tt
  pats-append (more_pats p ps) = (pat-appends p, pats-append ps)

names-append : (ns : List Text) → AllAppend (name_printers ns)
names-append [] = tt
names-append (a ∷ ns) = (one, names-append ns)

-- ---- operands

-- In each of its forms.
record OperandAppends (o : Operand) : Type 0 where
  whole : Appends o.whole
  part : Appends o.part
  pair : Appends o.pair

abbrev Operands : List Operand → Type 0
Operands [] = Unit {0}
Operands (o ∷ os) = OperandAppends o × Operands os

wholes-append : (os : List Operand) → Operands os → AllAppend (wholes os)
wholes-append [] h = tt
wholes-append (o ∷ os) h = (h.0.whole, wholes-append os h.1)

pairs-append : (os : List Operand) → Operands os → AllAppend (map (λ o. o.pair) os)
pairs-append [] h = tt
pairs-append (o ∷ os) h = (h.0.pair, pairs-append os h.1)

maps-append : (os : List Operand) → Operands os → Appends (maps_pieces os)
maps-append [] h = nothing
maps-append (a ∷ []) h = nothing
maps-append (a ∷ b ∷ []) h = then h.0.whole (front (front (front h.1.0.whole)))
maps-append (a ∷ b ∷ c ∷ os) h = nothing

fields-append : (ns : List Text) (os : List Operand) → Operands os → AllAppend (field_printers ns os)
fields-append [] os h = tt
fields-append (a ∷ ns) [] h = tt
fields-append (a ∷ ns) (o ∷ os) h = (front (front (front (front h.0.whole))), fields-append ns os h.1)

prefix-appends : (o : Op1) (a : Operand) → OperandAppends a → Appends (prefix_pieces o a)
prefix-appends Op1.Minus a h = front h.part
prefix-appends Op1.Not a h = front h.part
prefix-appends Op1.Bar a h = within-appends h.whole

call-appends : (b : Bool) (os : List Operand) → Operands os → AllAppend (call_printers b os)
call-appends b [] h = tt
call-appends b (a ∷ os) h = (bracketed-appends b a.whole h.0.whole, wholes-append os h.1)

index-appends : (os : List Operand) → Operands os → Appends (index_pieces os)
index-appends [] h = nothing
index-appends (o ∷ os) h = enclosed _ _ (wholes (o ∷ os)) (wholes-append (o ∷ os) h)

node-appends : (op : Op) (es : Exs) (os : List Operand) → Operands os → Appends (node_pieces op es os)
node-appends (unary o) es [] h = nothing
node-appends (unary o) es (a ∷ []) h = prefix-appends o a h.0
node-appends (unary o) es (a ∷ b ∷ os) h = nothing
node-appends (binary o) es [] h = nothing
node-appends (binary o) es (a ∷ []) h = nothing
node-appends (binary o) es (a ∷ b ∷ []) h = then h.0.part (front (front (front h.1.0.part)))
node-appends (binary o) es (a ∷ b ∷ c ∷ os) h = nothing
node-appends (Op.word f) es os h = front (enclosed _ _ (call_printers (begins_as_quantifier f es) os) (call-appends (begins_as_quantifier f es) os h))
node-appends (index ss) es [] h = nothing
node-appends (index ss) es (a ∷ os) h = then h.0.part (enclosed _ _ (wholes os) (wholes-append os h.1))
node-appends application es [] h = nothing
node-appends application es (a ∷ os) h = then h.0.part (enclosed _ _ (wholes os) (wholes-append os h.1))
node-appends tuple_literal es os h = tuple-appends (wholes os) (wholes-append os h)
node-appends set_literal es os h = enclosed _ _ (wholes os) (wholes-append os h)
node-appends mset_literal es os h = front (enclosed _ _ (wholes os) (wholes-append os h))
node-appends function_literal es os h = front (enclosed _ _ (map (λ o. o.pair) os) (pairs-append os h))
node-appends relation_literal es os h = front (enclosed _ _ (wholes os) (wholes-append os h))
node-appends partition_literal es os h = front (enclosed _ _ (wholes os) (wholes-append os h))
node-appends matrix_literal es os h = enclosed _ _ (wholes os) (wholes-append os h)
node-appends (record_literal ns) es os h = front (front (enclosed _ _ (field_printers ns os) (fields-append ns os h)))

ranges-append : (rs : List Ends) (os : List Operand) → Operands os → AllAppend (range_printers rs os)
ranges-append [] os h = tt
ranges-append (one_value ∷ rs) [] h = tt
ranges-append (one_value ∷ rs) (a ∷ os) h = (h.0.whole, ranges-append rs os h.1)
ranges-append (both_ends ∷ rs) [] h = tt
ranges-append (both_ends ∷ rs) (a ∷ []) h = tt
ranges-append (both_ends ∷ rs) (a ∷ b ∷ os) h = (then h.0.whole (front h.1.0.whole), ranges-append rs os h.1.1)
ranges-append (low_end ∷ rs) [] h = tt
ranges-append (low_end ∷ rs) (a ∷ os) h = (then h.0.whole one, ranges-append rs os h.1)
ranges-append (high_end ∷ rs) [] h = tt
ranges-append (high_end ∷ rs) (a ∷ os) h = (front h.0.whole, ranges-append rs os h.1)

int-appends : (rs : List Ends) (os : List Operand) → Operands os → Appends (ranges_pieces rs os)
int-appends [] os h = nothing
int-appends (r ∷ rs) os h = enclosed _ _ (range_printers (r ∷ rs) os) (ranges-append (r ∷ rs) os h)

marks-append : (ms : List Mark) (os : List Operand) → Operands os → AllAppend (mark_printers ms os)
marks-append [] os h = tt
marks-append (flag k ∷ ms) os h = (one, marks-append ms os h)
marks-append (valued k ∷ ms) [] h = tt
marks-append (valued k ∷ ms) (a ∷ os) h = (front (front h.0.whole), marks-append ms os h.1)

attributes-append : (ms : List Mark) (os : List Operand) → Operands os → Appends (attributes_pieces ms os)
attributes-append [] os h = nothing
attributes-append (m ∷ ms) os h = front (enclosed _ _ (mark_printers (m ∷ ms) os) (marks-append (m ∷ ms) os h))

argument-appends : (ms : List Mark) (c : Dom) (p : Printer) → Appends p → Appends (argument_pieces ms c p)
argument-appends [] c p h = worded-appends (begins_as_attributes c) p h
argument-appends (m ∷ ms) c p h = h

field-domains-append : (ns : List Text) (ps : List Printer) → AllAppend ps → AllAppend (field_domains ns ps)
field-domains-append [] ps h = tt
field-domains-append (a ∷ ns) [] h = tt
field-domains-append (a ∷ ns) (p ∷ ps) h = (front (front (front (front h.0))), field-domains-append ns ps h.1)

items-append : (gs : Gens) → Appends (before_items gs)
items-append no_gens = nothing
items-append (over p d gs) = front one
items-append (from p e gs) = front one
items-append (cond e gs) = front one

-- ---- trees

mutual
  pub ex-appends : (e : Ex) → Appends (ex_pieces e)
  ex-appends (number_ex n) = number-appends n
  ex-appends (truth_ex b) = one
  ex-appends (name_ex a) = one
  ex-appends (node_ex b op es) = node-appends op es (operands es) (operands-append es)
  ex-appends (matrix_ex es d) = front (then (commas-append (wholes (operands es)) (wholes-append (operands es) (operands-append es))) (front (front (then (dom-appends d) one))))
  ex-appends (comp_ex e gs) = front (then (ex-appends e) (front (front (front (then (gens-append gs) one)))))
  ex-appends (cell_ex b a es) = front (index-appends (operands es) (operands-append es))
  ex-appends (seen_ex r d ns es) = nothing

  pair-appends : (e : Ex) → Appends (pair_pieces e)
  pair-appends (node_ex b op es) = maps-append (operands es) (operands-append es)
  pair-appends e = nothing

  operands-append : (es : Exs) → Operands (operands es)
  operands-append no_exs = tt
  operands-append (more_exs e es) =
      (record { whole = ex-appends e; part = bracketed-appends (is_operators e) (ex_pieces e) (ex-appends e); pair = pair-appends e }, operands-append es)

  pub gens-append : (gs : Gens) → Appends (gens_pieces gs)
  gens-append no_gens = nothing
  gens-append (over p d gs) = then (pat-appends p) (front (front (front (then (dom-appends d) (then (items-append gs) (gens-append gs))))))
  gens-append (from p e gs) = then (pat-appends p) (front (front (front (then (ex-appends e) (then (items-append gs) (gens-append gs))))))
  gens-append (cond e gs) = then (bracketed-appends (begins_as_pattern e gs) (ex_pieces e) (ex-appends e)) (then (items-append gs) (gens-append gs))

  pub dom-appends : (d : Dom) → Appends (dom_pieces d)
  dom-appends bool_dom = one
  dom-appends (int_dom rs es) = front (int-appends rs (operands es) (operands-append es))
  dom-appends (name_dom a) = one
  dom-appends (tuple_dom ds) = tuple-appends (domains ds) (domains-append ds)
  dom-appends (record_dom ns ds) = front (front (enclosed _ _ (field_domains ns (domains ds)) (field-domains-append ns (domains ds) (domains-append ds))))
  dom-appends (matrix_dom ds d) = front (front (front (front (front (front (then (enclosed _ _ (domains ds) (domains-append ds)) (front (front (front (dom-appends d))))))))))
  dom-appends (set_dom ms es d) = front (then (attributes-append ms (operands es) (operands-append es)) (front (front (front (dom-appends d)))))
  dom-appends (mset_dom ms es d) = front (then (attributes-append ms (operands es) (operands-append es)) (front (front (front (dom-appends d)))))
  dom-appends (function_dom ms es c d) =
      front (then (attributes-append ms (operands es) (operands-append es)) (front (then (argument-appends ms c (dom_pieces c) (dom-appends c)) (front (front (front (dom-appends d)))))))
  dom-appends (relation_dom ms es ds) =
      front (then (attributes-append ms (operands es) (operands-append es)) (front (front (front (within-appends (listed-appends (domains ds) (front (front one)) (domains-append ds)))))))
  dom-appends (partition_dom ms es d) = front (then (attributes-append ms (operands es) (operands-append es)) (front (front (front (dom-appends d)))))

  domains-append : (ds : Doms) → AllAppend (domains ds)
  domains-append no_doms = tt
  domains-append (more_doms d ds) = (dom-appends d, domains-append ds)

-- ---- statements and representations

pub stm-appends : (s : Stm) → Appends (stm_pieces s)
stm-appends (given a d) = front (front (front (front (front (front (dom-appends d))))))
stm-appends (given_enum a) = front (front (front (front (front (front (front (front one)))))))
stm-appends (let_ex a e) = front (front (front (front (front (front (ex-appends e))))))
stm-appends (let_dom a d) = front (front (front (front (front (front (front (front (dom-appends d))))))))
stm-appends (let_enum a ns) = front (front (front (front (front (front (front (front (front (front (front (front (enclosed _ _ (name_printers ns) (names-append ns)))))))))))))
stm-appends (let_unnamed a e) = front (front (front (front (front (front (front (front (front (front (front (front (front (front (ex-appends e))))))))))))))
stm-appends (needs e) = front (front (ex-appends e))
stm-appends (find a d) = front (front (front (front (front (front (dom-appends d))))))
stm-appends (such_that e) = front (front (front (front (ex-appends e))))
stm-appends (minimise e) = front (front (ex-appends e))
stm-appends (maximise e) = front (front (ex-appends e))

children-append : (ps : List Printer) → AllAppend ps → Appends (children_pieces ps)
children-append [] h = nothing
children-append (p ∷ ps) h = enclosed _ _ (p ∷ ps) h

mutual
  pub repr-appends : (r : Repr) → Appends (repr_pieces r)
  repr-appends (repr k rs) = front (children-append (children rs) (each-appends rs))

  each-appends : (rs : Reprs) → AllAppend (children rs)
  each-appends no_reprs = tt
  each-appends (more_reprs r rs) = (repr-appends r, each-appends rs)
