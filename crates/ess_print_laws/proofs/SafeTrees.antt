-- Readable trees print separate pieces.
use Rattle.std.proofs.Common.{◌≡◌, refl, ℕ, ◌<◌, ◌^◌, Bool, true, false, ◌&&◌, List, [], ◌∷◌, ◌++◌, pos, negsuc, arith}
use Rattle.std.specs.Fmt.{decimal}
use Rattle.std.specs.List.{list_all}
use Rattle.std.proofs.lemmas.Bool.{and_parts, or_left, or_right, ltb-true}
use Rattle.ess_semantics.specs.declared.words.Op1.{Op1}
use Rattle.ess_semantics.specs.declared.words.Fun.{Fun}
use Rattle.ess_semantics.specs.Values.{Text}
use Rattle.ess_semantics.specs.Trees.{Op, unary, binary, index, application, tuple_literal, set_literal, mset_literal, function_literal, relation_literal, partition_literal, matrix_literal, record_literal, Repr, Reprs, repr, no_reprs, more_reprs, Ex, Exs, number_ex, truth_ex, name_ex, node_ex, matrix_ex, comp_ex, cell_ex, seen_ex, no_exs, more_exs, Gens, no_gens, over, from, cond, Dom, bool_dom, int_dom, name_dom, tuple_dom, record_dom, matrix_dom, set_dom, mset_dom, function_dom, relation_dom, partition_dom, Doms, no_doms, more_doms, Stm, given, given_enum, let_ex, let_dom, let_enum, let_unnamed, needs, find, such_that, minimise, maximise}
use Rattle.ess_grammar.specs.Words.{number, open_round, close_round}
use Rattle.ess_grammar.specs.Tokens.{is_digit, is_letter, is_name_byte, is_name}
use Rattle.ess_grammar.specs.Readable.{is_name_token, are_name_tokens, is_number_token, fit_operands, fit_fields, fit_domains, some_doms, some_names, ReadableEx, ReadableExs, ReadableGens, ReadableDom, ReadableDoms, ReadableStm}
use Rattle.ess_print_laws.specs.TokenTexts.{function_text}
use Rattle.ess_print_laws.specs.Pieces.{Piece, token, text_of, Printer}
use Rattle.ess_print_laws.specs.Brackets.{is_operator, is_operators, begins_as_pattern}
use Rattle.ess_print_laws.specs.Parts.{times, bracketed, name_printers}
use Rattle.ess_print_laws.specs.Expressions.{wholes, node_pieces, ex_pieces, pair_pieces, operands, gens_pieces, before_items, dom_pieces, domains, field_domains}
use Rattle.ess_print_laws.specs.Statements.{stm_pieces, children_pieces, repr_pieces, children}
use Rattle.ess_print_laws.proofs.Digits.{Writes, decimal-writes}
use Rattle.ess_print_laws.proofs.NamesBack.{kind-named}
use Rattle.ess_print_laws.proofs.TokensBack.{name-of-subset}
use Rattle.ess_print_laws.proofs.Closing.{begins_operand}
use Rattle.ess_print_laws.proofs.SafeParts.{Safe, Closed, AllSafe, safe, nothing, spaced, plain, free, closed, then, then-closed, commas-safe, listed-safe, within-safe, in-square, in-curly, bracketed-safe, tuple-safe, name-safe, names-safe, pat-safe}
use Rattle.ess_print_laws.proofs.SafeNodes.{Operands, wholes-safe, maps-safe, fields_named, node-safe, ranges-safe, attributes-safe, argument-safe, field-domains-safe}

-- ---- how operands begin

name-begins : (a r : Text) → is_name a ≡ true → begins_operand (a ++ r) ≡ true
name-begins [] r h = cc
name-begins (c ∷ cs) r h =
    let letter = (and_parts (is_letter c) (list_all is_name_byte cs) h).0 in
    or_left (is_name_byte c) _ (or_left (is_letter c) (is_digit c) letter)

digits-begin : (n : ℕ) (ds r : Text) → Writes n ds → begins_operand (ds ++ r) ≡ true
digits-begin n [] r w = absurd (omega (arith, w.some))
digits-begin n (c ∷ cs) r w =
    let digit = (and_parts (is_digit c) (list_all is_digit cs) w.digits).0 in
    or_left (is_name_byte c) _ (or_right (is_letter c) (is_digit c) digit)

number-begins : (n : ℕ) (r : Text) → is_number_token (pos n) ≡ true → begins_operand (decimal n ++ r) ≡ true
number-begins n r h = let b : n < 2 ^ 63 = ltb-true n (2 ^ 63) h in digits-begin n (decimal n) r (decimal-writes n (omega arith))

function-named : (f : Fun) → is_name (function_text f) ≡ true
function-named Fun.Sum = refl
function-named Fun.Product = refl
function-named Fun.And = refl
function-named Fun.Or = refl
function-named Fun.Min = refl
function-named Fun.Max = refl
function-named Fun.AllDiff = refl
function-named Fun.ToInt = refl
function-named Fun.Image = refl
function-named Fun.PreImage = refl
function-named Fun.Defined = refl
function-named Fun.Range = refl
function-named Fun.ToSet = refl
function-named Fun.ToMSet = refl
function-named Fun.ToRelation = refl
function-named Fun.Freq = refl
function-named Fun.Parts = refl
function-named Fun.Party = refl
function-named Fun.Participants = refl
function-named Fun.Together = refl

-- The first of several, as an operand.
abbrev FirstBegins : Exs → Type 0
FirstBegins no_exs = Unit {0}
FirstBegins (more_exs a es) = (us : List Piece) → begins_operand (text_of (bracketed (is_operators a) (ex_pieces a) us)) ≡ true

node-begins : (op : Op) (es : Exs) → fit_operands op es ≡ true → is_operator op ≡ false → FirstBegins es → (us : List Piece) → begins_operand (text_of (node_pieces op es (operands es) us)) ≡ true
node-begins (unary Op1.Minus) es h k f us = cc
node-begins (unary Op1.Not) es h k f us = cc
node-begins (unary Op1.Bar) no_exs h k f us = cc
node-begins (unary Op1.Bar) (more_exs a no_exs) h k f us = refl
node-begins (unary Op1.Bar) (more_exs a (more_exs b es)) h k f us = cc
node-begins (binary o) es h k f us = cc
node-begins (Op.word w) es h k f us = name-begins (function_text w) _ (function-named w)
node-begins (index []) no_exs h k f us = cc
node-begins (index (s ∷ ss)) no_exs h k f us = cc
node-begins (index ss) (more_exs a es) h k f us = f _
node-begins application no_exs h k f us = cc
node-begins application (more_exs a es) h k f us = f _
node-begins tuple_literal no_exs h k f us = cc
node-begins tuple_literal (more_exs a no_exs) h k f us = refl
node-begins tuple_literal (more_exs a (more_exs b es)) h k f us = refl
node-begins set_literal es h k f us = refl
node-begins mset_literal es h k f us = refl
node-begins function_literal es h k f us = refl
node-begins relation_literal es h k f us = refl
node-begins partition_literal es h k f us = refl
node-begins matrix_literal es h k f us = refl
node-begins (record_literal ns) es h k f us = refl

part-begins : (e : Ex) → (is_operators e ≡ false → (us : List Piece) → begins_operand (text_of (ex_pieces e us)) ≡ true) → (us : List Piece) →
    begins_operand (text_of (bracketed (is_operators e) (ex_pieces e) us)) ≡ true
part-begins e h us = go (is_operators e) refl
  where
    go : (b : Bool) → is_operators e ≡ b → begins_operand (text_of (bracketed b (ex_pieces e) us)) ≡ true
    go true k = refl
    go false k = h k us

mutual
  ex-begins : (e : Ex) → ReadableEx e → is_operators e ≡ false → (us : List Piece) → begins_operand (text_of (ex_pieces e us)) ≡ true
  ex-begins (number_ex (pos n)) h k = λ us. number-begins n (text_of us) h
  ex-begins (number_ex (negsuc n)) h k = cc
  ex-begins (truth_ex true) h k = λ us. refl
  ex-begins (truth_ex false) h k = λ us. refl
  ex-begins (name_ex a) h k = λ us. name-begins a (text_of us) (name-of-subset a h).named
  ex-begins (node_ex b op es) h k = node-begins op es h.1 k (first-begins es h.2)
  ex-begins (matrix_ex es d) h k = λ us. refl
  ex-begins (comp_ex e gs) h k = λ us. refl
  ex-begins (cell_ex b n es) h k = absurd h
  ex-begins (seen_ex r d ns es) h k = absurd h

  first-begins : (es : Exs) → ReadableExs es → FirstBegins es
  first-begins no_exs h = tt
  first-begins (more_exs a es) h = part-begins a (ex-begins a h.0)

-- ---- expressions and domains

fields-are-named : (op : Op) (es : Exs) → fit_operands op es ≡ true → fields_named op ≡ true
fields-are-named (record_literal []) es h = refl
fields-are-named (record_literal (a ∷ ns)) es h = (and_parts (are_name_tokens (a ∷ ns)) (fit_fields (a ∷ ns) es) h).0
fields-are-named (unary o) es h = refl
fields-are-named (binary o) es h = refl
fields-are-named (Op.word f) es h = refl
fields-are-named (index ss) es h = refl
fields-are-named application es h = refl
fields-are-named tuple_literal es h = refl
fields-are-named set_literal es h = refl
fields-are-named mset_literal es h = refl
fields-are-named function_literal es h = refl
fields-are-named relation_literal es h = refl
fields-are-named partition_literal es h = refl
fields-are-named matrix_literal es h = refl

number-safe : (n : ℕ) → is_number_token (pos n) ≡ true → Safe (λ us. token (number n) ∷ us)
number-safe n h = plain h refl nothing

items-safe : (gs : Gens) → Safe (gens_pieces gs) → Closed (λ us. before_items gs (gens_pieces gs us))
items-safe no_gens h = nothing
items-safe (over p d gs) h = closed refl refl (safe (spaced h))
items-safe (from p e gs) h = closed refl refl (safe (spaced h))
items-safe (cond e gs) h = closed refl refl (safe (spaced h))

mutual
  pub ex-safe : (e : Ex) → ReadableEx e → Safe (ex_pieces e)
  ex-safe (number_ex (pos n)) h = number-safe n h
  ex-safe (number_ex (negsuc n)) h = cc
  ex-safe (truth_ex true) h = plain refl refl nothing
  ex-safe (truth_ex false) h = plain refl refl nothing
  ex-safe (name_ex a) h = name-safe a h
  ex-safe (node_ex b op es) h = node-safe op es (operands es) (fields-are-named op es h.1) (operands-safe es h.2)
  ex-safe (matrix_ex es d) h =
      free refl (then (commas-safe (wholes (operands es)) (wholes-safe (operands es) (operands-safe es h.1))) (closed refl refl (safe (spaced (then (dom-safe d h.2) (closed refl refl (safe nothing)))))))
  ex-safe (comp_ex e gs) h = free refl (then (ex-safe e h.0) (spaced (free refl (safe (spaced (then (gens-safe gs h.2) (closed refl refl (safe nothing))))))))
  ex-safe (cell_ex b n es) h = absurd h
  ex-safe (seen_ex r d ns es) h = absurd h

  pair-safe : (e : Ex) → ReadableEx e → Safe (pair_pieces e)
  pair-safe (node_ex b op es) h = maps-safe (operands es) (operands-safe es h.2)
  pair-safe e h = safe nothing

  operands-safe : (es : Exs) → ReadableExs es → Operands (operands es)
  operands-safe no_exs h = tt
  operands-safe (more_exs e es) h = (
    record {
      whole = ex-safe e h.0;
      part = bracketed-safe (is_operators e) (ex_pieces e) (ex-safe e h.0);
      pair = pair-safe e h.0;
      begins = part-begins e (ex-begins e h.0);
    },
    operands-safe es h.1,
  )

  pub gens-safe : (gs : Gens) → ReadableGens gs → Safe (gens_pieces gs)
  gens-safe no_gens h = safe nothing
  gens-safe (over p d gs) h = then (pat-safe p h.0) (spaced (free refl (safe (spaced (then (dom-safe d h.1) (items-safe gs (gens-safe gs h.2)))))))
  gens-safe (from p e gs) h = then (pat-safe p h.0) (spaced (plain refl refl (spaced (then (ex-safe e h.1) (items-safe gs (gens-safe gs h.2))))))
  gens-safe (cond e gs) h = then (bracketed-safe (begins_as_pattern e gs) (ex_pieces e) (ex-safe e h.0)) (items-safe gs (gens-safe gs h.1))

  pub dom-safe : (d : Dom) → ReadableDom d → Safe (dom_pieces d)
  dom-safe bool_dom h = plain refl refl nothing
  dom-safe (int_dom rs es) h = plain refl refl (ranges-safe rs (operands es) (operands-safe es h.1))
  dom-safe (name_dom a) h = name-safe a h
  dom-safe (tuple_dom ds) h = tuple-safe (domains ds) (domains-safe ds h.1)
  dom-safe (record_dom ns ds) h =
      let names = (and_parts (are_name_tokens ns) (fit_domains ns ds) (and_parts (some_doms ds) (are_name_tokens ns && fit_domains ns ds) h.0).1).0 in
      plain refl refl (spaced (in-curly (field_domains ns (domains ds)) (field-domains-safe ns (domains ds) names (domains-safe ds h.2))))
  dom-safe (matrix_dom ds d) h =
      plain refl refl (spaced (plain refl refl (spaced (plain refl refl (spaced
      (safe (then-closed (in-square (domains ds) (domains-safe ds h.1)) (spaced (plain refl refl (spaced (dom-safe d h.2)))))))))))
  dom-safe (set_dom ms es d) h = plain refl refl (then-closed (attributes-safe ms (operands es) (operands-safe es h.1)) (spaced (plain refl refl (spaced (dom-safe d h.2)))))
  dom-safe (mset_dom ms es d) h = plain refl refl (then-closed (attributes-safe ms (operands es) (operands-safe es h.1)) (spaced (plain refl refl (spaced (dom-safe d h.2)))))
  dom-safe (function_dom ms es c d) h =
      plain refl refl (then-closed (attributes-safe ms (operands es) (operands-safe es h.1))
      (spaced (then (argument-safe ms c (dom_pieces c) (dom-safe c h.2)) (spaced (plain refl refl (spaced (dom-safe d h.3)))))))
  dom-safe (relation_dom ms es ds) h =
      plain refl refl (then-closed (attributes-safe ms (operands es) (operands-safe es h.1))
      (spaced (plain refl refl (spaced (within-safe open_round close_round refl refl refl (listed-safe times (domains ds) (λ q k. spaced (plain refl refl (spaced k))) (domains-safe ds h.2)))))))
  dom-safe (partition_dom ms es d) h = plain refl refl (then-closed (attributes-safe ms (operands es) (operands-safe es h.1)) (spaced (plain refl refl (spaced (dom-safe d h.2)))))

  domains-safe : (ds : Doms) → ReadableDoms ds → AllSafe (domains ds)
  domains-safe no_doms h = tt
  domains-safe (more_doms d ds) h = (dom-safe d h.0, domains-safe ds h.1)

-- ---- statements and representations

pub stm-safe : (s : Stm) → ReadableStm s → Safe (stm_pieces s)
stm-safe (given a d) h = plain refl refl (spaced (plain h.0 refl (spaced (free refl (safe (spaced (dom-safe d h.1)))))))
stm-safe (given_enum a) h = plain refl refl (spaced (plain h refl (spaced (plain refl refl (spaced (plain refl refl (spaced (plain refl refl nothing))))))))
stm-safe (let_ex a e) h = plain refl refl (spaced (plain h.0 refl (spaced (plain refl refl (spaced (ex-safe e h.1))))))
stm-safe (let_dom a d) h = plain refl refl (spaced (plain h.0 refl (spaced (plain refl refl (spaced (plain refl refl (spaced (dom-safe d h.1))))))))
stm-safe (let_enum a ns) h =
    let parts = and_parts (is_name_token a) (some_names ns && are_name_tokens ns) h in
    let names = (and_parts (some_names ns) (are_name_tokens ns) parts.1).1 in
    plain refl refl (spaced (plain parts.0 refl (spaced (plain refl refl (spaced (plain refl refl (spaced (plain refl refl (spaced (plain refl refl (spaced
    (in-curly (name_printers ns) (names-safe ns names)))))))))))))
stm-safe (let_unnamed a e) h =
    plain refl refl (spaced (plain h.0 refl (spaced (plain refl refl (spaced (plain refl refl (spaced (plain refl refl (spaced (plain refl refl (spaced (plain refl refl (spaced
    (ex-safe e h.1))))))))))))))
stm-safe (needs e) h = plain refl refl (spaced (ex-safe e h))
stm-safe (find a d) h = plain refl refl (spaced (plain h.0 refl (spaced (free refl (safe (spaced (dom-safe d h.1)))))))
stm-safe (such_that e) h = plain refl refl (spaced (plain refl refl (spaced (ex-safe e h))))
stm-safe (minimise e) h = plain refl refl (spaced (ex-safe e h))
stm-safe (maximise e) h = plain refl refl (spaced (ex-safe e h))

children-safe : (ps : List Printer) → AllSafe ps → Closed (children_pieces ps)
children-safe [] h = nothing
children-safe (p ∷ ps) h = in-square (p ∷ ps) h

mutual
  pub repr-safe : (r : Repr) → Safe (repr_pieces r)
  repr-safe (repr k rs) = plain (kind-named k) refl (children-safe (children rs) (each-safe rs))

  each-safe : (rs : Reprs) → AllSafe (children rs)
  each-safe no_reprs = tt
  each-safe (more_reprs r rs) = (repr-safe r, each-safe rs)
