-- The printed tokens of function and record literals are derived.
use Rattle.std.proofs.Common.{◌≡◌, sym, subst, Bool, true, List, [], ◌∷◌, map}
use Rattle.ess_semantics.specs.Values.{Text}
use Rattle.ess_semantics.specs.Trees.{tuple_literal, function_literal, record_literal, Ex, Exs, number_ex, truth_ex, name_ex, node_ex, matrix_ex, comp_ex, cell_ex, seen_ex, no_exs, more_exs, plain_node}
use Rattle.ess_grammar.specs.Words.{Token, close_round, close_curly, maps_to}
use Rattle.ess_grammar.specs.Grammar.{two_exs, Pairs, Fields, last_pair, next_pair, last_field, next_field, function_atom, empty_function_atom, record_atom}
use Rattle.ess_grammar.specs.Readable.{fit_fields, are_pairs, ReadableEx, ReadableExs}
use Rattle.ess_print_laws.specs.Pieces.{Piece, Printer, space, sign, tokens_of}
use Rattle.ess_print_laws.specs.Parts.{comma_space, commas}
use Rattle.ess_print_laws.specs.Expressions.{field_printers, ex_pieces, pair_pieces, operands}
use Rattle.ess_print_laws.proofs.Derived.{Printed, Each, Inner, from-atom}

-- ---- functions

-- A tuple of two.
data IsPair : Ex → Type 0 where
  is_pair : {b : Bool} {x y : Ex} → IsPair (node_ex b tuple_literal (two_exs x y))

pair-first : (e : Ex) (es : Exs) → are_pairs (more_exs e es) ≡ true → IsPair e
pair-first (node_ex b tuple_literal no_exs) es h = cc
pair-first (node_ex b tuple_literal (more_exs x no_exs)) es h = cc
pair-first (node_ex b tuple_literal (more_exs x (more_exs y no_exs))) es h = is_pair
pair-first (node_ex b tuple_literal (more_exs x (more_exs y (more_exs z zs)))) es h = cc
pair-first (node_ex b op xs) es h = cc
pair-first (number_ex n) es h = cc
pair-first (truth_ex b) es h = cc
pair-first (name_ex a) es h = cc
pair-first (matrix_ex xs d) es h = cc
pair-first (comp_ex e gs) es h = cc
pair-first (cell_ex b n xs) es h = cc
pair-first (seen_ex r d ns xs) es h = cc

pair-rest : (e : Ex) (es : Exs) → IsPair e → are_pairs (more_exs e es) ≡ true → are_pairs es ≡ true
pair-rest e es is_pair h = h

-- The operands as pairs.
abbrev pub pairs : Exs → List Printer
pairs es = map (λ o. o.pair) (operands es)

one-pair : (e : Ex) → IsPair e → ReadableEx e → Inner e → (us : List Piece) → Pairs (more_exs e no_exs) (tokens_of (pair_pieces e us)) (tokens_of us)
one-pair e (is_pair {b = b} {x = x} {y = y}) r k us =
    subst (λ c. Pairs (more_exs (node_ex c tuple_literal (two_exs x y)) no_exs) (tokens_of (ex_pieces x (space ∷ sign maps_to ∷ space ∷ ex_pieces y us))) (tokens_of us)) (sym r.0)
    (last_pair (k.0.reads (space ∷ sign maps_to ∷ space ∷ ex_pieces y us)).derivation (k.2.0.reads us).derivation)

more-pairs : (e : Ex) (es : Exs) → IsPair e → ReadableEx e → Inner e → (us : List Piece) {vs : List Token} → Pairs es (tokens_of us) vs →
    Pairs (more_exs e es) (tokens_of (pair_pieces e (comma_space us))) vs
more-pairs e es (is_pair {b = b} {x = x} {y = y}) r k us {vs = vs} d =
    subst (λ c. Pairs (more_exs (node_ex c tuple_literal (two_exs x y)) es) (tokens_of (ex_pieces x (space ∷ sign maps_to ∷ space ∷ ex_pieces y (comma_space us)))) vs) (sym r.0)
    (next_pair (k.0.reads (space ∷ sign maps_to ∷ space ∷ ex_pieces y (comma_space us))).derivation (k.2.0.reads (comma_space us)).derivation d)

pairs-derived : (e : Ex) (es : Exs) → are_pairs (more_exs e es) ≡ true → ReadableExs (more_exs e es) → Each (more_exs e es) → (us : List Piece) →
    Pairs (more_exs e es) (tokens_of (commas (pairs (more_exs e es)) us)) (tokens_of us)
pairs-derived e no_exs h r k us = one-pair e (pair-first e no_exs h) r.0 k.1 us
pairs-derived e (more_exs f fs) h r k us =
    more-pairs e (more_exs f fs) (pair-first e (more_exs f fs) h) r.0 k.1 (commas (pairs (more_exs f fs)) us)
    (pairs-derived f fs (pair-rest e (more_exs f fs) (pair-first e (more_exs f fs) h) h) r.1 k.2 us)

pub function-printed : (es : Exs) → are_pairs es ≡ true → ReadableExs es → Each es → Printed (plain_node function_literal es)
function-printed no_exs h r k = from-atom (λ us. empty_function_atom)
function-printed (more_exs e es) h r k = from-atom (λ us. function_atom (pairs-derived e es h r k (sign close_round ∷ us)))

-- ---- records

fields-derived : (a : Text) (ns : List Text) (e : Ex) (es : Exs) → fit_fields ns es ≡ true → Printed e → Each es → (us : List Piece) →
    Fields (a ∷ ns) (more_exs e es) (tokens_of (commas (field_printers (a ∷ ns) (operands (more_exs e es))) us)) (tokens_of us)
fields-derived a [] e no_exs h d ds us = last_field (d.reads us).derivation
fields-derived a [] e (more_exs f es) h d ds us = cc
fields-derived a (b ∷ ns) e no_exs h d ds us = cc
fields-derived a (b ∷ ns) e (more_exs f es) h d ds us =
    next_field (d.reads (comma_space (commas (field_printers (b ∷ ns) (operands (more_exs f es))) us))).derivation (fields-derived b ns f es h ds.0 ds.2 us)

pub record-printed : (a : Text) (ns : List Text) (es : Exs) → fit_fields (a ∷ ns) es ≡ true → Each es → Printed (plain_node (record_literal (a ∷ ns)) es)
record-printed a ns no_exs h k = cc
record-printed a ns (more_exs e es) h k = from-atom (λ us. record_atom (fields-derived a ns e es h k.0 k.2 (sign close_curly ∷ us)))
