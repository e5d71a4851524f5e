-- Which values that have a literal have a text: their numbers are those of number tokens, their tuples and records have parts,
-- and their names are name tokens.
use Rattle.std.specs.Prelude.{Bool, true, ◌&&◌, List, [], ◌∷◌}
use Rattle.ess_semantics.specs.Values.{a_tuple, a_matrix, a_record, Value, Values, number, node, nil, cons}
use Rattle.ess_semantics.specs.Meaning.{TypeEntry}
use Rattle.ess_grammar.specs.Readable.{is_name_token, are_name_tokens}
use Rattle.ess_print_laws.specs.Spelled.{is_spelled_number, some_values}

abbrev mutual
  -- Whether each number in the value, or its opposite, is below 2^63.
  pub numbers_fit : Value → Bool
  numbers_fit (number n) = is_spelled_number n
  numbers_fit (node k vs) = all_numbers_fit vs
  numbers_fit v = true

  -- The same of several values.
  pub all_numbers_fit : Values → Bool
  all_numbers_fit nil = true
  all_numbers_fit (cons v vs) = numbers_fit v && all_numbers_fit vs

abbrev mutual
  -- Whether each tuple and each record in the value has parts, and the fields of records are name tokens.
  pub parts_fit : Value → Bool
  parts_fit (node a_matrix (cons is (cons (node k xs) nil))) = all_parts_fit xs
  parts_fit (node a_tuple vs) = some_values vs && all_parts_fit vs
  parts_fit (node (a_record ns) vs) = some_values vs && are_name_tokens ns && all_parts_fit vs
  parts_fit (node k vs) = all_parts_fit vs
  parts_fit v = true

  -- The same of several values.
  pub all_parts_fit : Values → Bool
  all_parts_fit nil = true
  all_parts_fit (cons v vs) = parts_fit v && all_parts_fit vs

-- Whether the named types and their values have name tokens as names.
abbrev pub have_name_tokens : List TypeEntry → Bool
have_name_tokens [] = true
have_name_tokens (t ∷ ts) = is_name_token t.name && are_name_tokens t.names && have_name_tokens ts
