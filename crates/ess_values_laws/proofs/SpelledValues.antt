-- A value that a literal has is spelled where its numbers fit, and its names do: those of a readable literal, or those of an
-- env with name tokens.
use Rattle.std.proofs.Common.{◌≡◌, refl, sym, ap, ◌∙◌, subst, Bool, true, false, ◌&&◌, ◌||◌, List, [], ◌∷◌, Some}
use Rattle.std.specs.List.{list_all}
use Rattle.ess_semantics.specs.Lists.{all_some, is_empty, zip}
use Rattle.ess_semantics.specs.Values.{Text, a_function, Value, node, of_list, tuple, matrix}
use Rattle.ess_semantics.specs.Collections.{sorted_once, sorted}
use Rattle.ess_semantics.specs.Names.{keys, by_name}
use Rattle.ess_semantics.specs.Trees.{tuple_literal, function_literal, record_literal, Exs, name_ex, node_ex, no_exs, more_exs}
use Rattle.ess_semantics.specs.Types.{Ty, join_all}
use Rattle.ess_semantics.specs.OperatorTypes.{type_of_op, function_ty}
use Rattle.ess_semantics.specs.Operators.{list_value, record_value, numbers_from}
use Rattle.ess_semantics.specs.Membership.{is_pair}
use Rattle.ess_semantics.specs.Meaning.{Env}
use Rattle.ess_semantics.specs.Literals.{item_of_name, values_of_literals}
use Rattle.ess_semantics.proofs.Tests.{and-left, and-right, and-both}
use Rattle.ess_semantics.proofs.Sorting.{all-sorted_once}
use Rattle.ess_semantics.proofs.Multisets.{sorted-all}
use Rattle.ess_grammar.specs.Readable.{is_name_token, are_name_tokens, fit_fields, ReadableEx}
use Rattle.ess_print_laws.specs.Spelled.{some_values, fit_values, are_pairs_of_values, are_spelled_indices, is_spelled, are_spelled}
use Rattle.ess_values_laws.specs.ItemNames.{item_name}
use Rattle.ess_values_laws.specs.Spellable.{all_numbers_fit, all_parts_fit}
use Rattle.ess_values_laws.specs.Laws.{HasItemNames}
use Rattle.ess_values_laws.proofs.Options.{then-some}
use Rattle.ess_values_laws.proofs.JoinedTypes.{join-all-says}
use Rattle.ess_values_laws.proofs.Printed.{PrintedEach}
use Rattle.ess_values_laws.proofs.NamesOfItems.{item-names}
use Rattle.ess_values_laws.proofs.NameTokens.{item-token}
use Rattle.ess_values_laws.proofs.PairValues.{entries-pairs, pairs-of-values}
use Rattle.ess_values_laws.proofs.SpelledParts.{fits, fits-each, or-behind, spelled-list, Asked, SpelledIf, EachSpelledIf, each-spelled, members-spelled, some-operands, fields-tokens, fields-fit, field_values, some-fields, fields-each}
use Rattle.ess_values_laws.proofs.SpelledIndices.{list-indices-spelled}

module _ (env : Env) (names : HasItemNames env) where
  -- ---- names

  name-token : (m : Bool) (a : Text) (v : Value) → Asked env m (ReadableEx (name_ex a)) → item_of_name env.types a ≡ Some v → is_name_token a ≡ true
  name-token true a v q e = q
  name-token false a v q e = item-token env.types a v q e

  pub name-spelled : (m : Bool) (a : Text) (v : Value) → Asked env m (ReadableEx (name_ex a)) → item_of_name env.types a ≡ Some v → is_spelled (item_name env.types) v ≡ true
  name-spelled m a v q e =
      let r = item-names env.types a v names.1 e in
      ap (is_spelled (item_name env.types)) r.2 ∙ ap is_name_token r.3 ∙ name-token m a v q e

  -- ---- tuples

  some-parts : (m : Bool) (b : Bool) (es : Exs) (xs : List Value) → Asked env m (ReadableEx (node_ex b tuple_literal es)) → all_some (values_of_literals es env) ≡ Some xs →
      fits m (tuple (of_list xs)) ≡ true → some_values (of_list xs) ≡ true
  some-parts true b no_exs xs q e h = let f = q.1 in cc
  some-parts true b (more_exs x es) xs q e h = let y = some-operands env x es xs e in ap (λ l. some_values (of_list l)) (sym y.2)
  some-parts false b es xs q e h =
      and-left (some_values (of_list xs)) (all_parts_fit (of_list xs)) (and-right (all_numbers_fit (of_list xs)) (some_values (of_list xs) && all_parts_fit (of_list xs)) h)

  pub tuple-spelled : (m : Bool) (b : Bool) (es : Exs) (xs : List Value) → Asked env m (ReadableEx (node_ex b tuple_literal es)) → all_some (values_of_literals es env) ≡ Some xs →
      EachSpelledIf env m xs → SpelledIf env m (tuple (of_list xs))
  tuple-spelled m b es xs q e each h =
      let numbers = and-left (all_numbers_fit (of_list xs)) (m || (some_values (of_list xs) && all_parts_fit (of_list xs))) h in
      let parts = or-behind m (some_values (of_list xs)) (all_parts_fit (of_list xs)) (and-right (all_numbers_fit (of_list xs)) (m || (some_values (of_list xs) && all_parts_fit (of_list xs))) h) in
      and-both (some_values (of_list xs)) (are_spelled (item_name env.types) (of_list xs)) (some-parts m b es xs q e h)
      (spelled-list env xs ∙ each-spelled env m xs each (fits-each m xs numbers parts))

  -- ---- records

  -- the fields of a record
  abbrev fields : List Text → List Value → List (Text × Value)
  fields ns xs = by_name (zip ns xs)

  -- what is asked of the fields and the names
  abbrev FieldsHave : List Text → List Value → Type 0
  FieldsHave ns xs = (some_values (of_list (field_values (fields ns xs))) ≡ true) × (are_name_tokens (keys (fields ns xs)) ≡ true)

  fields-have : (m : Bool) (b : Bool) (ns : List Text) (es : Exs) (xs : List Value) → Asked env m (ReadableEx (node_ex b (record_literal ns) es)) → all_some (values_of_literals es env) ≡ Some xs →
      fits m (record_value (fields ns xs)) ≡ true → FieldsHave ns xs
  fields-have true b [] es xs q e h = let f = q.1 in cc
  fields-have true b (n ∷ ns) no_exs xs q e h =
      let f = and-right (are_name_tokens (n ∷ ns)) (fit_fields (n ∷ ns) no_exs) q.1 in cc
  fields-have true b (n ∷ ns) (more_exs x es) xs q e h =
      let y = some-operands env x es xs e in
      subst (FieldsHave (n ∷ ns)) y.2
      (some-fields n ns y.0 y.1, fields-tokens (n ∷ ns) (y.0 ∷ y.1) (and-left (are_name_tokens (n ∷ ns)) (fit_fields (n ∷ ns) (more_exs x es)) q.1))
  fields-have false b ns es xs q e h =
      let vs = of_list (field_values (fields ns xs)) in
      let ks = keys (fields ns xs) in
      let both = and-left (some_values vs && are_name_tokens ks) (all_parts_fit vs) (and-right (all_numbers_fit vs) (some_values vs && are_name_tokens ks && all_parts_fit vs) h) in
      (and-left (some_values vs) (are_name_tokens ks) both, and-right (some_values vs) (are_name_tokens ks) both)

  pub record-spelled : (m : Bool) (b : Bool) (ns : List Text) (es : Exs) (xs : List Value) → Asked env m (ReadableEx (node_ex b (record_literal ns) es)) → all_some (values_of_literals es env) ≡ Some xs →
      EachSpelledIf env m xs → SpelledIf env m (record_value (fields ns xs))
  record-spelled m b ns es xs q e each h =
      let fs = fields ns xs in
      let vs = of_list (field_values fs) in
      let have = fields-have m b ns es xs q e h in
      let numbers = and-left (all_numbers_fit vs) (m || (some_values vs && are_name_tokens (keys fs) && all_parts_fit vs)) h in
      let parts = or-behind m (some_values vs && are_name_tokens (keys fs)) (all_parts_fit vs) (and-right (all_numbers_fit vs) (m || (some_values vs && are_name_tokens (keys fs) && all_parts_fit vs)) h) in
      and-both (some_values vs && (are_name_tokens (keys fs) && fit_values (keys fs) vs)) (are_spelled (item_name env.types) vs)
      (and-both (some_values vs) (are_name_tokens (keys fs) && fit_values (keys fs) vs) have.0 (and-both (are_name_tokens (keys fs)) (fit_values (keys fs) vs) have.1 (fields-fit fs)))
      (spelled-list env (field_values fs) ∙ each-spelled env m (field_values fs) (fields-each env m ns xs each) (fits-each m (field_values fs) numbers parts))

  -- ---- sets and the like

  -- members in order
  pub sorted_once-spelled : (m : Bool) (xs : List Value) → EachSpelledIf env m xs → all_numbers_fit (of_list (sorted_once xs)) && (m || all_parts_fit (of_list (sorted_once xs))) ≡ true →
      (list_all (is_spelled (item_name env.types)) xs ≡ true) × (are_spelled (item_name env.types) (of_list (sorted_once xs)) ≡ true)
  sorted_once-spelled m xs each h =
      let s = members-spelled env m xs (sorted_once xs) each (λ f. all-sorted_once f xs) h in
      (s, spelled-list env (sorted_once xs) ∙ all-sorted_once (is_spelled (item_name env.types)) xs ∙ s)

  pub sorted-spelled : (m : Bool) (xs : List Value) → EachSpelledIf env m xs → all_numbers_fit (of_list (sorted xs)) && (m || all_parts_fit (of_list (sorted xs))) ≡ true →
      are_spelled (item_name env.types) (of_list (sorted xs)) ≡ true
  sorted-spelled m xs each h =
      let s = members-spelled env m xs (sorted xs) each (λ f. sorted-all f xs) h in
      spelled-list env (sorted xs) ∙ sorted-all (is_spelled (item_name env.types)) xs ∙ s

  pub function-spelled : (m : Bool) (xs : List Value) (ts : List Ty) (t : Ty) → PrintedEach env xs ts → type_of_op function_literal ts ≡ Some t →
      EachSpelledIf env m xs → SpelledIf env m (node a_function (of_list (sorted_once xs)))
  function-spelled m xs ts t p e each h =
      let s = then-some (join_all ts) function_ty t e in
      let r = sorted_once-spelled m xs each h in
      let pairs = entries-pairs env xs ts s.0 t p (join-all-says ts s.0 s.1) s.2 r.0 in
      and-both (are_pairs_of_values (of_list (sorted_once xs))) (are_spelled (item_name env.types) (of_list (sorted_once xs)))
      (pairs-of-values (sorted_once xs) (all-sorted_once is_pair xs ∙ pairs)) r.1

  -- ---- matrices

  pub items-spelled : (m : Bool) (is xs : List Value) → (is_empty xs ≡ false → all_numbers_fit (of_list is) ≡ true → are_spelled_indices (of_list is) ≡ true) →
      EachSpelledIf env m xs → SpelledIf env m (matrix (of_list is) (of_list xs))
  items-spelled m is [] d each h = refl
  items-spelled m is (x ∷ xs) d each h =
      let ys = x ∷ xs in
      let numbers = and-left (all_numbers_fit (of_list is) && (all_numbers_fit (of_list ys) && true)) (m || all_parts_fit (of_list ys)) h in
      let parts = and-right (all_numbers_fit (of_list is) && (all_numbers_fit (of_list ys) && true)) (m || all_parts_fit (of_list ys)) h in
      and-both (are_spelled_indices (of_list is)) (are_spelled (item_name env.types) (of_list ys))
      (d refl (and-left (all_numbers_fit (of_list is)) (all_numbers_fit (of_list ys) && true) numbers))
      (spelled-list env ys ∙ each-spelled env m ys each (fits-each m ys
      (and-left (all_numbers_fit (of_list ys)) true (and-right (all_numbers_fit (of_list is)) (all_numbers_fit (of_list ys) && true) numbers)) parts))

  pub list-spelled : (m : Bool) (xs : List Value) → EachSpelledIf env m xs → SpelledIf env m (list_value xs)
  list-spelled m [] each h = refl
  list-spelled m (x ∷ xs) each h = items-spelled m (numbers_from 1 (x ∷ xs)) (x ∷ xs) (λ e k. list-indices-spelled x xs k) each h
