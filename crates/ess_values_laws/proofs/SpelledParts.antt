-- The parts of a value that a literal has are spelled, where its numbers and names fit.
use Rattle.std.proofs.Common.{◌≡◌, refl, sym, ap, ◌∙◌, Bool, true, false, ◌&&◌, ◌||◌, List, [], ◌∷◌, map, Some, option_map}
use Rattle.std.specs.List.{list_all}
use Rattle.std.specs.declared.cmp.Ordering.{Ordering}
use Rattle.std.specs.declared.cmp.Ordering.TheVariants.{Less, Equal, Greater}
use Rattle.ess_semantics.specs.Lists.{all_some, zip}
use Rattle.ess_semantics.specs.Values.{Text, Value, of_list}
use Rattle.ess_semantics.specs.Order.{order_text}
use Rattle.ess_semantics.specs.Names.{Names, keys, insert_by, insert_name, by_name}
use Rattle.ess_semantics.specs.Trees.{Ex, Exs, more_exs}
use Rattle.ess_semantics.specs.Meaning.{Env}
use Rattle.ess_semantics.specs.Literals.{value_of_literal, values_of_literals}
use Rattle.ess_semantics.proofs.Tests.{and-left, and-right, and-both}
use Rattle.ess_grammar.specs.Readable.{is_name_token, are_name_tokens}
use Rattle.ess_print_laws.specs.Spelled.{some_values, fit_values, is_spelled, are_spelled}
use Rattle.ess_values_laws.specs.ItemNames.{item_name}
use Rattle.ess_values_laws.specs.Spellable.{numbers_fit, all_numbers_fit, parts_fit, all_parts_fit, have_name_tokens}
use Rattle.ess_values_laws.proofs.Options.{then-some, map-some}

-- ---- lists

pub numbers-list : (xs : List Value) → all_numbers_fit (of_list xs) ≡ list_all numbers_fit xs
numbers-list [] = refl
numbers-list (x ∷ xs) = ap (λ b. numbers_fit x && b) (numbers-list xs)

pub parts-list : (xs : List Value) → all_parts_fit (of_list xs) ≡ list_all parts_fit xs
parts-list [] = refl
parts-list (x ∷ xs) = ap (λ b. parts_fit x && b) (parts-list xs)

-- What is asked of a value: its numbers fit, and where m is false its parts.
abbrev pub fits : Bool → Value → Bool
fits m v = numbers_fit v && (m || parts_fit v)

numbers-alone : (xs : List Value) → list_all numbers_fit xs ≡ true → list_all (fits true) xs ≡ true
numbers-alone [] h = refl
numbers-alone (x ∷ xs) h =
    and-both (fits true x) (list_all (fits true) xs) (and-both (numbers_fit x) true (and-left (numbers_fit x) (list_all numbers_fit xs) h) refl)
    (numbers-alone xs (and-right (numbers_fit x) (list_all numbers_fit xs) h))

numbers-and-parts : (xs : List Value) → list_all numbers_fit xs ≡ true → list_all parts_fit xs ≡ true → list_all (fits false) xs ≡ true
numbers-and-parts [] h k = refl
numbers-and-parts (x ∷ xs) h k =
    and-both (fits false x) (list_all (fits false) xs)
    (and-both (numbers_fit x) (parts_fit x) (and-left (numbers_fit x) (list_all numbers_fit xs) h) (and-left (parts_fit x) (list_all parts_fit xs) k))
    (numbers-and-parts xs (and-right (numbers_fit x) (list_all numbers_fit xs) h) (and-right (parts_fit x) (list_all parts_fit xs) k))

-- What fits of all parts fits of each.
pub fits-each : (m : Bool) (xs : List Value) → all_numbers_fit (of_list xs) ≡ true → m || all_parts_fit (of_list xs) ≡ true → list_all (fits m) xs ≡ true
fits-each true xs h k = numbers-alone xs (sym (numbers-list xs) ∙ h)
fits-each false xs h k = numbers-and-parts xs (sym (numbers-list xs) ∙ h) (sym (parts-list xs) ∙ k)

-- where m is false, what stands behind a test
pub or-behind : (m p q : Bool) → m || (p && q) ≡ true → m || q ≡ true
or-behind true p q h = refl
or-behind false p q h = and-right p q h

module _ (env : Env) where
  pub spelled-list : (xs : List Value) → are_spelled (item_name env.types) (of_list xs) ≡ list_all (is_spelled (item_name env.types)) xs
  spelled-list [] = refl
  spelled-list (x ∷ xs) = ap (λ b. is_spelled (item_name env.types) x && b) (spelled-list xs)

  -- What is asked of a literal: that it is readable, or else that the names of the env are name tokens.
  abbrev pub Asked : Bool → Type 0 → Type 0
  Asked true A = A
  Asked false A = have_name_tokens env.types ≡ true

  -- The value is spelled where it fits.
  abbrev pub SpelledIf : Bool → Value → Type 0
  SpelledIf m v = fits m v ≡ true → is_spelled (item_name env.types) v ≡ true

  abbrev pub EachSpelledIf : Bool → List Value → Type 0
  EachSpelledIf m [] = Unit {0}
  EachSpelledIf m (x ∷ xs) = SpelledIf m x × EachSpelledIf m xs

  pub each-spelled : (m : Bool) (xs : List Value) → EachSpelledIf m xs → list_all (fits m) xs ≡ true → list_all (is_spelled (item_name env.types)) xs ≡ true
  each-spelled m [] h k = refl
  each-spelled m (x ∷ xs) h k =
      and-both (is_spelled (item_name env.types) x) (list_all (is_spelled (item_name env.types)) xs)
      (h.0 (and-left (fits m x) (list_all (fits m) xs) k)) (each-spelled m xs h.1 (and-right (fits m x) (list_all (fits m) xs) k))

  -- members in another order
  pub members-spelled : (m : Bool) (xs ys : List Value) → EachSpelledIf m xs → ((f : Value → Bool) → list_all f ys ≡ list_all f xs) →
      all_numbers_fit (of_list ys) && (m || all_parts_fit (of_list ys)) ≡ true → list_all (is_spelled (item_name env.types)) xs ≡ true
  members-spelled m xs ys h f k =
      each-spelled m xs h (sym (f (fits m)) ∙ fits-each m ys (and-left (all_numbers_fit (of_list ys)) (m || all_parts_fit (of_list ys)) k) (and-right (all_numbers_fit (of_list ys)) (m || all_parts_fit (of_list ys)) k))

  -- A literal with operands has operands' values.
  pub some-operands : (e : Ex) (es : Exs) (xs : List Value) → all_some (values_of_literals (more_exs e es) env) ≡ Some xs → (y : Value) × (ys : List Value) × (y ∷ ys ≡ xs)
  some-operands e es xs q =
      let v = then-some (value_of_literal e env) (λ x. option_map (λ ws. x ∷ ws) (all_some (values_of_literals es env))) xs q in
      let ws = map-some (all_some (values_of_literals es env)) (λ ws. v.0 ∷ ws) xs v.2 in (v.0, ws.0, ws.2)

-- ---- fields

insert-tokens : {A : Type 0} (x : Text × A) (xs : Names A) → is_name_token x.0 ≡ true → are_name_tokens (keys xs) ≡ true → are_name_tokens (keys (insert_name x xs)) ≡ true
insert-tokens x [] h k = and-both (is_name_token x.0) true h refl
insert-tokens x (y ∷ ys) h k = go (order_text x.0 y.0) (insert-tokens x ys h (and-right (is_name_token y.0) (are_name_tokens (keys ys)) k))
  where
    first : are_name_tokens (keys (x ∷ y ∷ ys)) ≡ true
    first = and-both (is_name_token x.0) (are_name_tokens (keys (y ∷ ys))) h k

    go : (o : Ordering) → are_name_tokens (keys (insert_name x ys)) ≡ true → are_name_tokens (keys (insert_by o x y ys (insert_name x ys))) ≡ true
    go Less ih = first
    go Equal ih = first
    go Greater ih = and-both (is_name_token y.0) (are_name_tokens (keys (insert_name x ys))) (and-left (is_name_token y.0) (are_name_tokens (keys ys)) k) ih

by-name-tokens : {A : Type 0} (xs : Names A) → are_name_tokens (keys xs) ≡ true → are_name_tokens (keys (by_name xs)) ≡ true
by-name-tokens [] h = refl
by-name-tokens (x ∷ xs) h =
    insert-tokens x (by_name xs) (and-left (is_name_token x.0) (are_name_tokens (keys xs)) h) (by-name-tokens xs (and-right (is_name_token x.0) (are_name_tokens (keys xs)) h))

zip-tokens : {A : Type 0} (ns : List Text) (xs : List A) → are_name_tokens ns ≡ true → are_name_tokens (keys (zip ns xs)) ≡ true
zip-tokens [] xs h = refl
zip-tokens (n ∷ ns) [] h = refl
zip-tokens (n ∷ ns) (x ∷ xs) h =
    and-both (is_name_token n) (are_name_tokens (keys (zip ns xs))) (and-left (is_name_token n) (are_name_tokens ns) h)
    (zip-tokens ns xs (and-right (is_name_token n) (are_name_tokens ns) h))

-- The fields by name are name tokens where they are.
pub fields-tokens : {A : Type 0} (ns : List Text) (xs : List A) → are_name_tokens ns ≡ true → are_name_tokens (keys (by_name (zip ns xs))) ≡ true
fields-tokens ns xs h = by-name-tokens (zip ns xs) (zip-tokens ns xs h)

pub fields-fit : (xs : Names Value) → fit_values (keys xs) (of_list (map (λ x. x.1) xs)) ≡ true
fields-fit [] = refl
fields-fit (x ∷ xs) = fields-fit xs

-- the values of fields
abbrev pub field_values : Names Value → List Value
field_values xs = map (λ x. x.1) xs

insert-some : (x : Text × Value) (xs : Names Value) → some_values (of_list (field_values (insert_name x xs))) ≡ true
insert-some x [] = refl
insert-some x (y ∷ ys) = go (order_text x.0 y.0)
  where
    go : (o : Ordering) → some_values (of_list (field_values (insert_by o x y ys (insert_name x ys)))) ≡ true
    go Less = refl
    go Equal = refl
    go Greater = refl

-- There is a field where there are a name and a value.
pub some-fields : (n : Text) (ns : List Text) (x : Value) (xs : List Value) → some_values (of_list (field_values (by_name (zip (n ∷ ns) (x ∷ xs))))) ≡ true
some-fields n ns x xs = insert-some (n, x) (by_name (zip ns xs))

module _ (env : Env) (m : Bool) where
  insert-each : (x : Text × Value) (xs : Names Value) → SpelledIf env m x.1 → EachSpelledIf env m (field_values xs) → EachSpelledIf env m (field_values (insert_name x xs))
  insert-each x [] h k = (h, tt)
  insert-each x (y ∷ ys) h k = go (order_text x.0 y.0) (insert-each x ys h k.1)
    where
      go : (o : Ordering) → EachSpelledIf env m (field_values (insert_name x ys)) → EachSpelledIf env m (field_values (insert_by o x y ys (insert_name x ys)))
      go Less ih = (h, k)
      go Equal ih = (h, k)
      go Greater ih = (k.0, ih)

  by-name-each : (xs : Names Value) → EachSpelledIf env m (field_values xs) → EachSpelledIf env m (field_values (by_name xs))
  by-name-each [] h = tt
  by-name-each (x ∷ xs) h = insert-each x (by_name xs) h.0 (by-name-each xs h.1)

  zip-each : (ns : List Text) (xs : List Value) → EachSpelledIf env m xs → EachSpelledIf env m (field_values (zip ns xs))
  zip-each [] xs h = tt
  zip-each (n ∷ ns) [] h = tt
  zip-each (n ∷ ns) (x ∷ xs) h = (h.0, zip-each ns xs h.1)

  -- The fields' values are spelled where they fit.
  pub fields-each : (ns : List Text) (xs : List Value) → EachSpelledIf env m xs → EachSpelledIf env m (field_values (by_name (zip ns xs)))
  fields-each ns xs h = by-name-each (zip ns xs) (zip-each ns xs h)
