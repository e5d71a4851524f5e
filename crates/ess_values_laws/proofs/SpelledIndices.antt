-- The indices of a matrix that a literal has are spelled, where its numbers and names fit.
use Rattle.std.proofs.Common.{◌≡◌, refl, sym, ap, ◌∙◌, subst, ℕ, zero, suc, Bool, true, false, List, [], ◌∷◌, Option, Some, None, option_map}
use Rattle.std.specs.List.{list_all}
use Rattle.ess_semantics.specs.Lists.{is_empty, list_or_none}
use Rattle.ess_semantics.specs.Values.{Text, Value, number, truth, item, node, of_list}
use Rattle.ess_semantics.specs.Operators.{numbers_from}
use Rattle.ess_semantics.specs.Trees.{Dom, bool_dom, int_dom, name_dom, tuple_dom, record_dom, matrix_dom, set_dom, mset_dom, function_dom, relation_dom, partition_dom}
use Rattle.ess_semantics.specs.Domains.{Span, integers, items_from}
use Rattle.ess_semantics.specs.Membership.{member}
use Rattle.ess_semantics.specs.Meaning.{Env, TypeEntry, type_entry, named_domain, members_in, domain_of, meanings, spans_of}
use Rattle.ess_semantics.specs.Literals.{is_literal_index}
use Rattle.ess_semantics.proofs.Tests.{and-left, and-right, and-both}
use Rattle.ess_semantics.proofs.MemberLists.{integers-listed}
use Rattle.ess_grammar.specs.Readable.{is_name_token, ReadableDom}
use Rattle.ess_print_laws.specs.Spelled.{is_spelled_number, are_spelled_numbers, are_spelled_indices}
use Rattle.ess_values_laws.specs.Spellable.{all_numbers_fit}
use Rattle.ess_values_laws.proofs.IntervalRuns.{AllNumbers}
use Rattle.ess_values_laws.proofs.IndexDomains.{all-numbers}
use Rattle.ess_values_laws.proofs.NameTokens.{type-token}
use Rattle.ess_values_laws.proofs.SpelledParts.{Asked}

numbers-spelled : (vs : List Value) → AllNumbers vs → all_numbers_fit (of_list vs) ≡ true → are_spelled_numbers (of_list vs) ≡ true
numbers-spelled [] a h = refl
numbers-spelled (number n ∷ vs) a h =
    and-both (is_spelled_number n) (are_spelled_numbers (of_list vs)) (and-left (is_spelled_number n) (all_numbers_fit (of_list vs)) h)
    (numbers-spelled vs a (and-right (is_spelled_number n) (all_numbers_fit (of_list vs)) h))
numbers-spelled (truth b ∷ vs) a h = absurd a
numbers-spelled (item t k ∷ vs) a h = absurd a
numbers-spelled (node k us ∷ vs) a h = absurd a

-- one number or more
some-numbers-spelled : (vs : List Value) → is_empty vs ≡ false → AllNumbers vs → all_numbers_fit (of_list vs) ≡ true → are_spelled_indices (of_list vs) ≡ true
some-numbers-spelled [] e a h = cc
some-numbers-spelled (number n ∷ vs) e a h = numbers-spelled (number n ∷ vs) a h
some-numbers-spelled (truth b ∷ vs) e a h = absurd a
some-numbers-spelled (item t k ∷ vs) e a h = absurd a
some-numbers-spelled (node k us ∷ vs) e a h = absurd a

-- the numbers of a list
numbers-all : (k : ℕ) (xs : List Value) → AllNumbers (numbers_from k xs)
numbers-all k [] = tt
numbers-all k (x ∷ xs) = numbers-all (suc k) xs

-- The indices of a list that isn't empty.
pub list-indices-spelled : (x : Value) (xs : List Value) → all_numbers_fit (of_list (numbers_from 1 (x ∷ xs))) ≡ true → are_spelled_indices (of_list (numbers_from 1 (x ∷ xs))) ≡ true
list-indices-spelled x xs h = numbers-spelled (numbers_from 1 (x ∷ xs)) (numbers-all 1 (x ∷ xs)) h

items-spelled : (a : Text) (n : ℕ) → is_name_token a ≡ true → is_empty (items_from a 1 n) ≡ false → are_spelled_indices (of_list (items_from a 1 n)) ≡ true
items-spelled a zero t e = cc
items-spelled a (suc n) t e = t

module _ (env : Env) where
  -- a named type
  named-spelled : (m : Bool) (a : Text) (o : Option TypeEntry) (vs : List Value) → Asked env m (ReadableDom (name_dom a)) → type_entry env.types a ≡ o →
      members_in (named_domain false a o) ≡ Some vs → is_empty vs ≡ false → are_spelled_indices (of_list vs) ≡ true
  named-spelled m a None vs q e h k = cc
  named-spelled m a (Some t) vs q e h k =
      let f : items_from a 1 t.count ≡ vs = cc in
      subst (λ l. are_spelled_indices (of_list l) ≡ true) f (items-spelled a t.count (go m q) (ap is_empty f ∙ k))
    where
      go : (m : Bool) → Asked env m (ReadableDom (name_dom a)) → is_name_token a ≡ true
      go true q = q
      go false q = type-token env.types a t q e

  -- Each index domain of a literal with members.
  pub index-spelled : (m : Bool) (d : Dom) (vs : List Value) → env.positions ≡ false → Asked env m (ReadableDom d) → is_literal_index d ≡ true → members_in (domain_of d env) ≡ Some vs →
      is_empty vs ≡ false → all_numbers_fit (of_list vs) ≡ true → are_spelled_indices (of_list vs) ≡ true
  index-spelled m bool_dom vs p q l e k h = let f : truth false ∷ truth true ∷ [] ≡ vs = cc in subst (λ l. are_spelled_indices (of_list l) ≡ true) f refl
  index-spelled m (name_dom a) vs p q l e k h =
      named-spelled m a (type_entry env.types a) vs q refl (ap (λ b. members_in (named_domain b a (type_entry env.types a))) (sym p) ∙ e) k
  index-spelled m (int_dom rs es) vs p q l e k h = go (spans_of rs (meanings es env)) e
    where
      go : (o : Option (List Span)) → members_in (option_map integers o) ≡ Some vs → are_spelled_indices (of_list vs) ≡ true
      go None e = cc
      go (Some ss) e =
          some-numbers-spelled vs k (all-numbers env ss vs (ap (λ o. list_all (member (integers ss)) (list_or_none o)) (sym e) ∙ (integers-listed ss).members)) h
  index-spelled m (tuple_dom ds) vs p q l e k h = cc
  index-spelled m (record_dom ns ds) vs p q l e k h = cc
  index-spelled m (matrix_dom ds d) vs p q l e k h = cc
  index-spelled m (set_dom ms es d) vs p q l e k h = cc
  index-spelled m (mset_dom ms es d) vs p q l e k h = cc
  index-spelled m (function_dom ms es c d) vs p q l e k h = cc
  index-spelled m (relation_dom ms es ds) vs p q l e k h = cc
  index-spelled m (partition_dom ms es d) vs p q l e k h = cc
