-- That what says how many items a list has at most is right.
use Rattle.std.specs.Prelude.{◌≡◌, ℕ, Bool, true, false, ◌&&◌, List, [], ◌∷◌, length, Some, IsTrue, is_some, nat_eq, nat_le}
use Rattle.std.specs.List.{list_all}
use Rattle.ess_semantics.specs.Lists.{is_some_and, all_some}
use Rattle.ess_semantics.specs.Values.{Text, a_tuple, a_function, a_record, Value, node, Values, nil, cons, matrix, to_list, to_of, items_of}
use Rattle.ess_semantics.specs.Order.{same_texts}
use Rattle.ess_semantics.specs.Names.{Names}
use Rattle.ess_semantics.specs.Trees.{function_literal, Ex, node_ex, seen_ex}
use Rattle.ess_semantics.specs.Occurrences.{parts_of}
use Rattle.ess_semantics.specs.Domains.{Domain, Domains, tuples, records, matrices, functions, no_domains, more_domains, members}
use Rattle.ess_semantics.specs.Membership.{is_pair}
use Rattle.ess_semantics.specs.Operators.{at_component, at_field}
use Rattle.ess_semantics.specs.Meaning.{Env, meaning, meanings, domain_of}
use Rattle.ess_semantics.specs.Contexts.{Each}
use Rattle.ess_semantics.specs.Meets.{Meets}
use Rattle.ess_numbered_laws.specs.MostItems.{Pick, an_item, a_result, a_component, a_field, most_items}
use Rattle.ess_numbered_laws.specs.Bounds.{IsBound}

-- ---- values

-- Whether each value that the steps reach from the value has at most so many items.
abbrev pub reach_at_most : List Pick → ℕ → Value → Bool
reach_at_most [] n v = nat_le (length (items_of v)) n
reach_at_most (an_item ∷ ps) n v = list_all (reach_at_most ps n) (items_of v)
reach_at_most (a_result ∷ ps) n v = list_all (λ p. reach_at_most ps n (to_of p)) (items_of v)
reach_at_most (a_component k ∷ ps) n v = reach_at_most ps n (at_component v k)
reach_at_most (a_field a ∷ ps) n v = reach_at_most ps n (at_field v a)

-- Whether the value is a matrix over these index domains, nested, with an item for each member, and f holds of its elements.
abbrev pub is_nested : Domains → (Value → Bool) → Value → Bool
is_nested no_domains f v = f v
is_nested (more_domains i is) f (matrix ix xs) =
    is_some_and (members i) (λ vs. nat_eq (length vs) (length (to_list xs))) && list_all (is_nested is f) (to_list xs)
is_nested (more_domains i is) f v = false

abbrev mutual
  -- Whether the value follows the domain as far as a step leads: tuples, records and matrices have the parts of theirs, and results of
  -- functions follow theirs. Nothing is asked of members of sets and the like, of numbers or of attributes.
  pub follows : Domain → Value → Bool
  follows (tuples ds) (node a_tuple vs) = follow_each ds vs
  follows (records fs ds) (node (a_record gs) vs) = same_texts fs gs && follow_each ds vs
  follows (matrices is d) v = is_nested is (follows d) v
  follows (functions ks d c) (node a_function xs) = list_all (λ p. follows c (to_of p)) (to_list xs)
  follows (tuples ds) v = false
  follows (records fs ds) v = false
  follows (functions ks d c) v = false
  follows d v = true

  -- The same of components.
  pub follow_each : Domains → Values → Bool
  follow_each no_domains nil = true
  follow_each (more_domains d ds) (cons v vs) = follows d v && follow_each ds vs
  follow_each ds vs = false

-- ---- what is needed of parts

-- A view whose structures are met has a value that follows its domain, and operands of a function literal are pairs.
abbrev pub PartFits : Ex → Env → Type 0
PartFits (seen_ex r d ns es) env = Meets (seen_ex r d ns es) env → (v : Value) (c : Domain) → meaning (seen_ex r d ns es) env ≡ Some v →
    domain_of d env ≡ Some c → IsTrue (follows c v)
PartFits (node_ex false function_literal es) env = (xs : List Value) → all_some (meanings es env) ≡ Some xs → IsTrue (list_all is_pair xs)
PartFits e env = Unit {0}

-- So it is of each part, under any values of names.
abbrev pub PartsFit : Ex → Env → Type 0
PartsFit t env = Each (parts_of t) (λ e. (vals : Names Value) → PartFits e (record env { vals = vals }))

-- ---- the law

-- Where the number is there, and the structures of both are met, it bounds the list.
abbrev pub MostItemsBound : Type 0
MostItemsBound = (z : Text) (t n : Ex) → most_items z t ≡ Some n → (env : Env) → PartsFit t env → Meets t env → Meets n env →
    IsTrue (is_some (meaning n env)) → IsBound n t env
