-- The meaning of expressions under the values of names and under tables, and the domains that domain expressions
-- denote. Undefined terms have the relational meaning of Frisch and Stuckey (2009): the nearest Boolean is false.
use Rattle.std.specs.Prelude.{ℕ, Bool, true, false, List, [], ◌∷◌, ◌++◌, map, length, ℤ, pos, Option, Some, None, nat_eq, option_map, is_some}
use Rattle.ess_semantics.specs.Lists.{and_then, when, all_some}
use Rattle.ess_semantics.specs.Values.{Text, Value, number, truth, of_list, items_of, matrix}
use Rattle.ess_semantics.specs.Order.{same_text}
use Rattle.ess_semantics.specs.Names.{Names, look}
use Rattle.ess_semantics.specs.Trees.{Ends, one_value, both_ends, low_end, high_end, Mark, flag, valued, Repr, Pat, Pats, name_pat, tuple_pat, no_pats, more_pats, Ex, Exs, number_ex, truth_ex, name_ex, node_ex, matrix_ex, comp_ex, cell_ex, seen_ex, no_exs, more_exs, Gens, no_gens, over, from, cond, Dom, Doms, bool_dom, int_dom, name_dom, tuple_dom, record_dom, matrix_dom, set_dom, mset_dom, function_dom, relation_dom, partition_dom, no_doms, more_doms}
use Rattle.ess_semantics.specs.Operators.{misfit, number_in, value_of_node, false_where_undefined, list_value}
use Rattle.ess_semantics.specs.Domains.{Span, Attribute, numbered, flagged, Domain, Domains, booleans, integers, named, tuples, records, matrices, sets, msets, functions, relations, partitions, no_domains, more_domains, members, between}
use Rattle.ess_semantics.specs.Tables.{Table, Tables, cell_at, truth_of, code}
use Rattle.ess_semantics.specs.Representations.{value_of_tables}

-- A named type with its number of values, and with their names where it is an enumerated one.
pub record TypeEntry : Type 0 where
  pub name : Text
  pub count : ℕ
  pub names : List Text

-- The named types, the values of names, and the tables. Where `positions` is true a value of a named type counts as its
-- position: so it is under tables.
pub record Env : Type 0 where
  pub positions : Bool
  pub types : List TypeEntry
  pub vals : Names Value
  pub cells : Names Table

-- No types, names or tables.
abbrev pub empty_env : Env
empty_env = record { positions = false; types = []; vals = []; cells = [] }

-- The entry of a named type.
abbrev pub type_entry : List TypeEntry → Text → Option TypeEntry
type_entry [] a = None
type_entry (t ∷ ts) a = elim (same_text t.name a) [ true ↦ Some t | false ↦ type_entry ts a ]

-- ---- names that patterns bind

abbrev mutual
  -- The values of names, with those that a pattern binds at a value.
  pub bind : Pat → Value → Names Value → Names Value
  bind (name_pat a) v g = (a, v) ∷ g
  bind (tuple_pat ps) v g = bind_all ps (items_of v) g

  -- The same of several patterns at the parts of a tuple. Where parts are missing, which no well-typed tree has, each name
  -- is bound still.
  pub bind_all : Pats → List Value → Names Value → Names Value
  bind_all no_pats vs g = g
  bind_all (more_pats p ps) [] g = bind_all ps [] (bind p misfit g)
  bind_all (more_pats p ps) (v ∷ vs) g = bind_all ps vs (bind p v g)

-- The env with the names that a pattern binds.
abbrev pub with_pat : Pat → Value → Env → Env
with_pat p v env = record env { vals = bind p v env.vals }

-- ---- bindings

-- The answers of f on all values, one list behind the other, where each is there.
abbrev pub collect : {A : Type 0} → List Value → (Value → Option (List A)) → Option (List A)
collect [] f = Some []
collect (v ∷ vs) f = and_then (f v) (λ xs. option_map (λ ys. xs ++ ys) (collect vs f))

-- The answer where the condition is true, else no items.
abbrev pub where_true : {A : Type 0} → Option Value → (Unit {0} → Option (List A)) → Option (List A)
where_true (Some (truth true)) f = f tt
where_true _ f = Some []

-- ---- numbers in domains

-- The whole number that a bound or an attribute reads.
abbrev pub as_int : Option Value → Option ℤ
as_int o = option_map number_in o

-- One more range in front.
abbrev pub with_span : Option ℤ → Option ℤ → Option (List Span) → Option (List Span)
with_span a b o = option_map (λ ss. record { low = a; high = b } ∷ ss) o

-- The ranges, where each bound has a meaning.
abbrev pub spans_of : List Ends → List (Option Value) → Option (List Span)
spans_of [] [] = Some []
spans_of (one_value ∷ rs) (a ∷ os) = and_then (as_int a) (λ n. with_span (Some n) (Some n) (spans_of rs os))
spans_of (both_ends ∷ rs) (a ∷ b ∷ os) = and_then (as_int a) (λ n. and_then (as_int b) (λ m. with_span (Some n) (Some m) (spans_of rs os)))
spans_of (low_end ∷ rs) (a ∷ os) = and_then (as_int a) (λ n. with_span (Some n) None (spans_of rs os))
spans_of (high_end ∷ rs) (b ∷ os) = and_then (as_int b) (λ m. with_span None (Some m) (spans_of rs os))
spans_of _ _ = None

-- The attributes, where each number has a meaning.
abbrev pub attributes_of : List Mark → List (Option Value) → Option (List Attribute)
attributes_of [] [] = Some []
attributes_of (flag k ∷ ms) os = option_map (λ ks. flagged k ∷ ks) (attributes_of ms os)
attributes_of (valued k ∷ ms) (o ∷ os) = and_then (as_int o) (λ n. option_map (λ ks. numbered k n ∷ ks) (attributes_of ms os))
attributes_of _ _ = None

-- A named type, or its positions. A position outside the type is a number like any other here, and a view of one is not
-- tidy.
abbrev pub named_domain : Bool → Text → Option TypeEntry → Option Domain
named_domain b a None = None
named_domain true a (Some t) = Some (between (pos 1) (pos t.count))
named_domain false a (Some t) = Some (named a t.count)

-- The members of a domain that is there.
abbrev pub members_in : Option Domain → Option (List Value)
members_in o = and_then o members

-- A matrix with an index domain has as many items as that domain has members.
abbrev pub matrix_value : Option (List Value) → List Value → Option Value
matrix_value None xs = None
matrix_value (Some is) xs = when (nat_eq (length is) (length xs)) (matrix (of_list is) (of_list xs))

-- ---- tables

-- The item of a table as a value: a Boolean is true where it is 1.
abbrev pub cell_value : Bool → ℤ → Value
cell_value true n = truth (elim (truth_of n) [ Some b ↦ b | None ↦ false ])
cell_value false n = number n

-- The numbers of an index list, where each index has a value.
abbrev pub indices : List (Option Value) → Option (List ℤ)
indices os = option_map (map code) (all_some os)

-- The value of a cell, where the table and each index are there.
abbrev pub cell_in : Bool → Option Table → Option (List ℤ) → Option Value
cell_in b None is = None
cell_in b (Some t) None = None
cell_in b (Some t) (Some is) = option_map (cell_value b) (cell_at t is)

-- The tables of these names, where each is there.
abbrev pub tables_in : Names Table → List Text → Option Tables
tables_in cs ns = all_some (map (look cs) ns)

-- The value that the tables of a view stand for.
abbrev pub seen_in : Repr → Option Domain → Option Tables → Option (List ℤ) → Option Value
seen_in r d c is = and_then d (λ e. and_then c (λ ts. and_then is (λ i. value_of_tables r e ts i)))

-- Whether a domain is bool.
abbrev pub is_bool_dom : Dom → Bool
is_bool_dom bool_dom = true
is_bool_dom _ = false

abbrev mutual
  -- The value of a resolved expression, or nothing. Where the env has no tables this is the meaning in a specification.
  pub meaning : Ex → Env → Option Value
  meaning (number_ex n) env = Some (number n)
  meaning (truth_ex b) env = Some (truth b)
  meaning (name_ex a) env = look env.vals a
  meaning (node_ex b op es) env = false_where_undefined b (value_of_node op (meanings es env))
  meaning (matrix_ex es d) env = and_then (all_some (meanings es env)) (matrix_value (members_in (domain_of d env)))
  meaning (comp_ex e gs) env = option_map list_value (items_under gs env (λ here. option_map (λ v. v ∷ []) (meaning e here)))
  meaning (cell_ex b n es) env = false_where_undefined b (cell_in b (look env.cells n) (indices (meanings es env)))
  meaning (seen_ex r d ns es) env =
      false_where_undefined (is_bool_dom d) (seen_in r (domain_of d env) (tables_in env.cells ns) (indices (meanings es env)))

  -- The values of operands, each there or not.
  pub meanings : Exs → Env → List (Option Value)
  meanings no_exs env = []
  meanings (more_exs e es) env = meaning e env ∷ meanings es env

  -- The items over all bindings of the generators whose conditions hold, from left to right.
  pub items_under : Gens → Env → (Env → Option (List Value)) → Option (List Value)
  items_under no_gens env k = k env
  items_under (over p d gs) env k =
      and_then (members_in (domain_of d env)) (λ vs. collect vs (λ v. items_under gs (with_pat p v env) k))
  items_under (from p e gs) env k =
      and_then (meaning e env) (λ s. collect (items_of s) (λ v. items_under gs (with_pat p v env) k))
  items_under (cond e gs) env k = where_true (meaning e env) (λ u. items_under gs env k)

  -- The domain that a domain expression denotes, where each bound and attribute value in it has a meaning.
  pub domain_of : Dom → Env → Option Domain
  domain_of bool_dom env = Some booleans
  domain_of (int_dom rs es) env = option_map integers (spans_of rs (meanings es env))
  domain_of (name_dom a) env = named_domain env.positions a (type_entry env.types a)
  domain_of (tuple_dom ds) env = option_map tuples (domains_of ds env)
  domain_of (record_dom fs ds) env = option_map (records fs) (domains_of ds env)
  domain_of (matrix_dom is d) env = and_then (domains_of is env) (λ js. option_map (matrices js) (domain_of d env))
  domain_of (set_dom ms es d) env = and_then (attributes_of ms (meanings es env)) (λ ks. option_map (sets ks) (domain_of d env))
  domain_of (mset_dom ms es d) env = and_then (attributes_of ms (meanings es env)) (λ ks. option_map (msets ks) (domain_of d env))
  domain_of (function_dom ms es d c) env =
      and_then (attributes_of ms (meanings es env)) (λ ks. and_then (domain_of d env) (λ x. option_map (functions ks x) (domain_of c env)))
  domain_of (relation_dom ms es ds) env = and_then (attributes_of ms (meanings es env)) (λ ks. option_map (relations ks) (domains_of ds env))
  domain_of (partition_dom ms es d) env = and_then (attributes_of ms (meanings es env)) (λ ks. option_map (partitions ks) (domain_of d env))

  -- The domains of several domain expressions.
  pub domains_of : Doms → Env → Option Domains
  domains_of no_doms env = Some no_domains
  domains_of (more_doms d ds) env = and_then (domain_of d env) (λ x. option_map (more_domains x) (domains_of ds env))

-- ---- words on meanings

-- Whether the expression is true.
abbrev pub is_true : Option Value → Bool
is_true (Some (truth true)) = true
is_true _ = false

-- Whether each bound and attribute value of the domain has a meaning.
abbrev pub has_meaning : Dom → Env → Bool
has_meaning d env = is_some (domain_of d env)
