-- Lettings of expressions and of domains are put in where they are used: a letting is its expression or domain, as the
-- manual's section on declarations says.
use Rattle.std.specs.Prelude.{Bool, true, false, if◌then◌else◌, List, [], ◌∷◌, ◌++◌, map, Option, Some, None}
use Rattle.ess_semantics.specs.Lists.{is_some_and}
use Rattle.ess_semantics.specs.Values.{Text, a_tuple, a_record}
use Rattle.ess_semantics.specs.Names.{Names, look}
use Rattle.ess_semantics.specs.Trees.{Step, by_value, to_component, to_field, Op, index, Ex, Exs, number_ex, truth_ex, name_ex, node_ex, matrix_ex, comp_ex, cell_ex, seen_ex, no_exs, more_exs, Gens, no_gens, over, from, cond, Dom, Doms, bool_dom, int_dom, name_dom, tuple_dom, record_dom, matrix_dom, set_dom, mset_dom, function_dom, relation_dom, partition_dom, no_doms, more_doms, Stm, given, given_enum, let_ex, let_dom, let_enum, let_unnamed, needs, find, such_that, minimise, maximise}
use Rattle.ess_semantics.specs.Types.{Ty, named_ty, compound, or_any, type_of_dom, bind_types}
use Rattle.ess_semantics.specs.Typing.{Static, static, a_number, a_name, statics, type_behind, part_behind, type_of, types_of, source_ty}

-- Lettings of expressions and of domains, with the lettings before them put in.
pub record Lettings : Type 0 where
  pub exs : Names Ex
  pub doms : Names Dom

-- No lettings.
abbrev pub no_lettings : Lettings
no_lettings = record { exs = []; doms = [] }

-- ---- fields of records aren't names

-- Whether a type is one of records.
abbrev pub is_record : Ty → Bool
is_record (compound (a_record fs) ts) = true
is_record t = false

-- Whether a type is one of records or tuples.
abbrev pub is_record_or_tuple : Ty → Bool
is_record_or_tuple (compound a_tuple ts) = true
is_record_or_tuple t = is_record t

-- Of each index by value whether the type reached is one of records: whether the value is a field.
abbrev pub field_steps : Option Ty → List Step → List Static → List (Option Ty) → List Bool
field_steps t (by_value ∷ qs) (s ∷ ss) (u ∷ us) = is_some_and t is_record ∷ field_steps (type_behind t s u) qs ss us
field_steps t (to_component k ∷ qs) ss us = field_steps (part_behind t (a_number k)) qs ss us
field_steps t (to_field a ∷ qs) ss us = field_steps (part_behind t (a_name a)) qs ss us
field_steps t _ _ _ = []

-- Of each operand of a node whether it is a field; the first operand of an index is none.
abbrev pub field_flags : Op → Exs → Names Ty → List Bool
field_flags (index qs) (more_exs e es) g = false ∷ field_steps (type_of e g) qs (statics es) (types_of es g)
field_flags op es g = []

-- ---- operands

-- The value of an index as it was where the type reached is one of records or tuples, since a field is no name and a tuple's
-- index must be written as a number; else with lettings put in.
abbrev pub kept_or : Option Ty → Ex → Ex → Ex
kept_or t e f = if is_some_and t is_record_or_tuple then e else f

-- The values of an index's steps behind a place of type t, each by the type that the steps before it reach: es are they as they
-- were, fs with lettings put in.
abbrev pub put_steps : Option Ty → List Step → Exs → Exs → Names Ty → Exs
put_steps t (by_value ∷ qs) (more_exs e es) (more_exs f fs) g =
    let o : Ex = kept_or t e f in more_exs o (put_steps (type_behind t (static o) (type_of o g)) qs es fs g)
put_steps t (to_component k ∷ qs) es fs g = put_steps (part_behind t (a_number k)) qs es fs g
put_steps t (to_field a ∷ qs) es fs g = put_steps (part_behind t (a_name a)) qs es fs g
put_steps t qs es fs g = fs

-- The operands of a node: es are they as they were, fs with lettings put in.
abbrev pub put_operands : Op → Exs → Exs → Names Ty → Exs
put_operands (index qs) (more_exs e es) (more_exs f fs) g = more_exs f (put_steps (type_of f g) qs es fs g)
put_operands op es fs g = fs

-- ---- expressions and domains, under the types of names

-- A name, or the letting's expression.
abbrev pub put_name : Option Ex → Text → Ex
put_name None a = name_ex a
put_name (Some e) a = e

-- A domain's name, or the letting's domain.
abbrev pub put_dom_name : Option Dom → Text → Dom
put_dom_name None a = name_dom a
put_dom_name (Some d) a = d

abbrev mutual
  -- The expression with lettings put in, under the types of names.
  pub put_ex : Ex → Lettings → Names Ty → Ex
  put_ex (number_ex n) l g = number_ex n
  put_ex (truth_ex b) l g = truth_ex b
  put_ex (name_ex a) l g = put_name (look l.exs a) a
  put_ex (node_ex b op es) l g = node_ex b op (put_operands op es (put_exs es l g) g)
  put_ex (matrix_ex es d) l g = matrix_ex (put_exs es l g) (put_dom d l g)
  put_ex (comp_ex e gs) l g = put_gens gs l g (λ hs h. comp_ex (put_ex e l h) hs)
  put_ex (cell_ex b n es) l g = cell_ex b n (put_exs es l g)
  put_ex (seen_ex r d ns es) l g = seen_ex r (put_dom d l g) ns (put_exs es l g)

  -- The same of operands.
  pub put_exs : Exs → Lettings → Names Ty → Exs
  put_exs no_exs l g = no_exs
  put_exs (more_exs e es) l g = more_exs (put_ex e l g) (put_exs es l g)

  -- The same of generators; k makes the expression of them and of the types of names under them.
  pub put_gens : Gens → Lettings → Names Ty → (Gens → Names Ty → Ex) → Ex
  put_gens no_gens l g k = k no_gens g
  put_gens (over p d gs) l g k = let c : Dom = put_dom d l g in put_gens gs l (bind_types p (type_of_dom c) g) (λ hs h. k (over p c hs) h)
  put_gens (from p e gs) l g k = let f : Ex = put_ex e l g in put_gens gs l (bind_types p (source_ty f g) g) (λ hs h. k (from p f hs) h)
  put_gens (cond e gs) l g k = let f : Ex = put_ex e l g in put_gens gs l g (λ hs h. k (cond f hs) h)

  -- The same of a domain.
  pub put_dom : Dom → Lettings → Names Ty → Dom
  put_dom bool_dom l g = bool_dom
  put_dom (int_dom rs es) l g = int_dom rs (put_exs es l g)
  put_dom (name_dom a) l g = put_dom_name (look l.doms a) a
  put_dom (tuple_dom ds) l g = tuple_dom (put_doms ds l g)
  put_dom (record_dom fs ds) l g = record_dom fs (put_doms ds l g)
  put_dom (matrix_dom is d) l g = matrix_dom (put_doms is l g) (put_dom d l g)
  put_dom (set_dom ms es d) l g = set_dom ms (put_exs es l g) (put_dom d l g)
  put_dom (mset_dom ms es d) l g = mset_dom ms (put_exs es l g) (put_dom d l g)
  put_dom (function_dom ms es d c) l g = function_dom ms (put_exs es l g) (put_dom d l g) (put_dom c l g)
  put_dom (relation_dom ms es ds) l g = relation_dom ms (put_exs es l g) (put_doms ds l g)
  put_dom (partition_dom ms es d) l g = partition_dom ms (put_exs es l g) (put_dom d l g)

  -- The same of several domains.
  pub put_doms : Doms → Lettings → Names Ty → Doms
  put_doms no_doms l g = no_doms
  put_doms (more_doms d ds) l g = more_doms (put_dom d l g) (put_doms ds l g)

-- ---- statements

-- The statement with lettings put in.
abbrev pub put_stm : Stm → Lettings → Names Ty → Stm
put_stm (given x d) l g = given x (put_dom d l g)
put_stm (given_enum t) l g = given_enum t
put_stm (let_ex x e) l g = let_ex x (put_ex e l g)
put_stm (let_dom x d) l g = let_dom x (put_dom d l g)
put_stm (let_enum t ns) l g = let_enum t ns
put_stm (let_unnamed t e) l g = let_unnamed t (put_ex e l g)
put_stm (needs e) l g = needs (put_ex e l g)
put_stm (find x d) l g = find x (put_dom d l g)
put_stm (such_that e) l g = such_that (put_ex e l g)
put_stm (minimise e) l g = minimise (put_ex e l g)
put_stm (maximise e) l g = maximise (put_ex e l g)

-- The lettings behind a statement that has lettings put in.
abbrev pub lettings_after : Stm → Lettings → Lettings
lettings_after (let_ex x e) l = record l { exs = (x, e) ∷ l.exs }
lettings_after (let_dom x d) l = record l { doms = (x, d) ∷ l.doms }
lettings_after s l = l

-- The types of names behind a statement that has lettings put in.
abbrev pub types_after : Stm → Names Ty → Names Ty
types_after (given x d) g = (x, type_of_dom d) ∷ g
types_after (let_ex x e) g = (x, or_any (type_of e g)) ∷ g
types_after (let_enum t ns) g = map (λ n. (n, named_ty t)) ns ++ g
types_after (find x d) g = (x, type_of_dom d) ∷ g
types_after s g = g

-- The statements with lettings put in, behind these lettings and names.
abbrev pub put_all : List Stm → Lettings → Names Ty → List Stm
put_all [] l g = []
put_all (s ∷ ss) l g = let t : Stm = put_stm s l g in t ∷ put_all ss (lettings_after t l) (types_after t g)

-- The statements with lettings put in. The lettings stay, so that the numbers of statements do.
abbrev pub put_in : List Stm → List Stm
put_in S = put_all S no_lettings []
