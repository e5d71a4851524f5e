-- A tree with one part left open, and where the context of that part holds: at the bindings of the generators in scope at
-- which the conditions before the part hold, and where the left operands of `/\` and `->` are true whose right operands
-- hold the part. What a part means elsewhere never counts.
use Rattle.std.specs.Prelude.{◌≡◌, Bool, true, false, List, [], ◌∷◌, Option, Some, None}
use Rattle.ess_semantics.specs.declared.words.Op2.{Op2}
use Rattle.ess_semantics.specs.Values.{Text, Value, items_of}
use Rattle.ess_semantics.specs.Trees.{Op, binary, Ends, Mark, Repr, Pat, Ex, Exs, node_ex, matrix_ex, comp_ex, cell_ex, seen_ex, more_exs, Gens, no_gens, over, from, cond, Dom, Doms, int_dom, tuple_dom, record_dom, matrix_dom, set_dom, mset_dom, function_dom, relation_dom, partition_dom, more_doms}
use Rattle.ess_semantics.specs.Operators.{as_truth}
use Rattle.ess_semantics.specs.Meaning.{Env, meaning, domain_of, members_in, with_pat}

-- ---- trees with one part left open

mutual
  -- An expression with an open part: the part itself, or one that stands in an operand, in an item or the index domain of
  -- a matrix, in the body or the generators of a comprehension, in the index list of a cell, or in the domain or the index
  -- list of a view.
  pub data In : Type 0 where
    hole : In
    in_operand : Bool → Op → Ins → In
    in_item : Ins → Dom → In
    in_index_domain : Exs → InDom → In
    in_body : In → Gens → In
    in_generators : Ex → InGens → In
    in_cell_index : Bool → Text → Ins → In
    in_view_domain : Repr → InDom → List Text → Exs → In
    in_view_index : Repr → Dom → List Text → Ins → In

  -- Several expressions with an open part: in the first, or in a later one.
  pub data Ins : Type 0 where
    in_first : In → Exs → Ins
    in_later : Ex → Ins → Ins

  -- Generators with an open part: in the domain, the source or the condition of the first, or behind it.
  pub data InGens : Type 0 where
    in_generator_domain : Pat → InDom → Gens → InGens
    behind_over : Pat → Dom → InGens → InGens
    in_source : Pat → In → Gens → InGens
    behind_from : Pat → Ex → InGens → InGens
    in_condition : In → Gens → InGens
    behind_condition : Ex → InGens → InGens

  -- A domain with an open part: in a bound or an attribute's number, or in one of the inner domains.
  pub data InDom : Type 0 where
    in_bound : List Ends → Ins → InDom
    in_component : InDoms → InDom
    in_field : List Text → InDoms → InDom
    in_index : InDoms → Dom → InDom
    in_element : Doms → InDom → InDom
    in_set_number : List Mark → Ins → Dom → InDom
    in_set_member : List Mark → Exs → InDom → InDom
    in_mset_number : List Mark → Ins → Dom → InDom
    in_mset_member : List Mark → Exs → InDom → InDom
    in_function_number : List Mark → Ins → Dom → Dom → InDom
    in_argument : List Mark → Exs → InDom → Dom → InDom
    in_result : List Mark → Exs → Dom → InDom → InDom
    in_relation_number : List Mark → Ins → Doms → InDom
    in_relation_component : List Mark → Exs → InDoms → InDom
    in_partition_number : List Mark → Ins → Dom → InDom
    in_partition_member : List Mark → Exs → InDom → InDom

  -- Several domains with an open part: in the first, or in a later one.
  pub data InDoms : Type 0 where
    in_first_domain : InDom → Doms → InDoms
    in_later_domain : Dom → InDoms → InDoms

abbrev mutual
  -- The tree with an expression in its open part.
  pub fill : In → Ex → Ex
  fill hole e = e
  fill (in_operand b op c) e = node_ex b op (fill_exs c e)
  fill (in_item c d) e = matrix_ex (fill_exs c e) d
  fill (in_index_domain es c) e = matrix_ex es (fill_dom c e)
  fill (in_body c gs) e = comp_ex (fill c e) gs
  fill (in_generators x c) e = comp_ex x (fill_gens c e)
  fill (in_cell_index b n c) e = cell_ex b n (fill_exs c e)
  fill (in_view_domain r c ns es) e = seen_ex r (fill_dom c e) ns es
  fill (in_view_index r d ns c) e = seen_ex r d ns (fill_exs c e)

  -- The same of several expressions.
  pub fill_exs : Ins → Ex → Exs
  fill_exs (in_first c es) e = more_exs (fill c e) es
  fill_exs (in_later x c) e = more_exs x (fill_exs c e)

  -- The same of generators.
  pub fill_gens : InGens → Ex → Gens
  fill_gens (in_generator_domain p c gs) e = over p (fill_dom c e) gs
  fill_gens (behind_over p d c) e = over p d (fill_gens c e)
  fill_gens (in_source p c gs) e = from p (fill c e) gs
  fill_gens (behind_from p x c) e = from p x (fill_gens c e)
  fill_gens (in_condition c gs) e = cond (fill c e) gs
  fill_gens (behind_condition x c) e = cond x (fill_gens c e)

  -- The same of a domain.
  pub fill_dom : InDom → Ex → Dom
  fill_dom (in_bound rs c) e = int_dom rs (fill_exs c e)
  fill_dom (in_component c) e = tuple_dom (fill_doms c e)
  fill_dom (in_field fs c) e = record_dom fs (fill_doms c e)
  fill_dom (in_index c d) e = matrix_dom (fill_doms c e) d
  fill_dom (in_element is c) e = matrix_dom is (fill_dom c e)
  fill_dom (in_set_number ms c d) e = set_dom ms (fill_exs c e) d
  fill_dom (in_set_member ms es c) e = set_dom ms es (fill_dom c e)
  fill_dom (in_mset_number ms c d) e = mset_dom ms (fill_exs c e) d
  fill_dom (in_mset_member ms es c) e = mset_dom ms es (fill_dom c e)
  fill_dom (in_function_number ms c d r) e = function_dom ms (fill_exs c e) d r
  fill_dom (in_argument ms es c r) e = function_dom ms es (fill_dom c e) r
  fill_dom (in_result ms es d c) e = function_dom ms es d (fill_dom c e)
  fill_dom (in_relation_number ms c ds) e = relation_dom ms (fill_exs c e) ds
  fill_dom (in_relation_component ms es c) e = relation_dom ms es (fill_doms c e)
  fill_dom (in_partition_number ms c d) e = partition_dom ms (fill_exs c e) d
  fill_dom (in_partition_member ms es c) e = partition_dom ms es (fill_dom c e)

  -- The same of several domains.
  pub fill_doms : InDoms → Ex → Doms
  fill_doms (in_first_domain c ds) e = more_doms (fill_dom c e) ds
  fill_doms (in_later_domain d c) e = more_doms d (fill_doms c e)

-- ---- at each value, at each binding

-- P of each item of a list.
abbrev pub Each : {A : Type 0} → List A → (A → Type 0) → Type 0
Each [] P = Unit {0}
Each (x ∷ xs) P = P x × Each xs P

-- P of each of the values, where they are there.
abbrev pub EachOf : Option (List Value) → (Value → Type 0) → Type 0
EachOf None P = Unit {0}
EachOf (Some vs) P = Each vs P

-- P of each value that a generator over this one takes, where it is there.
abbrev pub EachIn : Option Value → (Value → Type 0) → Type 0
EachIn None P = Unit {0}
EachIn (Some s) P = Each (items_of s) P

-- P, where the value is true.
abbrev pub WhenTrue : Option Value → Type 0 → Type 0
WhenTrue o P = as_truth o ≡ true → P

-- P, where the value is true or doesn't guard.
abbrev pub Guarded : Bool → Option Value → Type 0 → Type 0
Guarded true o P = WhenTrue o P
Guarded false o P = P

-- P at each binding of the generators whose conditions hold.
abbrev pub AtEach : Gens → Env → (Env → Type 0) → Type 0
AtEach no_gens env P = P env
AtEach (over p d gs) env P = EachOf (members_in (domain_of d env)) (λ v. AtEach gs (with_pat p v env) P)
AtEach (from p e gs) env P = EachIn (meaning e env) (λ v. AtEach gs (with_pat p v env) P)
AtEach (cond e gs) env P = WhenTrue (meaning e env) (AtEach gs env P)

-- Whether the operands behind the first count only where it is true.
abbrev pub guards : Op → Bool
guards (binary Op2.And) = true
guards (binary Op2.Implies) = true
guards _ = false

-- ---- where the context of the open part holds

abbrev mutual
  -- P wherever the context of the open part holds.
  pub Where : In → Env → (Env → Type 0) → Type 0
  Where hole env P = P env
  Where (in_operand b op c) env P = WhereIn (guards op) c env P
  Where (in_item c d) env P = WhereIn false c env P
  Where (in_index_domain es c) env P = WhereDom c env P
  Where (in_body c gs) env P = AtEach gs env (λ here. Where c here P)
  Where (in_generators x c) env P = WhereGens c env P
  Where (in_cell_index b n c) env P = WhereIn false c env P
  Where (in_view_domain r c ns es) env P = WhereDom c env P
  Where (in_view_index r d ns c) env P = WhereIn false c env P

  -- The same of operands; `g` says whether the first one guards those behind it.
  pub WhereIn : Bool → Ins → Env → (Env → Type 0) → Type 0
  WhereIn g (in_first c es) env P = Where c env P
  WhereIn g (in_later x c) env P = Guarded g (meaning x env) (WhereIn false c env P)

  -- The same of generators.
  pub WhereGens : InGens → Env → (Env → Type 0) → Type 0
  WhereGens (in_generator_domain p c gs) env P = WhereDom c env P
  WhereGens (behind_over p d c) env P = EachOf (members_in (domain_of d env)) (λ v. WhereGens c (with_pat p v env) P)
  WhereGens (in_source p c gs) env P = Where c env P
  WhereGens (behind_from p x c) env P = EachIn (meaning x env) (λ v. WhereGens c (with_pat p v env) P)
  WhereGens (in_condition c gs) env P = Where c env P
  WhereGens (behind_condition x c) env P = WhenTrue (meaning x env) (WhereGens c env P)

  -- The same of a domain.
  pub WhereDom : InDom → Env → (Env → Type 0) → Type 0
  WhereDom (in_bound rs c) env P = WhereIn false c env P
  WhereDom (in_component c) env P = WhereDoms c env P
  WhereDom (in_field fs c) env P = WhereDoms c env P
  WhereDom (in_index c d) env P = WhereDoms c env P
  WhereDom (in_element is c) env P = WhereDom c env P
  WhereDom (in_set_number ms c d) env P = WhereIn false c env P
  WhereDom (in_set_member ms es c) env P = WhereDom c env P
  WhereDom (in_mset_number ms c d) env P = WhereIn false c env P
  WhereDom (in_mset_member ms es c) env P = WhereDom c env P
  WhereDom (in_function_number ms c d r) env P = WhereIn false c env P
  WhereDom (in_argument ms es c r) env P = WhereDom c env P
  WhereDom (in_result ms es d c) env P = WhereDom c env P
  WhereDom (in_relation_number ms c ds) env P = WhereIn false c env P
  WhereDom (in_relation_component ms es c) env P = WhereDoms c env P
  WhereDom (in_partition_number ms c d) env P = WhereIn false c env P
  WhereDom (in_partition_member ms es c) env P = WhereDom c env P

  -- The same of several domains.
  pub WhereDoms : InDoms → Env → (Env → Type 0) → Type 0
  WhereDoms (in_first_domain c ds) env P = WhereDom c env P
  WhereDoms (in_later_domain d c) env P = WhereDoms c env P
