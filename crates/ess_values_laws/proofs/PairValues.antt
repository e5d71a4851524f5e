-- The entries of a function that a literal has are pairs, where none is an empty tuple.
use Rattle.std.proofs.Common.{◌≡◌, refl, sym, ap, ◌∙◌, subst, true, List, [], ◌∷◌, map, pos, negsuc, Option, Some, option_map, ◌⊎◌, inl, inr}
use Rattle.std.specs.List.{list_all}
use Rattle.ess_semantics.specs.Lists.{and_then, all_some, zip}
use Rattle.ess_semantics.specs.Values.{Text, Kind, a_tuple, a_matrix, a_set, a_mset, a_function, a_relation, a_partition, a_record, Value, Values, number, truth, item, node, nil, cons, pair, of_list}
use Rattle.ess_semantics.specs.Names.{keys, all_distinct, by_name}
use Rattle.ess_semantics.specs.Trees.{Exs, no_exs, more_exs, Dom, tuple_literal, set_literal, mset_literal, function_literal, relation_literal, partition_literal, matrix_literal, record_literal, plain_node}
use Rattle.ess_semantics.specs.Types.{Ty, any_ty, bool_ty, int_ty, named_ty, compound, Tys, no_tys, compound1, compound2, tys_of, join_all, type_of_dom}
use Rattle.ess_semantics.specs.OperatorTypes.{type_of_op, function_ty, relation_ty, partition_ty, record_ty}
use Rattle.ess_semantics.specs.Membership.{is_pair}
use Rattle.ess_semantics.specs.Meaning.{Env}
use Rattle.ess_semantics.specs.Literals.{item_of_name, type_of_item, is_literal_index, type_of_literal, types_of_literals}
use Rattle.ess_semantics.proofs.Tests.{and-left, and-right, and-both}
use Rattle.ess_grammar.specs.ValueTexts.{index_literal, matrix_literal_of, literal_of, literals_of}
use Rattle.ess_print_laws.specs.Spelled.{are_pairs_of_values, is_spelled}
use Rattle.ess_values_laws.specs.ItemNames.{item_name}
use Rattle.ess_values_laws.proofs.Options.{then-some, map-some, if-some}
use Rattle.ess_values_laws.proofs.TypeOrder.{Within, within-on}
use Rattle.ess_values_laws.proofs.JoinedTypes.{EachWithin}
use Rattle.ess_values_laws.proofs.LiteralTypes.{function-form, none-within}
use Rattle.ess_values_laws.proofs.Printed.{HasType, PrintedEach}

-- ---- the form of a literal's type

-- A type of this kind.
abbrev Of : Kind → Ty → Type 0
Of k u = (us : Tys) × (u ≡ compound k us)

-- of a type that an operator gives
list-type : (ts : List Ty) (u : Ty) → type_of_op matrix_literal ts ≡ Some u → Of a_matrix u
list-type [] u e = (_, (let f : compound2 a_matrix any_ty any_ty ≡ u = cc in sym f))
list-type (t ∷ ts) u e = let s = map-some (join_all (t ∷ ts)) (compound2 a_matrix int_ty) u e in (_, sym s.2)

function-type : (s u : Ty) → function_ty s ≡ Some u → Of a_function u
function-type any_ty u e = (_, (let f : compound2 a_function any_ty any_ty ≡ u = cc in sym f))
function-type (compound2 a_tuple a b) u e = (_, (let f : compound2 a_function a b ≡ u = cc in sym f))
function-type _ u e = cc

relation-type : (s u : Ty) → relation_ty s ≡ Some u → Of a_relation u
relation-type any_ty u e = (_, (let f : compound a_relation no_tys ≡ u = cc in sym f))
relation-type (compound a_tuple ts) u e = (_, (let f : compound a_relation ts ≡ u = cc in sym f))
relation-type _ u e = cc

partition-type : (s u : Ty) → partition_ty s ≡ Some u → Of a_partition u
partition-type any_ty u e = (_, (let f : compound1 a_partition any_ty ≡ u = cc in sym f))
partition-type (compound1 a_set a) u e = (_, (let f : compound1 a_partition a ≡ u = cc in sym f))
partition-type _ u e = cc

module _ (env : Env) where
  -- the type of a name's value
  item-form : (o : Option Value) (u : Ty) → type_of_item o ≡ Some u → (a : Text) × (u ≡ named_ty a)
  item-form (Some (item t k)) u e = (t, (let f : named_ty t ≡ u = cc in sym f))
  item-form _ u e = cc

  -- the types of parts
  abbrev types : Exs → Option (List Ty)
  types es = all_some (types_of_literals es env)

  list-form : (es : Exs) (u : Ty) → type_of_literal (plain_node matrix_literal es) env ≡ Some u → Of a_matrix u
  list-form es u e = let ts = then-some (types es) (type_of_op matrix_literal) u e in list-type ts.0 u ts.2

  matrix-form : (d : Dom) (es : Exs) (u : Ty) → type_of_literal (matrix_literal_of d es) env ≡ Some u → Of a_matrix u
  matrix-form d no_exs u e = list-form no_exs u e
  matrix-form d (more_exs x xs) u e =
      let h = if-some (is_literal_index d) (and_then (types (more_exs x xs)) (λ ts. and_then (join_all ts) (λ t. Some (compound2 a_matrix (type_of_dom d) t)))) u e in
      let ts = then-some (types (more_exs x xs)) (λ ts. and_then (join_all ts) (λ t. Some (compound2 a_matrix (type_of_dom d) t))) u h.1 in
      let t = then-some (join_all ts.0) (λ t. Some (compound2 a_matrix (type_of_dom d) t)) u ts.2 in
      (_, (let f : compound2 a_matrix (type_of_dom d) t.0 ≡ u = let g = t.2 in cc in sym f))

  -- the literals of parts
  abbrev lits : Values → Exs
  lits vs = literals_of (item_name env.types) vs

  any-matrix-form : (vs : Values) (u : Ty) → HasType env (node a_matrix vs) u → Of a_matrix u
  any-matrix-form nil u e = list-form (lits nil) u e
  any-matrix-form (cons (number n) vs) u e = list-form (lits (cons (number n) vs)) u e
  any-matrix-form (cons (truth b) vs) u e = list-form (lits (cons (truth b) vs)) u e
  any-matrix-form (cons (item t m) vs) u e = list-form (lits (cons (item t m) vs)) u e
  any-matrix-form (cons (node j is) nil) u e = list-form (lits (cons (node j is) nil)) u e
  any-matrix-form (cons (node j is) (cons (number n) vs)) u e = list-form (lits (cons (node j is) (cons (number n) vs))) u e
  any-matrix-form (cons (node j is) (cons (truth b) vs)) u e = list-form (lits (cons (node j is) (cons (truth b) vs))) u e
  any-matrix-form (cons (node j is) (cons (item t m) vs)) u e = list-form (lits (cons (node j is) (cons (item t m) vs))) u e
  any-matrix-form (cons (node j is) (cons (node l xs) nil)) u e = matrix-form (index_literal is) (lits xs) u e
  any-matrix-form (cons (node j is) (cons (node l xs) (cons y vs))) u e = list-form (lits (cons (node j is) (cons (node l xs) (cons y vs)))) u e

  -- A compound value's literal has a compound type, and that of a tuple only where the value is one.
  abbrev OfNode : Kind → Ty → Type 0
  OfNode k u = (l : Kind) × (us : Tys) × (u ≡ compound l us) × (l ≡ a_tuple → k ≡ a_tuple)

  of-node : (k : Kind) (u : Ty) → Of k u → OfNode k u
  of-node k u o = (k, o.0, o.1, λ e. e)

  node-form : (k : Kind) (vs : Values) (u : Ty) → HasType env (node k vs) u → OfNode k u
  node-form (a_record ns) vs u e =
      let h = if-some (all_distinct ns) (and_then (types (lits vs)) (type_of_op (record_literal ns))) u e in
      let ts = then-some (types (lits vs)) (type_of_op (record_literal ns)) u h.1 in
      let fs = by_name (zip ns ts.0) in
      (a_record (keys fs), tys_of (map (λ f. f.1) fs), (let f : record_ty fs ≡ u = let g = ts.2 in cc in sym f), λ q. cc)
  node-form a_tuple vs u e =
      let ts = then-some (types (lits vs)) (type_of_op tuple_literal) u e in
      of-node a_tuple u (_, (let f : compound a_tuple (tys_of ts.0) ≡ u = let g = ts.2 in cc in sym f))
  node-form a_matrix vs u e = of-node a_matrix u (any-matrix-form vs u e)
  node-form a_set vs u e =
      let ts = then-some (types (lits vs)) (type_of_op set_literal) u e in
      let t = map-some (join_all ts.0) (compound1 a_set) u ts.2 in of-node a_set u (_, sym t.2)
  node-form a_mset vs u e =
      let ts = then-some (types (lits vs)) (type_of_op mset_literal) u e in
      let t = map-some (join_all ts.0) (compound1 a_mset) u ts.2 in of-node a_mset u (_, sym t.2)
  node-form a_function vs u e =
      let ts = then-some (types (lits vs)) (type_of_op function_literal) u e in
      let t = then-some (join_all ts.0) function_ty u ts.2 in of-node a_function u (function-type t.0 u t.2)
  node-form a_relation vs u e =
      let ts = then-some (types (lits vs)) (type_of_op relation_literal) u e in
      let t = then-some (join_all ts.0) relation_ty u ts.2 in of-node a_relation u (relation-type t.0 u t.2)
  node-form a_partition vs u e =
      let ts = then-some (types (lits vs)) (type_of_op partition_literal) u e in
      let t = then-some (join_all ts.0) partition_ty u ts.2 in of-node a_partition u (partition-type t.0 u t.2)

  -- ---- pairs

  -- what says no more than a type of two parts, of a tuple
  tuple-kind : (u : Ty) (l : Kind) (us ts : Tys) → u ≡ compound l us → Within u (compound a_tuple ts) → l ≡ a_tuple
  tuple-kind u l us ts e h = (subst (λ x. Within x (compound a_tuple ts)) e h).0

  -- a type for each value
  abbrev OneLength : Values → List Ty → Type 0
  OneLength nil [] = Unit {0}
  OneLength (cons v vs) (t ∷ ts) = OneLength vs ts
  OneLength vs ts = ⊥

  one-length : (vs : Values) (ts : List Ty) → types (lits vs) ≡ Some ts → OneLength vs ts
  one-length nil ts e = let f : [] ≡ ts = cc in subst (OneLength nil) f tt
  one-length (cons v vs) ts e =
      let t = then-some (type_of_literal (literal_of (item_name env.types) v) env) (λ x. option_map (λ xs. x ∷ xs) (types (lits vs))) ts e in
      let us = map-some (types (lits vs)) (λ xs. t.0 ∷ xs) ts t.2 in subst (OneLength (cons v vs)) us.2 (one-length vs us.0 us.1)

  two : (v : Value) (vs : Values) (ts : List Ty) (a b : Ty) → OneLength (cons v vs) ts → Within (compound a_tuple (tys_of ts)) (compound2 a_tuple a b) → is_pair (node a_tuple (cons v vs)) ≡ true
  two v vs [] a b l h = absurd l
  two v vs (t ∷ []) a b l h = absurd (h.1).1
  two v nil (t ∷ u ∷ []) a b l h = absurd l
  two v (cons w nil) (t ∷ u ∷ []) a b l h = refl
  two v (cons w (cons x vs)) (t ∷ u ∷ []) a b l h = absurd l
  two v vs (t ∷ u ∷ x ∷ ts) a b l h = absurd ((h.1).1).1

  two-parts : (v : Value) (vs : Values) (u a b : Ty) → HasType env (node a_tuple (cons v vs)) u → Within u (compound2 a_tuple a b) → is_pair (node a_tuple (cons v vs)) ≡ true
  two-parts v vs u a b e h =
      let ts = then-some (types (lits (cons v vs))) (type_of_op tuple_literal) u e in
      let f : compound a_tuple (tys_of ts.0) ≡ u = let g = ts.2 in cc in
      two v vs ts.0 a b (one-length (cons v vs) ts.0 ts.1) (subst (λ x. Within x (compound2 a_tuple a b)) (sym f) h)

  pair-value : (v : Value) (u a b : Ty) → HasType env v u → Within u (compound2 a_tuple a b) → is_spelled (item_name env.types) v ≡ true → is_pair v ≡ true
  pair-value (number (pos n)) u a b e h s = let f : int_ty ≡ u = cc in absurd (subst (λ x. Within x (compound2 a_tuple a b)) (sym f) h)
  pair-value (number (negsuc n)) u a b e h s = let f : int_ty ≡ u = cc in absurd (subst (λ x. Within x (compound2 a_tuple a b)) (sym f) h)
  pair-value (truth t) u a b e h s = let f : bool_ty ≡ u = cc in absurd (subst (λ x. Within x (compound2 a_tuple a b)) (sym f) h)
  pair-value (item t k) u a b e h s = let f = item-form (item_of_name env.types (item_name env.types t k)) u e in absurd (subst (λ x. Within x (compound2 a_tuple a b)) f.1 h)
  pair-value (node k vs) u a b e h s = tuple-value k vs (node-form k vs u e) e s
    where
      tuple-value : (k : Kind) (vs : Values) → OfNode k u → HasType env (node k vs) u → is_spelled (item_name env.types) (node k vs) ≡ true → is_pair (node k vs) ≡ true
      tuple-value a_tuple nil o e s = cc
      tuple-value a_tuple (cons v vs) o e s = two-parts v vs u a b e h
      tuple-value a_matrix vs o e s = let f = o.3 (tuple-kind u o.0 o.1 _ o.2 h) in cc
      tuple-value a_set vs o e s = let f = o.3 (tuple-kind u o.0 o.1 _ o.2 h) in cc
      tuple-value a_mset vs o e s = let f = o.3 (tuple-kind u o.0 o.1 _ o.2 h) in cc
      tuple-value a_function vs o e s = let f = o.3 (tuple-kind u o.0 o.1 _ o.2 h) in cc
      tuple-value a_relation vs o e s = let f = o.3 (tuple-kind u o.0 o.1 _ o.2 h) in cc
      tuple-value a_partition vs o e s = let f = o.3 (tuple-kind u o.0 o.1 _ o.2 h) in cc
      tuple-value (a_record ns) vs o e s = let f = o.3 (tuple-kind u o.0 o.1 _ o.2 h) in cc

  -- no literal has the type of the members of an empty one
  says-something : (v : Value) → HasType env v any_ty → ⊥
  says-something (number (pos n)) e = cc
  says-something (number (negsuc n)) e = cc
  says-something (truth t) e = cc
  says-something (item t k) e = let f = item-form (item_of_name env.types (item_name env.types t k)) any_ty e in let g = f.1 in cc
  says-something (node k vs) e = let o = node-form k vs any_ty e in let g = o.2 in cc

  -- Each entry of a function is a pair.
  pub entries-pairs : (xs : List Value) (ts : List Ty) (s t : Ty) → PrintedEach env xs ts → EachWithin ts s → function_ty s ≡ Some t →
      list_all (is_spelled (item_name env.types)) xs ≡ true → list_all is_pair xs ≡ true
  entries-pairs [] ts s t p w f h = refl
  entries-pairs (x ∷ xs) [] s t p w f h = absurd p
  entries-pairs (x ∷ xs) (y ∷ ys) s t p w f h =
      let r = p.0 in
      let n = is_spelled (item_name env.types) in
      and-both (is_pair x) (list_all is_pair xs) (go (function-form s t f) r.typed (within-on r.u y s r.within w.0) (and-left (n x) (list_all n xs) h))
      (entries-pairs xs ys s t p.1 w.1 f (and-right (n x) (list_all n xs) h))
    where
      go : {u : Ty} → ((s ≡ any_ty) × (compound2 a_function any_ty any_ty ≡ t)) ⊎ ((a : Ty) × (b : Ty) × (s ≡ compound2 a_tuple a b) × (compound2 a_function a b ≡ t)) →
          HasType env x u → Within u s → is_spelled (item_name env.types) x ≡ true → is_pair x ≡ true
      go {u} (inl q) e w h = absurd (says-something x (e ∙ ap Some (none-within u (subst (Within u) q.0 w))))
      go {u} (inr q) e w h = pair-value x u q.0 q.1 e (subst (Within u) q.2 w) h

-- ---- pairs of a function

pair-form : (v : Value) → is_pair v ≡ true → (a : Value) × (b : Value) × (v ≡ pair a b)
pair-form (node a_tuple (cons a (cons b nil))) e = (a, b, refl)
pair-form _ e = cc

pub pairs-of-values : (xs : List Value) → list_all is_pair xs ≡ true → are_pairs_of_values (of_list xs) ≡ true
pairs-of-values [] h = refl
pairs-of-values (x ∷ xs) h =
    let q = pair-form x (and-left (is_pair x) (list_all is_pair xs) h) in
    ap (λ v. are_pairs_of_values (cons v (of_list xs))) q.2 ∙ pairs-of-values xs (and-right (is_pair x) (list_all is_pair xs) h)
