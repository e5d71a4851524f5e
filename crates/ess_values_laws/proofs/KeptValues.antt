-- A value that some literal has is printed as a literal that has it: by the parts of the literal that has it first.
use Rattle.std.proofs.Common.{◌≡◌, refl, sym, ap, ◌∙◌, subst, Bool, true, if◌then◌else◌, List, [], ◌∷◌, ℤ, pos, negsuc, Option, Some, None, option_map, is_some}
use Rattle.std.specs.Prelude.{neg_ℤ}
use Rattle.ess_semantics.specs.declared.words.Op1.{Op1}
use Rattle.ess_semantics.specs.Lists.{and_then, all_some, is_some_and}
use Rattle.ess_semantics.specs.Values.{Text, a_matrix, a_tuple, Value, number, truth, item, of_list, tuple}
use Rattle.ess_semantics.specs.Collections.{set_of, mset_of, relation_of}
use Rattle.ess_semantics.specs.Names.{all_distinct}
use Rattle.ess_semantics.specs.Trees.{Op, unary, binary, word, index, application, tuple_literal, set_literal, mset_literal, function_literal, relation_literal, partition_literal, matrix_literal, record_literal, Ex, Exs, number_ex, truth_ex, name_ex, node_ex, matrix_ex, comp_ex, cell_ex, seen_ex, no_exs, more_exs, Dom}
use Rattle.ess_semantics.specs.Types.{Ty, bool_ty, int_ty, named_ty, compound, compound2, tys_of, type_of_dom, join, join_all}
use Rattle.ess_semantics.specs.OperatorTypes.{type_of_op}
use Rattle.ess_semantics.specs.Operators.{value_of_op, list_value}
use Rattle.ess_semantics.specs.Meaning.{Env, members_in, domain_of, matrix_value}
use Rattle.ess_semantics.specs.Literals.{item_of_name, type_of_item, is_literal_index, is_number_literal, type_of_literal, types_of_literals, minus_number, value_of_literal, values_of_literals, literal_value}
use Rattle.ess_semantics.proofs.Tests.{some-and}
use Rattle.ess_grammar.specs.ValueTexts.{literal_of}
use Rattle.ess_values_laws.specs.ItemNames.{item_name}
use Rattle.ess_values_laws.specs.Laws.{HasItemNames}
use Rattle.ess_values_laws.proofs.Options.{then-some, map-some, when-some, if-some}
use Rattle.ess_values_laws.proofs.LeastJoins.{join-within}
use Rattle.ess_values_laws.proofs.TypeOrder.{Within, within-on, join-says}
use Rattle.ess_values_laws.proofs.Printed.{Printed, PrintedEach}
use Rattle.ess_values_laws.proofs.NamesOfItems.{item-names}
use Rattle.ess_values_laws.proofs.SetLiterals.{set-literal-printed, mset-literal-printed, relation-literal-printed, function-literal-printed, partition-literal-printed}
use Rattle.ess_values_laws.proofs.TupleLiterals.{tuple-literal-printed, record-literal-printed}
use Rattle.ess_values_laws.proofs.MatrixLiterals.{matrix-literal-printed, list-literal-printed}

module _ (env : Env) (names : HasItemNames env) where
  -- ---- atoms

  number-printed : (n : ℤ) → Printed env (number n) int_ty
  number-printed (pos n) = record { u = int_ty; typed = refl; valued = refl; within = tt; parts = λ h. h }
  number-printed (negsuc n) = record { u = int_ty; typed = refl; valued = refl; within = tt; parts = λ h. h }

  name-printed : (a : Text) (t : Ty) (v : Value) → type_of_item (item_of_name env.types a) ≡ Some t → item_of_name env.types a ≡ Some v → Printed env v t
  name-printed a t v p q =
      let r = item-names env.types a v names.1 q in
      let x : Value = item r.0 r.1 in
      let e : item_of_name env.types (item_name env.types r.0 r.1) ≡ Some x = ap (item_of_name env.types) r.3 ∙ q ∙ ap Some r.2 in
      let f : named_ty r.0 ≡ t = let g = sym (ap type_of_item (q ∙ ap Some r.2)) ∙ p in cc in
      subst (λ w. Printed env w t) (sym r.2) (subst (Printed env x) f (record { u = named_ty r.0; typed = ap type_of_item e; valued = e; within = refl; parts = λ h. h }))

  -- the opposite of a number is one
  pub minus-value : (es : Exs) (v : Value) → minus_number es ≡ Some v → (n : ℤ) × (number n ≡ v)
  minus-value (more_exs (number_ex (pos n)) no_exs) v e = (neg_ℤ (pos n), cc)
  minus-value es v e = cc

  -- ---- operators' nodes

  -- the parts of a literal are printed
  abbrev pub PartsPrinted : Exs → Type 0
  PartsPrinted es = (ts : List Ty) (vs : List Value) → all_some (types_of_literals es env) ≡ Some ts → all_some (values_of_literals es env) ≡ Some vs → PrintedEach env vs ts

  from-parts : (op : Op) (es : Exs) (t : Ty) (v : Value) → PartsPrinted es → and_then (all_some (types_of_literals es env)) (type_of_op op) ≡ Some t →
      and_then (all_some (values_of_literals es env)) (value_of_op op) ≡ Some v →
      ((xs : List Value) (ts : List Ty) → PrintedEach env xs ts → type_of_op op ts ≡ Some t → value_of_op op xs ≡ Some v → Printed env v t) → Printed env v t
  from-parts op es t v parts p q f =
      let ts = then-some (all_some (types_of_literals es env)) (type_of_op op) t p in
      let vs = then-some (all_some (values_of_literals es env)) (value_of_op op) v q in
      f vs.0 ts.0 (parts ts.0 vs.0 ts.1 vs.1) ts.2 vs.2

  -- at a value, and at a type, that are there
  at-value : (x v : Value) (t : Ty) → Printed env x t → Some x ≡ Some v → Printed env v t
  at-value x v t p e = let f : x ≡ v = cc in subst (λ w. Printed env w t) f p

  at-type : (v : Value) (s t : Ty) → Printed env v s → Some s ≡ Some t → Printed env v t
  at-type v s t p e = let f : s ≡ t = cc in subst (Printed env v) f p

  node-printed : (b : Bool) (op : Op) (es : Exs) (t : Ty) (v : Value) → PartsPrinted es → type_of_literal (node_ex b op es) env ≡ Some t → value_of_literal (node_ex b op es) env ≡ Some v → Printed env v t
  node-printed b (unary Op1.Minus) es t v parts p q =
      let h = when-some (is_number_literal (node_ex b (unary Op1.Minus) es)) int_ty t p in
      let n = minus-value es v q in
      subst (λ w. Printed env w t) n.1 (subst (Printed env (number n.0)) h.1 (number-printed n.0))
  node-printed b (unary Op1.Not) es t v parts p q = cc
  node-printed b (unary Op1.Bar) es t v parts p q = cc
  node-printed b (binary o) es t v parts p q = cc
  node-printed b (word f) es t v parts p q = cc
  node-printed b (index ss) es t v parts p q = cc
  node-printed b application es t v parts p q = cc
  node-printed b tuple_literal es t v parts p q =
      from-parts tuple_literal es t v parts p q (λ xs ts r e f. at-value (tuple (of_list xs)) v t (at-type (tuple (of_list xs)) (compound a_tuple (tys_of ts)) t (tuple-literal-printed env xs ts r) e) f)
  node-printed b set_literal es t v parts p q =
      from-parts set_literal es t v parts p q (λ xs ts r e f. at-value (set_of xs) v t (set-literal-printed env xs ts r t e) f)
  node-printed b mset_literal es t v parts p q =
      from-parts mset_literal es t v parts p q (λ xs ts r e f. at-value (mset_of xs) v t (mset-literal-printed env xs ts r t e) f)
  node-printed b function_literal es t v parts p q =
      from-parts function_literal es t v parts p q (λ xs ts r e f. function-literal-printed env xs ts r t v e f)
  node-printed b relation_literal es t v parts p q =
      from-parts relation_literal es t v parts p q (λ xs ts r e f. at-value (relation_of xs) v t (relation-literal-printed env xs ts r t e) f)
  node-printed b partition_literal es t v parts p q =
      from-parts partition_literal es t v parts p q (λ xs ts r e f. partition-literal-printed env xs ts r t v e f)
  node-printed b matrix_literal es t v parts p q =
      from-parts matrix_literal es t v parts p q (λ xs ts r e f. at-value (list_value xs) v t (list-literal-printed env xs ts t r e) f)
  node-printed b (record_literal ns) es t v parts p q =
      let h = if-some (all_distinct ns) (and_then (all_some (types_of_literals es env)) (type_of_op (record_literal ns))) t p in
      from-parts (record_literal ns) es t v parts h.1 q (λ xs ts r e f. at-value _ v t (at-type _ _ t (record-literal-printed env ns xs ts h.0 r) e) f)

  matrix-printed : (es : Exs) (d : Dom) (t : Ty) (v : Value) → PartsPrinted es → type_of_literal (matrix_ex es d) env ≡ Some t → value_of_literal (matrix_ex es d) env ≡ Some v → Printed env v t
  matrix-printed es d t v parts p q =
      let types = all_some (types_of_literals es env) in
      let h = if-some (is_literal_index d) (and_then types (λ ts. and_then (join_all ts) (λ s. Some (compound2 a_matrix (type_of_dom d) s)))) t p in
      let ts = then-some types (λ ts. and_then (join_all ts) (λ s. Some (compound2 a_matrix (type_of_dom d) s))) t h.1 in
      let vs = then-some (all_some (values_of_literals es env)) (matrix_value (members_in (domain_of d env))) v q in
      matrix-literal-printed env names.0 d vs.0 ts.0 t v (parts ts.0 vs.0 ts.1 vs.1) h.0 ts.2 vs.2

  -- ---- literals

  no-parts : PartsPrinted no_exs
  no-parts ts vs p q = let e : [] ≡ ts = cc in let f : [] ≡ vs = cc in subst (λ us. PrintedEach env vs us) e (subst (λ ws. PrintedEach env ws []) f tt)

  more-parts : (e : Ex) (es : Exs) → ((t : Ty) (v : Value) → type_of_literal e env ≡ Some t → value_of_literal e env ≡ Some v → Printed env v t) → PartsPrinted es → PartsPrinted (more_exs e es)
  more-parts e es first rest ts vs p q =
      let t = then-some (type_of_literal e env) (λ x. option_map (λ xs. x ∷ xs) (all_some (types_of_literals es env))) ts p in
      let us = map-some (all_some (types_of_literals es env)) (λ xs. t.0 ∷ xs) ts t.2 in
      let v = then-some (value_of_literal e env) (λ x. option_map (λ xs. x ∷ xs) (all_some (values_of_literals es env))) vs q in
      let ws = map-some (all_some (values_of_literals es env)) (λ xs. v.0 ∷ xs) vs v.2 in
      subst (PrintedEach env vs) us.2 (subst (λ zs. PrintedEach env zs (t.0 ∷ us.0)) ws.2 (first t.0 v.0 t.1 v.1, rest us.0 ws.0 us.1 ws.1))

  mutual
    pub printed : (e : Ex) (t : Ty) (v : Value) → type_of_literal e env ≡ Some t → value_of_literal e env ≡ Some v → Printed env v t
    printed (number_ex (pos n)) t v p q = at-value (number (pos n)) v t (at-type (number (pos n)) int_ty t (number-printed (pos n)) p) q
    printed (number_ex (negsuc n)) t v p q = cc
    printed (truth_ex b) t v p q =
        at-value (truth b) v t (at-type (truth b) bool_ty t (record { u = bool_ty; typed = refl; valued = refl; within = tt; parts = λ h. h }) p) q
    printed (name_ex a) t v p q = name-printed a t v p q
    printed (node_ex b op es) t v p q = node-printed b op es t v (printed-each es) p q
    printed (matrix_ex es d) t v p q = matrix-printed es d t v (printed-each es) p q
    printed (comp_ex e gs) t v p q = cc
    printed (cell_ex b n es) t v p q = cc
    printed (seen_ex r d ns es) t v p q = cc

    pub printed-each : (es : Exs) → PartsPrinted es
    printed-each no_exs = no-parts
    printed-each (more_exs e es) = more-parts e es (printed e) (printed-each es)

  -- ---- the law

  some-join : (t u v : Ty) → is_some (join u t) ≡ true → Within v u → is_some (join v t) ≡ true
  some-join t u v h w = go (join u t) refl h
    where
      go : (o : Option Ty) → join u t ≡ o → is_some o ≡ true → is_some (join v t) ≡ true
      go None e h = cc
      go (Some x) e h = let s = join-says u t x e in let j = join-within v t x (within-on v u x w s.0) s.1 in ap is_some j.1

  pub kept-value : (e : Ex) (t : Ty) (v : Value) → literal_value e t env ≡ Some v → literal_value (literal_of (item_name env.types) v) t env ≡ Some v
  kept-value e t v h =
      let i = if-some (is_some_and (type_of_literal e env) (λ u. is_some (join u t))) (value_of_literal e env) v h in
      let u = some-and (type_of_literal e env) (λ u. is_some (join u t)) i.0 in
      let r = printed e u.0 v u.1 i.1 in
      ap (λ o. if is_some_and o (λ x. is_some (join x t)) then value_of_literal (literal_of (item_name env.types) v) env else None) r.typed
      ∙ ap (λ b. if b then value_of_literal (literal_of (item_name env.types) v) env else None) (some-join t u.0 r.u u.2 r.within) ∙ r.valued
