-- By the parts of a literal: a value that it has is spelled where its numbers fit, and its names do.
use Rattle.std.proofs.Common.{◌≡◌, refl, subst, Bool, true, false, ◌&&◌, ◌||◌, not, List, [], ◌∷◌, length, pos, negsuc, Option, Some, None, option_map, nat_eq}
use Rattle.ess_semantics.specs.declared.words.Op1.{Op1}
use Rattle.ess_semantics.specs.Lists.{and_then, all_some, is_empty, is_some_and}
use Rattle.std.specs.Option.{is_some}
use Rattle.ess_semantics.specs.Values.{a_matrix, a_function, a_partition, Value, number, truth, node, of_list, tuple, matrix}
use Rattle.ess_semantics.specs.Collections.{sorted_once, set_of, mset_of, relation_of, has_double_argument, has_empty_part, has_overlap}
use Rattle.ess_semantics.specs.Names.{all_distinct}
use Rattle.ess_semantics.specs.Trees.{Op, unary, binary, word, index, application, tuple_literal, set_literal, mset_literal, function_literal, relation_literal, partition_literal, matrix_literal, record_literal, Ex, Exs, number_ex, truth_ex, name_ex, node_ex, matrix_ex, comp_ex, cell_ex, seen_ex, no_exs, more_exs, Dom}
use Rattle.ess_semantics.specs.Types.{Ty, compound2, type_of_dom, join, join_all}
use Rattle.ess_semantics.specs.OperatorTypes.{type_of_op}
use Rattle.ess_semantics.specs.Operators.{value_of_op, list_value}
use Rattle.ess_semantics.specs.Meaning.{Env, members_in, domain_of, matrix_value}
use Rattle.ess_semantics.specs.Literals.{is_literal_index, type_of_literal, types_of_literals, value_of_literal, values_of_literals, literal_value}
use Rattle.ess_semantics.proofs.Tests.{and-left, some-and}
use Rattle.ess_grammar.specs.Readable.{ReadableEx, ReadableExs, ReadableDom}
use Rattle.ess_print_laws.specs.Spelled.{is_spelled_number}
use Rattle.ess_values_laws.specs.Laws.{HasItemNames}
use Rattle.ess_values_laws.proofs.Options.{then-some, map-some, when-some, if-some}
use Rattle.ess_values_laws.proofs.Printed.{PrintedEach}
use Rattle.ess_values_laws.proofs.KeptValues.{minus-value, printed-each}
use Rattle.ess_values_laws.proofs.MatrixLiterals.{some-indices}
use Rattle.ess_values_laws.proofs.SpelledParts.{Asked, SpelledIf, EachSpelledIf}
use Rattle.ess_values_laws.proofs.SpelledIndices.{index-spelled}
use Rattle.ess_values_laws.proofs.SpelledValues.{name-spelled, tuple-spelled, record-spelled, sorted_once-spelled, sorted-spelled, function-spelled, items-spelled, list-spelled}

module _ (env : Env) (names : HasItemNames env) where
  -- ---- what is asked of parts

  of-operands : (m b : Bool) (op : Op) (es : Exs) → Asked env m (ReadableEx (node_ex b op es)) → Asked env m (ReadableExs es)
  of-operands true b op es q = q.2
  of-operands false b op es q = q

  of-items : (m : Bool) (es : Exs) (d : Dom) → Asked env m (ReadableEx (matrix_ex es d)) → Asked env m (ReadableExs es)
  of-items true es d q = q.1
  of-items false es d q = q

  of-index : (m : Bool) (es : Exs) (d : Dom) → Asked env m (ReadableEx (matrix_ex es d)) → Asked env m (ReadableDom d)
  of-index true es d q = q.2
  of-index false es d q = q

  of-first : (m : Bool) (e : Ex) (es : Exs) → Asked env m (ReadableExs (more_exs e es)) → Asked env m (ReadableEx e)
  of-first true e es q = q.0
  of-first false e es q = q

  of-rest : (m : Bool) (e : Ex) (es : Exs) → Asked env m (ReadableExs (more_exs e es)) → Asked env m (ReadableExs es)
  of-rest true e es q = q.1
  of-rest false e es q = q

  -- ---- operators' nodes

  -- the parts of a literal are spelled where they fit
  abbrev PartsSpelled : Bool → Exs → Type 0
  PartsSpelled m es = (ts : List Ty) (vs : List Value) → all_some (types_of_literals es env) ≡ Some ts → all_some (values_of_literals es env) ≡ Some vs → EachSpelledIf env m vs

  from-parts : (m : Bool) (op : Op) (es : Exs) (t : Ty) (v : Value) → PartsSpelled m es → and_then (all_some (types_of_literals es env)) (type_of_op op) ≡ Some t →
      and_then (all_some (values_of_literals es env)) (value_of_op op) ≡ Some v →
      ((xs : List Value) (ts : List Ty) → PrintedEach env xs ts → all_some (values_of_literals es env) ≡ Some xs → EachSpelledIf env m xs → type_of_op op ts ≡ Some t → value_of_op op xs ≡ Some v → SpelledIf env m v) →
      SpelledIf env m v
  from-parts m op es t v parts p q f =
      let ts = then-some (all_some (types_of_literals es env)) (type_of_op op) t p in
      let vs = then-some (all_some (values_of_literals es env)) (value_of_op op) v q in
      f vs.0 ts.0 (printed-each env names es ts.0 vs.0 ts.1 vs.1) vs.1 (parts ts.0 vs.0 ts.1 vs.1) ts.2 vs.2

  at-value : (m : Bool) (x v : Value) → Some x ≡ Some v → SpelledIf env m x → SpelledIf env m v
  at-value m x v e h = let f : x ≡ v = cc in subst (SpelledIf env m) f h

  node-spelled : (m b : Bool) (op : Op) (es : Exs) (t : Ty) (v : Value) → Asked env m (ReadableEx (node_ex b op es)) → PartsSpelled m es →
      type_of_literal (node_ex b op es) env ≡ Some t → value_of_literal (node_ex b op es) env ≡ Some v → SpelledIf env m v
  node-spelled m b (unary Op1.Minus) es t v k parts p q =
      let n = minus-value env names es v q in
      subst (SpelledIf env m) n.1 (λ h. and-left (is_spelled_number n.0) (m || true) h)
  node-spelled m b (unary Op1.Not) es t v k parts p q = cc
  node-spelled m b (unary Op1.Bar) es t v k parts p q = cc
  node-spelled m b (binary o) es t v k parts p q = cc
  node-spelled m b (word f) es t v k parts p q = cc
  node-spelled m b (index ss) es t v k parts p q = cc
  node-spelled m b application es t v k parts p q = cc
  node-spelled m b tuple_literal es t v k parts p q =
      from-parts m tuple_literal es t v parts p q (λ xs ts r e each f g. at-value m (tuple (of_list xs)) v g (tuple-spelled env names m b es xs k e each))
  node-spelled m b set_literal es t v k parts p q =
      from-parts m set_literal es t v parts p q (λ xs ts r e each f g. at-value m (set_of xs) v g (λ h. (sorted_once-spelled env names m xs each h).1))
  node-spelled m b mset_literal es t v k parts p q =
      from-parts m mset_literal es t v parts p q (λ xs ts r e each f g. at-value m (mset_of xs) v g (λ h. sorted-spelled env names m xs each h))
  node-spelled m b relation_literal es t v k parts p q =
      from-parts m relation_literal es t v parts p q (λ xs ts r e each f g. at-value m (relation_of xs) v g (λ h. (sorted_once-spelled env names m xs each h).1))
  node-spelled m b function_literal es t v k parts p q =
      from-parts m function_literal es t v parts p q (λ xs ts r e each f g.
      let w = when-some (not (has_double_argument xs)) (node a_function (of_list (sorted_once xs))) v g in
      subst (SpelledIf env m) w.1 (function-spelled env names m xs ts t r f each))
  node-spelled m b partition_literal es t v k parts p q =
      from-parts m partition_literal es t v parts p q (λ xs ts r e each f g.
      let w = when-some (not (has_empty_part xs) && not (has_overlap xs)) (node a_partition (of_list (sorted_once xs))) v g in
      subst (SpelledIf env m) w.1 (λ h. (sorted_once-spelled env names m xs each h).1))
  node-spelled m b matrix_literal es t v k parts p q =
      from-parts m matrix_literal es t v parts p q (λ xs ts r e each f g. at-value m (list_value xs) v g (list-spelled env names m xs each))
  node-spelled m b (record_literal ns) es t v k parts p q =
      let h = if-some (all_distinct ns) (and_then (all_some (types_of_literals es env)) (type_of_op (record_literal ns))) t p in
      from-parts m (record_literal ns) es t v parts h.1 q (λ xs ts r e each f g. at-value m _ v g (record-spelled env names m b ns es xs k e each))

  matrix-spelled : (m : Bool) (es : Exs) (d : Dom) (t : Ty) (v : Value) → Asked env m (ReadableDom d) → PartsSpelled m es →
      type_of_literal (matrix_ex es d) env ≡ Some t → value_of_literal (matrix_ex es d) env ≡ Some v → SpelledIf env m v
  matrix-spelled m es d t v k parts p q =
      let types = all_some (types_of_literals es env) in
      let h = if-some (is_literal_index d) (and_then types (λ ts. and_then (join_all ts) (λ s. Some (compound2 a_matrix (type_of_dom d) s)))) t p in
      let ts = then-some types (λ ts. and_then (join_all ts) (λ s. Some (compound2 a_matrix (type_of_dom d) s))) t h.1 in
      let vs = then-some (all_some (values_of_literals es env)) (matrix_value (members_in (domain_of d env))) v q in
      go vs.0 (members_in (domain_of d env)) refl vs.2 h.0 (parts ts.0 vs.0 ts.1 vs.1)
    where
      go : (xs : List Value) (o : Option (List Value)) → members_in (domain_of d env) ≡ o → matrix_value o xs ≡ Some v → is_literal_index d ≡ true → EachSpelledIf env m xs → SpelledIf env m v
      go xs None e f l each = cc
      go xs (Some is) e f l each =
          let w = when-some (nat_eq (length is) (length xs)) (matrix (of_list is) (of_list xs)) v f in
          subst (SpelledIf env m) w.1 (items-spelled env names m is xs (λ s n. index-spelled env m d is names.0 k l e (no-fewer is xs s w.0) n) each)
        where
          no-fewer : (is xs : List Value) → is_empty xs ≡ false → nat_eq (length is) (length xs) ≡ true → is_empty is ≡ false
          no-fewer is [] s n = cc
          no-fewer is (x ∷ xs) s n = some-indices env is (length xs) n

  -- ---- literals

  no-parts : (m : Bool) → PartsSpelled m no_exs
  no-parts m ts vs p q = let f : [] ≡ vs = cc in subst (EachSpelledIf env m) f tt

  more-parts : (m : Bool) (e : Ex) (es : Exs) → ((t : Ty) (v : Value) → type_of_literal e env ≡ Some t → value_of_literal e env ≡ Some v → SpelledIf env m v) → PartsSpelled m es → PartsSpelled m (more_exs e es)
  more-parts m e es first rest ts vs p q =
      let t = then-some (type_of_literal e env) (λ x. option_map (λ xs. x ∷ xs) (all_some (types_of_literals es env))) ts p in
      let us = map-some (all_some (types_of_literals es env)) (λ xs. t.0 ∷ xs) ts t.2 in
      let v = then-some (value_of_literal e env) (λ x. option_map (λ xs. x ∷ xs) (all_some (values_of_literals es env))) vs q in
      let ws = map-some (all_some (values_of_literals es env)) (λ xs. v.0 ∷ xs) vs v.2 in
      subst (EachSpelledIf env m) ws.2 (first t.0 v.0 t.1 v.1, rest us.0 ws.0 us.1 ws.1)

  mutual
    pub spelled : (e : Ex) (m : Bool) (t : Ty) (v : Value) → Asked env m (ReadableEx e) → type_of_literal e env ≡ Some t → value_of_literal e env ≡ Some v → SpelledIf env m v
    spelled (number_ex (pos n)) m t v k p q = at-value m (number (pos n)) v q (λ h. and-left (is_spelled_number (pos n)) (m || true) h)
    spelled (number_ex (negsuc n)) m t v k p q = cc
    spelled (truth_ex b) m t v k p q = at-value m (truth b) v q (λ h. refl)
    spelled (name_ex a) m t v k p q = λ h. name-spelled env names m a v k q
    spelled (node_ex b op es) m t v k p q = node-spelled m b op es t v k (spelled-each es m (of-operands m b op es k)) p q
    spelled (matrix_ex es d) m t v k p q = matrix-spelled m es d t v (of-index m es d k) (spelled-each es m (of-items m es d k)) p q
    spelled (comp_ex e gs) m t v k p q = cc
    spelled (cell_ex b n es) m t v k p q = cc
    spelled (seen_ex r d ns es) m t v k p q = cc

    spelled-each : (es : Exs) (m : Bool) → Asked env m (ReadableExs es) → PartsSpelled m es
    spelled-each no_exs m k = no-parts m
    spelled-each (more_exs e es) m k = more-parts m e es (λ t v. spelled e m t v (of-first m e es k)) (spelled-each es m (of-rest m e es k))

  -- ---- the laws

  -- A literal that has a value has a type.
  pub value-spelled : (m : Bool) (e : Ex) (t : Ty) (v : Value) → Asked env m (ReadableEx e) → literal_value e t env ≡ Some v → SpelledIf env m v
  value-spelled m e t v k h =
      let i = if-some (is_some_and (type_of_literal e env) (λ u. is_some (join u t))) (value_of_literal e env) v h in
      let u = some-and (type_of_literal e env) (λ u. is_some (join u t)) i.0 in
      spelled e m u.0 v k u.1 i.1
