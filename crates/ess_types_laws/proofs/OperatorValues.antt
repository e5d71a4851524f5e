-- What an operator or a literal gives for values of types that fit it has the type of its result, but for an index.
use Rattle.std.proofs.Common.{◌≡◌, refl, sym, ap, ◌∙◌, Bool, true, false, not, List, [], ◌∷◌, Option, Some}
use Rattle.ess_semantics.specs.Lists.{and_then, all_some, zip}
use Rattle.ess_semantics.specs.Values.{a_tuple, a_matrix, a_set, a_mset, Value, of_list, tuple}
use Rattle.ess_semantics.specs.Names.{by_name}
use Rattle.ess_semantics.specs.Collections.{set_of, mset_of}
use Rattle.ess_semantics.specs.Trees.{Op, unary, binary, word, index, application, tuple_literal, set_literal, mset_literal, function_literal, relation_literal, partition_literal, matrix_literal, record_literal, is_truth_op}
use Rattle.ess_semantics.specs.Types.{Ty, any_ty, int_ty, compound, no_tys, compound1, compound2, tys_of, join_all}
use Rattle.ess_semantics.specs.OperatorTypes.{function_ty, relation_ty, partition_ty, record_ty, type_of_op}
use Rattle.ess_semantics.specs.Operators.{list_value, record_value, value_of_op}
use Rattle.ess_semantics.specs.Meaning.{TypeEntry}
use Rattle.ess_semantics.specs.TypeMembers.{are_of}
use Rattle.ess_semantics.proofs.Orders.{to_list-of_list}
use Rattle.ess_types_laws.specs.WellBound.{is_empty_tuple, tuples_have_parts}
use Rattle.ess_types_laws.proofs.Joins.{Of, OfEach, all-joined}
use Rattle.ess_types_laws.proofs.Words.{made, set-made, mset-made, word1-fits, word2-fits}
use Rattle.ess_types_laws.proofs.Binaries.{unary-fits, binary-fits}
use Rattle.ess_types_laws.proofs.Literals.{row-of, zip-fits, sorted-fits, record-fits, then-type, map-type, function-made, relation-made, partition-made, application-fits, list-fits}

module _ (p : Bool) (es : List TypeEntry) where
  not-empty : (us : List (Option Ty)) (ts : List Ty) (j : Ty) → all_some us ≡ Some ts → join_all ts ≡ Some j →
      tuples_have_parts relation_literal us ≡ true → j ≡ compound a_tuple no_tys → ⊥
  not-empty us ts j q r h e =
      let z : and_then (all_some us) join_all ≡ Some (compound a_tuple no_tys) = ap (λ o. and_then o join_all) q ∙ r ∙ ap Some e in
      let y : false ≡ true = sym (ap (λ o. not (is_empty_tuple o)) z) ∙ h in cc

  -- What an operator or a literal gives has the type of its result, but for an index and for what gives truth values.
  pub op-fits : (op : Op) (us : List (Option Ty)) (ts : List Ty) (vs : List Value) (t : Ty) (v : Value) → all_some us ≡ Some ts →
      OfEach p es ts vs → tuples_have_parts op us ≡ true →
      is_truth_op op ≡ false → type_of_op op ts ≡ Some t → value_of_op op vs ≡ Some v → Of p es t v
  op-fits (unary f) us (a ∷ []) (x ∷ []) t v q o r n e h = unary-fits p es f a t x v n e h
  op-fits (binary f) us (a ∷ b ∷ []) (x ∷ y ∷ []) t v q o r n e h = binary-fits p es f a b t x y v n e o.0 o.1.0 h
  op-fits (word f) us (a ∷ []) (x ∷ []) t v q o r n e h = word1-fits p es f a t x v n e o.0 h
  op-fits (word f) us (a ∷ b ∷ []) (x ∷ y ∷ []) t v q o r n e h = word2-fits p es f a b t x y v n e o.0 o.1.0 h
  op-fits application us (a ∷ ts) (x ∷ vs) t v q o r n e h = application-fits p es a ts t x vs v e o.0 h
  op-fits tuple_literal us ts vs t v q o r n e h =
      made p es (compound a_tuple (tys_of ts)) t (tuple (of_list vs)) v (cc) h (ap (are_of p es (tys_of ts)) (to_list-of_list vs)
      ∙ row-of p es ts vs o)
  op-fits (record_literal fs) us ts vs t v q o r n e h =
      made p es (record_ty (by_name (zip fs ts))) t (record_value (by_name (zip fs vs))) v (cc) h
      (record-fits p es (by_name (zip fs ts)) (by_name (zip fs vs)) (sorted-fits p es (zip fs ts) (zip fs vs) (zip-fits p es fs ts vs o)))
  op-fits set_literal us ts vs t v q o r n e h =
      let j = map-type p es (join_all ts) (compound1 a_set) t e in
      made p es (compound1 a_set j.0) t (set_of vs) v j.2 h (set-made p es j.0 vs (all-joined p es ts vs j.0 j.1 o))
  op-fits mset_literal us ts vs t v q o r n e h =
      let j = map-type p es (join_all ts) (compound1 a_mset) t e in
      made p es (compound1 a_mset j.0) t (mset_of vs) v j.2 h (mset-made p es j.0 vs (all-joined p es ts vs j.0 j.1 o))
  op-fits function_literal us ts vs t v q o r n e h = let j = then-type p es (join_all ts) function_ty t e in
      function-made p es j.0 t vs v j.2 (all-joined p es ts vs j.0 j.1 o) h
  op-fits relation_literal us ts vs t v q o r n e h =
      let j = then-type p es (join_all ts) relation_ty t e in
      relation-made p es j.0 t vs v (not-empty us ts j.0 q j.1 r) j.2 (all-joined p es ts vs j.0 j.1 o) h
  op-fits partition_literal us ts vs t v q o r n e h = let j = then-type p es (join_all ts) partition_ty t e in
      partition-made p es j.0 t vs v j.2 (all-joined p es ts vs j.0 j.1 o) h
  op-fits matrix_literal us [] [] t v q o r n e h = made p es (compound2 a_matrix any_ty any_ty) t (list_value []) v (cc) h refl
  op-fits matrix_literal us (a ∷ ts) vs t v q o r n e h =
      let j = map-type p es (join_all (a ∷ ts)) (compound2 a_matrix int_ty) t e in
      made p es (compound2 a_matrix int_ty j.0) t (list_value vs) v j.2 h (list-fits p es j.0 vs (all-joined p es (a ∷ ts) vs j.0 j.1 o))
  op-fits matrix_literal us [] (x ∷ vs) t v q o r n e h = absurd o
  op-fits (index qs) us ts vs t v q o r n e h = cc
  op-fits (unary f) us [] vs t v q o r n e h = cc
  op-fits (unary f) us (a ∷ b ∷ ts) vs t v q o r n e h = cc
  op-fits (unary f) us (a ∷ []) [] t v q o r n e h = absurd o
  op-fits (unary f) us (a ∷ []) (x ∷ y ∷ vs) t v q o r n e h = absurd o.1
  op-fits (binary f) us [] vs t v q o r n e h = cc
  op-fits (binary f) us (a ∷ []) vs t v q o r n e h = cc
  op-fits (binary f) us (a ∷ b ∷ c ∷ ts) vs t v q o r n e h = cc
  op-fits (binary f) us (a ∷ b ∷ []) [] t v q o r n e h = absurd o
  op-fits (binary f) us (a ∷ b ∷ []) (x ∷ []) t v q o r n e h = absurd o.1
  op-fits (binary f) us (a ∷ b ∷ []) (x ∷ y ∷ z ∷ vs) t v q o r n e h = absurd o.1.1
  op-fits (word f) us [] vs t v q o r n e h = cc
  op-fits (word f) us (a ∷ b ∷ c ∷ ts) vs t v q o r n e h = cc
  op-fits (word f) us (a ∷ []) [] t v q o r n e h = absurd o
  op-fits (word f) us (a ∷ []) (x ∷ y ∷ vs) t v q o r n e h = absurd o.1
  op-fits (word f) us (a ∷ b ∷ []) [] t v q o r n e h = absurd o
  op-fits (word f) us (a ∷ b ∷ []) (x ∷ []) t v q o r n e h = absurd o.1
  op-fits (word f) us (a ∷ b ∷ []) (x ∷ y ∷ z ∷ vs) t v q o r n e h = absurd o.1.1
  op-fits application us [] vs t v q o r n e h = cc
  op-fits application us (a ∷ ts) [] t v q o r n e h = absurd o
