-- The type and the value of a record literal, from those of its fields.
use Rattle.std.proofs.Common.{◌≡◌, refl, sym, ap, ◌∙◌, ℕ, ◌+◌, ◌<◌, ◌≤◌, Bool, true, false, if◌then◌else◌, List, [], ◌∷◌, ◌++◌, length, map, drop, get_or, Option, Some, None, option_map}
use Rattle.std.proofs.lemmas.List.{at_drop_more, at_drop_all, map_push}
use Rattle.ess_semantics.specs.Lists.{and_then, when, all_some, zip}
use Rattle.ess_semantics.specs.Values.{Text, Value}
use Rattle.ess_semantics.specs.Names.{Names, keys, by_name, insert_name, insert_by, all_distinct}
use Rattle.std.specs.declared.cmp.Ordering.{Ordering}
use Rattle.std.specs.declared.cmp.Ordering.TheVariants.{Less, Equal, Greater}
use Rattle.ess_semantics.specs.Order.{order_text}
use Rattle.ess_semantics.specs.Types.{Ty}
use Rattle.ess_semantics.specs.Trees as pure
use Rattle.ess_semantics.specs.Trees.{Op, tuple_literal, set_literal, mset_literal, function_literal, relation_literal, partition_literal, matrix_literal, record_literal, node_ex, matrix_ex, no_exs, more_exs, Exs, Dom}
use Rattle.ess_semantics.specs.OperatorTypes.{record_ty}
use Rattle.ess_semantics.specs.Operators.{record_value}
use Rattle.ess_semantics.specs.Meaning.{Env}
use Rattle.ess_semantics.specs.Literals.{types_of_literals, values_of_literals}
use Rattle.ess_core.specs.TreeViews.{exs_of, field_values, pure_ex, pure_field_ex}
use Rattle.ess_core.specs.ValueViews.{pure_val}
use Rattle.ess_core.specs.declared.expressions.FieldEx.{FieldEx}
use Rattle.ess_core.specs.declared.domains.Dom.TheViews.{out-FieldEx}
use Rattle.ess_core.proofs.PartEquations.{pure_field_ex_is}
use Rattle.ess_values.specs.declared.literals.parts.Field.{Field}
use Rattle.ess_values.specs.Literals.{pure_field, pure_fields}
use Rattle.ess_values.specs.Shapes.{pure_shape}
use Rattle.ess_values.specs.TypedLiterals.{both, typed_literal, typed_literals, typed_fields, typed_record}
use Rattle.ess_values.proofs.Ahead.{ahead, ahead_all, ahead_one}
use Rattle.ess_values.proofs.Reading.{typed_more, literals_more}

-- ---- the fields of a record

-- The types and the values of fields.
abbrev pub field_parts : Names (Ty × Value) → List Ty × List Value
field_parts ps = (map (λ f. f.1.0) ps, map (λ f. f.1.1) ps)

pub fields_typed : (fs : Names pure.Ex) (env : Env) → typed_literals (exs_of (field_values fs)) env ≡ option_map field_parts (typed_fields fs env)
fields_typed [] env = refl
fields_typed (f ∷ fs) env =
    literals_more f.1 (exs_of (field_values fs)) env
    ∙ ap (λ o. and_then (typed_literal f.1 env) (λ x. option_map (typed_more x) o)) (fields_typed fs env)
    ∙ go (typed_literal f.1 env) (typed_fields fs env)
  where
    go : (o : Option (Ty × Value)) (p : Option (Names (Ty × Value)))
        → and_then o (λ x. option_map (typed_more x) (option_map field_parts p))
        ≡ option_map field_parts (and_then o (λ x. option_map (λ ps. (f.0, x) ∷ ps) p))
    go None p = refl
    go (Some x) None = refl
    go (Some x) (Some ps) = refl

fields_kept : (fs : Names pure.Ex) (env : Env) (ps : Names (Ty × Value)) → typed_fields fs env ≡ Some ps → keys ps ≡ keys fs
fields_kept [] env ps e = let q : ps ≡ [] = cc in ap keys q
fields_kept (f ∷ fs) env ps e = go (typed_literal f.1 env) (typed_fields fs env) (fields_kept fs env) refl e
  where
    go : (o : Option (Ty × Value)) (p : Option (Names (Ty × Value))) → ((qs : Names (Ty × Value)) → typed_fields fs env ≡ Some qs → keys qs ≡ keys fs) → typed_fields fs env ≡ p → and_then o (λ x. option_map (λ qs. (f.0, x) ∷ qs) p) ≡ Some ps → keys ps ≡ f.0 ∷ keys fs
    go None p ih d e = cc
    go (Some x) None ih d e = cc
    go (Some x) (Some qs) ih d e = let q : ps ≡ (f.0, x) ∷ qs = cc in ap keys q ∙ ap (λ l. f.0 ∷ l) (ih qs d)

zipped : {A B : Type 0} (g : A → B) (ps : Names A) → zip (keys ps) (map (λ f. g f.1) ps) ≡ map (λ f. (f.0, g f.1)) ps
zipped g [] = refl
zipped g (p ∷ ps) = ap (λ l. (p.0, g p.1) ∷ l) (zipped g ps)

inserted_on : {A B : Type 0} (g : A → B) (p : Text × A) (ps : Names A) → insert_name (p.0, g p.1) (map (λ f. (f.0, g f.1)) ps) ≡ map (λ f. (f.0, g f.1)) (insert_name p ps)
inserted_on g p [] = refl
inserted_on {A} {B} g p (q ∷ qs) = go (order_text p.0 q.0) (inserted_on g p qs)
  where
    go : (o : Ordering) → insert_name (p.0, g p.1) (map (λ (f : Text × A). (f.0, g f.1)) qs) ≡ map (λ (f : Text × A). (f.0, g f.1)) (insert_name p qs)
        → insert_by o (p.0, g p.1) (q.0, g q.1) (map (λ (f : Text × A). (f.0, g f.1)) qs) (insert_name (p.0, g p.1) (map (λ (f : Text × A). (f.0, g f.1)) qs))
        ≡ map (λ (f : Text × A). (f.0, g f.1)) (insert_by o p q qs (insert_name p qs))
    go Less h = refl
    go Equal h = refl
    go Greater h = ap (λ l. (q.0, g q.1) ∷ l) h

sorted_on : {A B : Type 0} (g : A → B) (ps : Names A) → by_name (map (λ f. (f.0, g f.1)) ps) ≡ map (λ f. (f.0, g f.1)) (by_name ps)
sorted_on g [] = refl
sorted_on g (p ∷ ps) = ap (insert_name (p.0, g p.1)) (sorted_on g ps) ∙ inserted_on g p (by_name ps)

-- The record of these types and values, where no name stands twice.
abbrev pub record_made : Bool → List Text → List Ty × List Value → Option (Ty × Value)
record_made b ns p = when b (record_ty (by_name (zip ns p.0)), record_value (by_name (zip ns p.1)))

pub record_is_read : (fs : Names pure.Ex) (env : Env) → typed_literal (node_ex false (record_literal (keys fs)) (exs_of (field_values fs))) env ≡ and_then (typed_fields fs env) typed_record
record_is_read fs env =
    parted (all_distinct (keys fs)) (all_some (types_of_literals (exs_of (field_values fs)) env)) (all_some (values_of_literals (exs_of (field_values fs)) env))
    ∙ ap (λ o. and_then o (record_made (all_distinct (keys fs)) (keys fs))) (fields_typed fs env)
    ∙ last (typed_fields fs env) refl
  where
    parted : (b : Bool) (o : Option (List Ty)) (p : Option (List Value))
        → both (if b then and_then o (λ ts. Some (record_ty (by_name (zip (keys fs) ts)))) else None) (and_then p (λ vs. Some (record_value (by_name (zip (keys fs) vs)))))
        ≡ and_then (both o p) (record_made b (keys fs))
    parted true None p = refl
    parted true (Some ts) None = refl
    parted true (Some ts) (Some vs) = refl
    parted false None p = refl
    parted false (Some ts) None = refl
    parted false (Some ts) (Some vs) = refl

    last : (o : Option (Names (Ty × Value))) → typed_fields fs env ≡ o
        → and_then (option_map field_parts o)
        (record_made (all_distinct (keys fs)) (keys fs)) ≡ and_then o typed_record
    last None e = refl
    last (Some ps) e =
        ap (λ ns. record_made (all_distinct ns) ns (field_parts ps)) (sym (fields_kept fs env ps e))
        ∙ ap (λ l. when {A = Ty × Value} (all_distinct (keys ps)) (record_ty l, record_value (by_name (zip (keys ps) (map (λ (f : Text × (Ty × Value)). f.1.1) ps)))))
        (ap by_name (zipped (λ (x : Ty × Value). x.0) ps) ∙ sorted_on (λ (x : Ty × Value). x.0) ps)
        ∙ ap (λ l. when {A = Ty × Value} (all_distinct (keys ps)) (record_ty (map (λ (f : Text × (Ty × Value)). (f.0, f.1.0)) (by_name ps)), record_value l))
        (ap by_name (zipped (λ (x : Ty × Value). x.1) ps) ∙ sorted_on (λ (x : Ty × Value). x.1) ps)

fields_next : (xs : List FieldEx) (i : ℕ) (x : FieldEx) (env : Env) → i < length xs → x ≡ get_or xs i x
    → typed_fields (map pure_field_ex (drop i xs)) env ≡ and_then (typed_literal (pure_ex (out-FieldEx x).ex) env) (λ p. option_map (λ ps. ((out-FieldEx x).name, p) ∷ ps) (typed_fields (map pure_field_ex (drop (i + 1) xs)) env))
fields_next xs i x env h is =
    at_drop_more (λ l. typed_fields (map pure_field_ex l) env) xs i x h
    ∙ ap (λ y. typed_fields (pure_field_ex y ∷ map pure_field_ex (drop (i + 1) xs)) env) (sym is)
    ∙ ap (λ f. typed_fields (f ∷ map pure_field_ex (drop (i + 1) xs)) env) (pure_field_ex_is x)

pub fields_step : (xs : List FieldEx) (i : ℕ) (x : FieldEx) (env : Env) (fs gs : List Field) (f : Field) → i < length xs → x ≡ get_or xs i x → f.name ≡ (out-FieldEx x).name
    → Some (pure_shape f.shape, pure_val f.val) ≡ typed_literal (pure_ex (out-FieldEx x).ex) env → gs ≡ fs ++ f ∷ []
    → ahead (pure_fields gs) (typed_fields (map pure_field_ex (drop (i + 1) xs)) env) ≡ ahead (pure_fields fs) (typed_fields (map pure_field_ex (drop i xs)) env)
fields_step xs i x env fs gs f h is n e p =
    ap (λ l. ahead (pure_fields l) (typed_fields (map pure_field_ex (drop (i + 1) xs)) env)) p
    ∙ ap (λ l. ahead l (typed_fields (map pure_field_ex (drop (i + 1) xs)) env)) (map_push pure_field fs f)
    ∙ ahead_one (pure_fields fs) (pure_field f) (typed_fields (map pure_field_ex (drop (i + 1) xs)) env)
    ∙ ap (λ m. ahead (pure_fields fs) (option_map (λ ps. (m, (pure_shape f.shape, pure_val f.val)) ∷ ps) (typed_fields (map pure_field_ex (drop (i + 1) xs)) env))) n
    ∙ ap (λ o. ahead (pure_fields fs) (and_then o (λ q. option_map (λ ps. ((out-FieldEx x).name, q) ∷ ps) (typed_fields (map pure_field_ex (drop (i + 1) xs)) env)))) e
    ∙ ap (ahead (pure_fields fs)) (sym (fields_next xs i x env h is))

pub fields_none : (xs : List FieldEx) (i : ℕ) (x : FieldEx) (env : Env) (fs : List Field) → i < length xs → x ≡ get_or xs i x → None ≡ typed_literal (pure_ex (out-FieldEx x).ex) env
    → ahead (pure_fields fs) (typed_fields (map pure_field_ex (drop i xs)) env) ≡ None
fields_none xs i x env fs h is e =
    ap (ahead (pure_fields fs)) (fields_next xs i x env h is
    ∙ ap (λ o. and_then o (λ q. option_map (λ ps. ((out-FieldEx x).name, q) ∷ ps) (typed_fields (map pure_field_ex (drop (i + 1) xs)) env))) (sym e))

pub fields_end : (xs : List FieldEx) (i : ℕ) (env : Env) (fs : List Field) → length xs ≤ i → ahead (pure_fields fs) (typed_fields (map pure_field_ex (drop i xs)) env) ≡ Some (pure_fields fs)
fields_end xs i env fs h = at_drop_all (λ l. ahead (pure_fields fs) (typed_fields (map pure_field_ex l) env)) xs i h ∙ ahead_all (pure_fields fs)
