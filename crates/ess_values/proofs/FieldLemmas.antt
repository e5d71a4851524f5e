-- The fields of a record literal, in the order of their names.
use Rattle.std.proofs.Common.{◌≡◌, refl, sym, ap, ◌∙◌, ℕ, suc, ◌+◌, ◌<◌, ◌≤◌, List, [], ◌∷◌, ◌++◌, length, map, drop, get_or, arith}
use Rattle.std.specs.Prelude.{◌≢◌}
use Rattle.std.specs.List.{insert}
use Rattle.std.proofs.lemmas.List.{at_drop_more}
use Rattle.std.specs.declared.cmp.Ordering.{Ordering}
use Rattle.std.specs.declared.cmp.Ordering.TheVariants.{Less, Equal, Greater}
use Rattle.ess_semantics.specs.Values.{Text, a_record}
use Rattle.ess_semantics.specs.Types.{compound, tys_of}
use Rattle.ess_semantics.specs.OperatorTypes.{record_ty}
use Rattle.ess_semantics.specs.Operators.{record_value}
use Rattle.ess_semantics.specs.Order.{order_text}
use Rattle.ess_semantics.specs.Names.{Names, keys, by_name, insert_name, insert_by}
use Rattle.ess_values.specs.Places.{place_in, place_by}
use Rattle.ess_values.specs.Literals.{pure_literal, pure_field, pure_fields}
use Rattle.ess_values.specs.Shapes.{pure_shape, pure_shapes}
use Rattle.ess_values.specs.declared.shapes.Kind.TheVariants as Kind
use Rattle.ess_values.specs.declared.shapes.Shape.{Shape}
use Rattle.ess_values.specs.declared.shapes.Shape.TheVariants as Shape
use Rattle.ess_core.specs.declared.values.FieldVal.{FieldVal}
use Rattle.ess_core.specs.declared.values.Val.TheVariants as Val
use Rattle.ess_core.specs.ValueViews.{pure_val, pure_field_val}
use Rattle.ess_core.proofs.ValueEquations.{pure_rec}
use Rattle.ess_values.proofs.ShapeEquations.{shape_node}
use Rattle.ess_values.specs.declared.literals.parts.Field.{Field}

-- ---- sorting by insertion, from the last to the first

-- Entries put into a map that is sorted by name, from the last to the first.
abbrev pub all_inserted : {A : Type 0} → Names A → Names A → Names A
all_inserted [] cs = cs
all_inserted (b ∷ bs) cs = insert_name b (all_inserted bs cs)

pub all_by_name : {A : Type 0} (bs : Names A) → all_inserted bs [] ≡ by_name bs
all_by_name [] = refl
all_by_name (b ∷ bs) = ap (insert_name b) (all_by_name bs)

pub one_inserted : (old new sorted put : List Field) (f : Field) → old ≡ new ++ f ∷ [] → pure_fields put ≡ insert_name (pure_field f) (pure_fields sorted)
    → all_inserted (pure_fields new) (pure_fields put) ≡ all_inserted (pure_fields old) (pure_fields sorted)
one_inserted old new sorted put f e p = ap (all_inserted (pure_fields new)) p ∙ last new ∙ ap (λ l. all_inserted (pure_fields l) (pure_fields sorted)) (sym e)
  where
    last : (fs : List Field) → all_inserted (pure_fields fs) (insert_name (pure_field f) (pure_fields sorted)) ≡ all_inserted (pure_fields (fs ++ f ∷ [])) (pure_fields sorted)
    last [] = refl
    last (g ∷ fs) = ap (insert_name (pure_field g)) (last fs)

-- ---- the place of a field

pub place_within : (n : Text) (fs : List Field) → place_in n (pure_fields fs) ≤ length fs
place_within n [] = omega arith
place_within n (f ∷ fs) = go (order_text n f.name) (place_within n fs)
  where
    go : (o : Ordering) → place_in n (pure_fields fs) ≤ length fs → place_by o (place_in n (pure_fields fs)) ≤ suc (length fs)
    go Less h = omega arith
    go Equal h = omega arith
    go Greater h = omega (arith, h)

pub field_inserted : (f : Field) (fs : List Field) → pure_fields (insert fs (place_in f.name (pure_fields fs)) f) ≡ insert_name (pure_field f) (pure_fields fs)
field_inserted f [] = refl
field_inserted f (g ∷ fs) = go (order_text f.name g.name) (field_inserted f fs)
  where
    go : (o : Ordering) → pure_fields (insert fs (place_in f.name (pure_fields fs)) f) ≡ insert_name (pure_field f) (pure_fields fs)
        → pure_fields (insert (g ∷ fs) (place_by o (place_in f.name (pure_fields fs))) f) ≡ insert_by o (pure_field f) (pure_field g) (pure_fields fs) (insert_name (pure_field f) (pure_fields fs))
    go Less h = refl
    go Equal h = refl
    go Greater h = ap (λ l. pure_field g ∷ l) h

pub place_more : (n : Text) (fs : List Field) (i : ℕ) (f : Field) → i < length fs → f ≡ get_or fs i f → order_text n f.name ≡ Greater
    → i + place_in n (pure_fields (drop i fs)) ≡ (i + 1) + place_in n (pure_fields (drop (i + 1) fs))
place_more n fs i f h is e =
    ap (λ k. i + k) (at_drop_more (λ l. place_in n (pure_fields l)) fs i f h ∙ ap (λ g. place_in n (pure_fields (g ∷ drop (i + 1) fs))) (sym is)
    ∙ ap (λ o. place_by o (place_in n (pure_fields (drop (i + 1) fs)))) e)
    ∙ omega arith

pub place_found : (n : Text) (fs : List Field) (i : ℕ) (f : Field) → i < length fs → f ≡ get_or fs i f → order_text n f.name ≢ Greater → place_in n (pure_fields (drop i fs)) ≡ 0
place_found n fs i f h is e =
    at_drop_more (λ l. place_in n (pure_fields l)) fs i f h ∙ ap (λ g. place_in n (pure_fields (g ∷ drop (i + 1) fs))) (sym is) ∙ go (order_text n f.name) e
  where
    go : (o : Ordering) → o ≢ Greater → place_by o (place_in n (pure_fields (drop (i + 1) fs))) ≡ 0
    go Less e = refl
    go Equal e = refl
    go Greater e = absurd (e refl)

-- ---- a record from its fields

keys_kept : {A B : Type 0} (g : Text × A → B) (fs : Names A) → keys (map (λ f. (f.0, g f)) fs) ≡ keys fs
keys_kept g [] = refl
keys_kept g (f ∷ fs) = ap (λ l. f.0 ∷ l) (keys_kept g fs)

parts_kept : {A B : Type 0} (g : Text × A → B) (fs : Names A) → map {A = Text × B} (λ f. f.1) (map (λ f. (f.0, g f)) fs) ≡ map g fs
parts_kept g [] = refl
parts_kept g (f ∷ fs) = ap (λ l. g f ∷ l) (parts_kept g fs)

pub record_there : (fs : List Field) (ns : List Text) (ss : List Shape) (vs : List FieldVal) → ns ≡ keys (pure_fields fs) → map pure_shape ss ≡ map (λ f. f.1.0) (pure_fields fs)
    → map pure_field_val vs ≡ map (λ f. (f.0, f.1.1)) (pure_fields fs)
    → pure_literal record { shape = Shape.Node (Kind.Rec ns) ss; val = Val.Rec vs } ≡ (record_ty (map (λ f. (f.0, f.1.0)) (pure_fields fs)), record_value (map (λ f. (f.0, f.1.1)) (pure_fields fs)))
record_there fs ns ss vs n s v =
    ap (λ t. (t, pure_val (Val.Rec vs))) typed ∙ ap (λ w. (record_ty (map (λ f. (f.0, f.1.0)) (pure_fields fs)), w)) (pure_rec vs ∙ ap record_value v)
  where
    typed : pure_shape (Shape.Node (Kind.Rec ns) ss) ≡ record_ty (map (λ f. (f.0, f.1.0)) (pure_fields fs))
    typed =
        shape_node (Kind.Rec ns) ss
        ∙ ap (λ l. compound (a_record l) (pure_shapes ss)) (n ∙ sym (keys_kept (λ f. f.1.0) (pure_fields fs)))
        ∙ ap (λ l. compound (a_record (keys (map (λ f. (f.0, f.1.0)) (pure_fields fs)))) (tys_of l)) (s ∙ sym (parts_kept (λ f. f.1.0) (pure_fields fs)))
