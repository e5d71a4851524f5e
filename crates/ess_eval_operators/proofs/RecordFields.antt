-- The fields of a record literal, in the order of their names.
use Rattle.std.proofs.Common.{◌≡◌, refl, sym, ap, ◌∙◌, ℕ, suc, ◌+◌, ◌<◌, ◌≤◌, List, [], ◌∷◌, ◌++◌, length, map, drop, get_or, arith}
use Rattle.std.specs.Prelude.{◌≢◌}
use Rattle.std.specs.List.{insert}
use Rattle.std.proofs.lemmas.List.{at_drop_more, at_drop_all}
use Rattle.ess_semantics.specs.Lists.{zip}
use Rattle.ess_core.specs.declared.values.Val.{Val}
use Rattle.std.specs.declared.cmp.Ordering.{Ordering}
use Rattle.std.specs.declared.cmp.Ordering.TheVariants.{Less, Equal, Greater}
use Rattle.ess_semantics.specs.Values.{Text}
use Rattle.ess_semantics.specs.Order.{order_text}
use Rattle.ess_semantics.specs.Names.{Names, by_name, insert_name, insert_by}
use Rattle.ess_values.specs.Places.{place_in, place_by}
use Rattle.ess_core.specs.declared.values.FieldVal.{FieldVal}
use Rattle.ess_core.specs.ValueViews.{pure_val, pure_field_val}

-- Where the values have ended nothing more is named.
pub zip_ended : (ns : List Text) (vs : List Val) (k : ℕ) → length vs ≤ k → zip ns (map pure_val (drop k vs)) ≡ []
zip_ended ns vs k h = at_drop_all (λ l. zip ns (map pure_val l)) vs k h ∙ none ns
  where
    none : (ns : List Text) → zip ns (map pure_val []) ≡ []
    none [] = refl
    none (n ∷ ns) = refl

-- ---- sorting by insertion, from the last to the first

-- Entries put into a map that is sorted by name, from the last to the first.
abbrev pub all_inserted : {A : Type 0} → Names A → Names A → Names A
all_inserted [] cs = cs
all_inserted (b ∷ bs) cs = insert_name b (all_inserted bs cs)

pub all_by_name : {A : Type 0} (bs : Names A) → all_inserted bs [] ≡ by_name bs
all_by_name [] = refl
all_by_name (b ∷ bs) = ap (insert_name b) (all_by_name bs)

pub one_inserted : (old new sorted put : List FieldVal) (f : FieldVal) → old ≡ new ++ f ∷ []
    → map pure_field_val put ≡ insert_name (pure_field_val f) (map pure_field_val sorted)
    → all_inserted (map pure_field_val new) (map pure_field_val put) ≡ all_inserted (map pure_field_val old) (map pure_field_val sorted)
one_inserted old new sorted put f e p = ap (all_inserted (map pure_field_val new)) p ∙ last new
    ∙ ap (λ l. all_inserted (map pure_field_val l) (map pure_field_val sorted)) (sym e)
  where
    last : (fs : List FieldVal) → all_inserted (map pure_field_val fs) (insert_name (pure_field_val f) (map pure_field_val sorted))
        ≡ all_inserted (map pure_field_val (fs ++ f ∷ [])) (map pure_field_val sorted)
    last [] = refl
    last (g ∷ fs) = ap (insert_name (pure_field_val g)) (last fs)

-- ---- the place of a field

pub place_within : (n : Text) (fs : List FieldVal) → place_in n (map pure_field_val fs) ≤ length fs
place_within n [] = omega arith
place_within n (f ∷ fs) = go (order_text n (pure_field_val f).0) (place_within n fs)
  where
    go : (o : Ordering) → place_in n (map pure_field_val fs) ≤ length fs → place_by o (place_in n (map pure_field_val fs)) ≤ suc (length fs)
    go Less h = omega arith
    go Equal h = omega arith
    go Greater h = omega (arith, h)

pub field_inserted : (f : FieldVal) (fs : List FieldVal)
    → map pure_field_val (insert fs (place_in (pure_field_val f).0 (map pure_field_val fs)) f)
    ≡ insert_name (pure_field_val f) (map pure_field_val fs)
field_inserted f [] = refl
field_inserted f (g ∷ fs) = go (order_text (pure_field_val f).0 (pure_field_val g).0) (field_inserted f fs)
  where
    go : (o : Ordering) → map pure_field_val (insert fs (place_in (pure_field_val f).0 (map pure_field_val fs)) f)
        ≡ insert_name (pure_field_val f) (map pure_field_val fs)
        → map pure_field_val (insert (g ∷ fs) (place_by o (place_in (pure_field_val f).0 (map pure_field_val fs))) f)
        ≡ insert_by o (pure_field_val f) (pure_field_val g) (map pure_field_val fs) (insert_name (pure_field_val f) (map pure_field_val fs))
    go Less h = refl
    go Equal h = refl
    go Greater h = ap (λ l. pure_field_val g ∷ l) h

-- A field put in at its place.
pub put_at_place : (f : FieldVal) (old new : List FieldVal) (at : ℕ) → new ≡ insert old at f
    → at ≡ place_in (pure_field_val f).0 (map pure_field_val old)
    → map pure_field_val new ≡ insert_name (pure_field_val f) (map pure_field_val old)
put_at_place f old new at e p = ap (map pure_field_val) (e ∙ ap (λ k. insert old k f) p) ∙ field_inserted f old

pub place_more : (n : Text) (fs : List FieldVal) (i : ℕ) (f : FieldVal) → i < length fs → f ≡ get_or fs i f
    → order_text n (pure_field_val f).0 ≡ Greater
    → i + place_in n (map pure_field_val (drop i fs)) ≡ (i + 1) + place_in n (map pure_field_val (drop (i + 1) fs))
place_more n fs i f h is e =
    ap (λ k. i + k) (at_drop_more (λ l. place_in n (map pure_field_val l)) fs i f h
    ∙ ap (λ g. place_in n (map pure_field_val (g ∷ drop (i + 1) fs))) (sym is)
    ∙ ap (λ o. place_by o (place_in n (map pure_field_val (drop (i + 1) fs)))) e)
    ∙ omega arith

pub place_found : (n : Text) (fs : List FieldVal) (i : ℕ) (f : FieldVal) → i < length fs → f ≡ get_or fs i f
    → order_text n (pure_field_val f).0 ≢ Greater → place_in n (map pure_field_val (drop i fs)) ≡ 0
place_found n fs i f h is e =
    at_drop_more (λ l. place_in n (map pure_field_val l)) fs i f h
    ∙ ap (λ g. place_in n (map pure_field_val (g ∷ drop (i + 1) fs))) (sym is) ∙ go (order_text n (pure_field_val f).0) e
  where
    go : (o : Ordering) → o ≢ Greater → place_by o (place_in n (map pure_field_val (drop (i + 1) fs))) ≡ 0
    go Less e = refl
    go Equal e = refl
    go Greater e = absurd (e refl)
