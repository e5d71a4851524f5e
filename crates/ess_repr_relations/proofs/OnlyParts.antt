-- The only item of a row, which is taken from its end.
use Rattle.std.proofs.Common.{◌≡◌, refl, sym, ap, ◌∙◌, List, [], ◌∷◌, ◌++◌, map, length, Option, Some, None, option_map}
use Rattle.ess_semantics.specs.Lists.{and_then, all_some, only_of}
use Rattle.ess_semantics.specs.Values.{Value, a_set, node, of_list}
use Rattle.ess_semantics.specs.Trees.{partition_literal}
use Rattle.ess_semantics.specs.Collections.{partition_of}
use Rattle.ess_semantics.specs.Operators.{value_of_node}
use Rattle.ess_semantics.specs.PartitionLayers.{partition_from}
use Rattle.ess_semantics.proofs.Orders.{to_list-of_list}
use Rattle.ess_core.specs.declared.values.Val.{Val}
use Rattle.ess_core.specs.declared.tables.Table.{Table}
use Rattle.ess_core.specs.ValueViews.{pure_val}
use Rattle.ess_repr_tables.specs.SlotViews.{pure_tables}

there : {A B : Type 0} (f : A → B) (old new : List A) (last : A) → old ≡ new ++ last ∷ [] → length new ≡ 0 →
    Some (f last) ≡ only_of (map f old)
there f old [] last e h = ap (λ l. only_of (map f l)) (sym e)
there f old (x ∷ new) last e h = cc

more : {A B : Type 0} (f : A → B) (old new : List A) (last : A) → old ≡ new ++ last ∷ [] → (length new ≡ 0 → ⊥) → None ≡ only_of (map f old)
more f old [] last e h = absurd (h refl)
more f old (x ∷ new) last e h = several new ∙ ap (λ l. only_of (map f l)) (sym e)
  where
    several : (new : List _) → None ≡ only_of (f x ∷ map f (new ++ last ∷ []))
    several [] = refl
    several (y ∷ new) = refl

-- Tables of one part.
pub only_there : (old new : List (List Table)) (last : List Table) → old ≡ new ++ last ∷ [] → length new ≡ 0 →
    Some (pure_tables last) ≡ only_of (map pure_tables old)
only_there = there pure_tables

pub only_more : (old new : List (List Table)) (last : List Table) → old ≡ new ++ last ∷ [] → (length new ≡ 0 → ⊥) →
    None ≡ only_of (map pure_tables old)
only_more = more pure_tables

pub only_none : (old : List (List Table)) → old ≡ [] → None ≡ only_of (map pure_tables old)
only_none old e = ap (λ l. only_of (map pure_tables l)) (sym e)

-- One value.
pub value_there : (old new : List Val) (last : Val) → old ≡ new ++ last ∷ [] → length new ≡ 0 →
    Some (pure_val last) ≡ only_of (map pure_val old)
value_there = there pure_val

pub value_more : (old new : List Val) (last : Val) → old ≡ new ++ last ∷ [] → (length new ≡ 0 → ⊥) → None ≡ only_of (map pure_val old)
value_more = more pure_val

pub value_none : (old : List Val) → old ≡ [] → None ≡ only_of (map pure_val old)
value_none old e = ap (λ l. only_of (map pure_val l)) (sym e)

-- ---- partitions of a set's members

-- Values that are all there.
pub all-there : {A : Type 0} (f : A → Value) (xs : List A) →
    value_of_node partition_literal (map (λ x. Some (f x)) xs) ≡ partition_of (map f xs)
all-there f xs = ap (λ o. and_then o partition_of) (go xs)
  where
    go : (xs : List _) → all_some (map (λ x. Some (f x)) xs) ≡ Some (map f xs)
    go [] = refl
    go (x ∷ xs) = ap (option_map (λ ys. f x ∷ ys)) (go xs)

map-itself : {A : Type 0} (xs : List A) → map (λ x. x) xs ≡ xs
map-itself [] = refl
map-itself (x ∷ xs) = ap (λ l. x ∷ l) (map-itself xs)

-- The partition of a set's members.
pub parts_value : (ps : List Val) (o : Option Value) (qs : List (Option Value)) → qs ≡ map (λ v. Some v) (map pure_val ps) →
    o ≡ value_of_node partition_literal qs →
    o ≡ partition_from (node a_set (of_list (map pure_val ps)))
parts_value ps o qs e h =
    h ∙ ap (value_of_node partition_literal) e ∙ all-there (λ v. v) (map pure_val ps) ∙ ap partition_of (map-itself (map pure_val ps)
    ∙ sym (to_list-of_list (map pure_val ps)))
