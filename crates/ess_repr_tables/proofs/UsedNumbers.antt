-- Lemmas on the loops that cut tables apart, and on volumes.
use Rattle.std.proofs.Common.{◌≡◌, refl, sym, ap, ◌∙◌, ℕ, zero, suc, ◌+◌, ◌*◌, ◌<◌, ◌≤◌, List, [], ◌∷◌, ◌++◌, map, length, take, drop, get_or, ℤ, mul_comm, arith}
use Rattle.std.proofs.lemmas.List.{at_drop_more, take_more, map-append}
use Rattle.ess_semantics.specs.Tables.{volume}
use Rattle.ess_core.specs.declared.tables.Table.{Table}
use Rattle.ess_core.specs.TableViews.{pure_table}
use Rattle.ess_repr_rows_laws.specs.Cutting.{part_at, parts_at, numbers_from}
use Rattle.ess_repr_rows_laws.proofs.CutTables.{numbers-both}
use Rattle.ess_repr_tables.specs.SlotViews.{pure_tables}

-- One axis more in front.
pub volume_more : (as' : List (List ℤ)) (i : ℕ) (a : List ℤ) (n m : ℕ) → i < length as' → a ≡ get_or as' i a →
    n ≡ volume (drop (i + 1) as') → m ≡ n * length a → m ≡ volume (drop i as')
volume_more as' i a n m h is e p =
    p ∙ mul_comm n (length a) ∙ ap (λ k. length a * k) e ∙ ap (λ b. length b * volume (drop (i + 1) as')) is ∙ sym (at_drop_more volume as' i a h)

-- One number more.
pub numbers_more : (k : ℕ) (xs ys : List ℕ) → xs ≡ numbers_from 0 k → ys ≡ xs ++ k ∷ [] → ys ≡ numbers_from 0 (k + 1)
numbers_more k xs ys e p =
    let q : 0 + k ≡ k = omega arith in
    p ∙ ap (λ l. l ++ k ∷ []) e ∙ sym (numbers-both 0 k 1 ∙ ap (λ j. numbers_from 0 k ++ j ∷ []) q)

-- One table more.
pub parts_more : (a n i : ℕ) (ts : List Table) (d : Table) → i < length ts →
    parts_at a (pure_tables (take (i + 1) ts)) n ≡ parts_at a (pure_tables (take i ts)) n ++ part_at a n (pure_table (get_or ts i d)) ∷ []
parts_more a n i ts d h =
    ap (λ l. parts_at a (pure_tables l) n) (take_more ts i d h) ∙ ap (map (part_at a n)) (map-append pure_table (take i ts) (get_or ts i d ∷ []))
    ∙ map-append (part_at a n) (pure_tables (take i ts)) (pure_table (get_or ts i d) ∷ [])
