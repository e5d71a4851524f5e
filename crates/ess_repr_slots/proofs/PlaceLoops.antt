-- Lemmas on the loop that puts slots in their places.
use Rattle.std.proofs.Common.{◌≡◌, refl, sym, ap, ◌∙◌, ℕ, ◌+◌, ◌<◌, Bool, true, false, List, [], ◌∷◌, ◌++◌, map, length, drop, get_or, reverse, Option, Some, None, option_map}
use Rattle.std.proofs.lemmas.List.{at_drop_more, reverse-append, map-append, append_assoc}
use Rattle.ess_semantics.specs.Tables.{Tables}
use Rattle.ess_core.specs.declared.tables.Table.{Table}
use Rattle.ess_repr_rows_laws.specs.RowLayers.{spread}
use Rattle.ess_repr_tables.specs.SlotViews.{pure_tables, pure_slots}

-- A slot is there.
pub place_there : (ms : List Bool) (old new : List (List Table)) (s : List Table) → old ≡ new ++ s ∷ [] →
    spread (true ∷ ms) (map pure_tables (reverse old)) ≡ Some (pure_tables s) ∷ spread ms (map pure_tables (reverse new))
place_there ms old new s e = ap (λ l. spread (true ∷ ms) (map pure_tables l)) (ap reverse e ∙ reverse-append new (s ∷ []))

-- No slot is left.
pub place_none : (ms : List Bool) (old new : List (List Table)) → old ≡ [] → new ≡ [] → spread (true ∷ ms) (map pure_tables (reverse old)) ≡ None ∷ spread ms (map pure_tables (reverse new))
place_none ms old new e f = ap (λ l. spread (true ∷ ms) (map pure_tables (reverse l))) e ∙ ap (λ l. None ∷ spread ms (map pure_tables (reverse l))) (sym f)

-- One place more.
pub spread_next : (ms : List Bool) (i : ℕ) (d : Bool) (ps : List (Option (List Table))) (o : Option (List Table)) (xs ys : List Tables) → i < length ms →
    spread (get_or ms i d ∷ drop (i + 1) ms) xs ≡ option_map pure_tables o ∷ spread (drop (i + 1) ms) ys →
    pure_slots ps ++ spread (drop i ms) xs ≡ pure_slots (ps ++ o ∷ []) ++ spread (drop (i + 1) ms) ys
spread_next ms i d ps o xs ys h e =
    ap (λ l. pure_slots ps ++ l) (at_drop_more (λ l. spread l xs) ms i d h ∙ e)
    ∙ sym (ap (λ l. l ++ spread (drop (i + 1) ms) ys) (map-append (option_map pure_tables) ps (o ∷ [])) ∙ append_assoc (pure_slots ps) (option_map pure_tables o ∷ []) (spread (drop (i + 1) ms) ys))
