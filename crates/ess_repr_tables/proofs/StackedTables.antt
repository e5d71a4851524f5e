-- Lemmas on the loops that stack tables.
use Rattle.std.proofs.Common.{◌≡◌, refl, sym, ap, ◌∙◌, ℕ, zero, suc, ◌+◌, ◌-◌, ◌<◌, ◌≤◌, List, [], ◌∷◌, ◌++◌, map, length, take, drop, get_or, replicate, ℤ, pos, Option, Some, None, option_map, append-nil, arith}
use Rattle.std.proofs.lemmas.List.{take_more, map-append, append_assoc}
use Rattle.ess_semantics.specs.Lists.{append_all}
use Rattle.ess_semantics.specs.Tables.{Tables}
use Rattle.ess_semantics.specs.Cells.{Axes}
use Rattle.ess_core.specs.declared.tables.Table.{Table}
use Rattle.ess_core.specs.TableViews.{pure_table}
use Rattle.ess_repr_rows_laws.specs.Stacking.{items_of_table, slot_items, items_in_turn, stacked_table, stacked_from, stacked}
use Rattle.ess_repr_rows_laws.proofs.Blocks.{append_all-append}
use Rattle.ess_repr_tables.specs.SlotViews.{pure_tables, pure_slots}

-- ---- tables

from-push : (k : ℕ) (bs : Axes) (ass : List Axes) (as' : Axes) (ss : List (Option Tables)) →
    stacked_from k bs (ass ++ as' ∷ []) ss ≡ stacked_from k bs ass ss ++ stacked_table bs (k + length ass) as' ss ∷ []
from-push k bs [] as' ss = let q : k ≡ k + 0 = omega arith in ap (λ j. stacked_table bs j as' ss ∷ []) q
from-push k bs (x ∷ ass) as' ss =
    let q : suc k + length ass ≡ k + suc (length ass) = omega arith in
    ap (λ l. stacked_table bs k x ss ∷ l) (from-push (suc k) bs ass as' ss ∙ ap (λ j. stacked_from (suc k) bs ass ss ++ stacked_table bs j as' ss ∷ []) q)

taken : {A : Type 0} (n : ℕ) (xs : List A) → n ≤ length xs → length (take n xs) ≡ n
taken zero xs h = refl
taken (suc n) [] h = absurd (omega (arith, h))
taken (suc n) (x ∷ xs) h = ap suc (taken n xs (omega (arith, h)))

-- One table more.
pub stacked_more : (bs : Axes) (ass : List Axes) (ss : List (Option Tables)) (n : ℕ) (d : Axes) → n < length ass →
    stacked bs (take (n + 1) ass) ss ≡ stacked bs (take n ass) ss ++ stacked_table bs n (get_or ass n d) ss ∷ []
stacked_more bs ass ss n d h =
    let m : n ≤ length ass = omega (arith, h) in
    let z : 0 + n ≡ n = omega arith in
    ap (λ l. stacked bs l ss) (take_more ass n d h) ∙ from-push 0 bs (take n ass) (get_or ass n d) ss
    ∙ ap (λ j. stacked bs (take n ass) ss ++ stacked_table bs (0 + j) (get_or ass n d) ss ∷ []) (taken n ass m)
    ∙ ap (λ j. stacked bs (take n ass) ss ++ stacked_table bs j (get_or ass n d) ss ∷ []) z

-- ---- items

-- The items of a table that is there.
pub items_there : (ts : List Table) (k : ℕ) (t : Table) → k < length ts → t ≡ get_or ts k t → t.items ≡ items_of_table k (pure_tables ts)
items_there [] k t h e = absurd (omega (arith, h))
items_there (u ∷ ts) zero t h e = ap (λ (x : Table). x.items) e
items_there (u ∷ ts) (suc k) t h e = items_there ts k t (omega (arith, h)) e

-- There are none of one that isn't.
pub items_none : (ts : List Table) (k : ℕ) (xs : List ℤ) → length ts ≤ k → xs ≡ xs ++ items_of_table k (pure_tables ts)
items_none ts k xs h = sym (append-nil xs) ∙ ap (λ l. xs ++ l) (none ts k h)
  where
    none : (ts : List Table) (k : ℕ) → length ts ≤ k → [] ≡ items_of_table k (pure_tables ts)
    none [] zero h = refl
    none [] (suc k) h = refl
    none (t ∷ ts) zero h = absurd (omega (arith, h))
    none (t ∷ ts) (suc k) h = none ts k (omega (arith, h))

-- One slot more.
pub turn_more : (k v : ℕ) (ss : List (Option (List Table))) (i : ℕ) (d : Option (List Table)) → i < length ss →
    items_in_turn k v (pure_slots (take (i + 1) ss)) ≡ items_in_turn k v (pure_slots (take i ss)) ++ slot_items k v (option_map pure_tables (get_or ss i d))
turn_more k v ss i d h =
    ap (λ l. items_in_turn k v (pure_slots l)) (take_more ss i d h)
    ∙ ap (λ l. append_all (map (slot_items k v) l)) (map-append (option_map pure_tables) (take i ss) (get_or ss i d ∷ []))
    ∙ ap append_all (map-append (slot_items k v) (pure_slots (take i ss)) (option_map pure_tables (get_or ss i d) ∷ []))
    ∙ append_all-append (map (slot_items k v) (pure_slots (take i ss))) (slot_items k v (option_map pure_tables (get_or ss i d)) ∷ [])
    ∙ ap (λ l. items_in_turn k v (pure_slots (take i ss)) ++ l) (append-nil (slot_items k v (option_map pure_tables (get_or ss i d))))

-- One table more, in the row that is built.
pub stacked-push : (bs : Axes) (ass : List Axes) (ss : List (Option Tables)) (n : ℕ) (as' : Axes) (t : Table) (ts us : List Table) → n < length ass → as' ≡ get_or ass n as' →
    map pure_table ts ≡ stacked bs (take n ass) ss → pure_table t ≡ stacked_table bs n as' ss → us ≡ ts ++ t ∷ [] → map pure_table us ≡ stacked bs (take (n + 1) ass) ss
stacked-push bs ass ss n as' t ts us h is p e q =
    ap (map pure_table) q ∙ map-append pure_table ts (t ∷ []) ∙ ap (λ l. l ++ pure_table t ∷ []) p
    ∙ ap (λ y. stacked bs (take n ass) ss ++ y ∷ []) (e ∙ ap (λ y. stacked_table bs n y ss) is) ∙ sym (stacked_more bs ass ss n as' h)
