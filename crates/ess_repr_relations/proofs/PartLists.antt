-- The members of parts, and the numbers of parts, one step on.
use Rattle.std.proofs.Common.{◌≡◌, refl, sym, ap, ◌∙◌, ℕ, suc, ◌+◌, ◌<◌, true, false, if◌then◌else◌, List, [], ◌∷◌, ◌++◌, map}
use Rattle.std.proofs.Common.{length, take, drop, get_or, ℤ, pos, arith}
use Rattle.std.proofs.lemmas.List.{take_more, at_drop_more, map-append}
use Rattle.ess_semantics.specs.Values.{Value, items_of}
use Rattle.ess_semantics.specs.Collections.{holds}
use Rattle.ess_semantics.specs.Domains.{Domain, member_list}
use Rattle.ess_semantics.specs.Tables.{code, one_cell, row_of}
use Rattle.ess_semantics.specs.Layers.{codes_of}
use Rattle.ess_semantics.specs.PartitionLayers.{part_number}
use Rattle.ess_core.specs.declared.values.Val.{Val}
use Rattle.ess_core.specs.declared.tables.Table.{Table}
use Rattle.ess_core.specs.ValueViews.{pure_val}
use Rattle.ess_core.specs.TableViews.{pure_table}
use Rattle.ess_repr_relations.specs.PartNumbers.{list_number}
use Rattle.ess_repr_relations.proofs.PartitionLaws.{number-of-list}

-- The members of one part more.
pub lists_more : (ps : List Val) (i : ℕ) (p : Val) (ls ms : List (List Val)) (own : List Val) → i < length ps → p ≡ get_or ps i p →
    map (map pure_val) ls ≡ map items_of (map pure_val (take i ps)) → map pure_val own ≡ items_of (pure_val p) → ms ≡ ls ++ own ∷ [] →
    map (map pure_val) ms ≡ map items_of (map pure_val (take (i + 1) ps))
lists_more ps i p ls ms own h is e o q =
    ap (map (map pure_val)) q ∙ map-append (map pure_val) ls (own ∷ []) ∙ ap (λ l. l ++ map pure_val own ∷ []) e
    ∙ ap (λ l. map items_of (map pure_val (take i ps)) ++ l ∷ []) o
    ∙ sym (ap (λ l. map items_of (map pure_val l)) (take_more ps i p h)
    ∙ ap (map items_of) (map-append pure_val (take i ps) (get_or ps i p ∷ []))
    ∙ map-append items_of (map pure_val (take i ps)) (pure_val (get_or ps i p) ∷ [])
    ∙ ap (λ x. map items_of (map pure_val (take i ps)) ++ items_of (pure_val x) ∷ []) (sym is))

-- The numbers of parts are those of their lists of members.
pub numbers_of_lists : (xss : List (List Value)) (ps xs : List Value) (ns : List ℤ) → xss ≡ map items_of ps →
    ns ≡ map (list_number 1 xss) xs → ns ≡ map (part_number 1 ps) xs
numbers_of_lists xss ps xs ns e h = h ∙ ap (λ l. map (list_number 1 l) xs) e ∙ go xs
  where
    go : (xs : List Value) → map (list_number 1 (map items_of ps)) xs ≡ map (part_number 1 ps) xs
    go [] = refl
    go (x ∷ xs) = ap (λ n. n ∷ map (list_number 1 (map items_of ps)) xs) (number-of-list 1 ps x) ∙ ap (λ l. part_number 1 ps x ∷ l) (go xs)

-- The two tables of a partition by the numbers of parts.
pub tables_of_numbers : (d : Domain) (v : Value) (members parts : List Value) (xss : List (List Value)) (ns cs : List ℤ) (n : ℤ)
    (t u : Table) (ts us : List Table) →
    members ≡ member_list d → parts ≡ items_of v → xss ≡ map items_of parts → ns ≡ map (list_number 1 xss) members →
    n ≡ pos (length parts) → cs ≡ map code members → pure_table t ≡ one_cell n → pure_table u ≡ row_of cs ns → ts ≡ t ∷ [] →
    us ≡ ts ++ u ∷ [] →
    map pure_table us ≡ one_cell (pos (length (items_of v))) ∷ row_of (codes_of d) (map (part_number 1 (items_of v)) (member_list d)) ∷ []
tables_of_numbers d v members parts xss ns cs n t u ts us m p l h k c first second one two =
    ap (map pure_table) (two ∙ ap (λ l. l ++ u ∷ []) one)
    ∙ ap (λ x. x ∷ pure_table u ∷ []) (first ∙ ap one_cell (k ∙ ap (λ l. pos (length l)) p))
    ∙ ap (λ x. one_cell (pos (length (items_of v))) ∷ x ∷ [])
    (second ∙ ap (λ l. row_of l ns) (c ∙ ap (map code) m)
    ∙ ap (row_of (codes_of d))
    (numbers_of_lists xss parts members ns l h ∙ ap (λ l. map (part_number 1 l) members) p ∙ ap (map (part_number 1 (items_of v))) m))

-- What is left of the lists behind k of them.
abbrev pub LeftBehind : List (List Val) → Value → ℕ → Type 0
LeftBehind ls x k = list_number 1 (map (map pure_val) ls) x ≡ list_number (k + 1) (map (map pure_val) (drop k ls)) x

next-list : (ls : List (List Val)) (x : Value) (k : ℕ) (d : List Val) → k < length ls → LeftBehind ls x k →
    list_number 1 (map (map pure_val) ls) x ≡ (if holds (map pure_val (get_or ls k d)) x then pos (k + 1) else list_number (suc (k + 1))
    (map (map pure_val) (drop (k + 1) ls)) x)
next-list ls x k d h l = l ∙ at_drop_more (λ m. list_number (k + 1) (map (map pure_val) m) x) ls k d h

-- A list without the value.
pub number_more : (ls : List (List Val)) (x : Value) (k : ℕ) (d : List Val) → k < length ls →
    holds (map pure_val (get_or ls k d)) x ≡ false → LeftBehind ls x k → LeftBehind ls x (k + 1)
number_more ls x k d h e l =
    let q : suc (k + 1) ≡ k + 1 + 1 = omega arith in
    next-list ls x k d h l ∙ ap (λ b. if b then pos (k + 1) else list_number (suc (k + 1)) (map (map pure_val) (drop (k + 1) ls)) x) e
    ∙ ap (λ j. list_number j (map (map pure_val) (drop (k + 1) ls)) x) q

-- The list with the value.
pub number_here : (ls : List (List Val)) (x : Value) (k : ℕ) (d : List Val) (n : ℤ) → k < length ls →
    holds (map pure_val (get_or ls k d)) x ≡ true → LeftBehind ls x k → n ≡ pos (k + 1) →
    n ≡ list_number 1 (map (map pure_val) ls) x
number_here ls x k d n h e l p =
    p ∙ sym (next-list ls x k d h l
    ∙ ap (λ b. if b then pos (k + 1) else list_number (suc (k + 1)) (map (map pure_val) (drop (k + 1) ls)) x) e)
