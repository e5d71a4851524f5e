-- Generators taken apart at the last condition that reads a cell, from the back.
use Rattle.std.proofs.Common.{◌≡◌, refl, sym, ap, ◌∙◌, arith, ℕ, ◌+◌, ◌-◌, ◌<◌, ◌≤◌, Bool, true, false, if◌then◌else◌, List, [], ◌∷◌, ◌++◌, length, map, take, drop, get_or, Option, Some, None, option_map, take-append-drop, le_refl}
use Rattle.std.proofs.lemmas.List.{drop_more, drop_all, length-drop, take_all}
use Rattle.ess_semantics.specs.Trees.{Ex, over, from, cond, Gens, no_gens}
use Rattle.ess_semantics.specs.Occurrences.{has_cells}
use Rattle.ess_core.specs.TreeViews.{Item, over_item, from_item, cond_item, gens_of}
use Rattle.ess_core_nodes.specs.declared.nodes.Gen.{Gen}
use Rattle.ess_core_nodes.specs.NodeViews.{pure_gen, pure_gens}
use Rattle.ess_refine_laws.specs.LeavingConditions.{Parted, with_before, at_last_condition}
use Rattle.ess_rules_conditions.specs.PartedViews.{read_condition}

-- ---- items

when-true : (b : Bool) (x y : Option Parted) (c d : Ex) → Some d ≡ (if b then Some c else None) → (if b then x else y) ≡ x
when-true true x y c d h = refl
when-true false x y c d h = let k : Some d ≡ None = h in cc

when-false : (b : Bool) (x y : Option Parted) (c : Ex) → None ≡ (if b then Some c else None) → (if b then x else y) ≡ y
when-false true x y c h = let k : None ≡ Some c = h in cc
when-false false x y c h = refl

when-is : (b : Bool) (c d : Ex) → Some d ≡ (if b then Some c else None) → d ≡ c
when-is true c d h = let k : Some d ≡ Some c = h in cc
when-is false c d h = let k : Some d ≡ None = h in cc

-- What a condition makes of what is found behind it.
at-cond : (c : Ex) (hs : Gens) (o : Option Parted) → at_last_condition hs ≡ o
    → at_last_condition (cond c hs) ≡ (elim o [
      | Some t ↦ Some (with_before (cond c) t)
      | None ↦ if has_cells c then Some (record { before = no_gens; condition = c; after = hs }) else None
    ])
at-cond c hs o e = rw (sym e) refl

-- No such condition is found behind one that is none.
none-more : (i : Item) (is : List Item) → None ≡ read_condition i → at_last_condition (gens_of is) ≡ None
    → at_last_condition (gens_of (i ∷ is)) ≡ None
none-more (over_item p d) is h e = ap (option_map (with_before (over p d))) e
none-more (from_item p s) is h e = ap (option_map (with_before (from p s))) e
none-more (cond_item c) is h e = at-cond c (gens_of is) None e ∙ when-false (has_cells c) _ None c h

found-here : (i : Item) (c : Ex) (is : List Item) → Some c ≡ read_condition i → at_last_condition (gens_of is) ≡ None
    → at_last_condition (gens_of (i ∷ is)) ≡ Some (record { before = no_gens; condition = c; after = gens_of is })
found-here (over_item p d) c is h e = let k : Some c ≡ None = h in cc
found-here (from_item p s) c is h e = let k : Some c ≡ None = h in cc
found-here (cond_item b) c is h e =
    at-cond b (gens_of is) None e
    ∙ when-true (has_cells b) (Some (record { before = no_gens; condition = b; after = gens_of is })) None b c h
    ∙ ap (λ z. Some (record { before = no_gens; condition = z; after = gens_of is })) (sym (when-is (has_cells b) b c h))

-- What stands before is before it.
found-behind : (js is : List Item) (c : Ex) (hs : Gens)
    → at_last_condition (gens_of is) ≡ Some (record { before = no_gens; condition = c; after = hs })
    → at_last_condition (gens_of (js ++ is)) ≡ Some (record { before = gens_of js; condition = c; after = hs })
found-behind [] is c hs e = e
found-behind (over_item p d ∷ js) is c hs e = ap (option_map (with_before (over p d))) (found-behind js is c hs e)
found-behind (from_item p s ∷ js) is c hs e = ap (option_map (with_before (from p s))) (found-behind js is c hs e)
found-behind (cond_item b ∷ js) is c hs e = at-cond b (gens_of (js ++ is)) _ (found-behind js is c hs e)

-- ---- rows

map-both : (gs hs : List Gen) → map pure_gen (gs ++ hs) ≡ map pure_gen gs ++ map pure_gen hs
map-both [] hs = refl
map-both (g ∷ gs) hs = ap (λ l. pure_gen g ∷ l) (map-both gs hs)

-- Behind the last generator nothing is found.
pub parted_none : (gs : List Gen) (n : ℕ) → n ≡ length gs → at_last_condition (pure_gens (drop n gs)) ≡ None
parted_none gs n e = let l : length gs ≤ n = omega arith in rw (drop_all n gs l) refl

-- Nor where the item before is no such condition.
pub parted_more : (gs : List Gen) (i : ℕ) (d : Gen) → i < length gs → None ≡ read_condition (pure_gen (get_or gs i d))
    → at_last_condition (pure_gens (drop (i + 1) gs)) ≡ None → at_last_condition (pure_gens (drop i gs)) ≡ None
parted_more gs i d h r e =
    ap (λ m. at_last_condition (pure_gens m)) (drop_more gs i d h)
    ∙ none-more (pure_gen (get_or gs i d)) (map pure_gen (drop (i + 1) gs)) r e

-- Where it is one, it is found with what stands on both sides.
parted-at : (gs : List Gen) (i : ℕ) (d : Gen) (c : Ex) → i < length gs → Some c ≡ read_condition (pure_gen (get_or gs i d))
    → at_last_condition (pure_gens (drop (i + 1) gs)) ≡ None
    → at_last_condition (pure_gens gs)
    ≡ Some (record { before = pure_gens (take i gs); condition = c; after = pure_gens (drop (i + 1) gs) })
parted-at gs i d c h r e =
    ap (λ m. at_last_condition (pure_gens m)) (sym (take-append-drop i gs))
    ∙ ap (λ m. at_last_condition (gens_of m)) (map-both (take i gs) (drop i gs))
    ∙ found-behind (map pure_gen (take i gs)) (map pure_gen (drop i gs)) c (pure_gens (drop (i + 1) gs))
    (ap (λ m. at_last_condition (pure_gens m)) (drop_more gs i d h)
    ∙ found-here (pure_gen (get_or gs i d)) c (map pure_gen (drop (i + 1) gs)) r e)

-- The same of an item that stands before the place n, with the row's parts on both sides.
pub parted_found : (gs : List Gen) (n : ℕ) (g : Gen) (c : Ex) → 0 < n → n ≤ length gs → g ≡ get_or gs (n - 1) g
    → Some c ≡ read_condition (pure_gen g) → at_last_condition (pure_gens (drop n gs)) ≡ None
    → Some (record {
      before = pure_gens (take (n - 1) gs);
      condition = c;
      after = pure_gens (take (length gs - (n - 1 + 1)) (drop (n - 1 + 1) gs));
    }) ≡ at_last_condition (pure_gens gs)
parted_found gs n g c p h i r e =
    let same : n - 1 + 1 ≡ n = omega arith in
    let inside : n - 1 < length gs = omega arith in
    let behind : at_last_condition (pure_gens (drop (n - 1 + 1) gs)) ≡ None = rw same e in
    let short : length (drop (n - 1 + 1) gs) ≤ length gs - (n - 1 + 1) = rw (length-drop (n - 1 + 1) gs) (le_refl (length gs - (n - 1 + 1))) in
    ap (λ l. Some (record { before = pure_gens (take (n - 1) gs); condition = c; after = pure_gens l }))
    (take_all (length gs - (n - 1 + 1)) (drop (n - 1 + 1) gs) short)
    ∙ sym (parted-at gs (n - 1) g c inside (r ∙ ap (λ x. read_condition (pure_gen x)) i) behind)
