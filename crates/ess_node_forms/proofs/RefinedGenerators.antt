-- Refined generators, one by one.
use Rattle.std.proofs.Common.{◌≡◌, refl, sym, ap, ◌∙◌, ℕ, ◌+◌, ◌<◌, ◌≤◌, Bool, true, false, eqb, ◌&&◌, List, [], ◌∷◌, length, map, drop, get_or, arith}
use Rattle.std.proofs.lemmas.List.{at_drop_more, at_drop_all}
use Rattle.std.proofs.lemmas.Bool.{false≢true}
use Rattle.std.proofs.lemmas.Bool.Decides.{nat_tests}
use Rattle.std.specs.List.{list_all}
use Rattle.ess_semantics.specs.Values.{Text}
use Rattle.ess_semantics.specs.Trees as pure
use Rattle.ess_semantics.specs.Trees.{name_pat, tuple_pat, Ex, Dom, bool_dom, int_dom, name_dom, tuple_dom, record_dom, matrix_dom, set_dom, mset_dom, function_dom, relation_dom, partition_dom}
use Rattle.ess_semantics.specs.Kinds.{is_bounded, is_closed_end}
use Rattle.ess_semantics.specs.Refined.{is_refined, are_refined, are_refined_gens}
use Rattle.ess_core.specs.TreeViews.{Item, over_item, from_item, cond_item, gens_of}
use Rattle.ess_core_nodes.specs.NodeViews.{pure_gen, pure_gens, pure_ends}
use Rattle.ess_core_nodes.specs.declared.nodes.Gen.{Gen}
use Rattle.ess_core_nodes.specs.declared.words.Ends.{Ends}
use Rattle.ess_node_forms.specs.RangedDomains.{is_ranged}

and-true : (a : Bool) → (a && true) ≡ a
and-true true = refl
and-true false = refl

and-and : (a b c : Bool) → (a && b && c) ≡ ((a && b && true) && c)
and-and true true c = refl
and-and true false c = refl
and-and false b c = refl

and-of : (a c : Bool) → (a && c) ≡ ((a && true) && c)
and-of true c = refl
and-of false c = refl

-- ---- one generator

step : (x : Item) (xs : List Item) → are_refined_gens (gens_of (x ∷ xs))
    ≡ (are_refined_gens (gens_of (x ∷ [])) && are_refined_gens (gens_of xs))
step (over_item (name_pat a) bool_dom) xs = refl
step (over_item (name_pat a) (name_dom t)) xs = refl
step (over_item (name_pat a) (int_dom rs es)) xs = and-and (is_bounded rs) (are_refined es) (are_refined_gens (gens_of xs))
step (over_item (name_pat a) (tuple_dom ds)) xs = refl
step (over_item (name_pat a) (record_dom fs ds)) xs = refl
step (over_item (name_pat a) (matrix_dom is d)) xs = refl
step (over_item (name_pat a) (set_dom ms es d)) xs = refl
step (over_item (name_pat a) (mset_dom ms es d)) xs = refl
step (over_item (name_pat a) (function_dom ms es d c)) xs = refl
step (over_item (name_pat a) (relation_dom ms es ds)) xs = refl
step (over_item (name_pat a) (partition_dom ms es d)) xs = refl
step (over_item (tuple_pat ps) d) xs = refl
step (from_item p e) xs = refl
step (cond_item e) xs = and-of (is_refined e) (are_refined_gens (gens_of xs))

pub name_over : (a : Text) (d : Dom) → are_refined_gens (gens_of (over_item (name_pat a) d ∷ [])) ≡ is_ranged d
name_over a bool_dom = refl
name_over a (name_dom t) = refl
name_over a (int_dom rs es) = go (is_bounded rs) (are_refined es)
  where
    go : (b c : Bool) → (b && c && true) ≡ (b && c)
    go true true = refl
    go true false = refl
    go false c = refl
name_over a (tuple_dom ds) = refl
name_over a (record_dom fs ds) = refl
name_over a (matrix_dom is d) = refl
name_over a (set_dom ms es d) = refl
name_over a (mset_dom ms es d) = refl
name_over a (function_dom ms es d c) = refl
name_over a (relation_dom ms es ds) = refl
name_over a (partition_dom ms es d) = refl

pub tuple_over : (ps : pure.Pats) (d : Dom) → are_refined_gens (gens_of (over_item (tuple_pat ps) d ∷ [])) ≡ false
tuple_over ps d = refl

pub condition_alone : (e : Ex) → are_refined_gens (gens_of (cond_item e ∷ [])) ≡ is_refined e
condition_alone e = and-true (is_refined e)

-- ---- one after the other

left : (xs : List Gen) (i : ℕ) (x : Gen) → i < length xs → x ≡ get_or xs i x
    → are_refined_gens (pure_gens (drop i xs))
    ≡ (are_refined_gens (gens_of (pure_gen x ∷ [])) && are_refined_gens (pure_gens (drop (i + 1) xs)))
left xs i x h is =
    at_drop_more (λ l. are_refined_gens (pure_gens l)) xs i x h ∙ ap (λ y. are_refined_gens (pure_gens (y ∷ drop (i + 1) xs))) (sym is)
    ∙ step (pure_gen x) (map pure_gen (drop (i + 1) xs))

pub gens_more : (xs : List Gen) (i : ℕ) (x : Gen) → i < length xs → x ≡ get_or xs i x → are_refined_gens (gens_of (pure_gen x ∷ [])) ≡ true
    → are_refined_gens (pure_gens (drop i xs)) ≡ are_refined_gens (pure_gens (drop (i + 1) xs))
gens_more xs i x h is e = left xs i x h is ∙ ap (λ b. b && are_refined_gens (pure_gens (drop (i + 1) xs))) e

pub gens_not : (xs : List Gen) (i : ℕ) (x : Gen) → i < length xs → x ≡ get_or xs i x → are_refined_gens (gens_of (pure_gen x ∷ [])) ≡ false
    → are_refined_gens (pure_gens (drop i xs)) ≡ false
gens_not xs i x h is e = left xs i x h is ∙ ap (λ b. b && are_refined_gens (pure_gens (drop (i + 1) xs))) e

pub gens_end : (xs : List Gen) (i : ℕ) → length xs ≤ i → are_refined_gens (pure_gens (drop i xs)) ≡ true
gens_end xs i h = at_drop_all (λ l. are_refined_gens (pure_gens l)) xs i h

-- ---- ranges

pub bounded_none : (rs : List Ends) → eqb (length rs) 0 ≡ true → is_bounded (map pure_ends rs) ≡ false
bounded_none [] h = refl
bounded_none (r ∷ rs) h = absurd (grind (arith, nat_tests))

pub bounded_some : (rs : List Ends) → eqb (length rs) 0 ≡ false → is_bounded (map pure_ends rs) ≡ list_all is_closed_end (map pure_ends rs)
bounded_some [] h = absurd (false≢true (sym h))
bounded_some (r ∷ rs) h = refl

closed-left : (rs : List Ends) (i : ℕ) (r : Ends) → i < length rs → r ≡ get_or rs i r
    → list_all is_closed_end (map pure_ends (drop i rs))
    ≡ (is_closed_end (pure_ends r) && list_all is_closed_end (map pure_ends (drop (i + 1) rs)))
closed-left rs i r h is =
    at_drop_more (λ l. list_all is_closed_end (map pure_ends l)) rs i r h
    ∙ ap (λ y. is_closed_end (pure_ends y) && list_all is_closed_end (map pure_ends (drop (i + 1) rs))) (sym is)

pub closed_more : (rs : List Ends) (i : ℕ) (r : Ends) → i < length rs → r ≡ get_or rs i r → (r ≡ Ends.Low → ⊥) → (r ≡ Ends.High → ⊥)
    → list_all is_closed_end (map pure_ends (drop i rs)) ≡ list_all is_closed_end (map pure_ends (drop (i + 1) rs))
closed_more rs i r h is l u = closed-left rs i r h is ∙ go r l u
  where
    go : (r : Ends) → (r ≡ Ends.Low → ⊥) → (r ≡ Ends.High → ⊥)
        → (is_closed_end (pure_ends r) && list_all is_closed_end (map pure_ends (drop (i + 1) rs)))
        ≡ list_all is_closed_end (map pure_ends (drop (i + 1) rs))
    go Ends.One l u = refl
    go Ends.Both l u = refl
    go Ends.Low l u = absurd (l refl)
    go Ends.High l u = absurd (u refl)

pub closed_not : (rs : List Ends) (i : ℕ) (r : Ends) → i < length rs → r ≡ get_or rs i r → is_closed_end (pure_ends r) ≡ false
    → list_all is_closed_end (map pure_ends (drop i rs)) ≡ false
closed_not rs i r h is e = closed-left rs i r h is ∙ ap (λ b. b && list_all is_closed_end (map pure_ends (drop (i + 1) rs))) e

pub closed_end : (rs : List Ends) (i : ℕ) → length rs ≤ i → list_all is_closed_end (map pure_ends (drop i rs)) ≡ true
closed_end rs i h = at_drop_all (λ l. list_all is_closed_end (map pure_ends l)) rs i h
