-- What a term is, case by case: by its one index, and one case behind others.
use Rattle.std.proofs.Common.{◌≡◌, refl, sym, ap, ◌∙◌, arith, ℕ, suc, ◌+◌, ◌<◌, false, List, [], ◌∷◌, ◌++◌, length, map, drop, get_or}
use Rattle.std.proofs.Common.{Option, Some, None, option_map}
use Rattle.std.proofs.lemmas.List.{append_assoc, append-nil, map-append, map_push, drop_more}
use Rattle.ess_semantics.specs.Lists.{and_then}
use Rattle.ess_semantics.specs.Trees.{by_value, index, matrix_literal, Ex, node_ex, no_exs, more_exs, Gens}
use Rattle.ess_core_nodes.specs.declared.nodes.Node.{Node}
use Rattle.ess_core_nodes.specs.NodeViews.{pure_node, pure_nodes}
use Rattle.ess_rules_laws.specs.Listings as listings
use Rattle.ess_guard_forms.proofs.Weights.{weight}
use Rattle.ess_rules_folds.specs.Forms.{list_items}
use Rattle.ess_rules_forms.specs.declared.alternatives.Alternative.{Alternative}
use Rattle.ess_rules_forms.specs.PureAlternatives.{pure_alternative}
use Rattle.ess_rules_picked.specs.Picked.{indexed}
use Rattle.ess_ordered_laws.specs.ToldAxes.{cases_behind, cases_of, cases_at, written_cases}
use Rattle.ess_rules_ordered.specs.CaseForms.{itself, case_at}

-- ---- by the one index

-- A term by its one index.
pub written_by_parts : (e : Ex) → written_cases e ≡ elim (indexed e) [
  | None ↦ Some (itself e ∷ [])
  | Some p ↦ and_then (written_cases p.0) (cases_at p.1)
]
written_by_parts (node_ex b (index (by_value ∷ [])) (more_exs m (more_exs i no_exs))) = refl
written_by_parts e = refl

first-of : (p q : Ex × Ex) → Some p ≡ Some q → p.0 ≡ q.0
first-of p q e = ap (λ o. elim o [
  | None ↦ p.0
  | Some r ↦ r.0
]) e

-- What it picks out of is smaller.
pub within_smaller : (e m i : Ex) → Some (m, i) ≡ indexed e → weight m < weight e
within_smaller (node_ex b (index (by_value ∷ [])) (more_exs n (more_exs j no_exs))) m i q = rw (first-of (m, i) (n, j) q) (omega arith)
within_smaller e m i q = cc

-- The items of a literal.
pub cases_by_items : (gs : Gens) (i e : Ex) → cases_of gs i e ≡ option_map (cases_behind gs 1 i) (list_items e)
cases_by_items gs i (node_ex false matrix_literal es) = refl
cases_by_items gs i e = refl

-- ---- one behind others

case-more : (ns : List Node) (k : ℕ) (x : Node) (gs : Gens) (i : Ex) → k < length ns → x ≡ get_or ns k x
    → cases_behind gs (k + 1) i (pure_nodes (drop k ns))
    ≡ case_at gs (k + 1) i (pure_node x) ∷ cases_behind gs (k + 1 + 1) i (pure_nodes (drop (k + 1) ns))
case-more ns k x gs i lt is =
    let e : suc (k + 1) ≡ k + 1 + 1 = omega arith in
    ap (λ l. cases_behind gs (k + 1) i (pure_nodes l)) (drop_more ns k x lt ∙ ap (λ z. z ∷ drop (k + 1) ns) (sym is))
    ∙ ap (λ j. case_at gs (k + 1) i (pure_node x) ∷ cases_behind gs j i (pure_nodes (drop (k + 1) ns))) e

-- One more item of a literal, behind those that are there.
pub case_behind : (all : List Alternative) (a : Alternative) (ns : List Node) (k : ℕ) (x : Node) (gs : Gens) (i : Ex)
    (r : List listings.Alternative) → k < length ns → x ≡ get_or ns k x
    → pure_alternative a ≡ case_at gs (k + 1) i (pure_node x)
    → map pure_alternative all ++ cases_behind gs (k + 1) i (pure_nodes (drop k ns)) ≡ r
    → map pure_alternative (all ++ a ∷ []) ++ cases_behind gs (k + 1 + 1) i (pure_nodes (drop (k + 1) ns)) ≡ r
case_behind all a ns k x gs i r lt is here before =
    ap (λ l. l ++ cases_behind gs (k + 1 + 1) i (pure_nodes (drop (k + 1) ns))) (map_push pure_alternative all a)
    ∙ append_assoc (map pure_alternative all) (pure_alternative a ∷ []) (cases_behind gs (k + 1 + 1) i (pure_nodes (drop (k + 1) ns)))
    ∙ ap (λ z. map pure_alternative all ++ z ∷ cases_behind gs (k + 1 + 1) i (pure_nodes (drop (k + 1) ns))) here
    ∙ ap (λ l. map pure_alternative all ++ l) (sym (case-more ns k x gs i lt is))
    ∙ before

-- ---- the cases of each

put-both : (l m : List listings.Alternative) (o : Option (List listings.Alternative))
    → option_map (λ k. (l ++ m) ++ k) o ≡ option_map (λ k. l ++ k) (option_map (λ k. m ++ k) o)
put-both l m None = refl
put-both l m (Some k) = ap (λ z. Some z) (append_assoc l m k)

each-more : (all : List Alternative) (i : Ex) (l : List Alternative) (k : ℕ) (x : Alternative) → k < length l → x ≡ get_or l k x
    → option_map (λ m. map pure_alternative all ++ m) (and_then (cases_of (pure_alternative x).gens i (pure_alternative x).item)
    (λ r. option_map (λ rs. r ++ rs) (cases_at i (map pure_alternative (drop (k + 1) l)))))
    ≡ option_map (λ m. map pure_alternative all ++ m) (cases_at i (map pure_alternative (drop k l)))
each-more all i l k x lt is = ap (λ z. option_map (λ m. map pure_alternative all ++ m) (cases_at i (map pure_alternative z)))
    (sym (drop_more l k x lt ∙ ap (λ z. z ∷ drop (k + 1) l) (sym is)))

-- Those of one more, behind those that are there.
pub cases_more : (all cs : List Alternative) (i : Ex) (l : List Alternative) (k : ℕ) (x : Alternative)
    (r : Option (List listings.Alternative)) → k < length l → x ≡ get_or l k x
    → Some (map pure_alternative cs) ≡ cases_of (pure_alternative x).gens i (pure_alternative x).item
    → option_map (λ m. map pure_alternative all ++ m) (cases_at i (map pure_alternative (drop k l))) ≡ r
    → option_map (λ m. map pure_alternative (all ++ cs) ++ m) (cases_at i (map pure_alternative (drop (k + 1) l))) ≡ r
cases_more all cs i l k x r lt is here before =
    ap (λ z. option_map (λ m. z ++ m) (cases_at i (map pure_alternative (drop (k + 1) l)))) (map-append pure_alternative all cs)
    ∙ put-both (map pure_alternative all) (map pure_alternative cs) (cases_at i (map pure_alternative (drop (k + 1) l)))
    ∙ ap (λ o. option_map (λ m. map pure_alternative all ++ m)
    (and_then o (λ r. option_map (λ rs. r ++ rs) (cases_at i (map pure_alternative (drop (k + 1) l)))))) here
    ∙ each-more all i l k x lt is
    ∙ before

-- One that isn't a literal leaves nothing.
pub cases_none : (all : List Alternative) (i : Ex) (l : List Alternative) (k : ℕ) (x : Alternative)
    (r : Option (List listings.Alternative)) → k < length l → x ≡ get_or l k x
    → None ≡ cases_of (pure_alternative x).gens i (pure_alternative x).item
    → option_map (λ m. map pure_alternative all ++ m) (cases_at i (map pure_alternative (drop k l))) ≡ r → None ≡ r
cases_none all i l k x r lt is none before =
    ap (λ o. option_map (λ m. map pure_alternative all ++ m)
    (and_then o (λ r. option_map (λ rs. r ++ rs) (cases_at i (map pure_alternative (drop (k + 1) l)))))) none
    ∙ each-more all i l k x lt is
    ∙ before

-- Where none is left, what is there is all.
pub cases_all : (all : List Alternative) (i : Ex) (r : Option (List listings.Alternative))
    → option_map (λ m. map pure_alternative all ++ m) (cases_at i []) ≡ r → Some (map pure_alternative all) ≡ r
cases_all all i r before = ap (λ l. Some l) (sym (append-nil (map pure_alternative all))) ∙ before
