-- Alternatives of literals, one by one.
use Rattle.std.proofs.Common.{◌≡◌, refl, sym, ap, ◌∙◌, arith, ℕ, suc, ◌+◌, ◌<◌, false, List, [], ◌∷◌, ◌++◌, length, map, reverse}
use Rattle.std.proofs.Common.{take, drop, get_or, Option, Some, None, option_map}
use Rattle.std.proofs.lemmas.List.{append_assoc, append-nil, map_push, reverse-append, take_more, drop_more}
use Rattle.ess_semantics.specs.Trees.{tuple_literal, Ex, Exs, node_ex, no_exs, more_exs}
use Rattle.ess_core_nodes.specs.declared.nodes.Node.{Node}
use Rattle.ess_core_nodes.specs.declared.nodes.Gen.{Gen}
use Rattle.ess_core_nodes.specs.NodeViews.{pure_node, pure_nodes, pure_gens}
use Rattle.ess_rules_laws.specs.Listings as listings
use Rattle.ess_rules_laws.specs.AlternativeLookups.{numbered_items, none_at, first_results}
use Rattle.ess_rules_forms.specs.declared.alternatives.Alternative.{Alternative}
use Rattle.ess_rules_forms.specs.PureAlternatives.{pure_alternative}
use Rattle.ess_rules_alternatives.specs.Cases.{numbered, tuple_pair, case_of, unless_apart}

-- ---- lists

numbered-more : (ns : List Node) (k : ℕ) (x : Node) (i : Ex) → k < length ns → x ≡ get_or ns k x
    → numbered_items (k + 1) i (pure_nodes (drop k ns))
    ≡ numbered (k + 1) i (pure_node x) ∷ numbered_items (k + 1 + 1) i (pure_nodes (drop (k + 1) ns))
numbered-more ns k x i lt is =
    let e : suc (k + 1) ≡ k + 1 + 1 = omega arith in
    ap (λ l. numbered_items (k + 1) i (pure_nodes l)) (drop_more ns k x lt ∙ ap (λ z. z ∷ drop (k + 1) ns) (sym is))
    ∙ ap (λ j. numbered (k + 1) i (pure_node x) ∷ numbered_items j i (pure_nodes (drop (k + 1) ns))) e

-- One more item, behind those that are there.
pub numbered_behind : (all : List Alternative) (a : Alternative) (ns : List Node) (k : ℕ) (x : Node) (i : Ex)
    (r : List listings.Alternative) → k < length ns → x ≡ get_or ns k x
    → pure_alternative a ≡ numbered (k + 1) i (pure_node x)
    → map pure_alternative all ++ numbered_items (k + 1) i (pure_nodes (drop k ns)) ≡ r
    → map pure_alternative (all ++ a ∷ []) ++ numbered_items (k + 1 + 1) i (pure_nodes (drop (k + 1) ns)) ≡ r
numbered_behind all a ns k x i r lt is here before =
    ap (λ l. l ++ numbered_items (k + 1 + 1) i (pure_nodes (drop (k + 1) ns))) (map_push pure_alternative all a)
    ∙ append_assoc (map pure_alternative all) (pure_alternative a ∷ []) (numbered_items (k + 1 + 1) i (pure_nodes (drop (k + 1) ns)))
    ∙ ap (λ z. map pure_alternative all ++ z ∷ numbered_items (k + 1 + 1) i (pure_nodes (drop (k + 1) ns))) here
    ∙ ap (λ l. map pure_alternative all ++ l) (sym (numbered-more ns k x i lt is))
    ∙ before

-- ---- functions

-- The last item comes first.
last_first : (ns : List Node) (x : Node) → reverse (map pure_node (ns ++ x ∷ [])) ≡ pure_node x ∷ reverse (map pure_node ns)
last_first ns x = ap reverse (map_push pure_node ns x) ∙ reverse-append (map pure_node ns) (pure_node x ∷ [])

-- What is before the next place is the item there and what is before it, the newest first.
before_next : (ns : List Node) (i : ℕ) (x : Node) → i < length ns → x ≡ get_or ns i x
    → reverse (map pure_node (take (i + 1) ns)) ≡ pure_node x ∷ reverse (map pure_node (take i ns))
before_next ns i x lt is =
    ap (λ l. reverse (map pure_node l)) (take_more ns i x lt ∙ ap (λ z. take i ns ++ z ∷ []) (sym is))
    ∙ last_first (take i ns) x

-- That the term is none of those before the next place.
pub none_more : (ns : List Node) (i : ℕ) (y a x : Node) (gs hs : List Gen) → i < length ns → y ≡ get_or ns i y
    → pure_gens hs ≡ unless_apart (pure_node y) (pure_node a) (pure_node x) (pure_gens gs)
    → pure_gens gs ≡ none_at (reverse (map pure_node (take i ns))) (pure_node a) (pure_node x)
    → pure_gens hs ≡ none_at (reverse (map pure_node (take (i + 1) ns))) (pure_node a) (pure_node x)
none_more ns i y a x gs hs lt is here before =
    here
    ∙ ap (unless_apart (pure_node y) (pure_node a) (pure_node x)) before
    ∙ ap (λ l. none_at l (pure_node a) (pure_node x)) (sym (before_next ns i y lt is))

-- One pair and those behind it.
results_first : (bs : List Ex) (x a b p : Ex) (ps : Exs) → Some (a, b) ≡ tuple_pair p
    → first_results bs x (more_exs p ps) ≡ option_map (λ l. case_of bs x a b ∷ l) (first_results (a ∷ bs) x ps)
results_first bs x a b (node_ex false tuple_literal (more_exs c (more_exs d no_exs))) ps two =
    let e : ◌≡◌ {A = Ex × Ex} (a, b) (c, d) = cc in
    sym (ap (λ q. option_map (λ l. case_of bs x q.0 q.1 ∷ l) (first_results (q.0 ∷ bs) x ps)) e)
results_first bs x a b p ps two = cc

-- Alternatives before others.
put-before : (l : List listings.Alternative) (a : listings.Alternative) (o : Option (List listings.Alternative))
    → option_map (λ k. (l ++ a ∷ []) ++ k) o ≡ option_map (λ k. l ++ k) (option_map (λ k. a ∷ k) o)
put-before l a None = refl
put-before l a (Some k) = ap (λ z. Some z) (append_assoc l (a ∷ []) k)

results-more : (all : List Alternative) (c : Alternative) (ns : List Node) (n : Node) (x a b : Ex) (p : Node) (ps : List Node)
    (o : Option (List listings.Alternative)) → Some (a, b) ≡ tuple_pair (pure_node p)
    → pure_alternative c ≡ case_of (reverse (map pure_node ns)) x a b → pure_node n ≡ a
    → option_map (λ l. map pure_alternative all ++ l) (first_results (reverse (map pure_node ns)) x (pure_nodes (p ∷ ps))) ≡ o
    → option_map (λ l. map pure_alternative (all ++ c ∷ []) ++ l)
    (first_results (reverse (map pure_node (ns ++ n ∷ []))) x (pure_nodes ps)) ≡ o
results-more all c ns n x a b p ps o two here copied before =
    ap (λ z. option_map (λ l. map pure_alternative (all ++ c ∷ []) ++ l) (first_results z x (pure_nodes ps)))
    (last_first ns n ∙ ap (λ z. z ∷ reverse (map pure_node ns)) copied)
    ∙ ap (λ m. option_map (λ l. m ++ l) (first_results (a ∷ reverse (map pure_node ns)) x (pure_nodes ps)))
    (map_push pure_alternative all c ∙ ap (λ z. map pure_alternative all ++ z ∷ []) here)
    ∙ put-before (map pure_alternative all) (case_of (reverse (map pure_node ns)) x a b)
    (first_results (a ∷ reverse (map pure_node ns)) x (pure_nodes ps))
    ∙ sym (ap (option_map (λ l. map pure_alternative all ++ l))
    (results_first (reverse (map pure_node ns)) x a b (pure_node p) (pure_nodes ps) two))
    ∙ before

-- One more result, behind those that are there.
pub results_more : (all more : List Alternative) (c : Alternative) (ns ms : List Node) (n : Node) (x a b : Ex) (p : Node)
    (ps rest : List Node) (o : Option (List listings.Alternative)) → more ≡ all ++ c ∷ [] → ms ≡ ns ++ n ∷ [] → rest ≡ p ∷ ps
    → Some (a, b) ≡ tuple_pair (pure_node p)
    → pure_alternative c ≡ case_of (reverse (map pure_node ns)) x a b → pure_node n ≡ a
    → option_map (λ l. map pure_alternative all ++ l) (first_results (reverse (map pure_node ns)) x (pure_nodes rest)) ≡ o
    → option_map (λ l. map pure_alternative more ++ l) (first_results (reverse (map pure_node ms)) x (pure_nodes ps)) ≡ o
results_more all more c ns ms n x a b p ps rest o pushed copied first two here is before =
    ap (λ m. option_map (λ l. map pure_alternative m ++ l) (first_results (reverse (map pure_node ms)) x (pure_nodes ps))) pushed
    ∙ ap (λ ks. option_map (λ l. map pure_alternative (all ++ c ∷ []) ++ l) (first_results (reverse (map pure_node ks)) x (pure_nodes ps)))
    copied
    ∙ results-more all c ns n x a b p ps o two here is
    (ap (λ l. option_map (λ m. map pure_alternative all ++ m) (first_results (reverse (map pure_node ns)) x (pure_nodes l))) (sym first)
    ∙ before)

-- What isn't a pair has no result.
no-results : (bs : List Ex) (x p : Ex) (ps : Exs) → None ≡ tuple_pair p → first_results bs x (more_exs p ps) ≡ None
no-results bs x (node_ex false tuple_literal (more_exs c (more_exs d no_exs))) ps none = cc
no-results bs x p ps none = refl

-- So it leaves nothing.
pub results_none : (all : List Alternative) (bs : List Ex) (x : Ex) (p : Node) (ps : List Node)
    (o : Option (List listings.Alternative)) → None ≡ tuple_pair (pure_node p)
    → option_map (λ l. map pure_alternative all ++ l) (first_results bs x (pure_nodes (p ∷ ps))) ≡ o → None ≡ o
results_none all bs x p ps o none before =
    sym (ap (option_map (λ l. map pure_alternative all ++ l)) (no-results bs x (pure_node p) (pure_nodes ps) none)) ∙ before

-- Where no pair is left, what is there is all.
pub results_all : (all : List Alternative) (bs : List Ex) (x : Ex) (rest : List Node) (o : Option (List listings.Alternative)) → rest ≡ []
    → option_map (λ l. map pure_alternative all ++ l) (first_results bs x (pure_nodes rest)) ≡ o → Some (map pure_alternative all) ≡ o
results_all all bs x rest o empty before =
    ap (λ l. Some l) (sym (append-nil (map pure_alternative all)))
    ∙ ap (λ l. option_map (λ m. map pure_alternative all ++ m) (first_results bs x (pure_nodes l))) (sym empty)
    ∙ before
