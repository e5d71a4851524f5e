-- How many items lists have: by their forms, and one case behind others.
use Rattle.std.proofs.Common.{◌≡◌, refl, sym, ap, ◌∙◌, ℕ, ◌+◌, ◌<◌, ◌≤◌, false, pos, List, [], ◌∷◌, ◌++◌, length, map, drop, get_or}
use Rattle.std.proofs.Common.{Option, Some, None, option_map, if◌then◌else◌}
use Rattle.std.proofs.lemmas.List.{map_push, drop_more, drop_all}
use Rattle.ess_semantics.specs.declared.words.Fun.{Fun}
use Rattle.ess_semantics.specs.Lists.{and_then}
use Rattle.ess_semantics.specs.Constants.{operand_count}
use Rattle.ess_semantics.specs.Trees.{matrix_literal, Ex, Exs, number_ex, node_ex, comp_ex, no_exs, more_exs, Gens, fun1}
use Rattle.ess_core.specs.TreeViews.{exs_of}
use Rattle.ess_core_nodes.specs.declared.nodes.Node.{Node}
use Rattle.ess_core_nodes.specs.NodeViews.{pure_node, pure_nodes}
use Rattle.ess_rules_laws.specs.FunctionViews.{append_exs}
use Rattle.ess_open_rules_laws.specs.OpenGenerators.{are_over_domains}
use Rattle.ess_rules_folds.specs.Forms.{list_items, comp_parts}
use Rattle.ess_rules_forms.specs.declared.alternatives.Alternative.{Alternative}
use Rattle.ess_rules_forms.specs.PureAlternatives.{pure_alternative}
use Rattle.ess_ordered_laws.specs.ToldAxes.{number_written, numbers_written}
use Rattle.ess_rules_ordered.specs.CaseForms.{number_of_case}

-- ---- by the form

-- A literal, or a comprehension over domains.
pub number_by_form : (e : Ex) → number_written e ≡ elim (list_items e) [
  | Some es ↦ Some (number_ex (pos (operand_count es)))
  | None ↦ and_then (comp_parts e)
      (λ c. if are_over_domains c.1 then Some (fun1 false Fun.Sum (comp_ex (number_ex (pos 1)) c.1)) else None)
]
number_by_form (node_ex false matrix_literal es) = refl
number_by_form (comp_ex e gs) = refl
number_by_form e = refl

-- ---- one behind others

-- Nothing behind expressions leaves these.
pub nothing-behind : (es : Exs) → es ≡ append_exs es no_exs
nothing-behind no_exs = refl
nothing-behind (more_exs e es) = ap (more_exs e) (nothing-behind es)

one-behind : (l : List Ex) (e : Ex) (es : Exs) → append_exs (exs_of (l ++ e ∷ [])) es ≡ append_exs (exs_of l) (more_exs e es)
one-behind [] e es = refl
one-behind (a ∷ l) e es = ap (more_exs a) (one-behind l e es)

-- The numbers that are there, before those of the cases that are left.
abbrev pub numbers_before : List Node → Option Exs → Option Exs
numbers_before all o = option_map (append_exs (pure_nodes all)) o

-- One more behind those that are there.
pub put-before : (all : List Node) (n : Node) (o : Option Exs)
    → numbers_before (all ++ n ∷ []) o ≡ numbers_before all (option_map (more_exs (pure_node n)) o)
put-before all n None = refl
put-before all n (Some es) = ap (λ l. Some (append_exs (exs_of l) es)) (map_push pure_node all n)
    ∙ ap (λ z. Some z) (one-behind (map pure_node all) (pure_node n) es)

by-number : (gs : Gens) (o : Option Ex) (p : Option Exs)
    → and_then (option_map (λ n. fun1 false Fun.Sum (comp_ex n gs)) o) (λ n. option_map (more_exs n) p)
    ≡ and_then o (λ n. option_map (more_exs (fun1 false Fun.Sum (comp_ex n gs))) p)
by-number gs None p = refl
by-number gs (Some n) p = refl

case-more : (l : List Alternative) (k : ℕ) (x : Alternative) → k < length l → x ≡ get_or l k x
    → and_then (number_of_case (pure_alternative x))
    (λ n. option_map (more_exs n) (numbers_written (map pure_alternative (drop (k + 1) l))))
    ≡ numbers_written (map pure_alternative (drop k l))
case-more l k x lt is =
    by-number (pure_alternative x).gens (number_written (pure_alternative x).item) (numbers_written (map pure_alternative (drop (k + 1) l)))
    ∙ ap (λ z. numbers_written (map pure_alternative z)) (sym (drop_more l k x lt ∙ ap (λ z. z ∷ drop (k + 1) l) (sym is)))

-- One more number, behind those that are there.
pub numbers_more : (all : List Node) (n : Node) (l : List Alternative) (k : ℕ) (x : Alternative) (r : Option Exs)
    → k < length l → x ≡ get_or l k x → Some (pure_node n) ≡ number_of_case (pure_alternative x)
    → numbers_before all (numbers_written (map pure_alternative (drop k l))) ≡ r
    → numbers_before (all ++ n ∷ []) (numbers_written (map pure_alternative (drop (k + 1) l))) ≡ r
numbers_more all n l k x r lt is here before =
    put-before all n (numbers_written (map pure_alternative (drop (k + 1) l)))
    ∙ ap (λ o. numbers_before all
    (and_then o (λ n. option_map (more_exs n) (numbers_written (map pure_alternative (drop (k + 1) l)))))) here
    ∙ ap (numbers_before all) (case-more l k x lt is)
    ∙ before

-- One that has no number leaves nothing.
pub numbers_none : (all : List Node) (l : List Alternative) (k : ℕ) (x : Alternative) (r : Option Exs)
    → k < length l → x ≡ get_or l k x → None ≡ number_of_case (pure_alternative x)
    → numbers_before all (numbers_written (map pure_alternative (drop k l))) ≡ r → None ≡ r
numbers_none all l k x r lt is none before =
    ap (λ o. numbers_before all
    (and_then o (λ n. option_map (more_exs n) (numbers_written (map pure_alternative (drop (k + 1) l)))))) none
    ∙ ap (numbers_before all) (case-more l k x lt is)
    ∙ before

-- Where none is left, what is there is all.
pub numbers_all : (all : List Node) (l : List Alternative) (k : ℕ) (r : Option Exs) → length l ≤ k
    → numbers_before all (numbers_written (map pure_alternative (drop k l))) ≡ r → Some (pure_nodes all) ≡ r
numbers_all all l k r end before =
    ap (λ z. Some z) (nothing-behind (pure_nodes all))
    ∙ ap (λ z. numbers_before all (numbers_written (map pure_alternative z))) (sym (drop_all k l end))
    ∙ before
