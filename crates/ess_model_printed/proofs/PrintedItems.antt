-- Generators printed one by one are those of the definition.
use Rattle.std.proofs.Common.{◌≡◌, refl, sym, ap, ◌∙◌, ℕ, ◌+◌, ◌<◌, List, [], ◌∷◌, ◌++◌, length, map, drop, get_or}
use Rattle.ess_semantics.specs.Values.{Text}
use Rattle.ess_semantics.specs.Names.{Names}
use Rattle.ess_semantics.specs.Trees.{name_pat, tuple_pat, more_exs, over, from, cond}
use Rattle.ess_core.specs.TreeViews.{Item, over_item, from_item, cond_item, exs_of, gens_of}
use Rattle.ess_core_nodes.specs.declared.nodes.Node.{Node}
use Rattle.ess_core_nodes.specs.NodeViews.{pure_node}
use Rattle.conjure_model_laws.specs.Printed.{printed_name, with_printed, printed, printed_all, printed_behind, printed_gens, printed_dom}
use Rattle.ess_model_names.specs.Before.{exs_before}
use Rattle.ess_model_names.specs.declared.scopes.Renamed.{Renamed}
use Rattle.ess_model_names.specs.Renames.{pure_scope}
use Rattle.ess_model_names.proofs.ScopeLaws.{scope_length}
use Rattle.ess_model_names.proofs.Loops.{node_more}
use Rattle.ess_model_printed.specs.PrintedItems.{printed_items, items_behind}

module _ (taken : List Text) where
  -- The names behind them.
  pub behind_printed : (is : List Item) (r : Names Text) → printed_behind taken (gens_of is) r ≡ items_behind taken is r
  behind_printed [] r = refl
  behind_printed (over_item (name_pat a) d ∷ is) r = behind_printed is (with_printed taken a r)
  behind_printed (over_item (tuple_pat ps) d ∷ is) r = behind_printed is r
  behind_printed (from_item p e ∷ is) r = behind_printed is r
  behind_printed (cond_item e ∷ is) r = behind_printed is r

  -- The generators and conditions.
  pub gens_printed : (is : List Item) (r : Names Text) → printed_gens taken (gens_of is) r ≡ gens_of (printed_items taken is r)
  gens_printed [] r = refl
  gens_printed (over_item (name_pat a) d ∷ is) r =
      ap (λ gs. over (name_pat (printed_name taken (length r))) (printed_dom taken d r) gs) (gens_printed is (with_printed taken a r))
  gens_printed (over_item (tuple_pat ps) d ∷ is) r = ap (λ gs. over (tuple_pat ps) (printed_dom taken d r) gs) (gens_printed is r)
  gens_printed (from_item p e ∷ is) r = ap (λ gs. from p (printed taken e r) gs) (gens_printed is r)
  gens_printed (cond_item e ∷ is) r = ap (λ gs. cond (printed taken e r) gs) (gens_printed is r)

-- An operand more with printed names.
pub printed_node_more : (taken : List Text) (ns : List Node) (i : ℕ) (x y : Node) (done new : List Node) (r s : Names Text)
    → i < length ns → x ≡ get_or ns i x → new ≡ done ++ y ∷ [] → pure_node y ≡ printed taken (pure_node x) r → s ≡ r
    → exs_before (map pure_node new) (printed_all taken (exs_of (map pure_node (drop (i + 1) ns))) s)
    ≡ exs_before (map pure_node done) (printed_all taken (exs_of (map pure_node (drop i ns))) r)
printed_node_more taken ns i x y done new r s lt is p e q =
    let rest = exs_of (map pure_node (drop (i + 1) ns)) in
    node_more (λ es. printed_all taken es r) ns i x y done new (printed_all taken rest s) lt is p
    (sym (ap (λ z. more_exs z (printed_all taken rest s)) e
    ∙ ap (λ s. more_exs (printed taken (pure_node x) r) (printed_all taken rest s)) q))

-- The printed name of a binder is by the number of names that are bound.
pub printed_deep : (taken : List Text) (rs : List Renamed) (n : ℕ) (t : Text) → n ≡ length rs → t ≡ printed_name taken n
    → t ≡ printed_name taken (length (pure_scope rs))
printed_deep taken rs n t e h = h ∙ ap (printed_name taken) (e ∙ sym (scope_length rs))
