-- The entry of a named type is the first of its name.
use Rattle.std.proofs.Common.{◌≡◌, refl, Bool, true, false, cond, List, [], ◌∷◌, map, Some, option_map}
use Rattle.std.specs.List.{find}
use Rattle.ess_semantics.specs.Values.{Text}
use Rattle.ess_semantics.specs.Order.{same_text}
use Rattle.ess_semantics.specs.Meaning.{type_entry}
use Rattle.ess_core.specs.TableViews.{pure_type_entry}
use Rattle.ess_core.specs.declared.tables.TypeEntry.{TypeEntry}

pub entry_found : (ts : List TypeEntry) (a : Text) → option_map pure_type_entry (find (λ e. same_text e.name a) ts) ≡ type_entry (map pure_type_entry ts) a
entry_found [] a = refl
entry_found (t ∷ ts) a = go (same_text t.name a) (entry_found ts a)
  where
    go : (b : Bool) → option_map pure_type_entry (find (λ e. same_text e.name a) ts) ≡ type_entry (map pure_type_entry ts) a
        → option_map pure_type_entry (cond b (Some t) (find (λ e. same_text e.name a) ts)) ≡ elim b [ true ↦ Some (pure_type_entry t) | false ↦ type_entry (map pure_type_entry ts) a ]
    go true h = refl
    go false h = h
