-- Names that are looked for in one list of bindings, then in another.
use Rattle.std.proofs.Common.{◌≡◌, refl, ap, Bool, true, false, List, [], ◌∷◌, ◌++◌, length, map, Some, None, option_map, cond}
use Rattle.std.specs.Prelude.{reverse}
use Rattle.std.specs.List.{find}
use Rattle.ess_semantics.specs.Values.{Text, Value}
use Rattle.ess_semantics.specs.Order.{same_text}
use Rattle.ess_semantics.proofs.Texts.{same_text-equal}
use Rattle.ess_semantics.specs.Names.{Names, look}
use Rattle.ess_semantics.specs.Lists.{or_else}
use Rattle.ess_semantics.specs.Meaning.{type_entry}
use Rattle.ess_core.specs.ValueViews.{pure_val}
use Rattle.ess_core.specs.TableViews.{pure_binding, pure_bindings, pure_type_entry}
use Rattle.ess_core.specs.declared.tables.Binding.{Binding}
use Rattle.ess_core.specs.declared.tables.TypeEntry.{TypeEntry}

-- A list of bindings is looked through for the name.
pub look_found : (bs : List Binding) (a : Text)
    → look (map pure_binding bs) a ≡ option_map (λ b. pure_val b.val) (find (λ b. same_text b.name a) bs)
look_found [] a = refl
look_found (b ∷ bs) a = go (same_text b.name a) (look_found bs a)
  where
    go : (c : Bool) → look (map pure_binding bs) a ≡ option_map (λ b. pure_val b.val) (find (λ b. same_text b.name a) bs)
        → cond c (Some (pure_val b.val)) (look (map pure_binding bs) a) ≡ option_map (λ b. pure_val b.val) (cond c (Some b) (find (λ b. same_text b.name a) bs))
    go true h = refl
    go false h = h

-- The first list of two comes first.
pub look_append : (g h : Names Value) (a : Text) → look (g ++ h) a ≡ or_else (look g a) (look h a)
look_append [] h a = refl
look_append (b ∷ g) h a = go (same_text b.0 a) (look_append g h a)
  where
    go : (c : Bool) → look (g ++ h) a ≡ or_else (look g a) (look h a)
        → cond c (Some b.1) (look (g ++ h) a) ≡ or_else (cond c (Some b.1) (look g a)) (look h a)
    go true k = refl
    go false k = k

-- The newest binding of a name counts, in the first list before the second one.
pub look_both : (bs cs : List Binding) (a : Text)
    → look (pure_bindings bs ++ pure_bindings cs) a
    ≡ or_else (option_map (λ b. pure_val b.val) (find (λ b. same_text b.name a) (reverse bs))) (option_map (λ b. pure_val b.val) (find (λ b. same_text b.name a) (reverse cs)))
look_both bs cs a = rw (look_append (pure_bindings bs) (pure_bindings cs) a, look_found (reverse bs) a, look_found (reverse cs) a) refl

-- A name that only the second list has is found there.
pub look_second : (bs cs : List Binding) (a : Text) (b : Binding) → None ≡ find (λ b. same_text b.name a) (reverse bs)
    → Some b ≡ find (λ b. same_text b.name a) (reverse cs)
    → look (pure_bindings bs ++ pure_bindings cs) a ≡ Some (pure_val b.val)
look_second bs cs a b h k = rw (look_both bs cs a, ← h, ← k) refl

-- A name that the first list doesn't have is looked for in the second.
pub look_env : (bs cs : List Binding) (a : Text) (v : Value) → None ≡ find (λ b. same_text b.name a) (reverse bs)
    → look (pure_bindings cs) a ≡ Some v → look (pure_bindings bs ++ pure_bindings cs) a ≡ Some v
look_env bs cs a v h k = rw (look_append (pure_bindings bs) (pure_bindings cs) a, look_found (reverse bs) a, ← h) k

-- A list of entries is looked through for the name.
pub entry_found : (ts : List TypeEntry) (a : Text)
    → type_entry (map pure_type_entry ts) a ≡ option_map pure_type_entry (find (λ e. same_text e.name a) ts)
entry_found [] a = refl
entry_found (t ∷ ts) a = go (same_text t.name a) (entry_found ts a)
  where
    go : (b : Bool) → type_entry (map pure_type_entry ts) a ≡ option_map pure_type_entry (find (λ e. same_text e.name a) ts)
        → elim b [ true ↦ Some (pure_type_entry t) | false ↦ type_entry (map pure_type_entry ts) a ] ≡ option_map pure_type_entry (cond b (Some t) (find (λ e. same_text e.name a) ts))
    go true h = refl
    go false h = h

-- Names of different lengths differ.
pub other_lengths : (a b : Text) → (length a ≡ length b → ⊥) → false ≡ same_text a b
other_lengths a b h = go (same_text a b) refl
  where
    go : (c : Bool) → same_text a b ≡ c → false ≡ c
    go true e = absurd (h (ap length (same_text-equal a b e)))
    go false e = refl
