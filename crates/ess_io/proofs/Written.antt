-- Lemmas on trees that were written to.
use Rattle.std.proofs.Common.{◌≡◌, ◌≢◌, ℕ, List, take, Option, None, Some, refl, sym, inl, inr, subst, rules}
use Rattle.std.specs.FinMap.{insert, gets}
use Rattle.std.proofs.lemmas.Map.Text.{is_eq-slice_cmp}
use Rattle.ess_io.specs.Trees.{Tree, file_at, with_file, LeavesPrefix, KeepsOthers}

-- the name holds what was put there
pub file_at-insert_same : (tree : Tree) (name bytes : List ℕ) → file_at (insert tree name bytes) name ≡ Some bytes
file_at-insert_same tree name bytes = grind (gets, rules)

-- each other name holds what it held
pub file_at-insert_other : (tree : Tree) (name bytes other : List ℕ) → other ≢ name
    → file_at (insert tree name bytes) other ≡ file_at tree other
file_at-insert_other tree name bytes other apart = grind (gets, rules, is_eq-slice_cmp)

-- a file put there leaves all other names
pub with_file-KeepsOthers : (tree : Option Tree) (name bytes : List ℕ) → KeepsOthers tree (with_file tree name bytes) name
with_file-KeepsOthers None name bytes = tt
with_file-KeepsOthers (Some tree) name bytes = λ other apart. file_at-insert_other tree name bytes other apart

-- no change leaves all names
pub same-KeepsOthers : (tree : Option Tree) (name : List ℕ) → KeepsOthers tree tree name
same-KeepsOthers None name = tt
same-KeepsOthers (Some tree) name = λ other apart. refl

-- so does a write that was cut short
pub LeavesPrefix-KeepsOthers : (old new : Option Tree) (name bytes : List ℕ) → LeavesPrefix old new name bytes → KeepsOthers old new name
LeavesPrefix-KeepsOthers old new name bytes left = elim left [
  | inl same ↦ subst (λ after. KeepsOthers old after name) (sym same) (same-KeepsOthers old name)
  | inr part ↦ subst (λ after. KeepsOthers old after name) (sym part.1) (with_file-KeepsOthers old name (take part.0 bytes))
]
