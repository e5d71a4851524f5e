-- What files hold, by name: a finite map from the bytes of a name to the bytes of its file. A name is compared byte by
-- byte, so `a/b` and `./a/b` are two names. A tree that isn't told is `None`, and nothing is said of it.
use Rattle.std.specs.Prelude.{◌≡◌, ◌≢◌, ℕ, ◌⊎◌, List, take, None, Some, Option, IfSome, IsSomeAnd}
use Rattle.std.specs.Ordering.{nat_cmp}
use Rattle.std.specs.Cmp.Lexicographic.{slice_cmp}
use Rattle.std.specs.Option.{option_map}
use Rattle.std.specs.FinMap.{FinMap, get, insert}

abbrev pub Tree : Type 0
Tree = FinMap (slice_cmp nat_cmp) (List ℕ)

-- what the name holds, or nothing where it isn't in the tree
abbrev pub file_at : Tree → List ℕ → Option (List ℕ)
file_at tree name = get tree name

-- the first bytes of the file, this many or all of them; nothing where the name isn't in the tree
abbrev pub start_of_file : Tree → List ℕ → ℕ → Option (List ℕ)
start_of_file tree name count = option_map (take count) (file_at tree name)

-- the tree with the name at these bytes, and all other names as they were
abbrev pub with_file : Option Tree → List ℕ → List ℕ → Option Tree
with_file None name bytes = None
with_file (Some tree) name bytes = Some (insert tree name bytes)

-- the tree is as it was, or the name holds a prefix of the bytes and all other names are as they were
abbrev pub LeavesPrefix : Option Tree → Option Tree → List ℕ → List ℕ → Type 0
LeavesPrefix old new name bytes = (new ≡ old) ⊎ ((count : ℕ) × (new ≡ with_file old name (take count bytes)))

-- all names but this one are as they were
abbrev pub KeepsOthers : Option Tree → Option Tree → List ℕ → Type 0
KeepsOthers old new name = IfSome old (λ before. IsSomeAnd new (λ after.
    (other : List ℕ) → other ≢ name → file_at after other ≡ file_at before other))
