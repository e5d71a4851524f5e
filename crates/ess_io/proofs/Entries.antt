-- Lemmas on the tree of a map from names to files.
use Rattle.std.proofs.Common.{◌≡◌, ℕ, Bool, true, false, cond, List, [], ◌∷◌, map, Option, Some, refl, sym, ap, ◌∙◌}
use Rattle.std.specs.Prelude.{String, Vec}
use Rattle.std.specs.BTreeMap.{BTreeMap, get_by_text, is_at, UpdatesBy}
use Rattle.std.specs.Map.{lookup}
use Rattle.std.specs.Option.{option_map}
use Rattle.std.specs.Ordering.{nat_cmp, is_eq}
use Rattle.std.specs.String.{string_bytes, string_cmp}
use Rattle.std.specs.Cmp.Lexicographic.{slice_cmp, nat_list_cmp_total}
use Rattle.std.specs.FinMap.{insert, find, get-from_entries, get-insert, same_map, slice_cmp-IsAntisymmetric, nat_cmp-IsAntisymmetric}
use Rattle.std.proofs.lemmas.Map.Text.{btree_map_updates_text, is_eq-slice_cmp}
use Rattle.std.proofs.lemmas.Cmp.{eq_by_cmp_equiv}
use Rattle.std.specs.Str.{bytes_eq}
use Rattle.ess_io.specs.Trees.{Tree, file_at}
use Rattle.ess_io.specs.MemoryFiles.{tree_of}

-- a look-up among entries of names and files
find-entries : {Y Z : Type 0} (files : List (String Y × Vec ℕ Z)) (name : List ℕ)
    → find (slice_cmp nat_cmp) name (map (λ file. (string_bytes file.0, file.1.items)) files)
    ≡ option_map (λ file. file.items) (lookup (is_at (λ key. slice_cmp nat_cmp name (string_bytes key))) files)
find-entries [] name = refl
find-entries (file ∷ files) name =
    elim (is_eq (slice_cmp nat_cmp name (string_bytes file.0)))
    as (λ tied. cond tied (Some file.1.items) (find (slice_cmp nat_cmp) name (map (λ file. (string_bytes file.0, file.1.items)) files))
    ≡ option_map (λ file. file.items) (cond tied (Some file.1) (lookup (is_at (λ key. slice_cmp nat_cmp name (string_bytes key))) files))) [
      | true ↦ refl
      | false ↦ find-entries files name
    ]

-- what the tree of a map has at a name
pub file_in_tree : {Y Z : Type 0} (files : BTreeMap (String Y) (Vec ℕ Z)) (name : List ℕ)
    → file_at (tree_of files) name ≡ option_map (λ file. file.items) (get_by_text files name)
file_in_tree files name = get-from_entries nat_list_cmp_total _ name ∙ find-entries files.entries name

-- a look-up in a tree after a name was put at a file
get-put : (tree : Tree) (name bytes other : List ℕ) → file_at (insert tree name bytes) other ≡ cond (bytes_eq other name) (Some bytes) (file_at tree other)
get-put tree name bytes other =
    get-insert nat_list_cmp_total tree name bytes other ∙ ap (λ tied. cond tied (Some bytes) (file_at tree other)) (is_eq-slice_cmp other name)

-- equality of texts is symmetric
bytes_eq-symm : (xs ys : List ℕ) → bytes_eq xs ys ≡ bytes_eq ys xs
bytes_eq-symm xs ys =
    sym (is_eq-slice_cmp xs ys) ∙ (eq_by_cmp_equiv nat_list_cmp_total).symm xs ys ∙ is_eq-slice_cmp ys xs

-- the bytes of one of two files
items-update : {Z : Type 0} (same : Bool) (file : Vec ℕ Z) (was : Option (Vec ℕ Z))
    → option_map (λ file. file.items) (cond same (Some file) was) ≡ cond same (Some file.items) (option_map (λ file. file.items) was)
items-update true file was = refl
items-update false file was = refl

-- an insertion into a map is one into its tree
pub tree_of-insert : {Y Z : Type 0} (name : List ℕ) (file : Vec ℕ Z) (old new : BTreeMap (String Y) (Vec ℕ Z))
    → UpdatesBy string_cmp (λ key. slice_cmp nat_cmp name (string_bytes key)) old new (Some file)
    → tree_of new ≡ insert (tree_of old) name file.items
tree_of-insert name file old new updates =
    same_map nat_list_cmp_total (slice_cmp-IsAntisymmetric nat_cmp-IsAntisymmetric) _ _ (λ other.
    file_in_tree new other
    ∙ ap (option_map (λ file. file.items)) (btree_map_updates_text name old new (Some file) updates other)
    ∙ items-update (bytes_eq name other) file (get_by_text old other)
    ∙ ap (cond (bytes_eq name other) (Some file.items)) (sym (file_in_tree old other))
    ∙ ap (λ same. cond same (Some file.items) (file_at (tree_of old) other)) (bytes_eq-symm name other)
    ∙ sym (get-put (tree_of old) name file.items other))
