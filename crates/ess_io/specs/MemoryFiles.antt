-- What files in memory are, as contracts see them.
use Rattle.std.specs.Prelude.{ℕ, ◌+◌, ◌≤◌, Bool, List, map, length, filter, nat_lt, if◌then◌else◌, refl, String, Vec}
use Rattle.std.specs.Coded.{Coded, code_by, coded×, coded_ℕ, coded_list}
use Rattle.std.specs.FinMap.{code, from_entries}
use Rattle.std.specs.BTreeMap.{BTreeMap}
use Rattle.std.specs.String.{string_bytes}
use Rattle.ess_io.specs.Counts.{raised}
use Rattle.ess_io.specs.Calls.{is_next_listed}
use Rattle.ess_io.specs.Trees.{Tree}

-- Files in memory, some of whose calls are to fail.
pub record Memory : Type 0 where
  -- what each name holds
  pub tree : Tree
  -- the numbers of the calls that fail
  pub fails : List ℕ
  -- how many bytes a failing write leaves
  pub cut : ℕ
  -- how many calls with a number were made
  pub made : ℕ
  -- how many of them failed
  pub faults : ℕ
  -- how often a read found no file
  pub misses : ℕ
  -- how many reads were made
  pub reads : ℕ

-- whether the next call is to fail
abbrev pub is_failing : Memory → Bool
is_failing files = is_next_listed files.fails files.made

-- the files after a call was counted, with its failure
abbrev pub called : Memory → Memory
called files = record files { made = raised files.made; faults = if is_failing files then files.faults + 1 else files.faults }

-- the files after a read was counted, with its failure
abbrev pub read_called : Memory → Memory
read_called files = record (called files) { reads = raised files.reads }

-- Files in memory that never fail.
pub record SureMemory : Type 0 where
  pub tree : Tree
  pub misses : ℕ
  pub reads : ℕ

-- a tree is stored as its entries
abbrev pub tree_code : Coded Tree
tree_code = code (coded_list coded_ℕ) (coded_list coded_ℕ)

abbrev pub memory_code : Coded Memory
memory_code = code_by (Tree × (List ℕ × (ℕ × (ℕ × (ℕ × (ℕ × ℕ))))))
    (coded× tree_code (coded× (coded_list coded_ℕ) (coded× coded_ℕ (coded× coded_ℕ (coded× coded_ℕ (coded× coded_ℕ coded_ℕ))))))
    (λ m. (m.tree, (m.fails, (m.cut, (m.made, (m.faults, (m.misses, m.reads)))))))
    (λ p. record {
      tree = p.0;
      fails = p.1.0;
      cut = p.1.1.0;
      made = p.1.1.1.0;
      faults = p.1.1.1.1.0;
      misses = p.1.1.1.1.1.0;
      reads = p.1.1.1.1.1.1;
    })
    (λ _. refl)

abbrev pub sure_code : Coded SureMemory
sure_code = code_by (Tree × (ℕ × ℕ)) (coded× tree_code (coded× coded_ℕ coded_ℕ))
    (λ m. (m.tree, (m.misses, m.reads))) (λ p. record { tree = p.0; misses = p.1.0; reads = p.1.1 }) (λ _. refl)

-- what a map from names to files holds
abbrev pub tree_of : {Y Z : Type 0} → BTreeMap (String Y) (Vec ℕ Z) → Tree
tree_of files = from_entries (map (λ file. (string_bytes file.0, file.1.items)) files.entries)

-- so many calls failed: at most one for each listed number that was reached
abbrev pub FaultsAreListed : ℕ → ℕ → List ℕ → Type 0
FaultsAreListed faults made fails = faults + length (filter (λ number. nat_lt made number) fails) ≤ length fails
