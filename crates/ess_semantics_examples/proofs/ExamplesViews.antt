-- Worked examples of views over tables: their meaning, the structures that tables meet, and what must be there.
use Rattle.std.specs.Prelude.{◌≡◌, refl, true, false, [], ◌∷◌, map, Some, codes}
use Rattle.ess_semantics.specs.declared.words.Op2.{Op2}
use Rattle.ess_semantics.specs.declared.words.Fun.{Fun}
use Rattle.ess_semantics.specs.declared.words.ReprKind.{ReprKind}
use Rattle.ess_semantics.specs.Names.{Names}
use Rattle.ess_semantics.specs.Values.{truth}
use Rattle.ess_semantics.specs.Collections.{set_of}
use Rattle.ess_semantics.specs.Trees.{over, cond, name_pat, Ex, comp_ex, cell_ex, seen_ex, no_exs, no_gens, from, name_dom}
use Rattle.ess_semantics.specs.Tables.{Table}
use Rattle.ess_semantics.specs.Choice.{alone}
use Rattle.ess_semantics.specs.Meaning.{Env, empty_env, meaning}
use Rattle.ess_semantics.specs.Positions.{with_tables}
use Rattle.ess_semantics.specs.Meets.{Meets}
use Rattle.ess_semantics.specs.Full.{IsFull}
use Rattle.ess_semantics.specs.Assignments.{with_enum}
use Rattle.ess_semantics.specs.ModelMeaning.{env_of_tables}
use Rattle.ess_semantics.proofs.Shorthands.{N, n, es1, bi, fn, upto, set, v}
use Rattle.ess_semantics.proofs.ExamplesModels.{s_occ, bits, all_bits, table, cell, t, i}

-- the constraint over the view has the meaning of the cell
abbrev view : Ex
view = seen_ex (alone ReprKind.Occurrence) (set (upto 3)) (s_occ ∷ []) no_exs

same_meaning : map (λ c. meaning (bi Op2.Member (n 2) view) (env_of_tables c)) all_bits ≡ map (λ c. meaning (cell 2) (env_of_tables c)) all_bits
same_meaning = refl

members_seen : meaning (fn Fun.ToSet (comp_ex (N i) (from (name_pat i) view no_gens))) (env_of_tables (bits 1 0 1)) ≡ Some (set_of (v 1 ∷ v 3 ∷ []))
members_seen = refl

meets : Meets (bi Op2.Member (n 9) view) (env_of_tables (bits 1 0 1))
meets = (tt, ((refl, (tt, (tt, (tt, tt))), tt), tt))

-- a table over more than the declared axis doesn't meet the structure
wide_table : Meets (bi Op2.Member (n 9) view) (env_of_tables ((s_occ, table (1 ∷ 2 ∷ 3 ∷ 9 ∷ []) (0 ∷ 1 ∷ 0 ∷ 1 ∷ [])) ∷ [])) → ⊥
wide_table h = cc

full : IsFull (bi Op2.Member (n 2) view) [] (env_of_tables (bits 0 1 0))
full = (refl, (tt, ((refl, (tt, (tt, (tt, tt))), tt), tt)))

-- under tables the values of a named type are their positions
abbrev colours : Env
colours = with_enum (codes "C") (codes "red" ∷ codes "blue" ∷ []) empty_env

abbrev view_of_colours : Ex
view_of_colours = seen_ex (alone ReprKind.Occurrence) (set (name_dom (codes "C"))) (s_occ ∷ []) no_exs

colours_in : map (λ a. meaning (bi Op2.Member (N a) view_of_colours) (with_tables colours ((s_occ, table (1 ∷ 2 ∷ []) (0 ∷ 1 ∷ [])) ∷ []))) (codes "red" ∷ codes "blue" ∷ []) ≡
    Some (truth false) ∷ Some (truth true) ∷ []
colours_in = refl

-- what stands behind a condition that reads a table must be there, behind one that doesn't only where it holds
abbrev cells_under : Ex → Ex
cells_under c = fn Fun.Sum (comp_ex (cell_ex false t (es1 (N i))) (over (name_pat i) (upto 2) (cond c no_gens)))

abbrev two_tables : Names Table
two_tables = (t, table (1 ∷ []) (7 ∷ [])) ∷ (s_occ, table (1 ∷ 2 ∷ []) (1 ∷ 0 ∷ [])) ∷ []

full_where_it_holds : IsFull (cells_under (bi Op2.Eq (N i) (n 1))) [] (env_of_tables two_tables)
full_where_it_holds = (refl, (((tt, (tt, tt)), (((tt, (tt, tt)), λ e. (refl, (tt, tt))), (((tt, (tt, tt)), λ e. absurd (no e)), tt))), tt))
  where
    no : false ≡ true → ⊥
    no e = cc

not_full_behind_cell : IsFull (cells_under (cell_ex true s_occ (es1 (N i)))) [] (env_of_tables two_tables) → ⊥
not_full_behind_cell h = no h.1.0.1.1.0.1.0
  where
    no : false ≡ true → ⊥
    no e = cc
