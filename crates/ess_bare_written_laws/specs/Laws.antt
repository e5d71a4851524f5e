-- What is written for a bare tree, and for what else rules end in, and what it says over declared tables.
use Rattle.std.specs.Prelude.{◌≡◌, ℕ, suc, ◌+◌, ◌<◌, ◌^◌, Bool, true, List, [], length, map, ℤ, pos, Option, Some}
use Rattle.std.specs.List.{list_all}
use Rattle.ess_semantics.specs.Lists.{append_all}
use Rattle.ess_semantics.specs.Values.{Text}
use Rattle.ess_semantics.specs.Names.{Names}
use Rattle.ess_semantics.specs.Trees.{Ex}
use Rattle.ess_semantics.specs.Tables.{Table}
use Rattle.ess_semantics.specs.DeclaredTables.{TableDecl}
use Rattle.ess_semantics.specs.Occurrences.{parts_of}
use Rattle.ess_semantics.specs.Constants.{numbers_of_part}
use Rattle.ess_semantics.specs.Meaning.{Env, meaning, is_bool_dom}
use Rattle.ess_semantics.specs.Scoped.{Scoped}
use Rattle.ess_semantics.specs.ModelMeaning.{declaration_of, kinded, model_value}
use Rattle.ess_rules_laws.specs.Rules.{IsTruth}
use Rattle.ess_simplify_laws.specs.Simplifying.{simplified}
use Rattle.ess_keys_laws.specs.Keyed.{nothing_around, keyed}
use Rattle.conjure_model_laws.specs.Printed.{printed, binders}
use Rattle.ess_depth_laws.specs.Depth.{NestsWithin}
use Rattle.ess_bare_laws.specs.Bare.{Bare}
use Rattle.ess_bare_laws.specs.Lean.{Ended}

-- What is written for a tree in which nothing abstract is left: simplified, with plain keys, and simplified again; its bound names are
-- printed, none as a name that is taken.
abbrev pub as_written : List Text → Ex → Ex
as_written taken e = printed taken (simplified (keyed nothing_around (simplified e))) []

-- The numbers that a tree spells.
abbrev pub spelled_numbers : Ex → List ℤ
spelled_numbers e = append_all (map numbers_of_part (parts_of e))

-- A table of this name is declared. Its cells have this mark, and it has so many axes.
pub record IsDeclared (ds : List TableDecl) (n : Text) (b : Bool) (k : ℕ) : Type 0 where
  pub line : TableDecl
  pub found : declaration_of ds n ≡ Some line
  pub mark : is_bool_dom line.cell ≡ b
  pub axes : length line.axes ≡ k

-- The tables are declared.
abbrev pub AreDeclared : List TableDecl → (Text → Option (Bool × ℕ)) → Type 0
AreDeclared ds cells = (n : Text) (b : Bool) (k : ℕ) → cells n ≡ Some (b, k) → IsDeclared ds n b k

-- A bare tree without free names, in which no bound name hides another one, and with fewer binders than there are numbers of names.
pub record IsReady (cells : Text → Option (Bool × ℕ)) (taken : List Text) (e : Ex) (m : Bool) : Type 0 where
  pub bare : Bare cells [] e m
  pub unbound : Text → Bool
  pub around : Text → Bool
  pub ranging : Text → Bool
  pub scoped : Scoped unbound around ranging e
  pub few : suc (binders e + length taken) < 2 ^ 64

-- A tree that rules end in, without free names, in which no bound name hides another one, and no more names are bound around a place
-- than there are numbers of names.
pub record IsEndedTree (cells : Text → Option (Bool × ℕ)) (taken : List Text) (e : Ex) (m : Bool) : Type 0 where
  pub ended : Ended cells [] e m
  pub unbound : Text → Bool
  pub around : Text → Bool
  pub ranging : Text → Bool
  pub scoped : Scoped unbound around ranging e
  pub depth : ℕ
  pub nests : NestsWithin depth e
  pub few : suc (depth + length taken) < 2 ^ 64

-- A bare tree without free names means the same wherever the tables are the same, and is a truth value where its mark says so. What is
-- written for it means what it means. Where the tables are declared what is written is as models have it, with operands of the kinds that
-- are asked for. So it says over the tables of a model what the tree means there. And it spells no other numbers than the tree, but for 0
-- and 1.
pub record BareTreesAreWritten : Type 0 where
  pub truths : (cells : Text → Option (Bool × ℕ)) (e : Ex) → Bare cells [] e true → (env : Env) → IsTruth (meaning e env)
  pub tables : (cells : Text → Option (Bool × ℕ)) (e : Ex) (m : Bool) → Bare cells [] e m → (env there : Env) → env.cells ≡ there.cells →
      meaning e env ≡ meaning e there
  pub means : (cells : Text → Option (Bool × ℕ)) (taken : List Text) (e : Ex) (m : Bool) → IsReady cells taken e m → (env : Env) →
      meaning (as_written taken e) env ≡ meaning e env
  pub stands : (cells : Text → Option (Bool × ℕ)) (taken : List Text) (e : Ex) (m : Bool) → IsReady cells taken e m →
      (ds : List TableDecl) → AreDeclared ds cells → (kinded ds (as_written taken e) []).0 ≡ as_written taken e
  pub value : (cells : Text → Option (Bool × ℕ)) (taken : List Text) (e : Ex) (m : Bool) → IsReady cells taken e m →
      (ds : List TableDecl) → AreDeclared ds cells → (tc : Names Table) (env : Env) → env.cells ≡ tc →
      model_value ds tc (as_written taken e) ≡ meaning e env
  pub spells : (cells : Text → Option (Bool × ℕ)) (taken : List Text) (e : Ex) (m : Bool) → IsReady cells taken e m →
      (q : ℤ → Bool) → q (pos 0) ≡ true → q (pos 1) ≡ true → list_all q (spelled_numbers e) ≡ true →
      list_all q (spelled_numbers (as_written taken e)) ≡ true

-- All of this is so of each tree that rules end in.
pub record EndedTreesAreWritten : Type 0 where
  pub truths : (cells : Text → Option (Bool × ℕ)) (e : Ex) → Ended cells [] e true → (env : Env) → IsTruth (meaning e env)
  pub tables : (cells : Text → Option (Bool × ℕ)) (e : Ex) (m : Bool) → Ended cells [] e m → (env there : Env) → env.cells ≡ there.cells →
      meaning e env ≡ meaning e there
  pub means : (cells : Text → Option (Bool × ℕ)) (taken : List Text) (e : Ex) (m : Bool) → IsEndedTree cells taken e m → (env : Env) →
      meaning (as_written taken e) env ≡ meaning e env
  pub stands : (cells : Text → Option (Bool × ℕ)) (taken : List Text) (e : Ex) (m : Bool) → IsEndedTree cells taken e m →
      (ds : List TableDecl) → AreDeclared ds cells → (kinded ds (as_written taken e) []).0 ≡ as_written taken e
  pub value : (cells : Text → Option (Bool × ℕ)) (taken : List Text) (e : Ex) (m : Bool) → IsEndedTree cells taken e m →
      (ds : List TableDecl) → AreDeclared ds cells → (tc : Names Table) (env : Env) → env.cells ≡ tc →
      model_value ds tc (as_written taken e) ≡ meaning e env
  pub spells : (cells : Text → Option (Bool × ℕ)) (taken : List Text) (e : Ex) (m : Bool) → IsEndedTree cells taken e m →
      (q : ℤ → Bool) → q (pos 0) ≡ true → q (pos 1) ≡ true → list_all q (spelled_numbers e) ≡ true →
      list_all q (spelled_numbers (as_written taken e)) ≡ true
