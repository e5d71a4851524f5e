-- The scope that the code keeps, as the definitions have it.
use Rattle.std.specs.Prelude.{◌≡◌, ℕ, take, length}
use Rattle.ess_semantics.specs.Scopes as scopes
use Rattle.ess_types_names.specs.Tables.{pure_table, unbound, Extends}
use Rattle.ess_types_scopes.specs.Kept.{pure_lettings}
use Rattle.ess_types_judging.specs.declared.scope.Scope.{Scope}
use Rattle.ess_types_judging.specs.Bounds.{finds_under}

-- What is in scope.
abbrev pub pure_scope : Scope → scopes.Scope
pure_scope s =
    record {
      tys = pure_table s.table;
      lets = pure_lettings s.lettings;
      enums = s.enums;
      unnamed = s.unnamed;
      depends_on_finds = finds_under s.bound s.finds;
      objective = s.objective;
    }

-- Whether t has what s has, and perhaps further bound names.
pub record Deeper (s t : Scope) : Type 0 where
  pub table : Extends s.table t.table
  pub bound : take (length s.bound) t.bound ≡ s.bound
  pub lettings : t.lettings ≡ s.lettings
  pub enums : t.enums ≡ s.enums
  pub unnamed : t.unnamed ≡ s.unnamed
  pub finds : t.finds ≡ s.finds
  pub objective : t.objective ≡ s.objective

-- The scope with the first bound names alone: k types, and the names of m generators.
abbrev pub left_at : Scope → ℕ → ℕ → Scope
left_at s k m = record s { table = unbound s.table k; bound = take m s.bound }
