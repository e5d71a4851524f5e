-- The types of names that a table holds.
use Rattle.std.specs.Prelude.{◌≡◌, ℕ, List, ◌++◌, [], ◌∷◌, map, reverse, take, length, if◌then◌else◌, is_some, refl}
use Rattle.std.specs.Coded.{Coded, code_by, coded×, coded_ℕ, coded_list}
use Rattle.ess_semantics.specs.Values.{Text}
use Rattle.ess_semantics.specs.Names.{Names, look}
use Rattle.ess_semantics.specs.Types as pure
use Rattle.ess_core.specs.declared.types.Ty.{Ty}
use Rattle.ess_core.specs.declared.types.FieldTy.{FieldTy}
use Rattle.ess_types_names.specs.Maps.{newest_first}
use Rattle.ess_types_names.specs.declared.table.Declared.{Declared}
use Rattle.ess_types_names.specs.declared.table.Declared.TheVariants.{Added, Standing}
use Rattle.ess_core.specs.TypeViews.{pure_ty, pure_field_ty}

-- The declared names with their types, and the names bound inside an expression. Of each the oldest stands first.
pub record Types : Type 0 where
  pub declared : List (Text × Ty)
  pub bound : List FieldTy

-- A table is stored as its two lists.
abbrev pub types_code : Coded Ty → Coded FieldTy → Coded Types
types_code t f =
    code_by (List (Text × Ty) × List FieldTy) (coded× (coded_list (coded× (coded_list coded_ℕ) t)) (coded_list f))
    (λ t. (t.declared, t.bound)) (λ p. record { declared = p.0; bound = p.1 }) (λ _. refl)

-- The declared names with their pure types, the newest first.
abbrev pub pure_declared : List (Text × Ty) → Names pure.Ty
pure_declared ns = newest_first pure_ty ns

-- The bound names with their pure types, the newest first.
abbrev pub pure_bound : List FieldTy → Names pure.Ty
pure_bound ns = reverse (map pure_field_ty ns)

-- The types of names: those of the bound names, and behind them those of the declared ones, the newest first.
abbrev pub pure_table : Types → Names pure.Ty
pure_table t = pure_bound t.bound ++ pure_declared t.declared

-- The table with one more declared name.
abbrev pub with_declared : Types → Text → Ty → Types
with_declared t a s = record t { declared = t.declared ++ (a, s) ∷ [] }

-- Whether a name is declared by a declaration, or was already.
abbrev pub declared_as : Types → Text → Declared
declared_as t a = if is_some (look (pure_declared t.declared) a) then Standing else Added

-- The table behind a declaration with this answer.
abbrev pub after_declared : Declared → Types → Text → Ty → Types
after_declared Added t a s = with_declared t a s
after_declared Standing t a s = t

-- The table with only the first k bound names.
abbrev pub unbound : Types → ℕ → Types
unbound t k = record t { bound = take k t.bound }

-- Whether u has the declared names of t, and the bound names of t with others behind them.
abbrev pub Extends : Types → Types → Type 0
Extends t u = (u.declared ≡ t.declared) × (take (length t.bound) u.bound ≡ t.bound)
