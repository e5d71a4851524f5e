-- What holds between two statements, and what a statement that is entered adds.
use Rattle.std.specs.Prelude.{◌≡◌, Bool, true, false, List, [], ◌∷◌, map, Option, Some, None, if◌then◌else◌}
use Rattle.std.specs.List.{list_any}
use Rattle.ess_semantics.specs.Values.{Text}
use Rattle.ess_semantics.specs.Names.{Names, keys, is_among, all_distinct}
use Rattle.ess_semantics.specs.Trees.{Stm, given, given_enum, let_ex, let_dom, let_enum, let_unnamed, find}
use Rattle.ess_semantics.specs.Types.{Ty, named_ty, type_of_dom}
use Rattle.ess_semantics.specs.Scopes.{Scope, names_in_scope}
use Rattle.ess_semantics.specs.Judgements.{is_value_name}

-- The names ns stand once, and none of them is among ks.
pub record AreNew (ks ns : List Text) : Type 0 where
  pub once : all_distinct ns ≡ true
  pub apart : list_any (is_among ks) ns ≡ false

-- The names are those T for which a name in scope is `T_` with digits.
abbrev pub AreStems : List Text → Scope → Type 0
AreStems ns s = (u : Text) → is_among ns u ≡ list_any (is_value_name u) (names_in_scope s)

-- A name without a type is no letting of an expression, and doesn't depend on finds.
abbrev pub AreTyped : Scope → Type 0
AreTyped s = (a : Text) → is_among (keys s.tys) a ≡ false → (is_among (keys s.lets.exs) a ≡ false) × (is_among s.depends_on_finds a ≡ false)

-- The name that a statement declares for what depends on finds; b says whether its part mentions no find.
abbrev pub depending : Stm → Bool → List Text
depending (find x d) b = x ∷ []
depending (let_ex x e) b = if b then [] else x ∷ []
depending t b = []

-- The names that a statement declares, with their types, where o is that of its expression.
abbrev pub names_of : Stm → Option Ty → Names Ty
names_of (given x d) o = (x, type_of_dom d) ∷ []
names_of (given_enum t) o = (t, named_ty t) ∷ []
names_of (let_ex x e) None = []
names_of (let_ex x e) (Some u) = (x, u) ∷ []
names_of (let_dom x d) o = (x, type_of_dom d) ∷ []
names_of (let_enum t ns) o = (t, named_ty t) ∷ map (λ n. (n, named_ty t)) ns
names_of (let_unnamed t e) o = (t, named_ty t) ∷ []
names_of (find x d) o = (x, type_of_dom d) ∷ []
names_of t o = []
