-- The env behind all statements has the values and types of an earlier one, but for the names that the statements between declare, and
-- the values of the enumerated types that are given.
use Rattle.std.proofs.Common.{◌≡◌, refl, sym, ap, ◌∙◌, ℕ, suc, Bool, true, false, if◌then◌else◌, ◌||◌, List, [], ◌∷◌, ◌++◌, Option, Some, None}
use Rattle.ess_semantics.specs.Lists.{list_or_none}
use Rattle.ess_semantics.specs.Values.{Text, Value}
use Rattle.ess_semantics.specs.Order.{same_text}
use Rattle.ess_semantics.specs.Names.{Names, look, keys, is_among}
use Rattle.ess_semantics.specs.Trees.{Stm, given, given_enum, let_ex, let_dom, let_enum, let_unnamed, needs, find, such_that, minimise, maximise}
use Rattle.ess_semantics.specs.Lettings.{put_all}
use Rattle.ess_semantics.specs.Prepared.{resolve_stm, resolve_all}
use Rattle.ess_semantics.specs.Scopes.{Scope}
use Rattle.ess_semantics.specs.Judgements.{declares, put_in_scope, scope_after}
use Rattle.ess_semantics.specs.Meaning.{Env, TypeEntry, type_entry}
use Rattle.ess_semantics.specs.Assignments.{Assignment, value_if, enum_items, env_after, env_behind}
use Rattle.ess_semantics.proofs.Tests.{or-left-no, or-right-no}
use Rattle.conjure_laws.proofs.FreeNames.{among-append}
use Rattle.conjure_laws.proofs.Lookups.{look-right}

-- The two are equal but for the values and types of these names.
pub record Agrees (ns : List Text) (env later : Env) : Type 0 where
  pub positions : env.positions ≡ later.positions
  pub cells : env.cells ≡ later.cells
  pub vals : (a : Text) → is_among ns a ≡ false → look env.vals a ≡ look later.vals a
  pub types : (a : Text) → is_among ns a ≡ false → type_entry env.types a ≡ type_entry later.types a

-- A name that is none of two lists is none of either.
pub off-left : (ns ms : List Text) (a : Text) → is_among (ns ++ ms) a ≡ false → is_among ns a ≡ false
off-left ns ms a h = or-left-no (is_among ns a) (is_among ms a) (sym (among-append ns ms a) ∙ h)

pub off-right : (ns ms : List Text) (a : Text) → is_among (ns ++ ms) a ≡ false → is_among ms a ≡ false
off-right ns ms a h = or-right-no (is_among ns a) (is_among ms a) (sym (among-append ns ms a) ∙ h)

-- ---- one statement

-- The values of a given enumerated type.
abbrev pub given_values : Assignment → Stm → List Text
given_values p (given_enum t) = list_or_none (look p.types t)
given_values p (given x d) = []
given_values p (let_ex x e) = []
given_values p (let_dom x d) = []
given_values p (let_enum t ns) = []
given_values p (let_unnamed t e) = []
given_values p (needs e) = []
given_values p (find x d) = []
given_values p (such_that e) = []
given_values p (minimise e) = []
given_values p (maximise e) = []

-- The names to which a statement may give a value or a type.
abbrev pub added : Assignment → Stm → List Text
added p w = declares w ++ given_values p w

-- The same of several statements.
abbrev pub all_added : Assignment → List Stm → List Text
all_added p [] = []
all_added p (w ∷ ws) = added p w ++ all_added p ws

-- A value of another name changes nothing.
pub value-past : (x : Text) (o : Option Value) (g : Names Value) (a : Text) → same_text x a ≡ false → look g a ≡ look (value_if x o g) a
value-past x None g a e = refl
value-past x (Some v) g a e = sym (ap (λ b. if b then Some v else look g a) e)

-- A type of another name changes nothing.
type-past : (t : TypeEntry) (ts : List TypeEntry) (a : Text) → same_text t.name a ≡ false → type_entry ts a ≡ type_entry (t ∷ ts) a
type-past t ts a e = sym (ap (λ b. elim b [ true ↦ Some t | false ↦ type_entry ts a ]) e)

pub item-keys : (t : Text) (k : ℕ) (ns : List Text) → keys (enum_items t k ns) ≡ ns
item-keys t k [] = refl
item-keys t k (n ∷ ns) = ap (λ l. n ∷ l) (item-keys t (suc k) ns)

-- Nor do values of other names.
pub items-past : (t : Text) (ns : List Text) (g : Names Value) (a : Text) → is_among ns a ≡ false →
    look g a ≡ look (enum_items t 1 ns ++ g) a
items-past t ns g a e = sym (look-right (enum_items t 1 ns) g a (ap (λ l. is_among l a) (item-keys t 1 ns) ∙ e))

same-env : (ns : List Text) (env : Env) → Agrees ns env env
same-env ns env = record { positions = refl; cells = refl; vals = λ a h. refl; types = λ a h. refl }

-- a name that isn't the only one
not-it : (b : Bool) → b || false ≡ false → b ≡ false
not-it true h = cc
not-it false h = refl

pub one-agrees : (w : Stm) (s : Scope) (p a : Assignment) (env : Env) →
    Agrees (added p w) env (env_after (resolve_stm (put_in_scope w s) s.tys) p a env)
one-agrees (given x d) s p a env =
    record { positions = refl; cells = refl; vals = λ y h. value-past x _ env.vals y (not-it (same_text x y) h); types = λ y h. refl }
one-agrees (find x d) s p a env =
    record { positions = refl; cells = refl; vals = λ y h. value-past x _ env.vals y (not-it (same_text x y) h); types = λ y h. refl }
one-agrees (given_enum t) s p a env = record {
  positions = refl;
  cells = refl;
  vals = λ y h. items-past t (list_or_none (look p.types t)) env.vals y (or-right-no (same_text t y) _ h);
  types = λ y h. type-past _ env.types y (or-left-no (same_text t y) (is_among (list_or_none (look p.types t)) y) h);
}
one-agrees (let_enum t ns) s p a env = record {
  positions = refl;
  cells = refl;
  vals = λ y h. items-past t ns env.vals y (off-left ns [] y (or-right-no (same_text t y) (is_among (ns ++ []) y) h));
  types = λ y h. type-past _ env.types y (or-left-no (same_text t y) (is_among (ns ++ []) y) h);
}
one-agrees (let_unnamed t e) s p a env = record {
  positions = refl;
  cells = refl;
  vals = λ y h. refl;
  types = λ y h. type-past _ env.types y (not-it (same_text t y) h);
}
one-agrees (let_ex x e) s p a env = same-env (x ∷ []) env
one-agrees (let_dom x d) s p a env = same-env (x ∷ []) env
one-agrees (needs e) s p a env = same-env [] env
one-agrees (such_that e) s p a env = same-env [] env
one-agrees (minimise e) s p a env = same-env [] env
one-agrees (maximise e) s p a env = same-env [] env

-- ---- all statements

chained : (ns ms : List Text) (e f g : Env) → Agrees ns e f → Agrees ms f g → Agrees (ns ++ ms) e g
chained ns ms e f g h k = record {
  positions = h.positions ∙ k.positions;
  cells = h.cells ∙ k.cells;
  vals = λ a i. h.vals a (off-left ns ms a i) ∙ k.vals a (off-right ns ms a i);
  types = λ a i. h.types a (off-left ns ms a i) ∙ k.types a (off-right ns ms a i);
}

-- The env behind all statements agrees with the one before them, but for the names that they add.
pub behind-agrees : (ws : List Stm) (s : Scope) (p a : Assignment) (env : Env) →
    Agrees (all_added p ws) env (env_behind (resolve_all (put_all ws s.lets s.tys) s.tys) p a env)
behind-agrees [] s p a env = same-env [] env
behind-agrees (w ∷ ws) s p a env =
    let t : Stm = put_in_scope w s in
    let next : Env = env_after (resolve_stm t s.tys) p a env in
    chained (added p w) (all_added p ws) env next _ (one-agrees w s p a env) (behind-agrees ws (scope_after t s) p a next)
