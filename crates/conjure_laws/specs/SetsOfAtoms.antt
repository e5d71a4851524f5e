-- A class of specifications: finds `set of A`, where A is a range of numbers, bool, or an enumerated, unnamed or given type, and
-- constraints that a number, a truth value or a value of a type is in a find, in any order and number.
use Rattle.std.specs.Prelude.{ℕ, suc, Bool, true, List, [], ◌∷◌, ◌++◌, length, ℤ, pos}
use Rattle.ess_semantics.specs.declared.words.Op2.{Op2}
use Rattle.ess_semantics.specs.Values.{Text}
use Rattle.ess_semantics.specs.Names.{Names}
use Rattle.ess_semantics.specs.Trees.{binary, both_ends, Ex, number_ex, truth_ex, name_ex, node_ex, no_exs, more_exs, Dom, bool_dom, int_dom, name_dom, set_dom, Stm, given_enum, let_enum, let_unnamed, find, such_that}

-- ---- the class

-- The domain of a set's members.
pub data Atom : Type 0 where
  range : ℤ → ℤ → Atom
  boolean : Atom
  typed : Text → Atom

-- What may be asked to be in a set: a number, a truth value, or a value of a type by its name.
pub data Lit : Type 0 where
  num : ℤ → Lit
  truth_lit : Bool → Lit
  value_name : Text → Lit

-- A statement of the class.
pub data Line : Type 0 where
  enum : Text → List Text → Line
  given_type : Text → Line
  unnamed : Text → ℕ → Line
  set_find : Text → Atom → Line
  holds_lit : Lit → Text → Line

-- `int(a..b)`.
abbrev pub range_dom : ℤ → ℤ → Dom
range_dom a b = int_dom (both_ends ∷ []) (more_exs (number_ex a) (more_exs (number_ex b) no_exs))

-- The domain of a set's members, as a tree.
abbrev pub atom_dom : Atom → Dom
atom_dom (range a b) = range_dom a b
atom_dom boolean = bool_dom
atom_dom (typed t) = name_dom t

-- `set of A`.
abbrev pub sets_of : Atom → Dom
sets_of A = set_dom [] no_exs (atom_dom A)

-- A literal as a tree.
abbrev pub lit_ex : Lit → Ex
lit_ex (num k) = number_ex k
lit_ex (truth_lit b) = truth_ex b
lit_ex (value_name n) = name_ex n

-- `L in x`.
abbrev pub membership : Lit → Text → Ex
membership l x = node_ex true (binary Op2.Member) (more_exs (lit_ex l) (more_exs (name_ex x) no_exs))

-- A statement as a tree.
abbrev pub statement : Line → Stm
statement (enum t ns) = let_enum t ns
statement (given_type t) = given_enum t
statement (unnamed t n) = let_unnamed t (number_ex (pos n))
statement (set_find x A) = find x (sets_of A)
statement (holds_lit l x) = such_that (membership l x)

-- The specification of these statements.
abbrev pub spec : List Line → List Stm
spec [] = []
spec (l ∷ T) = statement l ∷ spec T

-- ---- what is declared before a line

-- The number of values of a type is written, or it is that of a given type.
pub data TypeKind : Type 0 where
  fixed : ℕ → TypeKind
  sized : TypeKind

-- The names that are declared; the types; the finds with their members' domains; and the values of enumerated types, each with
-- its type and its position.
pub record Declared : Type 0 where
  pub names : List Text
  pub types : Names TypeKind
  pub finds : Names Atom
  pub values : Names (Text × ℕ)

-- Nothing is declared.
abbrev pub none_declared : Declared
none_declared = record { names = []; types = []; finds = []; values = [] }

-- The values of an enumerated type, with positions from k.
abbrev pub enum_values : Text → ℕ → List Text → Names (Text × ℕ)
enum_values t k [] = []
enum_values t k (n ∷ ns) = (n, (t, k)) ∷ enum_values t (suc k) ns

-- What is declared behind a line.
abbrev pub after : Line → Declared → Declared
after (enum t ns) c = record c {
  names = t ∷ ns ++ c.names;
  types = (t, fixed (length ns)) ∷ c.types;
  values = enum_values t 1 ns ++ c.values;
}
after (given_type t) c = record c { names = t ∷ c.names; types = (t, sized) ∷ c.types }
after (unnamed t n) c = record c { names = t ∷ c.names; types = (t, fixed n) ∷ c.types }
after (set_find x A) c = record c { names = x ∷ c.names; finds = (x, A) ∷ c.finds }
after (holds_lit l x) c = c

-- What is declared behind all lines.
abbrev pub after_all : List Line → Declared → Declared
after_all [] c = c
after_all (l ∷ U) c = after_all U (after l c)
