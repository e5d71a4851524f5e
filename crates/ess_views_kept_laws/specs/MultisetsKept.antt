-- Sizes, frequencies and membership of views of multisets keep their meaning: of views that have a number for each member of the inner
-- domain, and sizes of views in slots up to a marker.
use Rattle.std.specs.Prelude.{◌≡◌, Some, IsTrue, is_some}
use Rattle.ess_semantics.specs.declared.words.ReprKind.{ReprKind}
use Rattle.ess_semantics.specs.Values.{Text}
use Rattle.ess_semantics.specs.Trees.{repr, Ex, node_ex, seen_ex, no_exs, more_exs, mset_dom}
use Rattle.ess_semantics.specs.Meaning.{Env, domain_of, members_in}
use Rattle.ess_semantics.specs.Kept.{Keeps}
use Rattle.ess_rules_laws.specs.Rules.{Unused, OperandsThere}
use Rattle.ess_views_laws.specs.MultisetViews.{multiset_size, multiset_frequency, multiset_member}

-- The view has a number for each member of the inner domain, and these can be listed.
abbrev pub NumbersMembers : Ex → Env → Type 0
NumbersMembers (seen_ex (repr ReprKind.MSetOccurrence rs) (mset_dom ms es d) ns js) env = IsTrue (is_some (members_in (domain_of d env)))
NumbersMembers e env = ⊥

-- It has, or it has its members in slots up to a marker.
abbrev pub CountsMembers : Ex → Env → Type 0
CountsMembers (seen_ex (repr ReprKind.MSetExplicitWithRepetition rs) d ns js) env = Unit {0}
CountsMembers e env = NumbersMembers e env

-- So it is of the view whose size is taken.
abbrev pub SizeOfCounted : Ex → Env → Type 0
SizeOfCounted (node_ex b op (more_exs v no_exs)) env = CountsMembers v env
SizeOfCounted e env = ⊥

-- And of the view that stands first, or last, among two operands.
abbrev pub FirstNumbers : Ex → Env → Type 0
FirstNumbers (node_ex b op (more_exs v (more_exs a no_exs))) env = NumbersMembers v env
FirstNumbers e env = ⊥

abbrev pub LastNumbers : Ex → Env → Type 0
LastNumbers (node_ex b op (more_exs a (more_exs v no_exs))) env = NumbersMembers v env
LastNumbers e env = ⊥

-- The size is the sum of the numbers, or the marker; a frequency is the sum of the numbers at the members that are the term, where it
-- has a value; and a term is a member where the number at one that is the term is above 0.
pub record MultisetsServe : Type 0 where
  pub sizes : (x : Text) (n e f : Ex) → multiset_size x n e ≡ Some f → Unused x e → (env : Env) → SizeOfCounted e env → Keeps e f env
  pub frequencies : (x : Text) (n e f : Ex) → multiset_frequency x n e ≡ Some f → Unused x e → (env : Env) → OperandsThere e env →
      FirstNumbers e env → Keeps e f env
  pub members : (x : Text) (e f : Ex) → multiset_member x e ≡ Some f → Unused x e → (env : Env) → LastNumbers e env → Keeps e f env
