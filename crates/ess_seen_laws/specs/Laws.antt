-- The laws of trees over views, each stated at a function that does nothing.
use Rattle.std.specs.Prelude.{◌≡◌, ℕ, Bool, [], ◌∷◌, Option, Some, None, IsTrue, is_some, List, length}
use Rattle.ess_semantics.specs.Values.{Text, a_set, a_matrix}
use Rattle.ess_semantics.specs.Names.{Names, look}
use Rattle.ess_semantics.specs.Trees.{Ex, Exs, Gens}
use Rattle.ess_semantics.specs.Types.{int_ty, compound1, compound2}
use Rattle.ess_semantics.specs.Typing.{type_of, types_under}
use Rattle.ess_semantics.specs.NamesAt.{names_behind}
use Rattle.ess_semantics.specs.FreeNames.{FreeNamesAre}
use Rattle.ess_semantics.specs.Scoped.{Scoped}
use Rattle.ess_semantics.specs.Contexts.{In, fill}
use Rattle.ess_semantics.specs.Substitution.{substitute, for_name}
use Rattle.ess_rules_laws.specs.SpliceRules.{append_gens}
use Rattle.conjure_model_laws.specs.ToldApart.{told}
use Rattle.ess_seen_laws.specs.Seen.{Kind, scalars, kind_ty, Bound, from_a_set, bound_types, SetTerm, Places, Seen, Indices, Going}
use Rattle.ess_seen_laws.specs.SeenParts.{AllBound, Items, StandsIn}
use Rattle.ess_seen_laws.specs.Putting.{Within, BindsNone, BindNone, IsItem, Puts, GensPut, GensWithin, ListPut}

-- What is said of a part of such a tree: names around it have the types that their bounds tell and are bound in the tree or around it, and
-- it is a scalar, in whose place another one of the same mark may stand, a set, a list, or a part at which no rule fires.
abbrev pub PartsOfSeenTrees : Type 0
PartsOfSeenTrees = (cells : Text → Option (Bool × List ℕ)) (r : Names Bound) (c : In) (e : Ex) (m : Bool) → Seen cells r (fill c e) m →
    StandsIn cells c r e m

-- The types of scalars are those of their marks, of sets those of their kinds; generators bind names of the types that bounds tell.
pub record SeenTreesHaveTypes : Type 0 where
  pub of_scalars : (cells : Text → Option (Bool × List ℕ)) (r : Names Bound) (e : Ex) (m : Bool) → Seen cells r e m →
      type_of e (bound_types r) ≡ Some (kind_ty (scalars m))
  pub of_sets : (cells : Text → Option (Bool × List ℕ)) (r : Names Bound) (e : Ex) (k : Kind) → SetTerm cells r e k →
      type_of e (bound_types r) ≡ Some (compound1 a_set (kind_ty k))
  pub of_lists : (cells : Text → Option (Bool × List ℕ)) (r : Names Bound) (e : Ex) (m : Bool) → Items cells r e m →
      type_of e (bound_types r) ≡ Some (compound2 a_matrix int_ty (kind_ty (scalars m)))
  pub under : (cells : Text → Option (Bool × List ℕ)) (r t : Names Bound) (gs : Gens) → Going cells r gs t →
      types_under gs (bound_types r) ≡ Some (bound_types t)
  pub behind : (cells : Text → Option (Bool × List ℕ)) (r t : Names Bound) (gs : Gens) → Going cells r gs t →
      names_behind gs (bound_types r) ≡ bound_types t

-- Such a tree is one among more names too. A name that wasn't bound hides none.
pub record SeenTreesStayAmongMore : Type 0 where
  pub seen : (cells : Text → Option (Bool × List ℕ)) (r t : Names Bound) (e : Ex) (m : Bool) → Within r t → Seen cells r e m →
      Seen cells t e m
  pub set : (cells : Text → Option (Bool × List ℕ)) (r t : Names Bound) (e : Ex) (k : Kind) → Within r t → SetTerm cells r e k →
      SetTerm cells t e k
  pub places : (cells : Text → Option (Bool × List ℕ)) (r t : Names Bound) (es : Exs) (ks : List ℕ) → Within r t → Places cells r es ks →
      Places cells t es ks
  pub going : (cells : Text → Option (Bool × List ℕ)) (r t u : Names Bound) (gs : Gens) → Within r t → Going cells r gs u →
      GensWithin cells u t gs
  pub new_name : (r : Names Bound) (a : Text) (b : Bound) → look r a ≡ None → Within r ((a, b) ∷ r)
  pub indices : (cells : Text → Option (Bool × List ℕ)) (r : Names Bound) (es : Exs) (ks : List ℕ) → Places cells r es ks →
      Indices cells r es (length ks)

-- A member in the place of a name that was bound over members of its kind leaves such a tree, where no bound name of the tree is one of
-- those that the member may use. So an alternative of a source, that is generators with an item, may stand in the place of the source.
pub record MembersMayBePut : Type 0 where
  pub seen : (cells : Text → Option (Bool × List ℕ)) (s : Text → Bool) (y : Text) (h : Ex) (r t : Names Bound) (e : Ex) (m : Bool) →
      Puts cells s y h r t → BindsNone s e → Seen cells r e m → Seen cells t (substitute (for_name y h) e) m
  pub going : (cells : Text → Option (Bool × List ℕ)) (s : Text → Bool) (y : Text) (h : Ex) (r t u : Names Bound) (gs : Gens) →
      Puts cells s y h r t → BindNone s gs → Going cells r gs u → GensPut cells s y h u t gs
  pub appended : (cells : Text → Option (Bool × List ℕ)) (r t u : Names Bound) (gs hs : Gens) → Going cells r gs t → Going cells t hs u →
      Going cells r (append_gens gs hs) u
  -- r are the names around the source, y runs over it, and t are the names behind the generators ks of the alternative.
  pub listed : (cells : Text → Option (Bool × List ℕ)) (s : Text → Bool) (r t u : Names Bound) (y : Text) (k : Kind) (ks hs : Gens)
      (h e : Ex) (m : Bool) → Going cells r ks t → Within r t → IsItem cells t h k → AllBound s t → IsTrue (s y) → BindNone s hs →
      BindsNone s e → Going cells ((y, from_a_set k) ∷ r) hs u → Seen cells u e m → ListPut cells r y h ks hs e m

-- What is told apart of a set is the set itself: it binds no name. In a nested domain no name stands.
pub record SetsStayAsTheyAre : Type 0 where
  pub told_apart : (cells : Text → Option (Bool × List ℕ)) (r : Names Bound) (e : Ex) (k : Kind) → SetTerm cells r e k → (j : ℕ) →
      told e [] j ≡ (e, j)

-- The free names of such a tree are those that are bound around it. Where it is scoped the names that it binds are none of those around.
pub record NamesOfSeenTrees : Type 0 where
  pub closed : (cells : Text → Option (Bool × List ℕ)) (r : Names Bound) (e : Ex) (m : Bool) → Seen cells r e m →
      FreeNamesAre (λ a. is_some (look r a)) e
  pub binds_new : (cells : Text → Option (Bool × List ℕ)) (r : Names Bound) (e : Ex) (m : Bool) → Seen cells r e m →
      (z s o : Text → Bool) → Scoped z s o e → BindsNone s e
