-- Lookups of what is picked out of a term: of a component or a field of a looked up tuple or record, and of the item of a
-- matrix, whatever term gives it.
use Rattle.std.specs.Prelude.{◌≡◌, Bool, true, false, ◌&&◌, ℕ, [], ◌∷◌, List, Option, Some, None, option_map, IsTrue, is_some, if◌then◌else◌}
use Rattle.ess_semantics.specs.declared.words.Op2.{Op2}
use Rattle.ess_semantics.specs.declared.words.ReprKind.{ReprKind}
use Rattle.ess_semantics.specs.Values.{Text, a_matrix, Value, matrix, to_list}
use Rattle.ess_semantics.specs.Names.{Names}
use Rattle.ess_semantics.specs.Trees.{by_value, to_component, to_field, index, name_pat, Ex, Exs, name_ex, node_ex, matrix_ex, comp_ex, ex2, no_exs, more_exs, no_gens, over, from, cond, Dom, Reprs, repr, seen_ex, Doms, more_doms, matrix_dom}
use Rattle.ess_semantics.specs.Types.{Ty, compound2, is_bool}
use Rattle.ess_semantics.specs.Typing.{a_number, a_name, part_behind, type_of}
use Rattle.ess_semantics.specs.Typed.{Typed}
use Rattle.ess_semantics.specs.Meaning.{Env, meaning, domain_of, members_in}
use Rattle.ess_semantics.specs.Meets.{Meets, MeetsDom}
use Rattle.ess_rules_laws.specs.Rules.{Unused, IsTruth, SoundOperands, OperandsThere}
use Rattle.ess_rules_laws.specs.LiteralRules.{nth}
use Rattle.ess_rules_laws.specs.Lookups.{Looked, LooksUp, is_plain, put_nth}
use Rattle.ess_rules_laws.specs.FunctionLookups.{unmarked}

-- ---- through a lookup

-- `N[t]` is looked up by `[N[x] | x <- l]`, where t is the k-th operand of N, l looks it up, and x is a new name.
abbrev pub lookup_through : Text → ℕ → Ex → Ex → Option Ex
lookup_through x k l (node_ex b op es) =
    if is_plain op && is_some (nth es k) then Some (comp_ex (node_ex b op (put_nth es k (name_ex x))) (from (name_pat x) l no_gens))
    else None
lookup_through x k l e = None

-- There is a value, a truth value where the place is Boolean.
abbrev pub FitsPlace : Bool → Option Value → Type 0
FitsPlace true o = IsTruth o
FitsPlace false o = IsTrue (is_some o)

-- Where the operand is there the tree has a value that fits its place.
abbrev pub FitsWhereThere : Option Ex → Bool → Ex → Env → Type 0
FitsWhereThere None b e env = Unit {0}
FitsWhereThere (Some t) b e env = IsTrue (is_some (meaning t env)) → FitsPlace b (meaning e env)

-- What it counts on: l looks up the operand, and where that has a value so has the tree.
abbrev pub LooksThrough : ℕ → Ex → Ex → Env → Type 0
LooksThrough k l (node_ex b op es) env = LooksUp (nth es k) l env × FitsWhereThere (nth es k) b (node_ex false op es) env
LooksThrough k l e env = Unit {0}

-- ---- components and fields

-- The type of a component.
abbrev pub component_type_of : Option Ty → ℕ → Option Ty
component_type_of t k = part_behind t (a_number k)

-- The type of a field.
abbrev pub field_type_of : Option Ty → Text → Option Ty
field_type_of t a = part_behind t (a_name a)

-- Whether there is a type, that of truth values where the place is Boolean.
abbrev pub fits_place : Bool → Option Ty → Bool
fits_place true t = is_bool t
fits_place false t = is_some t

-- `t[k]` and `t[a]` through the lookup l of the tuple or record t.
abbrev pub part_lookup : Names Ty → Text → Ex → Ex → Option Ex
part_lookup g x l (node_ex b (index (to_component k ∷ [])) (more_exs t no_exs)) =
    if fits_place b (component_type_of (type_of t g) k)
    then lookup_through x 1 l (node_ex b (index (to_component k ∷ [])) (more_exs t no_exs)) else None
part_lookup g x l (node_ex b (index (to_field a ∷ [])) (more_exs t no_exs)) =
    if fits_place b (field_type_of (type_of t g) a) then lookup_through x 1 l (node_ex b (index (to_field a ∷ [])) (more_exs t no_exs))
    else None
part_lookup g x l e = None

-- The lookup looks up the first operand.
abbrev pub LooksUpFirst : Ex → Ex → Env → Type 0
LooksUpFirst l (node_ex b op (more_exs t es)) env = Looked t l env
LooksUpFirst l e env = Unit {0}

-- ---- matrices

-- The type of the items.
abbrev pub item_type_of : Option Ty → Option Ty
item_type_of (Some (compound2 a_matrix t u)) = Some u
item_type_of t = None

-- `m[i]` is looked up by `[m[x] | x : d, x = i]`, where d is the index domain of m, and x is a new name.
abbrev pub matrix_lookup : Names Ty → Text → Dom → Ex → Option Ex
matrix_lookup g x d (node_ex b (index (by_value ∷ [])) (more_exs m (more_exs i no_exs))) =
    if fits_place b (item_type_of (type_of m g))
    then Some (comp_ex (node_ex b (index (by_value ∷ [])) (more_exs m (more_exs (name_ex x) no_exs)))
    (over (name_pat x) d (cond (ex2 true Op2.Eq (name_ex x) i) no_gens)))
    else None
matrix_lookup g x d e = None

-- The indices of a matrix.
abbrev pub indices_of : Value → List Value
indices_of (matrix is xs) = to_list is
indices_of v = []

-- The members of the domain are the indices of the matrix, and the tables meet its structures.
pub record IndexedBy (m : Ex) (d : Dom) (env : Env) : Type 0 where
  pub indices : option_map indices_of (meaning m env) ≡ members_in (domain_of d env)
  pub met : MeetsDom d env

-- The domain is that of the first operand.
abbrev pub FirstIndexedBy : Dom → Ex → Env → Type 0
FirstIndexedBy d (node_ex b op (more_exs m es)) env = IndexedBy m d env
FirstIndexedBy d e env = Unit {0}

-- ---- the laws

-- So these values are looked up.
pub record PartsAreLookedUp : Type 0 where
  pub through_a_lookup : (x : Text) (k : ℕ) (l e f : Ex) → lookup_through x k l e ≡ Some f → Unused x e →
      (env : Env) → LooksThrough k l e env → Meets e env → Looked (unmarked e) f env
  pub of_tuples_and_records : (g : Names Ty) (x : Text) (l e f : Ex) → part_lookup g x l e ≡ Some f → Unused x e → SoundOperands g e →
      (env : Env) → Typed g env → LooksUpFirst l e env → Meets e env → Looked (unmarked e) f env
  pub of_matrices : (g : Names Ty) (x : Text) (d : Dom) (e f : Ex) → matrix_lookup g x d e ≡ Some f → Unused x e → SoundOperands g e →
      (env : Env) → Typed g env → OperandsThere e env → FirstIndexedBy d e env → Meets e env → Looked (unmarked e) f env
  pub literals_are_indexed : (es : Exs) (d : Dom) (env : Env) → IsTrue (is_some (meaning (matrix_ex es d) env)) →
      Meets (matrix_ex es d) env →
      IndexedBy (matrix_ex es d) d env
  pub views_are_indexed : (rs : Reprs) (d e : Dom) (ds : Doms) (ns : List Text) (js : Exs) (env : Env) →
      IsTrue (is_some (members_in (domain_of d env))) →
      Meets (seen_ex (repr ReprKind.Matrix rs) (matrix_dom (more_doms d ds) e) ns js) env →
      IndexedBy (seen_ex (repr ReprKind.Matrix rs) (matrix_dom (more_doms d ds) e) ns js) d env
