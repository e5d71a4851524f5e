-- Shorter forms of views of functions kept by argument, where the argument's own value is an index: the view at the argument, the
-- flag at the argument.
use Rattle.std.specs.Prelude.{◌≡◌, Bool, true, false, ◌||◌, not, ℤ, List, [], ◌∷◌, map, Option, Some, None, if◌then◌else◌}
use Rattle.ess_semantics.specs.declared.words.Op2.{Op2}
use Rattle.ess_semantics.specs.declared.words.Fun.{Fun}
use Rattle.ess_semantics.specs.declared.words.ReprKind.{ReprKind}
use Rattle.ess_semantics.specs.Values.{Text, Value, items_of}
use Rattle.ess_semantics.specs.Collections.{holds}
use Rattle.ess_semantics.specs.Trees.{word, application, tuple_literal, Repr, repr, no_reprs, more_reprs, Ex, Exs, truth_ex, node_ex, comp_ex, seen_ex, ex2, fun1, no_exs, more_exs, no_gens, cond, Dom, tuple_dom, function_dom}
use Rattle.ess_semantics.specs.Tables.{code}
use Rattle.ess_semantics.specs.Meaning.{Env, meaning, domain_of, members_in, is_bool_dom}
use Rattle.ess_rules_laws.specs.FunctionViews.{result_at, flag_at, of_application}

-- Whether a result of this domain may stand where a truth value is asked, if one is.
abbrev pub fits_mark : Bool → Dom → Bool
fits_mark b c = not b || is_bool_dom c

-- ---- total functions

-- The view at these indices, where it fits the place.
abbrev pub fitting_result : Bool → Repr → Dom → List Text → Exs → Exs → Option Ex
fitting_result b r c ns js ks = if fits_mark b c then Some (result_at r c ns js ks) else None

-- A total function at a: the view there. An atom is its own index, a tuple that is written as a literal has those of its items.
abbrev pub view_at : Bool → Ex → Ex → Option Ex
view_at b (seen_ex (repr ReprKind.Function1D (more_reprs r no_reprs)) (function_dom ms es d c) ns js) a =
    fitting_result b r c ns js (more_exs a no_exs)
view_at b (seen_ex (repr ReprKind.FunctionND (more_reprs r no_reprs)) (function_dom ms es (tuple_dom ds) c) ns js)
    (node_ex false tuple_literal as') =
    fitting_result b r c ns js as'
view_at b f a = None

-- `f(a)` and `image(f, a)` of a total function: the view at a.
abbrev pub result_at_argument : Ex → Option Ex
result_at_argument (node_ex b application (more_exs f (more_exs a no_exs))) = view_at b f a
result_at_argument (node_ex b (word Fun.Image) (more_exs f (more_exs a no_exs))) = view_at b f a
result_at_argument e = None

-- Whether the expression is a view of a total function.
abbrev pub is_total_view : Ex → Bool
is_total_view (seen_ex (repr ReprKind.Function1D (more_reprs r no_reprs)) (function_dom ms es d c) ns js) = true
is_total_view (seen_ex (repr ReprKind.FunctionND (more_reprs r no_reprs)) (function_dom ms es (tuple_dom ds) c) ns js) = true
is_total_view f = false

-- `a in defined(f)` of a total function is true.
abbrev pub defined_everywhere : Ex → Option Ex
defined_everywhere (ex2 true Op2.Member a (fun1 false Fun.Defined f)) = if is_total_view f then Some (truth_ex true) else None
defined_everywhere e = None

-- ---- functions with flags

-- A function with flags at a: the flag there.
abbrev pub flag_of : Ex → Ex → Option Ex
flag_of (seen_ex (repr ReprKind.Function1DPartial (more_reprs r no_reprs)) (function_dom ms es d c) (m ∷ ns) js) a =
    Some (flag_at m js (more_exs a no_exs))
flag_of (seen_ex (repr ReprKind.FunctionNDPartial (more_reprs r no_reprs)) (function_dom ms es (tuple_dom ds) c) (m ∷ ns) js)
    (node_ex false tuple_literal as') =
    Some (flag_at m js as')
flag_of f a = None

-- `a in defined(f)` of a function with flags is the flag at a.
abbrev pub defined_where_flagged : Ex → Option Ex
defined_where_flagged (ex2 true Op2.Member a (fun1 false Fun.Defined f)) = flag_of f a
defined_where_flagged e = None

-- The view at these indices, where the flag there is true.
abbrev pub result_behind_flag : Repr → Dom → Text → List Text → Exs → Exs → Ex
result_behind_flag r c m ns js ks = comp_ex (result_at r c ns js ks) (cond (flag_at m js ks) no_gens)

-- A function with flags at a: `[v | c]`, where v is the view there and c the flag.
abbrev pub flagged_view_at : Ex → Ex → Option Ex
flagged_view_at (seen_ex (repr ReprKind.Function1DPartial (more_reprs r no_reprs)) (function_dom ms es d c) (m ∷ ns) js) a =
    Some (result_behind_flag r c m ns js (more_exs a no_exs))
flagged_view_at (seen_ex (repr ReprKind.FunctionNDPartial (more_reprs r no_reprs)) (function_dom ms es (tuple_dom ds) c) (m ∷ ns) js)
    (node_ex false tuple_literal as') =
    Some (result_behind_flag r c m ns js as')
flagged_view_at f a = None

-- The lookup of `f(a)` and of `image(f, a)`.
abbrev pub lookup_behind_flag : Ex → Option Ex
lookup_behind_flag e = of_application flagged_view_at e

-- ---- what they count on

-- The term has one of the members of the domain as its value.
pub record IsMember (a : Ex) (d : Dom) (env : Env) : Type 0 where
  pub value : Value
  pub members : List Value
  pub is_value : meaning a env ≡ Some value
  pub are_members : members_in (domain_of d env) ≡ Some members
  pub is_held : holds members value ≡ true

-- The argument is a member of the first domain of the function.
abbrev pub HeldBy : Ex → Ex → Env → Type 0
HeldBy (seen_ex r (function_dom ms es d c) ns js) a env = IsMember a d env
HeldBy f a env = Unit {0}

-- So it is in an application or an `image`.
abbrev pub ArgumentHeld : Ex → Env → Type 0
ArgumentHeld (node_ex b op (more_exs f (more_exs a no_exs))) env = HeldBy f a env
ArgumentHeld e env = Unit {0}

-- So it is in `a in defined(f)`.
abbrev pub DefinedHeld : Ex → Env → Type 0
DefinedHeld (ex2 b o a (fun1 e w f)) env = HeldBy f a env
DefinedHeld e env = Unit {0}

-- The term has a value that its number tells from all other members of the domain.
pub record IsTold (index : Value → List ℤ) (a : Ex) (d : Dom) (env : Env) : Type 0 where
  pub value : Value
  pub members : List Value
  pub is_value : meaning a env ≡ Some value
  pub are_members : members_in (domain_of d env) ≡ Some members
  pub is_told : (v : Value) → holds members v ≡ true → index v ≡ index value → v ≡ value

-- So it is of the argument in the first domain of a function with flags.
abbrev pub ToldBy : Ex → Ex → Env → Type 0
ToldBy (seen_ex (repr ReprKind.Function1DPartial rs) (function_dom ms es d c) ns js) a env = IsTold (λ v. code v ∷ []) a d env
ToldBy (seen_ex (repr ReprKind.FunctionNDPartial rs) (function_dom ms es d c) ns js) a env = IsTold (λ v. map code (items_of v)) a d env
ToldBy f a env = Unit {0}

-- In an application or an `image`.
abbrev pub ArgumentTold : Ex → Env → Type 0
ArgumentTold (node_ex b op (more_exs f (more_exs a no_exs))) env = ToldBy f a env
ArgumentTold e env = Unit {0}

-- In `a in defined(f)`.
abbrev pub DefinedTold : Ex → Env → Type 0
DefinedTold (ex2 b o a (fun1 e w f)) env = ToldBy f a env
DefinedTold e env = Unit {0}
