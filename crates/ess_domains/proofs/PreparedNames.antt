-- What the statements of a specification name stays the same when they are prepared, so the verdicts over prepared
-- statements are those on the specification.
use Rattle.std.proofs.Common.{◌≡◌, refl, ap, sym, ◌∙◌, ℕ, true, false, ◌||◌, List, [], ◌∷◌, ◌++◌, map, Option, Some, None, option_map}
use Rattle.std.specs.Prelude.{is_some}
use Rattle.ess_semantics.specs.Lists.{append_all, or_else}
use Rattle.ess_semantics.specs.Values.{Text}
use Rattle.ess_semantics.specs.Names.{Names, keys}
use Rattle.ess_semantics.specs.Trees.{Stm, given, given_enum, let_ex, let_dom, let_enum, let_unnamed, find}
use Rattle.ess_semantics.specs.Types.{Ty}
use Rattle.ess_semantics.specs.Lettings.{Lettings, no_lettings, put_stm, put_all, lettings_after, types_after}
use Rattle.ess_semantics.specs.Prepared.{prepared, resolve_stm, resolve_all}
use Rattle.ess_semantics.specs.Judgements.{declares}
use Rattle.ess_semantics.specs.Assignments.{Assignment, nothing_given, Placed, placed, unnamed_sizes}
use Rattle.ess_semantics.specs.Parameters as params
use Rattle.ess_semantics.specs.Parameters.{given_of, given_enum_of, givens, given_enums, all_declared, first_missing, first_extra_type, first_extra_value, first_verdict, missing_given, extra_name, param_verdict}
use Rattle.ess_semantics.specs.Solutions as solutions
use Rattle.ess_semantics.specs.Solutions.{valid, missing_find, extra_find, not_in_domain, false_constraint, no_objective, find_of, finds, first_extra_list, first_failing, find_is_member, constraint_holds, objective_has_value, name_of_find, verdict}
use Rattle.ess_semantics.specs.LargeSpecifications.{parameter_is_large, solution_is_large}
use Rattle.ess_domains.specs.Prepared.{places, param_verdict_over, verdict_over, values_verdict, verdict_of_kinds, has_large, has_large_declared}
use Rattle.ess_domains.specs.Sizes.{names_of_sizes}
use Rattle.ess_domains.specs.Verdicts.{cut_param, cut}

-- ---- the names of statements

-- Lettings that are put in leave what f reads, where they leave it in each statement.
put-keeps : (f : Stm → List Text) → ((s : Stm) (l : Lettings) (g : Names Ty) → f (put_stm s l g) ≡ f s)
    → (S : List Stm) (l : Lettings) (g : Names Ty) → append_all (map f (put_all S l g)) ≡ append_all (map f S)
put-keeps f h [] l g = refl
put-keeps f h (s ∷ ss) l g =
    ap (λ xs. xs ++ append_all (map f (put_all ss (lettings_after (put_stm s l g) l) (types_after (put_stm s l g) g)))) (h s l g)
    ∙ ap (λ xs. f s ++ xs) (put-keeps f h ss (lettings_after (put_stm s l g) l) (types_after (put_stm s l g) g))

-- So does resolving.
resolve-keeps : (f : Stm → List Text) → ((s : Stm) (g : Names Ty) → f (resolve_stm s g) ≡ f s)
    → (S : List Stm) (g : Names Ty) → append_all (map f (resolve_all S g)) ≡ append_all (map f S)
resolve-keeps f h [] g = refl
resolve-keeps f h (s ∷ ss) g =
    ap (λ xs. xs ++ append_all (map f (resolve_all ss (types_after s g)))) (h s g) ∙ ap (λ xs. f s ++ xs) (resolve-keeps f h ss (types_after s g))

-- What is read of prepared statements is what is read of them before.
prepared-keeps : (f : Stm → List Text) → ((s : Stm) (l : Lettings) (g : Names Ty) → f (put_stm s l g) ≡ f s)
    → ((s : Stm) (g : Names Ty) → f (resolve_stm s g) ≡ f s)
    → (S : List Stm) → append_all (map f (prepared S)) ≡ append_all (map f S)
prepared-keeps f h k S = resolve-keeps f k (put_all S no_lettings []) [] ∙ put-keeps f h S no_lettings []

given_of-put : (s : Stm) (l : Lettings) (g : Names Ty) → given_of (put_stm s l g) ≡ given_of s
given_of-put (given x d) l g = refl
given_of-put (given_enum t) l g = refl
given_of-put s l g = refl

given_of-resolve : (s : Stm) (g : Names Ty) → given_of (resolve_stm s g) ≡ given_of s
given_of-resolve (given x d) g = refl
given_of-resolve (given_enum t) g = refl
given_of-resolve s g = refl

given_enum_of-put : (s : Stm) (l : Lettings) (g : Names Ty) → given_enum_of (put_stm s l g) ≡ given_enum_of s
given_enum_of-put (given_enum t) l g = refl
given_enum_of-put s l g = refl

given_enum_of-resolve : (s : Stm) (g : Names Ty) → given_enum_of (resolve_stm s g) ≡ given_enum_of s
given_enum_of-resolve (given_enum t) g = refl
given_enum_of-resolve s g = refl

find_of-put : (s : Stm) (l : Lettings) (g : Names Ty) → find_of (put_stm s l g) ≡ find_of s
find_of-put (find x d) l g = refl
find_of-put s l g = refl

find_of-resolve : (s : Stm) (g : Names Ty) → find_of (resolve_stm s g) ≡ find_of s
find_of-resolve (find x d) g = refl
find_of-resolve s g = refl

declares-put : (s : Stm) (l : Lettings) (g : Names Ty) → declares (put_stm s l g) ≡ declares s
declares-put (given x d) l g = refl
declares-put (given_enum t) l g = refl
declares-put (let_ex x e) l g = refl
declares-put (let_dom x d) l g = refl
declares-put (let_enum t ns) l g = refl
declares-put (let_unnamed t e) l g = refl
declares-put (find x d) l g = refl
declares-put s l g = refl

declares-resolve : (s : Stm) (g : Names Ty) → declares (resolve_stm s g) ≡ declares s
declares-resolve (given x d) g = refl
declares-resolve (given_enum t) g = refl
declares-resolve (let_ex x e) g = refl
declares-resolve (let_dom x d) g = refl
declares-resolve (let_enum t ns) g = refl
declares-resolve (let_unnamed t e) g = refl
declares-resolve (find x d) g = refl
declares-resolve s g = refl

-- The givens stay.
givens-prepared : (S : List Stm) → givens (prepared S) ≡ givens S
givens-prepared = prepared-keeps given_of given_of-put given_of-resolve

-- The given types stay.
given_enums-prepared : (S : List Stm) → given_enums (prepared S) ≡ given_enums S
given_enums-prepared = prepared-keeps given_enum_of given_enum_of-put given_enum_of-resolve

-- The finds stay.
finds-prepared : (S : List Stm) → finds (prepared S) ≡ finds S
finds-prepared = prepared-keeps find_of find_of-put find_of-resolve

-- All declared names stay.
all_declared-prepared : (S : List Stm) → all_declared (prepared S) ≡ all_declared S
all_declared-prepared = prepared-keeps declares declares-put declares-resolve

-- ---- the verdict on a parameter

-- The verdict, where these names are given and declared.
abbrev param_verdict_by : List Text → List Text → List Text → List Placed → Assignment → params.ParamVerdict
param_verdict_by gs es ds ls p =
    let us : Names ℕ = unnamed_sizes ls in
    elim (first_missing gs p) [
      | Some x ↦ missing_given x
      | None ↦ elim (or_else (first_extra_type gs es us p.types [] (ds ++ names_of_sizes us)) (first_extra_value gs p.vals (keys p.types))) [
        | Some x ↦ extra_name x
        | None ↦ first_verdict p ls
      ]
    ]

-- Over prepared statements it is the verdict on the specification.
pub param_verdict-prepared : (S : List Stm) (p : Assignment) → param_verdict_over (prepared S) p ≡ param_verdict S p
param_verdict-prepared S p =
    let ls : List Placed = placed S p nothing_given in
    ap (λ gs. param_verdict_by gs (given_enums (prepared S)) (all_declared (prepared S)) ls p) (givens-prepared S)
    ∙ ap (λ es. param_verdict_by (givens S) es (all_declared (prepared S)) ls p) (given_enums-prepared S)
    ∙ ap (λ ds. param_verdict_by (givens S) (given_enums S) ds ls p) (all_declared-prepared S)

-- So it is as it is told.
pub param_told : (T : List Stm) (p : Assignment) (v : params.ParamVerdict) → v ≡ cut_param (param_verdict_over T p)
    → (S : List Stm) → T ≡ prepared S → v ≡ cut_param (param_verdict S p)
param_told T p v h S e = h ∙ ap (λ R. cut_param (param_verdict_over R p)) e ∙ ap cut_param (param_verdict-prepared S p)

-- A number outside 64 bits is one of the specification.
pub param_large : (T : List Stm) (p : Assignment) → has_large_declared (places T p nothing_given) ≡ true
    → (S : List Stm) → T ≡ prepared S → parameter_is_large S p ≡ true
param_large T p h S e = sym (ap (λ R. has_large_declared (places R p nothing_given)) e) ∙ h

-- ---- the verdict on a solution

-- The verdict, kind after kind.
abbrev kind_after_kind : Option Placed → Option Placed → Option Placed → solutions.Verdict
kind_after_kind (Some l) c o = not_in_domain (name_of_find l.stm)
kind_after_kind None (Some l) o = false_constraint l.number
kind_after_kind None None (Some l) = no_objective
kind_after_kind None None None = valid

kinds_agree : (m c o : Option Placed) → verdict_of_kinds m (or_else None (option_map (λ l. l.number) c)) (false || is_some o) ≡ kind_after_kind m c o
kinds_agree (Some l) c o = refl
kinds_agree None (Some l) o = refl
kinds_agree None None (Some l) = refl
kinds_agree None None None = refl

-- The same as the definition asks.
abbrev in_turn : Option Placed → Option Placed → Option Placed → solutions.Verdict
in_turn m c o =
    elim m [
      | Some l ↦ not_in_domain (name_of_find l.stm)
      | None ↦ elim c [ Some l ↦ false_constraint l.number | None ↦ elim o [ Some l ↦ no_objective | None ↦ valid ] ]
    ]

kinds_in_turn : (m c o : Option Placed) → kind_after_kind m c o ≡ in_turn m c o
kinds_in_turn (Some l) c o = refl
kinds_in_turn None (Some l) o = refl
kinds_in_turn None None (Some l) = refl
kinds_in_turn None None None = refl

-- What is left to say behind the names, in one pass.
values-verdict : (a : Assignment) (ls : List Placed)
    → values_verdict None false a ls ≡ kind_after_kind (first_failing (find_is_member a) ls) (first_failing constraint_holds ls) (first_failing objective_has_value ls)
values-verdict a ls = kinds_agree (first_failing (find_is_member a) ls) (first_failing constraint_holds ls) (first_failing objective_has_value ls)

-- The verdict behind the names.
abbrev behind_names : List Text → List Placed → Assignment → solutions.Verdict → solutions.Verdict
behind_names fs ls a v =
    elim (first_missing fs a) [
      | Some x ↦ missing_find x
      | None ↦ elim (or_else (first_extra_list fs (unnamed_sizes ls) a.types []) (first_extra_value fs a.vals (keys a.types))) [
        | Some x ↦ extra_find x
        | None ↦ v
      ]
    ]

-- Over prepared statements it is the verdict on the specification.
pub verdict-prepared : (S : List Stm) (p a : Assignment) → verdict_over (prepared S) p a ≡ verdict S p a
verdict-prepared S p a =
    let ls : List Placed = placed S p a in
    ap (λ fs. behind_names fs ls a (values_verdict None false a ls)) (finds-prepared S)
    ∙ ap (behind_names (finds S) ls a) (values-verdict a ls)
    ∙ ap (behind_names (finds S) ls a) (kinds_in_turn (first_failing (find_is_member a) ls) (first_failing constraint_holds ls) (first_failing objective_has_value ls))

-- So it is as it is told.
pub verdict_told : (T : List Stm) (p a : Assignment) (v : solutions.Verdict) → v ≡ cut (verdict_over T p a)
    → (S : List Stm) → T ≡ prepared S → v ≡ cut (verdict S p a)
verdict_told T p a v h S e = h ∙ ap (λ R. cut (verdict_over R p a)) e ∙ ap cut (verdict-prepared S p a)

-- A number outside 64 bits is one of the specification.
pub solution_large : (T : List Stm) (p a : Assignment) → has_large (places T p a) ≡ true
    → (S : List Stm) → T ≡ prepared S → solution_is_large S p a ≡ true
solution_large T p a h S e = sym (ap (λ R. has_large (places R p a)) e) ∙ h
