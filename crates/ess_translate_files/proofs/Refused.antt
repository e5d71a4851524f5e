-- Refusals of the parts are refusals of a translation.
use Rattle.std.proofs.Common.{◌≡◌, refl, sym, ap, ◌∙◌, subst, ℕ, Bool, true, false, ◌||◌, List, [], Option, Some, None, option_map, inl}
use Rattle.std.proofs.Common.{inr}
use Rattle.std.specs.Prelude.{Err}
use Rattle.std.specs.declared.result.Result.{Result}
use Rattle.std.specs.List.{list_any}
use Rattle.ess_semantics.specs.Values.{Text}
use Rattle.ess_semantics.specs.Trees.{Stm}
use Rattle.ess_semantics.specs.Names.{Names}
use Rattle.ess_semantics.specs.Tables.{Table}
use Rattle.ess_semantics.specs.Meaning.{Env}
use Rattle.ess_semantics.specs.Assignments.{Assignment, nothing_given, env_of}
use Rattle.ess_semantics.specs.ModelTrees.{Header, Model}
use Rattle.ess_semantics.specs.Plans.{Options, Plan, plans, given_tables}
use Rattle.ess_semantics.specs.LargeModels.{declares_large}
use Rattle.ess_semantics.specs.LargeSpecifications.{parameter_is_large, plan_is_large, tables_are_large}
use Rattle.ess_semantics.proofs.Tests.{or-yes}
use Rattle.ess_semantics.specs.Parameters.{Param, param_verdict}
use Rattle.ess_semantics.proofs.Verdicts.{param_verdict-Param}
use Rattle.ess_domains_cells.specs.Kept.{kept}
use Rattle.ess_eval.specs.declared.calls.EvalNo.{EvalNo}
use Rattle.ess_translate.specs.declared.refusal.TransNo.{TransNo}
use Rattle.ess_translate.specs.Answers.{IsParameter, IsNoParameter}
use Rattle.ess_translate_given.specs.KeptCounts.{kept_beside}
use Rattle.ess_translate_files.specs.Refusals.{eval_no}
use Rattle.ess_translate_files.specs.GivenFiles.{IsLargeFor, HasNoTables, IsNotGiven}

left-so : (a b : Bool) → a ≡ true → a || b ≡ true
left-so true b e = refl
left-so false b e = cc

right-so : (a b : Bool) → b ≡ true → a || b ≡ true
right-so a b e = ap (λ c. a || c) e ∙ or-yes a

-- A number outside 64 bits in what is asked of the parameter is one in what its tables are asked for.
pub parameter_large : (S : List Stm) (o : Options) (p : Assignment) → parameter_is_large S p ≡ true → tables_are_large S o p ≡ true
parameter_large S o p e = left-so (parameter_is_large S p) (list_any (plan_is_large (env_of S p nothing_given)) (plans S o)) e

-- So is one in the domain of a plan.
pub plan_large : (S : List Stm) (o : Options) (p : Assignment) (env : Env) (Ps : List Plan) → env ≡ env_of S p nothing_given →
    Ps ≡ plans S o → list_any (plan_is_large env) Ps ≡ true → tables_are_large S o p ≡ true
plan_large S o p env Ps a b e =
    right-so (parameter_is_large S p) (list_any (plan_is_large (env_of S p nothing_given)) (plans S o))
    (ap (list_any (plan_is_large (env_of S p nothing_given))) (sym b) ∙ ap (λ v. list_any (plan_is_large v) Ps) (sym a) ∙ e)

-- A text that is no parameter gives no tables.
pub no_parameter : (H : Header) (E : Model) (text : Text) (why : TransNo) → IsNoParameter H.statements text why → IsNotGiven H E text why
no_parameter H E text TransNo.HeaderBad h = absurd h
no_parameter H E text (TransNo.Read file why) h = h
no_parameter H E text (TransNo.Typing why) h = h
no_parameter H E text (TransNo.InvalidParameter why) h = h
no_parameter H E text (TransNo.TooManyCells x k) h = absurd h
no_parameter H E text (TransNo.Unsatisfied v) h = h
no_parameter H E text (TransNo.NotRepresented x) h = h
no_parameter H E text TransNo.Big h = (h.0, h.1, inl (parameter_large H.statements H.reprs _ h.2))
no_parameter H E text TransNo.NoMemory h = h

-- Nor does one that stands for a parameter without tables.
pub no_tables : (H : Header) (E : Model) (text : Text) (F : List Stm) (p : Assignment) (why : TransNo) →
    IsParameter H.statements text F p → HasNoTables H E p why → IsNotGiven H E text why
no_tables H E text F p TransNo.HeaderBad i h = (F, p, i, h)
no_tables H E text F p (TransNo.Read file why) i h = absurd h
no_tables H E text F p (TransNo.Typing why) i h = absurd h
no_tables H E text F p (TransNo.InvalidParameter why) i h = absurd h
no_tables H E text F p (TransNo.TooManyCells x k) i h = (F, p, i, h)
no_tables H E text F p (TransNo.Unsatisfied v) i h = absurd h
no_tables H E text F p (TransNo.NotRepresented x) i h = absurd h
no_tables H E text F p TransNo.Big i h = (F, i.spells, subst (IsLargeFor H E) i.stands h)
no_tables H E text F p TransNo.NoMemory i h = tt

-- Why the env of a parameter isn't there.
pub env_refused : {A : Type 0} (H : Header) (E : Model) (p : Assignment) (r : Result A EvalNo) (why : EvalNo) → r ≡ Err why →
    (r ≡ Err EvalNo.Big → parameter_is_large H.statements p ≡ true) → HasNoTables H E p (eval_no why)
env_refused H E p r EvalNo.Big e f = inl (parameter_large H.statements H.reprs p (f e))
env_refused H E p r EvalNo.NoMemory e f = tt
env_refused H E p r EvalNo.Undefined e f = tt
env_refused H E p r (EvalNo.TooManyCells n) e f = tt

-- Why the domains of plans aren't there.
pub domains_refused : {A : Type 0} (H : Header) (E : Model) (env : Env) (Ps : List Plan) (r : Result A EvalNo)
    (why : EvalNo) → r ≡ Err why → (r ≡ Err EvalNo.Big → list_any (plan_is_large env) Ps ≡ true) →
    Ps ≡ plans H.statements H.reprs → (p : Assignment) →
    env ≡ env_of H.statements p nothing_given → HasNoTables H E p (eval_no why)
domains_refused H E env Ps r EvalNo.Big e f g p h = inl (plan_large H.statements H.reprs p env Ps h g (f e))
domains_refused H E env Ps r EvalNo.NoMemory e f g p h = tt
domains_refused H E env Ps r EvalNo.Undefined e f g p h = tt
domains_refused H E env Ps r (EvalNo.TooManyCells n) e f g p h = tt

-- The name and the number, where they are told.
abbrev told_name : Option (Text × ℕ) → Text
told_name None = []
told_name (Some x) = x.0

abbrev told_number : Option (Text × ℕ) → ℕ
told_number None = 0
told_number (Some x) = x.1

-- The name with the number.
abbrev told : ℕ → Text → Option (Text × ℕ)
told n x = Some (x, n)

named_again : (y x : Text) (n : ℕ) → y ≡ x → ◌≡◌ {A = Option (Text × ℕ)} (Some (y, n)) (Some (x, n))
named_again y x n e = ap (told n) e

-- A name with too many cells, whose number is kept.
pub too_many_kept : (m : Option (Text × ℕ)) (x : Text) (k : ℕ) → ◌≡◌ {A = Option (Text × ℕ)} (Some (x, k)) (option_map kept_beside m) →
    (n : ℕ) × (◌≡◌ {A = Option (Text × ℕ)} m (Some (x, n))) × (k ≡ kept n)
too_many_kept None x k e = cc
too_many_kept (Some (y, n)) x k e =
    let a : x ≡ y = ap told_name e in
    let b : k ≡ kept n = ap told_number e in
    (n, named_again y x n (sym a), b)

-- No name has too many.
pub none_too_many : (m : Option (Text × ℕ)) → ◌≡◌ {A = Option (Text × ℕ)} None (option_map kept_beside m) → m ≡ None
none_too_many None e = refl
none_too_many (Some y) e = cc

-- A number outside 64 bits in a domain that the model declares over given tables.
pub members_large : (H : Header) (E : Model) (p : Assignment) (q : Names Table) → given_tables H.statements H.reprs p ≡ Some q →
    declares_large E q ≡ true → HasNoTables H E p TransNo.Big
members_large H E p q e f = inr (q, e, f)

-- What fits is a parameter.
pub is_param : (S : List Stm) (text : Text) (F : List Stm) (p : Assignment) → IsParameter S text F p → Param S p
is_param S text F p h = param_verdict-Param S p h.fits
