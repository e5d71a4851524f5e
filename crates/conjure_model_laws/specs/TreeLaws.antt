-- Laws of the trees on the way from a constraint to its rule, each stated at a function that does nothing.
use Rattle.std.specs.Prelude.{◌≡◌, ℕ, suc, ◌+◌, ◌<◌, ◌≤◌, ◌^◌, Bool, true, false, List, [], ◌++◌, length, Some}
use Rattle.ess_semantics.specs.Values.{Text, Value}
use Rattle.ess_semantics.specs.Order.{same_text}
use Rattle.ess_semantics.specs.Names.{Names, is_among}
use Rattle.ess_semantics.specs.Trees.{Repr, Ex, Dom, Stm}
use Rattle.ess_semantics.specs.Types.{Ty}
use Rattle.ess_semantics.specs.Tables.{Table}
use Rattle.ess_semantics.specs.TableNames.{Named}
use Rattle.ess_semantics.specs.Positions.{with_positions}
use Rattle.ess_semantics.specs.Assignments.{Assignment, value_of}
use Rattle.ess_semantics.specs.Plans.{Options, Side, givens_side, finds_side, value_plan, plans, plan_domain}
use Rattle.ess_semantics.specs.ModelTrees.{Model}
use Rattle.ess_semantics.specs.Substitution.{NamesAre, NamesAreDom}
use Rattle.ess_semantics.specs.Meaning.{Env, meaning, domain_of}
use Rattle.ess_semantics.specs.FreeNames.{FreeNamesAre}
use Rattle.ess_semantics.specs.Kept.{Kept}
use Rattle.ess_semantics.specs.Meets.{Meets, MeetsDom}
use Rattle.ess_semantics.specs.Typed.{Typed}
use Rattle.ess_semantics.specs.Refined.{is_refined}
use Rattle.conjure_laws.specs.PlainTrees.{Plain, PlainDom}
use Rattle.conjure_laws.specs.Members.{In}
use Rattle.conjure_laws.specs.Premises.{Instance, here}
use Rattle.conjure_laws.specs.ModelPremises.{Base, Canonical}
use Rattle.conjure_laws.specs.Views.{tables_with}
use Rattle.conjure_model_laws.specs.ToldApart.{reserved, is_unreserved, told, told_dom, told_apart}
use Rattle.conjure_model_laws.specs.Shown.{Shows, shown, shown_dom, view_by}
use Rattle.conjure_model_laws.specs.StandsFor.{StandsFor, is_unshown, IsReady, DomIsReady}
use Rattle.conjure_model_laws.specs.Printed.{printed_name, printed, binders}

-- A tree of a specification with its bound names told apart means what it meant, in every env, and is kept. It may use names, which it
-- doesn't bind, that aren't reserved ones from the k-th on: those before it, and those of specifications. What it binds is free, also
-- where one bound name hides another. Numbers of names go up to 2 ^ 64.
pub record NamesToldApart : Type 0 where
  pub means : (k : ℕ) (u : Text → Bool) (e : Ex) → Plain e → FreeNamesAre u e → ((j : ℕ) → k ≤ j → u (reserved j) ≡ false) →
      (told e [] k).1 ≤ 2 ^ 64 → (env : Env) → meaning (told_apart k e) env ≡ meaning e env
  pub keeps : (k : ℕ) (u : Text → Bool) (e : Ex) → Plain e → FreeNamesAre u e → ((j : ℕ) → k ≤ j → u (reserved j) ≡ false) →
      (told e [] k).1 ≤ 2 ^ 64 → (g : Names Ty) → Kept g e (told_apart k e)
  pub plain : (k : ℕ) (e : Ex) → Plain e → Plain (told_apart k e)
  pub of_specifications : (k : ℕ) (e : Ex) → Plain e → FreeNamesAre is_unreserved e → (told e [] k).1 ≤ 2 ^ 64 → (env : Env) →
      meaning (told_apart k e) env ≡ meaning e env

-- A refined tree with printed names means what it meant, in every env. It may use names, which it doesn't bind, that aren't printed ones:
-- those that are taken, or none. Two printed names differ, and none is taken. So rules lead from a tree to what is printed. Numbers of
-- names go up to 2 ^ 64.
pub record NamesPrinted : Type 0 where
  pub means : (taken : List Text) (u : Text → Bool) (e : Ex) → is_refined e ≡ true → FreeNamesAre u e →
      ((j : ℕ) → j < binders e → u (printed_name taken j) ≡ false) → binders e + length taken < 2 ^ 64 → (env : Env) →
      meaning (printed taken e []) env ≡ meaning e env
  pub of_taken : (taken : List Text) (e : Ex) → is_refined e ≡ true → FreeNamesAre (is_among taken) e →
      binders e + length taken < 2 ^ 64 → (env : Env) → meaning (printed taken e []) env ≡ meaning e env
  pub of_closed : (taken : List Text) (e : Ex) → is_refined e ≡ true → FreeNamesAre (λ a. false) e →
      binders e + length taken < 2 ^ 64 → (env : Env) → meaning (printed taken e []) env ≡ meaning e env
  pub of_kept : (taken : List Text) (g : Names Ty) (old e : Ex) → Kept g old e → is_refined e ≡ true → FreeNamesAre (λ a. false) e →
      binders e + length taken < 2 ^ 64 → (env : Env) → Typed g env → Meets old env →
      meaning (printed taken e []) env ≡ meaning old env
  pub differ : (taken : List Text) (i j : ℕ) → i < j → suc j + length taken < 2 ^ 64 →
      same_text (printed_name taken j) (printed_name taken i) ≡ false
  pub free : (taken : List Text) (k : ℕ) → suc k + length taken < 2 ^ 64 → is_among taken (printed_name taken k) ≡ false

-- What is shown of a tree of a specification means over tables what the tree means over values, and its structures are met, where what is
-- shown stands for the values. The tree binds no name in whose place something is shown.
pub record ShownStands : Type 0 where
  pub means : (sh : Shows) (n : Text → Bool) (env there : Env) → StandsFor sh n env there → (e : Ex) → Plain e →
      NamesAre n (is_unshown sh) e → meaning (shown sh e) there ≡ meaning e env
  pub meets : (sh : Shows) (n : Text → Bool) (env there : Env) → StandsFor sh n env there → (e : Ex) → Plain e → Meets (shown sh e) there
  pub domains : (sh : Shows) (n : Text → Bool) (env there : Env) → StandsFor sh n env there → (d : Dom) → PlainDom d →
      NamesAreDom n (is_unshown sh) d → domain_of (shown_dom sh d) there ≡ domain_of d env

-- A tree of a specification, told apart and shown, means over tables what it means over values, and its structures are met. Where rules
-- that keep lead from there to a refined tree without free names, what is printed for that one means it too.
pub record WrittenTreesStand : Type 0 where
  pub means : (sh : Shows) (n : Text → Bool) (env there : Env) (k : ℕ) (u : Text → Bool) (e : Ex) → IsReady sh n env there k u e →
      meaning (shown sh (told_apart k e)) there ≡ meaning e env
  pub meets : (sh : Shows) (n : Text → Bool) (env there : Env) (k : ℕ) (u : Text → Bool) (e : Ex) → IsReady sh n env there k u e →
      Meets (shown sh (told_apart k e)) there
  pub written : (sh : Shows) (n : Text → Bool) (env there : Env) (k : ℕ) (u : Text → Bool) (e : Ex) → IsReady sh n env there k u e →
      (taken : List Text) (g : Names Ty) (last : Ex) → Kept g (shown sh (told_apart k e)) last → is_refined last ≡ true →
      FreeNamesAre (λ a. false) last → binders last + length taken < 2 ^ 64 → Typed g there →
      meaning (printed taken last []) there ≡ meaning e env

-- A declared domain, told apart and shown, is over tables what it is over values, and its structures are met.
pub record WrittenDomainsStand : Type 0 where
  pub domains : (sh : Shows) (n : Text → Bool) (env there : Env) (k : ℕ) (u : Text → Bool) (d : Dom) → DomIsReady sh n env there k u d →
      domain_of (shown_dom sh (told_dom d [] k).0) there ≡ domain_of d env
  pub meets : (sh : Shows) (n : Text → Bool) (env there : Env) (k : ℕ) (u : Text → Bool) (d : Dom) → DomIsReady sh n env there k u d →
      MeetsDom (shown_dom sh (told_dom d [] k).0) there

-- Where the value of a given or find stands.
abbrev pub side_of_values : Side → Assignment → Assignment → Assignment
side_of_values givens_side p a = p
side_of_values finds_side p a = a

-- Over the given tables of a parameter and the canonical tables of members, the view of a given or find by each of its plans has its value
-- with positions, whatever values names have there, and its structures are met. Its domain over tables is to be that of the plan. So it
-- is of a scalar, whose view is a cell.
abbrev pub ViewsHaveValues : Type 0
ViewsHaveValues =
    (S : List Stm) (o : Options) (M : Model) → Base S o M → (p a : Assignment) (q c : Names Table) → Instance S o p q →
    Canonical S o p a c →
    (f : Side) (x : Text) (r : Repr) (d : Dom) (ns : List Named) → In (value_plan f x r d ns) (plans S o) → (b : Dom) (h : Names Value) →
    domain_of b (tables_with S p (q ++ c) h) ≡ plan_domain d (here S p) → MeetsDom b (tables_with S p (q ++ c) h) →
    (v : Value) × (value_of (side_of_values f p a) x ≡ Some v) ×
    ((meaning (view_by b (value_plan f x r d ns)) (tables_with S p (q ++ c) h) ≡ Some (with_positions v)) ×
    Meets (view_by b (value_plan f x r d ns)) (tables_with S p (q ++ c) h))
