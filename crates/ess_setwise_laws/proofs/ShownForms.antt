-- Single cells and views of nested sets: what they mean, use and spell is the same wherever they stand.
use Rattle.std.proofs.Common.{◌≡◌, refl, sym, ap, ◌∙◌, subst, ℕ, Bool, true, false, ◌||◌, List, [], ◌∷◌, ℤ, Option, Some}
use Rattle.std.specs.Prelude.{IsTrue, is_some}
use Rattle.std.specs.List.{list_all}
use Rattle.ess_semantics.specs.Values.{Text, Value, Values, number as number_value, truth as truth_value, node, to_list, itself, a_set}
use Rattle.ess_semantics.specs.Names.{Names}
use Rattle.ess_semantics.specs.Collections.{rises}
use Rattle.ess_semantics.specs.Tables.{Table}
use Rattle.ess_semantics.specs.Types.{Ty, bool_ty, int_ty, compound1, type_of_dom}
use Rattle.ess_semantics.specs.TypeMembers.{is_of_type}
use Rattle.ess_semantics.specs.Trees.{Mark, Ex, Exs, no_exs, Dom, set_dom}
use Rattle.ess_semantics.specs.Substitution.{NamesAre, NamesAreExs, NamesAreDom}
use Rattle.ess_semantics.specs.Scoped.{Scoped}
use Rattle.ess_semantics.specs.Contexts.{Each}
use Rattle.ess_semantics.specs.Meaning.{Env, TypeEntry, meaning, tables_in, indices, seen_in}
use Rattle.ess_semantics.specs.Meets.{Meets, MeetsAll, MeetsDom, tidy_in}
use Rattle.ess_semantics.proofs.Tests.{and-left, and-right}
use Rattle.ess_types_laws.specs.ProperDomains.{is_proper}
use Rattle.ess_view_types_laws.specs.ViewTypes.{ViewHasValue}
use Rattle.ess_view_types_laws.proofs.ViewTypes.{views-have-their-type}
use Rattle.ess_rules_laws.proofs.Simulation.{Vals, E}
use Rattle.ess_values_along_laws.specs.Valued.{Valued, AllValued, DomValued}
use Rattle.ess_guard_laws.specs.Supplied.{Unless}
use Rattle.ess_refine_laws.specs.SpellingEnds.{numbers_of_tree}
use Rattle.ess_nested_laws.proofs.NestedForms.{Sizes, no_sizes, one_size, WrittenAtom, written_truths, written_numbers, NestedSet, of_atoms, of_sets, nested-form}
use Rattle.ess_nested_laws.proofs.NestedDenoted.{nested-denoted}
use Rattle.ess_seen_laws.specs.Seen.{Kind, scalars, sets_of, kind_of}
use Rattle.ess_setwise_laws.specs.Laws.{HasMark, a_truth, a_number}
use Rattle.ess_setwise_laws.proofs.SetwiseTrees.{Form, a_cell, a_view}

-- ---- domains of nested sets

sizes-names : {ms : List Mark} {es : Exs} (u b : Text → Bool) → Sizes ms es → NamesAreExs u b es
sizes-names u b no_sizes = tt
sizes-names u b (one_size q s) = (tt, sizes-names u b s)

atom-names : {d : Dom} (u b : Text → Bool) → WrittenAtom d → NamesAreDom u b d
atom-names u b written_truths = tt
atom-names u b written_numbers = (tt, (tt, tt))

-- No name is in one.
pub nested-names : {d : Dom} (u b : Text → Bool) → NestedSet d → NamesAreDom u b d
nested-names u b (of_atoms s a) = (sizes-names u b s, atom-names u b a)
nested-names u b (of_sets s n) = (sizes-names u b s, nested-names u b n)

sizes-met : {ms : List Mark} {es : Exs} (env : Env) → Sizes ms es → MeetsAll false es env
sizes-met env no_sizes = tt
sizes-met env (one_size q s) = (tt, sizes-met env s)

atom-met : {d : Dom} (env : Env) → WrittenAtom d → MeetsDom d env
atom-met env written_truths = tt
atom-met env written_numbers = (tt, (tt, tt))

-- No structure is in one.
pub nested-met : {d : Dom} (env : Env) → NestedSet d → MeetsDom d env
nested-met env (of_atoms s a) = (sizes-met env s, atom-met env a)
nested-met env (of_sets s n) = (sizes-met env s, nested-met env n)

sizes-valued : {ms : List Mark} {es : Exs} (env : Env) → Sizes ms es → AllValued false false es env
sizes-valued env no_sizes = tt
sizes-valued env (one_size q s) = (tt, sizes-valued env s)

atom-valued : {d : Dom} (env : Env) → WrittenAtom d → DomValued d env
atom-valued env written_truths = tt
atom-valued env written_numbers = (tt, (tt, tt))

-- Its numbers have values.
pub nested-valued : {d : Dom} (env : Env) → NestedSet d → DomValued d env
nested-valued env (of_atoms s a) = (sizes-valued env s, atom-valued env a)
nested-valued env (of_sets s n) = (sizes-valued env s, nested-valued env n)

atom-proper : {d : Dom} → WrittenAtom d → is_proper d ≡ true
atom-proper written_truths = refl
atom-proper written_numbers = refl

-- Each index domain in one is an atom: there is none.
nested-proper : {d : Dom} → NestedSet d → is_proper d ≡ true
nested-proper (of_atoms s a) = atom-proper a
nested-proper (of_sets s n) = nested-proper n

-- ---- values of kinds

-- A set, each member of which has the property.
pub record IsSetOf (P : Value → Type 0) (v : Value) : Type 0 where
  pub members : Values
  pub is : v ≡ node a_set members
  pub each : Each (to_list members) P

-- The value is of this kind.
abbrev pub HasKind : Kind → Value → Type 0
HasKind (scalars m) v = HasMark m v
HasKind (sets_of k) v = IsSetOf (HasKind k) v

-- What has the type of truth values is one.
pub truth-typed : (env : Env) (v : Value) → IsTrue (is_of_type bool_ty env v) → HasMark true v
truth-typed env (truth_value b) h = a_truth
truth-typed env v h = cc

-- What has the type of numbers is one.
pub number-typed : (env : Env) (v : Value) → IsTrue (is_of_type int_ty env v) → HasMark false v
number-typed env (number_value n) h = a_number
number-typed env v h = cc

each-typed : (t : Ty) (env : Env) (vs : List Value) (P : Value → Type 0) → ((v : Value) → IsTrue (is_of_type t env v) → P v) →
    list_all (is_of_type t env) vs ≡ true → Each vs P
each-typed t env [] P f h = tt
each-typed t env (v ∷ vs) P f h = (
  f v (and-left (is_of_type t env v) (list_all (is_of_type t env) vs) h),
  each-typed t env vs P f (and-right (is_of_type t env v) (list_all (is_of_type t env) vs) h),
)

set-typed : (t : Ty) (env : Env) (v : Value) (P : Value → Type 0) → ((w : Value) → IsTrue (is_of_type t env w) → P w) →
    IsTrue (is_of_type (compound1 a_set t) env v) → IsSetOf P v
set-typed t env (node a_set vs) P f h =
    record { members = vs; is = refl; each = each-typed t env (to_list vs) P f (and-right (rises itself (to_list vs)) _ h) }
set-typed t env v P f h = cc

atom-kind : {d : Dom} (env : Env) (v : Value) → WrittenAtom d → IsTrue (is_of_type (type_of_dom d) env v) → HasKind (kind_of d) v
atom-kind env v written_truths h = truth-typed env v h
atom-kind env v written_numbers h = number-typed env v h

-- What has the type of such a domain has its kind.
pub nested-kind : {d : Dom} (env : Env) (v : Value) → NestedSet d → IsTrue (is_of_type (type_of_dom d) env v) → HasKind (kind_of d) v
nested-kind env v (of_atoms {d = d} s a) h =
    set-typed (type_of_dom d) env v (HasKind (kind_of d)) (λ w k. atom-kind env w a k) h
nested-kind env v (of_sets {d = d} s n) h =
    set-typed (type_of_dom d) env v (HasKind (kind_of d)) (λ w k. nested-kind env w n k) h

-- ---- cells and views

-- What holds holds wherever it is asked for.
pub unless-any : (b : Bool) (P : Type 0) → P → Unless b P
unless-any true P p = tt
unless-any false P p = p

module _ (cells : Text → Option (Bool × List ℕ)) where
  -- No name is in one.
  pub form-names : {e : Ex} {k : Kind} (u b : Text → Bool) → Form cells e k → NamesAre u b e
  form-names u b (a_cell q) = tt
  form-names u b (a_view {ms = ms} {es = es} {d = d} n f k) = (nested-names u b (nested-form 250 (set_dom ms es d) n), tt)

  -- So it is in scope everywhere.
  pub form-scoped : {e : Ex} {k : Kind} (z s o : Text → Bool) → Form cells e k → Scoped z s o e
  form-scoped z s o (a_cell q) = tt
  form-scoped z s o (a_view {ms = ms} {es = es} {d = d} n f k) =
      (nested-names z (λ a. true) (nested-form 250 (set_dom ms es d) n), tt)

  -- It means the same whatever names are around.
  pub form-still : {e : Ex} {k : Kind} (pl : Bool) (ts : List TypeEntry) (cs : Names Table) (g h : Vals) → Form cells e k →
      meaning e (E pl ts cs g) ≡ meaning e (E pl ts cs h)
  form-still pl ts cs g h (a_cell q) = refl
  form-still pl ts cs g h (a_view {p = p} {ms = ms} {es = es} {d = d} {ns = ns} n f k) =
      let s : NestedSet (set_dom ms es d) = nested-form 250 (set_dom ms es d) n in
      ap (λ o. seen_in p o (tables_in cs ns) (indices []))
      (nested-denoted s (E pl ts cs g) ∙ sym (nested-denoted s (E pl ts cs h)))

  -- Its structure is met whatever names are around.
  pub form-met : {e : Ex} {k : Kind} (pl : Bool) (ts : List TypeEntry) (cs : Names Table) (g h : Vals) → Form cells e k →
      Meets e (E pl ts cs g) → Meets e (E pl ts cs h)
  form-met pl ts cs g h (a_cell q) m = tt
  form-met pl ts cs g h (a_view {p = p} {ms = ms} {es = es} {d = d} {ns = ns} n f k) m =
      let s : NestedSet (set_dom ms es d) = nested-form 250 (set_dom ms es d) n in (
        subst (λ o. IsTrue (tidy_in p o (tables_in cs ns) (indices [])))
            (nested-denoted s (E pl ts cs g) ∙ sym (nested-denoted s (E pl ts cs h))) m.0,
        nested-met (E pl ts cs h) s,
        tt,
      )

  -- A cell has no structure.
  pub cell-met : {e : Ex} {m : Bool} → Form cells e (scalars m) → (env : Env) → Meets e env
  cell-met (a_cell q) env = tt

  -- It spells no number.
  pub cell-spelled : {e : Ex} {m : Bool} → Form cells e (scalars m) → (q : ℤ → Bool) → list_all q (numbers_of_tree e) ≡ true
  cell-spelled (a_cell h) q = refl

  -- Where it has a value, all of it has.
  pub form-valued : {e : Ex} {k : Kind} (env : Env) (w : Bool) → Form cells e k → IsTrue (is_some (meaning e env)) → Valued w e env
  form-valued env w (a_cell {m = m} q) h = (unless-any (m || w) _ h, tt)
  form-valued env w (a_view {ms = ms} {es = es} {d = d} n f k) h = (h, nested-valued env (nested-form 250 (set_dom ms es d) n), tt)

  -- A view whose structure is met has a value of its kind.
  pub view-value : {e : Ex} {k : Kind} (env : Env) → Form cells e (sets_of k) → Meets e env →
      (v : Value) × HasKind (sets_of k) v × (meaning e env ≡ Some v)
  view-value env (a_view {p = p} {ms = ms} {es = es} {d = d} {ns = ns} n f k) m =
      let s : NestedSet (set_dom ms es d) = nested-form 250 (set_dom ms es d) n in
      let v : ViewHasValue p (set_dom ms es d) ns no_exs env =
      views-have-their-type.has_value p (set_dom ms es d) ns no_exs env (nested-proper s) m in
      (v.value, nested-kind env v.value s v.typed, v.is_value)
