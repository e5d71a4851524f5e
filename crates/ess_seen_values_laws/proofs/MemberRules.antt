-- A membership by a cell keeps trees over views of nested sets.
use Rattle.std.proofs.Common.{◌≡◌, refl, sym, ap, ◌∙◌, ℕ, Bool, true, false, ◌||◌, List, [], ◌∷◌, Option, Some, None}
use Rattle.std.specs.Prelude.{IsTrue, is_some}
use Rattle.std.specs.List.{list_all}
use Rattle.ess_semantics.specs.declared.words.Op2.{Op2}
use Rattle.ess_semantics.specs.declared.words.ReprKind.{ReprKind}
use Rattle.ess_semantics.specs.Values.{Text, Value, number as number_value, truth as truth_value, item, node}
use Rattle.ess_semantics.specs.Collections.{holds}
use Rattle.ess_semantics.specs.Order.{same}
use Rattle.ess_semantics.specs.Names.{Names}
use Rattle.ess_semantics.specs.Trees.{binary, Mark, repr, no_reprs, Ex, Exs, seen_ex, ex2, no_exs, more_exs, Dom, set_dom}
use Rattle.ess_semantics.specs.Types.{type_of_dom}
use Rattle.ess_semantics.specs.Domains.{member_list}
use Rattle.ess_semantics.specs.Membership.{member}
use Rattle.ess_semantics.specs.Tables.{code}
use Rattle.ess_semantics.specs.TypeMembers.{is_of}
use Rattle.ess_semantics.specs.Typed.{Typed}
use Rattle.ess_semantics.specs.Meaning.{Env, meaning, members_in}
use Rattle.ess_semantics.specs.Meets.{Meets}
use Rattle.ess_semantics.proofs.Orders.{same-equal}
use Rattle.ess_semantics.proofs.Tests.{and-left, and-right}
use Rattle.ess_nested_laws.proofs.NestedForms.{no-yes, WrittenAtom, written_truths, written_numbers, atom-form}
use Rattle.ess_seen_laws.proofs.ess_bare_laws.Scalars.{HasMark}
use Rattle.ess_rules_laws.specs.FunctionKeys.{IsTold}
use Rattle.ess_rules_laws.specs.OccurrenceViews.{member_by_cell}
use Rattle.ess_refine_laws.specs.AllRules.{Supply}
use Rattle.ess_values_along_laws.specs.Valued.{Valued}
use Rattle.ess_values_along_laws.proofs.ValuesAlong.{values-along}
use Rattle.ess_kind_values_laws.proofs.ess_values_views_laws.SetViewsKeepValues.{set-views-keep-values}
use Rattle.ess_kind_rules_laws.specs.KindRules.{member_at_a_cell, kind_rewrite}
use Rattle.ess_kinds_kept_laws.proofs.KindRulesKeep.{kind-rules-keep}
use Rattle.ess_kind_values_laws.proofs.ess_kind_steps_laws.JudgedSets.{AtomsThere, atoms-there}
use Rattle.ess_kind_values_laws.proofs.ess_kind_steps_laws.ToldAtoms.{Agreed, atom-told}
use Rattle.ess_seen_laws.specs.Seen.{Kind, scalars, sets_of, kind_of, Bound, bound_types, as_an_atom, by_occurrence, with_a_dummy, in_slots, with_a_marker, with_flags, SetTerm, view, drawn, combined, Seen, counted, two, within, set_within, compared}
use Rattle.ess_seen_values_laws.specs.Laws.{IsMet, StaysAlike}
use Rattle.ess_seen_values_laws.proofs.Marks.{seen-mark}
use Rattle.ess_seen_values_laws.proofs.SetViews.{judged}

module _ (cells : Text → Option (Bool × List ℕ)) where
  -- ---- membership

  -- A scalar in a set of scalars, or a set in a set of sets.
  data Asked (r : Names Bound) (a v : Ex) : Type 0 where
    of_scalar : {m : Bool} → Seen cells r a m → SetTerm cells r v (scalars m) → Asked r a v
    of_set : {k : Kind} → SetTerm cells r v (sets_of k) → Asked r a v

  asked-of : {r : Names Bound} {a v : Ex} {k : Bool} → Seen cells r (ex2 true Op2.Member a v) k → Asked r a v
  asked-of (within g t) = of_scalar g t
  asked-of (set_within g t) = of_set t
  asked-of (two w g h) = elim w [ ]
  asked-of (compared c g h) = elim c [ ]
  asked-of (counted c) = elim c [ ]

  -- Atoms are no sets.
  atom-no-set : {A : Type 0} {d : Dom} {k : Kind} → WrittenAtom d → kind_of d ≡ sets_of k → A
  atom-no-set written_truths q = cc
  atom-no-set written_numbers q = cc

  -- A value that is held is one of the list.
  held-member : (P : Value → Bool) (us : List Value) (v : Value) → list_all P us ≡ true → holds us v ≡ true → P v ≡ true
  held-member P [] v h k = absurd (no-yes k)
  held-member P (u ∷ us) v h k = go (same u v) refl k (λ q. held-member P us v (and-right (P u) (list_all P us) h) q)
    where
      go : (b : Bool) → same u v ≡ b → b || holds us v ≡ true → (holds us v ≡ true → P v ≡ true) → P v ≡ true
      go true q i r = ap P (sym (same-equal u v q)) ∙ and-left (P u) (list_all P us) h
      go false q i r = r i

  agreed : {d : Dom} → WrittenAtom d → Agreed (type_of_dom d) (type_of_dom d)
  agreed written_truths = refl
  agreed written_numbers = refl

  typed-so : {d : Dom} (m : Bool) (es : _) (v : Value) → WrittenAtom d → kind_of d ≡ scalars m → HasMark m (Some v) →
      IsTrue (is_of true es (type_of_dom d) v)
  typed-so true es (truth_value b) written_truths q h = refl
  typed-so true es (number_value n) written_truths q h = absurd h
  typed-so true es (item a n) written_truths q h = absurd h
  typed-so true es (node k vs) written_truths q h = absurd h
  typed-so false es v written_truths q h = cc
  typed-so false es (number_value n) written_numbers q h = refl
  typed-so false es (truth_value b) written_numbers q h = absurd h
  typed-so false es (item a n) written_numbers q h = absurd h
  typed-so false es (node k vs) written_numbers q h = absurd h
  typed-so true es v written_numbers q h = cc

  same-number : {A : Type 0} {x y : A} → x ∷ [] ≡ y ∷ [] → x ≡ y
  same-number q = cc

  yes : (b : Bool) → IsTrue b → b ≡ true
  yes true h = refl
  yes false h = h

  module _ {r : Names Bound} (env : Env) (i : Typed (bound_types r) env) (pos : IsTrue env.positions) (ms : List Mark) (es : Exs) (d : Dom)
      (n : Text) (js : Exs) (a : Ex) (m : Bool) where
    told : {k : Kind} → Seen cells r a m → Meets a env → IsTrue (is_some (meaning a env)) → k ≡ scalars m →
        SetTerm cells r (seen_ex (repr ReprKind.Occurrence no_reprs) (set_dom ms es d) (n ∷ []) js) k → IsTold (λ v. code v ∷ []) a d env
    told g me th e (view y f (by_occurrence l w u q) p) = go (meaning a env) refl th (seen-mark cells r env i g me)
      where
        c : AtomsThere d env
        c = atoms-there ms es d env (judged (repr ReprKind.Occurrence no_reprs) ms es d y f env)

        go : (o : Option Value) → meaning a env ≡ o → IsTrue (is_some o) → HasMark m o → IsTold (λ v. code v ∷ []) a d env
        go None j t h = cc
        go (Some v) j t h = record {
          value = v;
          members = member_list c.inner;
          is_value = j;
          are_members = ap members_in c.part ∙ c.listed;
          is_told = λ x k l. atom-told env.types d env c.inner c.is_atom_dom (yes env.positions pos) c.part (type_of_dom d)
              (agreed (atom-form d u)) x v (held-member (member c.inner) (member_list c.inner) x c.held k)
              (typed-so m env.types v (atom-form d u) e h) (same-number l);
        }

  -- By the cell of a set that is kept by which members occur; there is none of another.
  at-cell : (s : Supply) {r : Names Bound} (a v f : Ex) {m : Bool} {k : Kind} → Seen cells r a m → SetTerm cells r v k → k ≡ scalars m →
      (env : Env) → IsMet cells r (ex2 true Op2.Member a v) env → (z : Bool) → Valued z (ex2 true Op2.Member a v) env →
      member_by_cell (ex2 true Op2.Member a v) ≡ Some f → StaysAlike z (ex2 true Op2.Member a v) f env
  at-cell s {r = r} a v f {m = b} g (view {ms = ms} {es = es} {js = js} {d = d} y fit (by_occurrence l {n = n} c u p) w) e env i z h q =
      let t = seen_ex (repr ReprKind.Occurrence no_reprs) (set_dom ms es d) (n ∷ []) js in
      let x = ex2 true Op2.Member a t in
      let m = i.met in
      let th = and-left (is_some (meaning a env)) (list_all is_some (meaning t env ∷ []))
      (values-along.operands z true (binary Op2.Member) (more_exs a (more_exs t no_exs)) env refl refl h) in
      let k = kind-rules-keep.each s (bound_types r) member_at_a_cell x f q env i.holds.typed
      (told env i.holds.typed i.positions ms es d n js a b g m.0 th e (view y fit (by_occurrence l c u p) w)) m in
      record { means = k.0; met = k.1; valued = set-views-keep-values.members_by_cells x f q env z h }
  at-cell s a v f g (view y fit (as_an_atom c p) w) e env i z h q = absurd (no-yes c)
  at-cell s a v f g (view y fit (with_a_dummy c u b j p) w) e env i z h q = cc
  at-cell s a v f g (view y fit (in_slots c j p) w) e env i z h q = cc
  at-cell s a v f g (view y fit (with_a_marker c j p l) w) e env i z h q = cc
  at-cell s a v f g (view y fit (with_flags c j p l) w) e env i z h q = cc
  at-cell s a v f g (drawn p) e env i z h q = cc
  at-cell s a v f g (combined c k l) e env i z h q = cc

  -- There is none of a set of sets.
  at-no-cell : {A : Type 0} {r : Names Bound} (a v f : Ex) {j k : Kind} → SetTerm cells r v j → j ≡ sets_of k →
      member_by_cell (ex2 true Op2.Member a v) ≡ Some f → A
  at-no-cell a v f (view {d = d} y fit (by_occurrence l c u p) w) e q = atom-no-set (atom-form d u) e
  at-no-cell a v f (view y fit (as_an_atom c p) w) e q = absurd (no-yes c)
  at-no-cell a v f (view y fit (with_a_dummy c u b j p) w) e q = cc
  at-no-cell a v f (view y fit (in_slots c j p) w) e q = cc
  at-no-cell a v f (view y fit (with_a_marker c j p l) w) e q = cc
  at-no-cell a v f (view y fit (with_flags c j p l) w) e q = cc
  at-no-cell a v f (drawn p) e q = cc
  at-no-cell a v f (combined c k l) e q = cc

  pub members-by-cells : (s : Supply) {r : Names Bound} (e f : Ex) {k : Bool} → Seen cells r e k → (env : Env) → IsMet cells r e env →
      (z : Bool) → Valued z e env → kind_rewrite s (bound_types r) member_at_a_cell e ≡ Some f → StaysAlike z e f env
  members-by-cells s {r = r} (ex2 true Op2.Member a v) f h env i z w q = go (asked-of h)
    where
      go : Asked r a v → StaysAlike z (ex2 true Op2.Member a v) f env
      go (of_scalar g t) = at-cell s a v f g t refl env i z w q
      go (of_set t) = at-no-cell a v f t refl q
  members-by-cells s _ f h env i z v q = cc
