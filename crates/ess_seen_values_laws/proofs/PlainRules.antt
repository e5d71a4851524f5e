-- Rules that read no kind keep trees over views.
use Rattle.std.proofs.Common.{◌≡◌, refl, sym, ap, ◌∙◌, subst, ℕ, zero, suc, Bool, true, false, ◌&&◌, if◌then◌else◌, List, [], pos, Option, Some, None}
use Rattle.std.specs.Prelude.{IsTrue, is_some}
use Rattle.ess_semantics.specs.declared.words.Op1.{Op1}
use Rattle.ess_semantics.specs.declared.words.Op2.{Op2}
use Rattle.ess_semantics.specs.declared.words.Fun.{Fun}
use Rattle.ess_semantics.specs.Values.{Text, a_set}
use Rattle.ess_semantics.specs.Names.{Names}
use Rattle.ess_semantics.specs.Trees.{matrix_literal, name_pat, Ex, number_ex, node_ex, comp_ex, ex1, ex2, fun1, no_exs, more_exs, no_gens, from}
use Rattle.ess_semantics.specs.Types.{Ty}
use Rattle.ess_semantics.specs.Typing.{type_of}
use Rattle.ess_semantics.specs.Typed.{Typed}
use Rattle.ess_semantics.specs.Meaning.{Env, meaning}
use Rattle.ess_semantics.specs.Meets.{Meets}
use Rattle.ess_semantics.proofs.Tests.{and-both}
use Rattle.ess_flat_laws.specs.Flat.{absolute}
use Rattle.ess_seen_laws.specs.ess_bare_laws.Lean.{of_all, of_some, of_sum}
use Rattle.ess_rules_laws.specs.Rules.{IsTruth, IsNumber}
use Rattle.ess_rules_laws.specs.FoldRules.{fold_one, fold_bare, ItemFits, BareFits}
use Rattle.ess_rules_laws.specs.ChoiceRules.{choice_shorter, ChoicesFit}
use Rattle.ess_rules_laws.specs.SizeRules.{is_counted, size_term}
use Rattle.ess_rules_laws.proofs.RuleAnswers.{each-in-any}
use Rattle.ess_rules_laws.proofs.Horizontal.{size-is-sum}
use Rattle.ess_refine_laws.specs.AllRules.{Supply, size as size_rule}
use Rattle.ess_values_along_laws.specs.Valued.{Valued}
use Rattle.ess_values_along_laws.specs.ValuesAlong.{may_lack_there}
use Rattle.ess_values_along_laws.proofs.ValuesAlong.{values-along}
use Rattle.ess_values_terms_laws.specs.TermsKeepValues.{is_compound, ComparesTerms}
use Rattle.ess_values_terms_laws.proofs.ValuedForms.{and-no, by-compound, there}
use Rattle.ess_values_sources_laws.proofs.PutValues.{inner}
use Rattle.ess_seen_laws.specs.Seen.{Kind, Bound, bound_types, united, shared, lessened, SetTerm, view, drawn, combined, Seen, number, truth, named, counted, figure, flag, atom, one, two, chosen, folded, of_items, size, within, set_within, compared, last_item, item_before, at_end}
use Rattle.ess_seen_laws.proofs.Types.{seen-type}
use Rattle.ess_seen_values_laws.proofs.Marks.{IsSet, set-value, seen-mark, truth-said, number-said}

module _ (cells : Text → Option (Bool × List ℕ)) where
  -- ---- truth values are there

  -- A truth value needs its value in a natural place too.
  lacks-none : {r : Names Bound} {e : Ex} {m : Bool} → Seen cells r e m → m ≡ true → may_lack_there e ≡ false
  lacks-none number q = refl
  lacks-none truth q = refl
  lacks-none (named h k) q = refl
  lacks-none (counted c) q = cc
  lacks-none (figure h p) q = cc
  lacks-none (flag h i) q = refl
  lacks-none (atom h p) q = refl
  lacks-none (one {b = true} f g) q = refl
  lacks-none (one {b = false} f g) q = cc
  lacks-none (two {b = true} f g h) q = refl
  lacks-none (two {b = false} f g h) q = cc
  lacks-none (chosen g) q = cc
  lacks-none (folded of_all g f) q = refl
  lacks-none (folded of_some g f) q = refl
  lacks-none (folded of_sum g f) q = cc
  lacks-none (of_items of_all l) q = refl
  lacks-none (of_items of_some l) q = refl
  lacks-none (of_items of_sum l) q = cc
  lacks-none (size t) q = cc
  lacks-none (within f t) q = refl
  lacks-none (set_within f t) q = refl
  lacks-none (compared c f t) q = refl

  -- By its form a set term needs its value in a natural place too.
  pub set-compound : {r : Names Bound} {e : Ex} {k : Kind} → SetTerm cells r e k → is_compound e ≡ true
  set-compound (view n f q p) = refl
  set-compound (drawn q) = refl
  set-compound (combined united s t) = refl
  set-compound (combined shared s t) = refl
  set-compound (combined {s = a} {t = b} lessened s t) = and-both (is_compound a) (is_compound b) (set-compound s) (set-compound t)

  -- So it has values in none.
  pub set-valued : {r : Names Bound} {e : Ex} {k : Kind} (env : Env) (w : Bool) → SetTerm cells r e k → Valued w e env → Valued false e env
  set-valued {e = e} env w t v = by-compound e env w (set-compound t) v

  -- And it is there.
  pub set-there : {r : Names Bound} {e : Ex} {k : Kind} (env : Env) (w : Bool) → SetTerm cells r e k → Valued w e env →
      IsTrue (is_some (meaning e env))
  set-there {e = e} env w t v = there e env (set-valued env w t v)

  module _ {r : Names Bound} (env : Env) (ty : Typed (bound_types r) env) where
    -- So it is one.
    pub truth-there : {e : Ex} (w : Bool) → Seen cells r e true → Meets e env → Valued w e env → IsTruth (meaning e env)
    truth-there {e} w f m v = truth-said (meaning e env) (seen-mark cells r env ty f m)
        (values-along.value w e env (ap (λ b. w && b) (lacks-none f refl) ∙ and-no w) v)

    number-there : {e : Ex} → Seen cells r e false → Meets e env → Valued false e env → IsNumber (meaning e env)
    number-there {e} f m v = number-said (meaning e env) (seen-mark cells r env ty f m) (there e env v)

    -- ---- what rules count on

    pub one-fits : (e f : Ex) {m : Bool} (w : Bool) → fold_one e ≡ Some f → Seen cells r e m → Meets e env → Valued w e env → ItemFits e env
    one-fits (fun1 true Fun.And (node_ex false matrix_literal (more_exs a no_exs))) f w q (of_items x (last_item g)) n v =
        truth-there _ g n.0.0 v.1.0.1.0
    one-fits (fun1 true Fun.Or (node_ex false matrix_literal (more_exs a no_exs))) f w q (of_items x (last_item g)) n v =
        truth-there _ g n.0.0 v.1.0.1.0
    one-fits (fun1 false Fun.Sum (node_ex false matrix_literal (more_exs a no_exs))) f w q (of_items x (last_item g)) n v =
        let i = inner [] a no_gens env false w Fun.Sum (node_ex false matrix_literal (more_exs a no_exs)) v in number-there g n.0.0 i.1.0
    one-fits (fun1 true Fun.And (node_ex false matrix_literal (more_exs a no_exs))) f w q (of_items x (item_before g l)) n v = elim l [ ]
    one-fits (fun1 true Fun.Or (node_ex false matrix_literal (more_exs a no_exs))) f w q (of_items x (item_before g l)) n v = elim l [ ]
    one-fits (fun1 false Fun.Sum (node_ex false matrix_literal (more_exs a no_exs))) f w q (of_items x (item_before g l)) n v = elim l [ ]
    one-fits (fun1 true Fun.And (node_ex false matrix_literal (more_exs a no_exs))) f w q (counted c) n v = elim c [ ]
    one-fits (fun1 true Fun.Or (node_ex false matrix_literal (more_exs a no_exs))) f w q (counted c) n v = elim c [ ]
    one-fits (fun1 false Fun.Sum (node_ex false matrix_literal (more_exs a no_exs))) f w q (counted c) n v = elim c [ ]
    one-fits (fun1 false Fun.Product (node_ex false matrix_literal (more_exs a no_exs))) f w q (of_items x l) n v = elim x [ ]
    one-fits (fun1 false Fun.Product (node_ex false matrix_literal (more_exs a no_exs))) f w q (counted c) n v = elim c [ ]
    one-fits _ f w q g n v = cc

    pub bare-fits : (e f : Ex) {m : Bool} (w : Bool) → fold_bare e ≡ Some f → Seen cells r e m → Meets e env → Valued w e env →
        BareFits e env
    bare-fits (fun1 true Fun.And (comp_ex a no_gens)) f w q (folded x at_end g) n v = truth-there _ g n.0 v.1.0.1
    bare-fits (fun1 true Fun.Or (comp_ex a no_gens)) f w q (folded x at_end g) n v = truth-there _ g n.0 v.1.0.1
    bare-fits (fun1 false Fun.Sum (comp_ex a no_gens)) f w q (folded x at_end g) n v =
        let i = inner [] a no_gens env false w Fun.Sum (comp_ex a no_gens) v in number-there g n.0 i.1
    bare-fits (fun1 true Fun.And (comp_ex a no_gens)) f w q (counted c) n v = elim c [ ]
    bare-fits (fun1 true Fun.Or (comp_ex a no_gens)) f w q (counted c) n v = elim c [ ]
    bare-fits (fun1 false Fun.Sum (comp_ex a no_gens)) f w q (counted c) n v = elim c [ ]
    bare-fits (fun1 false Fun.Product (comp_ex a no_gens)) f w q (folded x l g) n v = elim x [ ]
    bare-fits (fun1 false Fun.Product (comp_ex a no_gens)) f w q (counted c) n v = elim c [ ]
    bare-fits _ f w q g n v = cc

    pub choices-fit : (e f : Ex) {m : Bool} (w : Bool) → choice_shorter e ≡ Some f → Seen cells r e m → Meets e env → Valued w e env →
        ChoicesFit e env
    choices-fit (ex2 false Op2.Times (fun1 false Fun.ToInt c) (fun1 false Fun.ToInt d)) f w q (two x (chosen g) (chosen h)) n v =
        (truth-there _ g n.0.0 v.1.0.1.0, truth-there _ h n.1.0.0 v.1.1.0.1.0)
    choices-fit (ex2 false Op2.Times (fun1 false Fun.ToInt c) (fun1 false Fun.ToInt d)) f w q (two x (chosen g) (of_items z l)) n v =
        elim z [ ]
    choices-fit (ex2 false Op2.Times (fun1 false Fun.ToInt c) (fun1 false Fun.ToInt d)) f w q (two x (chosen g) (folded z l k)) n v =
        elim z [ ]
    choices-fit (ex2 false Op2.Times (fun1 false Fun.ToInt c) (fun1 false Fun.ToInt d)) f w q (two x (chosen g) (counted z)) n v =
        elim z [ ]
    choices-fit (ex2 false Op2.Times (fun1 false Fun.ToInt c) (fun1 false Fun.ToInt d)) f w q (two x (of_items z l) h) n v = elim z [ ]
    choices-fit (ex2 false Op2.Times (fun1 false Fun.ToInt c) (fun1 false Fun.ToInt d)) f w q (two x (folded z l k) h) n v = elim z [ ]
    choices-fit (ex2 false Op2.Times (fun1 false Fun.ToInt c) (fun1 false Fun.ToInt d)) f w q (two x (counted z) h) n v = elim z [ ]
    choices-fit (ex2 false Op2.Times (fun1 false Fun.ToInt c) (fun1 false Fun.ToInt d)) f w q (counted z) n v = elim z [ ]
    choices-fit (ex2 false Op2.Times (fun1 false Fun.ToInt c) (number_ex (pos (suc zero)))) f w q (two x (chosen g) h) n v =
        truth-there _ g n.0.0 v.1.0.1.0
    choices-fit (ex2 false Op2.Times (fun1 false Fun.ToInt c) (number_ex (pos (suc zero)))) f w q (two x (of_items z l) h) n v =
        elim z [ ]
    choices-fit (ex2 false Op2.Times (fun1 false Fun.ToInt c) (number_ex (pos (suc zero)))) f w q (two x (folded z l k) h) n v =
        elim z [ ]
    choices-fit (ex2 false Op2.Times (fun1 false Fun.ToInt c) (number_ex (pos (suc zero)))) f w q (two x (counted z) h) n v =
        elim z [ ]
    choices-fit (ex2 false Op2.Times (fun1 false Fun.ToInt c) (number_ex (pos (suc zero)))) f w q (counted z) n v = elim z [ ]
    choices-fit _ f w q g n v = cc

    -- ---- sizes and membership

    -- The size as a sum.
    size-keeps : (s : Supply) (g : Names Ty) (a : Ex) (f : Ex) {k : Kind} (w : Bool) → SetTerm cells r a k → Meets a env →
        Valued w a env → size_term g s.one (ex1 false Op1.Bar a) ≡ Some f →
        (meaning (ex1 false Op1.Bar a) env ≡ meaning f env) × Meets f env
    size-keeps s g a f {k} w t m v q = go (is_counted (type_of a g)) q
      where
        sum : Ex
        sum = fun1 false Fun.Sum (comp_ex (number_ex (pos 1)) (from (name_pat s.one) a no_gens))

        set : IsSet k (meaning a env) env
        set = set-value cells r env ty t m (set-there env w t v)

        go : (c : Bool) → (if c then Some (fun1 false Fun.Sum (comp_ex (number_ex (pos 1)) (from (name_pat s.one) a no_gens))) else None)
            ≡ Some f → (meaning (ex1 false Op1.Bar a) env ≡ meaning f env) × Meets f env
        go true q = subst (λ z. (meaning (ex1 false Op1.Bar a) env ≡ meaning z env) × Meets z env)
            (let z : fun1 false Fun.Sum (comp_ex (number_ex (pos 1)) (from (name_pat s.one) a no_gens)) ≡ f = cc in z) (
              sym (size-is-sum s.one a env a_set (Some set.members) (λ us. refl) set.is_value),
              ((m, each-in-any (meaning a env) (λ z. Unit {0}) (λ z. tt)), tt),
            )
        go false q = cc

    pub sized : (s : Supply) (e f : Ex) {m : Bool} (w : Bool) → Seen cells r e m → Meets e env → Valued w e env →
        size_term (bound_types r) s.one e ≡ Some f → ((meaning e env ≡ meaning f env) × Meets f env) × ComparesTerms size_rule e
    sized s (ex1 false Op1.Bar a) f w (size t) m v q =
        (size-keeps s (bound_types r) a f _ t m.0 v.1.0 q, and-both (is_compound a) true (set-compound t) refl)
    sized s (ex1 false Op1.Bar a) f w (one absolute h) m v q = no-size
        (subst (λ o. (if is_counted o then Some (fun1 false Fun.Sum (comp_ex (number_ex (pos 1)) (from (name_pat s.one) a no_gens)))
        else None) ≡ Some f) (seen-type cells h) q)
      where
        no-size : {A : Type 0} → None ≡ Some f → A
        no-size q = cc
    sized s (ex1 false Op1.Bar a) f w (counted c) m v q = elim c [ ]
    sized s _ f w h m v q = cc
