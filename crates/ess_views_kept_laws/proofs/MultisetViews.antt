-- Sizes, frequencies and membership of views of multisets.
use Rattle.std.proofs.Common.{◌≡◌, refl, sym, ap, ◌∙◌, ℕ, Bool, true, false, not, if◌then◌else◌, List, [], ◌∷◌, ◌++◌, length, pos, Option, Some, None, option_map}
use Rattle.std.specs.Prelude.{IsTrue, is_some}
use Rattle.ess_semantics.specs.declared.words.Op1.{Op1}
use Rattle.ess_semantics.specs.declared.words.Op2.{Op2}
use Rattle.ess_semantics.specs.declared.words.Fun.{Fun}
use Rattle.ess_semantics.specs.declared.words.ReprKind.{ReprKind}
use Rattle.ess_semantics.specs.Lists.{and_then}
use Rattle.ess_semantics.specs.Values.{a_mset, Text, Value, number, truth, node, of_list}
use Rattle.ess_semantics.specs.Order.{same, same_text, below}
use Rattle.ess_semantics.specs.Collections.{holds, count}
use Rattle.ess_semantics.specs.Numbers.{not_below_0}
use Rattle.ess_semantics.specs.Trees.{unary, binary, word, Mark, repr, no_reprs, more_reprs, name_pat, Ex, Exs, number_ex, name_ex, node_ex, comp_ex, seen_ex, no_exs, more_exs, ex1, ex2, fun1, Gens, no_gens, over, cond, Dom, mset_dom}
use Rattle.ess_semantics.specs.Operators.{sum_of, list_value, value_of_node, false_where_undefined}
use Rattle.ess_semantics.specs.Tables.{code, cell_at}
use Rattle.ess_semantics.specs.Layers.{each_repeated}
use Rattle.ess_semantics.specs.Meaning.{Env, meaning, domain_of, members_in, items_under, collect, where_true}
use Rattle.ess_semantics.specs.Contexts.{EachOf}
use Rattle.ess_semantics.specs.Meets.{Meets, MeetsDom}
use Rattle.ess_semantics.specs.Kept.{Keeps}
use Rattle.ess_semantics.specs.Substitution.{NamesAreExs}
use Rattle.ess_semantics.proofs.Tests.{and-left, and-right}
use Rattle.ess_semantics.proofs.Orders.{to_list-of_list}
use Rattle.ess_rules_laws.specs.Rules.{Unused, OperandsThere}
use Rattle.ess_rules_laws.proofs.Connectives.{binary-means, any-means}
use Rattle.ess_rules_laws.proofs.ExplicitListing.{last-met}
use Rattle.ess_rules_laws.proofs.RuleAnswers.{AnswerKeeps, fires, behind, each-any, meaning-behind, meets-behind, name-behind}
use Rattle.ess_views_laws.specs.MultisetViews.{number_at, is_there, multiset_size, multiset_frequency, multiset_member}
use Rattle.ess_views_kept_laws.specs.MultisetsKept.{SizeOfCounted, FirstNumbers, LastNumbers}
use Rattle.ess_views_kept_laws.proofs.NumberedMembers.{spread, AsMany, collect-spread, as_number, number_if, there_if, sum-size, sum-count, any-holds, View, Stands, stands, number-means}
use Rattle.ess_views_kept_laws.proofs.MultisetSizes.{marker-size}

no : {A : Type 0} → false ≡ true → A
no h = cc

-- ---- comprehensions

-- The sum of what is collected.
sum-means : (env : Env) (e : Ex) (gs : Gens) (xs : List Value) →
    items_under gs env (λ here. option_map (λ v. v ∷ []) (meaning e here)) ≡ Some xs →
    meaning (fun1 false Fun.Sum (comp_ex e gs)) env ≡ Some (number (sum_of xs))
sum-means env e gs xs q = ap (λ o. value_of_node (word Fun.Sum) (option_map list_value o ∷ [])) q
    ∙ ap (λ l. Some (number (sum_of l))) (to_list-of_list xs)

where-if : (b : Bool) (z : Value) → where_true (Some (truth b)) (λ u. Some (z ∷ [])) ≡ Some (if b then z ∷ [] else [])
where-if true z = refl
where-if false z = refl

each-of-any : (o : Option (List Value)) (P : Value → Type 0) → ((v : Value) → P v) → EachOf o P
each-of-any None P f = tt
each-of-any (Some vs) P f = each-any vs P f

spread-none : (us : List Value) (ns : List ℕ) → spread (λ n v. []) us ns ≡ []
spread-none [] ns = refl
spread-none (u ∷ us) [] = refl
spread-none (u ∷ us) (n ∷ ns) = spread-none us ns

there : (o : Option Value) → is_some o ≡ true → (w : Value) × (o ≡ Some w)
there None h = no h
there (Some w) h = (w, refl)

-- ---- a number for each member

module _ (x : Text) (ms : List Mark) (es : Exs) (dd : Dom) (m : Text) (js : Exs) (env : Env)
    (new : NamesAreExs (λ a. not (same_text x a)) (λ a. true) js) (met : Meets (View ms es dd m js env) env)
    (listed : IsTrue (is_some (members_in (domain_of dd env)))) where
  abbrev V : Ex
  V = View ms es dd m js env

  s : Stands ms es dd m js env
  s = stands ms es dd m js env met listed

  -- The number of a member.
  abbrev N : Value → Option ℕ
  N v = and_then (cell_at s.t (s.i ++ (code v ∷ []))) not_below_0

  abbrev Number : Ex
  Number = number_at m js x

  abbrev There : Ex
  There = is_there m js x

  -- The number at a member, where x is it.
  abbrev Num : Value → Option (List Value)
  Num v = option_map (λ w. w ∷ []) (meaning Number (behind x v env))

  number-met : (v : Value) → Meets Number (behind x v env)
  number-met v = last-met x v js env new met.2

  dom-met : MeetsDom dd env
  dom-met = met.1.1

  occurrence-size : meaning (ex1 false Op1.Bar V) env ≡ meaning (fun1 false Fun.Sum (comp_ex Number (over (name_pat x) dd no_gens))) env
  occurrence-size = ap (λ o. value_of_node (unary Op1.Bar) (o ∷ [])) s.is_value
      ∙ ap (λ l. Some (number (pos (length l)))) (to_list-of_list (each_repeated s.ns s.us))
      ∙ sym (sum-means env Number (over (name_pat x) dd no_gens) (spread as_number s.us s.ns)
      (ap (λ o. and_then o (λ vs. collect vs Num)) s.members_are ∙ c.0) ∙ ap (λ z. Some (number z)) (sum-size s.us s.ns c.1))
    where
      c : (collect s.us Num ≡ Some (spread as_number s.us s.ns)) × AsMany s.us s.ns
      c = collect-spread N Num as_number (λ v n q. ap (option_map (λ w. w ∷ [])) (number-means ms es dd m js env x new s v n q)) s.us s.ns
          s.numbers

  size-met : Meets (fun1 false Fun.Sum (comp_ex Number (over (name_pat x) dd no_gens))) env
  size-met = ((dom-met, each-of-any (members_in (domain_of dd env)) _ (λ v. number-met v)), tt)

  -- At the members that are a.
  module _ (a : Ex) (new-a : Unused x a) where
    abbrev Is : Ex
    Is = ex2 true Op2.Eq (name_ex x) a

    is-met : Meets a env → (v : Value) → Meets Is (behind x v env)
    is-met h v = (tt, (meets-behind x v a env new-a h, tt))

    is-means : (w : Value) → meaning a env ≡ Some w → (v : Value) → meaning Is (behind x v env) ≡ Some (truth (same v w))
    is-means w q v = binary-means (behind x v env) true Op2.Eq (name_ex x) a v w (name-behind x v env)
        (meaning-behind x v a env new-a ∙ q)

    is-not : meaning a env ≡ None → (v : Value) → meaning Is (behind x v env) ≡ Some (truth false)
    is-not q v = ap (λ o. false_where_undefined true (value_of_node (binary Op2.Eq) (o ∷ meaning a (behind x v env) ∷ [])))
        (name-behind x v env)
        ∙ ap (λ o. false_where_undefined true (value_of_node (binary Op2.Eq) (Some v ∷ o ∷ []))) (meaning-behind x v a env new-a ∙ q)

    abbrev Freq : Ex
    Freq = fun1 false Fun.Sum (comp_ex Number (over (name_pat x) dd (cond Is no_gens)))

    abbrev NumIf : Value → Option (List Value)
    NumIf v = where_true (meaning Is (behind x v env)) (λ u. Num v)

    occurrence-frequency : (w : Value) → meaning a env ≡ Some w →
        meaning (node_ex false (word Fun.Freq) (more_exs V (more_exs a no_exs))) env ≡ meaning Freq env
    occurrence-frequency w q = ap (λ o. value_of_node (word Fun.Freq) (o ∷ meaning a env ∷ [])) s.is_value
        ∙ ap (λ o. value_of_node (word Fun.Freq) (Some (node a_mset (of_list (each_repeated s.ns s.us))) ∷ o ∷ [])) q
        ∙ ap (λ l. Some (number (pos (count l w)))) (to_list-of_list (each_repeated s.ns s.us))
        ∙ sym (sum-means env Number (over (name_pat x) dd (cond Is no_gens)) (spread (number_if w) s.us s.ns)
        (ap (λ o. and_then o (λ vs. collect vs NumIf)) s.members_are ∙ c.0) ∙ ap (λ z. Some (number z)) (sum-count w s.us s.ns c.1))
      where
        c : (collect s.us NumIf ≡ Some (spread (number_if w) s.us s.ns)) × AsMany s.us s.ns
        c = collect-spread N NumIf (number_if w)
            (λ v n p. ap (λ o. where_true o (λ u. Num v)) (is-means w q v)
            ∙ ap (λ o. where_true (Some (truth (same v w))) (λ u. option_map (λ w. w ∷ []) o))
            (number-means ms es dd m js env x new s v n p)
            ∙ where-if (same v w) (number (pos n))) s.us s.ns s.numbers

    frequency-met : Meets a env → Meets Freq env
    frequency-met h = ((dom-met, each-of-any (members_in (domain_of dd env)) _ (λ v. (is-met h v, λ z. number-met v))), tt)

    abbrev IsIn : Ex
    IsIn = fun1 true Fun.Or (comp_ex There (over (name_pat x) dd (cond Is no_gens)))

    abbrev ThereIf : Value → Option (List Value)
    ThereIf v = where_true (meaning Is (behind x v env)) (λ u. option_map (λ w. w ∷ []) (meaning There (behind x v env)))

    there-means : (v : Value) (n : ℕ) → meaning Number (behind x v env) ≡ Some (number (pos n)) →
        meaning There (behind x v env) ≡ Some (truth (below (number (pos 0)) (number (pos n))))
    there-means v n q = binary-means (behind x v env) true Op2.Gt Number (number_ex (pos 0)) (number (pos n)) (number (pos 0)) q refl

    occurrence-member : meaning (ex2 true Op2.Member a V) env ≡ meaning IsIn env
    occurrence-member = go (meaning a env) refl
      where
        go : (o : Option Value) → meaning a env ≡ o → meaning (ex2 true Op2.Member a V) env ≡ meaning IsIn env
        go None q = ap (λ o. false_where_undefined true (value_of_node (binary Op2.Member) (o ∷ meaning V env ∷ []))) q
            ∙ sym (any-means env There (over (name_pat x) dd (cond Is no_gens)) []
            (ap (λ o. and_then o (λ vs. collect vs ThereIf)) s.members_are ∙ c.0 ∙ ap Some (spread-none s.us s.ns)))
          where
            c : (collect s.us ThereIf ≡ Some (spread (λ n v. []) s.us s.ns)) × AsMany s.us s.ns
            c = collect-spread N ThereIf (λ n v. [])
                (λ v n p. ap (λ o. where_true o (λ u. option_map (λ w. w ∷ []) (meaning There (behind x v env)))) (is-not q v)) s.us s.ns
                s.numbers
        go (Some w) q = ap (λ o. false_where_undefined true (value_of_node (binary Op2.Member) (o ∷ meaning V env ∷ []))) q
            ∙ ap (λ o. false_where_undefined true (value_of_node (binary Op2.Member) (Some w ∷ o ∷ []))) s.is_value
            ∙ ap (λ l. Some (truth (holds l w))) (to_list-of_list (each_repeated s.ns s.us))
            ∙ ap (λ b. Some (truth b)) (sym (any-holds w s.us s.ns c.1))
            ∙ sym (any-means env There (over (name_pat x) dd (cond Is no_gens)) (spread (there_if w) s.us s.ns)
            (ap (λ o. and_then o (λ vs. collect vs ThereIf)) s.members_are ∙ c.0))
          where
            c : (collect s.us ThereIf ≡ Some (spread (there_if w) s.us s.ns)) × AsMany s.us s.ns
            c = collect-spread N ThereIf (there_if w)
                (λ v n p. ap (λ o. where_true o (λ u. option_map (λ w. w ∷ []) (meaning There (behind x v env)))) (is-means w q v)
                ∙ ap (λ o. where_true (Some (truth (same v w))) (λ u. option_map (λ w. w ∷ []) o))
                (there-means v n (number-means ms es dd m js env x new s v n p))
                ∙ where-if (same v w) (truth (below (number (pos 0)) (number (pos n))))) s.us s.ns s.numbers

    member-met : Meets a env → Meets IsIn env
    member-met h = (
      (dom-met, each-of-any (members_in (domain_of dd env)) _ (λ v. (is-met h v, λ z. (number-met v, (tt, tt))))),
      tt,
    )

-- ---- the rules

size-answer : (x : Text) (n e : Ex) (env : Env) → Unused x e → SizeOfCounted e env → AnswerKeeps (multiset_size x n e) e env
size-answer x n (ex1 false Op1.Bar (seen_ex (repr ReprKind.MSetOccurrence no_reprs) (mset_dom ms es d) (t ∷ []) js)) env o c =
    λ h. (occurrence-size x ms es d t js env o.0.1 h.0 c, size-met x ms es d t js env o.0.1 h.0 c)
size-answer x n (ex1 false Op1.Bar
    (seen_ex (repr ReprKind.MSetExplicitWithRepetition (more_reprs r no_reprs)) (mset_dom ms es d) (m ∷ ns) js))
    env o c =
    λ h. (marker-size r ms es d m ns js env h.0, h.0.2)
size-answer x n (ex1 false Op1.Bar (seen_ex (repr ReprKind.MSetExplicitWithFlags (more_reprs r no_reprs)) (mset_dom ms es d) (t ∷ ns) js))
    env o c =
    absurd c
size-answer x n _ env o c = tt

-- Sizes.
pub multiset_size-keeps : (x : Text) (n e f : Ex) → multiset_size x n e ≡ Some f → Unused x e → (env : Env) → SizeOfCounted e env →
    Keeps e f env
multiset_size-keeps x n e f q o env c = fires (multiset_size x n e) e f env (size-answer x n e env o c) q

frequency-answer : (x : Text) (n e : Ex) (env : Env) → Unused x e → OperandsThere e env → FirstNumbers e env →
    AnswerKeeps (multiset_frequency x n e) e env
frequency-answer x n (node_ex false (word Fun.Freq)
    (more_exs (seen_ex (repr ReprKind.MSetOccurrence no_reprs) (mset_dom ms es d) (t ∷ []) js) (more_exs a no_exs))) env o p c =
    λ h. let w = there (meaning a env)
    (and-left (is_some (meaning a env)) true (and-right (is_some (meaning (View ms es d t js env) env)) _ p))
    in (
      occurrence-frequency x ms es d t js env o.0.1 h.0 c a o.1.0 w.0 w.1,
      frequency-met x ms es d t js env o.0.1 h.0 c a o.1.0 h.1.0,
    )
frequency-answer x n (node_ex false (word Fun.Freq)
    (more_exs (seen_ex (repr ReprKind.MSetExplicitWithFlags (more_reprs r no_reprs)) (mset_dom ms es d) (t ∷ ns) js)
    (more_exs a no_exs))) env o p c =
    absurd c
frequency-answer x n _ env o p c = tt

-- Frequencies.
pub multiset_frequency-keeps : (x : Text) (n e f : Ex) → multiset_frequency x n e ≡ Some f → Unused x e → (env : Env) →
    OperandsThere e env → FirstNumbers e env → Keeps e f env
multiset_frequency-keeps x n e f q o env p c = fires (multiset_frequency x n e) e f env (frequency-answer x n e env o p c) q

member-answer : (x : Text) (e : Ex) (env : Env) → Unused x e → LastNumbers e env → AnswerKeeps (multiset_member x e) e env
member-answer x (ex2 true Op2.Member a (seen_ex (repr ReprKind.MSetOccurrence no_reprs) (mset_dom ms es d) (t ∷ []) js)) env o c =
    λ h. (occurrence-member x ms es d t js env o.1.0.1 h.1.0 c a o.0, member-met x ms es d t js env o.1.0.1 h.1.0 c a o.0 h.0)
member-answer x _ env o c = tt

-- Membership.
pub multiset_member-keeps : (x : Text) (e f : Ex) → multiset_member x e ≡ Some f → Unused x e → (env : Env) → LastNumbers e env →
    Keeps e f env
multiset_member-keeps x e f q o env c = fires (multiset_member x e) e f env (member-answer x e env o c) q
