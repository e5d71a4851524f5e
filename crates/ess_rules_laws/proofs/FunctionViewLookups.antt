-- The result of a function kept by argument is looked up over its arguments.
use Rattle.std.proofs.Common.{◌≡◌, refl, sym, ap, ◌∙◌, ℕ, Bool, true, false, ◌&&◌, ◌||◌, if◌then◌else◌, List, [], ◌∷◌, ◌++◌, map, ℤ, Option, Some, None, option_map}
use Rattle.ess_semantics.specs.declared.words.Op2.{Op2}
use Rattle.ess_semantics.specs.declared.words.Fun.{Fun}
use Rattle.ess_semantics.specs.Lists.{and_then}
use Rattle.ess_semantics.specs.Values.{Text, Value, truth, from_of, itself}
use Rattle.ess_semantics.specs.Order.{same, below}
use Rattle.ess_semantics.specs.Collections.{holds, value_at, rises}
use Rattle.ess_semantics.specs.Trees.{Op, binary, word, application, Repr, Ex, Exs, ex2, Dom}
use Rattle.ess_semantics.specs.Domains.{Domain}
use Rattle.ess_semantics.specs.Operators.{value_of_node, false_where_undefined}
use Rattle.ess_semantics.specs.Tables.{Tables}
use Rattle.ess_semantics.specs.FunctionLayers.{with_arguments, function_with}
use Rattle.ess_semantics.specs.Meaning.{Env, meaning, bind, with_pat, collect, where_true}
use Rattle.ess_semantics.specs.Meets.{Meets}
use Rattle.ess_semantics.specs.Substitution.{NamesAre}
use Rattle.ess_semantics.proofs.Orders.{same-equal, to_list-of_list}
use Rattle.ess_semantics.proofs.Sorting.{Distinct, sorted-of}
use Rattle.ess_semantics.proofs.Repeats.{sorted-distinct}
use Rattle.ess_rules_laws.specs.FunctionViews.{Run}
use Rattle.ess_rules_laws.specs.Lookups.{found}
use Rattle.ess_rules_laws.proofs.Simulation.{any}
use Rattle.ess_rules_laws.proofs.Agreement.{meaning-agree}
use Rattle.ess_rules_laws.proofs.MeetsSimulation.{meets-agree}
use Rattle.ess_rules_laws.proofs.Connectives.{binary-means}
use Rattle.ess_rules_laws.proofs.Lookups.{single}
use Rattle.ess_rules_laws.proofs.FunctionResults.{Keyed, Fact, Facts, Result}

-- ---- pairs in order

-- Rising by the first parts is rising of the first parts.
rises-firsts : (ps : List Value) → rises from_of ps ≡ rises itself (map from_of ps)
rises-firsts [] = refl
rises-firsts (p ∷ []) = refl
rises-firsts (p ∷ q ∷ ps) = ap (λ b. below (from_of p) (from_of q) && b) (rises-firsts (q ∷ ps))

-- ---- what applies a function

-- The operator gives the result of a function at an argument.
abbrev pub Applies : Op → Type 0
Applies op = (ys vs : List Value) (o : Option Value) → value_of_node op (Some (function_with ys vs) ∷ o ∷ []) ≡
    and_then o (value_at (with_arguments ys vs))

-- So does an application.
pub application-applies : Applies application
application-applies ys vs None = refl
application-applies ys vs (Some w) = ap (λ l. value_at l w) (to_list-of_list (with_arguments ys vs))

-- And `image`.
pub image-applies : Applies (word Fun.Image)
image-applies ys vs None = refl
image-applies ys vs (Some w) = ap (λ l. value_at l w) (to_list-of_list (with_arguments ys vs))

-- Two conditions in the other order.
pub where-swap : (b e : Bool) (x : Option (List Value)) → where_true (Some (truth b)) (λ u. where_true (Some (truth e)) (λ u. x)) ≡
    where_true (Some (truth e)) (λ u. where_true (Some (truth b)) (λ u. x))
where-swap true true x = refl
where-swap true false x = refl
where-swap false true x = refl
where-swap false false x = refl

module _ (n : Text → Bool) (u : Run) (index : Value → List ℤ) (many : ℕ) (env : Env) (ce : Dom) (js : Exs) (names : List Text) (r : Repr)
    (c : Domain) (ts : Tables) (i : List ℤ) where
  abbrev At : Value → Env
  At v = with_pat u.pattern v env

  abbrev Res : Ex
  Res = Result n u index many env ce js names r c ts i

  abbrev Known : List Value → List Value → Type 0
  Known ys vs = Facts n u index many env ce js names r c ts i ys vs

  firsts-are : (ys vs : List Value) → Known ys vs → map from_of (with_arguments ys vs) ≡ ys
  firsts-are [] [] f = refl
  firsts-are (y ∷ ys) (v ∷ vs) f = ap (λ l. y ∷ l) (firsts-are ys vs f.1)
  firsts-are [] (v ∷ vs) f = absurd f
  firsts-are (y ∷ ys) [] f = absurd f

  -- Arguments of pairs in order are different.
  pub arguments-differ : (ys vs : List Value) → Known ys vs → rises from_of (with_arguments ys vs) ≡ true → Distinct ys
  arguments-differ ys vs f h = sorted-distinct ys (sorted-of ys
      (ap (rises itself) (sym (firsts-are ys vs f)) ∙ sym (rises-firsts (with_arguments ys vs)) ∙ h))

  module _ (a : Ex) (new-a : NamesAre n any a) where
    -- That the argument is a.
    abbrev pub Equal : Ex
    Equal = ex2 true Op2.Eq u.argument a

    a-here : (v : Value) → Keyed n u index many env v → meaning a (At v) ≡ meaning a env
    a-here v k = meaning-agree env.positions env.types env.cells n a env.vals (bind u.pattern v env.vals) new-a k.agree

    equal-is : (v w : Value) → Keyed n u index many env v → meaning a env ≡ Some w → meaning Equal (At v) ≡ Some (truth (same v w))
    equal-is v w k q = binary-means (At v) true Op2.Eq u.argument a v w k.argument (a-here v k ∙ q)

    equal-nowhere : (v : Value) → Keyed n u index many env v → meaning a env ≡ None → meaning Equal (At v) ≡ Some (truth false)
    equal-nowhere v k q =
        ap (λ z. false_where_undefined true (value_of_node (binary Op2.Eq) (z ∷ meaning a (At v) ∷ []))) k.argument
        ∙ ap (λ z. false_where_undefined true (value_of_node (binary Op2.Eq) (Some v ∷ z ∷ []))) (a-here v k ∙ q)

    pub equal-met : (v : Value) → Keyed n u index many env v → Meets a env → Meets Equal (At v)
    equal-met v k m =
        (k.argument_met, (meets-agree env.positions env.types env.cells n a env.vals (bind u.pattern v env.vals) new-a k.agree m, tt))

    -- What is collected where the argument is a.
    abbrev pub Picked : Value → Option (List Value)
    Picked v = where_true (meaning Equal (At v)) (λ z. single (meaning Res (At v)))

    module _ (w : Value) (q : meaning a env ≡ Some w) where
      behind-first : (y v : Value) (ys : List Value) → Fact n u index many env ce js names r c ts i y v → (b : Bool) → same y w ≡ b →
          collect (y ∷ ys) Picked ≡ option_map (λ us. (if b then v ∷ us else us)) (collect ys Picked)
      behind-first y v ys f true e = ap (λ o. and_then o (λ xs. option_map (λ us. xs ++ us) (collect ys Picked)))
          (ap (λ o. where_true o (λ z. single (meaning Res (At y)))) (equal-is y w f.keyed q ∙ ap (λ b. Some (truth b)) e)
          ∙ ap single f.result)
      behind-first y v ys f false e = ap (λ o. and_then o (λ xs. option_map (λ us. xs ++ us) (collect ys Picked)))
          (ap (λ o. where_true o (λ z. single (meaning Res (At y)))) (equal-is y w f.keyed q ∙ ap (λ b. Some (truth b)) e))

      none-found : (ys vs : List Value) → Known ys vs → holds ys w ≡ false → collect ys Picked ≡ Some []
      none-found [] [] f h = refl
      none-found (y ∷ ys) (v ∷ vs) f h = go (same y w) refl h (λ z. none-found ys vs f.1 z)
        where
          go : (b : Bool) → same y w ≡ b → b || holds ys w ≡ false → (holds ys w ≡ false → collect ys Picked ≡ Some []) →
              collect (y ∷ ys) Picked ≡ Some []
          go true e h k = cc
          go false e h k = behind-first y v ys f.0 false e ∙ ap (option_map (λ us. us)) (k h)
      none-found [] (v ∷ vs) f h = absurd f
      none-found (y ∷ ys) [] f h = absurd f

      one-found : (ys vs : List Value) → Known ys vs → Distinct ys → collect ys Picked ≡ Some (found (value_at (with_arguments ys vs) w))
      one-found [] [] f d = refl
      one-found (y ∷ ys) (v ∷ vs) f d = go (same y w) refl (one-found ys vs f.1 d.1)
        where
          go : (b : Bool) → same y w ≡ b → collect ys Picked ≡ Some (found (value_at (with_arguments ys vs) w)) →
              collect (y ∷ ys) Picked ≡ Some (found (if b then Some v else value_at (with_arguments ys vs) w))
          go true e k = behind-first y v ys f.0 true e
              ∙ ap (option_map (λ us. v ∷ us)) (none-found ys vs f.1 (ap (holds ys) (sym (same-equal y w e)) ∙ d.0))
          go false e k = behind-first y v ys f.0 false e ∙ ap (option_map (λ us. us)) k
      one-found [] (v ∷ vs) f d = absurd f
      one-found (y ∷ ys) [] f d = absurd f

    nowhere-found : meaning a env ≡ None → (ys vs : List Value) → Known ys vs → collect ys Picked ≡ Some []
    nowhere-found q [] [] f = refl
    nowhere-found q (y ∷ ys) (v ∷ vs) f =
        ap (λ o. and_then (where_true o (λ z. single (meaning Res (At y)))) (λ xs. option_map (λ us. xs ++ us) (collect ys Picked)))
        (equal-nowhere y f.0.keyed q) ∙ ap (option_map (λ us. us)) (nowhere-found q ys vs f.1)
    nowhere-found q [] (v ∷ vs) f = absurd f
    nowhere-found q (y ∷ ys) [] f = absurd f

    -- It is the result at a, or nothing.
    pub results-found : (ys vs : List Value) → Known ys vs → rises from_of (with_arguments ys vs) ≡ true → collect ys Picked ≡
        Some (found (and_then (meaning a env) (value_at (with_arguments ys vs))))
    results-found ys vs f h = go (meaning a env) refl
      where
        go : (o : Option Value) → meaning a env ≡ o → collect ys Picked ≡ Some (found (and_then o (value_at (with_arguments ys vs))))
        go None q = nowhere-found q ys vs f
        go (Some w) q = one-found w q ys vs f (arguments-differ ys vs f h)
